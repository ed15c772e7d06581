-- Lines that say the same have faults that say the same; so a program with a fault isn't accepted.
use Rattle.std.proofs.Common.{◌≡◌, Bool, true, false, cond, List, [], ◌∷◌, refl, subst}
use Rattle.xd_syntax.specs.CheckFaults.{Line, is_warning, faults_among, AreLines, IsAccepted}
use Rattle.xd_syntax.specs.Program.{ProgramTree}
use Rattle.xd_meaning.specs.KeptFaults.{AllPaired}
use Rattle.xd_laws.specs.SameLines.{IsSameLine}
use Rattle.xd_laws.proofs.OneLines.{lines_are_one}

abbrev pub Same : List Line → List Line → Type 0
Same ls ms = AllPaired IsSameLine ls ms

chosen_same : (b : Bool) (l m : Line) (ls ms : List Line) → IsSameLine l m → Same ls ms → Same (cond b ls (l ∷ ls)) (cond b ms (m ∷ ms))
chosen_same true l m ls ms s r = r
chosen_same false l m ls ms s r = (s, r)

pub faults_same : (ls ms : List Line) → Same ls ms → Same (faults_among ls) (faults_among ms)
faults_same [] [] s = tt
faults_same [] (m ∷ ms) s = absurd s
faults_same (l ∷ ls) [] s = absurd s
faults_same (l ∷ ls) (m ∷ ms) s =
    subst (λ k. Same (faults_among (l ∷ ls)) (cond (is_warning k) (faults_among ms) (m ∷ faults_among ms))) (s.0).kind
    (chosen_same (is_warning l.kind) l m (faults_among ls) (faults_among ms) s.0 (faults_same ls ms s.1))

same_none : (ls ms : List Line) → Same ls ms → ms ≡ [] → ls ≡ []
same_none [] ms s e = refl
same_none (l ∷ ls) [] s e = absurd s
same_none (l ∷ ls) (m ∷ ms) s e = absurd (cc)

pub not_accepted : (P : ProgramTree) (ls : List Line) → AreLines P ls → (faults_among ls ≡ [] → ⊥) → IsAccepted P → ⊥
not_accepted P ls all some a = some (same_none (faults_among ls) (faults_among a.0) (faults_same ls a.0 (lines_are_one P ls a.0 all a.1)) a.2)
