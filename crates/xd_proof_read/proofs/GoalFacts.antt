-- First bad lines, and lists of goals that are under way.
use Rattle.std.proofs.Common.{Bor, Vec, Global, ◌≡◌, ◌⊎◌, ℕ, suc, ◌+◌, ◌-◌, ◌^◌, ◌<◌, ◌≤◌, arith, List, [], ◌∷◌, ◌++◌, map, length, length-append, get_or, take, drop, append_assoc, Option, Some, None, refl, ap, sym, subst, ◌∙◌, inl, inr}
use Rattle.std.specs.List.{AllByRecursion}
use Rattle.std.proofs.lemmas.List.{take-append-drop, take_more, take_all, length-take-le, get_or-map}
use Rattle.std.proofs.lemmas.Slice.Zip.{AllZip-long}
use Rattle.std.proofs.Math.Seq.{take-append-add}
use Rattle.xd_syntax.specs.Tree.{Tree}
use Rattle.xd_syntax.specs.Table.{Row}
use Rattle.xd_syntax.specs.Kept.{ProgramTable}
use Rattle.xd_syntax.specs.SoundTables.{IsTypeAt}
use Rattle.xd_proof.specs.Parts.{ProofLine, SpellsPart, SpellParts}
use Rattle.xd_proof.specs.Form.{GoalBlock, block_length, goal_list, goals_from}
use Rattle.xd_proof.specs.Course.{Course, at_count, at_end, next, and_on, along}
use Rattle.xd_proof.proofs.CourseLemmas.{along_joined, course_reads, list_follows}
use Rattle.xd_proof.proofs.BeginLemmas.{spell_joined, front_course, course_list}
use Rattle.xd_proof.proofs.Unique.{parts_one}
use Rattle.xd_proof.specs.Cases.{IsCase}
use Rattle.xd_proof.specs.declared.proof.ProofGoal.{ProofGoal}
use Rattle.xd_proof.specs.Goals.{AreGoalsAt}
use Rattle.xd_proof.specs.LinesFit.{LinesFit}
use Rattle.xd_proof_read.specs.declared.naming.Naming.{Naming}
use Rattle.xd_proof_read.specs.declared.stages.Stage.{Stage}
use Rattle.xd_proof_read.specs.declared.stages.Stage.TheVariants as stages
use Rattle.xd_proof_read.specs.Naming.{SpellsTypeOf, Names, NamingStands, GrowsTypes}
use Rattle.xd_proof_read.specs.Stages.{IsStage, IsLineTaken, lines_of, passed}
use Rattle.xd_proof_read.specs.BadLines.{GoalLines, CanGoOn, IsFirstBad, IsBehind}
use Rattle.xd_proof_read.proofs.NamingFacts.{CanName, spelled_kept, names_kept}
use Rattle.xd_proof_read.proofs.StageFacts.{one_passed, of_goals, length-made}

-- ---- texts of any kind
module _ (L : List (List ℕ) → Type 0) where
  whole_goes_on : (lines : List (List ℕ)) (n : ℕ) → L lines → CanGoOn L (take n lines)
  whole_goes_on lines n w = (drop n lines, subst L (sym (take-append-drop n lines)) w)

  pub front_goes_on : (xs ys : List (List ℕ)) → CanGoOn L (xs ++ ys) → CanGoOn L xs
  front_goes_on xs ys (more, w) = (ys ++ more, subst L (append_assoc xs ys more) w)

  pub bad_here : (lines : List (List ℕ)) (n : ℕ) → 0 < n → n ≤ length lines → CanGoOn L (take (n - 1) lines) → (CanGoOn L (take n lines) → ⊥) → IsFirstBad L lines n
  bad_here lines n p h before never =
      record { unread = λ w. never (whole_goes_on lines n w); number = (p, omega (arith, h)); before = before; here = inr never }

  pub bad_end : (lines : List (List ℕ)) (n : ℕ) → n ≡ length lines + 1 → (L lines → ⊥) → CanGoOn L lines → IsFirstBad L lines n
  bad_end lines n e never w = record {
    unread = never;
    number = (omega (arith, e), omega (arith, e));
    before = subst (CanGoOn L) (sym (take_all (n - 1) lines (omega (arith, e)))) w;
    here = inl e;
  }

-- what stands after some lines decides, also about them and it
pub record Behind (L M : List (List ℕ) → Type 0) (front : List (List ℕ)) : Type 0 where
  pub on : (ls : List (List ℕ)) → CanGoOn M ls → CanGoOn L (front ++ ls)
  pub back : (ls : List (List ℕ)) → CanGoOn L (front ++ ls) → CanGoOn M ls
  pub whole : (ls : List (List ℕ)) → L (front ++ ls) → M ls

pub bad_behind : (L M : List (List ℕ) → Type 0) (front ls : List (List ℕ)) (k n : ℕ) → Behind L M front → n ≡ length front + k → IsFirstBad M ls k → IsFirstBad L (front ++ ls) n
bad_behind L M front ls k n b e f =
    let p = (f.number).0 in
    let q = (f.number).1 in
    let l = length-append front ls in
    record {
      unread = λ w. f.unread (b.whole ls w);
      number = (omega (arith, e, p), omega (arith, e, q, l));
      before =
          (let g : n - 1 ≡ length front + (k - 1) = omega (arith, e, p) in
          subst (CanGoOn L) (sym (ap (λ m. take m (front ++ ls)) g ∙ take-append-add front ls (k - 1))) (b.on (take (k - 1) ls) f.before));
      here = go f.here;
    }
  where
    go : (k ≡ length ls + 1) ⊎ (CanGoOn M (take k ls) → ⊥) → (n ≡ length (front ++ ls) + 1) ⊎ (CanGoOn L (take n (front ++ ls)) → ⊥)
    go (inl h) = let l = length-append front ls in inl (omega (arith, e, h, l))
    go (inr never) = inr (λ w. never (b.back (take k ls) (subst (CanGoOn L) (ap (λ m. take m (front ++ ls)) e ∙ take-append-add front ls k) w)))

-- ---- lists of goals
module _ {A : Type 0} (R : List ℕ → Tree → Type 0) (S : List ℕ → A → Type 0) where
  -- what the last line spells
  pub spell_last : (ls : List (List ℕ)) (line : List ℕ) (ps : List (ProofLine A)) → SpellParts R S (ls ++ line ∷ []) ps →
      (front : List (ProofLine A)) × (p : ProofLine A) × SpellParts R S ls front × SpellsPart R S line p × (ps ≡ front ++ p ∷ [])
  spell_last [] line [] s = absurd s
  spell_last [] line (p ∷ []) s = ([], p, tt, s.0, refl)
  spell_last [] line (p ∷ (q ∷ ps)) s = absurd s.1
  spell_last (l ∷ ls) line [] s = absurd s
  spell_last (l ∷ ls) line (p ∷ ps) s = let r = spell_last ls line ps s.1 in (p ∷ r.0, r.1, (s.0, r.2), r.3, ap (λ x. p ∷ x) r.4)

along_more : (ps : List (ProofLine Tree)) (c : Course Tree) (p : ProofLine Tree) → along (Some at_count) ps ≡ Some c → along (Some at_count) (ps ++ p ∷ []) ≡ next c p
along_more ps c p e = along_joined (Some at_count) ps (p ∷ []) ∙ ap (λ o. and_on (λ d. next d p) o) e

module _ (R S : List ℕ → Tree → Type 0) (can : CanName R S) where
  goals_go_on : (ls : List (List ℕ)) (ps : List (ProofLine Tree)) (c : Course Tree) → SpellParts R S ls ps → along (Some at_count) ps ≡ Some c → CanGoOn (GoalLines R S) ls
  goals_go_on ls ps c s e = let r = course_list R S can.bytes can.there can.reads ls ps c s e in (r.0, (r.1, r.2))

  goals_stop : (ls : List (List ℕ)) (ps : List (ProofLine Tree)) (c : Course Tree) (line : List ℕ) → SpellParts R S ls ps → along (Some at_count) ps ≡ Some c →
      ((p : ProofLine Tree) (d : Course Tree) → SpellsPart R S line p → next c p ≡ Some d → ⊥) → CanGoOn (GoalLines R S) (ls ++ line ∷ []) → ⊥
  goals_stop ls ps c line s e never w =
      let f = front_course R S (ls ++ line ∷ []) w.0 (w.1).0 (w.1).1 in
      let h = spell_last R S ls line f.0 f.2 in
      let same : h.0 ≡ ps = parts_one R S can.types_one can.one ls h.0 ps h.2 s in
      let g : along (Some at_count) (ps ++ h.1 ∷ []) ≡ Some f.1 = ap (λ l. along (Some at_count) (l ++ h.1 ∷ [])) (sym same) ∙ ap (λ l. along (Some at_count) l) (sym h.4) ∙ f.3 in
      never h.1 f.1 h.3 (sym (along_more ps c h.1 e) ∙ g)

  -- nothing has been read yet
  pub none_go_on : CanGoOn (GoalLines R S) []
  none_go_on = goals_go_on [] [] at_count tt refl

-- what was read of these lines has come to this stage
pub record IsUnderWay (R S : List ℕ → Tree → Type 0) (types : List Row) (first : ℕ) (lines : List (List ℕ)) (stage : Stage) : Type 0 where
  pub parts : List (ProofLine Tree)
  pub course : Course Tree
  pub spelled : SpellParts R S lines parts
  pub follows : along (Some at_count) parts ≡ Some course
  pub reached : IsStage types first stage course
  pub passed_all : passed course ≡ length lines

pub way_begins : (R S : List ℕ → Tree → Type 0) (types : List Row) (first : ℕ) → IsUnderWay R S types first [] stages.AtCount
way_begins R S types first = record { parts = []; course = at_count; spelled = tt; follows = refl; reached = tt; passed_all = refl }

-- what a line says to the program as it has become, it said to the program as it was
module _ (p q : ProgramTable) (naming : Naming) (stands : NamingStands p.types naming) (g : GrowsTypes p q) where
  part_back : (line : List ℕ) (x : ProofLine Tree) → SpellsPart (SpellsTypeOf q) (Names q naming) line x → SpellsPart (SpellsTypeOf p) (Names p naming) line x
  part_back line x s =
      subst (λ S. SpellsPart (SpellsTypeOf p) S line x) (names_kept p q naming stands g) (subst (λ R. SpellsPart R (Names q naming) line x) (spelled_kept p q g) s)

  part_on : (line : List ℕ) (x : ProofLine Tree) → SpellsPart (SpellsTypeOf p) (Names p naming) line x → SpellsPart (SpellsTypeOf q) (Names q naming) line x
  part_on line x s =
      subst (λ S. SpellsPart (SpellsTypeOf q) S line x) (sym (names_kept p q naming stands g)) (subst (λ R. SpellsPart R (Names p naming) line x) (sym (spelled_kept p q g)) s)

  number_is : (before number i : ℕ) (w : ℕ) → number ≡ before + i → w ≡ i → number + 1 + 1 ≡ before + 2 + w
  number_is before number i w e f = omega (arith, e, f)

  pub way_on : (new : List Row) (before number : ℕ) (lines : List (List ℕ)) (line : List ℕ) (stage s : Stage) → IsUnderWay (SpellsTypeOf p) (Names p naming) q.types (before + 2) lines stage → number ≡ before + length lines →
      IsLineTaken q naming line stage (number + 1) new (Some s) → IsUnderWay (SpellsTypeOf p) (Names p naming) new (before + 2) (lines ++ line ∷ []) s
  way_on new before number lines line stage s w e t =
      let r = t (before + 2) w.course w.reached (number_is before number (length lines) (passed w.course) e w.passed_all) in
      let to = r.1 in
      record {
        parts = w.parts ++ to.part ∷ [];
        course = r.0;
        spelled = spell_joined (SpellsTypeOf p) (Names p naming) lines (line ∷ []) w.parts (to.part ∷ []) w.spelled (part_back line to.part (to.says).spelled, tt);
        follows = along_more w.parts w.course to.part w.follows ∙ to.goes;
        reached = r.2;
        passed_all = (let h = one_passed w.course to.part r.0 to.goes in let k = w.passed_all in let l = length-append lines (line ∷ []) in omega (arith, h, k, l));
      }

  pub way_stops : (can : CanName (SpellsTypeOf p) (Names p naming)) (new : List Row) (before number : ℕ) (lines : List (List ℕ)) (line : List ℕ) (stage : Stage) → IsUnderWay (SpellsTypeOf p) (Names p naming) q.types (before + 2) lines stage →
      number ≡ before + length lines → IsLineTaken q naming line stage (number + 1) new None → CanGoOn (GoalLines (SpellsTypeOf p) (Names p naming)) (lines ++ line ∷ []) → ⊥
  way_stops can new before number lines line stage w e t =
      let r = t (before + 2) w.course w.reached (number_is before number (length lines) (passed w.course) e w.passed_all) in
      goals_stop (SpellsTypeOf p) (Names p naming) can lines w.parts w.course line w.spelled w.follows
      (λ x d s n. r d (record { part = x; says = record { spelled = part_on line x s; of_goals = of_goals w.course x d n }; goes = n }))

-- the lines of goals have numbers, where those of the text have
goals_fit : (types : List Row) (first : ℕ) (made : List ProofGoal) (bs : List (GoalBlock Tree)) → AreGoalsAt types made (goals_from first bs) → first + lines_of bs + 1 < 2 ^ 64 → AllByRecursion LinesFit made
goals_fit types first [] [] a h = tt
goals_fit types first [] (b ∷ bs) a h = absurd a
goals_fit types first (g ∷ gs) [] a h = absurd a
goals_fit types first (g ∷ gs) (b ∷ bs) a h =
    let l = (a.0).line in
    let r = AllZip-long (λ id T. IsTypeAt types T id) g.rights.items b.rights ((a.0).goal).rights in
    let c = AllZip-long IsCase g.cases.items b.cases ((a.0).goal).cases in
    (record { fits = omega (arith, l, r, c, h) }, goals_fit types (first + block_length b) gs bs a.1 (omega (arith, h)))

-- ---- the walk ends
module _ (R S : List ℕ → Tree → Type 0) (can : CanName R S) where
  pub way_goes_on : (types : List Row) (first : ℕ) (lines : List (List ℕ)) (stage : Stage) → IsUnderWay R S types first lines stage → CanGoOn (GoalLines R S) lines
  way_goes_on types first lines stage w = goals_go_on R S can lines w.parts w.course w.spelled w.follows

  only_end : (types : List Row) (first : ℕ) (stage : Stage) (bs : List (GoalBlock Tree)) → IsStage types first stage (at_end bs) → (made : Vec ProofGoal Global) × (stage ≡ stages.AtEnd made)
  only_end types first (stages.AtEnd made) bs i = (made, refl)
  only_end types first _ bs i = absurd i

  count_some : (ls : List (List ℕ)) (bs : List (GoalBlock Tree)) → SpellParts R S ls (goal_list bs) → 0 < length bs
  count_some [] bs s = absurd s
  count_some (l ∷ ls) bs s = (((s.0).reads).number).least

  pub way_short : (types : List Row) (first : ℕ) (lines : List (List ℕ)) (stage : Stage) → IsUnderWay R S types first lines stage → ((made : Vec ProofGoal Global) → stage ≡ stages.AtEnd made → ⊥) → GoalLines R S lines → ⊥
  way_short types first lines stage w never (bs, s) =
      let same : w.parts ≡ goal_list bs = parts_one R S can.types_one can.one lines w.parts (goal_list bs) w.spelled s in
      let e : Some w.course ≡ Some (at_end bs) = sym w.follows ∙ ap (λ l. along (Some at_count) l) same ∙ list_follows bs (count_some lines bs s) in
      let f : w.course ≡ at_end bs = cc in
      let r = only_end types first stage bs (subst (λ c. IsStage types first stage c) f w.reached) in
      never r.0 r.1

  pub record IsListRead (types : List Row) (first : ℕ) (lines : List (List ℕ)) (made : List ProofGoal) : Type 0 where
    pub blocks : List (GoalBlock Tree)
    pub spelled : SpellParts R S lines (goal_list blocks)
    pub goals : AreGoalsAt types made (goals_from first blocks)
    pub some : 0 < length made
    pub fit : first + length lines ≤ 2 ^ 64 → AllByRecursion LinesFit made

  pub way_ends : (types : List Row) (first : ℕ) (lines : List (List ℕ)) (made : Vec ProofGoal Global) → IsUnderWay R S types first lines (stages.AtEnd made) → IsListRead types first lines made.items
  way_ends types first lines made w = go w.course w.follows w.reached w.passed_all
    where
      go : (c : Course Tree) → along (Some at_count) w.parts ≡ Some c → IsStage types first (stages.AtEnd made) c → passed c ≡ length lines → IsListRead types first lines made.items
      go (at_end bs) e i n =
          let r = (course_reads w.parts bs).0 e in
          record {
            blocks = bs;
            spelled = subst (SpellParts R S lines) r.0 w.spelled;
            goals = i;
            some = (let l = length-made types made.items first bs i in let h = r.1 in omega (arith, l, h));
            fit = λ h. goals_fit types first made.items bs i (omega (arith, n, h));
          }
      go _ e i n = absurd i

-- ---- lines of a slice
pub one_more_line : (lines : List (List ℕ)) (i : ℕ) (line : List ℕ) → i < length lines → line ≡ get_or lines i [] → take (i + 1) lines ≡ take i lines ++ line ∷ []
one_more_line lines i line h e = take_more lines i [] h ∙ ap (λ l. take i lines ++ l ∷ []) (sym e)

abbrev pub texts : List (Bor (List ℕ)) → List (List ℕ)
texts xs = map (λ (x : Bor (List ℕ)). x.now) xs

pub length-texts : (xs : List (Bor (List ℕ))) → length (texts xs) ≡ length xs
length-texts [] = refl
length-texts (x ∷ xs) = ap suc (length-texts xs)

pub text_at : (xs : List (Bor (List ℕ))) (i : ℕ) (d : Bor (List ℕ)) → i < length xs → (get_or xs i d).now ≡ get_or (texts xs) i []
text_at xs i d h = sym (get_or-map (λ (x : Bor (List ℕ)). x.now) xs i d [] h)

pub stopped : (L : List (List ℕ) → Type 0) (lines : List (List ℕ)) (i n : ℕ) (line : List ℕ) → i < length lines → n ≡ i + 1 → line ≡ get_or lines i [] → CanGoOn L (take i lines) → (CanGoOn L (take i lines ++ line ∷ []) → ⊥) → IsFirstBad L lines n
stopped L lines i n line h e f before never =
    let z : i ≡ n - 1 = omega (arith, e) in
    bad_here L lines n (omega (arith, e)) (omega (arith, e, h)) (subst (λ m. CanGoOn L (take m lines)) z before)
    (λ w. never (subst (CanGoOn L) (ap (λ m. take m lines) e ∙ one_more_line lines i line h f) w))

module _ (p q : ProgramTable) (naming : Naming) (stands : NamingStands p.types naming) (g : GrowsTypes p q) (before number i : ℕ) (xs : List (Bor (List ℕ))) (d : Bor (List ℕ)) (stage : Stage)
    (h : i < length xs) (e : number ≡ before + i) (w : IsUnderWay (SpellsTypeOf p) (Names p naming) q.types (before + 2) (take i (texts xs)) stage) where
  inside : i < length (texts xs)
  inside = let l = length-texts xs in omega (arith, l, h)

  at_number : number ≡ before + length (take i (texts xs))
  at_number = let a = inside in let k = length-take-le i (texts xs) (omega (arith, a)) in omega (arith, e, k)

  pub loop_on : (new : List Row) (o : Option Stage) (s : Stage) → IsLineTaken q naming (get_or xs i d).now stage (number + 1) new o → o ≡ Some s → IsUnderWay (SpellsTypeOf p) (Names p naming) new (before + 2) (take (i + 1) (texts xs)) s
  loop_on new o s t f =
      subst (λ ls. IsUnderWay (SpellsTypeOf p) (Names p naming) new (before + 2) ls s) (sym (one_more_line (texts xs) i (get_or xs i d).now inside (text_at xs i d h)))
      (way_on p q naming stands g new before number (take i (texts xs)) (get_or xs i d).now stage s w at_number (subst (IsLineTaken q naming (get_or xs i d).now stage (number + 1) new) f t))

  pub loop_stops : (can : CanName (SpellsTypeOf p) (Names p naming)) (new : List Row) (o : Option Stage) → IsLineTaken q naming (get_or xs i d).now stage (number + 1) new o → o ≡ None → IsBehind before (IsFirstBad (GoalLines (SpellsTypeOf p) (Names p naming)) (texts xs)) (number + 1)
  loop_stops can new o t f = (
    i + 1,
    omega (arith, e),
    stopped (GoalLines (SpellsTypeOf p) (Names p naming)) (texts xs) i (i + 1) (get_or xs i d).now inside refl (text_at xs i d h)
        (way_goes_on (SpellsTypeOf p) (Names p naming) can q.types (before + 2) (take i (texts xs)) stage w)
        (way_stops p q naming stands g can new before number (take i (texts xs)) (get_or xs i d).now stage w at_number (subst (IsLineTaken q naming (get_or xs i d).now stage (number + 1) new) f t)),
  )

module _ (R S : List ℕ → Tree → Type 0) (can : CanName R S) (types : List Row) (before number i : ℕ) (xs : List (Bor (List ℕ))) (stage : Stage) (h : length xs ≤ i) (k : i ≤ length xs) (e : number ≡ before + i)
    (w : IsUnderWay R S types (before + 2) (take i (texts xs)) stage) where
  all_read : IsUnderWay R S types (before + 2) (texts xs) stage
  all_read = let l = length-texts xs in subst (λ ls. IsUnderWay R S types (before + 2) ls stage) (take_all i (texts xs) (omega (arith, l, h))) w

  pub loop_short : ((made : Vec ProofGoal Global) → stage ≡ stages.AtEnd made → ⊥) → IsBehind before (IsFirstBad (GoalLines R S) (texts xs)) (number + 1)
  loop_short never = (
    i + 1,
    omega (arith, e),
    bad_end (GoalLines R S) (texts xs) (i + 1) (let l = length-texts xs in omega (arith, l, h, k)) (way_short R S can types (before + 2) (texts xs) stage all_read never) (way_goes_on R S can types (before + 2) (texts xs) stage all_read),
  )

  pub loop_ends : (made : Vec ProofGoal Global) → stage ≡ stages.AtEnd made → IsListRead R S can types (before + 2) (texts xs) made.items
  loop_ends made f = way_ends R S can types (before + 2) (texts xs) made (subst (IsUnderWay R S types (before + 2) (texts xs)) f all_read)
