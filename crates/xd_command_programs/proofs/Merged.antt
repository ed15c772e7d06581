-- Faults and warnings that are written one after the other as they come next are the lines of the
-- report.
use Rattle.std.proofs.Common.{◌≡◌, ℕ, Bool, true, false, cond, ◌&&◌, ◌||◌, nat_lt, nat_eq, List, [], ◌∷◌, ◌++◌, Some, codes, decimal, refl, ap, sym, subst, ◌∙◌, append_assoc, arith}
use Rattle.std.proofs.lemmas.Bool.Decides.{nat_tests}
use Rattle.xd_doc.specs.Document.{Document}
use Rattle.xd_doc.specs.Stored.{document_at}
use Rattle.xd_doc.specs.declared.store.Seq.{Seq}
use Rattle.xd_syntax.specs.Order.{is_earlier, is_same_place, number_of}
use Rattle.xd_syntax.specs.CheckFaults.{Line, LineKind, not_exhaustive, wrong_argument, wrong_result, dead_clause, rank, line_precedes, is_warning, faults_among}
use Rattle.xd_syntax.specs.declared.fault.Fault.{Fault}
use Rattle.xd_syntax.specs.declared.fault.FaultKind.{FaultKind}
use Rattle.xd_syntax.specs.declared.fault.Warning.{Warning}
use Rattle.xd_syntax.proofs.OrderedLemmas.{IsLeast, IsUp}
use Rattle.xd_meaning.specs.KeptFaults.{AllPaired, warnings_among}
use Rattle.xd_meaning.specs.KeptLines.{kind_with, IsFaultOf, IsWarningOf}
use Rattle.xd_report.specs.Report.{fault_front, fault_text, kind_text, place_front}
use Rattle.xd_report.specs.WarningText.{warning_text}
use Rattle.xd_command_programs.specs.Report.{line_text, lines_text, said}
use Rattle.xd_command_steps.specs.Merging.{IsMerged, no_more, a_fault, a_warning, stands_behind, is_placed_behind}

pub is_dead : (k : LineKind) → is_warning k ≡ true → k ≡ dead_clause
is_dead dead_clause e = refl
is_dead not_exhaustive e = absurd (cc)
is_dead wrong_argument e = absurd (cc)
is_dead wrong_result e = absurd (cc)

lower_rank : (k : LineKind) → is_warning k ≡ false → nat_lt (rank k) 3 ≡ true
lower_rank dead_clause e = absurd (cc)
lower_rank not_exhaustive e = refl
lower_rank wrong_argument e = refl
lower_rank wrong_result e = refl

-- an earlier line comes first
earlier_precedes : (l m : Line) → is_earlier l.place m.place ≡ true → line_precedes l m ≡ true
earlier_precedes l m e = rw e refl

-- a line of a smaller number that doesn't come before a later one stands at a later place
behind_numbers : (a b c d : ℕ) → ((nat_lt a c || (nat_eq a c && nat_lt b d)) || ((nat_eq a c && nat_eq b d) && true)) ≡ false → (nat_lt c a || (nat_eq c a && nat_lt d b)) ≡ true
behind_numbers a b c d e = grind (arith, nat_tests, e)

fault_behind : (m l : Line) → is_warning m.kind ≡ false → l.kind ≡ dead_clause → line_precedes m l ≡ false → is_earlier l.place m.place ≡ true
fault_behind m l w d e =
    let r : nat_lt (rank m.kind) (rank l.kind) ≡ true = subst (λ k. nat_lt (rank m.kind) (rank k) ≡ true) (sym d) (lower_rank m.kind w) in
    behind_numbers m.place.line m.place.column l.place.line l.place.column (subst (λ b. (is_earlier m.place l.place || (is_same_place m.place l.place && b)) ≡ false) r e)

-- what is least before all lines is so before the first fault and the first warning among them
least_fault : (l m : Line) (ls ms : List Line) → IsLeast line_precedes l ls → faults_among ls ≡ m ∷ ms → (line_precedes m l ≡ false) × (is_warning m.kind ≡ false)
least_fault l m [] ms u e = absurd (cc)
least_fault l m (k ∷ ks) ms u e = by (is_warning k.kind) refl e (λ f. least_fault l m ks ms u.1 f)
  where
    by : (b : Bool) → is_warning k.kind ≡ b → cond b (faults_among ks) (k ∷ faults_among ks) ≡ m ∷ ms → (faults_among ks ≡ m ∷ ms → (line_precedes m l ≡ false) × (is_warning m.kind ≡ false))
        → (line_precedes m l ≡ false) × (is_warning m.kind ≡ false)
    by true w f r = r f
    by false w f r = let s : k ≡ m = cc in subst (λ n. (line_precedes n l ≡ false) × (is_warning n.kind ≡ false)) s (u.0, w)

least_warning : (l m : Line) (ls ms : List Line) → IsLeast line_precedes l ls → warnings_among ls ≡ m ∷ ms → line_precedes m l ≡ false
least_warning l m [] ms u e = absurd (cc)
least_warning l m (k ∷ ks) ms u e = by (is_warning k.kind) e (λ f. least_warning l m ks ms u.1 f)
  where
    by : (b : Bool) → cond b (k ∷ warnings_among ks) (warnings_among ks) ≡ m ∷ ms → (warnings_among ks ≡ m ∷ ms → line_precedes m l ≡ false) → line_precedes m l ≡ false
    by true f r = let s : k ≡ m = cc in subst (λ n. line_precedes n l ≡ false) s u.0
    by false f r = r f

-- no fault before a warning that stands in front of it, and no warning before a fault that doesn't
-- stand after it
not_warning : (ds : List Document) (l : Line) (ls : List Line) (f : Fault) (w : Warning) (ws : List Warning) → IsLeast line_precedes l ls → IsFaultOf ds l f →
    AllPaired IsWarningOf (warnings_among ls) (w ∷ ws) → stands_behind f w ≡ true → ⊥
not_warning ds l ls f w ws u h a b = by (warnings_among ls) refl a
  where
    by : (ms : List Line) → warnings_among ls ≡ ms → AllPaired IsWarningOf ms (w ∷ ws) → ⊥
    by [] e p = p
    by (m ∷ ms) e p =
        let q : is_placed_behind w.place (Some l.place) ≡ true = subst (λ o. is_placed_behind w.place o ≡ true) h.placed b in
        let r : is_earlier m.place l.place ≡ true = subst (λ x. is_earlier x l.place ≡ true) p.0 q in
        let s = earlier_precedes m l r in
        let t = least_warning l m ls ms u e in
        absurd (cc)

not_fault : (ds : List Document) (l : Line) (ls : List Line) (w : Warning) (f : Fault) (fs : List Fault) → IsLeast line_precedes l ls → l.kind ≡ dead_clause → IsWarningOf l w →
    AllPaired (IsFaultOf ds) (faults_among ls) (f ∷ fs) → stands_behind f w ≡ false → ⊥
not_fault ds l ls w f fs u d h a b = by (faults_among ls) refl a
  where
    by : (ms : List Line) → faults_among ls ≡ ms → AllPaired (IsFaultOf ds) ms (f ∷ fs) → ⊥
    by [] e p = p
    by (m ∷ ms) e p =
        let t = least_fault l m ls ms u e in
        let r = fault_behind m l t.1 d t.0 in
        let q : is_placed_behind w.place (Some m.place) ≡ false = subst (λ o. is_placed_behind w.place o ≡ false) (p.0).placed b in
        let s : is_earlier l.place m.place ≡ false = subst (λ x. is_earlier x m.place ≡ false) h q in
        absurd (cc)

-- what the program writes of a fault or a warning is the text of the line that it keeps
abbrev fault_words : List Document → FaultKind → List ℕ
fault_words ds f = codes "fault " ++ decimal (number_of f) ++ codes ": " ++ kind_text ds f ++ codes "\n"

words_said : (ds : List Document) (k : LineKind) (s : Seq) (f : FaultKind) → kind_with k s f → fault_words ds f ≡ said k (Some (document_at ds s))
words_said ds not_exhaustive s f h = subst (λ g. fault_words ds g ≡ said not_exhaustive (Some (document_at ds s))) (sym h) refl
words_said ds wrong_argument s f h = subst (λ g. fault_words ds g ≡ said wrong_argument (Some (document_at ds s))) (sym h) refl
words_said ds wrong_result s f h = subst (λ g. fault_words ds g ≡ said wrong_result (Some (document_at ds s))) (sym h) refl
words_said ds dead_clause s f h = absurd h

-- what stands in front of five parts, put together one by one, stands in front of all
behind_front : (a b c d e f : List ℕ) → a ++ b ++ c ++ d ++ e ++ f ≡ a ++ (b ++ c ++ d ++ e ++ f)
behind_front a b c d e f =
    ap (λ z. z ++ d ++ e ++ f) (append_assoc a b c)
    ∙ ap (λ z. z ++ e ++ f) (append_assoc a (b ++ c) d)
    ∙ ap (λ z. z ++ f) (append_assoc a (b ++ c ++ d) e)
    ∙ append_assoc a (b ++ c ++ d ++ e) f

fault_line : (ds : List Document) (l : Line) (f : Fault) → IsFaultOf ds l f → fault_text ds f ≡ line_text l
fault_line ds l f h =
    behind_front (fault_front f.place) (codes "fault ") (decimal (number_of f.kind)) (codes ": ") (kind_text ds f.kind) (codes "\n")
    ∙ ap (λ p. fault_front p ++ fault_words ds f.kind) h.placed
    ∙ ap (λ t. place_front l.place ++ t) (words_said ds l.kind h.sequence f.kind h.kind)
    ∙ sym (ap (λ d. place_front l.place ++ said l.kind d) h.document)

warning_line : (l : Line) (w : Warning) → l.kind ≡ dead_clause → IsWarningOf l w → warning_text w ≡ line_text l
warning_line l w e h =
    ap (λ p. place_front p ++ codes "warning 1: clause is never reached\n") h ∙ sym (ap (λ k. place_front l.place ++ said k l.document) e)

next_line : {s t : List ℕ} (l : Line) (ls : List Line) → s ≡ line_text l → t ≡ lines_text ls → s ++ t ≡ lines_text (l ∷ ls)
next_line {s = s} {t = t} l ls a b = ap (λ z. z ++ t) a ∙ ap (λ z. line_text l ++ z) b

module _ (ds : List Document) where
  -- the lines after the first are written
  abbrev Behind : List Line → Type 0
  Behind ls = (fs : List Fault) (ws : List Warning) (t : List ℕ) → AllPaired (IsFaultOf ds) (faults_among ls) fs → AllPaired IsWarningOf (warnings_among ls) ws → IsMerged ds fs ws t → t ≡ lines_text ls

  by_kind : (l : Line) (ls : List Line) → Behind ls → (fs : List Fault) (ws : List Warning) (t : List ℕ) → IsUp line_precedes (l ∷ ls) → (k : Bool) → is_warning l.kind ≡ k →
      AllPaired (IsFaultOf ds) (cond k (faults_among ls) (l ∷ faults_among ls)) fs → AllPaired IsWarningOf (cond k (l ∷ warnings_among ls) (warnings_among ls)) ws → IsMerged ds fs ws t → t ≡ lines_text (l ∷ ls)
  by_kind l ls rec fs [] t u true k a b m = absurd b
  by_kind l ls rec [] (w ∷ ws) t u true k a b (a_warning n m) = next_line l ls (warning_line l w (is_dead l.kind k) b.0) (rec [] ws _ a b.1 m)
  by_kind l ls rec (f ∷ fs) (w ∷ ws) t u true k a b (a_warning n m) = next_line l ls (warning_line l w (is_dead l.kind k) b.0) (rec (f ∷ fs) ws _ a b.1 m)
  by_kind l ls rec (f ∷ fs) (w ∷ ws) t u true k a b (a_fault n m) = absurd (not_fault ds l ls w f fs u.0 (is_dead l.kind k) b.0 a (n w ws refl))
  by_kind l ls rec [] ws t u false k a b m = absurd a
  by_kind l ls rec (f ∷ fs) ws t u false k a b (a_fault n m) = next_line l ls (fault_line ds l f a.0) (rec fs ws _ a.1 b m)
  by_kind l ls rec (f ∷ fs) (w ∷ ws) t u false k a b (a_warning n m) = absurd (not_warning ds l ls f w ws u.0 a.0 b (n f fs refl))

  pub merged_texts : (ls : List Line) (fs : List Fault) (ws : List Warning) (t : List ℕ) → IsUp line_precedes ls →
      AllPaired (IsFaultOf ds) (faults_among ls) fs → AllPaired IsWarningOf (warnings_among ls) ws → IsMerged ds fs ws t → t ≡ lines_text ls
  merged_texts [] [] [] t u a b no_more = refl
  merged_texts [] (f ∷ fs) ws t u a b m = absurd a
  merged_texts [] [] (w ∷ ws) t u a b m = absurd b
  merged_texts (l ∷ ls) fs ws t u a b m = by_kind l ls (λ gs vs v p q n. merged_texts ls gs vs v u.1 p q n) fs ws t u (is_warning l.kind) refl a b m

  pub fault_texts : (ls : List Line) (fs : List Fault) (t : List ℕ) → AllPaired (IsFaultOf ds) ls fs → IsMerged ds fs [] t → t ≡ lines_text ls
  fault_texts [] [] t a no_more = refl
  fault_texts [] (f ∷ fs) t a m = absurd a
  fault_texts (l ∷ ls) [] t a m = absurd a
  fault_texts (l ∷ ls) (f ∷ fs) t a (a_fault n m) = next_line l ls (fault_line ds l f a.0) (fault_texts ls fs _ a.1 m)
