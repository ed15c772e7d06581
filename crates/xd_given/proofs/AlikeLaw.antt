-- States of an alike set give each variable nothing, or all that they take.
use Rattle.std.proofs.Common.{◌≡◌, Bool, true, false, sym, ap, ◌∙◌, ◌&&◌, ◌+◌, ◌<◌, ◌≤◌, zero, suc, List, [], ◌∷◌, get_or, length, ⊎_elim, Option, Some, None, refl, ℕ, ◌≢◌, set, subst, arith}
use Rattle.std.specs.List.{slice_get}
use Rattle.std.proofs.lemmas.Bool.{cases_eq, and_from}
use Rattle.std.proofs.lemmas.List.{get_or-set_other}
use Rattle.std.proofs.Math.ListN.{get_or-eq_default}
use Rattle.std.proofs.lemmas.Bool.{cases_lt}
use Rattle.xd_doc.proofs.Bools.{and_left, and_right}
use Rattle.xd_auto.proofs.Closed.{same_state}
use Rattle.xd_empty.specs.Parts.{is_marked}
use Rattle.xd_doc.specs.Document.{Document, empty, text, element}
use Rattle.xd_doc.specs.Classes.{class_has}
use Rattle.xd_doc.specs.Runs.{Run, at_end, at_text, at_element, IsFree}
use Rattle.xd_auto.specs.declared.auto.State.{State}
use Rattle.xd_auto.specs.declared.auto.LabelMove.{LabelMove}
use Rattle.xd_auto.specs.declared.auto.TextMove.{TextMove}
use Rattle.xd_auto.specs.declared.leading.Ends.{Ends}
use Rattle.xd_auto.specs.Automaton.{Automaton, moves_at}
use Rattle.xd_auto.specs.Leading.{label_ends, text_ends}
use Rattle.xd_auto.specs.Runs.{IsAcceptingRun}
use Rattle.xd_auto.proofs.Anys.{IsSomeAnd-parts}
use Rattle.xd_auto.specs.Traces.{Owned, trace_of, content_or, rest_or, text_rest_or}
use Rattle.xd_given.specs.Alike.{IsAlike, IsAlikeFor, IsAlikeSet, IsIn, alike_move, begins, begins_inside, marked_count, is_side}
use Rattle.xd_given.specs.Owning.{GivesAlike, IsWhole, owns_first}

side_is : (own v : Bool) → is_side own v ≡ true → v ≡ own
side_is true v e = e
side_is false true e = absurd (cc)
side_is false false e = refl

-- what the test of a move tells
pub record Told (b : Owned) (set : State → Bool) (s : State) (own : Bool) (e : Ends) : Type 0 where
  pub owned : own ≡ owns_first b s
  pub inside : begins_inside b set e.inside ≡ true
  pub rest : set e.behind ≡ true
  pub goes_on : owns_first b e.behind ≡ owns_first b s

pub told : (b : Owned) (set : State → Bool) (s : State) (own : Bool) (e : Ends) → alike_move b set s own e ≡ true → Told b set s own e
told b set s own e h =
    let first = owns_first b s in
    let both = and_right (is_side first own) (begins_inside b set e.inside && begins b set first e.behind) h in
    let behind = and_right (begins_inside b set e.inside) (begins b set first e.behind) both in
    record {
      owned = side_is first own (and_left (is_side first own) _ h);
      inside = and_left (begins_inside b set e.inside) (begins b set first e.behind) both;
      rest = and_left (set e.behind) (is_side first (owns_first b e.behind)) behind;
      goes_on = side_is first (owns_first b e.behind) (and_right (set e.behind) (is_side first (owns_first b e.behind)) behind);
    }

-- what it tells of a content
pub nothing : (b : Owned) (set : State → Bool) (c : State) → begins b set false c ≡ true → owns_first b c ≡ false
nothing b set c e = side_is false (owns_first b c) (and_right (set c) (is_side false (owns_first b c)) e)

module _ (a : Automaton) (b : Owned) (set : State → Bool) (alike : (s : State) → set s ≡ true → IsAlike a b set s) where
  free : (d : Document) (s : State) (run : Run ℕ) → set s ≡ true → owns_first b s ≡ false → IsAcceptingRun a d s run → IsFree (trace_of a b s run)
  free empty s at_end here none h = tt
  free empty s (at_text n r) here none h = absurd h
  free empty s (at_element n c r) here none h = absurd h
  free (text t d) s at_end here none h = absurd h
  free (text t d) s (at_text n r) here none h =
      let f = IsSomeAnd-parts (slice_get (moves_at a s).texts n) (λ (m : TextMove). (class_has m.words t ≡ true) × IsAcceptingRun a d m.rest r) h in
      let k = told b set s (b.text s n) (text_ends f.item) ((alike s here).texts n f.item f.is) in
      (k.owned ∙ none, subst (λ (q : State). IsFree (trace_of a b q r)) (sym (ap (text_rest_or s) f.is)) (free d f.item.rest r k.rest (k.goes_on ∙ none) f.holds.1))
  free (text t d) s (at_element n c r) here none h = absurd h
  free (element l e d) s at_end here none h = absurd h
  free (element l e d) s (at_text n r) here none h = absurd h
  free (element l e d) s (at_element n c r) here none h =
      let f = IsSomeAnd-parts (slice_get (moves_at a s).labels n) (λ (m : LabelMove). (class_has m.class l ≡ true) × IsAcceptingRun a e m.content c × IsAcceptingRun a d m.rest r) h in
      let k = told b set s (b.element s n) (label_ends f.item) ((alike s here).labels n f.item f.is) in (
        k.owned ∙ none,
        subst (λ (q : State). IsFree (trace_of a b q c)) (sym (ap (content_or s) f.is)) (free e f.item.content c (and_left (set f.item.content) _ k.inside) (nothing b set f.item.content k.inside) f.holds.1),
        subst (λ (q : State). IsFree (trace_of a b q r)) (sym (ap (rest_or s) f.is)) (free d f.item.rest r k.rest (k.goes_on ∙ none) f.holds.2),
      )

  whole : (d : Document) (s : State) (run : Run ℕ) → set s ≡ true → owns_first b s ≡ true → IsAcceptingRun a d s run → IsWhole (trace_of a b s run)
  whole empty s at_end here first h = tt
  whole empty s (at_text n r) here first h = absurd h
  whole empty s (at_element n c r) here first h = absurd h
  whole (text t d) s at_end here first h = absurd h
  whole (text t d) s (at_text n r) here first h =
      let f = IsSomeAnd-parts (slice_get (moves_at a s).texts n) (λ (m : TextMove). (class_has m.words t ≡ true) × IsAcceptingRun a d m.rest r) h in
      let k = told b set s (b.text s n) (text_ends f.item) ((alike s here).texts n f.item f.is) in
      (k.owned ∙ first, subst (λ (q : State). IsWhole (trace_of a b q r)) (sym (ap (text_rest_or s) f.is)) (whole d f.item.rest r k.rest (k.goes_on ∙ first) f.holds.1))
  whole (text t d) s (at_element n c r) here first h = absurd h
  whole (element l e d) s at_end here first h = absurd h
  whole (element l e d) s (at_text n r) here first h = absurd h
  whole (element l e d) s (at_element n c r) here first h =
      let f = IsSomeAnd-parts (slice_get (moves_at a s).labels n) (λ (m : LabelMove). (class_has m.class l ≡ true) × IsAcceptingRun a e m.content c × IsAcceptingRun a d m.rest r) h in
      let k = told b set s (b.element s n) (label_ends f.item) ((alike s here).labels n f.item f.is) in (
        k.owned ∙ first,
        subst (λ (q : State). IsFree (trace_of a b q c)) (sym (ap (content_or s) f.is)) (free e f.item.content c (and_left (set f.item.content) _ k.inside) (nothing b set f.item.content k.inside) f.holds.1),
        subst (λ (q : State). IsWhole (trace_of a b q r)) (sym (ap (rest_or s) f.is)) (whole d f.item.rest r k.rest (k.goes_on ∙ first) f.holds.2),
      )

  pub gives_alike : (s : State) → set s ≡ true → GivesAlike a b s
  gives_alike s here = record { all = λ first d run h. whole d s run here first h; none = λ first d run h. free d s run here first h }

-- a larger set has no fewer such states
begins_more : (b : Owned) (one two : State → Bool) (first : Bool) (s : State) → IsIn one two → begins b one first s ≡ true → begins b two first s ≡ true
begins_more b one two first s more e =
    and_from (two s) (is_side first (owns_first b s)) (more s (and_left (one s) (is_side first (owns_first b s)) e)) (and_right (one s) (is_side first (owns_first b s)) e)

inside_more : (b : Owned) (one two : State → Bool) (inside : Option State) → IsIn one two → begins_inside b one inside ≡ true → begins_inside b two inside ≡ true
inside_more b one two None more e = refl
inside_more b one two (Some s) more e = begins_more b one two false s more e

move_more : (b : Owned) (one two : State → Bool) (s : State) (own : Bool) (e : Ends) → IsIn one two → alike_move b one s own e ≡ true → alike_move b two s own e ≡ true
move_more b one two s own e more h =
    let first = owns_first b s in
    let both = and_right (is_side first own) (begins_inside b one e.inside && begins b one first e.behind) h in
    and_from (is_side first own) (begins_inside b two e.inside && begins b two first e.behind) (and_left (is_side first own) _ h)
    (and_from (begins_inside b two e.inside) (begins b two first e.behind) (inside_more b one two e.inside more (and_left (begins_inside b one e.inside) _ both))
    (begins_more b one two first e.behind more (and_right (begins_inside b one e.inside) _ both)))

pub alike_more : (a : Automaton) (owned : ℕ → Owned) (count : ℕ) (one two : State → Bool) (s : State) → IsIn one two → IsAlikeFor a owned count one s → IsAlikeFor a owned count two s
alike_more a owned count one two s more h x lt = record {
  labels = λ n m e. move_more (owned x) one two s ((owned x).element s n) (label_ends m) more ((h x lt).labels n m e);
  texts = λ n m e. move_more (owned x) one two s ((owned x).text s n) (text_ends m) more ((h x lt).texts n m e);
}

-- one mark less
pub fewer_marks : (marks : List Bool) (k : ℕ) → get_or marks k false ≡ true → marked_count (set marks k false) + 1 ≡ marked_count marks
fewer_marks [] k e = absurd (cc)
fewer_marks (m ∷ marks) zero e = rw e (omega arith)
fewer_marks (m ∷ marks) (suc k) e = let more = fewer_marks marks k e in omega (arith, more)

-- what holds of elements below a number, and of the one there
pub next_more : {X : Type 0} (P : ℕ → X → Type 0) (xs : List X) (i : ℕ) (x : X) → slice_get xs i ≡ Some x → ((n : ℕ) (m : X) → n < i → slice_get xs n ≡ Some m → P n m) → P i x
    → (n : ℕ) (m : X) → n < i + 1 → slice_get xs n ≡ Some m → P n m
next_more {X} P xs i x there below here n m lt e = ⊎_elim
    (λ (same : n ≡ i).
    let one : x ≡ m = let both = sym there ∙ ap (slice_get xs) (sym same) ∙ e in cc in
    subst (λ (y : X). P n y) one (subst (λ k. P k x) (sym same) here))
    (λ (ne : n ≢ i). below n m (omega arith) e)
    (cases_eq n i)

-- one mark is taken away from a state that isn't alike, or none
pub still_in : (a : Automaton) (owned : ℕ → Owned) (count : ℕ) (family : State → Bool) (marks : List Bool) (state : State) → (IsAlikeFor a owned count (is_marked marks) state → ⊥) → IsAlikeSet a owned count family → IsIn family (is_marked marks)
    → IsIn family (is_marked (set marks state.number false))
still_in a owned count family marks state not is within s h = ⊎_elim
    (λ (same : s.number ≡ state.number).
    let at = same_state s state same in
    absurd (not (alike_more a owned count family (is_marked marks) state within (is state (ap family (sym at) ∙ h)))))
    (λ (ne : s.number ≢ state.number). get_or-set_other marks state.number s.number false false ne ∙ within s h)
    (cases_eq s.number state.number)

-- a marked state has a place in the list of marks
pub marked_within : (marks : List Bool) (s : State) → is_marked marks s ≡ true → s.number < length marks
marked_within marks s h = ⊎_elim
    (λ (lt : s.number < length marks). lt)
    (λ (le : length marks ≤ s.number). absurd (let none : is_marked marks s ≡ false = get_or-eq_default marks false le in let both : true ≡ false = sym h ∙ none in cc))
    (cases_lt s.number (length marks))
