use Rattle.std.proofs.Common.{◌≡◌, ◌<◌, ◌&&◌, ◌||◌, ℕ, Bool, true, false, List, [], ◌∷◌, ◌++◌, length, get_or, sym, refl, ◌∙◌, arith}
use Rattle.std.specs.List.{list_any}
use Rattle.std.proofs.lemmas.List.{get_or_read}
use Rattle.xd_auto.specs.Automaton.{state_number}
use Rattle.xd_stream.specs.declared.pairs.Pair.{Pair}
use Rattle.xd_stream.proofs.StandsAfterLemmas.{stands_first}
use Rattle.xd_stream.proofs.validator.Validator.new.Goals as goal
use Rattle.xd_stream.proofs.validator.Validator.new.Goals.{then-index+in_ok-push, else-index}

-- one pair, where the mark says so
one_pair : (f : Pair → Bool) (p : Pair) (pairs none : List Pair) (m : Bool) → m ≡ true → none ≡ [] → pairs ≡ none ++ p ∷ [] → list_any f pairs ≡ (m && f p)
one_pair f p pairs none m e n h = rw (h, n, e) (or_none (f p))
  where
    or_none : (b : Bool) → (b || false) ≡ b
    or_none true = refl
    or_none false = refl

no_pair : (f : Pair → Bool) (p : Pair) (pairs none : List Pair) (m : Bool) → m ≡ false → none ≡ [] → pairs ≡ none → list_any f pairs ≡ (m && f p)
no_pair f p pairs none m e n h = rw (h, n, e) refl

pub returns-clause-stands : goal.returns-clause-stands
returns-clause-stands c =
    let marks = c.in_ok-marks.marks.items in
    let k = c.in_ok-marks.ensures in
    let n : ℕ = state_number c.args.start in
    let lt : n < length marks = omega (arith, k.count, c.requires) in
    let p : Pair = record { first = c.args.start; present = c.args.start } in
    let read : c.index.result.now ≡ get_or marks n false = get_or_read marks n c.index.result.now lt (rw c.number.ensures at c.index.ensures) false in
    stands_first _ k c.in_ok-with_items.ensures refl c.new-3.ensures.items c.new-4.ensures.items
    (λ f. elim c.if-index.branch [
      | then-index+in_ok-push w ↦ one_pair f p c.if-index.pairs.items c.new-pairs.result.items (get_or marks n false) (sym read ∙ w.if-index.true) c.new-pairs.ensures.items (rw w.pairs-is w.in_ok-push.ensures.items)
      | else-index w ↦ no_pair f p c.if-index.pairs.items c.new-pairs.result.items (get_or marks n false) (sym read ∙ w.if-index.false) c.new-pairs.ensures.items (rw w.pairs-is refl)
    ])
