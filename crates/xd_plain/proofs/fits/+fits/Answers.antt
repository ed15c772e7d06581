use Rattle.std.proofs.Common.{◌≡◌, ◌≤◌, true, refl, ap, sym, ◌∙◌, arith}
use Rattle.xd_doc.specs.Document.{Document, size, has_item}
use Rattle.xd_syntax.specs.Tree.{Elem, Seq, Star, Plus}
use Rattle.xd_meaning.specs.FitsWithin as unfolded
use Rattle.xd_plain.specs.PlainDocuments.{document_of}
use Rattle.xd_plain.specs.PlainTrees.{tree_of, definitions_of}
use Rattle.xd_plain.specs.PlainFits.{splits_of}
use Rattle.xd_plain.proofs.SplitsLemmas.{Turn, found, some_later, none_found, refused, sizes, size_some, empty_repeats, repeats_split, split_repeats, filled_by, same_type, told, denied}
use Rattle.xd_plain.proofs.fits.+fits.Goals as goal

pub is_fitting-returns-in-Elem : goal.is_fitting-returns-in-Elem
is_fitting-returns-in-Elem t c =
    let e : Elem c.in-Elem.class (tree_of c.deref.result.now) ≡ tree_of c.args.tree.now = rw (c.deref.ensures, c.in-Elem.is) refl in
    same_type (definitions_of c.args.definitions.now) c.args.unfoldings (document_of c.args.document.now) c.is_one_element.result e c.is_one_element.ensures

pub is_fitting-returns-in-Seq : goal.is_fitting-returns-in-Seq
is_fitting-returns-in-Seq t c =
    let e : Seq (tree_of c.deref-in-Seq.result.now) (tree_of c.deref-in-Seq-2.result.now) ≡ tree_of c.args.tree.now = rw (c.deref-in-Seq.ensures, c.deref-in-Seq-2.ensures, c.in-Seq.is) refl in
    same_type (definitions_of c.args.definitions.now) c.args.unfoldings (document_of c.args.document.now) c.in_two_parts.result e c.in_two_parts.ensures

pub is_fitting-returns-in-Star : goal.is_fitting-returns-in-Star
is_fitting-returns-in-Star t c =
    let e : Star (tree_of c.deref-in-Star.result.now) ≡ tree_of c.args.tree.now = rw (c.deref-in-Star.ensures, c.in-Star.is) refl in
    same_type (definitions_of c.args.definitions.now) c.args.unfoldings (document_of c.args.document.now) c.in_turns.result e c.in_turns.ensures

pub is_fitting-returns-in-Plus : goal.is_fitting-returns-in-Plus
is_fitting-returns-in-Plus t c =
    let e : Plus (tree_of c.deref-in-Plus.result.now) ≡ tree_of c.args.tree.now = rw (c.deref-in-Plus.ensures, c.in-Plus.is) refl in
    same_type (definitions_of c.args.definitions.now) c.args.unfoldings (document_of c.args.document.now) c.in_one_turn_or_more.result e c.in_one_turn_or_more.ensures

pub in_two_parts-is_fitting-requires : goal.in_two_parts-is_fitting-requires
in_two_parts-is_fitting-requires t c =
    let s = sizes (document_of c.args.document.now) c.deref-split-items.result.now c.loop-split.split-index c.split-item.result (ap splits_of c.deref-split-items.ensures.value ∙ c.in_ok-splits.ensures) c.loop-split-test.true c.split-item.is in
    (omega arith, tt)

pub in_two_parts-is_fitting-requires-in-loop-split : goal.in_two_parts-is_fitting-requires-in-loop-split
in_two_parts-is_fitting-requires-in-loop-split t c =
    let s = sizes (document_of c.args.document.now) c.deref-split-items.result.now c.loop-split.split-index c.split-item.result (ap splits_of c.deref-split-items.ensures.value ∙ c.in_ok-splits.ensures) c.loop-split-test.true c.split-item.is in
    (omega arith, tt)

pub in_two_parts-returns-then-branch : goal.in_two_parts-returns-then-branch
in_two_parts-returns-then-branch t c =
    told _ (found _ _ _ c.deref-split-items.result.now c.loop-split.split-index c.split-item.result (ap splits_of c.deref-split-items.ensures.value ∙ c.in_ok-splits.ensures) c.loop-split-test.true c.split-item.is (c.in_ok-is_fitting.ensures.0 c.if-not-branch.false) (c.in_ok-is_fitting-2.ensures.0 c.if-branch.true))

pub in_two_parts-returns : goal.in_two_parts-returns
in_two_parts-returns t c = denied _ (none_found _ _ _ c.deref-split-items.result.now c.loop-split.split-index (ap splits_of c.deref-split-items.ensures.value ∙ c.in_ok-splits.ensures) c.loop-split-test.false c.loop-split.invariant)

pub in_turns-returns-then-is_empty : goal.in_turns-returns-then-is_empty
in_turns-returns-then-is_empty t c =
    let d : Document = document_of c.args.document.now in
    told _ (empty_repeats (unfolded.FitsWithin (definitions_of c.args.definitions.now) c.args.unfoldings (tree_of c.args.part.now)) d (sym c.is_empty.ensures ∙ c.if-is_empty.true))

pub in_turns-is_fitting-requires : goal.in_turns-is_fitting-requires
in_turns-is_fitting-requires t c =
    let s = sizes (document_of c.args.document.now) c.deref-split-items.result.now c.loop-split.split-index c.split-item.result (ap splits_of c.deref-split-items.ensures.value ∙ c.in_ok-splits.ensures) c.loop-split-test.true c.split-item.is in
    (omega arith, tt)

pub in_turns-in_turns-requires : goal.in_turns-in_turns-requires
in_turns-in_turns-requires t c =
    let s = sizes (document_of c.args.document.now) c.deref-split-items.result.now c.loop-split.split-index c.split-item.result (ap splits_of c.deref-split-items.ensures.value ∙ c.in_ok-splits.ensures) c.loop-split-test.true c.split-item.is in
    let z : 1 ≤ size (document_of c.split-item.result.front) = size_some (document_of c.split-item.result.front) (filled_by (has_item (document_of c.split-item.result.front)) (sym c.is_empty-in-loop-split.ensures ∙ c.if-is_empty-2.false)) in
    (omega arith, tt)

pub in_turns-returns-then-branch : goal.in_turns-returns-then-branch
in_turns-returns-then-branch t c =
    let P : Document → Type 0 = unfolded.FitsWithin (definitions_of c.args.definitions.now) c.args.unfoldings (tree_of c.args.part.now) in
    let d : Document = document_of c.args.document.now in
    let front : has_item (document_of c.split-item.result.front) ≡ true = filled_by _ (sym c.is_empty-in-loop-split.ensures ∙ c.if-is_empty-2.false) in
    told _ (split_repeats P d (found (Turn P) (unfolded.Repeats P) d c.deref-split-items.result.now c.loop-split.split-index c.split-item.result (ap splits_of c.deref-split-items.ensures.value ∙ c.in_ok-splits.ensures) c.loop-split-test.true c.split-item.is (front, c.in_ok-is_fitting.ensures.0 c.if-not-branch.false) (c.in_ok-in_turns.ensures.0 c.if-branch.true)))

pub in_turns-returns : goal.in_turns-returns
in_turns-returns t c =
    let P : Document → Type 0 = unfolded.FitsWithin (definitions_of c.args.definitions.now) c.args.unfoldings (tree_of c.args.part.now) in
    let d : Document = document_of c.args.document.now in
    denied _ (λ s. none_found (Turn P) (unfolded.Repeats P) d c.deref-split-items.result.now c.loop-split.split-index (ap splits_of c.deref-split-items.ensures.value ∙ c.in_ok-splits.ensures) c.loop-split-test.false c.loop-split.invariant (repeats_split P d (filled_by (has_item d) (sym c.is_empty.ensures ∙ c.if-is_empty.false)) s))

pub in_one_turn_or_more-is_fitting-requires : goal.in_one_turn_or_more-is_fitting-requires
in_one_turn_or_more-is_fitting-requires t c =
    let s = sizes (document_of c.args.document.now) c.deref-split-items.result.now c.loop-split.split-index c.split-item.result (ap splits_of c.deref-split-items.ensures.value ∙ c.in_ok-splits.ensures) c.loop-split-test.true c.split-item.is in
    (omega arith, tt)

pub in_one_turn_or_more-in_turns-requires : goal.in_one_turn_or_more-in_turns-requires
in_one_turn_or_more-in_turns-requires t c =
    let s = sizes (document_of c.args.document.now) c.deref-split-items.result.now c.loop-split.split-index c.split-item.result (ap splits_of c.deref-split-items.ensures.value ∙ c.in_ok-splits.ensures) c.loop-split-test.true c.split-item.is in
    (omega arith, tt)

pub in_one_turn_or_more-returns-then-branch : goal.in_one_turn_or_more-returns-then-branch
in_one_turn_or_more-returns-then-branch t c =
    told _ (found _ _ _ c.deref-split-items.result.now c.loop-split.split-index c.split-item.result (ap splits_of c.deref-split-items.ensures.value ∙ c.in_ok-splits.ensures) c.loop-split-test.true c.split-item.is (c.in_ok-is_fitting.ensures.0 c.if-not-branch.false) (c.in_ok-in_turns.ensures.0 c.if-branch.true))

pub in_one_turn_or_more-returns : goal.in_one_turn_or_more-returns
in_one_turn_or_more-returns t c = denied _ (none_found _ _ _ c.deref-split-items.result.now c.loop-split.split-index (ap splits_of c.deref-split-items.ensures.value ∙ c.in_ok-splits.ensures) c.loop-split-test.false c.loop-split.invariant)

pub in_two_parts-loop-split-preserved-then-not-branch : goal.in_two_parts-loop-split-preserved-then-not-branch
in_two_parts-loop-split-preserved-then-not-branch t c =
    λ s. some_later _ _ c.deref-split-items.result.now c.loop-split.split-index c.split-item.result c.loop-split-test.true c.split-item.is (λ p q. refused _ c.if-not-branch.true c.in_ok-is_fitting.ensures p) (c.loop-split.invariant s)

pub in_two_parts-loop-split-preserved : goal.in_two_parts-loop-split-preserved
in_two_parts-loop-split-preserved t c =
    λ s. some_later _ _ c.deref-split-items.result.now c.loop-split.split-index c.split-item.result c.loop-split-test.true c.split-item.is (λ p q. refused _ c.if-branch.false c.in_ok-is_fitting-2.ensures q) (c.loop-split.invariant s)

pub in_turns-loop-split-preserved-then-not-branch : goal.in_turns-loop-split-preserved-then-not-branch
in_turns-loop-split-preserved-then-not-branch t c =
    λ s. some_later _ _ c.deref-split-items.result.now c.loop-split.split-index c.split-item.result c.loop-split-test.true c.split-item.is (λ p q. refused _ c.if-not-branch.true c.in_ok-is_fitting.ensures p.1) (c.loop-split.invariant s)

pub in_turns-loop-split-preserved : goal.in_turns-loop-split-preserved
in_turns-loop-split-preserved t c =
    λ s. some_later _ _ c.deref-split-items.result.now c.loop-split.split-index c.split-item.result c.loop-split-test.true c.split-item.is (λ p q. refused _ c.if-branch.false c.in_ok-in_turns.ensures q) (c.loop-split.invariant s)

pub in_one_turn_or_more-loop-split-preserved-then-not-branch : goal.in_one_turn_or_more-loop-split-preserved-then-not-branch
in_one_turn_or_more-loop-split-preserved-then-not-branch t c =
    λ s. some_later _ _ c.deref-split-items.result.now c.loop-split.split-index c.split-item.result c.loop-split-test.true c.split-item.is (λ p q. refused _ c.if-not-branch.true c.in_ok-is_fitting.ensures p) (c.loop-split.invariant s)

pub in_one_turn_or_more-loop-split-preserved : goal.in_one_turn_or_more-loop-split-preserved
in_one_turn_or_more-loop-split-preserved t c =
    λ s. some_later _ _ c.deref-split-items.result.now c.loop-split.split-index c.split-item.result c.loop-split-test.true c.split-item.is (λ p q. refused _ c.if-branch.false c.in_ok-in_turns.ensures q) (c.loop-split.invariant s)
