use Rattle.std.proofs.Common.{true, false, ◌++◌, map, ap, sym, subst, ◌∙◌}
use Rattle.xd_syntax.specs.Order.{in_order}
use Rattle.xd_syntax.specs.Kept.{type_definition}
use Rattle.xd_rec.specs.Components.{AreComponents}
use Rattle.xd_sound.specs.Emptiness.{AreEmptyMarks}
use Rattle.xd_sound.proofs.KnownLaws.{marks_test, marks_decide}
use Rattle.xd_rec.specs.Uses.{test_of, uses_from}
use Rattle.xd_rec.specs.Faults.{AreOwned, IsGraphOf, faults_of, recurs, recursion_fault}
use Rattle.xd_rec.specs.declared.faults.Recursion.TheVariants.{OutsideTail, Unguarded}
use Rattle.xd_rec.proofs.Recursion.{all_recursion_faults, all_owned}
use Rattle.xd_rec.proofs.recursion_faults.Goals as goal

pub use_graph-requires-clause-owned : goal.use_graph-requires-clause-owned
use_graph-requires-clause-owned c =
    subst (AreOwned c.args.defs.now) (sym (c.deref-2.ensures.value ∙ c.in_ok-uses.ensures)) (all_owned (test_of c.deref.result.now c.args.defs.now) c.args.types.now c.args.defs.now)

pub use_graph-requires-2-clause-owned : goal.use_graph-requires-2-clause-owned
use_graph-requires-2-clause-owned c =
    subst (AreOwned c.args.defs.now) (sym (c.deref-3.ensures.value ∙ c.in_ok-uses.ensures)) (all_owned (test_of c.deref.result.now c.args.defs.now) c.args.types.now c.args.defs.now)

pub add_faults-requires-clause-owned : goal.add_faults-requires-clause-owned
add_faults-requires-clause-owned c =
    subst (AreOwned c.args.defs.now) (sym (c.deref-4.ensures.value ∙ c.in_ok-uses.ensures)) (all_owned (test_of c.deref.result.now c.args.defs.now) c.args.types.now c.args.defs.now)

pub add_faults-requires-2-clause-owned : goal.add_faults-requires-2-clause-owned
add_faults-requires-2-clause-owned c =
    subst (AreOwned c.args.defs.now) (sym (c.deref-6.ensures.value ∙ c.in_ok-uses.ensures)) (all_owned (test_of c.deref.result.now c.args.defs.now) c.args.types.now c.args.defs.now)

pub returns : goal.returns
returns c fs =
    let ts = c.args.types.now in
    let ds = c.args.defs.now in
    let Z = test_of c.deref.result.now ds in
    let us = uses_from Z 0 (map (type_definition ts) ds) in
    let ms : AreEmptyMarks ts ds c.deref.result.now = subst (AreEmptyMarks ts ds) (sym c.deref.ensures.value) c.requires.known.marked in
    let g = c.in_ok-use_chains.use_chains in
    let h = c.in_ok-front_chains.front_chains in
    let ig = subst (λ xs. IsGraphOf ds xs false g) (c.deref-2.ensures.value ∙ c.in_ok-uses.ensures) c.in_ok-use_chains.ensures in
    let ih = subst (λ xs. IsGraphOf ds xs true h) (c.deref-3.ensures.value ∙ c.in_ok-uses.ensures) c.in_ok-front_chains.ensures in
    let ag : AreComponents g c.deref-5.result.now = subst (AreComponents g) (sym c.deref-5.ensures.value) c.in_ok-standing.ensures in
    let ah : AreComponents h c.deref-7.result.now = subst (AreComponents h) (sym c.deref-7.ensures.value) c.in_ok-standing-2.ensures in
    let o = c.in_ok-add_faults.ensures ∙ ap (λ xs. xs ++ faults_of (recurs OutsideTail ds c.deref-5.result.now) (recursion_fault OutsideTail) c.deref-4.result.now) c.new-faults.ensures.items
    ∙ ap (faults_of (recurs OutsideTail ds c.deref-5.result.now) (recursion_fault OutsideTail)) (c.deref-4.ensures.value ∙ c.in_ok-uses.ensures) in
    let u = c.in_ok-add_faults-2.ensures
    ∙ ap (λ xs. xs ++ faults_of (recurs Unguarded ds c.deref-7.result.now) (recursion_fault Unguarded) c.deref-6.result.now) o
    ∙ ap (λ xs. faults_of (recurs OutsideTail ds c.deref-5.result.now) (recursion_fault OutsideTail) us ++ faults_of (recurs Unguarded ds c.deref-7.result.now) (recursion_fault Unguarded) xs) (c.deref-6.ensures.value ∙ c.in_ok-uses.ensures) in
    all_recursion_faults ts ds fs c.requires.unique Z (marks_decide ts ds c.deref.result.now c.requires.stand ms) g h c.deref-5.result.now c.deref-7.result.now ig ag ih ah c.sort_faults.new.faults.items
    (c.in_ok-sort_faults.ensures ∙ ap in_order u)

pub top_uses-requires-clause-tested : goal.top_uses-requires-clause-tested
top_uses-requires-clause-tested c =
    let ts = c.args.types.now in
    let ds = c.args.defs.now in
    let ms : AreEmptyMarks ts ds c.deref.result.now = subst (AreEmptyMarks ts ds) (sym c.deref.ensures.value) c.requires.known.marked in
    record { count = ms.count; nodes = marks_test ts ds c.deref.result.now c.requires.stand ms }
