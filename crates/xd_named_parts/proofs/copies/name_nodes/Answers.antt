use Rattle.std.proofs.Common.{[], ◌∷◌, arith, get_or, length, ◌<◌, sym, subst}
use Rattle.xd_doc.proofs.Lists.{all_there}
use Rattle.xd_syntax.specs.Words.{any_word}
use Rattle.xd_syntax.specs.declared.types.TypeId.{TypeId}
use Rattle.xd_same_types.proofs.Ids.{got}
use Rattle.xd_named_parts.specs.Copies.{StandForNodes, StandsForNode}
use Rattle.xd_named_parts.proofs.CopyLaws.{grows_by, grows_then, name_among}
use Rattle.xd_named_parts.proofs.NamedLaws.{known_there}
use Rattle.xd_named_parts.proofs.copies.name_nodes.Goals as goal

pub name_node-requires-clause-within : goal.name_node-requires-clause-within
name_node-requires-clause-within c =
    let named = c.args.named.now in
    let k = c.loop-number.number in
    let none : TypeId = record { at = 0 } in
    let l : k < length named = c.loop-number-test.true in
    let count = (c.loop-number.invariant.grows []).count in
    subst (λ n. (get_or named k none).at < n) (sym count) (all_there (λ (id : TypeId). id.at < length c.args.inner.now.items) named k (get_or named k none) c.requires.within l (got named k none l))

pub name_node-requires-clause-inner : goal.name_node-requires-clause-inner
name_node-requires-clause-inner c = (c.loop-number.invariant.grows []).belong c.requires.inner

pub returns-in_err-name_node-clause-names : goal.returns-in_err-name_node-clause-names
returns-in_err-name_node-clause-names c = λ h.
    let names = c.args.names.now in
    let k = c.loop-number.number in
    let w = c.index-names-number.result in
    let l : k < length names = omega (arith, c.requires.count, c.loop-number-test.true) in
    c.name_node.ensures.names (any_word ∷ names) (known_there names k w l c.index-names-number.is) (c.loop-number.invariant.names h)

pub loop-number-preserved : goal.loop-number-preserved
loop-number-preserved c =
    let names = c.args.names.now in
    let named = c.args.named.now in
    let k = c.loop-number.number in
    let w = c.index-names-number.result in
    let none : TypeId = record { at = 0 } in
    let id : TypeId = get_or named k none in
    let m : k < length named = c.loop-number-test.true in
    let l : k < length names = omega (arith, c.requires.count, c.loop-number-test.true) in
    let inv = c.loop-number.invariant in
    let first = c.args.pool.now.types in
    let mid = c.loop-number.pool.types in
    let new = c.name_node.new.pool.types in
    let before = c.loop-number.inner.items in
    let after = c.name_node.new.inner.items in
    record {
      grows = λ old. grows_then (StandForNodes old names named) old first mid new c.args.inner.now.items before after (inv.grows old)
          (grows_by (StandsForNode old w id.at) (StandForNodes old names named) old mid new before after (name_among old names named k w id m c.index-names-number.is (got named k none m)) (c.in_ok-name_node.ensures.grows old));
      names = λ h. c.name_node.ensures.names (any_word ∷ names) (known_there names k w l c.index-names-number.is) (inv.names h);
    }
