use Rattle.std.proofs.Common.{◌≡◌, arith, refl}
use Rattle.std.specs.Vec.{vec_len}
use Rattle.xd_same_types.proofs.Ids.{two_or_more}
use Rattle.xd_same_types.proofs.Tables.{alt_numbers, numbers_count, alt_tree}
use Rattle.xd_same_types.proofs.alts.alt_from.Goals as goal

pub node-requires-2 : goal.node-requires-2
node-requires-2 c =
    let e = numbers_count c.args.parts.items in
    let one : vec_len c.args.parts ≡ 1 → ⊥ = λ q. c.if-len-eq1.false (omega (arith, c.len.ensures)) in
    let two = two_or_more (vec_len c.args.parts) _ c.is_empty.ensures c.if-is_empty.false one in
    ((omega (arith, c.args.parts.ok.0), alt_numbers c.args.pool.now.types c.args.parts.items c.requires), refl)

pub returns-clause-tree : goal.returns-clause-tree
returns-clause-tree c = rw (alt_tree c.args.pool.now.types c.args.parts.items _ refl) c.node-2.ensures.tree
