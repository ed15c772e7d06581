use Rattle.std.proofs.Common.{◌≡◌, ◌+◌, arith, [], ◌∷◌, ◌++◌, length, get_or, take}
use Rattle.std.proofs.lemmas.List.{map_more}
use Rattle.xd_syntax.specs.declared.types.TypeId.{TypeId}
use Rattle.xd_syntax.specs.Types.{type_numbers}
use Rattle.xd_sound.proofs.EmptyLemmas.{adds_more, part_in}
use Rattle.xd_sound.proofs.empty.add_parts.Goals as goal

pub add-requires-clause-from : goal.add-requires-clause-from
add-requires-clause-from c =
    let z = part_in (length c.args.graph.now) c.args.parts.now c.loop-part.part-index (record { at = 0 }) c.requires.parts c.loop-part-test.true in
    let n = c.loop-part.invariant.adds.count in
    let e = c.at.ensures in
    omega arith

pub loop-part-preserved : goal.loop-part-preserved
loop-part-preserved c =
    let d : TypeId = record { at = 0 } in
    let i = c.loop-part.part-index in
    let ps = c.args.parts.now in
    let z = part_in (length c.args.graph.now) ps i d c.requires.parts c.loop-part-test.true in
    let n = c.loop-part.invariant.adds.count in
    let e : c.at.result ≡ (get_or ps i d).at = c.at.ensures in
    let m : type_numbers (take (i + 1) ps) ≡ type_numbers (take i ps) ++ (get_or ps i d).at ∷ [] = map_more (λ (x : TypeId). x.at) ps i d c.loop-part-test.true in
    record { adds = rw (c.in_ok-add.ensures, m, e) (adds_more c.args.graph.now c.loop-part.graph c.args.at (get_or ps i d).at (type_numbers (take i ps)) c.loop-part.invariant.adds (omega arith)) }
