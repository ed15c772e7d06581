use Rattle.std.proofs.Common.{◌<◌, length, arith, sym, subst}
use Rattle.xd_moves.specs.Cells.{Cell}
use Rattle.xd_continuations.proofs.FiniteLemmas.{all_among}
use Rattle.xd_heads.proofs.GrowsTypesLemmas.{grows_then}
use Rattle.xd_continuations.proofs.GrownTables.{more_rows}
use Rattle.xd_heads.proofs.TypeNumbersLemmas.{IsTyping, typing_more, typing_all}
use Rattle.xd_heads.proofs.typed.piece_types.Goals as goal

pub piece_type-requires : goal.piece_type-requires
piece_type-requires c =
    let h = all_among (λ (d : Cell). d.item.node < length c.args.sound.now.types) c.args.cells.now c.requires.nodes c.link-cell.result c.link-cell.ensures.stands in
    let l = more_rows c.args.sound.now.types c.loop-at.sound.types c.loop-at.invariant.grows.adds.types in
    omega arith

pub returns-in_err-piece_type-clause-grows : goal.returns-in_err-piece_type-clause-grows
returns-in_err-piece_type-clause-grows c = grows_then c.args.sound.now c.loop-at.sound c.piece_type.new.sound c.loop-at.invariant.grows c.piece_type.ensures.grows

pub returns-in_err-push-clause-grows : goal.returns-in_err-push-clause-grows
returns-in_err-push-clause-grows c = grows_then c.args.sound.now c.loop-at.sound c.piece_type.new.sound c.loop-at.invariant.grows c.piece_type.ensures.grows

pub loop-at-preserved : goal.loop-at-preserved
loop-at-preserved c =
    let h = all_among (λ (d : Cell). d.item.node < length c.args.sound.now.types) c.args.cells.now c.requires.nodes c.link-cell.result c.link-cell.ensures.stands in
    subst (IsTyping c.args.sound.now c.piece_type.new.sound c.args.cells.now c.args.number c.link-cell.result.behind) (sym c.in_ok-push.ensures.items)
    (typing_more c.args.sound.now c.loop-at.sound c.piece_type.new.sound c.args.cells.now c.args.number c.loop-at.at c.loop-at.ids.items c.loop-at.invariant c.link-cell.result
    c.link-cell.ensures.list c.link-cell.ensures.older h c.in_ok-piece_type.field-0 c.in_ok-piece_type.ensures.ok c.piece_type.ensures.grows)

pub returns-clause-trees : goal.returns-clause-trees
returns-clause-trees c =
    let t = c.loop-at-test.false in
    typing_all c.args.sound.now c.loop-at.sound c.args.cells.now c.args.number c.loop-at.at c.loop-at.ids.items c.loop-at.invariant (omega arith)
