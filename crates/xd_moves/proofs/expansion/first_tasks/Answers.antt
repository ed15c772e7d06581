use Rattle.std.proofs.Common.{◌≡◌, ◌<◌, true, false, cond, length, arith, ap, sym, subst, ◌∙◌}
use Rattle.std.specs.List.{AllByRecursion}
use Rattle.xd_meaning.specs.CanBeEmpty.{can_be_empty}
use Rattle.xd_sound.specs.TypeNames.{meanings}
use Rattle.xd_moves.specs.Pieces.{piece_tree}
use Rattle.xd_moves.specs.Found.{IsTask, waiting_at}
use Rattle.xd_moves.specs.Cells.{Cell}
use Rattle.xd_continuations.proofs.FiniteLemmas.{all_among}
use Rattle.xd_moves.proofs.WorkedTaskLemmas.{AreFirstTasks, first_more, first_all, all_reversed}
use Rattle.xd_moves.proofs.expansion.first_tasks.Goals as goal

pub is_empty-requires-clause-piece : goal.is_empty-requires-clause-piece
is_empty-requires-clause-piece c =
    all_among (λ (d : Cell). d.item.node < length c.args.sources.now.types.now) c.args.cells.now c.requires.nodes c.link-cell.result c.link-cell.ensures.stands

pub loop-at-preserved-then-is_empty : goal.loop-at-preserved-then-is_empty
loop-at-preserved-then-is_empty c =
    let E = meanings c.args.sources.now.types.now c.args.sources.now.defs.now in
    let d : Cell = c.link-cell.result in
    let b : true ≡ can_be_empty E (piece_tree c.args.sources.now.types.now d.item) = c.if-is_empty.ensures in
    subst (AreFirstTasks E c.args.sources.now.types.now c.args.cells.now c.args.number d.behind) (sym c.in_ok-push.ensures.items)
    (first_more E c.args.sources.now.types.now c.args.cells.now c.args.number c.loop-at.at c.loop-at.tasks.items c.loop-at.invariant d
    (all_among (λ (q : Cell). q.item.node < length c.args.sources.now.types.now) c.args.cells.now c.requires.nodes d c.link-cell.ensures.stands)
    c.link-cell.ensures.older c.link-cell.ensures.list d.behind (ap (λ t. cond t d.behind 0) b))

pub loop-at-preserved : goal.loop-at-preserved
loop-at-preserved c =
    let E = meanings c.args.sources.now.types.now c.args.sources.now.defs.now in
    let d : Cell = c.link-cell.result in
    let b : false ≡ can_be_empty E (piece_tree c.args.sources.now.types.now d.item) = c.if-is_empty.ensures in
    subst (AreFirstTasks E c.args.sources.now.types.now c.args.cells.now c.args.number 0) (sym c.in_ok-push.ensures.items)
    (first_more E c.args.sources.now.types.now c.args.cells.now c.args.number c.loop-at.at c.loop-at.tasks.items c.loop-at.invariant d
    (all_among (λ (q : Cell). q.item.node < length c.args.sources.now.types.now) c.args.cells.now c.requires.nodes d c.link-cell.ensures.stands)
    c.link-cell.ensures.older c.link-cell.ensures.list 0 (ap (λ t. cond t d.behind 0) b))

pub returns-clause-stand : goal.returns-clause-stand
returns-clause-stand c =
    subst (AllByRecursion (IsTask c.args.sources.now.types.now c.args.cells.now)) (sym c.reverse.ensures.items)
    (all_reversed (IsTask c.args.sources.now.types.now c.args.cells.now) c.loop-at.tasks.items c.loop-at.invariant.stand)

pub returns-clause-same : goal.returns-clause-same
returns-clause-same c =
    let E = meanings c.args.sources.now.types.now c.args.sources.now.defs.now in
    let t = c.loop-at-test.false in
    let z : c.loop-at.at ≡ 0 = omega arith in
    ap (waiting_at c.args.sources.now.types.now c.args.cells.now) c.reverse.ensures.items
    ∙ first_all E c.args.sources.now.types.now c.args.cells.now c.args.number c.loop-at.tasks.items
    (subst (λ n. AreFirstTasks E c.args.sources.now.types.now c.args.cells.now c.args.number n c.loop-at.tasks.items) z c.loop-at.invariant)
