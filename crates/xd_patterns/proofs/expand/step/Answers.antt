use Rattle.std.proofs.Common.{ap, sym}
use Rattle.xd_patterns.specs.Tasks.{IsPiece}
use Rattle.xd_continuations.specs.declared.links.Link.{Link}
use Rattle.xd_patterns.specs.declared.chains.Piece.{Piece}
use Rattle.xd_patterns.specs.declared.expand.Found.{Found}
use Rattle.xd_continuations.proofs.FiniteLemmas.{all_among}
use Rattle.xd_patterns.proofs.Expansion.{end_expanded, stop_expanded, step_expanded}
use Rattle.xd_patterns.specs.Sources.{names_in, tables}
use Rattle.xd_patterns.proofs.expand.step.Goals as goal

pub returns-then-is_ended : goal.returns-then-is_ended
returns-then-is_ended c a s =
    let t = tables c.args.sources.now in
    end_expanded (names_in c.args.sources.now) t c.args.marks.now c.args.cells.now c.args.expansion.now.tasks.items c.args.expansion.now.found.keys c.args.task a (sym c.if-is_ended.ensures) s

pub returns-then-task-eq0 : goal.returns-then-task-eq0
returns-then-task-eq0 c a s =
    let t = tables c.args.sources.now in
    stop_expanded (names_in c.args.sources.now) t c.args.marks.now c.args.cells.now c.len-count.ensures.links c.args.expansion.now.tasks.items c.args.expansion.now.found.keys c.keep.new.found.keys c.args.task a
    c.stop.result (ap (λ (f : Found). f.is_stop) c.stop.ensures) c.in_ok-keep.ensures c.if-task-eq0.true (sym c.if-is_ended.ensures) s

pub view-seen-requires : goal.view-seen-requires
view-seen-requires c =
    let t = tables c.args.sources.now in
    let i = all_among (λ (l : Link Piece). IsPiece t c.args.marks.now l.item) c.args.cells.now c.requires.pieces c.link-first.result c.link-first.ensures.stands in i.piece

pub step_view-requires-clause-piece : goal.step_view-requires-clause-piece
step_view-requires-clause-piece c =
    let t = tables c.args.sources.now in
    all_among (λ (l : Link Piece). IsPiece t c.args.marks.now l.item) c.args.cells.now c.requires.pieces c.link-first.result c.link-first.ensures.stands

pub returns : goal.returns
returns c a s =
    let t = tables c.args.sources.now in
    let E = names_in c.args.sources.now in
    step_expanded E t c.args.marks.now c.args.cells.now c.requires.sound.guarded c.len-count.ensures.links c.requires.pieces c.step_view.new.marks c.step_view.new.cells
    c.args.expansion.now.tasks.items c.step_view.new.expansion.tasks.items c.args.expansion.now.found.keys c.step_view.new.expansion.found.keys c.args.task a c.link-first.result.item c.link-first.result.behind c.requires.task c.link-first.ensures.list
    (sym c.if-is_ended.ensures) c.in_ok-step_view.ensures s
