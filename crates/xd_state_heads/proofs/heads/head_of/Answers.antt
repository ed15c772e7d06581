use Rattle.std.proofs.Common.{ap, arith, List, length}
use Rattle.xd_auto.specs.declared.auto.LabelMove.{LabelMove}
use Rattle.xd_auto.specs.declared.auto.TextMove.{TextMove}
use Rattle.xd_state_heads.proofs.IsHeadNamedLemmas.{label_head_at, text_head_at}
use Rattle.xd_state_heads.proofs.Sides.{count_heads_of}
use Rattle.xd_state_heads.proofs.heads.head_of.Goals as goal

pub returns-then-number-labels : goal.returns-then-number-labels
returns-then-number-labels c = label_head_at c.args.auto.now c.args.left c.label_moves-labels.result.now c.args.number c.index-labels-number.result c.label_moves-labels.ensures.value c.requires.positive c.if-number-labels.true c.index-labels-number.is

pub returns-else-number-labels : goal.returns-else-number-labels
returns-else-number-labels c =
    let ls = ap (λ (ms : List LabelMove). length ms) c.label_moves-labels.ensures.value in
    let ts = ap (λ (ms : List TextMove). length ms) c.text_moves-texts.ensures.value in
    text_head_at c.args.auto.now c.args.left (length c.label_moves-labels.result.now) c.text_moves-texts.result.now c.args.number c.index-texts-number.result c.text_moves-texts.ensures.value ls c.if-number-labels.false
    (omega (arith, ls, ts, c.requires.within, c.if-number-labels.false, count_heads_of c.args.auto.now c.args.left)) c.index-texts-number.is
