use Rattle.std.proofs.lemmas.Result.{IfOk-from_err}
use Rattle.xd_boole.proofs.taken.taken_from.Goals as goal

pub returns-in_err-auto : goal.returns-in_err-auto
returns-in_err-auto c = record {
  count = IfOk-from_err c.from_residual.result _ c.from_residual.ensures.0;
  same = IfOk-from_err c.from_residual.result _ c.from_residual.ensures.0;
  moves = IfOk-from_err c.from_residual.result _ c.from_residual.ensures.0;
  universal = IfOk-from_err c.from_residual.result _ c.from_residual.ensures.0;
}

pub returns-in_err-universal : goal.returns-in_err-universal
returns-in_err-universal c = record {
  count = IfOk-from_err c.from_residual-in_err-universal.result _ c.from_residual-in_err-universal.ensures.0;
  same = IfOk-from_err c.from_residual-in_err-universal.result _ c.from_residual-in_err-universal.ensures.0;
  moves = IfOk-from_err c.from_residual-in_err-universal.result _ c.from_residual-in_err-universal.ensures.0;
  universal = IfOk-from_err c.from_residual-in_err-universal.result _ c.from_residual-in_err-universal.ensures.0;
}
