use Rattle.std.proofs.lemmas.Result.{IfOk-from_err}
use Rattle.std.proofs.Common.{◌≡◌, ◌++◌, ◌∷◌, [], length, rules}
use Rattle.xd_points.specs.Meaning.{point}
use Rattle.xd_points.proofs.ArePointsLemmas.{added_whole}
use Rattle.xd_points.proofs.points.add_point.Goals as goal

pub returns-clause-whole : goal.returns-clause-whole
returns-clause-whole c =
    let points : c.push.new.self.items ≡ c.args.points.now.points.items ++ point c.args.left c.args.pattern c.args.rights.now ∷ [] = search rules in
    let number : c.len-number.result ≡ length c.args.points.now.points.items = search rules in
    added_whole c.args.automata.lefts.now c.args.automata.patterns.now c.args.points.now _ c.args.left c.args.pattern c.args.rights.now c.is_last-last.result c.in_ok-state.ensures.ok.1
    points c.requires.whole.count c.len-number.result number c.is_last-last.ensures c.requires.states (rw c.requires.key at c.in_ok-put.ensures) c.requires.whole

pub returns-in_err-rights : goal.returns-in_err-rights
returns-in_err-rights c = record {
  whole = IfOk-from_err c.from_residual.result _ c.from_residual.ensures.0;
  grows = IfOk-from_err c.from_residual.result _ c.from_residual.ensures.0;
  state = IfOk-from_err c.from_residual.result _ c.from_residual.ensures.0;
}

pub returns-in_err-state : goal.returns-in_err-state
returns-in_err-state c = record {
  whole = IfOk-from_err c.from_residual-in_err-state.result _ c.from_residual-in_err-state.ensures.0;
  grows = IfOk-from_err c.from_residual-in_err-state.result _ c.from_residual-in_err-state.ensures.0;
  state = IfOk-from_err c.from_residual-in_err-state.result _ c.from_residual-in_err-state.ensures.0;
}

pub returns-in_err-push : goal.returns-in_err-push
returns-in_err-push c = record {
  whole = IfOk-from_err c.from_residual-in_err-push.result _ c.from_residual-in_err-push.ensures.0;
  grows = IfOk-from_err c.from_residual-in_err-push.result _ c.from_residual-in_err-push.ensures.0;
  state = IfOk-from_err c.from_residual-in_err-push.result _ c.from_residual-in_err-push.ensures.0;
}

pub returns-in_err-put : goal.returns-in_err-put
returns-in_err-put c = record {
  whole = IfOk-from_err c.from_residual-in_err-put.result _ c.from_residual-in_err-put.ensures.0;
  grows = IfOk-from_err c.from_residual-in_err-put.result _ c.from_residual-in_err-put.ensures.0;
  state = IfOk-from_err c.from_residual-in_err-put.result _ c.from_residual-in_err-put.ensures.0;
}
