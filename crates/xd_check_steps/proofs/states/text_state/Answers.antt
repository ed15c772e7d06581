use Rattle.xd_auto.specs.Automaton.{state_number}
use Rattle.std.proofs.lemmas.Result.{IfOk-from_err}
use Rattle.std.proofs.Common.{◌<◌, sym, subst}
use Rattle.xd_check_steps.proofs.AcceptedInTurnLemmas.{IsTextMade, made_grows, made_law}
use Rattle.xd_check_steps.proofs.states.text_state.Goals as goal
use Rattle.xd_check_steps.proofs.states.text_state.Goals.{In_ok-add_text_move}

made : (c : goal.In_ok-add_text_move) → IsTextMade c.args.auto.now c.add_state.new.self c.add_state-2.new.self c.add_text_move.new.self c.in_ok-end.end c.in_ok-start.start c.in_ok-words.words
made c = record {
  end_number = c.in_ok-end.ensures.ok.0;
  end_is = c.in_ok-end.ensures.ok.1;
  start_number = c.in_ok-start.ensures.ok.0;
  start_is = c.in_ok-start.ensures.ok.1;
  first = c.in_ok-end.ensures.extends;
  second = c.in_ok-start.ensures.extends;
  moved = c.in_ok-add_text_move.ensures.ok;
  others = c.in_ok-add_text_move.ensures.others;
}

pub returns : goal.returns
returns c =
    record {
      belongs = subst (λ n. state_number c.in_ok-start.start < n) (sym c.in_ok-add_text_move.ensures.others.states) c.in_ok-start.ensures.belongs;
      accepts = made_law _ _ _ _ _ _ _ (made c) c.args.characters.now c.in_ok-words.ensures;
      grows = made_grows _ _ _ _ _ _ _ (made c) c.len-states.ensures.closed;
    }

pub add_text_move-requires : goal.add_text_move-requires
add_text_move-requires c =
    record {
      from = c.in_ok-start.ensures.belongs;
      rest = (c.in_ok-start.ensures.extends).states c.in_ok-end.end c.in_ok-end.ensures.belongs;
    }

pub returns-in_err-end : goal.returns-in_err-end
returns-in_err-end c =
    let e = c.from_residual.ensures.0 in
    let r = c.from_residual.result in
    record {
      belongs = IfOk-from_err r _ e;
      accepts = IfOk-from_err r _ e;
      grows = IfOk-from_err r _ e;
    }

pub returns-in_err-start : goal.returns-in_err-start
returns-in_err-start c =
    let e = c.from_residual-in_err-start.ensures.0 in
    let r = c.from_residual-in_err-start.result in
    record {
      belongs = IfOk-from_err r _ e;
      accepts = IfOk-from_err r _ e;
      grows = IfOk-from_err r _ e;
    }

pub returns-in_err-words : goal.returns-in_err-words
returns-in_err-words c =
    let e = c.from_residual-in_err-words.ensures.0 in
    let r = c.from_residual-in_err-words.result in
    record {
      belongs = IfOk-from_err r _ e;
      accepts = IfOk-from_err r _ e;
      grows = IfOk-from_err r _ e;
    }

pub returns-in_err-add_text_move : goal.returns-in_err-add_text_move
returns-in_err-add_text_move c =
    let e = c.from_residual-in_err-add_text_move.ensures.0 in
    let r = c.from_residual-in_err-add_text_move.result in
    record {
      belongs = IfOk-from_err r _ e;
      accepts = IfOk-from_err r _ e;
      grows = IfOk-from_err r _ e;
    }
