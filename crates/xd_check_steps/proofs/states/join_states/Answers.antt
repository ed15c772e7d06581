use Rattle.std.proofs.lemmas.Result.{IfOk-from_err}
use Rattle.std.proofs.Common.{rules, ◌≡◌, vec_len, []}
use Rattle.std.proofs.lemmas.List.{nil_from_length}
use Rattle.xd_check_steps.proofs.AcceptedInTurnLemmas.{joined_begin, joined_end, joined_next, last_there}
use Rattle.xd_check_steps.proofs.states.join_states.Goals as goal

pub loop-state-init : goal.loop-state-init
loop-state-init c =
    let e = c.in_ok-made.ensures in
    joined_begin c.args.auto.now c.add_state.new.self c.args.states.items c.in_ok-made.made c.requires e.ok.0 e.ok.1 e.belongs e.extends e.keeps

pub concat-requires : goal.concat-requires
concat-requires c =
    record {
      one = last_there c.args.auto.now c.loop-state.auto' c.args.states.items c.loop-state.states.items c.pop.new.self.items c.in-Some.state c.loop-state.made c.loop-state.invariant c.in-Some.ensures.items;
      two = c.loop-state.invariant.belongs;
    }

pub loop-state-preserved : goal.loop-state-preserved
loop-state-preserved c =
    let e = c.in_ok-made-2.ensures in
    joined_next c.args.auto.now c.loop-state.auto' c.concat.new.self c.args.states.items c.loop-state.states.items c.pop.new.self.items c.in-Some.state c.loop-state.made c.in_ok-made-2.made
    c.loop-state.invariant c.in-Some.ensures.items e.ok e.belongs e.extends e.keeps

pub returns : goal.returns
returns c =
    record {
      belongs = c.loop-state.invariant.belongs;
      accepts =
          let none : c.loop-state.states.items ≡ [] = nil_from_length c.loop-state.states.items (let h : vec_len c.loop-state.states ≡ 0 = c.in_default.ensures.cases.0 in search rules) in
          joined_end c.args.auto.now c.loop-state.auto' c.args.states.items c.loop-state.states.items c.loop-state.made c.loop-state.invariant none;
      grows = c.loop-state.invariant.grows;
    }

pub returns-in_err-made : goal.returns-in_err-made
returns-in_err-made c =
    let e = c.from_residual.ensures.0 in
    let r = c.from_residual.result in
    record {
      belongs = IfOk-from_err r _ e;
      accepts = IfOk-from_err r _ e;
      grows = IfOk-from_err r _ e;
    }

pub returns-in_err-made-2 : goal.returns-in_err-made-2
returns-in_err-made-2 c =
    let e = c.from_residual-in_err-made-2.ensures.0 in
    let r = c.from_residual-in_err-made-2.result in
    record {
      belongs = IfOk-from_err r _ e;
      accepts = IfOk-from_err r _ e;
      grows = IfOk-from_err r _ e;
    }
