use Rattle.xd_auto.specs.Automaton.{accepts}
use Rattle.std.proofs.lemmas.Result.{IfOk-from_err}
use Rattle.std.proofs.Common.{◌≡◌, false, None, sym, ◌∙◌, subst, ◌↔◌, true}
use Rattle.xd_check_steps.specs.InScope.{AcceptedBy, state_of}
use Rattle.xd_check_steps.proofs.GrowsLemmas.{state_there, grows_none}
use Rattle.xd_check_steps.proofs.AcceptedInTurnLemmas.{never, new_moves}
use Rattle.xd_check_steps.proofs.states.variable_state.Goals as goal

pub returns-in-Some : goal.returns-in-Some
returns-in-Some c =
    record {
      belongs = state_there c.args.auto.now c.args.variables.now c.args.name.now c.in-Some.state c.requires (sym c.find.ensures ∙ c.in-Some.is);
      accepts = λ d. subst (λ o. (accepts c.args.auto.now d c.in-Some.state ≡ true) ↔ AcceptedBy c.args.auto.now o d) (sym c.in-Some.is ∙ c.find.ensures) ((λ m. m), (λ m. m));
      grows = grows_none c.args.auto.now;
    }

pub returns-in_ok-add_state-in-None : goal.returns-in_ok-add_state-in-None
returns-in_ok-add_state-in-None c =
    record {
      belongs = c.in_ok-add_state-in-None.ensures.belongs;
      accepts = λ d.
          let e = c.in_ok-add_state-in-None.ensures.ok in
          let none : state_of c.args.variables.now c.args.name.now ≡ None = sym c.find.ensures ∙ c.in-None.is in (
            (λ h. absurd (never c.add_state.new.self c.in_ok-add_state-in-None.field-0 (new_moves c.args.auto.now c.add_state.new.self c.in_ok-add_state-in-None.field-0 false e.0 e.1) d h)),
            (λ h. absurd (let k : AcceptedBy c.args.auto.now None d = subst (λ o. AcceptedBy c.args.auto.now o d) none h in k)),
          );
      grows = record { extends = c.in_ok-add_state-in-None.ensures.extends; keeps = c.in_ok-add_state-in-None.ensures.keeps };
    }

pub returns-in_err-add_state-in-None : goal.returns-in_err-add_state-in-None
returns-in_err-add_state-in-None c =
    let e = c.from_residual.ensures.0 in
    let r = c.from_residual.result in
    record {
      belongs = IfOk-from_err r _ e;
      accepts = IfOk-from_err r _ e;
      grows = IfOk-from_err r _ e;
    }
