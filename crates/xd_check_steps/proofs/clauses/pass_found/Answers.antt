use Rattle.xd_auto.specs.declared.auto.State.{State}
use Rattle.xd_check_steps.specs.States.{with_found}
use Rattle.std.proofs.Common.{ap, refl, sym, ◌∙◌, ◌≡◌, Option, Some, None}
use Rattle.xd_check_steps.proofs.clauses.pass_found.Goals as goal

not_none : (o : Option State) (s : State) → o ≡ Some s → o ≡ None → ⊥
not_none (Some r) s e f = absurd (cc)
not_none None s e f = absurd (cc)

pub returns-in_ok-pass_on-in-Some : goal.returns-in_ok-pass_on-in-Some
returns-in_ok-pass_on-in-Some c =
    record {
      stands = c.in_ok-pass_on-in-Some.ensures.stands;
      remains = λ E P made a d.
          let x = c.in_ok-pass_on-in-Some.ensures.remains E P made a d in
          ((λ m. let y = x.0 m in (y.0, λ n. y.1 refl)), (λ m. x.1 (m.0, λ e. m.1 (not_none c.args.found c.in-Some.state c.in-Some.is))));
      states = c.in_ok-push-in-Some.ensures.items ∙ sym (ap (with_found c.args.states.now.items) c.in-Some.is);
    }

pub returns-in_ok-pass_on-in-None : goal.returns-in_ok-pass_on-in-None
returns-in_ok-pass_on-in-None c =
    record {
      stands = c.in_ok-pass_on-in-None.ensures.stands;
      remains = λ E P made a d.
          let x = c.in_ok-pass_on-in-None.ensures.remains E P made a d in
          ((λ m. let y = x.0 m in (y.0, λ n. absurd (n c.in-None.is))), (λ m. x.1 (m.0, λ e. absurd (cc))));
      states = sym (ap (with_found c.args.states.now.items) c.in-None.is);
    }
