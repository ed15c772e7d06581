use Rattle.std.proofs.lemmas.Result.{IfOk-from_err}
use Rattle.std.proofs.Common.{◌≡◌, ◌↔◌, ◌⊎◌, inl, inr, true, false, Bool, ◌||◌, refl, sym, subst, List, [], ◌∷◌}
use Rattle.std.specs.List.{AllByRecursion, list_any}
use Rattle.xd_doc.specs.Document.{Document}
use Rattle.xd_doc.proofs.Lists.{all_get}
use Rattle.xd_auto.specs.declared.auto.State.{State}
use Rattle.xd_auto.specs.Automaton.{Automaton, IsState, accepts}
use Rattle.xd_check_steps.specs.States.{AcceptedBySome}
use Rattle.xd_check_steps.proofs.states.unite_states.Goals as goal

or_cases : (x y : Bool) → ((x || y) ≡ true) ↔ ((x ≡ true) ⊎ (y ≡ true))
or_cases true y = ((λ e. inl refl), (λ e. refl))
or_cases false y = ((λ e. inr e), (λ e. elim e [ inl f ↦ absurd (cc) | inr f ↦ f ]))

some_accepts : (a : Automaton) (ss : List State) (d : Document) → (list_any (accepts a d) ss ≡ true) ↔ AcceptedBySome a ss d
some_accepts a [] d = ((λ e. cc), (λ x. absurd x))
some_accepts a (s ∷ ss) d =
    let o = or_cases (accepts a d s) (list_any (accepts a d) ss) in
    let i = some_accepts a ss d in (
      (λ e. elim (o.0 e) [ inl y ↦ inl y | inr y ↦ inr (i.0 y) ]),
      (λ t. o.1 (elim t [ inl y ↦ inl y | inr y ↦ inr (i.1 y) ])),
    )

pub unite-requires : goal.unite-requires
unite-requires c = λ k d lt. all_get (IsState c.args.auto.now) c.deref.result.now k d (subst (AllByRecursion (IsState c.args.auto.now)) (sym c.deref.ensures.value) c.requires) lt

pub returns : goal.returns
returns c =
    record {
      belongs = c.in_ok-unite.ensures.belongs;
      accepts = λ d.
          subst (λ ss. (accepts c.unite.new.self d c.in_ok-unite.field-0 ≡ true) ↔ AcceptedBySome c.args.auto.now ss d) c.deref.ensures.value
          (subst (λ b. (b ≡ true) ↔ AcceptedBySome c.args.auto.now c.deref.result.now d) (sym (c.in_ok-unite.ensures.ok d)) (some_accepts c.args.auto.now c.deref.result.now d));
      grows = record { extends = c.in_ok-unite.ensures.extends; keeps = c.in_ok-unite.ensures.keeps };
    }

pub returns-in_err-unite : goal.returns-in_err-unite
returns-in_err-unite c =
    let e = c.from_residual.ensures.0 in
    let r = c.from_residual.result in
    record {
      belongs = IfOk-from_err r _ e;
      accepts = IfOk-from_err r _ e;
      grows = IfOk-from_err r _ e;
    }
