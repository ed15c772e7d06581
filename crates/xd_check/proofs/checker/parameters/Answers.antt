use Rattle.std.proofs.Common.{◌≡◌, ℕ, ◌-◌, ◌<◌, arith, List, ◌∷◌, length, get_or, drop, ap, sym, ◌∙◌}
use Rattle.std.proofs.lemmas.List.{drop_all, get_or_default}
use Rattle.xd_auto.specs.declared.auto.State.{State}
use Rattle.xd_syntax.specs.declared.program.Param.{Param}
use Rattle.xd_check_steps.specs.declared.variables.Variable.{Variable}
use Rattle.xd_check_steps.specs.InScope.{parameters_in_scope}
use Rattle.xd_check.proofs.AreStatesLemmas.{parameter_front}
use Rattle.xd_check.proofs.checker.parameters.Goals as goal

pub loop-number-init : goal.loop-number-init
loop-number-init c =
    c.new-variables.ensures ∙ sym (ap (λ (qs : List Param). parameters_in_scope qs (drop (length c.args.params.now) c.args.states.now)) (drop_all (length c.args.params.now) c.args.params.now (omega arith)))

pub loop-number-preserved : goal.loop-number-preserved
loop-number-preserved c =
    let n : ℕ = c.loop-number.number in
    let qs : List Param = c.args.params.now in
    let ss : List State = c.args.states.now in
    let q : Param = c.index-params-number.result in
    let s : State = get_or ss (n - 1) (record { number = 0 }) in
    let same = c.requires in
    let t = c.loop-number-test.true in
    let within = c.loop-number.auto.number in
    let short : n - 1 < length ss = omega arith in
    c.in_ok-push.ensures ∙ ap (λ (vs : List Variable). record { name = c.in_ok-share.field-0; state = s } ∷ vs) c.loop-number.invariant
    ∙ ap (λ x. record { name = x; state = s } ∷ parameters_in_scope (drop n qs) (drop n ss)) (c.in_ok-share.ensures ∙ ap (λ (y : Param). y.name) (sym c.index-params-number.is))
    ∙ sym (parameter_front qs ss n q s t within (omega arith) c.index-params-number.is (get_or_default ss (n - 1) (record { number = 0 }) s short))

pub returns : goal.returns
returns c =
    let z : c.loop-number.number ≡ 0 = omega arith in
    c.loop-number.invariant ∙ ap (λ n. parameters_in_scope (drop n c.args.params.now) (drop n c.args.states.now)) z
