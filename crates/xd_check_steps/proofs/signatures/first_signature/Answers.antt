use Rattle.std.proofs.Common.{◌≡◌, ℕ, ◌+◌, List, ◌∷◌, ◌++◌, length, get_or, take, drop, ap, sym, ◌∙◌, arith}
use Rattle.std.proofs.lemmas.List.{drop_more, length-take-le, take-append-drop}
use Rattle.xd_auto.specs.declared.auto.State.{State}
use Rattle.xd_check_steps.proofs.signatures.first_signature.Goals as goal

pub returns : goal.returns
returns c =
    let ss : List State = c.args.states.now in
    let n : ℕ = c.args.count in
    let none : State = record { number = 0 } in
    let same : c.in_ok-parameters.parameters.items ≡ take n ss = c.in_ok-parameters.ensures.items_if_clones_equal (λ x y e. e) in
    record {
      parameters = ap length same ∙ length-take-le n ss (omega arith);
      states = sym (take-append-drop n ss) ∙ ap (λ xs. take n ss ++ xs) (drop_more ss n none c.requires) ∙ ap (λ xs. xs ++ get_or ss n none ∷ drop (n + 1) ss) (sym same);
    }
