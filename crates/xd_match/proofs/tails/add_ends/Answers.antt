use Rattle.std.proofs.Common.{ℕ, ◌≡◌, ◌<◌, Some, arith, length, ap, sym, subst, ◌∙◌}
use Rattle.std.specs.Option.{IfSome}
use Rattle.std.proofs.lemmas.List.{length-set}
use Rattle.xd_auto.specs.declared.auto.State.{State}
use Rattle.xd_auto.specs.Automaton.{state_number}
use Rattle.xd_sound.specs.Graph.{HasEdge}
use Rattle.xd_sound.proofs.Graphs.{with_edge}
use Rattle.xd_match.specs.Tails.{HasEdgeTo}
use Rattle.xd_match.proofs.IsSpreadLemmas.{edge_kept, edge_there}
use Rattle.xd_match.proofs.tails.add_ends.Goals as goal

pub returns-in_default : goal.returns-in_default
returns-in_default c =
    let old = c.args.behind.now in
    let new = c.add.new.self in
    let to = state_number c.args.state in
    let ends = c.args.ends in
    let e : new ≡ with_edge old (state_number ends.behind) to =
    c.in_ok-add.ensures ∙ ap (λ n. with_edge old n c.number-2.result) c.number.ensures ∙ ap (with_edge old (state_number ends.behind)) c.number-2.ensures in
    record {
      count = ap length e ∙ length-set old (state_number ends.behind) _;
      kept = edge_kept old new (state_number ends.behind) to e c.requires.ends.0;
      added = (
        edge_there old new (state_number ends.behind) to e c.requires.ends.0,
        subst (λ o. IfSome o (HasEdgeTo new c.args.state)) (sym c.in_default.is) tt,
      );
    }

pub returns : goal.returns
returns c =
    let old = c.args.behind.now in
    let one = c.add.new.self in
    let new = c.add-2.new.self in
    let to = state_number c.args.state in
    let ends = c.args.ends in
    let inside = c.in-Some.inside in
    let is : Some inside ≡ ends.inside = sym c.in-Some.is in
    let e : one ≡ with_edge old (state_number ends.behind) to =
    c.in_ok-add.ensures ∙ ap (λ n. with_edge old n c.number-2.result) c.number.ensures ∙ ap (with_edge old (state_number ends.behind)) c.number-2.ensures in
    let same : length one ≡ length old = ap length e ∙ length-set old (state_number ends.behind) _ in
    let there : state_number inside < length old = subst (λ o. IfSome o (λ (t : State). state_number t < length old)) (sym is) c.requires.ends.1 in
    let within : state_number inside < length one = omega (arith, there, same) in
    let f : new ≡ with_edge one (state_number inside) to =
    c.in_ok-add-2.ensures ∙ ap (λ n. with_edge one n c.number-4.result) c.number-3.ensures ∙ ap (with_edge one (state_number inside)) c.number-4.ensures in
    let first : (v w : ℕ) → HasEdge old v w → HasEdge one v w = edge_kept old one (state_number ends.behind) to e c.requires.ends.0 in
    let second : (v w : ℕ) → HasEdge one v w → HasEdge new v w = edge_kept one new (state_number inside) to f within in
    record {
      count = ap length f ∙ length-set one (state_number inside) _ ∙ same;
      kept = λ v w k. second v w (first v w k);
      added = (
        second _ _ (edge_there old one (state_number ends.behind) to e c.requires.ends.0),
        subst (λ o. IfSome o (HasEdgeTo new c.args.state)) is (edge_there one new (state_number inside) to f within),
      );
    }
