use Rattle.std.proofs.Common.{◌≡◌, ◌||◌, take, List, ap, arith, subst, sym, ◌∙◌}
use Rattle.std.specs.List.{list_any}
use Rattle.xd_doc.proofs.Bools.{and_left, and_right}
use Rattle.xd_auto.specs.declared.auto.State.{State}
use Rattle.xd_auto.specs.Automaton.{IsState, moves_at}
use Rattle.xd_boole.specs.Meaning.{any_accepts, element_of, move_takes}
use Rattle.xd_boole.specs.Groups.{is_side, label_side, side_accepts}
use Rattle.xd_boole.specs.Refusals.{LeadInside}
use Rattle.xd_points.specs.Meaning.{PointView}
use Rattle.xd_points.proofs.PatternMoveLemmas.{before_same}
use Rattle.xd_points.proofs.moves.refusing_moves.Goals as goal

pub moves_before-requires-clause-own : goal.moves_before-requires-clause-own
moves_before-requires-clause-own c =
    let b = c.args.automata.patterns.now in
    let here : IsState b.auto c.of.inside.pattern = subst (λ (p : PointView). IsState b.auto p.pattern) (sym c.of.view_is) c.requires.of.pattern in
    omega (arith, here, c.args.automata.serve.count)

pub near_moves-requires-clause-moves : goal.near_moves-requires-clause-moves
near_moves-requires-clause-moves c =
    let t = c.args.automata.patterns.now.taken.auto in
    subst (LeadInside t) (sym c.deref-2.ensures.value) (c.in_ok-moves-2.ensures.all (λ m. is_side t (label_side m)) c.in_ok-moves.ensures.inside)

pub returns : goal.returns
returns c =
    let a = c.args.automata.lefts.now in
    let b = c.args.automata.patterns.now in
    let t = b.taken.auto in
    let left = c.args.parts.left in
    let pattern = c.args.parts.pattern in
    let rights : List State = c.args.refusing.of.now.rights in
    let state : State = c.args.refusing.of.now.pattern in
    let rights_are : c.deref.result.now ≡ rights = c.deref.ensures.value ∙ ap (λ (p : PointView). p.rights) c.of.view_is in
    let pattern_is : c.of.inside.pattern ≡ state = ap (λ (p : PointView). p.pattern) c.of.view_is in
    record {
      taken = λ q has e.
          let by_left = and_left (side_accepts a q.content q.rest left) (side_accepts b.auto q.content q.rest pattern) e in
          let by_pattern = and_right (side_accepts a q.content q.rest left) (side_accepts b.auto q.content q.rest pattern) e in
          c.in_ok-moves-3.ensures.taken q by_left ∙ ap (list_any (move_takes t q)) c.deref-2.ensures.value
          ∙ c.in_ok-moves-2.ensures.taken q by_pattern
          ∙ c.in_ok-moves.ensures.taken q has
          ∙ ap (λ (rs : List State). any_accepts t rs (element_of q) || list_any (move_takes t q) (take c.args.refusing.place (moves_at t c.of.inside.pattern).labels)) rights_are
          ∙ ap (λ (s : State). any_accepts t rights (element_of q) || list_any (move_takes t q) (take c.args.refusing.place (moves_at t s).labels)) pattern_is
          ∙ ap (λ w. any_accepts t rights (element_of q) || w) (before_same a b c.args.automata.serve state c.args.refusing.place q);
      inside = c.in_ok-moves-3.ensures.all (λ m. is_side t (label_side m)) (subst (LeadInside t) (sym c.deref-2.ensures.value) (c.in_ok-moves-2.ensures.all (λ m. is_side t (label_side m)) c.in_ok-moves.ensures.inside));
    }
