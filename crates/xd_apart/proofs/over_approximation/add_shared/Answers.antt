use Rattle.std.proofs.Common.{◌<◌, ◌∙◌, ap, subst, sym}
use Rattle.std.specs.Option.{IfSome}
use Rattle.xd_auto.specs.Automaton.{state_number}
use Rattle.xd_apart.specs.OverApproximation.{EndsBelow, behind_to, inside_to}
use Rattle.xd_apart.proofs.DivideLemmas.{inside_below}
use Rattle.xd_apart.proofs.over_approximation.add_shared.Goals as goal
use Rattle.xd_apart.proofs.over_approximation.add_shared.Goals.{in-Some-inside+in_ok-same+in_ok-add_move, in_default-inside}

pub returns-clause-keeps : goal.returns-clause-keeps
returns-clause-keeps g c = λ v k. c.in_ok-add_move-2.ensures.keeps v (elim c.match-by.branch [
  | in-Some-inside+in_ok-same+in_ok-add_move w ↦ rw w.made-is (w.in_ok-add_move.ensures.keeps v k)
  | in_default-inside w ↦ rw w.made-is k
])

pub returns-clause-below : goal.returns-clause-below
returns-clause-below g c = λ n all own parts.
    let part = rw c.in-Some.is at c.in_ok-part.ensures in
    let behind = subst (EndsBelow n) (sym (c.to_behind.ensures.ends ∙ ap (behind_to c.args.by.behind) part.1)) (parts.0, own.1) in
    c.in_ok-add_move-2.ensures.below n (elim c.match-by.branch [
      | in-Some-inside+in_ok-same+in_ok-add_move w ↦
          let s = w.in-Some-inside.state in
          let ends = w.to_inside.ensures.ends ∙ ap (λ v. inside_to s (g.M.Leads.ends_of v)) w.in_ok-same.ensures ∙ ap (inside_to s) part.1 in
          let inside = inside_below n s (g.M.Leads.ends_of c.args.divided.now) (subst (λ o. IfSome o (λ t. state_number t < n)) w.in-Some-inside.is parts.1) own in
          rw w.made-is (w.in_ok-add_move.ensures.below n all (subst (EndsBelow n) (sym ends) inside))
      | in_default-inside w ↦ rw w.made-is all
    ]) behind
