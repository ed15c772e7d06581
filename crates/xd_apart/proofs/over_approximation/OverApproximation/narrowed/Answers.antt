use Rattle.std.proofs.Common.{◌≡◌, ◌∙◌, ◌++◌, ◌∷◌, [], ap, rules, subst, sym}
use Rattle.std.specs.List.{AllByRecursion}
use Rattle.xd_auto.specs.Automaton.{IsState, state_number}
use Rattle.xd_boole.specs.Meaning.{less, with_states}
use Rattle.xd_boole.specs.Points.{point_at}
use Rattle.xd_apart.specs.OverApproximation.{StandsFor, left_states}
use Rattle.xd_apart.proofs.StepLemmas.{more_rights_there, narrows_by}
use Rattle.xd_apart.proofs.over_approximation.OverApproximation.narrowed.Goals as goal

pub find_or_add-requires-clause-rights : goal.find_or_add-requires-clause-rights
find_or_add-requires-clause-rights c =
    let l = c.args.self.now in
    let b = c.args.auto.now in
    let p = point_at l.points.items (state_number c.args.state) in
    let rights : c.deref-2.result.now ≡ with_states (p.rights ++ c.args.added ∷ []) [] = search rules in
    subst (AllByRecursion (IsState b)) (sym rights) (more_rights_there (IsState b) p.rights c.args.added (c.requires.approximation.approximates.there (state_number c.args.state) c.requires.state).rights c.requires.added)

pub returns-clause-narrows : goal.returns-clause-narrows
returns-clause-narrows c =
    let l = c.args.self.now in
    let b = c.args.auto.now in
    let p = point_at l.points.items (state_number c.args.state) in
    let more = c.find_or_add.new.self.points.items in
    let rights : c.deref-2.result.now ≡ with_states (p.rights ++ c.args.added ∷ []) [] = search rules in
    let left : c.point.inside.left ≡ p.left = search rules in
    narrows_by (left_states c.find_or_add.new.self) b more p c.args.state c.in_ok-made.made c.args.added
    (subst (λ q. StandsFor more q c.in_ok-made.made) (ap (λ x. less x c.deref-2.result.now) left ∙ ap (λ xs. less p.left xs) rights) c.in_ok-made.ensures.state)
    (c.in_ok-made.ensures.grows.points.same (state_number c.args.state) c.requires.state)
