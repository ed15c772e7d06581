use Rattle.std.proofs.Common.{◌≡◌, ◌∙◌, ◌&&◌, ◌++◌, ◌∷◌, [], Bool, ap, length, refl, rules}
use Rattle.std.specs.Prelude.{not}
use Rattle.std.specs.List.{list_any}
use Rattle.xd_auto.specs.Automaton.{moves_at}
use Rattle.xd_boole.specs.Meaning.{is_last_in, less}
use Rattle.xd_apart.specs.declared.over_approximation.OverApproximation.{OverApproximation}
use Rattle.xd_apart.specs.OverApproximation.{copied}
use Rattle.xd_apart.proofs.StepLemmas.{point_approximation}
use Rattle.xd_apart.proofs.over_approximation.OverApproximation.add_point.Goals as goal

pub returns-clause-approximation : goal.returns-clause-approximation
returns-clause-approximation c =
    let l = c.args.self.now in
    let b = c.args.auto.now in
    let m : OverApproximation = record { lefts = l.lefts; over = c.add_copy.new.over; points = c.push.new.self; numbers = c.put.new.numbers } in
    let over : m.over ≡ l.over ++ copied ((moves_at l.over c.args.left).last && not (list_any (is_last_in b) c.args.rights.now)) (moves_at l.over c.args.left) ∷ [] =
    c.in_ok-state.ensures.added ∙ ap (λ (last : Bool). l.over ++ copied last (moves_at l.over c.args.left) ∷ []) c.is_last-last.ensures in
    let points : c.push.new.self.items ≡ l.points.items ++ less c.args.left c.args.rights.now ∷ [] = search rules in
    let number : c.len-number.result ≡ length l.points.items = search rules in
    point_approximation b l m c.args.left c.args.rights.now c.len-number.result c.requires.approximation c.requires.left c.requires.rights refl over points number (rw c.requires.key at c.in_ok-put.ensures)
