use Rattle.std.proofs.Common.{◌≡◌, List, set, sym, ◌∙◌, ap, subst}
use Rattle.xd_auto.specs.declared.auto.State.{State}
use Rattle.xd_auto.specs.Automaton.{state_number}
use Rattle.xd_boole.specs.declared.merging.Compared.{Compared}
use Rattle.xd_boole.specs.Merging.{AreLike, AreStandIns, stand_in}
use Rattle.xd_boole.proofs.MergeLemmas.{stands_for}
use Rattle.xd_boole.proofs.merging.stand_for.Goals as goal

pub returns-then-are_like : goal.returns-then-are_like
returns-then-are_like c =
    let a = c.args.auto.now in
    let same : List State = c.args.same.now.items in
    let compared : Compared = record { one = c.args.state; other = c.args.other } in
    let like : AreLike a same compared = subst (λ xs. AreLike a xs compared) c.deref.ensures.value (c.are_like.ensures c.if-are_like.true) in
    let standing : c.stand_in-standing.result ≡ stand_in same c.args.other = c.stand_in-standing.ensures ∙ ap (λ xs. stand_in xs c.args.other) c.deref-then-are_like.ensures.value in
    subst (λ n. AreStandIns a (set same n c.stand_in-standing.result)) (sym c.number.ensures)
    (subst (λ s. AreStandIns a (set same (state_number c.args.state) s)) (sym standing) (stands_for a same c.requires.stand compared like c.requires.state c.requires.other))
