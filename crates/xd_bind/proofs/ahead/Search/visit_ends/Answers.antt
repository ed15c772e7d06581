use Rattle.std.proofs.Common.{◌≡◌, false, true, get_or, subst, sym}
use Rattle.std.specs.Option.{IfSome}
use Rattle.xd_empty.specs.Parts.{is_marked}
use Rattle.xd_bind.specs.Search.{IsSideOf, is_behind, is_inside}
use Rattle.xd_bind.proofs.IsSearchLemmas.{Grows-trans, Grows-weaker}
use Rattle.xd_bind.proofs.ahead.Search.visit_ends.Goals as goal

pub returns-clause-grows : goal.returns-clause-grows
returns-clause-grows c =
    let free = is_marked c.args.free.now in
    let Side = IsSideOf free c.args.ends in
    Grows-trans Side _ _ _ _ _ _
    (Grows-weaker _ Side _ _ _ _
    (λ t k. is_behind (subst (λ o. IfSome o (λ s. free s ≡ true)) (sym c.in-Some.is) (subst (λ n. get_or c.args.free.now n false ≡ true) c.number.ensures k.0)) (sym k.1))
    c.in_ok-visit_if.ensures.grows)
    (Grows-weaker _ Side _ _ _ _
    (λ t k. is_inside (subst (λ n. get_or c.args.free.now n false ≡ true) c.number-2.ensures k.0) (rw k.1 c.in-Some.is))
    c.in_ok-visit_if-2.ensures.grows)
