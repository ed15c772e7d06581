use Rattle.std.proofs.Common.{ap, sym, subst, ◌∙◌}
use Rattle.std.specs.List.{list_any}
use Rattle.std.specs.List.Sorted.{IsStrictlySortedBy}
use Rattle.xd_doc.proofs.NameLemmas.{bisected, found_or_not}
use Rattle.xd_doc.proofs.names.Names.has.Goals as goal

pub returns : goal.returns
returns g c =
    let items = c.deref-2.ensures.value ∙ ap (λ names. names.items) c.deref.ensures in
    let sorted = subst (IsStrictlySortedBy g.N.Ord.cmp) (sym items) c.requires.sorted in
    found_or_not _ _ _
    (c.is_ok.ensures.value
    ∙ bisected g.met.N.Ord.total g.met.N.Ord.matches_eq _ c.args.name.now _ sorted c.binary_search.ensures.bound c.binary_search.ensures.position
    ∙ ap (λ names. list_any (λ n. g.N.PartialEq.eq n c.args.name.now) names) items)
