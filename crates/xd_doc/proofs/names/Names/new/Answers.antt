use Rattle.std.proofs.Common.{◌≡◌, true, ap, sym, subst, ◌∙◌, arith, vec_len}
use Rattle.std.specs.List.{list_any, AllByRecursion}
use Rattle.std.proofs.lemmas.List.{drop_all}
use Rattle.std.proofs.lemmas.List.Filters.{dedup_is}
use Rattle.std.proofs.lemmas.List.Kept.{IsStrictlySortedBy-dedup}
use Rattle.std.proofs.lemmas.List.Sorted.{list_any-IsPermutation}
use Rattle.xd_doc.proofs.NameLemmas.{list_any-dedup, filled}
use Rattle.xd_doc.proofs.names.Names.new.Goals as goal

pub returns-clause-named : goal.returns-clause-named
returns-clause-named g c x =
    let kept = ap (λ names. names.items) c.in_ok-names.ensures.ok ∙ dedup_is _ _ _ c.dedup.ensures.filtered in
    ap (λ names. list_any (λ name. g.N.PartialEq.eq name x) names) kept
    ∙ list_any-dedup g.N.PartialEq.eq (λ name. g.N.PartialEq.eq name x) (λ a b e. g.met.N.Eq.laws.congr a b x e) c.sort.new.self.items
    ∙ sym (list_any-IsPermutation _ _ _ c.sort.ensures.permutation)

pub returns-clause-valid : goal.returns-clause-valid
returns-clause-valid g c =
    let kept = ap (λ names. names.items) c.in_ok-names.ensures.ok ∙ dedup_is _ _ _ c.dedup.ensures.filtered in
    let seen = subst (AllByRecursion (λ n. g.N.Name.is_name n ≡ true)) c.deref-name-items.ensures.value (c.loop-name.invariant (rw (drop_all c.loop-name.name-index c.deref-name-items.result.now c.loop-name-test.false) tt)) in
    record {
      words = rw c.in_ok-names.ensures.ok seen;
      sorted = rw kept (IsStrictlySortedBy-dedup g.met.N.Ord.total g.met.N.Ord.matches_eq _ c.in_ok-sort.ensures.sorted);
      filled = rw kept (filled _ (vec_len c.args.names) c.sort.new.self.items (omega (arith, c.sort.ensures.len)) c.requires);
    }
