use Rattle.std.proofs.Common.{◌≡◌, eqb, sym, subst, ◌∙◌}
use Rattle.std.specs.List.{dedup}
use Rattle.std.proofs.lemmas.List.{take_all}
use Rattle.std.proofs.lemmas.List.Filters.{dedup_is}
use Rattle.std.proofs.lemmas.List.Kept.{Contains-dedup_nat, Contains-from_dedup}
use Rattle.std.proofs.lemmas.List.Sorted.{Contains-permutation, IsPermutation-sym}
use Rattle.std.proofs.lemmas.Map.Keys.{IsStrictlyIncreasing-dedup}
use Rattle.xd_auto.proofs.AreMatchingLemmas.{MatchNames, match_all, match_each, match_more, match_none}
use Rattle.xd_auto.proofs.auto.matching.matching_numbers.Goals as goal

pub returns-then-takes_others : goal.returns-then-takes_others
returns-then-takes_others g c = match_each g.M.Step.takes_name c.args.step.now c.args.moves.now c.in_ok-numbers.numbers.items c.in_ok-numbers.ensures.count c.in_ok-numbers.ensures.each

pub loop-name-init : goal.loop-name-init
loop-name-init g c = rw c.new-numbers.ensures.items (match_none g.N.Ord.cmp g.M.Step.takes_name c.args.moves.now)

pub loop-name-preserved : goal.loop-name-preserved
loop-name-preserved g c =
    match_more g.N.Ord.cmp g.M.Step.takes_name c.args.moves.now g.met.N.Name.exact c.names-name-items.result.now c.loop-name.name-index c.name-item.result c.loop-name.numbers.items c.add_matching.new.numbers.items
    c.loop-name-test.true c.name-item.is c.loop-name.invariant c.in_ok-add_matching.ensures

pub returns : goal.returns
returns g c =
    let moves = c.args.moves.now in
    let names = c.names-name-items.result.now in
    let numbers = c.loop-name.numbers.items in
    let sorted = c.sort.new.self.items in
    let is : c.dedup.new.self.items ≡ dedup eqb sorted = dedup_is _ _ _ c.dedup.ensures.filtered in
    let all : MatchNames g.N.Ord.cmp g.M.Step.takes_name moves names numbers =
    subst (λ ns. MatchNames g.N.Ord.cmp g.M.Step.takes_name moves ns numbers) (take_all c.loop-name.name-index names c.loop-name-test.false) c.loop-name.invariant in
    rw is
    (match_all g.N.Ord.cmp g.M.Step.takes_name moves c.args.step.now names numbers (dedup eqb sorted) all (c.names-name-items.ensures (sym c.takes_others.ensures ∙ c.if-takes_others.false))
    (IsStrictlyIncreasing-dedup sorted c.in_ok-sort.ensures.sorted)
    (λ k among. Contains-dedup_nat sorted k (Contains-permutation numbers sorted k c.sort.ensures.permutation among))
    (λ k among. Contains-permutation sorted numbers k (IsPermutation-sym numbers sorted c.sort.ensures.permutation) (Contains-from_dedup _ sorted k among)))
