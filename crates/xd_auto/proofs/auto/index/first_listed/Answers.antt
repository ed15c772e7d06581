use Rattle.std.proofs.Common.{◌≡◌, true, false, ltb, arith, rules}
use Rattle.std.specs.List.Sorted.{IsPartitionPoint}
use Rattle.std.proofs.lemmas.List.Sorted.{IsPartitionPoint-from_clause, IsPartitionedBy-ltb}
use Rattle.std.proofs.lemmas.Bool.{ltb-false}
use Rattle.xd_auto.proofs.IsIndexLemmas.{lists_lack, stands_before}
use Rattle.xd_auto.proofs.auto.index.first_listed.Goals as goal

pub returns-then-takes-clause-after : goal.returns-then-takes-clause-after
returns-then-takes-clause-after g c =
    let parts : IsPartitionPoint (λ y. ltb y c.args.from ≡ true) (λ y. ltb y c.args.from ≡ false) c.args.numbers.now c.partition_point-start.result =
    IsPartitionPoint-from_clause (λ y. ltb y c.args.from) c.args.numbers.now c.partition_point-start.result c.partition_point-start.ensures.partitioned
    (IsPartitionedBy-ltb (λ y. y) c.args.numbers.now c.args.from c.requires.numbers) (λ a r q k. search rules) in
    omega (arith, ltb-false _ _ (parts.1 c.loop-place.place 0 (omega arith) c.loop-place-test.true))

pub returns-then-takes-clause-lacks : goal.returns-then-takes-clause-lacks
returns-then-takes-clause-lacks g c = λ k d there low high.
    let parts : IsPartitionPoint (λ y. ltb y c.args.from ≡ true) (λ y. ltb y c.args.from ≡ false) c.args.numbers.now c.partition_point-start.result =
    IsPartitionPoint-from_clause (λ y. ltb y c.args.from) c.args.numbers.now c.partition_point-start.result c.partition_point-start.ensures.partitioned
    (IsPartitionedBy-ltb (λ y. y) c.args.numbers.now c.args.from c.requires.numbers) (λ a r q k. search rules) in
    lists_lack c.args.numbers.now g.M.Step.takes_name c.args.moves.now c.args.name.now c.args.from c.partition_point-start.result c.loop-place.place parts c.loop-place.invariant.passed k d there low
    (stands_before c.args.numbers.now c.loop-place.place k c.requires.numbers there high) (omega (arith, high))

pub returns-clause-lacks : goal.returns-clause-lacks
returns-clause-lacks g c = λ k d there low high.
    let parts : IsPartitionPoint (λ y. ltb y c.args.from ≡ true) (λ y. ltb y c.args.from ≡ false) c.args.numbers.now c.partition_point-start.result =
    IsPartitionPoint-from_clause (λ y. ltb y c.args.from) c.args.numbers.now c.partition_point-start.result c.partition_point-start.ensures.partitioned
    (IsPartitionedBy-ltb (λ y. y) c.args.numbers.now c.args.from c.requires.numbers) (λ a r q k. search rules) in
    lists_lack c.args.numbers.now g.M.Step.takes_name c.args.moves.now c.args.name.now c.args.from c.partition_point-start.result c.loop-place.place parts c.loop-place.invariant.passed k d there low
    (omega (arith, there.1)) high
