use Rattle.std.proofs.Common.{◌≡◌, true, false, ltb, arith, rules, ap, sym, ◌∙◌}
use Rattle.std.specs.List.Sorted.{IsPartitionPoint}
use Rattle.std.proofs.lemmas.List.Sorted.{IsPartitionPoint-from_clause, IsPartitionedBy-ltb}
use Rattle.std.proofs.lemmas.Bool.{ltb-true, ltb-false}
use Rattle.xd_sound.specs.Adopt.{place_among}
use Rattle.xd_sound.proofs.AdoptLaws.{place_is, place_at, rising_sorted}
use Rattle.xd_sound.proofs.adopt.place_of.Goals as goal

pub returns-then-originals-guess-clause-place : goal.returns-then-originals-guess-clause-place
returns-then-originals-guess-clause-place c =
    let xs = c.args.originals.now in
    sym (ap (place_among xs) (sym c.if-originals-guess.true) ∙ place_at xs c.requires c.args.guess c.if-guess-originals.true)

pub returns-clause-place : goal.returns-clause-place
returns-clause-place c =
    let xs = c.args.originals.now in
    let x = c.args.at in
    let k = c.partition_point.result in
    let parts : IsPartitionPoint (λ y. ltb y x ≡ true) (λ y. ltb y x ≡ false) xs k =
    IsPartitionPoint-from_clause (λ y. ltb y x) xs k c.partition_point.ensures.partitioned (IsPartitionedBy-ltb (λ y. y) xs x (rising_sorted xs c.requires)) (λ a r q k. search rules) in
    let b = c.partition_point.ensures.bound in
    sym (place_is xs x k (omega arith) (λ m h. ltb-true _ _ (parts.0 m 0 (omega arith) h)) (λ h. ltb-false _ _ (parts.1 k 0 (omega arith) h)))
