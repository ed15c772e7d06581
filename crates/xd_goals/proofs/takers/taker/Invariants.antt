use Rattle.std.proofs.Common.{◌≡◌, false, length, take, MatchOption}
use Rattle.std.specs.List.{AllByRecursion}
use Rattle.xd_auto.specs.Kept.{AreRight}
use Rattle.xd_goals.specs.Trees.{IsTaker, takes}
use Rattle.xd_state_heads.specs.declared.heads.Side.{Side}
use Rattle.xd_goals.proofs.takers.taker.Given as goal

abbrev pub invariant-loop-place : goal.invariant-loop-place
invariant-loop-place l = record {
  right : AreRight l.setting.auto.now l.setting.store.now l.answers;
  found : MatchOption l.first (AllByRecursion (λ (s : Side). takes l.setting.auto.now l.setting.store.now l.inside l.behind s ≡ false) (take l.place l.setting.sides.now)) (IsTaker l.setting.auto.now l.setting.store.now l.setting.sides.now l.inside l.behind);
  end_is : l.place-end ≡ length l.setting.sides.now;
}
