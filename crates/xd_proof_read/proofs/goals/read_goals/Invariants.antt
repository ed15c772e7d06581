use Rattle.std.proofs.Common.{◌≡◌, ◌+◌, take, map}
use Rattle.xd_proof_read.specs.Naming.{GrowsTypes, Names, SpellsTypeOf}
use Rattle.xd_proof_read.proofs.GoalFacts.{IsUnderWay}
use Rattle.xd_proof_read.proofs.goals.read_goals.Given as goal

abbrev pub invariant-loop-line : goal.invariant-loop-line
invariant-loop-line l = record {
  grows : GrowsTypes l.initial.sound l.sound;
  way : IsUnderWay (SpellsTypeOf l.initial.sound) (Names l.initial.sound l.naming) l.sound.types (l.before + 2) (take l.line-index (map (λ x. x.now) l.lines)) l.stage;
  number : l.number ≡ l.before + l.line-index;
}
