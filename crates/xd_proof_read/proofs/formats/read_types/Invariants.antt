use Rattle.std.proofs.Common.{◌≡◌, take, map}
use Rattle.xd_proof_read.specs.Naming.{GrowsTypes, SpellsTypeOf}
use Rattle.xd_proof_read.proofs.TypeFacts.{AreTypesRead}
use Rattle.xd_proof_read.proofs.formats.read_types.Given as goal

abbrev pub invariant-loop-line : goal.invariant-loop-line
invariant-loop-line l = record {
  grows : GrowsTypes l.initial.sound l.sound;
  number : l.number ≡ l.line-index;
  read : AreTypesRead (SpellsTypeOf l.initial.sound) l.sound.types (take l.line-index (map (λ x. x.now) l.lines)) l.types.items;
}
