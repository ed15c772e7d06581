use Rattle.std.proofs.Common.{◌≡◌, ◌+◌, ◌≤◌, length}
use Rattle.xd_syntax.specs.Kept.{program_tree, AddsTypes}
use Rattle.xd_syntax.specs.ShallowTables.{AddsWithin}
use Rattle.xd_syntax.specs.TypeDepth.{depth}
use Rattle.xd_syntax.specs.Types.{tree}
use Rattle.xd_sound.proofs.AdoptLaws.{AreCopied}
use Rattle.xd_sound.proofs.sound.SoundProgram.copy_in.Given as goal

abbrev pub invariant-loop-place : goal.invariant-loop-place
invariant-loop-place l = record {
  copied : AreCopied l.types l.self.types l.reached l.copies.items;
  each : l.place ≡ length l.copies.items;
  few : length l.self.types ≤ length l.initial.self.types + l.place;
  ends : l.place-end ≡ length l.reached;
  adds : AddsTypes l.initial.self l.self;
  same : program_tree l.self ≡ program_tree l.initial.self;
  within : AddsWithin (depth (tree l.types l.fn.id)) l.initial.self.types l.self.types;
}
