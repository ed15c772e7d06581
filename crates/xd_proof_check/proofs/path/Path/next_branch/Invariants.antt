use Rattle.std.proofs.Common.{◌≡◌, vec_len}
use Rattle.xd_proof_check.specs.Paths.{HasRoom, IsPath, KeepsRoom, turned, turns_of}
use Rattle.xd_proof_check.proofs.path.Path.next_branch.Given as goal

abbrev pub invariant-loop-turn : goal.invariant-loop-turn
invariant-loop-turn l = record {
  path : IsPath l.contents l.rests l.self;
  room : HasRoom l.contents l.rests l.self;
  turns : turned (turns_of l.self) ≡ turned (turns_of l.initial.self);
  keeps : KeepsRoom l.initial.self l.self;
}

abbrev pub decreases-loop-turn : goal.decreases-loop-turn
decreases-loop-turn l = vec_len l.self.turns
