use Rattle.std.proofs.Common.{subst}
use Rattle.xd_syntax.specs.Kept.{program_tree}
use Rattle.xd_syntax.specs.Program.{ProgramTree}
use Rattle.xd_uses.specs.Values.{IsValueOn}
use Rattle.xd_uses.proofs.values.value_of.Goals as goal

pub returns : goal.returns
returns c =
    record {
      program = program_tree c.in_ok-sound.sound;
      defined = c.in_ok-sound.ensures.program;
      is = subst (λ (P : ProgramTree). IsValueOn P c.args.document.now c.args.fuel c.in_ok-value.value) c.in_ok-checked.ensures c.in_ok-value.ensures;
    }
