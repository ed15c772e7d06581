use Rattle.std.proofs.Common.{◌++◌, List, ℕ, ap, ◌∙◌}
use Rattle.xd_meaning.specs.Violation.{goals_of}
use Rattle.xd_syntax.specs.Kept.{program_tree}
use Rattle.xd_proof.proofs.GoalLemmas.{goals_belong}
use Rattle.xd_proof_write.specs.SecondText.{second_text_of}
use Rattle.xd_uses.proofs.claims.upgraded.Goals as goal

pub second_text-requires : goal.second_text-requires
second_text-requires c = let g = c.in_ok-read.ensures.read in goals_belong c.read_proof.new.sound.types c.in_ok-read.read g.0 g.2

pub returns : goal.returns
returns c =
    let g = c.in_ok-read.ensures.read in
    record {
      program = program_tree c.in_ok-sound.sound;
      defined = c.in_ok-sound.ensures.program;
      goals = g.0;
      spelled = g.1;
      written = c.in_ok-second_text.ensures.text g.0 g.2 ∙ ap (λ (xs : List ℕ). xs ++ second_text_of (goals_of g.0)) c.new-text.ensures.items;
    }
