use Rattle.std.proofs.Common.{◌≡◌, ◌∷◌, ◌++◌, List, ℕ, ap, subst, ◌∙◌}
use Rattle.xd_meaning.specs.Violation.{Lined, goals_of}
use Rattle.xd_meaning.specs.Consistent.{ClaimHolds}
use Rattle.xd_syntax.specs.Kept.{program_tree}
use Rattle.xd_syntax.specs.NameFaults.{known_types}
use Rattle.xd_syntax.specs.Program.{ProgramTree, names_of}
use Rattle.xd_proof.specs.Goals.{AreGoalsAt}
use Rattle.xd_proof.proofs.GoalLemmas.{goals_belong}
use Rattle.xd_proof_check.proofs.AcceptLemmas.{goals_stay}
use Rattle.xd_proof_write.specs.ClaimText.{claim_text}
use Rattle.std.specs.List.{AllByRecursion}
use Rattle.xd_uses.proofs.claims.proved_claim.Goals as goal

pub accepts-requires : goal.accepts-requires
accepts-requires c = let g = c.in_ok-read.ensures.read in goals_belong c.read_proof.new.sound.types c.in_ok-read.read g.0 g.2

pub claim_line-requires : goal.claim_line-requires
claim_line-requires c =
    let g = c.in_ok-read.ensures.read in
    let old = c.read_proof.new.sound.types in
    let new = c.accepts.new.sound.types in
    goals_belong new c.in_ok-read.read g.0 (goals_stay old new c.in_ok-accepts.ensures.adds.types c.in_ok-read.read g.0 g.2)

pub returns : goal.returns
returns c =
    let g = c.in_ok-read.ensures.read in
    let old = c.read_proof.new.sound.types in
    let new = c.accepts.new.sound.types in
    let stay = goals_stay old new c.in_ok-accepts.ensures.adds.types c.in_ok-read.read g.0 g.2 in
    record {
      program = program_tree c.in_ok-sound.sound;
      defined = c.in_ok-sound.ensures.program;
      goals = g.0;
      spelled = g.1;
      holds = subst (λ (Q : ProgramTree). AllByRecursion (ClaimHolds (names_of Q)) (goals_of g.0)) c.in_ok-read.ensures.same (c.in_ok-accepts.ensures.holds g.0 g.2 c.in-Accepted.is);
      written = λ first others e.
          c.in_ok-claim_line-in-Accepted.ensures.text first others (subst (AreGoalsAt new c.in_ok-read.read) e stay)
          ∙ ap (λ (xs : List ℕ). xs ++ claim_text first.goal) c.new-claim.ensures.items;
    }
