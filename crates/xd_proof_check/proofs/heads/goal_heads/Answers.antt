use Rattle.std.proofs.Common.{subst}
use Rattle.xd_syntax.specs.Kept.{program_tree}
use Rattle.xd_syntax.specs.Program.{names_of}
use Rattle.xd_syntax.specs.Types.{tree}
use Rattle.xd_meaning.specs.Heads.{heads}
use Rattle.xd_proof_check.specs.GoalHeads.{AreHeadsOf}
use Rattle.xd_proof_check.proofs.HeadLemmas.{heads_alone, heads_kept}
use Rattle.xd_proof_check.proofs.heads.goal_heads.Goals as goal

pub returns-clause-heads : goal.returns-clause-heads
returns-clause-heads c =
    let p = c.args.program.now in
    let E = names_of (program_tree p) in
    let old = c.heads.new.self.cells in
    let new = c.heads_of_all.new.lister.cells in
    let id = c.args.goal.now.left in
    let left = c.in_ok-left.left.items in
    record {
      left = heads_alone p.types new E id left (heads_kept p.types old new c.in_ok-rights.ensures.keeps.cells left (heads E (tree p.types id)) c.in_ok-left.ensures.heads);
      rights = subst (λ ids. AreHeadsOf p.types new E ids c.in_ok-rights.rights.items) c.deref.ensures.value c.in_ok-rights.ensures.heads;
    }

pub heads_of_all-requires-clause-belong : goal.heads_of_all-requires-clause-belong
heads_of_all-requires-clause-belong c = rw c.deref.ensures.value c.requires.belongs.rights
