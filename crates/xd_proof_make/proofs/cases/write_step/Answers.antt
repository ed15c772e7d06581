use Rattle.std.proofs.Common.{length, false, ap, sym, subst, ◌∙◌}
use Rattle.xd_proof.specs.declared.steps.Step.TheVariants.{Split}
use Rattle.xd_proof_make.specs.Places.{new_numbers}
use Rattle.xd_proof_make.specs.Ordered.{IsStepWithin, written_step}
use Rattle.xd_proof_make.proofs.AreHeadMovesLemmas.{place_written}
use Rattle.xd_proof_make.proofs.cases.write_step.Goals as goal

pub returns-in-Split : goal.returns-in-Split
returns-in-Split c =
    let h = subst (IsStepWithin (length c.args.goals.now) (length c.args.heads.now)) c.in-Split.is c.requires in
    ap Split (place_written c.args.heads.now c.in-Split.head (record { number = 0; is_text = false }) h.0 h.1)
    ∙ ap (written_step (new_numbers c.args.heads.now) c.args.goals.now) (sym c.in-Split.is)
