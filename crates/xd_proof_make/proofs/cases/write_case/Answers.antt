use Rattle.std.proofs.Common.{refl, sym, subst, ap, map, length, ◌∙◌}
use Rattle.std.specs.List.{AllByRecursion}
use Rattle.xd_proof_make.specs.Places.{new_numbers}
use Rattle.xd_proof_make.specs.Ordered.{IsStepWithin, written_step}
use Rattle.xd_proof_make.proofs.ReadCaseLemmas.{made_case, writable_steps}
use Rattle.xd_proof_make.proofs.cases.write_case.Goals as goal

pub write_steps-requires : goal.write_steps-requires
write_steps-requires c =
    subst (AllByRecursion (IsStepWithin (length c.args.goals.now) (length c.args.heads.now))) (sym c.deref.ensures.value)
    (writable_steps c.args.table.now.nodes (length c.args.goals.now) (length c.args.heads.now) c.args.choice.now c.in_ok-steps.steps.items c.requires c.in_ok-steps.ensures)

pub returns : goal.returns
returns c =
    made_case c.args.table.now.nodes (new_numbers c.args.heads.now) c.args.goals.now (length c.args.goals.now) (length c.args.heads.now) c.args.head c.args.choice.now _ c.in_ok-steps.steps.items c.requires c.in_ok-steps.ensures refl c.in_ok-atom.ensures.same c.share_atom.ensures.spelled
    (c.in_ok-steps-2.ensures ∙ ap (map (written_step (new_numbers c.args.heads.now) c.args.goals.now)) c.deref.ensures.value)
