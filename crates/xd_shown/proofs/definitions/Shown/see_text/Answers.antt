use Rattle.std.proofs.Common.{false, ap, subst, ◌∙◌}
use Rattle.xd_syntax.specs.Kept.{ProgramTable, ProgramStands}
use Rattle.xd_syntax.specs.ProperTables.{IsTable}
use Rattle.xd_shown.proofs.IsTableLemmas.{reads_back}
use Rattle.xd_shown.proofs.definitions.Shown.see_text.Goals as goal

pub returns : goal.returns
returns c =
    let e = c.program-program.ensures.program in
    let r = reads_back c.args.self.now.sound (subst (IsTable false) (c.types.ensures.types ∙ ap (λ (p : ProgramTable). p.types) e) c.see_table.ensures) (subst ProgramStands e c.types.ensures.stands).type_defs
    c.program-program.ensures.proper in
    record { text = r.0; within = r.1 }
