use Rattle.std.proofs.Common.{◌≡◌, false, refl, ap, subst, ◌∙◌}
use Rattle.xd_syntax.specs.Kept.{ProgramTable, program_tree}
use Rattle.xd_syntax.specs.Program.{names_of}
use Rattle.xd_syntax.specs.ProperTables.{IsTable}
use Rattle.xd_syntax.proofs.KeptLaws.{along}
use Rattle.xd_sound.specs.TypeNames.{meanings}
use Rattle.xd_patterns.proofs.ServesLemmas.{serves_defined}
use Rattle.xd_patterns.proofs.compiler.PatternCompiler.sources_of.Goals as goal

pub returns-clause-sound : goal.returns-clause-sound
returns-clause-sound c = c.program-program.ensures.sound

pub returns-clause-types : goal.returns-clause-types
returns-clause-types c = c.types-types.ensures.types ∙ ap (λ (r : ProgramTable). r.types) c.program-program.ensures.program

pub returns-clause-patterns : goal.returns-clause-patterns
returns-clause-patterns c = c.patterns.ensures.patterns ∙ ap (λ (r : ProgramTable). r.patterns) c.program-program.ensures.program

pub returns-clause-table : goal.returns-clause-table
returns-clause-table c = subst (IsTable false) (c.types-types.ensures.types ∙ ap (λ (r : ProgramTable). r.types) c.program-program.ensures.program) c.see_table.ensures

pub returns-clause-names : goal.returns-clause-names
returns-clause-names c =
    let q = c.program-program.result.now in
    subst (λ (r : ProgramTable). meanings c.types-types.result.now c.type_defs.result.now ≡ names_of (program_tree r)) c.program-program.ensures.program
    (along q c.types-types.result.now c.type_defs.result.now (λ t d. meanings t d ≡ names_of (program_tree q)) c.types-types.ensures.types c.type_defs.ensures.type_defs refl)

pub returns-clause-defined : goal.returns-clause-defined
returns-clause-defined c =
    serves_defined c.args.sound.now c.program-program.result.now c.args.self.now c.types-types.result.now c.type_defs.result.now c.program-program.ensures.program c.types-types.ensures.types c.type_defs.ensures.type_defs
    c.types-types.ensures.stands c.program-program.ensures.sound c.program-program.ensures.proper c.requires
