use Rattle.std.proofs.Common.{sym, ap, subst, ◌∙◌}
use Rattle.xd_syntax.specs.SoundTables.{main_parameter}
use Rattle.xd_syntax.specs.Kept.{ProgramTable, ProgramStands}
use Rattle.xd_command_programs.proofs.Inputs.{input_belongs}
use Rattle.xd_command_programs.proofs.RunLemmas.{no_test, some_test}
use Rattle.xd_command_programs.proofs.command.run.input_test.Goals as goal

pub acceptor-requires : goal.acceptor-requires
acceptor-requires c =
    let p = c.args.sound.now in
    let f = c.functions.ensures.functions ∙ ap (λ (p : ProgramTable). p.functions) c.program.ensures.program in
    let e = ap main_parameter (sym f) ∙ sym c.parameter_of_main.ensures ∙ c.in-Some.is in
    let s = subst ProgramStands c.program.ensures.program c.functions.ensures.stands in
    input_belongs p.types p.exprs p.functions c.in-Some.id s.functions e

pub returns-in-None-clause-test : goal.returns-in-None-clause-test
returns-in-None-clause-test c =
    let f = c.functions.ensures.functions ∙ ap (λ (p : ProgramTable). p.functions) c.program.ensures.program in
    let e = ap main_parameter (sym f) ∙ sym c.parameter_of_main.ensures ∙ c.in-None.is in
    no_test c.args.sound.now e

pub returns-in_ok-auto-in-Some-clause-test : goal.returns-in_ok-auto-in-Some-clause-test
returns-in_ok-auto-in-Some-clause-test c =
    let f = c.functions.ensures.functions ∙ ap (λ (p : ProgramTable). p.functions) c.program.ensures.program in
    let e = ap main_parameter (sym f) ∙ sym c.parameter_of_main.ensures ∙ c.in-Some.is in
    some_test c.args.sound.now c.in-Some.id c.in_ok-auto-in-Some.auto c.in_ok-auto-in-Some.state e c.in_ok-auto-in-Some.ensures.acceptor
