use Rattle.std.proofs.Common.{subst}
use Rattle.xd_base.specs.Outside.{HasRisen}
use Rattle.xd_syntax.specs.Kept.{program_tree}
use Rattle.xd_command_programs.specs.Run.{AnswersMain, input_type}
use Rattle.xd_command_programs.specs.Running.{IsInputTest}
use Rattle.xd_command_programs.proofs.RunLemmas.{without_test}
use Rattle.xd_command_documents.proofs.Steps.{no-memory}
use Rattle.xd_command_programs.proofs.command.run.run_accepted.Goals as goal

pub returns-in_ok-no_main-in-None : goal.returns-in_ok-no_main-in-None
returns-in_ok-no_main-in-None g c =
    let P = program_tree c.args.checked.now in
    let from = g.H.Shelf.faults c.args.shelf.now in
    without_test (g.H.Shelf.holds c.args.shelf.now) (HasRisen from from) c.args.document.now c.args.fuel P _ (subst (IsInputTest P) c.in-None.is c.requires.test) c.in_ok-no_main-in-None.ensures

pub run_main-requires-clause-test : goal.run_main-requires-clause-test
run_main-requires-clause-test g c = subst (IsInputTest (program_tree c.args.checked.now)) c.in-Some.is c.requires.test

pub returns-in_err-no_main-in-None : goal.returns-in_err-no_main-in-None
returns-in_err-no_main-in-None g c =
    let P = program_tree c.args.checked.now in
    let from = g.H.Shelf.faults c.args.shelf.now in
    let main = AnswersMain (g.H.Shelf.holds c.args.shelf.now) (HasRisen from from) c.args.document.now c.args.fuel P (input_type P) in
    no-memory main main c.from_residual.result c.from_residual.ensures.1
