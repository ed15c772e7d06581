use Rattle.std.proofs.lemmas.Result.{IfOk-from_err}
use Rattle.std.proofs.Common.{List, ◌∙◌}
use Rattle.xd_doc.specs.Document.{Document}
use Rattle.xd_syntax.specs.Kept.{program_tree}
use Rattle.xd_check_steps.specs.declared.lines.FoundLine.{FoundLine}
use Rattle.xd_syntax.specs.CheckFaults.{LinesOfFunctions}
use Rattle.xd_syntax.specs.Program.{ProgramTree}
use Rattle.xd_check_steps.specs.FoundLines.{lines_of, told_size}
use Rattle.xd_check_steps.proofs.AddsFoundLemmas.{lines_added}
use Rattle.xd_check.specs.Walked.{SeenInFunctions}
use Rattle.xd_check.proofs.Outcomes.{lines_sorted}
use Rattle.xd_check.proofs.outcome.tell_all.Goals as goal

pub in_functions-requires : goal.in_functions-requires
in_functions-requires c = record { ready = c.requires.ready; known = c.requires.known }

pub returns : goal.returns
returns c =
    record {
      told =
          let ds : List Document = c.in_functions.new.store in
          let ls : List FoundLine = c.deref.result.now in
          let P : ProgramTree = program_tree c.args.checker.now.sound in
          let added = lines_added (SeenInFunctions P P.functions) (LinesOfFunctions told_size P P.functions) (λ x h. h.0) c.in_ok-in_functions.ensures.found in
          let s = lines_sorted P ds c.args.findings.now.lines.items c.in_functions.new.findings.lines.items ls c.requires.lines added (c.deref.ensures.value ∙ c.in_ok-sort_lines.ensures) in
          (lines_of ds ls, s.lines, c.in_ok-told.ensures.faults ds s.belong, c.in_ok-told.ensures.warnings ds);
      keeps = c.in_ok-in_functions.ensures.keeps;
    }

pub returns-in_err-in_functions : goal.returns-in_err-in_functions
returns-in_err-in_functions c =
    let e = c.from_residual.ensures.0 in
    let r = c.from_residual.result in
    record {
      told = IfOk-from_err r _ e;
      keeps = c.in_functions.ensures.keeps;
    }

pub returns-in_err-sort_lines : goal.returns-in_err-sort_lines
returns-in_err-sort_lines c =
    let e = c.from_residual-in_err-sort_lines.ensures.0 in
    let r = c.from_residual-in_err-sort_lines.result in
    record {
      told = IfOk-from_err r _ e;
      keeps = c.in_ok-in_functions.ensures.keeps;
    }

pub returns-in_err-told : goal.returns-in_err-told
returns-in_err-told c =
    let e = c.from_residual-in_err-told.ensures.0 in
    let r = c.from_residual-in_err-told.result in
    record {
      told = IfOk-from_err r _ e;
      keeps = c.in_ok-in_functions.ensures.keeps;
    }
