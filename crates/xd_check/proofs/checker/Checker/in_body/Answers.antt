use Rattle.xd_doc.proofs.StoredLemmas.{Keeps-same, Keeps-trans}
use Rattle.std.proofs.lemmas.Result.{IfOk-from_err}
use Rattle.std.proofs.Common.{◌≡◌, ◌<◌, List, ◌++◌, map, length, refl, ap, sym, subst, ◌∙◌, append-nil}
use Rattle.xd_syntax.specs.FunctionRow.{FunctionRow}
use Rattle.xd_syntax.specs.Kept.{ProgramTable, function_definition, parameter, program_tree}
use Rattle.xd_syntax.specs.Program.{ProgramTree, names_of}
use Rattle.xd_syntax.specs.declared.program.Param.{Param}
use Rattle.xd_syntax.specs.PlacedTable.{placed_at}
use Rattle.xd_syntax.specs.Expression.{Expression, place_of_expression}
use Rattle.xd_syntax.specs.May.{Scope, parameters_scope}
use Rattle.xd_syntax.specs.CheckFaults.{Line, LineWhere, wrong_result}
use Rattle.xd_syntax.specs.Matches.{MatchesOf}
use Rattle.xd_syntax.specs.declared.exprs.ExprId.{ExprId}
use Rattle.xd_check_steps.specs.declared.signatures.Signature.{Signature}
use Rattle.xd_check_steps.specs.Found.{JustLines, found_in}
use Rattle.xd_check_steps.specs.FoundLines.{AddsLines, told_size}
use Rattle.xd_check_steps.specs.InScope.{AreStates, ScopeStands, parameters_in_scope}
use Rattle.xd_check_steps.specs.Walkable.{CanBeWalked, expr_at}
use Rattle.xd_check_steps.specs.States.{IsMisfit}
use Rattle.xd_check.specs.Walked.{IsWalked, SeenIn, SeenInFunction}
use Rattle.xd_check.proofs.Arguments.{misfit_lines}
use Rattle.xd_check_steps.proofs.AddsFoundLemmas.{adds_lines, adds_more}
use Rattle.xd_check_steps.proofs.GrowsLemmas.{grows_none}
use Rattle.xd_check_steps.proofs.IsSignatureLemmas.{state_kept}
use Rattle.xd_check.proofs.AreStatesLemmas.{parameters_count, parameters_stand, parameters_states}
use Rattle.xd_check.proofs.checker.Checker.in_body.Goals as goal

pub parameters-requires : goal.parameters-requires
parameters-requires c =
    let p : ProgramTable = c.args.self.now.sound in
    ap (λ (qs : List Param). length qs) c.params.ensures.params
    ∙ parameters_count (names_of (program_tree p)) p c.args.auto.now c.args.function.now.params c.args.signature.now.parameters.items c.requires.signature.parameters ∙ sym (ap (λ ss. length ss) c.deref.ensures.value)

pub in_expression-requires : goal.in_expression-requires
in_expression-requires c =
    let p : ProgramTable = c.args.self.now.sound in
    let f : FunctionRow = c.args.function.now in
    let g : Signature = c.args.signature.now in
    let scope : c.in_ok-variables.variables ≡ parameters_in_scope f.params g.parameters.items = c.in_ok-variables.ensures
    ∙ ap (λ (qs : List Param). parameters_in_scope qs c.deref.result.now) c.params.ensures.params ∙ ap (λ ss. parameters_in_scope f.params ss) c.deref.ensures.value in
    record {
      ready = c.requires.ready;
      expression = subst (λ (id : ExprId). CanBeWalked p id.at) (sym c.body-body.ensures) c.requires.body;
      variables = subst (AreStates c.args.auto.now) (sym scope) (parameters_states (names_of (program_tree p)) p c.args.auto.now f.params g.parameters.items c.requires.signature.parameters);
      known = c.requires.known;
    }

pub see_result-requires : goal.see_result-requires
see_result-requires c =
    record {
      body = subst (λ (id : ExprId). id.at < length c.args.self.now.sound.exprs) (sym c.body-body.ensures) c.requires.body.there;
      state = c.in_ok-state.ensures.belongs;
      wanted = c.in_ok-state.ensures.grows.extends.states c.args.signature.now.declared c.requires.signature.result.belongs;
      known = c.in_ok-state.ensures.known;
    }

pub returns : goal.returns
returns c =
    record {
      found =
          let p : ProgramTable = c.args.self.now.sound in
          let P : ProgramTree = program_tree p in
          let f : FunctionRow = c.args.function.now in
          let g : Signature = c.args.signature.now in
          let scope : c.in_ok-variables.variables ≡ parameters_in_scope f.params g.parameters.items = c.in_ok-variables.ensures
          ∙ ap (λ (qs : List Param). parameters_in_scope qs c.deref.result.now) c.params.ensures.params ∙ ap (λ ss. parameters_in_scope f.params ss) c.deref.ensures.value in
          let S : Scope = parameters_scope (map (parameter p.types) f.params) in
          let x : Expression = expr_at p f.body.at in
          let grows = c.in_ok-state.ensures.grows in
          let inside : ScopeStands P S c.args.auto.now c.in_ok-variables.variables = subst (ScopeStands P S c.args.auto.now) (sym scope) (parameters_stand P p c.args.auto.now f.params g.parameters.items c.requires.signature.parameters) in
          let a1 = c.in_expression.new.auto in
          let w : IsWalked p S x a1 c.in_expression.new.store (found_in c.args.findings.now) (found_in c.in_expression.new.findings) c.in_ok-state.state
          = subst (λ (id : ExprId). IsWalked p S (expr_at p id.at) a1 c.in_expression.new.store (found_in c.args.findings.now) (found_in c.in_expression.new.findings) c.in_ok-state.state) c.body-body.ensures (c.in_ok-state.ensures.walked S inside) in
          let wanted = state_kept (names_of P) c.args.auto.now a1 grows (placed_at p.types f.declared.at) g.declared c.requires.signature.result in
          let misfit : List Line → Type 0 = LineWhere told_size (place_of_expression x) wrong_result (IsMisfit a1 c.in_ok-state.state g.declared) in
          let line : AddsLines c.see_result.new.store misfit c.in_expression.new.findings.lines.items c.see_result.new.findings.lines.items
          = subst (λ (id : ExprId). AddsLines c.see_result.new.store (LineWhere told_size (place_of_expression (expr_at p id.at)) wrong_result (IsMisfit a1 c.in_ok-state.state g.declared)) c.in_expression.new.findings.lines.items c.see_result.new.findings.lines.items) c.body-body.ensures c.in_ok-see_result.ensures.lines in
          adds_more (grows_none a1) c.in_ok-see_result.ensures.keeps (SeenIn P S x) (JustLines misfit) (SeenInFunction P (function_definition p f))
          (λ s t m n. (
            (s.lines, t.lines, m.0, misfit_lines P S x (placed_at p.types f.declared.at) (place_of_expression x) wrong_result a1 c.in_ok-state.state g.declared w.may wanted.exact t.lines n.0, refl),
            subst (MatchesOf P S x) (sym (ap (λ ms. s.matches ++ ms) n.1 ∙ append-nil s.matches)) m.1,
          )) w.found (adds_lines misfit (found_in c.in_expression.new.findings) (found_in c.see_result.new.findings) line c.in_ok-see_result.ensures.met);
      grows = c.in_ok-state.ensures.grows;
      known = c.in_ok-see_result.ensures.known;
      keeps = Keeps-trans c.args.store.now c.in_expression.new.store c.see_result.new.store c.in_ok-state.ensures.keeps c.in_ok-see_result.ensures.keeps;
    }

pub returns-in_err-variables : goal.returns-in_err-variables
returns-in_err-variables c =
    let e = c.from_residual.ensures.0 in
    let r = c.from_residual.result in
    record {
      found = IfOk-from_err r _ e;
      grows = IfOk-from_err r _ e;
      known = IfOk-from_err r _ e;
      keeps = Keeps-same c.args.store.now;
    }

pub returns-in_err-state : goal.returns-in_err-state
returns-in_err-state c =
    let e = c.from_residual-in_err-state.ensures.0 in
    let r = c.from_residual-in_err-state.result in
    record {
      found = IfOk-from_err r _ e;
      grows = IfOk-from_err r _ e;
      known = IfOk-from_err r _ e;
      keeps = c.in_expression.ensures.keeps;
    }

pub returns-in_err-see_result : goal.returns-in_err-see_result
returns-in_err-see_result c =
    let e = c.from_residual-in_err-see_result.ensures.0 in
    let r = c.from_residual-in_err-see_result.result in
    record {
      found = IfOk-from_err r _ e;
      grows = IfOk-from_err r _ e;
      known = IfOk-from_err r _ e;
      keeps = Keeps-trans c.args.store.now c.in_expression.new.store c.see_result.new.store c.in_ok-state.ensures.keeps c.see_result.ensures.keeps;
    }
