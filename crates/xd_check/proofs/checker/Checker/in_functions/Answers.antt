use Rattle.std.proofs.lemmas.Result.{IfOk-from_err}
use Rattle.std.proofs.Common.{◌≡◌, ℕ, ◌<◌, ◌≤◌, List, length, ap, subst, ◌∙◌}
use Rattle.std.proofs.lemmas.List.{drop_all}
use Rattle.xd_doc.proofs.StoredLemmas.{Keeps-trans}
use Rattle.xd_syntax.specs.FunctionRow.{FunctionRow}
use Rattle.xd_syntax.specs.Kept.{ProgramTable}
use Rattle.xd_check_steps.specs.Found.{found_in}
use Rattle.xd_check.proofs.FunctionLoop.{function_at, function_at_is, functions_begin, functions_end, functions_more}
use Rattle.xd_check.proofs.IsReadyLemmas.{ready_kept}
use Rattle.xd_check.proofs.checker.Checker.in_functions.Goals as goal

pub loop-number-init : goal.loop-number-init
loop-number-init c = record { walk = functions_begin c.args.self.now.sound c.args.auto.now c.args.store.now (found_in c.args.findings.now); known = c.requires.known }

pub in_function-requires-clause-ready : goal.in_function-requires-clause-ready
in_function-requires-clause-ready c = ready_kept c.args.self.now c.args.auto.now c.loop-number.auto' c.loop-number.invariant.walk.grows c.requires.ready

pub in_function-requires-clause-number : goal.in_function-requires-clause-number
in_function-requires-clause-number c =
    let same : c.functions-functions.result.now ≡ c.args.self.now.sound.functions = c.functions-functions.ensures.functions ∙ ap (λ (q : ProgramTable). q.functions) c.program.ensures.program in
    subst (λ (fs : List FunctionRow). c.loop-number.number < length fs) same c.loop-number-test.true

pub in_function-requires-clause-known : goal.in_function-requires-clause-known
in_function-requires-clause-known c = c.loop-number.invariant.known

pub loop-number-preserved : goal.loop-number-preserved
loop-number-preserved c =
    let p : ProgramTable = c.args.self.now.sound in
    let n : ℕ = c.loop-number.number in
    let same : c.functions-functions.result.now ≡ p.functions = c.functions-functions.ensures.functions ∙ ap (λ (q : ProgramTable). q.functions) c.program.ensures.program in
    let within : n < length p.functions = subst (λ (fs : List FunctionRow). n < length fs) same c.loop-number-test.true in
    let e = c.in_ok-in_function.ensures in
    record {
      walk = functions_more p c.args.auto.now c.loop-number.auto' c.in_function.new.auto c.args.store.now c.loop-number.store c.in_function.new.store (found_in c.args.findings.now) (found_in c.loop-number.findings) (found_in c.in_function.new.findings) n
          (function_at p.functions n within) c.loop-number.invariant.walk within (function_at_is p.functions n within) e.found e.grows e.keeps;
      known = e.known;
    }

pub returns : goal.returns
returns c =
    record {
      found =
          let p : ProgramTable = c.args.self.now.sound in
          let same : c.functions-functions.result.now ≡ p.functions = c.functions-functions.ensures.functions ∙ ap (λ (q : ProgramTable). q.functions) c.program.ensures.program in
          let all : length p.functions ≤ c.loop-number.number = subst (λ (fs : List FunctionRow). length fs ≤ c.loop-number.number) same c.loop-number-test.false in
          functions_end p c.args.auto.now c.loop-number.auto' c.args.store.now c.loop-number.store (found_in c.args.findings.now) (found_in c.loop-number.findings) c.loop-number.number (drop_all c.loop-number.number p.functions all) c.loop-number.invariant.walk;
      grows = c.loop-number.invariant.walk.grows;
      known = c.loop-number.invariant.known;
      keeps = c.loop-number.invariant.walk.keeps;
    }

pub returns-in_err-in_function : goal.returns-in_err-in_function
returns-in_err-in_function c =
    let e = c.from_residual.ensures.0 in
    let r = c.from_residual.result in
    record {
      found = IfOk-from_err r _ e;
      grows = IfOk-from_err r _ e;
      known = IfOk-from_err r _ e;
      keeps = Keeps-trans c.args.store.now c.loop-number.store c.in_function.new.store c.loop-number.invariant.walk.keeps c.in_function.ensures.keeps;
    }
