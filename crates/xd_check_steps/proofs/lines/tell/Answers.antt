use Rattle.std.proofs.lemmas.Result.{IfOk-from_err}
use Rattle.std.proofs.Common.{◌≡◌, ℕ, ◌+◌, List, [], get_or, drop, ap, sym, subst, ◌∙◌, append-nil}
use Rattle.std.proofs.lemmas.List.{drop_all, get_or_default}
use Rattle.xd_doc.specs.StoreNodes.{no_items}
use Rattle.xd_check_steps.specs.declared.lines.Finding.TheVariants.{NotExhaustive}
use Rattle.xd_check_steps.specs.declared.lines.FoundLine.{FoundLine}
use Rattle.xd_check_steps.proofs.FoundLineLemmas.{AreTold, FaultsTell, WarningsTell, fault_more, none_told, warning_more}
use Rattle.xd_check_steps.proofs.lines.tell.Goals as goal
use Rattle.xd_check_steps.proofs.lines.tell.Goals.{in-Some+in_ok-push-in-Some, in-None+in_ok-push-in-None}

pub loop-line-init : goal.loop-line-init
loop-line-init c =
    subst (λ fs. AreTold c.args.lines.now 0 fs c.new-warnings.result.items) (sym c.new-faults.ensures.items)
    (subst (λ ws. AreTold c.args.lines.now 0 [] ws) (sym c.new-warnings.ensures.items) (none_told c.args.lines.now))

pub loop-line-preserved : goal.loop-line-preserved
loop-line-preserved c =
    let ls : List FoundLine = c.args.lines.now in
    let n : ℕ = c.loop-line.line-index in
    let first : FoundLine = record { place = record { line = 0; column = 0 }; finding = NotExhaustive no_items } in
    let l : FoundLine = get_or ls n first in
    let e : l ≡ get_or ls n l = get_or_default ls n first l c.loop-line-test.true in
    elim c.match-fault_kind.branch [
      | in-Some+in_ok-push-in-Some w ↦
          subst (AreTold ls (n + 1) c.match-fault_kind.faults.items) (sym (ap (λ v. v.items) w.warnings-is))
          (fault_more ls n c.loop-line.faults.items c.match-fault_kind.faults.items c.loop-line.warnings.items l w.in-Some.kind c.loop-line-test.true c.loop-line.invariant e
          (sym c.fault_kind.ensures ∙ w.in-Some.is) (ap (λ v. v.items) w.faults-is ∙ w.in_ok-push-in-Some.ensures.items))
      | in-None+in_ok-push-in-None w ↦
          subst (λ fs. AreTold ls (n + 1) fs c.match-fault_kind.warnings.items) (sym (ap (λ v. v.items) w.faults-is))
          (warning_more ls n c.loop-line.faults.items c.loop-line.warnings.items c.match-fault_kind.warnings.items l c.loop-line-test.true c.loop-line.invariant e
          (sym c.fault_kind.ensures ∙ w.in-None.is) (ap (λ v. v.items) w.warnings-is ∙ w.in_ok-push-in-None.ensures.items))
    ]

pub returns : goal.returns
returns c =
    record {
      faults = λ ds b.
          let ls : List FoundLine = c.args.lines.now in
          let done : drop c.loop-line.line-index ls ≡ [] = drop_all c.loop-line.line-index ls c.loop-line-test.false in
          subst (FaultsTell ds ls) (append-nil c.loop-line.faults.items)
          ((c.loop-line.invariant.faults ds b).1 [] (subst (λ ms. FaultsTell ds ms []) (sym done) tt));
      warnings = λ ds.
          let ls : List FoundLine = c.args.lines.now in
          let done : drop c.loop-line.line-index ls ≡ [] = drop_all c.loop-line.line-index ls c.loop-line-test.false in
          subst (WarningsTell ds ls) (append-nil c.loop-line.warnings.items)
          (c.loop-line.invariant.warnings ds [] (subst (λ ms. WarningsTell ds ms []) (sym done) tt));
    }

pub returns-in_err-push-in-Some : goal.returns-in_err-push-in-Some
returns-in_err-push-in-Some c =
    let e = c.from_residual.ensures.0 in
    let r = c.from_residual.result in
    record {
      faults = IfOk-from_err r _ e;
      warnings = IfOk-from_err r _ e;
    }

pub returns-in_err-push-in-None : goal.returns-in_err-push-in-None
returns-in_err-push-in-None c =
    let e = c.from_residual-in_err-push-in-None.ensures.0 in
    let r = c.from_residual-in_err-push-in-None.result in
    record {
      faults = IfOk-from_err r _ e;
      warnings = IfOk-from_err r _ e;
    }
