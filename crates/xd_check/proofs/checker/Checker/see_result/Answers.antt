use Rattle.std.proofs.Common.{List, [], ◌∷◌, ◌++◌, Ok, refl, ap, subst, ◌∙◌}
use Rattle.std.specs.Option.{IfSome}
use Rattle.xd_base.specs.declared.Place.{Place}
use Rattle.xd_doc.specs.Document.{Document}
use Rattle.xd_doc.specs.LeastUpTo.{IsLeastUpTo}
use Rattle.xd_doc.specs.Stored.{document_at}
use Rattle.xd_doc.specs.StoredSeq.{BelongsTo}
use Rattle.xd_doc.specs.declared.store.Seq.{Seq}
use Rattle.xd_least.specs.Least.{size_limit}
use Rattle.xd_syntax.specs.Expression.{place_of_expression}
use Rattle.xd_syntax.specs.CheckFaults.{wrong_result}
use Rattle.xd_check_steps.specs.declared.lines.Finding.TheVariants.{Result}
use Rattle.xd_check_steps.specs.declared.lines.FoundLine.{FoundLine}
use Rattle.xd_check_steps.specs.Walkable.{expr_at}
use Rattle.xd_check_steps.specs.States.{IsMisfit}
use Rattle.xd_check_steps.proofs.LineLists.{adds_nowhere, adds_where}
use Rattle.xd_check.proofs.checker.Checker.see_result.Goals as goal

pub returns-in_ok-push-clause-lines : goal.returns-in_ok-push-clause-lines
returns-in_ok-push-clause-lines c =
    let ds : List Document = c.misfit.new.store in
    let seq : Seq = c.in-Some.document in
    let old : List FoundLine = c.args.findings.now.lines.items in
    let e = c.in_ok-document.ensures in
    let taken : IsLeastUpTo size_limit (IsMisfit c.args.auto.now c.args.state c.args.wanted) (document_at ds seq) = subst (λ o. IfSome o (λ q. IsLeastUpTo size_limit (IsMisfit c.args.auto.now c.args.state c.args.wanted) (document_at ds q))) c.in-Some.is e.least in
    let there : BelongsTo ds seq = subst (λ o. IfSome o (BelongsTo ds)) c.in-Some.is e.belongs in
    adds_where ds (place_of_expression (expr_at c.args.self.now.sound c.args.body.at)) (IsMisfit c.args.auto.now c.args.state c.args.wanted) old c.push.new.self.items (Result seq) seq
    (c.in_ok-push.ensures.items ∙ ap (λ (q : Place). old ++ record { place = q; finding = Result seq } ∷ []) c.place_of.ensures) there refl there taken

pub returns-in_default-clause-lines : goal.returns-in_default-clause-lines
returns-in_default-clause-lines c =
    adds_nowhere c.misfit.new.store (place_of_expression (expr_at c.args.self.now.sound c.args.body.at)) wrong_result (IsMisfit c.args.auto.now c.args.state c.args.wanted)
    (λ d h. h.1 (c.in_ok-document.ensures.none (ap (λ o. Ok o) c.in_default.is) d h.0)) c.args.findings.now.lines.items c.args.findings.now.lines.items refl
