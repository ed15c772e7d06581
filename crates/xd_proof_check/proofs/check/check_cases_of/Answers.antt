use Rattle.std.proofs.Common.{◌+◌, ◌∙◌, ℕ, map, ap, sym}
use Rattle.std.specs.Option.{option_map}
use Rattle.xd_heads.specs.declared.lister.NumberedHead.{NumberedHead}
use Rattle.xd_proof_check.specs.GoalWalk.{sheet_of}
use Rattle.xd_proof_check.specs.Reasons.{reason_of}
use Rattle.xd_proof_check.specs.declared.verdict.Reason.{Reason}
use Rattle.xd_proof_check.proofs.GoalLemmas.{meets_by}
use Rattle.xd_proof_check.proofs.HeadLemmas.{cases_fit}
use Rattle.xd_proof_check.proofs.check.check_cases_of.Goals as goal

pub check_cases-requires-clause-fit : goal.check_cases-requires-clause-fit
check_cases-requires-clause-fit c =
    cases_fit (sheet_of c.args.sheet.now) c.args.goal.now c.args.heads.now c.args.path.now c.requires.fits c.deref-3.result.now c.deref-4.result.now c.deref-5.result.now c.deref-6.result.now c.deref-7.result.now
    c.deref-3.ensures.value c.deref-5.ensures.value
    (c.deref-6.ensures.value ∙ c.in_ok-contents.ensures ∙ ap (map (λ (h : NumberedHead). h.content)) (c.deref.ensures.value ∙ sym c.deref-5.ensures.value))
    (c.deref-7.ensures.value ∙ c.in_ok-rests.ensures ∙ ap (map (λ (h : NumberedHead). h.rest)) (c.deref-2.ensures.value ∙ sym c.deref-5.ensures.value))

pub returns-in-None-clause-found : goal.returns-in-None-clause-found
returns-in-None-clause-found c =
    let s = sheet_of c.args.sheet.now in
    λ types cells E gs g a i j.
    let m =
    meets_by types cells E gs s a c.args.goal.now g c.args.heads.now i j c.deref-6.result.now c.deref-7.result.now c.deref-3.result.now c.deref-4.result.now c.deref-5.result.now c.deref-3.ensures.value
    c.deref-4.ensures.value c.deref-5.ensures.value in
    sym (c.in_ok-check_cases.ensures.found types cells E gs g c.args.line m ∙ ap (option_map (λ (p : ℕ × Reason). (c.args.line + p.0, reason_of p.1))) c.in-None.is)

pub returns-clause-found : goal.returns-clause-found
returns-clause-found c =
    let s = sheet_of c.args.sheet.now in
    λ types cells E gs g a i j.
    let m =
    meets_by types cells E gs s a c.args.goal.now g c.args.heads.now i j c.deref-6.result.now c.deref-7.result.now c.deref-3.result.now c.deref-4.result.now c.deref-5.result.now c.deref-3.ensures.value
    c.deref-4.ensures.value c.deref-5.ensures.value in
    sym (c.in_ok-check_cases.ensures.found types cells E gs g c.args.line m ∙ ap (option_map (λ (p : ℕ × Reason). (c.args.line + p.0, reason_of p.1))) c.in-Some.is)
