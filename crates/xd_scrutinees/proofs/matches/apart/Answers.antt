use Rattle.std.proofs.Common.{ℕ, [], ◌∷◌, ◌++◌, get_or, take, refl, sym, subst}
use Rattle.std.specs.List.{AllZip}
use Rattle.std.proofs.lemmas.List.{take_more}
use Rattle.xd_doc.proofs.Lists.{zip_push}
use Rattle.xd_scrutinees.specs.Scrutinees.{StandsAlone}
use Rattle.xd_check_steps.specs.declared.findings.MetMatch.{MetMatch}
use Rattle.xd_scrutinees.proofs.matches.apart.Goals as goal

pub loop-found-preserved : goal.loop-found-preserved
loop-found-preserved c =
    let n : ℕ = c.loop-found.found-index in
    let none : MetMatch = record { expr = record { at = 0 }; place = record { line = 0; column = 0 }; state = record { number = 0 } } in
    let x : MetMatch = get_or c.args.met.now n none in
    let e = c.in_ok-auto.ensures in
    subst (λ xs. AllZip (StandsAlone c.args.auto.now) xs c.push.new.self.items) (sym (take_more c.args.met.now n none c.loop-found-test.true))
    (subst (AllZip (StandsAlone c.args.auto.now) (take n c.args.met.now ++ x ∷ [])) (sym c.in_ok-push.ensures.items)
    (zip_push (StandsAlone c.args.auto.now) (take n c.args.met.now) c.loop-found.made.items x _ c.loop-found.invariant (record { match = refl; belongs = e.belongs; same = e.ok })))
