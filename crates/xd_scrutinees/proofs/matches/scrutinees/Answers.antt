use Rattle.std.proofs.Common.{sym, subst}
use Rattle.std.specs.List.{AllByRecursion, AllZip}
use Rattle.std.proofs.lemmas.Result.{IfOk-weaker}
use Rattle.xd_auto.specs.Automaton.{IsState}
use Rattle.xd_scrutinees.specs.Scrutinees.{AreScrutinees, StandsAlone}
use Rattle.xd_check_steps.specs.declared.findings.MetMatch.{MetMatch}
use Rattle.xd_scrutinees.proofs.MetOrder.{met_states, scrutinees_met}
use Rattle.xd_scrutinees.proofs.matches.scrutinees.Goals as goal

pub apart-requires : goal.apart-requires
apart-requires c =
    let a = c.met_matches.new.auto in
    let m = c.in_ok-met.met in
    let h = c.in_ok-met.ensures in
    subst (AllByRecursion (λ (x : MetMatch). IsState a x.state)) (sym c.deref.ensures.value) (met_states m.sound a h.found m.matches.items h.each)

pub returns : goal.returns
returns c =
    let a = c.met_matches.new.auto in
    IfOk-weaker c.apart.result _ (λ found. AreScrutinees c.args.checked.now found.items)
    (λ found h. scrutinees_met c.args.checked.now a c.in_ok-met.met found.items c.in_ok-met.ensures (subst (λ xs. AllZip (StandsAlone a) xs found.items) c.deref.ensures.value h)) c.apart.ensures
