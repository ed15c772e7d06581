use Rattle.std.proofs.Common.{List, ◌+◌, take, sym, subst}
use Rattle.xd_meaning.specs.KeptFaults.{AllPaired}
use Rattle.xd_bind.specs.declared.tracks.Binding.{Binding}
use Rattle.xd_clauses.specs.Cases.{HasOwnAutomaton}
use Rattle.xd_clauses.proofs.Givens.{apart_more}
use Rattle.xd_clauses.proofs.cases.apart.Goals as goal

pub loop-given-preserved : goal.loop-given-preserved
loop-given-preserved c =
    let a = c.args.auto.now in
    let gs = c.args.givens.now in
    let i = c.loop-given.given-index in
    let bs = c.loop-given.bindings.items in
    let b : Binding = record { variable = c.in_ok-share.field-0; auto = c.absorb.new.self; state = c.in_ok-state.state } in
    let p : HasOwnAutomaton a c.given-item.result b = record { variable = c.in_ok-share.ensures; belongs = c.in_ok-state.ensures.belongs; same = c.in_ok-state.ensures.ok } in
    subst (λ (cs : List Binding). AllPaired (HasOwnAutomaton a) (take (i + 1) gs) cs) (sym c.in_ok-push.ensures.items)
    (apart_more a gs bs i c.given-item.result b c.loop-given-test.true c.given-item.is p c.loop-given.invariant)
