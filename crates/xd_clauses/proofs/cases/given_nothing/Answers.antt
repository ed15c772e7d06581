use Rattle.std.proofs.Common.{List, ◌≡◌, ◌+◌, ◌++◌, ◌∷◌, [], take, ap, sym, subst, ◌∙◌, ℕ}
use Rattle.xd_meaning.specs.KeptFaults.{AllPaired}
use Rattle.xd_bind.specs.declared.tracks.Given.{Given}
use Rattle.xd_clauses.specs.Cases.{IsGivenNothing}
use Rattle.xd_clauses.proofs.Givens.{nothing_more}
use Rattle.xd_clauses.proofs.cases.given_nothing.Goals as goal

pub loop-variable-preserved : goal.loop-variable-preserved
loop-variable-preserved c =
    let b = c.add_state.new.self in
    let gs = c.loop-variable.givens.items in
    let i = c.loop-variable.variable-index in
    let v = c.variable-item.result in
    let s = c.in_ok-nothing.nothing in
    let word : c.in_ok-share.field-0 ≡ v = c.in_ok-share.ensures in
    let more = nothing_more c.args.variables.now gs i v c.args.auto.now b s c.loop-variable-test.true c.variable-item.is c.in_ok-nothing.ensures.ok.0 c.in_ok-nothing.ensures.ok.1 c.in_ok-nothing.ensures.belongs c.loop-variable.invariant in
    subst (λ (hs : List Given). AllPaired (IsGivenNothing b) (take (i + 1) c.args.variables.now) hs)
    (ap (λ (w : List ℕ). gs ++ record { variable = w; state = s } ∷ []) (sym word) ∙ sym c.in_ok-push.ensures.items) more
