use Rattle.std.proofs.Common.{List, ℕ, arith, subst}
use Rattle.std.proofs.lemmas.List.{take_all}
use Rattle.xd_proof_check.specs.Names.{AddsNames}
use Rattle.xd_proof_check.proofs.NameLemmas.{adds_next, adds_none}
use Rattle.xd_proof_check.proofs.atoms.share_labels.Goals as goal

pub loop-label-preserved : goal.loop-label-preserved
loop-label-preserved c =
    adds_next c.args.labels.now.keys c.loop-label.labels.keys c.put_label.new.labels.keys c.args.more.now c.loop-label.label-index c.label-item.result c.loop-label-test.true c.label-item.is c.loop-label.invariant
    c.in_ok-put_label.ensures

pub loop-label-init : goal.loop-label-init
loop-label-init c = adds_none c.args.labels.now.keys

pub returns : goal.returns
returns c = subst (λ (xs : List (List ℕ)). AddsNames c.args.labels.now.keys xs c.loop-label.labels.keys) (take_all c.loop-label.label-index c.args.more.now (omega (arith, c.loop-label-test.false))) c.loop-label.invariant
