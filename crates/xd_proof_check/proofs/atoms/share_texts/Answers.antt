use Rattle.std.proofs.Common.{List, ℕ, arith, subst}
use Rattle.std.proofs.lemmas.List.{take_all}
use Rattle.xd_proof_check.specs.Names.{AddsNames}
use Rattle.xd_proof_check.proofs.NameLemmas.{adds_next, adds_none}
use Rattle.xd_proof_check.proofs.atoms.share_texts.Goals as goal

pub loop-text-preserved : goal.loop-text-preserved
loop-text-preserved c =
    adds_next c.args.texts.now.keys c.loop-text.texts.keys c.put_text.new.texts.keys c.args.more.now c.loop-text.text-index c.text-item.result c.loop-text-test.true c.text-item.is c.loop-text.invariant
    c.in_ok-put_text.ensures

pub loop-text-init : goal.loop-text-init
loop-text-init c = adds_none c.args.texts.now.keys

pub returns : goal.returns
returns c = subst (λ (xs : List (List ℕ)). AddsNames c.args.texts.now.keys xs c.loop-text.texts.keys) (take_all c.loop-text.text-index c.args.more.now (omega (arith, c.loop-text-test.false))) c.loop-text.invariant
