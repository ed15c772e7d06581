use Rattle.std.proofs.Common.{List, arith, flat_map, subst}
use Rattle.std.proofs.lemmas.List.{take_all}
use Rattle.xd_rules.specs.Heads.{texts_of}
use Rattle.xd_heads.specs.declared.lister.NumberedHead.{NumberedHead}
use Rattle.xd_proof_check.specs.Atoms.{kinds_of}
use Rattle.xd_proof_check.specs.Names.{AddsNames}
use Rattle.xd_proof_check.proofs.NameLemmas.{adds_head, adds_none}
use Rattle.xd_proof_check.proofs.atoms.put_texts.Goals as goal

pub loop-head-preserved : goal.loop-head-preserved
loop-head-preserved c =
    adds_head texts_of c.args.texts.now.keys c.loop-head.texts.keys c.put_texts_of.new.texts.keys c.args.heads.now c.loop-head.head-index c.head-item.result c.loop-head-test.true c.head-item.is
    c.loop-head.invariant c.in_ok-put_texts_of.ensures

pub loop-head-init : goal.loop-head-init
loop-head-init c = adds_none c.args.texts.now.keys

pub returns : goal.returns
returns c =
    subst (λ (hs : List NumberedHead). AddsNames c.args.texts.now.keys (flat_map texts_of (kinds_of hs)) c.loop-head.texts.keys)
    (take_all c.loop-head.head-index c.args.heads.now (omega (arith, c.loop-head-test.false))) c.loop-head.invariant
