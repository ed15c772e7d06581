use Rattle.std.proofs.lemmas.Result.{on_ok_weaker}
use Rattle.xd_syntax.specs.Kept.{program_tree}
use Rattle.xd_syntax.specs.NameFaults.{known_types}
use Rattle.xd_proof.proofs.GoalLemmas.{goals_belong}
use Rattle.xd_proof_make.proofs.TextLemmas.{goals_writable, text_proves}
use Rattle.xd_proof_make.proofs.text.proof_text.Goals as goal

pub second_text-requires : goal.second_text-requires
second_text-requires c = let p = c.in_ok-proof.ensures.proof in goals_belong c.proof_of.new.sound.types c.in_ok-proof.proof p.lined p.goals

pub returns-clause-text : goal.returns-clause-text
returns-clause-text c =
    let old = c.args.sound.now in
    let new = c.proof_of.new.sound in
    let e = c.in_ok-proof.ensures in
    let p = e.proof in
    let w = goals_writable old new c.args.cells.now c.args.auto.now c.requires.mirrors e.adds e.same c.args.table.now c.args.goal.number c.in_ok-proof.proof p (e.shallow c.requires.shallow) c.requires.names in
    on_ok_weaker c.second_text.result
    (λ h. (h.0, h.1, text_proves old new c.args.cells.now c.args.auto.now c.requires.mirrors e.adds e.same c.args.table.now c.args.goal.number c.in_ok-proof.proof p h.0 h.2))
    (c.second_text.ensures.reads (known_types (program_tree old)) p.lined p.goals w)
