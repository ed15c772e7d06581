use Rattle.std.proofs.Common.{arith, refl}
use Rattle.xd_auto.specs.Automaton.{IsState, moves_at}
use Rattle.xd_auto.specs.declared.auto.TextMove.{TextMove}
use Rattle.xd_empty.proofs.PartLemmas.{changes_trans}
use Rattle.xd_boole.proofs.HasMovesLemmas.{given_moves}
use Rattle.xd_clauses.proofs.BeginsLemmas.{adds_none, texts_more}
use Rattle.xd_clauses.proofs.begins.add_texts.Goals as goal

pub loop-step-init : goal.loop-step-init
loop-step-init c = record { changes = record { states = refl; others = λ s ne. refl }; adds = adds_none (moves_at c.args.made.now c.args.to) }

pub loop-step-preserved : goal.loop-step-preserved
loop-step-preserved c =
    let to = c.args.to in
    let old = c.args.made.now in
    let mid = c.loop-step.made in
    let new = c.add_text_move.new.self in
    let m = c.step-item.result in
    let w : TextMove = record { words = c.in_ok-words.words; rest = to } in
    let there : IsState mid to = omega (arith, c.loop-step.invariant.changes.states, c.requires.to) in
    record {
      changes = changes_trans to old mid new c.loop-step.invariant.changes c.in_ok-add_text_move.ensures.others;
      adds = texts_more (moves_at old to) (moves_at mid to) (moves_at new to) c.text_moves-step-items.result.now c.loop-step.step-index m w c.loop-step-test.true c.step-item.is c.in_ok-words.ensures.same (given_moves mid new to _ there c.in_ok-add_text_move.ensures.ok) c.loop-step.invariant.adds;
    }
