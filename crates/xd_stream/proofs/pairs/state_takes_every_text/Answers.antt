use Rattle.std.proofs.Common.{◌≡◌, ◌<◌, ◌≤◌, ℕ, Bool, List, length, get_or, not, sym, ap, ◌∙◌}
use Rattle.std.specs.List.{list_any}
use Rattle.std.proofs.lemmas.List.{take_all}
use Rattle.xd_doc.specs.Classes.{class_has}
use Rattle.xd_auto.specs.Automaton.{moves_at}
use Rattle.xd_auto.specs.declared.auto.TextMove.{TextMove}
use Rattle.xd_stream.proofs.WaitingPairLemmas.{none_next}
use Rattle.xd_stream.proofs.pairs.state_takes_every_text.Goals as goal

abbrev lacks : List ℕ → TextMove → Bool
lacks t m = not (class_has m.words t)

pub loop-step-preserved : goal.loop-step-preserved
loop-step-preserved c =
    let moves : List TextMove = (moves_at c.args.auto.now c.args.state).texts in
    let m : TextMove = c.step-item.result in
    let lt : c.loop-step.step-index < length moves = rw c.text_moves-step-items.ensures.value at c.loop-step-test.true in
    let is : m ≡ get_or moves c.loop-step.step-index m = rw c.text_moves-step-items.ensures.value at c.step-item.is in
    λ t. none_next (lacks t) moves c.loop-step.step-index m lt (c.loop-step.invariant t) (ap (lacks t) (sym is) ∙ ap not (c.has_every_text.ensures c.if-not-has_every_text.false t))

pub returns : goal.returns
returns c =
    let moves : List TextMove = (moves_at c.args.auto.now c.args.state).texts in
    let le : length moves ≤ c.loop-step.step-index = rw c.text_moves-step-items.ensures.value at c.loop-step-test.false in
    λ e t. ap (list_any (lacks t)) (sym (take_all c.loop-step.step-index moves le)) ∙ c.loop-step.invariant t
