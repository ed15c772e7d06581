use Rattle.std.proofs.Common.{ap, sym, ◌∙◌, not}
use Rattle.std.specs.List.{list_any}
use Rattle.xd_doc.specs.Classes.{class_has}
use Rattle.xd_auto.specs.Automaton.{moves_at}
use Rattle.xd_stream.proofs.WaitingPairLemmas.{none_next}
use Rattle.std.proofs.lemmas.List.{take_all}
use Rattle.xd_stream.proofs.pairs.takes_every_text.Goals as goal

pub loop-pair-preserved : goal.loop-pair-preserved
loop-pair-preserved c = λ t. none_next (λ p. list_any (λ m. not (class_has m.words t)) (moves_at c.args.auto.now p.present).texts) c.args.now.now c.loop-pair.pair-index _ c.loop-pair-test.true (c.loop-pair.invariant t) (c.state_takes_every_text.ensures c.if-not-state_takes_every_text.false t)

pub returns : goal.returns
returns c = λ e t. ap (list_any (λ p. list_any (λ m. not (class_has m.words t)) (moves_at c.args.auto.now p.present).texts)) (sym (take_all c.loop-pair.pair-index c.args.now.now c.loop-pair-test.false)) ∙ c.loop-pair.invariant t
