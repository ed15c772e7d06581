use Rattle.std.proofs.Common.{arith, sym, ◌∙◌, List, Bool, ◌&&◌}
use Rattle.xd_doc.specs.declared.store.Seq.{Seq}
use Rattle.xd_doc.specs.Document.{Document}
use Rattle.xd_doc.specs.DocumentCode.{rest_of, content_of}
use Rattle.xd_doc.specs.Stored.{document_at}
use Rattle.xd_auto.specs.Automaton.{Automaton, accepts, has_label, moves_at}
use Rattle.xd_auto.specs.declared.auto.LabelMove.{LabelMove}
use Rattle.xd_auto.proofs.IsNextLemmas.{fails_past, fails_to_next, none_takes}
use Rattle.xd_auto.proofs.membership.try_labels.Goals as goal

-- whether a move leads on
abbrev over : Automaton → List Document → Seq → LabelMove → Bool
over a ds seq m = accepts a (content_of (document_at ds seq)) m.content && accepts a (rest_of (document_at ds seq)) m.rest

pub loop-number-preserved : goal.loop-number-preserved
loop-number-preserved c = record {
  fails =
      fails_past has_label (over c.args.auto.now c.args.store.now c.args.seq) c.args.label.now (moves_at c.args.auto.now c.args.state).labels
      c.in-Some.number c.index-moves-number.result (omega (arith, c.in-Some.ensures.some)) (rw c.label_moves-moves.ensures.value at c.index-moves-number.is)
      (fails_to_next has_label (over c.args.auto.now c.args.store.now c.args.seq) c.args.label.now (moves_at c.args.auto.now c.args.state).labels
      c.loop-number.from c.in-Some.number c.in-Some.ensures.next c.loop-number.invariant.fails)
      (sym c.in-Settled-false.ensures ∙ c.in-Settled-false.field-0-test);
  within = omega (arith, c.in-Some.ensures.some);
  after = omega (arith, c.in-Some.ensures.next.after, c.loop-number.invariant.after);
}

pub returns-in-Unasked : goal.returns-in-Unasked
returns-in-Unasked c = (
  omega (arith, c.in-Some.ensures.next.after, c.loop-number.invariant.after),
  c.in-Some.ensures.some,
  fails_to_next has_label (over c.args.auto.now c.args.store.now c.args.seq) c.args.label.now (moves_at c.args.auto.now c.args.state).labels
      c.loop-number.from c.in-Some.number c.in-Some.ensures.next c.loop-number.invariant.fails,
  c.in-Unasked.ensures,
)

pub returns : goal.returns
returns c =
    sym
    (none_takes has_label (over c.args.auto.now c.args.store.now c.args.seq) c.args.label.now (moves_at c.args.auto.now c.args.state).labels
    c.loop-number.from c.in_default.ensures.next c.loop-number.invariant.fails)
