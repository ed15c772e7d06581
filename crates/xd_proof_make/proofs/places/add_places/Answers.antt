use Rattle.std.proofs.Common.{sym, ap, ◌∙◌}
use Rattle.xd_proof_make.specs.Places.{new_numbers}
use Rattle.xd_proof_make.proofs.AreHeadMovesLemmas.{number_put, number_skipped, new_numbers-push}
use Rattle.xd_proof_make.proofs.places.add_places.Goals as goal
use Rattle.xd_proof_make.proofs.places.add_places.Goals.{then-is_wanted+in_ok-push, else-is_wanted}

pub loop-index-preserved : goal.loop-index-preserved
loop-index-preserved c =
    elim c.if-is_wanted.branch [
      | then-is_wanted+in_ok-push w ↦
          rw w.places-is (number_put c.args.texts c.args.first c.args.sorts.now c.loop-index.index c.loop-index-test.true (new_numbers c.args.places.now.items) (new_numbers c.loop-index.places.items) c.loop-index.invariant _
          (ap new_numbers w.in_ok-push.ensures.items ∙ new_numbers-push c.loop-index.places.items _)
          (sym c.is_wanted.ensures ∙ w.if-is_wanted.true))
      | else-is_wanted w ↦
          rw w.places-is (number_skipped c.args.texts c.args.first c.args.sorts.now c.loop-index.index c.loop-index-test.true (new_numbers c.args.places.now.items) (new_numbers c.loop-index.places.items) c.loop-index.invariant
          (sym c.is_wanted.ensures ∙ w.if-is_wanted.false))
    ]
