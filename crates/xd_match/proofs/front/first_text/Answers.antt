use Rattle.std.proofs.Common.{◌≡◌, true, false, get_or, sym, ◌∙◌, inl, inr}
use Rattle.std.proofs.lemmas.Bool.{cases_lt, and_left}
use Rattle.std.proofs.lemmas.List.Folds.{list_any_none}
use Rattle.xd_doc.specs.Stored.{document_at}
use Rattle.xd_doc.specs.Classes.{class_has}
use Rattle.xd_auto.specs.Automaton.{moves_at, takes_word}
use Rattle.xd_match.proofs.front.first_text.Goals as goal

pub unreachable-requires : goal.unreachable-requires
unreachable-requires c =
    let none : true ≡ false =
    sym c.requires.accepted
    ∙ list_any_none (takes_word c.args.auto.now c.args.text.now (document_at c.args.store.now c.args.rest)) (moves_at c.args.auto.now c.args.state).texts
    (λ k d lt. elim (cases_lt k c.loop-number.from) [
      | inl before ↦ c.loop-number.invariant.before k d before
      | inr after ↦ and_left (class_has (get_or (moves_at c.args.auto.now c.args.state).texts k d).words c.args.text.now) _ (c.in_default.ensures.next.lacks k d after lt)
    ]) in
    cc
