use Rattle.std.proofs.Common.{[], ◌∷◌, inl, refl, subst}
use Rattle.std.proofs.lemmas.Bool.{false_from_ne_true}
use Rattle.xd_auto.specs.Automaton.{accepts}
use Rattle.xd_doc.specs.Stored.{document_at}
use Rattle.xd_goals.specs.Verdicts.{IsVerdict}
use Rattle.xd_calls_goals.proofs.least.show_apart_in.Goals as goal

pub least_apart-requires-clause-belongs : goal.least_apart-requires-clause-belongs
least_apart-requires-clause-belongs c =
    (subst (IsVerdict c.args.auto.now c.decide.new.store c.decide.new.table c.args.one (c.args.two ∷ [])) c.in-Separated.is c.in_ok-decide.ensures.verdict).belongs

pub least_apart-requires-clause-apart : goal.least_apart-requires-clause-apart
least_apart-requires-clause-apart c =
    let ds = c.decide.new.store in
    let v = subst (IsVerdict c.args.auto.now ds c.decide.new.table c.args.one (c.args.two ∷ [])) c.in-Separated.is c.in_ok-decide.ensures.verdict in
    let d = document_at ds c.in-Separated.known in
    record { accepted = v.separates.accepted; refused = false_from_ne_true (accepts c.args.auto.now d c.args.two) (v.separates.refused c.args.two (inl refl)) }
