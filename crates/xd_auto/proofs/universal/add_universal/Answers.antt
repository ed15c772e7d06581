use Rattle.std.proofs.Common.{◌≡◌, ◌∙◌, ap, sym, true, false, [], length, arith}
use Rattle.std.proofs.lemmas.List.{get_or_at, length_push}
use Rattle.xd_doc.specs.Classes.{is_named}
use Rattle.xd_auto.specs.Automaton.{IsState, moves_at, no_moves}
use Rattle.xd_auto.proofs.Universals.{accepts_all, every, universal_made}
use Rattle.xd_auto.proofs.universal.add_universal.Goals as goal

pub returns-clause-universal : goal.returns-clause-universal
returns-clause-universal c =
    let state = c.in_ok-state.state in
    let a = c.add_state.new.self in
    let b = c.add_label_move.new.self in
    let new = c.in_ok-state.ensures.ok in
    let first : moves_at a state ≡ no_moves true = rw new.1 (get_or_at c.args.auto.now (no_moves true) [] (no_moves false) state.number (sym new.0)) in
    let in_b : IsState b state = omega (arith, c.in_ok-state.ensures.belongs, c.in_ok-add_label_move.ensures.others.states) in
    universal_made a b c.add_text_move.new.self state c.in_ok-labels.labels c.in_ok-texts.texts c.in_ok-state.ensures.belongs in_b (omega (arith, in_b, c.in_ok-add_text_move.ensures.others.states)) first
    c.in_ok-add_label_move.ensures.ok c.in_ok-add_text_move.ensures.ok
    (every c.in_ok-labels.labels (λ l. c.in_ok-labels.ensures.labels l ∙ ap (λ ns. is_named ns l) c.new.ensures.items) c.in_ok-labels.ensures.except)
    (every c.in_ok-texts.texts (λ l. c.in_ok-texts.ensures.texts l ∙ ap (λ ns. is_named ns l) c.new-3.ensures.items) c.in_ok-texts.ensures.except)

pub returns-clause-accepted : goal.returns-clause-accepted
returns-clause-accepted c = λ d. accepts_all c.add_text_move.new.self c.in_ok-state.state (returns-clause-universal c) d

pub returns-clause-count : goal.returns-clause-count
returns-clause-count c =
    let new = c.in_ok-state.ensures.ok in
    omega (arith, c.in_ok-add_text_move.ensures.others.states, c.in_ok-add_label_move.ensures.others.states, ap length new.1, length_push c.args.auto.now (no_moves true))
