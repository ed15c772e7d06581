use Rattle.std.proofs.Common.{◌≡◌, ℕ, length, ap, sym, subst, ◌∙◌, arith}
use Rattle.xd_auto.specs.Automaton.{ChangesOnly, moves_at}
use Rattle.xd_boole.proofs.HasMovesLemmas.{given_moves}
use Rattle.xd_points.specs.Meaning.{is_old_point, point}
use Rattle.xd_points.specs.Points.{AreExpanded, RowView, point_at, state_at}
use Rattle.xd_points.proofs.HasMovesLemmas.{earlier_keep, expanded_bare, expanded_more, labels_lead, texts_lead, with_made}
use Rattle.xd_points.proofs.GrowsLemmas.{keeps, keeps_same}
use Rattle.xd_points.proofs.steps.expand.Goals as goal

pub set_moves-requires-clause-labels : goal.set_moves-requires-clause-labels
set_moves-requires-clause-labels c =
    let a = c.args.automata.lefts.now in let b = c.args.automata.patterns.now in
    labels_lead a b _ c.moves_of.new.points c.moves_of-2.new.points c.in_ok-labels.labels.items c.in_ok-labels.label_numbers.items c.in_ok-labels.ensures.stand.steps
    (keeps c.moves_of.new.points c.moves_of-2.new.points c.in_ok-texts.ensures.grows) c.in_ok-texts.ensures.whole

pub set_moves-requires-clause-texts : goal.set_moves-requires-clause-texts
set_moves-requires-clause-texts c =
    let a = c.args.automata.lefts.now in let b = c.args.automata.patterns.now in
    texts_lead a b _ c.moves_of-2.new.points c.moves_of-2.new.points c.in_ok-texts.texts.items c.in_ok-texts.text_numbers.items c.in_ok-texts.ensures.stand.steps
    (keeps_same c.moves_of-2.new.points) c.in_ok-texts.ensures.whole

pub returns-clause-expanded : goal.returns-clause-expanded
returns-clause-expanded c =
    let a = c.args.automata.lefts.now in
    let b = c.args.automata.patterns.now in
    let p = c.args.points.now in
    let new = c.moves_of-2.new.points in
    let made = c.set_moves.new.self in
    let rows = c.args.rows.now.items in
    let labels = c.in_ok-labels.labels.items in
    let texts = c.in_ok-texts.texts.items in
    let row : RowView = record { labels = c.in_ok-labels.label_numbers.items; texts = c.in_ok-texts.text_numbers.items } in
    let n : c.len-number.result ≡ length rows = omega (arith, c.len-number.ensures, c.args.rows.now.ok.0) in
    subst (AreExpanded c.args.first a b (with_made new made)) (sym c.in_ok-push.ensures.items)
    (expanded_more c.args.first a b p c.moves_of.new.points new made rows row _ labels texts
    c.requires.expanded c.requires.more (ap (point_at p.points.items) (sym n) ∙ sym c.in_ok-of.ensures) c.in_ok-labels.ensures.grows c.in_ok-texts.ensures.grows c.in_ok-texts.ensures.whole c.in_ok-labels.ensures.stand c.in_ok-texts.ensures.stand
    (subst (λ (k : ℕ). moves_at made (state_at k) ≡ record (moves_at new.made (state_at k)) { labels = labels; texts = texts }) (c.state-state.ensures.number ∙ n)
    (given_moves new.made made c.state-state.result _ c.state-state.ensures.belongs c.set_moves.ensures.value))
    (subst (λ (k : ℕ). ChangesOnly (state_at k) new.made made) (c.state-state.ensures.number ∙ n) c.set_moves.ensures.others))

pub returns-clause-moves : goal.returns-clause-moves
returns-clause-moves c =
    let a = c.args.automata.lefts.now in
    let b = c.args.automata.patterns.now in
    let p = c.args.points.now in
    let new = c.moves_of-2.new.points in
    let made = c.set_moves.new.self in
    let rows = c.args.rows.now.items in
    let labels = c.in_ok-labels.labels.items in
    let texts = c.in_ok-texts.texts.items in
    let row : RowView = record { labels = c.in_ok-labels.label_numbers.items; texts = c.in_ok-texts.text_numbers.items } in
    let n : c.len-number.result ≡ length rows = omega (arith, c.len-number.ensures, c.args.rows.now.ok.0) in
    earlier_keep c.args.first a b p c.moves_of.new.points new made rows row _ labels texts
    c.requires.expanded c.requires.more (ap (point_at p.points.items) (sym n) ∙ sym c.in_ok-of.ensures) c.in_ok-labels.ensures.grows c.in_ok-texts.ensures.grows c.in_ok-texts.ensures.whole c.in_ok-labels.ensures.stand c.in_ok-texts.ensures.stand
    (subst (λ (k : ℕ). moves_at made (state_at k) ≡ record (moves_at new.made (state_at k)) { labels = labels; texts = texts }) (c.state-state.ensures.number ∙ n)
    (given_moves new.made made c.state-state.result _ c.state-state.ensures.belongs c.set_moves.ensures.value))
    (subst (λ (k : ℕ). ChangesOnly (state_at k) new.made made) (c.state-state.ensures.number ∙ n) c.set_moves.ensures.others)

pub returns-then-is_old-clause-expanded : goal.returns-then-is_old-clause-expanded
returns-then-is_old-clause-expanded c =
    let b = c.args.automata.patterns.now in
    let p = c.args.points.now in
    let rows = c.args.rows.now.items in
    let n : c.len-number.result ≡ length rows = omega (arith, c.len-number.ensures, c.args.rows.now.ok.0) in
    let is : point c.of.inside.left c.of.inside.pattern c.deref.result.now ≡ point_at p.points.items (length rows) =
    ap (point c.of.inside.left c.of.inside.pattern) c.deref.ensures.value ∙ c.of.view_is ∙ c.in_ok-of.ensures ∙ ap (point_at p.points.items) n in
    subst (AreExpanded c.args.first c.args.automata.lefts.now b p) (sym c.in_ok-add_bare.ensures)
    (expanded_bare c.args.first c.args.automata.lefts.now b p rows c.requires.expanded c.requires.more (sym (ap (is_old_point b) is) ∙ sym c.is_old.ensures ∙ c.if-is_old.true))
