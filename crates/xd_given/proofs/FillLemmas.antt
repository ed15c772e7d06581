-- How the states of blocks get their moves.
use Rattle.std.proofs.Common.{ℕ, ◌+◌, ◌≡◌, ◌≢◌, ⊎_elim, true, false, List, length, get_or, sym, ap, ◌∙◌, subst, arith}
use Rattle.std.specs.List.{All}
use Rattle.std.proofs.lemmas.Bool.{cases_eq}
use Rattle.xd_auto.specs.declared.auto.State.{State}
use Rattle.xd_auto.specs.declared.auto.LabelMove.{LabelMove}
use Rattle.xd_auto.specs.declared.auto.TextMove.{TextMove}
use Rattle.xd_auto.specs.Automaton.{Automaton, IsState, LeadsBelow, StateMoves, moves_at}
use Rattle.xd_auto.proofs.Closed.{same_state}
use Rattle.xd_auto.specs.Traces.{Owned}
use Rattle.xd_points.specs.declared.patterns.PatternStates.{PatternStates}
use Rattle.xd_points.specs.declared.table.PointTable.{PointTable}
use Rattle.xd_points.specs.Tables.{left_of}
use Rattle.xd_given.specs.Blocks.{IsBlockFor, IsFilledTo, is_tail, there, onward}
use Rattle.xd_bind.specs.Changes.{IsChange, with_labels, with_texts}
use Rattle.xd_given.specs.Chosen.{label_onto, owned_labels, text_onto, owned_texts, with_owned}
use Rattle.xd_given.proofs.ChosenLemmas.{chosen_all}

-- one more state has its moves
pub filled_more : (b : Owned) (drawing : Automaton) (places blocks : List State) (base n : ℕ) (old mid labeled new : Automaton) (at point : State) (labels : List LabelMove) (texts : List TextMove) → at.number ≡ base + n → point.number ≡ n
    → IsFilledTo b drawing places blocks base n old mid
    → labels ≡ owned_labels b (there places) (there blocks) point (moves_at drawing point) → texts ≡ owned_texts b (there blocks) point (moves_at drawing point)
    → IsChange mid labeled at (with_labels labels (moves_at mid at)) → IsChange labeled new at (with_texts texts (moves_at labeled at))
    → IsFilledTo b drawing places blocks base (n + 1) old new
filled_more b drawing places blocks base n old mid labeled new at point labels texts place number is labels_are texts_are one two = record {
  states = two.states ∙ one.states ∙ is.states;
  below = λ s lt. two.others s (omega arith) ∙ one.others s (omega arith) ∙ is.below s lt;
  filled = λ s lt. ⊎_elim
      (λ (e : s.number ≡ n).
      let same = same_state s point (e ∙ sym number) in
      subst (λ (q : State). moves_at new (onward base q) ≡ with_owned b (there places) (there blocks) q (moves_at drawing q) (moves_at old (onward base q))) (sym same) here)
      (λ (ne : s.number ≢ n). two.others (onward base s) (omega arith) ∙ one.others (onward base s) (omega arith) ∙ is.filled s (omega arith))
      (cases_eq s.number n);
  waiting = λ s le. two.others (onward base s) (omega arith) ∙ one.others (onward base s) (omega arith) ∙ is.waiting s (omega arith);
}
  where
    stands : onward base point ≡ at
    stands = same_state (onward base point) at (omega arith)

    here : moves_at new (onward base point) ≡ with_owned b (there places) (there blocks) point (moves_at drawing point) (moves_at old (onward base point))
    here =
        ap (moves_at new) stands ∙ two.here ∙ ap (with_texts texts) one.here
        ∙ ap (λ (m : StateMoves). with_texts texts (with_labels labels m)) (ap (moves_at mid) (sym stands) ∙ is.waiting point (omega arith))
        ∙ ap (λ (ls : List LabelMove). with_texts texts (with_labels ls (moves_at old (onward base point)))) labels_are
        ∙ ap (λ (ts : List TextMove). with_texts ts (with_labels (owned_labels b (there places) (there blocks) point (moves_at drawing point)) (moves_at old (onward base point)))) texts_are

-- the moves lead to states of the automaton
pub labels_land : (a : Automaton) (b : Owned) (places blocks : List State) (n : ℕ) → length places ≡ n → length blocks ≡ n → All (IsState a) places → All (IsState a) blocks → (s : State) (moves : StateMoves) → LeadsBelow n moves
    → All (λ m. IsState a m.content × IsState a m.rest) (owned_labels b (there places) (there blocks) s moves)
labels_land a b places blocks n many more places_in blocks_in s moves leads =
    chosen_all (λ m. IsState a m.content × IsState a m.rest) (label_onto (there places) (there blocks)) (b.element s) moves.labels
    (λ i d lt.
    let m : LabelMove = get_or moves.labels i d in
    let below = leads.labels i d lt in
    (places_in m.content.number (record { number = 0 }) (omega (arith, below.0)), blocks_in m.rest.number (record { number = 0 }) (omega (arith, below.1))))

pub texts_land : (a : Automaton) (b : Owned) (blocks : List State) (n : ℕ) → length blocks ≡ n → All (IsState a) blocks → (s : State) (moves : StateMoves) → LeadsBelow n moves
    → All (λ m. IsState a m.rest) (owned_texts b (there blocks) s moves)
texts_land a b blocks n more blocks_in s moves leads =
    chosen_all (λ m. IsState a m.rest) (text_onto (there blocks)) (b.text s) moves.texts
    (λ i d lt. let m : TextMove = get_or moves.texts i d in let below = leads.texts i d lt in blocks_in m.rest.number (record { number = 0 }) (omega (arith, below)))

-- states of one automaton are states of one of its length
pub states_of_same : (a b : Automaton) (xs : List State) → length b ≡ length a → All (IsState a) xs → All (IsState b) xs
states_of_same a b xs e h i d lt = let below = h i d lt in omega (arith, below)

-- the state of a point's block
pub tail_block : (p : PatternStates) (t : PointTable) (b : Owned) (base n : ℕ) (point v : State) → point.number ≡ n → is_tail p t b point ≡ true → v ≡ left_of t point → IsBlockFor p t b base (record { number = n }) v
tail_block p t b base n point v number tail is =
    subst (λ (q : State). IsBlockFor p t b base q v) (same_state point (record { number = n }) number)
    (record { tail = λ e. is; other = λ e. absurd (let both : true ≡ false = sym tail ∙ e in cc) })

pub other_block : (p : PatternStates) (t : PointTable) (b : Owned) (base n : ℕ) (point v : State) → point.number ≡ n → is_tail p t b point ≡ false → v.number ≡ base + n → IsBlockFor p t b base (record { number = n }) v
other_block p t b base n point v number other is =
    subst (λ (q : State). IsBlockFor p t b base q v) (same_state point (record { number = n }) number)
    (record { tail = λ e. absurd (let both : true ≡ false = sym e ∙ other in cc); other = λ e. same_state v (onward base point) (omega (arith, is, number)) })
