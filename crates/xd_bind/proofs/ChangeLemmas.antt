-- On states that get more moves.
use Rattle.std.proofs.Common.{◌≡◌, ◌<◌, false, List, [], ◌∷◌, ◌++◌, length, ap, ◌∙◌, arith, append_assoc, get_or-set_same}
use Rattle.xd_auto.specs.declared.auto.State.{State}
use Rattle.xd_auto.specs.declared.auto.LabelMove.{LabelMove}
use Rattle.xd_auto.specs.declared.auto.TextMove.{TextMove}
use Rattle.xd_auto.specs.Automaton.{Automaton, StateMoves, ChangesOnly, IsState, moves_at, no_moves, with_label_move, with_moves, with_text_move}
use Rattle.xd_bind.specs.Changes.{IsChange, with_labels, with_texts}

put_here : (mid new : Automaton) (at : State) (moves : StateMoves) → at.number < length mid → new ≡ with_moves mid at moves → moves_at new at ≡ moves
put_here mid new at moves here is = ap (λ (w : Automaton). moves_at w at) is ∙ get_or-set_same mid at.number moves (no_moves false) here

-- a state has one more move
pub label_put : (old mid new : Automaton) (at : State) (ms : List LabelMove) (m : LabelMove) → IsState old at → IsChange old mid at (with_labels ms (moves_at old at)) → new ≡ with_label_move mid at m → ChangesOnly at mid new
    → IsChange old new at (with_labels (ms ++ m ∷ []) (moves_at old at))
label_put old mid new at ms m there h is only =
    let had = moves_at old at in
    record {
      states = only.states ∙ h.states;
      here = put_here mid new at (record (moves_at mid at) { labels = (moves_at mid at).labels ++ m ∷ [] }) (omega (arith, h.states, there)) is
          ∙ ap (λ (w : StateMoves). record w { labels = w.labels ++ m ∷ [] }) h.here
          ∙ ap (λ (ls : List LabelMove). record { last = had.last; labels = ls; texts = had.texts }) (append_assoc had.labels ms (m ∷ []));
      others = λ s ne. only.others s ne ∙ h.others s ne;
    }

pub text_put : (old mid new : Automaton) (at : State) (ms : List TextMove) (m : TextMove) → IsState old at → IsChange old mid at (with_texts ms (moves_at old at)) → new ≡ with_text_move mid at m → ChangesOnly at mid new
    → IsChange old new at (with_texts (ms ++ m ∷ []) (moves_at old at))
text_put old mid new at ms m there h is only =
    let had = moves_at old at in
    record {
      states = only.states ∙ h.states;
      here = put_here mid new at (record (moves_at mid at) { texts = (moves_at mid at).texts ++ m ∷ [] }) (omega (arith, h.states, there)) is
          ∙ ap (λ (w : StateMoves). record w { texts = w.texts ++ m ∷ [] }) h.here
          ∙ ap (λ (ts : List TextMove). record { last = had.last; labels = had.labels; texts = ts }) (append_assoc had.texts ms (m ∷ []));
      others = λ s ne. only.others s ne ∙ h.others s ne;
    }
