-- Changes keep every move leading to a state that is there.
use Rattle.std.proofs.Common.{ℕ, ◌+◌, ◌<◌, ◌≤◌, ◌≡◌, Bool, false, [], ◌∷◌, ◌++◌, length, ap, arith, subst, sym, length-append}
use Rattle.std.proofs.Math.ListN.{length-set}
use Rattle.std.specs.List.{All}
use Rattle.std.proofs.lemmas.List.Elements.{All-weaker, All-append, All-push, All-set, All-get_or, All-nil, All-cons}
use Rattle.xd_auto.specs.Copying.{LabelBelow}
use Rattle.xd_auto.specs.declared.auto.State.{State}
use Rattle.xd_auto.specs.declared.auto.LabelMove.{LabelMove}
use Rattle.xd_auto.specs.declared.auto.TextMove.{TextMove}
use Rattle.xd_auto.specs.Automaton.{Automaton, StateMoves, IsState, LeadsBelow, IsClosed, no_moves, moves_at, with_moves, state_number}

-- states of one number are one
pub same_state : (s t : State) → s.number ≡ t.number → s ≡ t
same_state s t e = ap (λ (n : ℕ). let u : State = record { number = n } in u) e

pub LeadsBelow-more : (n m : ℕ) (moves : StateMoves) → n ≤ m → LeadsBelow n moves → LeadsBelow m moves
LeadsBelow-more n m moves le h = record {
  labels = All-weaker (LabelBelow n) (LabelBelow m) (λ k p. (omega (arith, p.0), omega (arith, p.1))) moves.labels h.labels;
  texts = All-weaker (λ (r : TextMove). r.rest.number < n) (λ (r : TextMove). r.rest.number < m) (λ r p. omega arith) moves.texts h.texts;
}

-- closed at another way to say the length
pub closed_at : (a : Automaton) (n : ℕ) → length a ≡ n → All (LeadsBelow n) a → IsClosed a
closed_at a n e h = subst (λ m. All (LeadsBelow m) a) (sym e) h

pub IsClosed-append : (a b : Automaton) → IsClosed a → All (LeadsBelow (length a + length b)) b → IsClosed (a ++ b)
IsClosed-append a b h k =
    closed_at (a ++ b) (length a + length b) (length-append a b)
    (All-append (LeadsBelow (length a + length b)) a b
    (All-weaker (LeadsBelow (length a)) (LeadsBelow (length a + length b)) (λ m p. LeadsBelow-more _ _ m (omega arith) p) a h) k)

pub no_moves-below : (n : ℕ) (last : Bool) → LeadsBelow n (no_moves last)
no_moves-below n last = record { labels = All-nil (LabelBelow n); texts = All-nil (λ (r : TextMove). r.rest.number < n) }

pub IsClosed-push : (a : Automaton) (moves : StateMoves) → IsClosed a → LeadsBelow (length a + 1) moves → IsClosed (a ++ moves ∷ [])
IsClosed-push a moves h k = IsClosed-append a (moves ∷ []) h (All-cons (LeadsBelow (length a + 1)) moves [] k (All-nil (LeadsBelow (length a + 1))))

pub moves_at-closed : (a : Automaton) (s : State) → IsClosed a → IsState a s → LeadsBelow (length a) (moves_at a s)
moves_at-closed a s h here = All-get_or (LeadsBelow (length a)) a s.number (no_moves false) here h

pub IsClosed-with_moves : (a : Automaton) (s : State) (moves : StateMoves) → IsClosed a → LeadsBelow (length a) moves → IsClosed (with_moves a s moves)
IsClosed-with_moves a s moves h k =
    closed_at (with_moves a s moves) (length a) (length-set a s.number moves) (All-set (LeadsBelow (length a)) a s.number moves k h)

pub IsClosed-last : (a : Automaton) (s : State) (last : Bool) → IsClosed a → IsState a s → IsClosed (with_moves a s (record (moves_at a s) { last = last }))
IsClosed-last a s last h here =
    let old = moves_at-closed a s h here in IsClosed-with_moves a s (record (moves_at a s) { last = last }) h (record { labels = old.labels; texts = old.texts })

pub IsClosed-label : (a : Automaton) (s : State) (m : LabelMove) → IsClosed a → IsState a s → IsState a m.content → IsState a m.rest
    → IsClosed (with_moves a s (record (moves_at a s) { labels = (moves_at a s).labels ++ m ∷ [] }))
IsClosed-label a s m h here c r =
    let old = moves_at-closed a s h here in
    IsClosed-with_moves a s (record (moves_at a s) { labels = (moves_at a s).labels ++ m ∷ [] }) h
    (record { labels = All-push (LabelBelow (length a)) (moves_at a s).labels m old.labels (c, r); texts = old.texts })

pub IsClosed-text : (a : Automaton) (s : State) (m : TextMove) → IsClosed a → IsState a s → IsState a m.rest
    → IsClosed (with_moves a s (record (moves_at a s) { texts = (moves_at a s).texts ++ m ∷ [] }))
IsClosed-text a s m h here k =
    let old = moves_at-closed a s h here in
    IsClosed-with_moves a s (record (moves_at a s) { texts = (moves_at a s).texts ++ m ∷ [] }) h
    (record { labels = old.labels; texts = All-push (λ (w : TextMove). w.rest.number < length a) (moves_at a s).texts m old.texts k })

pub state_of_number : (s t : State) → state_number s ≡ state_number t → s ≡ t
state_of_number s t e = ap (λ (n : ℕ). record { number = n }) e
