-- How sets of states refuse a document.
use Rattle.std.proofs.Common.{ℕ, ◌≡◌, Bool, true, false, ◌||◌, cond, nat_eq, nat_lt, List, [], ◌∷◌, length, refl, sym, ap, ◌∙◌, arith, ◌++◌}
use Rattle.std.specs.List.{AllByRecursion, list_any}
use Rattle.std.proofs.lemmas.Bool.Decides.{nat_tests}
use Rattle.std.proofs.lemmas.Bool.{and_from}
use Rattle.std.proofs.lemmas.List.Folds.{list_any-append}
use Rattle.xd_doc.specs.Document.{Document}
use Rattle.xd_doc.proofs.SortedNames.{or_false}
use Rattle.xd_doc.proofs.Bools.{and_left, and_right, or_swap, or_twice, or_join, or_left, or_right}
use Rattle.xd_doc.proofs.Numbers.{same_number}
use Rattle.xd_auto.specs.declared.auto.State.{State}
use Rattle.xd_auto.specs.Automaton.{Automaton, IsState, accepts}
use Rattle.xd_boole.specs.Meaning.{any_accepts, has_state, is_state, is_within, with_state, with_states}
use Rattle.xd_boole.specs.Groups.{AllPass, is_side}
use Rattle.xd_boole.specs.Points.{MoveBelow}
use Rattle.xd_auto.specs.declared.auto.LabelMove.{LabelMove}
use Rattle.xd_boole.specs.Groups.{label_side}

-- what all states of a set fail a state of it fails
pub has_fails : (p : State → Bool) (s : State) (states : List State) → has_state s states ≡ true → list_any p states ≡ false → p s ≡ false
has_fails p s [] h e = absurd (cc)
has_fails p s (t ∷ ts) h e = go (nat_eq t.number s.number) refl h (λ k. has_fails p s ts k (or_right (p t) (list_any p ts) e))
  where
    go : (b : Bool) → nat_eq t.number s.number ≡ b → (b || has_state s ts) ≡ true → (has_state s ts ≡ true → p s ≡ false) → p s ≡ false
    go true same k more = ap (λ (n : ℕ). p (record { number = n })) (sym (same_number t.number s.number same)) ∙ or_left (p t) (list_any p ts) e
    go false other k more = more k

-- a state of a set that refuses the document refuses it
pub has_refuses : (a : Automaton) (s : State) (states : List State) (d : Document) → has_state s states ≡ true → any_accepts a states d ≡ false → accepts a d s ≡ false
has_refuses a s states d h e = has_fails (accepts a d) s states h e

-- a set within another refuses what that refuses
pub within_refuses : (a : Automaton) (states others : List State) (d : Document) → is_within others states ≡ true → any_accepts a others d ≡ false → any_accepts a states d ≡ false
within_refuses a [] others d h e = refl
within_refuses a (s ∷ ss) others d h e =
    ap (λ w. w || any_accepts a ss d) (has_refuses a s others d (and_left (has_state s others) (is_within others ss) h) e)
    ∙ within_refuses a ss others d (and_right (has_state s others) (is_within others ss) h) e

-- what a set with one more state accepts
pub with_state_accepts : (a : Automaton) (s : State) (states : List State) (d : Document) → any_accepts a (with_state s states) d ≡ (accepts a d s || any_accepts a states d)
with_state_accepts a s [] d = refl
with_state_accepts a s (t ∷ ts) d = go (nat_lt t.number s.number) (nat_eq t.number s.number) refl (with_state_accepts a s ts d)
  where
    go : (b e : Bool) → nat_eq t.number s.number ≡ e → any_accepts a (with_state s ts) d ≡ (accepts a d s || any_accepts a ts d)
        → any_accepts a (cond b (t ∷ with_state s ts) (cond e (t ∷ ts) (s ∷ t ∷ ts))) d ≡ (accepts a d s || (accepts a d t || any_accepts a ts d))
    go true e same h = ap (λ w. accepts a d t || w) h ∙ or_swap (accepts a d t) (accepts a d s) (any_accepts a ts d)
    go false true same h =
        let number = same_number t.number s.number same in
        or_twice (accepts a d t) (any_accepts a ts d) ∙ ap (λ (n : ℕ). accepts a d (record { number = n }) || (accepts a d t || any_accepts a ts d)) number
    go false false same h = refl

pub with_state_all : (P : State → Type 0) (s : State) (states : List State) → AllByRecursion P states → P s → AllByRecursion P (with_state s states)
with_state_all P s [] h p = (p, tt)
with_state_all P s (t ∷ ts) h p = go (nat_lt t.number s.number) (nat_eq t.number s.number) (with_state_all P s ts h.1 p)
  where
    go : (b e : Bool) → AllByRecursion P (with_state s ts) → AllByRecursion P (cond b (t ∷ with_state s ts) (cond e (t ∷ ts) (s ∷ t ∷ ts)))
    go true e k = (h.0, k)
    go false true k = h
    go false false k = (p, h)

pub with_states_accept : (a : Automaton) (more states : List State) (d : Document) → any_accepts a (with_states more states) d ≡ (any_accepts a more d || any_accepts a states d)
with_states_accept a [] states d = refl
with_states_accept a (s ∷ ss) states d =
    with_states_accept a ss (with_state s states) d ∙ ap (λ w. any_accepts a ss d || w) (with_state_accepts a s states d)
    ∙ or_swap (any_accepts a ss d) (accepts a d s) (any_accepts a states d) ∙ sym (or_join (accepts a d s) (any_accepts a ss d) (any_accepts a states d))

pub set_accepts : (a : Automaton) (states : List State) (d : Document) → any_accepts a (with_states states []) d ≡ any_accepts a states d
set_accepts a states d = with_states_accept a states [] d ∙ or_false (any_accepts a states d)

pub with_states_all : (P : State → Type 0) (more states : List State) → AllByRecursion P more → AllByRecursion P states → AllByRecursion P (with_states more states)
with_states_all P [] states h k = k
with_states_all P (s ∷ ss) states h k = with_states_all P ss (with_state s states) h.1 (with_state_all P s states k h.0)

-- tests of states and sides
pub state_is : (a : Automaton) (s : State) → is_state a s ≡ true → IsState a s
state_is a s e = grind (arith, nat_tests)

pub is_state_of : (a : Automaton) (s : State) → IsState a s → is_state a s ≡ true
is_state_of a s lt = grind (arith, nat_tests)

pub states_are : (a : Automaton) (states : List State) → AllPass (is_state a) states → AllByRecursion (IsState a) states
states_are a [] h = tt
states_are a (s ∷ ss) h = (state_is a s h.0, states_are a ss h.1)

pub side_is : (a : Automaton) (m : LabelMove) → MoveBelow (length a) m → is_side a (label_side m) ≡ true
side_is a m below = and_from (is_state a m.content) (is_state a m.rest) (is_state_of a m.content below.0) (is_state_of a m.rest below.1)

pub any_accepts_push : (a : Automaton) (us : List State) (s : State) (d : Document) → any_accepts a (us ++ s ∷ []) d ≡ (any_accepts a us d || accepts a d s)
any_accepts_push a us s d = list_any-append (λ w. accepts a d w) us (s ∷ []) ∙ ap (λ w. any_accepts a us d || w) (or_false (accepts a d s))
