-- Elements by their numbers, and states that accept the same.
use Rattle.std.proofs.Common.{◌≡◌, ℕ, ◌+◌, ◌-◌, ◌<◌, List, [], ◌∷◌, ◌++◌, length, get_or, Some, sym, ◌∙◌, ap, subst, arith, ⊎_elim}
use Rattle.std.specs.List.{All, slice_get}
use Rattle.std.proofs.lemmas.Bool.{cases_eq}
use Rattle.std.proofs.lemmas.List.{get_or_append_left, get_or-append_right}
use Rattle.std.proofs.lemmas.Option.{slice_get-get_or}
use Rattle.xd_doc.specs.Document.{Document}
use Rattle.xd_auto.specs.declared.auto.State.{State}
use Rattle.xd_auto.specs.Automaton.{Automaton, IsState, accepts}
use Rattle.xd_auto.specs.Traces.{AcceptsGiven, Owned}

pub all_states : (a : Automaton) (order : List State) → ((i : ℕ) (s : State) → slice_get order i ≡ Some s → IsState a s) → All (IsState a) order
all_states a order h k d l = h k (get_or order k d) (slice_get-get_or order k d l)

-- what another state gives that accepts the same
pub given_by_same : (a : Automaton) (b : Owned) (start : State) (made other : Automaton) (first state : State) → AcceptsGiven a b start made first
    → ((d : Document) → accepts other d state ≡ accepts made d first) → AcceptsGiven a b start other state
given_by_same a b start made other first state h same e = (λ y. (h e).0 (sym (same e) ∙ y), λ g. same e ∙ (h e).1 g)

-- one more element of which something holds by its number
pub elements_more : {X : Type 0} (P : ℕ → X → Type 0) (xs : List X) (n : ℕ) (one : X) → length xs ≡ n → ((x : ℕ) (d : X) → x < n → P x (get_or xs x d))
    → P n one → (x : ℕ) (d : X) → x < n + 1 → P x (get_or (xs ++ one ∷ []) x d)
elements_more P xs n one long h last x d l = ⊎_elim
    (λ same. subst (λ v. P x v) (sym (at_end x same)) (subst (λ k. P k one) (sym same) last))
    (λ ne. subst (λ v. P x v) (sym (get_or_append_left xs (one ∷ []) d x (omega arith))) (h x d (omega arith)))
    (cases_eq x n)
  where
    at_end : (k : ℕ) → k ≡ n → get_or (xs ++ one ∷ []) k d ≡ one
    at_end k e =
        let z : k - n ≡ 0 = omega arith in
        get_or-append_right xs (one ∷ []) n k d long (omega arith) ∙ ap (λ i. get_or (one ∷ []) i d) z
