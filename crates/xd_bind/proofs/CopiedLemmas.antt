-- An automaton is copied state by state.
use Rattle.std.proofs.Common.{◌≡◌, ◌≢◌, ℕ, ◌+◌, ◌<◌, ⊎_elim, ap, sym, ◌∙◌, subst, arith}
use Rattle.std.proofs.lemmas.Bool.{cases_eq}
use Rattle.xd_auto.specs.declared.auto.State.{State}
use Rattle.xd_auto.specs.Automaton.{Automaton, moves_at, no_moves}
use Rattle.xd_bind.specs.Changes.{IsChange, with_labels, with_texts}

-- one more state has its moves
pub copied_more : (a made mid new : Automaton) (count : ℕ) (at : State) → at.number ≡ count → moves_at made at ≡ no_moves (moves_at a at).last
    → IsChange made mid at (with_labels (moves_at a at).labels (moves_at made at)) → IsChange mid new at (with_texts (moves_at a at).texts (moves_at mid at))
    → ((s : State) → s.number < count → moves_at made s ≡ moves_at a s) → (s : State) → s.number < count + 1 → moves_at new s ≡ moves_at a s
copied_more a made mid new count at e bare one two done s lt = ⊎_elim
    (λ same. let is : at ≡ s = ap (λ (n : ℕ). record { number = n }) (e ∙ sym same) in subst (λ t. moves_at new t ≡ moves_at a t) is here)
    (λ other. let ne : s.number ≢ at.number = omega (arith, e) in two.others s ne ∙ one.others s ne ∙ done s (omega arith))
    (cases_eq s.number count)
  where
    here : moves_at new at ≡ moves_at a at
    here = two.here ∙ ap (λ m. with_texts (moves_at a at).texts m) (one.here ∙ ap (λ m. with_labels (moves_at a at).labels m) bare)
