-- An automaton that grows, with old states as they were.
use Rattle.std.proofs.Common.{◌≡◌, ℕ, ◌≤◌, arith, length, refl, ◌∙◌}
use Rattle.xd_auto.specs.Automaton.{Automaton, ChangesOnly, Extends, IsClosed, KeepsAccepting, state_number}
use Rattle.xd_auto.proofs.ExtendsLemmas.{keeps}
use Rattle.xd_auto.specs.declared.auto.State.{State}
use Rattle.xd_patterns.specs.Compiling.{Spares}

pub spares_none : (base : ℕ) (a : Automaton) → Spares base a a
spares_none base a = record { states = λ s h. h; stay = λ s h. refl }

pub spares_then : (base : ℕ) (a b c : Automaton) → Spares base a b → Spares base b c → Spares base a c
spares_then base a b c s t = record { states = λ q h. t.states q (s.states q h); stay = λ q h. t.stay q h ∙ s.stay q h }

pub spares_changed : (base : ℕ) (from : State) (a b : Automaton) → base ≤ state_number from → ChangesOnly from a b → Spares base a b
spares_changed base from a b f c = record {
  states = λ q h. (let e = c.states in omega arith);
  stay = λ q h. c.others q (λ e. (let y : ⊥ = omega arith in y));
}

pub spares_grown : (base : ℕ) (a b : Automaton) → base ≤ length a → Extends a b → Spares base a b
spares_grown base a b h e = record { states = e.states; stay = λ q k. e.moves q (omega arith) }

pub extends_from : (base : ℕ) (a b : Automaton) → base ≡ length a → Spares base a b → Extends a b
extends_from base a b e s = record { states = s.states; moves = λ q h. s.stay q (omega arith) }

pub keeps_from : (base : ℕ) (a b : Automaton) → base ≡ length a → IsClosed a → Spares base a b → KeepsAccepting a b
keeps_from base a b e closed s = keeps a b closed (extends_from base a b e s)
