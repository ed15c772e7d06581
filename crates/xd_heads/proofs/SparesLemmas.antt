-- An automaton that grows, with old states as they were.
use Rattle.std.proofs.Common.{◌≡◌, ℕ, ◌≤◌, arith, length, refl, sym, subst, ◌∙◌}
use Rattle.xd_auto.specs.Automaton.{Automaton, Extends, state_number}
use Rattle.xd_auto.specs.declared.auto.State.{State}
use Rattle.xd_heads.specs.Compiled.{Spares, SparesOthers}

pub spares_none : (first : ℕ) (a : Automaton) → Spares first a a
spares_none first a = record { longer = omega arith; stay = λ n h. refl }

pub spares_then : (first : ℕ) (from : State) (a b c : Automaton) → first ≤ state_number from → first ≤ length b → Spares first a b → SparesOthers from b c → Spares first a c
spares_then first from a b c f l s o = record {
  longer = (let p = s.longer in let q = o.longer in omega arith);
  stay = λ n h. o.stay n (omega arith) (λ e. (let y : ⊥ = omega arith in y)) ∙ s.stay n h;
}

pub others_same : (from : State) (a b : Automaton) → b ≡ a → SparesOthers from a b
others_same from a b e = subst (SparesOthers from a) (sym e) (record { longer = omega arith; stay = λ n h d. refl })

pub others_of : (from : State) (a b : Automaton) → Spares (length a) a b → SparesOthers from a b
others_of from a b s = record { longer = s.longer; stay = λ n h d. s.stay n h }

pub others_then : (from : State) (a b c : Automaton) → SparesOthers from a b → SparesOthers from b c → SparesOthers from a c
others_then from a b c s t = record {
  longer = (let p = s.longer in let q = t.longer in omega arith);
  stay = λ n h d. t.stay n (let p = s.longer in omega arith) d ∙ s.stay n h d;
}

-- where all old states stay, the automaton extends the old one
pub spares_extends : (a b : Automaton) → Spares (length a) a b → Extends a b
spares_extends a b s = record { states = λ t h. (let l = s.longer in omega arith); moves = λ t h. s.stay (state_number t) h }

pub spares_both : (first second : ℕ) (a b c : Automaton) → first ≤ second → Spares first a b → Spares second b c → Spares first a c
spares_both first second a b c l s o = record {
  longer = (let p = s.longer in let q = o.longer in omega arith);
  stay = λ n h. o.stay n (omega arith) ∙ s.stay n h;
}
