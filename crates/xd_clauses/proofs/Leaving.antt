-- What patterns leave that wait to be taken away.
use Rattle.std.proofs.Common.{◌≡◌, ◌↔◌, Bool, true, false, not, ◌&&◌, ◌||◌, [], ◌∷◌, ◌++◌, refl, ap, sym, ◌∙◌, subst}
use Rattle.std.specs.List.{AllByRecursion}
use Rattle.xd_doc.specs.Document.{Document}
use Rattle.xd_doc.proofs.Lists.{all_push}
use Rattle.xd_auto.specs.declared.auto.State.{State}
use Rattle.xd_auto.specs.Automaton.{IsState, accepts, moves_at}
use Rattle.xd_boole.specs.Meaning.{any_accepts}
use Rattle.xd_boole.proofs.AnyAcceptsLemmas.{any_accepts_push}
use Rattle.xd_clauses.specs.Begins.{begins_so, may_begin}
use Rattle.xd_clauses.specs.Behind.{AreWaiting, any_waiting}
use Rattle.xd_clauses.specs.declared.behind.Waiting.{Waiting}
use Rattle.xd_clauses.specs.declared.compiled.CompiledPatterns.{CompiledPatterns}
use Rattle.xd_clauses.proofs.BeginsLemmas.{accepts_begins, or_weaker}

-- one pattern more waits
module _ (m : CompiledPatterns) (old new : Waiting) (start : State) (there : IsState m.states.auto start) (starts : new.starts.items ≡ old.starts.items ++ start ∷ []) (waiting : AreWaiting m old) where
  pub waits_more : (d : Document) → any_waiting m new d ≡ (any_waiting m old d || accepts m.states.auto d start)
  waits_more d = ap (λ us. any_accepts m.states.auto us d) starts ∙ any_accepts_push m.states.auto old.starts.items start d

  pub waiting_more : IsState new.begins.auto new.begins.state → ((d : Document) → begins_so new.begins d ≡ (begins_so old.begins d || may_begin (moves_at m.states.auto start) d)) → AreWaiting m new
  waiting_more own begins = record {
    starts = subst (AllByRecursion (IsState m.states.auto)) (sym starts) (all_push (IsState m.states.auto) old.starts.items start waiting.starts there);
    own = own;
    begins = λ d h.
        begins d
        ∙ or_weaker (any_waiting m old d) (accepts m.states.auto d start) (begins_so old.begins d) (may_begin (moves_at m.states.auto start) d) (waiting.begins d) (accepts_begins m.states.auto d start) (sym (waits_more d) ∙ h);
  }

-- a document that begins otherwise is taken by none
pub waits_not : (m : CompiledPatterns) (w : Waiting) → AreWaiting m w → (d : Document) → begins_so w.begins d ≡ false → any_waiting m w d ≡ false
waits_not m w h d other = go (any_waiting m w d) refl
  where
    go : (b : Bool) → any_waiting m w d ≡ b → b ≡ false
    go false e = refl
    go true e = absurd (let t = h.begins d e in let q : true ≡ false = sym t ∙ other in cc)

-- what a state accepts and others don't, beside one that accepts everything
pub alone_left : (x y v w : Bool) → y ≡ true → v ≡ w → (x && (y && not v)) ≡ (x && not w)
alone_left x y v w all same = ap (λ b. x && (b && not v)) all ∙ ap (λ b. x && not b) same

-- a document that is accepted and not taken
pub and_tells : (b x v : Bool) → b ≡ (x && not v) → (b ≡ true) ↔ ((x ≡ true) × (v ≡ false))
and_tells b true true e = (λ f. absurd (cc), λ r. absurd (let q : true ≡ false = r.1 in cc))
and_tells b true false e = (λ f. (refl, refl), λ r. e)
and_tells b false v e = (λ f. absurd (cc), λ r. absurd (let q : false ≡ true = r.0 in cc))

-- neither of two
pub neither : (c v t : Bool) (T : Type 0) → c ≡ (v || t) → ((t ≡ true) ↔ T) → (c ≡ false) ↔ ((v ≡ false) × (T → ⊥))
neither c true t T e is = (λ f. absurd (cc), λ r. absurd (let q : true ≡ false = r.0 in cc))
neither c false true T e is = (λ f. absurd (cc), λ r. absurd (r.1 (is.0 refl)))
neither c false false T e is = (λ f. (refl, λ t. let q : false ≡ true = is.1 t in cc), λ r. e)

-- nothing is taken away
pub and_all : (x v : Bool) → v ≡ false → (x && not v) ≡ x
and_all true false e = refl
and_all false v e = refl
and_all true true e = absurd (cc)
