-- On documents that separate states.
use Rattle.std.proofs.Common.{◌≡◌, ℕ, Bool, true, false, ◌&&◌, refl, sym, ◌∙◌}
use Rattle.std.specs.Prelude.{not}
use Rattle.xd_doc.specs.Document.{Document}
use Rattle.xd_doc.specs.LeastUpTo.{IsLeastUpTo}
use Rattle.xd_auto.specs.declared.auto.State.{State}
use Rattle.xd_auto.specs.Automaton.{Automaton, accepts}
use Rattle.xd_least.specs.Least.{Accepts}
use Rattle.xd_apart.specs.Apart.{IsApart}

pub both_true : (x y : Bool) → (x && not y) ≡ true → (x ≡ true) × (y ≡ false)
both_true true true e = absurd (cc)
both_true true false e = (refl, refl)
both_true false y e = absurd (cc)

-- of sets with the same documents, the same documents are least
pub up_to_equal : (limit : ℕ) (In Among : Document → Type 0) (d : Document) → ((e : Document) → In e → Among e) → ((e : Document) → Among e → In e) → IsLeastUpTo limit In d → IsLeastUpTo limit Among d
up_to_equal limit In Among d to from w = record {
  within = to d w.within;
  least = λ e h lt. (let l = w.least e (from e h) lt in record { within = to d w.within; least = λ q among. l.least q (from q among) });
}

-- what a state of the difference accepts
module _ (a b : Automaton) (left right start : State) (exact : (d : Document) → accepts b d start ≡ (accepts a d left && not (accepts a d right))) where
  pub in_difference : (d : Document) → IsApart a left right d → accepts b d start ≡ true
  in_difference d h = exact d ∙ rw (h.accepted, h.refused) refl

  pub of_difference : (d : Document) → accepts b d start ≡ true → IsApart a left right d
  of_difference d h =
      let both = both_true (accepts a d left) (accepts a d right) (sym (exact d) ∙ h) in
      record { accepted = both.0; refused = both.1 }

  pub least_difference : (limit : ℕ) (d : Document) → IsLeastUpTo limit (Accepts b start) d → IsLeastUpTo limit (IsApart a left right) d
  least_difference limit d w = up_to_equal limit (Accepts b start) (IsApart a left right) d of_difference in_difference w
