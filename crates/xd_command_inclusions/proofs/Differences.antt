-- What one type alone has, by states that accept what fits the types.
use Rattle.std.proofs.Common.{◌≡◌, Bool, true, false, refl, sym, ◌∙◌}
use Rattle.std.specs.Prelude.{◌↔◌, ◌&&◌, not}
use Rattle.xd_doc.proofs.Bools.{not_true_and_false}
use Rattle.xd_auto.specs.Automaton.{Automaton, accepts}
use Rattle.xd_auto.specs.declared.auto.State.{State}
use Rattle.xd_doc.specs.Document.{Document, is_proper}
use Rattle.xd_syntax.specs.Tree.{Tree, Definitions}
use Rattle.xd_command_documents.specs.FitsByState.{IsAcceptor}
use Rattle.xd_command_inclusions.specs.MinusAlone.{IsAlone}
use Rattle.xd_inclusion.specs.Inclusion.{FitsAlone}

both : (a b : Bool) → (a && not b) ≡ true → (a ≡ true) × (b ≡ true → ⊥)
both true true e = absurd (not_true_and_false e)
both true false e = (refl, λ f. not_true_and_false f)
both false b e = absurd (not_true_and_false e)

alone : (a b : Bool) → a ≡ true → (b ≡ true → ⊥) → (a && not b) ≡ true
alone true true e n = absurd (n refl)
alone true false e n = refl
alone false b e n = absurd (not_true_and_false e)

module _ (E : Definitions) (L R : Tree) where
  pub alone_by : (one two made : Automaton) (first second start : State) → IsAcceptor E L one first → IsAcceptor E R two second →
      ((d : Document) → accepts made d start ≡ (accepts one d first && not (accepts two d second))) → (d : Document) → (accepts made d start ≡ true) ↔ IsAlone E L R d
  alone_by one two made first second start left right exact d = (
    λ e. let h = both (accepts one d first) (accepts two d second) (sym (exact d) ∙ e) in ((left.1 d).0 h.0, λ f. h.1 ((right.1 d).1 f)),
    λ h. exact d ∙ alone (accepts one d first) (accepts two d second) ((left.1 d).1 h.0) (λ e. h.1 ((right.1 d).0 e)),
  )

  -- of proper documents this is what fits the first type alone
  pub properly_alone : (a : Automaton) (s : State) → ((d : Document) → (accepts a d s ≡ true) ↔ IsAlone E L R d) → (d : Document) → is_proper d ≡ true → (accepts a d s ≡ true) ↔ FitsAlone E L R d
  properly_alone a s exact d p = (
    λ e. let h = (exact d).0 e in record { proper = p; left = h.0; right = h.1 },
    λ f. (exact d).1 (f.left, f.right),
  )
