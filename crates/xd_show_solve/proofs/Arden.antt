-- The rule of Arden (Delayed logic and finite-state machines, 1961): where `L` takes an item, `X =
-- L,X | R` has the solution `L*,R` alone.
use Rattle.std.proofs.Common.{◌≡◌, ◌⊎◌, inl, inr, true, refl, sym, ap, ◌∙◌, subst, ℕ, zero, suc, ◌<◌, arith}
use Rattle.xd_doc.specs.Document.{Document, empty, join, has_item}
use Rattle.xd_doc.specs.DocumentCode.{breadth}
use Rattle.xd_doc.proofs.Joins.{join_assoc}
use Rattle.xd_syntax.specs.Fits.{Split}
use Rattle.xd_meaning.specs.FitsWithin.{Repeats, no_turn, one_turn}
use Rattle.xd_same_types.proofs.Splits.{Within, breadth_less}

-- at least
rep_in : (L R X : Document → Type 0) → ((d : Document) → Split L X d ⊎ R d → X d) → {a : Document} → Repeats L a → (b : Document) → R b → X (join a b)
rep_in L R X f no_turn b r = f b (inr r)
rep_in L R X f (one_turn p q e h l s) b r =
    f _ (inl (p, join q b, sym (join_assoc p q b) ∙ ap (λ x. join x b) e, l, rep_in L R X f s b r))

pub arden_in : (L R X : Document → Type 0) → ((d : Document) → Split L X d ⊎ R d → X d) → Within (Split (Repeats L) R) X
arden_in L R X f d h = subst X h.2 (rep_in L R X f h.3 h.1 h.4)

-- at most
arden_step : (L R X : Document → Type 0) → ((d : Document) → L d → has_item d ≡ true) → (n : ℕ) (d : Document) → breadth d < suc n →
    ((e : Document) → breadth e < n → X e → Split (Repeats L) R e) → Split L X d ⊎ R d → Split (Repeats L) R d
arden_step L R X g n d l rec (inr r) = (empty, d, refl, no_turn, r)
arden_step L R X g n d l rec (inl s) =
    let h : has_item s.0 ≡ true = g s.0 s.3 in
    let less = breadth_less s.0 s.1 h in
    let e : breadth (join s.0 s.1) ≡ breadth d = ap breadth s.2 in
    let below : breadth s.1 < n = omega arith in
    let i = rec s.1 below s.4 in
    (join s.0 i.0, i.1, join_assoc s.0 i.0 i.1 ∙ ap (join s.0) i.2 ∙ s.2, one_turn s.0 i.0 refl h s.3 i.3, i.4)

arden_below : (L R X : Document → Type 0) → ((d : Document) → X d → Split L X d ⊎ R d) → ((d : Document) → L d → has_item d ≡ true) →
    (n : ℕ) (d : Document) → breadth d < n → X d → Split (Repeats L) R d
arden_below L R X f g zero d l x = absurd (omega arith)
arden_below L R X f g (suc n) d l x = arden_step L R X g n d l (arden_below L R X f g n) (f d x)

pub arden_out : (L R X : Document → Type 0) → ((d : Document) → X d → Split L X d ⊎ R d) → ((d : Document) → L d → has_item d ≡ true) → Within X (Split (Repeats L) R)
arden_out L R X f g d x = let l : breadth d < suc (breadth d) = omega arith in arden_below L R X f g (suc (breadth d)) d l x
