-- How many continuations cells can make.
use Rattle.std.proofs.Common.{◌≡◌, ℕ, zero, suc, ◌+◌, ◌<◌, ◌≤◌, ◌⊎◌, arith, Bool, true, false, List, length, refl, ap, sym, ◌∙◌, inl, inr}
use Rattle.std.specs.List.{AllByRecursion}
use Rattle.xd_doc.proofs.Lists.{all_more}
use Rattle.xd_doc.specs.Members.{IsOneOf}
use Rattle.xd_continuations.specs.Chains.{lists_in, AreLinks}
use Rattle.xd_continuations.proofs.ChainLemmas.{few_links}
use Rattle.xd_moves.specs.Cells.{Cell, pieces_below, room}
use Rattle.xd_moves.specs.declared.piece.Piece.{Piece}

below_among : (n : ℕ) (p : Piece) → p.node < n → IsOneOf p (pieces_below n)
below_among zero p h = absurd (omega arith)
below_among (suc n) p h = go p.is_turns refl (λ l. below_among n p l) (cases_eq p.node n (omega arith))
  where
    cases_eq : (i j : ℕ) → i ≤ j → (i ≡ j) ⊎ (i < j)
    cases_eq zero zero k = inl refl
    cases_eq zero (suc j) k = inr (omega arith)
    cases_eq (suc i) zero k = absurd (omega arith)
    cases_eq (suc i) (suc j) k = elim (cases_eq i j (omega arith)) [ inl e ↦ inl (ap suc e) | inr l ↦ inr (omega arith) ]

    whole : (b : Bool) → p.node ≡ n → p.is_turns ≡ b → (let q : Piece = record { node = n; is_turns = b } in q) ≡ p
    whole b e i =
        ap (λ (m : ℕ). let q : Piece = record { node = m; is_turns = b } in q) (sym e) ∙ ap (λ (t : Bool). let q : Piece = record { node = p.node; is_turns = t } in q) (sym i)

    go : (b : Bool) → p.is_turns ≡ b → (p.node < n → IsOneOf p (pieces_below n)) → (p.node ≡ n) ⊎ (p.node < n) → IsOneOf p (pieces_below (suc n))
    go false i rec (inl e) = inl (whole false e i)
    go true i rec (inl e) = inr (inl (whole true e i))
    go b i rec (inr l) = inr (inr (rec l))

pub few_cells : (n most : ℕ) (cells : List Cell) → AreLinks cells → AllByRecursion (λ (c : Cell). c.item.node < n) cells →
    AllByRecursion (λ (K : List Piece). length K ≤ most) (lists_in cells) → length cells + 1 ≤ room n most
few_cells n most cells a below short =
    few_links (pieces_below n) most cells a (all_more (λ (c : Cell). c.item.node < n) (λ c. IsOneOf c.item (pieces_below n)) cells (λ c h. below_among n c.item h) below) short
