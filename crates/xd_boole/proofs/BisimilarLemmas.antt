-- On states that stand in for each other, all at once.
use Rattle.std.proofs.Common.{◌≡◌, ◌⊎◌, inl, inr, ℕ, zero, suc, ◌+◌, ◌<◌, ◌≤◌, arith, ◌&&◌, ap, sym, subst, ◌∙◌, refl, List, [], ◌∷◌, length, get_or}
use Rattle.std.specs.List.{AllByRecursion}
use Rattle.xd_doc.specs.Document.{Document, empty, text, element}
use Rattle.xd_doc.specs.Classes.{class_has}
use Rattle.xd_auto.specs.declared.auto.State.{State}
use Rattle.xd_auto.specs.Automaton.{Automaton, IsState, accepts, moves_at, state_number}
use Rattle.xd_boole.specs.declared.merging.Compared.{Compared}
use Rattle.xd_boole.specs.Merging.{AreLike, AreStandIns, AreBisimilar, IsLike, IsLikeLabel, IsLikeText, stand_in}
use Rattle.xd_boole.proofs.MergeLemmas.{any_zip}

-- a state and the one that is to stand in for it
abbrev pub as_compared : List State → State → Compared
as_compared same s = record { one = s; other = stand_in same s }

module _ (a : Automaton) (same : List State) (count : length same ≡ length a) (all : (s : State) → IsState a s → AreBisimilar a same (as_compared same s)) where
  like_or_none : (s : State) → IsState a s ⊎ (stand_in same s ≡ s)
  like_or_none s = elim (below_or_not (state_number s) (length a)) [ inl l ↦ inl l | inr n ↦ inr (beyond same (state_number s) (omega (arith, n, count))) ]
    where
      below_or_not : (i n : ℕ) → (i < n) ⊎ (n ≤ i)
      below_or_not zero zero = inr (omega arith)
      below_or_not zero (suc n) = inl (omega arith)
      below_or_not (suc i) zero = inr (omega arith)
      below_or_not (suc i) (suc n) = elim (below_or_not i n) [ inl l ↦ inl (omega arith) | inr m ↦ inr (omega arith) ]

      beyond : (xs : List State) (k : ℕ) → length xs ≤ k → get_or xs k s ≡ s
      beyond [] k l = refl
      beyond (x ∷ xs) zero l = absurd (omega arith)
      beyond (x ∷ xs) (suc k) l = let m : length xs ≤ k = omega arith in beyond xs k m

  -- targets that are like each other accept the same, where what stands in does
  same_side : (d : Document) (s : State) → ((u : State) → accepts a d u ≡ accepts a d (stand_in same u)) → (u v : State) → IsLike same (as_compared same s) u v → accepts a d u ≡ accepts a d v
  same_side d s h u v (inl both) = ap (accepts a d) both.0 ∙ h s ∙ sym (ap (accepts a d) both.1)
  same_side d s h u v (inr e) = h u ∙ ap (accepts a d) e ∙ sym (h v)

  -- the state is none, is like the other one, or both accept everything
  by_case : (d : Document) (s : State) → (AreLike a same (as_compared same s) → accepts a d s ≡ accepts a d (stand_in same s)) → accepts a d s ≡ accepts a d (stand_in same s)
  by_case d s h = elim (like_or_none s) [ inl there ↦ by_bisimilar (all s there) | inr e ↦ ap (accepts a d) (sym e) ]
    where
      by_bisimilar : AreBisimilar a same (as_compared same s) → accepts a d s ≡ accepts a d (stand_in same s)
      by_bisimilar (inl like) = h like
      by_bisimilar (inr both) = both.0 d ∙ sym (both.1 d)

  pub bisimilar_accept : (d : Document) (s : State) → accepts a d s ≡ accepts a d (stand_in same s)
  bisimilar_accept empty s = by_case empty s (λ like. like.last)
  bisimilar_accept (text t r) s =
      by_case (text t r) s (λ like.
      any_zip (IsLikeText same (as_compared same s)) (λ m. class_has m.words t && accepts a r m.rest) (λ m. class_has m.words t && accepts a r m.rest) (moves_at a s).texts (moves_at a (stand_in same s)).texts like.texts
      (λ m n h. ap (λ w. class_has w t && accepts a r m.rest) h.words ∙ ap (λ w. class_has n.words t && w) (same_side r s (bisimilar_accept r) m.rest n.rest h.rest)))
  bisimilar_accept (element l k r) s =
      by_case (element l k r) s (λ like.
      any_zip (IsLikeLabel same (as_compared same s)) (λ m. class_has m.class l && (accepts a k m.content && accepts a r m.rest)) (λ m. class_has m.class l && (accepts a k m.content && accepts a r m.rest))
      (moves_at a s).labels (moves_at a (stand_in same s)).labels like.labels
      (λ m n h. ap (λ w. class_has w l && (accepts a k m.content && accepts a r m.rest)) h.class
      ∙ ap (λ w. class_has n.class l && (w && accepts a r m.rest)) (same_side k s (bisimilar_accept k) m.content n.content h.content)
      ∙ ap (λ w. class_has n.class l && (accepts a k n.content && w)) (same_side r s (bisimilar_accept r) m.rest n.rest h.rest)))

  pub bisimilar_stand : AllByRecursion (IsState a) same → AreStandIns a same
  bisimilar_stand states = record { count = count; states = states; accept = λ d s. sym (bisimilar_accept d s) }

-- states that are bisimilar to what is to stand in for them, one more
pub bisimilar_more : (a : Automaton) (same : List State) (n : ℕ) (t o : State) → state_number t ≡ n → o ≡ stand_in same t → ((s : State) → state_number s < n → AreBisimilar a same (as_compared same s)) → AreBisimilar a same (record { one = t; other = o }) → (s : State) → state_number s < n + 1 → AreBisimilar a same (as_compared same s)
bisimilar_more a same n t o e f below here s b = by_place (less_or_same (state_number s) n b)
  where
    less_or_same : (i j : ℕ) → i < j + 1 → (i < j) ⊎ (i ≡ j)
    less_or_same zero zero l = inr refl
    less_or_same (suc i) zero l = absurd (omega arith)
    less_or_same zero (suc j) l = inl (omega arith)
    less_or_same (suc i) (suc j) l = let u : i < j + 1 = omega arith in elim (less_or_same i j u) [ inl v ↦ inl (omega arith) | inr v ↦ inr (ap suc v) ]

    by_place : (state_number s < n) ⊎ (state_number s ≡ n) → AreBisimilar a same (as_compared same s)
    by_place (inl u) = below s u
    by_place (inr u) =
        let is : s ≡ t = ap (λ k. let z : State = record { number = k } in z) (u ∙ sym e) in
        subst (λ x. AreBisimilar a same (as_compared same x)) (sym is) (subst (λ x. AreBisimilar a same (record { one = t; other = x })) f here)
