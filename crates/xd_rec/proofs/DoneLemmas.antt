-- one more node of the path is done
use Rattle.std.proofs.Common.{◌≡◌, ℕ, zero, suc, ◌+◌, ◌<◌, ◌≤◌, ◌⊎◌, arith, List, [], ◌∷◌, ◌++◌, length, get_or, set, refl, ap, sym, ◌∙◌, inl, inr}
use Rattle.std.proofs.lemmas.List.{length-set, get_or-set_same, get_or-set_other, get_or_past}
use Rattle.std.proofs.lemmas.Bool.{cases_lt, cases_eq}
use Rattle.xd_rec.specs.Components.{standing_of, node_at, unseen}
use Rattle.xd_rec.specs.declared.components.Standing.{Standing}
use Rattle.xd_rec.specs.declared.components.Standing.TheVariants.{Unseen, Open, Done}
use Rattle.xd_rec.proofs.IsSearchedLemmas.{open_same}

pub unseen_same : (st : List Standing) (v p c : ℕ) → get_or st v Unseen ≡ Open p → unseen (set st v (Done c)) ≡ unseen st
unseen_same [] v p c e = refl
unseen_same (Unseen ∷ st) zero p c e = absurd (cc)
unseen_same (Open q ∷ st) zero p c e = refl
unseen_same (Done d ∷ st) zero p c e = refl
unseen_same (Unseen ∷ st) (suc v) p c e = ap (λ n. n + 1) (unseen_same st v p c e)
unseen_same (Open q ∷ st) (suc v) p c e = unseen_same st v p c e
unseen_same (Done d ∷ st) (suc v) p c e = unseen_same st v p c e

pub open_there : (st : List Standing) (v p : ℕ) → standing_of st v ≡ Open p → v < length st
open_there st v p e = elim (cases_lt v (length st)) [ inl l ↦ l | inr l ↦ absurd (let x : Unseen ≡ Open p = sym (get_or_past st v Unseen l) ∙ e in cc) ]

pub record IsFinishing (old st : List Standing) (from place number : ℕ) : Type 0 where
  pub count : length st ≡ length old
  pub unseen_still : unseen st ≡ unseen old
  pub closed : (v p : ℕ) → standing_of old v ≡ Open p → from ≤ p → p < place → standing_of st v ≡ Done number
  pub kept : (v : ℕ) → ((p : ℕ) → standing_of old v ≡ Open p → (p < from) ⊎ (place ≤ p)) → standing_of st v ≡ standing_of old v

pub finish_more : (old st : List Standing) (path : List ℕ) (from place number : ℕ) → IsFinishing old st from place number → from ≤ place → place < length path →
    ((p : ℕ) → p < length path → standing_of old (node_at path p) ≡ Open p) →
    ((v p : ℕ) → standing_of old v ≡ Open p → (p < length path) × (node_at path p ≡ v)) →
    IsFinishing old (set st (node_at path place) (Done number)) from (place + 1) number
finish_more old st path from place number i f l stands on_path =
    let node = node_at path place in
    let there : standing_of old node ≡ Open place = stands place l in
    let now : standing_of st node ≡ Open place = i.kept node (λ p e. inr (at_place p (sym there ∙ e))) ∙ there in
    let n = length-set st node (Done number) in
    record {
      count = n ∙ i.count;
      unseen_still = unseen_same st node place number now ∙ i.unseen_still;
      closed = λ v p e a b. elim (cases_eq v node) [
        | inl q ↦ ap (standing_of (set st node (Done number))) q ∙ get_or-set_same st node (Done number) Unseen (open_there st node place now)
        | inr q ↦ get_or-set_other st node v (Done number) Unseen q ∙ i.closed v p e a (before p (λ k. q (sym (on_path v p e).1 ∙ ap (node_at path) k)) b)
      ];
      kept = λ v h. elim (cases_eq v node) [
        | inl q ↦ absurd (elim (h place (ap (standing_of old) q ∙ there)) [ inl a ↦ omega arith | inr a ↦ omega arith ])
        | inr q ↦ get_or-set_other st node v (Done number) Unseen q ∙ i.kept v (λ p e. elim (h p e) [ inl a ↦ inl a | inr a ↦ inr (omega arith) ])
      ];
    }
  where
    at_place : (p : ℕ) → Open place ≡ Open p → place ≤ p
    at_place p e = let q = open_same place p e in omega arith

    before : (p : ℕ) → (p ≡ place → ⊥) → p < place + 1 → p < place
    before p n b = elim (cases_eq p place) [ inl q ↦ absurd (n q) | inr q ↦ omega arith ]

pub unseen_more : (st : List Standing) → unseen (st ++ Unseen ∷ []) ≡ unseen st + 1
unseen_more [] = refl
unseen_more (Unseen ∷ st) = ap (λ n. n + 1) (unseen_more st)
unseen_more (Open p ∷ st) = unseen_more st
unseen_more (Done c ∷ st) = unseen_more st

pub all_unseen : (st : List Standing) → ((v : ℕ) → standing_of st v ≡ Unseen) → (v : ℕ) → standing_of (st ++ Unseen ∷ []) v ≡ Unseen
all_unseen [] h zero = refl
all_unseen [] h (suc v) = refl
all_unseen (s ∷ st) h zero = h zero
all_unseen (s ∷ st) h (suc v) = all_unseen st (λ u. h (suc u)) v
