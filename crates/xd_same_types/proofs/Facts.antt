-- Sums of facts, and facts of each item of a list.
use Rattle.std.proofs.Common.{◌⊎◌, ◌↔◌, inl, inr, []}
use Rattle.xd_doc.proofs.Logic.{sum_map}

pub or_left : {A B C : Type 0} → A ⊎ (B ⊎ C) → (A ⊎ B) ⊎ C
or_left (inl a) = inl (inl a)
or_left (inr (inl b)) = inl (inr b)
or_left (inr (inr c)) = inr c

pub or_right : {A B C : Type 0} → (A ⊎ B) ⊎ C → A ⊎ (B ⊎ C)
or_right (inl (inl a)) = inl a
or_right (inl (inr b)) = inr (inl b)
or_right (inr c) = inr (inr c)

-- (A or C) or B, as (A or B) or C
pub or_swap : {A B C : Type 0} → (A ⊎ B) ⊎ C → (A ⊎ C) ⊎ B
or_swap (inl (inl a)) = inl (inl a)
or_swap (inl (inr b)) = inr b
or_swap (inr c) = inl (inr c)

pub or_same : {A B C D : Type 0} → A ↔ C → B ↔ D → (A ⊎ B) ↔ (C ⊎ D)
or_same f g = (sum_map f.0 g.0, sum_map f.1 g.1)

pub iff_then : {A B C : Type 0} → A ↔ B → B ↔ C → A ↔ C
iff_then f g = (λ a. g.0 (f.0 a), λ c. f.1 (g.1 c))

pub iff_back : {A B : Type 0} → A ↔ B → B ↔ A
iff_back f = (f.1, f.0)

pub or_none : {A : Type 0} → (A ⊎ ⊥) ↔ A
or_none {A} = (out, λ a. inl a)
  where
    out : A ⊎ ⊥ → A
    out (inl a) = a
    out (inr n) = absurd n

pub none_or : {A : Type 0} → (⊥ ⊎ A) ↔ A
none_or {A} = (out, λ a. inr a)
  where
    out : ⊥ ⊎ A → A
    out (inl n) = absurd n
    out (inr a) = a
