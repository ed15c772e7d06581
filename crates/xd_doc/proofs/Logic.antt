-- On statements.
use Rattle.std.proofs.Common.{◌⊎◌, inl, inr}

pub sum_map : {A B C D : Type 0} → (A → C) → (B → D) → A ⊎ B → C ⊎ D
sum_map f g (inl a) = inl (f a)
sum_map f g (inr b) = inr (g b)
