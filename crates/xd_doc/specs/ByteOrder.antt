-- Words in byte order.
use Rattle.std.specs.Prelude.{ℕ, List, [], ◌∷◌}
use Rattle.std.specs.Ordering.{nat_cmp}
use Rattle.std.specs.Cmp.Lexicographic.{slice_cmp}
use Rattle.std.specs.declared.cmp.Ordering.TheVariants.{Less, Equal, Greater}

-- a word put among words in byte order, unless it is one of them
abbrev pub put_word : List ℕ → List (List ℕ) → List (List ℕ)
put_word w [] = w ∷ []
put_word w (v ∷ vs) =
    elim (slice_cmp nat_cmp w v) as (λ _. List (List ℕ)) [
      | Less ↦ w ∷ (v ∷ vs)
      | Equal ↦ v ∷ vs
      | Greater ↦ v ∷ put_word w vs
    ]

-- these words in byte order, each once
abbrev pub in_byte_order : List (List ℕ) → List (List ℕ)
in_byte_order [] = []
in_byte_order (w ∷ ws) = put_word w (in_byte_order ws)
