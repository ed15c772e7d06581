-- On tests that agree on the elements of a list.
use Rattle.std.proofs.Common.{◌≡◌, Bool, ◌||◌, List, [], ◌∷◌, refl, ap, ◌∙◌}
use Rattle.std.specs.List.{AllByRecursion, list_any}

pub any_agree : {X : Type 0} (P : X → Type 0) (f g : X → Bool) (xs : List X) → AllByRecursion P xs → ((x : X) → P x → f x ≡ g x) → list_any f xs ≡ list_any g xs
any_agree P f g [] all same = refl
any_agree P f g (x ∷ xs) all same = ap (λ w. w || list_any f xs) (same x all.0) ∙ ap (λ w. g x || w) (any_agree P f g xs all.1 same)
