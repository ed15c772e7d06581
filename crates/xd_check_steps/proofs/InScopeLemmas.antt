-- Variables of a pattern that come into scope.
use Rattle.std.proofs.Common.{◌≡◌, List, [], ◌∷◌, ◌++◌, refl, ap, ◌∙◌}
use Rattle.xd_bind.specs.declared.tracks.Given.{Given}
use Rattle.xd_check_steps.specs.declared.variables.Variable.{Variable}
use Rattle.xd_check_steps.specs.InScope.{given_variables}

-- one variable more, from the last one on
pub given_more : (gs rest : List Given) (vs : List Variable) (g : Given) → gs ≡ rest ++ g ∷ [] → given_variables gs ++ vs ≡ given_variables rest ++ record { name = g.variable; state = g.state } ∷ vs
given_more gs rest vs g e = ap (λ hs. given_variables hs ++ vs) e ∙ go rest
  where
    go : (hs : List Given) → given_variables (hs ++ g ∷ []) ++ vs ≡ given_variables hs ++ record { name = g.variable; state = g.state } ∷ vs
    go [] = refl
    go (h ∷ hs) = ap (λ (us : List Variable). record { name = h.variable; state = h.state } ∷ us) (go hs)
