-- The claim of a proof, as its verifier writes it.
use Rattle.std.specs.Prelude.{ℕ, codes, List, [], ◌∷◌, ◌++◌}
use Rattle.xd_syntax.specs.Tree.{Tree}
use Rattle.xd_syntax.specs.TypeText.{type_text}
use Rattle.xd_meaning.specs.Consistent.{Goal}

-- the rights with `or` between them
abbrev pub rights_text : List Tree → List ℕ
rights_text [] = codes "nothing"
rights_text (T ∷ []) = type_text T
rights_text (T ∷ (U ∷ Us)) = type_text T ++ (codes " or " ++ rights_text (U ∷ Us))

-- the line of an accepted proof, by its first goal
abbrev pub claim_text : Goal → List ℕ
claim_text g = codes "accepted: " ++ (type_text g.left ++ (codes " <: " ++ rights_text g.rights))
