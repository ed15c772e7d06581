-- Definitions of types by name.
use Rattle.std.specs.Prelude.{◌≡◌, ℕ, suc, cond, List, [], ◌∷◌, map, Option, Some, None}
use Rattle.std.specs.Ordering.{nat_cmp}
use Rattle.std.specs.Cmp.Lexicographic.{slice_cmp}
use Rattle.std.specs.Str.{bytes_eq}
use Rattle.std.specs.BTreeMap.{get}
use Rattle.xd_syntax.specs.Tree.{Definitions, environment}
use Rattle.xd_syntax.specs.Table.{Row}
use Rattle.xd_syntax.specs.Placed.{unplaced}
use Rattle.xd_syntax.specs.Program.{TypeDefinition}
use Rattle.xd_syntax.specs.Kept.{type_definition}
use Rattle.xd_syntax.specs.declared.types.TypeDef.{TypeDef}
use Rattle.xd_sound.specs.declared.type_names.TypeNames.{TypeNames}

-- the number of the first definition of a name, where the first of these has the number n
abbrev pub first_from : ℕ → List TypeDef → List ℕ → Option ℕ
first_from n [] w = None
first_from n (d ∷ ds) w = cond (bytes_eq d.name w) (Some n) (first_from (suc n) ds w)

abbrev pub first_of : List TypeDef → List ℕ → Option ℕ
first_of ds w = first_from 0 ds w

-- the number that a name has
abbrev pub number_of : TypeNames → List ℕ → Option ℕ
number_of names w = get (slice_cmp nat_cmp) names.numbers w

-- each name has the number of its first definition
abbrev pub AreNumbered : TypeNames → List TypeDef → Type 0
AreNumbered names ds = (w : List ℕ) → number_of names w ≡ first_of ds w

-- the node that a definition stands for
abbrev pub body_at : Option TypeDef → Option ℕ
body_at None = None
body_at (Some d) = Some d.body.at

-- what the names of types stand for, `Any` among them
abbrev pub meanings : List Row → List TypeDef → Definitions
meanings types ds = environment (map (λ (t : TypeDefinition). (t.name, unplaced t.body)) (map (type_definition types) ds))
