-- The nodes that names of types stand for.
use Rattle.std.specs.Prelude.{◌≡◌, ℕ, ◌<◌, cond, List, length, Option, Some, None}
use Rattle.std.specs.Str.{bytes_eq}
use Rattle.xd_syntax.specs.Words.{any_word}
use Rattle.xd_syntax.specs.Tree.{Tree, body}
use Rattle.xd_syntax.specs.Table.{Row, tree_at}
use Rattle.xd_syntax.specs.SoundTables.{definition_of}
use Rattle.xd_syntax.specs.declared.types.TypeDef.{TypeDef}
use Rattle.xd_sound.specs.TypeNames.{AreNumbered, body_at, meanings}
use Rattle.xd_continuations.specs.declared.bodies.TypeBodies.{TypeBodies}

-- the node of the first definition of the name, or for `Any` this one
abbrev pub node_of : List TypeDef → ℕ → List ℕ → Option ℕ
node_of ds any w = cond (bytes_eq any_word w) (Some any) (body_at (definition_of ds w))

abbrev pub tree_of_body : List Row → Option ℕ → Option Tree
tree_of_body types None = None
tree_of_body types (Some i) = Some (tree_at types i)

-- the node that a name stands for
pub record AreBodies (types : List Row) (ds : List TypeDef) (bodies : TypeBodies) : Type 0 where
  pub numbered : AreNumbered bodies.names ds
  pub right : (w : List ℕ) → tree_of_body types (node_of ds bodies.any w) ≡ body (meanings types ds) w
  pub within : (w : List ℕ) (i : ℕ) → node_of ds bodies.any w ≡ Some i → i < length types
