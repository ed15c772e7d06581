-- Names stand for what their first definitions do.
use Rattle.std.proofs.Common.{◌≡◌, ℕ, ◌<◌, Bool, true, false, cond, List, [], ◌∷◌, map, length, Option, Some, refl, ap, sym, subst}
use Rattle.std.specs.Str.{bytes_eq}
use Rattle.std.specs.List.{AllByRecursion}
use Rattle.xd_syntax.specs.Words.{any_word}
use Rattle.xd_syntax.specs.Tree.{Tree, body, any_type}
use Rattle.xd_syntax.specs.Table.{Row, tree_at}
use Rattle.xd_syntax.specs.PlacedTable.{placed_at}
use Rattle.xd_syntax.specs.Placed.{unplaced}
use Rattle.xd_syntax.specs.Program.{TypeDefinition}
use Rattle.xd_syntax.specs.Kept.{type_definition}
use Rattle.xd_syntax.specs.SoundTables.{definition_of}
use Rattle.xd_syntax.specs.declared.types.TypeDef.{TypeDef}
use Rattle.xd_sound.specs.TypeNames.{AreNumbered, body_at, meanings}
use Rattle.xd_syntax.proofs.PlacedTrees.{unplaced_at}
use Rattle.xd_continuations.specs.Bodies.{AreBodies, node_of, tree_of_body}
use Rattle.xd_continuations.specs.declared.bodies.TypeBodies.{TypeBodies}

abbrev pair : TypeDefinition → List ℕ × Tree
pair t = (t.name, unplaced t.body)

-- the node of a name, or of `Any`, has as its tree what the name stands for
defined : (types : List Row) (ds : List TypeDef) (w : List ℕ) → tree_of_body types (body_at (definition_of ds w)) ≡ body (map pair (map (type_definition types) ds)) w
defined types [] w = refl
defined types (d ∷ ds) w = go (bytes_eq d.name w) (defined types ds w)
  where
    go : (b : Bool) → tree_of_body types (body_at (definition_of ds w)) ≡ body (map pair (map (type_definition types) ds)) w →
        tree_of_body types (body_at (cond b (Some d) (definition_of ds w))) ≡ cond b (Some (unplaced (placed_at types d.body.at))) (body (map pair (map (type_definition types) ds)) w)
    go true i = ap Some (sym (unplaced_at types d.body.at))
    go false i = i

node_trees : (types : List Row) (ds : List TypeDef) (any : ℕ) → tree_at types any ≡ any_type → (w : List ℕ) → tree_of_body types (node_of ds any w) ≡ body (meanings types ds) w
node_trees types ds any t w = go (bytes_eq any_word w)
  where
    go : (b : Bool) → tree_of_body types (cond b (Some any) (body_at (definition_of ds w))) ≡ cond b (Some any_type) (body (map pair (map (type_definition types) ds)) w)
    go true = ap Some t
    go false = defined types ds w

-- and it is one of the table
inside : (types : List Row) (ds : List TypeDef) → AllByRecursion (λ (d : TypeDef). d.body.at < length types) ds → (w : List ℕ) (i : ℕ) → body_at (definition_of ds w) ≡ Some i → i < length types
inside types [] a w i e = cc
inside types (d ∷ ds) a w i e = go (bytes_eq d.name w) e (λ k. inside types ds a.1 w i k)
  where
    go : (b : Bool) → body_at (cond b (Some d) (definition_of ds w)) ≡ Some i → (body_at (definition_of ds w) ≡ Some i → i < length types) → i < length types
    go true k rec = let q : d.body.at ≡ i = cc in subst (λ j. j < length types) q a.0
    go false k rec = rec k

nodes_within : (types : List Row) (ds : List TypeDef) (any : ℕ) → AllByRecursion (λ (d : TypeDef). d.body.at < length types) ds → any < length types →
    (w : List ℕ) (i : ℕ) → node_of ds any w ≡ Some i → i < length types
nodes_within types ds any a h w i e = go (bytes_eq any_word w) e
  where
    go : (b : Bool) → cond b (Some any) (body_at (definition_of ds w)) ≡ Some i → i < length types
    go true e = let q : any ≡ i = cc in subst (λ j. j < length types) q h
    go false e = inside types ds a w i e

pub are_bodies : (types : List Row) (ds : List TypeDef) (b : TypeBodies) → AllByRecursion (λ (d : TypeDef). d.body.at < length types) ds → AreNumbered b.names ds → b.any < length types → tree_at types b.any ≡ any_type →
    AreBodies types ds b
are_bodies types ds b a n h t = record { numbered = n; right = node_trees types ds b.any t; within = nodes_within types ds b.any a h }
