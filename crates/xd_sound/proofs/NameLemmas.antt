-- look-ups of names
use Rattle.std.proofs.Common.{◌≡◌, ℕ, suc, ◌+◌, ◌-◌, ◌<◌, ◌≤◌, arith, Bool, true, false, cond, List, [], ◌∷◌, map, length, get_or, drop, Option, Some, None, refl, ap, ◌∙◌}
use Rattle.std.specs.Str.{bytes_eq}
use Rattle.std.proofs.lemmas.List.{drop_more}
use Rattle.xd_doc.proofs.Options.{some_same}
use Rattle.xd_syntax.specs.Words.{any_word}
use Rattle.xd_syntax.specs.Tree.{Tree, body, any_type}
use Rattle.xd_syntax.specs.Table.{Row, tree_at}
use Rattle.xd_syntax.specs.PlacedTable.{placed_at}
use Rattle.xd_syntax.specs.Placed.{unplaced}
use Rattle.xd_syntax.specs.Program.{TypeDefinition}
use Rattle.xd_syntax.specs.Kept.{type_definition}
use Rattle.xd_syntax.specs.SoundTables.{definition_of}
use Rattle.xd_syntax.specs.declared.types.TypeDef.{TypeDef}
use Rattle.xd_syntax.proofs.PlacedTrees.{unplaced_at}
use Rattle.xd_sound.specs.TypeNames.{first_from, meanings}

-- what the number of a name says
pub record IsFirst (ds : List TypeDef) (n k : ℕ) (w : List ℕ) : Type 0 where
  pub low : n ≤ k
  pub high : k < n + length ds
  pub defined : (d : TypeDef) → definition_of ds w ≡ Some (get_or ds (k - n) d)

pub first_found : (n : ℕ) (ds : List TypeDef) (w : List ℕ) (k : ℕ) → first_from n ds w ≡ Some k → IsFirst ds n k w
first_found n [] w k e = absurd (cc)
first_found n (d ∷ ds) w k e = go (bytes_eq d.name w) refl e (λ f. first_found (suc n) ds w k f)
  where
    go : (b : Bool) → bytes_eq d.name w ≡ b → cond b (Some n) (first_from (suc n) ds w) ≡ Some k → (first_from (suc n) ds w ≡ Some k → IsFirst ds (suc n) k w) → IsFirst (d ∷ ds) n k w
    go true q f rec =
        let e : n ≡ k = some_same n k f in
        let z : k - n ≡ 0 = omega arith in
        record { low = omega arith; high = omega arith; defined = λ x. (rw (q, z) refl) }
    go false q f rec =
        let r = rec f in
        let a = r.low in
        let b = r.high in
        let z : k - n ≡ suc (k - suc n) = omega arith in
        record { low = omega arith; high = omega arith; defined = λ x. (rw (q, z) (r.defined x)) }

pub first_missing : (n : ℕ) (ds : List TypeDef) (w : List ℕ) → first_from n ds w ≡ None → definition_of ds w ≡ None
first_missing n [] w e = refl
first_missing n (d ∷ ds) w e = go (bytes_eq d.name w) e (λ f. first_missing (suc n) ds w f)
  where
    go : (b : Bool) → cond b (Some n) (first_from (suc n) ds w) ≡ None → (first_from (suc n) ds w ≡ None → definition_of ds w ≡ None) → cond b (Some d) (definition_of ds w) ≡ None
    go true f rec = absurd (cc)
    go false f rec = rec f

-- one more definition in front
pub first_front : (ds : List TypeDef) (n : ℕ) (w : List ℕ) (d : TypeDef) → n < length ds →
    first_from n (drop n ds) w ≡ cond (bytes_eq (get_or ds n d).name w) (Some n) (first_from (n + 1) (drop (n + 1) ds) w)
first_front ds n w d l =
    let s : suc n ≡ n + 1 = omega arith in
    ap (λ xs. first_from n xs w) (drop_more ds n d l) ∙ ap (λ m. cond (bytes_eq (get_or ds n d).name w) (Some n) (first_from m (drop (n + 1) ds) w)) s

abbrev pub pair_of : TypeDefinition → List ℕ × Tree
pair_of t = (t.name, unplaced t.body)

abbrev pub body_of : List Row → Option TypeDef → Option Tree
body_of types None = None
body_of types (Some d) = Some (tree_at types d.body.at)

bodies_defined : (types : List Row) (ds : List TypeDef) (w : List ℕ) → body (map pair_of (map (type_definition types) ds)) w ≡ body_of types (definition_of ds w)
bodies_defined types [] w = refl
bodies_defined types (d ∷ ds) w = go (bytes_eq d.name w) (bodies_defined types ds w)
  where
    go : (b : Bool) → body (map pair_of (map (type_definition types) ds)) w ≡ body_of types (definition_of ds w) →
        cond b (Some (unplaced (placed_at types d.body.at))) (body (map pair_of (map (type_definition types) ds)) w) ≡ body_of types (cond b (Some d) (definition_of ds w))
    go true i = ap Some (unplaced_at types d.body.at)
    go false i = i

-- what a name stands for
pub meaning_of : (types : List Row) (ds : List TypeDef) (w : List ℕ) → body (meanings types ds) w ≡ cond (bytes_eq any_word w) (Some any_type) (body_of types (definition_of ds w))
meaning_of types ds w = ap (λ o. cond (bytes_eq any_word w) (Some any_type) o) (bodies_defined types ds w)
