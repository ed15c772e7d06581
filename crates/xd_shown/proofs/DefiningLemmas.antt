-- The program that defines names by types of a table.
use Rattle.std.proofs.Common.{◌≡◌, ℕ, suc, zero, ◌<◌, Bool, true, false, not, ◌&&◌, List, [], ◌∷◌, ◌++◌, map, length, take, get_or, refl, ap, sym, ◌∙◌, subst, arith}
use Rattle.std.specs.List.{AllByRecursion}
use Rattle.xd_syntax.specs.Words.{has_word}
use Rattle.xd_syntax.specs.Keywords.{keywords, is_type_name}
use Rattle.xd_syntax.specs.Tree.{Tree, Definitions, uses_only}
use Rattle.xd_syntax.specs.Table.{Row, Form, empty_form, text_form, words_form, name_form, elem_form, seq_form, alt_form, star_form, plus_form, opt_form, val_form, form_tree, tree_at, AreBuilt}
use Rattle.xd_syntax.specs.Types.{BelongsTo, tree}
use Rattle.xd_syntax.specs.Placed.{unplaced}
use Rattle.xd_syntax.specs.PlacedTable.{the_start}
use Rattle.xd_syntax.specs.Program.{TypeDefinition, ProgramTree}
use Rattle.xd_syntax.specs.Kept.{ProgramTable, TypeDefStands, type_definition, function_definition, program_tree}
use Rattle.xd_syntax.specs.Nodes.{form_at, form_parts, parts_of, no_row}
use Rattle.xd_syntax.specs.ProperTables.{IsTable}
use Rattle.xd_syntax.specs.declared.types.TypeDef.{TypeDef}
use Rattle.xd_syntax.specs.declared.types.TypeId.{TypeId}
use Rattle.xd_syntax.proofs.NodeParts.{form_parts_below}
use Rattle.xd_syntax.proofs.PlacedTrees.{unplaced_at}
use Rattle.xd_syntax.proofs.Trees.{tree_is, parts_at}
use Rattle.xd_sound.proofs.Reached.{known_seq, known_alt}
use Rattle.xd_type_laws.specs.DefinitionsText.{type_definitions}
use Rattle.xd_same_types.specs.Grown.{form_named, NamesAmong}
use Rattle.xd_shown.specs.Bodies.{definitions_of, defining}
use Rattle.xd_shown.specs.Shown.{defined_names}

-- names with their types
abbrev pub pairs : List Row → List (List ℕ) → List TypeId → Definitions
pairs types [] bodies = []
pairs types (w ∷ words) [] = []
pairs types (w ∷ words) (b ∷ bodies) = (w, tree types b) ∷ pairs types words bodies

pub pairs_are : (types : List Row) (words : List (List ℕ)) (bodies : List TypeId) → type_definitions (defining types words bodies) ≡ pairs types words bodies
pairs_are types [] bodies = refl
pairs_are types (w ∷ words) [] = refl
pairs_are types (w ∷ words) (b ∷ bodies) =
    ap (λ T. (w, T) ∷ type_definitions (defining types words bodies)) (unplaced_at types b.at) ∙ ap (λ ds. (w, tree types b) ∷ ds) (pairs_are types words bodies)

pub names_are : (types : List Row) (words : List (List ℕ)) (bodies : List TypeId) → length bodies ≡ length words → defined_names (defining types words bodies) ≡ words
names_are types [] bodies e = refl
names_are types (w ∷ words) [] e = absurd (omega arith)
names_are types (w ∷ words) (b ∷ bodies) e = ap (λ ws. w ∷ ws) (names_are types words bodies (omega arith))

pub firsts_are : (types : List Row) (words : List (List ℕ)) (bodies : List TypeId) → length bodies ≡ length words → map (λ (p : List ℕ × Tree). p.0) (pairs types words bodies) ≡ words
firsts_are types [] bodies e = refl
firsts_are types (w ∷ words) [] e = absurd (omega arith)
firsts_are types (w ∷ words) (b ∷ bodies) e = ap (λ ws. w ∷ ws) (firsts_are types words bodies (omega arith))

-- what holds of each type holds of each definition
pub each_pair : (P : Tree → Type 0) (types : List Row) (words : List (List ℕ)) (bodies : List TypeId) → AllByRecursion (λ b. P (tree types b)) bodies →
    AllByRecursion (λ (p : List ℕ × Tree). P p.1) (pairs types words bodies)
each_pair P types [] bodies a = tt
each_pair P types (w ∷ words) [] a = tt
each_pair P types (w ∷ words) (b ∷ bodies) a = (a.0, each_pair P types words bodies a.1)

pub each_definition : (P : Tree → Type 0) (types : List Row) (words : List (List ℕ)) (bodies : List TypeId) → AllByRecursion (λ b. P (tree types b)) bodies →
    AllByRecursion (λ (t : TypeDefinition). P (unplaced t.body)) (map (type_definition types) (definitions_of words bodies))
each_definition P types [] bodies a = tt
each_definition P types (w ∷ words) [] a = tt
each_definition P types (w ∷ words) (b ∷ bodies) a = (subst P (sym (unplaced_at types b.at)) a.0, each_definition P types words bodies a.1)

-- ---- the program stands
plain_name : (w : List ℕ) → is_type_name w ≡ true → has_word keywords w ≡ false
plain_name w h = go (has_word keywords w) _ h
  where
    go : (a b : Bool) → (not a && b) ≡ true → a ≡ false
    go true b e = absurd (cc)
    go false b e = refl

pub definitions_stand : (types : List Row) (words : List (List ℕ)) (bodies : List TypeId) → AllByRecursion (λ w. is_type_name w ≡ true) words → AllByRecursion (BelongsTo types) bodies →
    AllByRecursion (TypeDefStands types) (definitions_of words bodies)
definitions_stand types [] bodies p b = tt
definitions_stand types (w ∷ words) [] p b = tt
definitions_stand types (w ∷ words) (i ∷ bodies) p b = (record { name = plain_name w p.0; body = b.0 }, definitions_stand types words bodies p.1 b.1)

pub program_is : (p : ProgramTable) (words : List (List ℕ)) (bodies : List TypeId) → p.type_defs ≡ definitions_of words bodies → p.functions ≡ [] → program_tree p ≡ defining p.types words bodies
program_is p words bodies d f =
    ap (λ ds. let P : ProgramTree = record { types = map (type_definition p.types) ds; functions = map (function_definition p) p.functions } in P) d
    ∙ ap (λ fs. let P : ProgramTree = record { types = map (type_definition p.types) (definitions_of words bodies); functions = map (function_definition p) fs } in P) f

-- one more definition
pub definitions_push : (words : List (List ℕ)) (bodies : List TypeId) (k m : ℕ) (w : List ℕ) (b : TypeId) → k < length words → length bodies ≡ length words → m ≡ suc k →
    w ≡ get_or words k w → b ≡ get_or bodies k b →
    definitions_of (take k words) (take k bodies) ++ record { name = w; place = the_start; body = b } ∷ [] ≡ definitions_of (take m words) (take m bodies)
definitions_push words bodies k m w b l e s n i = step words bodies k l e n i ∙ ap (λ o. definitions_of (take o words) (take o bodies)) (sym s)
  where
    step : (words : List (List ℕ)) (bodies : List TypeId) (k : ℕ) → k < length words → length bodies ≡ length words → w ≡ get_or words k w → b ≡ get_or bodies k b →
        definitions_of (take k words) (take k bodies) ++ record { name = w; place = the_start; body = b } ∷ [] ≡ definitions_of (take (suc k) words) (take (suc k) bodies)
    step [] bodies k l e n i = absurd (omega arith)
    step (v ∷ words) [] k l e n i = absurd (omega arith)
    step (v ∷ words) (c ∷ bodies) zero l e n i =
        ap (λ x. let d : TypeDef = record { name = x; place = the_start; body = b } in d ∷ []) n ∙ ap (λ j. let d : TypeDef = record { name = v; place = the_start; body = j } in d ∷ []) i
    step (v ∷ words) (c ∷ bodies) (suc k) l e n i =
        ap (λ ds. let d : TypeDef = record { name = v; place = the_start; body = c } in d ∷ ds) (step words bodies k (omega arith) (omega arith) n i)

form_uses : (known : List (List ℕ)) (t : ℕ → Tree) (f : Form) → form_named known f ≡ true → AllByRecursion (λ i. uses_only known (t i) ≡ true) (form_parts f) → uses_only known (form_tree t f) ≡ true
form_uses known t empty_form n a = refl
form_uses known t text_form n a = refl
form_uses known t (words_form w) n a = refl
form_uses known t (name_form w) n a = n
form_uses known t (elem_form c i) n a = a.0
form_uses known t (seq_form is) n a = known_seq known t is a
form_uses known t (alt_form is) n a = known_alt known t is a
form_uses known t (star_form i) n a = a.0
form_uses known t (plus_form i) n a = a.0
form_uses known t (opt_form i) n a = a.0
form_uses known t (val_form x p i) n a = a.0

each_below : (n : ℕ) (P : ℕ → Type 0) (is : List ℕ) → AllByRecursion (λ i. i < n) is → ((i : ℕ) → i < n → P i) → AllByRecursion P is
each_below n P [] a h = tt
each_below n P (i ∷ is) a h = (h i a.0, each_below n P is a.1 h)

row_named : (known : List (List ℕ)) (rows : List Row) (i : ℕ) → NamesAmong known rows → form_named known (form_at rows i) ≡ true
row_named known [] i a = refl
row_named known (r ∷ rows) zero a = a.0
row_named known (r ∷ rows) (suc i) a = row_named known rows i a.1

uses_below : (known : List (List ℕ)) (rows : List Row) → AreBuilt false rows → NamesAmong known rows → (n i : ℕ) → i < n → i < length rows → uses_only known (tree_at rows i) ≡ true
uses_below known rows built a zero i l h = absurd (omega arith)
uses_below known rows built a (suc n) i l h =
    ap (uses_only known) (tree_is false rows i no_row built h)
    ∙ form_uses known (tree_at rows) (form_at rows i) (row_named known rows i a)
    (each_below i (λ j. uses_only known (tree_at rows j) ≡ true) (parts_of rows i) (form_parts_below i (form_at rows i) (parts_at false rows i no_row built h))
    (λ j m. uses_below known rows built a n j (omega arith) (omega arith)))

pub bodies_use : (known : List (List ℕ)) (types : List Row) → IsTable false types → NamesAmong known types → (bodies : List TypeId) → AllByRecursion (BelongsTo types) bodies →
    AllByRecursion (λ b. uses_only known (tree types b) ≡ true) bodies
bodies_use known types t a [] b = tt
bodies_use known types t a (i ∷ bodies) b = (uses_below known types t.built a (suc i.at) i.at (omega arith) b.0, bodies_use known types t a bodies b.1)
