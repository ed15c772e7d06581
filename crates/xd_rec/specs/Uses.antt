-- Uses outside every label, with what decides them as tests.
use Rattle.std.specs.Prelude.{◌≡◌, ℕ, suc, ◌+◌, ◌<◌, Bool, true, false, ◌&&◌, List, [], ◌∷◌, ◌++◌, map, flat_map, length}
use Rattle.xd_base.specs.declared.Place.{Place}
use Rattle.xd_doc.specs.Members.{IsOneOf}
use Rattle.xd_syntax.specs.Tree.{Tree}
use Rattle.xd_syntax.specs.Table.{Row, Form, empty_form, text_form, words_form, name_form, elem_form, seq_form, alt_form, star_form, plus_form, opt_form, val_form, tree_at, PartsBelow, CanFollow}
use Rattle.xd_syntax.specs.Placed.{PlacedTree, Empty_at, Text_at, Words_at, Name_at, Elem_at, Seq_at, Alt_at, Star_at, Plus_at, Opt_at, Val_at}
use Rattle.xd_syntax.specs.PlacedTable.{placed_at, placed_form}
use Rattle.xd_syntax.specs.Program.{TypeDefinition}
use Rattle.xd_syntax.specs.RecursionFaults.{Use, top_uses}
use Rattle.xd_syntax.specs.declared.types.TypeDef.{TypeDef}
use Rattle.xd_sound.specs.Emptiness.{is_marked, name_marked}
use Rattle.xd_syntax.specs.Fits.{empty_by}
use Rattle.xd_rec.specs.declared.uses.TopUse.{TopUse}
use Rattle.xd_rec.specs.declared.uses.Part.{Part}

-- whether a type can be empty, by these marks
abbrev pub test_of : List Bool → List TypeDef → Tree → Bool
test_of marks ds T = empty_by (name_marked marks ds) T

-- each node is marked where the test holds of it
pub record AreTested (types : List Row) (ds : List TypeDef) (marks : List Bool) : Type 0 where
  pub count : length marks ≡ length types
  pub nodes : (i : ℕ) → i < length types → is_marked marks i ≡ test_of marks ds (tree_at types i)

abbrev pub all_empty : (Tree → Bool) → List Tree → Bool
all_empty Z [] = true
all_empty Z (T ∷ Ts) = Z T && all_empty Z Ts

-- a use in the definition with this number, where a test says what can be empty
abbrev pub seen : (Tree → Bool) → ℕ → Use → TopUse
seen Z k u = record { owner = k; name = u.name; place = u.place; is_tail = u.is_tail; is_front = all_empty Z u.before }

abbrev pub tree_uses : (Tree → Bool) → ℕ → PlacedTree → List TopUse
tree_uses Z k T = map (seen Z k) (top_uses T)

-- the uses of definitions, where the first has the number k
abbrev pub uses_from : (Tree → Bool) → ℕ → List TypeDefinition → List TopUse
uses_from Z k [] = []
uses_from Z k (t ∷ ts) = tree_uses Z k t.body ++ uses_from Z (suc k) ts

-- the use, in a place that may not be a tail or in front
abbrev pub placed_use : (tail front : Bool) → TopUse → TopUse
placed_use t f u = record u { is_tail = t && u.is_tail; is_front = f && u.is_front }

abbrev pub part_uses : (Tree → Bool) → List Row → Part → List TopUse
part_uses Z types p = map (placed_use p.is_tail p.is_front) (tree_uses Z p.owner (placed_at types p.at))

abbrev pub parts_uses : (Tree → Bool) → List Row → List Part → List TopUse
parts_uses Z types ps = flat_map (part_uses Z types) ps

abbrev pub is_none : List ℕ → Bool
is_none [] = true
is_none (i ∷ is) = false

-- the parts of a sequence: the last alone may be a tail, and those after a part that can't be
-- empty aren't in front
abbrev pub sequence : (Tree → Bool) → List Row → (owner : ℕ) (tail front : Bool) → List ℕ → List Part
sequence Z types k t f [] = []
sequence Z types k t f (i ∷ is) = record { owner = k; at = i; is_tail = t && is_none is; is_front = f } ∷ sequence Z types k t (f && Z (tree_at types i)) is

abbrev pub alternatives : Part → List ℕ → List Part
alternatives p is = map (λ (i : ℕ). record p { at = i }) is

-- the parts of a node outside every label
abbrev pub parts_of : (Tree → Bool) → List Row → Part → Form → List Part
parts_of Z types p empty_form = []
parts_of Z types p text_form = []
parts_of Z types p (words_form ws) = []
parts_of Z types p (name_form w) = []
parts_of Z types p (elem_form c i) = []
parts_of Z types p (seq_form is) = sequence Z types p.owner p.is_tail p.is_front is
parts_of Z types p (alt_form is) = alternatives p is
parts_of Z types p (star_form i) = record { owner = p.owner; at = i; is_tail = false; is_front = p.is_front } ∷ []
parts_of Z types p (plus_form i) = record { owner = p.owner; at = i; is_tail = false; is_front = p.is_front } ∷ []
parts_of Z types p (opt_form i) = record p { at = i } ∷ []
parts_of Z types p (val_form x q i) = record p { at = i } ∷ []

-- the use that a node itself is
abbrev pub own_use : Part → Place → Form → List TopUse
own_use p place empty_form = []
own_use p place text_form = []
own_use p place (words_form ws) = []
own_use p place (name_form w) = record { owner = p.owner; name = w; place = place; is_tail = p.is_tail; is_front = p.is_front } ∷ []
own_use p place (elem_form c i) = []
own_use p place (seq_form is) = []
own_use p place (alt_form is) = []
own_use p place (star_form i) = []
own_use p place (plus_form i) = []
own_use p place (opt_form i) = []
own_use p place (val_form x q i) = []

abbrev pub AllBelong : List Row → List Part → Type 0
AllBelong types ps = (p : Part) → IsOneOf p ps → p.at < length types

-- one node was read: its parts wait, and it is listed if it is a use
pub record IsListed (Z : Tree → Bool) (types : List Row) (part : Part) (old new : List Part) (before after : List TopUse) : Type 0 where
  pub row : Row
  pub placed : placed_at types part.at ≡ placed_form (placed_at types) row.place row.form
  pub below : PartsBelow part.at row.form
  pub older : List Row
  pub follows : CanFollow false older row.form
  pub parts : new ≡ old ++ parts_of Z types part row.form
  pub uses : after ≡ before ++ own_use part row.place row.form

-- the number of nodes of a tree
abbrev pub size : PlacedTree → ℕ
size (Empty_at p) = 1
size (Text_at p) = 1
size (Words_at p ts) = 1
size (Name_at p x) = 1
size (Elem_at p c T) = size T + 1
size (Seq_at p T U) = size T + size U + 1
size (Alt_at p T U) = size T + size U + 1
size (Star_at p T) = size T + 1
size (Plus_at p T) = size T + 1
size (Opt_at p T) = size T + 1
size (Val_at p x q T) = size T + 1

abbrev pub sizes : List Row → List Part → ℕ
sizes types [] = 0
sizes types (p ∷ ps) = size (placed_at types p.at) + sizes types ps
