-- Nodes in a table: a node's parts are nodes that stand below it.
use Rattle.std.specs.Prelude.{◌≡◌, ℕ, ◌<◌, ◌≤◌, Bool, true, false, ◌||◌, ◌⊎◌, List, [], ◌∷◌, ◌++◌, map, length, get_or}
use Rattle.std.specs.List.{AllByRecursion}
use Rattle.xd_base.specs.declared.Place.{Place}
use Rattle.xd_doc.specs.Classes.{LabelClass, TextClass}
use Rattle.xd_syntax.specs.Keywords.{is_type_name}
use Rattle.xd_syntax.specs.Tree.{Tree, Empty, Text, Words, Name, Elem, Star, Plus, Opt, Val, seq_of, is_empty}
use Rattle.xd_syntax.specs.TreeForms.{alt_of, is_seq, is_alt}

-- what a node of a type or a pattern is; its parts are numbers of nodes
pub data Form : Type 0 where
  empty_form : Form
  text_form : Form
  words_form : (texts : TextClass) → Form
  name_form : (word : List ℕ) → Form
  elem_form : (class : LabelClass) (content : ℕ) → Form
  seq_form : (parts : List ℕ) → Form
  alt_form : (parts : List ℕ) → Form
  star_form : (part : ℕ) → Form
  plus_form : (part : ℕ) → Form
  opt_form : (part : ℕ) → Form
  val_form : (variable : List ℕ) (place : Place) (part : ℕ) → Form

pub record Row : Type 0 where
  pub place : Place
  pub form : Form

-- the tree of a form whose parts have these trees
abbrev pub form_tree : (ℕ → Tree) → Form → Tree
form_tree t empty_form = Empty
form_tree t text_form = Text
form_tree t (words_form w) = Words w
form_tree t (name_form w) = Name w
form_tree t (elem_form c i) = Elem c (t i)
form_tree t (seq_form is) = seq_of (map t is)
form_tree t (alt_form is) = alt_of (map t is)
form_tree t (star_form i) = Star (t i)
form_tree t (plus_form i) = Plus (t i)
form_tree t (opt_form i) = Opt (t i)
form_tree t (val_form x p i) = Val x (t i)

abbrev pub tree_in : List Tree → ℕ → Tree
tree_in ts i = get_or ts i Empty

-- the trees of nodes, after those of older nodes
abbrev pub trees_after : List Tree → List Row → List Tree
trees_after ts [] = ts
trees_after ts (r ∷ rs) = trees_after (ts ++ form_tree (tree_in ts) r.form ∷ []) rs

-- the tree of the node with this number
unfoldable pub tree_at : List Row → ℕ → Tree
tree_at rs i = tree_in (trees_after [] rs) i

-- A part is an older node. Nodes are merged: a sequence has no part that is a sequence or empty, an
-- alternative none that is an alternative.
abbrev pub IsSeqPart : List Row → ℕ → Type 0
IsSeqPart rs i = (i < length rs) × ((is_seq (tree_at rs i) || is_empty (tree_at rs i)) ≡ false)

abbrev pub IsAltPart : List Row → ℕ → Type 0
IsAltPart rs i = (i < length rs) × (is_alt (tree_at rs i) ≡ false)

-- one text, or all but at least one
abbrev pub IsWordsNode : TextClass → Type 0
IsWordsNode w = (1 ≤ length w.names) × ((w.except ≡ true) ⊎ (length w.names ≡ 1))

-- The form may be the next node. Binders are for patterns alone.
abbrev pub CanFollow : (binders : Bool) → List Row → Form → Type 0
CanFollow b rs (words_form w) = IsWordsNode w
CanFollow b rs (name_form w) = is_type_name w ≡ true
CanFollow b rs (elem_form c i) = i < length rs
CanFollow b rs (seq_form is) = (2 ≤ length is) × AllByRecursion (IsSeqPart rs) is
CanFollow b rs (alt_form is) = (2 ≤ length is) × AllByRecursion (IsAltPart rs) is
CanFollow b rs (star_form i) = i < length rs
CanFollow b rs (plus_form i) = i < length rs
CanFollow b rs (opt_form i) = i < length rs
CanFollow b rs (val_form x p i) = (b ≡ true) × (i < length rs)
CanFollow b rs _ = Unit {0}

abbrev pub AreBuiltAfter : (binders : Bool) → List Row → List Row → Type 0
AreBuiltAfter b older [] = Unit {0}
AreBuiltAfter b older (r ∷ rs) = CanFollow b older r.form × AreBuiltAfter b (older ++ r ∷ []) rs

-- each node may follow the older ones
abbrev pub AreBuilt : (binders : Bool) → List Row → Type 0
AreBuilt b rs = AreBuiltAfter b [] rs

-- each old node stands where it stood
pub record KeepsRows (old new : List Row) : Type 0 where
  pub more : List Row
  pub grown : new ≡ old ++ more

-- each part's number is below n
abbrev pub PartsBelow : ℕ → Form → Type 0
PartsBelow n (elem_form c i) = i < n
PartsBelow n (seq_form is) = AllByRecursion (λ i. i < n) is
PartsBelow n (alt_form is) = AllByRecursion (λ i. i < n) is
PartsBelow n (star_form i) = i < n
PartsBelow n (plus_form i) = i < n
PartsBelow n (opt_form i) = i < n
PartsBelow n (val_form x p i) = i < n
PartsBelow n _ = Unit {0}
