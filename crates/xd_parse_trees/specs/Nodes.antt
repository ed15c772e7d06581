-- Tables of nodes, types or patterns, as the parser adds to them.
use Rattle.std.specs.Prelude.{◌≡◌, ◌==◌, ◌<◌, ◌≤◌, ◌++◌, ◌∷◌, [], ℕ, Bool, true, false, List, map, length}
use Rattle.std.specs.List.{AllByRecursion}
use Rattle.xd_syntax.specs.Table.{Row, Form, KeepsRows, empty_form, text_form, words_form, name_form, elem_form, seq_form, alt_form, star_form, plus_form, opt_form, val_form}
use Rattle.xd_syntax.specs.Placed.{PlacedTree}
use Rattle.xd_syntax.specs.PlacedTable.{placed_at}
use Rattle.xd_lex.specs.Tokens.{Lexeme}
use Rattle.xd_grammar.specs.declared.grammar.Nonterminal.{Nonterminal}
use Rattle.xd_grammar.specs.declared.grammar.Nonterminal.TheVariants as n
use Rattle.xd_grammar.specs.declared.grammar.Terminal.{Terminal}
use Rattle.xd_grammar.specs.declared.grammar.Terminal.TheVariants as t
use Rattle.xd_grammar.specs.declared.grammar.Sort.{Sort}
use Rattle.xd_grammar.specs.declared.grammar.Sort.TheVariants as sorts
use Rattle.xd_parse_trees.specs.declared.nodes.NodeForm.{NodeForm}
use Rattle.xd_parse_trees.specs.declared.nodes.NodeForm.TheVariants.{Empty, Text, Words, Name, Elem, Seq, Alt, Star, Plus, Opt, Val}
use Rattle.xd_base.specs.declared.Place.{Place}
use Rattle.xd_parse_trees.specs.declared.parts.Parts.{Parts}
use Rattle.xd_parse_trees.specs.declared.parts.Parts.TheVariants.{One, Sequence, Alternative}
use Rattle.xd_parse_trees.specs.Values.{Value, a_tree, value_of}
use Rattle.xd_doc.specs.Members.{IsOneOf}
use Rattle.xd_grammar.specs.Grammar.{Row as GrammarRow, rules}
use Rattle.xd_parse_trees.specs.Means.{Means}
use Rattle.xd_parse_trees.specs.Reading.{Reads, element_row}
use Rattle.xd_parse_trees.specs.Pieces.{Pieces, tree_of, Stand}
use Rattle.xd_parse_trees.specs.Shallow.{NoDeeper, TreeWithin}

-- patterns bind variables
abbrev pub binders : Sort → Bool
binders sorts.Type = false
binders sorts.Pattern = true

-- what a node is, its parts as numbers of nodes
abbrev pub shape : {I : Type 0} → (I → ℕ) → NodeForm I → Form
shape at Empty = empty_form
shape at Text = text_form
shape at (Words w) = words_form w
shape at (Name w) = name_form w
shape at (Elem c i) = elem_form c (at i)
shape at (Seq parts) = seq_form (map at parts.items)
shape at (Alt parts) = alt_form (map at parts.items)
shape at (Star i) = star_form (at i)
shape at (Plus i) = plus_form (at i)
shape at (Opt i) = opt_form (at i)
shape at (Val x p i) = val_form x p (at i)

-- these merge with what is around them
abbrev pub merges : Form → Bool
merges empty_form = true
merges (seq_form is) = true
merges (alt_form is) = true
merges f = false

abbrev pub has_none : {I : Type 0} → Parts I → Bool
has_none (One p i) = false
has_none (Sequence p parts) = length parts.items == 0
has_none (Alternative p parts) = false

abbrev pub parts_place : {I : Type 0} → Parts I → Place
parts_place (One p i) = p
parts_place (Sequence p parts) = p
parts_place (Alternative p parts) = p

abbrev pub IsNothing : {I : Type 0} → Place → Parts I → Type 0
IsNothing p (One q i) = ⊥
IsNothing p (Sequence q parts) = (q ≡ p) × (parts.items ≡ [])
IsNothing p (Alternative q parts) = ⊥

-- the tokens that stand after a part, and the node of a part with one
abbrev pub is_operator : Terminal → Bool
is_operator t.Star = true
is_operator t.Plus = true
is_operator t.Query = true
is_operator k = false

abbrev pub repeated_node : {I : Type 0} → Terminal → I → NodeForm I
repeated_node t.Star i = Star i
repeated_node t.Plus i = Plus i
repeated_node k i = Opt i

-- the node with this number is there and has this tree, as each new node has, and each old node
-- stands where it stood
pub record IsAdded (old new : List Row) (T : PlacedTree) (i : ℕ) : Type 0 where
  pub keeps : KeepsRows old new
  pub belongs : i < length new
  pub placed : placed_at new i ≡ T
  pub only : (j : ℕ) → length old ≤ j → j < length new → placed_at new j ≡ T

-- Numbers of nodes are added after others: of what this tree is in the list. Each old node stands
-- where it stood, and a new one has this tree.
pub record Extends (fit : List Row → ℕ → Type 0) (parts_of : PlacedTree → List PlacedTree) (old new : List Row) (T : PlacedTree) (before after : List ℕ) : Type 0 where
  pub more : List ℕ
  pub grown : after ≡ before ++ more
  pub placed : map (placed_at new) more ≡ parts_of T
  pub stand : AllByRecursion (fit new) more
  pub keeps : KeepsRows old new
  pub only : (j : ℕ) → length old ≤ j → j < length new → placed_at new j ≡ T

-- Of what was read is made what this tree is. Each old node stands where it stood, and no new one
-- is deeper than this.
pub record Merges (old new : List Row) (T : PlacedTree) (made : Pieces) : Type 0 where
  pub is : tree_of new made ≡ T
  pub stand : Stand new made
  pub keeps : KeepsRows old new
  pub no_deeper : NoDeeper (TreeWithin T) old new

-- A node for this tree is added, or stands already, and then one around it, of which what was read
-- consists.
pub record AddsAround (around : PlacedTree → PlacedTree) (old new : List Row) (T : PlacedTree) (made : Pieces) : Type 0 where
  pub middle : List Row
  pub number : ℕ
  pub added : IsAdded old middle T number
  pub merges : Merges middle new (around (placed_at middle number)) made

-- a token comes next, and a primary from here on is an element
pub record BeginsElement (sort : Sort) (from : List Lexeme) : Type 0 where
  pub some : 0 < length from
  pub only : (made : GrammarRow) (rest : List Lexeme) (vs : List Value) → IsOneOf made (rules (n.Prim sort)) → Means made from rest vs → made ≡ element_row sort

-- The nonterminal is read, and is these pieces. Each old node stands where it stood, and no new one
-- is deeper than they are.
pub record ReadsNode (part : Nonterminal) (from to : List Lexeme) (old new : List Row) (made : Pieces) : Type 0 where
  pub reads : Reads part from to (a_tree (tree_of new made))
  pub stand : Stand new made
  pub keeps : KeepsRows old new
  pub fewer : length to ≤ length from
  pub no_deeper : NoDeeper (TreeWithin (tree_of new made)) old new

-- The nonterminal is read; after what stood before it, it completes the outer nonterminal, which
-- is these pieces.
pub record ReadsInto (outer : Nonterminal) (before : List Value) (part : Nonterminal) (from to : List Lexeme) (old new : List Row) (made : Pieces) : Type 0 where
  pub value : Value
  pub reads : Reads part from to value
  pub makes : value_of outer (before ++ value ∷ []) ≡ a_tree (tree_of new made)
  pub stand : Stand new made
  pub keeps : KeepsRows old new
  pub fewer : length to ≤ length from
  pub no_deeper : NoDeeper (TreeWithin (tree_of new made)) old new
