-- What plain types and patterns stand for.
use Rattle.std.specs.Prelude.{List, map, Option, Some, None}
use Rattle.xd_syntax.specs.Tree as T
use Rattle.xd_syntax.specs.Tree.{Tree, Definitions}
use Rattle.xd_plain.specs.declared.tree.PlainTree.{PlainTree}
use Rattle.xd_plain.specs.declared.tree.PlainTree.TheVariants.{Empty, Text, Words, Name, Elem', Seq', Alt', Star', Plus', Opt', Val'}
use Rattle.xd_plain.specs.declared.tree.PlainDefinition.{PlainDefinition}

abbrev pub tree_of : PlainTree → Tree
tree_of Empty = T.Empty
tree_of Text = T.Text
tree_of (Words w) = T.Words w
tree_of (Name x) = T.Name x
tree_of (Elem' c p t) = T.Elem c (tree_of t)
tree_of (Seq' p t q u) = T.Seq (tree_of t) (tree_of u)
tree_of (Alt' p t q u) = T.Alt (tree_of t) (tree_of u)
tree_of (Star' p t) = T.Star (tree_of t)
tree_of (Plus' p t) = T.Plus (tree_of t)
tree_of (Opt' p t) = T.Opt (tree_of t)
tree_of (Val' x p t) = T.Val x (tree_of t)

abbrev pub definitions_of : List PlainDefinition → Definitions
definitions_of ds = map (λ d. (d.name, tree_of d.body)) ds

abbrev pub map_option : {A B : Type 0} → (A → B) → Option A → Option B
map_option f None = None
map_option f (Some a) = Some (f a)
