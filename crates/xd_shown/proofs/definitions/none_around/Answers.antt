use Rattle.std.proofs.Common.{◌≡◌, ◌++◌, ◌∷◌, [], false, ℕ, List, codes, inl, refl, ap, ◌∙◌, arith}
use Rattle.std.specs.List.Sorted.{IsStrictlySortedBy}
use Rattle.xd_doc.specs.Classes.{LabelClass, is_named}
use Rattle.xd_doc.specs.ClassForms.{IsClass}
use Rattle.xd_syntax.specs.Tree.{Tree, Elem, Name}
use Rattle.xd_syntax.specs.Types.{tree}
use Rattle.xd_syntax.proofs.SameClass.{same_class_of}
use Rattle.xd_same_types.proofs.Ids.{ok_map}
use Rattle.xd_shown.specs.Shown.{none_type}
use Rattle.xd_shown.proofs.definitions.none_around.Goals as goal

abbrev none_class : LabelClass
none_class = record { names = codes "none" ∷ []; except = false }

is_class : IsClass none_class
unfolding IsStrictlySortedBy
is_class = record { words = (refl, tt); sorted = (tt, tt); filled = inl (omega arith) }

-- the type of these parts
of_parts : (class : LabelClass) (T U : Tree) (w v : List ℕ) → class ≡ none_class → T ≡ Name v → v ≡ w → U ≡ Elem class T → U ≡ none_type w
of_parts class T U w v s n e u = u ∙ ap (λ k. Elem k T) s ∙ ap (Elem none_class) (n ∙ ap Name e)

pub returns-clause-tree : goal.returns-clause-tree
returns-clause-tree c =
    let class = c.in_ok-class.class in
    let items = c.in_ok-push.ensures.items ∙ ap (λ xs. xs ++ c.in_ok-new.field-0 ∷ []) c.new-labels.ensures.items ∙ ap (λ w. w ∷ []) c.in_ok-new.ensures in
    let same : class ≡ none_class = same_class_of class none_class c.in_ok-class.ensures.valid is_class (λ l. c.in_ok-class.ensures.labels l ∙ ap (λ ns. is_named ns l) items) c.in_ok-class.ensures.except in
    let name = tree c.name_type.new.pool.types c.in_ok-name.name in
    ok_map c.node.result (λ id. tree c.node.new.pool.types id ≡ Elem class name) (λ id. tree c.node.new.pool.types id ≡ none_type c.args.word.now)
    (λ id e. of_parts class name (tree c.node.new.pool.types id) c.args.word.now c.in_ok-share.field-0 same c.in_ok-name.ensures.tree c.in_ok-share.ensures e) c.node.ensures.tree
