use Rattle.std.proofs.Common.{◌≡◌, ◌<◌, ◌≤◌, ℕ, List, map, length, arith, ap, sym, subst, ◌∙◌}
use Rattle.std.specs.List.{AllByRecursion}
use Rattle.xd_doc.specs.Classes.{LabelClass, is_named}
use Rattle.xd_syntax.specs.Words.{any_word}
use Rattle.xd_syntax.specs.Tree.{Tree, Name, Elem, Alt, Star, Text, all_labels}
use Rattle.xd_syntax.specs.TreeForms.{is_alt, alt_of}
use Rattle.xd_syntax.specs.Table.{Row, IsAltPart, KeepsRows, tree_at}
use Rattle.xd_syntax.specs.Types.{type_numbers}
use Rattle.xd_syntax.specs.declared.types.TypeId.{TypeId}
use Rattle.xd_continuations.proofs.GrownTables.{tree_stays, more_rows}
use Rattle.xd_continuations.proofs.AllNames.{names_none}
use Rattle.xd_continuations.proofs.any.any_nodes.Goals as goal

-- the element and the text in the table that has both
part_trees : (t1 t2 t3 : List Row) (n e x : ℕ) (w : List ℕ) (k : LabelClass) → KeepsRows t2 t3 → e < length t2 → tree_at t1 n ≡ Name w → w ≡ any_word → k ≡ all_labels →
    tree_at t2 e ≡ Elem k (tree_at t1 n) → tree_at t3 x ≡ Text → (tree_at t3 e ≡ Elem all_labels (Name any_word)) × (tree_at t3 x ≡ Text) × (e < length t3)
part_trees t1 t2 t3 n e x w k keeps h name word all element text =
    let l = more_rows t2 t3 keeps in
    (tree_stays t2 t3 keeps e h ∙ element ∙ ap (λ T. Elem k T) (name ∙ ap Name word) ∙ ap (λ (c : LabelClass). Elem c (Name any_word)) all, text, omega arith)

pub add-requires-4 : goal.add-requires-4
add-requires-4 c =
    let t3 = c.add-3.new.self in
    let all = names_none c.in_ok-all.all (λ t. c.in_ok-all.ensures.labels t ∙ ap (λ (ts : List (List ℕ)). is_named ts t) c.new-2.ensures.items) c.in_ok-all.ensures.except in
    let p = part_trees c.add.new.self c.add-2.new.self t3 c.in_ok-name.name.at c.in_ok-element.element.at c.in_ok-text.text.at c.in_ok-new.field-0 c.in_ok-all.all
    c.add-3.ensures.keeps c.in_ok-element.ensures.belongs c.in_ok-name.ensures.tree c.in_ok-new.ensures all c.in_ok-element.ensures.tree c.in_ok-text.ensures.tree in
    subst (λ (ids : List TypeId). (2 ≤ length (type_numbers ids)) × AllByRecursion (IsAltPart t3) (type_numbers ids)) (sym c.in_ok-vec.ensures.items)
    (omega arith, ((p.2, ap is_alt p.0), ((c.in_ok-text.ensures.belongs, ap is_alt p.1), tt)))

pub returns-clause-tree : goal.returns-clause-tree
returns-clause-tree c =
    let t3 = c.add-3.new.self in
    let all = names_none c.in_ok-all.all (λ t. c.in_ok-all.ensures.labels t ∙ ap (λ (ts : List (List ℕ)). is_named ts t) c.new-2.ensures.items) c.in_ok-all.ensures.except in
    let p = part_trees c.add.new.self c.add-2.new.self t3 c.in_ok-name.name.at c.in_ok-element.element.at c.in_ok-text.text.at c.in_ok-new.field-0 c.in_ok-all.all
    c.add-3.ensures.keeps c.in_ok-element.ensures.belongs c.in_ok-name.ensures.tree c.in_ok-new.ensures all c.in_ok-element.ensures.tree c.in_ok-text.ensures.tree in
    c.in_ok-any.ensures.tree
    ∙ ap Star (c.in_ok-either.ensures.tree ∙ ap (λ (ids : List TypeId). alt_of (map (tree_at t3) (type_numbers ids))) c.in_ok-vec.ensures.items
    ∙ ap (λ (T : Tree). Alt T (tree_at t3 c.in_ok-text.text.at)) p.0 ∙ ap (λ (T : Tree). Alt (Elem all_labels (Name any_word)) T) p.1)
