use Rattle.std.proofs.Common.{◌≤◌, List, map, length, arith, ap, sym, subst, ◌∙◌}
use Rattle.std.specs.List.{AllByRecursion}
use Rattle.xd_syntax.specs.Words.{any_word}
use Rattle.xd_syntax.specs.Tree.{Tree, Name, Elem, Alt, Star, all_labels}
use Rattle.xd_syntax.specs.TreeForms.{is_alt, alt_of}
use Rattle.xd_syntax.specs.Table.{IsAltPart, tree_at}
use Rattle.xd_syntax.specs.Types.{type_numbers}
use Rattle.xd_syntax.specs.declared.types.TypeId.{TypeId}
use Rattle.xd_syntax.proofs.TableRows.{KeepsRows-trans}
use Rattle.xd_patterns.proofs.StateLemmas.{names_nothing}
use Rattle.xd_match.proofs.MeaningLaws.{part_trees}
use Rattle.xd_match.proofs.meanings.add_any.Goals as goal

pub add-requires-4 : goal.add-requires-4
add-requires-4 c =
    let t3 = c.add-3.new.self in
    let all = names_nothing c.in_ok-all.all c.new-2.result.items c.new-2.ensures.items c.in_ok-all.ensures.labels c.in_ok-all.ensures.except in
    let p = part_trees c.add.new.self c.add-2.new.self t3 c.in_ok-name.name.at c.in_ok-element.element.at c.in_ok-text.text.at c.in_ok-new.field-0 c.in_ok-all.all
    c.add-3.ensures.keeps c.in_ok-element.ensures.belongs c.in_ok-name.ensures.tree c.in_ok-new.ensures all c.in_ok-element.ensures.tree c.in_ok-text.ensures.tree in
    subst (λ (ids : List TypeId). (2 ≤ length (type_numbers ids)) × AllByRecursion (IsAltPart t3) (type_numbers ids)) (sym c.in_ok-vec.ensures.items)
    (omega arith, ((p.2, ap is_alt p.0), ((c.in_ok-text.ensures.belongs, ap is_alt p.1), tt)))

pub returns-clause-keeps : goal.returns-clause-keeps
returns-clause-keeps c =
    KeepsRows-trans _ _ _ (KeepsRows-trans _ _ _ (KeepsRows-trans _ _ _ (KeepsRows-trans _ _ _ c.add.ensures.keeps c.add-2.ensures.keeps) c.add-3.ensures.keeps) c.add-4.ensures.keeps) c.add-5.ensures.keeps

pub returns-clause-tree : goal.returns-clause-tree
returns-clause-tree c =
    let t3 = c.add-3.new.self in
    let all = names_nothing c.in_ok-all.all c.new-2.result.items c.new-2.ensures.items c.in_ok-all.ensures.labels c.in_ok-all.ensures.except in
    let p = part_trees c.add.new.self c.add-2.new.self t3 c.in_ok-name.name.at c.in_ok-element.element.at c.in_ok-text.text.at c.in_ok-new.field-0 c.in_ok-all.all
    c.add-3.ensures.keeps c.in_ok-element.ensures.belongs c.in_ok-name.ensures.tree c.in_ok-new.ensures all c.in_ok-element.ensures.tree c.in_ok-text.ensures.tree in
    c.in_ok-any.ensures.tree
    ∙ ap Star (c.in_ok-either.ensures.tree ∙ ap (λ (ids : List TypeId). alt_of (map (tree_at t3) (type_numbers ids))) c.in_ok-vec.ensures.items
    ∙ ap (λ (T : Tree). Alt T (tree_at t3 c.in_ok-text.text.at)) p.0 ∙ ap (λ (T : Tree). Alt (Elem all_labels (Name any_word)) T) p.1)
