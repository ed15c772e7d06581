use Rattle.std.proofs.Common.{◌≡◌, inr, refl, ap, ◌∙◌}
use Rattle.std.specs.List.Sorted.{IsStrictlySortedBy}
use Rattle.xd_doc.specs.ClassForms.{IsClass, names_label}
use Rattle.xd_syntax.specs.Words.{any_word}
use Rattle.xd_syntax.specs.Tree.{Name, Elem, Alt, Star, Text, all_labels}
use Rattle.xd_plain.specs.PlainTrees.{tree_of}
use Rattle.xd_syntax.proofs.SameClass.{same_class_of}
use Rattle.xd_plain.proofs.program.definition_of_any.Goals as goal

all_is_class : IsClass all_labels
unfolding IsStrictlySortedBy
all_is_class = record { words = tt; sorted = tt; filled = inr refl }

pub returns : goal.returns
returns c =
    let labels : c.in_ok-labels.labels ≡ all_labels
    = same_class_of c.in_ok-labels.labels all_labels c.in_ok-labels.ensures.valid all_is_class
    (λ l. c.in_ok-labels.ensures.labels l ∙ ap (λ ns. names_label ns l) c.new.ensures.items) c.in_ok-labels.ensures.except in
    let name : tree_of c.in_ok-content.content.value ≡ Name any_word = ap tree_of c.in_ok-content.ensures.ok ∙ ap Name c.in_ok-new.ensures in
    let element : tree_of c.in_ok-element.element.value ≡ Elem all_labels (Name any_word)
    = ap tree_of c.in_ok-element.ensures.ok ∙ ap (λ k. Elem k (tree_of c.in_ok-content.content.value)) labels ∙ ap (Elem all_labels) name in
    let text : tree_of c.in_ok-text.text.value ≡ Text = ap tree_of c.in_ok-text.ensures.ok in
    let item : tree_of c.in_ok-item.item.value ≡ Alt (Elem all_labels (Name any_word)) Text
    = ap tree_of c.in_ok-item.ensures.ok ∙ ap (λ t. Alt t (tree_of c.in_ok-text.text.value)) element ∙ ap (Alt (Elem all_labels (Name any_word))) text in
    (c.in_ok-new-2.ensures, ap Star item)
