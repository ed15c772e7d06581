use Rattle.std.proofs.Common.{◌≡◌, ℕ, [], arith, take, ap, sym, subst, ◌∙◌}
use Rattle.xd_doc.specs.Classes.{LabelClass, TextClass}
use Rattle.xd_syntax.specs.Table.{Form, PartsBelow, elem_form, words_form, form_tree, tree_at}
use Rattle.xd_syntax.specs.Types.{form_of}
use Rattle.xd_syntax.specs.declared.types.TypeId.{TypeId}
use Rattle.xd_moves.specs.Found.{move_of}
use Rattle.xd_heads.proofs.StateLemmas.{kind_of_other, elem_of, words_of_form}
use Rattle.xd_heads.proofs.HeadLists.{elem_kind, other_kind}
use Rattle.xd_heads.proofs.listing.kind_of.Goals as goal

pub returns-in_ok-share-in-Elem : goal.returns-in_ok-share-in-Elem
returns-in_ok-share-in-Elem c =
    let types = c.args.types.now in
    let at : c.of.result.at ≡ c.args.node = ap (λ (x : TypeId). x.at) c.of.ensures in
    let form : c.node.result.now.form ≡ elem_form c.in-Elem.class c.in-Elem.part.at = sym c.form.ensures ∙ ap form_of c.in-Elem.is in
    let tree = sym (ap (tree_at types) at) ∙ c.node.ensures.tree ∙ ap (form_tree (tree_at types)) form in
    let below : PartsBelow c.args.node (elem_form c.in-Elem.class c.in-Elem.part.at) = subst (PartsBelow c.args.node) form (subst (λ i. PartsBelow i c.node.result.now.form) at c.node.ensures.parts) in
    elem_kind types (tree_at types c.args.node) c.in-Elem.class c.in_ok-share-in-Elem.field-0 c.in-Elem.part tree c.in_ok-share-in-Elem.ensures.same (let r = c.requires in omega arith)

pub returns-in_ok-every_text-in_default : goal.returns-in_ok-every_text-in_default
returns-in_ok-every_text-in_default c =
    let types = c.args.types.now in
    let f : Form = c.node.result.now.form in
    let at : c.of.result.at ≡ c.args.node = ap (λ (x : TypeId). x.at) c.of.ensures in
    let tree : tree_at types c.args.node ≡ form_tree (tree_at types) f = sym (ap (tree_at types) at) ∙ c.node.ensures.tree in
    let no_elem = λ (k : LabelClass) (i : ℕ) (e : f ≡ elem_form k i). (let r = elem_of c.form.result.now k i (c.form.ensures ∙ e) in c.in_default.not-Elem r.0 r.1 r.2) in
    let no_words = λ (w : TextClass) (e : f ≡ words_form w). (let r = words_of_form c.form.result.now w (c.form.ensures ∙ e) in c.in_default.not-Words r.0 r.1) in
    other_kind types (tree_at types c.args.node) c.in_ok-every_text-in_default.field-0
    (ap (λ T. move_of T []) tree ∙ kind_of_other (tree_at types) (take c.of.result.at types) f c.node.ensures.merged no_elem no_words []) c.in_ok-every_text-in_default.ensures
