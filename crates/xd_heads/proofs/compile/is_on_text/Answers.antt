use Rattle.std.proofs.Common.{◌≡◌, ℕ, [], take, ap, sym, ◌∙◌}
use Rattle.xd_doc.specs.Classes.{LabelClass}
use Rattle.xd_syntax.specs.Table.{Form, elem_form, form_tree, tree_at}
use Rattle.xd_syntax.specs.declared.types.TypeId.{TypeId}
use Rattle.xd_moves.specs.Found.{move_of}
use Rattle.xd_heads.specs.Sorts.{is_text}
use Rattle.xd_heads.proofs.StateLemmas.{elem_of, text_of_other}
use Rattle.xd_heads.proofs.compile.is_on_text.Goals as goal

pub returns-in_default : goal.returns-in_default
returns-in_default c =
    let types = c.args.types.now in
    let f : Form = c.node.result.now.form in
    let at : c.of.result.at ≡ c.args.found.node = ap (λ (x : TypeId). x.at) c.of.ensures in
    let tree : tree_at types c.args.found.node ≡ form_tree (tree_at types) f = sym (ap (tree_at types) at) ∙ c.node.ensures.tree in
    let no_elem = λ (k : LabelClass) (i : ℕ) (e : f ≡ elem_form k i). (let r = elem_of c.form.result.now k i (c.form.ensures ∙ e) in c.in_default.not-Elem r.0 r.1 r.2) in
    sym (ap (λ T. is_text (move_of T []).kind) tree ∙ text_of_other (tree_at types) (take c.of.result.at types) f c.node.ensures.merged no_elem)
