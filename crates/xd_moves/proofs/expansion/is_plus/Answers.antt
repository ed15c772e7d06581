use Rattle.std.proofs.Common.{◌≡◌, ℕ, take, ap, sym, ◌∙◌}
use Rattle.xd_syntax.specs.Table.{Form, plus_form, form_tree, tree_at}
use Rattle.xd_syntax.specs.declared.types.TypeId.{TypeId}
use Rattle.xd_moves.specs.Found.{is_plus}
use Rattle.xd_moves.proofs.WorkedTaskLemmas.{plus_form_only, plus_of}
use Rattle.xd_moves.proofs.expansion.is_plus.Goals as goal

pub returns-in_default : goal.returns-in_default
returns-in_default c =
    let types = c.args.types.now in
    let f : Form = c.node-node.result.now.form in
    let at : c.of.result.at ≡ c.args.node = ap (λ (x : TypeId). x.at) c.of.ensures in
    let tree : tree_at types c.args.node ≡ form_tree (tree_at types) f = sym (ap (tree_at types) at) ∙ c.node-node.ensures.tree in
    let none = λ (i : ℕ) (e : f ≡ plus_form i). (let r = plus_of c.form.result.now i (c.form.ensures ∙ e) in c.in_default.not-Plus r.0 r.1) in
    sym (ap is_plus tree ∙ plus_form_only (tree_at types) (take c.of.result.at types) f c.node-node.ensures.merged none)
