use Rattle.std.proofs.Common.{◌≡◌, ℕ, take, ap, ◌∙◌}
use Rattle.xd_syntax.specs.Table.{Form, plus_form, tree_at}
use Rattle.xd_moves.specs.Found.{is_plus}
use Rattle.xd_moves.proofs.WorkedTaskLemmas.{plus_form_only, plus_of}
use Rattle.xd_heads.proofs.typed.repeated.Goals as goal

pub returns-in_default : goal.returns-in_default
returns-in_default c =
    let f : Form = c.node.result.now.form in
    let none = λ (i : ℕ) (e : f ≡ plus_form i). (let r = plus_of c.form.result.now i (c.form.ensures ∙ e) in c.in_default.not-Plus r.0 r.1) in
    record { some = tt; none = ap is_plus c.node.ensures.tree ∙ plus_form_only (tree_at c.args.types.now) (take c.args.id.at c.args.types.now) f c.node.ensures.merged none }
