use Rattle.std.proofs.Common.{◌≡◌, false, take, ap, sym, subst, ◌∙◌}
use Rattle.xd_syntax.specs.Table.{Form, PartsBelow, CanFollow, form_tree, tree_at}
use Rattle.xd_syntax.specs.Types.{form_of}
use Rattle.xd_syntax.specs.declared.types.TypeId.{TypeId}
use Rattle.xd_moves.proofs.WorkedTaskLemmas.{parts_there, form_worked}
use Rattle.xd_moves.proofs.expansion.work_off.Goals as goal

pub returns-clause-worked : goal.returns-clause-worked
returns-clause-worked g c =
    let types = c.args.sources.now.types.now in
    let at : c.of.result.at ≡ c.args.task.item.node = ap (λ (x : TypeId). x.at) c.of.ensures in
    let f : Form = form_of c.form-form.result.now in
    let g : c.node-node.result.now.form ≡ f = sym c.form-form.ensures in
    let tree : tree_at types c.args.task.item.node ≡ form_tree (tree_at types) f =
    sym (ap (tree_at types) at) ∙ c.node-node.ensures.tree ∙ ap (form_tree (tree_at types)) g in
    let below : PartsBelow c.args.task.item.node f = subst (PartsBelow c.args.task.item.node) g (subst (λ i. PartsBelow i c.node-node.result.now.form) at c.node-node.ensures.parts) in
    let follows : CanFollow false (take c.args.task.item.node types) f =
    subst (CanFollow false (take c.args.task.item.node types)) g (subst (λ i. CanFollow false (take i types) c.node-node.result.now.form) at c.node-node.ensures.merged) in
    form_worked types c.args.sources.now.defs.now c.args.sources.now.marks.now c.requires.marks c.args.cells.now c.work_form.new.cells c.args.task c.args.tasks.now.items c.work_form.new.tasks.items
    c.args.found.now.items c.work_form.new.found.items f (parts_there types c.args.task.item.node f c.requires.task.0 below follows) tree
    c.in_ok-work_form.ensures.cells c.in_ok-work_form.ensures.tasks c.in_ok-work_form.ensures.moves c.in_ok-work_form.ensures.bounded
