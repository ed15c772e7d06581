use Rattle.std.proofs.Common.{◌≡◌, sym, ap, ◌∙◌}
use Rattle.xd_syntax.specs.Types.{form_of}
use Rattle.xd_syntax.specs.declared.types.TypeId.{TypeId}
use Rattle.xd_parse_trees.specs.Nodes.{shape}
use Rattle.xd_parse_trees.proofs.StandLemmas.{added_node}
use Rattle.xd_parse_trees.proofs.nodes.TypesNodes.add.Goals.{in-Empty, in-Text, in-Words, in-Name, in-Elem, in-Seq, in-Alt, in-Star, in-Plus, in-Opt}
use Rattle.xd_parse_trees.proofs.nodes.TypesNodes.add.Goals as goal

pub returns-clause-added : goal.returns-clause-added
returns-clause-added c =
    let e : form_of c.match-form.form ≡ shape (λ (id : TypeId). id.at) c.args.form
    = elim c.match-form.branch [ in-Empty w ↦ ap form_of w.form-is ∙ sym (ap (shape (λ (id : TypeId). id.at)) w.in-Empty.is) | in-Text w ↦ ap form_of w.form-is ∙ sym (ap (shape (λ (id : TypeId). id.at)) w.in-Text.is) | in-Words w ↦ ap form_of w.form-is ∙ sym (ap (shape (λ (id : TypeId). id.at)) w.in-Words.is) | in-Name w ↦ ap form_of w.form-is ∙ sym (ap (shape (λ (id : TypeId). id.at)) w.in-Name.is) | in-Elem w ↦ ap form_of w.form-is ∙ sym (ap (shape (λ (id : TypeId). id.at)) w.in-Elem.is) | in-Seq w ↦ ap form_of w.form-is ∙ sym (ap (shape (λ (id : TypeId). id.at)) w.in-Seq.is) | in-Alt w ↦ ap form_of w.form-is ∙ sym (ap (shape (λ (id : TypeId). id.at)) w.in-Alt.is) | in-Star w ↦ ap form_of w.form-is ∙ sym (ap (shape (λ (id : TypeId). id.at)) w.in-Star.is) | in-Plus w ↦ ap form_of w.form-is ∙ sym (ap (shape (λ (id : TypeId). id.at)) w.in-Plus.is) | in-Opt w ↦ ap form_of w.form-is ∙ sym (ap (shape (λ (id : TypeId). id.at)) w.in-Opt.is) ] in
    added_node c.add.result (λ (id : TypeId). id.at) _ _ _ _ _ e c.add.ensures.keeps c.add.ensures.belongs c.add.ensures.placed c.add.ensures.grown
