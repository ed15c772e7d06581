use Rattle.std.proofs.Common.{◌≡◌, [], ◌∷◌, map, take, ap, sym, subst, ◌∙◌}
use Rattle.xd_meaning.specs.Heads.{pieces}
use Rattle.xd_syntax.specs.Table.{Form, empty_form, seq_form, form_tree, tree_at}
use Rattle.xd_syntax.specs.Types.{form_of, type_numbers}
use Rattle.xd_moves.specs.Found.{IsContent}
use Rattle.xd_moves.proofs.WorkedTaskLemmas.{ArePartsOf, parts_there, content_none, pieces_of_seq, pieces_of_one, empty_of, seq_of_form}
use Rattle.xd_moves.proofs.contents.content.Goals as goal

pub returns-in-Empty-clause-content : goal.returns-in-Empty-clause-content
returns-in-Empty-clause-content g c =
    let types = c.args.types.now in
    let f : c.node-node.result.now.form ≡ empty_form = sym c.form.ensures ∙ ap form_of c.in-Empty.is in
    let e : pieces (tree_at types c.args.part.at) ≡ [] = ap pieces (c.node-node.ensures.tree ∙ ap (form_tree (tree_at types)) f) in
    subst (λ K. IsContent types c.args.cells.now c.args.cells.now K 0) (sym e) (content_none types c.args.cells.now)

pub returns-in_ok-sequence-in-Seq-clause-content : goal.returns-in_ok-sequence-in-Seq-clause-content
returns-in_ok-sequence-in-Seq-clause-content g c =
    let types = c.args.types.now in
    let f : Form = c.node-node.result.now.form in
    let a : ArePartsOf types f = parts_there types c.args.part.at f c.requires.part c.node-node.ensures.parts c.node-node.ensures.merged in
    let g : f ≡ seq_form (type_numbers c.in-Seq.parts.items) = sym c.form.ensures ∙ ap form_of c.in-Seq.is in
    let e : pieces (tree_at types c.args.part.at) ≡ map (tree_at types) (type_numbers c.in-Seq.parts.items) =
    ap pieces c.node-node.ensures.tree ∙ pieces_of_seq types (type_numbers c.in-Seq.parts.items) f a g in
    subst (λ K. IsContent types c.args.cells.now c.sequence.new.cells K c.in_ok-sequence-in-Seq.field-0)
    (ap (λ ps. map (tree_at types) (type_numbers ps)) c.deref.ensures.value ∙ sym e) c.in_ok-sequence-in-Seq.ensures.content

pub returns-in_ok-one_piece-in_default-clause-content : goal.returns-in_ok-one_piece-in_default-clause-content
returns-in_ok-one_piece-in_default-clause-content g c =
    let types = c.args.types.now in
    let f : Form = c.node-node.result.now.form in
    let e : pieces (tree_at types c.args.part.at) ≡ tree_at types c.args.part.at ∷ [] =
    ap pieces c.node-node.ensures.tree
    ∙ pieces_of_one types (take c.args.part.at types) f c.node-node.ensures.merged
    (λ g. c.in_default.not-Empty (empty_of c.form.result.now (c.form.ensures ∙ g)))
    (λ is g. (let r = seq_of_form c.form.result.now is (c.form.ensures ∙ g) in c.in_default.not-Seq r.0 r.1))
    ∙ ap (λ T. T ∷ []) (sym c.node-node.ensures.tree) in
    subst (λ K. IsContent types c.args.cells.now c.one_piece.new.cells K c.in_ok-one_piece-in_default.field-0) (sym e) c.in_ok-one_piece-in_default.ensures.content
