use Rattle.std.proofs.Common.{◌≡◌, take, sym, ap, ◌∙◌, subst}
use Rattle.xd_syntax.specs.Table.{CanFollow, form_tree, tree_at}
use Rattle.xd_syntax.specs.Tree.{seq_of}
use Rattle.xd_syntax.specs.Types.{form_of}
use Rattle.xd_same_types.specs.Same.{AreSeqParts, trees}
use Rattle.xd_same_types.proofs.Ids.{ok_map}
use Rattle.xd_same_types.proofs.Tables.{seq_tree, seq_pieces, other_seq_part}
use Rattle.xd_same_types.proofs.seqs.seq_parts.Goals as goal

pub returns-in_ok-from_slice-in-Seq-clause-parts : goal.returns-in_ok-from_slice-in-Seq-clause-parts
returns-in_ok-from_slice-in-Seq-clause-parts c =
    let rows = c.args.pool.now.types in
    let e : c.in_ok-from_slice-in-Seq.field-0.items ≡ c.in-Seq.pieces.items = c.in_ok-from_slice-in-Seq.ensures.items ∙ c.deref.ensures.value in
    let f = sym c.form.ensures ∙ ap form_of c.in-Seq.is in
    subst (AreSeqParts rows) (sym e) (seq_pieces rows c.args.id.at c.in-Seq.pieces.items (subst (λ x. CanFollow _ (take c.args.id.at rows) x) f c.node.ensures.merged))

pub returns-in_ok-from_slice-in-Seq-clause-tree : goal.returns-in_ok-from_slice-in-Seq-clause-tree
returns-in_ok-from_slice-in-Seq-clause-tree c =
    let rows = c.args.pool.now.types in
    let e : c.in_ok-from_slice-in-Seq.field-0.items ≡ c.in-Seq.pieces.items = c.in_ok-from_slice-in-Seq.ensures.items ∙ c.deref.ensures.value in
    let f = sym c.form.ensures ∙ ap form_of c.in-Seq.is in
    ap (λ xs. seq_of (trees rows xs)) e ∙ seq_tree rows c.in-Seq.pieces.items _ (c.node.ensures.tree ∙ ap (form_tree (tree_at rows)) f)

pub returns-in_default : goal.returns-in_default
returns-in_default c =
    let rows = c.args.pool.now.types in
    let part = other_seq_part rows c.args.id c.form.result.now c.requires (c.node.ensures.tree ∙ ap (form_tree (tree_at rows)) (sym c.form.ensures))
    (subst (λ x. CanFollow _ (take c.args.id.at rows) x) (sym c.form.ensures) c.node.ensures.merged) c.in_default.not-Empty c.in_default.not-Seq in
    record {
      parts = ok_map c.one_part.result _ _ (λ p e. subst (AreSeqParts rows) (sym e) (part, tt)) c.one_part.ensures;
      tree = ok_map c.one_part.result _ _ (λ p e. ap (λ xs. seq_of (trees rows xs)) e) c.one_part.ensures;
    }
