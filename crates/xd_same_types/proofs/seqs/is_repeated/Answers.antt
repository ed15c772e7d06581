use Rattle.std.proofs.Common.{◌≡◌, ◌+◌, get_or, sym, ap, ◌∙◌, subst}
use Rattle.xd_doc.proofs.Lists.{one_at, drop_whole}
use Rattle.xd_syntax.specs.Tree.{Star, seq_of}
use Rattle.xd_syntax.specs.Table.{form_tree, tree_at}
use Rattle.xd_syntax.specs.Types.{form_of, tree}
use Rattle.xd_same_types.specs.Same.{trees}
use Rattle.xd_same_types.proofs.Ids.{got}
use Rattle.xd_same_types.proofs.Tables.{seq_tree}
use Rattle.xd_same_types.proofs.seqs.is_repeated.Goals as goal

pub returns-in-Seq : goal.returns-in-Seq
returns-in-Seq c = λ e.
    let rows = c.args.pool.now.types in
    let body = c.in-Some.body in
    let parts = c.args.parts.now in
    let k = c.args.place in
    let f = sym c.form.ensures ∙ ap form_of c.in-Seq.is in
    let whole = seq_tree rows c.in-Seq.pieces.items _ (c.node.ensures.tree ∙ ap (form_tree (tree_at rows)) f) in
    let same = c.are_same_parts.ensures e in
    let rest = sym c.deref.ensures.value ∙ same in
    record {
      inside = tree rows body;
      within = c.requires.place;
      star = λ id at. subst (λ x. tree rows x ≡ Star (tree rows body)) (one_at parts k (get_or parts k (record { at = 0 })) id c.requires.place (got parts k _ c.requires.place) at) c.in-Some.ensures.star;
      rest = ap (λ xs. seq_of (trees rows xs)) (sym (rest ∙ drop_whole parts (k + 1))) ∙ whole;
    }
