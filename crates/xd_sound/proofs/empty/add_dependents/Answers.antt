use Rattle.std.proofs.Common.{◌≡◌, ◌<◌, arith, length, ap, sym, subst, ◌∙◌, inl, inr}
use Rattle.xd_doc.specs.Members.{IsOneOf}
use Rattle.xd_syntax.specs.Types.{form_of}
use Rattle.xd_syntax.specs.declared.types.TypeId.{TypeId}
use Rattle.xd_sound.specs.Graph.{HasEdge}
use Rattle.xd_sound.specs.Emptiness.{depends_on}
use Rattle.xd_syntax.specs.Nodes.{form_at}
use Rattle.std.proofs.lemmas.Bool.{cases_eq}
use Rattle.xd_sound.proofs.EmptyLemmas.{form_read, read_more}
use Rattle.xd_sound.proofs.empty.add_dependents.Goals as goal

pub loop-at-preserved : goal.loop-at-preserved
loop-at-preserved c =
    let ts = c.args.types.now in
    let ds = c.args.defs.now in
    let i = c.loop-at.invariant in
    let at = c.loop-at.at in
    let t = c.loop-at-test.true in
    let n = c.len-at-end.ensures in
    let l : at < length ts = omega arith in
    let k : c.of.result.at ≡ at = ap (λ (x : TypeId). x.at) c.of.ensures in
    let f : form_of c.form.result.now ≡ form_at ts at = form_read ts c.of.result.at at c.node.result.now (form_of c.form.result.now) k l c.node.ensures.row c.form.ensures in
    let a = c.in_ok-add_edges_to.ensures in
    record {
      count = a.count ∙ i.count;
      all = λ x j h m. elim (cases_eq x at) [
        | inl q ↦ subst (λ y. HasEdge c.add_edges_to.new.graph j y) (sym q) (a.added j (subst (λ g. IsOneOf j (depends_on ds g)) (ap (form_at ts) q ∙ sym f) m))
        | inr q ↦ a.kept j x (i.all x j (omega arith) m)
      ];
      read = read_more ts at c.of.result.at c.node.result.now k l c.node.ensures.row c.node.ensures.tree c.node.ensures.parts c.node.ensures.merged i.read;
    }
