use Rattle.std.proofs.Common.{ap, sym, ◌∙◌, subst}
use Rattle.std.proofs.lemmas.Result.{IfOk-weaker}
use Rattle.xd_syntax.specs.PlacedTable.{placed_at, placed_form}
use Rattle.xd_syntax.proofs.TableRows.{KeepsRows-trans}
use Rattle.xd_parse_trees.specs.Nodes.{shape, is_operator, Merges}
use Rattle.xd_parse_trees.specs.Pieces.{pieces}
use Rattle.xd_parse_trees.proofs.NodeRows.{operator_read, operator_not_read}
use Rattle.xd_parse_trees.proofs.Kept.{KeepsRows-refl}
use Rattle.xd_parse_trees.proofs.trees.read_operator.Goals as goal

pub returns-then-is_operator-clause-reads : goal.returns-then-is_operator-clause-reads
returns-then-is_operator-clause-reads g c =
    let at = g.N.Nodes.at in
    let rows = g.N.Nodes.rows c.to_node.new.nodes in
    let new = g.N.Nodes.rows c.add_part.new.nodes in
    IfOk-weaker c.add_part.result _ _
    (λ made m. operator_read at g.N.Nodes.sort c.peek-operator.result _ _ _ rows new c.place_of-place.result c.args.parts c.in_ok-part.part (pieces at made) (sym c.is_operator.ensures ∙ c.if-is_operator.true) c.peek-operator.ensures
    c.step.ensures.left c.requires c.place_of-place.ensures c.in_ok-part.ensures.added
    (subst (λ f. Merges rows new (placed_form (placed_at rows) c.place_of-place.result (shape at f)) (pieces at made)) c.repeated.ensures m))
    c.add_part.ensures.merges

pub returns-clause-reads : goal.returns-clause-reads
returns-clause-reads g c = operator_not_read g.N.Nodes.sort _ _ _ c.requires (sym (c.is_operator.ensures ∙ ap is_operator c.peek-operator.ensures) ∙ c.if-is_operator.false)

pub returns-in_err-part-clause-keeps : goal.returns-in_err-part-clause-keeps
returns-in_err-part-clause-keeps g c = c.to_node.ensures.keeps

pub returns-then-is_operator-clause-keeps : goal.returns-then-is_operator-clause-keeps
returns-then-is_operator-clause-keeps g c = KeepsRows-trans _ _ _ c.to_node.ensures.keeps c.add_part.ensures.keeps

pub returns-clause-keeps : goal.returns-clause-keeps
returns-clause-keeps g c = KeepsRows-refl _
