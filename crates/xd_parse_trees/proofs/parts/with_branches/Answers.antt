use Rattle.std.proofs.Common.{◌∷◌, [], refl}
use Rattle.std.proofs.lemmas.Result.{IfOk-weaker}
use Rattle.xd_parse_trees.proofs.StandLemmas.{joined_branches, one_node, pushed_row}
use Rattle.xd_parse_trees.proofs.Kept.{KeepsRows-refl}
use Rattle.xd_parse_trees.proofs.parts.with_branches.Goals as goal

pub returns-in_ok-push_back-in-One-clause-extends : goal.returns-in_ok-push_back-in-One-clause-extends
returns-in_ok-push_back-in-One-clause-extends g c =
    let here = c.in-One in
    let stand = rw here.is at c.requires in
    rw here.is (pushed_row g.N.Nodes.at _ _ here.field-0 (here.part ∷ []) (here.part ∷ []) c.args.branches.items c.push_back.new.self.items here.part
    stand refl (one_node _ here.field-0 (g.N.Nodes.at here.part) stand) c.in_ok-push_back-in-One.ensures.items)

pub returns-in-Alternative-clause-extends : goal.returns-in-Alternative-clause-extends
returns-in-Alternative-clause-extends g c =
    let here = c.in-Alternative in
    rw here.is (IfOk-weaker c.join.result _ _ (λ all e. joined_branches g.N.Nodes.at _ here.field-0 c.args.branches.items here.more.items all.items (rw here.is at c.requires) e) c.join.ensures)

pub returns-in_ok-push_back-in-Sequence-clause-extends : goal.returns-in_ok-push_back-in-Sequence-clause-extends
returns-in_ok-push_back-in-Sequence-clause-extends g c =
    let here = c.in-Sequence in
    rw here.is (pushed_row g.N.Nodes.at _ _ here.place here.row.items c.into_vec.result.items c.args.branches.items c.push_back-in-Sequence.new.self.items c.in_ok-id-in-Sequence.id
    (rw here.is at c.requires) c.into_vec.ensures.items c.in_ok-id-in-Sequence.ensures.added c.in_ok-push_back-in-Sequence.ensures.items)

pub returns-in_err-push_back-in-One-clause-keeps : goal.returns-in_err-push_back-in-One-clause-keeps
returns-in_err-push_back-in-One-clause-keeps g c = KeepsRows-refl _

pub returns-in_err-id-in-Sequence-clause-keeps : goal.returns-in_err-id-in-Sequence-clause-keeps
returns-in_err-id-in-Sequence-clause-keeps g c = c.sequence_node.ensures.keeps

pub returns-in_err-push_back-in-Sequence-clause-keeps : goal.returns-in_err-push_back-in-Sequence-clause-keeps
returns-in_err-push_back-in-Sequence-clause-keeps g c = c.sequence_node.ensures.keeps

pub returns-in_ok-push_back-in-One-clause-keeps : goal.returns-in_ok-push_back-in-One-clause-keeps
returns-in_ok-push_back-in-One-clause-keeps g c = KeepsRows-refl _

pub returns-in-Alternative-clause-keeps : goal.returns-in-Alternative-clause-keeps
returns-in-Alternative-clause-keeps g c = KeepsRows-refl _

pub returns-in_ok-push_back-in-Sequence-clause-keeps : goal.returns-in_ok-push_back-in-Sequence-clause-keeps
returns-in_ok-push_back-in-Sequence-clause-keeps g c = c.sequence_node.ensures.keeps
