use Rattle.std.proofs.Common.{◌∷◌, []}
use Rattle.std.proofs.lemmas.Result.{IfOk-weaker}
use Rattle.xd_parse_trees.proofs.StandLemmas.{joined_parts, pushed_choice}
use Rattle.xd_parse_trees.proofs.Kept.{KeepsRows-refl}
use Rattle.xd_parse_trees.proofs.parts.with_parts.Goals as goal

pub returns-in_ok-push_back-in-One-clause-extends : goal.returns-in_ok-push_back-in-One-clause-extends
returns-in_ok-push_back-in-One-clause-extends g c =
    let here = c.in-One in
    rw here.is (joined_parts g.N.Nodes.at _ here.field-0 c.args.row.items (here.part ∷ []) c.push_back.new.self.items (rw here.is at c.requires) c.in_ok-push_back-in-One.ensures.items)

pub returns-in-Sequence-clause-extends : goal.returns-in-Sequence-clause-extends
returns-in-Sequence-clause-extends g c =
    let here = c.in-Sequence in
    rw here.is (IfOk-weaker c.join.result _ _ (λ all e. joined_parts g.N.Nodes.at _ here.field-0 c.args.row.items here.more.items all.items (rw here.is at c.requires) e) c.join.ensures)

pub returns-in_ok-push_back-in-Alternative-clause-extends : goal.returns-in_ok-push_back-in-Alternative-clause-extends
returns-in_ok-push_back-in-Alternative-clause-extends g c =
    let here = c.in-Alternative in
    rw here.is (pushed_choice g.N.Nodes.at _ _ here.place here.branches.items c.into_vec.result.items c.args.row.items c.push_back-in-Alternative.new.self.items c.in_ok-id-in-Alternative.id
    (rw here.is at c.requires) c.into_vec.ensures.items c.in_ok-id-in-Alternative.ensures.added c.in_ok-push_back-in-Alternative.ensures.items)

pub returns-in_err-push_back-in-One-clause-keeps : goal.returns-in_err-push_back-in-One-clause-keeps
returns-in_err-push_back-in-One-clause-keeps g c = KeepsRows-refl _

pub returns-in_err-id-in-Alternative-clause-keeps : goal.returns-in_err-id-in-Alternative-clause-keeps
returns-in_err-id-in-Alternative-clause-keeps g c = c.add.ensures.keeps

pub returns-in_err-push_back-in-Alternative-clause-keeps : goal.returns-in_err-push_back-in-Alternative-clause-keeps
returns-in_err-push_back-in-Alternative-clause-keeps g c = c.add.ensures.keeps

pub returns-in_ok-push_back-in-One-clause-keeps : goal.returns-in_ok-push_back-in-One-clause-keeps
returns-in_ok-push_back-in-One-clause-keeps g c = KeepsRows-refl _

pub returns-in-Sequence-clause-keeps : goal.returns-in-Sequence-clause-keeps
returns-in-Sequence-clause-keeps g c = KeepsRows-refl _

pub returns-in_ok-push_back-in-Alternative-clause-keeps : goal.returns-in_ok-push_back-in-Alternative-clause-keeps
returns-in_ok-push_back-in-Alternative-clause-keeps g c = c.add.ensures.keeps
