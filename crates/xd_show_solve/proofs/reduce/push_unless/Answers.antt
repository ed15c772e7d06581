use Rattle.std.proofs.Common.{subst}
use Rattle.xd_doc.specs.Members.{IsOneOf}
use Rattle.xd_same_types.proofs.Ids.{on_map}
use Rattle.xd_show_solve.specs.Equations.{product_in, side_in}
use Rattle.xd_show_solve.proofs.ShortLaws.{unless_had, unless_not}
use Rattle.xd_show_solve.proofs.reduce.push_unless.Goals as goal

pub returns-then-has_term-clause-adds : goal.returns-then-has_term-clause-adds
returns-then-has_term-clause-adds c = λ types h b.
    unless_had types c.args.other.now (side_in types c.args.made.now) c.args.term (subst (IsOneOf c.args.term) c.deref.ensures.value (c.has_term.ensures c.if-has_term.true))

pub returns-clause-adds : goal.returns-clause-adds
returns-clause-adds c =
    on_map c.push_term.result _ _ (λ a. λ types h b. unless_not (side_in types c.args.other.now) (side_in types c.args.made.now) (side_in types c.push_term.new.made) (product_in types c.args.term) (a types h b)) c.push_term.ensures.adds
