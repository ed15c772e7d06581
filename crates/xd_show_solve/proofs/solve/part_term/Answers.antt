use Rattle.std.proofs.Common.{Some, sym, subst, refl}
use Rattle.xd_syntax.specs.Types.{tree}
use Rattle.xd_show_solve.specs.Equations.{PartsMore, own_in, product_in, side_in}
use Rattle.xd_same_types.proofs.Ids.{differs}
use Rattle.xd_show_solve.proofs.SolveLaws.{parts_own, parts_other}
use Rattle.xd_show_solve.proofs.SumSteps.{side_kept, stands_kept, term_pushed}
use Rattle.xd_same_types.proofs.Tables.{keeps_refl}
use Rattle.xd_show_solve.proofs.solve.part_term.Goals as goal

pub returns-then-term-of-clause-parts : goal.returns-then-term-of-clause-parts
returns-then-term-of-clause-parts c =
    let rows = c.args.pool.now.types in
    let rest = c.args.parts.now.rest in
    subst (PartsMore c.args.of (own_in rows c.args.parts.now.own) (side_in rows rest) (product_in rows c.args.term) (Some (tree c.with_own.new.pool.types c.in_ok-own.own)))
    (sym (side_kept _ _ c.with_own.ensures.keeps rest c.requires.rest))
    (parts_own c.args.of (own_in rows c.args.parts.now.own) (side_in rows rest) (product_in rows c.args.term) (tree c.with_own.new.pool.types c.in_ok-own.own) c.if-term-of.true c.in_ok-own.ensures.more)

pub returns-then-term-of-clause-rest : goal.returns-then-term-of-clause-rest
returns-then-term-of-clause-rest c = stands_kept _ _ c.with_own.ensures.keeps c.args.parts.now.rest c.requires.rest

pub returns-clause-parts : goal.returns-clause-parts
returns-clause-parts c =
    let rows = c.args.pool.now.types in
    let rest = c.args.parts.now.rest in
    parts_other c.args.of (own_in rows c.args.parts.now.own) (side_in rows rest) _ (product_in rows c.args.term) (differs _ _ c.if-term-of.false)
    (term_pushed rows rows (keeps_refl rows) rest (record { terms = c.push.new.self; constant = rest.constant }) c.args.term c.requires.rest c.requires.term c.in_ok-push.ensures.items refl)
