use Rattle.std.proofs.Common.{None, Some, ap, sym, ◌∙◌}
use Rattle.xd_show_solve.specs.Equations.{product_in}
use Rattle.xd_show_solve.specs.Rounds.{has_sum}
use Rattle.xd_same_types.proofs.Ids.{on_map}
use Rattle.xd_show_solve.proofs.RoundLaws.{out_beyond, own_read, taken_other, taken_own}
use Rattle.xd_show_solve.proofs.rounds.push_taken.Goals as goal

pub push_multiple-requires-clause-sum : goal.push_multiple-requires-clause-sum
push_multiple-requires-clause-sum c = c.requires.owns c.args.term.to c.in-Some.own (own_read c.args.owns.now c.args.term.to c.index-owns-term.result c.if-term-owns.false c.index-owns-term.is ∙ c.in-Some.is)

pub returns-then-term-owns-clause-adds : goal.returns-then-term-owns-clause-adds
returns-then-term-owns-clause-adds c =
    let rows = c.args.pool.now.types in
    on_map c.push_term.result _ _ (λ a. taken_other rows c.args.owns.now _ _ (product_in rows c.args.term) (out_beyond c.args.owns.now c.args.term.to c.if-term-owns.true) (a rows)) c.push_term.ensures.adds

pub returns-in-None-clause-adds : goal.returns-in-None-clause-adds
returns-in-None-clause-adds c =
    let rows = c.args.pool.now.types in
    let none = ap has_sum (own_read c.args.owns.now c.args.term.to c.index-owns-term.result c.if-term-owns.false c.index-owns-term.is ∙ c.in-None.is) in
    on_map c.push_term-in-None.result _ _ (λ a. taken_other rows c.args.owns.now _ _ (product_in rows c.args.term) none (a rows)) c.push_term-in-None.ensures.adds

pub returns-in-Some-clause-adds : goal.returns-in-Some-clause-adds
returns-in-Some-clause-adds c =
    let rows = c.args.pool.now.types in
    on_map c.push_multiple.result _ _
    (λ a. taken_own rows c.args.owns.now _ _ (product_in rows c.args.term) c.in-Some.own (own_read c.args.owns.now c.args.term.to c.index-owns-term.result c.if-term-owns.false c.index-owns-term.is ∙ c.in-Some.is) a)
    c.push_multiple.ensures.adds
