use Rattle.std.proofs.Common.{◌≡◌, ◌∙◌, length, sym, rules, arith, vec_len}
use Rattle.std.proofs.lemmas.Bool.Decides.{nat_tests}
use Rattle.xd_auto.specs.Automaton.{moves_at}
use Rattle.xd_clauses.proofs.BeginsLemmas.{no_names, share_more}
use Rattle.xd_clauses.proofs.begins.share_no_name.Goals as goal

pub loop-step-init : goal.loop-step-init
loop-step-init g c = no_names g.M.Move.has (g.M.Move.moves_in (moves_at c.args.auto.now c.args.state))

pub loop-step-preserved : goal.loop-step-preserved
loop-step-preserved g c =
    let twos = g.M.Move.moves_in (moves_at c.args.auto.now c.args.state) in
    let numbers = c.in_ok-numbers.numbers in
    let is = sym c.is_empty.ensures ∙ c.if-not-is_empty.false in
    let count : vec_len numbers ≡ 0 = grind (arith, nat_tests) in
    let none : length numbers.items ≡ 0 = search rules in
    share_more g.M.Move.has c.args.moves.now twos numbers.items c.loop-step.step-index c.step-item.result c.loop-step-test.true c.step-item.is none c.in_ok-numbers.ensures c.loop-step.invariant
