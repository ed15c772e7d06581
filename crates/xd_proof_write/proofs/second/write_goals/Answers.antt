use Rattle.std.proofs.Common.{◌++◌, ap, sym, ◌∙◌}
use Rattle.std.proofs.lemmas.List.{take_all}
use Rattle.std.specs.Str.{bytes_eq}
use Rattle.xd_proof_write.specs.SecondText.{number_among}
use Rattle.xd_proof_write.specs.Written.{texts_in, goals_lines}
use Rattle.xd_proof_write.proofs.GoalLemmas.{more_texts, goal_more}
use Rattle.xd_proof_write.proofs.second.write_goals.Goals as goal

pub loop-i-preserved : goal.loop-i-preserved
loop-i-preserved c =
    let rows = c.args.types.now in
    let gs = c.args.goals.now in
    let i = c.loop-i.i in
    let h = c.loop-i-test.true in
    let g = c.index-goals-i.result in
    let s = sym c.index-goals-i.is in
    record {
      texts = more_texts rows gs i g (texts_in c.args.numbers.now) (texts_in c.loop-i.numbers) (texts_in c.write_goal.new.numbers) h s c.loop-i.invariant.texts c.in_ok-write_goal.ensures.texts;
      lines = goal_more rows gs i g (texts_in c.loop-i.numbers) (texts_in c.write_goal.new.numbers) c.args.out.now.items c.loop-i.out.items c.write_goal.new.out.items h s
          c.in_ok-write_goal.ensures.texts c.loop-i.invariant.lines c.in_ok-write_goal.ensures.lines;
      knows = c.in_ok-write_goal.ensures.knows;
    }

pub returns-clause-lines : goal.returns-clause-lines
returns-clause-lines c = λ more.
    c.loop-i.invariant.lines more
    ∙ ap (λ gs. c.args.out.now.items ++ goals_lines c.args.types.now (number_among bytes_eq (texts_in c.loop-i.numbers ++ more)) 1 gs) (take_all c.loop-i.i c.args.goals.now c.loop-i-test.false)
