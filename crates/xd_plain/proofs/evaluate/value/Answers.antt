use Rattle.xd_meaning.specs.Meaning.{Matcher}
use Rattle.xd_plain.specs.PlainMeaning.{value_with}
use Rattle.xd_plain.specs.PlainWays.{bindings_of}
use Rattle.xd_plain.specs.PlainPrograms.{expression_of, program_of}
use Rattle.xd_plain.proofs.PlainMeaningLemmas.{settled, same_answer, if_done, if_ended}
use Rattle.xd_plain.proofs.evaluate.value.Goals as goal

pub returns : goal.returns
returns c =
    let outcome = λ (W : Matcher). value_with W (program_of c.args.program.now) c.args.calls (bindings_of c.args.variables.now) (expression_of c.args.expression.now) in
    record {
      done = if_done c.value_within.result _ c.value_within.ensures;
      ended = if_ended c.value_within.result _ c.value_within.ensures;
      enough = λ s h. same_answer c.value_within.result c.value_within.ensures (settled (program_of c.args.program.now) s c.args.unfoldings outcome h);
    }
