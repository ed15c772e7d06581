use Rattle.std.proofs.Common.{◌++◌, ap, ◌∙◌, get_or}
use Rattle.std.proofs.lemmas.List.{get_or_default, take_all}
use Rattle.std.specs.Str.{bytes_eq}
use Rattle.xd_syntax.specs.declared.types.TypeId.{TypeId}
use Rattle.xd_proof_write.specs.SecondText.{number_among}
use Rattle.xd_proof_write.specs.Written.{texts_in, right_lines}
use Rattle.xd_proof_write.proofs.GoalLemmas.{right_texts, right_more}
use Rattle.xd_proof_write.proofs.second.write_rights.Goals as goal

no_type : TypeId
no_type = record { at = 0 }

pub loop-right-preserved : goal.loop-right-preserved
unfolding no_type
loop-right-preserved c =
    let rows = c.args.types.now in
    let ids = c.args.rights.now in
    let i = c.loop-right.right-index in
    let h = c.loop-right-test.true in
    let g = get_or_default ids i (get_or ids i no_type) no_type h in
    record {
      texts = right_texts rows ids i (get_or ids i no_type) (texts_in c.args.numbers.now) (texts_in c.loop-right.numbers) (texts_in c.number.new.self) h g c.loop-right.invariant.texts c.in_ok-number.ensures.texts;
      lines = right_more rows ids i (get_or ids i no_type) (texts_in c.loop-right.numbers) (texts_in c.number.new.self) c.args.out.now.items c.loop-right.out.items c.write_number_line.new.out.items c.in_ok-number.number h g
          c.in_ok-number.ensures.texts c.loop-right.invariant.lines c.in_ok-number.ensures.number c.in_ok-write_number_line.ensures;
      knows = c.in_ok-number.ensures.knows;
    }

pub returns-clause-lines : goal.returns-clause-lines
returns-clause-lines c = λ more.
    c.loop-right.invariant.lines more
    ∙ ap (λ ids. c.args.out.now.items ++ right_lines c.args.types.now (number_among bytes_eq (texts_in c.loop-right.numbers ++ more)) ids) (take_all c.loop-right.right-index c.args.rights.now c.loop-right-test.false)
