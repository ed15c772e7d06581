use Rattle.xd_proof_read.specs.Naming.{SpellsTypeOf}
use Rattle.xd_proof_read.proofs.TypeFacts.{no_type_word, no_type_space, no_type_number, other_number, type_line}
use Rattle.xd_proof_read.proofs.formats.read_type_line.Goals as goal

pub returns-in_default-clause-read : goal.returns-in_default-clause-read
returns-in_default-clause-read c = no_type_word (SpellsTypeOf c.args.sound.now) c.args.line.now c.as_slice.result.now c.args.number c.as_slice.ensures c.in_default.ensures

pub returns-in_default-before_mark-clause-read : goal.returns-in_default-before_mark-clause-read
returns-in_default-before_mark-clause-read c =
    no_type_space (SpellsTypeOf c.args.sound.now) c.args.line.now c.as_slice.result.now c.in-Some.behind.now c.args.number c.as_slice.ensures c.in-Some.ensures c.in_default-before_mark.ensures

pub returns-in-None-clause-read : goal.returns-in-None-clause-read
returns-in-None-clause-read c =
    let m = c.in-Some-before_mark.ensures in
    no_type_number (SpellsTypeOf c.args.sound.now) c.args.line.now c.as_slice.result.now c.in-Some.behind.now c.in-Some-before_mark.word.now c.in-Some-before_mark.text.now c.args.number c.as_slice.ensures c.in-Some.ensures m.0 m.1 c.in-None.ensures

pub returns-then-there-number-clause-read : goal.returns-then-there-number-clause-read
returns-then-there-number-clause-read c =
    let m = c.in-Some-before_mark.ensures in
    other_number (SpellsTypeOf c.args.sound.now) c.args.line.now c.as_slice.result.now c.in-Some.behind.now c.in-Some-before_mark.word.now c.in-Some-before_mark.text.now c.args.number c.in-Some-read_number.there c.as_slice.ensures c.in-Some.ensures
    m.0 m.1 c.in-Some-read_number.ensures c.if-there-number.true

pub returns-else-there-number-clause-read : goal.returns-else-there-number-clause-read
returns-else-there-number-clause-read c =
    let m = c.in-Some-before_mark.ensures in
    type_line (SpellsTypeOf c.args.sound.now) c.args.line.now c.as_slice.result.now c.in-Some.behind.now c.in-Some-before_mark.word.now c.in-Some-before_mark.text.now c.args.number c.in-Some-read_number.there c.read_spelled.new.sound.types c.read_spelled.result
    c.as_slice.ensures c.in-Some.ensures m.0 m.1 c.in-Some-read_number.ensures c.if-there-number.false c.read_spelled.ensures.read
