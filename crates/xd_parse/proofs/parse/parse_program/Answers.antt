use Rattle.xd_parse.proofs.Turned.{program_meant}
use Rattle.xd_parse.proofs.ShallowTexts.{program_shallow}
use Rattle.xd_parse.proofs.parse.parse_program.Goals as goal

pub returns-clause-program : goal.returns-clause-program
returns-clause-program c = program_meant c.args.bytes.now c.in_ok-cursor.cursor c.read_definitions.new.cursor _ c.in_ok-cursor.ensures.spells c.in_ok-cursor.ensures.tokens c.in_ok-program.ensures.reads

pub returns-clause-shallow : goal.returns-clause-shallow
returns-clause-shallow c =
    program_shallow c.args.bytes.now c.in_ok-cursor.cursor c.read_definitions.new.cursor _ c.in_ok-cursor.ensures.spells c.in_ok-cursor.ensures.tokens c.in_ok-program.ensures.reads c.in_ok-program.ensures.no_deeper
