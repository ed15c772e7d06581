use Rattle.xd_parse.proofs.Turned.{type_meant}
use Rattle.xd_parse.proofs.ShallowTexts.{type_shallow, taken_off, same_keeps, same_within}
use Rattle.xd_parse.proofs.parse.parse_type.Goals as goal

pub returns-in-Ok-clause-type_text : goal.returns-in-Ok-clause-type_text
returns-in-Ok-clause-type_text c =
    type_meant c.args.bytes.now c.in_ok-cursor.cursor c.read_type.new.cursor _ c.in_ok-cursor.ensures.spells c.in_ok-cursor.ensures.tokens c.in-Ok.ensures.reads

pub returns-in-Ok-clause-shallow : goal.returns-in-Ok-clause-shallow
returns-in-Ok-clause-shallow c =
    type_shallow c.args.bytes.now c.in_ok-cursor.cursor c.read_type.new.cursor c.args.types.now c.read_type.new.types _ c.in_ok-cursor.ensures.spells c.in_ok-cursor.ensures.tokens c.in-Ok.ensures.reads c.in-Ok.ensures.no_deeper

pub returns-clause-unchanged : goal.returns-clause-unchanged
returns-clause-unchanged c = taken_off c.args.types.now c.read_type.new.types c.truncate.new.self c.len-len.result c.read_type.ensures.keeps c.len-len.ensures c.truncate.ensures

pub returns-clause-keeps : goal.returns-clause-keeps
returns-clause-keeps c =
    same_keeps c.args.types.now c.truncate.new.self (taken_off c.args.types.now c.read_type.new.types c.truncate.new.self c.len-len.result c.read_type.ensures.keeps c.len-len.ensures c.truncate.ensures)

pub returns-clause-shallow : goal.returns-clause-shallow
returns-clause-shallow c =
    same_within c.args.types.now c.truncate.new.self (taken_off c.args.types.now c.read_type.new.types c.truncate.new.self c.len-len.result c.read_type.ensures.keeps c.len-len.ensures c.truncate.ensures)
