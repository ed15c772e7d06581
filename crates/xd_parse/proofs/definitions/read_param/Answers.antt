use Rattle.std.proofs.Common.{arith, ap, length}
use Rattle.xd_parse_trees.proofs.NodeRows.{same_behind}
use Rattle.xd_parse.proofs.DefinitionRows.{param_reads}
use Rattle.xd_parse_trees.proofs.Kept.{KeepsRows-refl}
use Rattle.xd_parse.proofs.definitions.read_param.Goals as goal

pub returns-clause-reads : goal.returns-clause-reads
returns-clause-reads c =
    param_reads c.args.cursor.now c.step.new.self c.step-2.new.self c.word.new.self c.step-3.new.self c.read_type.new.cursor c.step-4.new.self _ _ _ c.step.ensures.left c.step-2.ensures.left (c.in_ok-name.ensures.word, c.in_ok-name.ensures.place) c.in_ok-name.ensures.left c.step-3.ensures.left c.in_ok-body.ensures.reads c.step-4.ensures.left

pub returns-clause-fewer : goal.returns-clause-fewer
returns-clause-fewer c =
    omega (
      arith,
      ap length c.step.ensures.left,
      same_behind c.step.new.self c.step-2.new.self c.step-2.ensures.left,
      same_behind c.step-2.new.self c.word.new.self c.in_ok-name.ensures.left,
      same_behind c.word.new.self c.step-3.new.self c.step-3.ensures.left,
      c.in_ok-body.ensures.fewer,
      same_behind c.read_type.new.cursor c.step-4.new.self c.step-4.ensures.left,
    )

pub returns-in_err-name-clause-keeps : goal.returns-in_err-name-clause-keeps
returns-in_err-name-clause-keeps c = KeepsRows-refl _

pub returns-in_err-body-clause-keeps : goal.returns-in_err-body-clause-keeps
returns-in_err-body-clause-keeps c = c.read_type.ensures.keeps

pub returns-clause-keeps : goal.returns-clause-keeps
returns-clause-keeps c = c.read_type.ensures.keeps

pub returns-clause-belongs : goal.returns-clause-belongs
returns-clause-belongs c = c.in_ok-body.ensures.belongs

pub returns-clause-no_deeper : goal.returns-clause-no_deeper
returns-clause-no_deeper c = c.in_ok-body.ensures.no_deeper
