use Rattle.std.proofs.Common.{arith}
use Rattle.xd_grammar.specs.declared.grammar.Terminal.TheVariants as t
use Rattle.xd_parse_trees.proofs.NodeRows.{same_behind}
use Rattle.xd_parse.proofs.DefinitionRows.{type_def_reads, behind_fewer}
use Rattle.xd_parse_trees.proofs.Kept.{KeepsRows-refl}
use Rattle.xd_parse.proofs.definitions.read_type_def.Goals as goal

pub returns-clause-reads : goal.returns-clause-reads
returns-clause-reads c =
    type_def_reads c.args.cursor.now c.step.new.self c.word.new.self c.step-2.new.self c.read_type.new.cursor _ _ _ c.requires c.step.ensures.left (c.in_ok-name.ensures.word, c.in_ok-name.ensures.place) c.in_ok-name.ensures.left c.step-2.ensures.left c.in_ok-body.ensures.reads

pub returns-clause-fewer : goal.returns-clause-fewer
returns-clause-fewer c =
    omega (
      arith,
      behind_fewer c.args.cursor.now c.step.new.self t.Type (λ e. cc) c.requires c.step.ensures.left,
      same_behind c.step.new.self c.word.new.self c.in_ok-name.ensures.left,
      same_behind c.word.new.self c.step-2.new.self c.step-2.ensures.left,
      c.in_ok-body.ensures.fewer,
    )

pub returns-clause-no_deeper : goal.returns-clause-no_deeper
returns-clause-no_deeper c = λ limit o w. c.in_ok-body.ensures.no_deeper limit o w.0.0

pub returns-in_err-name-clause-keeps : goal.returns-in_err-name-clause-keeps
returns-in_err-name-clause-keeps c = KeepsRows-refl _

pub returns-in_err-body-clause-keeps : goal.returns-in_err-body-clause-keeps
returns-in_err-body-clause-keeps c = c.read_type.ensures.keeps

pub returns-clause-keeps : goal.returns-clause-keeps
returns-clause-keeps c = c.read_type.ensures.keeps
