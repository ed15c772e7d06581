use Rattle.std.proofs.Common.{[], arith, sym, subst}
use Rattle.xd_syntax.specs.PlacedTable.{placed_at}
use Rattle.xd_syntax.specs.FunctionRow.{FunctionRow}
use Rattle.xd_syntax.specs.Kept.{FunctionStands, function_definition}
use Rattle.xd_syntax.proofs.TableRows.{KeepsRows-trans}
use Rattle.xd_grammar.specs.declared.grammar.Terminal.TheVariants as t
use Rattle.xd_parse_trees.proofs.NodeRows.{same_behind}
use Rattle.xd_parse.specs.Definitions.{ReadsInFront, one_function}
use Rattle.xd_parse_trees.specs.Shallow.{NoDeeper, DefinitionsWithin}
use Rattle.xd_parse.proofs.DefinitionRows.{table, function_reads, function_deeper, params_kept, params_more, behind_fewer}
use Rattle.xd_parse_trees.proofs.Kept.{KeepsRows-refl}
use Rattle.xd_parse.proofs.definitions.read_function.Goals as goal

pub returns-clause-reads : goal.returns-clause-reads
returns-clause-reads c =
    subst (λ (f : FunctionRow). ReadsInFront (one_function (function_definition (table c.read_type.new.types c.read_expr.new.patterns c.read_expr.new.exprs [] []) f)) c.args.cursor.now c.read_expr.new.cursor) (sym c.new.ensures)
    (function_reads c.args.cursor.now c.step.new.self c.word.new.self c.read_params.new.cursor c.step-2.new.self c.read_type.new.cursor c.step-3.new.self c.read_expr.new.cursor _ _ _ _ _ c.requires.front c.step.ensures.left (c.in_ok-name.ensures.word, c.in_ok-name.ensures.place) c.in_ok-name.ensures.left
    (params_kept c.read_params.new.types c.read_type.new.types c.word.new.self c.read_params.new.cursor c.in_ok-params.params.items c.in_ok-declared.ensures.keeps c.in_ok-params.ensures.belong c.in_ok-params.ensures.reads)
    c.step-2.ensures.left c.in_ok-declared.ensures.reads c.step-3.ensures.left c.in_ok-body.ensures.reads)

pub returns-clause-stands : goal.returns-clause-stands
returns-clause-stands c =
    subst (λ (f : FunctionRow). FunctionStands c.read_type.new.types c.read_expr.new.exprs f) (sym c.new.ensures)
    (record {
      params = params_more c.read_params.new.types c.read_type.new.types c.in_ok-params.params.items c.in_ok-declared.ensures.keeps c.in_ok-params.ensures.belong;
      declared = c.in_ok-declared.ensures.belongs;
      body = c.in_ok-body.ensures.belongs;
    })

pub returns-clause-fewer : goal.returns-clause-fewer
returns-clause-fewer c =
    omega (
      arith,
      behind_fewer c.args.cursor.now c.step.new.self t.Fun (λ e. cc) c.requires.front c.step.ensures.left,
      same_behind c.step.new.self c.word.new.self c.in_ok-name.ensures.left,
      c.in_ok-params.ensures.fewer,
      same_behind c.read_params.new.cursor c.step-2.new.self c.step-2.ensures.left,
      c.in_ok-declared.ensures.fewer,
      same_behind c.read_type.new.cursor c.step-3.new.self c.step-3.ensures.left,
      c.in_ok-body.ensures.left,
    )

pub returns-clause-no_deeper : goal.returns-clause-no_deeper
returns-clause-no_deeper c =
    subst (λ (f : FunctionRow). NoDeeper (DefinitionsWithin (one_function (function_definition (table c.read_type.new.types c.read_expr.new.patterns c.read_expr.new.exprs [] []) f))) c.args.types.now c.read_type.new.types) (sym c.new.ensures)
    (λ limit o w. function_deeper c.args.types.now c.read_params.new.types c.read_type.new.types c.in_ok-params.params.items (placed_at c.read_type.new.types c.in_ok-declared.declared.at) c.in_ok-declared.ensures.keeps c.in_ok-params.ensures.belong c.in_ok-params.ensures.no_deeper c.in_ok-declared.ensures.no_deeper limit o w.1.0)

pub returns-in_err-name-clause-keeps : goal.returns-in_err-name-clause-keeps
returns-in_err-name-clause-keeps c = KeepsRows-refl _

pub returns-in_err-params-clause-keeps : goal.returns-in_err-params-clause-keeps
returns-in_err-params-clause-keeps c = c.read_params.ensures.keeps

pub returns-in_err-declared-clause-keeps : goal.returns-in_err-declared-clause-keeps
returns-in_err-declared-clause-keeps c = KeepsRows-trans _ _ _ c.read_params.ensures.keeps c.read_type.ensures.keeps

pub returns-in_err-body-clause-keeps : goal.returns-in_err-body-clause-keeps
returns-in_err-body-clause-keeps c = KeepsRows-trans _ _ _ c.read_params.ensures.keeps c.read_type.ensures.keeps

pub returns-clause-keeps : goal.returns-clause-keeps
returns-clause-keeps c = KeepsRows-trans _ _ _ c.read_params.ensures.keeps c.read_type.ensures.keeps

pub returns-clause-grows : goal.returns-clause-grows
returns-clause-grows c = c.in_ok-body.ensures.grows
