use Rattle.std.proofs.Common.{[], sym, subst}
use Rattle.xd_syntax.specs.Kept.{ProgramTable, program_tree}
use Rattle.xd_grammar.specs.declared.grammar.Nonterminal.TheVariants as n
use Rattle.xd_parse_trees.specs.Values.{definitions}
use Rattle.xd_parse_trees.specs.Reading.{Reads}
use Rattle.xd_parse_trees.specs.Shallow.{NoDeeper, DefinitionsWithin}
use Rattle.xd_parse.proofs.DefinitionRows.{table, type_def_collected, function_collected, all_collected}
use Rattle.xd_grammar.specs.declared.grammar.Terminal.TheVariants as t
use Rattle.xd_parse_trees.proofs.Rows.{front_same}
use Rattle.xd_parse.proofs.definitions.read_definitions.Goals as goal

pub definitions-preserved-in_ok-push : goal.definitions-preserved-in_ok-push
definitions-preserved-in_ok-push c =
    rw c.in_ok-push.ensures.items
    (type_def_collected c.definitions.types c.read_type_def.new.types c.definitions.patterns c.definitions.exprs c.definitions.type_defs.items c.definitions.functions.items c.args.cursor.now c.definitions.cursor c.read_type_def.new.cursor _ c.definitions.invariant c.in_ok-read_type_def.ensures.keeps c.in_ok-read_type_def.ensures.stands c.in_ok-read_type_def.ensures.reads c.in_ok-read_type_def.ensures.no_deeper)

pub definitions-preserved : goal.definitions-preserved
definitions-preserved c =
    rw c.in_ok-push-2.ensures.items
    (function_collected c.definitions.types c.read_function.new.types c.definitions.patterns c.read_function.new.patterns c.definitions.exprs c.read_function.new.exprs c.definitions.type_defs.items c.definitions.functions.items c.args.cursor.now c.definitions.cursor c.read_function.new.cursor _ c.definitions.invariant c.in_ok-function.ensures.keeps c.in_ok-function.ensures.grows c.in_ok-function.ensures.stands c.in_ok-function.ensures.reads c.in_ok-function.ensures.no_deeper)

pub returns-clause-reads : goal.returns-clause-reads
returns-clause-reads c =
    subst (λ (p : ProgramTable). Reads n.Definitions c.args.cursor.now c.step.new.self (definitions (program_tree p))) (sym c.new.ensures)
    (all_collected (table c.definitions.types c.definitions.patterns c.definitions.exprs c.definitions.type_defs.items c.definitions.functions.items) c.args.cursor.now c.definitions.cursor c.step.new.self c.definitions.invariant c.step.ensures.left (sym c.if-at.ensures) (sym c.if-at-2.ensures))

pub returns-clause-no_deeper : goal.returns-clause-no_deeper
returns-clause-no_deeper c = subst (λ (p : ProgramTable). NoDeeper (DefinitionsWithin (program_tree p)) [] p.types) (sym c.new.ensures) c.definitions.invariant.no_deeper

pub definitions-smaller-in_ok-push : goal.definitions-smaller-in_ok-push
definitions-smaller-in_ok-push c = c.in_ok-read_type_def.ensures.fewer

pub definitions-smaller : goal.definitions-smaller
definitions-smaller c = c.in_ok-function.ensures.fewer

pub read_type_def-requires : goal.read_type_def-requires
read_type_def-requires c = front_same t.Type c.definitions.cursor (sym c.if-at.ensures)

pub read_function-requires-clause-front : goal.read_function-requires-clause-front
read_function-requires-clause-front c = front_same t.Fun c.definitions.cursor (sym c.if-at-2.ensures)

pub read_function-requires-clause-clauses : goal.read_function-requires-clause-clauses
read_function-requires-clause-clauses c = c.definitions.invariant.stands.clauses
