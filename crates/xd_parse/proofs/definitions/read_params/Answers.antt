use Rattle.std.proofs.Common.{arith, sym, refl}
use Rattle.xd_syntax.proofs.TableRows.{KeepsRows-trans}
use Rattle.xd_parse_trees.specs.Reading.{behind}
use Rattle.xd_parse_trees.proofs.NodeRows.{same_behind}
use Rattle.xd_parse.proofs.DefinitionRows.{first_param, next_param, next_deeper, last_param}
use Rattle.xd_parse_trees.proofs.Rows.{next_lt_at}
use Rattle.xd_grammar.specs.declared.grammar.Terminal.TheVariants as t
use Rattle.xd_parse.proofs.definitions.read_params.Goals as goal

pub params-init : goal.params-init
params-init c = record {
  read = rw (c.in_ok-push.ensures.items, c.new-params.ensures.items) (first_param c.read_param.new.types c.args.cursor.now c.read_param.new.cursor _ c.in_ok-read_param.ensures.reads c.in_ok-read_param.ensures.belongs);
  keeps = c.in_ok-read_param.ensures.keeps;
  fewer = omega (arith, same_behind c.args.cursor.now (behind c.args.cursor.now) refl, c.in_ok-read_param.ensures.fewer);
  no_deeper = rw (c.in_ok-push.ensures.items, c.new-params.ensures.items) (λ limit o w. c.in_ok-read_param.ensures.no_deeper limit o w.0);
}

pub params-preserved : goal.params-preserved
params-preserved c = record {
  read = rw c.in_ok-push-2.ensures.items
      (next_param c.params.types c.read_param-in-params.new.types c.args.cursor.now c.params.cursor c.read_param-in-params.new.cursor c.params.params.items _ (sym c.params-test.ensures) c.in_ok-read_param-2.ensures.keeps c.params.invariant.read c.in_ok-read_param-2.ensures.reads c.in_ok-read_param-2.ensures.belongs);
  keeps = KeepsRows-trans c.args.types.now c.params.types c.read_param-in-params.new.types c.params.invariant.keeps c.in_ok-read_param-2.ensures.keeps;
  fewer = omega (arith, same_behind c.params.cursor (behind c.params.cursor) refl, c.in_ok-read_param-2.ensures.fewer, c.params.invariant.fewer);
  no_deeper = rw c.in_ok-push-2.ensures.items
      (next_deeper c.args.types.now c.params.types c.read_param-in-params.new.types c.params.params.items _ c.in_ok-read_param-2.ensures.keeps c.params.invariant.read.belong c.params.invariant.no_deeper c.in_ok-read_param-2.ensures.no_deeper);
}

pub returns-clause-reads : goal.returns-clause-reads
returns-clause-reads c = last_param c.params.types c.args.cursor.now c.params.cursor c.params.params.items (sym c.params-test.ensures) c.params.invariant.read

pub returns-in_err-read_param-clause-keeps : goal.returns-in_err-read_param-clause-keeps
returns-in_err-read_param-clause-keeps c = c.read_param.ensures.keeps

pub returns-in_err-push-clause-keeps : goal.returns-in_err-push-clause-keeps
returns-in_err-push-clause-keeps c = c.read_param.ensures.keeps

pub returns-in_err-read_param-2-clause-keeps : goal.returns-in_err-read_param-2-clause-keeps
returns-in_err-read_param-2-clause-keeps c = KeepsRows-trans _ _ _ c.params.invariant.keeps c.read_param-in-params.ensures.keeps

pub returns-in_err-push-2-clause-keeps : goal.returns-in_err-push-2-clause-keeps
returns-in_err-push-2-clause-keeps c = KeepsRows-trans _ _ _ c.params.invariant.keeps c.read_param-in-params.ensures.keeps

pub returns-clause-keeps : goal.returns-clause-keeps
returns-clause-keeps c = c.params.invariant.keeps

pub returns-clause-no_deeper : goal.returns-clause-no_deeper
returns-clause-no_deeper c = c.params.invariant.no_deeper

pub returns-clause-belong : goal.returns-clause-belong
returns-clause-belong c = c.params.invariant.read.belong

pub returns-clause-fewer : goal.returns-clause-fewer
returns-clause-fewer c = c.params.invariant.fewer

pub params-smaller : goal.params-smaller
params-smaller c = omega (arith, next_lt_at t.ParenL c.params.cursor refl (sym c.params-test.ensures), c.in_ok-read_param-2.ensures.fewer)
