use Rattle.std.proofs.Common.{Some, ap, sym, subst, ◌∙◌}
use Rattle.xd_proof_make.specs.Made.{UsesDefined}
use Rattle.xd_syntax.specs.Types.{tree}
use Rattle.xd_calls_proofs.proofs.KnownLemmas.{stays_known}
use Rattle.xd_calls_proofs.proofs.states.both_states.Goals as goal

pub compile_type-requires-clause-belongs : goal.compile_type-requires-clause-belongs
compile_type-requires-clause-belongs c = c.requires.left.belongs

pub compile_type-requires-2-clause-belongs : goal.compile_type-requires-2-clause-belongs
compile_type-requires-2-clause-belongs c =
    (stays_known c.args.sound.now c.compile_type.new.sound c.args.right c.in_ok-one.ensures.adds c.in_ok-one.ensures.same c.requires.right).belongs

pub returns-clause-left : goal.returns-clause-left
returns-clause-left c =
    let e = c.in_ok-other.ensures in
    let o = c.in_ok-one.ensures in
    let T = tree c.args.sound.now.types c.args.left in
    record {
      state = e.extends.states c.in_ok-one.one o.state;
      T = T;
      continuation = e.owners.types c.in_ok-one.one T o.continuation;
      names = subst (λ P. UsesDefined P T) (sym (e.same ∙ o.same)) c.requires.left.names;
    }

pub returns-clause-right : goal.returns-clause-right
returns-clause-right c =
    let e = c.in_ok-other.ensures in
    let o = c.in_ok-one.ensures in
    let mid = c.compile_type.new.sound in
    let T = tree mid.types c.args.right in
    let k = stays_known c.args.sound.now mid c.args.right o.adds o.same c.requires.right in
    record {
      state = e.state;
      T = T;
      continuation = e.continuation;
      names = subst (λ P. UsesDefined P T) (sym e.same) k.names;
    }

pub returns-clause-shallow : goal.returns-clause-shallow
returns-clause-shallow c h = c.in_ok-other.ensures.shallow (c.in_ok-one.ensures.shallow h)

pub returns-in_err-other-clause-shallow : goal.returns-in_err-other-clause-shallow
returns-in_err-other-clause-shallow c h = c.in_err-other.ensures.shallow (c.in_ok-one.ensures.shallow h)
