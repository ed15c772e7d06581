use Rattle.std.proofs.Common.{◌≡◌, ◌+◌, ◌-◌, ◌<◌, ℕ, length, arith, ap, sym, subst, ◌∙◌, Some}
use Rattle.xd_doc.proofs.Options.{none_from}
use Rattle.xd_continuations.specs.Bounds.{longest}
use Rattle.xd_moves.specs.Cells.{room}
use Rattle.xd_sound.specs.TypeNames.{meanings}
use Rattle.xd_heads.specs.Compiled.{AreSorted}
use Rattle.xd_heads.specs.Sorts.{rows_of}
use Rattle.xd_heads.specs.States.{nodes_in, number_at}
use Rattle.xd_heads.proofs.StateLemmas.{states_few, number_below, number_within, number_none}
use Rattle.xd_heads.proofs.AddingMoves.{compiling_none, compiling_more, all_compiled}
use Rattle.xd_heads.proofs.AreSortedLemmas.{rows_push, sorted_then}
use Rattle.xd_heads.proofs.SparesLemmas.{spares_then}
use Rattle.xd_heads.proofs.compile.compile.Goals as goal

less_left : (n room : ℕ) → n < room → room - (n + 1) < room - n
less_left n room h = omega arith

pub loop-number-smaller : goal.loop-number-smaller
loop-number-smaller c =
    let types = c.args.sources.now.types.now in
    let E = meanings types c.args.sources.now.defs.now in
    let i = c.loop-number.invariant.compiling in
    let few = states_few E (nodes_in types) types c.loop-number.made.cells c.loop-number.made.states c.len-count.ensures.links (i.cells_added.nodes c.requires.nodes)
    (i.bounded c.requires.tail c.requires.stand c.requires.bounded) c.len-states.ensures.once i.compiled.numbers in
    let h = number_within c.loop-number.made.states c.loop-number.done c.in-Some.number (sym c.continuation.ensures ∙ c.in-Some.is) in
    less_left c.loop-number.done (room (length types) (longest E (nodes_in types))) (omega arith)

pub loop-number-preserved : goal.loop-number-preserved
loop-number-preserved c =
    let types = c.args.sources.now.types.now in
    let ds = c.args.sources.now.defs.now in
    let i = c.loop-number.invariant.compiling in
    let a = c.in_ok-sorts.ensures.moves in
    let e : number_at c.loop-number.made.states c.loop-number.done ≡ Some c.in-Some.number = sym c.continuation.ensures ∙ c.in-Some.is in
    let n = number_below (length c.loop-number.made.cells) c.loop-number.made.states c.loop-number.done c.in-Some.number i.compiled.numbers e in
    record {
      compiling = compiling_more types ds c.args.made.now.cells c.loop-number.made.cells c.add_moves.new.made.cells c.args.made.now.states c.loop-number.made.states c.add_moves.new.made.states
          c.args.first c.args.auto.now c.loop-number.auto' c.add_moves.new.auto c.state-from.result c.loop-number.done c.in-Some.number c.requires.merged c.requires.stand c.state-from.ensures.number e
          i a c.add_moves.ensures.spares n;
      sorted = subst (λ rows. AreSorted types ds c.add_moves.new.made.cells c.add_moves.new.made.states rows (c.loop-number.done + 1))
          (sym (ap rows_of c.in_ok-push.ensures.items ∙ rows_push c.loop-number.rows.items c.in_ok-sorts.sorts))
          (sorted_then types ds c.loop-number.made.cells c.add_moves.new.made.cells c.loop-number.made.states c.add_moves.new.made.states (rows_of c.loop-number.rows.items) c.in_ok-sorts.sorts.items
          c.loop-number.done c.in-Some.number a.cells_added.kept a.states_added i.compiled.numbers e c.in_ok-sorts.ensures.sorts c.loop-number.invariant.sorted);
    }

pub returns-clause-compiled : goal.returns-clause-compiled
returns-clause-compiled c =
    let e = sym c.continuation.ensures ∙ none_from c.continuation.result c.in_default.not-Some in
    all_compiled c.args.sources.now.types.now c.args.sources.now.defs.now c.args.made.now.cells c.loop-number.made.cells c.args.made.now.states c.loop-number.made.states c.args.first c.args.auto.now c.loop-number.auto' c.loop-number.done
    (number_none c.loop-number.made.states c.loop-number.done e) c.loop-number.invariant.compiling

pub returns-clause-sorted : goal.returns-clause-sorted
returns-clause-sorted c =
    let i = c.loop-number.invariant.compiling in
    let e = sym c.continuation.ensures ∙ none_from c.continuation.result c.in_default.not-Some in
    let l = number_none c.loop-number.made.states c.loop-number.done e in
    let w = i.within in
    let same : c.loop-number.done ≡ length c.loop-number.made.states = omega arith in
    subst (AreSorted c.args.sources.now.types.now c.args.sources.now.defs.now c.loop-number.made.cells c.loop-number.made.states (rows_of c.loop-number.rows.items)) same c.loop-number.invariant.sorted

pub loop-number-init : goal.loop-number-init
loop-number-init c = record {
  compiling = compiling_none c.args.sources.now.types.now c.args.sources.now.defs.now c.args.made.now.cells c.args.made.now.states c.args.auto.now c.args.first c.requires.first c.requires.compiled;
  sorted = c.requires.sorted;
}

pub returns-in_err-sorts-clause-spares : goal.returns-in_err-sorts-clause-spares
returns-in_err-sorts-clause-spares c =
    let i = c.loop-number.invariant.compiling in
    let w = i.within in
    let b = i.later in
    let al = i.compiled.aligned in
    let f = c.state-from.ensures.number in
    spares_then c.args.first c.state-from.result c.args.auto.now c.loop-number.auto' c.add_moves.new.auto (omega arith) (omega arith) i.spares c.add_moves.ensures.spares

pub returns-in_err-push-clause-spares : goal.returns-in_err-push-clause-spares
returns-in_err-push-clause-spares c =
    let i = c.loop-number.invariant.compiling in
    let w = i.within in
    let b = i.later in
    let al = i.compiled.aligned in
    let f = c.state-from.ensures.number in
    spares_then c.args.first c.state-from.result c.args.auto.now c.loop-number.auto' c.add_moves.new.auto (omega arith) (omega arith) i.spares c.add_moves.ensures.spares

pub returns-clause-spares : goal.returns-clause-spares
returns-clause-spares c = c.loop-number.invariant.compiling.spares
