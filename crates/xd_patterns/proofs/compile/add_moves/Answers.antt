use Rattle.std.proofs.Common.{false, [], take, get_or, sym, subst, ◌∙◌}
use Rattle.std.proofs.lemmas.List.{take_more, take_all}
use Rattle.xd_patterns.specs.Tasks.{StandFound}
use Rattle.xd_patterns.specs.Compiling.{IsAdding}
use Rattle.xd_patterns.specs.declared.expand.Found.{Found}
use Rattle.xd_patterns.proofs.MoveLemmas.{adding_none, adding_more, makes, numbers_grow, found_at, still_found}
use Rattle.xd_patterns.proofs.SparesLemmas.{spares_none, spares_then}
use Rattle.xd_patterns.specs.Sources.{names_in, tables}
use Rattle.xd_patterns.proofs.compile.add_moves.Goals as goal

no_found : Found
no_found = record { is_stop = false; piece = record { of_pattern = false; node = 0; from = 0; is_turns = false; marks = 0 }; rest = 0 }

pub loop-one-init : goal.loop-one-init
loop-one-init c =
    let t = tables c.args.sources.now in
    let a = c.in_ok-found.ensures.adds in (
      subst (λ ts. IsAdding t c.expand.new.marks c.expand.new.cells c.expand.new.cells c.args.target.base c.args.lists.now.states.keys c.args.lists.now.states.keys c.args.auto.now c.args.auto.now c.args.target.from ts c.new-2.result.items []) (sym c.new.ensures.items)
          (subst (λ ls. IsAdding t c.expand.new.marks c.expand.new.cells c.expand.new.cells c.args.target.base c.args.lists.now.states.keys c.args.lists.now.states.keys c.args.auto.now c.args.auto.now c.args.target.from [] ls []) (sym c.new-2.ensures.items)
          (adding_none t c.expand.new.marks c.expand.new.cells c.args.target.base c.args.lists.now.states.keys c.args.auto.now c.args.target.from c.requires.lists.count (a.pieces c.requires.lists.pieces)
          (numbers_grow t c.args.marks.now c.expand.new.marks c.args.lists.now.cells c.expand.new.cells a c.args.lists.now.states.keys c.requires.lists.numbers) c.requires.fresh)),
      spares_none c.args.target.base c.args.auto.now,
    )

pub loop-one-preserved : goal.loop-one-preserved
unfolding no_found
loop-one-preserved c =
    let t = tables c.args.sources.now in
    let fs = c.as_slice-one-items.result.now in
    let i = c.loop-one.one-index in
    let a = c.in_ok-found.ensures.adds in
    let stand = subst (StandFound t c.expand.new.marks c.expand.new.cells) (sym c.as_slice-one-items.ensures.keys) c.in_ok-found.ensures.stand in (
      subst (IsAdding t c.expand.new.marks c.expand.new.cells c.add_move.new.lists.cells c.args.target.base c.args.lists.now.states.keys c.add_move.new.lists.states.keys c.args.auto.now c.add_move.new.auto c.args.target.from c.add_move.new.made.texts.items c.add_move.new.made.labels.items)
          (sym (take_more fs i no_found c.loop-one-test.true))
          (adding_more t c.expand.new.marks c.expand.new.cells c.args.target.base c.args.lists.now.states.keys c.args.auto.now c.args.target.from (a.pieces c.requires.lists.pieces) c.loop-one.lists.cells c.add_move.new.lists.cells c.loop-one.lists.states.keys c.add_move.new.lists.states.keys
          c.loop-one.auto' c.add_move.new.auto c.loop-one.made.texts.items c.add_move.new.made.texts.items c.loop-one.made.labels.items c.add_move.new.made.labels.items (take i fs) (get_or fs i no_found) c.loop-one.invariant.0
          (found_at t c.expand.new.marks c.expand.new.cells fs i no_found stand c.loop-one-test.true) c.in_ok-add_move.ensures.made),
      spares_then c.args.target.base c.args.auto.now c.loop-one.auto' c.add_move.new.auto c.loop-one.invariant.1 c.in_ok-add_move.ensures.spares,
    )

pub returns-clause-made : goal.returns-clause-made
returns-clause-made c =
    let t = tables c.args.sources.now in
    let test = c.loop-one-test.false in
    let e = take_all c.loop-one.one-index c.as_slice-one-items.result.now test ∙ c.as_slice-one-items.ensures.keys in
    makes (names_in c.args.sources.now) t c.args.marks.now c.expand.new.marks c.args.lists.now.cells c.expand.new.cells c.loop-one.lists.cells c.args.target.base c.args.number c.args.lists.now.states.keys c.loop-one.lists.states.keys
    c.args.auto.now c.loop-one.auto' c.args.target.from c.loop-one.made.texts.items c.loop-one.made.labels.items c.in_ok-found.found.keys c.requires.lists.numbers c.requires.lists.count c.in_ok-found.ensures
    (subst (IsAdding t c.expand.new.marks c.expand.new.cells c.loop-one.lists.cells c.args.target.base c.args.lists.now.states.keys c.loop-one.lists.states.keys c.args.auto.now c.loop-one.auto' c.args.target.from c.loop-one.made.texts.items c.loop-one.made.labels.items) e c.loop-one.invariant.0)

pub returns-in_err-add_move-clause-spares : goal.returns-in_err-add_move-clause-spares
returns-in_err-add_move-clause-spares c = spares_then c.args.target.base c.args.auto.now c.loop-one.auto' c.add_move.new.auto c.loop-one.invariant.1 c.add_move.ensures.spares

pub add_move-requires-clause-found : goal.add_move-requires-clause-found
unfolding no_found
add_move-requires-clause-found c =
    let t = tables c.args.sources.now in
    let fs = c.as_slice-one-items.result.now in
    let i = c.loop-one.one-index in
    let stand = subst (StandFound t c.expand.new.marks c.expand.new.cells) (sym c.as_slice-one-items.ensures.keys) c.in_ok-found.ensures.stand in
    still_found t c.expand.new.marks c.expand.new.cells c.loop-one.lists.cells c.loop-one.invariant.0.grows.adds.cells (get_or fs i no_found)
    (found_at t c.expand.new.marks c.expand.new.cells fs i no_found stand c.loop-one-test.true)

pub add_move-requires-clause-lists : goal.add_move-requires-clause-lists
add_move-requires-clause-lists c =
    let i = c.loop-one.invariant.0 in record { count = i.grows.count; pieces = i.pieces; numbers = i.bounded }

pub add_move-requires-clause-target : goal.add_move-requires-clause-target
add_move-requires-clause-target c = record { from = c.loop-one.invariant.1.states c.args.target.from c.requires.target.from; after = c.requires.target.after }
