use Rattle.std.proofs.Common.{ap, map, ◌<◌, ℕ, zero, suc, List, [], ◌∷◌, length, take, get_or, arith, refl, sym, subst, ◌∙◌}
use Rattle.std.specs.List.{AllByRecursion}
use Rattle.std.proofs.lemmas.List.{take_more, take_all}
use Rattle.xd_syntax.specs.Table.{Row}
use Rattle.xd_moves.specs.Found.{IsFound}
use Rattle.xd_continuations.specs.Chains.{KeepsLinks}
use Rattle.xd_moves.specs.Cells.{Cell}
use Rattle.xd_moves.specs.declared.expansion.Found.{Found}
use Rattle.xd_continuations.proofs.ChainLemmas.{kept_length}
use Rattle.xd_heads.proofs.SparesLemmas.{others_same, others_then}
use Rattle.xd_doc.proofs.Lists.{all_more}
use Rattle.xd_continuations.specs.Continuation.{head_of}
use Rattle.xd_heads.specs.Compiled.{is_on_text}
use Rattle.xd_heads.specs.Sorts.{sorts_of}
use Rattle.xd_heads.proofs.AreSortedLemmas.{found_sorts}
use Rattle.xd_heads.proofs.AddingMoves.{IsAdding, adding_none, adding_more, moves_added}
use Rattle.xd_heads.proofs.compile.add_moves.Goals as goal

no_move : Found
no_move = record { node = 0; rest = 0 }

found_at : (types : List Row) (cells : List Cell) (fs : List Found) (i : ℕ) (d : Found) → AllByRecursion (IsFound types cells) fs → i < length fs → IsFound types cells (get_or fs i d)
found_at types cells [] i d a h = absurd (omega arith)
found_at types cells (f ∷ fs) zero d a h = a.0
found_at types cells (f ∷ fs) (suc i) d a h = found_at types cells fs i d a.1 (omega arith)

still_found : (types : List Row) (old new : List Cell) (f : Found) → KeepsLinks old new → IsFound types old f → IsFound types new f
still_found types old new f k i = (i.0, (let l = kept_length old new k in let h = i.1 in omega arith))

pub loop-one-init : goal.loop-one-init
loop-one-init c = (
  adding_none c.args.sources.now.types.now c.args.sources.now.defs.now c.expand.new.cells c.args.made.now.states c.args.auto.now c.args.from c.requires.aligned,
  others_same c.args.from c.args.auto.now c.args.auto.now refl,
)

pub add_move-requires-clause-nodes : goal.add_move-requires-clause-nodes
add_move-requires-clause-nodes c = c.loop-one.invariant.0.adds.cells_added.nodes (c.in_ok-found.ensures.moves.cells.nodes c.requires.nodes)

pub add_move-requires-clause-found : goal.add_move-requires-clause-found
unfolding no_move
add_move-requires-clause-found c =
    let types = c.args.sources.now.types.now in
    let stand = subst (AllByRecursion (IsFound types c.expand.new.cells)) (sym c.deref-one-items.ensures.value) c.in_ok-found.ensures.moves.stand in
    still_found types c.expand.new.cells c.loop-one.made.cells (get_or c.deref-one-items.result.now c.loop-one.one-index no_move) c.loop-one.invariant.0.adds.cells_added.kept
    (found_at types c.expand.new.cells c.deref-one-items.result.now c.loop-one.one-index no_move stand c.loop-one-test.true)

pub add_move-requires-clause-from : goal.add_move-requires-clause-from
add_move-requires-clause-from c = let l = c.loop-one.invariant.0.longer in let f = c.requires.from in omega arith

pub add_move-requires-clause-aligned : goal.add_move-requires-clause-aligned
add_move-requires-clause-aligned c = c.loop-one.invariant.0.adds.aligned

pub loop-one-preserved : goal.loop-one-preserved
unfolding no_move
loop-one-preserved c =
    let types = c.args.sources.now.types.now in
    let fs = c.deref-one-items.result.now in
    let i = c.loop-one.one-index in
    let stand = subst (AllByRecursion (IsFound types c.expand.new.cells)) (sym c.deref-one-items.ensures.value) c.in_ok-found.ensures.moves.stand in (
      subst (IsAdding types c.args.sources.now.defs.now c.expand.new.cells c.add_move.new.made.cells c.args.made.now.states c.add_move.new.made.states c.args.auto.now c.add_move.new.auto c.args.from) (sym (take_more fs i no_move c.loop-one-test.true))
          (adding_more types c.args.sources.now.defs.now c.expand.new.cells c.loop-one.made.cells c.add_move.new.made.cells c.args.made.now.states c.loop-one.made.states c.add_move.new.made.states
          c.args.auto.now c.loop-one.auto' c.add_move.new.auto c.args.from (take i fs) (get_or fs i no_move)
          (found_at types c.expand.new.cells fs i no_move stand c.loop-one-test.true) c.loop-one.invariant.0 c.in_ok-add_move.ensures.moves),
      others_then c.args.from c.args.auto.now c.loop-one.auto' c.add_move.new.auto c.loop-one.invariant.1 c.add_move.ensures.spares,
    )

pub returns-in_err-add_move-clause-spares : goal.returns-in_err-add_move-clause-spares
returns-in_err-add_move-clause-spares c =
    others_then c.args.from c.args.auto.now c.loop-one.auto' c.add_move.new.auto c.loop-one.invariant.1 c.add_move.ensures.spares

pub returns-clause-moves : goal.returns-clause-moves
returns-clause-moves c =
    let types = c.args.sources.now.types.now in
    let t = c.loop-one-test.false in
    let e = take_all c.loop-one.one-index c.deref-one-items.result.now t ∙ c.deref-one-items.ensures.value in
    moves_added types c.args.sources.now.defs.now c.args.made.now.cells c.expand.new.cells c.loop-one.made.cells c.args.made.now.states c.loop-one.made.states c.args.auto.now c.loop-one.auto' c.args.from c.args.number
    c.in_ok-found.found.items c.requires.number c.in_ok-found.ensures.moves
    (subst (IsAdding types c.args.sources.now.defs.now c.expand.new.cells c.loop-one.made.cells c.args.made.now.states c.loop-one.made.states c.args.auto.now c.loop-one.auto' c.args.from) e c.loop-one.invariant.0) c.requires.from

pub sorts_of-requires : goal.sorts_of-requires
sorts_of-requires c =
    all_more (IsFound c.args.sources.now.types.now c.expand.new.cells) (λ (f : Found). f.node < length c.args.sources.now.types.now) c.deref.result.now (λ f i. i.0)
    (subst (AllByRecursion (IsFound c.args.sources.now.types.now c.expand.new.cells)) (sym c.deref.ensures.value) c.in_ok-found.ensures.moves.stand)

pub returns-clause-sorts : goal.returns-clause-sorts
returns-clause-sorts c =
    let types = c.args.sources.now.types.now in
    c.in_ok-sorts.ensures ∙ ap (map (is_on_text types)) c.deref.ensures.value ∙ found_sorts types c.expand.new.cells c.in_ok-found.found.items
    ∙ ap (λ ms. sorts_of (map head_of ms)) c.in_ok-found.ensures.moves.same
