use Rattle.std.proofs.Common.{ℕ, zero, suc, ◌≡◌, ◌+◌, ◌<◌, ◌≤◌, List, [], ◌∷◌, length, length-append, get_or, Some, arith, refl, ap, sym, subst, ◌∙◌}
use Rattle.std.specs.List.{AllByRecursion, slice_get}
use Rattle.xd_patterns.specs.Compiling.{IsCompiling, rows_in}
use Rattle.xd_patterns.specs.declared.compile.StateMarks.{StateMarks}
use Rattle.xd_patterns.proofs.CompileLemmas.{compiling_none, compiling_more, numbered}
use Rattle.xd_patterns.proofs.SparesLemmas.{spares_none, spares_then}
use Rattle.xd_patterns.specs.Sources.{names_in, tables}
use Rattle.xd_patterns.proofs.compile.compile_into.Goals as goal

pub loop-done-init : goal.loop-done-init
loop-done-init c =
    let t = tables c.args.sources.now in
    let E = names_in c.args.sources.now in (
      subst (λ (rs : List StateMarks). IsCompiling E t c.args.marks.now c.args.marks.now c.args.lists.now.cells c.args.lists.now.cells c.args.base c.args.lists.now.states.keys c.args.lists.now.states.keys c.args.auto.now c.args.auto.now 0 (rows_in rs)) (sym c.requires.none)
          (compiling_none E t c.args.marks.now c.args.lists.now.cells c.args.base c.args.lists.now.states.keys c.args.auto.now c.requires.lists.pieces c.requires.lists.numbers c.requires.lists.count c.requires.fresh),
      omega arith,
      spares_none c.args.base c.args.auto.now,
    )

pub add_moves-requires-clause-lists : goal.add_moves-requires-clause-lists
add_moves-requires-clause-lists c =
    let i = c.loop-done.invariant.0 in record { count = i.count; pieces = i.pieces; numbers = i.bounded }

pub add_moves-requires-clause-fresh : goal.add_moves-requires-clause-fresh
add_moves-requires-clause-fresh c = let n = c.state-from.ensures.number in c.loop-done.invariant.0.fresh c.state-from.result (omega arith)

pub add_moves-requires-clause-target : goal.add_moves-requires-clause-target
add_moves-requires-clause-target c =
    let n = c.state-from.ensures.number in
    let count = c.loop-done.invariant.0.count in
    let test = c.if-done-len.false in
    let long = c.len.ensures.len in record { from = omega arith; after = omega arith }

pub loop-done-preserved : goal.loop-done-preserved
loop-done-preserved c =
    let t = tables c.args.sources.now in
    let E = names_in c.args.sources.now in
    let i = c.loop-done.invariant.0 in
    let done = c.loop-done.done in
    let states = c.loop-done.lists.states.keys in
    let test = c.if-done-len.false in
    let long = c.len.ensures.len in
    let room : done < length states = omega arith in
    let r : StateMarks = c.in_ok-made.made in
    let there = subst (λ xs. slice_get states done ≡ Some (get_or xs done 0)) (sym c.as_slice.ensures.keys) (numbered states done 0 room) in
    let k = c.in_ok-made.ensures.made in
    let l : length c.add_moves.new.lists.states.keys ≡ length states + length k.grows.more = ap length k.grows.grown ∙ length-append states k.grows.more in (
      compiling_more E t c.args.marks.now c.loop-done.marks c.add_moves.new.marks c.args.lists.now.cells c.loop-done.lists.cells c.add_moves.new.lists.cells c.args.base (get_or c.as_slice.result.now done 0) c.args.lists.now.states.keys states c.add_moves.new.lists.states.keys
          c.args.auto.now c.loop-done.auto' c.add_moves.new.auto c.state-from.result done c.loop-done.table.items r i c.state-from.ensures.number there room k c.push.new.self.items c.in_ok-push.ensures.items (done + 1) refl,
      omega arith,
      spares_then c.args.base c.args.auto.now c.loop-done.auto' c.add_moves.new.auto c.loop-done.invariant.2 c.in_ok-made.ensures.spares,
    )

pub returns-in_err-made-clause-spares : goal.returns-in_err-made-clause-spares
returns-in_err-made-clause-spares c = spares_then c.args.base c.args.auto.now c.loop-done.auto' c.add_moves.new.auto c.loop-done.invariant.2 c.add_moves.ensures.spares

pub returns-in_err-push-clause-spares : goal.returns-in_err-push-clause-spares
returns-in_err-push-clause-spares c = spares_then c.args.base c.args.auto.now c.loop-done.auto' c.add_moves.new.auto c.loop-done.invariant.2 c.in_ok-made.ensures.spares

pub returns-then-done-len-clause-made : goal.returns-then-done-len-clause-made
returns-then-done-len-clause-made c =
    let t = tables c.args.sources.now in
    let all : c.loop-done.done ≡ length c.loop-done.lists.states.keys = omega (arith, c.loop-done.invariant.1, c.if-done-len.true, c.len.ensures.len) in
    subst (λ (n : ℕ). IsCompiling (names_in c.args.sources.now) t c.args.marks.now c.loop-done.marks c.args.lists.now.cells c.loop-done.lists.cells c.args.base c.args.lists.now.states.keys c.loop-done.lists.states.keys c.args.auto.now c.loop-done.auto' n (rows_in c.loop-done.table.items))
    all c.loop-done.invariant.0

within_at : (m : ℕ) (ns : List ℕ) (i : ℕ) → i < length ns → AllByRecursion (λ n. n ≤ m) ns → get_or ns i 0 ≤ m
within_at m [] i h a = absurd (omega arith)
within_at m (n ∷ ns) zero h a = a.0
within_at m (n ∷ ns) (suc i) h a = within_at m ns i (omega arith) a.1

pub add_moves-requires-clause-number : goal.add_moves-requires-clause-number
add_moves-requires-clause-number c =
    rw c.as_slice.ensures.keys
    (within_at (length c.loop-done.lists.cells) c.loop-done.lists.states.keys c.loop-done.done (omega (arith, c.loop-done.invariant.1, c.if-done-len.false, c.len.ensures.len)) c.loop-done.invariant.0.bounded)
