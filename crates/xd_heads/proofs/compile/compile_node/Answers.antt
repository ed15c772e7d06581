use Rattle.std.proofs.Common.{[], ◌≤◌, arith, length, sym, subst}
use Rattle.xd_meaning.specs.Heads.{pieces}
use Rattle.xd_syntax.specs.Table.{tree_at}
use Rattle.xd_syntax.specs.TypeDepth.{depth}
use Rattle.xd_syntax.specs.Shallow.{nesting_limit}
use Rattle.xd_heads.specs.Compiled.{IsOfState, AreCompiled, AreSorted}
use Rattle.xd_heads.specs.Sorts.{rows_of}
use Rattle.xd_continuations.proofs.MoveLemmas.{pieces_stand, seq_of-pieces}
use Rattle.xd_heads.proofs.AddingMoves.{type_started, type_states, type_bounded, type_compiled, type_continues, type_accepts}
use Rattle.xd_heads.proofs.AreSortedLemmas.{sorted_more}
use Rattle.xd_heads.proofs.SparesLemmas.{spares_both}
use Rattle.xd_heads.proofs.compile.compile_node.Goals as goal

pub compile-requires-clause-compiled : goal.compile-requires-clause-compiled
compile-requires-clause-compiled c =
    let types = c.args.sources.now.types.now in
    let T = tree_at types c.args.part.at in
    let good : IsOfState types (pieces T) = (pieces_stand T c.requires.merged_part, λ s. subst (λ U. depth U ≤ nesting_limit) (sym (seq_of-pieces T c.requires.merged_part)) (s c.args.part.at c.requires.part)) in
    subst (λ n. AreCompiled types c.args.sources.now.defs.now c.content.new.cells c.state_of.new.states c.state_of.new.auto n []) (sym c.len-first.ensures.count)
    (type_started types c.args.sources.now.defs.now c.args.made.now.cells c.content.new.cells c.args.made.now.states c.state_of.new.states c.args.auto.now c.state_of.new.auto (pieces (tree_at types c.args.part.at))
    c.in_ok-inside.inside c.in_ok-state.state good c.in_ok-inside.ensures.content c.in_ok-state.ensures.got c.requires.compiled)

pub compile-requires-clause-sorted : goal.compile-requires-clause-sorted
compile-requires-clause-sorted c =
    let types = c.args.sources.now.types.now in
    let ds = c.args.sources.now.defs.now in
    let added = type_states types ds c.args.made.now.cells c.content.new.cells c.args.made.now.states c.state_of.new.states c.args.auto.now c.state_of.new.auto (pieces (tree_at types c.args.part.at))
    c.in_ok-inside.inside c.in_ok-state.state c.in_ok-inside.ensures.content c.in_ok-state.ensures.got in
    subst (AreSorted types ds c.content.new.cells c.state_of.new.states (rows_of c.args.rows.now.items)) (sym c.len-first.ensures.count)
    (sorted_more types ds c.args.made.now.cells c.content.new.cells c.args.made.now.states c.state_of.new.states (rows_of c.args.rows.now.items) (length c.args.made.now.states)
    c.in_ok-inside.ensures.content.cells.kept added c.requires.compiled.numbers (omega arith) c.requires.sorted)

pub compile-requires-clause-bounded : goal.compile-requires-clause-bounded
compile-requires-clause-bounded c =
    type_bounded c.args.sources.now.types.now c.args.sources.now.defs.now c.args.made.now.cells c.content.new.cells c.args.part.at c.in_ok-inside.inside c.requires.part c.in_ok-inside.ensures.content
    c.requires.tail c.requires.stand c.requires.bounded

pub returns-clause-continuation : goal.returns-clause-continuation
returns-clause-continuation c =
    type_continues c.args.sources.now.types.now c.args.sources.now.defs.now c.args.made.now.cells c.content.new.cells c.compile.new.made.cells c.args.made.now.states c.state_of.new.states c.compile.new.made.states
    c.args.auto.now c.state_of.new.auto c.compile.new.auto (pieces (tree_at c.args.sources.now.types.now c.args.part.at)) c.in_ok-inside.inside c.in_ok-state.state
    c.in_ok-inside.ensures.content c.in_ok-state.ensures.got c.in_ok-compile.ensures.compiled

pub returns-clause-accepts : goal.returns-clause-accepts
returns-clause-accepts c d =
    type_accepts c.args.sources.now.types.now c.args.sources.now.defs.now c.requires.guarded c.requires.merged c.compile.new.made.cells c.compile.new.made.states c.content.new.cells c.state_of.new.states
    c.compile.new.auto c.args.part.at c.in_ok-state.state c.requires.merged_part c.in_ok-compile.ensures.compiled
    (type_continues c.args.sources.now.types.now c.args.sources.now.defs.now c.args.made.now.cells c.content.new.cells c.compile.new.made.cells c.args.made.now.states c.state_of.new.states c.compile.new.made.states
    c.args.auto.now c.state_of.new.auto c.compile.new.auto (pieces (tree_at c.args.sources.now.types.now c.args.part.at)) c.in_ok-inside.inside c.in_ok-state.state
    c.in_ok-inside.ensures.content c.in_ok-state.ensures.got c.in_ok-compile.ensures.compiled) d

pub returns-clause-compiled : goal.returns-clause-compiled
returns-clause-compiled c =
    type_compiled c.args.sources.now.types.now c.args.sources.now.defs.now c.args.made.now.cells c.content.new.cells c.compile.new.made.cells c.args.made.now.states c.state_of.new.states c.compile.new.made.states
    c.args.auto.now c.state_of.new.auto c.compile.new.auto c.args.part.at c.in_ok-inside.inside c.in_ok-state.state c.requires.part c.in_ok-inside.ensures.content c.in_ok-state.ensures.got
    c.in_ok-compile.ensures.compiled

pub returns-in_err-compile-clause-spares : goal.returns-in_err-compile-clause-spares
returns-in_err-compile-clause-spares c =
    let n = c.len-first.ensures.count in
    let al = c.requires.compiled.aligned in
    spares_both (length c.args.auto.now) c.len-first.result c.args.auto.now c.state_of.new.auto c.compile.new.auto (omega arith) c.state_of.ensures.spares c.compile.ensures.spares

pub returns-clause-spares : goal.returns-clause-spares
returns-clause-spares c =
    let n = c.len-first.ensures.count in
    let al = c.requires.compiled.aligned in
    spares_both (length c.args.auto.now) c.len-first.result c.args.auto.now c.state_of.new.auto c.compile.new.auto (omega arith) c.state_of.ensures.spares c.compile.ensures.spares
