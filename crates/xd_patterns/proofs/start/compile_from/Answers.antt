use Rattle.std.proofs.Common.{ℕ, sym, subst}
use Rattle.xd_meaning.specs.KeptFaults.{AllPaired}
use Rattle.xd_patterns.specs.Compiling.{marking, rows_in}
use Rattle.xd_patterns.specs.Starting.{IsPieceState}
use Rattle.xd_patterns.specs.Tasks.{AreBinders}
use Rattle.xd_patterns.proofs.SparesLemmas.{spares_then, extends_from, keeps_from}
use Rattle.xd_patterns.proofs.Starting.{are_pieces, fresh_from, starts_compiled}
use Rattle.xd_patterns.specs.Sources.{names_in, tables}
use Rattle.xd_patterns.proofs.start.compile_from.Goals as goal

pub returns-in_err-starts-clause-extends : goal.returns-in_err-starts-clause-extends
returns-in_err-starts-clause-extends c = extends_from c.len-base.result c.args.auto.now c.add_starts.new.auto c.len-base.ensures.value c.add_starts.ensures.spares

pub returns-in_err-starts-clause-keeps : goal.returns-in_err-starts-clause-keeps
returns-in_err-starts-clause-keeps c = keeps_from c.len-base.result c.args.auto.now c.add_starts.new.auto c.len-base.ensures.value c.len-base.ensures.closed c.add_starts.ensures.spares

pub returns-in_err-table-clause-extends : goal.returns-in_err-table-clause-extends
returns-in_err-table-clause-extends c = extends_from c.len-base.result c.args.auto.now c.compile.new.auto c.len-base.ensures.value (spares_then c.len-base.result c.args.auto.now c.add_starts.new.auto c.compile.new.auto c.in_ok-starts.ensures.spares c.compile.ensures.spares)

pub returns-in_err-table-clause-keeps : goal.returns-in_err-table-clause-keeps
returns-in_err-table-clause-keeps c = keeps_from c.len-base.result c.args.auto.now c.compile.new.auto c.len-base.ensures.value c.len-base.ensures.closed (spares_then c.len-base.result c.args.auto.now c.add_starts.new.auto c.compile.new.auto c.in_ok-starts.ensures.spares c.compile.ensures.spares)

pub returns-clause-extends : goal.returns-clause-extends
returns-clause-extends c = extends_from c.len-base.result c.args.auto.now c.compile.new.auto c.len-base.ensures.value (spares_then c.len-base.result c.args.auto.now c.add_starts.new.auto c.compile.new.auto c.in_ok-starts.ensures.spares c.in_ok-table.ensures.spares)

pub returns-clause-keeps : goal.returns-clause-keeps
returns-clause-keeps c = keeps_from c.len-base.result c.args.auto.now c.compile.new.auto c.len-base.ensures.value c.len-base.ensures.closed (spares_then c.len-base.result c.args.auto.now c.add_starts.new.auto c.compile.new.auto c.in_ok-starts.ensures.spares c.in_ok-table.ensures.spares)

pub returns-clause-binders : goal.returns-clause-binders
returns-clause-binders c =
    let t = tables c.args.sources.now in
    c.in_ok-table.ensures.made.adds.binders (subst (AreBinders t) (sym c.requires.fresh) tt)

pub compile-requires-clause-lists : goal.compile-requires-clause-lists
compile-requires-clause-lists c =
    let t = tables c.args.sources.now in
    let s = c.in_ok-starts.ensures.starts in
    record { count = s.adds.count; pieces = s.pieces t c.args.marks.now (are_pieces t c.args.marks.now c.args.pieces.now c.requires.pieces); numbers = s.bounded }

pub compile-requires-clause-fresh : goal.compile-requires-clause-fresh
compile-requires-clause-fresh c = fresh_from c.len-base.result c.args.auto.now c.add_starts.new.auto c.len-base.ensures.value c.in_ok-starts.ensures.starts.adds.moves

pub returns-clause-states : goal.returns-clause-states
returns-clause-states c =
    let t = tables c.args.sources.now in
    let E = names_in c.args.sources.now in
    let rows = rows_in c.in_ok-table.table.items in
    let base = c.len-base.result in
    subst (λ (b : ℕ). AllPaired (IsPieceState E t c.compile.new.auto (marking t c.compile.new.marks b rows)) c.args.pieces.now c.in_ok-starts.starts.items) c.len-base.ensures.value
    (starts_compiled E c.requires.sound.guarded c.requires.sound.none t c.args.marks.now c.compile.new.marks c.add_starts.new.cells c.compile.new.lists.cells base c.add_starts.new.states.keys c.compile.new.lists.states.keys c.args.auto.now c.add_starts.new.auto
    c.compile.new.auto rows c.args.pieces.now c.in_ok-starts.starts.items c.requires.pieces c.in_ok-starts.ensures.starts c.in_ok-table.ensures.made)
