use Rattle.std.proofs.Common.{ℕ, [], ◌∷◌, ap, sym, subst, ◌∙◌}
use Rattle.std.specs.List.{AllByRecursion}
use Rattle.xd_auto.specs.declared.auto.State.{State}
use Rattle.xd_meaning.specs.Bindings.{variables_of}
use Rattle.xd_meaning.specs.KeptFaults.{AllPaired}
use Rattle.xd_syntax.specs.Patterns.{pattern_tree}
use Rattle.xd_syntax.specs.Words.{has_word}
use Rattle.xd_patterns.specs.Compiling.{marking, rows_in}
use Rattle.xd_patterns.specs.Held.{marking_in}
use Rattle.xd_patterns.specs.Marked.{Marking, IsCompiled}
use Rattle.xd_patterns.specs.Starting.{CanStart, IsPieceState, pattern_piece}
use Rattle.xd_patterns.specs.CompiledProgram.{AreWithin}
use Rattle.xd_patterns.specs.declared.mark_table.MarkTable.{MarkTable}
use Rattle.xd_patterns.proofs.MarksLaw.{kept_is_compiled, table_keeps}
use Rattle.xd_patterns.proofs.Pairing.{paired_one}
use Rattle.xd_patterns.proofs.Starting.{can_start_pattern}
use Rattle.xd_patterns.specs.Sources.{names_in, tables}
use Rattle.xd_patterns.proofs.marked.compile_marked.Goals as goal

pub compile_pieces-requires-clause-pieces : goal.compile_pieces-requires-clause-pieces
compile_pieces-requires-clause-pieces c =
    let t = tables c.args.sources.now in
    subst (λ q. AllByRecursion (CanStart t) (q ∷ [])) (sym c.piece_of_pattern-piece.ensures)
    (can_start_pattern t c.args.pattern (record { there = c.requires.pattern; linear = c.requires.linear }), tt)

pub returns-clause-compiled : goal.returns-clause-compiled
returns-clause-compiled c =
    let t = tables c.args.sources.now in
    let E = names_in c.args.sources.now in
    let P = pattern_tree c.args.sources.now.patterns.now c.args.pattern in
    let a = c.compile_pieces.new.auto in
    let m = c.compile_pieces.new.marks in
    let base = c.len-base.result in
    let rows = rows_in c.in_ok-starts.rows.items in
    let vs = c.in_ok-words.words.keys in
    let start : State = c.index.result.now in
    let starts = c.in_ok-starts.starts.items in
    let q = pattern_piece c.args.pattern in
    let moves : MarkTable = record { words = c.in_ok-words.words; base = base; rows = c.in_ok-starts.rows; lists = c.in_ok-lists.lists } in
    let k : Marking = marking t m base rows in
    let within : AreWithin vs (variables_of P) = λ x h. ap (λ ws. has_word ws x) c.in_ok-words.ensures ∙ h in
    let states : AllPaired (IsPieceState E t a k) (q ∷ []) starts =
    subst (λ p. AllPaired (IsPieceState E t a k) (p ∷ []) starts) c.piece_of_pattern-piece.ensures
    (subst (λ (b : ℕ). AllPaired (IsPieceState E t a (marking t m b rows)) (c.piece_of_pattern-piece.result ∷ []) starts) (sym c.len-base.ensures.value) c.in_ok-starts.ensures.states) in
    let one = paired_one (IsPieceState E t a k) q starts start states in
    kept_is_compiled E P a k (marking_in moves) start vs within (table_keeps t m moves c.in_ok-lists.ensures) (subst (λ s. IsCompiled E P a k s) (sym c.index.ensures) one.compiled)
