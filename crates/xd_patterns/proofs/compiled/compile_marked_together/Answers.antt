use Rattle.std.proofs.Common.{ℕ, arith, map, length, sym, subst, ◌∙◌}
use Rattle.std.specs.List.{AllByRecursion}
use Rattle.xd_auto.specs.declared.auto.State.{State}
use Rattle.xd_meaning.specs.KeptFaults.{AllPaired}
use Rattle.xd_patterns.specs.declared.chains.Piece.{Piece}
use Rattle.xd_patterns.specs.declared.mark_table.MarkTable.{MarkTable}
use Rattle.xd_patterns.specs.CompiledProgram.{AreWithin, IsPatternState, IsTypeState}
use Rattle.xd_patterns.specs.Compiling.{marking, rows_in}
use Rattle.xd_patterns.specs.Held.{marking_in}
use Rattle.xd_patterns.specs.Starting.{CanStart, IsPieceState, pattern_piece, type_piece}
use Rattle.xd_patterns.proofs.MarksLaw.{table_keeps}
use Rattle.xd_patterns.proofs.Pairing.{paired_room}
use Rattle.xd_patterns.proofs.Together.{all_start, pattern_states_of, type_states_of}
use Rattle.xd_patterns.specs.Sources.{names_in, tables}
use Rattle.xd_patterns.proofs.compiled.compile_marked_together.Goals as goal

pub compile_pieces-requires-clause-pieces : goal.compile_pieces-requires-clause-pieces
compile_pieces-requires-clause-pieces c =
    let t = tables c.args.sources.now in
    subst (AllByRecursion (CanStart t)) (sym (c.deref.ensures.value ∙ c.in_ok-pieces.ensures))
    (all_start t c.see_table.ensures c.args.type_ids.now c.args.pattern_ids.now c.requires.types c.requires.patterns)

pub split_off-requires : goal.split_off-requires
split_off-requires c =
    let t = tables c.args.sources.now in
    let E = names_in c.args.sources.now in
    let R : Piece → State → Type 0 = IsPieceState E t c.compile_pieces.new.auto (marking t c.compile_pieces.new.marks (length c.args.auto.now) (rows_in c.in_ok-starts.rows.items)) in
    let room = paired_room R type_piece c.args.type_ids.now (map pattern_piece c.args.pattern_ids.now) c.in_ok-starts.starts.items
    (subst (λ qs. AllPaired R qs c.in_ok-starts.starts.items) (c.deref.ensures.value ∙ c.in_ok-pieces.ensures) c.in_ok-starts.ensures.states) in
    omega (arith, room, c.in_ok-starts.starts.ok.0)

pub returns-clause-compiled : goal.returns-clause-compiled
returns-clause-compiled c =
    let t = tables c.args.sources.now in
    let E = names_in c.args.sources.now in
    let a = c.compile_pieces.new.auto in
    let ids = c.args.type_ids.now in
    let ps = c.args.pattern_ids.now in
    let starts = c.in_ok-starts.starts.items in
    let moves : MarkTable = record { words = c.in_ok-variables.words; base = c.len-base.result; rows = c.in_ok-starts.rows; lists = c.in_ok-lists.lists } in
    let k = λ (b : ℕ). marking t c.compile_pieces.new.marks b (rows_in c.in_ok-starts.rows.items) in
    let keeps = table_keeps t c.compile_pieces.new.marks moves c.in_ok-lists.ensures in
    let states =
    subst (λ qs. AllPaired (IsPieceState E t a (k c.len-base.result)) qs starts) (c.deref.ensures.value ∙ c.in_ok-pieces.ensures)
    (subst (λ (b : ℕ). AllPaired (IsPieceState E t a (k b)) c.deref.result.now starts) (sym c.len-base.ensures.value) c.in_ok-starts.ensures.states) in
    record {
      types =
          subst (AllPaired (IsTypeState E t.types a (marking_in moves)) ids) (sym c.in_ok-behind.ensures.items)
          (type_states_of E t a (k c.len-base.result) (marking_in moves) moves.words.keys keeps c.see_table.ensures ids (map pattern_piece ps) starts c.requires.types states);
      patterns =
          subst (AllPaired (IsPatternState E t.patterns a (marking_in moves)) ps) (sym c.in_ok-behind.ensures.tail)
          (pattern_states_of E t a (k c.len-base.result) (marking_in moves) moves.words.keys keeps ids ps starts c.in_ok-variables.ensures.all states);
      variables = c.in_ok-variables.ensures.each;
      words = subst (AllByRecursion (AreWithin moves.words.keys)) (sym c.in_ok-variables.ensures.each) c.in_ok-variables.ensures.all;
    }
