use Rattle.std.proofs.Common.{cond, ap, sym, ◌∙◌}
use Rattle.xd_meaning.specs.CanBeEmpty.{can_be_empty}
use Rattle.xd_syntax.specs.Table.{tree_at}
use Rattle.xd_sound.specs.TypeNames.{meanings}
use Rattle.xd_moves.specs.Pieces.{turns_of}
use Rattle.xd_moves.proofs.WorkedTaskLemmas.{plus_empty}
use Rattle.xd_moves.proofs.expansion.is_empty.Goals as goal

pub returns-then-is_plus : goal.returns-then-is_plus
returns-then-is_plus c =
    let E = meanings c.args.sources.now.types.now c.args.sources.now.defs.now in
    let T = tree_at c.args.sources.now.types.now c.args.piece.node in
    sym (ap (λ b. can_be_empty E (cond b (turns_of T) T)) c.if-piece.true ∙ plus_empty E T (sym c.if-is_plus.ensures))
