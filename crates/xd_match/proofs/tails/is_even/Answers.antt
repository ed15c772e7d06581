use Rattle.std.proofs.Common.{length, subst}
use Rattle.xd_auto.specs.Automaton.{moves_at}
use Rattle.xd_auto.specs.Leading.{label_ends, text_ends}
use Rattle.xd_auto.specs.declared.kind.MoveKind.TheVariants.{Label, Text}
use Rattle.xd_patterns.specs.Held.{marking_of}
use Rattle.xd_match.specs.Tails.{AreEven}
use Rattle.xd_match.proofs.tails.is_even.Goals as goal

pub returns-then-has_even_moves : goal.returns-then-has_even_moves
returns-then-has_even_moves c e =
    let a = c.args.auto.now in
    let k = marking_of c.args.marked.now in
    let s = c.args.state in
    let moves = moves_at a s in
    record {
      texts = subst (λ own. AreEven text_ends Text a k own s moves.texts (length moves.texts)) c.tail_of-own.ensures (c.has_even_moves.ensures c.if-has_even_moves.true);
      labels = subst (λ own. AreEven label_ends Label a k own s moves.labels (length moves.labels)) c.tail_of-own.ensures (c.has_even_moves-then-has_even_moves.ensures e);
    }
