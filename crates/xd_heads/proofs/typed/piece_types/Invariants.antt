use Rattle.xd_heads.proofs.TypeNumbersLemmas.{IsTyping}
use Rattle.xd_heads.proofs.typed.piece_types.Given as goal

abbrev pub invariant-loop-at : goal.invariant-loop-at
invariant-loop-at l = IsTyping l.fn.sound l.sound l.cells l.number l.at l.ids.items

abbrev pub decreases-loop-at : goal.decreases-loop-at
decreases-loop-at l = l.at
