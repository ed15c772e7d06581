use Rattle.xd_type_text.proofs.Pieces.{opened_behind, mark_opened, popped, turn_written, turn_less}
use Rattle.xd_type_text.proofs.write.text_of.Goals as goal

pub loop-piece-smaller-in-Continue-branch-2 : goal.loop-piece-smaller-in-Continue-branch-2
loop-piece-smaller-in-Continue-branch-2 c =
    let b = popped _ _ _ _ _ c.in-Some.ensures.items c.in-Mark.is c.loop-piece.invariant.belong in
    turn_less _ _ _ _ _ _ _ _ c.in-Some.ensures.items c.in-Mark.is (mark_opened _ _ _ _ _ c.in_ok-push-in-Mark.ensures.items b.0)

pub loop-piece-preserved-in-Continue-branch-2 : goal.loop-piece-preserved-in-Continue-branch-2
loop-piece-preserved-in-Continue-branch-2 c =
    let b = popped _ _ _ _ _ c.in-Some.ensures.items c.in-Mark.is c.loop-piece.invariant.belong in
    record { written = turn_written _ _ _ _ _ _ _ _ _ _ c.in-Some.ensures.items c.in-Mark.is c.loop-piece.invariant.written (mark_opened _ _ _ _ _ c.in_ok-push-in-Mark.ensures.items b.0); belong = b.0 }

pub loop-piece-smaller-in-Continue-branch-3 : goal.loop-piece-smaller-in-Continue-branch-3
loop-piece-smaller-in-Continue-branch-3 c =
    let b = popped _ _ _ _ _ c.in-Some.ensures.items c.in-Parts.is c.loop-piece.invariant.belong in
    turn_less _ _ _ _ _ _ _ _ c.in-Some.ensures.items c.in-Parts.is (opened_behind _ _ _ c.loop-piece.made.items _ _ (c.in_ok-push_parts-in-Parts.ensures c.args.types.now b.1 b.0))

pub loop-piece-preserved-in-Continue-branch-3 : goal.loop-piece-preserved-in-Continue-branch-3
loop-piece-preserved-in-Continue-branch-3 c =
    let b = popped _ _ _ _ _ c.in-Some.ensures.items c.in-Parts.is c.loop-piece.invariant.belong in
    let o = c.in_ok-push_parts-in-Parts.ensures c.args.types.now b.1 b.0 in
    record { written = turn_written _ _ _ _ _ _ _ _ _ _ c.in-Some.ensures.items c.in-Parts.is c.loop-piece.invariant.written (opened_behind _ _ _ _ _ _ o); belong = o.belong }

pub write_part-requires-clause-here : goal.write_part-requires-clause-here
write_part-requires-clause-here c = (popped _ _ _ _ _ c.in-Some.ensures.items c.in-Part.is c.loop-piece.invariant.belong).1

pub loop-piece-smaller : goal.loop-piece-smaller
loop-piece-smaller c = turn_less _ _ _ _ _ _ _ _ c.in-Some.ensures.items c.in-Part.is c.in_ok-write_part-in-Part.ensures

pub loop-piece-preserved : goal.loop-piece-preserved
loop-piece-preserved c =
    let o = c.in_ok-write_part-in-Part.ensures in
    record { written = turn_written _ _ _ _ _ _ _ _ _ _ c.in-Some.ensures.items c.in-Part.is c.loop-piece.invariant.written o; belong = o.belong }
