use Rattle.std.proofs.Common.{map, take}
use Rattle.std.specs.List.{AllZip}
use Rattle.xd_continuations.specs.Continuation.{head_of}
use Rattle.xd_moves.specs.Found.{move_at}
use Rattle.xd_heads.specs.Numbered.{IsHeadIn}
use Rattle.xd_heads.proofs.lister.HeadLister.list.Given as goal

abbrev pub invariant-loop-one : goal.invariant-loop-one
invariant-loop-one l = AllZip (IsHeadIn l.types l.self.cells) l.made.items (map head_of (map (move_at l.types l.self.cells) (take l.one-index l.found)))
