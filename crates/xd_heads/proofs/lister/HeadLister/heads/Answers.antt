use Rattle.std.proofs.Common.{List, map, subst, ap, ◌∙◌}
use Rattle.std.specs.List.{AllZip}
use Rattle.xd_syntax.specs.Table.{Row}
use Rattle.xd_syntax.specs.Tree.{Tree}
use Rattle.xd_rules.specs.Heads as inclusion
use Rattle.xd_continuations.specs.Continuation.{head_of}
use Rattle.xd_moves.specs.Found.{move_at}
use Rattle.xd_heads.specs.Numbered.{IsHeadIn}
use Rattle.xd_moves.specs.declared.expansion.Found.{Found}
use Rattle.xd_heads.proofs.lister.HeadLister.heads.Goals as goal

pub returns-clause-heads : goal.returns-clause-heads
returns-clause-heads c =
    let p = c.args.program.now in
    let cells = c.find.new.self.cells in
    let made = c.in_ok-made.made.items in
    subst (λ (hs : List (inclusion.Head Tree)). AllZip (IsHeadIn p.types cells) made hs)
    (ap (λ (fs : List Found). map head_of (map (move_at p.types cells) fs)) c.deref.ensures.value ∙ c.in_ok-found.ensures.found.same)
    (subst (λ (t : List Row). AllZip (IsHeadIn t cells) made (map head_of (map (move_at t cells) c.deref.result.now))) c.types.ensures.types c.in_ok-made.ensures)
