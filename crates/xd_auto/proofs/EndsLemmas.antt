-- The states that moves lead to.
use Rattle.std.proofs.Common.{Option, Some, None}
use Rattle.std.specs.Option.{IfSome}
use Rattle.xd_auto.specs.declared.auto.State.{State}
use Rattle.xd_auto.specs.Leading.{EndsAre}
use Rattle.xd_auto.specs.declared.leading.Ends.{Ends}

pub ends_are : (R Q : State → Type 0) → ((s : State) → R s → Q s) → (e : Ends) → EndsAre R e → EndsAre Q e
ends_are R Q f e h = (f e.behind h.0, inside e.inside h.1)
  where
    inside : (o : Option State) → IfSome o R → IfSome o Q
    inside None h = h
    inside (Some s) h = f s h
