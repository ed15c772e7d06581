use Rattle.xd_laws.proofs.OrderedBindings.{bindings_agree, bindings_in_order}
use Rattle.xd_laws.proofs.bindings_are_in_order.Goals as goal

pub returns : goal.returns
returns c = record { agree = bindings_agree; order = bindings_in_order }
