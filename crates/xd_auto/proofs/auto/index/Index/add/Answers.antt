use Rattle.std.proofs.Common.{inl, sym, ◌∙◌}
use Rattle.xd_auto.proofs.auto.index.Index.add.Goals as goal

pub returns-clause-ok : goal.returns-clause-ok
returns-clause-ok g c = λ q takes. inl (c.in_ok-put_each.ensures.ok q (c.names.ensures (sym c.takes_others.ensures ∙ c.if-takes_others.false) q takes))
