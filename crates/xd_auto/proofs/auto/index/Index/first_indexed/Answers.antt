use Rattle.std.proofs.Common.{ap}
use Rattle.xd_auto.specs.Index.{numbers_of}
use Rattle.xd_auto.proofs.auto.index.Index.first_indexed.Goals as goal

pub first_listed-named-requires-clause-numbers : goal.first_listed-named-requires-clause-numbers
first_listed-named-requires-clause-numbers g c =
    rw (c.deref-in-Some.ensures.value, ap numbers_of c.in-Some.ensures.value) (c.requires.index.named_rise c.args.name.now).rises
