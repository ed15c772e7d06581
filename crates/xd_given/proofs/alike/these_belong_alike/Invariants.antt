use Rattle.std.proofs.Common.{◌≡◌, ◌<◌}
use Rattle.std.specs.List.{AllWithin}
use Rattle.xd_given.specs.Belonging.{owns}
use Rattle.xd_given.proofs.alike.these_belong_alike.Given as goal

abbrev pub invariant-loop-variable : goal.invariant-loop-variable
invariant-loop-variable g l = AllWithin (λ v. v < l.count → owns (g.H.Holds.owned l.owner v) l.one ≡ owns (g.H.Holds.owned l.owner v) l.two) l.variables 0 l.variable-index
