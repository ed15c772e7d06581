use Rattle.std.proofs.Common.{◌≡◌, ℕ, ◌<◌, length, get_or}
use Rattle.xd_auto.specs.declared.auto.State.{State}
use Rattle.xd_given.specs.Blocks.{IsBlockFor}
use Rattle.xd_given.proofs.blocks.blocks_of.Given as goal

abbrev pub invariant-loop-number : goal.invariant-loop-number
invariant-loop-number g l =
    (length l.blocks.items ≡ l.number)
    × ((x : ℕ) (d : State) → x < l.number → IsBlockFor l.of.patterns.now l.of.table.now (g.H.Holds.owned l.of.owner.now l.variable) l.base (record { number = x }) (get_or l.blocks.items x d))
