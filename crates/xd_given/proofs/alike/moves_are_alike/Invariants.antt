use Rattle.std.proofs.Common.{◌≡◌, ℕ, ◌<◌, Some}
use Rattle.std.specs.List.{slice_get}
use Rattle.xd_empty.specs.Parts.{is_marked}
use Rattle.xd_given.specs.Belonging.{IsAlikeMove}
use Rattle.xd_given.proofs.alike.moves_are_alike.Given as goal

abbrev pub invariant-loop-number : goal.invariant-loop-number
invariant-loop-number g l =
    (n : ℕ) (m : g.row.M.Denot) → n < l.number → slice_get l.moves n ≡ Some m → IsAlikeMove (g.H.Holds.owned l.owner) l.count (is_marked l.marks) l.state g.M.Leads.KIND n (g.M.Leads.ends_of m)
