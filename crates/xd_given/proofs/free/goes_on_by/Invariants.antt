use Rattle.std.proofs.Common.{◌≡◌, ℕ, ◌<◌, false, Some}
use Rattle.std.specs.List.{slice_get}
use Rattle.xd_empty.specs.Parts.{is_marked}
use Rattle.xd_bind.specs.Owning.{is_owned}
use Rattle.xd_given.specs.Free.{goes_free}
use Rattle.xd_given.proofs.free.goes_on_by.Given as goal

abbrev pub invariant-loop-number : goal.invariant-loop-number
invariant-loop-number g l =
    (n : ℕ) (m : g.row.M.Denot) → n < l.number → slice_get l.moves n ≡ Some m → goes_free (is_owned (g.H.Holds.owned l.owner l.variable) g.M.Leads.KIND l.state) (is_marked l.marks) n (g.M.Leads.ends_of m) ≡ false
