-- What stays as a table of nodes grows.
use Rattle.std.proofs.Common.{ℕ, ◌<◌, arith, List, [], length, sym, ap, length-append, append-nil}
use Rattle.xd_syntax.specs.Table.{Row, KeepsRows}

pub KeepsRows-refl : (ps : List Row) → KeepsRows ps ps
KeepsRows-refl ps = record { more = []; grown = sym (append-nil ps) }

pub IsPattern-more : (ps qs : List Row) (i : ℕ) → KeepsRows ps qs → i < length ps → i < length qs
IsPattern-more ps qs i k h = let e = ap length k.grown in omega (arith, length-append ps k.more, e)
