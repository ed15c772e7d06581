-- The front of a table is a table.
use Rattle.std.proofs.Common.{ℕ, zero, suc, Bool, List, [], ◌∷◌, ◌++◌, take}
use Rattle.std.specs.List.{AllByRecursion}
use Rattle.xd_syntax.specs.Table.{Row, AreBuiltAfter}
use Rattle.xd_syntax.specs.ProperTables.{IsProperForm, IsTable}

built_front : (b : Bool) (n : ℕ) (older rs : List Row) → AreBuiltAfter b older rs → AreBuiltAfter b older (take n rs)
built_front b zero older rs a = tt
built_front b (suc n) older [] a = tt
built_front b (suc n) older (r ∷ rs) a = (a.0, built_front b n (older ++ r ∷ []) rs a.1)

proper_front : (n : ℕ) (rs : List Row) → AllByRecursion (λ r. IsProperForm r.form) rs → AllByRecursion (λ r. IsProperForm r.form) (take n rs)
proper_front zero rs a = tt
proper_front (suc n) [] a = tt
proper_front (suc n) (r ∷ rs) a = (a.0, proper_front n rs a.1)

pub table_front : (b : Bool) (n : ℕ) (rs : List Row) → IsTable b rs → IsTable b (take n rs)
table_front b n rs t = record { built = built_front b n [] rs t.built; proper = proper_front n rs t.proper }
