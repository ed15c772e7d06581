-- On least documents of sets.
use Rattle.std.proofs.Common.{ℕ, ◌<◌, ◌≤◌, min, inl, inr, arith}
use Rattle.std.proofs.lemmas.Bool.{cases_lt}
use Rattle.xd_doc.specs.Document.{Document, size}
use Rattle.xd_doc.specs.Least.{IsLeast, IsLeastBy}
use Rattle.xd_doc.specs.LeastUpTo.{IsLeastUpTo, size_up_to}

min_below : (n m l : ℕ) → n ≤ m → min n l ≤ min m l
min_below n m l le = omega arith

min_past : (n m l : ℕ) → l ≤ m → min n l ≤ min m l
min_past n m l le = omega arith

min_least : (n m l : ℕ) → min n l ≤ min m l → n < l → n ≤ m
min_least n m l le lt = omega arith

-- a document that is least up to a limit is least where sizes are told apart below it alone
pub least_told : (limit : ℕ) (In : Document → Type 0) (d : Document) → IsLeastUpTo limit In d → IsLeastBy (size_up_to limit) In d
least_told limit In d h = record {
  within = h.within;
  least = λ e among. elim (cases_lt (size e) limit) [
    | inl lt ↦ (let l = h.least e among lt in min_below (size d) (size e) limit (l.least e among))
    | inr past ↦ min_past (size d) (size e) limit past
  ];
}

-- and a least one, where its own size is below the limit
pub least_below : (limit : ℕ) (In : Document → Type 0) (d : Document) → IsLeastBy (size_up_to limit) In d → size d < limit → IsLeast In d
least_below limit In d h lt = record { within = h.within; least = λ e among. min_least (size d) (size e) limit (h.least e among) lt }

-- a least document of a set is one of each part of the set that it is in
pub least_of_part : (measure : Document → ℕ) (A B : Document → Type 0) (d : Document) → B d → ((e : Document) → B e → A e) → IsLeastBy measure A d → IsLeastBy measure B d
least_of_part measure A B d within part h = record { within = within; least = λ e among. h.least e (part e among) }
