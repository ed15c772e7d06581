-- What is so of each row of a table.
use Rattle.std.proofs.Common.{[], ap, ◌∙◌, List, ◌++◌, append_assoc, ◌≤◌, arith, length, length-append, ◌≡◌, ℕ, ◌<◌, sym, subst}
use Rattle.xd_syntax.specs.Table.{Row, KeepsRows, tree_at}
use Rattle.xd_syntax.proofs.Trees.{tree_kept}

pub KeepsRows-trans : (a b c : List Row) → KeepsRows a b → KeepsRows b c → KeepsRows a c
KeepsRows-trans a b c k l = record { more = k.more ++ l.more; grown = l.grown ∙ ap (λ xs. xs ++ l.more) k.grown ∙ append_assoc a k.more l.more }

pub KeepsRows-length : (old new : List Row) → KeepsRows old new → length old ≤ length new
KeepsRows-length old new k = let e = ap length k.grown in omega (arith, length-append old k.more)

pub KeepsRows-tree : (a b : List Row) → KeepsRows a b → (i : ℕ) → i < length a → tree_at b i ≡ tree_at a i
KeepsRows-tree a b k i h = subst (λ xs. tree_at xs i ≡ tree_at a i) (sym k.grown) (tree_kept a k.more i h)
