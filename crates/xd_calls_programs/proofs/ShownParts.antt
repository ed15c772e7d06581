-- Parts of nodes by their positions: what is gone along where nodes are written out.
use Rattle.std.proofs.Common.{◌≡◌, ℕ, zero, suc, ◌<◌, arith, List, [], ◌∷◌, length, map, get_or, sym, subst}
use Rattle.std.specs.List.{AllByRecursion}

mapped_at : {X Y : Type 0} (f : X → Y) (P : Y → Type 0) (xs : List X) (k : ℕ) (d : X) → AllByRecursion P (map f xs) → k < length xs → P (f (get_or xs k d))
mapped_at f P [] k d a h = absurd (omega arith)
mapped_at f P (x ∷ xs) zero d a h = a.0
mapped_at f P (x ∷ xs) (suc k) d a h = mapped_at f P xs k d a.1 (omega arith)

-- a part at a position
pub part_at : {X Y : Type 0} (f : X → Y) (P : Y → Type 0) (xs items : List X) (k : ℕ) (d : X) → AllByRecursion P (map f xs) → items ≡ xs → k < length items → P (f (get_or items k d))
part_at f P xs items k d a e h = mapped_at f P items k d (subst (λ (ys : List _). AllByRecursion P (map f ys)) (sym e) a) h
