-- The path of splits above a place of a choice tree, and its marks.
use Rattle.std.specs.Prelude.{◌≡◌, ℕ, ◌+◌, ◌<◌, ◌≤◌, true, cond, nat_eq, List, [], ◌∷◌, map, reverse, length}
use Rattle.std.specs.List.{AllByRecursion}
use Rattle.xd_moves.specs.Codes.{number_at}
use Rattle.xd_proof_check.specs.declared.path.Turn.{Turn}
use Rattle.xd_proof_check.specs.declared.path.Path.{Path}

-- how often a number is among others
abbrev pub count_of : ℕ → List ℕ → ℕ
count_of m [] = 0
count_of m (n ∷ ns) = cond (nat_eq n m) (count_of m ns + 1) (count_of m ns)

-- at each number stands how often it is among these
abbrev pub AreCounts : List ℕ → List ℕ → Type 0
AreCounts counts ns = (m : ℕ) → number_at counts m ≡ count_of m ns

-- the numbers of the contents of the right heads that the turns have put on the content side, and
-- of the rests of the others
abbrev pub content_side : List ℕ → List Turn → List ℕ
content_side contents [] = []
content_side contents (t ∷ ts) = cond t.on_rest (content_side contents ts) (number_at contents t.right ∷ content_side contents ts)

abbrev pub rest_side : List ℕ → List Turn → List ℕ
rest_side rests [] = []
rest_side rests (t ∷ ts) = cond t.on_rest (number_at rests t.right ∷ rest_side rests ts) (rest_side rests ts)

-- the right heads that are split on
abbrev pub heads_split : List Turn → List ℕ
heads_split ts = map (λ (t : Turn). t.right) ts

-- the next branch: the newest head on the content side goes to the rest side, and the newer ones
-- are left
abbrev pub turned : List Turn → List Turn
turned [] = []
turned (t ∷ ts) = cond t.on_rest (turned ts) (record { right = t.right; on_rest = true } ∷ ts)

-- the turns of a path, the newest first
abbrev pub turns_of : Path → List Turn
turns_of p = reverse p.turns.items

-- counts tell what the turns have put on each side, and which heads they split on
pub record AreMarks (contents rests : List ℕ) (ts : List Turn) (content rest split : List ℕ) : Type 0 where
  pub within : AllByRecursion (λ (t : Turn). t.right < length contents) ts
  pub on_content : AreCounts content (content_side contents ts)
  pub on_rest : AreCounts rest (rest_side rests ts)
  pub on_path : AreCounts split (heads_split ts)

-- a path over right heads with these numbers
pub record IsPath (contents rests : List ℕ) (p : Path) : Type 0 where
  pub marks : AreMarks contents rests (turns_of p) p.content.items p.rest.items p.split.items

-- there is room for the marks of right heads with these numbers
pub record HasRoom (contents rests : List ℕ) (p : Path) : Type 0 where
  pub content : (i : ℕ) → number_at contents i < length p.content.items
  pub rest : (i : ℕ) → number_at rests i < length p.rest.items
  pub split : length contents ≤ length p.split.items
  pub same : length contents ≡ length rests

-- the tables of marks are as long as they were
pub record KeepsRoom (old new : Path) : Type 0 where
  pub content : length new.content.items ≡ length old.content.items
  pub rest : length new.rest.items ≡ length old.rest.items
  pub split : length new.split.items ≡ length old.split.items

-- a path without turns, whose marks count nothing
pub record IsClear (p : Path) : Type 0 where
  pub turns : turns_of p ≡ []
  pub on_content : AreCounts p.content.items []
  pub on_rest : AreCounts p.rest.items []
  pub on_path : AreCounts p.split.items []
