-- What of a type's text is still to be written.
use Rattle.std.specs.Prelude.{◌≡◌, ℕ, ◌+◌, ◌*◌, ◌<◌, List, [], ◌∷◌, ◌++◌, map}
use Rattle.std.specs.List.{AllByRecursion}
use Rattle.xd_syntax.specs.Tree.{Tree}
use Rattle.xd_syntax.specs.TreeForms.{size}
use Rattle.xd_syntax.specs.Table.{Row}
use Rattle.xd_syntax.specs.Types.{BelongsTo, tree}
use Rattle.xd_syntax.specs.TypeText as text
use Rattle.xd_syntax.specs.declared.types.TypeId.{TypeId}
use Rattle.xd_type_text.specs.declared.level.Level.{Level}
use Rattle.xd_type_text.specs.declared.level.Level.TheVariants as level
use Rattle.xd_type_text.specs.declared.level.Joined.{Joined}
use Rattle.xd_type_text.specs.declared.level.Joined.TheVariants as joined
use Rattle.xd_type_text.specs.declared.waiting.Waiting.{Waiting}
use Rattle.xd_type_text.specs.declared.waiting.Waiting.TheVariants as waits

abbrev pub level_of : Level → text.Level
level_of level.Any = text.any_type_level
level_of level.Sequence = text.sequence_level
level_of level.Postfix = text.postfix_level
level_of level.Primary = text.primary_level

abbrev pub inner_level : Joined → text.Level
inner_level joined.Sequence = text.postfix_level
inner_level joined.Alternative = text.sequence_level

abbrev pub last_level : Joined → text.Level
last_level joined.Sequence = text.sequence_level
last_level joined.Alternative = text.any_type_level

abbrev pub mark_of : Joined → ℕ
mark_of joined.Sequence = 44
mark_of joined.Alternative = 124

-- words, each after a `|`
abbrev pub each_behind_bar : List (List ℕ) → List ℕ
each_behind_bar [] = []
each_behind_bar (w ∷ ws) = (124 ∷ w) ++ each_behind_bar ws

-- the parts of a sequence or of an alternative, with marks between them
abbrev pub parts_text : Joined → List Tree → List ℕ
parts_text j [] = []
parts_text j (T ∷ []) = text.text_at_level (last_level j) T
parts_text j (T ∷ (U ∷ Us)) = text.text_at_level (inner_level j) T ++ mark_of j ∷ parts_text j (U ∷ Us)

abbrev pub piece_text : List Row → Waiting → List ℕ
piece_text rows (waits.Part v id) = text.text_at_level (level_of v) (tree rows id)
piece_text rows (waits.Parts j ids) = parts_text j (map (tree rows) ids.now)
piece_text rows (waits.Mark b) = b ∷ []

-- the last piece is written first
abbrev pub waiting_text : List Row → List Waiting → List ℕ
waiting_text rows [] = []
waiting_text rows (w ∷ ws) = waiting_text rows ws ++ piece_text rows w

abbrev pub PieceBelongs : List Row → Waiting → Type 0
PieceBelongs rows (waits.Part v id) = BelongsTo rows id
PieceBelongs rows (waits.Parts j ids) = AllByRecursion (BelongsTo rows) ids.now
PieceBelongs rows (waits.Mark b) = Unit {0}

-- the work that is left
abbrev pub parts_work : List Row → List TypeId → ℕ
parts_work rows [] = 0
parts_work rows (id ∷ ids) = 8 * size (tree rows id) + 2 + parts_work rows ids

abbrev pub piece_work : List Row → Waiting → ℕ
piece_work rows (waits.Part v id) = 8 * size (tree rows id)
piece_work rows (waits.Parts j ids) = parts_work rows ids.now + 1
piece_work rows (waits.Mark b) = 1

abbrev pub work : List Row → List Waiting → ℕ
work rows [] = 0
work rows (w ∷ ws) = piece_work rows w + work rows ws

-- A text is to be written: its front is appended, what is left of it waits before what waited, and
-- that is less work than so much.
pub record IsOpened (rows : List Row) (all : List ℕ) (most : ℕ) (old_out new_out : List ℕ) (old new : List Waiting) : Type 0 where
  pub written : new_out ++ waiting_text rows new ≡ old_out ++ (all ++ waiting_text rows old)
  pub belong : AllByRecursion (PieceBelongs rows) new
  pub less : work rows new < most + work rows old

-- the same of parts, where nothing is written, over whatever nodes they are
abbrev pub PushesParts : Joined → List TypeId → (old new : List Waiting) → Type 0
PushesParts j ids old new = (rows : List Row) → AllByRecursion (BelongsTo rows) ids → AllByRecursion (PieceBelongs rows) old →
    IsOpened rows (parts_text j (map (tree rows) ids)) (parts_work rows ids + 1) [] [] old new
