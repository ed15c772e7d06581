-- The heads that a list of them stands for.
use Rattle.std.specs.Prelude.{◌≡◌, ℕ, ◌≤◌, nat_eq, List, [], map, length, Option, Some, None}
use Rattle.std.specs.HashMap.{HashMap, get}
use Rattle.std.specs.List.{AllByRecursion}
use Rattle.xd_syntax.specs.Table.{Row, tree_at}
use Rattle.xd_syntax.specs.Types.{BelongsTo, tree}
use Rattle.xd_syntax.specs.SoundTables.{IsTypeAt}
use Rattle.xd_syntax.specs.Tree.{Tree, Empty, seq_of}
use Rattle.xd_syntax.specs.TypeDepth.{depth}
use Rattle.xd_syntax.specs.ShallowTables.{IsShallow}
use Rattle.xd_syntax.specs.Shallow.{nesting_limit}
use Rattle.xd_syntax.specs.Program.{names_of}
use Rattle.xd_syntax.specs.Kept.{ProgramTable, program_tree}
use Rattle.xd_syntax.specs.declared.types.TypeId.{TypeId}
use Rattle.xd_rules.specs.Heads.{element_in, text_in}
use Rattle.xd_rules.specs.Heads as inclusion
use Rattle.xd_meaning.specs.Heads as laws
use Rattle.xd_continuations.specs.Chains.{KeepsLinks}
use Rattle.xd_continuations.specs.Continuation.{Move, head_of, IsMerged, IsContinuation}
use Rattle.xd_moves.specs.Found.{continuation, move_of, move_at, AreOfTypes, IsFound}
use Rattle.xd_moves.specs.Cells.{Cell}
use Rattle.xd_moves.specs.declared.expansion.Found.{Found}
use Rattle.xd_heads.specs.declared.listing.Head.{Head}
use Rattle.xd_heads.specs.declared.listing.HeadKind.{HeadKind}
use Rattle.xd_heads.specs.declared.listing.HeadKind.TheVariants.{Label, Text}

abbrev pub kind_at : HeadKind → inclusion.HeadKind
kind_at (Label c) = element_in c
kind_at (Text w) = text_in w

-- the head, with content and rest as types
abbrev pub head_at : List Row → Head → inclusion.Head Tree
head_at types h = record { kind = kind_at h.kind; content = tree types h.content; rest = tree types h.rest }

-- content and rest are there
abbrev pub HeadBelongs : List Row → Head → Type 0
HeadBelongs types h = BelongsTo types h.content × BelongsTo types h.rest

-- it is the head that the move is
pub record IsHeadAt (types : List Row) (m : Move) (h : Head) : Type 0 where
  pub belongs : HeadBelongs types h
  pub same : head_at types h ≡ head_of m

-- the content of a head: a type, or none, which is the empty type
abbrev pub content_at : List Row → Option TypeId → Tree
content_at types None = Empty
content_at types (Some id) = tree types id

abbrev pub ContentBelongs : List Row → Option TypeId → Type 0
ContentBelongs types None = Unit {0}
ContentBelongs types (Some id) = BelongsTo types id

-- the kind of the head that a node is, and its content, where it is an element
pub record IsKindOf (types : List Row) (T : Tree) (made : HeadKind × Option TypeId) : Type 0 where
  pub kind : kind_at made.0 ≡ (move_of T []).kind
  pub content : IsMerged T → content_at types made.1 ≡ seq_of (move_of T []).content
  pub belongs : ContentBelongs types made.1

-- the node and the rest are there, and the rest may be a type of the program
pub record IsHeadFound (p : ProgramTable) (cells : List Cell) (f : Found) : Type 0 where
  pub found : IsFound p.types cells f
  pub merged : IsMerged (tree_at p.types f.node)
  pub pieces : IsContinuation (continuation p.types cells f.rest)
  pub shallow : IsShallow p.types → depth (seq_of (continuation p.types cells f.rest)) ≤ nesting_limit

-- the heads of a type, as what was found; cells were added for them
pub record AreHeadsFound (p : ProgramTable) (T : Tree) (old cells : List Cell) (found : List Found) : Type 0 where
  pub kept : KeepsLinks old cells
  pub nodes : AreOfTypes p.types cells
  pub each : AllByRecursion (IsHeadFound p cells) found
  pub same : map head_of (map (move_at p.types cells) found) ≡ laws.heads (names_of (program_tree p)) T

-- each type is that of the continuation with its number
pub record AreRestTypes {S : Type 0} (types : List Row) (cells : List Cell) (rests : HashMap ℕ TypeId S) : Type 0 where
  pub within : (n : ℕ) (id : TypeId) → get nat_eq rests n ≡ Some id → n ≤ length cells
  pub right : (n : ℕ) (id : TypeId) → get nat_eq rests n ≡ Some id → IsTypeAt types (seq_of (continuation types cells n)) id
