-- Types of a program by numbers, one for equal types.
use Rattle.std.specs.Prelude.{◌≡◌, ℕ, ◌<◌, ◌≤◌, ◌↔◌, List, length}
use Rattle.xd_syntax.specs.Kept.{ProgramTable, program_tree}
use Rattle.xd_sound.specs.Known.{AreKnownTypes}
use Rattle.xd_syntax.specs.RecursionFaults.{IsSound}
use Rattle.xd_syntax.specs.Table.{Row, tree_at}
use Rattle.xd_syntax.specs.Tree.{Tree, any_type, seq_of}
use Rattle.xd_meaning.specs.Heads.{pieces}
use Rattle.xd_rules.specs.Heads as inclusion
use Rattle.xd_continuations.specs.Chains.{AreLinks, KeepsLinks}
use Rattle.xd_moves.specs.Codes.{number_at}
use Rattle.xd_moves.specs.Pieces.{AreFirst, IsFirst}
use Rattle.xd_moves.specs.Cells.{AreChosen, Cell}
use Rattle.xd_moves.specs.Found.{AreOfTypes, continuation}
use Rattle.xd_heads.specs.HeadList.{kind_at}
use Rattle.xd_heads.specs.declared.lister.HeadLister.{HeadLister}
use Rattle.xd_heads.specs.declared.lister.NumberedHead.{NumberedHead}

-- the number is that of the continuation that is the type's pieces
pub record IsNumberIn (types : List Row) (cells : List Cell) (n : ℕ) (T : Tree) : Type 0 where
  pub within : n ≤ length cells
  pub same : continuation types cells n ≡ pieces T
  pub whole : seq_of (pieces T) ≡ T

-- numbers tell types apart: equal types have one number, and types of one number are equal
abbrev pub Tell : List Row → List Cell → Type 0
Tell types cells = (m n : ℕ) (T U : Tree) → IsNumberIn types cells m T → IsNumberIn types cells n U → (m ≡ n) ↔ (T ≡ U)

-- the first n nodes have these numbers
abbrev pub AreNodeNumbers : List Row → List Cell → ℕ → List ℕ → Type 0
AreNodeNumbers types cells n numbers = (i : ℕ) → i < n → IsNumberIn types cells (number_at numbers i) (tree_at types i)

-- The program is sound, what the lister knows of it is right, and equal continuations are one: each
-- cell stands once, and its piece is the one that stands for all of its type.
pub record Serves (p : ProgramTable) (l : HeadLister) : Type 0 where
  pub sound : IsSound (program_tree p)
  pub known : AreKnownTypes p.types p.type_defs (record { names = l.bodies.names; empty_marks = l.empty_marks })
  pub any : l.bodies.any < length p.types
  pub any_type : tree_at p.types l.bodies.any ≡ any_type
  pub firsts : AreFirst p.types l.firsts
  pub nodes : AreOfTypes p.types l.cells
  pub links : AreLinks l.cells
  pub chosen : AreChosen (IsFirst p.types l.firsts) l.cells
  pub count : length l.numbers.items ≡ length p.types
  pub numbers : AreNodeNumbers p.types l.cells (length p.types) l.numbers.items

-- it is this head, with its content and its rest by their numbers
pub record IsHeadIn (types : List Row) (cells : List Cell) (made : NumberedHead) (h : inclusion.Head Tree) : Type 0 where
  pub kind : kind_at made.kind ≡ h.kind
  pub content : IsNumberIn types cells made.content h.content
  pub rest : IsNumberIn types cells made.rest h.rest

-- continuations keep their numbers; the numbers of the nodes and the marks are as before
pub record KeepsNumbers (old new : HeadLister) : Type 0 where
  pub cells : KeepsLinks old.cells new.cells
  pub numbers : new.numbers.items ≡ old.numbers.items
  pub marks : new.empty_marks.items ≡ old.empty_marks.items

-- the numbers of a lister tell types apart
abbrev pub NumbersTell : Type 0
NumbersTell = (p : ProgramTable) (l : HeadLister) → Serves p l → Tell p.types l.cells

-- the number of a type stays its number while heads are listed
abbrev pub NumbersStay : Type 0
NumbersStay = (types : List Row) (old new : HeadLister) → KeepsNumbers old new → (n : ℕ) (T : Tree) → IsNumberIn types old.cells n T → IsNumberIn types new.cells n T
