-- Continuations of types: lists of pieces, of which each stands after the one before it, and their
-- heads.
use Rattle.std.specs.Prelude.{◌≡◌, ℕ, zero, suc, Bool, true, false, cond, List, [], ◌∷◌, ◌++◌, map, length, Option, Some, None}
use Rattle.std.specs.List.{AllByRecursion}
use Rattle.xd_doc.specs.Classes.{LabelClass, TextClass}
use Rattle.xd_syntax.specs.Tree.{Tree, Empty, Text, Words, Name, Elem, Seq, Alt, Star, Plus, Opt, Val, Definitions, body, seq_of, is_empty}
use Rattle.xd_rules.specs.Heads.{Head, HeadKind, element_in, text_in}
use Rattle.xd_meaning.specs.Heads.{pieces, all_texts}
use Rattle.xd_meaning.specs.CanBeEmpty.{can_be_empty}

-- a head, with its content and its rest as continuations; the content of a text is empty
pub record Move : Type 0 where
  pub kind : HeadKind
  pub content : List Tree
  pub rest : List Tree

-- the continuation after the rest
abbrev pub followed : List Tree → Move → Move
followed K m = record m { rest = m.rest ++ K }

abbrev pub text_move : TextClass → Move
text_move w = record { kind = text_in w; content = []; rest = [] }

abbrev pub label_move : LabelClass → Tree → Move
label_move c T = record { kind = element_in c; content = pieces T; rest = [] }

-- the moves of a type, where Z says which types can be empty, and N gives the moves of names
abbrev pub moves_by : (Tree → Bool) → (List ℕ → List Move) → Tree → List Move
moves_by Z N Empty = []
moves_by Z N Text = text_move all_texts ∷ []
moves_by Z N (Words w) = text_move w ∷ []
moves_by Z N (Name x) = N x
moves_by Z N (Elem c T) = label_move c T ∷ []
moves_by Z N (Seq T U) = map (followed (pieces U)) (moves_by Z N T) ++ cond (Z T) (moves_by Z N U) []
moves_by Z N (Alt T U) = moves_by Z N T ++ moves_by Z N U
moves_by Z N (Star T) = map (followed (Star T ∷ [])) (moves_by Z N T)
moves_by Z N (Plus T) = map (followed (Star T ∷ [])) (moves_by Z N T)
moves_by Z N (Opt T) = moves_by Z N T
moves_by Z N (Val x T) = moves_by Z N T

-- what a definition gives, and what a name gives within so many unfoldings
abbrev pub definition_within : {A : Type 0} → A → (Tree → A) → Option Tree → A
definition_within none F None = none
definition_within none F (Some T) = F T

abbrev pub name_within : {A : Type 0} → A → ((List ℕ → A) → Tree → A) → Definitions → ℕ → List ℕ → A
name_within none F E zero x = none
name_within none F E (suc n) x = definition_within none (F (name_within none F E n)) (body E x)

-- within so many unfoldings
abbrev pub moves_within : Definitions → ℕ → Tree → List Move
moves_within E n T = moves_by (can_be_empty E) (name_within [] (moves_by (can_be_empty E)) E n) T

-- the moves of a continuation: those of its first piece, and those of the others where that piece
-- can be empty
abbrev pub moves_along : (Tree → Bool) → (Tree → List Move) → List Tree → List Move
moves_along Z M [] = []
moves_along Z M (T ∷ K) = map (followed K) (M T) ++ cond (Z T) (moves_along Z M K) []

-- within as many unfoldings as there are definitions
unfoldable pub moves : Definitions → List Tree → List Move
moves E K = moves_along (can_be_empty E) (moves_within E (length E)) K

-- the head of a type that the move is
abbrev pub head_of : Move → Head Tree
head_of m = record { kind = m.kind; content = seq_of m.content; rest = seq_of m.rest }

-- neither a sequence nor empty
abbrev pub is_piece : Tree → Bool
is_piece Empty = false
is_piece (Seq T U) = false
is_piece _ = true

-- A type, without binders, in which no sequence has a part that is a sequence or empty, but for the
-- others of its parts.
abbrev pub IsMerged : Tree → Type 0
IsMerged Empty = Unit {0}
IsMerged Text = Unit {0}
IsMerged (Words w) = Unit {0}
IsMerged (Name x) = Unit {0}
IsMerged (Elem c T) = IsMerged T
IsMerged (Seq T U) = (is_piece T ≡ true) × (is_empty U ≡ false) × IsMerged T × IsMerged U
IsMerged (Alt T U) = IsMerged T × IsMerged U
IsMerged (Star T) = IsMerged T
IsMerged (Plus T) = IsMerged T
IsMerged (Opt T) = IsMerged T
IsMerged (Val x T) = ⊥

-- each definition is merged
abbrev pub AreMerged : Definitions → Type 0
AreMerged E = AllByRecursion (λ (p : List ℕ × Tree). IsMerged p.1) E

abbrev pub IsPiece : Tree → Type 0
IsPiece T = (is_piece T ≡ true) × IsMerged T

-- a list of pieces
abbrev pub IsContinuation : List Tree → Type 0
IsContinuation K = AllByRecursion IsPiece K
