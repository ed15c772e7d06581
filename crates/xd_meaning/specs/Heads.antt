-- Heads of a type: how the documents that fit it begin; the content of a text is the empty type
-- (after Hosoya, Vouillon and Pierce, TOPLAS 2005; that the list has this order is this project's
-- own).
use Rattle.std.specs.Prelude.{ℕ, zero, suc, Bool, true, cond, List, [], ◌∷◌, ◌++◌, map, length, Option, Some, None}
use Rattle.xd_doc.specs.Classes.{TextClass}
use Rattle.xd_rules.specs.Heads.{Head, element_in, text_in}
use Rattle.xd_syntax.specs.Tree.{Tree, Empty, Text, Words, Name, Elem, Seq, Alt, Star, Plus, Opt, Val, Definitions, body, seq_of}
use Rattle.xd_meaning.specs.CanBeEmpty.{can_be_empty}

-- none for the empty type, the parts of a sequence, else the type itself
abbrev pub pieces : Tree → List Tree
pieces Empty = []
pieces (Seq T U) = T ∷ pieces U
pieces T = T ∷ []

-- the first type and after it the second, merged
abbrev pub followed_by : Tree → Tree → Tree
followed_by R U = seq_of (pieces R ++ pieces U)

-- the class of `String`
abbrev pub all_texts : TextClass
all_texts = record { names = []; except = true }

-- a head that this type follows
abbrev pub with_behind : Tree → Head Tree → Head Tree
with_behind R h = record h { rest = followed_by h.rest R }

-- the heads of a type, where Z says which types can be empty, and N gives the heads of names
abbrev pub heads_by : (Tree → Bool) → (List ℕ → List (Head Tree)) → Tree → List (Head Tree)
heads_by Z N Empty = []
heads_by Z N Text = record { kind = text_in all_texts; content = Empty; rest = Empty } ∷ []
heads_by Z N (Words w) = record { kind = text_in w; content = Empty; rest = Empty } ∷ []
heads_by Z N (Name x) = N x
heads_by Z N (Elem c T) = record { kind = element_in c; content = T; rest = Empty } ∷ []
heads_by Z N (Seq T U) = map (with_behind U) (heads_by Z N T) ++ cond (Z T) (heads_by Z N U) []
heads_by Z N (Alt T U) = heads_by Z N T ++ heads_by Z N U
heads_by Z N (Star T) = map (with_behind (Star T)) (heads_by Z N T)
heads_by Z N (Plus T) = map (with_behind (Star T)) (heads_by Z N T)
heads_by Z N (Opt T) = heads_by Z N T
heads_by Z N (Val x T) = heads_by Z N T

-- those of what a name is defined as
abbrev pub heads_of_definition : (Tree → List (Head Tree)) → Option Tree → List (Head Tree)
heads_of_definition F None = []
heads_of_definition F (Some T) = F T

-- those of a name, within so many unfoldings
abbrev pub heads_of_name : (Tree → Bool) → Definitions → ℕ → List ℕ → List (Head Tree)
heads_of_name Z E zero x = []
heads_of_name Z E (suc n) x = heads_of_definition (heads_by Z (heads_of_name Z E n)) (body E x)

-- within so many unfoldings
abbrev pub heads_within : Definitions → ℕ → Tree → List (Head Tree)
heads_within E n T = heads_by (can_be_empty E) (heads_of_name (can_be_empty E) E n) T

-- within as many unfoldings as there are definitions
unfoldable pub heads : Definitions → Tree → List (Head Tree)
heads E T = heads_within E (length E) T
