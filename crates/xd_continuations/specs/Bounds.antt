-- How long the continuations are that a type leads to, and how many there are.
use Rattle.std.specs.Prelude.{ℕ, zero, suc, ◌+◌, ◌*◌, ◌≤◌, Bool, cond, max, List, [], ◌∷◌, ◌++◌, map, flat_map, length, Option, Some, None}
use Rattle.std.specs.List.{AllByRecursion}
use Rattle.xd_doc.specs.Members.{IsOneOf}
use Rattle.xd_syntax.specs.Words.{has_word}
use Rattle.xd_syntax.specs.Tree.{Tree, Empty, Text, Words, Name, Elem, Seq, Alt, Star, Plus, Opt, Val, Definitions, body}
use Rattle.xd_meaning.specs.Heads.{pieces}
use Rattle.xd_continuations.specs.Continuation.{Move, moves}
use Rattle.xd_continuations.specs.TailUses.{top_names}

-- the continuations that a type leads to, by contents and rests
pub data Reached (E : Definitions) (T : Tree) : List Tree → Type 0 where
  at_start : Reached E T (pieces T)
  by_content : {K : List Tree} (m : Move) → Reached E T K → IsOneOf m (moves E K) → Reached E T m.content
  by_rest : {K : List Tree} (m : Move) → Reached E T K → IsOneOf m (moves E K) → Reached E T m.rest

abbrev pub node_count : Tree → ℕ
node_count Empty = 1
node_count Text = 1
node_count (Words w) = 1
node_count (Name x) = 1
node_count (Elem c T) = node_count T + 1
node_count (Seq T U) = node_count T + node_count U + 1
node_count (Alt T U) = node_count T + node_count U + 1
node_count (Star T) = node_count T + 1
node_count (Plus T) = node_count T + 1
node_count (Opt T) = node_count T + 1
node_count (Val x T) = node_count T + 1

-- no definition has more nodes
abbrev pub NoneLarger : ℕ → Definitions → Type 0
NoneLarger m E = AllByRecursion (λ (p : List ℕ × Tree). node_count p.1 ≤ m) E

-- the nodes of a type, and with each `+` its star
abbrev pub parts : Tree → List Tree
parts Empty = Empty ∷ []
parts Text = Text ∷ []
parts (Words w) = (Words w) ∷ []
parts (Name x) = Name x ∷ []
parts (Elem c T) = Elem c T ∷ parts T
parts (Seq T U) = Seq T U ∷ (parts T ++ parts U)
parts (Alt T U) = Alt T U ∷ (parts T ++ parts U)
parts (Star T) = Star T ∷ parts T
parts (Plus T) = Plus T ∷ (Star T ∷ parts T)
parts (Opt T) = Opt T ∷ parts T
parts (Val x T) = Val x T ∷ parts T

-- those of a type and of all definitions
abbrev pub all_parts : Definitions → Tree → List Tree
all_parts E T = parts T ++ flat_map (λ (p : List ℕ × Tree). parts p.1) E

-- the nodes of all definitions
abbrev pub nodes_of : Definitions → ℕ
nodes_of [] = 0
nodes_of (p ∷ ps) = node_count p.1 + nodes_of ps

-- no continuation is longer, where no type has more than m nodes
abbrev pub longest : Definitions → ℕ → ℕ
longest E m = m * (length E + 1) + 1

-- the lists of at most so many of these
abbrev pub lists_within : {A : Type 0} → List A → ℕ → List (List A)
lists_within xs zero = [] ∷ []
lists_within xs (suc n) = [] ∷ flat_map (λ x. map (λ ys. x ∷ ys) (lists_within xs n)) xs

-- all continuations that a type can lead to are among these
abbrev pub possible : Definitions → Tree → List (List Tree)
possible E T = lists_within (all_parts E T) (longest E (node_count T + nodes_of E))

-- The names that so many uses outside every label lead to.
abbrev pub names_used : Option Tree → List (List ℕ)
names_used None = []
names_used (Some T) = top_names T

abbrev pub led_to : Definitions → ℕ → List ℕ → List (List ℕ)
led_to E zero x = x ∷ []
led_to E (suc n) x = x ∷ flat_map (led_to E n) (names_used (body E x))

-- whether the second name is one that the first leads to, by as many uses as there are definitions
unfoldable pub leads : Definitions → List ℕ → List ℕ → Bool
leads E x y = has_word (led_to E (length E) x) y

abbrev pub count_named : (List ℕ → Bool) → Definitions → ℕ
count_named P [] = 0
count_named P (p ∷ ps) = cond (P p.0) (count_named P ps + 1) (count_named P ps)

-- how many definitions a name leads to
unfoldable pub rank : Definitions → List ℕ → ℕ
rank E x = count_named (leads E x) E

-- how many pieces at most are put before what stands after a type, where N says it of names
abbrev pub above_by : (List ℕ → ℕ) → Tree → ℕ
above_by N Empty = 0
above_by N Text = 0
above_by N (Words w) = 0
above_by N (Name x) = N x
above_by N (Elem c T) = 0
above_by N (Seq T U) = max (above_by N T + length (pieces U)) (above_by N U)
above_by N (Alt T U) = max (above_by N T) (above_by N U)
above_by N (Star T) = above_by N T + 1
above_by N (Plus T) = above_by N T + 1
above_by N (Opt T) = above_by N T
above_by N (Val x T) = above_by N T

abbrev pub height_by : (Tree → ℕ) → List Tree → ℕ
height_by A [] = 0
height_by A (T ∷ K) = max (A T + length K + 1) (height_by A K)

-- no more pieces than the longest continuation has come to stand at a time, where no type has more
-- than m nodes
unfoldable pub IsBounded : Definitions → ℕ → List Tree → Type 0
IsBounded E m K = height_by (above_by (λ x. m * rank E x)) K ≤ longest E m
