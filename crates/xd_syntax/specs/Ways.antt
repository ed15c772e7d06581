-- The ways in which a pattern takes a prefix of a document, in order of preference
-- (Hosoya and Pierce, JFP 2003: first match; that a turn of a repetition takes something is this
-- project's own).
use Rattle.std.specs.Prelude.{◌≡◌, ℕ, suc, zero, ◌+◌, ◌*◌, nat_lt, Bool, true, not, cond, ◌⊎◌, List, [], ◌∷◌, ◌++◌, map, flat_map, Option, Some, None, length}
use Rattle.xd_doc.specs.Document.{Document, empty, text, element, join, size, has_item}
use Rattle.xd_doc.specs.Members.{IsOneOf}
use Rattle.xd_doc.specs.Classes.{LabelClass, TextClass, class_has}
use Rattle.xd_syntax.specs.Tree.{Tree, Empty, Text, Words, Name, Elem, Seq, Alt, Star, Plus, Opt, Val, Definitions, body}

-- what a way binds, the prefix that it takes, and the rest
pub record Way : Type 0 where
  pub bindings : List (List ℕ × Document)
  pub taken : Document
  pub rest : Document

-- nothing is taken
abbrev pub no_item_way : Document → Way
no_item_way d = record { bindings = []; taken = empty; rest = d }

-- a way followed by another, on the rest of the first
abbrev pub then_way : Way → Way → Way
then_way v w = record { bindings = v.bindings ++ w.bindings; taken = join v.taken w.taken; rest = w.rest }

-- for each way of the first, in order, those of the second on its rest
abbrev pub in_turn : (Document → List Way) → (Document → List Way) → Document → List Way
in_turn V W d = flat_map (λ v. map (then_way v) (W v.rest)) (V d)

-- the number of items, those inside others aside
abbrev pub item_count : Document → ℕ
item_count empty = 0
item_count (text s r) = item_count r + 1
item_count (element l c r) = item_count r + 1

-- for each way that leaves a shorter rest, in order, those of the repetition on that rest; then
-- that which takes nothing
abbrev pub turns : (Document → List Way) → ℕ → Document → List Way
turns V zero d = no_item_way d ∷ []
turns V (suc k) d =
    flat_map
    (λ v. cond (nat_lt (item_count v.rest) (item_count d)) (map (then_way v) (turns V k v.rest)) [])
    (V d)
    ++ no_item_way d ∷ []

-- no more turns than there are items
abbrev pub repetition : (Document → List Way) → Document → List Way
repetition V d = turns V (item_count d) d

-- any text
abbrev pub text_ways : Document → List Way
text_ways empty = []
text_ways (text s r) = record { bindings = []; taken = text s empty; rest = r } ∷ []
text_ways (element l c r) = []

-- a text of the class
abbrev pub words_ways : TextClass → Document → List Way
words_ways w empty = []
words_ways w (text s r) = cond (class_has w s) (text_ways (text s r)) []
words_ways w (element l c r) = []

-- the rest is empty
abbrev pub is_whole : Way → Bool
is_whole w = not (has_item w.rest)

-- an element of the class: as many ways as its content has that leave nothing
abbrev pub element_ways : LabelClass → (Document → List Way) → Document → List Way
element_ways k V empty = []
element_ways k V (text s r) = []
element_ways k V (element l c r) =
    cond (class_has k l)
    (flat_map
    (λ v. cond (is_whole v) (record { bindings = v.bindings; taken = element l c empty; rest = r } ∷ []) [])
    (V c))
    []

-- the variable is bound to what the way takes
abbrev pub binding : List ℕ → Way → Way
binding x v = record v { bindings = (x, v.taken) ∷ v.bindings }

-- The ways of a pattern, where N gives those of names. On `a[],a[]` the pattern
-- `val x as a[]*,val y as a[]*` has six: x takes both items, and y none; x takes the first, and y
-- the second or none; x takes none, and y both, the first, or none. The first of them is preferred.
abbrev pub ways_by : (List ℕ → Document → List Way) → Tree → Document → List Way
ways_by N Empty d = no_item_way d ∷ []
ways_by N Text d = text_ways d
ways_by N (Words w) d = words_ways w d
ways_by N (Name x) d = N x d
ways_by N (Elem c T) d = element_ways c (ways_by N T) d
ways_by N (Seq T U) d = in_turn (ways_by N T) (ways_by N U) d
ways_by N (Alt T U) d = ways_by N T d ++ ways_by N U d
ways_by N (Star T) d = repetition (ways_by N T) d
ways_by N (Plus T) d = in_turn (ways_by N T) (repetition (ways_by N T)) d
ways_by N (Opt T) d = ways_by N T d ++ no_item_way d ∷ []
ways_by N (Val x T) d = map (binding x) (ways_by N T d)

-- those of what a name is defined as
abbrev pub ways_of_definition : (Tree → Document → List Way) → Option Tree → Document → List Way
ways_of_definition F None d = []
ways_of_definition F (Some T) d = F T d

-- those of a name are those of its definition with one unfolding fewer, and none without an
-- unfolding
abbrev pub ways_of_name : Definitions → ℕ → List ℕ → Document → List Way
ways_of_name E zero x d = []
ways_of_name E (suc n) x d = ways_of_definition (ways_by (ways_of_name E n)) (body E x) d

-- the ways of a pattern within so many unfoldings of names
abbrev pub ways_within : Definitions → ℕ → Tree → Document → List Way
ways_within E n P d = ways_by (ways_of_name E n) P d

-- as many unfoldings as a sound program needs
abbrev pub unfoldings : Definitions → Document → ℕ
unfoldings E d = (size d + 1) * (length E + 1)

-- the ways of a pattern, in order of preference
abbrev pub ways : Definitions → Tree → Document → List Way
ways E P d = ways_within E (unfoldings E d) P d

-- a way that takes the whole document
abbrev pub IsWholeWay : Definitions → Tree → Document → Way → Type 0
IsWholeWay E P d w = IsOneOf w (ways E P d) × (is_whole w ≡ true)

-- the pattern takes the document
abbrev pub Takes : Definitions → Tree → Document → Type 0
Takes E P d = (w : Way) × IsWholeWay E P d w
