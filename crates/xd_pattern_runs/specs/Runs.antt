-- A pattern read from the front: what stands ahead, the ways to go on from there in order of
-- preference, and the runs over a document. The states of the automaton of a pattern are these
-- continuations.
use Rattle.std.specs.Prelude.{ℕ, suc, zero, Bool, true, false, cond, List, [], ◌∷◌, ◌++◌, map, flat_map, length, Option, Some, None}
use Rattle.xd_doc.specs.Document.{Document, empty, text, element}
use Rattle.xd_doc.specs.Classes.{LabelClass, TextClass, class_has}
use Rattle.xd_doc.specs.Runs.{Run, Trace, at_end, at_text, at_element, map_run}
use Rattle.xd_syntax.specs.Words.{has_word}
use Rattle.xd_syntax.specs.Tree.{Tree, Empty, Text, Words, Name, Elem, Seq, Alt, Star, Plus, Opt, Val, Definitions, body}
use Rattle.xd_meaning.specs.Heads.{all_texts}

-- a part of a pattern, and the variables in whose binders it stands
pub record Piece : Type 0 where
  pub marks : List (List ℕ)
  pub part : Tree

-- what stands ahead, in order
abbrev pub Continuation : Type 0
Continuation = List Piece

-- the pattern alone
abbrev pub start : Tree → Continuation
start P = record { marks = []; part = P } ∷ []

-- A way to go on: no item is taken; or a text of the class is taken, or an element of the class
-- with what stands ahead in its content. The item belongs to the marked variables, and then the
-- rest stands ahead.
pub data Choice : Type 0 where
  stop : Choice
  take_text : (words : TextClass) (marks : List (List ℕ)) (rest : List Piece) → Choice
  take_element : (class : LabelClass) (content : List Piece) (marks : List (List ℕ)) (rest : List Piece) → Choice

-- these pieces after the choice, and these choices in the place of a stop
abbrev pub in_place : Continuation → List Choice → Choice → List Choice
in_place K behind stop = behind
in_place K behind (take_text w xs R) = take_text w xs (R ++ K) ∷ []
in_place K behind (take_element c C xs R) = take_element c C xs (R ++ K) ∷ []

abbrev pub then_choices : List Choice → Continuation → List Choice → List Choice
then_choices cs K behind = flat_map (in_place K behind) cs

abbrev pub without_stops : List Choice → List Choice
without_stops [] = []
without_stops (stop ∷ cs) = without_stops cs
without_stops (take_text w xs R ∷ cs) = take_text w xs R ∷ without_stops cs
without_stops (take_element c C xs R ∷ cs) = take_element c C xs R ∷ without_stops cs

-- the first stop alone
abbrev pub one_stop : List Choice → List Choice
one_stop [] = []
one_stop (stop ∷ cs) = stop ∷ without_stops cs
one_stop (take_text w xs R ∷ cs) = take_text w xs R ∷ one_stop cs
one_stop (take_element c C xs R ∷ cs) = take_element c C xs R ∷ one_stop cs

abbrev pub has_stop : List Choice → Bool
has_stop [] = false
has_stop (stop ∷ cs) = true
has_stop (take_text w xs R ∷ cs) = has_stop cs
has_stop (take_element c C xs R ∷ cs) = has_stop cs

-- the turns that take something, and then no turn
abbrev pub turn_choices : Piece → List Choice → List Choice
turn_choices again cs = then_choices cs (again ∷ []) [] ++ stop ∷ []

-- the same where a first turn has to be made: it may take nothing where there is a choice of that
abbrev pub some_turn_choices : Piece → List Choice → List Choice
some_turn_choices again cs = then_choices cs (again ∷ []) [] ++ cond (has_stop cs) (stop ∷ []) []

-- the choices of a part that stands in the binders of the marked variables, where N gives those of
-- names
abbrev pub choices_by : (List (List ℕ) → List ℕ → List Choice) → List (List ℕ) → Tree → List Choice
choices_by N xs Empty = stop ∷ []
choices_by N xs Text = take_text all_texts xs [] ∷ []
choices_by N xs (Words w) = take_text w xs [] ∷ []
choices_by N xs (Name y) = N xs y
choices_by N xs (Elem c T) = take_element c (start T) xs [] ∷ []
choices_by N xs (Seq T U) = then_choices (choices_by N xs T) (record { marks = xs; part = U } ∷ []) (choices_by N xs U)
choices_by N xs (Alt T U) = one_stop (choices_by N xs T ++ choices_by N xs U)
choices_by N xs (Star T) = turn_choices (record { marks = xs; part = Star T }) (choices_by N xs T)
choices_by N xs (Plus T) = some_turn_choices (record { marks = xs; part = Star T }) (choices_by N xs T)
choices_by N xs (Opt T) = one_stop (choices_by N xs T ++ stop ∷ [])
choices_by N xs (Val y T) = choices_by N (y ∷ xs) T

abbrev pub choices_of_definition : (Tree → List Choice) → Option Tree → List Choice
choices_of_definition F None = []
choices_of_definition F (Some T) = F T

-- those of a name are those of its definition with one unfolding fewer, and none without an
-- unfolding
abbrev pub choices_of_name : Definitions → ℕ → List (List ℕ) → List ℕ → List Choice
choices_of_name E zero xs y = []
choices_of_name E (suc n) xs y = choices_of_definition (choices_by (choices_of_name E n) xs) (body E y)

abbrev pub choices_within : Definitions → ℕ → Continuation → List Choice
choices_within E n [] = stop ∷ []
choices_within E n (p ∷ K) = then_choices (choices_by (choices_of_name E n) p.marks p.part) K (choices_within E n K)

-- as many unfoldings as there are definitions
abbrev pub choices : Definitions → Continuation → List Choice
choices E K = choices_within E (length E) K

-- What a state of an automaton has: whether it takes the empty document, and its moves on a text
-- and on an element, in order of preference, each with the variables that the item belongs to.
pub record TextMove (S : Type 0) : Type 0 where
  pub words : TextClass
  pub marks : List (List ℕ)
  pub rest : S

pub record ElementMove (S : Type 0) : Type 0 where
  pub class : LabelClass
  pub content : S
  pub marks : List (List ℕ)
  pub rest : S

pub record Moves (S : Type 0) : Type 0 where
  pub last : Bool
  pub texts : List (TextMove S)
  pub elements : List (ElementMove S)

abbrev pub texts_of : List Choice → List (TextMove Continuation)
texts_of [] = []
texts_of (stop ∷ cs) = texts_of cs
texts_of (take_text w xs R ∷ cs) = record { words = w; marks = xs; rest = R } ∷ texts_of cs
texts_of (take_element c C xs R ∷ cs) = texts_of cs

abbrev pub elements_of : List Choice → List (ElementMove Continuation)
elements_of [] = []
elements_of (stop ∷ cs) = elements_of cs
elements_of (take_text w xs R ∷ cs) = elements_of cs
elements_of (take_element c C xs R ∷ cs) = record { class = c; content = C; marks = xs; rest = R } ∷ elements_of cs

-- the moves of a continuation: its choices, sorted by what they take
abbrev pub moves : Definitions → Continuation → Moves Continuation
moves E K = record { last = has_stop (choices E K); texts = texts_of (choices E K); elements = elements_of (choices E K) }

-- for each item of a document the variables that it belongs to
abbrev pub MarkedRun : Type 0
MarkedRun = Run (List (List ℕ))

-- the runs by a move on this text, where R gives those over the rest
abbrev pub text_runs : {S : Type 0} → (S → List MarkedRun) → List ℕ → TextMove S → List MarkedRun
text_runs R t m = cond (class_has m.words t) (map (at_text m.marks) (R m.rest)) []

-- and by a move on an element with the label, where C gives those over the content
abbrev pub element_runs : {S : Type 0} → (S → List MarkedRun) → (S → List MarkedRun) → List ℕ → ElementMove S → List MarkedRun
element_runs C R l m = cond (class_has m.class l) (flat_map (λ k. map (at_element m.marks k) (R m.rest)) (C m.content)) []

-- the runs of an automaton from a state over a whole document, in order of preference
abbrev pub runs_by : {S : Type 0} → (S → Moves S) → Document → S → List MarkedRun
runs_by M empty s = cond (M s).last (at_end ∷ []) []
runs_by M (text t d) s = flat_map (text_runs (runs_by M d) t) (M s).texts
runs_by M (element l c d) s = flat_map (element_runs (runs_by M c) (runs_by M d) l) (M s).elements

-- the runs from a continuation
abbrev pub runs : Definitions → Document → Continuation → List MarkedRun
runs E d K = runs_by (moves E) d K

-- the document where the variable is among the marked ones, else nothing
abbrev pub if_marked : List (List ℕ) → List ℕ → Document → Document
if_marked xs x d = cond (has_word xs x) d empty

-- for each item whether it belongs to the variable
abbrev pub trace : List ℕ → MarkedRun → Trace
trace x r = map_run (λ xs. has_word xs x) r
