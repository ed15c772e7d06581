-- Choices and runs of small patterns, computed.
use Rattle.xd_pattern_runs.proofs.Alike.{alike_same}
use Rattle.xd_pattern_runs.specs.Alike.{Alike}
use Rattle.std.proofs.Common.{◌≡◌, ℕ, suc, zero, true, false, [], ◌∷◌, map, Some, None, refl, List, ap}
use Rattle.xd_doc.specs.Document.{Document, empty, element}
use Rattle.xd_doc.specs.Classes.{LabelClass}
use Rattle.xd_doc.specs.Runs.{held}
use Rattle.xd_syntax.specs.Tree.{Tree, Empty, Elem, Seq, Alt, Star, Plus, Opt, Val, Definitions, environment}
use Rattle.xd_pattern_runs.specs.Runs.{Piece, Continuation, stop, take_element, start, choices, ElementMove, Moves, runs, Choice, trace}
use Rattle.xd_pattern_runs.specs.Mirrors.{AreMovesOf, Ahead, SameElement, Mirrors}

-- the class of `a`
abbrev a_class : LabelClass
a_class = record { names = (97 ∷ []) ∷ []; except = false }

-- `a[]`
abbrev a_tree : Tree
a_tree = Elem a_class Empty

abbrev no_types : Definitions
no_types = environment []

abbrev again : Piece
again = record { marks = []; part = Star a_tree }

-- in `(()|a[]),a[]*` the `a[]` of the second part comes first
second_first : choices no_types (start (Seq (Alt Empty a_tree) (Star a_tree))) ≡
    take_element a_class (start Empty) [] (again ∷ []) ∷ stop ∷ take_element a_class (start Empty) [] (again ∷ []) ∷ []
second_first = refl

-- a first turn that may take nothing repeats no choice: `((a[]?)+)+`
no_repeats : choices no_types (start (Plus (Plus (Opt a_tree)))) ≡
    take_element a_class (start Empty) [] (record { marks = []; part = Star (Opt a_tree) } ∷ record { marks = []; part = Star (Plus (Opt a_tree)) } ∷ []) ∷ stop ∷ []
no_repeats = refl

-- `val x as (()|a[]),val y as a[]*`
abbrev two_variables : Tree
two_variables = Seq (Val (120 ∷ []) (Alt Empty a_tree)) (Val (121 ∷ []) (Star a_tree))

-- `a[],a[]`
abbrev two_items : Document
two_items = element (97 ∷ []) empty (element (97 ∷ []) empty empty)

-- the first run over `a[],a[]` gives `x` nothing and `y` both, and the second one each
shares : map (λ r. held two_items (trace (120 ∷ []) r)) (runs no_types two_items (start two_variables)) ≡ empty ∷ element (97 ∷ []) empty empty ∷ []
shares = refl

others : map (λ r. held two_items (trace (121 ∷ []) r)) (runs no_types two_items (start two_variables)) ≡ two_items ∷ element (97 ∷ []) empty empty ∷ []
others = refl

-- An automaton that mirrors `val x as a[]*`: the pattern, what stands ahead after an item, and the
-- content of an item.

abbrev repeated : Tree
repeated = Val (120 ∷ []) (Star a_tree)

abbrev inside : Piece
inside = record { marks = (120 ∷ []) ∷ []; part = Star a_tree }

abbrev standing : Ahead ℕ
standing zero = Some (start repeated)
standing (suc zero) = Some (inside ∷ [])
standing (suc (suc zero)) = Some (start Empty)
standing (suc (suc (suc n))) = None

abbrev item_move : ElementMove ℕ
item_move = record { class = a_class; content = 2; marks = (120 ∷ []) ∷ []; rest = 1 }

abbrev item_asked : ElementMove Continuation
item_asked = record { class = a_class; content = start Empty; marks = (120 ∷ []) ∷ []; rest = inside ∷ [] }

abbrev some_moves : ℕ → Moves ℕ
some_moves zero = record { last = true; texts = []; elements = item_move ∷ [] }
some_moves (suc zero) = record { last = true; texts = []; elements = item_move ∷ [] }
some_moves (suc (suc n)) = record { last = true; texts = []; elements = [] }

same_standing : (K L : Continuation) → Some K ≡ Some L → K ≡ L
same_standing K L e = cc

item_same : SameElement standing item_move item_asked
item_same = record { class = refl; content = refl; marks = refl; rest = refl }

found_at : (L K : Continuation) (moves : Moves ℕ) → Some L ≡ Some K → AreMovesOf standing moves (choices no_types L) →
    (cs : List Choice) × Alike cs (choices no_types K) × AreMovesOf standing moves cs
found_at L K moves e a = (choices no_types L, alike_same (ap (choices no_types) (same_standing L K e)), a)

mirrored : (s : ℕ) (K : Continuation) → standing s ≡ Some K → (cs : List Choice) × Alike cs (choices no_types K) × AreMovesOf standing (some_moves s) cs
mirrored zero K e = found_at (start repeated) K (some_moves 0) e (record { last = refl; texts = tt; elements = (item_same, tt) })
mirrored (suc zero) K e = found_at (inside ∷ []) K (some_moves 1) e (record { last = refl; texts = tt; elements = (item_same, tt) })
mirrored (suc (suc zero)) K e = found_at (start Empty) K (some_moves 2) e (record { last = refl; texts = tt; elements = tt })
mirrored (suc (suc (suc n))) K e = cc

mirrors_sample : Mirrors no_types some_moves standing
mirrors_sample = record { found = mirrored }
