-- How the choices of what stands ahead are found: a step looks at the first piece alone, and leaves
-- parts of it ahead.
use Rattle.std.specs.Prelude.{ℕ, List, [], ◌∷◌, ◌++◌, map, flat_map, Option, Some, None}
use Rattle.xd_syntax.specs.Tree.{Tree, Empty, Text, Words, Name, Elem, Seq, Alt, Star, Plus, Opt, Val, Definitions, body}
use Rattle.xd_syntax.specs.TreeForms.{alt_of}
use Rattle.xd_meaning.specs.Heads.{all_texts}
use Rattle.xd_laws.specs.Guarded.{Guarded}
use Rattle.xd_pattern_runs.specs.Alike.{Alike}
use Rattle.xd_pattern_runs.specs.Runs.{Piece, Continuation, Choice, take_text, take_element, start, in_place, choices}

-- What stands ahead, up to the end of a turn of a repetition where it stands in one. A turn that
-- takes nothing isn't made, so at its end there is nothing to choose; after it stands the
-- repetition again, with what follows it.
pub record Ahead : Type 0 where
  pub front : Continuation
  pub turn : Option Continuation

abbrev pub ahead : Continuation → Option Continuation → Ahead
ahead F u = record { front = F; turn = u }

abbrev pub behind_turn : Option Continuation → Continuation
behind_turn None = []
behind_turn (Some K) = K

-- the choice in a turn: it takes something, and what stands after the turn comes after it
abbrev pub in_turn_of : Option Continuation → Choice → List Choice
in_turn_of None c = c ∷ []
in_turn_of (Some K) c = in_place K [] c

abbrev pub choices_ahead : Definitions → Ahead → List Choice
choices_ahead E a = flat_map (in_turn_of a.turn) (choices E a.front)

abbrev pub marked : List (List ℕ) → Tree → Piece
marked xs T = record { marks = xs; part = T }

-- the choice that is there without a further step
abbrev pub part_choice : List (List ℕ) → Tree → Continuation → Option Continuation → List Choice
part_choice xs Text F u = in_turn_of u (take_text all_texts xs F)
part_choice xs (Words w) F u = in_turn_of u (take_text w xs F)
part_choice xs (Elem c T) F u = in_turn_of u (take_element c (start T) xs F)
part_choice xs _ F u = []

abbrev pub body_steps : List (List ℕ) → Option Tree → Continuation → Option Continuation → List Ahead
body_steps xs None F u = []
body_steps xs (Some T) F u = ahead (marked xs T ∷ F) u ∷ []

-- what a step leaves ahead, in order
abbrev pub part_steps : Definitions → List (List ℕ) → Tree → Continuation → Option Continuation → List Ahead
part_steps E xs Empty F u = ahead F u ∷ []
part_steps E xs Text F u = []
part_steps E xs (Words w) F u = []
part_steps E xs (Name y) F u = body_steps xs (body E y) F u
part_steps E xs (Elem c T) F u = []
part_steps E xs (Seq T U) F u = ahead (marked xs T ∷ (marked xs U ∷ F)) u ∷ []
part_steps E xs (Alt T U) F u = ahead (marked xs T ∷ F) u ∷ (ahead (marked xs U ∷ F) u ∷ [])
part_steps E xs (Star T) F u = ahead (marked xs T ∷ []) (Some (marked xs (Star T) ∷ (F ++ behind_turn u))) ∷ (ahead F u ∷ [])
part_steps E xs (Plus T) F u = ahead (marked xs T ∷ (marked xs (Star T) ∷ F)) u ∷ []
part_steps E xs (Opt T) F u = ahead (marked xs T ∷ F) u ∷ (ahead F u ∷ [])
part_steps E xs (Val y T) F u = ahead (marked (y ∷ xs) T ∷ F) u ∷ []

-- the choices are those that a step finds, then those of what it leaves
abbrev pub StepsFind : Type 0
StepsFind = (E : Definitions) → Guarded E → (xs : List (List ℕ)) (T : Tree) (F : Continuation) (u : Option Continuation) →
    Alike (choices_ahead E (ahead (marked xs T ∷ F) u)) (part_choice xs T F u ++ flat_map (choices_ahead E) (part_steps E xs T F u))

-- all parts of an alternative at once
abbrev pub OptionsFind : Type 0
OptionsFind = (E : Definitions) → Guarded E → (xs : List (List ℕ)) (T : Tree) (Ts : List Tree) (F : Continuation) (u : Option Continuation) →
    Alike (choices_ahead E (ahead (marked xs (alt_of (T ∷ Ts)) ∷ F) u)) (flat_map (choices_ahead E) (map (λ (U : Tree). ahead (marked xs U ∷ F) u) (T ∷ Ts)))
