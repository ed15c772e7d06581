-- Where names have heights, finitely many continuations are reached from a pattern.
use Rattle.std.specs.Prelude.{◌≡◌, ℕ, ◌+◌, ◌≤◌, false, List, [], ◌∷◌, length, Some}
use Rattle.xd_doc.specs.Classes.{LabelClass, TextClass}
use Rattle.xd_doc.specs.Members.{IsOneOf}
use Rattle.xd_syntax.specs.Words.{has_word}
use Rattle.xd_syntax.specs.Tree.{Tree, Empty, Text, Words, Name, Elem, Seq, Alt, Star, Plus, Opt, Val, Definitions, body, occurrences}
use Rattle.xd_syntax.specs.Program.{ProgramTree, names_of}
use Rattle.xd_syntax.specs.RecursionFaults.{IsSound}
use Rattle.xd_pattern_runs.specs.Runs.{Continuation, start, Choice, stop, take_text, take_element, has_stop, choices}
use Rattle.xd_pattern_runs.specs.Linear.{BindNothing}

-- No more than so many pieces come to stand after one another in the place of the type, where H
-- gives what comes in the place of a name. After what is last nothing stands, so that a name may
-- lead back to itself there.
abbrev pub IsLow : (List ℕ → ℕ) → ℕ → Tree → Type 0
IsLow H b Empty = Unit {0}
IsLow H b Text = Unit {0}
IsLow H b (Words w) = Unit {0}
IsLow H b (Name y) = H y ≤ b
IsLow H b (Elem c T) = Unit {0}
IsLow H b (Seq T U) = (a : ℕ) × (a + 1 ≤ b) × IsLow H a T × IsLow H b U
IsLow H b (Alt T U) = IsLow H b T × IsLow H b U
IsLow H b (Star T) = (a : ℕ) × (a + 1 ≤ b) × IsLow H a T
IsLow H b (Plus T) = (a : ℕ) × (a + 1 ≤ b) × IsLow H a T
IsLow H b (Opt T) = IsLow H b T
IsLow H b (Val x T) = IsLow H b T

-- each name is as high as its definition needs
abbrev pub HaveHeights : Definitions → (List ℕ → ℕ) → Type 0
HaveHeights E H = (y : List ℕ) (T : Tree) → body E y ≡ Some T → IsLow H (H y) T

-- choices lead there from the pattern, to what stands ahead after an item or in its content
pub data IsReached (E : Definitions) (P : Tree) : Continuation → Type 0 where
  from_start : IsReached E P (start P)
  behind_text : (K R : Continuation) (w : TextClass) (xs : List (List ℕ)) → IsReached E P K → IsOneOf (take_text w xs R) (choices E K) → IsReached E P R
  behind_element : (K R C : Continuation) (c : LabelClass) (xs : List (List ℕ)) → IsReached E P K → IsOneOf (take_element c C xs R) (choices E K) → IsReached E P R
  in_element : (K R C : Continuation) (c : LabelClass) (xs : List (List ℕ)) → IsReached E P K → IsOneOf (take_element c C xs R) (choices E K) → IsReached E P C

-- all that is reached is in one list
abbrev pub FinitelyManyReached : Type 0
FinitelyManyReached = (E : Definitions) → BindNothing E → (H : List ℕ → ℕ) → HaveHeights E H → (P : Tree) →
    (all : List Continuation) × ((K : Continuation) → IsReached E P K → IsOneOf K all)

-- the names of a sound program have heights
abbrev pub HeightsOfSound : Type 0
HeightsOfSound = (P : ProgramTree) → IsSound P → (H : List ℕ → ℕ) × HaveHeights (names_of P) H

-- so all that is reached from a pattern is in one list
abbrev pub FinitelyManyOfSound : Type 0
FinitelyManyOfSound = (P : ProgramTree) → IsSound P → BindNothing (names_of P) → (A : Tree) →
    (all : List Continuation) × ((K : Continuation) → IsReached (names_of P) A K → IsOneOf K all)

abbrev pub AreDistinct : List Continuation → Type 0
AreDistinct [] = Unit {0}
AreDistinct (K ∷ Ks) = (IsOneOf K Ks → ⊥) × AreDistinct Ks

-- and no more than so many are reached
abbrev pub FewReached : Type 0
FewReached = (P : ProgramTree) → IsSound P → BindNothing (names_of P) → (A : Tree) →
    (n : ℕ) × ((Ks : List Continuation) → AreDistinct Ks → ((K : Continuation) → IsOneOf K Ks → IsReached (names_of P) A K) → length Ks ≤ n)

-- a choice is marked with variables of the pattern alone
abbrev pub IsUnmarked : List ℕ → Choice → Type 0
IsUnmarked x stop = Unit {0}
IsUnmarked x (take_text w xs R) = has_word xs x ≡ false
IsUnmarked x (take_element c C xs R) = has_word xs x ≡ false

abbrev pub MarksAreVariables : Type 0
MarksAreVariables = (E : Definitions) → BindNothing E → (P : Tree) (K : Continuation) → IsReached E P K → (c : Choice) → IsOneOf c (choices E K) →
    (x : List ℕ) → has_word (occurrences P) x ≡ false → IsUnmarked x c

-- no stop, or one
abbrev pub StopsOnce : List Choice → Type 0
StopsOnce [] = Unit {0}
StopsOnce (stop ∷ cs) = has_stop cs ≡ false
StopsOnce (take_text w xs R ∷ cs) = StopsOnce cs
StopsOnce (take_element c C xs R ∷ cs) = StopsOnce cs

abbrev pub ChoicesStopOnce : Type 0
ChoicesStopOnce = (E : Definitions) (K : Continuation) → StopsOnce (choices E K)
