-- Names in groups that the same moves match.
use Rattle.std.specs.Prelude.{◌≡◌, ℕ, zero, suc, Bool, true, false, not, cond, ◌&&◌, ◌||◌, List, [], ◌∷◌, ◌++◌, take, Option, Some, None}
use Rattle.std.specs.List.{AllByRecursion, list_any}
use Rattle.xd_doc.specs.Document.{Document}
use Rattle.xd_doc.specs.Classes.{TextClass, class_has}
use Rattle.xd_auto.specs.declared.auto.State.{State}
use Rattle.xd_auto.specs.declared.auto.LabelMove.{LabelMove}
use Rattle.xd_auto.specs.Automaton.{Automaton, accepts, moves_at}
use Rattle.xd_boole.specs.declared.groups.MoveSide.{MoveSide}
use Rattle.xd_boole.specs.declared.groups.Group.{Group}
use Rattle.xd_boole.specs.Meaning.{TextFirst, any_accepts, text_of, text_takes, is_state}

-- what the first class has that is in the second, or outside of it; no class where that is nothing
abbrev pub IsPartBy : {C : Type 0} → (C → List ℕ → Bool) → Bool → C → C → Option C → Type 0
IsPartBy {C = C} has inside c e None = (x : List ℕ) → (has c x && cond inside (has e x) (not (has e x))) ≡ false
IsPartBy {C = C} has inside c e (Some part) = (x : List ℕ) → has part x ≡ (has c x && cond inside (has e x) (not (has e x)))

-- the name is in the group, and none of its sides passes the test
abbrev pub group_refuses : {C S : Type 0} → (C → List ℕ → Bool) → (S → Bool) → List ℕ → Group C S → Bool
group_refuses {C = C} {S = S} has p x g = has g.class x && not (list_any p g.sides.items)

abbrev pub any_group : {C S : Type 0} → (C → List ℕ → Bool) → (S → Bool) → List ℕ → List (Group C S) → Bool
any_group {C = C} {S = S} has p x groups = list_any (group_refuses has p x) groups

-- all sides pass the test
abbrev pub AllPass : {S : Type 0} → (S → Bool) → List S → Type 0
AllPass {S = S} p sides = AllByRecursion (λ s. p s ≡ true) sides

abbrev pub AllSides : {C S : Type 0} → (S → Bool) → List (Group C S) → Type 0
AllSides {C = C} {S = S} p groups = AllByRecursion (λ (g : Group C S). AllPass p g.sides.items) groups

-- these sides with one more, as far as tests of them tell
pub record HasSide {S : Type 0} (sides : List S) (side : S) (made : List S) : Type 0 where
  pub taken : (p : S → Bool) → list_any p made ≡ (list_any p sides || p side)
  pub all : (p : S → Bool) → AllPass p sides → p side ≡ true → AllPass p made

-- the names that a move matches were put after the groups, with the move's side
pub record AddsInside {C S : Type 0} (inside : C) (sides : List S) (side : S) (old new : List (Group C S)) : Type 0 where
  pub group : Group C S
  pub items : new ≡ old ++ group ∷ []
  pub class_is : group.class ≡ inside
  pub sides_are : HasSide sides side group.sides.items

-- the names of the group that make up this part were put after the groups, if there is one
abbrev pub IsPartAdded : {C S : Type 0} → Group C S → List (Group C S) → List (Group C S) → Option C → Type 0
IsPartAdded {C = C} {S = S} g old new None = new ≡ old
IsPartAdded {C = C} {S = S} g old new (Some part) = new ≡ old ++ record g { class = part } ∷ []

-- the names of the group that a move on this class doesn't match were put after the groups
pub record AddsOutside {C S : Type 0} (has : C → List ℕ → Bool) (class : C) (g : Group C S) (old new : List (Group C S)) : Type 0 where
  pub part : Option C
  pub is : IsPartBy has false g.class class part
  pub items : IsPartAdded g old new part

-- a group was put after the others, divided by a move on this class
pub record Divides {C S : Type 0} (has : C → List ℕ → Bool) (class : C) (side : S) (g : Group C S) (old new : List (Group C S)) : Type 0 where
  pub taken : (p : S → Bool) (x : List ℕ) → any_group has p x new ≡ (any_group has p x old || (group_refuses has p x g && not (has class x && p side)))
  pub sides : (p : S → Bool) → AllSides p old → AllPass p g.sides.items → p side ≡ true → AllSides p new

-- each group was divided by a move on this class
pub record DividesAll {C S : Type 0} (has : C → List ℕ → Bool) (class : C) (side : S) (old new : List (Group C S)) : Type 0 where
  pub taken : (p : S → Bool) (x : List ℕ) → any_group has p x new ≡ (any_group has p x old && not (has class x && p side))
  pub sides : (p : S → Bool) → AllSides p old → p side ≡ true → AllSides p new

-- a test of the element of this number, which fails where there is none
abbrev pub passes_at : {M : Type 0} → (M → Bool) → List M → ℕ → Bool
passes_at t [] k = false
passes_at t (m ∷ ms) zero = t m
passes_at t (m ∷ ms) (suc k) = passes_at t ms k

abbrev pub label_side : LabelMove → MoveSide
label_side m = record { content = m.content; rest = m.rest }

abbrev pub side_accepts : Automaton → Document → Document → MoveSide → Bool
side_accepts a c d s = accepts a c s.content && accepts a d s.rest

-- both states of the side belong to the automaton
abbrev pub is_side : Automaton → MoveSide → Bool
is_side a s = is_state a s.content && is_state a s.rest

-- the texts of the class in groups, by the moves of these states and by the first moves of one more
pub record AreTextGroupsBefore (a : Automaton) (class : TextClass) (states : List State) (own : State) (place : ℕ) (groups : List (Group TextClass State)) : Type 0 where
  pub taken : (q : TextFirst) → any_group class_has (λ s. accepts a q.rest s) q.characters groups
      ≡ (class_has class q.characters && not (any_accepts a states (text_of q) || list_any (text_takes a q) (take place (moves_at a own).texts)))
  pub sides : AllSides (is_state a) groups
