-- Labels in groups, with the choices by which what they stand before is refused.
use Rattle.std.specs.Prelude.{◌≡◌, ℕ, ◌+◌, ◌<◌, ◌≤◌, Bool, true, false, not, ◌&&◌, ◌||◌, List, length, take}
use Rattle.std.specs.List.{AllByRecursion, list_any}
use Rattle.xd_doc.specs.Classes.{LabelClass, class_has}
use Rattle.xd_auto.specs.declared.auto.State.{State}
use Rattle.xd_auto.specs.declared.auto.LabelMove.{LabelMove}
use Rattle.xd_auto.specs.Automaton.{Automaton, moves_at}
use Rattle.xd_boole.specs.declared.choices.SideChoice.{SideChoice}
use Rattle.xd_boole.specs.declared.refusals.Narrowed.{Narrowed}
use Rattle.xd_boole.specs.declared.refusals.Parted.{Parted}
use Rattle.xd_boole.specs.declared.refusals.LabelRefusal.{LabelRefusal}
use Rattle.xd_boole.specs.Meaning.{ElementFirst, any_accepts, element_of, move_takes}
use Rattle.xd_boole.specs.Groups.{AllPass, is_side, label_side}
use Rattle.xd_boole.specs.Choices.{AllChoices, any_choice}
use Rattle.xd_boole.specs.Universal.{MarkUniversal}

-- where the moves lead belongs to the automaton
abbrev pub LeadInside : Automaton → List LabelMove → Type 0
LeadInside a moves = AllPass (λ m. is_side a (label_side m)) moves

-- moves that on the labels of a class take what the moves of these states do, and the first moves
-- of one more
pub record AreMovesOn (a : Automaton) (class : LabelClass) (states : List State) (own : State) (place : ℕ) (moves : List LabelMove) : Type 0 where
  pub taken : (q : ElementFirst) → class_has class q.label ≡ true → list_any (move_takes a q) moves ≡ (any_accepts a states (element_of q) || list_any (move_takes a q) (take place (moves_at a own).labels))
  pub inside : LeadInside a moves

-- an element is refused by some choice and by the moves
abbrev pub is_refused_by : Automaton → ElementFirst → List SideChoice → List LabelMove → Bool
is_refused_by a q choices moves = any_choice a q.content q.rest choices && not (list_any (move_takes a q) moves)

-- on the labels of the class what one move more takes is refused too, by the choices or by the
-- moves
pub record NarrowsMore (universal : List Bool) (class : LabelClass) (m : LabelMove) (old new : Narrowed) : Type 0 where
  pub refused : (a : Automaton) → MarkUniversal a universal → (q : ElementFirst) → class_has class q.label ≡ true
      → is_refused_by a q new.choices.items new.moves.items ≡ (is_refused_by a q old.choices.items old.moves.items && not (move_takes a q m))
  pub states : (a : Automaton) → AllChoices a old.choices.items → is_side a (label_side m) ≡ true → AllChoices a new.choices.items
  pub inside : (a : Automaton) → LeadInside a old.moves.items → is_side a (label_side m) ≡ true → LeadInside a new.moves.items
  pub fewer : length new.moves.items ≤ length old.moves.items + 1

-- on the labels of the class the same is refused, by more of the choices and less of the moves
pub record Narrows (universal : List Bool) (class : LabelClass) (choices : List SideChoice) (moves : List LabelMove) (n : Narrowed) : Type 0 where
  pub refused : (a : Automaton) → MarkUniversal a universal → (q : ElementFirst) → class_has class q.label ≡ true
      → is_refused_by a q n.choices.items n.moves.items ≡ is_refused_by a q choices moves
  pub states : (a : Automaton) → AllChoices a choices → LeadInside a moves → AllChoices a n.choices.items
  pub inside : (a : Automaton) → LeadInside a moves → LeadInside a n.moves.items
  pub fewer : length n.moves.items ≤ length moves

-- the same is refused in a part of the class by the choices for it, and outside of it by those that
-- there were, and by the moves that are left
pub record Parts (universal : List Bool) (choices : List SideChoice) (moves : List LabelMove) (depth : ℕ) (p : Parted) : Type 0 where
  pub inside : (a : Automaton) → MarkUniversal a universal → (q : ElementFirst) → class_has p.part q.label ≡ true
      → is_refused_by a q p.choices.items p.moves.items ≡ is_refused_by a q choices moves
  pub outside : (a : Automaton) → MarkUniversal a universal → (q : ElementFirst) → class_has p.part q.label ≡ false
      → is_refused_by a q choices p.moves.items ≡ is_refused_by a q choices moves
  pub states : (a : Automaton) → AllChoices a choices → LeadInside a moves → AllChoices a p.choices.items
  pub leads : (a : Automaton) → LeadInside a moves → LeadInside a p.moves.items
  pub less : p.depth + length p.moves.items < depth + length moves

-- the label is in the group, and some choice refuses the element
abbrev pub label_refused : Automaton → ElementFirst → LabelRefusal → Bool
label_refused a q g = class_has g.class q.label && any_choice a q.content q.rest g.choices.items

abbrev pub any_refused : Automaton → ElementFirst → List LabelRefusal → Bool
any_refused a q groups = list_any (label_refused a q) groups

-- the states of all choices belong to the automaton
abbrev pub AllRefusals : Automaton → List LabelRefusal → Type 0
AllRefusals a groups = AllByRecursion (λ (g : LabelRefusal). AllChoices a g.choices.items) groups

-- the labels of the class were put after the groups, with what refuses by these choices and moves
pub record AddsRefusals (a : Automaton) (class : LabelClass) (choices : List SideChoice) (moves : List LabelMove) (old new : List LabelRefusal) : Type 0 where
  pub taken : (q : ElementFirst) → any_refused a q new ≡ (any_refused a q old || (class_has class q.label && is_refused_by a q choices moves))
  pub states : AllRefusals a old → AllRefusals a new

-- the labels of the class in groups, with the choices by which these moves are refused
pub record AreLabelRefusals (a : Automaton) (class : LabelClass) (moves : List LabelMove) (groups : List LabelRefusal) : Type 0 where
  pub taken : (q : ElementFirst) → any_refused a q groups ≡ (class_has class q.label && not (list_any (move_takes a q) moves))
  pub states : AllRefusals a groups
