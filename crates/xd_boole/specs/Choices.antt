-- Choices of sides, by which an element is refused.
use Rattle.std.specs.Prelude.{◌≡◌, Bool, true, not, ◌&&◌, ◌||◌, List, [], ◌∷◌}
use Rattle.std.specs.List.{AllByRecursion, list_any}
use Rattle.xd_doc.specs.Document.{Document}
use Rattle.xd_auto.specs.Automaton.{Automaton, accepts}
use Rattle.xd_boole.specs.declared.groups.MoveSide.{MoveSide}
use Rattle.xd_boole.specs.declared.choices.SideChoice.{SideChoice}
use Rattle.xd_auto.specs.declared.auto.State.{State}
use Rattle.xd_boole.specs.Meaning.{any_accepts, is_state, is_within}
use Rattle.xd_boole.specs.Groups.{AllPass, is_side, side_accepts}
use Rattle.xd_boole.specs.Universal.{MarkUniversal}

-- the content and what follows are refused as the choice says
abbrev pub choice_refuses : Automaton → Document → Document → SideChoice → Bool
choice_refuses a c d k = not (any_accepts a k.contents.items c) && not (any_accepts a k.rests.items d)

abbrev pub any_choice : Automaton → Document → Document → List SideChoice → Bool
any_choice a c d choices = list_any (choice_refuses a c d) choices

-- the states of the choice belong to the automaton
abbrev pub IsChoiceOf : Automaton → SideChoice → Type 0
IsChoiceOf a k = AllPass (is_state a) k.contents.items × AllPass (is_state a) k.rests.items

abbrev pub AllChoices : Automaton → List SideChoice → Type 0
AllChoices a choices = AllByRecursion (IsChoiceOf a) choices

-- the choice asks for no more than that the state refuses the content
abbrev pub is_refused_alone : State → SideChoice → Bool
is_refused_alone s k = is_within (s ∷ []) k.contents.items && is_within [] k.rests.items

-- the choice stands among the others, or what it refuses another choice refuses
pub record AddsChoice (k : SideChoice) (old new : List SideChoice) : Type 0 where
  pub refused : (a : Automaton) (c d : Document) → any_choice a c d new ≡ (any_choice a c d old || choice_refuses a c d k)
  pub states : (a : Automaton) → AllChoices a old → IsChoiceOf a k → AllChoices a new

-- a choice was added, extended by the content of one more move; or, where the content is marked,
-- since it accepts every document, none was
pub record AddsContent (universal : List Bool) (side : MoveSide) (k : SideChoice) (old new : List SideChoice) : Type 0 where
  pub refused : (a : Automaton) → MarkUniversal a universal → (c d : Document) → any_choice a c d new ≡ (any_choice a c d old || (choice_refuses a c d k && not (accepts a c side.content)))
  pub states : (a : Automaton) → AllChoices a old → IsChoiceOf a k → is_state a side.content ≡ true → AllChoices a new

-- the same by what follows
pub record AddsRest (universal : List Bool) (side : MoveSide) (k : SideChoice) (old new : List SideChoice) : Type 0 where
  pub refused : (a : Automaton) → MarkUniversal a universal → (c d : Document) → any_choice a c d new ≡ (any_choice a c d old || (choice_refuses a c d k && not (accepts a d side.rest)))
  pub states : (a : Automaton) → AllChoices a old → IsChoiceOf a k → is_state a side.rest ≡ true → AllChoices a new

-- a choice was added, extended by a side for one more move
pub record AddsSide (universal : List Bool) (side : MoveSide) (k : SideChoice) (old new : List SideChoice) : Type 0 where
  pub refused : (a : Automaton) → MarkUniversal a universal → (c d : Document) → any_choice a c d new ≡ (any_choice a c d old || (choice_refuses a c d k && not (side_accepts a c d side)))
  pub states : (a : Automaton) → AllChoices a old → IsChoiceOf a k → is_side a side ≡ true → AllChoices a new

-- each choice was extended by a side for one more move
pub record ExtendsAll (universal : List Bool) (side : MoveSide) (old new : List SideChoice) : Type 0 where
  pub refused : (a : Automaton) → MarkUniversal a universal → (c d : Document) → any_choice a c d new ≡ (any_choice a c d old && not (side_accepts a c d side))
  pub states : (a : Automaton) → AllChoices a old → is_side a side ≡ true → AllChoices a new

-- with no state that need refuse everything is refused
pub record IsNoChoice (choices : List SideChoice) : Type 0 where
  pub refused : (a : Automaton) (c d : Document) → any_choice a c d choices ≡ true
  pub states : (a : Automaton) → AllChoices a choices

-- these choices refuse the same by the same states
pub record CopiesChoices (choices copies : List SideChoice) : Type 0 where
  pub refused : (a : Automaton) (c d : Document) → any_choice a c d copies ≡ any_choice a c d choices
  pub states : (a : Automaton) → AllChoices a choices → AllChoices a copies
