-- What work on a table needs, and what stands after it, whatever came of it.
use Rattle.std.specs.Prelude.{◌≡◌, ℕ, ◌<◌, List, length}
use Rattle.std.specs.List.{AllByRecursion}
use Rattle.xd_doc.specs.Document.{Document}
use Rattle.xd_doc.specs.StoreNodes.{Keeps}
use Rattle.xd_auto.specs.declared.auto.State.{State}
use Rattle.xd_auto.specs.Automaton.{Automaton, IsState}
use Rattle.xd_auto.specs.Kept.{Answers, AreRight}
use Rattle.xd_rules.specs.Rules.{Claim}
use Rattle.xd_state_heads.specs.declared.heads.Side.{Side}
use Rattle.xd_goals.specs.Kept.{Grows, IsConsistent, IsWhole, view_of}
use Rattle.xd_goals.specs.Trees.{GrownAs, HasOpenTree, IsFailure, IsGrown, IsPathBelow}
use Rattle.xd_goals.specs.Standing.{AreSeparated, KeepsGoals}
use Rattle.xd_goals.specs.Facts.{FactsOn}
use Rattle.xd_goals.specs.Measure.{AreMadeFrom, Lowers}
use Rattle.xd_goals.specs.declared.goals.Goals.{Goals}
use Rattle.xd_goals.specs.declared.grow.Grown.{Grown}
use Rattle.xd_goals.specs.declared.grow.Task.{Task}

-- a tree can grow from this path
pub record CanGrow (a : Automaton) (ds : List Document) (task : Task) (sides : List Side) (contents rests : List State) (g : Goals) (answers : Answers) : Type 0 where
  pub consistent : IsConsistent task.states g
  pub owner : task.owner.goal.number < length g.rows.items
  pub path : IsPathBelow task.states task sides contents rests
  pub states : task.states ≡ length a
  pub separated : AreSeparated a ds g.rows.items
  pub right : AreRight a ds answers

-- trees can grow for the cases of a goal with this claim
pub record CanBegin (a : Automaton) (ds : List Document) (c : Claim State) (goal : ℕ) (g : Goals) (answers : Answers) : Type 0 where
  pub consistent : IsConsistent (length a) g
  pub owner : goal < length g.rows.items
  pub left : IsState a c.left
  pub rights : AllByRecursion (IsState a) c.rights
  pub separated : AreSeparated a ds g.rows.items
  pub right : AreRight a ds answers

-- trees grew, or a part of them, in an automaton with so many states
pub record HasGrown (n : ℕ) (a : Automaton) (ds : List Document) (old new : Goals) (answers : Answers) : Type 0 where
  pub consistent : IsConsistent n new
  pub grows : Grows (view_of old) (view_of new)
  pub right : AreRight a ds answers

-- a tree from this path stands, or an element is there that no right head takes
abbrev pub IsGrownFrom : Automaton → List Document → Task → List Side → List State → List State → Goals → Grown → Type 0
IsGrownFrom a ds task sides contents rests g grown =
    GrownAs (HasOpenTree (view_of g) (λ tree. IsGrown g.rows.items task sides tree contents rests) task.owner) (IsFailure a ds task sides) grown

-- goals can be worked on
pub record CanWork (a : Automaton) (ds : List Document) (g : Goals) (answers : Answers) : Type 0 where
  pub whole : IsWhole g
  pub stands : FactsOn a ds (view_of g)
  pub right : AreRight a ds answers

-- goals were worked on
pub record Progresses (a : Automaton) (ds es : List Document) (old new : Goals) : Type 0 where
  pub whole : IsWhole new
  pub stands : FactsOn a es (view_of new)
  pub kept : KeepsGoals (view_of old) (view_of new)
  pub keeps : Keeps ds es
  pub made : AreMadeFrom (length old.rows.items) new.rows.items

-- one of them was settled
pub record Settles (a : Automaton) (ds : List Document) (old new : Goals) (answers : Answers) : Type 0 where
  pub lowers : Lowers old.rows.items new.rows.items
  pub right : AreRight a ds answers
