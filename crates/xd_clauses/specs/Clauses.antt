-- What states accept, and what the variables of clauses may be.
use Rattle.std.specs.Prelude.{◌≡◌, ◌↔◌, ℕ, true, List, map}
use Rattle.std.specs.List.{All}
use Rattle.xd_doc.specs.Document.{Document, is_proper}
use Rattle.xd_auto.specs.declared.auto.State.{State}
use Rattle.xd_auto.specs.Automaton.{Automaton, IsState, accepts}
use Rattle.xd_syntax.specs.Tree.{Definitions}
use Rattle.xd_syntax.specs.Placed.{PlacedTree, unplaced}
use Rattle.xd_meaning.specs.Bindings.{variables_of}
use Rattle.xd_syntax.specs.May.{Allowance, MayBind}
use Rattle.xd_bind.specs.declared.tracks.Binding.{Binding}
use Rattle.xd_bind.specs.declared.tracks.Given.{Given}

-- what the state accepts
abbrev pub Accepted : Automaton → State → Document → Type 0
Accepted a s d = accepts a d s ≡ true

-- The state accepts exactly what the variable may be.
pub record IsStateOf (V : Allowance) (a : Automaton) (x : List ℕ) (s : State) : Type 0 where
  pub belongs : IsState a s
  pub exact : (e : Document) → is_proper e ≡ true → Accepted a s e ↔ V x e

-- the state of a variable does, of this automaton
abbrev pub IsGivenOf : Allowance → Automaton → Given → Type 0
IsGivenOf V a given = IsStateOf V a given.variable given.state

-- the state of a variable does, of an automaton of its own
abbrev pub IsBindingOf : Allowance → Binding → Type 0
IsBindingOf V binding = IsStateOf V binding.auto binding.variable binding.state

-- one for each variable of the pattern, in order of first occurrence
pub record AreGivensOf (V : Allowance) (P : PlacedTree) (a : Automaton) (givens : List Given) : Type 0 where
  pub variables : map (λ (g : Given). g.variable) givens ≡ variables_of (unplaced P)
  pub each : All (IsGivenOf V a) givens

pub record AreBindingsOf (V : Allowance) (P : PlacedTree) (bindings : List Binding) : Type 0 where
  pub variables : map (λ (b : Binding). b.variable) bindings ≡ variables_of (unplaced P)
  pub each : All (IsBindingOf V) bindings

-- The same where a variable may be what some whole way of the pattern gives it, where the scrutinee
-- may be A, on a document that none of the earlier patterns takes.
abbrev pub IsMayGiven : Definitions → (Document → Type 0) → List PlacedTree → PlacedTree → Automaton → Given → Type 0
IsMayGiven E A earlier P a given = IsGivenOf (MayBind E A earlier P) a given

abbrev pub AreMayGivens : Definitions → (Document → Type 0) → List PlacedTree → PlacedTree → Automaton → List Given → Type 0
AreMayGivens E A earlier P a givens = AreGivensOf (MayBind E A earlier P) P a givens

abbrev pub AreMayBindings : Definitions → (Document → Type 0) → List PlacedTree → PlacedTree → List Binding → Type 0
AreMayBindings E A earlier P bindings = AreBindingsOf (MayBind E A earlier P) P bindings
