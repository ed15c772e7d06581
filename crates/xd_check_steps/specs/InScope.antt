-- The variables in scope, each with a state for what it may be.
use Rattle.std.specs.Prelude.{◌≡◌, ℕ, true, ◌↔◌, cond, List, [], ◌∷◌, map, Option, Some, None}
use Rattle.std.specs.List.{AllByRecursion}
use Rattle.std.specs.Str.{bytes_eq}
use Rattle.xd_doc.specs.Document.{Document, is_proper}
use Rattle.xd_auto.specs.declared.auto.State.{State}
use Rattle.xd_auto.specs.Automaton.{Automaton, IsState, accepts}
use Rattle.xd_syntax.specs.Program.{ProgramTree}
use Rattle.xd_syntax.specs.May.{Scope, Allows}
use Rattle.xd_syntax.specs.declared.program.Param.{Param}
use Rattle.xd_bind.specs.declared.tracks.Given.{Given}
use Rattle.xd_check_steps.specs.declared.variables.Variable.{Variable}

-- the state of the newest variable of the name; the newest stands first
abbrev pub state_of : List Variable → List ℕ → Option State
state_of [] x = None
state_of (v ∷ vs) x = cond (bytes_eq v.name x) (Some v.state) (state_of vs x)

abbrev pub AreStates : Automaton → List Variable → Type 0
AreStates a vs = AllByRecursion (λ (v : Variable). IsState a v.state) vs

-- the state accepts the document; without a state nothing is accepted
abbrev pub AcceptedBy : Automaton → Option State → Document → Type 0
AcceptedBy a None d = ⊥
AcceptedBy a (Some s) d = accepts a d s ≡ true

-- the state of each variable accepts exactly what the scope allows it to be
abbrev pub ScopeStands : ProgramTree → Scope → Automaton → List Variable → Type 0
ScopeStands P S a vs = (x : List ℕ) (d : Document) → is_proper d ≡ true → AcceptedBy a (state_of vs x) d ↔ Allows P S x d

-- the variables of a pattern with their states
abbrev pub given_variables : List Given → List Variable
given_variables gs = map (λ (g : Given). record { name = g.variable; state = g.state }) gs

-- parameters with their states, in their order
abbrev pub parameters_in_scope : List Param → List State → List Variable
parameters_in_scope [] ss = []
parameters_in_scope (q ∷ qs) [] = []
parameters_in_scope (q ∷ qs) (s ∷ ss) = record { name = q.name; state = s } ∷ parameters_in_scope qs ss
