-- What the clauses of a match leave, and what comes to the next one.
use Rattle.std.specs.Prelude.{◌≡◌, Bool, true, false}
use Rattle.std.specs.List.{AllByRecursion}
use Rattle.xd_doc.specs.Document.{Document}
use Rattle.xd_auto.specs.Automaton.{Automaton, IsState, accepts}
use Rattle.xd_boole.specs.Meaning.{any_accepts}
use Rattle.xd_clauses.specs.Begins.{begins_so}
use Rattle.xd_clauses.specs.declared.behind.Remaining.{Remaining}
use Rattle.xd_clauses.specs.declared.behind.Waiting.{Waiting}
use Rattle.xd_clauses.specs.declared.compiled.CompiledPatterns.{CompiledPatterns}

-- a waiting pattern takes the document
abbrev pub any_waiting : CompiledPatterns → Waiting → Document → Bool
any_waiting m w d = any_accepts m.states.auto w.starts.items d

-- their states are states of the patterns, and it is known with what their documents begin
pub record AreWaiting (m : CompiledPatterns) (w : Waiting) : Type 0 where
  pub starts : AllByRecursion (IsState m.states.auto) w.starts.items
  pub own : IsState w.begins.auto w.begins.state
  pub begins : (d : Document) → any_waiting m w d ≡ true → begins_so w.begins d ≡ true

-- its state is one of this automaton
pub record StandsIn (a : Automaton) (m : CompiledPatterns) (r : Remaining) : Type 0 where
  pub state : IsState a r.state
  pub waiting : AreWaiting m r.waiting

-- the document remains: those patterns leave it that were taken away, and none that waits takes it
abbrev pub Remains : Automaton → CompiledPatterns → Remaining → Document → Type 0
Remains a m r d = (accepts a d r.state ≡ true) × (any_waiting m r.waiting d ≡ false)
