-- What calls about clauses ask.
use Rattle.std.specs.List.{All}
use Rattle.xd_auto.specs.Automaton.{IsState}
use Rattle.xd_patterns.specs.CompiledProgram.{IsLinearPattern}
use Rattle.xd_calls_clauses.specs.declared.clauses.Question.{Question}

-- the state is one of the automaton's, and the patterns are linear ones of the program
pub record IsPosed (q : Question) : Type 0 where
  pub state : IsState q.auto q.state
  pub patterns : All (IsLinearPattern q.sound.patterns) q.patterns.items
