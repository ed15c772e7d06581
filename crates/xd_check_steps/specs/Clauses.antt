-- The compiled patterns of the clauses of a match.
use Rattle.std.specs.Prelude.{◌≡◌, ℕ, List, Option, Some, None}
use Rattle.std.specs.List.{slice_get}
use Rattle.xd_auto.specs.Automaton.{Automaton, Extends}
use Rattle.xd_points.specs.Meaning.{ServePoints}
use Rattle.xd_syntax.specs.Kept.{ProgramTable, program_tree}
use Rattle.xd_syntax.specs.Program.{names_of}
use Rattle.xd_syntax.specs.declared.exprs.Clause.{Clause}
use Rattle.xd_meaning.specs.KeptFaults.{AllPaired}
use Rattle.xd_clauses.specs.Compiled.{ArePatterns}
use Rattle.xd_clauses.specs.declared.compiled.CompiledPatterns.{CompiledPatterns}
use Rattle.xd_check_steps.specs.declared.clauses.CompiledMatch.{CompiledMatch}
use Rattle.xd_check_steps.specs.declared.clauses.MatchPatterns.{MatchPatterns}

-- the patterns serve points with lefts in the automaton, and in each that extends it
abbrev pub ServesOn : Automaton → CompiledPatterns → Type 0
ServesOn a m = (b : Automaton) → Extends a b → ServePoints b m.states

-- the clause has the pattern of this number
abbrev pub HasNumber : CompiledPatterns → Clause → ℕ → Type 0
HasNumber m k n = slice_get m.ids.items n ≡ Some k.pattern

-- of a program's patterns, compiled so, these are the numbers of those of the clauses; and they
-- serve
pub record AreCompiled (p : ProgramTable) (a : Automaton) (cs : List Clause) (m : CompiledPatterns) (ns : List ℕ) : Type 0 where
  pub patterns : ArePatterns (names_of (program_tree p)) p.patterns m
  pub points : ServesOn a m
  pub numbers : AllPaired (HasNumber m) cs ns

-- the patterns of the match's clauses are compiled
abbrev pub IsCompiledMatch : ProgramTable → Automaton → CompiledMatch → Type 0
IsCompiledMatch p a m = AreCompiled p a m.clauses.now m.patterns.now m.numbers.now

-- those that were compiled for a match alone, or else the program's
abbrev pub patterns_among : CompiledPatterns → Option CompiledPatterns → CompiledPatterns
patterns_among m None = m
patterns_among m (Some own) = own

-- these clauses have compiled patterns, where the program's are these
abbrev pub AreMatchPatterns : ProgramTable → Automaton → List Clause → CompiledPatterns → MatchPatterns → Type 0
AreMatchPatterns p a cs m made = AreCompiled p a cs (patterns_among m made.own) made.numbers.items
