-- A compiled pattern, as matches walk it.
use Rattle.std.specs.List.{IsDistinct}
use Rattle.std.specs.Str.{bytes_eq}
use Rattle.xd_auto.specs.Automaton.{IsState}
use Rattle.xd_patterns.specs.Held.{marking_of, variables_in}
use Rattle.xd_match.specs.Tails.{AreTails}
use Rattle.xd_match.specs.declared.compiled.CompiledPattern.{CompiledPattern}

-- what is known of its automaton
pub record PatternStands (c : CompiledPattern) : Type 0 where
  pub start : IsState c.auto c.marked.start
  pub distinct : IsDistinct bytes_eq (variables_in c.marked)
  pub tails : AreTails c.auto (marking_of c.marked) c.mixed.items
