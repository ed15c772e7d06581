-- What is known of the states of an automaton.
use Rattle.std.specs.Prelude.{List}
use Rattle.xd_doc.specs.Document.{Document}
use Rattle.xd_auto.specs.Automaton.{Automaton}
use Rattle.xd_least.specs.Least.{Knows}
use Rattle.xd_goals.specs.Standing.{StandsOn}
use Rattle.xd_check_steps.specs.declared.known.Known.{Known}

-- it is true of this automaton, with documents of this store
pub record IsKnown (a : Automaton) (ds : List Document) (known : Known) : Type 0 where
  pub inhabitants : Knows a ds known.inhabitants
  pub table : StandsOn a ds known.table
