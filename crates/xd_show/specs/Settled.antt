-- States with names, and what is written for contents.
use Rattle.std.specs.Prelude.{◌≡◌, ◌<◌, ℕ, List, length, get_or}
use Rattle.std.specs.List.{AllByRecursion}
use Rattle.xd_auto.specs.declared.auto.State.{State}
use Rattle.xd_auto.specs.Automaton.{Automaton, IsState}
use Rattle.xd_shown.specs.FreeNames.{AreNewNames}
use Rattle.xd_shown.specs.Shown.{AreNamedFrom}
use Rattle.xd_show.specs.Contents.{AreContentsBy}
use Rattle.xd_show.specs.declared.states.Settled.{Settled}

-- new names, one for each of the states, the start's the first, and what is written for contents
-- where these names stand for the states
pub record IsSettled (a : Automaton) (start : State) (taken : List (List ℕ)) (s : Settled) : Type 0 where
  pub named : AllByRecursion (IsState a) s.named.items
  pub some : 0 < length s.named.items
  pub first : get_or s.named.items 0 start ≡ start
  pub count : length s.names.items ≡ length s.named.items
  pub new : AreNewNames s.names.items
  pub in_order : AreNamedFrom taken 1 s.names.items
  pub contents : AreContentsBy a s.names.items s.named.items s.pool.types s.written.items
