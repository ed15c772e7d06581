-- The patterns of a program that are compiled so far.
use Rattle.std.specs.Prelude.{◌≡◌, ℕ, nat_eq, List, Some}
use Rattle.std.specs.HashMap.{get}
use Rattle.xd_doc.specs.Document.{Document}
use Rattle.xd_doc.specs.StoreNodes.{Keeps}
use Rattle.xd_syntax.specs.Table.{tree_at}
use Rattle.xd_syntax.specs.Program.{names_of}
use Rattle.xd_syntax.specs.Kept.{ProgramTable, program_tree}
use Rattle.xd_match.specs.Matcher.{AllStand, HasMatcher}
use Rattle.xd_match.specs.Meanings.{Means}
use Rattle.xd_match.specs.declared.matchers.Matchers.{Matchers}

-- a pattern that has a number has its matcher there
abbrev pub AreNumbered : ProgramTable → Matchers → Type 0
AreNumbered p m = (n i : ℕ) → get nat_eq m.numbers n ≡ Some i → HasMatcher (names_of (program_tree p)) (tree_at p.patterns n) m.matchers.items i

-- the matchers serve this program, on a store with these documents
pub record Serves (p : ProgramTable) (ds : List Document) (m : Matchers) : Type 0 where
  pub meanings : Means p m.meanings
  pub stand : AllStand ds m.matchers.items
  pub numbered : AreNumbered p m

-- what serves a program on a store serves it while the store grows
abbrev pub StaysServing : Matchers → Type 0
StaysServing m = (p : ProgramTable) (old new : List Document) → Serves p old m → Keeps old new → Serves p new m
