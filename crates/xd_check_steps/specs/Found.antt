-- What a walk over expressions has found, and the lines and matches of the program for which it
-- stands.
use Rattle.std.specs.Prelude.{◌≡◌, List, [], ◌++◌}
use Rattle.std.specs.List.{AllZip}
use Rattle.xd_auto.specs.Automaton.{Automaton, IsState}
use Rattle.xd_doc.specs.Document.{Document}
use Rattle.xd_syntax.specs.CheckFaults.{Line}
use Rattle.xd_syntax.specs.Expression.{Matched}
use Rattle.xd_syntax.specs.Kept.{ProgramTable, program_tree}
use Rattle.xd_syntax.specs.Matches.{SeenMatch}
use Rattle.xd_syntax.specs.May.{May}
use Rattle.xd_check_steps.specs.FoundLines.{LinesBelong, lines_of}
use Rattle.xd_check_steps.specs.States.{AcceptsJust}
use Rattle.xd_check_steps.specs.Walkable.{CanBeWalked, expr_at}
use Rattle.xd_check_steps.specs.declared.findings.Findings.{Findings}
use Rattle.xd_check_steps.specs.declared.findings.MetMatch.{MetMatch}
use Rattle.xd_check_steps.specs.declared.lines.FoundLine.{FoundLine}

-- the match itself, which can be walked, and a state that accepts exactly the proper documents that
-- its scrutinee may be in its scope
pub record IsMet (p : ProgramTable) (a : Automaton) (m : SeenMatch) (x : MetMatch) : Type 0 where
  pub match : expr_at p x.expr.at ≡ Matched m.place m.scrutinee m.clauses
  pub walkable : CanBeWalked p x.expr.at
  pub place : x.place ≡ m.place
  pub belongs : IsState a x.state
  pub exact : AcceptsJust a x.state (May (program_tree p) m.scope m.scrutinee)

-- lines and matches as they are found
pub record Found : Type 0 where
  pub lines : List FoundLine
  pub met : List MetMatch

abbrev pub found_in : Findings → Found
found_in f = record { lines = f.lines.items; met = f.met.items }

-- lines and matches that a part of a program has
pub record Seen : Type 0 where
  pub lines : List Line
  pub matches : List SeenMatch

abbrev pub none_seen : Seen
none_seen = record { lines = []; matches = [] }

-- those of one part, and then those of another
abbrev pub followed : Seen → Seen → Seen
followed s t = record { lines = s.lines ++ t.lines; matches = s.matches ++ t.matches }

abbrev pub InOrder : (Seen → Type 0) → (Seen → Type 0) → Seen → Type 0
InOrder A B s = (t : Seen) × (u : Seen) × A t × B u × (s ≡ followed t u)

-- lines that meet the fact, and no match
abbrev pub JustLines : (List Line → Type 0) → Seen → Type 0
JustLines A s = A s.lines × (s.matches ≡ [])

-- what was found stands for these lines and matches
pub record StandsFor (p : ProgramTable) (a : Automaton) (ds : List Document) (s : Seen) (f : Found) : Type 0 where
  pub lines : lines_of ds f.lines ≡ s.lines
  pub belong : LinesBelong ds f.lines
  pub met : AllZip (IsMet p a) s.matches f.met

-- what stands for lines and matches that meet the fact was added
pub record AddsFound (p : ProgramTable) (a : Automaton) (ds : List Document) (A : Seen → Type 0) (old new : Found) : Type 0 where
  pub more : Found
  pub lines : new.lines ≡ old.lines ++ more.lines
  pub met : new.met ≡ old.met ++ more.met
  pub seen : Seen
  pub stands : StandsFor p a ds seen more
  pub meet : A seen
