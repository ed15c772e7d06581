-- The heads of states as a goal sees them: the cases of its left, and the right heads that match an
-- atom.
use Rattle.std.specs.Prelude.{◌≡◌, ℕ, suc, true, cond, List, [], ◌∷◌, ◌++◌, map, Some}
use Rattle.std.specs.List.{AllByRecursion}
use Rattle.xd_doc.specs.Classes.{NameClass}
use Rattle.xd_auto.specs.declared.auto.State.{State}
use Rattle.xd_auto.specs.Automaton.{Automaton}
use Rattle.xd_rules.specs.declared.atom.Atom.{Atom}
use Rattle.xd_rules.specs.Listed.{AreAmong}
use Rattle.xd_rules.specs.Heads.{Head, Named, atoms_of, labels_of, texts_of, matches}
use Rattle.xd_rules.specs.Rules.{HeadAtom, Claim, numbered, wanted}
use Rattle.xd_rules.specs.Meaning.{right_heads}
use Rattle.xd_state_heads.specs.Moves.{heads_of}
use Rattle.xd_state_heads.specs.declared.heads.Side.{Side}
use Rattle.xd_state_heads.specs.declared.heads.Want.{Want}

abbrev pub want_at : ℕ → State → State → Atom → Want
want_at number content rest atom = record { head = number; atom = atom; content = content; rest = rest }

abbrev pub want_of : ℕ → Head State → Atom → Want
want_of number h atom = want_at number h.content h.rest atom

abbrev pub wants_at : Named → ℕ → Head State → List Want
wants_at named k h = map (want_of k h) (atoms_of named h.kind)

abbrev pub wants_of : Named → ℕ → List (Head State) → List Want
wants_of named k [] = []
wants_of named k (h ∷ hs) = wants_at named k h ++ wants_of named (suc k) hs

abbrev pub want_key : Want → HeadAtom
want_key w = (w.head, w.atom)

-- the names of two classes
abbrev pub names_in : NameClass → NameClass → Named
names_in labels texts = record { labels = labels.names; texts = texts.names }

-- the labels and texts that the head names are among these
pub record IsHeadNamed (named : Named) (h : Head State) : Type 0 where
  pub labels : AreAmong (labels_of h.kind) named.labels
  pub texts : AreAmong (texts_of h.kind) named.texts

-- what a head of the left, by its number, says of the content and of the rest
pub record HasHead (a : Automaton) (left : State) (number : ℕ) (content rest : State) : Type 0 where
  pub of_head : Head State
  pub found : numbered (heads_of a left) number ≡ Some of_head
  pub content_is : content ≡ of_head.content
  pub rest_is : rest ≡ of_head.rest

-- the case is one of a head of the left at an atom that it matches
pub record IsCaseOf (a : Automaton) (left : State) (w : Want) : Type 0 where
  pub has : HasHead a left w.head w.content w.rest
  pub matched : matches has.of_head.kind w.atom ≡ true

-- the cases of a claim, in order
pub record AreCases (a : Automaton) (c : Claim State) (cases : List Want) : Type 0 where
  pub complete : map want_key cases ≡ wanted (heads_of a c.left) (right_heads (heads_of a) c)
  pub each : AllByRecursion (IsCaseOf a c.left) cases

-- a right head as a case sees it
abbrev pub side_at : ℕ → Head State → Side
side_at number h = record { number = number; content = h.content; rest = h.rest }

-- the right heads that match an atom, with their numbers, counting from k
abbrev pub matching_sides : Atom → ℕ → List (Head State) → List Side
matching_sides atom k [] = []
matching_sides atom k (h ∷ hs) = cond (matches h.kind atom) (side_at k h ∷ matching_sides atom (suc k) hs) (matching_sides atom (suc k) hs)
