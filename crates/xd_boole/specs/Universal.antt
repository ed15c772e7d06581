-- States that accept every document in a plain way.
use Rattle.std.specs.Prelude.{◌≡◌, Bool, true, ◌&&◌, ◌==◌, List, length}
use Rattle.std.specs.List.{list_any}
use Rattle.xd_doc.specs.Document.{Document}
use Rattle.xd_doc.specs.Classes.{NameClass}
use Rattle.xd_auto.specs.declared.auto.State.{State}
use Rattle.xd_auto.specs.declared.auto.LabelMove.{LabelMove}
use Rattle.xd_auto.specs.declared.auto.TextMove.{TextMove}
use Rattle.xd_auto.specs.Automaton.{Automaton, accepts, moves_at}
use Rattle.xd_empty.specs.Parts.{is_marked}
use Rattle.xd_boole.specs.Meaning.{has_state}

-- the state accepts every document
abbrev pub AcceptsAll : Automaton → State → Type 0
AcceptsAll a s = (d : Document) → accepts a d s ≡ true

-- so does each marked state
abbrev pub MarkUniversal : Automaton → List Bool → Type 0
MarkUniversal a marks = (s : State) → is_marked marks s ≡ true → AcceptsAll a s

-- the class has all names
abbrev pub has_all : NameClass → Bool
has_all c = c.except && (length c.names == 0)

-- the move is for all names, and leads to some of these states
abbrev pub leads_all : List State → LabelMove → Bool
leads_all states m = has_all m.class && (has_state m.content states && has_state m.rest states)

abbrev pub text_leads_all : List State → TextMove → Bool
text_leads_all states m = has_all m.words && has_state m.rest states

-- the state accepts the empty document, and leads over every element and every text to some of
-- these states
pub record TakesAll (a : Automaton) (states : List State) (s : State) : Type 0 where
  pub last : (moves_at a s).last ≡ true
  pub labels : list_any (leads_all states) (moves_at a s).labels ≡ true
  pub texts : list_any (text_leads_all states) (moves_at a s).texts ≡ true
