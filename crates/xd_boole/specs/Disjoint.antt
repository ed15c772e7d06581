-- States and moves that have nothing in common.
use Rattle.std.specs.Prelude.{◌≡◌, Bool, true, false, ◌&&◌, List}
use Rattle.std.specs.List.{list_any}
use Rattle.xd_doc.specs.Document.{Document}
use Rattle.xd_auto.specs.declared.auto.State.{State}
use Rattle.xd_auto.specs.declared.auto.LabelMove.{LabelMove}
use Rattle.xd_auto.specs.declared.auto.TextMove.{TextMove}
use Rattle.xd_auto.specs.Automaton.{Automaton, accepts}
use Rattle.xd_boole.specs.declared.groups.MoveSide.{MoveSide}
use Rattle.xd_boole.specs.Meaning.{ElementFirst, TextFirst, move_takes, text_takes}
use Rattle.xd_boole.specs.Groups.{AllPass, side_accepts}

-- no document is accepted by a state of one automaton and a state of another
abbrev pub AreDisjoint : Automaton → Automaton → State → State → Type 0
AreDisjoint a b s t = (d : Document) → (accepts a d s && accepts b d t) ≡ false

-- no content and what follows are accepted by both sides
abbrev pub AreDisjointSides : Automaton → Automaton → MoveSide → MoveSide → Type 0
AreDisjointSides a b s t = (c d : Document) → (side_accepts a c d s && side_accepts b c d t) ≡ false

-- no element is taken by the move and by one of the others
abbrev pub IsDisjointMove : Automaton → Automaton → LabelMove → List LabelMove → Type 0
IsDisjointMove a b m others = (q : ElementFirst) → (move_takes a q m && list_any (move_takes b q) others) ≡ false

-- the same of a text
abbrev pub IsDisjointText : Automaton → Automaton → TextMove → List TextMove → Type 0
IsDisjointText a b m others = (q : TextFirst) → (text_takes a q m && list_any (text_takes b q) others) ≡ false

-- of these moves some, which take the same of the elements whose content and rest a part accepts
pub record AreNearMoves (a b : Automaton) (part : MoveSide) (items near : List LabelMove) : Type 0 where
  pub taken : (q : ElementFirst) → side_accepts a q.content q.rest part ≡ true → list_any (move_takes b q) near ≡ list_any (move_takes b q) items
  pub all : (p : LabelMove → Bool) → AllPass p items → AllPass p near
