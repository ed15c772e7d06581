-- Steps of the walk over pairs of a node and a state.
use Rattle.std.proofs.Common.{ℕ, ◌≡◌, Bool, List, Some, arith, refl}
use Rattle.xd_doc.specs.Document.{Document, empty, text, element}
use Rattle.xd_doc.specs.DocumentCode.{content_of, rest_of}
use Rattle.xd_doc.specs.StoreNodes.{first_of_document}
use Rattle.xd_doc.specs.declared.store.Item.TheVariants.{Text, Elem}
use Rattle.xd_auto.specs.declared.auto.State.{State}
use Rattle.xd_auto.specs.declared.membership.Progress.{Progress}
use Rattle.xd_auto.specs.declared.membership.Progress.TheVariants.{Done, Waits}
use Rattle.xd_auto.specs.Automaton.{Automaton, accepts, moves_at, takes_element, takes_word}
use Rattle.xd_auto.specs.Membership.{FailsBefore, ProgressAt, ProgressOver}

module _ (a : Automaton) (s : State) (n : ℕ) where
  pub text_progress : (d : Document) (t : List ℕ) (Wait : ℕ → State → Type 0) (p : Progress) → first_of_document d ≡ Some (Text t)
      → ProgressOver (takes_word a t (rest_of d)) (moves_at a s).texts n Wait p → ProgressAt a d s n Wait p
  text_progress empty t Wait p e h = absurd (cc)
  text_progress (text u rest) t Wait p e h = let same : u ≡ t = cc in rw same h
  text_progress (element l content rest) t Wait p e h = absurd (cc)

  pub label_progress : (d : Document) (l : List ℕ) (Wait : ℕ → State → Type 0) (p : Progress) → first_of_document d ≡ Some (Elem l)
      → ProgressOver (takes_element a l (content_of d) (rest_of d)) (moves_at a s).labels n Wait p → ProgressAt a d s n Wait p
  label_progress empty l Wait p e h = absurd (cc)
  label_progress (text u rest) l Wait p e h = absurd (cc)
  label_progress (element k content rest) l Wait p e h = let same : k ≡ l = cc in rw same h

  pub done_is : (d : Document) (Wait : ℕ → State → Type 0) (b : Bool) → ProgressAt a d s n Wait (Done b) → b ≡ accepts a d s
  done_is empty Wait b h = h
  done_is (text u rest) Wait b h = h
  done_is (element k content rest) Wait b h = h

  pub waits_is : (d : Document) (Wait : ℕ → State → Type 0) (m p : ℕ) (t : State) → ProgressAt a d s n Wait (Waits m p t) → FailsBefore a d s m × Wait p t
  waits_is empty Wait m p t h = absurd h
  waits_is (text u rest) Wait m p t h = ((omega (arith, h.1), h.2), h.3)
  waits_is (element k content rest) Wait m p t h = ((omega (arith, h.1), h.2), h.3)

pub fails_at_first : (a : Automaton) (s : State) (d : Document) → FailsBefore a d s 0
fails_at_first a s empty = refl
fails_at_first a s (text u rest) = (omega arith, refl)
fails_at_first a s (element k content rest) = (omega arith, refl)
