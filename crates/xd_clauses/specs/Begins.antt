-- With what documents begin that a state accepts.
use Rattle.std.specs.Prelude.{◌≡◌, ℕ, Bool, true, false, ◌||◌, List}
use Rattle.std.specs.List.{list_any}
use Rattle.xd_doc.specs.Document.{Document, empty, text, element}
use Rattle.xd_auto.specs.declared.auto.LabelMove.{LabelMove}
use Rattle.xd_auto.specs.declared.auto.TextMove.{TextMove}
use Rattle.xd_auto.specs.Automaton.{StateMoves, has_label, has_text, moves_at}
use Rattle.xd_clauses.specs.declared.begins.Begins.{Begins}

-- a move takes the first item of the document; of the empty document, that it is accepted
abbrev pub may_begin : StateMoves → Document → Bool
may_begin m empty = m.last
may_begin m (text t rest) = list_any (λ w. has_text w t) m.texts
may_begin m (element l content rest) = list_any (λ w. has_label w l) m.labels

-- the document begins as one that some state accepts may begin
abbrev pub begins_so : Begins → Document → Bool
begins_so b d = may_begin (moves_at b.auto b.state) d

-- no name is one of a move of both
abbrev pub ShareNoName : {M N : Type 0} → (M → N → Bool) → List M → List M → Type 0
ShareNoName has ones twos = (n : _) → list_any (λ m. has m n) ones ≡ true → list_any (λ m. has m n) twos ≡ false

-- the moves take the names that they took, and those of these moves
pub record AddsNames (last : Bool) (labels : List LabelMove) (texts : List TextMove) (old new : StateMoves) : Type 0 where
  pub last_of : new.last ≡ (old.last || last)
  pub labels_of : (l : List ℕ) → list_any (λ w. has_label w l) new.labels ≡ (list_any (λ w. has_label w l) old.labels || list_any (λ w. has_label w l) labels)
  pub texts_of : (t : List ℕ) → list_any (λ w. has_text w t) new.texts ≡ (list_any (λ w. has_text w t) old.texts || list_any (λ w. has_text w t) texts)
