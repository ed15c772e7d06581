-- An automaton that grows keeps what its states accept.
use Rattle.std.proofs.Common.{◌≡◌, Bool, false, ◌&&◌, List, [], ◌∷◌, ◌++◌, get_or, arith, ap, refl, length-append, ◌∙◌}
use Rattle.std.specs.List.{All, list_any}
use Rattle.std.proofs.lemmas.List.{get_or_append_left}
use Rattle.std.proofs.lemmas.List.Elements.{All-head, All-tail}
use Rattle.xd_doc.specs.Document.{empty, text, element}
use Rattle.xd_doc.specs.Classes.{class_has}
use Rattle.xd_auto.specs.declared.auto.LabelMove.{LabelMove}
use Rattle.xd_auto.specs.declared.auto.TextMove.{TextMove}
use Rattle.xd_auto.specs.Automaton.{Automaton, StateMoves, IsClosed, Extends, KeepsAccepting, accepts, moves_at, no_moves}
use Rattle.xd_auto.proofs.Closed.{moves_at-closed}

pub list_any-agree : {X : Type 0} (p q : X → Bool) (xs : List X) → All (λ x. p x ≡ q x) xs → list_any p xs ≡ list_any q xs
list_any-agree p q [] h = refl
list_any-agree p q (x ∷ xs) h = rw (All-head (λ y. p y ≡ q y) x xs h, list_any-agree p q xs (All-tail (λ y. p y ≡ q y) x xs h)) refl

pub Extends-append : (a b : Automaton) → Extends a (a ++ b)
Extends-append a b = record {
  states = λ s here. omega (arith, length-append a b);
  moves = λ s here. get_or_append_left a b (no_moves false) s.number here;
}

pub Extends-same : (a b : Automaton) → b ≡ a → Extends a b
Extends-same a b e = record { states = λ s here. rw e here; moves = λ s here. rw e refl }

pub keeps : (a b : Automaton) → IsClosed a → Extends a b → KeepsAccepting a b
keeps a b closed more empty s here = ap (λ (m : StateMoves). m.last) (more.moves s here)
keeps a b closed more (text t rest) s here =
    ap (λ (m : StateMoves). list_any (λ (w : TextMove). class_has w.words t && accepts b rest w.rest) m.texts) (more.moves s here)
    ∙ list_any-agree (λ (w : TextMove). class_has w.words t && accepts b rest w.rest) (λ (w : TextMove). class_has w.words t && accepts a rest w.rest) (moves_at a s).texts
    (λ i d lt. rw (keeps a b closed more rest (get_or (moves_at a s).texts i d).rest ((moves_at-closed a s closed here).texts i d lt)) refl)
keeps a b closed more (element l content rest) s here =
    ap (λ (m : StateMoves). list_any (λ (w : LabelMove). class_has w.class l && (accepts b content w.content && accepts b rest w.rest)) m.labels) (more.moves s here)
    ∙ list_any-agree (λ (w : LabelMove). class_has w.class l && (accepts b content w.content && accepts b rest w.rest))
    (λ (w : LabelMove). class_has w.class l && (accepts a content w.content && accepts a rest w.rest)) (moves_at a s).labels
    (λ i d lt.
    let below = (moves_at-closed a s closed here).labels i d lt in
    rw (keeps a b closed more content (get_or (moves_at a s).labels i d).content below.0, keeps a b closed more rest (get_or (moves_at a s).labels i d).rest below.1) refl)

pub extends_itself : (a : Automaton) → Extends a a
extends_itself a = record { states = λ s h. h; moves = λ s h. refl }

pub extends_then : (a b c : Automaton) → Extends a b → Extends b c → Extends a c
extends_then a b c g h = record {
  states = λ s i. h.states s (g.states s i);
  moves = λ s i. h.moves s (g.states s i) ∙ g.moves s i;
}
