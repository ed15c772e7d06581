-- What an accepting run takes first.
use Rattle.std.proofs.Common.{◌≡◌, ◌<◌, ℕ, true, List, Option, Some, length, ap, subst}
use Rattle.std.specs.List.{All, slice_get}
use Rattle.std.proofs.lemmas.Option.{slice_get_within, get_or_from_slice_get}
use Rattle.xd_doc.specs.Document.{Document, text, element}
use Rattle.xd_doc.specs.Classes.{class_has}
use Rattle.xd_doc.specs.Runs.{Run, at_text, at_element}
use Rattle.xd_auto.specs.declared.auto.State.{State}
use Rattle.xd_auto.specs.declared.auto.LabelMove.{LabelMove}
use Rattle.xd_auto.specs.declared.auto.TextMove.{TextMove}
use Rattle.xd_auto.specs.Automaton.{Automaton, IsState, IsClosed, moves_at}
use Rattle.xd_auto.specs.Copying.{LabelBelow}
use Rattle.xd_auto.specs.Runs.{IsAcceptingRun}
use Rattle.xd_auto.proofs.Anys.{IsSomeAnd-parts}
use Rattle.xd_auto.proofs.Closed.{moves_at-closed}
use Rattle.xd_auto.specs.Traces.{text_rest_or, content_or, rest_or, after_text, in_element, after_element}

pub All-there : {X : Type 0} (P : X → Type 0) (xs : List X) (n : ℕ) (x : X) → All P xs → slice_get xs n ≡ Some x → P x
All-there P xs n x h e = subst P (get_or_from_slice_get xs n x x e) (h n x (slice_get_within xs n x e))

pub closed_text : (a : Automaton) (s : State) (n : ℕ) (m : TextMove) → IsClosed a → IsState a s → slice_get (moves_at a s).texts n ≡ Some m → IsState a m.rest
closed_text a s n m closed here e = All-there (λ (r : TextMove). r.rest.number < length a) (moves_at a s).texts n m (moves_at-closed a s closed here).texts e

pub closed_element : (a : Automaton) (s : State) (n : ℕ) (m : LabelMove) → IsClosed a → IsState a s → slice_get (moves_at a s).labels n ≡ Some m → LabelBelow (length a) m
closed_element a s n m closed here e = All-there (LabelBelow (length a)) (moves_at a s).labels n m (moves_at-closed a s closed here).labels e

pub record TakesText (a : Automaton) (s : State) (n : ℕ) (t : List ℕ) (Rest : State → Type 0) : Type 0 where
  pub step : TextMove
  pub there : slice_get (moves_at a s).texts n ≡ Some step
  pub onto : after_text a s n ≡ step.rest
  pub has : class_has step.words t ≡ true
  pub rest : Rest step.rest

pub record TakesElement (a : Automaton) (s : State) (n : ℕ) (l : List ℕ) (Content Rest : State → Type 0) : Type 0 where
  pub step : LabelMove
  pub there : slice_get (moves_at a s).labels n ≡ Some step
  pub into : in_element a s n ≡ step.content
  pub onto : after_element a s n ≡ step.rest
  pub has : class_has step.class l ≡ true
  pub content : Content step.content
  pub rest : Rest step.rest

pub takes_text_at : (a : Automaton) (t : List ℕ) (d : Document) (s : State) (n : ℕ) (r : Run ℕ) → IsAcceptingRun a (text t d) s (at_text n r) → TakesText a s n t (λ q. IsAcceptingRun a d q r)
takes_text_at a t d s n r h =
    let f = IsSomeAnd-parts (slice_get (moves_at a s).texts n) (λ (m : TextMove). (class_has m.words t ≡ true) × IsAcceptingRun a d m.rest r) h in
    record { step = f.item; there = f.is; onto = ap (λ (o : Option TextMove). text_rest_or s o) f.is; has = f.holds.0; rest = f.holds.1 }

pub takes_element_at : (a : Automaton) (l : List ℕ) (c d : Document) (s : State) (n : ℕ) (k r : Run ℕ) → IsAcceptingRun a (element l c d) s (at_element n k r)
    → TakesElement a s n l (λ q. IsAcceptingRun a c q k) (λ q. IsAcceptingRun a d q r)
takes_element_at a l c d s n k r h =
    let f = IsSomeAnd-parts (slice_get (moves_at a s).labels n)
    (λ (m : LabelMove). (class_has m.class l ≡ true) × IsAcceptingRun a c m.content k × IsAcceptingRun a d m.rest r) h in
    record {
      step = f.item;
      there = f.is;
      into = ap (λ (o : Option LabelMove). content_or s o) f.is;
      onto = ap (λ (o : Option LabelMove). rest_or s o) f.is;
      has = f.holds.0;
      content = f.holds.1;
      rest = f.holds.2;
    }

pub some_same : {X : Type 0} {x y : X} → Some x ≡ Some y → x ≡ y
some_same e = cc
