-- Runs of an automaton over a document.
use Rattle.std.specs.Prelude.{◌≡◌, ℕ, suc, true, ◌↔◌, cond, List, [], ◌∷◌, ◌++◌, map, flat_map, slice_get, Contains}
use Rattle.std.specs.Option.{IsSomeAnd}
use Rattle.xd_doc.specs.Document.{Document, empty, text, element}
use Rattle.xd_doc.specs.Classes.{class_has}
use Rattle.xd_doc.specs.Runs.{Run, at_end, at_text, at_element}
use Rattle.xd_auto.specs.declared.auto.State.{State}
use Rattle.xd_auto.specs.Automaton.{Automaton, accepts, moves_at}

-- The run takes each item by a move, of which it has the place among the state's moves on a text or
-- on an element, from 0. It leads the state over the document, and its content and rest states over
-- the parts.
abbrev pub IsAcceptingRun : Automaton → Document → State → Run ℕ → Type 0
IsAcceptingRun a empty s at_end = (moves_at a s).last ≡ true
IsAcceptingRun a empty s (at_text n r) = ⊥
IsAcceptingRun a empty s (at_element n c r) = ⊥
IsAcceptingRun a (text t rest) s at_end = ⊥
IsAcceptingRun a (text t rest) s (at_text n r) =
    IsSomeAnd (slice_get (moves_at a s).texts n) (λ m. (class_has m.words t ≡ true) × IsAcceptingRun a rest m.rest r)
IsAcceptingRun a (text t rest) s (at_element n c r) = ⊥
IsAcceptingRun a (element l content rest) s at_end = ⊥
IsAcceptingRun a (element l content rest) s (at_text n r) = ⊥
IsAcceptingRun a (element l content rest) s (at_element n c r) =
    IsSomeAnd (slice_get (moves_at a s).labels n)
    (λ m. (class_has m.class l ≡ true) × IsAcceptingRun a content m.content c × IsAcceptingRun a rest m.rest r)

-- what the members of a list give, each with its place from 0, in order
abbrev pub from_each : {A B : Type 0} → (ℕ → A → List B) → List A → List B
from_each f [] = []
from_each f (x ∷ xs) = f 0 x ++ from_each (λ n. f (suc n)) xs

-- the runs of a state over a document, in the order of its moves, then of the runs over the
-- content, then of those over the rest
abbrev pub runs : Automaton → Document → State → List (Run ℕ)
runs a empty s = cond (moves_at a s).last (at_end ∷ []) []
runs a (text t rest) s = from_each (λ n m. cond (class_has m.words t) (map (at_text n) (runs a rest m.rest)) []) (moves_at a s).texts
runs a (element l content rest) s =
    from_each (λ n m. cond (class_has m.class l) (flat_map (λ c. map (at_element n c) (runs a rest m.rest)) (runs a content m.content)) []) (moves_at a s).labels

-- the list of runs has just the accepting runs
abbrev pub RunsAreAccepting : Automaton → State → Type 0
RunsAreAccepting a s = (d : Document) (run : Run ℕ) → Contains (runs a d s) run ↔ IsAcceptingRun a d s run

-- the state accepts a document exactly where it has an accepting run over it
abbrev pub AcceptsByRuns : Automaton → State → Type 0
AcceptsByRuns a s = (d : Document) → (accepts a d s ≡ true) ↔ ((run : Run ℕ) × IsAcceptingRun a d s run)
