-- Of what is said of moves: where it is the same, and what is told of it in turn.
use Rattle.std.proofs.Common.{◌≡◌, ℕ, refl, sym, ap, ◌∙◌, subst}
use Rattle.xd_doc.specs.Document.{Document}
use Rattle.xd_doc.specs.Runs.{Run, at_end, at_text, at_element, map_run, held, IsTogether}
use Rattle.xd_auto.specs.declared.auto.State.{State}
use Rattle.xd_auto.specs.Automaton.{Automaton}
use Rattle.xd_auto.specs.Traces.{AcceptsGiven, IsGiven, KeepsTogether, OfMoves, Owned, after_element, after_text, in_element, map_moves, trace_of}

pub record SameMoves {A : Type 0} (b c : OfMoves A) : Type 0 where
  pub text : (s : State) (n : ℕ) → b.text s n ≡ c.text s n
  pub element : (s : State) (n : ℕ) → b.element s n ≡ c.element s n

pub same_back : {A : Type 0} (b c : OfMoves A) → SameMoves b c → SameMoves c b
same_back b c h = record { text = λ s n. sym (h.text s n); element = λ s n. sym (h.element s n) }

pub trace_same : {A : Type 0} (a : Automaton) (b c : OfMoves A) → SameMoves b c → (s : State) (run : Run ℕ) → trace_of a b s run ≡ trace_of a c s run
trace_same a b c h s at_end = refl
trace_same {A} a b c h s (at_text n r) =
    ap (λ (v : A). at_text v (trace_of a b (after_text a s n) r)) (h.text s n) ∙ ap (λ (t : Run A). at_text (c.text s n) t) (trace_same a b c h (after_text a s n) r)
trace_same {A} a b c h s (at_element n k r) =
    ap (λ (v : A). at_element v (trace_of a b (in_element a s n) k) (trace_of a b (after_element a s n) r)) (h.element s n)
    ∙ ap (λ (t : Run A). at_element (c.element s n) t (trace_of a b (after_element a s n) r)) (trace_same a b c h (in_element a s n) k)
    ∙ ap (λ (t : Run A). at_element (c.element s n) (trace_of a c (in_element a s n) k) t) (trace_same a b c h (after_element a s n) r)

-- what is told of each item of a run is what is told of its moves
pub trace_mapped : {A B : Type 0} (f : A → B) (a : Automaton) (b : OfMoves A) (s : State) (run : Run ℕ) → map_run f (trace_of a b s run) ≡ trace_of a (map_moves f b) s run
trace_mapped f a b s at_end = refl
trace_mapped {A} {B} f a b s (at_text n r) = ap (λ (t : Run B). at_text (f (b.text s n)) t) (trace_mapped f a b (after_text a s n) r)
trace_mapped {A} {B} f a b s (at_element n k r) =
    ap (λ (t : Run B). at_element (f (b.element s n)) t (map_run f (trace_of a b (after_element a s n) r))) (trace_mapped f a b (in_element a s n) k)
    ∙ ap (λ (t : Run B). at_element (f (b.element s n)) (trace_of a (map_moves f b) (in_element a s n) k) t) (trace_mapped f a b (after_element a s n) r)

module _ (a : Automaton) (b c : Owned) (h : SameMoves b c) where
  pub together_same : (start : State) → KeepsTogether a b start → KeepsTogether a c start
  together_same start keeps d run acc = subst IsTogether (trace_same a b c h start run) (keeps d run acc)

  pub is_given_same : (start : State) (e : Document) → IsGiven a b start e → IsGiven a c start e
  is_given_same start e g = record {
    document = g.document;
    proper = g.proper;
    run = g.run;
    accepting = g.accepting;
    gives = ap (λ t. held g.document t) (sym (trace_same a b c h start g.run)) ∙ g.gives;
  }

pub given_same : (a : Automaton) (b c : Owned) → SameMoves b c → (start : State) (made : Automaton) (state : State) → AcceptsGiven a b start made state → AcceptsGiven a c start made state
given_same a b c h start made state g e = (λ y. is_given_same a b c h start e ((g e).0 y), λ y. (g e).1 (is_given_same a c b (same_back b c h) start e y))
