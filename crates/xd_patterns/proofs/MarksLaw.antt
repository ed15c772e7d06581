-- What a compiled pattern owes stays where each move keeps the marks that are the pattern's
-- variables.
use Rattle.std.proofs.Common.{◌≡◌, ℕ, ◌+◌, Bool, true, false, ◌&&◌, cond, List, [], ◌∷◌, map, length, get_or, Some, option_map, refl, ap, sym, subst, ◌∙◌, inl, inr}
use Rattle.xd_doc.specs.Document.{Document}
use Rattle.xd_doc.specs.Runs.{Run, Trace, at_end, at_text, at_element, held, IsFree, IsTogether}
use Rattle.xd_doc.specs.Members.{IsOneOf}
use Rattle.xd_doc.proofs.Runs.{together_free}
use Rattle.xd_auto.specs.declared.auto.State.{State}
use Rattle.xd_auto.specs.Automaton.{Automaton}
use Rattle.xd_auto.specs.Runs as Numbered
use Rattle.xd_auto.specs.Traces.{trace_of}
use Rattle.xd_auto.proofs.SameMoves.{SameMoves, trace_mapped, trace_same}
use Rattle.xd_syntax.specs.Words.{has_word}
use Rattle.xd_meaning.specs.Bindings.{variables_of}
use Rattle.xd_syntax.specs.Tree.{Tree, Definitions, occurrences}
use Rattle.xd_syntax.specs.Ways.{Way}
use Rattle.xd_pattern_runs.specs.Runs.{trace}
use Rattle.xd_pattern_runs.specs.Laws.{Agree, run_bindings, first_of}
use Rattle.xd_continuations.specs.declared.links.Link.{Link}
use Rattle.xd_continuations.proofs.LeadsToLemmas.{among_has}
use Rattle.xd_patterns.specs.CompiledProgram.{AreWithin}
use Rattle.xd_patterns.specs.Compiling.{labels_from, marking, rows_in, texts_from}
use Rattle.xd_patterns.specs.Held.{marking_in}
use Rattle.xd_patterns.specs.Tasks.{Tables}
use Rattle.xd_patterns.specs.Variables.{AreNumbered, numbers_in}
use Rattle.xd_patterns.specs.declared.mark_table.MarkTable.{MarkTable}
use Rattle.xd_patterns.specs.Marked.{Marking, marks_by, moves_of, with_marks, IsCompiled}
use Rattle.xd_patterns.proofs.VariableLemmas.{variables_have, marks_kept}

-- the items that a run gives the variable are those that its moves do
pub owned_trace : (a : Automaton) (k : Marking) (x : List ℕ) (s : State) (run : Run ℕ) → trace x (with_marks a k s run) ≡ trace_of a (moves_of k x) s run
owned_trace a k x s run = trace_mapped (λ (xs : List (List ℕ)). has_word xs x) a (marks_by k) s run

trace_kept : (a : Automaton) (k k' : Marking) (x : List ℕ) → SameMoves (moves_of k' x) (moves_of k x) → (s : State) (run : Run ℕ) → trace x (with_marks a k' s run) ≡ trace x (with_marks a k s run)
trace_kept a k k' x same s run = owned_trace a k' x s run ∙ trace_same a (moves_of k' x) (moves_of k x) same s run ∙ sym (owned_trace a k x s run)

-- no move belongs to the variable
none_free : (a : Automaton) (k : Marking) (x : List ℕ) → ((q : State) (n : ℕ) → (has_word (get_or (k q).texts n []) x ≡ false) × (has_word (get_or (k q).labels n []) x ≡ false)) → (run : Run ℕ) (q : State) → IsFree (trace x (with_marks a k q run))
none_free a k x h at_end q = tt
none_free a k x h (at_text n r) q = ((h q n).0, none_free a k x h r _)
none_free a k x h (at_element n c r) q = ((h q n).1, none_free a k x h c _, none_free a k x h r _)

-- each move has those of its marks that are among these
abbrev pub Keeps : List (List ℕ) → Marking → Marking → Type 0
Keeps vs k k' = (q : State) (n : ℕ) (x : List ℕ) →
    (has_word (get_or (k' q).texts n []) x ≡ (has_word vs x && has_word (get_or (k q).texts n []) x)) × (has_word (get_or (k' q).labels n []) x ≡ (has_word vs x && has_word (get_or (k q).labels n []) x))

-- of these there are all variables of the pattern
pub kept_is_compiled : (E : Definitions) (P : Tree) (a : Automaton) (k k' : Marking) (s : State) (vs : List (List ℕ)) → AreWithin vs (variables_of P) → Keeps vs k k' → IsCompiled E P a k s → IsCompiled E P a k' s
kept_is_compiled E P a k k' s vs within h c = record {
  accepts = c.accepts;
  ways = λ d run i. let w = c.ways d run i in (w.0, w.1, agrees d run w.0 w.2);
  runs = λ d w i. let r = c.runs d w i in (r.0, r.1, agrees d r.0 w r.2);
  together = λ d run i x. together run x (c.together d run i x) (has_word vs x) refl;
  first_match = λ d. firsts d (Numbered.runs a d s) ∙ c.first_match d;
}
  where
    same : (x : List ℕ) → has_word vs x ≡ true → SameMoves (moves_of k' x) (moves_of k x)
    same x e = record {
      text = λ q n. (h q n x).0 ∙ ap (λ b. b && has_word (get_or (k q).texts n []) x) e;
      element = λ q n. (h q n x).1 ∙ ap (λ b. b && has_word (get_or (k q).labels n []) x) e;
    }

    agrees : (d : Document) (run : Run ℕ) (w : Way) → Agree (occurrences P) d (with_marks a k s run) w.bindings → Agree (occurrences P) d (with_marks a k' s run) w.bindings
    agrees d run w g x = g x ∙ go (has_word (occurrences P) x) (variables_have P x)
      where
        go : (b : Bool) → has_word (variables_of P) x ≡ b → cond b (held d (trace x (with_marks a k s run)) ∷ []) [] ≡ cond b (held d (trace x (with_marks a k' s run)) ∷ []) []
        go true e = ap (λ (z : Trace). held d z ∷ []) (sym (trace_kept a k k' x (same x (within x e)) s run))
        go false e = refl

    together : (run : Run ℕ) (x : List ℕ) → IsTogether (trace x (with_marks a k s run)) → (b : Bool) → has_word vs x ≡ b → IsTogether (trace x (with_marks a k' s run))
    together run x t true e = subst IsTogether (sym (trace_kept a k k' x (same x e) s run)) t
    together run x t false e =
        together_free (trace x (with_marks a k' s run))
        (none_free a k' x (λ q n. ((h q n x).0 ∙ ap (λ b. b && has_word (get_or (k q).texts n []) x) e, (h q n x).1 ∙ ap (λ b. b && has_word (get_or (k q).labels n []) x) e)) run s)

    bindings : (d : Document) (run : Run ℕ) (zs : List (List ℕ)) → ((x : List ℕ) → IsOneOf x zs → has_word (variables_of P) x ≡ true) → run_bindings zs d (with_marks a k' s run) ≡ run_bindings zs d (with_marks a k s run)
    bindings d run [] m = refl
    bindings d run (z ∷ zs) m =
        ap (λ (t : Trace). (z, held d t) ∷ run_bindings zs d (with_marks a k' s run)) (trace_kept a k k' z (same z (within z (m z (inl refl)))) s run)
        ∙ ap (λ bs. (z, held d (trace z (with_marks a k s run))) ∷ bs) (bindings d run zs (λ x i. m x (inr i)))

    firsts : (d : Document) (rs : List (Run ℕ)) → option_map (run_bindings (variables_of P) d) (first_of (map (with_marks a k' s) rs)) ≡ option_map (run_bindings (variables_of P) d) (first_of (map (with_marks a k s) rs))
    firsts d [] = refl
    firsts d (r ∷ rs) = ap Some (bindings d r (variables_of P) (λ x i. among_has (variables_of P) x i))

-- the marks of a table's moves are those of its words that its lists of binders have
pub table_keeps : (t : Tables) (m : List (Link ℕ)) (table : MarkTable) → AreNumbered t.patterns table.words.keys m (length m + 1) (numbers_in table.lists.items) →
    Keeps table.words.keys (marking t m table.base (rows_in table.rows.items)) (marking_in table)
table_keeps t m table h q n x =
    let kept = marks_kept t.patterns table.words.keys m (numbers_in table.lists.items) h in
    let rows = rows_in table.rows.items in (kept (texts_from table.base rows q) n x, kept (labels_from table.base rows q) n x)
