-- What runs of a compiled pattern give its variables is what its ways bind them to.
use Rattle.std.proofs.Common.{◌≡◌, ◌↔◌, ℕ, true, cond, List, [], ◌∷◌, ap, sym, subst, ◌∙◌}
use Rattle.xd_doc.specs.Document.{Document}
use Rattle.xd_doc.specs.Runs.{Run, Trace, held, IsTogether}
use Rattle.xd_doc.specs.Members.{IsOneOf}
use Rattle.xd_auto.specs.declared.auto.State.{State}
use Rattle.xd_auto.specs.Automaton.{Automaton}
use Rattle.xd_syntax.specs.Words.{has_word}
use Rattle.xd_syntax.specs.Tree.{Tree, Definitions, occurrences}
use Rattle.xd_syntax.specs.Placed.{unplaced}
use Rattle.xd_pattern_runs.specs.Laws.{Agree}
use Rattle.xd_pattern_runs.specs.Linear.{given}
use Rattle.xd_pattern_runs.specs.Runs.{trace}
use Rattle.xd_pattern_runs.proofs.TheLaws.{given_once}
use Rattle.xd_auto.specs.Traces.{KeepsTogether, trace_of}
use Rattle.xd_patterns.specs.Marked.{Marking, IsCompiled, with_marks, moves_of}
use Rattle.xd_patterns.proofs.MarksLaw.{owned_trace}
use Rattle.xd_clauses.specs.Laws.{CompiledKeepTogether, CompiledTell}

pub keeps_together : (E : Definitions) (P : Tree) (a : Automaton) (k : Marking) (s : State) → IsCompiled E P a k s → (x : List ℕ) → KeepsTogether a (moves_of k x) s
keeps_together E P a k s c x d run acc = subst IsTogether (owned_trace a k x s run) (c.together d run acc x)

module _ (P : Tree) (a : Automaton) (k : Marking) (s : State) (x : List ℕ) (there : has_word (occurrences P) x ≡ true) (d : Document) (run : Run ℕ) where
  -- the variable is bound once, to what the run gives it
  pub bound_to_held : (bs : List (List ℕ × Document)) → Agree (occurrences P) d (with_marks a k s run) bs → given x bs ≡ held d (trace_of a (moves_of k x) s run) ∷ []
  bound_to_held bs agree =
      agree x ∙ ap (λ b. cond b (held d (trace x (with_marks a k s run)) ∷ []) []) there ∙ ap (λ (t : Trace). held d t ∷ []) (owned_trace a k x s run)

  pub bound : (bs : List (List ℕ × Document)) → Agree (occurrences P) d (with_marks a k s run) bs → (e : Document) → IsOneOf (x, e) bs ↔ (e ≡ held d (trace_of a (moves_of k x) s run))
  bound bs agree e = (given_once x bs (held d (trace_of a (moves_of k x) s run)) (bound_to_held bs agree)).1 e

pub tells : CompiledTell
tells E P a k s c x there other t e proper = (
  λ g.
      let d = g.given.document in
      let w = c.ways d g.given.run g.given.accepting in
      (d, w.0, (g.given.proper proper, g.accepted, tt), w.1, (bound (unplaced P) a k s x there d g.given.run w.0.bindings w.2 e).1 (sym g.given.gives)),
  λ m.
      let r = c.runs m.0 m.1 m.3 in
      record {
        given = record {
          document = m.0;
          proper = λ _. m.2.0;
          run = r.0;
          accepting = r.1;
          gives = sym ((bound (unplaced P) a k s x there m.0 r.0 m.1.bindings r.2 e).0 m.4);
        };
        accepted = m.2.1;
      },
)

pub keep_together : CompiledKeepTogether
keep_together E P a k s c x = keeps_together E (unplaced P) a k s c x
