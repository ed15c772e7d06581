-- What the variables of a clause are given by first matches.
use Rattle.std.proofs.Common.{◌≡◌, ◌↔◌, ℕ, true, List, [], Option, Some, None, IsSomeAnd, refl, ap, sym, ◌∙◌}
use Rattle.xd_doc.specs.Document.{Document, is_proper}
use Rattle.xd_doc.specs.Runs.{held}
use Rattle.xd_auto.specs.declared.auto.State.{State}
use Rattle.xd_auto.specs.Automaton.{Automaton}
use Rattle.xd_syntax.specs.Words.{has_word}
use Rattle.xd_syntax.specs.Tree.{Definitions}
use Rattle.xd_syntax.specs.Placed.{PlacedTree, unplaced}
use Rattle.xd_syntax.specs.May.{IsLive, NoneTakes}
use Rattle.xd_syntax.specs.Ways.{Takes}
use Rattle.xd_meaning.specs.Bindings.{variables_of}
use Rattle.xd_meaning.specs.FirstMatch.{first}
use Rattle.xd_meaning.specs.Meaning.{Environment, looked_up}
use Rattle.xd_laws.proofs.DecisionLemmas.{first_way}
use Rattle.xd_auto.specs.Traces.{Owned}
use Rattle.xd_bind.specs.declared.tracks.Given.{Given}
use Rattle.xd_auto.proofs.SameMoves.{SameMoves, trace_same}
use Rattle.xd_patterns.specs.CompiledProgram.{marking_of_program}
use Rattle.xd_patterns.specs.Marked.{moves_of}
use Rattle.xd_clauses.specs.Clauses.{Accepted, AreGivensOf}
use Rattle.xd_clauses.specs.Compiled.{AreRunsGivens, IsNumbered, RunsGive, state_of}
use Rattle.xd_clauses.specs.declared.compiled.CompiledPatterns.{CompiledPatterns}
use Rattle.xd_clauses.proofs.NumberedLemmas.{all_given, numbered_state}
use Rattle.xd_prefer.specs.Preferred.{Prefers}
use Rattle.xd_prefer.proofs.FirstTellLaw.{preferred, prefers}

module _ (E : Definitions) (P : PlacedTree) (m : CompiledPatterns) (n : ℕ) (i : IsNumbered E (unplaced P) m n) (q : Automaton) (t : State) where
  -- what the same moves give
  same_first : (b c : Owned) → SameMoves b c → (e : Document) → RunsGive true q m n t b e → RunsGive true q m n t c e
  same_first b c h e g = record {
    document = g.document;
    proper = g.proper;
    run = g.run;
    first = g.first;
    gives = ap (λ r. held g.document r) (sym (trace_same m.states.auto b c h (state_of m n) g.run)) ∙ g.gives;
    alone = g.alone;
  }

  tells_first : (x : List ℕ) → has_word (variables_of (unplaced P)) x ≡ true → (e : Document) → is_proper e ≡ true → RunsGive true q m n t (moves_of (marking_of_program m.compiled) x) e ↔ Prefers E (Accepted q t) [] P x e
  tells_first x there e proper =
      let k = marking_of_program m.compiled in
      let s = state_of m n in
      let c = (numbered_state E (unplaced P) m n i).compiled in
      (λ g. prefers E P m.states k s c x there q t e proper g, λ w. preferred E P m.states k s c x there q t e w)

  pub all_preferred : (made : Automaton) (bs : List Given) → AreRunsGivens true q m n t made bs → AreGivensOf (Prefers E (Accepted q t) [] P) P made bs
  all_preferred made bs c = all_given E P m n i (Prefers E (Accepted q t) [] P) (RunsGive true q m n t) same_first tells_first made bs c

-- ---- a pattern that takes nothing that comes

-- the pattern takes what its first match is on
first_takes : (E : Definitions) (P : PlacedTree) (x : List ℕ) (d whole : Document) → IsSomeAnd (first E (unplaced P) whole) (λ bs. looked_up bs x ≡ Some d) → Takes E (unplaced P) whole
first_takes E P x d whole h = go (first E (unplaced P) whole) refl h
  where
    go : (o : Option Environment) → first E (unplaced P) whole ≡ o → IsSomeAnd o (λ bs. looked_up bs x ≡ Some d) → Takes E (unplaced P) whole
    go None e k = absurd k
    go (Some bs) e k = let w = first_way E (unplaced P) whole bs e in (w.0, w.1)

pub nothing_preferred : (E : Definitions) (A : Document → Type 0) (P : PlacedTree) → (IsLive E A [] P → ⊥) → (x : List ℕ) (d : Document) → Prefers E A [] P x d → ⊥
nothing_preferred E A P dead x d m = dead (m.0, m.1, first_takes E P x d m.0 m.2)

-- ---- where of what the pattern takes B is what is left of A after the earlier patterns

pub prefers_same : (E : Definitions) (A B : Document → Type 0) (earlier : List PlacedTree) (P : PlacedTree) → ((d : Document) → is_proper d ≡ true → Takes E (unplaced P) d → B d ↔ (A d × NoneTakes E earlier d)) →
    (x : List ℕ) (e : Document) → Prefers E B [] P x e ↔ Prefers E A earlier P x e
prefers_same E A B earlier P left x e = (
  λ m. let r = (left m.0 (m.1).0 (first_takes E P x e m.0 m.2)).0 (m.1).1 in (m.0, ((m.1).0, r.0, r.1), m.2),
  λ m. (m.0, ((m.1).0, (left m.0 (m.1).0 (first_takes E P x e m.0 m.2)).1 ((m.1).1, (m.1).2), tt), m.2),
)
