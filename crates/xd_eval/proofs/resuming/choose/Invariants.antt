use Rattle.std.proofs.Common.{◌≡◌, ℕ, ◌≤◌, drop}
use Rattle.xd_doc.specs.StoreNodes.{Keeps}
use Rattle.xd_doc.specs.Stored.{document_at}
use Rattle.xd_syntax.specs.Exprs.{clause_numbers}
use Rattle.xd_meaning.specs.Meaning.{Environment, chosen_by}
use Rattle.xd_eval.specs.Waiting.{clause_steps}
use Rattle.xd_eval.specs.Machine.{matcher, caller, clauses_in}
use Rattle.xd_eval.proofs.resuming.choose.Given as goal

-- the clauses so far don't take the document
abbrev pub invariant-loop-clause : goal.invariant-loop-clause
invariant-loop-clause g l =
    record {
      serves : g.M.Matching.serves l.matching l.sound l.store;
      keeps : Keeps l.fn.store l.store;
      same : (env : Environment) (n : ℕ) → chosen_by (matcher l.sound) (caller l.sound) n env (document_at l.fn.store l.seq) (clauses_in l.sound (clause_numbers l.clauses))
          ≡ chosen_by (matcher l.sound) (caller l.sound) n env (document_at l.fn.store l.seq) (clauses_in l.sound (clause_numbers (drop l.clause-index l.clauses)));
      less : clause_steps (clauses_in l.sound (clause_numbers (drop l.clause-index l.clauses))) ≤ clause_steps (clauses_in l.sound (clause_numbers l.clauses));
    }
