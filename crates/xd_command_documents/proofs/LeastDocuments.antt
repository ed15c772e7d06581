-- Least documents of types, by states that accept what fits them.
use Rattle.std.proofs.Common.{◌≡◌, ◌<◌, ◌≤◌, inl, inr, length, length-append, sym, subst, ◌∙◌, arith}
use Rattle.std.specs.Prelude.{codes}
use Rattle.xd_doc.proofs.Bools.{not_true_and_false}
use Rattle.xd_auto.specs.Automaton.{Automaton}
use Rattle.xd_auto.specs.declared.auto.State.{State}
use Rattle.xd_doc.specs.Document.{Document, canonical_text}
use Rattle.xd_doc.specs.Least.{IsLeast}
use Rattle.xd_doc.specs.LeastUpTo.{IsLeastUpTo}
use Rattle.xd_least.specs.Least.{size_limit}
use Rattle.xd_least.proofs.SizeLemmas.{least_written}
use Rattle.xd_syntax.specs.Tree.{Tree, Definitions}
use Rattle.xd_command_steps.specs.Output.{Output, canonical}
use Rattle.xd_command_documents.specs.FitsByState.{IsAcceptor}
use Rattle.xd_command_documents.specs.Least.{AnswersLeastOf}
use Rattle.xd_command_documents.specs.LeastByState.{TellsLeast}

-- what is written after a document's text is no shorter
pub least_canonical : (In : Document → Type 0) (d : Document) (o : Output) → IsLeastUpTo size_limit In d → o ≡ canonical d → length o.text < size_limit → IsLeast In d
least_canonical In d o w e fits = least_written In d o.text w (subst (λ (p : Output). length (canonical_text d) ≤ length p.text) (sym e) (omega (arith, length-append (canonical_text d) (codes "\n")))) fits

-- what a least document of a state says of a type
pub least_by_state : (E : Definitions) (T : Tree) (a : Automaton) (s : State) (o : Output) → IsAcceptor E T a s → TellsLeast a s o → AnswersLeastOf E T o
least_by_state E T a s o acceptor (inl h) = inl (
  h.0,
  record {
    within = record { proper = h.1; fits = (acceptor.1 h.0).0 h.2.within };
    least = λ e f. h.2.least e ((acceptor.1 e).1 f.fits);
  },
  h.3,
)
least_by_state E T a s o acceptor (inr h) = inr ((λ d f. not_true_and_false (sym (h.0 d) ∙ (acceptor.1 d).1 f.fits)), h.1)
