-- Answers of the checker.
use Rattle.std.specs.Prelude.{List}
use Rattle.xd_syntax.specs.Tree.{Definitions}
use Rattle.xd_meaning.specs.Consistent.{IsConsistent}
use Rattle.xd_meaning.specs.Violation as laws
use Rattle.xd_meaning.specs.Violation.{Lined, goals_of, IsFirstViolation, bad_form, bad_empty, bad_case, bad_split, bad_leaf}
use Rattle.xd_proof_check.specs.declared.verdict.Reason.{Reason}
use Rattle.xd_proof_check.specs.declared.verdict.Reason.TheVariants.{Form, Empty, Case, Split, Leaf}
use Rattle.xd_proof_check.specs.declared.verdict.ProofVerdict.{ProofVerdict}
use Rattle.xd_proof_check.specs.declared.verdict.ProofVerdict.TheVariants.{Accepted, Refused}

abbrev pub reason_of : Reason → laws.Reason
reason_of Form = bad_form
reason_of Empty = bad_empty
reason_of Case = bad_case
reason_of Split = bad_split
reason_of Leaf = bad_leaf

-- the verdict on a proof with these goals: that it is consistent, or its first violation
abbrev pub IsVerdict : Definitions → List Lined → ProofVerdict → Type 0
IsVerdict E goals Accepted = IsConsistent E (goals_of goals)
IsVerdict E goals (Refused line reason) = IsFirstViolation E goals line (reason_of reason)
