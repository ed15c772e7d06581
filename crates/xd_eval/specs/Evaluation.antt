-- What an evaluation of an accepted program comes to.
use Rattle.std.specs.Prelude.{◌≡◌, ℕ, ◌-◌, ◌≤◌, List, Option, Some, None}
use Rattle.xd_doc.specs.Document.{Document}
use Rattle.xd_doc.specs.Stored.{document_at}
use Rattle.xd_doc.specs.StoredSeq.{BelongsTo}
use Rattle.xd_syntax.specs.Words.{main_word}
use Rattle.xd_syntax.specs.Fits.{Fits}
use Rattle.xd_syntax.specs.Types.{tree}
use Rattle.xd_syntax.specs.Program.{ProgramTree, FunctionDefinition, names_of, function_of}
use Rattle.xd_syntax.specs.Kept.{ProgramTable, program_tree}
use Rattle.xd_syntax.specs.SoundTables.{main_parameter}
use Rattle.xd_meaning.specs.Meaning.{meaning, Done, Spent}
use Rattle.xd_syntax.specs.declared.types.TypeId.{TypeId}
use Rattle.xd_laws.specs.Safety.{IsValueOf}
use Rattle.xd_eval.specs.declared.evaluation.Outcome.{Outcome}
use Rattle.xd_eval.specs.declared.evaluation.Outcome.TheVariants as outcomes

abbrev pub FitsParameter : ProgramTable → Document → Option TypeId → Type 0
FitsParameter p d None = ⊥
FitsParameter p d (Some t) = Fits (names_of (program_tree p)) (tree p.types t) d

-- there is a `main` with one parameter, whose type the document fits
abbrev pub IsInput : ProgramTable → Document → Type 0
IsInput p d = FitsParameter p d (main_parameter p.functions)

-- The value that the program means, and the calls that it took; or more calls are needed.
abbrev pub IsEvaluated : ProgramTable → (input : Document) (fuel : ℕ) → List Document → Outcome → Type 0
IsEvaluated p d fuel ds (outcomes.Value seq calls) =
    BelongsTo ds seq × (calls ≤ fuel) × (meaning (program_tree p) fuel d ≡ Done (document_at ds seq) (fuel - calls))
IsEvaluated p d fuel ds outcomes.Spent = meaning (program_tree p) fuel d ≡ Spent

-- a value is of the result type that `main` declares
abbrev pub IsOfDeclared : ProgramTree → List Document → Outcome → Type 0
IsOfDeclared P ds (outcomes.Value seq calls) =
    (main : FunctionDefinition) → function_of P.functions main_word ≡ Some main → IsValueOf (names_of P) main.declared (document_at ds seq)
IsOfDeclared P ds outcomes.Spent = Unit {0}
