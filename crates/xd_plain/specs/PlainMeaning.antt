-- What a plain evaluation tells.
use Rattle.std.specs.Prelude.{◌≡◌, ℕ, ◌≤◌, List, [], ◌∷◌, map, Result, MatchResult}
use Rattle.xd_doc.specs.Document.{Document}
use Rattle.xd_meaning.specs.Meaning as M
use Rattle.xd_meaning.specs.Meaning.{Outcome, Environment, Matcher, value_by, values_by, chosen_by, call_within}
use Rattle.xd_syntax.specs.Tree.{Tree, Definitions}
use Rattle.xd_syntax.specs.Ways.{unfoldings}
use Rattle.xd_meaning.specs.FirstMatch.{first}
use Rattle.xd_meaning.specs.FirstWithin.{first_within}
use Rattle.xd_syntax.specs.Words.{main_word}
use Rattle.xd_syntax.specs.Expression.{Expression, Arguments, Clauses}
use Rattle.xd_syntax.specs.Program.{ProgramTree, names_of}
use Rattle.xd_plain.specs.PlainDocuments.{document_of}
use Rattle.xd_plain.specs.PlainWays.{bindings_of}
use Rattle.xd_plain.specs.PlainPrograms.{program_of}
use Rattle.xd_plain.specs.declared.document.PlainDocument.{PlainDocument}
use Rattle.xd_plain.specs.declared.ways.PlainBinding.{PlainBinding}
use Rattle.xd_plain.specs.declared.program.PlainProgram.{PlainProgram}
use Rattle.xd_plain.specs.declared.evaluate.Valued.{Valued}
use Rattle.xd_plain.specs.declared.evaluate.AllValued.{AllValued}
use Rattle.xd_plain.specs.declared.evaluate.NoValue.{NoValue}
use Rattle.xd_plain.specs.declared.evaluate.NoValue.TheVariants.{Spent, Stuck, NoMemory}

-- the outcome is this one; running out of memory tells nothing
abbrev pub IsWithout : {A : Type 0} → NoValue → Outcome A → Type 0
IsWithout Spent o = o ≡ M.Spent
IsWithout Stuck o = o ≡ M.Stuck
IsWithout NoMemory o = Unit {0}

-- the answer is the outcome, where what is found stands for this one; running out of memory tells
-- nothing
abbrev pub Tells : {T A : Type 0} → (T → Outcome A) → Result T NoValue → Outcome A → Type 0
Tells stands_for r o = MatchResult r (λ found. o ≡ stands_for found) (λ why. IsWithout why o)

abbrev pub documents_of : List PlainDocument → List Document
documents_of ds = map document_of ds

abbrev pub done : Valued → Outcome Document
done v = M.Done (document_of v.document) v.left

abbrev pub all_done : AllValued → Outcome (List Document)
all_done v = M.Done (documents_of v.documents.items) v.left

abbrev pub IsAnswer : Result Valued NoValue → Outcome Document → Type 0
IsAnswer r o = Tells done r o

abbrev pub AreAnswers : Result AllValued NoValue → Outcome (List Document) → Type 0
AreAnswers r o = Tells all_done r o

-- whatever the matches of documents that need more than n unfoldings give, the outcome is the same
abbrev pub IsSettledWithin : Definitions → ℕ → (Matcher → Outcome Document) → Type 0
IsSettledWithin E n outcome =
    (m : Matcher) → ((T : Tree) (d : Document) → unfoldings E d ≤ n → m T d ≡ first E T d) → outcome m ≡ outcome (first E)

-- calls, values and the meaning of a program by these matches

abbrev pub call_with : Matcher → ProgramTree → ℕ → List ℕ → List Document → Outcome Document
call_with M P n f ds = call_within M P n n f ds

abbrev pub value_with : Matcher → ProgramTree → ℕ → Environment → Expression → Outcome Document
value_with M P n env e = value_by M (call_within M P n) n env e

abbrev pub meaning_with : Matcher → ProgramTree → ℕ → Document → Outcome Document
meaning_with M P n d = call_with M P n main_word (d ∷ [])

-- the first matches within u unfoldings
abbrev pub matches_of : PlainProgram → (u : ℕ) → Matcher
matches_of p u = first_within (names_of (program_of p)) u

-- with n calls left, where calls stand within one another at most k deep
abbrev pub value_of : PlainProgram → (u k n : ℕ) → List PlainBinding → Expression → Outcome Document
value_of p u k n vs e = value_by (matches_of p u) (call_within (matches_of p u) (program_of p) k) n (bindings_of vs) e

abbrev pub values_of : PlainProgram → (u k n : ℕ) → List PlainBinding → Arguments → Outcome (List Document)
values_of p u k n vs es = values_by (matches_of p u) (call_within (matches_of p u) (program_of p) k) n (bindings_of vs) es

abbrev pub chosen_of : PlainProgram → (u k n : ℕ) → List PlainBinding → Document → Clauses → Outcome Document
chosen_of p u k n vs d cs = chosen_by (matches_of p u) (call_within (matches_of p u) (program_of p) k) n (bindings_of vs) d cs
