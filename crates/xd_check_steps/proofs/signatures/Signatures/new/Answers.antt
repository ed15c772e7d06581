use Rattle.std.proofs.Common.{◌≡◌, ℕ, List, ap, sym, subst, ◌∙◌, length, Option}
use Rattle.xd_syntax.specs.FunctionRow.{FunctionRow}
use Rattle.xd_syntax.specs.Kept.{ProgramTable, program_tree}
use Rattle.xd_syntax.specs.Program.{function_of, names_of}
use Rattle.xd_meaning.specs.KeptFaults.{AllPaired}
use Rattle.xd_patterns.specs.CompiledProgram.{AcceptsType}
use Rattle.xd_check_steps.specs.Signed.{HasParameters, IsSignatureOf, number_from, signature_at, types_declared}
use Rattle.xd_check_steps.proofs.AreTypeStatesLemmas.{rows_signed}
use Rattle.xd_check_steps.proofs.FunctionRowLemmas.{named_first}
use Rattle.xd_check_steps.proofs.signatures.Signatures.new.Goals as goal

pub signatures_of-requires : goal.signatures_of-requires
signatures_of-requires c =
    let p : ProgramTable = c.args.sound.now in
    let same : c.functions-functions.result.now ≡ p.functions = c.functions-functions.ensures.functions ∙ ap (λ (q : ProgramTable). q.functions) c.program.ensures.program in
    c.requires ∙ ap (λ fs. length (types_declared fs)) (sym same)

pub returns : goal.returns
returns c =
    λ a accept.
    let p : ProgramTable = c.args.sound.now in
    let same : c.functions-functions.result.now ≡ p.functions = c.functions-functions.ensures.functions ∙ ap (λ (q : ProgramTable). q.functions) c.program.ensures.program in
    let rows = c.in_ok-rows.rows.items in
    let counts : AllPaired HasParameters p.functions rows = subst (λ fs. AllPaired HasParameters fs rows) same c.in_ok-rows.ensures.parameters in
    let each = rows_signed p a p.functions rows counts
    (subst (AllPaired (λ id s. AcceptsType (names_of (program_tree p)) p.types a id s) (types_declared p.functions)) c.in_ok-rows.ensures.states accept) in
    record {
      each = each;
      named = λ w. subst (λ (o : Option ℕ). IsSignatureOf (names_of (program_tree p)) a (function_of (program_tree p).functions w) (signature_at rows o))
          (sym (c.in_ok-numbers.ensures w ∙ ap (λ (fs : List FunctionRow). number_from 0 fs w) same))
          (named_first (names_of (program_tree p)) a p w p.functions rows each);
    }
