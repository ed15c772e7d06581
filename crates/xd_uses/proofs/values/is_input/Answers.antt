use Rattle.std.proofs.Common.{◌≡◌, Option, Some, ap, sym, subst, ◌∙◌}
use Rattle.xd_doc.specs.Stored.{document_at}
use Rattle.xd_eval.specs.Evaluation.{FitsParameter}
use Rattle.xd_syntax.specs.Fits.{Fits}
use Rattle.xd_syntax.specs.Kept.{ProgramTable, program_tree}
use Rattle.xd_syntax.specs.Program.{names_of}
use Rattle.xd_syntax.specs.SoundTables.{main_parameter}
use Rattle.xd_syntax.specs.Types.{BelongsTo, tree}
use Rattle.xd_syntax.specs.declared.types.TypeId.{TypeId}
use Rattle.xd_uses.proofs.Parameters.{parameter_belongs}
use Rattle.xd_uses.proofs.values.is_input.Goals as goal

pub fits_type-requires-clause-id : goal.fits_type-requires-clause-id
fits_type-requires-clause-id c =
    let p = c.args.checked.now in
    let q = c.program-program.result.now in
    let id = c.in_ok-parameter.parameter in
    let same : q ≡ p = c.program-program.ensures.program ∙ c.sound.ensures.sound in
    let copy : c.in_ok-sound.sound ≡ p = c.in_ok-sound.ensures ∙ c.sound-2.ensures.sound in
    let e : main_parameter q.functions ≡ Some id = ap main_parameter (sym c.functions.ensures.functions) ∙ (sym c.parameter_of_main-parameter.ensures ∙ c.in_ok-parameter.ensures) in
    subst (λ (r : ProgramTable). BelongsTo r.types id) (same ∙ sym copy) (parameter_belongs q.types q.exprs q.functions id c.functions.ensures.stands.functions e)

pub returns : goal.returns
returns c = λ fits.
    let p = c.args.checked.now in
    let q = c.program-program.result.now in
    let id = c.in_ok-parameter.parameter in
    let d = document_at c.args.store.now c.args.document in
    let same : q ≡ p = c.program-program.ensures.program ∙ c.sound.ensures.sound in
    let copy : c.in_ok-sound.sound ≡ p = c.in_ok-sound.ensures ∙ c.sound-2.ensures.sound in
    let e : main_parameter p.functions ≡ Some id =
    ap (λ (r : ProgramTable). main_parameter r.functions) (sym same) ∙ (ap main_parameter (sym c.functions.ensures.functions) ∙ (sym c.parameter_of_main-parameter.ensures ∙ c.in_ok-parameter.ensures)) in
    subst (λ (o : Option TypeId). FitsParameter p d o) (sym e)
    (subst (λ (r : ProgramTable). Fits (names_of (program_tree r)) (tree r.types id) d) copy (c.in_ok-fits_type.ensures.0 fits))
