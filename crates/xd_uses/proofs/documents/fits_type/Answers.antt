use Rattle.std.proofs.Common.{◌≡◌, Bool, true, sym, subst}
use Rattle.std.specs.Prelude.{◌↔◌}
use Rattle.xd_doc.specs.Stored.{document_at}
use Rattle.xd_heads.specs.Mirrors.{Mirrors}
use Rattle.xd_syntax.specs.Fits.{Fits}
use Rattle.xd_syntax.specs.Kept.{program_tree}
use Rattle.xd_syntax.specs.Program.{names_of}
use Rattle.xd_syntax.specs.Types.{tree}
use Rattle.xd_uses.proofs.documents.fits_type.Goals as goal

pub compile_type-requires-clause-mirrors : goal.compile_type-requires-clause-mirrors
compile_type-requires-clause-mirrors c = subst (Mirrors c.args.sound.now c.new-cells.result) (sym c.new-auto.ensures) (c.new-cells.ensures.mirrors c.args.sound.now)

pub returns : goal.returns
returns c =
    let p = c.args.sound.now in
    let d = document_at c.args.store.now c.args.document in
    subst (λ (b : Bool). (b ≡ true) ↔ Fits (names_of (program_tree p)) (tree p.types c.args.id) d) (sym c.member.ensures.answer) (c.in_ok-state.ensures.accepts d)
