use Rattle.std.proofs.Common.{◌↔◌, IsTrue, subst}
use Rattle.xd_doc.specs.Document.{Document}
use Rattle.xd_syntax.specs.Tree.{Tree}
use Rattle.xd_syntax.specs.Fits as types
use Rattle.xd_meaning.specs.FitsWithin as unfolded
use Rattle.xd_plain.specs.PlainDocuments.{document_of}
use Rattle.xd_plain.specs.PlainTrees.{tree_of, definitions_of}
use Rattle.xd_syntax.specs.Program.{names_of}
use Rattle.xd_plain.proofs.SplitsLemmas.{if_ok}
use Rattle.xd_laws.proofs.TheLaws.{fits_settles}
use Rattle.xd_plain.proofs.fits.fits_within.Goals as goal

pub returns-clause-enough : goal.returns-clause-enough
returns-clause-enough c P s e h =
    let n = c.args.unfoldings in
    let T : Tree = tree_of c.args.tree.now in
    let d : Document = document_of c.args.document.now in
    let E = definitions_of c.args.definitions.now in
    if_ok (λ b. IsTrue b ↔ unfolded.FitsWithin E n T d) (λ b. IsTrue b ↔ types.Fits (names_of P) T d)
    (λ b k. let w = fits_settles P s T d n h in
    let m = subst (λ F. IsTrue b ↔ unfolded.FitsWithin F n T d) e k in (λ y. w.1 (m.0 y), λ f. m.1 (w.0 f)))
    c.is_fitting.result c.is_fitting.ensures
