use Rattle.std.proofs.Common.{◌≡◌, [], ◌∷◌, ap, sym, subst, ◌∙◌}
use Rattle.xd_doc.specs.Document.{empty, join}
use Rattle.xd_doc.specs.Stored.{document_at}
use Rattle.xd_doc.proofs.Joins.{join_empty-right}
use Rattle.xd_match.specs.declared.binding.Piece.{Piece}
use Rattle.xd_match.specs.Taking.{pieces_then}
use Rattle.xd_match.proofs.Pieces.{nothing_in}
use Rattle.xd_match.proofs.binding.put_before.Goals as goal

pub returns-then-is_empty-clause-ok : goal.returns-then-is_empty-clause-ok
returns-then-is_empty-clause-ok c =
    let ds = c.args.store.now in
    let none : document_at ds c.args.made ≡ empty = nothing_in (document_at ds c.args.made) (sym c.if-is_empty.true ∙ c.is_empty.ensures ds c.requires.made) in
    let d = document_at ds c.in-Whole.seq in
    subst (λ (p : Piece). d ≡ pieces_then ds (p ∷ []) (document_at ds c.args.made)) (sym c.in-Whole.is) (sym (ap (join d) none ∙ join_empty-right d))
