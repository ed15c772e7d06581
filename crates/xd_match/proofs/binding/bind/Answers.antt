use Rattle.std.proofs.Common.{◌≡◌, ◌-◌, ◌<◌, ℕ, suc, [], ◌∷◌, drop, length, arith, sym, ap, ◌∙◌, subst, get_or}
use Rattle.xd_doc.specs.Document.{empty}
use Rattle.xd_doc.specs.Stored.{document_at}
use Rattle.xd_doc.specs.StoreNodes.{no_items}
use Rattle.xd_doc.proofs.StoredLemmas.{Keeps-same, Keeps-trans, none_belongs}
use Rattle.xd_match.specs.declared.binding.Piece.{Piece}
use Rattle.xd_match.specs.declared.binding.Piece.TheVariants.{First}
use Rattle.xd_match.specs.Taking.{PieceBelongs, pieces_then}
use Rattle.xd_match.proofs.Pieces.{kept_belongs, one_kept, piece_belongs, pieces_more, pieces_none}
use Rattle.xd_match.proofs.binding.bind.Goals as goal

pub loop-left-init : goal.loop-left-init
loop-left-init c = record {
  within = omega arith;
  made = rw c.empty-made.ensures (none_belongs _);
  keeps = Keeps-same c.args.store.now;
  joined = rw c.empty-made.ensures (sym (pieces_none c.args.store.now c.args.pieces.now empty));
}

pub put_before-requires-clause-piece : goal.put_before-requires-clause-piece
put_before-requires-clause-piece c =
    let i : ℕ = c.loop-left.left - 1 in
    let inside : i < length c.args.pieces.now = omega (arith, c.loop-left.invariant.within, c.loop-left-test.true) in
    kept_belongs c.args.store.now c.loop-left.store (get_or c.args.pieces.now i (First no_items)) c.loop-left.invariant.keeps (piece_belongs c.args.store.now c.args.pieces.now i (First no_items) c.requires inside)

pub loop-left-preserved : goal.loop-left-preserved
loop-left-preserved c =
    let old = c.args.store.now in
    let ps = c.args.pieces.now in
    let i : ℕ = c.loop-left.left - 1 in
    let d : Piece = First no_items in
    let next : suc i ≡ c.loop-left.left = omega (arith, c.loop-left-test.true) in
    let inside : i < length ps = omega (arith, c.loop-left.invariant.within) in
    let belongs : PieceBelongs old (get_or ps i d) = piece_belongs old ps i d c.requires inside in
    let more : pieces_then old (drop i ps) empty ≡ pieces_then old (get_or ps i d ∷ []) (pieces_then old (drop c.loop-left.left ps) empty) =
    subst (λ (k : ℕ). pieces_then old (drop i ps) empty ≡ pieces_then old (get_or ps i d ∷ []) (pieces_then old (drop k ps) empty)) next (pieces_more old ps i d empty inside) in
    record {
      within = omega (arith, c.loop-left.invariant.within);
      made = c.in_ok-made.ensures.belongs;
      keeps = Keeps-trans _ _ _ c.loop-left.invariant.keeps c.put_before.ensures.keeps;
      joined = c.in_ok-made.ensures.ok ∙ one_kept old c.loop-left.store (get_or ps i d) (document_at c.loop-left.store c.loop-left.made) c.loop-left.invariant.keeps belongs
          ∙ ap (pieces_then old (get_or ps i d ∷ [])) c.loop-left.invariant.joined ∙ sym more;
    }
