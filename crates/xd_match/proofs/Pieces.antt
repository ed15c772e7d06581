-- Documents of pieces.
use Rattle.std.proofs.Common.{ℕ, zero, suc, ◌≡◌, ◌<◌, true, not, List, [], ◌∷◌, ◌++◌, length, drop, get_or, arith, refl, ap, ◌∙◌}
use Rattle.std.specs.List.{AllByRecursion}
use Rattle.xd_doc.specs.Document.{Document, empty, text, element, join, has_item}
use Rattle.xd_doc.specs.DocumentCode.{first_then}
use Rattle.xd_doc.specs.Stored.{document_at}
use Rattle.xd_doc.specs.StoreNodes.{Keeps}
use Rattle.xd_match.specs.declared.binding.Piece.{Piece}
use Rattle.xd_match.specs.declared.binding.Piece.TheVariants.{First, Whole}
use Rattle.xd_match.specs.Taking.{PieceBelongs, pieces_then}

pub piece_belongs : (ds : List Document) (ps : List Piece) (i : ℕ) (e : Piece) → AllByRecursion (PieceBelongs ds) ps → i < length ps → PieceBelongs ds (get_or ps i e)
piece_belongs ds [] i e h lt = absurd (omega arith)
piece_belongs ds (x ∷ xs) zero e h lt = h.0
piece_belongs ds (x ∷ xs) (suc i) e h lt = piece_belongs ds xs i e h.1 (omega arith)

-- one more piece in front
pub pieces_more : (ds : List Document) (ps : List Piece) (i : ℕ) (e : Piece) (d : Document) → i < length ps
    → pieces_then ds (drop i ps) d ≡ pieces_then ds (get_or ps i e ∷ []) (pieces_then ds (drop (suc i) ps) d)
pieces_more ds [] i e d lt = absurd (omega arith)
pieces_more ds (First s ∷ xs) zero e d lt = refl
pieces_more ds (Whole s ∷ xs) zero e d lt = refl
pieces_more ds (x ∷ xs) (suc i) e d lt = pieces_more ds xs i e d (omega arith)

pub pieces_none : (ds : List Document) (ps : List Piece) (d : Document) → pieces_then ds (drop (length ps) ps) d ≡ d
pieces_none ds [] d = refl
pieces_none ds (x ∷ xs) d = pieces_none ds xs d

-- pieces stand for the same where a store keeps its documents
pub pieces_kept : (old new : List Document) (ps : List Piece) (d : Document) → Keeps old new → AllByRecursion (PieceBelongs old) ps → pieces_then new ps d ≡ pieces_then old ps d
pieces_kept old new [] d k h = refl
pieces_kept old new (First s ∷ xs) d k h =
    ap (λ (z : Document). first_then z (pieces_then new xs d)) (k.same s h.0) ∙ ap (first_then (document_at old s)) (pieces_kept old new xs d k h.1)
pieces_kept old new (Whole s ∷ xs) d k h =
    ap (λ (z : Document). join z (pieces_then new xs d)) (k.same s h.0) ∙ ap (join (document_at old s)) (pieces_kept old new xs d k h.1)

pub one_kept : (old new : List Document) (p : Piece) (d : Document) → Keeps old new → PieceBelongs old p → pieces_then new (p ∷ []) d ≡ pieces_then old (p ∷ []) d
one_kept old new p d k h = pieces_kept old new (p ∷ []) d k (h, tt)

pub kept_belongs : (old new : List Document) (p : Piece) → Keeps old new → PieceBelongs old p → PieceBelongs new p
kept_belongs old new (First s) k h = k.belongs s h
kept_belongs old new (Whole s) k h = k.belongs s h

pub all_kept : (old new : List Document) (ps : List Piece) → Keeps old new → AllByRecursion (PieceBelongs old) ps → AllByRecursion (PieceBelongs new) ps
all_kept old new [] k h = tt
all_kept old new (x ∷ xs) k h = (kept_belongs old new x k h.0, all_kept old new xs k h.1)

pub pieces_append : (ds : List Document) (ps qs : List Piece) (d : Document) → pieces_then ds (ps ++ qs) d ≡ pieces_then ds ps (pieces_then ds qs d)
pieces_append ds [] qs d = refl
pieces_append ds (First s ∷ ps) qs d = ap (first_then (document_at ds s)) (pieces_append ds ps qs d)
pieces_append ds (Whole s ∷ ps) qs d = ap (join (document_at ds s)) (pieces_append ds ps qs d)

pub nothing_in : (d : Document) → true ≡ not (has_item d) → d ≡ empty
nothing_in empty e = refl
nothing_in (text t d) e = absurd (cc)
nothing_in (element l c d) e = absurd (cc)
