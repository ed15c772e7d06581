-- Types by the numbers of their continuations.
use Rattle.std.proofs.Common.{◌≡◌, ℕ, ◌+◌, ◌<◌, arith, false, List, [], ◌∷◌, ◌++◌, map, length, get_or, Option, Some, None, refl, ap, sym, subst, ◌∙◌, inl, inr}
use Rattle.std.specs.List.{AllByRecursion}
use Rattle.std.proofs.lemmas.Bool.{cases_lt}
use Rattle.std.proofs.lemmas.List.{get_or_default, get_or_push}
use Rattle.std.proofs.Math.ListN.{get_or-append}
use Rattle.xd_syntax.specs.Kept.{ProgramTable}
use Rattle.xd_syntax.specs.Table.{Row, AreBuilt, tree_at}
use Rattle.xd_syntax.specs.Tree.{Tree, Empty, seq_of}
use Rattle.xd_syntax.specs.declared.types.TypeId.{TypeId}
use Rattle.xd_meaning.specs.Heads.{pieces}
use Rattle.xd_continuations.specs.Chains.{KeepsLinks, list_at}
use Rattle.xd_continuations.specs.Continuation.{head_of}
use Rattle.xd_continuations.proofs.ChainLemmas.{kept_length, list_none, one_number}
use Rattle.xd_continuations.proofs.IsMergedLemmas.{tree_merged}
use Rattle.xd_continuations.proofs.MoveLemmas.{seq_of-pieces, pieces-seq_of}
use Rattle.xd_moves.specs.Pieces.{AreFirst, IsFirst, piece_tree}
use Rattle.xd_moves.specs.declared.firsts.FirstPieces.{FirstPieces}
use Rattle.xd_moves.specs.declared.piece.Piece.{Piece}
use Rattle.xd_moves.specs.Cells.{Cell}
use Rattle.xd_moves.specs.Found.{IsContent, continuation, move_at}
use Rattle.xd_heads.specs.HeadList.{ContentBelongs, IsHeadFound, IsKindOf, content_at}
use Rattle.xd_heads.specs.Numbered.{AreNodeNumbers, IsNumberIn, IsHeadIn, Serves, Tell}
use Rattle.xd_moves.specs.declared.expansion.Found.{Found}
use Rattle.xd_heads.specs.declared.lister.HeadLister.{HeadLister}
use Rattle.xd_heads.specs.declared.listing.HeadKind.{HeadKind}
use Rattle.xd_heads.proofs.HeadLists.{stands_before}
use Rattle.xd_heads.proofs.Mirrored.{pieces_there}
use Rattle.xd_moves.proofs.PutsTasksLemmas.{continuation_kept}

-- a type keeps its number
pub number_kept : (types : List Row) (old new : List Cell) → KeepsLinks old new → (n : ℕ) (T : Tree) → IsNumberIn types old n T → IsNumberIn types new n T
number_kept types old new k n T i = record {
  within = let l = kept_length old new k in let w = i.within in omega arith;
  same = continuation_kept types old new k n i.within ∙ i.same;
  whole = i.whole;
}

-- the number of one more node
pub numbers_more : (types : List Row) (built : AreBuilt false types) (old new : List Cell) (n k : ℕ) (numbers : List ℕ) → length numbers ≡ n → n < length types → AreNodeNumbers types old n numbers →
    IsContent types old new (pieces (tree_at types n)) k → AreNodeNumbers types new (n + 1) (numbers ++ k ∷ [])
numbers_more types built old new n k numbers l h a c i w = elim (cases_lt i n) [
  | inl j ↦ subst (λ m. IsNumberIn types new m (tree_at types i)) (sym (get_or-append numbers (k ∷ []) 0 i (omega arith))) (number_kept types old new c.cells.kept (get_or numbers i 0) (tree_at types i) (a i j))
  | inr j ↦
      (let e : i ≡ n = omega arith in
      subst (λ m. IsNumberIn types new m (tree_at types i)) (sym (get_or_push numbers k 0 i (l ∙ sym e)))
      (record {
        within = c.within;
        same = c.same ∙ ap (λ m. pieces (tree_at types m)) (sym e);
        whole = seq_of-pieces (tree_at types i) (tree_merged types built i (omega arith));
      }))
]

-- ---- equal types

same_pieces : (types : List Row) (f : FirstPieces) → AreFirst types f → (xs ys : List Piece) → AllByRecursion (IsFirst types f) xs → AllByRecursion (IsFirst types f) ys →
    map (piece_tree types) xs ≡ map (piece_tree types) ys → xs ≡ ys
same_pieces types f a [] [] p q e = refl
same_pieces types f a [] (y ∷ ys) p q e = cc
same_pieces types f a (x ∷ xs) [] p q e = cc
same_pieces types f a (x ∷ xs) (y ∷ ys) p q e =
    let t : piece_tree types x ≡ piece_tree types y = cc in
    let r : map (piece_tree types) xs ≡ map (piece_tree types) ys = cc in
    let v = p.0 in
    let w = q.0 in
    let s : piece_tree types v.0 ≡ piece_tree types w.0 =
    sym (a.same v.0 v.1) ∙ ap (piece_tree types) (sym v.2) ∙ t ∙ ap (piece_tree types) w.2 ∙ a.same w.0 w.1 in
    let h : x ≡ y = v.2 ∙ a.one v.0 w.0 v.1 w.1 s ∙ sym w.2 in
    let i = same_pieces types f a xs ys p.1 q.1 r in cc

pub numbers_tell : (p : ProgramTable) (l : HeadLister) → Serves p l → Tell p.types l.cells
numbers_tell p l s m n T U a b = (
  λ e. sym a.whole ∙ ap seq_of (sym a.same ∙ ap (continuation p.types l.cells) e ∙ b.same) ∙ b.whole,
  λ e. one_number l.cells s.links m n a.within b.within
      (same_pieces p.types l.firsts s.firsts (list_at l.cells m) (list_at l.cells n)
      (pieces_there (IsFirst p.types l.firsts) l.cells s.chosen m) (pieces_there (IsFirst p.types l.firsts) l.cells s.chosen n)
      (a.same ∙ ap pieces e ∙ sym b.same)),
)

-- ---- heads

none_numbered : (types : List Row) (cells : List Cell) → IsNumberIn types cells 0 Empty
none_numbered types cells = record { within = omega arith; same = ap (map (piece_tree types)) (list_none cells); whole = refl }

-- a head that was found
pub head_numbered : (p : ProgramTable) (l : HeadLister) → Serves p l → (f : Found) → IsHeadFound p l.cells f → (kind : HeadKind) (inside : Option TypeId) →
    IsKindOf p.types (tree_at p.types f.node) (kind, inside) → (content : ℕ) → IsNumberIn p.types l.cells content (content_at p.types inside) →
    IsHeadIn p.types l.cells (record { kind = kind; content = content; rest = f.rest }) (head_of (move_at p.types l.cells f))
head_numbered p l s f i kind inside k content n =
    let K = continuation p.types l.cells f.rest in
    let T = tree_at p.types f.node in
    let b = stands_before T K in
    let again = pieces-seq_of K i.pieces in
    record {
      kind = k.kind ∙ sym b.kind;
      content = subst (IsNumberIn p.types l.cells content) (k.content i.merged ∙ sym (ap seq_of b.content)) n;
      rest = subst (IsNumberIn p.types l.cells f.rest) (sym (ap seq_of b.rest))
          (record { within = i.found.1; same = sym again; whole = ap seq_of again });
    }

-- a head is made
pub head_made : (p : ProgramTable) (types : List Row) → p.types ≡ types → (l : HeadLister) → Serves p l → (f : Found) → IsHeadFound p l.cells f → (kind : HeadKind) (inside : Option TypeId) →
    IsKindOf types (tree_at types f.node) (kind, inside) → (content : ℕ) → ((part : TypeId) → inside ≡ Some part → content ≡ get_or l.numbers.items part.at content) → (inside ≡ None → content ≡ 0) →
    IsHeadIn types l.cells (record { kind = kind; content = content; rest = f.rest }) (head_of (move_at types l.cells f))
head_made p types e l s f i kind inside k content some none =
    subst (λ ts. IsHeadIn ts l.cells (record { kind = kind; content = content; rest = f.rest }) (head_of (move_at ts l.cells f))) e
    (let k' = subst (λ ts. IsKindOf ts (tree_at ts f.node) (kind, inside)) (sym e) k in
    head_numbered p l s f i kind inside k' content (go inside k'.belongs some none))
  where
    go : (o : Option TypeId) → ContentBelongs p.types o → ((part : TypeId) → o ≡ Some part → content ≡ get_or l.numbers.items part.at content) → (o ≡ None → content ≡ 0) →
        IsNumberIn p.types l.cells content (content_at p.types o)
    go (Some part) b x y = subst (λ n. IsNumberIn p.types l.cells n (tree_at p.types part.at)) (sym (x part refl ∙ get_or_default l.numbers.items part.at content 0 (let c = s.count in omega arith))) (s.numbers part.at b)
    go None b x y = subst (λ n. IsNumberIn p.types l.cells n Empty) (sym (y refl)) (none_numbered p.types l.cells)
