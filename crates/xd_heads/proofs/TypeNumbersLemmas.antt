-- Continuations as types of a program that grows.
use Rattle.std.proofs.Common.{◌≡◌, ◌≤◌, ◌<◌, ℕ, arith, true, false, ◌||◌, List, [], ◌∷◌, ◌++◌, map, length, append_assoc, append-nil, refl, ap, sym, subst, ◌∙◌}
use Rattle.std.specs.List.{AllByRecursion}
use Rattle.xd_doc.proofs.Lists.{all_more, all_append, map_append}
use Rattle.xd_syntax.specs.Tree.{Tree, Empty, Text, Words, Name, Elem, Seq, Alt, Star, Plus, Opt, Val, is_empty}
use Rattle.xd_syntax.specs.TreeForms.{is_seq}
use Rattle.xd_syntax.specs.Table.{Row, IsSeqPart, KeepsRows, tree_at}
use Rattle.xd_syntax.specs.Types.{type_numbers}
use Rattle.xd_syntax.specs.SoundTables.{IsTypeAt}
use Rattle.xd_syntax.specs.Kept.{ProgramTable}
use Rattle.xd_syntax.specs.declared.types.TypeId.{TypeId}
use Rattle.xd_continuations.specs.Continuation.{is_piece, IsContinuation}
use Rattle.xd_continuations.specs.Chains.{list_at}
use Rattle.xd_moves.specs.Pieces.{piece_tree}
use Rattle.xd_moves.specs.Found.{continuation}
use Rattle.xd_heads.specs.Growing.{GrowsTypes}
use Rattle.xd_moves.specs.Cells.{Cell}
use Rattle.xd_continuations.proofs.ChainLemmas.{list_none}
use Rattle.xd_heads.proofs.GrowsTypesLemmas.{grows_then}
use Rattle.xd_continuations.proofs.GrownTables.{tree_stays, more_rows}
use Rattle.xd_heads.proofs.Mirrored.{piece_stays}

-- the first pieces have their types
pub record IsTyping (p q : ProgramTable) (cells : List Cell) (number at : ℕ) (ids : List TypeId) : Type 0 where
  pub grows : GrowsTypes p q
  pub within : at ≤ length cells
  pub there : AllByRecursion (λ i. i < length q.types) (type_numbers ids)
  pub trees : map (tree_at q.types) (type_numbers ids) ++ continuation p.types cells at ≡ continuation p.types cells number

numbers_push : (ids : List TypeId) (id : TypeId) → type_numbers (ids ++ id ∷ []) ≡ type_numbers ids ++ id.at ∷ []
numbers_push [] id = refl
numbers_push (i ∷ ids) id = ap (λ ns. i.at ∷ ns) (numbers_push ids id)

pub trees_stay : (old new : List Row) → KeepsRows old new → (ns : List ℕ) → AllByRecursion (λ i. i < length old) ns → map (tree_at new) ns ≡ map (tree_at old) ns
trees_stay old new k [] a = refl
trees_stay old new k (n ∷ ns) a = let e = tree_stays old new k n a.0 in let i = trees_stay old new k ns a.1 in cc

pub there_stay : (old new : List Row) → KeepsRows old new → (ns : List ℕ) → AllByRecursion (λ i. i < length old) ns → AllByRecursion (λ i. i < length new) ns
there_stay old new k ns a = let l = more_rows old new k in all_more (λ i. i < length old) (λ i. i < length new) ns (λ i h. omega arith) a

pub typing_more : (p q r : ProgramTable) (cells : List Cell) (number at : ℕ) (ids : List TypeId) → IsTyping p q cells number at ids → (d : Cell) → list_at cells at ≡ d.item ∷ list_at cells d.behind → d.behind < at →
    d.item.node < length p.types → (id : TypeId) → IsTypeAt r.types (piece_tree q.types d.item) id → GrowsTypes q r → IsTyping p r cells number d.behind (ids ++ id ∷ [])
typing_more p q r cells number at ids t d l b h id made g = record {
  grows = grows_then p q r t.grows g;
  within = (let w = t.within in omega arith);
  there = subst (AllByRecursion (λ i. i < length r.types)) (sym (numbers_push ids id))
      (all_append (λ i. i < length r.types) (type_numbers ids) (id.at ∷ []) (there_stay q.types r.types g.adds.types (type_numbers ids) t.there) (made.belongs, tt));
  trees =
      ap (λ ns. map (tree_at r.types) ns ++ continuation p.types cells d.behind) (numbers_push ids id)
      ∙ ap (λ Ts. Ts ++ continuation p.types cells d.behind) (map_append (tree_at r.types) (type_numbers ids) (id.at ∷ []))
      ∙ append_assoc (map (tree_at r.types) (type_numbers ids)) (tree_at r.types id.at ∷ []) (continuation p.types cells d.behind)
      ∙ ap (λ Ts. Ts ++ (tree_at r.types id.at ∷ continuation p.types cells d.behind)) (trees_stay q.types r.types g.adds.types (type_numbers ids) t.there)
      ∙ ap (λ T. map (tree_at q.types) (type_numbers ids) ++ (T ∷ continuation p.types cells d.behind)) (made.same ∙ piece_stays p.types q.types t.grows.adds.types d.item h)
      ∙ ap (λ K. map (tree_at q.types) (type_numbers ids) ++ map (piece_tree p.types) K) (sym l)
      ∙ t.trees;
}

pub typing_all : (p q : ProgramTable) (cells : List Cell) (number at : ℕ) (ids : List TypeId) → IsTyping p q cells number at ids → at ≡ 0 →
    map (tree_at q.types) (type_numbers ids) ≡ continuation p.types cells number
typing_all p q cells number at ids t z =
    sym (append-nil (map (tree_at q.types) (type_numbers ids)))
    ∙ ap (λ K. map (tree_at q.types) (type_numbers ids) ++ map (piece_tree p.types) K) (sym (ap (list_at cells) z ∙ list_none cells)) ∙ t.trees

-- ---- a sequence of pieces

piece_alone : (T : Tree) → is_piece T ≡ true → (is_seq T || is_empty T) ≡ false
piece_alone Empty h = cc
piece_alone (Seq T U) h = cc
piece_alone Text h = refl
piece_alone (Words w) h = refl
piece_alone (Name x) h = refl
piece_alone (Elem c T) h = refl
piece_alone (Alt T U) h = refl
piece_alone (Star T) h = refl
piece_alone (Plus T) h = refl
piece_alone (Opt T) h = refl
piece_alone (Val x T) h = refl

pub seq_parts_of : (types : List Row) (ns : List ℕ) → AllByRecursion (λ i. i < length types) ns → (K : List Tree) → map (tree_at types) ns ≡ K → IsContinuation K → AllByRecursion (IsSeqPart types) ns
seq_parts_of types [] a K e k = tt
seq_parts_of types (n ∷ ns) a [] e k = cc
seq_parts_of types (n ∷ ns) a (T ∷ K) e k =
    let t : tree_at types n ≡ T = cc in
    let r : map (tree_at types) ns ≡ K = cc in
    ((a.0, ap (λ U. is_seq U || is_empty U) t ∙ piece_alone T (k.0).0), seq_parts_of types ns a.1 K r k.1)
