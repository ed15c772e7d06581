-- Heads that were found, as types of a program that grows.
use Rattle.std.proofs.Common.{◌≡◌, ◌≤◌, ◌<◌, ℕ, zero, suc, arith, Bool, true, false, cond, nat_eq, get_or, Option, Some, None, List, [], ◌∷◌, ◌++◌, map, length, refl, ap, sym, subst, ◌∙◌}
use Rattle.std.proofs.lemmas.Bool.{eqb-true}
use Rattle.std.specs.HashMap.{HashMap, get}
use Rattle.std.specs.List.{AllByRecursion}
use Rattle.xd_doc.proofs.Lists.{all_more, all_append, map_append}
use Rattle.xd_syntax.specs.Tree.{Tree, Empty, Text, Words, Name, Elem, Seq, Alt, Star, Plus, Opt, Val, Definitions, seq_of}
use Rattle.xd_syntax.specs.TypeDepth.{depth}
use Rattle.xd_syntax.specs.ShallowTables.{IsShallow}
use Rattle.xd_syntax.specs.Shallow.{nesting_limit}
use Rattle.xd_syntax.specs.Table.{Row, AreBuilt, KeepsRows, tree_at}
use Rattle.xd_syntax.specs.Types.{BelongsTo, tree}
use Rattle.xd_syntax.specs.Program.{names_of}
use Rattle.xd_syntax.specs.Kept.{ProgramTable, ProgramStands, program_tree}
use Rattle.xd_syntax.specs.declared.types.TypeId.{TypeId}
use Rattle.xd_doc.specs.Classes.{LabelClass, TextClass}
use Rattle.xd_syntax.specs.SoundTables.{IsTypeAt}
use Rattle.xd_sound.proofs.AdoptLaws.{type_kept}
use Rattle.xd_rules.specs.Heads.{HeadKind, element_in, text_in}
use Rattle.xd_meaning.specs.Heads.{heads, pieces, all_texts}
use Rattle.xd_rules.specs.Heads as inclusion
use Rattle.xd_continuations.specs.Continuation.{Move, moves, head_of, IsMerged, IsContinuation}
use Rattle.xd_continuations.specs.Depths.{IsNoDeeper}
use Rattle.xd_continuations.proofs.IsMergedLemmas.{tree_merged}
use Rattle.xd_continuations.proofs.MoveLemmas.{IsMove, pieces_stand, seq_of-pieces, moves_are_heads, moves_continue}
use Rattle.xd_continuations.proofs.NoneDeeperLemmas.{moves_no_deeper}
use Rattle.xd_continuations.specs.Chains.{KeepsLinks}
use Rattle.xd_continuations.proofs.ChainLemmas.{kept_then, list_none}
use Rattle.xd_moves.specs.Pieces.{piece_tree}
use Rattle.xd_moves.specs.Found.{continuation, move_of, move_at, AreOfTypes, AreMovesOf, IsFound}
use Rattle.xd_heads.specs.Growing.{GrowsTypes}
use Rattle.xd_heads.specs.HeadList.{kind_at, head_at, content_at, AreRestTypes, ContentBelongs, HeadBelongs, IsHeadAt, IsKindOf, IsHeadFound, AreHeadsFound}
use Rattle.xd_heads.specs.declared.listing.HeadKind.{HeadKind as RustKind}
use Rattle.xd_heads.specs.declared.listing.HeadKind.TheVariants.{Label, Text as Text_in}
use Rattle.xd_moves.specs.Cells.{Cell}
use Rattle.xd_moves.specs.declared.expansion.Found.{Found}
use Rattle.xd_heads.specs.declared.listing.Head.{Head}
use Rattle.xd_heads.proofs.AddingMoves.{none_deeper}
use Rattle.xd_heads.proofs.GrowsTypesLemmas.{grows_then}
use Rattle.xd_continuations.proofs.GrownTables.{tree_stays, more_rows, bodies_stand}
use Rattle.xd_heads.proofs.Mirrored.{continuation_stays, shallow_before}
use Rattle.xd_heads.proofs.KeepsStatesLemmas.{are_merged}

-- ---- one head

-- what stands after a move is no part of its kind and its content
pub record StandsBefore (T : Tree) (K : List Tree) : Type 0 where
  pub kind : (move_of T K).kind ≡ (move_of T []).kind
  pub content : (move_of T K).content ≡ (move_of T []).content
  pub rest : (move_of T K).rest ≡ K

pub stands_before : (T : Tree) (K : List Tree) → StandsBefore T K
stands_before Empty K = record { kind = refl; content = refl; rest = refl }
stands_before Text K = record { kind = refl; content = refl; rest = refl }
stands_before (Words w) K = record { kind = refl; content = refl; rest = refl }
stands_before (Name x) K = record { kind = refl; content = refl; rest = refl }
stands_before (Elem c T) K = record { kind = refl; content = refl; rest = refl }
stands_before (Seq T U) K = record { kind = refl; content = refl; rest = refl }
stands_before (Alt T U) K = record { kind = refl; content = refl; rest = refl }
stands_before (Star T) K = record { kind = refl; content = refl; rest = refl }
stands_before (Plus T) K = record { kind = refl; content = refl; rest = refl }
stands_before (Opt T) K = record { kind = refl; content = refl; rest = refl }
stands_before (Val x T) K = record { kind = refl; content = refl; rest = refl }

pub same_head : (k l : HeadKind) (C D R S : Tree) → k ≡ l → C ≡ D → R ≡ S →
    (let h : inclusion.Head Tree = record { kind = k; content = C; rest = R } in h) ≡ (let h : inclusion.Head Tree = record { kind = l; content = D; rest = S } in h)
same_head k l C D R S a b c =
    ap (λ (x : HeadKind). let h : inclusion.Head Tree = record { kind = x; content = C; rest = R } in h) a
    ∙ ap (λ (x : Tree). let h : inclusion.Head Tree = record { kind = l; content = x; rest = R } in h) b
    ∙ ap (λ (x : Tree). let h : inclusion.Head Tree = record { kind = l; content = D; rest = x } in h) c

pub elem_kind : (types : List Row) (T : Tree) (k copy : LabelClass) (part : TypeId) → T ≡ Elem k (tree types part) → copy ≡ k → BelongsTo types part → IsKindOf types T (Label copy, Some part)
elem_kind types T k copy part e c b =
    subst (λ U. IsKindOf types U (Label copy, Some part)) (sym e) (record { kind = ap element_in c; content = λ m. sym (seq_of-pieces (tree types part) m); belongs = b })

pub other_kind : (types : List Row) (T : Tree) (copy : TextClass) → move_of T [] ≡ record { kind = text_in all_texts; content = []; rest = [] } → copy ≡ all_texts → IsKindOf types T (Text_in copy, None)
other_kind types T copy m c = record {
  kind = ap text_in c ∙ sym (ap (λ (v : Move). v.kind) m);
  content = λ _. sym (ap (λ (v : Move). seq_of v.content) m);
  belongs = tt;
}

-- ---- a program that grows

module _ (p q : ProgramTable) (g : GrowsTypes p q) (cells : List Cell) (nodes : AreOfTypes p.types cells) where
  pub move_stays : (f : Found) → IsFound p.types cells f → move_at q.types cells f ≡ move_at p.types cells f
  move_stays f i =
      ap (λ T. move_of T (continuation q.types cells f.rest)) (tree_stays p.types q.types g.adds.types f.node i.0)
      ∙ ap (move_of (tree_at p.types f.node)) (continuation_stays p.types q.types g.adds.types cells nodes f.rest)

  pub found_stays : (f : Found) → IsHeadFound p cells f → IsHeadFound q cells f
  found_stays f i = record {
    found = ((let l = more_rows p.types q.types g.adds.types in let h = i.found.0 in omega arith), i.found.1);
    merged = subst IsMerged (sym (tree_stays p.types q.types g.adds.types f.node i.found.0)) i.merged;
    pieces = subst IsContinuation (sym (continuation_stays p.types q.types g.adds.types cells nodes f.rest)) i.pieces;
    shallow = λ s. subst (λ K. depth (seq_of K) ≤ nesting_limit) (sym (continuation_stays p.types q.types g.adds.types cells nodes f.rest))
        (i.shallow (shallow_before p.types q.types g.adds.types s));
  }

-- the cells' nodes stay where they are, and so does a content
pub nodes_stay : (old new : List Row) → KeepsRows old new → (cells : List Cell) → AreOfTypes old cells → AreOfTypes new cells
nodes_stay old new k cells nodes =
    let l = more_rows old new k in
    all_more (λ (c : Cell). c.item.node < length old) (λ (c : Cell). c.item.node < length new) cells (λ c h. omega arith) nodes

pub content_belongs : (old new : List Row) → KeepsRows old new → (inside : Option TypeId) → ContentBelongs old inside → ContentBelongs new inside
content_belongs old new k None b = tt
content_belongs old new k (Some id) b = let l = more_rows old new k in omega arith

-- ---- types of rests

pub no_rest : (types : List Row) (cells : List Cell) → continuation types cells 0 ≡ []
no_rest types cells = ap (map (piece_tree types)) (list_none cells)

-- they stay right while the program gets more types
pub rests_stay : {S : Type 0} (old new : List Row) → KeepsRows old new → (cells : List Cell) → AreOfTypes old cells → (rests : HashMap ℕ TypeId S) → AreRestTypes old cells rests → AreRestTypes new cells rests
rests_stay old new k cells nodes rests r = record {
  within = r.within;
  right = λ n id e.
      subst (λ K. IsTypeAt new (seq_of K) id) (sym (continuation_stays old new k cells nodes n)) (type_kept old new (seq_of (continuation old cells n)) id k (r.right n id e));
}

-- one more is put in
pub rests_put : {S : Type 0} (types : List Row) (cells : List Cell) (old new : HashMap ℕ TypeId S) (n : ℕ) (id : TypeId) → n ≤ length cells → IsTypeAt types (seq_of (continuation types cells n)) id →
    ((q : ℕ) → get nat_eq new q ≡ cond (nat_eq n q) (Some id) (get nat_eq old q)) → AreRestTypes types cells old → AreRestTypes types cells new
rests_put types cells old new n id w t u r = record { within = λ q j e. (go q j (nat_eq n q) refl (sym (u q) ∙ e)).0; right = λ q j e. (go q j (nat_eq n q) refl (sym (u q) ∙ e)).1 }
  where
    go : (q : ℕ) (j : TypeId) (b : Bool) → nat_eq n q ≡ b → cond b (Some id) (get nat_eq old q) ≡ Some j → (q ≤ length cells) × IsTypeAt types (seq_of (continuation types cells q)) j
    go q j true e h =
        let i : id ≡ j = cc in
        subst (λ m. (m ≤ length cells) × IsTypeAt types (seq_of (continuation types cells m)) j) (eqb-true n q e) (w, subst (IsTypeAt types (seq_of (continuation types cells n))) i t)
    go q j false e h = (r.within q j h, r.right q j h)

-- ---- heads

-- heads stay what they are
pub heads_stay : (old new : List Row) → KeepsRows old new → (hs : List Head) → AllByRecursion (HeadBelongs old) hs → map (head_at new) hs ≡ map (head_at old) hs
heads_stay old new k [] a = refl
heads_stay old new k (h ∷ hs) a =
    let e : head_at new h ≡ head_at old h =
    same_head (kind_at h.kind) (kind_at h.kind) (tree new h.content) (tree old h.content) (tree new h.rest) (tree old h.rest) refl
    (tree_stays old new k h.content.at (a.0).0) (tree_stays old new k h.rest.at (a.0).1) in
    let i = heads_stay old new k hs a.1 in cc

pub heads_there : (old new : List Row) → KeepsRows old new → (hs : List Head) → AllByRecursion (HeadBelongs old) hs → AllByRecursion (HeadBelongs new) hs
heads_there old new k hs a = let l = more_rows old new k in all_more (HeadBelongs old) (HeadBelongs new) hs (λ h b. ((let x = b.0 in omega arith), (let y = b.1 in omega arith))) a

content_stays : (old new : List Row) → KeepsRows old new → (o : Option TypeId) → ContentBelongs old o → content_at new o ≡ content_at old o
content_stays old new k None b = refl
content_stays old new k (Some id) b = tree_stays old new k id.at b

-- a head that was found is made
pub head_made : (p q r : ProgramTable) → GrowsTypes p q → GrowsTypes q r → (cells : List Cell) (f : Found) → IsHeadFound p cells f → (kind : RustKind) (inside : Option TypeId) →
    IsKindOf p.types (tree_at p.types f.node) (kind, inside) → (rest : TypeId) → IsTypeAt q.types (seq_of (continuation p.types cells f.rest)) rest →
    (content : TypeId) → IsTypeAt r.types (content_at q.types inside) content → IsHeadAt r.types (move_at p.types cells f) (record { kind = kind; content = content; rest = rest })
head_made p q r g h cells f i kind inside k rest t content d =
    let K = continuation p.types cells f.rest in
    let T = tree_at p.types f.node in
    let b = stands_before T K in
    let u = type_kept q.types r.types (seq_of K) rest h.adds.types t in
    record {
      belongs = (d.belongs, u.belongs);
      same =
          same_head (kind_at kind) (move_of T K).kind (tree r.types content) (seq_of (move_of T K).content) (tree r.types rest) (seq_of (move_of T K).rest)
          (k.kind ∙ sym b.kind)
          (d.same ∙ content_stays p.types q.types g.adds.types inside k.belongs ∙ k.content i.merged ∙ sym (ap seq_of b.content))
          (u.same ∙ sym (ap seq_of b.rest));
    }

-- ---- all heads

-- the first heads are made
pub record IsListing (p q : ProgramTable) (cells : List Cell) (found : List Found) (made : List Head) : Type 0 where
  pub grows : GrowsTypes p q
  pub belong : AllByRecursion (HeadBelongs q.types) made
  pub same : map (head_at q.types) made ≡ map head_of (map (move_at p.types cells) found)

pub listing_more : (p q r : ProgramTable) (cells : List Cell) → AreOfTypes p.types cells → (found : List Found) (made : List Head) → IsListing p q cells found made → (f : Found) → IsHeadFound p cells f →
    (h : Head) → IsHeadAt r.types (move_at q.types cells f) h → GrowsTypes q r → IsListing p r cells (found ++ f ∷ []) (made ++ h ∷ [])
listing_more p q r cells nodes found made l f i h a g = record {
  grows = grows_then p q r l.grows g;
  belong = all_append (HeadBelongs r.types) made (h ∷ []) (heads_there q.types r.types g.adds.types made l.belong) (a.belongs, tt);
  same =
      map_append (head_at r.types) made (h ∷ [])
      ∙ ap (λ hs. hs ++ head_at r.types h ∷ []) (heads_stay q.types r.types g.adds.types made l.belong ∙ l.same)
      ∙ ap (λ x. map head_of (map (move_at p.types cells) found) ++ x ∷ []) (a.same ∙ ap head_of (move_stays p q l.grows cells nodes f i.found))
      ∙ sym (ap (map head_of) (map_append (move_at p.types cells) found (f ∷ [])) ∙ map_append head_of (map (move_at p.types cells) found) (move_at p.types cells f ∷ []));
}

pub each_found : (P : Found → Type 0) (fs : List Found) (i : ℕ) (d : Found) → AllByRecursion P fs → i < length fs → P (get_or fs i d)
each_found P [] i d a h = absurd (omega arith)
each_found P (f ∷ fs) zero d a h = a.0
each_found P (f ∷ fs) (suc i) d a h = each_found P fs i d a.1 (omega arith)

-- ---- what expansion finds

module _ (p : ProgramTable) (stands : ProgramStands p) (built : AreBuilt false p.types) (T : Tree) (merged : IsMerged T) (shallow : IsShallow p.types → depth T ≤ nesting_limit) where
  E : Definitions
  E = names_of (program_tree p)

  each : (cells : List Cell) (fs : List Found) → AllByRecursion (IsFound p.types cells) fs → AllByRecursion IsMove (map (move_at p.types cells) fs) →
      (IsShallow p.types → AllByRecursion (IsNoDeeper nesting_limit) (map (move_at p.types cells) fs)) → AllByRecursion (IsHeadFound p cells) fs
  each cells [] a m d = tt
  each cells (f ∷ fs) a m d =
      let b = stands_before (tree_at p.types f.node) (continuation p.types cells f.rest) in (
        record {
          found = a.0;
          merged = tree_merged p.types built f.node (a.0).0;
          pieces = subst IsContinuation b.rest (m.0).rest;
          shallow = λ s. subst (λ K. depth (seq_of K) ≤ nesting_limit) b.rest ((d s).0).1;
        },
        each cells fs a.1 m.1 (λ s. (d s).1),
      )

  pub heads_found : (middle cells : List Cell) (number : ℕ) (found : List Found) → AreOfTypes p.types middle → continuation p.types middle number ≡ pieces T → AreMovesOf p.types p.type_defs middle cells number found →
      (old : List Cell) → KeepsLinks old middle → AreHeadsFound p T old cells found
  unfolding E
  heads_found middle cells number found nodes c m old kept =
      let M = are_merged p stands built in
      let K = pieces T in
      let k = pieces_stand T merged in
      let t = seq_of-pieces T merged in
      let e : map (move_at p.types cells) found ≡ moves E K = m.same ∙ ap (moves E) c in
      record {
        kept = kept_then old middle cells kept m.cells.kept;
        nodes = m.cells.nodes nodes;
        each = each cells found m.stand (subst (AllByRecursion IsMove) (sym e) (moves_continue E M K k))
            (λ s. subst (AllByRecursion (IsNoDeeper nesting_limit)) (sym e)
            (moves_no_deeper nesting_limit (omega arith) E M (none_deeper p.types p.type_defs s (bodies_stand p stands)) K k (subst (λ U. depth U ≤ nesting_limit) (sym t) (shallow s))));
        same = ap (map head_of) e ∙ sym (moves_are_heads E M K k) ∙ ap (heads E) t;
      }
