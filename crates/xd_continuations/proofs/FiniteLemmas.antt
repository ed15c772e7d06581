-- A type leads to finitely many continuations.
use Rattle.std.proofs.Common.{◌≡◌, ℕ, zero, suc, ◌+◌, ◌≤◌, arith, Bool, true, false, cond, List, [], ◌∷◌, ◌++◌, map, flat_map, length, Option, Some, None, refl, sym, subst, inl, inr, append-nil, append_assoc}
use Rattle.std.specs.Str.{bytes_eq}
use Rattle.std.specs.List.{AllByRecursion}
use Rattle.xd_doc.proofs.Lists.{all_more, all_append}
use Rattle.xd_syntax.specs.Tree.{Tree, Empty, Text, Words, Name, Elem, Seq, Alt, Star, Plus, Opt, Val, Definitions, body}
use Rattle.xd_doc.specs.Classes.{LabelClass}
use Rattle.xd_doc.specs.Members.{IsOneOf}
use Rattle.xd_meaning.specs.Heads.{pieces}
use Rattle.xd_meaning.specs.CanBeEmpty.{can_be_empty}
use Rattle.xd_syntax.proofs.Members.{append_left, append_right, flat_mem, map_mem}
use Rattle.xd_continuations.specs.Continuation.{Move, followed, moves_by, definition_within, name_within, moves_along, moves}
use Rattle.xd_continuations.specs.TailUses.{RecursOnlyInTail}
use Rattle.xd_continuations.specs.Bounds.{Reached, at_start, by_content, by_rest, node_count, NoneLarger, parts, all_parts, nodes_of, longest, lists_within, possible, IsBounded}
use Rattle.xd_continuations.proofs.MoveLemmas.{all_map, all_cond}
use Rattle.xd_continuations.proofs.IsBoundedLemmas.{smaller_body, bounded_length, bounded_none, bounded_rest, bounded_pieces, bounded_seq, bounded_seq_rest, bounded_alt, bounded_alt_rest, bounded_star, bounded_plus, bounded_opt, bounded_val, bounded_start, bounded_name}

pub all_among : {A : Type 0} (P : A → Type 0) (xs : List A) → AllByRecursion P xs → (x : A) → IsOneOf x xs → P x
all_among P [] a x m = absurd m
all_among P (y ∷ xs) a x (inl e) = subst P e a.0
all_among P (y ∷ xs) a x (inr m) = all_among P xs a.1 x m

-- ---- what the parts of types keep

pub record KeptByParts (E : Definitions) (Q : Tree → Type 0) : Type 0 where
  pub name : (x : List ℕ) (T : Tree) → body E x ≡ Some T → Q T
  pub content : (c : LabelClass) (T : Tree) → Q (Elem c T) → Q T
  pub first : (T U : Tree) → Q (Seq T U) → Q T
  pub next : (T U : Tree) → Q (Seq T U) → Q U
  pub left : (T U : Tree) → Q (Alt T U) → Q T
  pub right : (T U : Tree) → Q (Alt T U) → Q U
  pub star : (T : Tree) → Q (Star T) → Q T
  pub plus : (T : Tree) → Q (Plus T) → Q T
  pub turns : (T : Tree) → Q (Plus T) → Q (Star T)
  pub opt : (T : Tree) → Q (Opt T) → Q T
  pub val : (x : List ℕ) (T : Tree) → Q (Val x T) → Q T

module _ (E : Definitions) (Q : Tree → Type 0) (kept : KeptByParts E Q) where
  pub pieces_kept : (T : Tree) → Q T → AllByRecursion Q (pieces T)
  pieces_kept Empty q = tt
  pieces_kept Text q = (q, tt)
  pieces_kept (Words w) q = (q, tt)
  pieces_kept (Name x) q = (q, tt)
  pieces_kept (Elem c T) q = (q, tt)
  pieces_kept (Seq T U) q = (kept.first T U q, pieces_kept U (kept.next T U q))
  pieces_kept (Alt T U) q = (q, tt)
  pieces_kept (Star T) q = (q, tt)
  pieces_kept (Plus T) q = (q, tt)
  pieces_kept (Opt T) q = (q, tt)
  pieces_kept (Val x T) q = (q, tt)

-- ---- one move

pub record Keeps (E : Definitions) (m : ℕ) (Q : Tree → Type 0) (K : List Tree) (v : Move) : Type 0 where
  pub content_bounded : IsBounded E m v.content
  pub content_kept : AllByRecursion Q v.content
  pub rest_bounded : IsBounded E m (v.rest ++ K)
  pub rest_kept : AllByRecursion Q v.rest

module _ (E : Definitions) (m : ℕ) (Q : Tree → Type 0) (kept : KeptByParts E Q) (few : (T : Tree) → Q T → node_count T ≤ m) where
  -- after a continuation that is put after
  followed_keeps : (P K : List Tree) → AllByRecursion Q P → (vs : List Move) → AllByRecursion (Keeps E m Q (P ++ K)) vs → AllByRecursion (Keeps E m Q K) (map (followed P) vs)
  followed_keeps P K p vs a =
      all_map (Keeps E m Q (P ++ K)) (Keeps E m Q K) (followed P) vs
      (λ v k. record {
        content_bounded = k.content_bounded;
        content_kept = k.content_kept;
        rest_bounded = subst (IsBounded E m) (sym (append_assoc v.rest P K)) k.rest_bounded;
        rest_kept = all_append Q v.rest P k.rest_kept p;
      }) a

  module _ (N : List ℕ → List Move) (names : (x : List ℕ) (K : List Tree) → Q (Name x) → IsBounded E m (Name x ∷ K) → AllByRecursion (Keeps E m Q K) (N x)) (Z : Tree → Bool) where
    moves_keep : (T : Tree) (K : List Tree) → Q T → IsBounded E m (T ∷ K) → AllByRecursion (Keeps E m Q K) (moves_by Z N T)
    moves_keep Empty K q b = tt
    moves_keep Text K q b = (record { content_bounded = bounded_none E m; content_kept = tt; rest_bounded = bounded_rest E m Text K b; rest_kept = tt }, tt)
    moves_keep (Words w) K q b = (record { content_bounded = bounded_none E m; content_kept = tt; rest_bounded = bounded_rest E m (Words w) K b; rest_kept = tt }, tt)
    moves_keep (Name x) K q b = names x K q b
    moves_keep (Elem c T) K q b =
        let s = kept.content c T q in (
          record {
            content_bounded = subst (IsBounded E m) (append-nil (pieces T)) (bounded_pieces E m T [] (bounded_start E m T (few T s)));
            content_kept = pieces_kept E Q kept T s;
            rest_bounded = bounded_rest E m (Elem c T) K b;
            rest_kept = tt;
          },
          tt,
        )
    moves_keep (Seq T U) K q b =
        all_append (Keeps E m Q K) (map (followed (pieces U)) (moves_by Z N T)) (cond (Z T) (moves_by Z N U) [])
        (followed_keeps (pieces U) K (pieces_kept E Q kept U (kept.next T U q)) (moves_by Z N T) (moves_keep T (pieces U ++ K) (kept.first T U q) (bounded_seq E m T U K b)))
        (all_cond (Keeps E m Q K) (Z T) (moves_by Z N U) (moves_keep U K (kept.next T U q) (bounded_seq_rest E m T U K b)))
    moves_keep (Alt T U) K q b =
        all_append (Keeps E m Q K) (moves_by Z N T) (moves_by Z N U)
        (moves_keep T K (kept.left T U q) (bounded_alt E m T U K b)) (moves_keep U K (kept.right T U q) (bounded_alt_rest E m T U K b))
    moves_keep (Star T) K q b =
        followed_keeps (Star T ∷ []) K (q, tt) (moves_by Z N T) (moves_keep T (Star T ∷ K) (kept.star T q) (bounded_star E m T K b))
    moves_keep (Plus T) K q b =
        followed_keeps (Star T ∷ []) K (kept.turns T q, tt) (moves_by Z N T) (moves_keep T (Star T ∷ K) (kept.plus T q) (bounded_plus E m T K b))
    moves_keep (Opt T) K q b = moves_keep T K (kept.opt T q) (bounded_opt E m T K b)
    moves_keep (Val x T) K q b = moves_keep T K (kept.val x T q) (bounded_val E m x T K b)

  module _ (tail : RecursOnlyInTail E) (small : NoneLarger m E) (Z : Tree → Bool) where
    definition_keeps : (F : Tree → List Move) → ((T : Tree) (K : List Tree) → Q T → IsBounded E m (T ∷ K) → AllByRecursion (Keeps E m Q K) (F T)) →
        (x : List ℕ) (K : List Tree) (o : Option Tree) → body E x ≡ o → IsBounded E m (Name x ∷ K) → AllByRecursion (Keeps E m Q K) (definition_within [] F o)
    definition_keeps F h x K None e b = tt
    definition_keeps F h x K (Some T) e b = h T K (kept.name x T e) (bounded_name E m tail small x T K e b)

    names_keep : (n : ℕ) (x : List ℕ) (K : List Tree) → Q (Name x) → IsBounded E m (Name x ∷ K) → AllByRecursion (Keeps E m Q K) (name_within [] (moves_by Z) E n x)
    names_keep zero x K q b = tt
    names_keep (suc n) x K q b =
        definition_keeps (moves_by Z (name_within [] (moves_by Z) E n)) (moves_keep (name_within [] (moves_by Z) E n) (names_keep n) Z) x K (body E x) refl b

    -- the moves of a continuation keep it
    pub along_keeps : (n : ℕ) (K : List Tree) → AllByRecursion Q K → IsBounded E m K → AllByRecursion (Keeps E m Q []) (moves_along Z (moves_by Z (name_within [] (moves_by Z) E n)) K)
    along_keeps n [] q b = tt
    along_keeps n (T ∷ K) q b =
        let M : List Move = moves_by Z (name_within [] (moves_by Z) E n) T in
        let c : IsBounded E m (T ∷ (K ++ [])) = subst (λ L. IsBounded E m (T ∷ L)) (sym (append-nil K)) b in
        all_append (Keeps E m Q []) (map (followed K) M) (cond (Z T) (moves_along Z (moves_by Z (name_within [] (moves_by Z) E n)) K) [])
        (followed_keeps K [] q.1 M (moves_keep (name_within [] (moves_by Z) E n) (names_keep n) Z T (K ++ []) q.0 c))
        (all_cond (Keeps E m Q []) (Z T) (moves_along Z (moves_by Z (name_within [] (moves_by Z) E n)) K) (along_keeps n K q.1 (bounded_rest E m T K b)))

  -- ---- all continuations that a type leads to

  module _ (tail : RecursOnlyInTail E) (small : NoneLarger m E) where
    move_keeps : (K : List Tree) → AllByRecursion Q K → IsBounded E m K → (v : Move) → IsOneOf v (moves E K) → Keeps E m Q [] v
    unfolding moves
    move_keeps K q b v i =
        all_among (Keeps E m Q []) (moves E K) (along_keeps tail small (can_be_empty E) (length E) K q b) v i

    pub reached_keeps : (T : Tree) → Q T → {K : List Tree} → Reached E T K → AllByRecursion Q K × IsBounded E m K
    reached_keeps T q at_start =
        (pieces_kept E Q kept T q, subst (IsBounded E m) (append-nil (pieces T)) (bounded_pieces E m T [] (bounded_start E m T (few T q))))
    reached_keeps T q (by_content {K} v r i) =
        let s = reached_keeps T q r in let k = move_keeps K s.0 s.1 v i in (k.content_kept, k.content_bounded)
    reached_keeps T q (by_rest {K} v r i) =
        let s = reached_keeps T q r in let k = move_keeps K s.0 s.1 v i in
        (k.rest_kept, subst (IsBounded E m) (append-nil v.rest) k.rest_bounded)

-- ---- the parts of a type and of all definitions

itself : (T : Tree) → IsOneOf T (parts T)
itself Empty = inl refl
itself Text = inl refl
itself (Words w) = inl refl
itself (Name x) = inl refl
itself (Elem c T) = inl refl
itself (Seq T U) = inl refl
itself (Alt T U) = inl refl
itself (Star T) = inl refl
itself (Plus T) = inl refl
itself (Opt T) = inl refl
itself (Val x T) = inl refl

defined_in : (E : Definitions) (x : List ℕ) (T : Tree) → body E x ≡ Some T → (p : List ℕ × Tree) × IsOneOf p E × (p.1 ≡ T)
defined_in [] x T e = cc
defined_in (p ∷ ps) x T e = go (bytes_eq p.0 x) e (λ k. defined_in ps x T k)
  where
    go : (b : Bool) → cond b (Some p.1) (body ps x) ≡ Some T → (body ps x ≡ Some T → (q : List ℕ × Tree) × IsOneOf q ps × (q.1 ≡ T)) → (q : List ℕ × Tree) × IsOneOf q (p ∷ ps) × (q.1 ≡ T)
    go true e rec = (p, inl refl, cc)
    go false e rec = let r = rec e in (r.0, inr r.1, r.2)

-- all parts are among these, and there are not too many nodes
pub record IsPartOf (L : List Tree) (m : ℕ) (T : Tree) : Type 0 where
  pub parts_listed : (U : Tree) → IsOneOf U (parts T) → IsOneOf U L
  pub few : node_count T ≤ m

module _ (E : Definitions) (T0 : Tree) (m : ℕ) (small : NoneLarger m E) where
  definition_part : (x : List ℕ) (T : Tree) → body E x ≡ Some T → IsPartOf (all_parts E T0) m T
  definition_part x T e =
      let d = defined_in E x T e in
      record {
        parts_listed = λ U i. append_right U (parts T0) (flat_map (λ (p : List ℕ × Tree). parts p.1) E)
            (flat_mem (λ (p : List ℕ × Tree). parts p.1) U d.0 E d.1 (subst (λ V. IsOneOf U (parts V)) (sym d.2) i));
        few = smaller_body E m small x T e;
      }

  pub parts_kept : KeptByParts E (IsPartOf (all_parts E T0) m)
  parts_kept = record {
    name = definition_part;
    content = λ c T q. record { parts_listed = λ U i. q.parts_listed U (inr i); few = let f = q.few in omega arith };
    first = λ T U q. record { parts_listed = λ V i. q.parts_listed V (inr (append_left V (parts T) (parts U) i)); few = let f = q.few in omega arith };
    next = λ T U q. record { parts_listed = λ V i. q.parts_listed V (inr (append_right V (parts T) (parts U) i)); few = let f = q.few in omega arith };
    left = λ T U q. record { parts_listed = λ V i. q.parts_listed V (inr (append_left V (parts T) (parts U) i)); few = let f = q.few in omega arith };
    right = λ T U q. record { parts_listed = λ V i. q.parts_listed V (inr (append_right V (parts T) (parts U) i)); few = let f = q.few in omega arith };
    star = λ T q. record { parts_listed = λ U i. q.parts_listed U (inr i); few = let f = q.few in omega arith };
    plus = λ T q. record { parts_listed = λ U i. q.parts_listed U (inr (inr i)); few = let f = q.few in omega arith };
    turns = λ T q. record { parts_listed = λ U i. q.parts_listed U (inr i); few = q.few };
    opt = λ T q. record { parts_listed = λ U i. q.parts_listed U (inr i); few = let f = q.few in omega arith };
    val = λ x T q. record { parts_listed = λ U i. q.parts_listed U (inr i); few = let f = q.few in omega arith };
  }

  pub start_part : node_count T0 ≤ m → IsPartOf (all_parts E T0) m T0
  start_part h = record { parts_listed = λ U i. append_left U (parts T0) (flat_map (λ (p : List ℕ × Tree). parts p.1) E) i; few = h }

-- a short list of members is among the short lists of them
pub among_lists : {A : Type 0} (xs : List A) (n : ℕ) (ys : List A) → AllByRecursion (λ y. IsOneOf y xs) ys → length ys ≤ n → IsOneOf ys (lists_within xs n)
among_lists xs zero [] a h = inl refl
among_lists xs zero (y ∷ ys) a h = absurd (omega arith)
among_lists xs (suc n) [] a h = inl refl
among_lists xs (suc n) (y ∷ ys) a h =
    inr (flat_mem (λ x. map (λ zs. x ∷ zs) (lists_within xs n)) (y ∷ ys) y xs a.0
    (map_mem (λ zs. y ∷ zs) ys (lists_within xs n) (among_lists xs n ys a.1 (omega arith))))

none_larger : (E : Definitions) (m : ℕ) → nodes_of E ≤ m → NoneLarger m E
none_larger [] m h = tt
none_larger (p ∷ ps) m h = (omega arith, none_larger ps m (omega arith))

-- the continuations that a type leads to are among those that are possible
pub finitely_many : (E : Definitions) → RecursOnlyInTail E → (T : Tree) {K : List Tree} → Reached E T K → IsOneOf K (possible E T)
finitely_many E tail T {K} r =
    let m : ℕ = node_count T + nodes_of E in
    let small = none_larger E m (omega arith) in
    let k = reached_keeps E m (IsPartOf (all_parts E T) m) (parts_kept E T m small) (λ U q. q.few) tail small T (start_part E T m small (omega arith)) r in
    among_lists (all_parts E T) (longest E m) K
    (all_more (IsPartOf (all_parts E T) m) (λ U. IsOneOf U (all_parts E T)) K (λ U q. q.parts_listed U (itself U)) k.0)
    (bounded_length E m K k.1)
