-- A type puts at most so many pieces before what stands after it, where no use outside tail
-- position leads back.
use Rattle.std.proofs.Common.{◌≡◌, ℕ, ◌+◌, ◌*◌, ◌-◌, ◌≤◌, max, arith, Bool, true, false, cond, List, [], ◌∷◌, ◌++◌, length, length-append, Some, refl, subst, inl}
use Rattle.std.proofs.Math.Nat.{mul-le-mul_left}
use Rattle.std.specs.Str.{bytes_eq}
use Rattle.xd_doc.specs.Members.{IsOneOf}
use Rattle.xd_syntax.specs.Tree.{Tree, Empty, Text, Words, Name, Elem, Seq, Alt, Star, Plus, Opt, Val, Definitions, body}
use Rattle.xd_meaning.specs.Heads.{pieces}
use Rattle.xd_syntax.proofs.Members.{append_left, append_right}
use Rattle.xd_continuations.specs.TailUses.{top_names, inner_names, RecursOnlyInTail}
use Rattle.xd_continuations.specs.Bounds.{node_count, NoneLarger, longest, rank, above_by, height_by, IsBounded}
use Rattle.xd_continuations.proofs.LeadsToLemmas.{rank_small, rank_use, rank_fall, rank_some, inner_top}

some_nodes : (T : Tree) → 1 ≤ node_count T
some_nodes Empty = omega arith
some_nodes Text = omega arith
some_nodes (Words w) = omega arith
some_nodes (Name x) = omega arith
some_nodes (Elem c T) = omega arith
some_nodes (Seq T U) = omega arith
some_nodes (Alt T U) = omega arith
some_nodes (Star T) = omega arith
some_nodes (Plus T) = omega arith
some_nodes (Opt T) = omega arith
some_nodes (Val x T) = omega arith

few_pieces : (T : Tree) → length (pieces T) ≤ node_count T
few_pieces Empty = omega arith
few_pieces Text = omega arith
few_pieces (Words w) = omega arith
few_pieces (Name x) = omega arith
few_pieces (Elem c T) = omega arith
few_pieces (Seq T U) = let i = few_pieces U in omega arith
few_pieces (Alt T U) = omega arith
few_pieces (Star T) = omega arith
few_pieces (Plus T) = omega arith
few_pieces (Opt T) = omega arith
few_pieces (Val x T) = omega arith

-- where each name puts at most c before it
above_any : (N : List ℕ → ℕ) (c : ℕ) (T : Tree) → ((y : List ℕ) → IsOneOf y (top_names T) → N y ≤ c) → above_by N T + 1 ≤ c + node_count T
above_any N c Empty h = omega arith
above_any N c Text h = omega arith
above_any N c (Words w) h = omega arith
above_any N c (Name x) h = let i = h x (inl refl) in omega arith
above_any N c (Elem d T) h = omega arith
above_any N c (Seq T U) h =
    let i = above_any N c T (λ y m. h y (append_left y (top_names T) (top_names U) m)) in
    let j = above_any N c U (λ y m. h y (append_right y (top_names T) (top_names U) m)) in
    let k = few_pieces U in
    let t = some_nodes T in omega arith
above_any N c (Alt T U) h =
    let i = above_any N c T (λ y m. h y (append_left y (top_names T) (top_names U) m)) in
    let j = above_any N c U (λ y m. h y (append_right y (top_names T) (top_names U) m)) in omega arith
above_any N c (Star T) h = let i = above_any N c T h in omega arith
above_any N c (Plus T) h = let i = above_any N c T h in omega arith
above_any N c (Opt T) h = let i = above_any N c T h in omega arith
above_any N c (Val x T) h = let i = above_any N c T h in omega arith

-- where besides each name outside tail position puts m fewer before it
above_in : (N : List ℕ → ℕ) (c m : ℕ) (T : Tree) → ((y : List ℕ) → IsOneOf y (top_names T) → N y ≤ c) → ((y : List ℕ) → IsOneOf y (inner_names T) → N y + m ≤ c) →
    node_count T ≤ m → m ≤ c → above_by N T ≤ c
above_in N c m Empty h k l n = omega arith
above_in N c m Text h k l n = omega arith
above_in N c m (Words w) h k l n = omega arith
above_in N c m (Name x) h k l n = h x (inl refl)
above_in N c m (Elem d T) h k l n = omega arith
above_in N c m (Seq T U) h k l n =
    let i = above_any N (c - m) T (λ y q. let r = k y (append_left y (top_names T) (inner_names U) q) in omega arith) in
    let j = above_in N c m U (λ y q. h y (append_right y (top_names T) (top_names U) q)) (λ y q. k y (append_right y (top_names T) (inner_names U) q)) (omega arith) n in
    let p = few_pieces U in omega arith
above_in N c m (Alt T U) h k l n =
    let i = above_in N c m T (λ y q. h y (append_left y (top_names T) (top_names U) q)) (λ y q. k y (append_left y (inner_names T) (inner_names U) q)) (omega arith) n in
    let j = above_in N c m U (λ y q. h y (append_right y (top_names T) (top_names U) q)) (λ y q. k y (append_right y (inner_names T) (inner_names U) q)) (omega arith) n in
    omega arith
above_in N c m (Star T) h k l n =
    let i = above_any N (c - m) T (λ y q. let r = k y q in omega arith) in omega arith
above_in N c m (Plus T) h k l n =
    let i = above_any N (c - m) T (λ y q. let r = k y q in omega arith) in omega arith
above_in N c m (Opt T) h k l n = above_in N c m T h k (omega arith) n
above_in N c m (Val x T) h k l n = above_in N c m T h k (omega arith) n

product_fall : (m a b : ℕ) → a + 1 ≤ b → m * a + m ≤ m * b
product_fall m a b h = let i : m * (a + 1) ≤ m * b = mul-le-mul_left m h in omega arith

product_some : (m b : ℕ) → 1 ≤ b → m ≤ m * b
product_some m b h = let i : m * 1 ≤ m * b = mul-le-mul_left m h in omega arith

pub smaller_body : (E : Definitions) (m : ℕ) → NoneLarger m E → (x : List ℕ) (T : Tree) → body E x ≡ Some T → node_count T ≤ m
smaller_body [] m a x T e = cc
smaller_body (p ∷ ps) m a x T e = go (bytes_eq p.0 x) e (λ k. smaller_body ps m a.1 x T k)
  where
    go : (b : Bool) → cond b (Some p.1) (body ps x) ≡ Some T → (body ps x ≡ Some T → node_count T ≤ m) → node_count T ≤ m
    go true k rec = let q : p.1 ≡ T = cc in subst (λ U. node_count U ≤ m) q a.0
    go false k rec = rec k

module _ (E : Definitions) (tail : RecursOnlyInTail E) (m : ℕ) (small : NoneLarger m E) where
  -- a name puts as many before it as its definition at least
  above_named : (x : List ℕ) (T : Tree) → body E x ≡ Some T → above_by (λ y. m * rank E y) T ≤ m * rank E x
  above_named x T e =
      above_in (λ y. m * rank E y) (m * rank E x) m T
      (λ y q. mul-le-mul_left m (rank_use E x y (T, e, q)))
      (λ y q. product_fall m (rank E y) (rank E x) (rank_fall E x y (T, e, inner_top T y q) (tail x y T e q)))
      (smaller_body E m small x T e)
      (product_some m (rank E x) (rank_some E x (T, e)))

-- ---- heights

height_length : (A : Tree → ℕ) (K : List Tree) → length K ≤ height_by A K
height_length A [] = omega arith
height_length A (T ∷ K) = let i = height_length A K in omega arith

-- the pieces of a type rise no higher than the type does
height_pieces : (N : List ℕ → ℕ) (T : Tree) (K : List Tree) → height_by (above_by N) (pieces T ++ K) ≤ max (above_by N T + length K + 1) (height_by (above_by N) K)
height_pieces N Empty K = omega arith
height_pieces N Text K = omega arith
height_pieces N (Words w) K = omega arith
height_pieces N (Name x) K = omega arith
height_pieces N (Elem c T) K = omega arith
height_pieces N (Seq T U) K = let i = height_pieces N U K in let j = length-append (pieces U) K in omega arith
height_pieces N (Alt T U) K = omega arith
height_pieces N (Star T) K = omega arith
height_pieces N (Plus T) K = omega arith
height_pieces N (Opt T) K = omega arith
height_pieces N (Val x T) K = omega arith

module _ (E : Definitions) (m : ℕ) where
  -- a continuation is no longer
  pub bounded_length : (K : List Tree) → IsBounded E m K → length K ≤ longest E m
  unfolding IsBounded
  bounded_length K b = let i = height_length (above_by (λ y. m * rank E y)) K in omega arith

  pub bounded_none : IsBounded E m []
  unfolding IsBounded
  bounded_none = omega arith

  pub bounded_rest : (T : Tree) (K : List Tree) → IsBounded E m (T ∷ K) → IsBounded E m K
  unfolding IsBounded
  bounded_rest T K b = omega arith

  pub bounded_pieces : (T : Tree) (K : List Tree) → IsBounded E m (T ∷ K) → IsBounded E m (pieces T ++ K)
  unfolding IsBounded
  bounded_pieces T K b = let i = height_pieces (λ y. m * rank E y) T K in omega arith

  pub bounded_seq : (T U : Tree) (K : List Tree) → IsBounded E m (Seq T U ∷ K) → IsBounded E m (T ∷ (pieces U ++ K))
  unfolding IsBounded
  bounded_seq T U K b = let i = height_pieces (λ y. m * rank E y) U K in let j = length-append (pieces U) K in omega arith

  pub bounded_seq_rest : (T U : Tree) (K : List Tree) → IsBounded E m (Seq T U ∷ K) → IsBounded E m (U ∷ K)
  unfolding IsBounded
  bounded_seq_rest T U K b = omega arith

  pub bounded_alt : (T U : Tree) (K : List Tree) → IsBounded E m (Alt T U ∷ K) → IsBounded E m (T ∷ K)
  unfolding IsBounded
  bounded_alt T U K b = omega arith

  pub bounded_alt_rest : (T U : Tree) (K : List Tree) → IsBounded E m (Alt T U ∷ K) → IsBounded E m (U ∷ K)
  unfolding IsBounded
  bounded_alt_rest T U K b = omega arith

  pub bounded_star : (T : Tree) (K : List Tree) → IsBounded E m (Star T ∷ K) → IsBounded E m (T ∷ (Star T ∷ K))
  unfolding IsBounded
  bounded_star T K b = omega arith

  pub bounded_plus : (T : Tree) (K : List Tree) → IsBounded E m (Plus T ∷ K) → IsBounded E m (T ∷ (Star T ∷ K))
  unfolding IsBounded
  bounded_plus T K b = omega arith

  pub bounded_opt : (T : Tree) (K : List Tree) → IsBounded E m (Opt T ∷ K) → IsBounded E m (T ∷ K)
  unfolding IsBounded
  bounded_opt T K b = b

  pub bounded_val : (x : List ℕ) (T : Tree) (K : List Tree) → IsBounded E m (Val x T ∷ K) → IsBounded E m (T ∷ K)
  unfolding IsBounded
  bounded_val x T K b = b

  -- no type with few nodes rises too high
  pub bounded_start : (T : Tree) → node_count T ≤ m → IsBounded E m (T ∷ [])
  unfolding IsBounded
  bounded_start T h =
      let i = above_any (λ y. m * rank E y) (m * length E) T (λ y q. mul-le-mul_left m (rank_small E y)) in
      omega arith

  pub bounded_name : RecursOnlyInTail E → NoneLarger m E → (x : List ℕ) (T : Tree) (K : List Tree) → body E x ≡ Some T → IsBounded E m (Name x ∷ K) → IsBounded E m (T ∷ K)
  unfolding IsBounded
  bounded_name tail small x T K e b = let i = above_named E tail m small x T e in omega arith

-- ---- larger types

above_more : (N M : List ℕ → ℕ) (c : ℕ) → ((y : List ℕ) → M y ≤ N y + c) → (T : Tree) → above_by M T ≤ above_by N T + c
above_more N M c h Empty = omega arith
above_more N M c h Text = omega arith
above_more N M c h (Words w) = omega arith
above_more N M c h (Name x) = h x
above_more N M c h (Elem d T) = omega arith
above_more N M c h (Seq T U) = let i = above_more N M c h T in let j = above_more N M c h U in omega arith
above_more N M c h (Alt T U) = let i = above_more N M c h T in let j = above_more N M c h U in omega arith
above_more N M c h (Star T) = let i = above_more N M c h T in omega arith
above_more N M c h (Plus T) = let i = above_more N M c h T in omega arith
above_more N M c h (Opt T) = above_more N M c h T
above_more N M c h (Val x T) = above_more N M c h T

height_more : (N M : List ℕ → ℕ) (c : ℕ) → ((y : List ℕ) → M y ≤ N y + c) → (K : List Tree) → height_by (above_by M) K ≤ height_by (above_by N) K + c
height_more N M c h [] = omega arith
height_more N M c h (T ∷ K) = let i = above_more N M c h T in let j = height_more N M c h K in omega arith

rank_more : (k m r L : ℕ) → r ≤ L → (m + k) * r ≤ m * r + k * L
rank_more k m r L h = let i : k * r ≤ k * L = mul-le-mul_left k h in omega arith

-- what is bounded stays so where types may be larger
pub bounded_larger : (E : Definitions) (m k : ℕ) (K : List Tree) → IsBounded E m K → IsBounded E (m + k) K
unfolding IsBounded
bounded_larger E m k K b =
    let h = height_more (λ y. m * rank E y) (λ y. (m + k) * rank E y) (k * length E) (λ y. rank_more k m (rank E y) (length E) (rank_small E y)) K in
    omega arith
