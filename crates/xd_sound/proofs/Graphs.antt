-- edges and paths
use Rattle.std.proofs.Common.{◌≡◌, ℕ, zero, suc, ◌<◌, arith, ◌⊎◌, List, [], ◌∷◌, ◌++◌, map, length, get_or, set, refl, ap, sym, subst, ◌∙◌, inl, inr}
use Rattle.std.proofs.lemmas.List.{length-set, length-map, get_or-map, get_or-set_same, get_or-set_other, map-set}
use Rattle.std.proofs.lemmas.Bool.{cases_eq}
use Rattle.xd_doc.specs.Members.{IsOneOf}
use Rattle.xd_syntax.proofs.Members.{mem_append, append_left, append_right}
use Rattle.xd_sound.specs.Graph.{successors, HasEdge, IsClosed}

-- what a node's edges are once they are written anew
pub edges_set : (g : List (List ℕ)) (i : ℕ) (xs : List ℕ) (v w : ℕ) → i < length g → HasEdge (set g i xs) v w → ((v ≡ i) × IsOneOf w xs) ⊎ HasEdge g v w
edges_set g i xs v w l h = elim (cases_eq v i) [
  | inl e ↦ inl (e, subst (IsOneOf w) (get_or-set_same g i xs [] l) (subst (λ x. IsOneOf w (get_or (set g i xs) x [])) e h))
  | inr n ↦ inr (subst (IsOneOf w) (get_or-set_other g i v xs [] n) h)
]

pub closed_set : (g : List (List ℕ)) (i : ℕ) (xs : List ℕ) → IsClosed g → i < length g → ((w : ℕ) → IsOneOf w xs → w < length g) → IsClosed (set g i xs)
closed_set g i xs c l h v w e =
    let n = length-set g i xs in
    elim (edges_set g i xs v w l e) [ inl a ↦ (let k = h w a.1 in omega arith) | inr o ↦ (let k = c v w o in omega arith) ]

-- one more edge
abbrev pub with_edge : List (List ℕ) → ℕ → ℕ → List (List ℕ)
with_edge g from to = set g from (successors g from ++ to ∷ [])

pub closed_more : (g : List (List ℕ)) (from to : ℕ) → IsClosed g → from < length g → to < length g → IsClosed (with_edge g from to)
closed_more g from to c l k =
    closed_set g from (successors g from ++ to ∷ []) c l
    (λ w m. elim (mem_append w (successors g from) (to ∷ []) m) [ inl a ↦ c from w a | inr (inl e) ↦ subst (λ x. x < length g) e k | inr (inr f) ↦ absurd f ])

pub edges_more : (g : List (List ℕ)) (from to v w : ℕ) → from < length g → HasEdge (with_edge g from to) v w → ((v ≡ from) × (w ≡ to)) ⊎ HasEdge g v w
edges_more g from to v w l h = elim (edges_set g from (successors g from ++ to ∷ []) v w l h) [
  | inl (e, m) ↦ elim (mem_append w (successors g from) (to ∷ []) m) [
    | inl a ↦ inr (subst (λ x. HasEdge g x w) (sym e) a)
    | inr (inl k) ↦ inl (e, sym k)
    | inr (inr f) ↦ absurd f
  ]
  | inr o ↦ inr o
]

pub edges_kept : (g : List (List ℕ)) (from to v w : ℕ) → from < length g → HasEdge g v w → HasEdge (with_edge g from to) v w
edges_kept g from to v w l h = elim (cases_eq v from) [
  | inl e ↦
      subst (λ x. HasEdge (with_edge g from to) x w) (sym e)
      (subst (IsOneOf w) (sym (get_or-set_same g from (successors g from ++ to ∷ []) [] l))
      (append_left w (successors g from) (to ∷ []) (subst (λ x. HasEdge g x w) e h)))
  | inr n ↦ subst (IsOneOf w) (sym (get_or-set_other g from v (successors g from ++ to ∷ []) [] n)) h
]

pub edge_made : (g : List (List ℕ)) (from to : ℕ) → from < length g → HasEdge (with_edge g from to) from to
edge_made g from to l =
    subst (IsOneOf to) (sym (get_or-set_same g from (successors g from ++ to ∷ []) [] l)) (append_right to (successors g from) (to ∷ []) (inl refl))

-- the list after a list that is written anew
pub view_set : {A : Type 0} (f : A → List ℕ) (ts : List A) (i : ℕ) (v : A) (xs : List ℕ) → f v ≡ xs → map f (set ts i v) ≡ set (map f ts) i xs
view_set f ts i v xs e = map-set f ts i v ∙ ap (set (map f ts) i) e

edges_read : {A : Type 0} (f : A → List ℕ) (ts : List A) (i : ℕ) (old : A) → i < length ts → old ≡ get_or ts i old → f old ≡ successors (map f ts) i
edges_read f ts i old l e = ap f e ∙ sym (get_or-map f ts i old [] l)

pub view_more : {A : Type 0} (f : A → List ℕ) (ts : List A) (i to : ℕ) (old new : A) → i < length ts → old ≡ get_or ts i old → f new ≡ f old ++ to ∷ [] →
    map f (set ts i new) ≡ with_edge (map f ts) i to
view_more f ts i to old new l e n = view_set f ts i new (successors (map f ts) i ++ to ∷ []) (n ∙ ap (λ xs. xs ++ to ∷ []) (edges_read f ts i old l e))

pub closed_kept : {A : Type 0} (f : A → List ℕ) (ts : List A) (i : ℕ) (old new : A) → i < length ts → old ≡ get_or ts i old → f new ≡ f old → IsClosed (map f ts) →
    IsClosed (map f (set ts i new))
closed_kept f ts i old new l e n c =
    let s = successors (map f ts) i in
    let m = length-map ts f in
    let k : i < length (map f ts) = omega arith in
    subst IsClosed (sym (view_set f ts i new s (n ∙ edges_read f ts i old l e))) (closed_set (map f ts) i s c k (λ w a. c i w a))

pub no_edges : (g : List (List ℕ)) → ((v : ℕ) → successors g v ≡ []) → (v w : ℕ) → HasEdge g v w → ⊥
no_edges g h v w m = subst (IsOneOf w) (h v) m

pub bare_more : {A : Type 0} (f : A → List ℕ) (ts : List A) (new : A) → f new ≡ [] → ((v : ℕ) → successors (map f ts) v ≡ []) → (v : ℕ) → successors (map f (ts ++ new ∷ [])) v ≡ []
bare_more f [] new e h zero = e
bare_more f [] new e h (suc v) = refl
bare_more f (t ∷ ts) new e h zero = h 0
bare_more f (t ∷ ts) new e h (suc v) = bare_more f ts new e (λ u. h (suc u)) v
