-- each step of a search keeps what it knows
use Rattle.std.proofs.Common.{◌≡◌, ℕ, ◌+◌, ◌<◌, ◌≤◌, arith, ◌⊎◌, List, [], ◌∷◌, ◌++◌, length, get_or, take, eqb, eq-eqb, eqb-true, refl, ap, sym, subst, ◌∙◌, inl, inr}
use Rattle.std.proofs.lemmas.List.{length_push, length-take-le, get_or_append_left, get_or_push, take_all, take_more}
use Rattle.std.proofs.lemmas.Bool.{cases_lt, cases_eq}
use Rattle.xd_sound.specs.Graph.{HasEdge, IsClosed}
use Rattle.xd_rec.specs.Components.{AreComponents, has_same_number, standing_of, node_at, no_segment, path_from, todo_from, NoneBetween, IsSettled, HasSource, IsSearched, Path, stay, edge_then}
use Rattle.xd_rec.specs.declared.components.Standing.{Standing}
use Rattle.xd_rec.specs.declared.components.Standing.TheVariants.{Unseen, Open, Done}
use Rattle.xd_rec.specs.declared.components.Segment.{Segment}
use Rattle.xd_sound.proofs.Lists.{all_push, all_front, all_last}

pub path_then : (g : List (List ℕ)) {u v w : ℕ} → Path g u v → Path g v w → Path g u w
path_then g stay q = q
path_then g (edge_then e p) q = edge_then e (path_then g p q)

pub path_edge : (g : List (List ℕ)) {u v w : ℕ} → Path g u v → HasEdge g v w → Path g u w
path_edge g p e = path_then g p (edge_then e stay)

place_of_open : Standing → ℕ
place_of_open Unseen = 0
place_of_open (Open p) = p
place_of_open (Done c) = 0

pub open_same : (p q : ℕ) → Open p ≡ Open q → p ≡ q
unfolding place_of_open
open_same p q e = ap place_of_open e

number_of_done : Standing → ℕ
number_of_done Unseen = 0
number_of_done (Open p) = 0
number_of_done (Done c) = c

pub done_same_number : (c d : ℕ) → Done c ≡ Done d → c ≡ d
unfolding number_of_done
done_same_number c d e = ap number_of_done e

-- the last segment begins after each
pub last_of : (g : List (List ℕ)) (st : List Standing) (path todo : List ℕ) (segs : List Segment) (fin m : ℕ) → IsSearched g st path todo segs fin → length segs ≡ m + 1 →
    (k : ℕ) → k < length segs → (path_from segs k ≤ path_from segs m) × (todo_from segs k ≤ todo_from segs m)
last_of g st path todo segs fin m i e k l = elim (cases_eq k m) [
  | inl q ↦ rw q (omega arith, omega arith)
  | inr n ↦
      let a : k < m = omega arith in
      let b : m < length segs = omega arith in
      let r = i.rising k m a b in let u = r.0 in let w = r.1 in (omega arith, omega arith)
]

-- the last edge leads to a node that is done or in the last segment
pub skipped : (g : List (List ℕ)) (st : List Standing) (path todo : List ℕ) (w : ℕ) (segs : List Segment) (fin m : ℕ) → IsSearched g st path (todo ++ w ∷ []) segs fin →
    length segs ≡ m + 1 → todo_from segs m ≤ length todo →
    ((c : ℕ) × (standing_of st w ≡ Done c)) ⊎ ((q : ℕ) × (standing_of st w ≡ Open q) × (path_from segs m ≤ q)) →
    IsSearched g st path todo segs fin
skipped g st path todo w segs fin m i e t s =
    record {
      count = i.count;
      numbers = i.numbers;
      stands = i.stands;
      on_path = i.on_path;
      reach = i.reach;
      back = i.back;
      edges = λ p v l h. settled p v (i.edges p v l h);
      sources = λ j l. source j l;
      done_edges = i.done_edges;
      done_same = i.done_same;
      done_below = i.done_below;
      rising = i.rising;
      starts = λ k l. ((i.starts k l).0, (let a = (last_of g st path (todo ++ w ∷ []) segs fin m i e k l).1 in omega arith));
      first = i.first;
      ended = λ z. absurd (omega arith);
    }
  where
    done_or_open : (p v : ℕ) → w ≡ v → IsSettled st todo segs p v
    done_or_open p v q = elim s [
      | inl d ↦ inl (d.0, subst (λ x. standing_of st x ≡ Done d.0) q d.1)
      | inr o ↦ inr (inl (
        o.0,
        subst (λ x. standing_of st x ≡ Open o.0) q o.1,
        λ k l h. (let a = (last_of g st path (todo ++ w ∷ []) segs fin m i e k l).0 in let b = o.2 in omega arith),
      ))
    ]

    settled : (p v : ℕ) → IsSettled st (todo ++ w ∷ []) segs p v → IsSettled st todo segs p v
    settled p v (inl d) = inl d
    settled p v (inr (inl o)) = inr (inl o)
    settled p v (inr (inr r)) = elim (cases_lt r.0 (length todo)) [
      | inl a ↦ inr (inr (r.0, a, sym (get_or_append_left todo (w ∷ []) 0 r.0 a) ∙ r.2, r.3))
      | inr b ↦
          let n = length_push todo w in
          let c = r.1 in
          let q : length todo ≡ r.0 = omega arith in done_or_open p v (sym (get_or_push todo w 0 r.0 q) ∙ r.2)
    ]

    source : (j : ℕ) → j < length todo → HasSource g path todo segs j
    source j l =
        let n = length_push todo w in
        let k : j < length (todo ++ w ∷ []) = omega arith in
        let r = i.sources j k in
        (r.0, r.1, subst (λ x. HasEdge g (node_at path r.0) x) (get_or_append_left todo (w ∷ []) 0 j l) r.2, r.3, r.4)

-- the last edge leads back to a segment before the last one, which joins the one before it
pub merged : (g : List (List ℕ)) (st : List Standing) (path todo : List ℕ) (segs : List Segment) (top : Segment) (fin t q : ℕ) → IsSearched g st path todo (segs ++ top ∷ []) fin →
    length todo ≡ t + 1 → top.todo_from ≤ t → standing_of st (node_at todo t) ≡ Open q → q < top.path_from → IsSearched g st path todo segs fin
merged g st path todo segs top fin t q i e lt o lq =
    record {
      count = i.count;
      numbers = i.numbers;
      stands = i.stands;
      on_path = i.on_path;
      reach = i.reach;
      back = back;
      edges = λ p w l h. settled p w (i.edges p w l h);
      sources = λ j l. (let r = i.sources j l in
          (r.0, r.1, r.2, all_front no_segment (λ s. s.todo_from ≤ j → s.path_from ≤ r.0) segs top r.3, all_front no_segment (λ s. j < s.todo_from → r.0 < s.path_from) segs top r.4));
      done_edges = i.done_edges;
      done_same = i.done_same;
      done_below = i.done_below;
      rising = λ k l h m. (let n = length_push segs top in
          let a = get_or_append_left segs (top ∷ []) no_segment k (omega arith) in
          let b = get_or_append_left segs (top ∷ []) no_segment l m in
          subst (λ s. (s.path_from < path_from segs l) × (s.todo_from ≤ todo_from segs l)) a
          (subst (λ s. (path_from (segs ++ top ∷ []) k < s.path_from) × (todo_from (segs ++ top ∷ []) k ≤ s.todo_from)) b (i.rising k l h (omega arith))));
      starts = all_front no_segment (λ s. (s.path_from < length path) × (s.todo_from ≤ length todo)) segs top i.starts;
      first = λ z. all_first z;
      ended = λ z. absurd (some z);
    }
  where
    all_first : 0 < length segs → (path_from segs 0 ≡ 0) × (todo_from segs 0 ≡ 0)
    all_first z =
        let n = length_push segs top in
        subst (λ (s : Segment). (s.path_from ≡ 0) × (s.todo_from ≡ 0)) (get_or_append_left segs (top ∷ []) no_segment 0 z) (i.first (omega arith))

    -- another segment is before the last
    some : length segs ≡ 0 → ⊥
    some z =
        let n = length_push segs top in
        let f = (i.first (omega arith)).0 in
        let k : path_from (segs ++ top ∷ []) 0 ≡ top.path_from = ap (λ (s : Segment). s.path_from) (get_or_push segs top no_segment 0 z) in
        omega arith

    settled : (p w : ℕ) → IsSettled st todo (segs ++ top ∷ []) p w → IsSettled st todo segs p w
    settled p w (inl d) = inl d
    settled p w (inr (inl r)) = inr (inl (r.0, r.1, all_front no_segment (λ s. s.path_from ≤ p → s.path_from ≤ r.0) segs top r.2))
    settled p w (inr (inr r)) = inr (inr (r.0, r.1, r.2, all_front no_segment (λ s. s.path_from ≤ p → s.todo_from ≤ r.0) segs top r.3))

    between : (p r : ℕ) → NoneBetween segs p r → (top.path_from ≤ p) ⊎ (r < top.path_from) → NoneBetween (segs ++ top ∷ []) p r
    between p r h o = all_push no_segment (λ s. (s.path_from ≤ p) ⊎ (r < s.path_from)) segs top h o

    narrower : (p r s : ℕ) → NoneBetween segs p r → s ≤ r → NoneBetween segs p s
    narrower p r s h l k m = elim (h k m) [ inl a ↦ inl a | inr b ↦ inr (omega arith) ]

    -- from after the last segment's start back to the place that the edge leads to
    to_target : (r : ℕ) → top.path_from ≤ r → r < length path → Path g (node_at path r) (node_at path q)
    to_target r a l =
        let s = i.sources t (omega arith) in
        let b = all_last no_segment (λ (x : Segment). x.todo_from ≤ t → x.path_from ≤ s.0) segs top s.3 lt in
        let m = s.1 in
        let at_q = (i.on_path (node_at todo t) q o).1 in
        let last_edge : HasEdge g (node_at path s.0) (node_at path q) = subst (λ x. HasEdge g (node_at path s.0) x) (sym at_q) s.2 in
        path_edge g (elim (cases_lt s.0 r) [
          | inl c ↦ i.back s.0 r (omega arith) l (in_last s.0 r b)
          | inr c ↦ i.reach r s.0 c m
        ]) last_edge
      where
        in_last : (s r' : ℕ) → top.path_from ≤ s → NoneBetween (segs ++ top ∷ []) s r'
        in_last s r' b k m =
            let n = length_push segs top in
            let z = (last_of g st path todo (segs ++ top ∷ []) fin (length segs) i n k m).0 in
            let y : path_from (segs ++ top ∷ []) (length segs) ≡ top.path_from = ap (λ (x : Segment). x.path_from) (get_or_push segs top no_segment (length segs) refl) in
            inl (omega arith)

    back : (p r : ℕ) → p ≤ r → r < length path → NoneBetween segs p r → Path g (node_at path r) (node_at path p)
    back p r h l n = elim (cases_lt r top.path_from) [
      | inl a ↦ i.back p r h l (between p r n (inr a))
      | inr a ↦ elim (cases_lt p top.path_from) [
        | inr b ↦ i.back p r h l (between p r n (inl b))
        | inl b ↦ path_then g (to_target r a l) (elim (cases_lt p q) [
          | inl c ↦ i.back p q (omega arith) (omega arith) (between p q (narrower p r q n (omega arith)) (inr lq))
          | inr c ↦ i.reach q p c (omega arith)
        ])
      ]
    ]

pub last_split : {A : Type 0} (d : A) (xs : List A) (m : ℕ) → length xs ≡ m + 1 → xs ≡ take m xs ++ get_or xs m d ∷ []
last_split d xs m e = sym (take_all (m + 1) xs (omega arith)) ∙ take_more xs m d (omega arith)

pub merged_last : (g : List (List ℕ)) (st : List Standing) (path todo : List ℕ) (segs : List Segment) (fin m t q : ℕ) → IsSearched g st path todo segs fin →
    length segs ≡ m + 1 → length todo ≡ t + 1 → todo_from segs m ≤ t → standing_of st (node_at todo t) ≡ Open q → q < path_from segs m → IsSearched g st path todo (take m segs) fin
merged_last g st path todo segs fin m t q i es et lt o lq =
    merged g st path todo (take m segs) (get_or segs m no_segment) fin t q (subst (λ ss. IsSearched g st path todo ss fin) (last_split no_segment segs m es) i) et lt o lq

pub skipped_last : (g : List (List ℕ)) (st : List Standing) (path todo : List ℕ) (segs : List Segment) (fin m t : ℕ) → IsSearched g st path todo segs fin →
    length segs ≡ m + 1 → length todo ≡ t + 1 → todo_from segs m ≤ t →
    ((c : ℕ) × (standing_of st (node_at todo t) ≡ Done c)) ⊎ ((q : ℕ) × (standing_of st (node_at todo t) ≡ Open q) × (path_from segs m ≤ q)) →
    IsSearched g st path (take t todo) segs fin
skipped_last g st path todo segs fin m t i es et lt s =
    let n = length-take-le t todo (omega arith) in
    skipped g st path (take t todo) (node_at todo t) segs fin m (subst (λ ts. IsSearched g st path ts segs fin) (last_split 0 todo t et) i) es (omega arith) s

-- where the last edge's source stands, and the edge
pub last_source : (g : List (List ℕ)) (st : List Standing) (path todo : List ℕ) (segs : List Segment) (fin m t : ℕ) → IsSearched g st path todo segs fin →
    length segs ≡ m + 1 → length todo ≡ t + 1 → todo_from segs m ≤ t → (p : ℕ) → p < length path → Path g (node_at path p) (node_at todo t)
last_source g st path todo segs fin m t i es et lt p l =
    let s = i.sources t (omega arith) in
    let b = s.3 m (omega arith) lt in
    let a = s.1 in
    path_edge g (elim (cases_lt s.0 p) [
      | inl c ↦ i.back s.0 p (omega arith) l (λ k h. (let z = (last_of g st path todo segs fin m i es k h).0 in inl (omega arith)))
      | inr c ↦ i.reach p s.0 c a
    ]) s.2

pub waiting : (g : List (List ℕ)) (st : List Standing) (path todo : List ℕ) (segs : List Segment) (fin m : ℕ) → IsSearched g st path todo segs fin →
    length segs ≡ m + 1 → (length todo ≡ todo_from segs m → ⊥) → todo_from segs m < length todo
waiting g st path todo segs fin m i es n =
    let s = (i.starts m (omega arith)).1 in
    elim (cases_eq (length todo) (todo_from segs m)) [ inl e ↦ absurd (n e) | inr k ↦ omega arith ]

pub target_in : (g : List (List ℕ)) (st : List Standing) (path todo : List ℕ) (segs : List Segment) (fin j : ℕ) → IsSearched g st path todo segs fin → IsClosed g →
    j < length todo → node_at todo j < length g
target_in g st path todo segs fin j i c l = let s = i.sources j l in c (node_at path s.0) (node_at todo j) s.2

-- where nothing is open or unseen, each node is done
all_done : (g : List (List ℕ)) (st : List Standing) (path todo : List ℕ) (segs : List Segment) (fin : ℕ) → IsSearched g st path todo segs fin → segs ≡ [] →
    (v : ℕ) → (standing_of st v ≡ Unseen → ⊥) → (c : ℕ) × (standing_of st v ≡ Done c)
all_done g st path todo segs fin i e v n = go (standing_of st v) refl
  where
    go : (s : Standing) → standing_of st v ≡ s → (c : ℕ) × (standing_of st v ≡ Done c)
    go Unseen q = absurd (n q)
    go (Open p) q = let l = (i.on_path v p q).0 in let z = (i.ended (ap length e)).0 in absurd (omega arith)
    go (Done c) q = (c, q)

-- a path leads from a component to one with a number that is no greater
descends : (g : List (List ℕ)) (st : List Standing) (path todo : List ℕ) (segs : List Segment) (fin : ℕ) → IsSearched g st path todo segs fin → {v w : ℕ} → Path g v w →
    (c d : ℕ) → standing_of st v ≡ Done c → standing_of st w ≡ Done d → d ≤ c
descends g st path todo segs fin i stay c d a b = let e = done_same_number c d (sym a ∙ b) in omega arith
descends g st path todo segs fin i (edge_then {u} {v} {w} e p) c d a b =
    let r = i.done_edges u c v a e in
    let k = descends g st path todo segs fin i p r.0 d r.1 b in
    let h = r.2 in omega arith

pub are_components : (g : List (List ℕ)) (st : List Standing) (path todo : List ℕ) (segs : List Segment) (fin : ℕ) → IsSearched g st path todo segs fin → segs ≡ [] →
    ((v : ℕ) → v < length g → standing_of st v ≡ Unseen → ⊥) → AreComponents g st
are_components g st path todo segs fin i e n = record {
  count = i.count;
  same = λ v w lv lw.
      let a = all_done g st path todo segs fin i e v (n v lv) in
      let b = all_done g st path todo segs fin i e w (n w lw) in
      let is : has_same_number (standing_of st v) (standing_of st w) ≡ eqb a.0 b.0 = ap (λ s. has_same_number s (standing_of st w)) a.1 ∙ ap (has_same_number (Done a.0)) b.1 in (
        λ q. (let k : a.0 ≡ b.0 = eqb-true a.0 b.0 (sym is ∙ q) in
            (i.done_same v w b.0 (a.1 ∙ ap Done k) b.1, i.done_same w v b.0 b.1 (a.1 ∙ ap Done k))),
        λ q. (let x = descends g st path todo segs fin i q.0 a.0 b.0 a.1 b.1 in
            let y = descends g st path todo segs fin i q.1 b.0 a.0 b.1 a.1 in
            let k : a.0 ≡ b.0 = omega arith in is ∙ eq-eqb a.0 b.0 k),
      );
}
