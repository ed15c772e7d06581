-- the nodes of the last segment are a component
use Rattle.std.proofs.Common.{◌≡◌, ℕ, ◌+◌, ◌<◌, ◌≤◌, arith, ◌⊎◌, List, [], ◌∷◌, ◌++◌, length, get_or, take, refl, ap, sym, subst, ◌∙◌, inl, inr}
use Rattle.std.proofs.lemmas.List.{length_push, length-take-le, get_or_append_left, get_or_push, get_or-take}
use Rattle.std.proofs.lemmas.Bool.{cases_lt}
use Rattle.xd_sound.specs.Graph.{HasEdge}
use Rattle.xd_rec.specs.Components.{standing_of, node_at, no_segment, path_from, todo_from, NoneBetween, IsSettled, HasSource, IsSearched, IsDoneFrom, Path}
use Rattle.xd_rec.specs.declared.components.Standing.{Standing}
use Rattle.xd_rec.specs.declared.components.Standing.TheVariants.{Unseen, Open, Done}
use Rattle.xd_rec.specs.declared.components.Segment.{Segment}
use Rattle.xd_sound.proofs.Lists.{all_push, all_front, all_last}
use Rattle.xd_rec.proofs.IsSearchedLemmas.{open_same, done_same_number, last_split}

module _ (g : List (List ℕ)) (st new : List Standing) (path todo : List ℕ) (segs : List Segment) (top : Segment) (fin : ℕ) (i : IsSearched g st path todo (segs ++ top ∷ []) fin)
    (no_edge : length todo ≡ top.todo_from) (d : IsDoneFrom st new top.path_from fin) where
  top_starts : (top.path_from < length path) × (top.todo_from ≤ length todo)
  top_starts = all_last no_segment (λ s. (s.path_from < length path) × (s.todo_from ≤ length todo)) segs top i.starts

  at_top : path_from (segs ++ top ∷ []) (length segs) ≡ top.path_from
  at_top = ap (λ (s : Segment). s.path_from) (get_or_push segs top no_segment (length segs) refl)

  -- a segment before the last begins before it
  before_top : (k : ℕ) → k < length segs → path_from segs k < top.path_from
  before_top k l =
      let n = length_push segs top in
      let r = (i.rising k (length segs) l (omega arith)).0 in
      let a : path_from (segs ++ top ∷ []) k ≡ path_from segs k = ap (λ (s : Segment). s.path_from) (get_or_append_left segs (top ∷ []) no_segment k l) in
      let b = at_top in
      omega arith

  abbrev rest : List ℕ
  rest = take top.path_from path

  rest_length : length rest ≡ top.path_from
  rest_length = let r = top_starts.0 in length-take-le top.path_from path (omega arith)

  at_rest : (p : ℕ) → p < top.path_from → node_at rest p ≡ node_at path p
  at_rest p l = get_or-take top.path_from path p 0 l

  -- what stood so before stands so
  done_kept : (u c : ℕ) → standing_of st u ≡ Done c → standing_of new u ≡ Done c
  done_kept u c e = d.kept u (λ p o. absurd (let x : Open p ≡ Done c = sym o ∙ e in cc)) ∙ e

  open_kept : (u p : ℕ) → standing_of st u ≡ Open p → p < top.path_from → standing_of new u ≡ Open p
  open_kept u p e l = d.kept u (λ q o. (let x : p ≡ q = open_same p q (sym e ∙ o) in omega arith)) ∙ e

  abbrev IsOpenFrom : ℕ → Type 0
  IsOpenFrom u = (p : ℕ) × (standing_of st u ≡ Open p) × (top.path_from ≤ p)

  -- a node is of the last segment, or stands as it did
  was : (u : ℕ) → IsOpenFrom u ⊎ (standing_of new u ≡ standing_of st u)
  was u = go (standing_of st u) refl
    where
      go : (s : Standing) → standing_of st u ≡ s → IsOpenFrom u ⊎ (standing_of new u ≡ standing_of st u)
      go Unseen e = inr (d.kept u (λ p o. absurd (let x : Open p ≡ Unseen = sym o ∙ e in cc)))
      go (Done c) e = inr (done_kept u c e ∙ sym e)
      go (Open p) e = elim (cases_lt p top.path_from) [ inl l ↦ inr (open_kept u p e l ∙ sym e) | inr l ↦ inl (p, e, l) ]

  was_done : (u c : ℕ) → standing_of new u ≡ Done c → ((c ≡ fin) × IsOpenFrom u) ⊎ (standing_of st u ≡ Done c)
  was_done u c e = elim (was u) [
    | inl o ↦ inl (done_same_number c fin (sym e ∙ d.closed u o.0 o.1 o.2), o)
    | inr k ↦ inr (sym k ∙ e)
  ]

  was_open : (u p : ℕ) → standing_of new u ≡ Open p → (standing_of st u ≡ Open p) × (p < top.path_from)
  was_open u p e = elim (was u) [
    | inl o ↦ absurd (let x : Done fin ≡ Open p = sym (d.closed u o.0 o.1 o.2) ∙ e in cc)
    | inr k ↦ (
      sym k ∙ e,
      (let o : standing_of st u ≡ Open p = sym k ∙ e in elim (cases_lt p top.path_from) [
        | inl l ↦ l
        | inr l ↦ absurd (let x : Done fin ≡ Open p = sym (d.closed u p o l) ∙ e in cc)
      ]),
    )
  ]

  closed_reach : (p q : ℕ) → p ≤ q → q < length rest → Path g (node_at rest p) (node_at rest q)
  closed_reach p q h l =
      let n = rest_length in
      let r = top_starts.0 in
      subst (λ x. Path g x (node_at rest q)) (sym (at_rest p (omega arith))) (subst (Path g (node_at path p)) (sym (at_rest q (omega arith))) (i.reach p q h (omega arith)))

  closed_back : (p q : ℕ) → p ≤ q → q < length rest → NoneBetween segs p q → Path g (node_at rest q) (node_at rest p)
  closed_back p q h l b =
      let n = rest_length in
      let r = top_starts.0 in
      subst (λ x. Path g x (node_at rest p)) (sym (at_rest q (omega arith)))
      (subst (Path g (node_at path q)) (sym (at_rest p (omega arith)))
      (i.back p q h (omega arith) (all_push no_segment (λ s. (s.path_from ≤ p) ⊎ (q < s.path_from)) segs top b (inr (omega arith)))))

  closed_edges : (p w : ℕ) → p < length rest → HasEdge g (node_at rest p) w → IsSettled new todo segs p w
  closed_edges p w l e =
      let n = rest_length in
      let r = top_starts.0 in
      go (i.edges p w (omega arith) (subst (λ x. HasEdge g x w) (at_rest p (omega arith)) e))
    where
      go : IsSettled st todo (segs ++ top ∷ []) p w → IsSettled new todo segs p w
      go (inl x) = inl (x.0, done_kept w x.0 x.1)
      go (inr (inl o)) = elim (cases_lt o.0 top.path_from) [
        | inl a ↦ inr (inl (o.0, open_kept w o.0 o.1 a, all_front no_segment (λ s. s.path_from ≤ p → s.path_from ≤ o.0) segs top o.2))
        | inr a ↦ inl (fin, d.closed w o.0 o.1 a)
      ]
      go (inr (inr y)) = inr (inr (y.0, y.1, y.2, all_front no_segment (λ s. s.path_from ≤ p → s.todo_from ≤ y.0) segs top y.3))

  closed_sources : (j : ℕ) → j < length todo → HasSource g rest todo segs j
  closed_sources j l =
      let y = i.sources j l in
      let b = all_last no_segment (λ s. j < s.todo_from → y.0 < s.path_from) segs top y.4 (omega arith) in
      let n = rest_length in (
        y.0,
        omega arith,
        subst (λ x. HasEdge g x (node_at todo j)) (sym (at_rest y.0 b)) y.2,
        all_front no_segment (λ s. s.todo_from ≤ j → s.path_from ≤ y.0) segs top y.3,
        all_front no_segment (λ s. j < s.todo_from → y.0 < s.path_from) segs top y.4,
      )

  -- an edge from the last segment leads to a node that is done now
  edge_done : (p w : ℕ) → p < length path → top.path_from ≤ p → HasEdge g (node_at path p) w → (c : ℕ) × (standing_of new w ≡ Done c) × (c ≤ fin)
  edge_done p w l h e = go (i.edges p w l e)
    where
      go : IsSettled st todo (segs ++ top ∷ []) p w → (c : ℕ) × (standing_of new w ≡ Done c) × (c ≤ fin)
      go (inl x) = let b = i.done_below w x.0 x.1 in (x.0, done_kept w x.0 x.1, omega arith)
      go (inr (inl o)) = (fin, d.closed w o.0 o.1 (all_last no_segment (λ s. s.path_from ≤ p → s.path_from ≤ o.0) segs top o.2 h), omega arith)
      go (inr (inr y)) =
          let a = all_last no_segment (λ s. s.path_from ≤ p → s.todo_from ≤ y.0) segs top y.3 h in
          let b = y.1 in absurd (omega arith)

  closed_done_edges : (u c w : ℕ) → standing_of new u ≡ Done c → HasEdge g u w → (e : ℕ) × (standing_of new w ≡ Done e) × (e ≤ c)
  closed_done_edges u c w h e = elim (was_done u c h) [
    | inr o ↦ (let r = i.done_edges u c w o e in (r.0, done_kept w r.0 r.1, r.2))
    | inl (q, o) ↦
        let z = i.on_path u o.0 o.1 in
        let r = edge_done o.0 w z.0 o.2 (subst (λ x. HasEdge g x w) (sym z.1) e) in
        let s = r.2 in
        (r.0, r.1, omega arith)
  ]

  -- nodes of the last segment reach each other
  within : (p q : ℕ) → p < length path → q < length path → top.path_from ≤ p → top.path_from ≤ q → Path g (node_at path p) (node_at path q)
  within p q lp lq hp hq = elim (cases_lt q p) [
    | inl a ↦ i.back q p (omega arith) lp (all_push no_segment (λ s. (s.path_from ≤ q) ⊎ (p < s.path_from)) segs top
        (λ k l. inl (let b = before_top k l in omega arith)) (inl hq))
    | inr a ↦ i.reach p q a lq
  ]

  closed_done_same : (u w c : ℕ) → standing_of new u ≡ Done c → standing_of new w ≡ Done c → Path g u w
  closed_done_same u w c h k = elim (was_done u c h) [
    | inl (q, o) ↦ elim (was_done w c k) [
      | inl (r, p) ↦
          let y = i.on_path u o.0 o.1 in
          let z = i.on_path w p.0 p.1 in
          subst (λ x. Path g x w) y.1 (subst (Path g (node_at path o.0)) z.1 (within o.0 p.0 y.0 z.0 o.2 p.2))
      | inr p ↦ absurd (let b = i.done_below w c p in omega arith)
    ]
    | inr o ↦ elim (was_done w c k) [
      | inl (r, p) ↦ absurd (let b = i.done_below u c o in omega arith)
      | inr p ↦ i.done_same u w c o p
    ]
  ]

  closed_rising : (k l : ℕ) → k < l → l < length segs → (path_from segs k < path_from segs l) × (todo_from segs k ≤ todo_from segs l)
  closed_rising k l h m =
      let n = length_push segs top in
      let a = get_or_append_left segs (top ∷ []) no_segment k (omega arith) in
      let b = get_or_append_left segs (top ∷ []) no_segment l m in
      subst (λ s. (s.path_from < path_from segs l) × (s.todo_from ≤ todo_from segs l)) a
      (subst (λ s. (path_from (segs ++ top ∷ []) k < s.path_from) × (todo_from (segs ++ top ∷ []) k ≤ s.todo_from)) b (i.rising k l h (omega arith)))

  closed_first : 0 < length segs → (path_from segs 0 ≡ 0) × (todo_from segs 0 ≡ 0)
  closed_first z =
      let n = length_push segs top in
      subst (λ (s : Segment). (s.path_from ≡ 0) × (s.todo_from ≡ 0)) (get_or_append_left segs (top ∷ []) no_segment 0 z) (i.first (omega arith))

  closed_ended : length segs ≡ 0 → (length rest ≡ 0) × (length todo ≡ 0)
  closed_ended z =
      let n = length_push segs top in
      let f = subst (λ (s : Segment). (s.path_from ≡ 0) × (s.todo_from ≡ 0)) (get_or_push segs top no_segment 0 z) (i.first (omega arith)) in
      let a = f.0 in
      let b = f.1 in
      let r = rest_length in
      (omega arith, omega arith)

  pub closed : IsSearched g new rest todo segs (fin + 1)
  closed =
      let n = rest_length in
      let r = top_starts.0 in
      let c1 = d.count in
      let c2 = i.count in
      let u = d.unseen_still in
      let m = i.numbers in
      record {
        count = c1 ∙ c2;
        numbers = omega arith;
        stands = λ p l. (let e = at_rest p (omega arith) in
            subst (λ x. standing_of new x ≡ Open p) (sym e) (open_kept (node_at path p) p (i.stands p (omega arith)) (omega arith)));
        on_path = λ v p e. (let w = was_open v p e in let l = w.1 in (omega arith, at_rest p l ∙ (i.on_path v p w.0).1));
        reach = closed_reach;
        back = closed_back;
        edges = closed_edges;
        sources = closed_sources;
        done_edges = closed_done_edges;
        done_same = closed_done_same;
        done_below = λ v c e. elim (was_done v c e) [ inl (q, o) ↦ omega arith | inr o ↦ (let b = i.done_below v c o in omega arith) ];
        rising = closed_rising;
        starts = λ k l. (let a = all_front no_segment (λ s. (s.path_from < length path) × (s.todo_from ≤ length todo)) segs top i.starts k l in
            let b = before_top k l in let z = a.1 in (omega arith, z));
        first = closed_first;
        ended = closed_ended;
      }

  pub closed_seen : (u : ℕ) → (standing_of st u ≡ Unseen → ⊥) → standing_of new u ≡ Unseen → ⊥
  closed_seen u n e = elim (was u) [
    | inl o ↦ (let x : Done fin ≡ Unseen = sym (d.closed u o.0 o.1 o.2) ∙ e in cc)
    | inr k ↦ n (sym k ∙ e)
  ]

pub closed_last : (g : List (List ℕ)) (st new : List Standing) (path todo : List ℕ) (segs : List Segment) (fin m : ℕ) → IsSearched g st path todo segs fin →
    length segs ≡ m + 1 → length todo ≡ todo_from segs m → IsDoneFrom st new (path_from segs m) fin → IsSearched g new (take (path_from segs m) path) todo (take m segs) (fin + 1)
closed_last g st new path todo segs fin m i es e d =
    closed g st new path todo (take m segs) (get_or segs m no_segment) fin (subst (λ ss. IsSearched g st path todo ss fin) (last_split no_segment segs m es) i) e d

pub closed_seen_last : (g : List (List ℕ)) (st new : List Standing) (path todo : List ℕ) (segs : List Segment) (fin m : ℕ) → IsSearched g st path todo segs fin →
    length segs ≡ m + 1 → length todo ≡ todo_from segs m → IsDoneFrom st new (path_from segs m) fin →
    (u : ℕ) → (standing_of st u ≡ Unseen → ⊥) → standing_of new u ≡ Unseen → ⊥
closed_seen_last g st new path todo segs fin m i es e d =
    closed_seen g st new path todo (take m segs) (get_or segs m no_segment) fin (subst (λ ss. IsSearched g st path todo ss fin) (last_split no_segment segs m es) i) e d
