-- a node goes on the path, as a segment of its own
use Rattle.std.proofs.Common.{◌≡◌, ℕ, zero, suc, ◌+◌, ◌-◌, ◌<◌, ◌≤◌, arith, ◌⊎◌, List, [], ◌∷◌, ◌++◌, length, get_or, set, refl, ap, sym, subst, ◌∙◌, inl, inr}
use Rattle.std.proofs.lemmas.List.{length_push, length-append, length-set, get_or_append_left, get_or_push, get_or-append-add, get_or-set_same, get_or-set_other}
use Rattle.std.proofs.lemmas.Bool.{cases_lt, cases_eq}
use Rattle.xd_sound.specs.Graph.{successors, HasEdge}
use Rattle.xd_rec.specs.Components.{standing_of, node_at, no_segment, path_from, todo_from, unseen, NoneBetween, IsSettled, HasSource, IsSearched, Path, stay}
use Rattle.xd_rec.specs.declared.components.Standing.{Standing}
use Rattle.xd_rec.specs.declared.components.Standing.TheVariants.{Unseen, Open, Done}
use Rattle.xd_rec.specs.declared.components.Segment.{Segment}
use Rattle.xd_sound.proofs.Lists.{all_push, all_front, place_in, among_at}
use Rattle.xd_rec.proofs.IsSearchedLemmas.{open_same}

pub unseen_less : (st : List Standing) (v p : ℕ) → v < length st → get_or st v Unseen ≡ Unseen → unseen (set st v (Open p)) + 1 ≡ unseen st
unseen_less [] v p l e = absurd (omega arith)
unseen_less (Unseen ∷ st) zero p l e = refl
unseen_less (Open q ∷ st) zero p l e = absurd (cc)
unseen_less (Done c ∷ st) zero p l e = absurd (cc)
unseen_less (Unseen ∷ st) (suc v) p l e = let i = unseen_less st v p (omega arith) e in omega arith
unseen_less (Open q ∷ st) (suc v) p l e = unseen_less st v p (omega arith) e
unseen_less (Done c ∷ st) (suc v) p l e = unseen_less st v p (omega arith) e

module _ (g : List (List ℕ)) (st : List Standing) (path todo : List ℕ) (segs : List Segment) (fin v : ℕ) (i : IsSearched g st path todo segs fin)
    (lv : v < length st) (fresh : standing_of st v ≡ Unseen) (reached : (p : ℕ) → p < length path → Path g (node_at path p) v) where
  abbrev new_st : List Standing
  new_st = set st v (Open (length path))

  abbrev new_path : List ℕ
  new_path = path ++ v ∷ []

  abbrev new_todo : List ℕ
  new_todo = todo ++ successors g v

  abbrev new_segment : Segment
  new_segment = record { path_from = length path; todo_from = length todo }

  other : (u : ℕ) → (u ≡ v → ⊥) → standing_of new_st u ≡ standing_of st u
  other u n = get_or-set_other st v u (Open (length path)) Unseen n

  here : standing_of new_st v ≡ Open (length path)
  here = get_or-set_same st v (Open (length path)) Unseen lv

  seen_kept : (u : ℕ) (s : Standing) → standing_of st u ≡ s → (Unseen ≡ s → ⊥) → standing_of new_st u ≡ s
  seen_kept u s e n = other u (λ q. n (sym fresh ∙ ap (standing_of st) (sym q) ∙ e)) ∙ e

  front : (p : ℕ) → p < length path → node_at new_path p ≡ node_at path p
  front p l = get_or_append_left path (v ∷ []) 0 p l

  last : (p : ℕ) → length path ≡ p → node_at new_path p ≡ v
  last p e = get_or_push path v 0 p e

  split : (p : ℕ) → p < length new_path → (p < length path) ⊎ (length path ≡ p)
  split p l = let n = length_push path v in elim (cases_lt p (length path)) [ inl a ↦ inl a | inr b ↦ inr (omega arith) ]

  opened_stands : (p : ℕ) → p < length new_path → standing_of new_st (node_at new_path p) ≡ Open p
  opened_stands p l = elim (split p l) [
    | inl a ↦ subst (λ x. standing_of new_st x ≡ Open p) (sym (front p a)) (seen_kept (node_at path p) (Open p) (i.stands p a) (λ q. cc))
    | inr b ↦ subst (λ x. standing_of new_st x ≡ Open p) (sym (last p b)) (here ∙ ap Open b)
  ]

  opened_on_path : (u p : ℕ) → standing_of new_st u ≡ Open p → (p < length new_path) × (node_at new_path p ≡ u)
  opened_on_path u p e =
      let n = length_push path v in
      elim (cases_eq u v) [
        | inl q ↦ (let r : length path ≡ p = open_same (length path) p (sym here ∙ ap (standing_of new_st) (sym q) ∙ e) in (omega arith, last p r ∙ sym q))
        | inr q ↦ (let r = i.on_path u p (sym (other u q) ∙ e) in let l = r.0 in (omega arith, front p l ∙ r.1))
      ]

  opened_reach : (p q : ℕ) → p ≤ q → q < length new_path → Path g (node_at new_path p) (node_at new_path q)
  opened_reach p q h l = elim (split q l) [
    | inl a ↦
        let b : p < length path = omega arith in
        subst (λ x. Path g x (node_at new_path q)) (sym (front p b)) (subst (Path g (node_at path p)) (sym (front q a)) (i.reach p q h a))
    | inr a ↦ elim (cases_lt p (length path)) [
      | inl b ↦ subst (λ x. Path g x (node_at new_path q)) (sym (front p b)) (subst (Path g (node_at path p)) (sym (last q a)) (reached p b))
      | inr b ↦ (let e : p ≡ q = omega arith in subst (λ x. Path g (node_at new_path x) (node_at new_path q)) (sym e) stay)
    ]
  ]

  opened_back : (p q : ℕ) → p ≤ q → q < length new_path → NoneBetween (segs ++ new_segment ∷ []) p q → Path g (node_at new_path q) (node_at new_path p)
  opened_back p q h l n = elim (split q l) [
    | inl a ↦
        let b : p < length path = omega arith in
        subst (λ x. Path g x (node_at new_path p)) (sym (front q a))
        (subst (Path g (node_at path q)) (sym (front p b)) (i.back p q h a (all_front no_segment (λ s. (s.path_from ≤ p) ⊎ (q < s.path_from)) segs new_segment n)))
    | inr a ↦
        let m = length_push segs new_segment in
        let z : path_from (segs ++ new_segment ∷ []) (length segs) ≡ length path = ap (λ (s : Segment). s.path_from) (get_or_push segs new_segment no_segment (length segs) refl) in
        elim (n (length segs) (omega arith)) [
          | inl c ↦ (let e : p ≡ q = omega arith in subst (λ x. Path g (node_at new_path q) (node_at new_path x)) (sym e) stay)
          | inr c ↦ absurd (omega arith)
        ]
  ]

  wait_at : (w : ℕ) → HasEdge g v w → (j : ℕ) × (j < length new_todo) × (node_at new_todo j ≡ w) × (length todo ≤ j)
  wait_at w e =
      let r = place_in w (successors g v) e in
      let n = length-append todo (successors g v) in
      let l = r.1 in
      (length todo + r.0, omega arith, get_or-append-add todo (successors g v) r.0 0 ∙ r.2, omega arith)

  opened_edges : (p w : ℕ) → p < length new_path → HasEdge g (node_at new_path p) w → IsSettled new_st new_todo (segs ++ new_segment ∷ []) p w
  opened_edges p w l e = elim (split p l) [
    | inl a ↦ old a (i.edges p w a (subst (λ x. HasEdge g x w) (front p a) e))
    | inr a ↦
        let r = wait_at w (subst (λ x. HasEdge g x w) (last p a) e) in
        inr (inr (
          r.0,
          r.1,
          r.2,
          all_push no_segment (λ s. s.path_from ≤ p → s.todo_from ≤ r.0) segs new_segment
              (λ k m h. (let z = (i.starts k m).1 in let y = r.3 in omega arith)) (λ h. r.3),
        ))
  ]
    where
      old : p < length path → IsSettled st todo segs p w → IsSettled new_st new_todo (segs ++ new_segment ∷ []) p w
      old a (inl d) = inl (d.0, seen_kept w (Done d.0) d.1 (λ q. cc))
      old a (inr (inl o)) =
          inr (inl (o.0, seen_kept w (Open o.0) o.1 (λ q. cc), all_push no_segment (λ s. s.path_from ≤ p → s.path_from ≤ o.0) segs new_segment o.2 (λ h. absurd (omega arith))))
      old a (inr (inr r)) =
          let n = length-append todo (successors g v) in
          let m = r.1 in
          inr (inr (
            r.0,
            omega arith,
            get_or_append_left todo (successors g v) 0 r.0 m ∙ r.2,
            all_push no_segment (λ s. s.path_from ≤ p → s.todo_from ≤ r.0) segs new_segment r.3 (λ h. absurd (omega arith)),
          ))

  opened_sources : (j : ℕ) → j < length new_todo → HasSource g new_path new_todo (segs ++ new_segment ∷ []) j
  opened_sources j l =
      let n = length-append todo (successors g v) in
      let m = length_push path v in
      elim (cases_lt j (length todo)) [
        | inl a ↦ (let r = i.sources j a in let b = r.1 in (
          r.0,
          omega arith,
          subst (λ x. HasEdge g x (node_at new_todo j)) (sym (front r.0 b)) (subst (HasEdge g (node_at path r.0)) (sym (get_or_append_left todo (successors g v) 0 j a)) r.2),
          all_push no_segment (λ s. s.todo_from ≤ j → s.path_from ≤ r.0) segs new_segment r.3 (λ h. absurd (omega arith)),
          all_push no_segment (λ s. j < s.todo_from → r.0 < s.path_from) segs new_segment r.4 (λ h. b),
        ))
        | inr a ↦ (let d : (k : ℕ) × (length todo + k ≡ j) × (k < length (successors g v)) = (j - length todo, omega arith, omega arith) in (
          length path,
          omega arith,
          subst (λ x. HasEdge g x (node_at new_todo j)) (sym (last (length path) refl))
              (subst (HasEdge g v) (sym (get_or-append-add todo (successors g v) d.0 0) ∙ ap (node_at new_todo) d.1) (among_at 0 (successors g v) d.0 d.2)),
          all_push no_segment (λ s. s.todo_from ≤ j → s.path_from ≤ length path) segs new_segment (λ k b h. (let z = (i.starts k b).0 in omega arith)) (λ h. omega arith),
          all_push no_segment (λ s. j < s.todo_from → length path < s.path_from) segs new_segment (λ k b h. (let z = (i.starts k b).1 in absurd (omega arith))) (λ h. absurd (omega arith)),
        ))
      ]

  undone : (c : ℕ) (u : ℕ) → standing_of new_st u ≡ Done c → standing_of st u ≡ Done c
  undone c u e = elim (cases_eq u v) [
    | inl q ↦ (let r : Open (length path) ≡ Done c = sym here ∙ ap (standing_of new_st) (sym q) ∙ e in absurd (cc))
    | inr q ↦ sym (other u q) ∙ e
  ]

  opened_rising : (k l : ℕ) → k < l → l < length (segs ++ new_segment ∷ []) →
      (path_from (segs ++ new_segment ∷ []) k < path_from (segs ++ new_segment ∷ []) l) × (todo_from (segs ++ new_segment ∷ []) k ≤ todo_from (segs ++ new_segment ∷ []) l)
  opened_rising k l h m =
      let n = length_push segs new_segment in
      let a = get_or_append_left segs (new_segment ∷ []) no_segment k (omega arith) in
      subst (λ s. (s.path_from < path_from (segs ++ new_segment ∷ []) l) × (s.todo_from ≤ todo_from (segs ++ new_segment ∷ []) l)) (sym a)
      (elim (cases_lt l (length segs)) [
        | inl b ↦ subst (λ s. (path_from segs k < s.path_from) × (todo_from segs k ≤ s.todo_from)) (sym (get_or_append_left segs (new_segment ∷ []) no_segment l b)) (i.rising k l h b)
        | inr b ↦
            subst (λ s. (path_from segs k < s.path_from) × (todo_from segs k ≤ s.todo_from)) (sym (get_or_push segs new_segment no_segment l (omega arith)))
            (i.starts k (omega arith))
      ])

  opened_first : 0 < length (segs ++ new_segment ∷ []) → (path_from (segs ++ new_segment ∷ []) 0 ≡ 0) × (todo_from (segs ++ new_segment ∷ []) 0 ≡ 0)
  opened_first z = elim (cases_lt 0 (length segs)) [
    | inl a ↦ subst (λ (s : Segment). (s.path_from ≡ 0) × (s.todo_from ≡ 0)) (sym (get_or_append_left segs (new_segment ∷ []) no_segment 0 a)) (i.first a)
    | inr a ↦
        let e : length segs ≡ 0 = omega arith in
        subst (λ (s : Segment). (s.path_from ≡ 0) × (s.todo_from ≡ 0)) (sym (get_or_push segs new_segment no_segment 0 e)) (i.ended e)
  ]

  pub opened : IsSearched g new_st new_path new_todo (segs ++ new_segment ∷ []) fin
  opened =
      let ns = length-set st v (Open (length path)) in
      let np = length_push path v in
      let nt = length-append todo (successors g v) in
      let nn = length_push segs new_segment in
      let u = unseen_less st v (length path) lv fresh in
      let m = i.numbers in
      let ct = i.count in
      record {
        count = omega arith;
        numbers = omega arith;
        stands = opened_stands;
        on_path = opened_on_path;
        reach = opened_reach;
        back = opened_back;
        edges = opened_edges;
        sources = opened_sources;
        done_edges = λ x c w d e. (let r = i.done_edges x c w (undone c x d) e in (r.0, seen_kept w (Done r.0) r.1 (λ q. cc), r.2));
        done_same = λ x w c d e. i.done_same x w c (undone c x d) (undone c w e);
        done_below = λ x c d. i.done_below x c (undone c x d);
        rising = opened_rising;
        starts = all_push no_segment (λ s. (s.path_from < length new_path) × (s.todo_from ≤ length new_todo)) segs new_segment
            (λ k l. (let r = i.starts k l in let a = r.0 in let b = r.1 in (omega arith, omega arith))) (omega arith, omega arith);
        first = opened_first;
        ended = λ z. absurd (omega arith);
      }

  pub opened_seen : (u : ℕ) → (standing_of st u ≡ Unseen → ⊥) → standing_of new_st u ≡ Unseen → ⊥
  opened_seen u n e = elim (cases_eq u v) [
    | inl q ↦ (let r : Open (length path) ≡ Unseen = sym here ∙ ap (standing_of new_st) (sym q) ∙ e in cc)
    | inr q ↦ n (sym (other u q) ∙ e)
  ]

  pub opened_here : standing_of new_st v ≡ Unseen → ⊥
  opened_here e = let r : Open (length path) ≡ Unseen = sym here ∙ e in cc
