-- Links that stand once make lists that differ.
use Rattle.std.proofs.Common.{◌≡◌, ℕ, zero, suc, ◌+◌, ◌<◌, ◌≤◌, ◌⊎◌, arith, Bool, true, false, ◌||◌, Some, List, [], ◌∷◌, ◌++◌, map, length, length-append, append_assoc, append-nil, get_or, refl, ap, sym, subst, ◌∙◌, inl, inr}
use Rattle.std.specs.List.{AllByRecursion, list_any, slice_get}
use Rattle.std.specs.Prelude.{if◌then◌else◌}
use Rattle.std.proofs.Math.ListN.{get_or-append}
use Rattle.std.proofs.Math.Seq.{get_or-append_seam}
use Rattle.xd_doc.proofs.Lists.{all_append}
use Rattle.xd_doc.specs.Members.{IsOneOf}
use Rattle.xd_syntax.proofs.Members.{mem_append, append_left, append_right, map_mem, flat_mem}
use Rattle.xd_laws.proofs.Pigeon.{NoRepeat, pigeon}
use Rattle.xd_continuations.specs.Bounds.{lists_within}
use Rattle.xd_continuations.specs.Chains.{lists_after, lists_in, list_at, AreLinksAfter, AreLinks, HasLink, KeepsLinks, room}
use Rattle.xd_continuations.specs.declared.links.Link.{Link}
use Rattle.xd_continuations.proofs.FiniteLemmas.{all_among, among_lists}

pub get_among : {A : Type 0} (d : A) (xs : List A) (i : ℕ) → i < length xs → IsOneOf (get_or xs i d) xs
get_among d [] i h = absurd (omega arith)
get_among d (x ∷ xs) zero h = inl refl
get_among d (x ∷ xs) (suc i) h = inr (get_among d xs i (omega arith))

pub same_place : {A : Type 0} (d : A) (xs : List A) → NoRepeat xs → (i j : ℕ) → i < length xs → j < length xs → get_or xs i d ≡ get_or xs j d → i ≡ j
same_place d [] n i j h k e = absurd (omega arith)
same_place d (x ∷ xs) n zero zero h k e = refl
same_place d (x ∷ xs) n zero (suc j) h k e = absurd (n.0 (subst (λ q. IsOneOf q xs) (sym e) (get_among d xs j (omega arith))))
same_place d (x ∷ xs) n (suc i) zero h k e = absurd (n.0 (subst (λ q. IsOneOf q xs) e (get_among d xs i (omega arith))))
same_place d (x ∷ xs) n (suc i) (suc j) h k e = ap suc (same_place d xs n.1 i j (omega arith) (omega arith) e)

no_repeat_push : {A : Type 0} (xs : List A) (y : A) → NoRepeat xs → (IsOneOf y xs → ⊥) → NoRepeat (xs ++ y ∷ [])
no_repeat_push [] y n h = (λ m. m, tt)
no_repeat_push (x ∷ xs) y n h =
    (λ m. elim (mem_append x xs (y ∷ []) m) [ inl a ↦ n.0 a | inr (inl e) ↦ h (inl (sym e)) | inr (inr b) ↦ b ], no_repeat_push xs y n.1 (λ m. h (inr m)))

-- what is known of the lists of these links
pub record Known {A : Type 0} (older : List (Link A)) (Ks : List (List A)) : Type 0 where
  long : length Ks ≡ length older + 1
  apart : NoRepeat Ks
  made : (L : List A) → IsOneOf L Ks → (L ≡ []) ⊎ ((c : (Link A)) × IsOneOf c older × (c.behind < length Ks) × (L ≡ c.item ∷ get_or Ks c.behind []))

pub record IsLinkAt {A : Type 0} (cs : List (Link A)) (i : ℕ) (c : (Link A)) : Type 0 where
  pub older : c.behind ≤ i
  pub list : list_at cs (i + 1) ≡ c.item ∷ list_at cs c.behind

module _ {A : Type 0} where
  pub same_link : (c d : (Link A)) → c.item ≡ d.item → c.behind ≡ d.behind → c ≡ d
  same_link c d p b =
      ap (λ (q : A). let x : Link A = record { item = q; behind = c.behind } in x) p ∙ ap (λ (n : ℕ). let x : (Link A) = record { item = d.item; behind = n } in x) b

  abbrev new_list : Link A → List (List A) → List A
  new_list c Ks = c.item ∷ get_or Ks c.behind []

  known_more : (older : List (Link A)) (Ks : List (List A)) (c : (Link A)) → Known older Ks → c.behind ≤ length older → (IsOneOf c older → ⊥) →
      Known (older ++ c ∷ []) (Ks ++ (c.item ∷ get_or Ks c.behind []) ∷ [])
  known_more older Ks c k b none = record {
    long = let a = k.long in omega (arith, length-append older (c ∷ []), length-append Ks ((new_list c Ks) ∷ []));
    apart = no_repeat_push Ks (new_list c Ks) k.apart (λ m. old_or_new (k.made (new_list c Ks) m));
    made = λ L m. elim (mem_append L Ks ((new_list c Ks) ∷ []) m) [ inl a ↦ lifted L (k.made L a) | inr (inl e) ↦ inr (newest L e) | inr (inr z) ↦ absurd z ];
  }
    where
      within : c.behind < length Ks
      within = let a = k.long in omega arith

      old_or_new : ((new_list c Ks) ≡ []) ⊎ ((d : (Link A)) × IsOneOf d older × (d.behind < length Ks) × ((new_list c Ks) ≡ d.item ∷ get_or Ks d.behind [])) → ⊥
      old_or_new (inl e) = cc
      old_or_new (inr r) =
          let p : c.item ≡ (r.0).item = let e = r.3 in cc in
          let q : get_or Ks c.behind [] ≡ get_or Ks (r.0).behind [] = let e = r.3 in cc in
          none (subst (λ x. IsOneOf x older) (sym (same_link c r.0 p (same_place [] Ks k.apart c.behind (r.0).behind within r.2 q))) r.1)

      lifted : (L : List A) → (L ≡ []) ⊎ ((d : (Link A)) × IsOneOf d older × (d.behind < length Ks) × (L ≡ d.item ∷ get_or Ks d.behind [])) →
          (L ≡ []) ⊎ ((d : (Link A)) × IsOneOf d (older ++ c ∷ []) × (d.behind < length (Ks ++ (new_list c Ks) ∷ [])) × (L ≡ d.item ∷ get_or (Ks ++ (new_list c Ks) ∷ []) d.behind []))
      lifted L (inl e) = inl e
      lifted L (inr r) =
          inr (
            r.0,
            append_left r.0 older (c ∷ []) r.1,
            (let h = r.2 in omega (arith, length-append Ks ((new_list c Ks) ∷ []))),
            r.3 ∙ ap (λ K. (r.0).item ∷ K) (sym (get_or-append Ks ((new_list c Ks) ∷ []) [] (r.0).behind r.2)),
          )

      newest : (L : List A) → (new_list c Ks) ≡ L → (d : (Link A)) × IsOneOf d (older ++ c ∷ []) × (d.behind < length (Ks ++ (new_list c Ks) ∷ [])) × (L ≡ d.item ∷ get_or (Ks ++ (new_list c Ks) ∷ []) d.behind [])
      newest L e = (
        c,
        append_right c older (c ∷ []) (inl refl),
        (let h = within in omega (arith, length-append Ks ((new_list c Ks) ∷ []))),
        sym e ∙ ap (λ K. c.item ∷ K) (sym (get_or-append Ks ((new_list c Ks) ∷ []) [] c.behind within)),
      )

  known_all : (older : List (Link A)) (Ks : List (List A)) (cs : List (Link A)) → Known older Ks → AreLinksAfter older cs →
      NoRepeat (lists_after Ks cs) × (length (lists_after Ks cs) ≡ length older + length cs + 1)
  known_all older Ks [] k a = (k.apart, (let h = k.long in omega arith))
  known_all older Ks (c ∷ cs) k a =
      let r = known_all (older ++ c ∷ []) (Ks ++ (c.item ∷ get_or Ks c.behind []) ∷ []) cs (known_more older Ks c k a.0 a.1) a.2 in
      (r.0, (let h = r.1 in omega (arith, length-append older (c ∷ []))))

  -- no two links make one continuation
  pub lists_apart : (cs : List (Link A)) → AreLinks cs → NoRepeat (lists_in cs) × (length (lists_in cs) ≡ length cs + 1)
  lists_apart cs a =
      let start : Known {A = A} [] ([] ∷ []) = record { long = refl; apart = ((λ m. m), tt); made = λ L m. elim m [ inl e ↦ inl (sym e) | inr z ↦ absurd z ] } in
      let r = known_all [] ([] ∷ []) cs start a in
      (r.0, (let h = r.1 in omega arith))

  -- what holds of the pieces of cells holds of those of continuations
  pub get_all : (P : A → Type 0) (Ks : List (List A)) → AllByRecursion (AllByRecursion P) Ks → (i : ℕ) → AllByRecursion P (get_or Ks i [])
  get_all P [] a i = tt
  get_all P (K ∷ Ks) a zero = a.0
  get_all P (K ∷ Ks) a (suc i) = get_all P Ks a.1 i

  pub lists_all : (P : A → Type 0) (Ks : List (List A)) (cs : List (Link A)) → AllByRecursion (AllByRecursion P) Ks → AllByRecursion (λ (c : (Link A)). P c.item) cs →
      AllByRecursion (AllByRecursion P) (lists_after Ks cs)
  lists_all P Ks [] a b = a
  lists_all P Ks (c ∷ cs) a b =
      lists_all P (Ks ++ (c.item ∷ get_or Ks c.behind []) ∷ []) cs
      (all_append (AllByRecursion P) Ks ((c.item ∷ get_or Ks c.behind []) ∷ []) a ((b.0, get_all P Ks a c.behind), tt)) b.1

  pub few_links : (all : List A) (most : ℕ) (cells : List (Link A)) → AreLinks cells → AllByRecursion (λ (c : Link A). IsOneOf c.item all) cells →
      AllByRecursion (λ (K : List A). length K ≤ most) (lists_in cells) → length cells + 1 ≤ room all most
  unfolding room
  few_links all most cells a there short =
      let r = lists_apart cells a in
      let ps = lists_all (λ p. IsOneOf p all) ([] ∷ []) cells (tt, tt) there in
      let h = pigeon (lists_in cells) (lists_within all most) r.0
      (λ K m. among_lists all most K
      (all_among (AllByRecursion (λ p. IsOneOf p all)) (lists_in cells) ps K m)
      (all_among (λ (L : List A). length L ≤ most) (lists_in cells) short K m)) in
      let e = r.1 in omega arith

  -- ---- numbers of continuations

  lists-append : (Ks : List (List A)) (cs ds : List (Link A)) → lists_after Ks (cs ++ ds) ≡ lists_after (lists_after Ks cs) ds
  lists-append Ks [] ds = refl
  lists-append Ks (c ∷ cs) ds = lists-append (Ks ++ new_list c Ks ∷ []) cs ds

  pub lists-length : (Ks : List (List A)) (cs : List (Link A)) → length (lists_after Ks cs) ≡ length Ks + length cs
  lists-length Ks [] = omega arith
  lists-length Ks (c ∷ cs) = let i = lists-length (Ks ++ new_list c Ks ∷ []) cs in omega (arith, length-append Ks (new_list c Ks ∷ []))

  lists-front : (Ks : List (List A)) (cs : List (Link A)) (i : ℕ) → i < length Ks → get_or (lists_after Ks cs) i [] ≡ get_or Ks i []
  lists-front Ks [] i h = refl
  lists-front Ks (c ∷ cs) i h =
      lists-front (Ks ++ new_list c Ks ∷ []) cs i (omega (arith, length-append Ks (new_list c Ks ∷ [])))
      ∙ get_or-append Ks (new_list c Ks ∷ []) [] i h

  -- old continuations keep their numbers
  pub list_kept : (cs ds : List (Link A)) (n : ℕ) → n ≤ length cs → list_at (cs ++ ds) n ≡ list_at cs n
  unfolding list_at
  list_kept cs ds n h =
      let e = lists-length ([] ∷ []) cs in
      ap (λ (Ks : List (List A)). get_or Ks n []) (lists-append ([] ∷ []) cs ds) ∙ lists-front (lists_in cs) ds n (omega arith)

  pub list_none : (cs : List (Link A)) → list_at cs 0 ≡ []
  unfolding list_at
  list_none cs = lists-front ([] ∷ []) cs 0 (omega arith)

  -- the newest continuation
  pub list_new : (cs : List (Link A)) (c : (Link A)) → list_at (cs ++ c ∷ []) (length cs + 1) ≡ c.item ∷ list_at cs c.behind
  unfolding list_at
  list_new cs c =
      let e = lists-length ([] ∷ []) cs in
      let l : length (lists_in cs) ≡ length cs + 1 = omega arith in
      ap (λ (Ks : List (List A)). get_or Ks (length cs + 1) []) (lists-append ([] ∷ []) cs (c ∷ []))
      ∙ subst (λ n. get_or (lists_in cs ++ new_list c (lists_in cs) ∷ []) n [] ≡ new_list c (lists_in cs)) l
      (get_or-append_seam (lists_in cs) (new_list c (lists_in cs)) [] [])

  link_after : (older rs : List (Link A)) (j : ℕ) (d : (Link A)) → AreLinksAfter older rs → j < length rs → IsLinkAt (older ++ rs) (length older + j) (get_or rs j d)
  link_after older [] j d a h = absurd (omega arith)
  link_after older (c ∷ rs) zero d a h =
      let i : length older + 1 ≤ length (older ++ c ∷ []) = omega (arith, length-append older (c ∷ [])) in
      let e : length older + 0 ≡ length older = omega arith in
      let o = a.0 in
      record {
        older = omega arith;
        list =
            ap (λ n. list_at (older ++ c ∷ rs) (n + 1)) e
            ∙ ap (λ cs. list_at cs (length older + 1)) (sym (append_assoc older (c ∷ []) rs))
            ∙ list_kept (older ++ c ∷ []) rs (length older + 1) i
            ∙ list_new older c
            ∙ ap (λ K. c.item ∷ K) (sym (list_kept older (c ∷ rs) c.behind a.0));
      }
  link_after older (c ∷ rs) (suc j) d a h =
      let e : length (older ++ c ∷ []) + j ≡ length older + suc j = omega (arith, length-append older (c ∷ [])) in
      let r = link_after (older ++ c ∷ []) rs j d a.2 (omega arith) in
      subst (λ cs. IsLinkAt cs (length older + suc j) (get_or rs j d)) (append_assoc older (c ∷ []) rs)
      (subst (λ n. IsLinkAt ((older ++ c ∷ []) ++ rs) n (get_or rs j d)) e r)

  pub link_at : (cs : List (Link A)) (j : ℕ) (d : (Link A)) → AreLinks cs → j < length cs → IsLinkAt cs j (get_or cs j d)
  link_at cs j d a h = let e : 0 + j ≡ j = omega arith in subst (λ n. IsLinkAt cs n (get_or cs j d)) e (link_after [] cs j d a h)

  links_push : (older rs : List (Link A)) (c : (Link A)) → AreLinksAfter older rs → c.behind ≤ length (older ++ rs) → (IsOneOf c (older ++ rs) → ⊥) → AreLinksAfter older (rs ++ c ∷ [])
  links_push older [] c a h n = (subst (λ cs. c.behind ≤ length cs) (append-nil older) h, (λ m. n (subst (IsOneOf c) (sym (append-nil older)) m)), tt)
  links_push older (r ∷ rs) c a h n =
      let e = append_assoc older (r ∷ []) rs in
      (a.0, a.1, links_push (older ++ r ∷ []) rs c a.2 (subst (λ cs. c.behind ≤ length cs) (sym e) h) (λ m. n (subst (IsOneOf c) e m)))

  pub AreLinks-push : (cs : List (Link A)) (c : (Link A)) → AreLinks cs → c.behind ≤ length cs → (IsOneOf c cs → ⊥) → AreLinks (cs ++ c ∷ [])
  AreLinks-push cs c a h n = links_push [] cs c a h n

  -- ---- what an insertion leaves

  any_among : (test : (Link A) → Bool) (c : (Link A)) → ((d : (Link A)) → test d ≡ true → d ≡ c) → (cs : List (Link A)) → list_any test cs ≡ true → IsOneOf c cs
  any_among test c right [] h = cc
  any_among test c right (d ∷ cs) h = go (test d) refl h (λ k. any_among test c right cs k)
    where
      go : (b : Bool) → test d ≡ b → (b || list_any test cs) ≡ true → (list_any test cs ≡ true → IsOneOf c cs) → IsOneOf c (d ∷ cs)
      go true e k rec = inl (right d e)
      go false e k rec = inr (rec k)

  among_any : (test : (Link A) → Bool) (c : (Link A)) → test c ≡ true → (cs : List (Link A)) → IsOneOf c cs → list_any test cs ≡ true
  among_any test c h [] m = absurd m
  among_any test c h (d ∷ cs) (inl e) = let q : test d ≡ true = ap test e ∙ h in rw q refl
  among_any test c h (d ∷ cs) (inr m) = go (test d) (among_any test c h cs m)
    where
      go : (b : Bool) → list_any test cs ≡ true → (b || list_any test cs) ≡ true
      go true k = refl
      go false k = k

  pub has_inserted : (test : (Link A) → Bool) (c : (Link A)) → test c ≡ true → ((d : (Link A)) → test d ≡ true → d ≡ c) → (old new : List (Link A)) →
      new ≡ if list_any test old then old else old ++ c ∷ [] → HasLink old c new × ((AreLinks old) → c.behind ≤ length old → AreLinks new)
  has_inserted test c whole right old new e = go (list_any test old) refl e
    where
      go : (b : Bool) → list_any test old ≡ b → new ≡ if b then old else old ++ c ∷ [] → HasLink old c new × ((AreLinks old) → c.behind ≤ length old → AreLinks new)
      go true i q = (inl (any_among test c right old i, q), λ a h. subst AreLinks (sym q) a)
      go false i q =
          (inr q, λ a h. subst AreLinks (sym q) (AreLinks-push old c a h (λ m. let k = among_any test c whole old m in let z : true ≡ false = sym k ∙ i in cc)))

  pub has_kept : (old : List (Link A)) (c : (Link A)) (new : List (Link A)) → HasLink old c new → KeepsLinks old new
  has_kept old c new (inl h) = record { more = []; grown = h.1 ∙ sym (append-nil old) }
  has_kept old c new (inr e) = record { more = c ∷ []; grown = e }

  pub kept_list : (old new : List (Link A)) → KeepsLinks old new → (n : ℕ) → n ≤ length old → list_at new n ≡ list_at old n
  kept_list old new k n h = ap (λ cs. list_at cs n) k.grown ∙ list_kept old k.more n h

  pub kept_length : (old new : List (Link A)) → KeepsLinks old new → length old ≤ length new
  kept_length old new k = let e = ap length k.grown in omega (arith, length-append old k.more)

  pub kept_same : (cs : List (Link A)) → KeepsLinks cs cs
  kept_same cs = record { more = []; grown = sym (append-nil cs) }

  pub kept_then : (a b c : List (Link A)) → KeepsLinks a b → KeepsLinks b c → KeepsLinks a c
  kept_then a b c k l = record { more = k.more ++ l.more; grown = l.grown ∙ ap (λ xs. xs ++ l.more) k.grown ∙ append_assoc a k.more l.more }

  get_some : (cs : List (Link A)) (i : ℕ) (c d : (Link A)) → slice_get cs i ≡ Some c → (i < length cs) × (get_or cs i d ≡ c)
  get_some [] i c d h = cc
  get_some (x ∷ cs) zero c d h = (omega arith, cc)
  get_some (x ∷ cs) (suc i) c d h = let r = get_some cs i c d h in (omega (arith, r.0), r.1)

  -- the continuation of a cell that was put in
  pub put_list : (old new : List (Link A)) (c : (Link A)) (i : ℕ) → AreLinks new → KeepsLinks old new → c.behind ≤ length old → slice_get new i ≡ Some c →
      list_at new (i + 1) ≡ c.item ∷ list_at old c.behind
  put_list old new c i a k h g =
      let r = get_some new i c c g in
      let at = subst (IsLinkAt new i) r.1 (link_at new i c a r.0) in
      at.list ∙ ap (λ K. c.item ∷ K) (kept_list old new k c.behind h)

  -- what holds of each continuation by its number holds of all
  all_by_number : (P : List A → Type 0) (Ks : List (List A)) → ((n : ℕ) → n < length Ks → P (get_or Ks n [])) → AllByRecursion P Ks
  all_by_number P [] h = tt
  all_by_number P (K ∷ Ks) h = (h 0 (omega arith), all_by_number P Ks (λ n l. h (suc n) (omega arith)))

  pub lists_within_are : (most : ℕ) (cells : List (Link A)) → ((n : ℕ) → n ≤ length cells → length (list_at cells n) ≤ most) → AllByRecursion (λ (K : List A). length K ≤ most) (lists_in cells)
  unfolding list_at
  lists_within_are most cells h =
      let e = lists-length ([] ∷ []) cells in
      all_by_number (λ (K : List A). length K ≤ most) (lists_in cells) (λ n l. h n (omega arith))

  -- a list has one number
  pub one_number : (cs : List (Link A)) → AreLinks cs → (i j : ℕ) → i ≤ length cs → j ≤ length cs → list_at cs i ≡ list_at cs j → i ≡ j
  unfolding list_at
  one_number cs a i j h k e =
      let r = lists_apart cs a in
      let n = r.1 in
      same_place [] (lists_in cs) r.0 i j (omega arith) (omega arith) e
