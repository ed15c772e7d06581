-- with enough unfoldings, more of them give the same ways
use Rattle.std.proofs.Common.{◌≡◌, ℕ, suc, zero, ◌+◌, ◌*◌, ◌≤◌, ltb, arith, mul-le-mul_right, Bool, true, false, cond, List, [], ◌∷◌, ◌++◌, map, length, flat_map, Option, Some, None, refl, ap, sym, subst, ◌∙◌, inl, inr}
use Rattle.std.proofs.lemmas.List.{length-map}
use Rattle.std.proofs.lemmas.Slice.Eq.{bytes_eq-Decides}
use Rattle.xd_doc.specs.Document.{Document, empty, text, element, join, size}
use Rattle.xd_doc.specs.Members.{IsOneOf}
use Rattle.xd_doc.proofs.Joins.{join_empty-right}
use Rattle.xd_syntax.specs.Tree.{Tree, Empty, Text, Words, Name, Elem, Seq, Alt, Star, Plus, Opt, Val, Definitions, body}
use Rattle.xd_syntax.specs.Fits.{Fits}
use Rattle.xd_syntax.specs.Ways.{Way, no_item_way, then_way, in_turn, item_count, turns, repetition, is_whole, ways_by, ways_of_definition, ways_of_name, ways_within, unfoldings, Takes, is_whole, unfoldings}
use Rattle.xd_laws.specs.Guarded.{Front, Step, Path, one, more, Guarded, Defined}
use Rattle.xd_laws.proofs.Documents.{HasItem}
use Rattle.std.specs.Str.{bytes_eq}
use Rattle.xd_laws.specs.Guarded as R
use Rattle.xd_syntax.proofs.Members.{flat_same}
use Rattle.xd_laws.proofs.Pigeon.{NoRepeat, pigeon}
use Rattle.xd_laws.proofs.WaysFit.{Good, sound_by, named_good, sound, whole_none}
use Rattle.xd_laws.proofs.FitsWays.{complete}

pub same_word_eq : (a b : List ℕ) → bytes_eq a b ≡ true → a ≡ b
same_word_eq a b h = (bytes_eq-Decides a b).0 h

keys : Definitions → List (List ℕ)
keys E = map (λ p. p.0) E

defined_key : (E : Definitions) (x : List ℕ) → Defined E x → IsOneOf x (keys E)
unfolding keys
defined_key [] x h = let e = h.1 in cc
defined_key (p ∷ ps) x h = go (bytes_eq p.0 x) refl h.1 (λ d. defined_key ps x d)
  where
    go : (b : Bool) → bytes_eq p.0 x ≡ b → cond b (Some p.1) (body ps x) ≡ Some h.0 → (Defined ps x → IsOneOf x (keys ps)) → IsOneOf x (keys (p ∷ ps))
    go true e k rec = inl (same_word_eq p.0 x e)
    go false e k rec = inr (rec (h.0, k))

-- names, the newest first, each used in front by the one before it
abbrev pub Trail : Definitions → List (List ℕ) → Type 0
Trail E [] = Unit {0}
Trail E (y ∷ []) = Defined E y
Trail E (y ∷ (x ∷ V)) = Defined E y × Step E x y × Trail E (x ∷ V)

trail_path : (E : Definitions) (x : List ℕ) (V : List (List ℕ)) → Trail E (x ∷ V) → (z : List ℕ) → IsOneOf z V → Path E z x
trail_path E x [] t z m = absurd m
trail_path E x (y ∷ V) t z (inl e) = subst (λ q. Path E q x) e (one t.1)
trail_path E x (y ∷ V) t z (inr m) = more (trail_path E y V t.2 z m) t.1

trail_apart : (E : Definitions) → Guarded E → (V : List (List ℕ)) → Trail E V → NoRepeat V
trail_apart E g [] t = tt
trail_apart E g (x ∷ []) t = (λ m. m, tt)
trail_apart E g (x ∷ (y ∷ V)) t = (λ m. g x (trail_path E x (y ∷ V) t x m), trail_apart E g (y ∷ V) t.2)

trail_defined : (E : Definitions) (V : List (List ℕ)) → Trail E V → (z : List ℕ) → IsOneOf z V → Defined E z
trail_defined E [] t z m = absurd m
trail_defined E (x ∷ []) t z (inl e) = subst (Defined E) e t
trail_defined E (x ∷ []) t z (inr m) = absurd m
trail_defined E (x ∷ (y ∷ V)) t z (inl e) = subst (Defined E) e t.0
trail_defined E (x ∷ (y ∷ V)) t z (inr m) = trail_defined E (y ∷ V) t.2 z m

pub trail_short : (E : Definitions) → Guarded E → (V : List (List ℕ)) → Trail E V → length V ≤ length E
unfolding keys
trail_short E g V t =
    let h = pigeon V (keys E) (trail_apart E g V t) (λ x m. defined_key E x (trail_defined E V t x m)) in
    let e = length-map E (λ (p : List ℕ × Tree). p.0) in
    omega (arith, h, e)

pub size_join : (a b : Document) → size (join a b) ≡ size a + size b
size_join empty b = omega arith
size_join (text s a) b = let i = size_join a b in omega arith
size_join (element l c a) b = let i = size_join a b in omega arith

size_some : (a : Document) → HasItem a → 1 ≤ size a
size_some empty h = absurd h
size_some (text s a) h = omega arith
size_some (element l c a) h = omega arith

-- a smaller document leaves room for a is_whole chain more
pub room_below : (a b L n v : ℕ) → a + 1 ≤ b → b * L + L ≤ n + v → v ≤ L → a * L + L ≤ n + 0
room_below a b L n v h k l =
    let i : (a + 1) * L ≤ b * L = mul-le-mul_right L h in omega arith

pub room_within : (a b L n v : ℕ) → a ≤ b → b * L + L ≤ n + v → a * L + L ≤ n + v
room_within a b L n v h k =
    let i : a * L ≤ b * L = mul-le-mul_right L h in omega arith

pub rest_within : (a b d : Document) → join a b ≡ d → size b ≤ size d
rest_within a b d e = let i = size_join a b in let j : size (join a b) ≡ size d = ap size e in omega arith

turns_same : (E : Definitions) (T : Tree) (V W : Document → List Way) (s : ℕ) → ((d : Document) → size d ≤ s → V d ≡ W d) →
    ((d : Document) (w : Way) → IsOneOf w (V d) → Good E T d w) → (k : ℕ) (d : Document) → size d ≤ s → turns V k d ≡ turns W k d
turns_same E T V W s h good zero d l = refl
turns_same E T V W s h good (suc k) d l =
    ap (λ xs. xs ++ no_item_way d ∷ [])
    (flat_same (λ v. cond (ltb (item_count v.rest) (item_count d)) (map (then_way v) (turns V k v.rest)) [])
    (λ v. cond (ltb (item_count v.rest) (item_count d)) (map (then_way v) (turns W k v.rest)) []) (V d)
    (λ v m. let g = good d v m in let r = rest_within v.taken v.rest d g.0 in
    ap (λ xs. cond (ltb (item_count v.rest) (item_count d)) (map (then_way v) xs) [])
    (turns_same E T V W s h good k v.rest (omega arith)))
    ∙ ap (λ ws. flat_map (λ v. cond (ltb (item_count v.rest) (item_count d)) (map (then_way v) (turns W k v.rest)) []) ws) (h d l))

in_turn_same : (V V' W W' : Document → List Way) (d : Document) → V d ≡ V' d → ((v : Way) → IsOneOf v (V d) → W v.rest ≡ W' v.rest) → in_turn V W d ≡ in_turn V' W' d
in_turn_same V V' W W' d e h =
    flat_same (λ v. map (then_way v) (W v.rest)) (λ v. map (then_way v) (W' v.rest)) (V d) (λ v m. ap (map (then_way v)) (h v m))
    ∙ ap (flat_map (λ v. map (then_way v) (W' v.rest))) e

pub rest_below : (a b d : Document) → join a b ≡ d → HasItem a → size b + 1 ≤ size d
rest_below a b d e h =
    let i = size_join a b in let j : size (join a b) ≡ size d = ap size e in let k = size_some a h in omega arith

module _ (E : Definitions) (n : ℕ) (N M : List ℕ → Document → List Way)
    (good : (x : List ℕ) (d : Document) (w : Way) → IsOneOf w (N x d) → Good E (Name x) d w)
    (same : (V : List (List ℕ)) (x : List ℕ) → (Defined E x → Trail E (x ∷ V)) → length V ≤ length E → (d : Document) →
    size d * length E + length E ≤ n + length V → N x d ≡ M x d) where
  -- what stands after T, on the rest of a way of T
  next_same : (T U : Tree) (V : List (List ℕ)) → ((y : List ℕ) → Front E (Seq T U) y → Defined E y → Trail E (y ∷ V)) → length V ≤ length E → (d : Document) →
      size d * length E + length E ≤ n + length V →
      ((V' : List (List ℕ)) → ((y : List ℕ) → Front E U y → Defined E y → Trail E (y ∷ V')) → length V' ≤ length E → (d' : Document) →
      size d' * length E + length E ≤ n + length V' → ways_by N U d' ≡ ways_by M U d') →
      (a b : Document) → join a b ≡ d → Fits E T a → ways_by N U b ≡ ways_by M U b
  next_same T U V t l d r rec empty b e f =
      rec V (λ y k def. t y (R.seq_next f k) def) l b (subst (λ x. size x * length E + length E ≤ n + length V) (sym e) r)
  next_same T U V t l d r rec (text s a) b e f =
      rec [] (λ y k def. def) (omega arith) b (room_below (size b) (size d) (length E) n (length V) (rest_below (text s a) b d e tt) r l)
  next_same T U V t l d r rec (element w c a) b e f =
      rec [] (λ y k def. def) (omega arith) b (room_below (size b) (size d) (length E) n (length V) (rest_below (element w c a) b d e tt) r l)

  same_by : (T : Tree) (V : List (List ℕ)) → ((y : List ℕ) → Front E T y → Defined E y → Trail E (y ∷ V)) → length V ≤ length E → (d : Document) →
      size d * length E + length E ≤ n + length V → ways_by N T d ≡ ways_by M T d
  same_by Empty V t l d r = refl
  same_by Text V t l d r = refl
  same_by (Words w) V t l d r = refl
  same_by (Name x) V t l d r = same V x (t x R.here) l d r
  same_by (Elem c T) V t l empty r = refl
  same_by (Elem c T) V t l (text s d) r = refl
  same_by (Elem c T) V t l (element w k d) r =
      let i = same_by T [] (λ y f def. def) (omega arith) k (room_below (size k) (size (element w k d)) (length E) n (length V) (omega arith) r l) in
      rw i
  same_by (Seq T U) V t l d r =
      in_turn_same (ways_by N T) (ways_by M T) (ways_by N U) (ways_by M U) d
      (same_by T V (λ y f def. t y (R.seq_first f) def) l d r)
      (λ v m. let g = sound_by E N good T d v m in
      next_same T U V t l d r (λ V' t' l' d' r'. same_by U V' t' l' d' r') v.taken v.rest g.0 g.1)
  same_by (Alt T U) V t l d r =
      let i = same_by T V (λ y f def. t y (R.alt_left f) def) l d r in
      let j = same_by U V (λ y f def. t y (R.alt_right f) def) l d r in rw (i, j)
  same_by (Star T) V t l d r =
      turns_same E T (ways_by N T) (ways_by M T) (size d)
      (λ d' h. same_by T V (λ y f def. t y (R.star f) def) l d' (room_within (size d') (size d) (length E) n (length V) h r))
      (λ d' w m. sound_by E N good T d' w m) (item_count d) d (omega arith)
  same_by (Plus T) V t l d r =
      in_turn_same (ways_by N T) (ways_by M T) (repetition (ways_by N T)) (repetition (ways_by M T)) d
      (same_by T V (λ y f def. t y (R.plus f) def) l d r)
      (λ v m. let g = sound_by E N good T d v m in
      turns_same E T (ways_by N T) (ways_by M T) (size d)
      (λ d' h. same_by T V (λ y f def. t y (R.plus f) def) l d' (room_within (size d') (size d) (length E) n (length V) h r))
      (λ d' w m'. sound_by E N good T d' w m') (item_count v.rest) v.rest (rest_within v.taken v.rest d g.0))
  same_by (Opt T) V t l d r =
      let i = same_by T V (λ y f def. t y (R.opt f) def) l d r in rw i
  same_by (Val x T) V t l d r =
      let i = same_by T V (λ y f def. t y (R.val f) def) l d r in rw i

named_none : (E : Definitions) (m : ℕ) (x : List ℕ) (d : Document) → body E x ≡ None → ways_of_name E m x d ≡ []
named_none E zero x d e = refl
named_none E (suc m) x d e = ap (λ o. ways_of_definition (ways_by (ways_of_name E m)) o d) e

named_some : (E : Definitions) (m : ℕ) (x : List ℕ) (T : Tree) (d : Document) → body E x ≡ Some T → ways_of_name E (suc m) x d ≡ ways_by (ways_of_name E m) T d
named_some E m x T d e = ap (λ o. ways_of_definition (ways_by (ways_of_name E m)) o d) e

named_at : (E : Definitions) → Guarded E → (n m : ℕ) → n ≤ m → (V : List (List ℕ)) (x : List ℕ) → (Defined E x → Trail E (x ∷ V)) → length V ≤ length E → (d : Document) →
    size d * length E + length E ≤ n + length V → (o : Option Tree) → body E x ≡ o → ways_of_name E n x d ≡ ways_of_name E m x d
named_at E g n m h V x t l d r None e = named_none E n x d e ∙ sym (named_none E m x d e)
named_at E g zero m h V x t l d r (Some T) e = let k = trail_short E g (x ∷ V) (t (T, e)) in absurd (omega arith)
named_at E g (suc n) zero h V x t l d r (Some T) e = absurd (omega arith)
named_at E g (suc n) (suc m) h V x t l d r (Some T) e =
    let k = trail_short E g (x ∷ V) (t (T, e)) in
    named_some E n x T d e
    ∙ same_by E n (ways_of_name E n) (ways_of_name E m) (named_good E n)
    (λ V' y t' l' d' r'. named_at E g n m (omega arith) V' y t' l' d' r' (body E y) refl)
    T (x ∷ V) (λ y f def. (def, (T, e, f), t (T, e))) k d (omega arith)
    ∙ sym (named_some E m x T d e)

-- more unfoldings than a chain for each item and one more give the same ways
pub stable : (E : Definitions) → Guarded E → (n m : ℕ) → n ≤ m → (T : Tree) (d : Document) → (size d + 1) * length E ≤ n → ways_within E n T d ≡ ways_within E m T d
stable E g n m h T d r =
    same_by E n (ways_of_name E n) (ways_of_name E m) (named_good E n)
    (λ V y t' l' d' r'. named_at E g n m h V y t' l' d' r' (body E y) refl)
    T [] (λ y f def. def) (omega arith) d (omega arith)

-- a pattern takes a document exactly where it fits
pub takes_fits : (E : Definitions) (T : Tree) (d : Document) → Takes E T d → Fits E T d
takes_fits E T d h =
    let g = sound E (unfoldings E d) T d h.0 (h.1).0 in
    let r : (h.0).rest ≡ empty = whole_none h.0 (h.1).1 in
    let i : (h.0).taken ≡ d = sym (join_empty-right (h.0).taken) ∙ ap (join (h.0).taken) (sym r) ∙ g.0 in
    subst (Fits E T) i g.1

pub fits_takes : (E : Definitions) → Guarded E → (T : Tree) (d : Document) → Fits E T d → Takes E T d
fits_takes E guarded T d f =
    let A = complete E f in
    let b : ℕ = unfoldings E d in
    let W = A.1 (A.0 + b) (omega arith) empty in
    let s : (size d + 1) * length E ≤ b = omega arith in
    let e = stable E guarded b (A.0 + b) (omega arith) T d s in
    let m : IsOneOf W.0 (ways_within E (A.0 + b) T d) = subst (λ x. IsOneOf W.0 (ways_within E (A.0 + b) T x)) (join_empty-right d) W.1 in
    (W.0, (subst (IsOneOf W.0) (sym e) m, ends W.0 W.3))
  where
    ends : (v : Way) → v.rest ≡ empty → is_whole v ≡ true
    ends v e = ap (λ x. is_whole (record v { rest = x })) e
