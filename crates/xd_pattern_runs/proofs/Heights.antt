-- In a sound program names have heights: a name that leads to fewer names is lower.
use Rattle.std.proofs.Common.{◌≡◌, ℕ, suc, zero, ◌+◌, ◌*◌, ◌≤◌, arith, mul-le-mul_right, Bool, true, false, cond, ◌||◌, List, [], ◌∷◌, ◌++◌, map, flat_map, length, Option, Some, None, refl, ap, sym, subst, ◌∙◌, inl, inr}
use Rattle.std.specs.Str.{bytes_eq}
use Rattle.std.proofs.lemmas.List.{length-map}
use Rattle.std.proofs.lemmas.Slice.Eq.{bytes_eq-Decides}
use Rattle.xd_doc.proofs.Lists.{map_append}
use Rattle.xd_doc.specs.Members.{IsOneOf}
use Rattle.xd_syntax.specs.Words.{has_word, any_word}
use Rattle.xd_syntax.specs.Tree.{Tree, Empty, Text, Words, Name, Elem, Seq, Alt, Star, Plus, Opt, Val, Definitions, body, any_type}
use Rattle.xd_syntax.specs.Placed.{PlacedTree, Empty_at, Text_at, Words_at, Name_at, Elem_at, Seq_at, Alt_at, Star_at, Plus_at, Opt_at, Val_at, unplaced}
use Rattle.xd_syntax.specs.Program.{TypeDefinition, ProgramTree, names_of}
use Rattle.xd_syntax.specs.RecursionFaults.{Use, not_tail, behind_type, top_uses, AnyUse, placed_body, UsesAtTop, Leads, arrived, use_then, IsOutsideTail, UseIn, IsSound}
use Rattle.xd_syntax.proofs.Members.{append_left, append_right, mem_map, map_mem, mem_flat, flat_mem}
use Rattle.xd_laws.proofs.Pigeon.{NoRepeat, pigeon}
use Rattle.xd_laws.proofs.SoundGuarded.{keeps_none, nothing_kept, pair_of, placed_definition, listed_use}
use Rattle.xd_pattern_runs.specs.Runs.{Continuation}
use Rattle.xd_pattern_runs.specs.Finite.{IsLow, HaveHeights, HeightsOfSound, FinitelyManyOfSound, AreDistinct, FewReached}
use Rattle.xd_pattern_runs.proofs.FiniteLaw.{low_more, finitely_many_reached}
use Rattle.xd_pattern_runs.proofs.Alike.{map_of_map}

-- a name that is used outside every label, and whether nothing follows it
abbrev NameUse : Type 0
NameUse = List ℕ × Bool

abbrev followed : NameUse → NameUse
followed u = (u.0, false)

abbrev uses_in : Tree → List NameUse
uses_in Empty = []
uses_in Text = []
uses_in (Words w) = []
uses_in (Name y) = (y, true) ∷ []
uses_in (Elem c T) = []
uses_in (Seq T U) = map followed (uses_in T) ++ uses_in U
uses_in (Alt T U) = uses_in T ++ uses_in U
uses_in (Star T) = map followed (uses_in T)
uses_in (Plus T) = map followed (uses_in T)
uses_in (Opt T) = uses_in T
uses_in (Val x T) = uses_in T

-- how many parts that something follows stand in one another, at most
abbrev depth : Tree → ℕ
depth Empty = 0
depth Text = 0
depth (Words w) = 0
depth (Name y) = 0
depth (Elem c T) = 0
depth (Seq T U) = depth T + 1 + depth U
depth (Alt T U) = depth T + depth U
depth (Star T) = depth T + 1
depth (Plus T) = depth T + 1
depth (Opt T) = depth T
depth (Val x T) = depth T

followed_mem : (u : NameUse) (us : List NameUse) → IsOneOf u us → IsOneOf (followed u) (map followed us)
followed_mem u us m = map_mem followed u us m

-- where all names are below m
low_inner : (H : List ℕ → ℕ) (m : ℕ) (T : Tree) → ((u : NameUse) → IsOneOf u (uses_in T) → H u.0 ≤ m) → IsLow H (m + depth T) T
low_inner H m Empty h = tt
low_inner H m Text h = tt
low_inner H m (Words w) h = tt
low_inner H m (Name y) h = let i = h (y, true) (inl refl) in omega (arith, i)
low_inner H m (Elem c T) h = tt
low_inner H m (Seq T U) h = (
  m + depth T,
  omega arith,
  low_inner H m T (λ u k. h (followed u) (append_left (followed u) (map followed (uses_in T)) (uses_in U) (followed_mem u (uses_in T) k))),
  low_more H (m + depth U) (m + depth (Seq T U)) (omega arith) U (low_inner H m U (λ u k. h u (append_right u (map followed (uses_in T)) (uses_in U) k))),
)
low_inner H m (Alt T U) h = (
  low_more H (m + depth T) (m + depth (Alt T U)) (omega arith) T (low_inner H m T (λ u k. h u (append_left u (uses_in T) (uses_in U) k))),
  low_more H (m + depth U) (m + depth (Alt T U)) (omega arith) U (low_inner H m U (λ u k. h u (append_right u (uses_in T) (uses_in U) k))),
)
low_inner H m (Star T) h = (m + depth T, omega arith, low_inner H m T (λ u k. h (followed u) (followed_mem u (uses_in T) k)))
low_inner H m (Plus T) h = (m + depth T, omega arith, low_inner H m T (λ u k. h (followed u) (followed_mem u (uses_in T) k)))
low_inner H m (Opt T) h = low_inner H m T h
low_inner H m (Val x T) h = low_inner H m T h

-- where names that something follows are below m, and the others below b
low_outer : (H : List ℕ → ℕ) (m b w : ℕ) → m + w ≤ b → (T : Tree) → depth T ≤ w → ((u : NameUse) → IsOneOf u (uses_in T) → H u.0 ≤ b) →
    ((y : List ℕ) → IsOneOf (y, false) (uses_in T) → H y ≤ m) → IsLow H b T
low_outer H m b w r Empty d h k = tt
low_outer H m b w r Text d h k = tt
low_outer H m b w r (Words c) d h k = tt
low_outer H m b w r (Name y) d h k = h (y, true) (inl refl)
low_outer H m b w r (Elem c T) d h k = tt
low_outer H m b w r (Seq T U) d h k = (
  m + depth T,
  omega arith,
  low_inner H m T (λ u n. k u.0 (append_left (followed u) (map followed (uses_in T)) (uses_in U) (followed_mem u (uses_in T) n))),
  low_outer H m b w r U (omega arith) (λ u n. h u (append_right u (map followed (uses_in T)) (uses_in U) n)) (λ y n. k y (append_right (y, false) (map followed (uses_in T)) (uses_in U) n)),
)
low_outer H m b w r (Alt T U) d h k = (
  low_outer H m b w r T (omega arith) (λ u n. h u (append_left u (uses_in T) (uses_in U) n)) (λ y n. k y (append_left (y, false) (uses_in T) (uses_in U) n)),
  low_outer H m b w r U (omega arith) (λ u n. h u (append_right u (uses_in T) (uses_in U) n)) (λ y n. k y (append_right (y, false) (uses_in T) (uses_in U) n)),
)
low_outer H m b w r (Star T) d h k = (m + depth T, omega arith, low_inner H m T (λ u n. k u.0 (followed_mem u (uses_in T) n)))
low_outer H m b w r (Plus T) d h k = (m + depth T, omega arith, low_inner H m T (λ u n. k u.0 (followed_mem u (uses_in T) n)))
low_outer H m b w r (Opt T) d h k = low_outer H m b w r T d h k
low_outer H m b w r (Val x T) d h k = low_outer H m b w r T d h k

-- words of lists

word_among : (xs : List (List ℕ)) (x : List ℕ) → has_word xs x ≡ true → IsOneOf x xs
word_among [] x h = cc
word_among (y ∷ xs) x h = go (bytes_eq y x) refl h (word_among xs x)
  where
    go : (b : Bool) → bytes_eq y x ≡ b → (b || has_word xs x) ≡ true → (has_word xs x ≡ true → IsOneOf x xs) → IsOneOf x (y ∷ xs)
    go true e k rec = inl ((bytes_eq-Decides y x).0 e)
    go false e k rec = inr (rec k)

among_word : (xs : List (List ℕ)) (x : List ℕ) → IsOneOf x xs → has_word xs x ≡ true
among_word [] x m = absurd m
among_word (y ∷ xs) x (inl e) = ap (λ b. b || has_word xs x) ((bytes_eq-Decides y x).1 e)
among_word (y ∷ xs) x (inr m) = go (bytes_eq y x) (among_word xs x m)
  where
    go : (b : Bool) → has_word xs x ≡ true → (b || has_word xs x) ≡ true
    go true k = refl
    go false k = k

-- the names that a name uses, and those that it leads to

abbrev names_used : Option Tree → List (List ℕ)
names_used None = []
names_used (Some T) = map (λ (u : NameUse). u.0) (uses_in T)

abbrev next_names : Definitions → List ℕ → List (List ℕ)
next_names E x = names_used (body E x)

data Goes (E : Definitions) : List ℕ → List ℕ → Type 0 where
  goes_none : {x : List ℕ} → Goes E x x
  goes_on : {x y z : List ℕ} → IsOneOf y (next_names E x) → Goes E y z → Goes E x z

abbrev led_to : Definitions → ℕ → List ℕ → List (List ℕ)
led_to E zero x = x ∷ []
led_to E (suc n) x = x ∷ flat_map (led_to E n) (next_names E x)

led_goes : (E : Definitions) (n : ℕ) (x z : List ℕ) → IsOneOf z (led_to E n x) → Goes E x z
led_goes E zero x z (inl e) = subst (Goes E x) e goes_none
led_goes E zero x z (inr m) = absurd m
led_goes E (suc n) x z (inl e) = subst (Goes E x) e goes_none
led_goes E (suc n) x z (inr m) = let r = mem_flat (led_to E n) z (next_names E x) m in goes_on r.1 (led_goes E n r.0 z r.2)

-- a walk through these names
abbrev IsWalk : Definitions → List ℕ → List (List ℕ) → List ℕ → Type 0
IsWalk E x [] z = x ≡ z
IsWalk E x (v ∷ V) z = (v ≡ x) × ((y : List ℕ) × IsOneOf y (next_names E x) × IsWalk E y V z)

walk_led : (E : Definitions) (V : List (List ℕ)) (n : ℕ) (x z : List ℕ) → IsWalk E x V z → length V ≤ n → IsOneOf z (led_to E n x)
walk_led E [] zero x z w h = inl w
walk_led E [] (suc n) x z w h = inl w
walk_led E (v ∷ V) zero x z w h = absurd (omega arith)
walk_led E (v ∷ V) (suc n) x z w h =
    inr (flat_mem (led_to E n) z (w.1).0 (next_names E x) (w.1).1 (walk_led E V n (w.1).0 z (w.1).2 (omega arith)))

-- a walk without repeats
abbrev Simple : Definitions → List ℕ → List ℕ → Type 0
Simple E x z = (V : List (List ℕ)) × IsWalk E x V z × NoRepeat V

cut : (E : Definitions) (V : List (List ℕ)) (x y z : List ℕ) → IsWalk E y V z → NoRepeat V → IsOneOf x V → Simple E x z
cut E [] x y z w n m = absurd m
cut E (v ∷ V) x y z w n (inl e) = let s : y ≡ x = sym w.0 ∙ e in (v ∷ V, subst (λ q. IsWalk E q (v ∷ V) z) s w, n)
cut E (v ∷ V) x y z w n (inr m) = cut E V x (w.1).0 z (w.1).2 n.1 m

simple : (E : Definitions) {x z : List ℕ} → Goes E x z → Simple E x z
simple E goes_none = ([], refl, tt)
simple E (goes_on {x} {y} {z} m g) = go (simple E g)
  where
    go : Simple E y z → Simple E x z
    go s = each (has_word s.0 x) refl
      where
        each : (b : Bool) → has_word s.0 x ≡ b → Simple E x z
        each true h = cut E s.0 x y z s.1 s.2 (word_among s.0 x h)
        each false h = (x ∷ s.0, (refl, (y, m, s.1)), (λ k. let i = among_word s.0 x k in cc, s.2))

keys : Definitions → List (List ℕ)
keys E = map (λ (p : List ℕ × Tree). p.0) E

has_key : (E : Definitions) (x : List ℕ) (T : Tree) → body E x ≡ Some T → IsOneOf x (keys E)
unfolding keys
has_key [] x T h = cc
has_key (p ∷ E) x T h = go (bytes_eq p.0 x) refl h (has_key E x T)
  where
    go : (b : Bool) → bytes_eq p.0 x ≡ b → cond b (Some p.1) (body E x) ≡ Some T → (body E x ≡ Some T → IsOneOf x (keys E)) → IsOneOf x (keys (p ∷ E))
    go true e k rec = inl ((bytes_eq-Decides p.0 x).0 e)
    go false e k rec = inr (rec k)

used_key : (E : Definitions) (x y : List ℕ) (o : Option Tree) → body E x ≡ o → IsOneOf y (names_used o) → IsOneOf x (keys E)
used_key E x y None e m = absurd m
used_key E x y (Some T) e m = has_key E x T e

walk_keys : (E : Definitions) (V : List (List ℕ)) (x z : List ℕ) → IsWalk E x V z → (v : List ℕ) → IsOneOf v V → IsOneOf v (keys E)
walk_keys E [] x z w v m = absurd m
walk_keys E (u ∷ V) x z w v (inl e) = subst (λ q. IsOneOf q (keys E)) (sym w.0 ∙ e) (used_key E x (w.1).0 (body E x) refl (w.1).1)
walk_keys E (u ∷ V) x z w v (inr m) = walk_keys E V (w.1).0 z (w.1).2 v m

goes_led : (E : Definitions) {x z : List ℕ} → Goes E x z → IsOneOf z (led_to E (length E) x)
unfolding keys
goes_led E {x} {z} g =
    let s = simple E g in
    let h = pigeon s.0 (keys E) s.2 (walk_keys E s.0 x z s.1) in
    let e = length-map E (λ (p : List ℕ × Tree). p.0) in
    walk_led E s.0 (length E) x z s.1 (omega (arith, h, e))

-- how many of the words the list has
abbrev count_in : List (List ℕ) → List (List ℕ) → ℕ
count_in R [] = 0
count_in R (k ∷ ks) = cond (has_word R k) 1 0 + count_in R ks

counts : (R S : List (List ℕ)) (k : List ℕ) → (has_word R k ≡ true → has_word S k ≡ true) → cond (has_word R k) 1 0 ≤ cond (has_word S k) 1 0
counts R S k h = go (has_word R k) (has_word S k) refl refl
  where
    go : (a b : Bool) → has_word R k ≡ a → has_word S k ≡ b → cond a 1 0 ≤ cond b 1 0
    go true true i j = omega arith
    go true false i j = let m = h i in cc
    go false true i j = omega arith
    go false false i j = omega arith

count_le : (R S ks : List (List ℕ)) → ((k : List ℕ) → has_word R k ≡ true → has_word S k ≡ true) → count_in R ks ≤ count_in S ks
count_le R S [] h = omega arith
count_le R S (k ∷ ks) h = let i = counts R S k (h k) in let j = count_le R S ks h in omega arith

count_lt : (R S ks : List (List ℕ)) → ((k : List ℕ) → has_word R k ≡ true → has_word S k ≡ true) → (x : List ℕ) → IsOneOf x ks → has_word R x ≡ false → has_word S x ≡ true →
    count_in R ks + 1 ≤ count_in S ks
count_lt R S [] h x m a b = absurd m
count_lt R S (k ∷ ks) h x (inl e) a b =
    let j = count_le R S ks h in
    let p : cond {A = ℕ} (has_word R k) 1 0 ≡ 0 = ap (λ (z : Bool). cond {A = ℕ} z 1 0) (ap (has_word R) e ∙ a) in
    let q : cond {A = ℕ} (has_word S k) 1 0 ≡ 1 = ap (λ (z : Bool). cond {A = ℕ} z 1 0) (ap (has_word S) e ∙ b) in
    omega arith
count_lt R S (k ∷ ks) h x (inr m) a b = let i = counts R S k (h k) in let j = count_lt R S ks h x m a b in omega arith

-- the depth of all definitions
abbrev depths : Definitions → ℕ
depths [] = 0
depths (p ∷ E) = depth p.1 + depths E

depth_within : (E : Definitions) (x : List ℕ) (T : Tree) → body E x ≡ Some T → depth T ≤ depths E
depth_within [] x T e = cc
depth_within (p ∷ E) x T e = go (bytes_eq p.0 x) e (depth_within E x T)
  where
    go : (b : Bool) → cond b (Some p.1) (body E x) ≡ Some T → (body E x ≡ Some T → depth T ≤ depths E) → depth T ≤ depth p.1 + depths E
    go true k rec = let s : p.1 ≡ T = cc in let i : depth p.1 ≡ depth T = ap depth s in omega arith
    go false k rec = let i = rec k in omega arith

-- no name that something follows leads back
abbrev NoneLeadsBack : Definitions → Type 0
NoneLeadsBack E = (x y : List ℕ) (T : Tree) → body E x ≡ Some T → IsOneOf (y, false) (uses_in T) → Goes E y x → ⊥

-- how many definitions a name leads to
pub rank : Definitions → List ℕ → ℕ
rank E x = count_in (led_to E (length E) x) (keys E)

-- names that lead to fewer definitions are lower
abbrev pub height : Definitions → List ℕ → ℕ
height E x = (rank E x + 1) * depths E

module _ (E : Definitions) (back : NoneLeadsBack E) where
  uses_next : (x : List ℕ) (T : Tree) → body E x ≡ Some T → (u : NameUse) → IsOneOf u (uses_in T) → IsOneOf u.0 (next_names E x)
  uses_next x T e u m = subst (λ o. IsOneOf u.0 (names_used o)) (sym e) (map_mem (λ (v : NameUse). v.0) u (uses_in T) m)

  led_more : (x y : List ℕ) → IsOneOf y (next_names E x) → (k : List ℕ) → has_word (led_to E (length E) y) k ≡ true → has_word (led_to E (length E) x) k ≡ true
  led_more x y m k h = among_word _ k (goes_led E (goes_on m (led_goes E (length E) y k (word_among _ k h))))

  rank_le : (x y : List ℕ) → IsOneOf y (next_names E x) → rank E y ≤ rank E x
  unfolding rank
  rank_le x y m = count_le (led_to E (length E) y) (led_to E (length E) x) (keys E) (led_more x y m)

  rank_lt : (x y : List ℕ) (T : Tree) → body E x ≡ Some T → IsOneOf (y, false) (uses_in T) → rank E y + 1 ≤ rank E x
  unfolding rank
  rank_lt x y T e m =
      count_lt (led_to E (length E) y) (led_to E (length E) x) (keys E) (led_more x y (uses_next x T e (y, false) m)) x (has_key E x T e)
      (lacked (has_word (led_to E (length E) y) x) refl) (among_word _ x (goes_led E goes_none))
    where
      lacked : (b : Bool) → has_word (led_to E (length E) y) x ≡ b → has_word (led_to E (length E) y) x ≡ false
      lacked true h = absurd (back x y T e m (led_goes E (length E) y x (word_among _ x h)))
      lacked false h = h

  heights : HaveHeights E (height E)
  heights x T e =
      low_outer (height E) (rank E x * depths E) (height E x) (depths E) (omega arith) T (depth_within E x T e)
      (λ u m. let r = rank_le x u.0 (uses_next x T e u m) in let i : rank E u.0 + 1 ≤ rank E x + 1 = omega arith in mul-le-mul_right (depths E) i)
      (λ y m. mul-le-mul_right (depths E) (rank_lt x y T e m))

-- uses with places

abbrev use_of : Use → NameUse
use_of u = (u.name, u.is_tail)

uses_followed : (us : List Use) → map use_of (map not_tail us) ≡ map followed (map use_of us)
uses_followed us = map_of_map use_of not_tail us ∙ sym (map_of_map followed use_of us)

placed_uses : (T : PlacedTree) → map use_of (top_uses T) ≡ uses_in (unplaced T)
placed_uses (Empty_at p) = refl
placed_uses (Text_at p) = refl
placed_uses (Words_at p k) = refl
placed_uses (Name_at p x) = refl
placed_uses (Elem_at p c T) = refl
placed_uses (Seq_at p T U) =
    map_append use_of (map not_tail (top_uses T)) (map (behind_type (unplaced T)) (top_uses U))
    ∙ ap (λ z. z ++ map use_of (map (behind_type (unplaced T)) (top_uses U))) (uses_followed (top_uses T) ∙ ap (map followed) (placed_uses T))
    ∙ ap (λ z. map followed (uses_in (unplaced T)) ++ z) (map_of_map use_of (behind_type (unplaced T)) (top_uses U) ∙ placed_uses U)
placed_uses (Alt_at p T U) =
    map_append use_of (top_uses T) (top_uses U) ∙ ap (λ z. z ++ map use_of (top_uses U)) (placed_uses T) ∙ ap (λ z. uses_in (unplaced T) ++ z) (placed_uses U)
placed_uses (Star_at p T) = uses_followed (top_uses T) ∙ ap (map followed) (placed_uses T)
placed_uses (Plus_at p T) = uses_followed (top_uses T) ∙ ap (map followed) (placed_uses T)
placed_uses (Opt_at p T) = placed_uses T
placed_uses (Val_at p x q T) = placed_uses T

found_use : (T : PlacedTree) (u : NameUse) → IsOneOf u (uses_in (unplaced T)) → (v : Use) × IsOneOf v (top_uses T) × (use_of v ≡ u)
found_use T u m = mem_map use_of u (top_uses T) (subst (IsOneOf u) (sym (placed_uses T)) m)

-- a name of a definition, as a use of the program
use_at : (P : ProgramTree) (x : List ℕ) (T : Tree) (u : NameUse) → body (names_of P) x ≡ Some T → IsOneOf u (uses_in T) →
    (t : TypeDefinition) × (v : Use) × IsOneOf t P.types × (t.name ≡ x) × IsOneOf v (top_uses t.body) × (use_of v ≡ u) × (placed_body P.types x ≡ Some t.body)
use_at P x T u e m = go (bytes_eq any_word x) e
  where
    go : (b : Bool) → cond b (Some any_type) (body (map pair_of P.types) x) ≡ Some T →
        (t : TypeDefinition) × (v : Use) × IsOneOf t P.types × (t.name ≡ x) × IsOneOf v (top_uses t.body) × (use_of v ≡ u) × (placed_body P.types x ≡ Some t.body)
    go true k = let q : any_type ≡ T = cc in absurd (subst (λ U. IsOneOf u (uses_in U)) (sym q) m)
    go false k =
        let r = placed_definition P.types x T k in
        let v = found_use (r.0).body u (subst (λ U. IsOneOf u (uses_in U)) (sym r.4) m) in
        (r.0, v.0, r.1, r.2, v.1, v.2, r.3)

next_use : (P : ProgramTree) (x y : List ℕ) (o : Option Tree) → body (names_of P) x ≡ o → IsOneOf y (names_used o) → UsesAtTop P AnyUse x y
next_use P x y None e m = absurd m
next_use P x y (Some T) e m =
    let q = mem_map (λ (u : NameUse). u.0) y (uses_in T) m in
    let r = use_at P x T q.0 e q.1 in
    ((r.0).body, r.1, r.6, r.4, ap (λ (u : NameUse). u.0) r.5 ∙ q.2, tt)

goes_leads : (P : ProgramTree) {x z : List ℕ} → Goes (names_of P) x z → Leads P AnyUse x z
goes_leads P goes_none = arrived
goes_leads P (goes_on {x} {y} {z} m g) = use_then (next_use P x y (body (names_of P) x) refl m) (goes_leads P g)

none_leads_back : (P : ProgramTree) → IsSound P → NoneLeadsBack (names_of P)
none_leads_back P sound x y T e m g =
    let none = (nothing_kept sound.recursion.outside sound.recursion.unguarded sound.recursion.listed).0 in
    let r = use_at P x T (y, false) e m in
    let n : (r.1).name ≡ y = ap (λ (u : NameUse). u.0) r.5 in
    let t : (r.1).is_tail ≡ false = ap (λ (u : NameUse). u.1) r.5 in
    let l : Leads P AnyUse (r.1).name (r.0).name = subst (λ a. Leads P AnyUse a (r.0).name) (sym n) (subst (Leads P AnyUse y) (sym r.3) (goes_leads P g)) in
    keeps_none (λ (w : UseIn). IsOutsideTail P w.owner w.use_there) sound.recursion.outside_all none (record { owner = (r.0).name; use_there = r.1 }) (listed_use P.types r.0 r.1 r.2 r.4) (t, l)

pub have_heights : (P : ProgramTree) → IsSound P → HaveHeights (names_of P) (height (names_of P))
have_heights P sound = heights (names_of P) (none_leads_back P sound)

pub heights_of_sound : HeightsOfSound
heights_of_sound P sound = (height (names_of P), have_heights P sound)

pub finitely_many_of_sound : FinitelyManyOfSound
finitely_many_of_sound P sound none A =
    let h = heights_of_sound P sound in finitely_many_reached (names_of P) none h.0 h.1 A

distinct_apart : (Ks : List Continuation) → AreDistinct Ks → NoRepeat Ks
distinct_apart [] f = tt
distinct_apart (K ∷ Ks) f = (f.0, distinct_apart Ks f.1)

pub few_reached : FewReached
few_reached P sound none A =
    let all = finitely_many_of_sound P sound none A in
    (length all.0, λ Ks f r. pigeon Ks all.0 (distinct_apart Ks f) (λ K m. all.1 K (r K m)))
