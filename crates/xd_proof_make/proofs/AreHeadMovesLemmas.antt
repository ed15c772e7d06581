-- Heads of states and heads of types: which number a head gets.
use Rattle.std.proofs.Common.{◌≡◌, ℕ, zero, suc, ◌+◌, ◌-◌, ◌<◌, ◌≤◌, Bool, true, false, cond, not, List, [], ◌∷◌, ◌++◌, map, length, get_or, take, Option, Some, ◌⊎◌, inl, inr, ⊎_elim, refl, sym, ap, subst, ◌∙◌, arith, append_assoc, append-nil}
use Rattle.std.specs.List.{AllZip, slice_get, flat_map}
use Rattle.std.proofs.lemmas.List.{take_more, map-append, length-map}
use Rattle.std.proofs.lemmas.Option.{get_or_from_slice_get, slice_get_within}
use Rattle.xd_doc.proofs.Lists.{zip_long}
use Rattle.xd_doc.specs.Members.{IsOneOf}
use Rattle.xd_syntax.specs.Tree.{Tree, Definitions}
use Rattle.xd_auto.specs.declared.auto.State.{State}
use Rattle.xd_auto.specs.declared.auto.LabelMove.{LabelMove}
use Rattle.xd_auto.specs.declared.auto.TextMove.{TextMove}
use Rattle.xd_auto.specs.Automaton.{Automaton, moves_at}
use Rattle.xd_rules.specs.Heads.{Head, element_in, text_in}
use Rattle.xd_meaning.specs.Heads.{heads}
use Rattle.xd_rules.specs.Rules.{numbered}
use Rattle.xd_state_heads.specs.Moves.{heads_of, label_head, text_head}
use Rattle.xd_heads.specs.Mirrors.{AreHeadMoves, no_head, element_head}
use Rattle.xd_heads.specs.Mirrors as mirrors
use Rattle.xd_proof_make.specs.Written.{AreTypes, IsAt, Renumbers}
use Rattle.xd_proof_make.specs.declared.places.Place.{Place}
use Rattle.xd_heads.specs.Sorts.{is_text, sorts_of}
use Rattle.xd_proof_make.specs.Places.{numbers_of, places_of, all_places, place_in, new_numbers}

-- ---- lists side by side

pub zip_append : {A B : Type 0} (R : A → B → Type 0) (xs us : List A) (ys vs : List B) → AllZip R xs ys → AllZip R us vs → AllZip R (xs ++ us) (ys ++ vs)
zip_append R [] us [] vs h k = k
zip_append R [] us (y ∷ ys) vs h k = absurd h
zip_append R (x ∷ xs) us [] vs h k = absurd h
zip_append R (x ∷ xs) us (y ∷ ys) vs h k = (h.0, zip_append R xs us ys vs h.1 k)

zip_at : {A B : Type 0} (R : A → B → Type 0) (xs : List A) (ys : List B) (i : ℕ) (y : B) → AllZip R xs ys → slice_get ys i ≡ Some y → (x : A) × (slice_get xs i ≡ Some x) × R x y
zip_at R [] [] i y h e = absurd (cc)
zip_at R [] (z ∷ ys) i y h e = absurd h
zip_at R (x ∷ xs) [] i y h e = absurd h
zip_at R (x ∷ xs) (z ∷ ys) zero y h e = let same : z ≡ y = cc in (x, refl, subst (R x) same h.0)
zip_at R (x ∷ xs) (z ∷ ys) (suc i) y h e = zip_at R xs ys i y h.1 e

-- ---- numbers in a list

numbered_behind : {A : Type 0} (front : List A) (x : A) (back : List A) → numbered (front ++ x ∷ back) (length front + 1) ≡ Some x
numbered_behind [] x back = refl
numbered_behind (y ∷ front) x back =
    let e : length (y ∷ front) + 1 ≡ suc (suc (length front)) = omega arith in
    let f : length front + 1 ≡ suc (length front) = omega arith in
    ap (numbered (y ∷ (front ++ x ∷ back))) e ∙ ap (numbered (front ++ x ∷ back)) (sym f) ∙ numbered_behind front x back

pub numbered_there : {A : Type 0} (front back all : List A) (x : A) (n : ℕ) → all ≡ front ++ x ∷ back → n ≡ length front + 1 → numbered all n ≡ Some x
numbered_there front back all x n e q = rw (e, q) (numbered_behind front x back)

-- ---- a state's heads

module _ (C : State → Option Tree) (all : List (Head Tree)) where
  abbrev pub Stands : List (Head Tree) → List (Head Tree) → List (Head Tree) → ℕ → Type 0
  Stands front hs back n = (all ≡ front ++ (hs ++ back)) × (n ≡ length front + 1)

  stands_next : (front : List (Head Tree)) (h : Head Tree) (hs back : List (Head Tree)) (n : ℕ) → Stands front (h ∷ hs) back n → Stands (front ++ h ∷ []) hs back (n + 1)
  stands_next front h hs back n s = (s.0 ∙ sym (append_assoc front (h ∷ []) (hs ++ back)), omega (arith, s.1, length-push front h))
    where
      length-push : (xs : List (Head Tree)) (x : Head Tree) → length (xs ++ x ∷ []) ≡ length xs + 1
      length-push [] x = refl
      length-push (y ∷ xs) x = let i = length-push xs x in omega arith

  -- each move stands at the number of its head
  pub elements_zip : {hs : List (Head Tree)} {ls : List LabelMove} {ts : List TextMove} → AreHeadMoves C hs ls ts → (front back : List (Head Tree)) (n : ℕ) → Stands front hs back n
      → AllZip (IsAt C all) (numbers_of false n (sorts_of hs)) (map label_head ls)
  elements_zip no_head front back n s = tt
  elements_zip (element_head {h} {hs} {l} {ls} {ts} k c r m) front back n s =
      let i = elements_zip m (front ++ h ∷ []) back (n + 1) (stands_next front h hs back n s) in
      let b : is_text h.kind ≡ false = ap is_text k in
      let at : IsAt C all n (label_head l) = record { head = h; stands = numbered_there front (hs ++ back) all h n s.0 s.1; same = record { kind = k; content = λ w q. c; rest = r } } in
      subst (λ (x : Bool). AllZip (IsAt C all) (cond (not x) (n ∷ numbers_of false (n + 1) (sorts_of hs)) (numbers_of false (n + 1) (sorts_of hs))) (label_head l ∷ map label_head ls)) (sym b) (at, i)
  elements_zip (mirrors.text_head {h} {hs} {ls} {t} {ts} k r m) front back n s =
      let i = elements_zip m (front ++ h ∷ []) back (n + 1) (stands_next front h hs back n s) in
      let b : is_text h.kind ≡ true = ap is_text k in
      subst (λ (x : Bool). AllZip (IsAt C all) (cond (not x) (n ∷ numbers_of false (n + 1) (sorts_of hs)) (numbers_of false (n + 1) (sorts_of hs))) (map label_head ls)) (sym b) i

  pub texts_zip : {hs : List (Head Tree)} {ls : List LabelMove} {ts : List TextMove} → AreHeadMoves C hs ls ts → (front back : List (Head Tree)) (n : ℕ) → Stands front hs back n
      → AllZip (IsAt C all) (numbers_of true n (sorts_of hs)) (map text_head ts)
  texts_zip no_head front back n s = tt
  texts_zip (element_head {h} {hs} {l} {ls} {ts} k c r m) front back n s =
      let i = texts_zip m (front ++ h ∷ []) back (n + 1) (stands_next front h hs back n s) in
      let b : is_text h.kind ≡ false = ap is_text k in
      subst (λ (x : Bool). AllZip (IsAt C all) (cond x (n ∷ numbers_of true (n + 1) (sorts_of hs)) (numbers_of true (n + 1) (sorts_of hs))) (map text_head ts)) (sym b) i
  texts_zip (mirrors.text_head {h} {hs} {ls} {t} {ts} k r m) front back n s =
      let i = texts_zip m (front ++ h ∷ []) back (n + 1) (stands_next front h hs back n s) in
      let b : is_text h.kind ≡ true = ap is_text k in
      let at : IsAt C all n (text_head t) = record {
        head = h;
        stands = numbered_there front (hs ++ back) all h n s.0 s.1;
        same = record { kind = k; content = λ w q. absurd (let e : text_in t.words ≡ element_in w = q in cc); rest = r };
      } in
      subst (λ (x : Bool). AllZip (IsAt C all) (cond x (n ∷ numbers_of true (n + 1) (sorts_of hs)) (numbers_of true (n + 1) (sorts_of hs))) (text_head t ∷ map text_head ts)) (sym b) (at, i)

  pub state_zip : {hs : List (Head Tree)} {ls : List LabelMove} {ts : List TextMove} → AreHeadMoves C hs ls ts → (front back : List (Head Tree)) (n : ℕ) → Stands front hs back n
      → AllZip (IsAt C all) (places_of n (sorts_of hs)) (map label_head ls ++ map text_head ts)
  state_zip {hs} {ls} {ts} m front back n s =
      zip_append (IsAt C all) (numbers_of false n (sorts_of hs)) (numbers_of true n (sorts_of hs)) (map label_head ls) (map text_head ts) (elements_zip m front back n s) (texts_zip m front back n s)

-- as many heads as moves
pub moves_count : (C : State → Option Tree) {hs : List (Head Tree)} {ls : List LabelMove} {ts : List TextMove} → AreHeadMoves C hs ls ts → length hs ≡ length ls + length ts
moves_count C no_head = refl
moves_count C (element_head k c r m) = let i = moves_count C m in omega arith
moves_count C (mirrors.text_head k r m) = let i = moves_count C m in omega arith

-- those of several states
module _ (E : Definitions) (a : Automaton) (C : State → Option Tree)
    (moves : (s : State) (T : Tree) → C s ≡ Some T → AreHeadMoves C (heads E T) (moves_at a s).labels (moves_at a s).texts) (all : List (Head Tree)) where
  states_zip : (ss : List State) (Ts : List Tree) → AreTypes C ss Ts → (front : List (Head Tree)) (n : ℕ) → all ≡ front ++ flat_map (heads E) Ts → n ≡ length front + 1
      → AllZip (IsAt C all) (all_places n (map (λ T. sorts_of (heads E T)) Ts)) (flat_map (heads_of a) ss)
  states_zip [] [] z front n e q = tt
  states_zip [] (T ∷ Ts) z front n e q = absurd z
  states_zip (s ∷ ss) [] z front n e q = absurd z
  states_zip (s ∷ ss) (T ∷ Ts) z front n e q =
      let here = state_zip C all (moves s T z.0) front (flat_map (heads E) Ts) n (e, q) in
      let more = states_zip ss Ts z.1 (front ++ heads E T) (n + length (sorts_of (heads E T))) (e ∙ sym (append_assoc front (heads E T) (flat_map (heads E) Ts)))
      (let l = length-sorts (heads E T) in let m = length-both front (heads E T) in omega arith) in
      zip_append (IsAt C all) (places_of n (sorts_of (heads E T))) (all_places (n + length (sorts_of (heads E T))) (map (λ U. sorts_of (heads E U)) Ts)) (heads_of a s) (flat_map (heads_of a) ss) here more
    where
      length-sorts : (hs : List (Head Tree)) → length (sorts_of hs) ≡ length hs
      length-sorts [] = refl
      length-sorts (h ∷ hs) = ap suc (length-sorts hs)

      length-both : (xs ys : List (Head Tree)) → length (xs ++ ys) ≡ length xs + length ys
      length-both [] ys = omega arith
      length-both (x ∷ xs) ys = let i = length-both xs ys in omega arith

  pub all_zip : (ss : List State) (Ts : List Tree) → AreTypes C ss Ts → all ≡ flat_map (heads E) Ts
      → AllZip (IsAt C all) (all_places 1 (map (λ T. sorts_of (heads E T)) Ts)) (flat_map (heads_of a) ss)
  all_zip ss Ts z e = states_zip ss Ts z [] 1 e refl

-- ---- no number twice

abbrev pub Distinct : List ℕ → Type 0
Distinct [] = Unit {0}
Distinct (x ∷ xs) = (IsOneOf x xs → ⊥) × Distinct xs

distinct_append : (xs ys : List ℕ) → Distinct xs → Distinct ys → ((p : ℕ) → IsOneOf p xs → IsOneOf p ys → ⊥) → Distinct (xs ++ ys)
distinct_append [] ys h k f = k
distinct_append (x ∷ xs) ys h k f = (λ m. ⊎_elim h.0 (f x (inl refl)) (among_split x xs ys m), distinct_append xs ys h.1 k (λ p m n. f p (inr m) n))
  where
    among_split : (p : ℕ) (us vs : List ℕ) → IsOneOf p (us ++ vs) → IsOneOf p us ⊎ IsOneOf p vs
    among_split p [] vs m = inr m
    among_split p (u ∷ us) vs (inl e) = inl (inl e)
    among_split p (u ∷ us) vs (inr m) = ⊎_elim (λ h. inl (inr h)) (λ h. inr h) (among_split p us vs m)

distinct_at : (xs : List ℕ) → Distinct xs → (i j p : ℕ) → slice_get xs i ≡ Some p → slice_get xs j ≡ Some p → i ≡ j
distinct_at [] d i j p e f = absurd (cc)
distinct_at (x ∷ xs) d zero zero p e f = refl
distinct_at (x ∷ xs) d zero (suc j) p e f = absurd (d.0 (among_get xs j x (let q : x ≡ p = cc in f ∙ ap Some (sym q))))
  where
    among_get : (ys : List ℕ) (j y : ℕ) → slice_get ys j ≡ Some y → IsOneOf y ys
    among_get [] j y g = absurd (cc)
    among_get (z ∷ ys) zero y g = inl (cc)
    among_get (z ∷ ys) (suc j) y g = inr (among_get ys j y g)
distinct_at (x ∷ xs) d (suc i) zero p e f = absurd (d.0 (among_get xs i x (let q : x ≡ p = cc in e ∙ ap Some (sym q))))
  where
    among_get : (ys : List ℕ) (j y : ℕ) → slice_get ys j ≡ Some y → IsOneOf y ys
    among_get [] j y g = absurd (cc)
    among_get (z ∷ ys) zero y g = inl (cc)
    among_get (z ∷ ys) (suc j) y g = inr (among_get ys j y g)
distinct_at (x ∷ xs) d (suc i) (suc j) p e f = ap suc (distinct_at xs d.1 i j p e f)

-- a number stands for a head of its sort
sort_at : (b : Bool) (n : ℕ) (ss : List Bool) (p : ℕ) → IsOneOf p (numbers_of b n ss) → (i : ℕ) × (p ≡ n + i) × (slice_get ss i ≡ Some b)
sort_at b n [] p m = absurd m
sort_at b n (s ∷ ss) p m = go b s m (λ k. sort_at b (n + 1) ss p k)
  where
    next : (c r : Bool) → (i : ℕ) × (p ≡ (n + 1) + i) × (slice_get ss i ≡ Some c) → (i : ℕ) × (p ≡ n + i) × (slice_get (r ∷ ss) i ≡ Some c)
    next c r k = (suc k.0, (let e = k.1 in omega arith), k.2)

    here : n ≡ p → p ≡ n + 0
    here e = omega arith

    go : (c r : Bool) → IsOneOf p (cond (cond c r (not r)) (n ∷ numbers_of c (n + 1) ss) (numbers_of c (n + 1) ss)) → (IsOneOf p (numbers_of c (n + 1) ss) → (i : ℕ) × (p ≡ (n + 1) + i) × (slice_get ss i ≡ Some c))
        → (i : ℕ) × (p ≡ n + i) × (slice_get (r ∷ ss) i ≡ Some c)
    go true true (inl e) rec = (0, here e, refl)
    go true true (inr k) rec = next true true (rec k)
    go true false k rec = next true false (rec k)
    go false false (inl e) rec = (0, here e, refl)
    go false false (inr k) rec = next false false (rec k)
    go false true k rec = next false true (rec k)

numbers_distinct : (b : Bool) (n : ℕ) (ss : List Bool) → Distinct (numbers_of b n ss)
numbers_distinct b n [] = tt
numbers_distinct b n (s ∷ ss) = go (cond b s (not s)) (numbers_distinct b (n + 1) ss)
  where
    go : (c : Bool) → Distinct (numbers_of b (n + 1) ss) → Distinct (cond c (n ∷ numbers_of b (n + 1) ss) (numbers_of b (n + 1) ss))
    go true i = (λ m. (let k = sort_at b (n + 1) ss n m in let e = k.1 in omega arith), i)
    go false i = i

-- the numbers of a type's heads
place_within : (n : ℕ) (ss : List Bool) (p : ℕ) → IsOneOf p (places_of n ss) → (n ≤ p) × (p < n + length ss)
place_within n ss p m = ⊎_elim (λ h. at false (sort_at false n ss p h)) (λ h. at true (sort_at true n ss p h)) (among_split (numbers_of false n ss) (numbers_of true n ss) m)
  where
    among_split : (us vs : List ℕ) → IsOneOf p (us ++ vs) → IsOneOf p us ⊎ IsOneOf p vs
    among_split [] vs k = inr k
    among_split (u ∷ us) vs (inl e) = inl (inl e)
    among_split (u ∷ us) vs (inr k) = ⊎_elim (λ h. inl (inr h)) (λ h. inr h) (among_split us vs k)

    at : (b : Bool) → (i : ℕ) × (p ≡ n + i) × (slice_get ss i ≡ Some b) → (n ≤ p) × (p < n + length ss)
    at b k = let e = k.1 in let l = slice_get_within ss k.0 b k.2 in (omega arith, omega arith)

places_distinct : (n : ℕ) (ss : List Bool) → Distinct (places_of n ss)
places_distinct n ss = distinct_append (numbers_of false n ss) (numbers_of true n ss) (numbers_distinct false n ss) (numbers_distinct true n ss) (λ p h k. apart p (sort_at false n ss p h) (sort_at true n ss p k))
  where
    apart : (p : ℕ) → (i : ℕ) × (p ≡ n + i) × (slice_get ss i ≡ Some false) → (i : ℕ) × (p ≡ n + i) × (slice_get ss i ≡ Some true) → ⊥
    apart p x y =
        let e = x.1 in let f = y.1 in
        let q : x.0 ≡ y.0 = omega arith in
        let g : slice_get ss x.0 ≡ Some true = subst (λ (i : ℕ). slice_get ss i ≡ Some true) (sym q) y.2 in
        let h = x.2 in
        let k : Some false ≡ Some true = sym h ∙ g in cc

all_within : (n : ℕ) (sss : List (List Bool)) (p : ℕ) → IsOneOf p (all_places n sss) → n ≤ p
all_within n [] p m = absurd m
all_within n (ss ∷ sss) p m = ⊎_elim (λ h. (place_within n ss p h).0) (λ h. let k = all_within (n + length ss) sss p h in omega arith) (among_split (places_of n ss) m)
  where
    among_split : (us : List ℕ) → IsOneOf p (us ++ all_places (n + length ss) sss) → IsOneOf p us ⊎ IsOneOf p (all_places (n + length ss) sss)
    among_split [] k = inr k
    among_split (u ∷ us) (inl e) = inl (inl e)
    among_split (u ∷ us) (inr k) = ⊎_elim (λ h. inl (inr h)) (λ h. inr h) (among_split us k)

all_distinct : (n : ℕ) (sss : List (List Bool)) → Distinct (all_places n sss)
all_distinct n [] = tt
all_distinct n (ss ∷ sss) =
    distinct_append (places_of n ss) (all_places (n + length ss) sss) (places_distinct n ss) (all_distinct (n + length ss) sss)
    (λ p h k. let x = (place_within n ss p h).1 in let y = all_within (n + length ss) sss p k in omega arith)

-- ---- new numbers

pub renumbers_by : (C : State → Option Tree) (ps : List ℕ) (hs : List (Head State)) (ks : List (Head Tree)) → AllZip (IsAt C ks) ps hs → Distinct ps → Renumbers C (place_in ps) hs ks
renumbers_by C ps hs ks z d = record { same = same; once = once }
  where
    same : (j : ℕ) (h : Head State) → numbered hs j ≡ Some h → IsAt C ks (place_in ps j) h
    same zero h e = absurd (cc)
    same (suc i) h e =
        let x = zip_at (IsAt C ks) ps hs i h z e in
        subst (λ (p : ℕ). IsAt C ks p h) (sym (get_or_from_slice_get ps i x.0 0 x.1)) x.2

    at : (i : ℕ) (h : Head State) → slice_get hs i ≡ Some h → slice_get ps i ≡ Some (get_or ps i 0)
    at i h e = let x = zip_at (IsAt C ks) ps hs i h z e in x.1 ∙ ap Some (sym (get_or_from_slice_get ps i x.0 0 x.1))

    once : (i j : ℕ) (g h : Head State) → numbered hs i ≡ Some g → numbered hs j ≡ Some h → place_in ps i ≡ place_in ps j → i ≡ j
    once zero j g h e f q = absurd (cc)
    once (suc i) zero g h e f q = absurd (cc)
    once (suc i) (suc j) g h e f q = ap suc (distinct_at ps d i j (get_or ps j 0) (at i g e ∙ ap Some q) (at j h f))

pub places_renumber : (E : Definitions) (a : Automaton) (C : State → Option Tree) → ((s : State) (T : Tree) → C s ≡ Some T → AreHeadMoves C (heads E T) (moves_at a s).labels (moves_at a s).texts)
    → (ss : List State) (Ts : List Tree) → AreTypes C ss Ts → Renumbers C (place_in (all_places 1 (map (λ T. sorts_of (heads E T)) Ts))) (flat_map (heads_of a) ss) (flat_map (heads E) Ts)
places_renumber E a C moves ss Ts z =
    renumbers_by C (all_places 1 (map (λ T. sorts_of (heads E T)) Ts)) (flat_map (heads_of a) ss) (flat_map (heads E) Ts)
    (all_zip E a C moves (flat_map (heads E) Ts) ss Ts z refl) (all_distinct 1 (map (λ T. sorts_of (heads E T)) Ts))

-- ---- while numbers are put down

length_both : {X : Type 0} (xs ys : List X) → length (xs ++ ys) ≡ length xs + length ys
length_both [] ys = omega arith
length_both (x ∷ xs) ys = let i = length_both xs ys in omega arith

numbers_push : (b : Bool) (n : ℕ) (ss : List Bool) (s : Bool) (m : ℕ) → m ≡ n + length ss → numbers_of b n (ss ++ s ∷ []) ≡ numbers_of b n ss ++ cond (cond b s (not s)) (m ∷ []) []
numbers_push b n [] s m e = ap (λ (k : ℕ). cond (cond b s (not s)) (k ∷ []) []) (let q : n ≡ m = omega arith in q)
numbers_push b n (t ∷ ss) s m e = go (cond b t (not t)) (numbers_push b (n + 1) ss s m (omega arith))
  where
    go : (d : Bool) → numbers_of b (n + 1) (ss ++ s ∷ []) ≡ numbers_of b (n + 1) ss ++ cond (cond b s (not s)) (m ∷ []) []
        → cond d (n ∷ numbers_of b (n + 1) (ss ++ s ∷ [])) (numbers_of b (n + 1) (ss ++ s ∷ [])) ≡ cond d (n ∷ numbers_of b (n + 1) ss) (numbers_of b (n + 1) ss) ++ cond (cond b s (not s)) (m ∷ []) []
    go true i = ap (λ (xs : List ℕ). n ∷ xs) i
    go false i = i

module _ (b : Bool) (n : ℕ) (ss : List Bool) (i : ℕ) (lt : i < length ss) (old places : List ℕ) (so_far : places ≡ old ++ numbers_of b n (take i ss)) where
  next : numbers_of b n (take (i + 1) ss) ≡ numbers_of b n (take i ss) ++ cond (cond b (get_or ss i false) (not (get_or ss i false))) ((n + i) ∷ []) []
  next =
      ap (numbers_of b n) (take_more ss i false lt)
      ∙ numbers_push b n (take i ss) (get_or ss i false) (n + i) (ap (λ (k : ℕ). n + k) (sym (length_take ss i lt)))
    where
      length_take : (xs : List Bool) (k : ℕ) → k < length xs → length (take k xs) ≡ k
      length_take [] k l = absurd (omega arith)
      length_take (x ∷ xs) zero l = refl
      length_take (x ∷ xs) (suc k) l = ap suc (length_take xs k (omega arith))

  pub number_put : (places2 : List ℕ) → places2 ≡ places ++ (n + i) ∷ [] → cond b (get_or ss i false) (not (get_or ss i false)) ≡ true → places2 ≡ old ++ numbers_of b n (take (i + 1) ss)
  number_put places2 e h =
      e ∙ (ap (λ (x : List ℕ). x ++ (n + i) ∷ []) so_far ∙ (append_assoc old (numbers_of b n (take i ss)) ((n + i) ∷ [])
      ∙ ap (λ (x : List ℕ). old ++ x) (sym (next ∙ ap (λ (d : Bool). numbers_of b n (take i ss) ++ cond d ((n + i) ∷ []) []) h))))

  pub number_skipped : cond b (get_or ss i false) (not (get_or ss i false)) ≡ false → places ≡ old ++ numbers_of b n (take (i + 1) ss)
  number_skipped h = so_far ∙ ap (λ (x : List ℕ). old ++ x) (sym (next ∙ (ap (λ (d : Bool). numbers_of b n (take i ss) ++ cond d ((n + i) ∷ []) []) h ∙ append-nil (numbers_of b n (take i ss)))))

sorts_count : (n : ℕ) (ss : List Bool) → length (numbers_of false n ss) + length (numbers_of true n ss) ≡ length ss
sorts_count n [] = refl
sorts_count n (true ∷ ss) = let i = sorts_count (n + 1) ss in omega arith
sorts_count n (false ∷ ss) = let i = sorts_count (n + 1) ss in omega arith

places_count : (n : ℕ) (ss : List Bool) → length (places_of n ss) ≡ length ss
places_count n ss = length_both (numbers_of false n ss) (numbers_of true n ss) ∙ sorts_count n ss

all_places-push : (n : ℕ) (sss : List (List Bool)) (ss : List Bool) (m : ℕ) → m ≡ n + length (all_places n sss) → all_places n (sss ++ ss ∷ []) ≡ all_places n sss ++ places_of m ss
all_places-push n [] ss m e = append-nil (places_of n ss) ∙ ap (λ (k : ℕ). places_of k ss) (let q : n ≡ m = omega arith in q)
all_places-push n (ts ∷ sss) ss m e =
    ap (λ (x : List ℕ). places_of n ts ++ x)
    (all_places-push (n + length ts) sss ss m (let l = length_both (places_of n ts) (all_places (n + length ts) sss) in let k = places_count n ts in omega arith))
    ∙ sym (append_assoc (places_of n ts) (all_places (n + length ts) sss) (places_of m ss))

-- the heads of one more state
pub placed_more : {X : Type 0} (F : X → List Bool) (rights : List X) (i : ℕ) (d : X) (places p1 p2 : List ℕ) (first : ℕ) (sorts : List Bool) → i < length rights → places ≡ all_places 1 (map F (take i rights)) → first ≡ length places + 1
    → F (get_or rights i d) ≡ sorts → p1 ≡ places ++ numbers_of false first sorts → p2 ≡ p1 ++ numbers_of true first sorts → p2 ≡ all_places 1 (map F (take (i + 1) rights))
placed_more {X} F rights i d places p1 p2 first sorts lt e f g h k =
    k ∙ (ap (λ (x : List ℕ). x ++ numbers_of true first sorts) h
    ∙ (append_assoc places (numbers_of false first sorts) (numbers_of true first sorts)
    ∙ (ap (λ (x : List ℕ). x ++ places_of first sorts) e
    ∙ (ap (λ (x : List Bool). all_places 1 (map F (take i rights)) ++ places_of first x) (sym g)
    ∙ (sym (all_places-push 1 (map F (take i rights)) (F (get_or rights i d)) first (let l = ap length e in omega arith))
    ∙ sym (ap (λ (x : List X). all_places 1 (map F x)) (take_more rights i d lt) ∙ ap (all_places 1) (map-append F (take i rights) (get_or rights i d ∷ []))))))))

-- as many numbers as heads
pub places_heads : (E : Definitions) (a : Automaton) (C : State → Option Tree) → ((s : State) (T : Tree) → C s ≡ Some T → AreHeadMoves C (heads E T) (moves_at a s).labels (moves_at a s).texts)
    → (ss : List State) (Ts : List Tree) → AreTypes C ss Ts → length (all_places 1 (map (λ T. sorts_of (heads E T)) Ts)) ≡ length (flat_map (heads_of a) ss)
places_heads E a C moves ss Ts z = zip_long (IsAt C (flat_map (heads E) Ts)) (all_places 1 (map (λ T. sorts_of (heads E T)) Ts)) (flat_map (heads_of a) ss) (all_zip E a C moves (flat_map (heads E) Ts) ss Ts z refl)

-- as many as the heads of the types
pub places_of_types : (E : Definitions) (n : ℕ) (Ts : List Tree) → length (all_places n (map (λ T. sorts_of (heads E T)) Ts)) ≡ length (flat_map (heads E) Ts)
places_of_types E n [] = refl
places_of_types E n (T ∷ Ts) =
    let m = n + length (sorts_of (heads E T)) in
    let i = places_of_types E m Ts in
    let j = places_count n (sorts_of (heads E T)) in
    let k = length-map (heads E T) (λ (h : Head Tree). is_text h.kind) in
    let l = length_both (places_of n (sorts_of (heads E T))) (all_places m (map (λ U. sorts_of (heads E U)) Ts)) in
    let r = length_both (heads E T) (flat_map (heads E) Ts) in
    omega arith

-- ---- places as they are kept

pub new_numbers-push : (places : List Place) (p : Place) → new_numbers (places ++ p ∷ []) ≡ new_numbers places ++ p.number ∷ []
new_numbers-push places p = map-append (λ (q : Place). q.number) places (p ∷ [])

pub new_numbers-length : (places : List Place) → length (new_numbers places) ≡ length places
new_numbers-length places = length-map places (λ (p : Place). p.number)

pub place_found : (places : List Place) (i : ℕ) (d : Place) → i < length places → get_or (new_numbers places) i 0 ≡ (get_or places i d).number
place_found [] i d lt = absurd (omega arith)
place_found (p ∷ places) zero d lt = refl
place_found (p ∷ places) (suc i) d lt = place_found places i d (omega arith)

pub place_written : (places : List Place) (j : ℕ) (d : Place) → 0 < j → j ≤ length places → (get_or places (j - 1) d).number ≡ place_in (new_numbers places) j
place_written places zero d lt le = absurd (omega arith)
place_written places (suc i) d lt le = let e : suc i - 1 ≡ i = omega arith in rw e (sym (place_found places i d (omega arith)))
