-- Laws of places of states.
use Rattle.std.proofs.Common.{◌≡◌, ◌⊎◌, inl, inr, ℕ, zero, suc, ◌+◌, ◌<◌, ◌≤◌, arith, refl, sym, ap, ◌∙◌, subst, List, [], ◌∷◌, ◌++◌, length, take, get_or, set, Option, Some, None}
use Rattle.std.specs.List.{AllByRecursion}
use Rattle.xd_doc.proofs.Lists.{all_push, length_push}
use Rattle.xd_doc.proofs.Numbers.{less_cases}
use Rattle.xd_auto.specs.declared.auto.State.{State}
use Rattle.xd_auto.specs.declared.auto.LabelMove.{LabelMove}
use Rattle.xd_auto.specs.declared.auto.TextMove.{TextMove}
use Rattle.xd_auto.specs.Automaton.{Automaton, IsState, moves_at, state_number}
use Rattle.xd_show_solve.specs.Levels.{known_of, known_count, KeepsKnown, IsPlaced, ArePlaced, TextsArePlaced, IsLevel, IsClosedAt, GrowsStates}
use Rattle.std.proofs.Common.{true}
use Rattle.std.specs.Option.{is_some}
use Rattle.xd_same_types.proofs.Ids.{take_read}
use Rattle.xd_show_solve.proofs.SystemLaws.{set_here, set_count}

pub count_known : {A : Type 0} (xs : List (Option A)) → known_count xs ≤ length xs
count_known [] = omega arith
count_known (None ∷ xs) = let i = count_known xs in omega arith
count_known (Some x ∷ xs) = let i = count_known xs in omega arith

pub count_set : {A : Type 0} (xs : List (Option A)) (k : ℕ) (x : A) → k < length xs → get_or xs k None ≡ None → known_count (set xs k (Some x)) ≡ known_count xs + 1
count_set [] k x l e = absurd (omega arith)
count_set (None ∷ xs) zero x l e = refl
count_set (Some y ∷ xs) zero x l e = cc
count_set (None ∷ xs) (suc k) x l e = let m : k < length xs = omega arith in count_set xs k x m e
count_set (Some y ∷ xs) (suc k) x l e = let m : k < length xs = omega arith in let i = count_set xs k x m e in omega arith

-- at a place of a list with one set: it is there, or another one
set_cases : {A : Type 0} (xs : List A) (k i : ℕ) (y d : A) → (i ≡ k) ⊎ (get_or (set xs k y) i d ≡ get_or xs i d)
set_cases [] k i y d = inr refl
set_cases (x ∷ xs) zero zero y d = inl refl
set_cases (x ∷ xs) zero (suc i) y d = inr refl
set_cases (x ∷ xs) (suc k) zero y d = inr refl
set_cases (x ∷ xs) (suc k) (suc i) y d = elim (set_cases xs k i y d) [
  | inl e ↦ inl (ap suc e)
  | inr e ↦ inr e
]

get_front : {A : Type 0} (xs ys : List A) (i : ℕ) (d : A) → i < length xs → get_or (xs ++ ys) i d ≡ get_or xs i d
get_front [] ys i d l = absurd (omega arith)
get_front (x ∷ xs) ys zero d l = refl
get_front (x ∷ xs) ys (suc i) d l = let m : i < length xs = omega arith in get_front xs ys i d m

get_last : {A : Type 0} (xs : List A) (y d : A) → get_or (xs ++ y ∷ []) (length xs) d ≡ y
get_last [] y d = refl
get_last (x ∷ xs) y d = get_last xs y d

-- a new state gets the next place
pub keeps_set : {A : Type 0} (xs : List (Option A)) (s : State) (x : A) → known_of xs s ≡ None → KeepsKnown xs (set xs (state_number s) (Some x))
keeps_set xs s x e = λ t y f. go t y f (set_cases xs (state_number s) (state_number t) (Some x) None)
  where
    go : (t : State) (y : _) → known_of xs t ≡ Some y → (state_number t ≡ state_number s) ⊎ (get_or (set xs (state_number s) (Some x)) (state_number t) None ≡ get_or xs (state_number t) None) → known_of (set xs (state_number s) (Some x)) t ≡ Some y
    go t y f (inl q) = let h : known_of xs t ≡ None = subst (λ k. get_or xs k None ≡ None) (sym q) e in let n : None ≡ Some y = sym h ∙ f in cc
    go t y f (inr q) = q ∙ f

pub level_pushed : (a : Automaton) (states : List State) (places : List (Option ℕ)) (s : State) → IsState a s → IsLevel a states places → known_of places s ≡ None →
    IsLevel a (states ++ s ∷ []) (set places (state_number s) (Some (length states)))
level_pushed a states places s b h e = record {
  count = set_count places (state_number s) (Some (length states)) ∙ h.count;
  right = λ t p f. go t p f (set_cases places (state_number s) (state_number t) (Some (length states)) None);
  belong = all_push (IsState a) states s h.belong b;
  few = let i = count_set places (state_number s) (length states) within e in let j = length_push states s in let k = h.few in omega arith;
}
  where
    within : state_number s < length places
    within = subst (λ n. state_number s < n) (sym h.count) b

    here : known_of (set places (state_number s) (Some (length states))) s ≡ Some (length states)
    here = set_here places (state_number s) (Some (length states)) None within

    go : (t : State) (p : ℕ) → known_of (set places (state_number s) (Some (length states))) t ≡ Some p →
        (state_number t ≡ state_number s) ⊎ (get_or (set places (state_number s) (Some (length states))) (state_number t) None ≡ get_or places (state_number t) None) →
        (p < length (states ++ s ∷ [])) × (get_or (states ++ s ∷ []) p t ≡ t)
    go t p f (inl q) =
        let same : t ≡ s = ap (λ n. let z : State = record { number = n } in z) q in
        let w : Some (length states) ≡ Some p = sym here ∙ subst (λ u. known_of (set places (state_number s) (Some (length states))) u ≡ Some p) same f in
        let v : length states ≡ p = cc in
        let j = length_push states s in
        (omega arith, subst (λ n. get_or (states ++ s ∷ []) n t ≡ t) v (get_last states s t ∙ sym same))
    go t p f (inr q) =
        let r = h.right t p (sym q ∙ f) in
        let j = length_push states s in
        (omega arith, get_front states (s ∷ []) p t r.0 ∙ r.1)

pub placed_there : (places : List (Option ℕ)) (s : State) (p : ℕ) → state_number s < length places → IsPlaced (set places (state_number s) (Some p)) s
placed_there places s p l = (p, set_here places (state_number s) (Some p) None l)

pub placed_stays : (old new : List (Option ℕ)) (s : State) → KeepsKnown old new → IsPlaced old s → IsPlaced new s
placed_stays old new s k h = (h.0, k s h.0 h.1)

pub all_placed_stay : (old new : List (Option ℕ)) (ms : List LabelMove) → KeepsKnown old new → ArePlaced old ms → ArePlaced new ms
all_placed_stay old new [] k h = tt
all_placed_stay old new (m ∷ ms) k h = (placed_stays old new m.rest k h.0, all_placed_stay old new ms k h.1)

pub texts_placed_stay : (old new : List (Option ℕ)) (ms : List TextMove) → KeepsKnown old new → TextsArePlaced old ms → TextsArePlaced new ms
texts_placed_stay old new [] k h = tt
texts_placed_stay old new (m ∷ ms) k h = (placed_stays old new m.rest k h.0, texts_placed_stay old new ms k h.1)

pub some_of : {A : Type 0} (o : Option A) → is_some o ≡ true → (x : A) × (o ≡ Some x)
some_of None e = cc
some_of (Some x) e = (x, refl)

-- what was read at a place
pub read_of : {A : Type 0} (xs : List (Option A)) (s : State) (o : Option A) → state_number s < length xs → o ≡ get_or xs (state_number s) o → known_of xs s ≡ o
read_of xs s o l e = default_free xs (state_number s) None o l ∙ sym e
  where
    default_free : {B : Type 0} (ys : List B) (k : ℕ) (d f : B) → k < length ys → get_or ys k d ≡ get_or ys k f
    default_free [] k d f l = absurd (omega arith)
    default_free (y ∷ ys) zero d f l = refl
    default_free (y ∷ ys) (suc k) d f l = let m : k < length ys = omega arith in default_free ys k d f m

pub placed_more : (old new : List (Option ℕ)) (ms : List LabelMove) (i : ℕ) (m : LabelMove) → KeepsKnown old new → i < length ms → m ≡ get_or ms i m → ArePlaced old (take i ms) → IsPlaced new m.rest → ArePlaced new (take (i + 1) ms)
placed_more old new ms i m k l e h p =
    subst (ArePlaced new) (sym (take_read ms i m l e)) (all_push (λ (n : LabelMove). IsPlaced new n.rest) (take i ms) m (all_placed_stay old new (take i ms) k h) p)

pub text_placed_more : (old new : List (Option ℕ)) (ms : List TextMove) (i : ℕ) (m : TextMove) → KeepsKnown old new → i < length ms → m ≡ get_or ms i m → TextsArePlaced old (take i ms) → IsPlaced new m.rest → TextsArePlaced new (take (i + 1) ms)
text_placed_more old new ms i m k l e h p =
    subst (TextsArePlaced new) (sym (take_read ms i m l e)) (all_push (λ (n : TextMove). IsPlaced new n.rest) (take i ms) m (texts_placed_stay old new (take i ms) k h) p)

pub grows_refl : (xs : List State) → GrowsStates xs xs
grows_refl xs = record { count = omega arith; stay = λ i s l. refl }

pub grows_push : (xs : List State) (y : State) → GrowsStates xs (xs ++ y ∷ [])
grows_push xs y = record { count = let j = length_push xs y in omega arith; stay = λ i s l. get_front xs (y ∷ []) i s l }

pub grows_then : (xs ys zs : List State) → GrowsStates xs ys → GrowsStates ys zs → GrowsStates xs zs
grows_then xs ys zs g h = record {
  count = let a = g.count in let b = h.count in omega arith;
  stay = λ i s l. let a = g.count in let m : i < length ys = omega arith in h.stay i s m ∙ g.stay i s l;
}

pub closed_stays : (a : Automaton) (old new : List (Option ℕ)) (s : State) → KeepsKnown old new → IsClosedAt a old s → IsClosedAt a new s
closed_stays a old new s k h = (all_placed_stay old new (moves_at a s).labels k h.0, texts_placed_stay old new (moves_at a s).texts k h.1)

-- the first places are closed
abbrev pub ClosedBelow : Automaton → List State → List (Option ℕ) → ℕ → Type 0
ClosedBelow a states places n = (i : ℕ) (s : State) → i < n → i < length states → s ≡ get_or states i s → IsClosedAt a places s

-- Places beyond the states that were there are looked at later, but none below n was beyond.
pub closed_more : (a : Automaton) (states new : List State) (places more : List (Option ℕ)) (n : ℕ) → KeepsKnown places more → GrowsStates states new → ((length states ≤ n) → new ≡ states) →
    ClosedBelow a states places n → ((s : State) → n < length states → s ≡ get_or states n s → IsClosedAt a more s) → ClosedBelow a new more (n + 1)
closed_more a states new places more n k g same h here = λ i s l m e. go i s m e (less_cases i n l)
  where
    within : (i : ℕ) → i < n + 1 → i < length new → (i < length states) ⊎ (length states ≤ i)
    within i l m = elim (less_or_same_or i (length states)) [ inl x ↦ inl x | inr y ↦ inr y ]
      where
        less_or_same_or : (p q : ℕ) → (p < q) ⊎ (q ≤ p)
        less_or_same_or zero zero = inr (omega arith)
        less_or_same_or zero (suc q) = inl (omega arith)
        less_or_same_or (suc p) zero = inr (omega arith)
        less_or_same_or (suc p) (suc q) = elim (less_or_same_or p q) [ inl x ↦ inl (omega arith) | inr y ↦ inr (omega arith) ]

    go : (i : ℕ) (s : State) → i < length new → s ≡ get_or new i s → (i < n) ⊎ (i ≡ n) → IsClosedAt a more s
    go i s m e (inl l) = by_length i s m e l (within i (omega arith) m)
      where
        by_length : (i : ℕ) (s : State) → i < length new → s ≡ get_or new i s → i < n → (i < length states) ⊎ (length states ≤ i) → IsClosedAt a more s
        by_length i s m e l (inl w) = closed_stays a places more s k (h i s l w (e ∙ g.stay i s w))
        by_length i s m e l (inr w) = let q = same (omega arith) in let z : i < length states = subst (λ xs. i < length xs) q m in absurd (omega arith)
    go i s m e (inr q) = by_length (within i (omega arith) m)
      where
        by_length : (i < length states) ⊎ (length states ≤ i) → IsClosedAt a more s
        by_length (inl w) = here s (subst (λ x. x < length states) q w) (subst (λ x. s ≡ get_or states x s) q (e ∙ g.stay i s w))
        by_length (inr w) = let p = same (omega arith) in let z : i < length states = subst (λ xs. i < length xs) p m in absurd (omega arith)

pub none_known : (places : List (Option ℕ)) (s : State) → AllByRecursion (λ o. o ≡ None) places → known_of places s ≡ None
none_known places s h = go places (state_number s) h
  where
    go : (xs : List (Option ℕ)) (k : ℕ) → AllByRecursion (λ o. o ≡ None) xs → get_or xs k None ≡ None
    go [] k h = refl
    go (x ∷ xs) zero h = h.0
    go (x ∷ xs) (suc k) h = go xs k h.1

pub empty_level : (a : Automaton) (places : List (Option ℕ)) → length places ≡ length a → AllByRecursion (λ o. o ≡ None) places → IsLevel a [] places
empty_level a places c h = record {
  count = c;
  right = λ s p e. absurd (let n = none_known places s h in let m : None ≡ Some p = sym n ∙ e in cc);
  belong = tt;
  few = omega arith;
}
