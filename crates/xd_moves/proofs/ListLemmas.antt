-- Numbers of lists.
use Rattle.std.proofs.Common.{◌≡◌, ℕ, zero, suc, ◌<◌, arith, Bool, true, false, ◌&&◌, ◌||◌, nat_eq, Some, List, [], ◌∷◌, ◌++◌, append_assoc, append-nil, length, length-append, refl, ap, sym, subst, ◌∙◌, inl, inr}
use Rattle.std.proofs.lemmas.Bool.{cases_lt}
use Rattle.std.proofs.lemmas.Bool.Decides.{nat_tests}
use Rattle.std.specs.Cmp.Lexicographic.{pointwise}
use Rattle.std.specs.List.{list_any, slice_get}
use Rattle.std.specs.Prelude.{if◌then◌else◌, Vec}
use Rattle.xd_doc.proofs.SortedNames.{is_same}
use Rattle.xd_doc.specs.Members.{IsOneOf}
use Rattle.xd_syntax.proofs.Members.{mem_append}
use Rattle.xd_syntax.proofs.Words.{got_among}
use Rattle.xd_moves.specs.Lists.{lists_of, AddsList, StandOnce, KeepsLists, HasNumber}

-- ---- equal numbers of equal lists

get_kept : (ls ms : List (List ℕ)) (k : ℕ) (xs : List ℕ) → slice_get ls k ≡ Some xs → slice_get (ls ++ ms) k ≡ Some xs
get_kept [] ms k xs h = cc
get_kept (l ∷ ls) ms zero xs h = h
get_kept (l ∷ ls) ms (suc k) xs h = get_kept ls ms k xs h

-- a list keeps its number
pub number_kept : (old new : List (List ℕ)) (xs : List ℕ) (n : ℕ) → KeepsLists old new → HasNumber old xs n → HasNumber new xs n
number_kept old new xs n k h = subst (λ ls. HasNumber ls xs n) (sym k.grown) (get_kept old k.more n xs h)

pub lists_then : (a b c : List (List ℕ)) → KeepsLists a b → KeepsLists b c → KeepsLists a c
lists_then a b c k l = record { more = k.more ++ l.more; grown = l.grown ∙ ap (λ ls. ls ++ l.more) k.grown ∙ append_assoc a k.more l.more }

-- equal lists have one number
pub one_number : (ls : List (List ℕ)) → StandOnce ls → (xs : List ℕ) (m n : ℕ) → HasNumber ls xs m → HasNumber ls xs n → m ≡ n
one_number [] s xs m n h k = cc
one_number (l ∷ ls) s xs zero zero h k = refl
one_number (l ∷ ls) s xs zero (suc n) h k = let e : xs ≡ l = cc in absurd (s.0 (subst (λ q. IsOneOf q ls) e (got_among ls n xs k)))
one_number (l ∷ ls) s xs (suc m) zero h k = let e : xs ≡ l = cc in absurd (s.0 (subst (λ q. IsOneOf q ls) e (got_among ls m xs h)))
one_number (l ∷ ls) s xs (suc m) (suc n) h k = ap suc (one_number ls s.1 xs m n h k)

-- a number is that of one list
pub one_list : (ls : List (List ℕ)) (xs ys : List ℕ) (n : ℕ) → HasNumber ls xs n → HasNumber ls ys n → xs ≡ ys
one_list ls xs ys n h k = let e : Some xs ≡ Some ys = sym h ∙ k in cc

-- ---- what an insertion leaves

pub same_items : (xs ys : List ℕ) → pointwise nat_eq xs ys ≡ true → ys ≡ xs
same_items [] [] h = refl
same_items [] (y ∷ ys) h = cc
same_items (x ∷ xs) [] h = cc
same_items (x ∷ xs) (y ∷ ys) h = go (nat_eq x y) refl (same_items xs ys) h
  where
    go : (b : Bool) → nat_eq x y ≡ b → (pointwise nat_eq xs ys ≡ true → ys ≡ xs) → (b && pointwise nat_eq xs ys) ≡ true → (y ∷ ys) ≡ (x ∷ xs)
    go true i rest k = let e : y ≡ x = grind (arith, nat_tests) in let f = rest k in cc
    go false i rest k = cc

module _ {A : Type 0} where
  pub get_items : (vs : List (Vec ℕ A)) (k : ℕ) (v : Vec ℕ A) → slice_get vs k ≡ Some v → slice_get (lists_of vs) k ≡ Some v.items
  get_items [] k v h = cc
  get_items (w ∷ vs) zero v h = let e : w ≡ v = cc in ap (λ (u : Vec ℕ A). Some u.items) e
  get_items (w ∷ vs) (suc k) v h = get_items vs k v h

  pub length_items : (vs : List (Vec ℕ A)) → length (lists_of vs) ≡ length vs
  length_items [] = refl
  length_items (v ∷ vs) = ap suc (length_items vs)

  items_push : (vs : List (Vec ℕ A)) (v : Vec ℕ A) → lists_of (vs ++ v ∷ []) ≡ lists_of vs ++ v.items ∷ []
  items_push [] v = refl
  items_push (w ∷ vs) v = ap (λ ls. w.items ∷ ls) (items_push vs v)

  among_any : (v : Vec ℕ A) (vs : List (Vec ℕ A)) → IsOneOf v.items (lists_of vs) → list_any (λ w. pointwise nat_eq v.items w.items) vs ≡ true
  among_any v [] m = absurd m
  among_any v (w ∷ vs) (inl e) = let q : pointwise nat_eq v.items w.items ≡ true = subst (λ ys. pointwise nat_eq v.items ys ≡ true) (sym e) (is_same v.items) in rw q refl
  among_any v (w ∷ vs) (inr m) = go (pointwise nat_eq v.items w.items) (among_any v vs m)
    where
      go : (b : Bool) → list_any (λ u. pointwise nat_eq v.items u.items) vs ≡ true → (b || list_any (λ u. pointwise nat_eq v.items u.items) vs) ≡ true
      go true k = refl
      go false k = k

once_push : (ls : List (List ℕ)) (xs : List ℕ) → StandOnce ls → (IsOneOf xs ls → ⊥) → StandOnce (ls ++ xs ∷ [])
once_push [] xs n h = (λ m. m, tt)
once_push (l ∷ ls) xs n h =
    (λ m. elim (mem_append l ls (xs ∷ []) m) [ inl a ↦ n.0 a | inr (inl e) ↦ h (inl (sym e)) | inr (inr b) ↦ b ], once_push ls xs n.1 (λ m. h (inr m)))

pub has_inserted : {A : Type 0} (v : Vec ℕ A) (old new : List (Vec ℕ A)) →
    new ≡ if list_any (λ w. pointwise nat_eq v.items w.items) old then old else old ++ v ∷ [] →
    KeepsLists (lists_of old) (lists_of new) × (StandOnce (lists_of old) → StandOnce (lists_of new))
has_inserted v old new e = go (list_any (λ w. pointwise nat_eq v.items w.items) old) refl e
  where
    go : (b : Bool) → list_any (λ w. pointwise nat_eq v.items w.items) old ≡ b → new ≡ if b then old else old ++ v ∷ [] →
        KeepsLists (lists_of old) (lists_of new) × (StandOnce (lists_of old) → StandOnce (lists_of new))
    go true i q = (record { more = []; grown = ap lists_of q ∙ sym (append-nil (lists_of old)) }, λ s. subst (λ vs. StandOnce (lists_of vs)) (sym q) s)
    go false i q =
        let p = ap lists_of q ∙ items_push old v in
        (record { more = v.items ∷ []; grown = p }, λ s. subst StandOnce (sym p) (once_push (lists_of old) v.items s (λ m. let k = among_any v old m in let z : true ≡ false = sym k ∙ i in cc)))

-- ---- the number that a list gets

get_front : {A : Type 0} (xs ys : List A) (i : ℕ) → i < length xs → slice_get (xs ++ ys) i ≡ slice_get xs i
get_front [] ys i h = absurd (omega arith)
get_front (x ∷ xs) ys zero h = refl
get_front (x ∷ xs) ys (suc i) h = get_front xs ys i (omega arith)

any_at : {A : Type 0} (v : Vec ℕ A) (vs : List (Vec ℕ A)) (i : ℕ) (k : Vec ℕ A) → slice_get vs i ≡ Some k → pointwise nat_eq v.items k.items ≡ true →
    list_any (λ w. pointwise nat_eq v.items w.items) vs ≡ true
any_at {A = A} v [] i k s t = cc
any_at {A = A} v (w ∷ vs) zero k s t =
    let e : w ≡ k = cc in
    let q : pointwise nat_eq v.items w.items ≡ true = ap (λ (u : Vec ℕ A). pointwise nat_eq v.items u.items) e ∙ t in rw q refl
any_at {A = A} v (w ∷ vs) (suc i) k s t = go (pointwise nat_eq v.items w.items) (any_at v vs i k s t)
  where
    go : (b : Bool) → list_any (λ u. pointwise nat_eq v.items u.items) vs ≡ true → (b || list_any (λ u. pointwise nat_eq v.items u.items) vs) ≡ true
    go true h = refl
    go false h = h

pub adds_inserted : {A : Type 0} (v : Vec ℕ A) (old new : List (Vec ℕ A)) (i : ℕ) (k : Vec ℕ A) →
    new ≡ if list_any (λ w. pointwise nat_eq v.items w.items) old then old else old ++ v ∷ [] → i < length new → slice_get new i ≡ Some k → pointwise nat_eq v.items k.items ≡ true →
    AddsList (lists_of old) (lists_of new) i
adds_inserted v old new i k e w s t = go (list_any (λ w. pointwise nat_eq v.items w.items) old) refl e
  where
    go : (b : Bool) → list_any (λ w. pointwise nat_eq v.items w.items) old ≡ b → new ≡ if b then old else old ++ v ∷ [] → AddsList (lists_of old) (lists_of new) i
    go true a q = inl (let l = length_items old in let m = ap length q in omega arith, ap lists_of q)
    go false a q =
        let l = length_items old in
        let n = length_items new in
        let m = ap length q ∙ length-append old (v ∷ []) in
        elim (cases_lt i (length old)) [
          | inl h ↦ (let f = any_at v old i k (sym (get_front old (v ∷ []) i h) ∙ ap (λ vs. slice_get vs i) (sym q) ∙ s) t in let z : true ≡ false = sym f ∙ a in cc)
          | inr h ↦ inr (omega arith, omega arith)
        ]
