-- On elements that are chosen by their numbers.
use Rattle.std.proofs.Common.{◌≡◌, ℕ, zero, suc, ◌+◌, ◌<◌, Bool, true, false, ◌||◌, cond, List, [], ◌∷◌, ◌++◌, map, length, take, get_or, Some, refl, sym, ap, ◌∙◌, arith, add-one}
use Rattle.std.specs.List.{All, list_any, slice_get}
use Rattle.std.proofs.lemmas.List.Elements.{All-cons, All-head, All-tail}
use Rattle.xd_doc.specs.Classes.{LabelClass, TextClass}
use Rattle.xd_doc.proofs.Lists.{append_none}
use Rattle.xd_auto.specs.declared.auto.State.{State}
use Rattle.xd_auto.specs.declared.auto.LabelMove.{LabelMove}
use Rattle.xd_auto.specs.declared.auto.TextMove.{TextMove}
use Rattle.xd_given.specs.Chosen.{chosen, label_onto, text_onto}

with_first : {X Y : Type 0} (f : X → Y) (v : Bool) (y : X) (ws bs : List X) (cs : List Y) → map f ws ≡ map f bs ++ cs → map f (cond v (y ∷ ws) ws) ≡ map f (cond v (y ∷ bs) bs) ++ cs
with_first f true y ws bs cs e = ap (λ ys. f y ∷ ys) e
with_first f false y ws bs cs e = e

only_one : {X Y : Type 0} (f : X → Y) (v : Bool) (y : X) → map f (cond v (y ∷ []) []) ≡ cond v (f y ∷ []) []
only_one f true y = refl
only_one f false y = refl

chosen_suc : {X Y : Type 0} (f : X → Y) (p : ℕ → Bool) (xs : List X) (i : ℕ) (x : X) → i < length xs → x ≡ get_or xs i x
    → map f (chosen p (take (suc i) xs)) ≡ map f (chosen p (take i xs)) ++ cond (p i) (f x ∷ []) []
chosen_suc f p [] i x l e = absurd (omega arith)
chosen_suc f p (y ∷ xs) zero x l e = rw e (only_one f (p 0) y)
chosen_suc f p (y ∷ xs) (suc i) x l e =
    with_first f (p 0) y (chosen (λ n. p (suc n)) (take (suc i) xs)) (chosen (λ n. p (suc n)) (take i xs)) (cond (p (suc i)) (f x ∷ []) []) (chosen_suc f (λ n. p (suc n)) xs i x (omega arith) e)

-- one more element, chosen or not
pub chosen_more : {X Y : Type 0} (f : X → Y) (p : ℕ → Bool) (xs : List X) (i : ℕ) (x : X) → i < length xs → x ≡ get_or xs i x
    → map f (chosen p (take (i + 1) xs)) ≡ map f (chosen p (take i xs)) ++ cond (p i) (f x ∷ []) []
chosen_more f p xs i x l e = rw add-one (chosen_suc f p xs i x l e)

-- of the moves so far, one more was taken or passed over
pub one_taken : {X Y : Type 0} (f : X → Y) (p : ℕ → Bool) (xs : List X) (i : ℕ) (x : X) (made : List Y) (y : Y) → i < length xs → x ≡ get_or xs i x → p i ≡ true → y ≡ f x
    → made ≡ map f (chosen p (take i xs)) → made ++ y ∷ [] ≡ map f (chosen p (take (i + 1) xs))
one_taken f p xs i x made y l e picked is before =
    ap (λ ys. ys ++ y ∷ []) before ∙ ap (λ w. map f (chosen p (take i xs)) ++ w ∷ []) is ∙ sym (rw picked at (chosen_more f p xs i x l e))

pub one_passed : {X Y : Type 0} (f : X → Y) (p : ℕ → Bool) (xs : List X) (i : ℕ) (x : X) (made : List Y) → i < length xs → x ≡ get_or xs i x → p i ≡ false
    → made ≡ map f (chosen p (take i xs)) → made ≡ map f (chosen p (take (i + 1) xs))
one_passed f p xs i x made l e picked before = before ∙ sym (rw picked at (chosen_more f p xs i x l e) ∙ append_none (map f (chosen p (take i xs))))

-- what holds of each move's copy holds of the chosen ones
pub chosen_all : {X Y : Type 0} (P : Y → Type 0) (f : X → Y) (p : ℕ → Bool) (xs : List X) → All (λ x. P (f x)) xs → All P (map f (chosen p xs))
chosen_all P f p [] h = λ i d lt. absurd (omega arith)
chosen_all P f p (x ∷ xs) h = put (p 0) (chosen_all P f (λ n. p (suc n)) xs (All-tail (λ w. P (f w)) x xs h))
  where
    put : (v : Bool) → All P (map f (chosen (λ n. p (suc n)) xs)) → All P (map f (cond v (x ∷ chosen (λ n. p (suc n)) xs) (chosen (λ n. p (suc n)) xs)))
    put true later = All-cons P (f x) (map f (chosen (λ n. p (suc n)) xs)) (All-head (λ w. P (f w)) x xs h) later
    put false later = later

pub text_onto_is : (rests : State → State) (m : TextMove) (w : TextClass) (rest : State) → w ≡ m.words → rest ≡ rests m.rest → record { words = w; rest = rest } ≡ text_onto rests m
text_onto_is rests m w rest e f = rw (e, f) refl

pub label_onto_is : (contents rests : State → State) (m : LabelMove) (c : LabelClass) (content rest : State) → c ≡ m.class → content ≡ contents m.content → rest ≡ rests m.rest
    → record { class = c; content = content; rest = rest } ≡ label_onto contents rests m
label_onto_is contents rests m c content rest e f g = rw (e, f, g) refl

-- an element whose number passes one test, and which passes the other
pub record Choice {X : Type 0} (p : ℕ → Bool) (test : X → Bool) (xs : List X) : Type 0 where
  pub number : ℕ
  pub item : X
  pub there : slice_get xs number ≡ Some item
  pub picked : p number ≡ true
  pub passes : test item ≡ true

pub choice : {X Y : Type 0} (f : X → Y) (test : Y → Bool) (p : ℕ → Bool) (xs : List X) → list_any test (map f (chosen p xs)) ≡ true → Choice p (λ x. test (f x)) xs
choice f test p [] e = absurd (cc)
choice f test p (x ∷ xs) e = pick (p 0) (test (f x)) refl refl e (λ h. choice f test (λ n. p (suc n)) xs h)
  where
    later : Choice (λ n. p (suc n)) (λ w. test (f w)) xs → Choice p (λ w. test (f w)) (x ∷ xs)
    later c = record { number = suc c.number; item = c.item; there = c.there; picked = c.picked; passes = c.passes }

    pick : (v t : Bool) → p 0 ≡ v → test (f x) ≡ t → list_any test (map f (cond v (x ∷ chosen (λ n. p (suc n)) xs) (chosen (λ n. p (suc n)) xs))) ≡ true
        → (list_any test (map f (chosen (λ n. p (suc n)) xs)) ≡ true → Choice (λ n. p (suc n)) (λ w. test (f w)) xs) → Choice p (λ w. test (f w)) (x ∷ xs)
    pick true true is passes h ih = record { number = 0; item = x; there = refl; picked = is; passes = passes }
    pick true false is passes h ih = later (ih (rw passes at h))
    pick false t is passes h ih = later (ih h)

pub any_choice : {X Y : Type 0} (f : X → Y) (test : Y → Bool) (p : ℕ → Bool) (xs : List X) (n : ℕ) (x : X) → slice_get xs n ≡ Some x → p n ≡ true → test (f x) ≡ true
    → list_any test (map f (chosen p xs)) ≡ true
any_choice f test p [] n x there picked passes = absurd (cc)
any_choice f test p (y ∷ xs) zero x there picked passes = let same : y ≡ x = cc in rw (picked, same, passes) refl
any_choice f test p (y ∷ xs) (suc n) x there picked passes = put (p 0) (any_choice f test (λ k. p (suc k)) xs n x there picked passes)
  where
    or_true : (u v : Bool) → v ≡ true → (u || v) ≡ true
    or_true true v h = refl
    or_true false v h = h

    put : (v : Bool) → list_any test (map f (chosen (λ k. p (suc k)) xs)) ≡ true
        → list_any test (map f (cond v (y ∷ chosen (λ k. p (suc k)) xs) (chosen (λ k. p (suc k)) xs))) ≡ true
    put true h = or_true (test (f y)) _ h
    put false h = h
