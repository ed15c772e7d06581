-- Moves that stand for the moves of a pattern's state, and what those of each number take.
use Rattle.std.proofs.Common.{ℕ, zero, suc, ◌+◌, ◌<◌, ◌≤◌, ◌≡◌, Bool, true, false, not, nat_eq, ◌&&◌, ◌||◌, List, [], ◌∷◌, ◌++◌, map, length, take, get_or, Some, refl, sym, ap, ◌∙◌, arith}
use Rattle.std.specs.List.{All, AllByRecursion, AllZip, list_any, slice_get}
use Rattle.std.specs.Cmp.{both_ways}
use Rattle.std.proofs.lemmas.Bool.Decides.{nat_tests}
use Rattle.std.proofs.lemmas.List.{take_all}
use Rattle.xd_doc.proofs.SortedNames.{or_false}
use Rattle.xd_doc.proofs.Bools.{and_left, and_right, or_join, and_false, or_left, or_true, not_true}
use Rattle.xd_doc.proofs.Lists.{zip_both}
use Rattle.xd_auto.specs.declared.auto.State.{State}
use Rattle.xd_auto.specs.Automaton.{Automaton}
use Rattle.xd_boole.proofs.MatchLemmas.{passes_any}
use Rattle.xd_points.specs.declared.patterns.PatternStates.{PatternStates}
use Rattle.xd_boole.specs.Groups.{passes_at}
use Rattle.xd_boole.proofs.Bools.{and_over_right}
use Rattle.xd_points.specs.declared.points.Points.{Points}
use Rattle.xd_points.specs.FirstRuns.{place_before}
use Rattle.xd_points.specs.Points.{AddsMoves, IsStepOf, KeepsPoints, LeadsAs, LeadsTo, StandForMoves, any_for}
use Rattle.xd_points.proofs.GrowsLemmas.{all_lead}

-- ---- lists side by side

pub zip_map : {A B : Type 0} (R S : A → B → Type 0) (xs : List A) (ys : List B) → ((x : A) (y : B) → R x y → S x y) → AllZip R xs ys → AllZip S xs ys
zip_map R S [] [] f h = tt
zip_map R S [] (y ∷ ys) f h = absurd h
zip_map R S (x ∷ xs) [] f h = absurd h
zip_map R S (x ∷ xs) (y ∷ ys) f h = (f x y h.0, zip_map R S xs ys f h.1)

pub zip_all : {A B : Type 0} (R : A → B → Type 0) (P : A → Type 0) (xs : List A) (ys : List B) → ((x : A) (y : B) → R x y → P x) → AllZip R xs ys → All P xs
zip_all R P [] [] f h i d lt = absurd (omega arith)
zip_all R P [] (y ∷ ys) f h i d lt = absurd h
zip_all R P (x ∷ xs) [] f h i d lt = absurd h
zip_all R P (x ∷ xs) (y ∷ ys) f h zero d lt = f x y h.0
zip_all R P (x ∷ xs) (y ∷ ys) f h (suc i) d lt = zip_all R P xs ys f h.1 i d (omega arith)

-- ---- the moves of a number

pub for_agree : {A : Type 0} (R : A → ℕ → Type 0) (f g : A → Bool) (n : ℕ) (xs : List A) (ys : List ℕ) → AllZip R xs ys → ((x : A) (y : ℕ) → R x y → f x ≡ g x) → any_for f n xs ys ≡ any_for g n xs ys
for_agree R f g n [] [] h same = refl
for_agree R f g n [] (y ∷ ys) h same = absurd h
for_agree R f g n (x ∷ xs) [] h same = absurd h
for_agree R f g n (x ∷ xs) (y ∷ ys) h same =
    ap (λ w. (nat_eq y n && w) || any_for f n xs ys) (same x y h.0) ∙ ap (λ w. (nat_eq y n && g x) || w) (for_agree R f g n xs ys h.1 same)

for_append : {A : Type 0} (R : A → ℕ → Type 0) (p : A → Bool) (n : ℕ) (xs : List A) (ys : List ℕ) (zs : List A) (ws : List ℕ) → AllZip R xs ys → any_for p n (xs ++ zs) (ys ++ ws) ≡ (any_for p n xs ys || any_for p n zs ws)
for_append R p n [] [] zs ws h = refl
for_append R p n [] (y ∷ ys) zs ws h = absurd h
for_append R p n (x ∷ xs) [] zs ws h = absurd h
for_append R p n (x ∷ xs) (y ∷ ys) zs ws h =
    ap (λ w. (nat_eq y n && p x) || w) (for_append R p n xs ys zs ws h.1) ∙ sym (or_join (nat_eq y n && p x) (any_for p n xs ys) (any_for p n zs ws))

for_one : {A : Type 0} (p : A → Bool) (n i : ℕ) (xs : List A) → any_for p n xs (map (λ (x : A). i) xs) ≡ (nat_eq i n && list_any p xs)
for_one p n i [] = sym (and_false (nat_eq i n))
for_one p n i (x ∷ xs) = ap (λ w. (nat_eq i n && p x) || w) (for_one p n i xs) ∙ and_over_right (nat_eq i n) (p x) (list_any p xs)

-- ---- moves on elements and moves on texts alike

module _ {M Q : Type 0} {states : M → List State} {origins : List M} where
  -- moves stand for the same where they mean the same
  pub stand_other : {one other : Points → Q → M → Bool} {p : Points} {ms : List M} {ns : List ℕ} {f g : ℕ → Q → Bool} → ((w : Q) (origin m : M) → LeadsAs states origin p m → other p w m ≡ one p w m)
      → StandForMoves states one origins p ms ns f → ((n : ℕ) (w : Q) → f n w ≡ g n w) → StandForMoves states other origins p ms ns g
  stand_other {one} {other} {p} {ms} {ns} means h same = record {
    steps = h.steps;
    taken = λ n w. for_agree (IsStepOf states origins p) (other p w) (one p w) n ms ns h.steps (λ m k step. means w step.origin m step.leads) ∙ h.taken n w ∙ same n w;
  }

  pub stand_like : {by_move : Points → Q → M → Bool} {p : Points} {ms : List M} {ns : List ℕ} {f g : ℕ → Q → Bool} → StandForMoves states by_move origins p ms ns f → ((n : ℕ) (w : Q) → f n w ≡ g n w) → StandForMoves states by_move origins p ms ns g
  stand_like h same = record { steps = h.steps; taken = λ n w. h.taken n w ∙ same n w }

  -- the moves for one move
  pub stand_for : {by_move : Points → Q → M → Bool} {a : Automaton} {b : PatternStates} {p q : Points} {m : M} {after : List M} {takes : Q → Bool} (n : ℕ) → slice_get origins n ≡ Some m → AddsMoves (LeadsAs states m) by_move a b p q [] after takes
      → StandForMoves states by_move origins q after (map (λ (w : M). n) after) (λ k w. nat_eq n k && takes w)
  stand_for {by_move} {a} {b} {p} {q} {m} {after} {takes} n there adds = record {
    steps = each after adds.leads;
    taken = λ k w. for_one (by_move q w) k n after ∙ ap (λ v. nat_eq n k && v) (adds.taken w);
  }
    where
      each : (ws : List M) → AllByRecursion (LeadsAs states m q) ws → AllZip (IsStepOf states origins q) ws (map (λ (w : M). n) ws)
      each [] l = tt
      each (w ∷ ws) l = (record { origin = m; there = there; leads = l.0 }, each ws l.1)

  -- moves stand for what they did while points come
  module _ {by_move : Points → Q → M → Bool} (stays : (patterns : List State) (p q : Points) → KeepsPoints p q → (w : Q) (m : M) → AllZip (LeadsTo p) patterns (states m) → by_move q w m ≡ by_move p w m) where
    pub stand_more : {p q : Points} {ms : List M} {ns : List ℕ} {takes : ℕ → Q → Bool} → KeepsPoints p q → StandForMoves states by_move origins p ms ns takes → StandForMoves states by_move origins q ms ns takes
    stand_more {p} {q} {ms} {ns} {takes} stay h = record {
      steps = zip_map (IsStepOf states origins p) (IsStepOf states origins q) ms ns (λ m n step. record { origin = step.origin; there = step.there; leads = all_lead p q stay (states step.origin) (states m) step.leads }) h.steps;
      taken = λ n w. for_agree (IsStepOf states origins p) (by_move q w) (by_move p w) n ms ns h.steps (λ m k step. stays (states step.origin) p q stay w m step.leads) ∙ h.taken n w;
    }

    pub stand_then : {p q : Points} {x y : List M} {k j : List ℕ} {f g h : ℕ → Q → Bool} → KeepsPoints p q → StandForMoves states by_move origins p x k f → StandForMoves states by_move origins q y j g
        → ((n : ℕ) (w : Q) → (f n w || g n w) ≡ h n w) → StandForMoves states by_move origins q (x ++ y) (k ++ j) h
    stand_then {p} {q} {x} {y} {k} {j} {f} {g} {h} stay one two same =
        let first : StandForMoves states by_move origins q x k f = stand_more stay one in
        record {
          steps = zip_both (IsStepOf states origins q) x k y j first.steps two.steps;
          taken = λ n w.
              for_append (IsStepOf states origins q) (by_move q w) n x k y j first.steps
              ∙ ap (λ v. v || any_for (by_move q w) n y j) (first.taken n w) ∙ ap (λ v. f n w || v) (two.taken n w) ∙ same n w;
        }

-- ---- one more move of the pattern's state

joined : (l p e t x : Bool) → ((l && (p && x)) || (e && (l && (t && x)))) ≡ (l && ((p || (e && t)) && x))
joined false p e t x = and_false e
joined true true e t true = refl
joined true true true true false = refl
joined true true true false false = refl
joined true true false t false = refl
joined true false true t x = refl
joined true false false t x = refl

zero_suc : (n : ℕ) → nat_eq zero (suc n) ≡ false
zero_suc n = go (nat_eq zero (suc n)) refl
  where
    go : (b : Bool) → nat_eq zero (suc n) ≡ b → b ≡ false
    go true e = absurd (grind (arith, nat_tests))
    go false e = refl

suc_zero : (n : ℕ) → nat_eq (suc n) zero ≡ false
suc_zero n = go (nat_eq (suc n) zero) refl
  where
    go : (b : Bool) → nat_eq (suc n) zero ≡ b → b ≡ false
    go true e = absurd (grind (arith, nat_tests))
    go false e = refl

suc_suc : (i n : ℕ) → nat_eq (suc i) (suc n) ≡ nat_eq i n
suc_suc i n = both_ways (nat_eq (suc i) (suc n)) (nat_eq i n) (λ e. grind (arith, nat_tests)) (λ e. grind (arith, nat_tests))

passes_more : {X : Type 0} (t : X → Bool) (xs : List X) (i n : ℕ) (x : X) → i < length xs → x ≡ get_or xs i x → passes_at t (take (suc i) xs) n ≡ (passes_at t (take i xs) n || (nat_eq i n && t x))
passes_more t [] i n x lt at = absurd (omega arith)
passes_more t (y ∷ xs) zero zero x lt at = ap t (sym at)
passes_more t (y ∷ xs) zero (suc n) x lt at = sym (ap (λ w. w && t x) (zero_suc n))
passes_more t (y ∷ xs) (suc i) zero x lt at = sym (or_false (t y)) ∙ ap (λ w. t y || (w && t x)) (sym (suc_zero i))
passes_more t (y ∷ xs) (suc i) (suc n) x lt at = passes_more t xs i n x (omega arith) at ∙ ap (λ w. passes_at t (take i xs) n || (w && t x)) (sym (suc_suc i n))

pub one_more : {X : Type 0} (t : X → Bool) (xs : List X) (i n : ℕ) (x : X) (l r : Bool) (before : ℕ → Bool) → i < length xs → x ≡ get_or xs i x
    → ((l && (passes_at t (take i xs) n && not (r || before n))) || (nat_eq i n && (l && (t x && not (r || before i))))) ≡ (l && (passes_at t (take (i + 1) xs) n && not (r || before n)))
one_more t xs i n x l r before lt at =
    ap (λ w. (l && (passes_at t (take i xs) n && not (r || before n))) || w) (go (nat_eq i n) refl)
    ∙ joined l (passes_at t (take i xs) n) (nat_eq i n) (t x) (not (r || before n))
    ∙ ap (λ w. l && (w && not (r || before n))) (sym (passes_more t xs i n x lt at))
    ∙ ap (λ k. l && (passes_at t (take k xs) n && not (r || before n))) (let e : suc i ≡ i + 1 = omega arith in e)
  where
    go : (b : Bool) → nat_eq i n ≡ b → (b && (l && (t x && not (r || before i)))) ≡ (b && (l && (t x && not (r || before n))))
    go false e = refl
    go true e = let same : i ≡ n = grind (arith, nat_tests) in ap (λ k. l && (t x && not (r || before k))) same

-- ---- what the moves of all numbers take

-- the first that passes
record First {X : Type 0} (t : X → Bool) (xs : List X) : Type 0 where
  number : ℕ
  passes : passes_at t xs number ≡ true
  none : list_any t (take number xs) ≡ false

first_of : {X : Type 0} (t : X → Bool) (xs : List X) → list_any t xs ≡ true → First t xs
first_of t [] e = absurd (cc)
first_of t (x ∷ xs) e = go (t x) refl e (λ h. first_of t xs h)
  where
    go : (b : Bool) → t x ≡ b → (b || list_any t xs) ≡ true → (list_any t xs ≡ true → First t xs) → First t (x ∷ xs)
    go true is h more = record { number = zero; passes = is; none = refl }
    go false is h more = let f = more h in record { number = suc f.number; passes = f.passes; none = ap (λ w. w || list_any t (take f.number xs)) is ∙ f.none }

-- a move of some number passes, where any does
record Numbered {A : Type 0} (p : A → Bool) (xs : List A) (ys : List ℕ) : Type 0 where
  number : ℕ
  passes : any_for p number xs ys ≡ true

numbered : {A : Type 0} (R : A → ℕ → Type 0) (p : A → Bool) (xs : List A) (ys : List ℕ) → AllZip R xs ys → list_any p xs ≡ true → Numbered p xs ys
numbered R p [] ys h e = absurd (cc)
numbered R p (x ∷ xs) [] h e = absurd h
numbered R p (x ∷ xs) (y ∷ ys) h e = go (p x) refl e (λ k. numbered R p xs ys h.1 k)
  where
    itself : nat_eq y y ≡ true
    itself = grind (arith, nat_tests)

    go : (b : Bool) → p x ≡ b → (b || list_any p xs) ≡ true → (list_any p xs ≡ true → Numbered p xs ys) → Numbered p (x ∷ xs) (y ∷ ys)
    go true is k more = record { number = y; passes = ap (λ w. (w && p x) || any_for p y xs ys) itself ∙ ap (λ w. w || any_for p y xs ys) is }
    go false is k more = let n = more k in record { number = n.number; passes = ap (λ w. (nat_eq y n.number && p x) || w) n.passes ∙ or_true (nat_eq y n.number && p x) }

for_some : {A : Type 0} (p : A → Bool) (n : ℕ) (xs : List A) (ys : List ℕ) → any_for p n xs ys ≡ true → list_any p xs ≡ true
for_some p n [] ys e = absurd (cc)
for_some p n (x ∷ xs) [] e = absurd (cc)
for_some p n (x ∷ xs) (y ∷ ys) e = go (nat_eq y n && p x) refl e (λ h. for_some p n xs ys h)
  where
    go : (b : Bool) → (nat_eq y n && p x) ≡ b → (b || any_for p n xs ys) ≡ true → (any_for p n xs ys ≡ true → list_any p xs ≡ true) → (p x || list_any p xs) ≡ true
    go true is k more = ap (λ w. w || list_any p xs) (and_right (nat_eq y n) (p x) is)
    go false is k more = ap (λ w. p x || w) (more k) ∙ or_true (p x)

-- what a point's moves together take is what it means
pub together : {A X : Type 0} (R : A → ℕ → Type 0) (f : A → Bool) (ms : List A) (ns : List ℕ) (t : X → Bool) (xs : List X) (first l r : Bool) → AllZip R ms ns
    → ((n : ℕ) → any_for f n ms ns ≡ (l && (passes_at t xs n && not (r || list_any t (take (place_before first n) xs))))) → list_any f ms ≡ (l && (list_any t xs && not r))
together R f ms ns t xs first l r zip each =
    both_ways (list_any f ms) (l && (list_any t xs && not r))
    (λ e.
    let n = numbered R f ms ns zip e in
    let before = list_any t (take (place_before first n.number) xs) in
    let yes : (l && (passes_at t xs n.number && not (r || before))) ≡ true = sym (each n.number) ∙ n.passes in
    let more : (passes_at t xs n.number && not (r || before)) ≡ true = and_right l (passes_at t xs n.number && not (r || before)) yes in
    let right : r ≡ false = or_left r before (not_true (r || before) (and_right (passes_at t xs n.number) (not (r || before)) more)) in
    ap (λ w. w && (list_any t xs && not r)) (and_left l (passes_at t xs n.number && not (r || before)) yes)
    ∙ ap (λ w. w && not r) (passes_any t xs n.number (and_left (passes_at t xs n.number) (not (r || before)) more))
    ∙ ap not right)
    (λ e.
    let more : (list_any t xs && not r) ≡ true = and_right l (list_any t xs && not r) e in
    let f1 = first_of t xs (and_left (list_any t xs) (not r) more) in
    let right : r ≡ false = not_true r (and_right (list_any t xs) (not r) more) in
    for_some f f1.number ms ns
    (each f1.number
    ∙ ap (λ w. w && (passes_at t xs f1.number && not (r || list_any t (take (place_before first f1.number) xs)))) (and_left l (list_any t xs && not r) e)
    ∙ ap (λ w. w && not (r || list_any t (take (place_before first f1.number) xs))) f1.passes
    ∙ ap (λ w. not (w || list_any t (take (place_before first f1.number) xs))) right
    ∙ ap not (none first f1.number f1.none)))
  where
    none : (b : Bool) (n : ℕ) → list_any t (take n xs) ≡ false → list_any t (take (place_before b n) xs) ≡ false
    none true n e = e
    none false n e = refl

pub passes_walked : {X : Type 0} (t : X → Bool) (xs : List X) (i n : ℕ) → length xs ≤ i → passes_at t (take i xs) n ≡ passes_at t xs n
passes_walked {X} t xs i n le = ap (λ (ys : List X). passes_at t ys n) (take_all i xs le)
