-- Each step leaves fewer.
use Rattle.std.proofs.Common.{◌≡◌, ℕ, zero, suc, ◌+◌, ◌≤◌, ◌⊎◌, arith, List, [], ◌∷◌, length, Option, Some, None, refl, ap, sym, ◌∙◌, inl, inr}
use Rattle.xd_doc.specs.Document.{empty}
use Rattle.xd_syntax.specs.Tree.{Tree, Empty, Text, Words, Name, Elem, Seq, Alt, Star, Plus, Opt, Val, Definitions, body}
use Rattle.xd_syntax.specs.Fits.{Fits}
use Rattle.xd_syntax.specs.Fits as F
use Rattle.xd_laws.specs.Guarded.{Front, Guarded, Defined}
use Rattle.xd_laws.specs.Guarded as R
use Rattle.xd_laws.proofs.Unfoldings.{Trail, trail_short}
use Rattle.xd_pattern_runs.specs.Runs.{Continuation}
use Rattle.xd_pattern_runs.specs.Steps.{marked, part_steps, body_steps}
use Rattle.xd_patterns.specs.Work.{Cost, times, cost_by, cost_of_definition, cost_of_name, cost, steps_of, work_left}

-- what is come to after a part that can't be empty is not looked at

times_some : (a b n : ℕ) → times a b ≡ suc n → ((k : ℕ) × (a ≡ suc k)) × ((k : ℕ) × (b ≡ suc k))
times_some zero b n e = cc
times_some (suc a) zero n e = let h : times a 0 ≡ 0 + times a 0 = omega arith in let r = times_some a zero n (h ∙ e) in ((a, refl), r.1)
times_some (suc a) (suc b) n e = ((a, refl), (b, refl))

plus_some : (a b n : ℕ) → a + b ≡ suc n → ((k : ℕ) × (a ≡ suc k)) ⊎ ((k : ℕ) × (b ≡ suc k))
plus_some zero b n e = inr (n, (let h : b ≡ 0 + b = omega arith in h ∙ e))
plus_some (suc a) b n e = inl (a, refl)

abbrev Right : Definitions → (List ℕ → Cost) → Type 0
Right E N = (y : List ℕ) (n : ℕ) → (N y).stops ≡ suc n → Fits E (Name y) empty

stops_fit : (E : Definitions) (N : List ℕ → Cost) → Right E N → (T : Tree) (n : ℕ) → (cost_by N T).stops ≡ suc n → Fits E T empty
stops_fit E N r Empty n e = F.fits_empty
stops_fit E N r Text n e = cc
stops_fit E N r (Words w) n e = cc
stops_fit E N r (Name y) n e = r y n e
stops_fit E N r (Elem c T) n e = cc
stops_fit E N r (Seq T U) n e =
    let q = times_some (cost_by N T).stops (cost_by N U).stops n e in F.fits_seq empty empty refl (stops_fit E N r T (q.0).0 (q.0).1) (stops_fit E N r U (q.1).0 (q.1).1)
stops_fit E N r (Alt T U) n e =
    elim (plus_some (cost_by N T).stops (cost_by N U).stops n e) [ inl h ↦ F.fits_left (stops_fit E N r T h.0 h.1) | inr h ↦ F.fits_right (stops_fit E N r U h.0 h.1) ]
stops_fit E N r (Star T) n e = F.fits_no_turn
stops_fit E N r (Plus T) n e = F.fits_plus empty empty refl (stops_fit E N r T n e) F.fits_no_turn
stops_fit E N r (Opt T) n e = F.fits_absent
stops_fit E N r (Val y T) n e = F.fits_val (stops_fit E N r T n e)

named_fits : (E : Definitions) (n : ℕ) (y : List ℕ) (k : ℕ) → (cost_of_name E n y).stops ≡ suc k → Fits E (Name y) empty
named_fits E zero y k e = cc
named_fits E (suc n) y k e = go (body E y) refl e (λ z j i. named_fits E n z j i)
  where
    go : (o : Option Tree) → body E y ≡ o → (cost_of_definition (cost_by (cost_of_name E n)) o).stops ≡ suc k → Right E (cost_of_name E n) → Fits E (Name y) empty
    go None h e r = cc
    go (Some T) h e r = F.fits_name h (stops_fit E (cost_of_name E n) r T k e)

abbrev row_cost : Cost → Cost → Cost
row_cost a b = record { steps = a.steps + times a.stops b.steps + 1; stops = times a.stops b.stops }

same_row_cost : (a b c : Cost) (s : ℕ) → a.stops ≡ s → ((n : ℕ) → s ≡ suc n → b ≡ c) → row_cost a b ≡ row_cost a c
same_row_cost a b c zero e h = rw e refl
same_row_cost a b c (suc n) e h = ap (row_cost a) (h n refl)

reads : (E : Definitions) (N M : List ℕ → Cost) → Right E M → (T : Tree) → ((y : List ℕ) → Front E T y → N y ≡ M y) → cost_by N T ≡ cost_by M T
reads E N M r Empty h = refl
reads E N M r Text h = refl
reads E N M r (Words w) h = refl
reads E N M r (Name y) h = ap (λ (c : Cost). let d : Cost = record { steps = c.steps + 1; stops = c.stops } in d) (h y R.here)
reads E N M r (Elem c T) h = refl
reads E N M r (Seq T U) h =
    ap (λ a. row_cost a (cost_by N U)) (reads E N M r T (λ y k. h y (R.seq_first k)))
    ∙ same_row_cost (cost_by M T) (cost_by N U) (cost_by M U) (cost_by M T).stops refl (λ n e. reads E N M r U (λ y k. h y (R.seq_next (stops_fit E M r T n e) k)))
reads E N M r (Alt T U) h =
    let i = reads E N M r T (λ y k. h y (R.alt_left k)) in
    let j = reads E N M r U (λ y k. h y (R.alt_right k)) in rw (i, j)
reads E N M r (Star T) h = let i = reads E N M r T (λ y k. h y (R.star k)) in rw i refl
reads E N M r (Plus T) h = let i = reads E N M r T (λ y k. h y (R.plus k)) in rw i refl
reads E N M r (Opt T) h = let i = reads E N M r T (λ y k. h y (R.opt k)) in rw i refl
reads E N M r (Val x T) h = let i = reads E N M r T (λ y k. h y (R.val k)) in rw i refl

module _ (E : Definitions) (guarded : Guarded E) where
  none_at : (n : ℕ) (y : List ℕ) → body E y ≡ None → cost_of_name E n y ≡ record { steps = 0; stops = 0 }
  none_at zero y e = refl
  none_at (suc n) y e = ap (cost_of_definition (cost_by (cost_of_name E n))) e

  some_at : (n : ℕ) (y : List ℕ) (T : Tree) → body E y ≡ Some T → cost_of_name E (suc n) y ≡ cost_by (cost_of_name E n) T
  some_at n y T e = ap (cost_of_definition (cost_by (cost_of_name E n))) e

  same_at : (n m : ℕ) → n ≤ m → (V : List (List ℕ)) (y : List ℕ) → (Defined E y → Trail E (y ∷ V)) → length E ≤ n + length V →
      (o : Option Tree) → body E y ≡ o → cost_of_name E n y ≡ cost_of_name E m y
  same_at n m h V y t r None e = none_at n y e ∙ sym (none_at m y e)
  same_at zero m h V y t r (Some T) e = let k = trail_short E guarded (y ∷ V) (t (T, e)) in absurd (omega arith)
  same_at (suc n) zero h V y t r (Some T) e = absurd (omega arith)
  same_at (suc n) (suc m) h V y t r (Some T) e =
      some_at n y T e
      ∙ reads E (cost_of_name E n) (cost_of_name E m) (λ z j i. named_fits E m z j i) T
      (λ z f. same_at n m (omega arith) (y ∷ V) z (λ def. (def, (T, e, f), t (T, e))) (omega arith) (body E z) refl)
      ∙ sym (some_at m y T e)

  named : (y : List ℕ) (T : Tree) → body E y ≡ Some T → cost_of_name E (length E) y ≡ cost_by (cost_of_name E (length E)) T
  named y T e = same_at (length E) (suc (length E)) (omega arith) [] y (λ def. def) (omega arith) (body E y) refl ∙ some_at (length E) y T e

-- sums

times_plus : (a b n : ℕ) → times (a + b) n ≡ times a n + times b n
times_plus zero b n = let e : 0 + b ≡ b = omega arith in ap (λ k. times k n) e ∙ (omega arith)
times_plus (suc a) b n = let i = times_plus a b n in let e : suc a + b ≡ suc (a + b) = omega arith in ap (λ k. times k n) e ∙ omega arith

times_sum : (a m n : ℕ) → times a (m + n) ≡ times a m + times a n
times_sum zero m n = omega arith
times_sum (suc a) m n = let i = times_sum a m n in omega arith

times_times : (a b n : ℕ) → times (times a b) n ≡ times a (times b n)
times_times zero b n = refl
times_times (suc a) b n = times_plus b (times a b) n ∙ ap (λ k. times b n + k) (times_times a b n)

times_one : (a : ℕ) → times a 1 ≡ a
times_one zero = refl
times_one (suc a) = let i = times_one a in omega arith

-- the steps of a list are more than those that a step leaves
pub step_less : (E : Definitions) → Guarded E → (xs : List (List ℕ)) (T : Tree) (K : Continuation) (u : Option Continuation) → work_left E (part_steps E xs T K u) + 1 ≤ steps_of E (marked xs T ∷ K)
unfolding cost
step_less E guarded xs Empty K u = let e = times_one (steps_of E K) in omega arith
step_less E guarded xs Text K u = omega arith
step_less E guarded xs (Words w) K u = omega arith
step_less E guarded xs (Elem c T) K u = omega arith
step_less E guarded xs (Name y) K u = go (body E y) refl
  where
    go : (o : Option Tree) → body E y ≡ o → work_left E (body_steps xs o K u) + 1 ≤ steps_of E (marked xs (Name y) ∷ K)
    go None e = omega arith
    go (Some T) e =
        let c : Cost = cost_by (cost_of_name E (length E)) T in
        let s : (cost_of_name E (length E) y).steps ≡ c.steps = ap (λ (d : Cost). d.steps) (named E guarded y T e) in
        let k : times (cost_of_name E (length E) y).stops (steps_of E K) ≡ times c.stops (steps_of E K) = ap (λ (d : Cost). times d.stops (steps_of E K)) (named E guarded y T e) in
        omega arith
step_less E guarded xs (Seq T U) K u =
    let a = (cost_by (cost_of_name E (length E)) T).stops in
    let b : Cost = cost_by (cost_of_name E (length E)) U in
    let d = times_sum a b.steps (times b.stops (steps_of E K)) in
    let e = times_times a b.stops (steps_of E K) in omega arith
step_less E guarded xs (Alt T U) K u =
    let e = times_plus (cost_by (cost_of_name E (length E)) T).stops (cost_by (cost_of_name E (length E)) U).stops (steps_of E K) in omega arith
step_less E guarded xs (Star T) K u = let e = times_one (cost_by (cost_of_name E (length E)) T).stops in omega arith
step_less E guarded xs (Plus T) K u =
    let a : Cost = cost_by (cost_of_name E (length E)) T in
    let d = times_sum a.stops (a.steps + a.stops + 1) (steps_of E K) in
    let e : (steps_of E K + 0) ≡ steps_of E K = omega arith in
    let f : times a.stops ((a.steps + a.stops + 1) + (steps_of E K + 0)) ≡ times a.stops ((a.steps + a.stops + 1) + steps_of E K) = ap (λ k. times a.stops ((a.steps + a.stops + 1) + k)) e in
    omega arith
step_less E guarded xs (Opt T) K u =
    let e = times_plus (cost_by (cost_of_name E (length E)) T).stops 1 (steps_of E K) in omega arith
step_less E guarded xs (Val y T) K u = omega arith

-- each part takes a step
pub some_cost : (E : Definitions) (T : Tree) → 1 ≤ (cost E T).steps
unfolding cost
some_cost E T = go (cost_of_name E (length E)) T
  where
    go : (N : List ℕ → Cost) (T : Tree) → 1 ≤ (cost_by N T).steps
    go N Empty = omega arith
    go N Text = omega arith
    go N (Words w) = omega arith
    go N (Name y) = omega arith
    go N (Elem c T) = omega arith
    go N (Seq T U) = omega arith
    go N (Alt T U) = omega arith
    go N (Star T) = omega arith
    go N (Plus T) = omega arith
    go N (Opt T) = omega arith
    go N (Val y T) = omega arith
