-- Each step of work lowers the potential, and a table has as many goals at most as there are
-- possible claims.
use Rattle.std.proofs.Common.{ℕ, zero, suc, ◌+◌, ◌-◌, ◌<◌, ◌≤◌, ◌≡◌, ◌⊎◌, List, [], ◌∷◌, length, map, set, get_or-set_same, get_or-set_other, length-set, Some, inl, inr, ⊎_elim, refl, sym, ap, ◌∙◌, subst, arith}
use Rattle.std.specs.List.{slice_get}
use Rattle.std.proofs.lemmas.Bool.{cases_lt, cases_eq}
use Rattle.std.proofs.lemmas.Option.{slice_get-get_or, slice_get_past, slice_get_within}
use Rattle.xd_doc.specs.declared.store.Seq.{Seq}
use Rattle.xd_auto.specs.declared.auto.State.{State}
use Rattle.xd_doc.specs.Members.{IsOneOf}
use Rattle.xd_rules.specs.Rules.{Claim}
use Rattle.xd_rules.proofs.Members.{one_of-append_left, one_of-append_right, one_of-map, one_of-to_flat_map, get-one_of}
use Rattle.xd_state_heads.specs.Moves.{AreBelow, IsInOrder, RiseFrom, claim_with}
use Rattle.xd_goals.specs.Rows.{GoalRow, TableView, no_row, row_at, claim_of, RowsBelow}
use Rattle.xd_goals.specs.Kept.{Grows, GrowsBy, IsSameButMarks, IsWokenRow, Refutes}
use Rattle.xd_goals.specs.Standing.{KeepsGoals}
use Rattle.xd_goals.specs.Measure.{AreMadeFrom, Lowers, possible, potential, rising, standing_weight, states_below, total, weight}
use Rattle.xd_goals.specs.declared.table.Link.{Link}
use Rattle.xd_goals.specs.declared.table.Standing.{Standing}
use Rattle.xd_goals.specs.declared.table.Standing.TheVariants.{Holds, Refuted, Waiting}

-- sums
total-le : (f g : ℕ → ℕ) → ((i : ℕ) → f i ≤ g i) → (n : ℕ) → total f n ≤ total g n
total-le f g h zero = omega arith
total-le f g h (suc n) = omega (arith, total-le f g h n, h n)

total-less : (f g : ℕ → ℕ) → ((i : ℕ) → f i ≤ g i) → (k n : ℕ) → k < n → f k < g k → total f n < total g n
total-less f g h k zero lt l = absurd (omega arith)
total-less f g h k (suc n) lt l = ⊎_elim
    (λ e. let here : f n < g n = subst (λ (m : ℕ). f m < g m) e l in omega (arith, total-le f g h n))
    (λ ne. omega (arith, total-less f g h k n (omega arith) l, h n))
    (cases_eq k n)

-- where each may rise by one, and one falls
total-rises : (f g : ℕ → ℕ) → ((i : ℕ) → f i ≤ g i + 1) → (n : ℕ) → total f n ≤ total g n + n
total-rises f g h zero = omega arith
total-rises f g h (suc n) = omega (arith, total-rises f g h n, h n)

total-falls : (f g : ℕ → ℕ) → ((i : ℕ) → f i ≤ g i + 1) → (k n : ℕ) → k < n → total f n + g k ≤ total g n + f k + n
total-falls f g h k zero lt = absurd (omega arith)
total-falls f g h k (suc n) lt = ⊎_elim
    (λ e. let here : g k ≡ g n = ap g e in let there : f k ≡ f n = ap f e in omega (arith, total-rises f g h n))
    (λ ne. omega (arith, total-falls f g h k n (omega arith), h n))
    (cases_eq k n)

-- weights
weight_at : (n : ℕ) (rows : List GoalRow) (i : ℕ) → i < length rows → weight n (slice_get rows i) ≡ standing_weight n (row_at rows i).standing
weight_at n rows i lt = ap (weight n) (slice_get-get_or rows i no_row lt)

weight_past : (n : ℕ) (rows : List GoalRow) (i : ℕ) → length rows ≤ i → weight n (slice_get rows i) ≡ n + 2
weight_past n rows i le = ap (weight n) (slice_get_past rows i le)

most : (n : ℕ) (s : Standing) → standing_weight n s ≤ n + 2
most n Holds = omega arith
most n (Refuted s) = omega arith
most n Waiting = omega arith

grown_weight : {A : List State → Type 0} (n : ℕ) (s t : TableView) → GrowsBy A s t → (i : ℕ) → weight n (slice_get t.rows i) ≤ weight n (slice_get s.rows i)
grown_weight n s t g i = ⊎_elim
    (λ lt. let a = weight_at n s.rows i lt in let b = weight_at n t.rows i (omega (arith, g.longer)) in let c = ap (standing_weight n) (g.kept i lt).standing in omega arith)
    (λ ge. let a = weight_past n s.rows i ge in ⊎_elim
    (λ lt. let b = weight_at n t.rows i lt in let m = most n (row_at t.rows i).standing in omega arith)
    (λ past. let b = weight_past n t.rows i past in omega arith)
    (cases_lt i (length t.rows)))
    (cases_lt i (length s.rows))

pub potential-grows : {A : List State → Type 0} (s t : TableView) → GrowsBy A s t → (n : ℕ) → potential n t.rows ≤ potential n s.rows
potential-grows s t g n = total-le (λ i. weight n (slice_get t.rows i)) (λ i. weight n (slice_get s.rows i)) (λ i. grown_weight n s t g i) n

-- where at most marks have changed
pub potential-marked : (old new : List GoalRow) → IsSameButMarks old new → (n : ℕ) → potential n new ≤ potential n old
potential-marked old new m n = total-le (λ i. weight n (slice_get new i)) (λ i. weight n (slice_get old i)) each n
  where
    each : (i : ℕ) → weight n (slice_get new i) ≤ weight n (slice_get old i)
    each i = ⊎_elim
        (λ lt. let a = weight_at n old i lt in let b = weight_at n new i (let c = m.count in omega arith) in let q = ap (λ (r : GoalRow). standing_weight n r.standing) (m.same i) in omega arith)
        (λ past. let a = weight_past n old i past in let b = weight_past n new i (let c = m.count in omega arith) in omega arith)
        (cases_lt i (length old))

-- the row of a goal is changed
module _ (rows : List GoalRow) (goal : ℕ) (row : GoalRow) (lt : goal < length rows) (n : ℕ) where
  changed_here : weight n (slice_get (set rows goal row) goal) ≡ standing_weight n row.standing
  changed_here = weight_at n (set rows goal row) goal (let count = length-set rows goal row in omega arith) ∙ ap (λ (r : GoalRow). standing_weight n r.standing) (get_or-set_same rows goal row no_row lt)

  changed_weight : standing_weight n row.standing ≤ standing_weight n (row_at rows goal).standing → (i : ℕ) → weight n (slice_get (set rows goal row) i) ≤ weight n (slice_get rows i)
  changed_weight le i = ⊎_elim
      (λ e. subst (λ (k : ℕ). weight n (slice_get (set rows goal row) k) ≤ weight n (slice_get rows k)) (sym e)
      (let was = weight_at n rows goal lt in let here = changed_here in omega arith))
      (λ ne. ⊎_elim
      (λ l. let a = weight_at n rows i l in
      let b = weight_at n (set rows goal row) i (let count = length-set rows goal row in omega arith) in
      let c = ap (λ (r : GoalRow). standing_weight n r.standing) (get_or-set_other rows goal i row no_row ne) in omega arith)
      (λ past. let a = weight_past n rows i past in let b = weight_past n (set rows goal row) i (let count = length-set rows goal row in omega arith) in omega arith)
      (cases_lt i (length rows)))
      (cases_eq i goal)

  -- its standing stays
  pub level-changed : row.standing ≡ (row_at rows goal).standing → potential n (set rows goal row) ≤ potential n rows
  level-changed e = total-le (λ i. weight n (slice_get (set rows goal row) i)) (λ i. weight n (slice_get rows i)) (changed_weight (let w = ap (standing_weight n) e in omega arith)) n

-- a goal that waited comes to hold
pub lowers-held : (rows : List GoalRow) (goal : ℕ) (row : GoalRow) → row.standing ≡ Holds → goal < length rows → (row_at rows goal).standing ≡ Waiting → Lowers rows (set rows goal row)
lowers-held rows goal row holds lt waits n le =
    total-less (λ i. weight n (slice_get (set rows goal row) i)) (λ i. weight n (slice_get rows i)) (changed_weight rows goal row lt n (omega (arith, is, was))) goal n
    (let count = length-set rows goal row in omega arith)
    (let here = changed_here rows goal row lt n in let old = weight_at n rows goal lt in omega (arith, is, was))
  where
    is : standing_weight n row.standing ≡ n
    is = ap (standing_weight n) holds

    was : standing_weight n (row_at rows goal).standing ≡ n + 1
    was = ap (standing_weight n) waits

-- one is refuted
pub lowers-refuted : (links : List Link) (goal : ℕ) (seq : Seq) (old new : List GoalRow) → goal < length old → (row_at old goal).standing ≡ Waiting → Refutes links goal seq old new → Lowers old new
lowers-refuted links goal seq old new lt waits r n le =
    let a = total-falls (λ i. weight n (slice_get new i)) (λ i. weight n (slice_get old i)) each goal n (omega (arith, r.count)) in
    omega (arith, here, was)
  where
    here : weight n (slice_get new goal) ≡ 0
    here = weight_at n new goal (omega (arith, r.count)) ∙ ap (standing_weight n) r.goal_is

    was : weight n (slice_get old goal) ≡ n + 1
    was = weight_at n old goal lt ∙ ap (standing_weight n) waits

    woken : (x y : GoalRow) → IsWokenRow x y → standing_weight n y.standing ≤ standing_weight n x.standing + 1
    woken x y w = ⊎_elim (λ e. let q = ap (standing_weight n) e in omega arith) (λ p. let q = ap (standing_weight n) p.0 in let s = ap (standing_weight n) p.1 in omega arith) w

    each : (i : ℕ) → weight n (slice_get new i) ≤ weight n (slice_get old i) + 1
    each i = ⊎_elim
        (λ e. subst (λ (k : ℕ). weight n (slice_get new k) ≤ weight n (slice_get old k) + 1) (sym e) (omega (arith, here)))
        (λ ne. ⊎_elim
        (λ l. let a = weight_at n old i l in let b = weight_at n new i (omega (arith, r.count)) in let c = woken (row_at old i) (row_at new i) (r.others i ne) in omega arith)
        (λ past. let a = weight_past n old i past in let b = weight_past n new i (omega (arith, r.count)) in omega arith)
        (cases_lt i (length old)))
        (cases_eq i goal)

pub lowers-grown : {A : List State → Type 0} (s t : TableView) (rows : List GoalRow) → GrowsBy A s t → Lowers t.rows rows → Lowers s.rows rows
lowers-grown s t rows g l n le = omega (arith, potential-grows s t g n, l n le)

pub lowers-then : (a b c : List GoalRow) → length b ≤ length c → Lowers a b → Lowers b c → Lowers a c
lowers-then a b c le h k n l = omega (arith, h n (omega arith), k n l)

-- lists of states in order are among those that rise
pub one_of-rising : (n from : ℕ) (ss : List State) → RiseFrom from ss → AreBelow (from + n) ss → IsOneOf ss (rising n from)
one_of-rising zero from [] r b = inl refl
one_of-rising zero from (s ∷ ss) r b = absurd (let x = r.0 in let y = b.0 in omega arith)
one_of-rising (suc n) from [] r b =
    one_of-append_left [] (rising n (suc from)) (map (λ (ss : List State). record { number = from } ∷ ss) (rising n (suc from))) (one_of-rising n (suc from) [] tt tt)
one_of-rising (suc n) from (s ∷ ss) r b = ⊎_elim
    (λ e.
    let same : record { number = from } ≡ s = ap (λ (k : ℕ). record { number = k }) (sym e) in
    let next : suc s.number ≡ suc from = omega arith in
    let rest = one_of-rising n (suc from) ss (subst (λ (k : ℕ). RiseFrom k ss) next r.1) (shifted ss b.1) in
    subst (λ (x : State). IsOneOf (x ∷ ss) (rising (suc n) from)) same
    (one_of-append_right (record { number = from } ∷ ss) (rising n (suc from)) (map (λ (ys : List State). record { number = from } ∷ ys) (rising n (suc from)))
    (one_of-map (λ (ys : List State). record { number = from } ∷ ys) ss (rising n (suc from)) rest)))
    (λ ne.
    one_of-append_left (s ∷ ss) (rising n (suc from)) (map (λ (ys : List State). record { number = from } ∷ ys) (rising n (suc from)))
    (one_of-rising n (suc from) (s ∷ ss) ((let x = r.0 in omega arith), r.1) (shifted (s ∷ ss) b)))
    (cases_eq s.number from)
  where
    shifted : (ys : List State) → AreBelow (from + suc n) ys → AreBelow (suc from + n) ys
    shifted ys h = let e : from + suc n ≡ suc from + n = omega arith in subst (λ (m : ℕ). AreBelow m ys) e h

one_of-below : (n : ℕ) (s : State) → s.number < n → IsOneOf s (states_below n)
one_of-below zero s lt = absurd (omega arith)
one_of-below (suc n) s lt = ⊎_elim (λ e. inl (ap (λ (k : ℕ). record { number = k }) (sym e))) (λ ne. inr (one_of-below n s (omega arith))) (cases_eq s.number n)

pub one_of-possible : (n : ℕ) (c : Claim State) → c.left.number < n → AreBelow n c.rights → IsInOrder c.rights → IsOneOf c (possible n)
one_of-possible n c l b o =
    one_of-to_flat_map (λ (s : State). map (claim_with s) (rising n 0)) c c.left (states_below n) (one_of-below n c.left l)
    (one_of-map (claim_with c.left) c.rights (rising n 0) (one_of-rising n 0 c.rights o (let e : n ≡ 0 + n = omega arith in subst (λ (m : ℕ). AreBelow m c.rights) e b)))

-- the pigeonhole principle: with places below n of their own, there are n at most
module _ where

pub fits_below : (n m : ℕ) (p : ℕ → ℕ) → ((i : ℕ) → i < m → p i < n) → ((i j : ℕ) → i < m → j < m → p i ≡ p j → i ≡ j) → m ≤ n
fits_below zero zero p b d = omega arith
fits_below zero (suc m) p b d = absurd (let x = b 0 (omega arith) in omega arith)
fits_below (suc n) zero p b d = omega arith
fits_below (suc n) (suc m) p b d = omega (arith, fits_below n m moved moved_below moved_apart)
  where
    -- the last one's place is given to the one at the highest place
    moved : ℕ → ℕ
    moved i = ⊎_elim (λ (e : p i ≡ n). p m) (λ (ne : ¬ (p i ≡ n)). p i) (cases_eq (p i) n)

    moved_cases : (i : ℕ) → ((p i ≡ n) × (moved i ≡ p m)) ⊎ ((¬ (p i ≡ n)) × (moved i ≡ p i))
    moved_cases i = go (cases_eq (p i) n)
      where
        go : (s : (p i ≡ n) ⊎ (¬ (p i ≡ n))) → ((p i ≡ n) × (⊎_elim (λ (e : p i ≡ n). p m) (λ (ne : ¬ (p i ≡ n)). p i) s ≡ p m)) ⊎ ((¬ (p i ≡ n)) × (⊎_elim (λ (e : p i ≡ n). p m) (λ (ne : ¬ (p i ≡ n)). p i) s ≡ p i))
        go (inl e) = inl (e, refl)
        go (inr ne) = inr (ne, refl)

    moved_below : (i : ℕ) → i < m → moved i < n
    moved_below i lt = ⊎_elim
        (λ h. let bm = b m (omega arith) in
        let ne : ¬ (p m ≡ n) = λ e. (let q = d i m (omega arith) (omega arith) (h.0 ∙ sym e) in omega arith) in
        let mv = h.1 in omega (arith, ne))
        (λ h. let bi = b i (omega arith) in let ne = h.0 in let mv = h.1 in omega (arith, ne))
        (moved_cases i)

    moved_apart : (i j : ℕ) → i < m → j < m → moved i ≡ moved j → i ≡ j
    moved_apart i j li lj e = ⊎_elim
        (λ h. ⊎_elim
        (λ k. d i j (omega arith) (omega arith) (h.0 ∙ sym k.0))
        (λ k. absurd (let q = d m j (omega arith) (omega arith) (sym h.1 ∙ e ∙ k.1) in omega arith))
        (moved_cases j))
        (λ h. ⊎_elim
        (λ k. absurd (let q = d i m (omega arith) (omega arith) (sym h.1 ∙ e ∙ k.1) in omega arith))
        (λ k. d i j (omega arith) (omega arith) (sym h.1 ∙ e ∙ k.1))
        (moved_cases j))
        (moved_cases i)

-- a table has as many goals at most as there are possible claims after the first ones
pub rows_bound : (n first : ℕ) (rows : List GoalRow) → RowsBelow n rows → ((i j : ℕ) → i < length rows → j < length rows → claim_of (row_at rows i) ≡ claim_of (row_at rows j) → i ≡ j) → AreMadeFrom first rows
    → first ≤ length rows → length rows ≤ first + length (possible n)
rows_bound n first rows below unlike made le =
    let count = fits_below (length (possible n)) (length rows - first) place_of place_below place_apart in omega arith
  where
    found : (i : ℕ) → (first + i < length rows) → (k : ℕ) × (slice_get (possible n) k ≡ Some (claim_of (row_at rows (first + i))))
    found i lt =
        let b = below.each (first + i) lt in
        get-one_of (claim_of (row_at rows (first + i))) (possible n) (one_of-possible n (claim_of (row_at rows (first + i))) b.left b.rights (made (first + i) (omega arith) lt))

    place_by : (i : ℕ) → (first + i < length rows) ⊎ (length rows ≤ first + i) → ℕ
    place_by i (inl lt) = (found i lt).0
    place_by i (inr ge) = 0

    place_of : ℕ → ℕ
    place_of i = place_by i (cases_lt (first + i) (length rows))

    place_cases : (i : ℕ) → i < length rows - first → (lt : first + i < length rows) × (place_of i ≡ (found i lt).0)
    place_cases i l = go (cases_lt (first + i) (length rows))
      where
        go : (s : (first + i < length rows) ⊎ (length rows ≤ first + i)) → (lt : first + i < length rows) × (place_by i s ≡ (found i lt).0)
        go (inl lt) = (lt, refl)
        go (inr ge) = absurd (omega arith)

    place_below : (i : ℕ) → i < length rows - first → place_of i < length (possible n)
    place_below i l =
        let c = place_cases i l in
        let w = slice_get_within (possible n) (found i c.0).0 (claim_of (row_at rows (first + i))) (found i c.0).1 in
        let e = c.1 in omega arith

    place_apart : (i j : ℕ) → i < length rows - first → j < length rows - first → place_of i ≡ place_of j → i ≡ j
    place_apart i j li lj e =
        let c = place_cases i li in
        let k = place_cases j lj in
        let same : (found i c.0).0 ≡ (found j k.0).0 = sym c.1 ∙ e ∙ k.1 in
        let fi = (found i c.0).1 in
        let fj = subst (λ (m : ℕ). slice_get (possible n) m ≡ Some (claim_of (row_at rows (first + j)))) (sym same) (found j k.0).1 in
        let both : claim_of (row_at rows (first + i)) ≡ claim_of (row_at rows (first + j)) = cc in
        let q = unlike (first + i) (first + j) c.0 k.0 both in omega arith

-- goals that a table makes by itself stay so
pub made-then : (first : ℕ) (old new : TableView) → KeepsGoals old new → AreMadeFrom first old.rows → AreMadeFrom (length old.rows) new.rows → AreMadeFrom first new.rows
made-then first old new k h m i le lt = ⊎_elim
    (λ l. subst (λ (c : Claim State). IsInOrder c.rights) (sym (k.claims i l)) (h i le l))
    (λ ge. m i ge lt)
    (cases_lt i (length old.rows))

pub made-grows : (s t : TableView) → Grows s t → AreMadeFrom (length s.rows) t.rows
made-grows s t g i le lt = g.allowed i le lt
