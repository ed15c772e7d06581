-- How many numbers a test leaves out, where one more passes it.
use Rattle.std.proofs.Common.{ℕ, zero, suc, ◌≡◌, ◌≢◌, ◌⊎◌, ◌+◌, ◌<◌, ◌≤◌, Bool, true, false, cond, arith, refl, sym, subst, inl, inr}
use Rattle.std.proofs.lemmas.Bool.{cases_eq}
use Rattle.xd_auto.specs.Counts.{left_out, left_out_of}

-- one more passes the test
pub left_out-more : (f g : ℕ → Bool) (i : ℕ) → f i ≡ false → g i ≡ true → ((j : ℕ) → j ≢ i → g j ≡ f j) → (n : ℕ) → i < n → left_out g n + 1 ≡ left_out f n
left_out-more f g i was is others zero lt = absurd (omega arith)
left_out-more f g i was is others (suc n) lt = go (cases_eq i n) (λ m. left_out-more f g i was is others n m)
  where
    same_below : (m : ℕ) → m ≤ i → left_out g m ≡ left_out f m
    same_below zero le = refl
    same_below (suc m) le =
        let ne : m ≢ i = λ e. omega arith in
        rw (others m ne, same_below m (omega arith)) refl

    go : (i ≡ n) ⊎ (i ≢ n) → (i < n → left_out g n + 1 ≡ left_out f n) → cond (g n) 0 1 + left_out g n + 1 ≡ cond (f n) 0 1 + left_out f n
    go (inl e) ih =
        let here : g n ≡ true = subst (λ m. g m ≡ true) e is in
        let there : f n ≡ false = subst (λ m. f m ≡ false) e was in
        rw (here, there, same_below n (omega arith)) (omega arith)
    go (inr ne) ih =
        let other : n ≢ i = λ e. ne (sym e) in
        let below : left_out g n + 1 ≡ left_out f n = ih (omega arith) in
        rw (others n other) (omega arith)

pub left_out-same : (f g : ℕ → Bool) → ((j : ℕ) → g j ≡ f j) → (n : ℕ) → left_out g n ≡ left_out f n
left_out-same f g same zero = refl
left_out-same f g same (suc n) = rw (same n, left_out-same f g same n) refl

pub left_out_of-more : (f g : ℕ → ℕ → Bool) (s i n : ℕ) → i < n → f s i ≡ false → g s i ≡ true → ((t j : ℕ) → (j ≢ i) ⊎ (t ≢ s) → g t j ≡ f t j)
    → (m : ℕ) → s < m → left_out_of g m n + 1 ≡ left_out_of f m n
left_out_of-more f g s i n below was is others zero lt = absurd (omega arith)
left_out_of-more f g s i n below was is others (suc m) lt = go (cases_eq m s) (λ l. left_out_of-more f g s i n below was is others m l)
  where
    same_rows : (k : ℕ) → k ≤ s → left_out_of g k n ≡ left_out_of f k n
    same_rows zero le = refl
    same_rows (suc k) le =
        let ne : k ≢ s = λ e. omega arith in
        rw (left_out-same (f k) (g k) (λ j. others k j (inr ne)) n, same_rows k (omega arith)) refl

    go : (m ≡ s) ⊎ (m ≢ s) → (s < m → left_out_of g m n + 1 ≡ left_out_of f m n)
        → left_out (g m) n + left_out_of g m n + 1 ≡ left_out (f m) n + left_out_of f m n
    go (inl e) ih =
        let row : left_out (g m) n + 1 ≡ left_out (f m) n =
        left_out-more (f m) (g m) i (subst (λ k. f k i ≡ false) (sym e) was) (subst (λ k. g k i ≡ true) (sym e) is) (λ j ne. others m j (inl ne)) n below in
        rw (same_rows m (omega arith)) (omega arith)
    go (inr ne) ih =
        let rest : left_out_of g m n + 1 ≡ left_out_of f m n = ih (omega arith) in
        rw (left_out-same (f m) (g m) (λ j. others m j (inr ne)) n) (omega arith)
