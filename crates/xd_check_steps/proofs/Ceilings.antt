-- The greatest number of expressions, with which a walk over them ends.
use Rattle.std.proofs.Common.{◌≡◌, ℕ, ◌+◌, ◌<◌, ◌≤◌, max, arith, List, [], ◌∷◌, map, sym, subst}
use Rattle.std.specs.List.{AllByRecursion}
use Rattle.xd_syntax.specs.Exprs.{expr_numbers}
use Rattle.xd_syntax.specs.declared.exprs.ExprId.{ExprId}

-- one more than the greatest number
abbrev pub ceiling : List ℕ → ℕ
ceiling [] = 0
ceiling (i ∷ is) = max (i + 1) (ceiling is)

pub ceiling_within : (n : ℕ) (is : List ℕ) → AllByRecursion (λ i. i < n) is → ceiling is ≤ n
ceiling_within n [] a = omega arith
ceiling_within n (i ∷ is) a = let r = ceiling_within n is a.1 in let s : i < n = a.0 in omega arith

pub ceiling_again : (n : ℕ) (ps qs : List ExprId) → ps ≡ qs → AllByRecursion (λ i. i < n) (expr_numbers qs) → ceiling (expr_numbers ps) ≤ n
ceiling_again n ps qs e a = ceiling_within n (expr_numbers ps) (subst (λ xs. AllByRecursion (λ i. i < n) (expr_numbers xs)) (sym e) a)

abbrev pub bodies : List (ℕ × ℕ) → List ℕ
bodies cs = map (λ (c : ℕ × ℕ). c.1) cs

pub bodies_below : (n : ℕ) (cs : List (ℕ × ℕ)) → AllByRecursion (λ (c : ℕ × ℕ). c.1 < n) cs → AllByRecursion (λ i. i < n) (bodies cs)
bodies_below n [] a = tt
bodies_below n (c ∷ cs) a = (a.0, bodies_below n cs a.1)
