-- Parts of expressions, one by one.
use Rattle.std.proofs.Common.{◌≡◌, ℕ, zero, suc, ◌+◌, ◌<◌, ◌≤◌, arith, List, [], ◌∷◌, ◌++◌, Some, map, length, get_or, ap, refl}
use Rattle.std.specs.List.{AllByRecursion, slice_get}
use Rattle.xd_syntax.specs.Exprs.{clause_numbers, expr_numbers}
use Rattle.xd_syntax.specs.Kept.{ProgramTable}
use Rattle.xd_syntax.specs.declared.exprs.Clause.{Clause}
use Rattle.xd_syntax.specs.declared.exprs.ExprId.{ExprId}
use Rattle.xd_patterns.specs.CompiledProgram.{IsLinearPattern}
use Rattle.xd_check_steps.specs.Walkable.{CanBeWalked, ClauseCanBeWalked}
use Rattle.xd_check_steps.proofs.Ceilings.{bodies, ceiling}

pub part_there : (p : ProgramTable) (parts : List ExprId) (n : ℕ) (d : ExprId) → AllByRecursion (CanBeWalked p) (expr_numbers parts) → n < length parts → CanBeWalked p (get_or parts n d).at
part_there p [] n d h l = absurd (omega arith)
part_there p (id ∷ ids) zero d h l = h.0
part_there p (id ∷ ids) (suc n) d h l = part_there p ids n d h.1 (omega arith)

pub part_below : (parts : List ExprId) (n : ℕ) (d : ExprId) → n < length parts → (get_or parts n d).at + 1 ≤ ceiling (expr_numbers parts)
part_below [] n d l = absurd (omega arith)
part_below (id ∷ ids) zero d l = omega arith
part_below (id ∷ ids) (suc n) d l = let r = part_below ids n d (omega arith) in omega arith

pub clause_there : (p : ProgramTable) (cs : List Clause) (n : ℕ) (d : Clause) → AllByRecursion (ClauseCanBeWalked p) (clause_numbers cs) → n < length cs →
    ClauseCanBeWalked p ((get_or cs n d).pattern.at, (get_or cs n d).body.at)
clause_there p [] n d h l = absurd (omega arith)
clause_there p (k ∷ ks) zero d h l = h.0
clause_there p (k ∷ ks) (suc n) d h l = clause_there p ks n d h.1 (omega arith)

pub body_below : (cs : List Clause) (n : ℕ) (d : Clause) → n < length cs → (get_or cs n d).body.at + 1 ≤ ceiling (bodies (clause_numbers cs))
body_below [] n d l = absurd (omega arith)
body_below (k ∷ ks) zero d l = omega arith
body_below (k ∷ ks) (suc n) d l = let r = body_below ks n d (omega arith) in omega arith

-- the patterns of clauses
pub map_push : (cs : List Clause) (k : Clause) → map (λ (j : Clause). j.pattern) (cs ++ k ∷ []) ≡ map (λ (j : Clause). j.pattern) cs ++ k.pattern ∷ []
map_push [] k = refl
map_push (c ∷ cs) k = ap (λ is. c.pattern ∷ is) (map_push cs k)

pub map_got : (cs : List Clause) (n : ℕ) (d : Clause) → n < length cs → slice_get (map (λ (j : Clause). j.pattern) cs) n ≡ Some (get_or cs n d).pattern
map_got [] n d l = absurd (omega arith)
map_got (k ∷ ks) zero d l = refl
map_got (k ∷ ks) (suc n) d l = map_got ks n d (omega arith)

pub patterns_linear : (p : ProgramTable) (cs : List Clause) → AllByRecursion (ClauseCanBeWalked p) (clause_numbers cs) → AllByRecursion (IsLinearPattern p.patterns) (map (λ (j : Clause). j.pattern) cs)
patterns_linear p [] h = tt
patterns_linear p (k ∷ ks) h = (record { there = h.0.there; linear = h.0.linear }, patterns_linear p ks h.1)
