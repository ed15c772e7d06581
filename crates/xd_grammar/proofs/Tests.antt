-- A row that lets a token come next: the tests at its front are passed, and a token after them is
-- this one.
use Rattle.std.proofs.Common.{◌≡◌, ◌<◌, ◌≤◌, ℕ, ◌++◌, Bool, true, false, cond, List, [], ◌∷◌, Option, Some, None, refl, subst, arith}
use Rattle.xd_grammar.specs.declared.grammar.Nonterminal.{Nonterminal}
use Rattle.xd_grammar.specs.declared.grammar.Symbol.TheVariants.{Token, Opening, Closed, Unless, Part}
use Rattle.xd_grammar.specs.declared.grammar.Terminal.{Terminal}
use Rattle.xd_grammar.specs.declared.machine.Reading.TheVariants.{Plain}
use Rattle.xd_grammar.specs.declared.machine.Step.TheVariants.{Next}
use Rattle.xd_grammar.specs.Grammar.{Row, rules}
use Rattle.xd_grammar.specs.Fits.{same, fits, first_fit, work}
use Rattle.xd_grammar.specs.Machine.{group_of, Turns, TurnsOr}
use Rattle.xd_grammar.specs.Tests.{without_tests, behind_token, front_step}
use Rattle.xd_grammar.proofs.Shift.{turns_refl, turns_then, turns_shift, token_next, unless_turns, part_goes}

passed : (b c : Bool) → cond b false c ≡ true → (b ≡ false) × (c ≡ true)
passed true c e = absurd cc
passed false c e = (refl, e)

by_fit : (b : Bool) (r : Row) (rest : Option Row) (k : Terminal) (made : Row) → fits r k ≡ b → cond b (Some r) rest ≡ Some made → (rest ≡ Some made → fits made k ≡ true) → fits made k ≡ true
by_fit true r rest k made f g h = let q : r ≡ made = cc in subst (λ (x : Row). fits x k ≡ true) q f
by_fit false r rest k made f g h = h g

chosen_fits : (rs : List Row) (k : Terminal) (made : Row) → first_fit rs k ≡ Some made → fits made k ≡ true
chosen_fits [] k made e = absurd cc
chosen_fits (r ∷ rs) k made e = by_fit (fits r k) r (first_fit rs k) k made refl e (λ g. chosen_fits rs k made g)

tests_fit : (made : Row) (k : Terminal) → fits made k ≡ true → fits (without_tests made) k ≡ true
tests_fit [] k f = f
tests_fit (Unless j ∷ row) k f = tests_fit row k (passed (same j k) (fits row k) f).1
tests_fit (Token j ∷ row) k f = f
tests_fit (Opening j ∷ row) k f = f
tests_fit (Closed ∷ row) k f = f
tests_fit (Part p ∷ row) k f = f

tests_turn : (d : ℕ) (made r : Row) (k : Terminal) → fits made k ≡ true → Turns d (made ++ r) k d (without_tests made ++ r)
tests_turn d [] r k f = turns_refl d r k
tests_turn d (Unless j ∷ row) r k f =
    let p = passed (same j k) (fits row k) f in
    turns_then d (Unless j ∷ (row ++ r)) k d (row ++ r) d (without_tests row ++ r) (unless_turns d (row ++ r) j k p.0) (tests_turn d row r k p.1)
tests_turn d (Token j ∷ row) r k f = turns_refl d (Token j ∷ (row ++ r)) k
tests_turn d (Opening j ∷ row) r k f = turns_refl d (Opening j ∷ (row ++ r)) k
tests_turn d (Closed ∷ row) r k f = turns_refl d (Closed ∷ (row ++ r)) k
tests_turn d (Part p ∷ row) r k f = turns_refl d (Part p ∷ (row ++ r)) k

tests_work : (made r : Row) → work (without_tests made ++ r) ≤ work (made ++ r)
tests_work [] r = omega arith
tests_work (Unless j ∷ row) r = let h = tests_work row r in omega arith
tests_work (Token j ∷ row) r = omega arith
tests_work (Opening j ∷ row) r = omega arith
tests_work (Closed ∷ row) r = omega arith
tests_work (Part p ∷ row) r = omega arith

token_taken : (d : ℕ) (part : Nonterminal) (row r : Row) (k : Terminal) → fits row k ≡ true → Turns d (Part part ∷ r) k d (row ++ r) → work (row ++ r) < work (Part part ∷ r) →
    TurnsOr (front_step row) d (Part part) r k d (behind_token row ++ r)
token_taken d part (Token j ∷ row) r k f t w = turns_shift d (Part part ∷ r) k d (Token j ∷ (row ++ r)) (Next Plain) d (row ++ r) t (token_next d (row ++ r) j k f)
token_taken d part [] r k f t w = (t, w)
token_taken d part (Unless j ∷ row) r k f t w = (t, w)
token_taken d part (Opening j ∷ row) r k f t w = (t, w)
token_taken d part (Closed ∷ row) r k f t w = (t, w)
token_taken d part (Part p ∷ row) r k f t w = (t, w)

pub fit_goes : (d : ℕ) (r : Row) (part : Nonterminal) (k : Terminal) (made : Row) → group_of part k ≡ None → first_fit (rules part) k ≡ Some made →
    TurnsOr (front_step (without_tests made)) d (Part part) r k d (behind_token (without_tests made) ++ r)
fit_goes d r part k made single is =
    let f = chosen_fits (rules part) k made is in
    let g = part_goes d r part k made single is in
    let w = tests_work made r in
    token_taken d part (without_tests made) r k (tests_fit made k f)
    (turns_then d (Part part ∷ r) k d (made ++ r) d (without_tests made ++ r) g.0 (tests_turn d made r k f)) (omega (arith, g.1))
