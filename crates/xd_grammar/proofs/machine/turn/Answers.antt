use Rattle.std.proofs.Common.{◌≡◌, ◌++◌, Option, reverse, subst, sym, ◌∙◌, arith, List, [], Some, None}
use Rattle.xd_grammar.specs.declared.grammar.Symbol.TheVariants.{Part}
use Rattle.xd_grammar.specs.Grammar.{Row, rules}
use Rattle.xd_grammar.specs.Fits.{first_fit}
use Rattle.xd_grammar.specs.Machine.{TurnsOr}
use Rattle.xd_grammar.specs.Tests.{without_tests, behind_token}
use Rattle.xd_grammar.specs.declared.machine.Step.{Step}
use Rattle.xd_grammar.proofs.Shift.{token_next, token_stops, opening_enters, opening_stops, closed_turns, unless_turns, part_stops, group_enters}
use Rattle.xd_grammar.proofs.Tests.{fit_goes}
use Rattle.xd_grammar.proofs.machine.turn.Goals as goal

pub returns-then-same : goal.returns-then-same
returns-then-same c = rw c.in-Token.is (token_next _ _ _ _ (sym c.same.ensures ∙ c.if-same.true))

pub returns-else-same : goal.returns-else-same
returns-else-same c = rw c.in-Token.is (token_stops _ _ _ _ 0 [] (sym c.same.ensures ∙ c.if-same.false))

pub returns-then-same-2 : goal.returns-then-same-2
returns-then-same-2 c = rw c.in-Opening.is (opening_enters _ _ _ _ _ _ (sym c.same-in-Opening.ensures ∙ c.if-same-2.true) c.enter.ensures)

pub returns-else-same-2 : goal.returns-else-same-2
returns-else-same-2 c = rw c.in-Opening.is (opening_stops _ _ _ _ 0 [] (sym c.same-in-Opening.ensures ∙ c.if-same-2.false))

pub returns-else-depth-eq0 : goal.returns-else-depth-eq0
returns-else-depth-eq0 c = rw c.in-Closed.is (closed_turns _ _ _ _ (omega arith), omega arith)

pub returns-else-same-3 : goal.returns-else-same-3
returns-else-same-3 c = rw c.in-Unless.is (unless_turns _ _ _ _ (sym c.same-in-Unless.ensures ∙ c.if-same-3.false), omega arith)

pub returns-in-Some : goal.returns-in-Some
returns-in-Some c = rw c.in-Part.is (group_enters _ _ c.in-Some.sort _ _ _ _ (sym c.in-Some.ensures) c.enter-in-Some.ensures)

pub returns-in_ok-done-in-Some-first_fit : goal.returns-in_ok-done-in-Some-first_fit
returns-in_ok-done-in-Some-first_fit c =
    let part = c.in-Part.part in
    let old = reverse c.args.stack.now.items in
    let made = c.in-Some-first_fit.made.now in
    let e : first_fit (rules part) c.args.kind ≡ Some made = subst (λ (rs : List Row). first_fit rs c.args.kind ≡ Some made) c.rules.ensures c.in-Some-first_fit.ensures in
    let d = c.args.depth.now in
    rw c.in-Part.is (subst (λ (x : Row). TurnsOr c.in_ok-done-in-Some-first_fit.done d (Part part) old c.args.kind d x) (sym c.in_ok-done-in-Some-first_fit.ensures.stack)
    (subst (λ (o : Option Step). TurnsOr o d (Part part) old c.args.kind d (behind_token (without_tests made) ++ old)) (sym c.in_ok-done-in-Some-first_fit.ensures.step) (fit_goes d old part c.args.kind made (sym c.in-None.ensures) e)))

pub returns-in-None-first_fit : goal.returns-in-None-first_fit
returns-in-None-first_fit c = rw c.in-Part.is (part_stops _ _ _ _ 0 [] (subst (λ (rs : List Row). first_fit rs c.args.kind ≡ None) c.rules.ensures c.in-None-first_fit.ensures))
