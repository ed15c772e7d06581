use Rattle.std.proofs.Common.{[], IfOk, sym, subst}
use Rattle.std.specs.Option.{IfSome}
use Rattle.std.proofs.lemmas.Result.{on_ok_weaker}
use Rattle.xd_syntax.specs.Placed.{PlacedTree, unplaced}
use Rattle.xd_syntax.specs.Tree.{Definitions}
use Rattle.xd_clauses.specs.Clauses.{Accepted, AreGivensOf}
use Rattle.xd_clauses.specs.Compiled.{IsNumbered}
use Rattle.xd_check_steps.proofs.GrowsLemmas.{grows_none}
use Rattle.xd_variables.specs.Bound.{reading_of}
use Rattle.xd_variables.specs.declared.variables.Ways.{Ways}
use Rattle.xd_variables.proofs.reader.Reader.bindings.Goals as goal

pub bindings-requires-clause-serve : goal.bindings-requires-clause-serve
bindings-requires-clause-serve c = let g = grows_none c.args.auto.now in c.requires.points c.args.auto.now g.extends

pub first_bindings-requires-clause-serve : goal.first_bindings-requires-clause-serve
first_bindings-requires-clause-serve c = let g = grows_none c.args.auto.now in c.requires.points c.args.auto.now g.extends

pub returns-in-Whole-clause-givens : goal.returns-in-Whole-clause-givens
returns-in-Whole-clause-givens c =
    let m = c.args.pattern.patterns.now in
    let n = c.args.pattern.number in
    let C = Accepted c.args.auto.now c.args.coming in
    let b = c.bindings.new.auto in
    subst (λ (w : Ways). IfOk c.bindings.result (λ read. IfSome read (λ gs. (E : Definitions) (P : PlacedTree) → IsNumbered E (unplaced P) m n → AreGivensOf (reading_of w E C [] P) P b gs.items))) (sym c.in-Whole.is) c.bindings.ensures.bindings

pub returns-in-Whole-clause-grows : goal.returns-in-Whole-clause-grows
returns-in-Whole-clause-grows c = on_ok_weaker c.bindings.result (λ k. record { extends = c.bindings.ensures.extends; keeps = k }) c.bindings.ensures.accepting

pub returns-in-First-clause-givens : goal.returns-in-First-clause-givens
returns-in-First-clause-givens c =
    let m = c.args.pattern.patterns.now in
    let n = c.args.pattern.number in
    let C = Accepted c.args.auto.now c.args.coming in
    let b = c.first_bindings.new.auto in
    subst (λ (w : Ways). IfOk c.first_bindings.result (λ read. IfSome read (λ gs. (E : Definitions) (P : PlacedTree) → IsNumbered E (unplaced P) m n → AreGivensOf (reading_of w E C [] P) P b gs.items))) (sym c.in-First.is) c.first_bindings.ensures.bindings

pub returns-in-First-clause-grows : goal.returns-in-First-clause-grows
returns-in-First-clause-grows c = on_ok_weaker c.first_bindings.result (λ k. record { extends = c.first_bindings.ensures.extends; keeps = k }) c.first_bindings.ensures.accepting
