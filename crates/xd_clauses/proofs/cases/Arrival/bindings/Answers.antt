use Rattle.std.proofs.Common.{List, [], sym, subst}
use Rattle.std.specs.List.{AllByRecursion}
use Rattle.xd_auto.specs.Automaton.{IsState}
use Rattle.xd_points.specs.Meaning.{ServePoints}
use Rattle.xd_syntax.specs.May.{MayBind}
use Rattle.xd_syntax.specs.Placed.{unplaced}
use Rattle.xd_meaning.specs.KeptFaults.{AllPaired}
use Rattle.xd_bind.specs.declared.tracks.Given.{Given}
use Rattle.xd_clauses.specs.Cases.{HasOwnAutomaton}
use Rattle.xd_clauses.specs.Clauses.{Accepted, AreMayGivens}
use Rattle.xd_clauses.specs.declared.compiled.CompiledPatterns.{CompiledPatterns}
use Rattle.xd_clauses.proofs.Givens.{bindings_apart, givens_as, givens_there}
use Rattle.xd_clauses.proofs.NoneTakesLemmas.{bind_same}
use Rattle.xd_clauses.proofs.NumberedLemmas.{numbered_as}
use Rattle.xd_clauses.proofs.cases.Arrival.bindings.Goals as goal

pub givens_of-requires-clause-pattern : goal.givens_of-requires-clause-pattern
givens_of-requires-clause-pattern c =
    let k = c.requires.pattern in
    let x = c.pattern-pattern.result in
    let is = c.pattern-pattern.ensures in
    record { names = k.0; tree = unplaced k.1; numbered = numbered_as k.0 (unplaced k.1) c.args.self.now.patterns x.patterns.now c.args.self.now.number x.number is.patterns is.number k.2 }

pub givens_of-requires-clause-serve : goal.givens_of-requires-clause-serve
givens_of-requires-clause-serve c = subst (λ (m : CompiledPatterns). ServePoints c.args.self.now.auto m.states) (sym c.pattern-pattern.ensures.patterns) c.requires.serve

pub apart-requires : goal.apart-requires
apart-requires c =
    let k = c.requires.pattern in
    let x = c.pattern-pattern.result in
    let is = c.pattern-pattern.ensures in
    let own = numbered_as k.0 (unplaced k.1) c.args.self.now.patterns x.patterns.now c.args.self.now.number x.number is.patterns is.number k.2 in
    let a = c.givens_of.new.auto in
    let B = Accepted c.args.self.now.auto c.args.self.now.state in
    let m : AreMayGivens k.0 B [] k.1 a c.in_ok-givens.givens.items = c.in_ok-givens.ensures k.0 k.1 own in
    subst (λ (gs : List Given). AllByRecursion (λ (g : Given). IsState a g.state) gs) (sym c.deref.ensures.value) (givens_there (MayBind k.0 B [] k.1) a c.in_ok-givens.givens.items m.each)

pub returns : goal.returns
returns c E b s Ps P is left =
    let x = c.pattern-pattern.result in
    let same = c.pattern-pattern.ensures in
    let own = numbered_as E (unplaced P) c.args.self.now.patterns x.patterns.now c.args.self.now.number x.number same.patterns same.number is in
    let a = c.givens_of.new.auto in
    let A = Accepted b s in
    let B = Accepted c.args.self.now.auto c.args.self.now.state in
    let gs = c.in_ok-givens.givens.items in
    let bs = c.in_ok-bindings.bindings.items in
    let pairs : AllPaired (HasOwnAutomaton a) gs bs = subst (λ (gs : List Given). AllPaired (HasOwnAutomaton a) gs bs) c.deref.ensures.value c.in_ok-bindings.ensures in
    bindings_apart (MayBind E A Ps P) a P gs bs pairs (givens_as (MayBind E B [] P) (MayBind E A Ps P) (bind_same E A B Ps P left) P a gs (c.in_ok-givens.ensures E P own))
