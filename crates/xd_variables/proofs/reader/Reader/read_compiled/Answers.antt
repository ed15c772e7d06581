use Rattle.std.proofs.Common.{◌≡◌, ℕ, ◌+◌, ◌<◌, List, get_or, sym, subst}
use Rattle.std.proofs.lemmas.List.{drop_all, get_or_default}
use Rattle.xd_doc.proofs.StoredLemmas.{Keeps-same}
use Rattle.xd_least.proofs.KnownLemmas.{stays_known}
use Rattle.xd_syntax.specs.Kept.{ProgramTable, program_tree}
use Rattle.xd_syntax.specs.Placed.{PlacedTree, unplaced}
use Rattle.xd_syntax.specs.PlacedTable.{placed_at}
use Rattle.xd_syntax.specs.Program.{names_of}
use Rattle.xd_syntax.specs.declared.exprs.Clause.{Clause}
use Rattle.xd_syntax.proofs.PlacedTrees.{unplaced_at}
use Rattle.xd_clauses.specs.Behind.{StandsIn}
use Rattle.xd_clauses.specs.Compiled.{IsNumbered}
use Rattle.xd_clauses.specs.declared.compiled.CompiledPatterns.{CompiledPatterns}
use Rattle.xd_clauses.proofs.NumberedLemmas.{paired_length}
use Rattle.xd_check_steps.specs.Clauses.{HasNumber, ServesOn}
use Rattle.xd_check_steps.specs.States.{Grows}
use Rattle.xd_check.proofs.ClauseLoop.{clause_here, stands_on}
use Rattle.xd_check_steps.proofs.GrowsLemmas.{grows_none, grows_then}
use Rattle.xd_check.proofs.IsReadyLemmas.{serves_kept}
use Rattle.xd_check_steps.proofs.Numbered.{numbered_here, some_here}
use Rattle.xd_variables.specs.Bound.{reading_of}
use Rattle.xd_variables.specs.declared.variables.BoundVariable.{BoundVariable}
use Rattle.xd_variables.proofs.ClauseLoop.{ClausesRead, clauses_begin, clauses_end, clauses_more}
use Rattle.xd_variables.proofs.reader.Reader.read_compiled.Goals as goal

pub loop-number-init : goal.loop-number-init
loop-number-init c =
    let a = c.args.auto.now in
    let m : CompiledPatterns = c.args.compiled.patterns.now in
    let made = c.in_ok-remaining.ensures in
    record {
      read = clauses_begin (reading_of c.args.self.now.ways) c.args.self.now.sound m a c.args.found.now.variables.items c.args.compiled.clauses.now c.args.scrutinee c.in_ok-remaining.remaining c.requires.clauses (made.stands a m c.requires.scrutinee) (λ d. made.remains a m d);
      known = c.requires.known;
    }

pub bounds-compiled-number : goal.bounds-compiled-number
bounds-compiled-number c =
    subst (λ n. c.loop-number.number < n) (paired_length (HasNumber c.args.compiled.patterns.now) c.args.compiled.clauses.now c.args.compiled.numbers.now c.requires.compiled.numbers) c.loop-number-test.true

pub coming_to-requires : goal.coming_to-requires
coming_to-requires c =
    let m : CompiledPatterns = c.args.compiled.patterns.now in
    let x = c.pattern-pattern.result in
    let is : x.patterns.now ≡ m = c.pattern-pattern.ensures.patterns in
    let cs : List Clause = c.args.compiled.clauses.now in
    let n : ℕ = c.loop-number.number in
    let none : Clause = record { pattern = record { at = 0 }; body = record { at = 0 } } in
    let k : Clause = get_or cs n none in
    let a = c.loop-number.auto' in
    let serves : ServesOn a x.patterns.now = subst (ServesOn a) (sym is) (serves_kept c.args.auto.now a m c.loop-number.invariant.read.grows.extends c.requires.compiled.points) in
    record {
      pattern = some_here c.args.self.now.sound c.args.auto.now cs m c.args.compiled.numbers.now c.requires.compiled n k x.patterns.now x.number c.loop-number-test.true (get_or_default cs n none k c.loop-number-test.true) is c.pattern-pattern.ensures.number;
      serve = let g = grows_none a in serves a g.extends;
      stands = subst (λ (y : CompiledPatterns). StandsIn a y c.loop-number.remaining) (sym is) c.loop-number.invariant.read.ahead.stands;
    }

pub read_clause-requires : goal.read_clause-requires
read_clause-requires c =
    let p : ProgramTable = c.args.self.now.sound in
    let m : CompiledPatterns = c.args.compiled.patterns.now in
    let x = c.pattern-pattern.result in
    let is : x.patterns.now ≡ m = c.pattern-pattern.ensures.patterns in
    let cs : List Clause = c.args.compiled.clauses.now in
    let n : ℕ = c.loop-number.number in
    let none : Clause = record { pattern = record { at = 0 }; body = record { at = 0 } } in
    let k : Clause = get_or cs n none in
    let e : k ≡ get_or cs n k = get_or_default cs n none k c.loop-number-test.true in
    let h = clause_here p m c.loop-number.auto' cs n c.loop-number.remaining k c.loop-number.invariant.read.ahead c.loop-number-test.true e in
    let w = h.0 in
    let a = c.in_ok-left.ensures in
    let b = c.coming_to.new.auto in
    let one : Grows c.loop-number.auto' b = record { extends = a.extends; keeps = a.accepting } in
    let g : Grows c.args.auto.now b = grows_then c.args.auto.now c.loop-number.auto' b c.loop-number.invariant.read.grows one in
    record {
      linear = record { there = w.there; linear = w.linear };
      pattern = numbered_here p c.args.auto.now cs m c.args.compiled.numbers.now c.requires.compiled n k x.patterns.now x.number c.loop-number-test.true e is c.pattern-pattern.ensures.number;
      points = subst (ServesOn b) (sym is) (serves_kept c.args.auto.now b m g.extends c.requires.compiled.points);
      coming = a.belongs;
      known = stays_known c.loop-number.found.inhabitants c.loop-number.auto' b c.loop-number.found.store c.loop-number.found.store a.extends (Keeps-same c.loop-number.found.store) c.loop-number.invariant.known;
    }

pub pass_on-requires : goal.pass_on-requires
pass_on-requires c =
    let m : CompiledPatterns = c.args.compiled.patterns.now in
    let x = c.pattern-pattern.result in
    let is : x.patterns.now ≡ m = c.pattern-pattern.ensures.patterns in
    let cs : List Clause = c.args.compiled.clauses.now in
    let n : ℕ = c.loop-number.number in
    let none : Clause = record { pattern = record { at = 0 }; body = record { at = 0 } } in
    let k : Clause = get_or cs n none in
    record {
      pattern = some_here c.args.self.now.sound c.args.auto.now cs m c.args.compiled.numbers.now c.requires.compiled n k x.patterns.now x.number c.loop-number-test.true (get_or_default cs n none k c.loop-number-test.true) is c.pattern-pattern.ensures.number;
      waiting = c.in_ok-left.ensures.stands.waiting;
    }

pub loop-number-preserved : goal.loop-number-preserved
loop-number-preserved c =
    let B = reading_of c.args.self.now.ways in
    let p : ProgramTable = c.args.self.now.sound in
    let E = names_of (program_tree p) in
    let x = c.pattern-pattern.result in
    let is : x.patterns.now ≡ c.args.compiled.patterns.now = c.pattern-pattern.ensures.patterns in
    let m : CompiledPatterns = x.patterns.now in
    let cs : List Clause = c.args.compiled.clauses.now in
    let n : ℕ = c.loop-number.number in
    let none : Clause = record { pattern = record { at = 0 }; body = record { at = 0 } } in
    let k : Clause = get_or cs n none in
    let here : k ≡ get_or cs n k = get_or_default cs n none k c.loop-number-test.true in
    let a = c.in_ok-left.ensures in
    let f = c.in_ok-is_live.ensures in
    let w = c.in_ok-remaining-2.ensures in
    let b = c.coming_to.new.auto in
    let d = c.read_clause.new.auto in
    let old : List BoundVariable = c.args.found.now.variables.items in
    let mid : List BoundVariable = c.loop-number.found.variables.items in
    let new : List BoundVariable = c.read_clause.new.found.variables.items in
    let one : Grows c.loop-number.auto' b = record { extends = a.extends; keeps = a.accepting } in
    let Q : PlacedTree = placed_at p.patterns (k.pattern).at in
    let made : IsNumbered E (unplaced Q) m x.number = subst (λ T. IsNumbered E T m x.number) (sym (unplaced_at p.patterns (k.pattern).at))
    (numbered_here p c.args.auto.now cs c.args.compiled.patterns.now c.args.compiled.numbers.now c.requires.compiled n k m x.number c.loop-number-test.true here is c.pattern-pattern.ensures.number) in
    let before : ClausesRead B p m c.args.auto.now c.loop-number.auto' old mid cs n c.args.scrutinee c.loop-number.remaining
    = subst (λ (y : CompiledPatterns). ClausesRead B p y c.args.auto.now c.loop-number.auto' old mid cs n c.args.scrutinee c.loop-number.remaining) (sym is) c.loop-number.invariant.read in
    record {
      read = subst (λ (y : CompiledPatterns). ClausesRead B p y c.args.auto.now d old new cs (n + 1) c.args.scrutinee c.in_ok-remaining-2.remaining) is
          (clauses_more B p m c.args.auto.now c.loop-number.auto' b d old mid new cs n c.args.scrutinee c.in_ok-left.coming c.loop-number.remaining c.in_ok-left.left c.in_ok-remaining-2.remaining k c.in_ok-is_live.is_live
          before c.loop-number-test.true here one a.stands a.remains (a.comes E Q made) f.variables f.grows (w.stands d (stands_on b d m c.in_ok-left.left f.grows a.stands)) (w.remains E Q made d));
      known = f.known;
    }

pub returns-clause-variables : goal.returns-clause-variables
returns-clause-variables c =
    clauses_end (reading_of c.args.self.now.ways) c.args.self.now.sound c.args.compiled.patterns.now c.args.auto.now c.loop-number.auto' c.args.found.now.variables.items c.loop-number.found.variables.items c.args.compiled.clauses.now c.loop-number.number c.args.scrutinee
    c.loop-number.remaining (drop_all c.loop-number.number c.args.compiled.clauses.now c.loop-number-test.false) c.loop-number.invariant.read
