use Rattle.std.proofs.Common.{sym, subst}
use Rattle.xd_auto.specs.Automaton.{Automaton, Extends}
use Rattle.xd_auto.proofs.ExtendsLemmas.{extends_itself}
use Rattle.xd_clauses.proofs.compiled.CompiledPatterns.with_types.Goals as goal

pub returns-clause-serve : goal.returns-clause-serve
returns-clause-serve c =
    let a = c.compile_in.new.auto in
    c.in_ok-made.ensures.serve a (c.in_ok-states.ensures.serve a (subst (λ (q : Automaton). Extends q a) (sym c.in_ok-copy.ensures) (extends_itself a)))
