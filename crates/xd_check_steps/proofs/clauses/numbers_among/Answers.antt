use Rattle.std.proofs.Common.{ℕ, List, [], ◌∷◌, ◌++◌, get_or, take, sym, subst}
use Rattle.std.proofs.lemmas.List.{take_all, take_more}
use Rattle.xd_syntax.specs.declared.exprs.Clause.{Clause}
use Rattle.xd_meaning.specs.KeptFaults.{AllPaired}
use Rattle.xd_patterns.proofs.Pairing.{paired_end}
use Rattle.xd_check_steps.specs.Clauses.{HasNumber}
use Rattle.xd_check_steps.proofs.clauses.numbers_among.Goals as goal

pub loop-clause-preserved : goal.loop-clause-preserved
loop-clause-preserved c =
    let n : ℕ = c.loop-clause.clause-index in
    let cs : List Clause = c.args.clauses.now in
    let none : Clause = record { pattern = record { at = 0 }; body = record { at = 0 } } in
    let k : Clause = get_or cs n none in
    let R = HasNumber c.args.patterns.now in
    subst (λ xs. AllPaired R xs c.push.new.self.items) (sym (take_more cs n none c.loop-clause-test.true))
    (subst (AllPaired R (take n cs ++ k ∷ [])) (sym c.in_ok-push-in-Some.ensures.items)
    (paired_end R (take n cs) c.loop-clause.numbers.items k c.in-Some.number c.loop-clause.invariant c.in-Some.ensures))

pub returns : goal.returns
returns c = subst (λ xs. AllPaired (HasNumber c.args.patterns.now) xs c.loop-clause.numbers.items) (take_all c.loop-clause.clause-index c.args.clauses.now c.loop-clause-test.false) c.loop-clause.invariant
