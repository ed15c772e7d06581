use Rattle.std.proofs.Common.{ℕ, List, [], ◌∷◌, ap, sym, subst}
use Rattle.std.specs.List.{AllByRecursion}
use Rattle.xd_syntax.specs.Exprs.{clause_numbers, shape_of}
use Rattle.xd_syntax.specs.Kept.{ProgramTable}
use Rattle.xd_syntax.specs.declared.exprs.Clause.{Clause}
use Rattle.xd_eval.specs.Machine.{ClausesStand, IsOfClause, IsRunnable, PartsAreRunnable}
use Rattle.xd_eval.proofs.resuming.clauses_of.Goals as goal

each : (p : ProgramTable) (cs : List Clause) → AllByRecursion (λ (c : ℕ × ℕ). IsOfClause p c.0 × IsRunnable p c.1) (clause_numbers cs) → ClausesStand p cs
each p [] a = tt
each p (c ∷ cs) a = (a.0, each p cs a.1)

pub returns-in-Match-clause-stand : goal.returns-in-Match-clause-stand
returns-in-Match-clause-stand c =
    let p = c.args.sound.now in
    let f = ap shape_of c.in-Match.is in
    subst (ClausesStand p) (sym c.as_slice.ensures.value) (each p c.in-Match.clauses.items (subst (PartsAreRunnable p) f c.form_of.ensures.parts).1)
