use Rattle.std.proofs.Common.{arith, sym, subst}
use Rattle.xd_syntax.specs.Kept.{ProgramTable}
use Rattle.xd_syntax.specs.ShallowTables.{IsShallow}
use Rattle.xd_syntax.proofs.ShallowTables.{shallow_one}
use Rattle.xd_sound.proofs.sound.SoundProgram.find_type.Goals as goal

pub returns-in_err-add_type-clause-shallow : goal.returns-in_err-add_type-clause-shallow
returns-in_err-add_type-clause-shallow c = shallow_one _ _ _ c.add_type.ensures.adds.types c.add_type.ensures.one (omega arith)

pub returns-then-eq-clause-shallow : goal.returns-then-eq-clause-shallow
returns-then-eq-clause-shallow c = shallow_one _ _ _ c.add_type.ensures.adds.types c.add_type.ensures.one (omega arith)

pub returns-in_err-add_type-in-Some-clause-shallow : goal.returns-in_err-add_type-in-Some-clause-shallow
returns-in_err-add_type-in-Some-clause-shallow c = λ h.
    shallow_one _ _ _ c.add_type-in-Some.ensures.adds.types c.add_type-in-Some.ensures.one (omega arith) (subst (λ (p : ProgramTable). IsShallow p.types) (sym c.find_name.ensures.same) h)

pub returns-in_ok-add_type-in-Some-clause-shallow : goal.returns-in_ok-add_type-in-Some-clause-shallow
returns-in_ok-add_type-in-Some-clause-shallow c = λ h.
    shallow_one _ _ _ c.add_type-in-Some.ensures.adds.types c.add_type-in-Some.ensures.one (omega arith) (subst (λ (p : ProgramTable). IsShallow p.types) (sym c.find_name.ensures.same) h)
