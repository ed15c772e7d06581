use Rattle.std.proofs.Common.{◌≤◌, subst}
use Rattle.xd_syntax.specs.Table.{form_tree, tree_at}
use Rattle.xd_syntax.specs.Types.{form_of}
use Rattle.xd_syntax.specs.Kept.{ProgramTable}
use Rattle.xd_syntax.specs.ShallowTables.{IsShallow}
use Rattle.xd_syntax.specs.Shallow.{nesting_limit}
use Rattle.xd_syntax.specs.TypeDepth.{depth}
use Rattle.xd_sound.proofs.KnownLaws.{maybe_kept}
use Rattle.xd_syntax.proofs.ShallowTables.{shallow_one}
use Rattle.xd_sound.proofs.sound.SoundProgram.add_type.Goals as goal

pub invariant_of-self : goal.invariant_of-self
invariant_of-self c = maybe_kept _ _ _ c.add_type.ensures.adds c.add_type.ensures.same c.self.invariant

pub returns-clause-shallow : goal.returns-clause-shallow
returns-clause-shallow c =
    let new = c.add_type.new.self.types in
    subst (λ (p : ProgramTable). depth (form_tree (tree_at p.types) (form_of c.args.form)) ≤ nesting_limit → IsShallow p.types → IsShallow new) c.self.view_is
    (shallow_one _ _ _ c.add_type.ensures.adds.types c.add_type.ensures.one)
