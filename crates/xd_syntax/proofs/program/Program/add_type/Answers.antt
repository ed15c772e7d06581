use Rattle.std.proofs.Common.{◌≡◌, List, sym, subst}
use Rattle.xd_syntax.specs.Table.{Row}
use Rattle.xd_syntax.specs.PlacedTable.{the_start}
use Rattle.xd_syntax.specs.Kept.{ProgramTable, program_tree}
use Rattle.xd_syntax.specs.Types.{form_of}
use Rattle.xd_syntax.proofs.ShallowTables.{adds_one}
use Rattle.xd_syntax.proofs.KeptLaws.{program_tree-grown}
use Rattle.xd_syntax.proofs.program.Program.add_type.Goals as goal

pub returns-clause-same : goal.returns-clause-same
returns-clause-same c =
    rw (← c.self.view_is)
    (let p : ProgramTable = record { types = c.self.inside.types; patterns = c.self.inside.patterns; exprs = c.self.inside.exprs; type_defs = c.self.inside.type_defs.items; functions = c.self.inside.functions.items } in
    subst (λ (ts : List Row). program_tree (record p { types = ts }) ≡ program_tree p) (sym c.add-added.ensures.keeps.grown)
    (program_tree-grown p c.add-added.ensures.keeps.more c.self.invariant.stands))

pub returns-clause-one : goal.returns-clause-one
returns-clause-one c =
    rw (← c.self.view_is)
    (adds_one c.self.inside.types c.add-added.new.self the_start (form_of c.args.form) c.add-added.result c.add-added.ensures.grown c.add-added.ensures.err)
