-- What compiles patterns knows what the names of its program stand for.
use Rattle.std.proofs.Common.{◌≡◌, arith, List, sym, subst, ◌∙◌}
use Rattle.xd_syntax.specs.Table.{Row}
use Rattle.xd_syntax.specs.Kept.{ProgramTable, ProgramStands, program_tree}
use Rattle.xd_syntax.specs.Proper.{IsProperProgram}
use Rattle.xd_syntax.specs.RecursionFaults.{IsSound}
use Rattle.xd_syntax.specs.declared.types.TypeDef.{TypeDef}
use Rattle.xd_syntax.proofs.KeptLaws.{along}
use Rattle.xd_laws.proofs.SoundGuarded.{guarded}
use Rattle.xd_pattern_runs.proofs.NamesBindNothing.{names_bind_nothing}
use Rattle.xd_sound.specs.TypeNames.{AreNumbered}
use Rattle.xd_continuations.proofs.Bodied.{are_bodies}
use Rattle.xd_continuations.proofs.GrownTables.{bodies_stand, more_rows, tree_stays}
use Rattle.xd_patterns.specs.Sources.{AreDefined}
use Rattle.xd_patterns.specs.Compiler.{Serves, ServesStays}
use Rattle.xd_patterns.specs.declared.compiler.PatternCompiler.{PatternCompiler}

pub serves_stays : ServesStays
serves_stays p q c s a e =
    let more = more_rows p.types q.types a.types in
    let there = s.any_there in
    record {
      any_there = omega arith;
      any_is = tree_stays p.types q.types a.types c.bodies.any s.any_there ∙ s.any_is;
      names = subst (AreNumbered c.bodies.names) (sym a.type_defs) s.names;
    }

-- its sources are right where they are those of the program
pub serves_defined : (p q : ProgramTable) (c : PatternCompiler) (types : List Row) (ds : List TypeDef) → q ≡ p → types ≡ q.types → ds ≡ q.type_defs → ProgramStands q →
    IsSound (program_tree p) → IsProperProgram (program_tree p) → Serves p c → AreDefined types ds c.bodies
serves_defined p q c types ds e f g stands sound proper serves =
    let s = subst (λ r. Serves r c) (sym e) serves in
    along q types ds (λ t d. AreDefined t d c.bodies) f g
    (record {
      guarded = guarded (program_tree q) (subst (λ r. IsSound (program_tree r)) (sym e) sound);
      none = names_bind_nothing (program_tree q) (subst (λ r. IsProperProgram (program_tree r)) (sym e) proper);
      bodies = are_bodies q.types q.type_defs c.bodies (bodies_stand q stands) s.names s.any_there s.any_is;
    })
