use Rattle.std.proofs.Common.{◌≡◌, true, sym, subst, ◌∙◌}
use Rattle.xd_syntax.specs.Kept.{program_tree}
use Rattle.xd_syntax.specs.NameFaults.{known_types}
use Rattle.xd_syntax.specs.Program.{ProgramTree}
use Rattle.xd_syntax.specs.Tree.{uses_only}
use Rattle.xd_syntax.specs.Types.{tree}
use Rattle.xd_inclusion.specs.Compared.{IsInclusion}
use Rattle.xd_uses.specs.Comparison.{IsReadType}
use Rattle.xd_uses.proofs.ComparisonLemmas.{compared, read_kept}
use Rattle.xd_uses.proofs.types.compare_texts.Goals as goal

pub compare_types-requires-clause-left : goal.compare_types-requires-clause-left
compare_types-requires-clause-left c =
    (read_kept (program_tree c.in_ok-sound.sound) c.read_type.new.sound.types c.read_type-2.new.sound.types c.args.left.now c.in_ok-one.one c.in_ok-other.ensures.adds.types c.in_ok-one.ensures.read).0

pub compare_types-requires-clause-right : goal.compare_types-requires-clause-right
compare_types-requires-clause-right c = c.in_ok-other.ensures.read.0

pub compare_types-requires-clause-shallow : goal.compare_types-requires-clause-shallow
compare_types-requires-clause-shallow c = c.in_ok-other.ensures.shallow (c.in_ok-one.ensures.shallow c.in_ok-sound.ensures.shallow)

pub compare_types-requires-clause-left_names : goal.compare_types-requires-clause-left_names
compare_types-requires-clause-left_names c =
    let P = program_tree c.in_ok-sound.sound in
    let q = c.read_type-2.new.sound in
    let r = read_kept P c.read_type.new.sound.types q.types c.args.left.now c.in_ok-one.one c.in_ok-other.ensures.adds.types c.in_ok-one.ensures.read in
    subst (λ (Q : ProgramTree). uses_only (known_types Q) (tree q.types c.in_ok-one.one) ≡ true) (sym (c.in_ok-other.ensures.same ∙ c.in_ok-one.ensures.same)) r.1.known_names

pub compare_types-requires-clause-right_names : goal.compare_types-requires-clause-right_names
compare_types-requires-clause-right_names c =
    let q = c.read_type-2.new.sound in
    subst (λ (Q : ProgramTree). uses_only (known_types Q) (tree q.types c.in_ok-other.other) ≡ true) (sym c.in_ok-other.ensures.same) c.in_ok-other.ensures.read.1.known_names

pub returns-clause-compares : goal.returns-clause-compares
returns-clause-compares c =
    let P = program_tree c.in_ok-sound.sound in
    let q = c.read_type-2.new.sound in
    let one = c.in_ok-one.one in
    let other = c.in_ok-other.other in
    let i = c.in_ok-compare_types.field-0 in
    let ds = c.compare_types.new.store in
    let l = read_kept P c.read_type.new.sound.types q.types c.args.left.now one c.in_ok-other.ensures.adds.types c.in_ok-one.ensures.read in
    let r = subst (λ (Q : ProgramTree). IsReadType Q q.types c.args.right.now other) c.in_ok-one.ensures.same c.in_ok-other.ensures.read in
    compared P q.types c.args.definitions.now c.args.left.now c.args.right.now one other ds i c.in_ok-sound.ensures.program l r
    (subst (λ (Q : ProgramTree). IsInclusion Q (tree q.types one) (tree q.types other) ds i) (c.in_ok-other.ensures.same ∙ c.in_ok-one.ensures.same) c.in_ok-compare_types.ensures.inclusion)
