use Rattle.std.proofs.Common.{refl}
use Rattle.xd_syntax.specs.Types.{tree}
use Rattle.xd_sound.proofs.AdoptLaws.{type_kept}
use Rattle.xd_calls_clauses.proofs.patterns.plain_state.Goals as goal

pub compile_plain_type-requires-clause-belongs : goal.compile_plain_type-requires-clause-belongs
compile_plain_type-requires-clause-belongs c =
    let old = c.args.sound.now.types in
    (type_kept old c.new.new.sound.types (tree old c.args.id) c.args.id c.in_ok-compiler.ensures.adds.types (record { belongs = c.requires; same = refl })).belongs
