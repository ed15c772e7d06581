use Rattle.std.proofs.Common.{[], ◌∷◌, sym, subst}
use Rattle.std.specs.List.{AllByRecursion}
use Rattle.xd_patterns.specs.Starting.{CanStart}
use Rattle.xd_patterns.proofs.Starting.{can_start_type}
use Rattle.xd_patterns.specs.Sources.{tables}
use Rattle.xd_patterns.proofs.plain.compile_plain.Goals as goal

pub compile_pieces-requires-clause-pieces : goal.compile_pieces-requires-clause-pieces
compile_pieces-requires-clause-pieces c =
    let t = tables c.args.sources.now in
    subst (λ q. AllByRecursion (CanStart t) (q ∷ [])) (sym c.piece_of_type-piece.ensures) (can_start_type t c.see_table.ensures c.args.id c.requires.belongs, tt)
