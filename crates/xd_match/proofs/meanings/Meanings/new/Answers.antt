use Rattle.std.proofs.Common.{◌<◌, List, ap, length, sym, subst, ◌∙◌}
use Rattle.xd_syntax.specs.Table.{KeepsRows, Row, tree_at}
use Rattle.xd_sound.specs.TypeNames.{AreNumbered}
use Rattle.xd_match.proofs.MeaningLaws.{means}
use Rattle.xd_match.proofs.meanings.Meanings.new.Goals as goal

pub returns : goal.returns
returns c =
    let types = c.add_any.new.types in
    let found = c.in_ok-any.ensures in
    means c.args.program.now (record { types = types; bodies = record { names = c.in_ok-names.names; any = c.at.result } })
    (subst (λ (ts : List Row). KeepsRows ts types) (c.in_ok-types.ensures ∙ c.types.ensures.types) found.keeps) c.types.ensures.stands
    (subst (AreNumbered c.in_ok-names.names) c.type_defs.ensures.type_defs c.in_ok-names.ensures) (subst (λ i. i < length types) (sym c.at.ensures) found.belongs)
    (ap (tree_at types) c.at.ensures ∙ found.tree)
