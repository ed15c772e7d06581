use Rattle.std.proofs.Common.{refl, sym, subst}
use Rattle.xd_heads.specs.Numbered.{Serves}
use Rattle.xd_syntax.specs.Kept.{ProgramTable}
use Rattle.xd_syntax.specs.Types.{BelongsTo, tree}
use Rattle.xd_sound.proofs.AdoptLaws.{type_kept}
use Rattle.xd_calls_states.proofs.types.show_numbered_of.Goals as goal

pub heads-requires-clause-belongs : goal.heads-requires-clause-belongs
heads-requires-clause-belongs c =
    let old = c.args.sound.now.types in
    let q = c.new.new.sound in
    subst (λ (p : ProgramTable). BelongsTo p.types c.args.id) (sym c.program.ensures.program)
    (type_kept old q.types (tree old c.args.id) c.args.id c.in_ok-lister.ensures.adds.types (record { belongs = c.requires; same = refl })).belongs

pub heads-requires-clause-serves : goal.heads-requires-clause-serves
heads-requires-clause-serves c = subst (λ (p : ProgramTable). Serves p c.in_ok-lister.lister) (sym c.program.ensures.program) c.in_ok-lister.ensures.serves
