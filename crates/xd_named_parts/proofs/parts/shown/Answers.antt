use Rattle.xd_doc.proofs.Options.{some_holds}
use Rattle.xd_doc.proofs.Results.{ok_both}
use Rattle.xd_syntax.specs.Kept.{program_tree}
use Rattle.xd_named_parts.specs.Shorter.{AreShorter}
use Rattle.xd_named_parts.proofs.NamedLaws.{given_shown, short_shown}
use Rattle.xd_named_parts.proofs.parts.shown.Goals as goal

pub returns-in-Some : goal.returns-in-Some
returns-in-Some c =
    let taken = c.args.taken.now in
    let given = c.args.given in
    let short = c.in-Some.short in
    let it = some_holds (AreShorter taken given) c.in_ok-short.field-0 short c.in-Some.is c.in_ok-short.ensures in
    ok_both c.program_of.result _ _ _ (λ shown start shows. short_shown taken given short (program_tree shown.sound) shown.start it start shows) c.program_of.ensures.start c.program_of.ensures.shown

pub returns-in-None : goal.returns-in-None
returns-in-None c =
    ok_both c.program_of-in-None.result _ _ _ (λ shown start shows. given_shown c.args.taken.now c.args.given (program_tree shown.sound) shown.start c.requires.in_order start shows) c.program_of-in-None.ensures.start c.program_of-in-None.ensures.shown
