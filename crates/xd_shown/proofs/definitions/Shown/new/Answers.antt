use Rattle.std.proofs.Common.{sym, subst}
use Rattle.xd_syntax.specs.Program.{ProgramTree}
use Rattle.xd_shown.specs.Bodies.{ShowsMeanings}
use Rattle.xd_shown.proofs.AreMeantLemmas.{first_is, shows_meanings}
use Rattle.xd_shown.proofs.definitions.Shown.new.Goals as goal

pub returns-clause-shown : goal.returns-clause-shown
returns-clause-shown c =
    let types = c.args.types in
    let words = c.args.words.now in
    let bodies = c.args.bodies.now in
    let start = c.in_ok-start.start in
    let first = first_is words c.index-words-0.result start c.requires.bodies.some c.index-words-0.is c.in_ok-start.ensures in
    subst (λ (P : ProgramTree). ShowsMeanings types words bodies P start) (sym c.in_ok-sound.ensures)
    (shows_meanings types words bodies c.see_table.ensures c.requires.names c.requires.bodies start first)
