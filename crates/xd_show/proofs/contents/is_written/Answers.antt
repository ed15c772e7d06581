use Rattle.std.proofs.Common.{sym, ◌∙◌, ap, get_or, None}
use Rattle.std.specs.Option.{is_some}
use Rattle.xd_show_solve.specs.Levels.{known_of}
use Rattle.xd_show_solve.proofs.PlaceLaws.{some_of}
use Rattle.xd_show.proofs.contents.is_written.Goals as goal

pub returns-then-number-written : goal.returns-then-number-written
returns-then-number-written c = λ e.
    some_of (known_of c.args.written.now c.args.state) (ap (λ k. is_some (get_or c.args.written.now k None)) (sym c.number-then-number-written.ensures) ∙ sym c.is_some.ensures ∙ e)
