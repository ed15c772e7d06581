use Rattle.std.proofs.Common.{◌∷◌, ◌++◌, [], sym, subst}
use Rattle.xd_lex.specs.Spelled.{unescaped}
use Rattle.xd_stream.specs.Pending.{RefusesByte}
use Rattle.xd_stream.proofs.Inside.{quoted_refused, quoted_utf8}
use Rattle.xd_stream.proofs.machine.Machine.take_every_text.Goals as goal

pub returns-in-Err-clause-err : goal.returns-in-Err-clause-err
returns-in-Err-clause-err c =
    subst (RefusesByte c.args.self.now 34) (sym c.error_at.ensures)
    (quoted_refused c.args.self.now c.requires.mode c.requires.none c.in-Err.refusal
    (c.in-Err.ensures.err (unescaped (c.args.self.now.held.items ++ 34 ∷ [])) (quoted_utf8 c.args.self.now c.requires.mode c.requires.none c.requires.stands)))

pub returns-clause-ok : goal.returns-clause-ok
returns-clause-ok c = c.in_default.ensures.ok (unescaped (c.args.self.now.held.items ++ 34 ∷ [])) (quoted_utf8 c.args.self.now c.requires.mode c.requires.none c.requires.stands)
