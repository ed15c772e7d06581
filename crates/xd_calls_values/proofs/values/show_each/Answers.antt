use Rattle.std.proofs.Common.{subst}
use Rattle.xd_syntax.specs.Kept.{ProgramTable}
use Rattle.xd_match.specs.Serving.{Serves}
use Rattle.xd_calls_values.proofs.values.show_each.Goals as goal

pub loop-document-init : goal.loop-document-init
loop-document-init c = subst (λ (p : ProgramTable). Serves p c.args.store.now c.in_ok-matchers.matchers) c.sound.ensures.sound (c.in_ok-matchers.ensures c.args.store.now)
