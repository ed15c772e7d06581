use Rattle.std.proofs.Common.{subst, sym}
use Rattle.xd_proof.specs.Lines.{SpellsNumber}
use Rattle.xd_command.proofs.Numbers.{number_found, number_too_great}
use Rattle.xd_command.proofs.command.number_within.Goals as goal

pub returns-then-number-limit : goal.returns-then-number-limit
returns-then-number-limit c = sym (number_too_great c.args.limit c.args.word.now c.in-Some.number (subst (λ w. SpellsNumber w c.in-Some.number) c.as_bytes.ensures.value c.in-Some.ensures) c.if-number-limit.true)

pub returns : goal.returns
returns c = let h = c.if-number-limit.false in sym (number_found c.args.limit c.args.word.now c.in-Some.number (subst (λ w. SpellsNumber w c.in-Some.number) c.as_bytes.ensures.value c.in-Some.ensures) h)
