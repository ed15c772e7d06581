use Rattle.std.proofs.Common.{nat_eq, cond, Some, ap, ◌∙◌}
use Rattle.std.specs.HashMap.{get}
use Rattle.xd_proof_write.proofs.NumberLemmas.{knows_more}
use Rattle.xd_proof_write.proofs.numbers.Numbers.number.Goals as goal

pub returns-clause-knows : goal.returns-clause-knows
returns-clause-knows c =
    knows_more c.args.types.now c.args.self.now _ c.args.id.at c.in_ok-number.number c.in_ok-number.ensures.texts c.in_ok-number.ensures.number
    (λ q. (c.in_ok-insert.ensures.updates).0 q ∙ ap (λ k. cond (nat_eq k q) (Some c.in_ok-number.number) (get nat_eq c.put.new.self.known q)) c.at-2.ensures ∙ ap (λ m. cond (nat_eq c.args.id.at q) (Some c.in_ok-number.number) (get nat_eq m q)) c.in_ok-number.ensures.known) c.requires.knows
