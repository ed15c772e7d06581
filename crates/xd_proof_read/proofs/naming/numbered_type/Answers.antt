use Rattle.std.proofs.Common.{◌-◌, refl}
use Rattle.xd_proof_read.proofs.NamingFacts.{numbered_there, numbered_not}
use Rattle.xd_proof_read.proofs.naming.numbered_type.Goals as goal

pub returns-then-at-types : goal.returns-then-at-types
returns-then-at-types c = λ rows a. numbered_there rows c.args.types.now c.args.bytes.now c.in_ok-number.number _ a c.in_ok-number.ensures c.if-at-types.true

pub returns-else-at-types : goal.returns-else-at-types
returns-else-at-types c = λ rows a. numbered_not rows c.args.types.now c.args.bytes.now c.in_ok-number.number (c.in_ok-number.number - 1) c.in_ok-number.ensures refl c.if-at-types.false
