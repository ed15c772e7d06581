use Rattle.std.proofs.Common.{◌≡◌, rules}
use Rattle.std.specs.Prelude.{codes}
use Rattle.xd_proof_read.proofs.LineFacts.{end_said, no_keyword}
use Rattle.xd_proof_read.proofs.said.read_line.Goals as goal

pub returns-then-eq-clause-said : goal.returns-then-eq-clause-said
returns-then-eq-clause-said c =
    let e : c.args.line.now ≡ codes "end" = search rules in
    end_said c.args.sound.now c.args.naming.now c.args.line.now c.args.sound.now.types e

pub returns-in_default-keyword_of-clause-said : goal.returns-in_default-keyword_of-clause-said
returns-in_default-keyword_of-clause-said c =
    let m = c.in-Some.ensures in
    no_keyword c.args.sound.now c.args.naming.now c.args.line.now c.in-Some.behind.now c.in-Some.word.now m.0 m.1 c.in_default-keyword_of.ensures
