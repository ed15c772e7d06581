use Rattle.std.proofs.Common.{◌≡◌, length, vec_len, rules, ◌∙◌}
use Rattle.std.proofs.lemmas.Result.{err_from_is_err_and}
use Rattle.xd_syntax.proofs.ShallowTables.{shallow_grown}
use Rattle.xd_syntax.specs.Kept.{program_tree}
use Rattle.xd_syntax.specs.NameFaults.{known_types}
use Rattle.xd_proof_read.proofs.DepthFacts.{proof_shallow}
use Rattle.xd_proof_read.proofs.FormatFacts.{text_tells, text_reads, text_left}
use Rattle.xd_proof_read.proofs.read.read_proof.Goals as goal

pub returns-in_err-proof-clause-bad : goal.returns-in_err-proof-clause-bad
returns-in_err-proof-clause-bad c =
    let p = err_from_is_err_and c.from_residual-in_err-proof.result c.from_residual-in_err-proof.ensures.1 in
    rw (p.1, p.2) (text_tells c.args.sound.now c.args.bytes.now c.deref.result.now _ _ c.deref.ensures.value c.in_ok-text.ensures c.in_err-proof.field-0.0 c.in_err-proof.ensures.bad)

pub returns-in_err-proof-clause-shallow : goal.returns-in_err-proof-clause-shallow
returns-in_err-proof-clause-shallow c = let g = c.read_lines.ensures.grows in shallow_grown c.args.sound.now.types c.read_lines.new.sound.types g.adds.types g.within

pub returns-then-is_empty-clause-shallow : goal.returns-then-is_empty-clause-shallow
returns-then-is_empty-clause-shallow c = let g = c.read_lines.ensures.grows in shallow_grown c.args.sound.now.types c.read_lines.new.sound.types g.adds.types g.within

pub returns-clause-shallow : goal.returns-clause-shallow
returns-clause-shallow c = let g = c.read_lines.ensures.grows in shallow_grown c.args.sound.now.types c.read_lines.new.sound.types g.adds.types g.within

pub returns-then-is_empty-clause-deep : goal.returns-then-is_empty-clause-deep
returns-then-is_empty-clause-deep c =
    proof_shallow (known_types (program_tree c.args.sound.now)) c.read_lines.new.sound.types c.in_ok-proof.proof c.args.bytes.now
    (text_reads c.args.sound.now c.args.bytes.now c.deref.result.now _ _ c.deref.ensures.value c.in_ok-text.ensures c.read_lines.new.sound.types c.in_ok-proof.proof c.is_empty.result c.is_empty.ensures c.if-is_empty.true c.in_ok-proof.ensures.ok)

pub returns-then-is_empty-clause-read : goal.returns-then-is_empty-clause-read
returns-then-is_empty-clause-read c =
    text_reads c.args.sound.now c.args.bytes.now c.deref.result.now _ _ c.deref.ensures.value c.in_ok-text.ensures c.read_lines.new.sound.types c.in_ok-proof.proof c.is_empty.result c.is_empty.ensures c.if-is_empty.true c.in_ok-proof.ensures.ok

pub returns-clause-bad : goal.returns-clause-bad
returns-clause-bad c =
    let l : vec_len c.in_ok-text.text.lines ≡ length c.in_ok-text.text.lines.items = search rules in
    text_left c.args.sound.now c.args.bytes.now c.deref.result.now _ _ c.deref.ensures.value c.in_ok-text.ensures c.read_lines.new.sound.types c.in_ok-proof.proof c.is_empty.result c.len.result c.is_empty.ensures c.if-is_empty.false (c.len.ensures ∙ l) c.in_ok-proof.ensures.ok
