use Rattle.std.proofs.Common.{◌∙◌, Some, None}
use Rattle.xd_grammar.specs.declared.text.TextFault.TheVariants as faults
use Rattle.xd_grammar.proofs.TextLemmas.{found_text, refused_text}
use Rattle.xd_grammar.proofs.fault.spelled_tokens.Goals as goal

pub returns-in-Err-clause-error : goal.returns-in-Err-clause-error
returns-in-Err-clause-error c = refused_text c.args.part c.args.bytes.now (faults.NotUtf8 c.in-Err.e.place) c.in-Err.ensures.err

pub returns-in-None-clause-spells : goal.returns-in-None-clause-spells
returns-in-None-clause-spells c = found_text c.args.part c.args.bytes.now c.fork.result None c.requires c.in-Ok.ensures.utf8 (c.fork.ensures ∙ c.in-Ok.ensures.ok) (rw c.in-None.is at c.in_ok-first_fault.ensures)

pub returns-in-Some-clause-error : goal.returns-in-Some-clause-error
returns-in-Some-clause-error c =
    refused_text c.args.part c.args.bytes.now c.in-Some.fault
    (found_text c.args.part c.args.bytes.now c.fork.result (Some c.in-Some.fault) c.requires c.in-Ok.ensures.utf8 (c.fork.ensures ∙ c.in-Ok.ensures.ok) (rw c.in-Some.is at c.in_ok-first_fault.ensures))
