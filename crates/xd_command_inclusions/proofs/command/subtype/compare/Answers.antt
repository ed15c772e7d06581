use Rattle.std.proofs.Common.{◌≡◌, ◌<◌, length, inl, inr, ap, sym, subst}
use Rattle.xd_doc.specs.Stored.{document_at}
use Rattle.xd_doc.proofs.Results.{ok_both}
use Rattle.xd_least.specs.Least.{size_limit}
use Rattle.xd_command_steps.specs.Output.{Output, separated}
use Rattle.xd_inclusion.specs.Compared.{IsInclusion}
use Rattle.xd_inclusion.specs.Inclusion.{FitsAlone, ProvesInclusion}
use Rattle.xd_syntax.specs.Kept.{program_tree}
use Rattle.xd_syntax.specs.Program.{names_of}
use Rattle.xd_syntax.specs.Types.{tree}
use Rattle.xd_command_inclusions.specs.Subtype.{AnswersInclusion}
use Rattle.xd_command_inclusions.proofs.Separations.{least_separated}
use Rattle.xd_command_inclusions.proofs.command.subtype.compare.Goals as goal

pub returns-in-Proved : goal.returns-in-Proved
returns-in-Proved c =
    let P = program_tree c.args.sound.now in
    let L = tree c.args.sound.now.types c.args.left in
    let R = tree c.args.sound.now.types c.args.right in
    let h = subst (IsInclusion P L R c.compare_types.new.store) c.in-Proved.is c.in_ok-text.ensures.inclusion in
    inl (h.0, ap (λ (o : Output). o.status) c.success.ensures, subst (ProvesInclusion P L R) (sym (ap (λ (o : Output). o.text) c.success.ensures)) h.1)

pub separate-requires : goal.separate-requires
separate-requires c =
    let P = program_tree c.args.sound.now in
    let L = tree c.args.sound.now.types c.args.left in
    let R = tree c.args.sound.now.types c.args.right in
    let h = subst (IsInclusion P L R c.compare_types.new.store) c.in-Separated.is c.in_ok-text.ensures.inclusion in
    h.0

pub returns : goal.returns
returns c =
    let P = program_tree c.args.sound.now in
    let L = tree c.args.sound.now.types c.args.left in
    let R = tree c.args.sound.now.types c.args.right in
    let ds = c.compare_types.new.store in
    let d = document_at ds c.in-Separated.document in
    let h = subst (IsInclusion P L R ds) c.in-Separated.is c.in_ok-text.ensures.inclusion in
    ok_both c.separate.result (λ (o : Output). o ≡ separated d) (λ (o : Output). length o.text < size_limit) (AnswersInclusion P L R)
    (λ o e small. inr (d, least_separated (FitsAlone (names_of P) L R) d o h.1 e small, e)) c.separate.ensures.output c.separate.ensures.size
