use Rattle.std.proofs.Common.{◌≡◌, ap, subst, sym, ◌∙◌}
use Rattle.xd_show_blocks.specs.AtStates.{Accepted}
use Rattle.xd_show_blocks.specs.Blocks.{IsShownText}
use Rattle.xd_show_blocks.proofs.BlockLemmas.{shown_text_along}
use Rattle.xd_shown.specs.Shown.{defined_names}
use Rattle.xd_command_steps.specs.Output.{Output}
use Rattle.xd_syntax.specs.Kept.{program_tree}
use Rattle.xd_syntax.specs.Program.{names_of}
use Rattle.xd_syntax.specs.Types.{tree}
use Rattle.xd_inclusion.specs.Inclusion.{FitsAlone}
use Rattle.xd_command_inclusions.proofs.Differences.{properly_alone}
use Rattle.xd_command_inclusions.proofs.command.minus.show_difference.Goals as goal

pub returns : goal.returns
returns c =
    let p = c.args.sound.now in
    let P = program_tree p in
    let E = names_of P in
    let L = tree p.types c.args.left in
    let R = tree p.types c.args.right in
    let a = c.in_ok-auto.auto in
    let s = c.in_ok-auto.state in
    let text = c.in_ok-text.text.items in
    let taken : c.deref.result.now ≡ defined_names P = c.deref.ensures.value ∙ c.in_ok-taken.ensures in
    let shown = shown_text_along (Accepted a s) (FitsAlone E L R) (defined_names P) text (properly_alone E L R a s c.in_ok-auto.ensures.exact) (subst (λ ns. IsShownText (Accepted a s) ns text) taken c.in_ok-text.ensures) in
    (ap (λ (o : Output). o.status) c.success.ensures, subst (IsShownText (FitsAlone E L R) (defined_names P)) (sym (ap (λ (o : Output). o.text) c.success.ensures)) shown)
