use Rattle.std.proofs.Common.{◌≡◌, ap, subst, ◌∙◌}
use Rattle.xd_syntax.specs.Kept.{AddsTypes, ProgramTable, program_tree}
use Rattle.xd_check_steps.specs.Found.{found_in}
use Rattle.xd_check.proofs.IsReadyLemmas.{serves_kept}
use Rattle.xd_scrutinees.proofs.MetOrder.{met_all}
use Rattle.xd_scrutinees.proofs.matches.met_matches.Goals as goal

pub returns : goal.returns
returns c =
    let a = c.in_functions.new.auto in
    let q : ProgramTable = c.in_ok-checker.checker.sound in
    let p : ProgramTable = c.args.checked.now in
    let copied : c.in_ok-sound.sound ≡ p = c.in_ok-sound.ensures ∙ c.sound.ensures.sound in
    let adds : AddsTypes p q = subst (λ (r : ProgramTable). AddsTypes r q) copied c.in_ok-checker.ensures.adds in
    let same : program_tree q ≡ program_tree p = c.in_ok-checker.ensures.same ∙ ap program_tree copied in
    let ready = c.in_ok-checker.ensures.ready in
    let walk = c.in_ok-in_functions.ensures in
    let points = serves_kept c.new.new.auto a c.in_ok-checker.checker.patterns walk.grows.extends ready.points in
    met_all p a _ (found_in c.new-findings.result) (found_in c.in_functions.new.findings) adds same ready.serves ready.patterns points walk.known.inhabitants c.new-findings.ensures.met walk.found c.in_ok-sort_matches.ensures
