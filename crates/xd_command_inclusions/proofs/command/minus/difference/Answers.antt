use Rattle.std.proofs.Common.{refl, ap, subst, ◌∙◌}
use Rattle.std.proofs.lemmas.Result.{IfOk-weaker}
use Rattle.xd_syntax.specs.Kept.{program_tree}
use Rattle.xd_syntax.specs.Program.{names_of}
use Rattle.xd_syntax.specs.Types.{tree}
use Rattle.xd_sound.proofs.AdoptLaws.{type_kept}
use Rattle.xd_command_documents.specs.FitsByState.{IsAcceptor}
use Rattle.xd_command_inclusions.proofs.Differences.{alone_by}
use Rattle.xd_command_inclusions.proofs.command.minus.difference.Goals as goal

pub acceptor-requires-2 : goal.acceptor-requires-2
acceptor-requires-2 c =
    let p = c.args.sound.now in
    (type_kept p.types c.acceptor.new.sound.types (tree p.types c.args.right) c.args.right c.in_ok-one.ensures.adds.types (record { belongs = c.requires.right; same = refl })).belongs

pub returns-clause-exact : goal.returns-clause-exact
returns-clause-exact c =
    let p = c.args.sound.now in
    let q = c.acceptor.new.sound in
    let E = names_of (program_tree p) in
    let L = tree p.types c.args.left in
    let R = tree p.types c.args.right in
    let one = c.in_ok-one.one in
    let first = c.in_ok-one.first in
    let two = c.in_ok-two.two in
    let second = c.in_ok-two.second in
    let there = type_kept p.types q.types R c.args.right c.in_ok-one.ensures.adds.types (record { belongs = c.requires.right; same = refl }) in
    let right = subst (λ T. IsAcceptor E T two second) there.same (subst (λ F. IsAcceptor F (tree q.types c.args.right) two second) (ap names_of c.in_ok-one.ensures.same) c.in_ok-two.ensures.acceptor) in
    IfOk-weaker c.minus.result _ _ (λ made exact. alone_by E L R one two made.0 first second made.1 c.in_ok-one.ensures.acceptor right exact) c.minus.ensures.exact

pub returns-clause-same : goal.returns-clause-same
returns-clause-same c = c.in_ok-two.ensures.same ∙ c.in_ok-one.ensures.same
