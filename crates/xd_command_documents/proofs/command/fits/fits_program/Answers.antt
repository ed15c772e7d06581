use Rattle.std.proofs.Common.{◌≡◌, true, Option, sym, ap, subst, ◌∙◌}
use Rattle.std.specs.Option.{IfSome}
use Rattle.std.specs.Prelude.{is_some}
use Rattle.xd_base.specs.Outside.{HasRisen}
use Rattle.xd_syntax.specs.Kept.{program_tree}
use Rattle.xd_syntax.specs.Program.{ProgramTree, names_of}
use Rattle.xd_syntax.specs.Sound.{is_defined, type_named}
use Rattle.xd_syntax.specs.SoundTables.{IsTypeAt}
use Rattle.xd_syntax.specs.Tree.{Tree}
use Rattle.xd_syntax.specs.Types.{tree}
use Rattle.xd_syntax.specs.declared.types.TypeId.{TypeId}
use Rattle.xd_command_steps.specs.Output.{Output}
use Rattle.xd_command_documents.specs.FitsByState.{AnswersByState, IsAcceptor}
use Rattle.xd_command_documents.specs.Fits.{AnswersFits}
use Rattle.xd_command_documents.proofs.Steps.{does-map, fits_by_state}
use Rattle.xd_command_documents.proofs.command.fits.fits_program.Goals as goal

pub returns : goal.returns
returns g c =
    let P = program_tree c.args.sound.now in
    let name = c.args.name.now in
    let types = c.find_type.new.self.types in
    let a = c.in_ok-auto.auto in
    let s = c.in_ok-auto.state in
    let holds = g.H.Shelf.holds c.args.shelf.now in
    let rose = HasRisen (g.H.Shelf.faults c.args.shelf.now) (g.H.Shelf.faults c.accepts_file.new.shelf) in
    let defined : is_defined P name ≡ true = sym c.in_ok-id.ensures.defined ∙ ap is_some c.in-Some.is in
    let typed = subst (λ (o : Option TypeId). IfSome o (IsTypeAt types (type_named name))) c.in-Some.is c.in_ok-id.ensures.found in
    let acceptor = subst (λ (T : Tree). IsAcceptor (names_of P) T a s) typed.same
    (subst (λ (Q : ProgramTree). IsAcceptor (names_of Q) (tree types c.in-Some.id) a s) c.find_type.ensures.same c.in_ok-auto.ensures.acceptor) in
    let by_state = AnswersByState a s holds rose c.args.document.now in
    let answers = AnswersFits holds rose name c.args.document.now P in
    let step : (o : Output) → by_state o → answers o = λ o h. fits_by_state holds rose name c.args.document.now P a s o defined acceptor h in
    does-map by_state answers by_state answers c.accepts_file.result step step c.accepts_file.ensures
