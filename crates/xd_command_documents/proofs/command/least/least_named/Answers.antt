use Rattle.std.proofs.Common.{◌≡◌, true, Option, ap, inr, subst, sym, ◌∙◌}
use Rattle.std.specs.Option.{IfSome}
use Rattle.std.specs.Prelude.{is_some}
use Rattle.xd_syntax.specs.Kept.{program_tree}
use Rattle.xd_syntax.specs.Program.{ProgramTree, names_of}
use Rattle.xd_syntax.specs.Sound.{is_defined, type_named}
use Rattle.xd_syntax.specs.SoundTables.{IsTypeAt}
use Rattle.xd_syntax.specs.Tree.{Tree}
use Rattle.xd_syntax.specs.Types.{tree}
use Rattle.xd_syntax.specs.declared.types.TypeId.{TypeId}
use Rattle.xd_command_documents.specs.FitsByState.{IsAcceptor}
use Rattle.xd_command_documents.proofs.LeastDocuments.{least_by_state}
use Rattle.xd_command_documents.proofs.command.least.least_named.Goals as goal

pub returns : goal.returns
returns c =
    let P = program_tree c.args.sound.now in
    let name = c.args.name.now in
    let types = c.find_type.new.self.types in
    let a = c.in_ok-auto.auto in
    let s = c.in_ok-auto.state in
    let defined : is_defined P name ≡ true = sym c.in_ok-id.ensures.defined ∙ ap is_some c.in-Some.is in
    let typed = subst (λ (o : Option TypeId). IfSome o (IsTypeAt types (type_named name))) c.in-Some.is c.in_ok-id.ensures.found in
    let acceptor = subst (λ (T : Tree). IsAcceptor (names_of P) T a s) typed.same
    (subst (λ (Q : ProgramTree). IsAcceptor (names_of Q) (tree types c.in-Some.id) a s) c.find_type.ensures.same c.in_ok-auto.ensures.acceptor) in
    inr (defined, least_by_state (names_of P) (type_named name) a s c.in_ok-least_of.field-0 acceptor c.in_ok-least_of.ensures)
