use Rattle.std.proofs.Common.{refl, ap, subst}
use Rattle.xd_syntax.specs.Kept.{ProgramTable, program_tree}
use Rattle.xd_syntax.specs.Program.{names_of}
use Rattle.xd_syntax.specs.Types as types
use Rattle.xd_sound.proofs.AdoptLaws.{type_kept}
use Rattle.xd_command_documents.specs.FitsByState.{IsAcceptor}
use Rattle.xd_command_documents.proofs.membership.acceptor.Goals as goal

pub compile_plain_type-requires-clause-belongs : goal.compile_plain_type-requires-clause-belongs
compile_plain_type-requires-clause-belongs c =
    let p : ProgramTable = c.args.sound.now in
    (type_kept p.types c.new.new.sound.types (types.tree p.types c.args.id) c.args.id c.in_ok-compiler.ensures.adds.types (record { belongs = c.requires; same = refl })).belongs

-- the types that the compiler adds leave this one as it is
pub returns-clause-acceptor : goal.returns-clause-acceptor
returns-clause-acceptor c =
    let p : ProgramTable = c.args.sound.now in
    let q : ProgramTable = c.new.new.sound in
    let made = c.in_ok-state.ensures in
    let there = type_kept p.types q.types (types.tree p.types c.args.id) c.args.id c.in_ok-compiler.ensures.adds.types (record { belongs = c.requires; same = refl }) in
    subst (λ E. IsAcceptor E (types.tree p.types c.args.id) c.compile_plain_type.new.auto c.in_ok-state.state) (ap names_of c.in_ok-compiler.ensures.same)
    (subst (λ T. IsAcceptor (names_of (program_tree q)) T c.compile_plain_type.new.auto c.in_ok-state.state) there.same (made.state, made.accepts))
