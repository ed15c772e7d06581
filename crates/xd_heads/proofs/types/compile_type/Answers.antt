use Rattle.std.proofs.Common.{◌≡◌, ◌↔◌, true, Some, refl, ap, sym, subst, ◌∙◌}
use Rattle.xd_auto.specs.Automaton.{accepts}
use Rattle.xd_auto.proofs.ExtendsLemmas.{Extends-same, keeps}
use Rattle.xd_syntax.specs.Tree.{Tree}
use Rattle.xd_syntax.specs.Table.{tree_at}
use Rattle.xd_syntax.specs.Fits.{Fits}
use Rattle.xd_syntax.specs.Kept.{ProgramTable, program_tree}
use Rattle.xd_syntax.specs.Program.{ProgramTree, names_of}
use Rattle.xd_heads.specs.Mirrors.{continuation_of, KeepsStates, Mirrors}
use Rattle.xd_heads.proofs.GrowsTypesLemmas.{grows_along}
use Rattle.xd_heads.proofs.SparesLemmas.{spares_extends}
use Rattle.xd_continuations.proofs.GrownTables.{tree_stays}
use Rattle.xd_heads.proofs.Mirrored.{mirrors_stay}
use Rattle.xd_heads.proofs.KeepsStatesLemmas.{keeps_from, type_state}
use Rattle.xd_heads.proofs.types.compile_type.Goals as goal

pub compile_in-requires-clause-mirrors : goal.compile_in-requires-clause-mirrors
compile_in-requires-clause-mirrors c =
    subst (λ (p : ProgramTable). Mirrors p c.args.cells.now c.args.auto.now) (sym (c.program.ensures.program ∙ c.take_known.ensures.same))
    (mirrors_stay c.args.sound.now c.meaning_of_any.new.sound c.args.cells.now c.args.auto.now c.requires.mirrors c.meaning_of_any.ensures.adds c.meaning_of_any.ensures.same)

pub returns-in_err-state-clause-keeps : goal.returns-in_err-state-clause-keeps
returns-in_err-state-clause-keeps c =
    keeps c.args.auto.now c.compile_in.new.auto c.len-states.ensures.closed (spares_extends c.args.auto.now c.compile_in.new.auto c.compile_in.ensures.spares)

pub returns-clause-keeps : goal.returns-clause-keeps
returns-clause-keeps c =
    keeps c.args.auto.now c.compile_in.new.auto c.len-states.ensures.closed (spares_extends c.args.auto.now c.compile_in.new.auto c.compile_in.ensures.spares)

pub returns-clause-state : goal.returns-clause-state
returns-clause-state c =
    type_state c.program.result.now.types c.compile_in.new.cells c.compile_in.new.auto c.in_ok-state.state (tree_at c.program.result.now.types c.args.id.at) c.in_ok-state.ensures.mirrors.states c.in_ok-state.ensures.continuation

pub returns-clause-accepts : goal.returns-clause-accepts
returns-clause-accepts c d =
    let p = c.program.result.now in
    let q = c.args.sound.now in
    let e = c.program.ensures.program ∙ c.take_known.ensures.same in
    let same : program_tree p ≡ program_tree q = ap program_tree e ∙ c.meaning_of_any.ensures.same in
    let t : tree_at p.types c.args.id.at ≡ tree_at q.types c.args.id.at =
    ap (λ (r : ProgramTable). tree_at r.types c.args.id.at) e ∙ tree_stays q.types c.meaning_of_any.new.sound.types c.meaning_of_any.ensures.adds.types c.args.id.at c.requires.belongs in
    subst (λ (P : ProgramTree). (accepts c.compile_in.new.auto d c.in_ok-state.state ≡ true) ↔ Fits (names_of P) (tree_at q.types c.args.id.at) d) same
    (subst (λ (T : Tree). (accepts c.compile_in.new.auto d c.in_ok-state.state ≡ true) ↔ Fits (names_of (program_tree p)) T d) t (c.in_ok-state.ensures.accepts d))

pub returns-clause-continuation : goal.returns-clause-continuation
returns-clause-continuation c =
    let q = c.args.sound.now in
    let e = c.program.ensures.program ∙ c.take_known.ensures.same in
    let t : tree_at c.program.result.now.types c.args.id.at ≡ tree_at q.types c.args.id.at =
    ap (λ (r : ProgramTable). tree_at r.types c.args.id.at) e ∙ tree_stays q.types c.meaning_of_any.new.sound.types c.meaning_of_any.ensures.adds.types c.args.id.at c.requires.belongs in
    subst (λ (r : ProgramTable). continuation_of r.types c.compile_in.new.cells c.in_ok-state.state ≡ Some (tree_at q.types c.args.id.at)) (c.program.ensures.program ∙ sym c.give_back.ensures)
    (c.in_ok-state.ensures.continuation ∙ ap Some t)

pub returns-clause-owners : goal.returns-clause-owners
returns-clause-owners c =
    let q = c.args.sound.now in
    let e = c.program.ensures.program ∙ c.take_known.ensures.same in
    let k = subst (λ (r : ProgramTable). KeepsStates r.types r.types c.args.cells.now c.compile_in.new.cells) e c.in_ok-state.ensures.owners in
    subst (λ (r : ProgramTable). KeepsStates q.types r.types c.args.cells.now c.compile_in.new.cells) (sym (c.give_back.ensures ∙ c.take_known.ensures.same))
    (keeps_from q.types c.meaning_of_any.new.sound.types c.meaning_of_any.ensures.adds.types c.args.cells.now c.compile_in.new.cells c.requires.mirrors.kept.nodes k)

pub returns-in_err-any-clause-adds : goal.returns-in_err-any-clause-adds
returns-in_err-any-clause-adds c = c.meaning_of_any.ensures.adds

pub returns-in_err-any-clause-same : goal.returns-in_err-any-clause-same
returns-in_err-any-clause-same c = c.meaning_of_any.ensures.same

pub returns-in_err-any-clause-shallow : goal.returns-in_err-any-clause-shallow
returns-in_err-any-clause-shallow c = c.meaning_of_any.ensures.shallow

pub returns-in_err-names-clause-adds : goal.returns-in_err-names-clause-adds
returns-in_err-names-clause-adds c = (grows_along c.args.sound.now c.meaning_of_any.new.sound c.take_known.new.self c.meaning_of_any.ensures.adds c.meaning_of_any.ensures.same c.meaning_of_any.ensures.shallow c.take_known.ensures.same).adds

pub returns-in_err-names-clause-same : goal.returns-in_err-names-clause-same
returns-in_err-names-clause-same c = (grows_along c.args.sound.now c.meaning_of_any.new.sound c.take_known.new.self c.meaning_of_any.ensures.adds c.meaning_of_any.ensures.same c.meaning_of_any.ensures.shallow c.take_known.ensures.same).same

pub returns-in_err-names-clause-shallow : goal.returns-in_err-names-clause-shallow
returns-in_err-names-clause-shallow c = (grows_along c.args.sound.now c.meaning_of_any.new.sound c.take_known.new.self c.meaning_of_any.ensures.adds c.meaning_of_any.ensures.same c.meaning_of_any.ensures.shallow c.take_known.ensures.same).shallow

pub returns-in_err-state-clause-adds : goal.returns-in_err-state-clause-adds
returns-in_err-state-clause-adds c = (grows_along c.args.sound.now c.meaning_of_any.new.sound c.take_known.new.self c.meaning_of_any.ensures.adds c.meaning_of_any.ensures.same c.meaning_of_any.ensures.shallow c.take_known.ensures.same).adds

pub returns-in_err-state-clause-same : goal.returns-in_err-state-clause-same
returns-in_err-state-clause-same c = (grows_along c.args.sound.now c.meaning_of_any.new.sound c.take_known.new.self c.meaning_of_any.ensures.adds c.meaning_of_any.ensures.same c.meaning_of_any.ensures.shallow c.take_known.ensures.same).same

pub returns-in_err-state-clause-shallow : goal.returns-in_err-state-clause-shallow
returns-in_err-state-clause-shallow c = (grows_along c.args.sound.now c.meaning_of_any.new.sound c.take_known.new.self c.meaning_of_any.ensures.adds c.meaning_of_any.ensures.same c.meaning_of_any.ensures.shallow c.take_known.ensures.same).shallow

pub returns-clause-adds : goal.returns-clause-adds
returns-clause-adds c = (grows_along c.args.sound.now c.meaning_of_any.new.sound c.give_back.new.self c.meaning_of_any.ensures.adds c.meaning_of_any.ensures.same c.meaning_of_any.ensures.shallow (c.give_back.ensures ∙ c.take_known.ensures.same)).adds

pub returns-clause-same : goal.returns-clause-same
returns-clause-same c = (grows_along c.args.sound.now c.meaning_of_any.new.sound c.give_back.new.self c.meaning_of_any.ensures.adds c.meaning_of_any.ensures.same c.meaning_of_any.ensures.shallow (c.give_back.ensures ∙ c.take_known.ensures.same)).same

pub returns-clause-shallow : goal.returns-clause-shallow
returns-clause-shallow c = (grows_along c.args.sound.now c.meaning_of_any.new.sound c.give_back.new.self c.meaning_of_any.ensures.adds c.meaning_of_any.ensures.same c.meaning_of_any.ensures.shallow (c.give_back.ensures ∙ c.take_known.ensures.same)).shallow

pub returns-in_err-any-clause-keeps : goal.returns-in_err-any-clause-keeps
returns-in_err-any-clause-keeps c d s h = refl

pub returns-in_err-any-clause-extends : goal.returns-in_err-any-clause-extends
returns-in_err-any-clause-extends c = Extends-same c.args.auto.now c.args.auto.now refl

pub returns-in_err-names-clause-keeps : goal.returns-in_err-names-clause-keeps
returns-in_err-names-clause-keeps c d s h = refl

pub returns-in_err-names-clause-extends : goal.returns-in_err-names-clause-extends
returns-in_err-names-clause-extends c = Extends-same c.args.auto.now c.args.auto.now refl

pub returns-in_err-state-clause-extends : goal.returns-in_err-state-clause-extends
returns-in_err-state-clause-extends c = spares_extends c.args.auto.now c.compile_in.new.auto c.compile_in.ensures.spares

pub returns-clause-extends : goal.returns-clause-extends
returns-clause-extends c = spares_extends c.args.auto.now c.compile_in.new.auto c.compile_in.ensures.spares

pub returns-clause-mirrors : goal.returns-clause-mirrors
returns-clause-mirrors c =
    subst (λ (r : ProgramTable). Mirrors r c.compile_in.new.cells c.compile_in.new.auto) (c.program.ensures.program ∙ sym c.give_back.ensures) c.in_ok-state.ensures.mirrors
