use Rattle.std.proofs.Common.{List, map, ap, sym, subst, ◌∙◌}
use Rattle.std.specs.List.{AllByRecursion}
use Rattle.xd_syntax.specs.Tree.{Tree}
use Rattle.xd_syntax.specs.Table.{tree_at}
use Rattle.xd_syntax.specs.Program.{ProgramTree, names_of}
use Rattle.xd_syntax.specs.Kept.{ProgramTable, program_tree}
use Rattle.xd_meaning.specs.Heads.{heads}
use Rattle.xd_continuations.specs.Continuation.{head_of}
use Rattle.xd_continuations.proofs.GrownTables.{tree_stays}
use Rattle.xd_moves.specs.Found.{AreOfTypes, move_at}
use Rattle.xd_heads.specs.HeadList.{IsHeadFound}
use Rattle.xd_moves.specs.declared.expansion.Found.{Found}
use Rattle.xd_heads.proofs.GrowsTypesLemmas.{grows_along, grows_then}
use Rattle.xd_heads.proofs.listing.heads.Goals as goal

pub returns-clause-heads : goal.returns-clause-heads
returns-clause-heads c =
    let p = c.args.sound.now in
    let q = c.meaning_of_any.new.sound in
    let cells = c.in_ok-cells.cells in
    let found = c.in_ok-cells.found.items in
    c.in_ok-made.ensures.heads
    ∙ ap (λ (fs : List Found). map head_of (map (move_at c.give_back.new.self.types cells) fs)) c.deref-2.ensures.value
    ∙ ap (λ (r : ProgramTable). map head_of (map (move_at r.types cells) found)) (c.give_back.ensures ∙ sym c.program.ensures.program)
    ∙ c.in_ok-cells.ensures.same
    ∙ ap (λ (r : ProgramTable). heads (names_of (program_tree r)) (tree_at r.types c.args.id.at)) (c.program.ensures.program ∙ c.take_known.ensures.same)
    ∙ ap (λ (P : ProgramTree). heads (names_of P) (tree_at q.types c.args.id.at)) c.meaning_of_any.ensures.same
    ∙ ap (λ (T : Tree). heads (names_of (program_tree p)) T) (tree_stays p.types q.types c.meaning_of_any.ensures.adds.types c.args.id.at c.requires)

pub returns-in_err-any-clause-adds : goal.returns-in_err-any-clause-adds
returns-in_err-any-clause-adds c = c.meaning_of_any.ensures.adds

pub returns-in_err-any-clause-same : goal.returns-in_err-any-clause-same
returns-in_err-any-clause-same c = c.meaning_of_any.ensures.same

pub returns-in_err-any-clause-shallow : goal.returns-in_err-any-clause-shallow
returns-in_err-any-clause-shallow c = c.meaning_of_any.ensures.shallow

pub returns-in_err-names-clause-adds : goal.returns-in_err-names-clause-adds
returns-in_err-names-clause-adds c = (grows_along c.args.sound.now c.meaning_of_any.new.sound c.take_known.new.self c.meaning_of_any.ensures.adds c.meaning_of_any.ensures.same c.meaning_of_any.ensures.shallow c.take_known.ensures.same).adds

pub returns-in_err-names-clause-same : goal.returns-in_err-names-clause-same
returns-in_err-names-clause-same c = (grows_along c.args.sound.now c.meaning_of_any.new.sound c.take_known.new.self c.meaning_of_any.ensures.adds c.meaning_of_any.ensures.same c.meaning_of_any.ensures.shallow c.take_known.ensures.same).same

pub returns-in_err-names-clause-shallow : goal.returns-in_err-names-clause-shallow
returns-in_err-names-clause-shallow c = (grows_along c.args.sound.now c.meaning_of_any.new.sound c.take_known.new.self c.meaning_of_any.ensures.adds c.meaning_of_any.ensures.same c.meaning_of_any.ensures.shallow c.take_known.ensures.same).shallow

pub returns-in_err-cells-clause-adds : goal.returns-in_err-cells-clause-adds
returns-in_err-cells-clause-adds c = (grows_along c.args.sound.now c.meaning_of_any.new.sound c.take_known.new.self c.meaning_of_any.ensures.adds c.meaning_of_any.ensures.same c.meaning_of_any.ensures.shallow c.take_known.ensures.same).adds

pub returns-in_err-cells-clause-same : goal.returns-in_err-cells-clause-same
returns-in_err-cells-clause-same c = (grows_along c.args.sound.now c.meaning_of_any.new.sound c.take_known.new.self c.meaning_of_any.ensures.adds c.meaning_of_any.ensures.same c.meaning_of_any.ensures.shallow c.take_known.ensures.same).same

pub returns-in_err-cells-clause-shallow : goal.returns-in_err-cells-clause-shallow
returns-in_err-cells-clause-shallow c = (grows_along c.args.sound.now c.meaning_of_any.new.sound c.take_known.new.self c.meaning_of_any.ensures.adds c.meaning_of_any.ensures.same c.meaning_of_any.ensures.shallow c.take_known.ensures.same).shallow

pub returns-in_err-made-clause-adds : goal.returns-in_err-made-clause-adds
returns-in_err-made-clause-adds c = (grows_then c.args.sound.now c.give_back.new.self c.list_heads.new.sound (grows_along c.args.sound.now c.meaning_of_any.new.sound c.give_back.new.self c.meaning_of_any.ensures.adds c.meaning_of_any.ensures.same c.meaning_of_any.ensures.shallow (c.give_back.ensures ∙ c.take_known.ensures.same)) c.list_heads.ensures.grows).adds

pub returns-in_err-made-clause-same : goal.returns-in_err-made-clause-same
returns-in_err-made-clause-same c = (grows_then c.args.sound.now c.give_back.new.self c.list_heads.new.sound (grows_along c.args.sound.now c.meaning_of_any.new.sound c.give_back.new.self c.meaning_of_any.ensures.adds c.meaning_of_any.ensures.same c.meaning_of_any.ensures.shallow (c.give_back.ensures ∙ c.take_known.ensures.same)) c.list_heads.ensures.grows).same

pub returns-in_err-made-clause-shallow : goal.returns-in_err-made-clause-shallow
returns-in_err-made-clause-shallow c = (grows_then c.args.sound.now c.give_back.new.self c.list_heads.new.sound (grows_along c.args.sound.now c.meaning_of_any.new.sound c.give_back.new.self c.meaning_of_any.ensures.adds c.meaning_of_any.ensures.same c.meaning_of_any.ensures.shallow (c.give_back.ensures ∙ c.take_known.ensures.same)) c.list_heads.ensures.grows).shallow

pub returns-clause-adds : goal.returns-clause-adds
returns-clause-adds c = (grows_then c.args.sound.now c.give_back.new.self c.list_heads.new.sound (grows_along c.args.sound.now c.meaning_of_any.new.sound c.give_back.new.self c.meaning_of_any.ensures.adds c.meaning_of_any.ensures.same c.meaning_of_any.ensures.shallow (c.give_back.ensures ∙ c.take_known.ensures.same)) c.list_heads.ensures.grows).adds

pub returns-clause-same : goal.returns-clause-same
returns-clause-same c = (grows_then c.args.sound.now c.give_back.new.self c.list_heads.new.sound (grows_along c.args.sound.now c.meaning_of_any.new.sound c.give_back.new.self c.meaning_of_any.ensures.adds c.meaning_of_any.ensures.same c.meaning_of_any.ensures.shallow (c.give_back.ensures ∙ c.take_known.ensures.same)) c.list_heads.ensures.grows).same

pub returns-clause-shallow : goal.returns-clause-shallow
returns-clause-shallow c = (grows_then c.args.sound.now c.give_back.new.self c.list_heads.new.sound (grows_along c.args.sound.now c.meaning_of_any.new.sound c.give_back.new.self c.meaning_of_any.ensures.adds c.meaning_of_any.ensures.same c.meaning_of_any.ensures.shallow (c.give_back.ensures ∙ c.take_known.ensures.same)) c.list_heads.ensures.grows).shallow

pub returns-clause-belong : goal.returns-clause-belong
returns-clause-belong c = c.in_ok-made.ensures.belong

pub list_heads-requires-clause-nodes : goal.list_heads-requires-clause-nodes
list_heads-requires-clause-nodes c = subst (λ (r : ProgramTable). AreOfTypes r.types c.in_ok-cells.cells) (sym (c.give_back.ensures ∙ sym c.program.ensures.program)) c.in_ok-cells.ensures.nodes

pub list_heads-requires-clause-found : goal.list_heads-requires-clause-found
list_heads-requires-clause-found c =
    subst (λ (fs : List Found). AllByRecursion (IsHeadFound c.give_back.new.self c.in_ok-cells.cells) fs) (sym c.deref-2.ensures.value)
    (subst (λ (r : ProgramTable). AllByRecursion (IsHeadFound r c.in_ok-cells.cells) c.in_ok-cells.found.items) (sym (c.give_back.ensures ∙ sym c.program.ensures.program)) c.in_ok-cells.ensures.each)
