use Rattle.std.proofs.Common.{◌≡◌, ◌-◌, ◌<◌, map, length, drop, get_or, arith, refl, sym, subst}
use Rattle.std.proofs.lemmas.List.{drop_all}
use Rattle.xd_syntax.specs.Table.{tree_at}
use Rattle.xd_syntax.specs.Types.{type_numbers}
use Rattle.xd_syntax.specs.declared.types.TypeId.{TypeId}
use Rattle.xd_sound.proofs.EmptyLemmas.{part_in}
use Rattle.xd_continuations.specs.Expansion.{task}
use Rattle.xd_moves.specs.Found.{PutsTasks, continuation}
use Rattle.xd_moves.proofs.PutsTasksLemmas.{node_piece, numbers_drop, puts_none, puts_part}
use Rattle.xd_moves.proofs.expansion.push_options.Goals as goal

no_type : TypeId
no_type = record { at = 0 }

pub loop-at-init : goal.loop-at-init
loop-at-init c types cells stand within =
    let parts = c.args.parts.now in
    let old = c.args.tasks.now.items in
    subst (λ ps. PutsTasks types cells old old (map (task (continuation types cells c.args.behind)) (map (tree_at types) (type_numbers ps)))) (sym (drop_all (length parts) parts (omega arith))) (puts_none types cells old)

pub loop-at-preserved : goal.loop-at-preserved
unfolding no_type
loop-at-preserved c types cells stand within =
    let parts = c.args.parts.now in
    let n = c.loop-at.at in
    let t = c.loop-at-test.true in
    let u = c.loop-at.auto.at in
    let l : n - 1 < length parts = omega arith in
    let i = (get_or parts (n - 1) no_type).at in
    let e = numbers_drop parts n no_type t u in
    subst (λ is. PutsTasks types cells c.args.tasks.now.items c.push_part.new.tasks.items (map (task (continuation types cells c.args.behind)) (map (tree_at types) is))) (sym e)
    (puts_part types cells c.args.tasks.now.items c.loop-at.tasks.items (map (task (continuation types cells c.args.behind)) (map (tree_at types) (type_numbers (drop n parts)))) (node_piece i) i c.args.behind
    (c.loop-at.invariant types cells stand within) refl (part_in (length types) parts (n - 1) no_type stand l) within c.push_part.new.tasks.items c.in_ok-push_part.ensures)

pub returns : goal.returns
returns c types cells stand within =
    let t = c.loop-at-test.false in
    let z : c.loop-at.at ≡ 0 = omega arith in
    subst (λ n. PutsTasks types cells c.args.tasks.now.items c.loop-at.tasks.items (map (task (continuation types cells c.args.behind)) (map (tree_at types) (type_numbers (drop n c.args.parts.now))))) z
    (c.loop-at.invariant types cells stand within)
