use Rattle.std.proofs.Common.{◌≡◌, ◌<◌, ℕ, [], ◌∷◌, List, true, false, length, vec_len, arith, refl, ap, sym, subst}
use Rattle.std.specs.List.{AllByRecursion}
use Rattle.xd_doc.proofs.Lists.{all_last}
use Rattle.xd_continuations.specs.Expansion.{work_left}
use Rattle.xd_sound.specs.TypeNames.{meanings}
use Rattle.xd_moves.specs.Found.{IsTask, waiting_at}
use Rattle.xd_moves.specs.Cells.{Cell}
use Rattle.xd_moves.proofs.WorkedTaskLemmas.{IsExpanding, expanding_first, expanding_on, expanding_less, all_found}
use Rattle.xd_moves.proofs.expansion.expand.Goals as goal

pub loop-task-init : goal.loop-task-init
loop-task-init g c = record {
  expanding = subst (IsExpanding c.args.sources.now.types.now c.args.sources.now.defs.now c.args.cells.now c.args.number c.args.cells.now c.in_ok-tasks.tasks.items) (sym c.new-found.ensures.items)
      (expanding_first c.args.sources.now.types.now c.args.sources.now.defs.now c.args.cells.now c.args.number c.in_ok-tasks.tasks.items c.requires.number c.in_ok-tasks.ensures.stand c.in_ok-tasks.ensures.same);
  chosen = λ a. a;
}

pub work_off-requires-clause-task : goal.work_off-requires-clause-task
work_off-requires-clause-task g c =
    all_last (IsTask c.args.sources.now.types.now c.loop-task.cells) c.pop.new.self.items c.in-Some.task
    (subst (AllByRecursion (IsTask c.args.sources.now.types.now c.loop-task.cells)) c.in-Some.ensures.items c.loop-task.invariant.expanding.tasks_stand)

pub loop-task-smaller : goal.loop-task-smaller
loop-task-smaller g c =
    let i = subst (λ ts. IsExpanding c.args.sources.now.types.now c.args.sources.now.defs.now c.args.cells.now c.args.number c.loop-task.cells ts c.loop-task.found.items) c.in-Some.ensures.items c.loop-task.invariant.expanding in
    let h = expanding_less c.args.sources.now.types.now c.args.sources.now.defs.now c.requires.guarded c.args.cells.now c.args.number c.loop-task.cells c.work_off.new.cells c.pop.new.self.items c.work_off.new.tasks.items
    c.in-Some.task c.loop-task.found.items c.work_off.new.found.items i c.in_ok-work_off.ensures.worked in
    let e = ap (λ ts. work_left (meanings c.args.sources.now.types.now c.args.sources.now.defs.now) (waiting_at c.args.sources.now.types.now c.loop-task.cells ts)) c.in-Some.ensures.items in
    omega arith

pub loop-task-preserved : goal.loop-task-preserved
loop-task-preserved g c = record {
  expanding =
      let i = subst (λ ts. IsExpanding c.args.sources.now.types.now c.args.sources.now.defs.now c.args.cells.now c.args.number c.loop-task.cells ts c.loop-task.found.items) c.in-Some.ensures.items c.loop-task.invariant.expanding in
      expanding_on c.args.sources.now.types.now c.args.sources.now.defs.now c.requires.guarded c.args.cells.now c.args.number c.loop-task.cells c.work_off.new.cells c.pop.new.self.items c.work_off.new.tasks.items
      c.in-Some.task c.loop-task.found.items c.work_off.new.found.items i c.in_ok-work_off.ensures.worked;
  chosen = λ a. c.in_ok-work_off.ensures.chosen (c.loop-task.invariant.chosen a);
}

none_left : (xs : List Cell) (n : ℕ) → length xs ≡ n → (0 < n → ⊥) → xs ≡ []
none_left [] n e h = refl
none_left (x ∷ xs) n e h = absurd (h (omega arith))

pub returns-clause-moves : goal.returns-clause-moves
returns-clause-moves g c =
    let e : length c.loop-task.tasks.items ≡ vec_len c.loop-task.tasks = omega (arith, c.loop-task.tasks.ok.0) in
    let none = λ (h : 0 < vec_len c.loop-task.tasks). (let b : false ≡ true = c.in_default.ensures.variant.1 h in let z : ⊥ = cc in z) in
    all_found c.args.sources.now.types.now c.args.sources.now.defs.now c.requires.guarded c.args.cells.now c.args.number c.loop-task.cells c.loop-task.found.items
    (subst (λ ts. IsExpanding c.args.sources.now.types.now c.args.sources.now.defs.now c.args.cells.now c.args.number c.loop-task.cells ts c.loop-task.found.items)
    (none_left c.loop-task.tasks.items (vec_len c.loop-task.tasks) e none) c.loop-task.invariant.expanding)
