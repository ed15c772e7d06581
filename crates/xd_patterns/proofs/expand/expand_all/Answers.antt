use Rattle.std.proofs.Common.{◌≡◌, ◌<◌, ℕ, [], ◌∷◌, ◌++◌, List, None, true, false, length, vec_len, arith, refl, ap, subst, ◌∙◌}
use Rattle.xd_patterns.specs.Expanding.{IsExpanding, all_steps}
use Rattle.xd_patterns.specs.declared.expand.Task.{Task}
use Rattle.xd_patterns.proofs.Expansion.{expanding_first, visited_less, visited_on, all_found, last_task}
use Rattle.xd_patterns.specs.Sources.{names_in, tables}
use Rattle.xd_patterns.proofs.expand.expand_all.Goals as goal

pub loop-task-init : goal.loop-task-init
loop-task-init c =
    let t = tables c.args.sources.now in
    expanding_first (names_in c.args.sources.now) t c.args.marks.now c.args.cells.now c.args.number c.requires.number c.requires.pieces c.push.new.self.items
    (c.in_ok-push.ensures.items ∙ ap (λ (xs : List Task). xs ++ record { cell = c.args.number; turn = None } ∷ []) c.requires.none_waiting) c.args.expansion.now.found.keys c.requires.none_found
    c.args.seen.now.keys c.requires.none_seen

pub loop-task-smaller : goal.loop-task-smaller
loop-task-smaller c =
    let t = tables c.args.sources.now in
    let E = names_in c.args.sources.now in
    let i = subst (λ ts. IsExpanding E t c.args.marks.now c.loop-task.marks c.args.cells.now c.loop-task.cells c.args.number ts c.loop-task.expansion.found.keys c.loop-task.seen.keys) c.in-Some.ensures.items c.loop-task.invariant in
    let h = visited_less E t c.args.marks.now c.args.cells.now c.args.number c.loop-task.marks c.visit.new.marks c.loop-task.cells c.visit.new.cells c.pop.new.self.items c.visit.new.expansion.tasks.items c.in-Some.task
    c.loop-task.expansion.found.keys c.visit.new.expansion.found.keys c.loop-task.seen.keys c.visit.new.seen.keys i c.in_ok-visit.ensures in
    let e = ap (λ ts. all_steps E t c.loop-task.marks c.loop-task.cells ts) c.in-Some.ensures.items in
    omega arith

pub loop-task-preserved : goal.loop-task-preserved
loop-task-preserved c =
    let t = tables c.args.sources.now in
    let E = names_in c.args.sources.now in
    let i = subst (λ ts. IsExpanding E t c.args.marks.now c.loop-task.marks c.args.cells.now c.loop-task.cells c.args.number ts c.loop-task.expansion.found.keys c.loop-task.seen.keys) c.in-Some.ensures.items c.loop-task.invariant in
    visited_on E t c.args.marks.now c.args.cells.now c.args.number c.loop-task.marks c.visit.new.marks c.loop-task.cells c.visit.new.cells c.pop.new.self.items c.visit.new.expansion.tasks.items c.in-Some.task
    c.loop-task.expansion.found.keys c.visit.new.expansion.found.keys c.loop-task.seen.keys c.visit.new.seen.keys i c.in_ok-visit.ensures

pub visit-requires-clause-pieces : goal.visit-requires-clause-pieces
visit-requires-clause-pieces c = c.loop-task.invariant.pieces

pub visit-requires-clause-task : goal.visit-requires-clause-task
visit-requires-clause-task c =
    let t = tables c.args.sources.now in
    let E = names_in c.args.sources.now in
    let i = subst (λ ts. IsExpanding E t c.args.marks.now c.loop-task.marks c.args.cells.now c.loop-task.cells c.args.number ts c.loop-task.expansion.found.keys c.loop-task.seen.keys) c.in-Some.ensures.items c.loop-task.invariant in
    last_task t c.loop-task.marks c.loop-task.cells c.pop.new.self.items c.in-Some.task i.waiting i.tasks_stand

none_left : (xs : List Task) (n : ℕ) → length xs ≡ n → (0 < n → ⊥) → xs ≡ []
none_left [] n e h = refl
none_left (x ∷ xs) n e h = absurd (h (omega arith))

pub returns : goal.returns
returns c =
    let t = tables c.args.sources.now in
    let E = names_in c.args.sources.now in
    let e : length c.loop-task.expansion.tasks.items ≡ vec_len c.loop-task.expansion.tasks = omega (arith, c.loop-task.expansion.tasks.ok.0) in
    let none = λ (h : 0 < vec_len c.loop-task.expansion.tasks). (let b : false ≡ true = c.in_default.ensures.variant.1 h in let z : ⊥ = cc in z) in
    all_found E t c.args.marks.now c.args.cells.now c.args.number c.loop-task.marks c.loop-task.cells c.loop-task.expansion.found.keys c.loop-task.seen.keys
    (subst (λ ts. IsExpanding E t c.args.marks.now c.loop-task.marks c.args.cells.now c.loop-task.cells c.args.number ts c.loop-task.expansion.found.keys c.loop-task.seen.keys)
    (none_left c.loop-task.expansion.tasks.items (vec_len c.loop-task.expansion.tasks) e none) c.loop-task.invariant)
