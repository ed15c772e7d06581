use Rattle.std.proofs.lemmas.Result.{IfOk-from_err}
use Rattle.std.proofs.Common.{◌≡◌, ◌∙◌, arith}
use Rattle.xd_goals.specs.Kept.{view_of}
use Rattle.xd_state_heads.specs.Moves.{with_state}
use Rattle.xd_goals.specs.Trees.{IsGrown}
use Rattle.xd_goals.proofs.HasGrownLemmas.{can_grow-then, grown-step, grown-then}
use Rattle.xd_goals.proofs.Trees.{HasOpenTree-within, content_path, open_within-grows, rest_path, split_tree}
use Rattle.xd_goals.proofs.IsSeparatedByLemmas.{falls_content, falls_rest}
use Rattle.xd_goals.proofs.grow.+grow.Goals as goal

pub add_split-requires-clause-content : goal.add_split-requires-clause-content
add_split-requires-clause-content t c =
    open_within-grows (view_of c.grow.new.goals) (view_of c.grow-in-Stands.new.goals) c.grow-in-Stands.ensures.grows.grows
    (λ tree. IsGrown c.grow.new.goals.rows.items c.args.setting.now.task c.args.setting.now.sides.now tree c.deref.result.now c.args.rests.now) c.args.setting.now.task.owner c.in-Stands.one
    (rw c.in-Stands.is at c.in_ok-inside.ensures.grown)

pub add_split-requires-clause-rest : goal.add_split-requires-clause-rest
add_split-requires-clause-rest t c =
    HasOpenTree-within (view_of c.grow-in-Stands.new.goals)
    (λ tree. IsGrown c.grow-in-Stands.new.goals.rows.items c.args.setting.now.task c.args.setting.now.sides.now tree c.args.contents.now c.deref-in-Stands.result.now) c.args.setting.now.task.owner c.in-Stands-2.two
    (rw c.in-Stands-2.is at c.in_ok-inside-in-Stands.ensures.grown)

pub returns-clause-grown : goal.returns-clause-grown
returns-clause-grown t c =
    split_tree c.args.setting.now.task c.args.setting.now.sides.now c.args.contents.now c.args.rests.now
    (view_of c.grow.new.goals) (view_of c.grow-in-Stands.new.goals) (view_of c.add_split.new.goals) c.in-Splits.side c.deref.result.now c.deref-in-Stands.result.now c.in-Stands.one c.in-Stands-2.two c.in_ok-root-in-Stands-2.root
    (rw c.in-Splits.is at c.in_ok-grown.ensures.growth) (c.deref.ensures.value ∙ c.in_ok-more.ensures) (c.deref-in-Stands.ensures.value ∙ c.in_ok-more-in-Stands.ensures)
    (rw c.in-Stands.is at c.in_ok-inside.ensures.grown) c.grow-in-Stands.ensures.grows.grows (rw c.in-Stands-2.is at c.in_ok-inside-in-Stands.ensures.grown) c.add_split.ensures.grows
    c.in_ok-root-in-Stands-2.ensures.split

pub returns-in-Ends-clause-grown : goal.returns-in-Ends-clause-grown
returns-in-Ends-clause-grown t c = rw c.in-Ends.is at c.in_ok-grown.ensures.growth

pub returns-in-Fails-clause-grown : goal.returns-in-Fails-clause-grown
returns-in-Fails-clause-grown t c = rw c.in-Fails.is at c.in_ok-inside.ensures.grown

pub returns-in-Fails-2-clause-grown : goal.returns-in-Fails-2-clause-grown
returns-in-Fails-2-clause-grown t c = rw c.in-Fails-2.is at c.in_ok-inside-in-Stands.ensures.grown

pub returns-in_err-grown-clause-grown : goal.returns-in_err-grown-clause-grown
returns-in_err-grown-clause-grown t c = IfOk-from_err c.from_residual.result _ c.from_residual.ensures.0

pub returns-in_err-more-clause-grown : goal.returns-in_err-more-clause-grown
returns-in_err-more-clause-grown t c = IfOk-from_err c.from_residual-in_err-more.result _ c.from_residual-in_err-more.ensures.0

pub returns-in_err-inside-clause-grown : goal.returns-in_err-inside-clause-grown
returns-in_err-inside-clause-grown t c = IfOk-from_err c.from_residual-in_err-inside.result _ c.from_residual-in_err-inside.ensures.0

pub returns-in_err-more-in-Stands-clause-grown : goal.returns-in_err-more-in-Stands-clause-grown
returns-in_err-more-in-Stands-clause-grown t c = IfOk-from_err c.from_residual-in_err-more-in-Stands.result _ c.from_residual-in_err-more-in-Stands.ensures.0

pub returns-in_err-inside-in-Stands-clause-grown : goal.returns-in_err-inside-in-Stands-clause-grown
returns-in_err-inside-in-Stands-clause-grown t c = IfOk-from_err c.from_residual-in_err-inside-in-Stands.result _ c.from_residual-in_err-inside-in-Stands.ensures.0

pub returns-in_err-root-in-Stands-2-clause-grown : goal.returns-in_err-root-in-Stands-2-clause-grown
returns-in_err-root-in-Stands-2-clause-grown t c = IfOk-from_err c.from_residual-in_err-root-in-Stands-2.result _ c.from_residual-in_err-root-in-Stands-2.ensures.0

pub add_split-requires-clause-consistent : goal.add_split-requires-clause-consistent
add_split-requires-clause-consistent t c = c.grow-in-Stands.ensures.grows.consistent

pub grow-requires : goal.grow-requires
grow-requires t c =
    let free = rw c.in-Splits.is at c.in_ok-grown.ensures.growth in
    let e : c.deref.result.now ≡ with_state c.in-Splits.side.content c.args.contents.now = c.deref.ensures.value ∙ c.in_ok-more.ensures in (
      omega (arith, falls_content c.args.setting.now.sides.now c.args.contents.now c.args.rests.now c.in-Splits.side free c.deref.result.now e, c.decreases),
      can_grow-then c.requires c.next_growth.ensures.grows
          (content_path c.args.setting.now.sides.now c.args.contents.now c.args.rests.now c.in-Splits.side free.place free.found c.args.setting.now.task.states c.args.setting.now.task c.requires.path c.deref.result.now e),
    )

pub grow-requires-in-Stands : goal.grow-requires-in-Stands
grow-requires-in-Stands t c =
    let free = rw c.in-Splits.is at c.in_ok-grown.ensures.growth in
    let e : c.deref-in-Stands.result.now ≡ with_state c.in-Splits.side.rest c.args.rests.now = c.deref-in-Stands.ensures.value ∙ c.in_ok-more-in-Stands.ensures in (
      omega (arith, falls_rest c.args.setting.now.sides.now c.args.contents.now c.args.rests.now c.in-Splits.side free c.deref-in-Stands.result.now e, c.decreases),
      can_grow-then c.requires (grown-then c.next_growth.ensures.grows c.grow.ensures.grows)
          (rest_path c.args.setting.now.sides.now c.args.contents.now c.args.rests.now c.in-Splits.side free.place free.found c.args.setting.now.task.states c.args.setting.now.task c.requires.path c.deref-in-Stands.result.now e),
    )

pub returns-in_err-grown-clause-grows : goal.returns-in_err-grown-clause-grows
returns-in_err-grown-clause-grows t c = c.next_growth.ensures.grows

pub returns-in_err-more-clause-grows : goal.returns-in_err-more-clause-grows
returns-in_err-more-clause-grows t c = c.next_growth.ensures.grows

pub returns-in-Ends-clause-grows : goal.returns-in-Ends-clause-grows
returns-in-Ends-clause-grows t c = c.next_growth.ensures.grows

pub returns-in_err-inside-clause-grows : goal.returns-in_err-inside-clause-grows
returns-in_err-inside-clause-grows t c = grown-then c.next_growth.ensures.grows c.grow.ensures.grows

pub returns-in-Fails-clause-grows : goal.returns-in-Fails-clause-grows
returns-in-Fails-clause-grows t c = grown-then c.next_growth.ensures.grows c.grow.ensures.grows

pub returns-in_err-more-in-Stands-clause-grows : goal.returns-in_err-more-in-Stands-clause-grows
returns-in_err-more-in-Stands-clause-grows t c = grown-then c.next_growth.ensures.grows c.grow.ensures.grows

pub returns-in_err-inside-in-Stands-clause-grows : goal.returns-in_err-inside-in-Stands-clause-grows
returns-in_err-inside-in-Stands-clause-grows t c = grown-then (grown-then c.next_growth.ensures.grows c.grow.ensures.grows) c.grow-in-Stands.ensures.grows

pub returns-in-Fails-2-clause-grows : goal.returns-in-Fails-2-clause-grows
returns-in-Fails-2-clause-grows t c = grown-then (grown-then c.next_growth.ensures.grows c.grow.ensures.grows) c.grow-in-Stands.ensures.grows

pub returns-in_err-root-in-Stands-2-clause-grows : goal.returns-in_err-root-in-Stands-2-clause-grows
returns-in_err-root-in-Stands-2-clause-grows t c = grown-step (grown-then (grown-then c.next_growth.ensures.grows c.grow.ensures.grows) c.grow-in-Stands.ensures.grows) c.add_split.ensures.consistent c.add_split.ensures.grows

pub returns-clause-grows : goal.returns-clause-grows
returns-clause-grows t c = grown-step (grown-then (grown-then c.next_growth.ensures.grows c.grow.ensures.grows) c.grow-in-Stands.ensures.grows) c.add_split.ensures.consistent c.add_split.ensures.grows

pub next_growth-requires : goal.next_growth-requires
next_growth-requires t c = c.requires
