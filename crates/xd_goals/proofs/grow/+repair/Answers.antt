use Rattle.std.proofs.lemmas.Result.{IfOk-from_err}
use Rattle.std.proofs.Common.{ℕ, ◌≡◌, List, Some, sym, ap, subst, ◌∙◌, arith}
use Rattle.std.specs.List.{slice_get}
use Rattle.xd_auto.specs.declared.auto.State.{State}
use Rattle.xd_state_heads.specs.declared.heads.Side.{Side}
use Rattle.xd_goals.specs.declared.goals.Goals.{Goals}
use Rattle.xd_goals.specs.declared.grow.Task.{Task}
use Rattle.xd_goals.specs.declared.table.ChoiceNode.{ChoiceNode}
use Rattle.xd_goals.specs.declared.table.ChoiceNode.TheVariants.{Split}
use Rattle.xd_goals.specs.Kept.{view_of}
use Rattle.xd_state_heads.specs.Moves.{with_state}
use Rattle.xd_goals.specs.Trees.{HasTree, IsGrown, IsSplitAt}
use Rattle.xd_goals.proofs.GrowsByLemmas.{Grows-then}
use Rattle.xd_goals.proofs.HasGrownLemmas.{can_grow-then, grown-same, grown-step, grown-then}
use Rattle.xd_goals.proofs.Trees.{IsGrown-grows, HasTree-grows, content_path, rest_path, split_tree, open_within-grows, HasOpenTree-within}
use Rattle.xd_goals.proofs.HasTreeLemmas.{HasTree-within, HasParts, tree_parts, content_there, rest_there, content_open, rest_open, same_side, split_stays}
use Rattle.xd_goals.proofs.grow.+repair.Goals as goal

-- the parts of the tree that is there
parts : (g : Goals) (task : Task) (sides : List Side) (contents rests : List State) (root right x y : ℕ) (nodes : List ChoiceNode)
    → HasTree (view_of g) (λ tree. IsGrown g.rows.items task sides tree contents rests) task.owner root → nodes ≡ g.nodes.items
    → slice_get nodes root ≡ Some (Split right x y) → HasParts (view_of g) task sides contents rests task.owner root right x y
parts g task sides contents rests root right x y nodes h e at =
    tree_parts (view_of g) task sides contents rests task.owner root right x y h (subst (λ (ns : List ChoiceNode). slice_get ns root ≡ Some (Split right x y)) e at)

pub node_at-requires : goal.node_at-requires
node_at-requires t c =
    rw c.deref.ensures.value
    (HasTree-within (view_of c.args.goals.now) (λ tree. IsGrown c.args.goals.now.rows.items c.args.setting.now.task c.args.setting.now.sides.now tree c.args.contents.now c.args.rests.now) c.args.setting.now.task.owner c.args.root c.requires.tree)

pub repair_leaf-requires-clause-there : goal.repair_leaf-requires-clause-there
repair_leaf-requires-clause-there t c =
    content_there (view_of c.args.goals.now) c.args.setting.now.task c.args.setting.now.sides.now c.args.contents.now c.args.rests.now c.args.setting.now.task.owner c.args.root c.in-Content.goal c.requires.tree
    (rw c.deref.ensures.value at c.in-Content.ensures)

pub repair_leaf-requires-clause-opens : goal.repair_leaf-requires-clause-opens
repair_leaf-requires-clause-opens t c =
    content_open (view_of c.args.goals.now) (λ tree. IsGrown c.args.goals.now.rows.items c.args.setting.now.task c.args.setting.now.sides.now tree c.args.contents.now c.args.rests.now) c.args.setting.now.task.owner c.args.root
    c.in-Content.goal c.requires.tree (rw c.deref.ensures.value at c.in-Content.ensures)

pub repair_leaf-requires-in-Rest-clause-there : goal.repair_leaf-requires-in-Rest-clause-there
repair_leaf-requires-in-Rest-clause-there t c =
    rest_there (view_of c.args.goals.now) c.args.setting.now.task c.args.setting.now.sides.now c.args.contents.now c.args.rests.now c.args.setting.now.task.owner c.args.root c.in-Rest.goal c.requires.tree
    (rw c.deref.ensures.value at c.in-Rest.ensures)

pub repair_leaf-requires-in-Rest-clause-opens : goal.repair_leaf-requires-in-Rest-clause-opens
repair_leaf-requires-in-Rest-clause-opens t c =
    rest_open (view_of c.args.goals.now) (λ tree. IsGrown c.args.goals.now.rows.items c.args.setting.now.task c.args.setting.now.sides.now tree c.args.contents.now c.args.rests.now) c.args.setting.now.task.owner c.args.root
    c.in-Rest.goal c.requires.tree (rw c.deref.ensures.value at c.in-Rest.ensures)

pub side_numbered-side-requires : goal.side_numbered-side-requires
side_numbered-side-requires t c =
    let p = parts c.args.goals.now c.args.setting.now.task c.args.setting.now.sides.now c.args.contents.now c.args.rests.now c.args.root c.in-Split.right c.in-Split.content c.in-Split.rest c.deref.result.now
    c.requires.tree c.deref.ensures.value c.in-Split.ensures in
    (p.side, record { place = p.free.place; found = p.free.found; same = sym p.number })

pub split_again-requires-clause-one : goal.split_again-requires-clause-one
split_again-requires-clause-one t c =
    open_within-grows (view_of c.repair.new.goals) (view_of c.repair-in-Stands.new.goals) c.in_ok-inside-in-Stands.ensures.grows.grows
    (λ tree. IsGrown c.repair.new.goals.rows.items c.args.setting.now.task c.args.setting.now.sides.now tree c.deref-in-Split.result.now c.args.rests.now) c.args.setting.now.task.owner c.in-Stands.one
    (rw c.in-Stands.is at c.in_ok-inside-in-Split.ensures.grown)

pub split_again-requires-clause-two : goal.split_again-requires-clause-two
split_again-requires-clause-two t c =
    HasOpenTree-within (view_of c.repair-in-Stands.new.goals)
    (λ tree. IsGrown c.repair-in-Stands.new.goals.rows.items c.args.setting.now.task c.args.setting.now.sides.now tree c.args.contents.now c.deref-in-Stands.result.now) c.args.setting.now.task.owner c.in-Stands-2.two
    (rw c.in-Stands-2.is at c.in_ok-inside-in-Stands.ensures.grown)

pub returns-clause-grown : goal.returns-clause-grown
returns-clause-grown t c =
    let p = parts c.args.goals.now c.args.setting.now.task c.args.setting.now.sides.now c.args.contents.now c.args.rests.now c.args.root c.in-Split.right c.in-Split.content c.in-Split.rest c.deref.result.now
    c.requires.tree c.deref.ensures.value c.in-Split.ensures in
    let s = same_side c.args.setting.now.sides.now c.args.contents.now c.args.rests.now c.in-Split.right p.side c.side_numbered-side.result c.requires.can.path.apart p.number p.free c.side_numbered-side.ensures in
    let e : c.deref-in-Split.result.now ≡ with_state p.side.content c.args.contents.now =
    c.deref-in-Split.ensures.value ∙ c.in_ok-more-in-Split.ensures ∙ ap (λ (w : Side). with_state w.content c.args.contents.now) s in
    let f : c.deref-in-Stands.result.now ≡ with_state p.side.rest c.args.rests.now =
    c.deref-in-Stands.ensures.value ∙ c.in_ok-more-in-Stands.ensures ∙ ap (λ (w : Side). with_state w.rest c.args.rests.now) s in
    split_tree c.args.setting.now.task c.args.setting.now.sides.now c.args.contents.now c.args.rests.now
    (view_of c.repair.new.goals) (view_of c.repair-in-Stands.new.goals) (view_of c.split_again.new.goals) p.side c.deref-in-Split.result.now c.deref-in-Stands.result.now c.in-Stands.one c.in-Stands-2.two c.in_ok-root-in-Stands-2.root
    p.free e f (rw c.in-Stands.is at c.in_ok-inside-in-Split.ensures.grown) c.in_ok-inside-in-Stands.ensures.grows.grows (rw c.in-Stands-2.is at c.in_ok-inside-in-Stands.ensures.grown) c.split_again.ensures.grows
    (subst (λ (n : ℕ). IsSplitAt c.split_again.new.goals.nodes.items n c.in-Stands.one c.in-Stands-2.two c.in_ok-root-in-Stands-2.root) p.number c.in_ok-root-in-Stands-2.ensures.split)

pub split_again-requires-clause-there : goal.split_again-requires-clause-there
split_again-requires-clause-there t c =
    let p = parts c.args.goals.now c.args.setting.now.task c.args.setting.now.sides.now c.args.contents.now c.args.rests.now c.args.root c.in-Split.right c.in-Split.content c.in-Split.rest c.deref.result.now
    c.requires.tree c.deref.ensures.value c.in-Split.ensures in
    split_stays (view_of c.args.goals.now) (view_of c.repair-in-Stands.new.goals) (Grows-then (view_of c.args.goals.now) (view_of c.repair.new.goals) (view_of c.repair-in-Stands.new.goals) c.repair.ensures.grows.grows c.repair-in-Stands.ensures.grows.grows)
    c.in-Split.right c.in-Split.content c.in-Split.rest c.args.root (rw c.deref.ensures.value at c.in-Split.ensures) p.content_older p.rest_older

pub returns-in-Fails-clause-grown : goal.returns-in-Fails-clause-grown
returns-in-Fails-clause-grown t c = rw c.in-Fails.is at c.in_ok-inside-in-Split.ensures.grown

pub returns-in-Fails-2-clause-grown : goal.returns-in-Fails-2-clause-grown
returns-in-Fails-2-clause-grown t c = rw c.in-Fails-2.is at c.in_ok-inside-in-Stands.ensures.grown

pub returns-in_err-more-in-Split-clause-grown : goal.returns-in_err-more-in-Split-clause-grown
returns-in_err-more-in-Split-clause-grown t c = IfOk-from_err c.from_residual.result _ c.from_residual.ensures.0

pub returns-in_err-inside-in-Split-clause-grown : goal.returns-in_err-inside-in-Split-clause-grown
returns-in_err-inside-in-Split-clause-grown t c = IfOk-from_err c.from_residual-in_err-inside-in-Split.result _ c.from_residual-in_err-inside-in-Split.ensures.0

pub returns-in_err-more-in-Stands-clause-grown : goal.returns-in_err-more-in-Stands-clause-grown
returns-in_err-more-in-Stands-clause-grown t c = IfOk-from_err c.from_residual-in_err-more-in-Stands.result _ c.from_residual-in_err-more-in-Stands.ensures.0

pub returns-in_err-inside-in-Stands-clause-grown : goal.returns-in_err-inside-in-Stands-clause-grown
returns-in_err-inside-in-Stands-clause-grown t c = IfOk-from_err c.from_residual-in_err-inside-in-Stands.result _ c.from_residual-in_err-inside-in-Stands.ensures.0

pub returns-in_err-root-in-Stands-2-clause-grown : goal.returns-in_err-root-in-Stands-2-clause-grown
returns-in_err-root-in-Stands-2-clause-grown t c = IfOk-from_err c.from_residual-in_err-root-in-Stands-2.result _ c.from_residual-in_err-root-in-Stands-2.ensures.0

pub returns-in-Content-clause-grown : goal.returns-in-Content-clause-grown
returns-in-Content-clause-grown t c = c.repair_leaf.ensures.grown

pub returns-in-Rest-clause-grown : goal.returns-in-Rest-clause-grown
returns-in-Rest-clause-grown t c = c.repair_leaf-in-Rest.ensures.grown

pub split_again-requires-clause-consistent : goal.split_again-requires-clause-consistent
split_again-requires-clause-consistent t c = c.repair-in-Stands.ensures.grows.consistent

pub repair-requires : goal.repair-requires
repair-requires t c =
    let p = parts c.args.goals.now c.args.setting.now.task c.args.setting.now.sides.now c.args.contents.now c.args.rests.now c.args.root c.in-Split.right c.in-Split.content c.in-Split.rest c.deref.result.now
    c.requires.tree c.deref.ensures.value c.in-Split.ensures in
    let s = same_side c.args.setting.now.sides.now c.args.contents.now c.args.rests.now c.in-Split.right p.side c.side_numbered-side.result c.requires.can.path.apart p.number p.free c.side_numbered-side.ensures in
    let e : c.deref-in-Split.result.now ≡ with_state p.side.content c.args.contents.now =
    c.deref-in-Split.ensures.value ∙ c.in_ok-more-in-Split.ensures ∙ ap (λ (w : Side). with_state w.content c.args.contents.now) s in (
      omega (arith, p.content_older, c.decreases),
      (
        can_grow-then c.requires.can (grown-same c.requires.can.consistent c.requires.can.right)
            (content_path c.args.setting.now.sides.now c.args.contents.now c.args.rests.now p.side p.free.place p.free.found c.args.setting.now.task.states c.args.setting.now.task c.requires.can.path c.deref-in-Split.result.now e),
        subst (λ (cs : List State). HasTree (view_of c.args.goals.now) (λ tree. IsGrown c.args.goals.now.rows.items c.args.setting.now.task c.args.setting.now.sides.now tree cs c.args.rests.now) c.args.setting.now.task.owner c.in-Split.content)
            (sym e) p.content,
      ),
    )

pub repair-requires-in-Stands : goal.repair-requires-in-Stands
repair-requires-in-Stands t c =
    let p = parts c.args.goals.now c.args.setting.now.task c.args.setting.now.sides.now c.args.contents.now c.args.rests.now c.args.root c.in-Split.right c.in-Split.content c.in-Split.rest c.deref.result.now
    c.requires.tree c.deref.ensures.value c.in-Split.ensures in
    let s = same_side c.args.setting.now.sides.now c.args.contents.now c.args.rests.now c.in-Split.right p.side c.side_numbered-side.result c.requires.can.path.apart p.number p.free c.side_numbered-side.ensures in
    let f : c.deref-in-Stands.result.now ≡ with_state p.side.rest c.args.rests.now =
    c.deref-in-Stands.ensures.value ∙ c.in_ok-more-in-Stands.ensures ∙ ap (λ (w : Side). with_state w.rest c.args.rests.now) s in (
      omega (arith, p.rest_older, c.decreases),
      (
        can_grow-then c.requires.can c.repair.ensures.grows
            (rest_path c.args.setting.now.sides.now c.args.contents.now c.args.rests.now p.side p.free.place p.free.found c.args.setting.now.task.states c.args.setting.now.task c.requires.can.path c.deref-in-Stands.result.now f),
        subst (λ (rs : List State). HasTree (view_of c.repair.new.goals) (λ tree. IsGrown c.repair.new.goals.rows.items c.args.setting.now.task c.args.setting.now.sides.now tree c.args.contents.now rs) c.args.setting.now.task.owner c.in-Split.rest)
            (sym f)
            (HasTree-grows (view_of c.args.goals.now) (view_of c.repair.new.goals) c.repair.ensures.grows.grows
            (λ tree. IsGrown c.args.goals.now.rows.items c.args.setting.now.task c.args.setting.now.sides.now tree c.args.contents.now (with_state p.side.rest c.args.rests.now))
            (λ tree. IsGrown c.repair.new.goals.rows.items c.args.setting.now.task c.args.setting.now.sides.now tree c.args.contents.now (with_state p.side.rest c.args.rests.now))
            (λ tree k. IsGrown-grows (view_of c.args.goals.now) (view_of c.repair.new.goals) c.repair.ensures.grows.grows c.args.setting.now.task c.args.setting.now.sides.now tree c.args.contents.now (with_state p.side.rest c.args.rests.now) k)
            c.args.setting.now.task.owner c.in-Split.rest p.rest),
      ),
    )

pub returns-in_err-more-in-Split-clause-grows : goal.returns-in_err-more-in-Split-clause-grows
returns-in_err-more-in-Split-clause-grows t c = grown-same c.requires.can.consistent c.requires.can.right

pub returns-in_err-inside-in-Split-clause-grows : goal.returns-in_err-inside-in-Split-clause-grows
returns-in_err-inside-in-Split-clause-grows t c = c.repair.ensures.grows

pub returns-in-Fails-clause-grows : goal.returns-in-Fails-clause-grows
returns-in-Fails-clause-grows t c = c.repair.ensures.grows

pub returns-in_err-more-in-Stands-clause-grows : goal.returns-in_err-more-in-Stands-clause-grows
returns-in_err-more-in-Stands-clause-grows t c = c.repair.ensures.grows

pub returns-in_err-inside-in-Stands-clause-grows : goal.returns-in_err-inside-in-Stands-clause-grows
returns-in_err-inside-in-Stands-clause-grows t c = grown-then c.repair.ensures.grows c.repair-in-Stands.ensures.grows

pub returns-in-Fails-2-clause-grows : goal.returns-in-Fails-2-clause-grows
returns-in-Fails-2-clause-grows t c = grown-then c.repair.ensures.grows c.repair-in-Stands.ensures.grows

pub returns-in_err-root-in-Stands-2-clause-grows : goal.returns-in_err-root-in-Stands-2-clause-grows
returns-in_err-root-in-Stands-2-clause-grows t c = grown-step (grown-then c.repair.ensures.grows c.repair-in-Stands.ensures.grows) c.split_again.ensures.consistent c.split_again.ensures.grows

pub returns-in-Content-clause-grows : goal.returns-in-Content-clause-grows
returns-in-Content-clause-grows t c = c.repair_leaf.ensures.grows

pub returns-in-Rest-clause-grows : goal.returns-in-Rest-clause-grows
returns-in-Rest-clause-grows t c = c.repair_leaf-in-Rest.ensures.grows

pub returns-clause-grows : goal.returns-clause-grows
returns-clause-grows t c = grown-step (grown-then c.repair.ensures.grows c.repair-in-Stands.ensures.grows) c.split_again.ensures.consistent c.split_again.ensures.grows

pub repair_leaf-requires-clause-can : goal.repair_leaf-requires-clause-can
repair_leaf-requires-clause-can t c = c.requires.can

pub repair_leaf-requires-in-Rest-clause-can : goal.repair_leaf-requires-in-Rest-clause-can
repair_leaf-requires-in-Rest-clause-can t c = c.requires.can
