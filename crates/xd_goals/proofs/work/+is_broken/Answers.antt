use Rattle.std.proofs.Common.{arith, ⊎_elim, inl, inr, refl, subst, ℕ}
use Rattle.xd_goals.specs.Rows.{IsRefuted}
use Rattle.xd_goals.proofs.Trees.{StandsAt-within}
use Rattle.xd_goals.proofs.IsWalkedLemmas.{leaf_content, leaf_of_part, leaf_rest, of_content, of_parts, of_rest, parts_of}
use Rattle.xd_goals.proofs.work.+is_broken.Goals as goal

pub node_at-requires : goal.node_at-requires
node_at-requires t c = StandsAt-within c.args.nodes.now c.requires.tree.0 c.args.root c.requires.tree.1

pub is_refuted-requires : goal.is_refuted-requires
is_refuted-requires t c = c.requires.within c.in-Content.goal.number (leaf_content c.args.nodes.now c.args.root c.in-Content.goal c.in-Content.ensures c.in-Content.goal.number refl)

pub is_refuted-requires-in-Rest : goal.is_refuted-requires-in-Rest
is_refuted-requires-in-Rest t c = c.requires.within c.in-Rest.goal.number (leaf_rest c.args.nodes.now c.args.root c.in-Rest.goal c.in-Rest.ensures c.in-Rest.goal.number refl)

pub is_broken-requires : goal.is_broken-requires
is_broken-requires t c =
    let p = parts_of c.args.nodes.now c.args.root c.in-Split.right c.in-Split.content c.in-Split.rest c.in-Split.ensures c.requires.tree in (
      omega (arith, p.content_older, c.decreases),
      (
        p.content,
        λ g l. c.requires.within g (leaf_of_part c.args.nodes.now c.args.root c.in-Split.right c.in-Split.content c.in-Split.rest c.in-Split.ensures c.requires.tree g (inl l)),
      ),
    )

pub is_broken-requires-else-is_broken : goal.is_broken-requires-else-is_broken
is_broken-requires-else-is_broken t c =
    let p = parts_of c.args.nodes.now c.args.root c.in-Split.right c.in-Split.content c.in-Split.rest c.in-Split.ensures c.requires.tree in (
      omega (arith, p.rest_older, c.decreases),
      (
        p.rest,
        λ g l. c.requires.within g (leaf_of_part c.args.nodes.now c.args.root c.in-Split.right c.in-Split.content c.in-Split.rest c.in-Split.ensures c.requires.tree g (inr l)),
      ),
    )

pub returns-in-Content : goal.returns-in-Content
returns-in-Content t c e g l = subst (λ (n : ℕ). ¬ (IsRefuted c.args.rows.now n)) (of_content c.args.nodes.now c.args.root c.in-Content.goal c.in-Content.ensures g l) (c.is_refuted.ensures e)

pub returns-in-Rest : goal.returns-in-Rest
returns-in-Rest t c e g l = subst (λ (n : ℕ). ¬ (IsRefuted c.args.rows.now n)) (of_rest c.args.nodes.now c.args.root c.in-Rest.goal c.in-Rest.ensures g l) (c.is_refuted-in-Rest.ensures e)

pub returns-else-is_broken : goal.returns-else-is_broken
returns-else-is_broken t c e g l = ⊎_elim
    (λ a. c.is_broken.ensures c.if-is_broken.false g a)
    (λ b. c.is_broken-else-is_broken.ensures e g b)
    (of_parts c.args.nodes.now c.args.root c.in-Split.right c.in-Split.content c.in-Split.rest c.in-Split.ensures g l)
