use Rattle.std.proofs.Common.{◌≡◌, arith, ◌⊎◌}
use Rattle.xd_doc.proofs.Results.{OnOk-map}
use Rattle.xd_goals.specs.Reached.{IsLeafAt}
use Rattle.xd_goals.proofs.Trees.{StandsAt-within}
use Rattle.xd_goals.proofs.IsWalkedLemmas.{leaf_content, leaf_of_part, leaf_rest, of_content, of_parts, of_rest, parts_of, reaches-same, reaches-then}
use Rattle.xd_goals.proofs.settled.+reach_leaves.Goals as goal

pub node_at-requires : goal.node_at-requires
node_at-requires t c = StandsAt-within c.args.nodes.now c.requires.0 c.args.root c.requires.1

pub reach_leaves-requires : goal.reach_leaves-requires
reach_leaves-requires t c =
    let p = parts_of c.args.nodes.now c.args.root c.in-Split.right c.in-Split.content c.in-Split.rest c.in-Split.ensures c.requires in
    (omega (arith, p.content_older, c.decreases), p.content)

pub reach_leaves-requires-in-Split : goal.reach_leaves-requires-in-Split
reach_leaves-requires-in-Split t c =
    let p = parts_of c.args.nodes.now c.args.root c.in-Split.right c.in-Split.content c.in-Split.rest c.in-Split.ensures c.requires in
    (omega (arith, p.rest_older, c.decreases), p.rest)

pub returns-in-Content : goal.returns-in-Content
returns-in-Content t c =
    OnOk-map c.reach.result
    (reaches-same (λ g. c.in-Content.goal.number ≡ g) (IsLeafAt c.args.nodes.now c.args.root) c.args.found.now.keys c.reach.new.found.keys
    (leaf_content c.args.nodes.now c.args.root c.in-Content.goal c.in-Content.ensures) (of_content c.args.nodes.now c.args.root c.in-Content.goal c.in-Content.ensures))
    c.reach.ensures

pub returns-in-Rest : goal.returns-in-Rest
returns-in-Rest t c =
    OnOk-map c.reach-in-Rest.result
    (reaches-same (λ g. c.in-Rest.goal.number ≡ g) (IsLeafAt c.args.nodes.now c.args.root) c.args.found.now.keys c.reach-in-Rest.new.found.keys
    (leaf_rest c.args.nodes.now c.args.root c.in-Rest.goal c.in-Rest.ensures) (of_rest c.args.nodes.now c.args.root c.in-Rest.goal c.in-Rest.ensures))
    c.reach-in-Rest.ensures

pub returns-in_ok-reach_leaves-in-Split : goal.returns-in_ok-reach_leaves-in-Split
returns-in_ok-reach_leaves-in-Split t c =
    OnOk-map c.reach_leaves-in-Split.result
    (λ m. reaches-same (λ g. IsLeafAt c.args.nodes.now c.in-Split.content g ⊎ IsLeafAt c.args.nodes.now c.in-Split.rest g) (IsLeafAt c.args.nodes.now c.args.root) c.args.found.now.keys c.reach_leaves-in-Split.new.found.keys
    (leaf_of_part c.args.nodes.now c.args.root c.in-Split.right c.in-Split.content c.in-Split.rest c.in-Split.ensures c.requires)
    (of_parts c.args.nodes.now c.args.root c.in-Split.right c.in-Split.content c.in-Split.rest c.in-Split.ensures)
    (reaches-then (IsLeafAt c.args.nodes.now c.in-Split.content) (IsLeafAt c.args.nodes.now c.in-Split.rest) c.args.found.now.keys c.reach_leaves.new.found.keys c.reach_leaves-in-Split.new.found.keys
    c.in_ok-reach_leaves-in-Split.ensures m))
    c.reach_leaves-in-Split.ensures
