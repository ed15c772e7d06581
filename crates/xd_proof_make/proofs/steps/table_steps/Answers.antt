use Rattle.std.proofs.Common.{◌≡◌, ℕ, List, ◌∷◌, [], ◌++◌, ap, ◌∙◌, rules}
use Rattle.xd_proof_make.proofs.TableStepsLemmas.{walked_first, walked_next, walked_fewer, walked_there, walked_all}
use Rattle.xd_proof_make.proofs.steps.table_steps.Goals as goal

pub loop-number-init : goal.loop-number-init
loop-number-init c = walked_first _ _ _ _ c.requires (c.in_ok-push.ensures.items ∙ ap (λ (xs : List ℕ). xs ++ c.args.root ∷ []) c.new-stack.ensures.items) c.new-steps.ensures.items

pub open_node-requires : goal.open_node-requires
open_node-requires c = walked_there c.args.table.now.nodes c.args.root c.loop-number.stack.items c.pop.new.self.items c.in-Some.number c.loop-number.steps.items c.loop-number.invariant c.in-Some.ensures.items

pub loop-number-smaller : goal.loop-number-smaller
loop-number-smaller c =
    walked_fewer c.args.table.now.nodes c.args.root c.loop-number.stack.items c.pop.new.self.items c.open_node.new.stack.items c.in-Some.number c.loop-number.steps.items c.in_ok-step.step c.loop-number.invariant c.in-Some.ensures.items c.in_ok-step.ensures

pub loop-number-preserved : goal.loop-number-preserved
loop-number-preserved c =
    walked_next c.args.table.now.nodes c.args.root c.loop-number.stack.items c.pop.new.self.items c.open_node.new.stack.items c.in-Some.number c.loop-number.steps.items c.in_ok-step.step c.loop-number.invariant c.in-Some.ensures.items c.in_ok-step.ensures
    c.push-in-Some.new.self.items c.in_ok-push-2.ensures.items

pub returns : goal.returns
returns c =
    let none : c.loop-number.stack.items ≡ [] = search rules in
    walked_all c.args.table.now.nodes c.args.root c.loop-number.stack.items c.loop-number.steps.items c.loop-number.invariant none
