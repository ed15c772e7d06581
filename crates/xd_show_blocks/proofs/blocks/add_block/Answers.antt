use Rattle.std.proofs.Common.{◌≡◌, ℕ, Some, cond, subst, rules}
use Rattle.std.specs.BTreeMap.{get}
use Rattle.std.specs.Ordering.{is_eq, nat_cmp}
use Rattle.xd_show_blocks.proofs.BlockLemmas.{block_added, kept_more}
use Rattle.xd_show_blocks.proofs.blocks.add_block.Goals as goal

pub returns-in-Some-clause-block : goal.returns-in-Some-clause-block
returns-in-Some-clause-block c =
    let x = c.args.variable.now in
    let k = c.in-Some.shown.now in
    let kept : get nat_cmp c.args.states.now (x.state).number ≡ Some k = search rules in
    block_added c.args.auto.now c.args.taken.now x k c.args.out.now.items c.write_block.new.out.items (c.requires.states x.state k kept) c.in_ok-write_block.ensures

pub returns-clause-block : goal.returns-clause-block
returns-clause-block c = block_added c.args.auto.now c.args.taken.now c.args.variable.now c.in_ok-shown.shown c.args.out.now.items c.write_block-2.new.out.items c.in_ok-shown.ensures c.in_ok-write_block-2.ensures

pub returns-clause-states : goal.returns-clause-states
returns-clause-states c =
    let k = c.in_ok-shown.shown in
    let m = c.args.states.now in
    let n = c.insert.new.self in
    kept_more c.args.auto.now c.args.taken.now m n (c.args.variable.now).state k c.in_ok-shown.ensures
    (subst (λ (j : ℕ). (i : ℕ) → get nat_cmp n i ≡ cond (is_eq (nat_cmp j i)) (Some k) (get nat_cmp m i)) c.number-number.ensures c.in_ok-insert.ensures.updates.0) c.requires.states
