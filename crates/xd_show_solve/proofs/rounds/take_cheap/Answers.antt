use Rattle.std.proofs.Common.{sym, subst}
use Rattle.xd_show_solve.specs.Rounds.{AreApart, AreOwns, LeavesAlive, OwnsStand, TakesEach}
use Rattle.xd_show_solve.proofs.RoundLaws.{owns_stand, takes_none, takes_some}
use Rattle.xd_show_solve.proofs.rounds.take_cheap.Goals as goal
use Rattle.xd_show_solve.proofs.ReduceLaws.{all_stand_kept}

pub take_out-requires-clause-sums : goal.take_out-requires-clause-sums
take_out-requires-clause-sums c = all_stand_kept _ _ c.owns_of.ensures.keeps c.args.sums.now.items c.requires.sums

pub take_out-requires-clause-owns : goal.take_out-requires-clause-owns
take_out-requires-clause-owns c =
    let rows = c.args.pool.now.types in
    let mid = c.owns_of.new.pool.types in
    let owns = c.in_ok-owns.owns.items in
    subst (OwnsStand mid) (sym c.deref-then-are_apart.ensures.value) (owns_stand rows mid _ _ owns c.in_ok-owns.ensures.owns)

pub returns-then-are_apart-clause-out : goal.returns-then-are_apart-clause-out
returns-then-are_apart-clause-out c =
    let rows = c.args.pool.now.types in
    let mid = c.owns_of.new.pool.types in
    let new = c.take_out.new.pool.types in
    let sums = c.args.sums.now.items in
    let now = c.take_out.new.sums.items in
    let alive = c.args.alive.now.items in
    let left = c.take_out.new.alive.items in
    let owns = c.in_ok-owns.owns.items in
    let own = subst (λ ss. AreOwns rows mid ss alive owns) c.deref-3.ensures.value (subst (λ bs. AreOwns rows mid c.deref-3.result.now bs owns) c.deref-4.ensures.value c.in_ok-owns.ensures.owns) in
    let apart = subst AreApart c.deref-6.ensures.value (c.are_apart.ensures c.if-are_apart.true) in
    let takes = subst (λ os. TakesEach mid new os sums now) c.deref-then-are_apart.ensures.value c.in_ok-take_out.ensures.takes in
    let leaves = subst (λ os. LeavesAlive os alive left) c.deref-then-are_apart.ensures.value c.in_ok-take_out.ensures.leaves in
    takes_some rows mid new c.owns_of.ensures.keeps sums now alive left owns c.requires.sums own apart takes leaves

pub returns-clause-out : goal.returns-clause-out
returns-clause-out c = takes_none _ _ c.owns_of.ensures.keeps c.args.sums.now.items c.args.alive.now.items c.requires.sums

pub returns-clause-stand : goal.returns-clause-stand
returns-clause-stand c = all_stand_kept _ _ c.owns_of.ensures.keeps c.args.sums.now.items c.requires.sums
