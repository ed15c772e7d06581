use Rattle.std.proofs.Common.{◌≡◌, ℕ, ◌<◌, ◌≤◌, false, true, length, set, sym, ap, ◌∙◌, subst, arith}
use Rattle.std.specs.Option.{IfSome}
use Rattle.xd_show_solve.specs.Systems.{IsLeft, is_alive, all_alive}
use Rattle.xd_show_solve.proofs.RoundLaws.{hold_some, living_less}
use Rattle.xd_show_solve.proofs.SystemLaws.{living, fewer_living, hold_first, hold_more, last_left, still_alive, left_count, first_alive}
use Rattle.xd_same_types.proofs.Tables.{keeps_refl, keeps_then}
use Rattle.xd_show_solve.proofs.solve.solution.Goals as goal

pub loop-alive-init : goal.loop-alive-init
loop-alive-init c =
    let e = c.in_ok-alive.ensures ∙ ap all_alive c.deref.ensures.value in
    let f = first_alive c.args.sums.items c.in_ok-alive.alive.items e c.requires.some in
    record {
      keeps = keeps_refl _;
      stand = c.requires.stand;
      count = f.1;
      some = c.requires.some;
      zero = f.0;
      hold = hold_first _ c.args.sums.items c.in_ok-alive.alive.items e;
    }

pub loop-alive-smaller : goal.loop-alive-smaller
loop-alive-smaller c =
    let t = c.in_ok-take_cheap.ensures.out in
    let mid = c.take_cheap.new.alive.items in
    let w = c.deref-in-loop-alive-2.ensures.value in
    let f = subst (λ o. IfSome o (IsLeft c.deref-in-loop-alive.result.now c.deref-in-loop-alive-2.result.now)) c.in-Some.is c.in_ok-least.ensures.found in
    let a = subst (λ ys. is_alive ys c.in-Some.left.number ≡ true) w f.alive_there in
    let o = c.in_ok-eliminate-in-Some.ensures.out in
    let less = living_less mid c.loop-alive.alive.items t.alive_count t.alive in
    let fewer = fewer_living mid c.in-Some.left.number a in
    let all : living (set mid c.in-Some.left.number false) < living c.loop-alive.alive.items = omega (arith, less, fewer) in
    subst (λ bs. living bs < living c.loop-alive.alive.items) (sym o.alive) all

pub loop-alive-preserved : goal.loop-alive-preserved
loop-alive-preserved c =
    let inv = c.loop-alive.invariant in
    let t = c.in_ok-take_cheap.ensures.out in
    let mid = c.take_cheap.new.alive.items in
    let f = subst (λ o. IfSome o (IsLeft c.deref-in-loop-alive.result.now c.deref-in-loop-alive-2.result.now)) c.in-Some.is c.in_ok-least.ensures.found in
    let out = c.in_ok-eliminate-in-Some.ensures.out in
    let gone = c.in-Some.left.number in
    let count = t.alive_count ∙ inv.count ∙ sym t.count in
    record {
      keeps = keeps_then _ _ _ (keeps_then _ _ _ inv.keeps c.take_cheap.ensures.keeps) c.eliminate.ensures.keeps;
      stand = c.in_ok-eliminate-in-Some.ensures.stand;
      count = ap length out.alive ∙ left_count mid gone ∙ count ∙ sym out.count;
      some = subst (λ n. 0 < n) (sym (out.count ∙ t.count)) inv.some;
      zero = subst (λ bs. is_alive bs 0 ≡ true) (sym out.alive) (still_alive mid gone f.later (t.first inv.zero));
      hold = hold_more _ _ _ c.args.sums.items c.take_cheap.new.sums.items c.eliminate.new.sums.items mid c.eliminate.new.alive.items gone
          (hold_some _ _ _ c.args.sums.items c.loop-alive.sums.items c.take_cheap.new.sums.items c.loop-alive.alive.items mid inv.hold t) out;
    }

pub returns-clause-exact : goal.returns-clause-exact
returns-clause-exact c =
    let inv = c.loop-alive.invariant in
    let t = c.in_ok-take_cheap.ensures.out in
    let mid = c.take_cheap.new.alive.items in
    let sums = c.take_cheap.new.sums.items in
    let v = c.deref-in-loop-alive.ensures.value in
    let w = c.deref-in-loop-alive-2.ensures.value in
    let none = c.in_ok-least.ensures.none c.in-None.is in
    let dead = subst (λ xs. (i : ℕ) → 0 < i → i < length xs → is_alive mid i ≡ false) v
    (subst (λ ys. (i : ℕ) → 0 < i → i < length c.deref-in-loop-alive.result.now → is_alive ys i ≡ false) w none) in
    let hold = hold_some _ _ _ c.args.sums.items c.loop-alive.sums.items sums c.loop-alive.alive.items mid inv.hold t in
    let count = t.alive_count ∙ inv.count ∙ sym t.count in
    let some = subst (λ n. 0 < n) (sym t.count) inv.some in
    last_left _ _ _ c.args.sums.items sums mid _ c.in_ok-own.own hold count some (t.first inv.zero) dead c.index.ensures c.in_ok-own.ensures.solved
