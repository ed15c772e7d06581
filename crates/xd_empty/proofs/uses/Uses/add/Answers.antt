use Rattle.std.proofs.Common.{◌≡◌, ◌<◌, ◌≤◌, ◌∙◌, arith, get_or, inl, inr, length, subst, sym}
use Rattle.std.specs.List.{Contains}
use Rattle.std.proofs.lemmas.List.{get_or_default, take_all}
use Rattle.std.proofs.lemmas.List.Elements.{Contains-push}
use Rattle.xd_auto.specs.declared.auto.State.{State}
use Rattle.xd_auto.specs.Automaton.{state_number}
use Rattle.xd_empty.specs.Uses.{lists_by_state}
use Rattle.xd_empty.proofs.UsesLemmas.{adds_then, length-lists, listed_here, listed_more, one_listed, one_waits}
use Rattle.xd_empty.proofs.uses.Uses.add.Goals as goal
use Rattle.xd_empty.proofs.uses.Uses.add.Goals.{then-number-self+in_ok-list, else-number-self}

pub loop-state-preserved : goal.loop-state-preserved
loop-state-preserved c =
    let ts = c.args.leads_to.now in
    let u = c.args.step in
    let i = c.loop-state.state-index in
    let now = c.loop-state.self in
    let before = c.loop-state.invariant in
    let lt = c.loop-state-test.true in
    let t : State = get_or ts i (record { number = 0 }) in
    let at : get_or ts i t ≡ t = get_or_default ts i t (record { number = 0 }) lt in
    elim c.if-number-self.branch [
      | then-number-self+in_ok-list w ↦
          let from : c.args.self.now.first ≤ state_number t = omega (arith, c.number.ensures, before.first, w.if-number-self.true) in
          let below : state_number t < length (lists_by_state now) = omega (arith, length-lists now.first now.lists.items, c.requires i (record { number = 0 }) lt, before.first, before.count) in
          let new = w.list.new.self in
          let one = one_listed (lists_by_state now) now.waiting.items t u below (lists_by_state new) new.waiting.items w.in_ok-list.ensures.ok w.list.ensures.waiting in
          rw (w.self-is, w.is_listed-is) (record {
            first = w.list.ensures.first ∙ before.first;
            count = w.list.ensures.count ∙ before.count;
            adds = adds_then (λ v. u ≡ v) (λ v. u ≡ v) (lists_by_state c.args.self.now) (lists_by_state now) (lists_by_state new) c.args.self.now.waiting.items now.waiting.items new.waiting.items (λ v e. e) before.adds one;
            listed = listed_more c.args.self.now.first u ts i t (lists_by_state new) lt at (λ s k f. one.keeps s u (before.listed s k f))
                (λ f. listed_here (lists_by_state now) now.waiting.items t u below (lists_by_state new) new.waiting.items w.in_ok-list.ensures.ok w.list.ensures.waiting);
            some = λ e. (t, (i, lt, at), from);
          })
      | else-number-self w ↦
          let old : state_number t < c.args.self.now.first = omega (arith, c.number.ensures, before.first, w.if-number-self.false) in
          rw (w.self-is, w.is_listed-is) (record {
            first = before.first;
            count = before.count;
            adds = before.adds;
            listed = listed_more c.args.self.now.first u ts i t (lists_by_state now) lt at before.listed (λ f. absurd (omega arith));
            some = before.some;
          })
    ]

pub returns-in_ok-push-clause-adds : goal.returns-in_ok-push-clause-adds
returns-in_ok-push-clause-adds c =
    let now = c.loop-state.self in
    let u = c.args.step in
    rw c.in_ok-push.ensures.items (adds_then (λ v. u ≡ v) (λ v. u ≡ v) (lists_by_state c.args.self.now) (lists_by_state now) (lists_by_state now) c.args.self.now.waiting.items now.waiting.items _ (λ v e. e) c.loop-state.invariant.adds (one_waits (lists_by_state now) now.waiting.items u))

pub returns-in_ok-push-clause-listed : goal.returns-in_ok-push-clause-listed
returns-in_ok-push-clause-listed c =
    let all = take_all c.loop-state.state-index c.args.leads_to.now c.loop-state-test.false in
    record {
      listed = λ t k from. c.loop-state.invariant.listed t (subst (λ w. Contains w t) (sym all) k) from;
      waits = inl (subst (λ w. Contains w c.args.step) (sym c.in_ok-push.ensures.items) (Contains-push c.loop-state.self.waiting.items c.args.step));
    }

pub returns-else-not-is_listed-clause-listed : goal.returns-else-not-is_listed-clause-listed
returns-else-not-is_listed-clause-listed c =
    let all = take_all c.loop-state.state-index c.args.leads_to.now c.loop-state-test.false in
    record {
      listed = λ t k from. c.loop-state.invariant.listed t (subst (λ w. Contains w t) (sym all) k) from;
      waits = inr (c.loop-state.invariant.some c.if-not-is_listed.false);
    }
