use Rattle.std.proofs.Common.{◌≡◌, ◌+◌, false, arith, refl, sym, subst, ◌∙◌, take}
use Rattle.std.specs.List.{AllByRecursion}
use Rattle.xd_auto.specs.Automaton.{IsState}
use Rattle.xd_goals.specs.Trees.{IsTaker, takes}
use Rattle.xd_state_heads.specs.declared.heads.Side.{Side}
use Rattle.xd_rules.proofs.Lists.{all_at}
use Rattle.std.proofs.lemmas.List.{take_all}
use Rattle.xd_goals.proofs.IsSeparatedByLemmas.{none_more, none_to, or_found}
use Rattle.xd_goals.proofs.takers.taker.Goals as goal

pub looks_covered-requires-clause-more : goal.looks_covered-requires-clause-more
looks_covered-requires-clause-more c =
    (all_at (λ (s : Side). (IsState c.args.setting.now.auto.now s.content) × (IsState c.args.setting.now.auto.now s.rest)) c.args.setting.now.sides.now c.loop-place.place c.side_of-side.result c.requires.sides c.side_of-side.ensures).0

pub looks_covered-requires-then-looks_covered-clause-more : goal.looks_covered-requires-then-looks_covered-clause-more
looks_covered-requires-then-looks_covered-clause-more c =
    (all_at (λ (s : Side). (IsState c.args.setting.now.auto.now s.content) × (IsState c.args.setting.now.auto.now s.rest)) c.args.setting.now.sides.now c.loop-place.place c.side_of-side.result c.requires.sides c.side_of-side.ensures).1

pub loop-place-preserved-then-not-branch : goal.loop-place-preserved-then-not-branch
loop-place-preserved-then-not-branch c = record {
  right = c.is_taker.ensures.right;
  found = none_more (λ (s : Side). takes c.args.setting.now.auto.now c.args.setting.now.store.now c.args.inside c.args.behind s ≡ false) (IsTaker c.args.setting.now.auto.now c.args.setting.now.store.now c.args.setting.now.sides.now c.args.inside c.args.behind)
      c.args.setting.now.sides.now c.loop-place.place c.side_of-side.result c.loop-place.first c.side_of-side.ensures (sym c.in_ok-is_taker.ensures.answer ∙ c.if-not-branch.true) c.loop-place.invariant.found;
  end_is = c.loop-place.invariant.end_is;
}

pub loop-place-preserved : goal.loop-place-preserved
loop-place-preserved c = record {
  right = c.is_taker.ensures.right;
  found = or_found (AllByRecursion (λ (s : Side). takes c.args.setting.now.auto.now c.args.setting.now.store.now c.args.inside c.args.behind s ≡ false) (take c.loop-place.place c.args.setting.now.sides.now))
      (AllByRecursion (λ (s : Side). takes c.args.setting.now.auto.now c.args.setting.now.store.now c.args.inside c.args.behind s ≡ false) (take (c.loop-place.place + 1) c.args.setting.now.sides.now))
      (IsTaker c.args.setting.now.auto.now c.args.setting.now.store.now c.args.setting.now.sides.now c.args.inside c.args.behind) c.loop-place.first c.side_of-side.result c.or-first.result c.or-first.ensures c.loop-place.invariant.found
      (record { place = c.loop-place.place; found = c.side_of-side.ensures; takes_it = sym c.in_ok-is_taker.ensures.answer ∙ c.if-not-branch.false });
  end_is = c.loop-place.invariant.end_is;
}

pub returns-clause-found : goal.returns-clause-found
returns-clause-found c =
    none_to (AllByRecursion (λ (s : Side). takes c.args.setting.now.auto.now c.args.setting.now.store.now c.args.inside c.args.behind s ≡ false) (take c.loop-place.place c.args.setting.now.sides.now))
    (AllByRecursion (λ (s : Side). takes c.args.setting.now.auto.now c.args.setting.now.store.now c.args.inside c.args.behind s ≡ false) c.args.setting.now.sides.now)
    (IsTaker c.args.setting.now.auto.now c.args.setting.now.store.now c.args.setting.now.sides.now c.args.inside c.args.behind) c.loop-place.first
    (λ h. subst (AllByRecursion (λ (s : Side). takes c.args.setting.now.auto.now c.args.setting.now.store.now c.args.inside c.args.behind s ≡ false))
    (take_all c.loop-place.place c.args.setting.now.sides.now (omega (arith, c.loop-place-test.false, c.loop-place.invariant.end_is))) h)
    c.loop-place.invariant.found

pub is_taker-requires-clause-content : goal.is_taker-requires-clause-content
is_taker-requires-clause-content c = (all_at (λ (s : Side). (IsState c.args.setting.now.auto.now s.content) × (IsState c.args.setting.now.auto.now s.rest)) c.args.setting.now.sides.now c.loop-place.place c.side_of-side.result c.requires.sides c.side_of-side.ensures).0

pub is_taker-requires-clause-rest : goal.is_taker-requires-clause-rest
is_taker-requires-clause-rest c = (all_at (λ (s : Side). (IsState c.args.setting.now.auto.now s.content) × (IsState c.args.setting.now.auto.now s.rest)) c.args.setting.now.sides.now c.loop-place.place c.side_of-side.result c.requires.sides c.side_of-side.ensures).1

pub loop-place-init : goal.loop-place-init
loop-place-init c = record { right = c.requires.right; found = tt; end_is = refl }

pub returns-then-looks_covered-2-clause-right : goal.returns-then-looks_covered-2-clause-right
returns-then-looks_covered-2-clause-right c = c.is_taker.ensures.right

pub returns-in_err-is_taker-clause-right : goal.returns-in_err-is_taker-clause-right
returns-in_err-is_taker-clause-right c = c.is_taker.ensures.right

pub returns-clause-right : goal.returns-clause-right
returns-clause-right c = c.loop-place.invariant.right

pub returns-then-looks_covered-2-clause-found : goal.returns-then-looks_covered-2-clause-found
returns-then-looks_covered-2-clause-found c = record { place = c.loop-place.place; found = c.side_of-side.ensures; takes_it = sym c.in_ok-is_taker.ensures.answer ∙ c.if-not-branch.false }

pub looks_covered-requires-clause-left : goal.looks_covered-requires-clause-left
looks_covered-requires-clause-left c = c.requires.content

pub looks_covered-requires-clause-states : goal.looks_covered-requires-clause-states
looks_covered-requires-clause-states c = c.requires.contents

pub looks_covered-requires-then-looks_covered-clause-left : goal.looks_covered-requires-then-looks_covered-clause-left
looks_covered-requires-then-looks_covered-clause-left c = c.requires.rest

pub looks_covered-requires-then-looks_covered-clause-states : goal.looks_covered-requires-then-looks_covered-clause-states
looks_covered-requires-then-looks_covered-clause-states c = c.requires.rests

pub is_taker-requires-clause-inside : goal.is_taker-requires-clause-inside
is_taker-requires-clause-inside c = c.requires.inside

pub is_taker-requires-clause-behind : goal.is_taker-requires-clause-behind
is_taker-requires-clause-behind c = c.requires.behind

pub is_taker-requires-clause-right : goal.is_taker-requires-clause-right
is_taker-requires-clause-right c = c.loop-place.invariant.right
