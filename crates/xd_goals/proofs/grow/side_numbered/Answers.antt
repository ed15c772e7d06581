use Rattle.std.proofs.Common.{ℕ, ◌≡◌, Some, ⊎_elim, ap, subst, arith, rules}
use Rattle.std.specs.List.{slice_get}
use Rattle.std.proofs.lemmas.Bool.{cases_lt}
use Rattle.std.proofs.lemmas.Option.{slice_get_within}
use Rattle.xd_state_heads.specs.declared.heads.Side.{Side}
use Rattle.xd_goals.proofs.grow.side_numbered.Goals as goal

pub loop-place-init : goal.loop-place-init
loop-place-init c = record { none = λ k s lt at e. omega arith; end_is = search rules }

pub loop-place-preserved : goal.loop-place-preserved
loop-place-preserved c = record {
  none = λ k s lt at e. ⊎_elim
      (λ l. c.loop-place.invariant.none k s l at e)
      (λ ge.
      let q : k ≡ c.loop-place.place = omega arith in
      let here : slice_get c.args.sides.now c.loop-place.place ≡ Some s = subst (λ (n : ℕ). slice_get c.args.sides.now n ≡ Some s) q at in
      let found = c.side_of-side.ensures in
      let same : s ≡ c.side_of-side.result = cc in
      let n = ap (λ (w : Side). w.number) same in omega arith)
      (cases_lt k c.loop-place.place);
  end_is = c.loop-place.invariant.end_is;
}

pub unreachable-requires : goal.unreachable-requires
unreachable-requires c =
    let n = c.requires.1 in
    c.loop-place.invariant.none n.place c.requires.0 (omega (arith, slice_get_within c.args.sides.now n.place c.requires.0 n.found, c.loop-place-test.false, c.loop-place.invariant.end_is)) n.found n.same
