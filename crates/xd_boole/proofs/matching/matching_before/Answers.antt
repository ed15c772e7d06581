use Rattle.std.proofs.Common.{◌≡◌, Bool, ℕ, ◌<◌, List, All, length, take, filter, nat_lt, ap, sym, subst, ◌∙◌, ◌&&◌, ◌||◌}
use Rattle.std.specs.List.{list_any}
use Rattle.std.proofs.lemmas.List.Elements.{All-filter}
use Rattle.xd_doc.proofs.SortedNames.{or_false}
use Rattle.xd_auto.specs.declared.auto.State.{State}
use Rattle.xd_auto.specs.Automaton.{moves_at}
use Rattle.xd_boole.specs.Groups.{AllPass, passes_at}
use Rattle.xd_boole.specs.Matching.{any_has}
use Rattle.xd_boole.proofs.MatchLemmas.{matching_before}
use Rattle.xd_boole.proofs.matching.matching_before.Goals as goal

pub add_moves-requires : goal.add_moves-requires
add_moves-requires g c =
    let moves = g.M.Move.moves_in (moves_at c.args.auto.now c.args.own) in
    let numbers = c.in_ok-numbers.numbers.items in
    let is : c.deref-2.result.now ≡ filter (λ k. nat_lt k c.args.place) numbers = c.deref-2.ensures.value ∙ c.in_ok-earlier.ensures ∙ ap (filter (λ k. nat_lt k c.args.place)) c.deref.ensures.value in
    rw c.moves.ensures.value
    (subst (λ (ks : List ℕ). All (λ k. k < length moves) ks) (sym is) (All-filter (λ k. nat_lt k c.args.place) (λ k. k < length moves) numbers c.in_ok-numbers.ensures.within))

pub returns-then-place-eq0 : goal.returns-then-place-eq0
returns-then-place-eq0 g c = record {
  taken = λ x had t.
      let others = list_any (λ (q : State). any_has g.M.Move.has x t (g.M.Move.moves_in (moves_at c.args.auto.now q))) c.args.states.now in
      c.in_ok-made.ensures.taken x had t ∙ sym (or_false others)
      ∙ ap (λ (n : ℕ). others || any_has g.M.Move.has x t (take n (g.M.Move.moves_in (moves_at c.args.auto.now c.args.own)))) (sym c.if-place-eq0.true);
  inside = c.in_ok-made.ensures.inside;
}

pub returns : goal.returns
returns g c =
    let own = g.M.Move.moves_in (moves_at c.args.auto.now c.args.own) in
    let has = g.M.Move.has in
    let moves = c.moves.result.now in
    let earlier : c.deref-2.result.now ≡ filter (λ k. nat_lt k c.args.place) c.in_ok-numbers.numbers.items = c.deref-2.ensures.value ∙ c.in_ok-earlier.ensures ∙ ap (filter (λ k. nat_lt k c.args.place)) c.deref.ensures.value in
    record {
      taken = λ x had t.
          let w : g.row.M.Denot → Bool = λ m. has m x && t m in
          c.in_ok-add_moves.ensures.taken w ∙ ap (λ v. v || list_any (passes_at w moves) c.deref-2.result.now) (c.in_ok-made.ensures.taken x had t)
          ∙ ap (λ v. list_any (λ (q : State). any_has has x t (g.M.Move.moves_in (moves_at c.args.auto.now q))) c.args.states.now || v)
          (ap (list_any (passes_at w moves)) earlier ∙ ap (λ ms. list_any (passes_at w ms) (filter (λ k. nat_lt k c.args.place) c.in_ok-numbers.numbers.items)) c.moves.ensures.value
          ∙ matching_before has t c.args.step.now own c.in_ok-numbers.numbers.items c.args.place c.in_ok-numbers.ensures x had);
      inside = λ t h. c.in_ok-add_moves.ensures.all t (c.in_ok-made.ensures.inside t h) (subst (AllPass t) (sym c.moves.ensures.value) (h c.args.own c.moves.ensures.closed));
    }
