use Rattle.std.proofs.Common.{ℕ, ◌<◌, ◌≤◌, ◌+◌, ◌&&◌, ◌++◌, ◌≡◌, Bool, not, take, map, List, [], length, ap, sym, subst, ◌∙◌}
use Rattle.std.specs.List.{list_any}
use Rattle.xd_doc.proofs.Bools.{and_false}
use Rattle.xd_auto.specs.Automaton.{accepts, moves_at}
use Rattle.xd_boole.specs.Groups.{passes_at}
use Rattle.xd_boole.specs.Meaning.{any_accepts}
use Rattle.xd_points.specs.Meaning.{PointView}
use Rattle.xd_points.specs.FirstRuns.{place_before}
use Rattle.xd_points.specs.Points.{AddsMoves, LeadsAs, StandForMoves, taken_before}
use Rattle.xd_points.proofs.ArePointsLemmas.{grows_same}
use Rattle.xd_points.proofs.GrowsLemmas.{grows_trans, keeps, means_stay}
use Rattle.xd_points.proofs.StandForMovesLemmas.{one_more, passes_walked, stand_for, stand_like, stand_then}
use Rattle.xd_points.proofs.PatternMoveLemmas.{place_of}
use Rattle.xd_points.proofs.steps.moves_of.Goals as goal

pub loop-number-init : goal.loop-number-init
loop-number-init g c =
    let a = c.args.automata.lefts.now in
    let b = c.args.automata.patterns.now in
    let of : PointView = c.args.of.now in
    let p = c.args.points.now in
    let states = g.M.PatternMove.states in
    let means = g.M.PatternMove.means a b in
    let document = g.M.PatternMove.document in
    let takes = g.M.PatternMove.takes b.auto in
    let xs = g.M.Move.moves_in (moves_at b.auto of.pattern) in
    let all : ℕ → g.M.PatternMove.First → Bool = λ n q. accepts a (document q) of.left && (passes_at (takes q) (take 0 xs) n && not (taken_before (takes q) xs b of (place_before c.args.first n) (document q))) in
    record {
      whole = c.requires.whole;
      grows = grows_same p;
      stand = subst (λ (ms : List g.row.M.Denot). StandForMoves states means xs p ms c.new-numbers.result.items all) (sym c.new-moves.ensures.items)
          (subst (λ (ns : List ℕ). StandForMoves states means xs p [] ns all) (sym c.new-numbers.ensures.items)
          (record { steps = tt; taken = λ n q. sym (and_false (accepts a (document q) of.left)) }));
    }

pub loop-number-preserved : goal.loop-number-preserved
loop-number-preserved g c =
    let a = c.args.automata.lefts.now in
    let b = c.args.automata.patterns.now in
    let of : PointView = c.args.of.now in
    let first = c.args.first in
    let states = g.M.PatternMove.states in
    let leads = LeadsAs states in
    let means = g.M.PatternMove.means a b in
    let document = g.M.PatternMove.document in
    let t = g.M.PatternMove.takes b.auto in
    let xs = g.M.Move.moves_in (moves_at b.auto of.pattern) in
    let i = c.loop-number.number in
    let q = c.loop-number.points in
    let r = c.steps.new.points in
    let steps = c.in_ok-made.made.items in
    let xs_are : c.moves-number-end.result.now ≡ xs = c.moves-number-end.ensures.value ∙ ap (λ (w : PointView). g.M.Move.moves_in (moves_at b.auto w.pattern)) c.of.view_is in
    let within : i < length xs = subst (λ (ms : List g.row.M.Denot). i < length ms) xs_are c.loop-number-test.true in
    let w = place_of xs i within in
    let takes : ℕ → g.M.PatternMove.First → Bool = λ k e. accepts a (document e) of.left && (t e w.item && not (taken_before (t e) xs b of k (document e))) in
    let adds : AddsMoves (leads w.item) means a b q r [] steps (takes (place_before first i)) = subst (λ (k : ℕ). AddsMoves (leads w.item) means a b q r [] steps (takes k)) c.place_of-place.ensures (c.in_ok-made.ensures w.item w.at) in
    let all : ℕ → g.M.PatternMove.First → Bool = λ n e. accepts a (document e) of.left && (passes_at (t e) (take (i + 1) xs) n && not (taken_before (t e) xs b of (place_before first n) (document e))) in
    let both : StandForMoves states means xs r (c.loop-number.moves.items ++ steps) (c.loop-number.numbers.items ++ map (λ (m : g.row.M.Denot). i) steps) all =
    stand_then (means_stay a b (λ m e. g.M.Move.has m (g.M.PatternMove.name e)) states g.M.PatternMove.goes_on means (g.met.M.PatternMove.meant a b) g.met.M.PatternMove.agree) (keeps q r adds.grows)
    c.loop-number.invariant.stand (stand_for i w.there adds)
    (λ n e. one_more (t e) xs i n w.item (accepts a (document e) of.left) (any_accepts b.taken.auto of.rights (document e)) (λ k. list_any (t e) (take (place_before first k) xs)) within w.at) in
    record {
      whole = adds.whole;
      grows = grows_trans c.args.points.now q r c.loop-number.invariant.grows adds.grows;
      stand = subst (λ (ms : List g.row.M.Denot). StandForMoves states means xs r ms c.append.new.numbers.items all) (sym c.in_ok-append.ensures.moves)
          (subst (λ (ns : List ℕ). StandForMoves states means xs r (c.loop-number.moves.items ++ steps) ns all) (sym c.in_ok-append.ensures.numbers) both);
    }

pub returns-clause-stand : goal.returns-clause-stand
returns-clause-stand g c =
    let a = c.args.automata.lefts.now in
    let b = c.args.automata.patterns.now in
    let of : PointView = c.args.of.now in
    let document = g.M.PatternMove.document in
    let t = g.M.PatternMove.takes b.auto in
    let xs = g.M.Move.moves_in (moves_at b.auto of.pattern) in
    let i = c.loop-number.number in
    let xs_are : c.moves-number-end.result.now ≡ xs = c.moves-number-end.ensures.value ∙ ap (λ (w : PointView). g.M.Move.moves_in (moves_at b.auto w.pattern)) c.of.view_is in
    let past : length xs ≤ i = subst (λ (ms : List g.row.M.Denot). length ms ≤ i) xs_are c.loop-number-test.false in
    stand_like c.loop-number.invariant.stand
    (λ n e. ap (λ w. accepts a (document e) of.left && (w && not (taken_before (t e) xs b of (place_before c.args.first n) (document e)))) (passes_walked (t e) xs i n past))
