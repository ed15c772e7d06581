use Rattle.std.proofs.Common.{refl, ◌≡◌, ◌<◌, ◌&&◌, ◌||◌, not, Bool, ℕ, take, List, [], length, get_or, ap, sym, subst, ◌∙◌}
use Rattle.std.specs.List.{All, AllByRecursion, list_any}
use Rattle.xd_doc.proofs.Bools.{and_join}
use Rattle.xd_doc.proofs.Lists.{one_at}
use Rattle.xd_auto.specs.Automaton.{accepts, moves_at}
use Rattle.xd_boole.specs.Groups.{passes_at}
use Rattle.xd_boole.proofs.DifferenceLemmas.{left_more}
use Rattle.xd_boole.proofs.Lists.{all_at, any_walked, at_itself}
use Rattle.xd_boole.proofs.MatchLemmas.{passes_there}
use Rattle.xd_points.specs.Meaning.{PointView}
use Rattle.xd_points.specs.Points.{AddsMoves, LeadsAs, taken_before}
use Rattle.xd_points.proofs.GrowsLemmas.{adds_like, adds_none, adds_then}
use Rattle.xd_points.proofs.PatternMoveLemmas.{met_tell}
use Rattle.xd_points.proofs.moves.steps.Goals as goal

pub loop-number-init : goal.loop-number-init
loop-number-init g c =
    let a = c.args.automata.lefts.now in
    let b = c.args.automata.patterns.now in
    let p = c.args.points.now in
    subst (λ (ms : List g.row.M.Denot). AddsMoves (LeadsAs g.M.PatternMove.states c.index-twos-number.result) (g.M.PatternMove.means a b) a b p p [] ms _) (sym c.new-made.ensures.items) (adds_none c.requires.whole tt (λ q. refl))

pub loop-number-preserved : goal.loop-number-preserved
loop-number-preserved g c =
    let a = c.args.automata.lefts.now in
    let b = c.args.automata.patterns.now in
    let two = c.index-twos-number.result in
    let takes = g.M.PatternMove.takes in
    let ones = c.moves-ones.result.now in
    let numbers = c.deref-number-items.result.now in
    let i = c.loop-number.number-index in
    let k = get_or numbers i 0 in
    let one = c.index-ones-number.result in
    let below : All (λ (n : ℕ). n < length ones) numbers = subst (λ (ns : List ℕ). All (λ (n : ℕ). n < length ones) ns) (sym c.deref-number-items.ensures.value)
    (subst (λ (ms : List g.row.M.Denot). All (λ (n : ℕ). n < length ms) c.in_ok-numbers.numbers.items) (sym c.moves-ones.ensures.value) c.in_ok-numbers.ensures.within) in
    let within : k < length ones = below i 0 c.loop-number-test.true in
    let rest : g.M.PatternMove.First → Bool = λ q. not (taken_before (takes b.auto q) (g.M.Move.moves_in (moves_at b.auto c.args.of.now.pattern)) b c.args.of.now c.args.place (g.M.PatternMove.document q)) in
    adds_then c.loop-number.invariant c.in_ok-add_meet.ensures
    (λ q.
    ap (λ w. (list_any (passes_at (takes a q) ones) (take i numbers) && (takes b.auto q two && rest q)) || w)
    (sym (and_join (takes a q one) (takes b.auto q two) (rest q)) ∙ ap (λ w. w && (takes b.auto q two && rest q)) (sym (passes_there (takes a q) ones k one within c.index-ones-number.is)))
    ∙ left_more (passes_at (takes a q) ones) numbers i k (takes b.auto q two && rest q) c.loop-number-test.true (at_itself numbers i 0 c.loop-number-test.true))

pub add_meet-requires : goal.add_meet-requires
add_meet-requires g c =
    let a = c.args.automata.lefts.now in
    let b = c.args.automata.patterns.now in
    let ones = c.moves-ones.result.now in
    let twos = c.moves-twos.result.now in
    let numbers = c.deref-number-items.result.now in
    let k = get_or numbers c.loop-number.number-index 0 in
    let all : All (λ (n : ℕ). n < length ones) numbers = subst (λ (ns : List ℕ). All (λ (n : ℕ). n < length ones) ns) (sym c.deref-number-items.ensures.value)
    (subst (λ (ms : List g.row.M.Denot). All (λ (n : ℕ). n < length ms) c.in_ok-numbers.numbers.items) (sym c.moves-ones.ensures.value) c.in_ok-numbers.ensures.within) in
    let within : k < length ones = all c.loop-number.number-index 0 c.loop-number-test.true in
    let there : c.args.number < length twos = subst (λ (ms : List g.row.M.Denot). c.args.number < length ms) (sym (c.moves-twos.ensures.value ∙ ap (λ (p : PointView). g.M.Move.moves_in (moves_at b.auto p.pattern)) c.of.view_is)) c.requires.number in
    let below = g.M.PatternMove.below in
    record {
      whole = c.loop-number.invariant.whole;
      leads = c.loop-number.invariant.leads;
      of = c.requires.of;
      one = all_at (below (length a)) ones (subst (AllByRecursion (below (length a))) (sym c.moves-ones.ensures.value) (g.met.M.PatternMove.closed (length a) _ c.moves-ones.ensures.closed)) k c.index-ones-number.result within c.index-ones-number.is;
      two = all_at (below (length b.auto)) twos (subst (AllByRecursion (below (length b.auto))) (sym c.moves-twos.ensures.value) (g.met.M.PatternMove.closed (length b.auto) _ c.moves-twos.ensures.closed)) c.args.number c.index-twos-number.result there c.index-twos-number.is;
    }

pub returns : goal.returns
returns g c m at =
    let a = c.args.automata.lefts.now in
    let b = c.args.automata.patterns.now in
    let of : PointView = c.args.of.now in
    let two = c.index-twos-number.result in
    let takes = g.M.PatternMove.takes in
    let leads = LeadsAs g.M.PatternMove.states in
    let means = g.M.PatternMove.means a b in
    let moves_in = g.M.Move.moves_in in
    let has = g.M.Move.has in
    let document = g.M.PatternMove.document in
    let ones = c.moves-ones.result.now in
    let twos = c.moves-twos.result.now in
    let numbers = c.deref-number-items.result.now in
    let before : g.M.PatternMove.First → Bool = λ q. taken_before (takes b.auto q) (moves_in (moves_at b.auto of.pattern)) b of c.args.place (document q) in
    let twos_are : twos ≡ moves_in (moves_at b.auto of.pattern) = c.moves-twos.ensures.value ∙ ap (λ (p : PointView). moves_in (moves_at b.auto p.pattern)) c.of.view_is in
    let there : c.args.number < length twos = subst (λ (ms : List g.row.M.Denot). c.args.number < length ms) (sym twos_are) c.requires.number in
    let here : m ≡ get_or twos c.args.number m = subst (λ (ms : List g.row.M.Denot). m ≡ get_or ms c.args.number m) (sym twos_are) at in
    let same : two ≡ m = one_at twos c.args.number two m there c.index-twos-number.is here in
    subst (λ (w : g.row.M.Denot). AddsMoves (leads w) means a b c.args.points.now c.loop-number.points [] c.loop-number.made.items (λ q. accepts a (document q) of.left && (takes b.auto q w && not (before q)))) same
    (adds_like c.loop-number.invariant
    (λ q.
    let z = takes b.auto q two && not (before q) in
    ap (λ w. w && z) (any_walked (passes_at (takes a q) ones) numbers c.loop-number.number-index c.loop-number-test.false)
    ∙ ap (λ (ns : List ℕ). list_any (passes_at (takes a q) ones) ns && z) c.deref-number-items.ensures.value
    ∙ ap (λ (ms : List g.row.M.Denot). list_any (passes_at (takes a q) ms) c.in_ok-numbers.numbers.items && z) c.moves-ones.ensures.value
    ∙ met_tell has (g.M.PatternMove.name q) (g.M.PatternMove.goes_on (λ s d. accepts a d s) q) (takes a q) two (moves_in (moves_at a c.of.inside.left)) c.in_ok-numbers.numbers.items (g.M.PatternMove.goes_on (λ s d. accepts b.auto d s) q two) (takes b.auto q two) (before q)
    (g.met.M.PatternMove.taken a q) (ap (λ (w : g.row.M.Denot → Bool). w two) (g.met.M.PatternMove.taken b.auto q)) c.in_ok-numbers.ensures
    ∙ ap (λ w. w && z) (sym (g.met.M.PatternMove.accepted a c.of.inside.left q))
    ∙ ap (λ (p : PointView). accepts a (document q) p.left && z) c.of.view_is))
