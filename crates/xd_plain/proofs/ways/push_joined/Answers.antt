use Rattle.std.proofs.Common.{List, [], ◌∷◌, ◌++◌, map, drop, ◌+◌, ℕ, refl, ap, ◌∙◌}
use Rattle.std.proofs.lemmas.List.{map-append}
use Rattle.xd_syntax.specs.Ways.{Way, then_way}
use Rattle.xd_plain.specs.PlainWays.{way_of, ways_of}
use Rattle.xd_plain.specs.declared.ways.PlainWay.{PlainWay}
use Rattle.xd_plain.proofs.PlainLoops.{item_step, items_done}
use Rattle.xd_plain.proofs.ways.push_joined.Goals as goal

pub loop-second-preserved : goal.loop-second-preserved
loop-second-preserved c =
    let f : Way → Way = then_way (way_of c.args.first.now) in
    let x = c.second-item.result in
    let xs = c.args.seconds.now in
    let i : ℕ = c.loop-second.second-index in
    let old = c.loop-second.made.items in
    let F : List PlainWay → List Way = λ ys. map f (ways_of ys) in
    ap (λ ws. ws ++ F (drop (i + 1) xs))
    (ap ways_of c.in_ok-push.ensures.items ∙ map-append way_of old (c.in_ok-way.way ∷ []) ∙ ap (λ w. ways_of old ++ w ∷ []) c.in_ok-way.ensures)
    ∙ item_step F (f (way_of x)) xs i x (ways_of old) _ c.loop-second-test.true c.second-item.is refl c.loop-second.invariant

pub returns : goal.returns
returns c =
    let F : List PlainWay → List Way = λ ys. map (then_way (way_of c.args.first.now)) (ways_of ys) in
    items_done F c.args.seconds.now c.loop-second.second-index _ _ refl c.loop-second-test.false c.loop-second.invariant
