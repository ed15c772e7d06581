use Rattle.std.proofs.Common.{List, [], ◌∷◌, ◌++◌, map, drop, ◌+◌, ℕ, refl, ap, ◌∙◌}
use Rattle.std.proofs.lemmas.List.{map-append}
use Rattle.xd_syntax.specs.Ways.{Way, binding}
use Rattle.xd_plain.specs.PlainWays.{way_of, ways_of}
use Rattle.xd_plain.specs.declared.ways.PlainWay.{PlainWay}
use Rattle.xd_plain.proofs.PlainLoops.{item_step, items_done}
use Rattle.xd_plain.proofs.ways.bound.Goals as goal

pub loop-way-preserved : goal.loop-way-preserved
loop-way-preserved c =
    let f : Way → Way = binding c.args.variable.now in
    let x = c.way-item.result in
    let xs = c.args.ways.now in
    let i : ℕ = c.loop-way.way-index in
    let old = c.loop-way.made.items in
    let F : List PlainWay → List Way = λ ys. map f (ways_of ys) in
    ap (λ ws. ws ++ F (drop (i + 1) xs))
    (ap ways_of c.in_ok-push.ensures.items ∙ map-append way_of old (c.in_ok-way.way ∷ []) ∙ ap (λ w. ways_of old ++ w ∷ []) c.in_ok-way.ensures)
    ∙ item_step F (f (way_of x)) xs i x (ways_of old) _ c.loop-way-test.true c.way-item.is refl c.loop-way.invariant

pub returns : goal.returns
returns c =
    let F : List PlainWay → List Way = λ ys. map (binding c.args.variable.now) (ways_of ys) in
    items_done F c.args.ways.now c.loop-way.way-index _ _ refl c.loop-way-test.false c.loop-way.invariant
