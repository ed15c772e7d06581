use Rattle.std.proofs.Common.{◌≡◌, ℕ, List, ◌∷◌, ◌+◌, ◌++◌, map, drop, ap, sym, ◌∙◌}
use Rattle.xd_base.specs.declared.Place.{Place}
use Rattle.xd_syntax.specs.NameFaults.{Spot, duplicates}
use Rattle.xd_names.specs.Spots.{function_spot}
use Rattle.xd_names.proofs.WordLemmas.{drop_item}
use Rattle.xd_names.proofs.NameLemmas.{duplicates_more}
use Rattle.xd_names.proofs.duplicates.in_functions.Goals as goal

pub loop-function-preserved : goal.loop-function-preserved
loop-function-preserved c =
    let x = c.function-item.result in
    let n = c.loop-function.function-index in
    let rest = map function_spot (drop (n + 1) c.args.functions.now) in
    let spot : List ℕ → Place → Spot = λ w p. record { word = w; place = p } in
    let same : spot c.name.result.now c.place.result ≡ function_spot x = ap (λ w. spot w c.place.result) c.name.ensures ∙ ap (λ p. spot x.name p) c.place.ensures in
    ap (λ fs. fs ++ duplicates c.see.new.seen rest) c.in_ok-see.ensures.faults
    ∙ duplicates_more c.loop-function.faults.items c.loop-function.seen c.see.new.seen (spot c.name.result.now c.place.result) rest c.in_ok-see.ensures.seen
    ∙ ap (λ s. c.loop-function.faults.items ++ duplicates c.loop-function.seen (s ∷ rest)) same
    ∙ ap (λ xs. c.loop-function.faults.items ++ duplicates c.loop-function.seen (map function_spot xs)) (sym (drop_item c.args.functions.now n x c.loop-function-test.true c.function-item.is))
    ∙ c.loop-function.invariant
