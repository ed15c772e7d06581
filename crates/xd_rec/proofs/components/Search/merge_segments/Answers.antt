use Rattle.std.proofs.Common.{◌≡◌, ◌+◌, ◌-◌, arith, rules, length, take, vec_len, ap, sym, subst, ◌∙◌}
use Rattle.std.proofs.lemmas.List.{length-take-le}
use Rattle.xd_rec.specs.Components.{IsSearched}
use Rattle.xd_rec.proofs.IsSearchedLemmas.{merged_last}
use Rattle.xd_rec.proofs.components.Search.merge_segments.Goals as goal

pub returns-clause-searched : goal.returns-clause-searched
returns-clause-searched c =
    let s = c.args.self.now in
    let n : vec_len s.segments ≡ length s.segments.items = search rules in
    let m = length s.segments.items - 1 in
    let t = length s.todo.items - 1 in
    let es : length s.segments.items ≡ m + 1 = omega (arith, c.requires.busy) in
    let w = c.requires.waiting in
    let et : length s.todo.items ≡ t + 1 = omega arith in
    let e : c.pop.new.self.items ≡ take m s.segments.items = c.pop.ensures.rest ∙ ap (λ k. take (k - 1) s.segments.items) n in
    subst (λ ss. IsSearched c.args.graph.now s.standing.items s.path.items s.todo.items ss s.finished) (sym e)
    (merged_last c.args.graph.now s.standing.items s.path.items s.todo.items s.segments.items s.finished m t (c.requires.back).0 c.requires.searched es et (omega arith) (c.requires.back).1 (c.requires.back).2)

pub returns-clause-less : goal.returns-clause-less
returns-clause-less c =
    let s = c.args.self.now in
    let n : vec_len s.segments ≡ length s.segments.items = search rules in
    let k : vec_len c.pop.new.self ≡ length c.pop.new.self.items = search rules in
    let b = c.requires.busy in
    let e = ap length c.pop.ensures.rest in
    let l = length-take-le (vec_len s.segments - 1) s.segments.items (omega arith) in
    omega arith
