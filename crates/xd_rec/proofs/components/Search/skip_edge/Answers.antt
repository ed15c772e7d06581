use Rattle.std.proofs.Common.{◌≡◌, ◌+◌, ◌-◌, arith, rules, length, take, vec_len, ap, sym, subst, ◌∙◌}
use Rattle.std.proofs.lemmas.List.{length-take-le}
use Rattle.xd_rec.specs.Components.{IsSearched}
use Rattle.xd_rec.proofs.IsSearchedLemmas.{skipped_last}
use Rattle.xd_rec.proofs.components.Search.skip_edge.Goals as goal

pub returns-clause-searched : goal.returns-clause-searched
returns-clause-searched c =
    let s = c.args.self.now in
    let n : vec_len s.todo ≡ length s.todo.items = search rules in
    let m = length s.segments.items - 1 in
    let t = length s.todo.items - 1 in
    let es : length s.segments.items ≡ m + 1 = omega (arith, c.requires.busy) in
    let w = c.requires.waiting in
    let et : length s.todo.items ≡ t + 1 = omega arith in
    let e : c.pop.new.self.items ≡ take t s.todo.items = c.pop.ensures.rest ∙ ap (λ k. take (k - 1) s.todo.items) n in
    subst (λ ts. IsSearched c.args.graph.now s.standing.items s.path.items ts s.segments.items s.finished) (sym e)
    (skipped_last c.args.graph.now s.standing.items s.path.items s.todo.items s.segments.items s.finished m t c.requires.searched es et (omega arith) c.requires.known)

pub returns-clause-less : goal.returns-clause-less
returns-clause-less c =
    let s = c.args.self.now in
    let n : vec_len s.todo ≡ length s.todo.items = search rules in
    let w = c.requires.waiting in
    let e = ap length c.pop.ensures.rest in
    let l = length-take-le (vec_len s.todo - 1) s.todo.items (omega arith) in
    omega arith
