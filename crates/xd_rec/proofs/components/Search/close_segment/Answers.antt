use Rattle.std.proofs.Common.{◌≡◌, ◌+◌, ◌-◌, ◌<◌, arith, rules, length, get_or, take, vec_len, ap, sym, subst, ◌∙◌}
use Rattle.std.proofs.lemmas.List.{length-take-le, get_or_read}
use Rattle.xd_rec.specs.Components.{IsDoneFrom, no_segment, node_at}
use Rattle.xd_rec.specs.declared.components.Segment.{Segment}
use Rattle.xd_rec.proofs.ComponentLemmas.{closed_last, closed_seen_last}
use Rattle.xd_rec.proofs.components.Search.close_segment.Goals as goal

pub finish-requires-clause-on_path : goal.finish-requires-clause-on_path
finish-requires-clause-on_path c = λ v p e. subst (λ path. (p < length path) × (node_at path p ≡ v)) (sym c.deref.ensures.value) (c.requires.searched.on_path v p e)

pub returns-clause-searched : goal.returns-clause-searched
returns-clause-searched c =
    let s = c.args.self.now in
    let n : vec_len s.segments ≡ length s.segments.items = search rules in
    let m = length s.segments.items - 1 in
    let es : length s.segments.items ≡ m + 1 = omega (arith, c.requires.busy) in
    let e : c.pop.new.self.items ≡ take m s.segments.items = c.pop.ensures.rest ∙ ap (λ k. take (k - 1) s.segments.items) n in
    let at : c.len.result - 1 ≡ m = ap (λ k. k - 1) (c.len.ensures ∙ n) in
    let top : c.index.result.now ≡ get_or s.segments.items m no_segment =
    get_or_read s.segments.items m c.index.result.now (omega arith) (c.index.ensures ∙ ap (λ k. get_or s.segments.items k c.index.result.now) at) no_segment in
    let d = subst (λ (x : Segment). IsDoneFrom s.standing.items c.finish.new.standing.items x.path_from s.finished) top c.finish.ensures in
    let t = c.truncate.ensures.items ∙ ap (λ (x : Segment). take x.path_from s.path.items) top in
    rw (e, t) (closed_last c.args.graph.now s.standing.items c.finish.new.standing.items s.path.items s.todo.items s.segments.items s.finished m c.requires.searched es c.requires.no_edge d)

pub returns-clause-stay : goal.returns-clause-stay
returns-clause-stay c =
    let s = c.args.self.now in
    let n : vec_len s.segments ≡ length s.segments.items = search rules in
    let m = length s.segments.items - 1 in
    let es : length s.segments.items ≡ m + 1 = omega (arith, c.requires.busy) in
    let at : c.len.result - 1 ≡ m = ap (λ k. k - 1) (c.len.ensures ∙ n) in
    let top : c.index.result.now ≡ get_or s.segments.items m no_segment =
    get_or_read s.segments.items m c.index.result.now (omega arith) (c.index.ensures ∙ ap (λ k. get_or s.segments.items k c.index.result.now) at) no_segment in
    let d = subst (λ (x : Segment). IsDoneFrom s.standing.items c.finish.new.standing.items x.path_from s.finished) top c.finish.ensures in
    closed_seen_last c.args.graph.now s.standing.items c.finish.new.standing.items s.path.items s.todo.items s.segments.items s.finished m c.requires.searched es c.requires.no_edge d

pub returns-clause-less : goal.returns-clause-less
returns-clause-less c =
    let s = c.args.self.now in
    let n : vec_len s.segments ≡ length s.segments.items = search rules in
    let b = c.requires.busy in
    let e = ap length c.pop.ensures.rest in
    let l = length-take-le (vec_len s.segments - 1) s.segments.items (omega arith) in
    let u = c.finish.ensures.unseen_still in
    omega arith
