use Rattle.std.proofs.Common.{◌<◌, ℕ, Vec, Global, map, length, sym, subst, ◌∙◌, ap, arith}
use Rattle.std.proofs.lemmas.List.{length-map}
use Rattle.xd_sound.specs.Graph.{IsClosed}
use Rattle.xd_sound.proofs.Graphs.{closed_kept, closed_more, view_more, with_edge}
use Rattle.xd_sound.proofs.graph.Graph.add.Goals as goal

pub invariant_of-self : goal.invariant_of-self
invariant_of-self c =
    let ts = c.self.inside.targets.items in
    let m = length-map ts (λ (v : Vec ℕ Global). v.items) in
    let l : c.args.from < length ts = omega (arith, ap length c.self.view_is, c.requires.from) in
    closed_kept (λ (v : Vec ℕ Global). v.items) ts c.args.from c.index_mut.result.now c.push.new.self l c.index_mut.ensures.value c.in_err-push.ensures.items c.self.invariant

pub invariant_of-self-2 : goal.invariant_of-self-2
invariant_of-self-2 c =
    let ts = c.self.inside.targets.items in
    let m = length-map ts (λ (v : Vec ℕ Global). v.items) in
    let l : c.args.from < length ts = omega (arith, ap length c.self.view_is, c.requires.from) in
    let f : c.args.from < length (map (λ (v : Vec ℕ Global). v.items) ts) = omega arith in
    let t : c.args.to < length (map (λ (v : Vec ℕ Global). v.items) ts) = omega (arith, ap length c.self.view_is, c.requires.to) in
    subst IsClosed (sym (view_more (λ (v : Vec ℕ Global). v.items) ts c.args.from c.args.to c.index_mut.result.now c.push.new.self l c.index_mut.ensures.value c.in_ok-push.ensures.items))
    (closed_more (map (λ (v : Vec ℕ Global). v.items) ts) c.args.from c.args.to c.self.invariant f t)

pub returns : goal.returns
returns c =
    let ts = c.self.inside.targets.items in
    let m = length-map ts (λ (v : Vec ℕ Global). v.items) in
    let l : c.args.from < length ts = omega (arith, ap length c.self.view_is, c.requires.from) in
    view_more (λ (v : Vec ℕ Global). v.items) ts c.args.from c.args.to c.index_mut.result.now c.push.new.self l c.index_mut.ensures.value c.in_ok-push.ensures.items
    ∙ ap (λ g. with_edge g c.args.from c.args.to) c.self.view_is
