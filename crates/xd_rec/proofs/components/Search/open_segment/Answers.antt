use Rattle.std.proofs.Common.{◌≡◌, ◌<◌, arith, rules, ◌++◌, length, set, vec_len, ap, sym, subst, ◌∙◌}
use Rattle.std.proofs.lemmas.List.{length_push, length-append}
use Rattle.xd_rec.specs.Components.{StaySeen, standing_of}
use Rattle.xd_rec.specs.declared.components.Standing.TheVariants.{Unseen, Open}
use Rattle.xd_rec.proofs.OpenLemmas.{opened, opened_seen, opened_here, unseen_less}
use Rattle.xd_rec.proofs.components.Search.open_segment.Goals as goal

pub returns-clause-searched : goal.returns-clause-searched
returns-clause-searched c =
    let s = c.args.self.now in
    let g = c.args.graph.now in
    let e : c.len-place.result ≡ length s.path.items = c.len-place.ensures ∙ (search rules) in
    let f : c.len.result ≡ length s.todo.items = c.len.ensures ∙ (search rules) in
    let i = c.requires.searched.count in
    let l : c.args.node < length s.standing.items = omega (arith, c.requires.node) in
    let a = c.in_ok-push.ensures.items in
    let b = c.in_ok-push-2.ensures.items in
    let d = c.in_ok-extend_from_slice.ensures.items ∙ ap (λ xs. s.todo.items ++ xs) c.successors.ensures.all in
    rw (a, b, d, e, f) (opened g s.standing.items s.path.items s.todo.items s.segments.items s.finished c.args.node c.requires.searched l c.requires.unseen c.requires.reached)

pub returns-clause-stay : goal.returns-clause-stay
returns-clause-stay c =
    let s = c.args.self.now in
    let e : c.len-place.result ≡ length s.path.items = c.len-place.ensures ∙ (search rules) in
    let i = c.requires.searched.count in
    let l : c.args.node < length s.standing.items = omega (arith, c.requires.node) in
    subst (λ p. StaySeen s.standing.items (set s.standing.items c.args.node (Open p))) (sym e)
    (opened_seen c.args.graph.now s.standing.items s.path.items s.todo.items s.segments.items s.finished c.args.node c.requires.searched l c.requires.unseen c.requires.reached)

pub returns-clause-seen : goal.returns-clause-seen
returns-clause-seen c =
    let s = c.args.self.now in
    let e : c.len-place.result ≡ length s.path.items = c.len-place.ensures ∙ (search rules) in
    let i = c.requires.searched.count in
    let l : c.args.node < length s.standing.items = omega (arith, c.requires.node) in
    subst (λ p. standing_of (set s.standing.items c.args.node (Open p)) c.args.node ≡ Unseen → ⊥) (sym e)
    (opened_here c.args.graph.now s.standing.items s.path.items s.todo.items s.segments.items s.finished c.args.node c.requires.searched l c.requires.unseen c.requires.reached)

pub returns-clause-less : goal.returns-clause-less
returns-clause-less c =
    let s = c.args.self.now in
    let i = c.requires.searched.count in
    let l : c.args.node < length s.standing.items = omega (arith, c.requires.node) in
    let u = unseen_less s.standing.items c.args.node c.len-place.result l c.requires.unseen in
    let b = ap length c.in_ok-push-2.ensures.items in
    let d = ap length c.in_ok-extend_from_slice.ensures.items in
    let n = length-append s.todo.items c.successors.result.now in
    let m = length_push s.segments.items (record { path_from = c.len-place.result; todo_from = c.len.result }) in
    let z : vec_len c.extend_from_slice.new.self ≡ length c.extend_from_slice.new.self.items = search rules in
    let k = c.extend_from_slice.new.self.small in
    omega arith
