use Rattle.std.proofs.Common.{◌≡◌, arith, rules, length, vec_len, ap, sym, ◌∙◌}
use Rattle.xd_rec.specs.declared.components.Segment.{Segment}
use Rattle.xd_rec.proofs.SearchStepLemmas.{next_target}
use Rattle.xd_rec.proofs.components.Search.next_target.Goals as goal

pub returns : goal.returns
returns c =
    let s = c.args.self.now in
    let n : vec_len s.segments ≡ length s.segments.items = search rules in
    let k : vec_len s.todo ≡ length s.todo.items = search rules in
    let b = c.requires.busy in
    next_target c.requires.searched c.requires.closed (omega arith)
    (λ e. c.if-len-last_segment.false (c.len.ensures ∙ k ∙ e ∙ sym (ap (λ (x : Segment). x.todo_from) c.last_segment.ensures))) c.index.result.now (c.len-2.ensures ∙ k) c.index.ensures
