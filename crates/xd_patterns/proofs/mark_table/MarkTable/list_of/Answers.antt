use Rattle.std.proofs.Common.{◌≡◌, ℕ, [], map, get_or, length, arith, refl, ap, sym, ◌∙◌}
use Rattle.xd_auto.specs.declared.auto.State.{State}
use Rattle.xd_auto.specs.declared.kind.MoveKind.{MoveKind}
use Rattle.xd_auto.specs.declared.kind.MoveKind.TheVariants as M
use Rattle.xd_patterns.specs.Held.{list_words, lists_at, marking_in, words_in}
use Rattle.xd_patterns.specs.Variables.{words_of}
use Rattle.xd_patterns.specs.declared.mark_table.MarkTable.{MarkTable}
use Rattle.xd_patterns.specs.Marked.{marks_at}
use Rattle.xd_patterns.proofs.VariableLemmas.{mark_at, no_mark, no_numbers}
use Rattle.xd_patterns.proofs.mark_table.MarkTable.list_of.Goals as goal

by_lists : (m : MarkTable) (s : State) (kind : MoveKind) (n : ℕ) → marks_at (marking_in m s) kind n ≡ get_or (map (list_words m) (lists_at m s kind)) n []
by_lists m s M.Label n = refl
by_lists m s M.Text n = refl

pub returns-then-number-lists : goal.returns-then-number-lists
returns-then-number-lists c =
    let m = c.args.self.now in
    let n = c.args.number in
    let L = lists_at m c.args.state c.args.kind in
    let t = c.if-number-lists.true in
    let e = ap length c.lists_of-lists.ensures in
    ap (words_of (words_in m)) (no_numbers m.lists.items c.len.result (omega (arith, c.len.ensures, m.lists.ok.0)))
    ∙ sym (by_lists m c.args.state c.args.kind n ∙ no_mark (list_words m) L n (omega arith))

pub returns : goal.returns
returns c =
    let m = c.args.self.now in
    let n = c.args.number in
    let L = lists_at m c.args.state c.args.kind in
    let f = c.if-number-lists.false in
    let e = ap length c.lists_of-lists.ensures in
    ap (list_words m) (ap (λ xs. get_or xs n 0) c.lists_of-lists.ensures)
    ∙ sym (by_lists m c.args.state c.args.kind n ∙ mark_at (list_words m) L n 0 (omega arith))
