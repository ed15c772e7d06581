use Rattle.std.proofs.Common.{arith, ap, sym, ◌∙◌}
use Rattle.xd_patterns.specs.Held.{words_in}
use Rattle.xd_patterns.specs.Variables.{words_of}
use Rattle.xd_patterns.specs.declared.variables.Numbers.{Numbers}
use Rattle.xd_patterns.proofs.VariableLemmas.{no_numbers, number_got}
use Rattle.xd_patterns.proofs.mark_table.MarkTable.list.Goals as goal

pub returns-then-list-len : goal.returns-then-list-len
returns-then-list-len c =
    let m = c.args.self.now in
    let t = c.if-list-len.true in
    sym (ap (words_of (words_in m)) (no_numbers m.lists.items c.args.list (omega (arith, c.len.ensures, m.lists.ok.0))))

pub returns : goal.returns
returns c =
    let m = c.args.self.now in
    let f = c.if-list-len.false in
    ap (words_of (words_in m))
    (c.as_slice.ensures.value ∙ ap (λ (x : Numbers). x.list.items) c.index.ensures
    ∙ sym (number_got m.lists.items c.args.list c.index.result.now (omega (arith, c.len.ensures, m.lists.ok.0))))
