use Rattle.std.proofs.Common.{◌≡◌, ◌∙◌, sym, ap, arith, rules, length}
use Rattle.std.specs.String.{string_bytes, string_len}
use Rattle.xd_doc.proofs.ClassLemmas.{longest_named, excepted_named}
use Rattle.xd_empty.proofs.NameLemmas.{word_more}
use Rattle.xd_empty.proofs.names.other_label.Goals as goal

pub loop-word-smaller : goal.loop-word-smaller
loop-word-smaller c =
    let named = excepted_named c.args.class.now c.in_ok-label.label c.requires (sym c.has.ensures ∙ c.if-has.false) in
    let l = longest_named c.args.class.now.names c.in_ok-label.label named in
    let b : length c.in_ok-label.label ≡ length (string_bytes c.loop-word.word) = ap length (c.in_ok-label.ensures ∙ c.as_str.ensures.value) in
    let w : string_len c.loop-word.word ≡ length (string_bytes c.loop-word.word) = search rules in
    let one = ap length (c.in_ok-push.ensures.ascii (omega arith)) in
    omega (arith, c.in_ok-push.ensures.len, one)

pub loop-word-preserved : goal.loop-word-preserved
loop-word-preserved c =
    rw (c.in_ok-push.ensures.bytes, c.in_ok-push.ensures.ascii (omega arith)) (word_more (string_bytes c.loop-word.word) c.loop-word.invariant)
