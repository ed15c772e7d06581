use Rattle.std.proofs.Common.{◌+◌, ◌∷◌, drop, ap, sym, ◌∙◌}
use Rattle.std.proofs.lemmas.List.{drop_more}
use Rattle.xd_doc.proofs.Lists.{drop_past}
use Rattle.xd_patterns.specs.Variables.{put_each}
use Rattle.xd_patterns.proofs.compiled.put_words.Goals as goal

pub loop-word-preserved : goal.loop-word-preserved
loop-word-preserved c =
    let items = c.as_slice-word-items.result.now in
    let i = c.loop-word.word-index in
    let old = c.loop-word.words.keys in
    ap (λ ks. put_each ks (drop (i + 1) items)) c.in_ok-insert.ensures.keys
    ∙ ap (λ w. put_each old (w ∷ drop (i + 1) items)) (c.in_ok-share.ensures ∙ c.word-item.is)
    ∙ ap (put_each old) (sym (drop_more items i c.word-item.result c.loop-word-test.true))
    ∙ c.loop-word.invariant

pub returns : goal.returns
returns c =
    let items = c.as_slice-word-items.result.now in
    let test = c.loop-word-test.false in
    sym (ap (put_each c.loop-word.words.keys) (drop_past items c.loop-word.word-index test))
    ∙ c.loop-word.invariant ∙ ap (put_each c.args.words.now.keys) c.as_slice-word-items.ensures.keys
