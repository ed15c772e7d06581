use Rattle.std.proofs.Common.{List, [], ◌∷◌, ◌++◌, drop, ◌+◌, ℕ, refl, ap, ◌∙◌}
use Rattle.xd_doc.specs.Document.{Document, text}
use Rattle.xd_plain.specs.PlainDocuments.{document_of}
use Rattle.xd_plain.specs.PlainFits.{splits_of, behind_text}
use Rattle.xd_plain.proofs.PlainLoops.{item_step, items_done}
use Rattle.xd_plain.specs.declared.fits.Split.{Split}
use Rattle.xd_plain.proofs.fits.push_behind_text.Goals as goal

pub loop-split-preserved : goal.loop-split-preserved
loop-split-preserved c =
    let s = c.args.text.now in
    let x = c.split-item.result in
    let xs = c.args.splits.now in
    let i : ℕ = c.loop-split.split-index in
    let back : Document = document_of x.back in
    let old : List (Document × Document) = splits_of c.loop-split.made.items in
    let F : List Split → List (Document × Document) = λ ys. behind_text s (splits_of ys) in
    ap (λ ps. ps ++ F (drop (i + 1) xs))
    (c.in_ok-push_split.ensures ∙ ap (λ a. old ++ (a, back) ∷ []) (c.in_ok-front.ensures ∙ ap (text s) c.in_ok-behind.ensures))
    ∙ item_step F (text s (document_of x.front), back) xs i x old _ c.loop-split-test.true c.split-item.is refl c.loop-split.invariant

pub returns : goal.returns
returns c =
    let F : List Split → List (Document × Document) = λ ys. behind_text c.args.text.now (splits_of ys) in
    items_done F c.args.splits.now c.loop-split.split-index _ _ refl c.loop-split-test.false c.loop-split.invariant
