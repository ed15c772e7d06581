use Rattle.std.proofs.Common.{List, [], ◌∷◌, ◌++◌, drop, ◌+◌, ℕ, refl, ap, ◌∙◌}
use Rattle.xd_doc.specs.Document.{Document, element}
use Rattle.xd_plain.specs.PlainDocuments.{document_of}
use Rattle.xd_plain.specs.PlainFits.{splits_of, behind_element}
use Rattle.xd_plain.proofs.PlainLoops.{item_step, items_done}
use Rattle.xd_plain.specs.declared.fits.Split.{Split}
use Rattle.xd_plain.proofs.fits.push_behind_element.Goals as goal

pub loop-split-preserved : goal.loop-split-preserved
loop-split-preserved c =
    let l = c.args.label.now in
    let d : Document = document_of c.args.content.now in
    let x = c.split-item.result in
    let xs = c.args.splits.now in
    let i : ℕ = c.loop-split.split-index in
    let back : Document = document_of x.back in
    let old : List (Document × Document) = splits_of c.loop-split.made.items in
    let F : List Split → List (Document × Document) = λ ys. behind_element l d (splits_of ys) in
    ap (λ ps. ps ++ F (drop (i + 1) xs))
    (c.in_ok-push_split.ensures
    ∙ ap (λ a. old ++ (a, back) ∷ [])
    (c.in_ok-front.ensures ∙ ap (λ e. element l e (document_of c.in_ok-behind.behind)) c.in_ok-inside.ensures ∙ ap (element l d) c.in_ok-behind.ensures))
    ∙ item_step F (element l d (document_of x.front), back) xs i x old _ c.loop-split-test.true c.split-item.is refl c.loop-split.invariant

pub returns : goal.returns
returns c =
    let F : List Split → List (Document × Document) = λ ys. behind_element c.args.label.now (document_of c.args.content.now) (splits_of ys) in
    items_done F c.args.splits.now c.loop-split.split-index _ _ refl c.loop-split-test.false c.loop-split.invariant
