use Rattle.std.proofs.Common.{◌||◌, [], ◌∷◌, get_or, take, ap, sym, ◌∙◌}
use Rattle.std.proofs.lemmas.List.{take_more}
use Rattle.xd_syntax.specs.Words.{has_word}
use Rattle.xd_patterns.specs.Held.{words_in}
use Rattle.xd_patterns.specs.Variables.{words_of}
use Rattle.xd_patterns.proofs.WordLemmas.{word_of_one, words_split}
use Rattle.xd_patterns.proofs.mark_table.MarkTable.has.Goals as goal

pub returns-then-is_word : goal.returns-then-is_word
returns-then-is_word c =
    let ns = c.marks-mark-items.result.now in
    let w = c.args.word.now in
    sym (
    ap (λ ws. has_word ws w) (sym c.marks-mark-items.ensures)
    ∙ word_of_one (words_in c.args.self.now) ns c.loop-mark.mark-index 0 w c.loop-mark-test.true (sym c.is_word.ensures ∙ c.if-is_word.true))

pub loop-mark-preserved : goal.loop-mark-preserved
loop-mark-preserved c =
    let ns = c.marks-mark-items.result.now in
    let w = c.args.word.now in
    let vs = words_in c.args.self.now in
    let i = c.loop-mark.mark-index in
    ap (λ ms. has_word (words_of vs ms) w) (take_more ns i 0 c.loop-mark-test.true)
    ∙ words_split vs (take i ns) (get_or ns i 0 ∷ []) w ∙ ap (λ b. b || has_word (words_of vs (get_or ns i 0 ∷ [])) w) c.loop-mark.invariant ∙ sym c.is_word.ensures ∙ c.if-is_word.false
