use Rattle.std.proofs.Common.{◌-◌, length, drop}
use Rattle.std.proofs.lemmas.List.Elements.{All-drop, All-take}
use Rattle.xd_page.specs.Words.{IsWord}
use Rattle.xd_page.proofs.+add_words.Goals as goal

pub returns-in_ok-add_words-in-Ok-clause-some : goal.returns-in_ok-add_words-in-Ok-clause-some
returns-in_ok-add_words-in-Ok-clause-some t c e all =
    let words = c.args.words.now in
    c.in_ok-add_words-in-Ok.ensures.some e (All-take IsWord (length words - 1) (drop 1 words) (All-drop IsWord 1 words all))
