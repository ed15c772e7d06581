use Rattle.std.proofs.Common.{not, ap, ◌∙◌, ◌||◌}
use Rattle.std.specs.Str.{bytes_eq}
use Rattle.xd_syntax.specs.Words.{has_word}
use Rattle.xd_names.proofs.WordLemmas.{keys_have, keys_add}
use Rattle.xd_names.proofs.words.Words.add.Goals as goal

pub returns-clause-new : goal.returns-clause-new
returns-clause-new c =
    c.in_ok-insert.ensures.added
    ∙ ap not (keys_have c.in_ok-word.word c.self.inside.words.keys)
    ∙ ap (λ w. not (has_word c.self.inside.words.keys w)) c.in_ok-word.ensures
    ∙ ap (λ ks. not (has_word ks c.args.word.now)) c.self.view_is

pub returns-clause-words : goal.returns-clause-words
returns-clause-words c w =
    keys_add c.in_ok-word.word w c.self.inside.words.keys c.insert.new.self.keys (c.in_ok-insert.ensures.updates.0 w)
    ∙ ap (λ v. bytes_eq v w || has_word c.self.inside.words.keys w) c.in_ok-word.ensures
    ∙ ap (λ ks. bytes_eq c.args.word.now w || has_word ks w) c.self.view_is
