use Rattle.std.proofs.Common.{not, ap, ◌∙◌, ◌&&◌}
use Rattle.std.specs.Str.{bytes_eq}
use Rattle.xd_syntax.specs.Words.{has_word}
use Rattle.xd_names.proofs.WordLemmas.{keys_remove}
use Rattle.xd_names.proofs.words.Words.remove.Goals as goal

pub returns : goal.returns
returns c w =
    keys_remove c.args.word.now w c.self.inside.words.keys c.remove.new.self.keys (c.remove.ensures.updates.0 w)
    ∙ ap (λ ks. not (bytes_eq c.args.word.now w) && has_word ks w) c.self.view_is
