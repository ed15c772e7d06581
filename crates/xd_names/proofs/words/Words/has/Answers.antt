use Rattle.std.proofs.Common.{ap, ◌∙◌}
use Rattle.xd_syntax.specs.Words.{has_word}
use Rattle.xd_names.proofs.WordLemmas.{keys_have}
use Rattle.xd_names.proofs.words.Words.has.Goals as goal

pub returns : goal.returns
returns c = c.contains.ensures ∙ keys_have c.args.word.now c.self.inside.words.keys ∙ ap (λ ks. has_word ks c.args.word.now) c.self.view_is
