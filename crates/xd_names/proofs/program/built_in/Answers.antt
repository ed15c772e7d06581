use Rattle.std.proofs.Common.{◌||◌, ap, ◌∙◌}
use Rattle.std.specs.Str.{bytes_eq}
use Rattle.xd_syntax.specs.Words.{has_word, any_word, string_word}
use Rattle.xd_names.proofs.program.built_in.Goals as goal

pub returns : goal.returns
returns c w =
    c.in_ok-add_text-2.ensures w
    ∙ ap (λ b. bytes_eq string_word w || b) (c.in_ok-add_text.ensures w ∙ ap (λ ks. bytes_eq any_word w || has_word ks w) c.new-words.ensures)
