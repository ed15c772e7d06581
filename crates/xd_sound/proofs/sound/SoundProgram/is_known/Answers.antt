use Rattle.std.proofs.Common.{◌≡◌, false, is_some, sym, ap, subst, ◌∙◌}
use Rattle.std.specs.Str.{bytes_eq}
use Rattle.xd_syntax.specs.Words.{any_word}
use Rattle.xd_sound.proofs.NamedLaws.{known_word, numbered_is_some}
use Rattle.xd_sound.proofs.sound.SoundProgram.is_known.Goals as goal

pub returns : goal.returns
returns c =
    c.is_some.ensures ∙ ap is_some (c.find.ensures ∙ c.requires c.args.word.now)
    ∙ numbered_is_some 0 c.args.self.now.type_defs c.args.word.now
    ∙ known_word c.args.self.now.types c.args.self.now.type_defs c.args.word.now (subst (λ w. bytes_eq w any_word ≡ false) c.as_str.ensures.bytes (sym c.eq.ensures ∙ c.if-eq.false))
