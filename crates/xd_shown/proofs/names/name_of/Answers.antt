use Rattle.std.proofs.Common.{◌≡◌, true, sym, subst, ◌∙◌, arith}
use Rattle.xd_doc.specs.Word.{is_word}
use Rattle.xd_shown.proofs.NameLaws.{name_word}
use Rattle.xd_shown.proofs.names.name_of.Goals as goal

pub new-requires : goal.new-requires
new-requires c = subst (λ w. is_word w ≡ true) (sym (c.as_str.ensures.value ∙ c.in_ok-word.ensures.ok)) (name_word c.args.number (omega arith))
