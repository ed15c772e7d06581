use Rattle.std.proofs.Common.{◌∙◌, ℕ, List, ap}
use Rattle.xd_doc.specs.Classes.{is_named}
use Rattle.xd_continuations.proofs.AllNames.{names_none}
use Rattle.xd_heads.proofs.compile.every_text.Goals as goal

pub returns : goal.returns
returns c =
    names_none c.in_ok-all.all (λ t. c.in_ok-all.ensures.texts t ∙ ap (λ (ts : List (List ℕ)). is_named ts t) c.new.ensures.items) c.in_ok-all.ensures.except
