use Rattle.std.proofs.Common.{[], ◌∷◌, ◌++◌, map, ap, ◌∙◌}
use Rattle.std.proofs.lemmas.Result.{on_ok_weaker}
use Rattle.xd_syntax.specs.Words.{any_word, string_word}
use Rattle.xd_names.specs.Spots.{type_spot}
use Rattle.xd_names.proofs.NameLemmas.{duplicates-same}
use Rattle.xd_names.proofs.program.duplicated_types.Goals as goal

pub returns : goal.returns
returns c =
    on_ok_weaker c.in_types.result
    (λ e. e ∙ ap (λ ds. c.args.faults.now.items ++ ds) (duplicates-same c.in_ok-seen.seen (string_word ∷ (any_word ∷ [])) (map type_spot c.args.type_defs.now) c.in_ok-seen.ensures))
    c.in_types.ensures
