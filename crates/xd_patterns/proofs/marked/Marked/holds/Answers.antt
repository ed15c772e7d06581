use Rattle.std.proofs.Common.{[], get_or, ap, ◌∙◌}
use Rattle.xd_syntax.specs.Words.{has_word}
use Rattle.xd_patterns.specs.Held.{variables_in}
use Rattle.xd_patterns.proofs.VariableLemmas.{number_held}
use Rattle.xd_patterns.proofs.marked.Marked.holds.Goals as goal

pub returns : goal.returns
returns c =
    let vs = variables_in c.args.self.now in
    c.contains.ensures.value ∙ number_held vs c.len-count.ensures.unique c.args.variable c.requires c.marks.result.now
    ∙ ap (λ ws. has_word ws (get_or vs c.args.variable [])) c.marks.ensures
