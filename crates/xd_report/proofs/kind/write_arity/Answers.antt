use Rattle.std.proofs.Common.{◌++◌, ap, codes, decimal, ◌∙◌}
use Rattle.xd_report.proofs.Appended.{appended_same, six_pieces}
use Rattle.xd_report.proofs.kind.write_arity.Goals as goal

pub returns-clause-ok : goal.returns-clause-ok
returns-clause-ok c =
    let line = six_pieces (codes "function ") c.as_str.result.now (codes " has arguments ") (decimal c.args.given) (codes ", wants ") (decimal c.args.wanted) _ _ c.format.ensures.text c.format-2.ensures.text in
    let word = ap (λ w. codes "function " ++ w ++ codes " has arguments " ++ decimal c.args.given ++ codes ", wants " ++ decimal c.args.wanted) c.as_str.ensures.bytes in
    appended_same c.write_texts.result _ _ _ _ (line ∙ word) c.write_texts.ensures.ok
