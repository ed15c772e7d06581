use Rattle.std.proofs.Common.{◌≡◌, IfOk, ap, ◌∙◌, subst}
use Rattle.xd_doc.specs.Document.{Document}
use Rattle.xd_syntax.specs.Tree.{Tree}
use Rattle.xd_syntax.specs.Ways.{ways}
use Rattle.xd_meaning.specs.FirstMatch.{first_whole}
use Rattle.xd_syntax.specs.Ways.{ways_within as the_ways_within}
use Rattle.xd_plain.specs.PlainDocuments.{document_of}
use Rattle.xd_plain.specs.PlainTrees.{tree_of, map_option}
use Rattle.xd_plain.specs.PlainWays.{ways_of, bindings_of}
use Rattle.xd_syntax.specs.Program.{names_of}
use Rattle.xd_laws.proofs.TheLaws.{ways_settle}
use Rattle.xd_plain.proofs.ways.first_within.Goals as goal

pub returns-clause-enough : goal.returns-clause-enough
returns-clause-enough c P s e h =
    let n = c.args.unfoldings in
    let T : Tree = tree_of c.args.pattern.now in
    let d : Document = document_of c.args.document.now in
    let w : ways_of c.deref.result.now ≡ ways (names_of P) T d
    = ap ways_of c.deref.ensures.value ∙ c.in_ok-ways.ensures ∙ ap (λ E. the_ways_within E n T d) e ∙ ways_settle P s T d n h in
    subst (λ ws. IfOk c.first_of_whole.result (λ found. map_option (λ bindings. bindings_of bindings.items) found ≡ first_whole ws)) w c.first_of_whole.ensures
