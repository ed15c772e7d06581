use Rattle.std.proofs.Common.{ℕ, false, List, [], ◌∷◌, ◌++◌, ap, subst, ◌∙◌}
use Rattle.std.proofs.lemmas.Result.{IfOk-weaker}
use Rattle.xd_syntax.specs.Placed.{Words_at}
use Rattle.xd_parse_trees.specs.Merged.{class_of}
use Rattle.xd_parse_trees.specs.Nodes.{Merges}
use Rattle.xd_parse_trees.specs.Pieces.{pieces}
use Rattle.xd_parse_trees.proofs.NodeRows.{text_read}
use Rattle.xd_parse_trees.proofs.trees.read_text.Goals as goal

pub returns-clause-reads : goal.returns-clause-reads
returns-clause-reads g c =
    let q = c.in_ok-quoted.quoted in
    IfOk-weaker c.add_texts.result _ _
    (λ parts m. text_read g.N.Nodes.sort _ _ _ _ _ q.text _ c.requires c.in_ok-quoted.ensures.text c.in_ok-quoted.ensures.place c.in_ok-quoted.ensures.left
    (subst (λ (xs : List (List ℕ)). Merges (g.N.Nodes.rows c.args.nodes.now) (g.N.Nodes.rows c.add_texts.new.nodes) (Words_at q.place (class_of false xs)) (pieces g.N.Nodes.at parts)) (c.in_ok-push.ensures.items ∙ ap (λ xs. xs ++ q.text ∷ []) c.new-texts.ensures.items) m))
    c.add_texts.ensures.merges
