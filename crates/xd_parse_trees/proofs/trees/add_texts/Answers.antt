use Rattle.std.proofs.Common.{◌≡◌, vec_len, sym, subst, arith}
use Rattle.std.proofs.lemmas.Result.{IfOk-weaker}
use Rattle.xd_doc.specs.Classes.{TextClass}
use Rattle.xd_syntax.specs.Table.{IsWordsNode}
use Rattle.xd_syntax.specs.Placed.{Words_at}
use Rattle.xd_parse_trees.specs.Merged.{class_of}
use Rattle.xd_parse_trees.specs.Nodes.{Merges}
use Rattle.xd_parse_trees.specs.Pieces.{pieces}
use Rattle.xd_parse_trees.proofs.ByteOrder.{class_made, words_node}
use Rattle.xd_parse_trees.proofs.trees.add_texts.Goals as goal

pub add_part-requires-clause-follows : goal.add_part-requires-clause-follows
add_part-requires-clause-follows g c =
    let made : c.in_ok-words.words ≡ class_of c.args.except c.args.texts.items = class_made c.in_ok-words.words c.args.texts.items c.args.except c.in_ok-words.ensures.valid.sorted c.in_ok-words.ensures.texts c.in_ok-words.ensures.except in
    subst IsWordsNode (sym made) (words_node c.args.except (vec_len c.args.texts) c.args.texts.items (omega (arith, c.args.texts.ok.0)) c.requires.some c.requires.one)

pub returns-clause-merges : goal.returns-clause-merges
returns-clause-merges g c =
    let made : c.in_ok-words.words ≡ class_of c.args.except c.args.texts.items = class_made c.in_ok-words.words c.args.texts.items c.args.except c.in_ok-words.ensures.valid.sorted c.in_ok-words.ensures.texts c.in_ok-words.ensures.except in
    IfOk-weaker c.add_part.result _ _
    (λ parts m. subst (λ (k : TextClass). Merges (g.N.Nodes.rows c.args.nodes.now) (g.N.Nodes.rows c.add_part.new.nodes) (Words_at c.args.place k) (pieces g.N.Nodes.at parts)) made m)
    c.add_part.ensures.merges
