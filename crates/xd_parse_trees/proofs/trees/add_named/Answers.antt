use Rattle.std.proofs.Common.{◌≡◌, false, ap, sym, ◌∙◌, subst}
use Rattle.std.proofs.lemmas.Result.{IfOk-weaker}
use Rattle.std.specs.Str.{bytes_eq}
use Rattle.xd_syntax.specs.Words.{string_word}
use Rattle.xd_syntax.specs.Placed.{PlacedTree}
use Rattle.xd_parse_trees.specs.Nodes.{Merges}
use Rattle.xd_parse_trees.specs.Pieces.{pieces}
use Rattle.xd_parse_trees.proofs.NodeRows.{type_name, named_name}
use Rattle.xd_parse_trees.proofs.trees.add_named.Goals as goal

pub add_part-requires-2-clause-follows : goal.add_part-requires-2-clause-follows
add_part-requires-2-clause-follows g c =
    let e : bytes_eq c.args.word.word string_word ≡ false = ap (λ s. bytes_eq s string_word) (sym c.as_str.ensures.bytes) ∙ sym c.eq.ensures ∙ c.if-eq.false in
    type_name c.args.word.word c.requires e

pub returns-clause-merges : goal.returns-clause-merges
returns-clause-merges g c =
    let e : bytes_eq c.args.word.word string_word ≡ false = ap (λ s. bytes_eq s string_word) (sym c.as_str.ensures.bytes) ∙ sym c.eq.ensures ∙ c.if-eq.false in
    IfOk-weaker c.add_part-2.result _ _
    (λ parts a. subst (λ (T : PlacedTree). Merges (g.N.Nodes.rows c.args.nodes.now) (g.N.Nodes.rows c.add_part-2.new.nodes) T (pieces g.N.Nodes.at parts)) (sym (named_name c.args.word.word c.args.word.place e)) a)
    c.add_part-2.ensures.merges
