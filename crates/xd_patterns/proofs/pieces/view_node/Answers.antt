use Rattle.std.proofs.Common.{refl, ◌≡◌, ◌-◌, ℕ, List, map, get_or, ap, sym, subst, ◌∙◌}
use Rattle.std.proofs.lemmas.List.{length-map}
use Rattle.xd_syntax.specs.Tree.{Elem, Seq, Alt, Star, Opt, seq_of}
use Rattle.xd_syntax.specs.TreeForms.{alt_of}
use Rattle.xd_syntax.specs.Table.{empty_form, text_form, words_form, name_form, elem_form, seq_form, alt_form, star_form, opt_form}
use Rattle.xd_syntax.specs.Nodes.{view_form}
use Rattle.xd_patterns.specs.Pieces.{node_piece, rest_piece}
use Rattle.xd_patterns.proofs.ViewLemmas.{IsRow, seq_row, alt_row, part_seen, row_seen, whole_seen}
use Rattle.xd_patterns.proofs.pieces.view_node.Goals as goal

pub returns-in-Seq : goal.returns-in-Seq
returns-in-Seq g c =
    let at = g.N.Nodes.at in
    let is : List ℕ = map at c.in-Seq.parts.now in
    let form : view_form at c.view-node.result.form ≡ seq_form is = ap (view_form at) c.in-Seq.is in
    row_seen (g.N.Nodes.rows c.args.nodes.now) c.args.piece c.requires.piece _ _ c.id.ensures _ _ c.view-node.ensures.node is seq_of Seq (subst (λ f. IsRow f is seq_of Seq) (sym form) (seq_row is)) _ _
    c.first_and_others.ensures.first (c.first_and_others.ensures.others ∙ ap (λ n. rest_piece c.args.piece n (get_or is (n - 1) 0)) (sym (length-map c.in-Seq.parts.now at)))

pub returns-in-Alt : goal.returns-in-Alt
returns-in-Alt g c =
    let at = g.N.Nodes.at in
    let is : List ℕ = map at c.in-Alt.parts.now in
    let form : view_form at c.view-node.result.form ≡ alt_form is = ap (view_form at) c.in-Alt.is in
    row_seen (g.N.Nodes.rows c.args.nodes.now) c.args.piece c.requires.piece _ _ c.id.ensures _ _ c.view-node.ensures.node is alt_of Alt (subst (λ f. IsRow f is alt_of Alt) (sym form) (alt_row is)) _ _
    c.first_and_others-in-Alt.ensures.first (c.first_and_others-in-Alt.ensures.others ∙ ap (λ n. rest_piece c.args.piece n (get_or is (n - 1) 0)) (sym (length-map c.in-Alt.parts.now at)))

pub returns-in-Empty : goal.returns-in-Empty
returns-in-Empty g c =
    whole_seen (g.N.Nodes.rows c.args.nodes.now) c.args.piece c.requires.piece _ _ c.id.ensures _ _ c.view-node.ensures.node empty_form (ap (view_form g.N.Nodes.at) c.in-Empty.is) (λ n h. h) (λ h. h)

pub returns-in-Text : goal.returns-in-Text
returns-in-Text g c =
    whole_seen (g.N.Nodes.rows c.args.nodes.now) c.args.piece c.requires.piece _ _ c.id.ensures _ _ c.view-node.ensures.node text_form (ap (view_form g.N.Nodes.at) c.in-Text.is) (λ n h. h) (λ h. h)

pub returns-in-Words : goal.returns-in-Words
returns-in-Words g c =
    whole_seen (g.N.Nodes.rows c.args.nodes.now) c.args.piece c.requires.piece _ _ c.id.ensures _ _ c.view-node.ensures.node (words_form c.in-Words.words.now) (ap (view_form g.N.Nodes.at) c.in-Words.is) (λ n h. h) (λ h. h)

pub returns-in-Name : goal.returns-in-Name
returns-in-Name g c =
    whole_seen (g.N.Nodes.rows c.args.nodes.now) c.args.piece c.requires.piece _ _ c.id.ensures _ _ c.view-node.ensures.node (name_form c.in-Name.name.now) (ap (view_form g.N.Nodes.at) c.in-Name.is) (λ n h. h) (λ h. h)

pub returns-in-Elem : goal.returns-in-Elem
returns-in-Elem g c =
    part_seen (g.N.Nodes.rows c.args.nodes.now) c.args.piece c.requires.piece _ _ c.id.ensures _ _ c.view-node.ensures.node (elem_form c.in-Elem.class.now (g.N.Nodes.at c.in-Elem.part)) (ap (view_form g.N.Nodes.at) c.in-Elem.is) (λ n h. h) (λ h. h)
    (Elem c.in-Elem.class.now) (g.N.Nodes.at c.in-Elem.part) 0 c.content_like.result refl (λ h. h) (c.content_like.ensures ∙ ap (λ n. node_piece c.args.piece.of_pattern n 0) c.number.ensures)

pub returns-in-Star : goal.returns-in-Star
returns-in-Star g c =
    part_seen (g.N.Nodes.rows c.args.nodes.now) c.args.piece c.requires.piece _ _ c.id.ensures _ _ c.view-node.ensures.node (star_form (g.N.Nodes.at c.in-Star.part)) (ap (view_form g.N.Nodes.at) c.in-Star.is) (λ n h. h) (λ h. h)
    Star (g.N.Nodes.at c.in-Star.part) c.args.piece.marks c.node_like.result refl (λ h. h) (c.node_like.ensures ∙ ap (λ n. node_piece c.args.piece.of_pattern n c.args.piece.marks) c.number-in-Star.ensures)

pub returns-in-Opt : goal.returns-in-Opt
returns-in-Opt g c =
    part_seen (g.N.Nodes.rows c.args.nodes.now) c.args.piece c.requires.piece _ _ c.id.ensures _ _ c.view-node.ensures.node (opt_form (g.N.Nodes.at c.in-Opt.part)) (ap (view_form g.N.Nodes.at) c.in-Opt.is) (λ n h. h) (λ h. h)
    Opt (g.N.Nodes.at c.in-Opt.part) c.args.piece.marks c.node_like-in-Opt.result refl (λ h. h) (c.node_like-in-Opt.ensures ∙ ap (λ n. node_piece c.args.piece.of_pattern n c.args.piece.marks) c.number-in-Opt.ensures)
