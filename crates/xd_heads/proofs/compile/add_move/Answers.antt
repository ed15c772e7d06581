use Rattle.std.proofs.Common.{◌≡◌, ◌∷◌, [], ℕ, OnOk, take, ap, sym, subst, ◌∙◌}
use Rattle.xd_doc.specs.Classes.{LabelClass, TextClass}
use Rattle.xd_rules.specs.Heads.{text_in}
use Rattle.xd_syntax.specs.Table.{Form, elem_form, words_form, form_tree, tree_at}
use Rattle.xd_syntax.specs.declared.types.TypeId.{TypeId}
use Rattle.xd_continuations.specs.Continuation.{Move}
use Rattle.xd_heads.specs.Compiled.{AddsMoves}
use Rattle.xd_moves.specs.Found.{continuation, move_of, move_at}
use Rattle.xd_heads.proofs.StateLemmas.{kind_of_other, elem_of, words_of_form}
use Rattle.xd_heads.proofs.compile.add_move.Goals as goal

pub returns-in_ok-all-in_default : goal.returns-in_ok-all-in_default
returns-in_ok-all-in_default c =
    let types = c.args.sources.now.types.now in
    let f : Form = c.node-node.result.now.form in
    let at : c.of.result.at ≡ c.args.found.node = ap (λ (x : TypeId). x.at) c.of.ensures in
    let tree : tree_at types c.args.found.node ≡ form_tree (tree_at types) f = sym (ap (tree_at types) at) ∙ c.node-node.ensures.tree in
    let no_elem = λ (k : LabelClass) (i : ℕ) (e : f ≡ elem_form k i). (let r = elem_of c.form.result.now k i (c.form.ensures ∙ e) in c.in_default.not-Elem r.0 r.1 r.2) in
    let no_words = λ (w : TextClass) (e : f ≡ words_form w). (let r = words_of_form c.form.result.now w (c.form.ensures ∙ e) in c.in_default.not-Words r.0 r.1) in
    let K = continuation types c.args.made.now.cells c.args.found.rest in
    let other = kind_of_other (tree_at types) (take c.of.result.at types) f c.node-node.ensures.merged no_elem no_words K in
    let all = ap (λ (w : TextClass). let m : Move = record { kind = text_in w; content = []; rest = K } in m) c.in_ok-all-in_default.ensures in
    let e : record { kind = text_in c.in_ok-all-in_default.all; content = []; rest = K } ≡ move_at types c.args.made.now.cells c.args.found =
    all ∙ sym (ap (λ T. move_of T K) tree ∙ other) in
    record {
      moves = subst (λ (m : Move). OnOk c.add_text-in_default.result (AddsMoves types c.args.sources.now.defs.now c.args.made.now.cells c.args.made.now.cells c.args.made.now.states c.add_text-in_default.new.states c.args.auto.now
          c.add_text-in_default.new.auto c.args.from (m ∷ []))) e c.add_text-in_default.ensures.moves;
      spares = c.add_text-in_default.ensures.spares;
    }
