use Rattle.std.proofs.Common.{◌≡◌, ◌<◌, ◌+◌, ◌∙◌, [], ◌∷◌, ◌++◌, ℕ, List, false, true, length, get_or, arith, subst, sym, ap}
use Rattle.std.proofs.lemmas.List.{get_or_default}
use Rattle.xd_syntax.specs.Table.{Row, Form}
use Rattle.xd_syntax.specs.Nodes.{row_at}
use Rattle.xd_syntax.specs.Types.{form_of}
use Rattle.xd_moves.specs.Codes.{form_code, number_at, turn_form}
use Rattle.xd_moves.specs.Lists.{HasNumber}
use Rattle.xd_moves.specs.Numbered.{AreNumbered}
use Rattle.xd_moves.specs.declared.piece.Piece.{Piece}
use Rattle.xd_moves.proofs.ListLemmas.{lists_then, number_kept}
use Rattle.xd_moves.proofs.HasNumberLemmas.{firsts_more, numbered_more}
use Rattle.xd_moves.proofs.firsts.FirstPieces.add.Goals as goal

-- the row that was read is that of the node
read : (rows : List Row) (i j : ℕ) (r : Row) → i ≡ j → j < length rows → r ≡ get_or rows i r → r ≡ row_at rows j
read rows i j r e h s = s ∙ ap (λ k. get_or rows k r) e ∙ get_or_default rows j r (row_at [] 0) h

pub returns : goal.returns
returns c =
    let rows = c.args.types.now in
    let n = c.args.at in
    let old = c.args.self.now in
    let numbers = old.numbers.items in
    let before = c.args.lists.now in
    let middle = c.number_piece.new.lists in
    let after = c.number_turns.new.lists in
    let a = c.requires.numbered in
    let whole : Piece = record { node = n; is_turns = false } in
    let turns : Piece = record { node = n; is_turns = true } in
    let r : form_of c.form-form.result.now ≡ (row_at rows n).form =
    c.form-form.ensures ∙ ap (λ (r : Row). r.form) (read rows c.of.result.at n c.node.result.now (ap (λ i. i.at) c.of.ensures) c.requires.there c.node.ensures.row) in
    let code : c.in_ok-code.code.items ≡ form_code (number_at numbers) (row_at rows n).form =
    c.in_ok-code.ensures
    ∙ ap (λ (xs : List ℕ). form_code (number_at xs) (form_of c.form-form.result.now)) c.deref.ensures.value
    ∙ ap (λ (F : Form). form_code (number_at numbers) F) r in
    let star : form_code (number_at c.deref-2.result.now) (turn_form (form_of c.form-form.result.now)) ≡ form_code (number_at numbers) (turn_form (row_at rows n).form) =
    ap (λ (xs : List ℕ). form_code (number_at xs) (turn_form (form_of c.form-form.result.now))) c.deref-2.ensures.value
    ∙ ap (λ (F : Form). form_code (number_at numbers) (turn_form F)) r in
    let has = subst (λ xs. HasNumber middle xs c.in_ok-number.number) code c.in_ok-number.ensures.number in
    let has_star = subst (λ xs. HasNumber after xs c.in_ok-star.star) star c.in_ok-star.ensures.number in
    let first =
    firsts_more rows numbers n (n + 1) before middle old.firsts.items c.number_piece.new.firsts.items whole c.in_ok-number.number a.first c.number_piece.ensures.keeps c.in_ok-number.ensures.adds
    (omega arith) (omega arith) has in
    let second =
    firsts_more rows numbers (n + 1) (n + 1) middle after c.number_piece.new.firsts.items c.number_turns.new.firsts.items turns c.in_ok-star.star first c.number_turns.ensures.keeps c.in_ok-star.ensures.adds
    (omega arith) (omega arith) has_star in
    let made =
    numbered_more rows c.requires.built numbers n c.in_ok-number.number a.each c.requires.there old.turns.items c.in_ok-star.star before after old.firsts.items c.number_turns.new.firsts.items a
    (lists_then before middle after c.number_piece.ensures.keeps c.number_turns.ensures.keeps)
    (number_kept middle after (form_code (number_at numbers) (row_at rows n).form) c.in_ok-number.number c.number_turns.ensures.keeps has)
    has_star second c.in_ok-star.ensures.adds.count in
    subst (λ ns. AreNumbered rows (n + 1) after c.push.new.self.items ns c.number_turns.new.firsts.items) (sym c.in_ok-push-2.ensures.items)
    (subst (λ ns. AreNumbered rows (n + 1) after ns (old.turns.items ++ c.in_ok-star.star ∷ []) c.number_turns.new.firsts.items) (sym c.in_ok-push.ensures.items) made)
