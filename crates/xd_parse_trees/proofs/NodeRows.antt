-- The rows of types and of patterns.
use Rattle.std.proofs.Common.{◌≡◌, ◌≢◌, ℕ, ◌+◌, ◌≤◌, arith, true, false, List, [], ◌∷◌, map, length, Some, refl, sym, ap, subst, ◌∙◌, inl, inr}
use Rattle.std.specs.Str.{bytes_eq}
use Rattle.xd_base.specs.declared.Place.{Place}
use Rattle.xd_doc.specs.Classes.{LabelClass}
use Rattle.xd_lex.specs.Tokens.{Lexeme}
use Rattle.xd_syntax.specs.Table.{KeepsRows}
use Rattle.xd_syntax.specs.Table.{Row as TableRow}
use Rattle.xd_syntax.specs.Placed.{PlacedTree, Empty_at, Words_at, Name_at, Elem_at, Val_at, place_of}
use Rattle.xd_syntax.specs.PlacedTable.{placed_at, placed_form}
use Rattle.xd_syntax.specs.Words.{any_word, has_word, string_word}
use Rattle.xd_syntax.specs.Keywords.{keywords, is_type_name}
use Rattle.xd_syntax.proofs.Words.{bytes_eq-turned}
use Rattle.xd_syntax.proofs.TableRows.{KeepsRows-trans}
use Rattle.xd_grammar.specs.declared.grammar.Nonterminal.{Nonterminal}
use Rattle.xd_grammar.specs.declared.grammar.Nonterminal.TheVariants as n
use Rattle.xd_grammar.specs.declared.grammar.Symbol.TheVariants.{Token, Closed, Unless, Part}
use Rattle.xd_grammar.specs.declared.grammar.Terminal.{Terminal}
use Rattle.xd_grammar.specs.declared.grammar.Terminal.TheVariants as t
use Rattle.xd_grammar.specs.declared.grammar.Sort.{Sort}
use Rattle.xd_grammar.specs.declared.grammar.Sort.TheVariants as sorts
use Rattle.xd_parse_trees.specs.declared.parts.Parts.{Parts}
use Rattle.xd_parse_trees.specs.declared.parts.Parts.TheVariants.{One, Sequence, Alternative}
use Rattle.xd_doc.specs.Members.{IsOneOf}
use Rattle.xd_grammar.specs.Grammar.{Row, rules}
use Rattle.xd_grammar.specs.Fits.{same, first_fit}
use Rattle.xd_lex.specs.Spelled.{unescaped}
use Rattle.xd_parse_trees.specs.Merged.{sequence, alternative, class_of}
use Rattle.xd_parse_trees.specs.Values.{Value, mark, word, absent, a_tree, trees, class, texts, labelled, named_type, repeated, value_of}
use Rattle.xd_parse_trees.specs.Means.{Means}
use Rattle.xd_parse_trees.specs.Reading.{Reads, SpellNo, group_row, element_row, front_terminal, front_place, front_text, behind}
use Rattle.xd_parse_trees.specs.Shallow.{NoDeeper, TreeWithin, TreesWithin}
use Rattle.xd_parse_trees.specs.Pieces.{Pieces, in_row, pieces, tree_of, Stand}
use Rattle.xd_parse_trees.specs.Nodes.{shape, is_operator, repeated_node, parts_place, IsNothing, BeginsElement, IsAdded, Merges, ReadsNode, ReadsInto}
use Rattle.xd_grammar.proofs.Derive.{same-other, same-false, may, is_group}
use Rattle.xd_parse_trees.proofs.Deeper.{alternative_branches, sequence_parts}
use Rattle.xd_parse_trees.proofs.AddedDepth.{IsIn, none_deeper, only_within, content_in, bound_in, repeated_in, operator_in}
use Rattle.xd_syntax.proofs.ShallowTables.{within_both}
use Rattle.xd_parse_trees.proofs.Kept.{KeepsRows-refl}
use Rattle.xd_parse_trees.proofs.StandLemmas.{tree_of_stays, stand_stays, free_parts, free_branches, is_whole, sequence_on, alternative_on, place_of_parts}
use Rattle.xd_parse_trees.proofs.Rows.{MeansView, means_view, ReadsRow, row_end, row_token, row_token_where, row_opening, row_closed, row_unless, row_part, part_one, part_fit, by_row, empty_means, means_may, front_same, behind_le}

-- ---- tokens
-- a token is left
pub behind_fewer : (j : Terminal) (from : List Lexeme) → j ≢ t.Broken → front_terminal from ≡ j → length (behind from) + 1 ≡ length from
behind_fewer j [] ne e = absurd (ne (sym e))
behind_fewer j (l ∷ ls) ne e = omega arith

-- no nonterminal of this kind begins with the next token
pub part_never : (part : Nonterminal) (k : Terminal) (from to : List Lexeme) (v : Value) → front_terminal from ≡ k → may 8 (Part part ∷ []) k ≡ false → Reads part from to v
part_never part k [] to v e f rest w m = absurd (empty_means part rest (w ∷ []) m)
part_never part k (l ∷ ls) to v e f rest w m = absurd (true_false (sym (means_may 8 (Part part ∷ []) l ls rest (w ∷ []) k e m) ∙ f))
  where
    true_false : true ≡ false → ⊥
    true_false e = cc

-- the row that the next token leaves, by the token
fit_at : (part : Nonterminal) (made : Row) (k : Terminal) (from to : List Lexeme) (vs : List Value) → front_terminal from ≡ k → is_group part k ≡ false → first_fit (rules part) k ≡ Some made →
    ReadsRow made from to vs → Reads part from to (value_of part vs)
fit_at part made k from to vs e g f r =
    part_fit part made from to vs (subst (λ (j : Terminal). is_group part j ≡ false) (sym e) g) (subst (λ (j : Terminal). first_fit (rules part) j ≡ Some made) (sym e) f) r

-- ---- one branch, or one part, more
pub branch_more : (s : Sort) (from middle to : List Lexeme) (T : PlacedTree) (Ts : List PlacedTree) → front_terminal from ≡ t.Bar →
    Reads (n.Sequence s) (behind from) middle (a_tree T) → Reads (n.MoreBranches s) middle to (trees Ts) → Reads (n.MoreBranches s) from to (trees (T ∷ Ts))
branch_more s from middle to T Ts e r q = fit_at (n.MoreBranches s) _ t.Bar from to _ e refl refl (row_token t.Bar _ from to _ (row_part (n.Sequence s) _ (behind from) middle to _ _ r (row_part (n.MoreBranches s) _ middle to to _ _ q (row_end to))))

pub part_more : (s : Sort) (from middle to : List Lexeme) (T : PlacedTree) (Ts : List PlacedTree) → front_terminal from ≡ t.Comma →
    Reads (n.Post s) (behind from) middle (a_tree T) → Reads (n.MoreParts s) middle to (trees Ts) → Reads (n.MoreParts s) from to (trees (T ∷ Ts))
part_more s from middle to T Ts e r q = fit_at (n.MoreParts s) _ t.Comma from to _ e refl refl (row_token t.Comma _ from to _ (row_part (n.Post s) _ (behind from) middle to _ _ r (row_part (n.MoreParts s) _ middle to to _ _ q (row_end to))))

-- none more
pub branch_end : (s : Sort) (from : List Lexeme) → same t.Bar (front_terminal from) ≡ false → Reads (n.MoreBranches s) from from (trees [])
branch_end s from h = part_fit (n.MoreBranches s) (Unless t.Bar ∷ []) from from [] refl (rw h refl) (row_unless t.Bar [] from from [] (row_end from))

pub part_end : (s : Sort) (from : List Lexeme) → same t.Comma (front_terminal from) ≡ false → Reads (n.MoreParts s) from from (trees [])
part_end s from h = part_fit (n.MoreParts s) (Unless t.Comma ∷ []) from from [] refl (rw h refl) (row_unless t.Comma [] from from [] (row_end from))

pub whole_reads : (s : Sort) (from middle to : List Lexeme) (T : PlacedTree) (Ts : List PlacedTree) → Reads (n.Sequence s) from middle (a_tree T) → Reads (n.MoreBranches s) middle to (trees Ts) →
    Reads (n.Alternative s) from to (a_tree (alternative T Ts))
whole_reads s from middle to T Ts r q = part_one (n.Alternative s) _ from to _ refl (row_part (n.Sequence s) _ from middle to _ _ r (row_part (n.MoreBranches s) _ middle to to _ _ q (row_end to)))

pub branch_reads : (s : Sort) (from middle to : List Lexeme) (T : PlacedTree) (Ts : List PlacedTree) → Reads (n.Post s) from middle (a_tree T) → Reads (n.MoreParts s) middle to (trees Ts) →
    Reads (n.Sequence s) from to (a_tree (sequence T Ts))
branch_reads s from middle to T Ts r q = part_one (n.Sequence s) _ from to _ refl (row_part (n.Post s) _ from middle to _ _ r (row_part (n.MoreParts s) _ middle to to _ _ q (row_end to)))

-- ---- operators
pub operator_reads : (k : Terminal) (from : List Lexeme) → is_operator k ≡ true → front_terminal from ≡ k → Reads n.Operator from (behind from) (mark k (front_place from))
operator_reads t.Star from h e = fit_at n.Operator _ t.Star from (behind from) _ e refl refl (row_token t.Star [] from (behind from) [] (row_end (behind from)))
operator_reads t.Plus from h e = fit_at n.Operator _ t.Plus from (behind from) _ e refl refl (row_token t.Plus [] from (behind from) [] (row_end (behind from)))
operator_reads t.Query from h e = fit_at n.Operator _ t.Query from (behind from) _ e refl refl (row_token t.Query [] from (behind from) [] (row_end (behind from)))
operator_reads k from h e = cc

no_operator : (j k : Terminal) → is_operator j ≡ true → is_operator k ≡ false → same j k ≡ false
no_operator j k h g = same-other j k (λ e. true_no_false (sym h ∙ ap is_operator e ∙ g))
  where
    true_no_false : true ≡ false → ⊥
    true_no_false e = cc

pub operator_none : (from : List Lexeme) → is_operator (front_terminal from) ≡ false → Reads n.Operator from from absent
operator_none from h =
    let x : same t.Star (front_terminal from) ≡ false = no_operator t.Star (front_terminal from) refl h in
    let y : same t.Plus (front_terminal from) ≡ false = no_operator t.Plus (front_terminal from) refl h in
    let z : same t.Query (front_terminal from) ≡ false = no_operator t.Query (front_terminal from) refl h in
    part_fit n.Operator (Unless t.Star ∷ (Unless t.Plus ∷ (Unless t.Query ∷ []))) from from [] refl (rw (x, y, z) refl)
    (row_unless t.Star _ from from [] (row_unless t.Plus _ from from [] (row_unless t.Query _ from from [] (row_end from))))

-- a part with an operator
pub repeated_is : {I : Type 0} (tree : ℕ → PlacedTree) (at : I → ℕ) (k : Terminal) (p : Place) (i : I) (T : PlacedTree) → tree (at i) ≡ T → p ≡ place_of T → placed_form tree p (shape at (repeated_node k i)) ≡ repeated k T
repeated_is tree at t.Star p i T e f = cc
repeated_is tree at t.Plus p i T e f = cc
repeated_is tree at k p i T e f = cc

pub once_makes : (s : Sort) (T : PlacedTree) → value_of (n.Post s) (a_tree T ∷ (absent ∷ [])) ≡ a_tree T
once_makes s T = refl

pub post_reads : (s : Sort) (from middle to : List Lexeme) (T U : PlacedTree) (v : Value) → same t.Val (front_terminal from) ≡ false →
    Reads (n.Prim s) from middle (a_tree T) → Reads n.Operator middle to v → value_of (n.Post s) (a_tree T ∷ (v ∷ [])) ≡ a_tree U → Reads (n.Post s) from to (a_tree U)
post_reads sorts.Type from middle to T U v h r q e =
    subst (Reads (n.Post sorts.Type) from to) e (part_one (n.Post sorts.Type) _ from to _ refl (row_part (n.Prim sorts.Type) _ from middle to _ _ r (row_part n.Operator _ middle to to _ _ q (row_end to))))
post_reads sorts.Pattern from middle to T U v h r q e =
    subst (Reads (n.Post sorts.Pattern) from to) e
    (part_fit (n.Post sorts.Pattern) (Part (n.Prim sorts.Pattern) ∷ (Part n.Operator ∷ [])) from to _ refl (rw h refl) (row_part (n.Prim sorts.Pattern) _ from middle to _ _ r (row_part n.Operator _ middle to to _ _ q (row_end to))))

-- ---- variables
pub no_variable : (from to : List Lexeme) (T : PlacedTree) → front_terminal from ≡ t.Val → Reads (n.Post sorts.Type) from to (a_tree T)
no_variable from to T e = part_never (n.Post sorts.Type) t.Val from to (a_tree T) e refl

pub bound_reads : (from to : List Lexeme) (T : PlacedTree) → front_terminal from ≡ t.As → Reads (n.Post sorts.Pattern) (behind from) to (a_tree T) → Reads n.Bound from to (a_tree T)
bound_reads from to T e r = fit_at n.Bound _ t.As from to _ e refl refl (row_opening t.As _ from to _ (row_part (n.Post sorts.Pattern) _ (behind from) to to _ _ r (row_closed _ to to _ (row_end to))))

pub bound_none : (from : List Lexeme) → same t.As (front_terminal from) ≡ false → Reads n.Bound from from absent
bound_none from h = part_fit n.Bound (Unless t.As ∷ []) from from [] refl (rw h refl) (row_unless t.As [] from from [] (row_end from))

-- a variable with its word
pub variable_reads : (from to : List Lexeme) (x : List ℕ) (q : Place) (b : Value) (U : PlacedTree) → front_terminal from ≡ t.Val →
    (front_terminal (behind from) ≡ t.Word → x ≡ front_text (behind from)) → q ≡ front_place (behind from) → Reads n.Bound (behind (behind from)) to b →
    value_of (n.Post sorts.Pattern) (mark t.Val (front_place from) ∷ (word x q ∷ (b ∷ []))) ≡ a_tree U → Reads (n.Post sorts.Pattern) from to (a_tree U)
variable_reads from to x q b U e f g r m =
    subst (Reads (n.Post sorts.Pattern) from to) m
    (fit_at (n.Post sorts.Pattern) _ t.Val from to _ e refl refl
    (row_token t.Val _ from to _
    (row_token_where t.Word _ (behind from) to _
    (λ h. subst (λ (v : Value). ReadsRow (Token t.Word ∷ (Part n.Bound ∷ [])) (behind from) to (v ∷ (b ∷ []))) (word_is (f h) g)
    (row_token t.Word _ (behind from) to _ (row_part n.Bound _ (behind (behind from)) to to _ _ r (row_end to)))))))
  where
    word_is : {x y : List ℕ} {q p : Place} → x ≡ y → q ≡ p → word y p ≡ word x q
    word_is e f = cc

-- ---- parentheses and contents
pub group_empty : (s : Sort) (from : List Lexeme) → front_terminal from ≡ t.ParenR → Reads (n.Group s) from (behind from) absent
group_empty s from e = fit_at (n.Group s) _ t.ParenR from (behind from) _ e refl refl (row_token t.ParenR _ from _ _ (row_closed _ _ _ _ (row_unless t.BracketL _ _ _ _ (row_end (behind from)))))

pub group_full : (s : Sort) (from middle : List Lexeme) (T : PlacedTree) → same t.ParenR (front_terminal from) ≡ false → Reads (n.Alternative s) from middle (a_tree T) → Reads (n.Group s) from (behind middle) (a_tree T)
group_full s from middle T h r =
    part_fit (n.Group s) (Part (n.Alternative s) ∷ (Token t.ParenR ∷ (Closed ∷ (Unless t.BracketL ∷ [])))) from (behind middle) _ refl (rw h refl)
    (row_part (n.Alternative s) _ from middle _ _ _ r (row_token t.ParenR _ middle _ _ (row_closed _ _ _ _ (row_unless t.BracketL _ _ _ _ (row_end (behind middle))))))

pub group_empty_makes : (s : Sort) (p : Place) (U : PlacedTree) → U ≡ Empty_at p → value_of (n.Prim s) (mark t.ParenL p ∷ (absent ∷ [])) ≡ a_tree U
group_empty_makes s p U e = ap a_tree (sym e)

pub group_makes : (s : Sort) (p : Place) (T : PlacedTree) → value_of (n.Prim s) (mark t.ParenL p ∷ (a_tree T ∷ [])) ≡ a_tree T
group_makes s p T = refl

pub content_empty : (s : Sort) (from : List Lexeme) → front_terminal from ≡ t.BracketR → Reads (n.Content s) from (behind from) (a_tree (Empty_at (front_place from)))
content_empty s from e = fit_at (n.Content s) _ t.BracketR from (behind from) _ e refl refl (row_token t.BracketR _ from _ _ (row_closed _ _ _ _ (row_end (behind from))))

pub content_full : (s : Sort) (from middle : List Lexeme) (T : PlacedTree) → same t.BracketR (front_terminal from) ≡ false → Reads (n.Alternative s) from middle (a_tree T) →
    Reads (n.Content s) from (behind middle) (a_tree T)
content_full s from middle T h r =
    part_fit (n.Content s) (Part (n.Alternative s) ∷ (Token t.BracketR ∷ (Closed ∷ []))) from (behind middle) _ refl (rw h refl)
    (row_part (n.Alternative s) _ from middle _ _ _ r (row_token t.BracketR _ middle _ _ (row_closed _ _ _ _ (row_end (behind middle)))))

-- ---- primaries
pub primary_word : (s : Sort) (from : List Lexeme) → front_terminal from ≡ t.Word → Reads (n.Prim s) from (behind from) (a_tree (named_type (front_text from) (front_place from)))
primary_word s from e = fit_at (n.Prim s) _ t.Word from (behind from) _ e refl refl (row_token t.Word _ from _ _ (row_end (behind from)))

-- a row that begins with another token
token_other : (j k : Terminal) (row : Row) (from rest : List Lexeme) (vs : List Value) → front_terminal from ≡ k → same j k ≡ false → Means (Token j ∷ row) from rest vs → ⊥
token_other j k row from rest vs e h m =
    let v : MeansView (Token j ∷ row) from rest vs = means_view m in same-false j k h (sym v.4 ∙ sym (ap front_terminal v.3) ∙ e)

-- a row that is another one
not_row : (other row : Row) (from rest : List Lexeme) (vs : List Value) → Means other from rest vs → row ≡ other → (Means row from rest vs → ⊥) → ⊥
not_row other row from rest vs m e h = h (subst (λ (r : Row). Means r from rest vs) (sym e) m)

-- a parenthesis that begins no class
only_group : (s : Sort) (other : Row) (from rest : List Lexeme) (vs : List Value) → front_terminal from ≡ t.ParenL → SpellNo (element_row s) from → Means other from rest vs → IsOneOf other (rules (n.Prim s)) → other ≡ group_row s
only_group s other from rest vs f h m (inl e) = absurd (not_row other _ from rest vs m e (token_other t.Word t.ParenL [] from rest vs f refl))
only_group s other from rest vs f h m (inr (inl e)) = sym e
only_group s other from rest vs f h m (inr (inr (inl e))) = absurd (not_row other _ from rest vs m e (token_other t.Text t.ParenL [] from rest vs f refl))
only_group s other from rest vs f h m (inr (inr (inr (inl e)))) = absurd (not_row other _ from rest vs m e (token_other t.Caret t.ParenL _ from rest vs f refl))
only_group s other from rest vs f h m (inr (inr (inr (inr (inl e))))) = absurd (not_row other _ from rest vs m e (h rest vs))
only_group s other from rest vs f h m (inr (inr (inr (inr (inr z))))) = absurd z

pub primary_group : (s : Sort) (from to : List Lexeme) (v : Value) (U : PlacedTree) → front_terminal from ≡ t.ParenL → SpellNo (element_row s) from → Reads (n.Group s) (behind from) to v →
    value_of (n.Prim s) (mark t.ParenL (front_place from) ∷ (v ∷ [])) ≡ a_tree U → Reads (n.Prim s) from to (a_tree U)
primary_group s from to v U e h r m =
    subst (Reads (n.Prim s) from to) m
    (by_row (n.Prim s) (group_row s) from to _ (λ other rest ws one x. only_group s other from rest ws e h x one)
    (row_opening t.ParenL _ from to _ (row_part (n.Group s) _ (behind from) to to _ _ r (row_end to))))

pub primary_element : (s : Sort) (from middle to : List Lexeme) (p : Place) (c : LabelClass) (T : PlacedTree) → BeginsElement s from → Reads n.Class from middle (class p c) →
    Reads (n.Content s) middle to (a_tree T) → Reads (n.Prim s) from to (a_tree (Elem_at p c T))
primary_element s from middle to p c T b r q =
    by_row (n.Prim s) (element_row s) from to _ b.only
    (row_part n.Class _ from middle to _ _ r (row_part (n.Content s) _ middle to to _ _ q (row_end to)))

-- a text, and what stands after a `^`
primary_text : (s : Sort) (from : List Lexeme) → front_terminal from ≡ t.Text → Reads (n.Prim s) from (behind from) (a_tree (Words_at (front_place from) (class_of false (unescaped (front_text from) ∷ []))))
primary_text s from e = fit_at (n.Prim s) _ t.Text from (behind from) _ e refl refl (row_token t.Text _ from _ _ (row_end (behind from)))

primary_except : (s : Sort) (from to : List Lexeme) (v : Value) (U : PlacedTree) → front_terminal from ≡ t.Caret → Reads (n.Excepted s) (behind from) to v →
    value_of (n.Prim s) (mark t.Caret (front_place from) ∷ (v ∷ [])) ≡ a_tree U → Reads (n.Prim s) from to (a_tree U)
primary_except s from to v U e r m =
    subst (Reads (n.Prim s) from to) m (fit_at (n.Prim s) _ t.Caret from to _ e refl refl (row_token t.Caret _ from to _ (row_part (n.Excepted s) _ (behind from) to to _ _ r (row_end to))))

-- a token that begins no primary
no_primary : (s : Sort) (k : Terminal) → (k ≡ t.Word → ⊥) → (k ≡ t.ParenL → ⊥) → (k ≡ t.Text → ⊥) → (k ≡ t.Tilde → ⊥) → (k ≡ t.Caret → ⊥) → (k ≡ t.Label → ⊥) → may 8 (Part (n.Prim s) ∷ []) k ≡ false
no_primary sorts.Type t.Word a b c x y z = absurd (a refl)
no_primary sorts.Type t.ParenL a b c x y z = absurd (b refl)
no_primary sorts.Type t.Text a b c x y z = absurd (c refl)
no_primary sorts.Type t.Tilde a b c x y z = absurd (x refl)
no_primary sorts.Type t.Caret a b c x y z = absurd (y refl)
no_primary sorts.Type t.Label a b c x y z = absurd (z refl)
no_primary sorts.Type k a b c x y z = refl
no_primary sorts.Pattern t.Word a b c x y z = absurd (a refl)
no_primary sorts.Pattern t.ParenL a b c x y z = absurd (b refl)
no_primary sorts.Pattern t.Text a b c x y z = absurd (c refl)
no_primary sorts.Pattern t.Tilde a b c x y z = absurd (x refl)
no_primary sorts.Pattern t.Caret a b c x y z = absurd (y refl)
no_primary sorts.Pattern t.Label a b c x y z = absurd (z refl)
no_primary sorts.Pattern k a b c x y z = refl

pub primary_none : (s : Sort) (from to : List Lexeme) (v : Value) → (front_terminal from ≡ t.Word → ⊥) → (front_terminal from ≡ t.ParenL → ⊥) → (front_terminal from ≡ t.Text → ⊥) → (front_terminal from ≡ t.Tilde → ⊥) →
    (front_terminal from ≡ t.Caret → ⊥) → (front_terminal from ≡ t.Label → ⊥) → Reads (n.Prim s) from to v
primary_none s from to v a b c x y z = part_never (n.Prim s) (front_terminal from) from to v refl (no_primary s (front_terminal from) a b c x y z)

-- ---- what is read, as pieces
made_within : (old middle new : List TableRow) (T : PlacedTree) (made : Pieces) → Merges middle new T made → NoDeeper (TreeWithin T) old middle → NoDeeper (TreeWithin (tree_of new made)) old new
made_within old middle new T made m d limit o w =
    let l : TreeWithin T limit = subst (λ (U : PlacedTree). TreeWithin U limit) m.is w in within_both limit old middle new m.keeps (d limit o l) (m.no_deeper limit o l)

reads_made : (part : Nonterminal) (from to : List Lexeme) (old middle new : List TableRow) (T : PlacedTree) (made : Pieces) → KeepsRows old middle → Merges middle new T made → Reads part from to (a_tree T) →
    length to ≤ length from → NoDeeper (TreeWithin T) old middle → ReadsNode part from to old new made
reads_made part from to old middle new T made k m r l d = record {
  reads = subst (λ (U : PlacedTree). Reads part from to (a_tree U)) (sym m.is) r;
  stand = m.stand;
  keeps = KeepsRows-trans old middle new k m.keeps;
  fewer = l;
  no_deeper = made_within old middle new T made m d;
}

-- a node of what was read is part of another
node_within : (old middle new : List TableRow) (T U : PlacedTree) (i : ℕ) → IsAdded middle new T i → IsIn T U → NoDeeper (TreeWithin T) old middle → NoDeeper (TreeWithin U) old new
node_within old middle new T U i a h d limit o w = within_both limit old middle new a.keeps (d limit o (h limit o w)) (only_within limit middle new T a.only (h limit o w))

-- nothing at a place
nothing_stands : (rows : List TableRow) (p : Place) → Stand rows (in_row p [])
nothing_stands rows p = (tt, tt, refl)

nothing_is : {I : Type 0} (at : I → ℕ) (p : Place) (parts : Parts I) → IsNothing p parts → pieces at parts ≡ in_row p []
nothing_is at p (One q i) h = absurd h
nothing_is at p (Sequence q parts) h = let e = h.0 in let f = ap (map at) h.1 in cc
nothing_is at p (Alternative q parts) h = absurd h

-- ---- read one after the other
pub record IsReadOn (part more : Nonterminal) (joined : PlacedTree → List PlacedTree → PlacedTree) (start here : List Lexeme) (old rows : List TableRow) (read : Pieces) : Type 0 where
  pub goes : (to : List Lexeme) (later : List PlacedTree) → Reads more here to (trees later) → Reads part start to (a_tree (joined (tree_of rows read) later))
  pub stand : Stand rows read
  pub keeps : KeepsRows old rows
  pub fewer : length here ≤ length start
  pub no_deeper : NoDeeper (TreeWithin (tree_of rows read)) old rows

read_on : (part more next : Nonterminal) (joined : PlacedTree → List PlacedTree → PlacedTree) (start here from there : List Lexeme) (old rows middle new : List TableRow) (read one made : Pieces) →
    IsReadOn part more joined start here old rows read → from ≡ behind here → ReadsNode next from there rows middle one →
    Merges middle new (joined (tree_of middle read) (tree_of middle one ∷ [])) made →
    ((to : List Lexeme) (U : PlacedTree) (later : List PlacedTree) → Reads next (behind here) there (a_tree U) → Reads more there to (trees later) → Reads more here to (trees (U ∷ later))) →
    ((later : List PlacedTree) → joined (joined (tree_of middle read) (tree_of middle one ∷ [])) later ≡ joined (tree_of middle read) (tree_of middle one ∷ later)) →
    ((limit : ℕ) → 1 ≤ limit → TreeWithin (joined (tree_of middle read) (tree_of middle one ∷ [])) limit → TreesWithin (tree_of middle read ∷ (tree_of middle one ∷ [])) limit) →
    IsReadOn part more joined start there old new made
read_on part more next joined start here from there old rows middle new read one made c b r m goes_on once deepest =
    let T : PlacedTree = tree_of middle read in
    let U : PlacedTree = tree_of middle one in
    let e : T ≡ tree_of rows read = tree_of_stays rows middle read r.keeps c.stand in
    record {
      goes = λ to later q. subst (λ (V : PlacedTree). Reads part start to (a_tree (joined V later))) (sym m.is)
          (subst (λ (V : PlacedTree). Reads part start to (a_tree V)) (sym (once later ∙ ap (λ (V : PlacedTree). joined V (U ∷ later)) e))
          (c.goes to (U ∷ later) (goes_on to U later (subst (λ (x : List Lexeme). Reads next x there (a_tree U)) b r.reads) q)));
      stand = m.stand;
      keeps = KeepsRows-trans old rows new c.keeps (KeepsRows-trans rows middle new r.keeps m.keeps);
      fewer = (let x = c.fewer in let y = subst (λ (x : List Lexeme). length there ≤ length x) b r.fewer in let z = behind_le here in omega arith);
      no_deeper = made_within old middle new (joined T (U ∷ [])) made m (λ limit o w.
          let d = deepest limit o w in
          within_both limit old rows middle r.keeps (c.no_deeper limit o (subst (λ (V : PlacedTree). TreeWithin V limit) e d.0)) (r.no_deeper limit o d.1.0));
    }

pub branches_start : (s : Sort) (start here : List Lexeme) (old rows : List TableRow) (read : Pieces) → ReadsNode (n.Sequence s) start here old rows read →
    IsReadOn (n.Alternative s) (n.MoreBranches s) alternative start here old rows read
branches_start s start here old rows read r = record {
  goes = λ to later q. whole_reads s start here to (tree_of rows read) later r.reads q;
  stand = r.stand;
  keeps = r.keeps;
  fewer = r.fewer;
  no_deeper = r.no_deeper;
}

pub branches_on : (s : Sort) (start here from there : List Lexeme) (old rows middle new : List TableRow) (read one made : Pieces) → IsReadOn (n.Alternative s) (n.MoreBranches s) alternative start here old rows read →
    same t.Bar (front_terminal here) ≡ true → from ≡ behind here → ReadsNode (n.Sequence s) from there rows middle one → Merges middle new (alternative (tree_of middle read) (tree_of middle one ∷ [])) made →
    IsReadOn (n.Alternative s) (n.MoreBranches s) alternative start there old new made
branches_on s start here from there old rows middle new read one made c e b r m =
    read_on (n.Alternative s) (n.MoreBranches s) (n.Sequence s) alternative start here from there old rows middle new read one made c b r m
    (λ to U later q p. branch_more s here there to U later (front_same t.Bar here e) q p)
    (λ later. alternative_on (tree_of middle read) (tree_of middle one) later (free_branches middle read (stand_stays rows middle read r.keeps c.stand)) (free_branches middle one r.stand))
    (λ limit o w. alternative_branches limit (tree_of middle read) (tree_of middle one ∷ []) w)

pub tree_read : (s : Sort) (start here : List Lexeme) (old rows : List TableRow) (read : Pieces) → IsReadOn (n.Alternative s) (n.MoreBranches s) alternative start here old rows read →
    same t.Bar (front_terminal here) ≡ false → ReadsNode (n.Alternative s) start here old rows read
tree_read s start here old rows read c h = record { reads = c.goes here [] (branch_end s here h); stand = c.stand; keeps = c.keeps; fewer = c.fewer; no_deeper = c.no_deeper }

pub parts_start : (s : Sort) (start here : List Lexeme) (old rows : List TableRow) (read : Pieces) → ReadsNode (n.Post s) start here old rows read →
    IsReadOn (n.Sequence s) (n.MoreParts s) sequence start here old rows read
parts_start s start here old rows read r = record {
  goes = λ to later q. branch_reads s start here to (tree_of rows read) later r.reads q;
  stand = r.stand;
  keeps = r.keeps;
  fewer = r.fewer;
  no_deeper = r.no_deeper;
}

pub parts_on : (s : Sort) (start here from there : List Lexeme) (old rows middle new : List TableRow) (read one made : Pieces) → IsReadOn (n.Sequence s) (n.MoreParts s) sequence start here old rows read →
    same t.Comma (front_terminal here) ≡ true → from ≡ behind here → ReadsNode (n.Post s) from there rows middle one → Merges middle new (sequence (tree_of middle read) (tree_of middle one ∷ [])) made →
    IsReadOn (n.Sequence s) (n.MoreParts s) sequence start there old new made
parts_on s start here from there old rows middle new read one made c e b r m =
    let u : Stand middle read = stand_stays rows middle read r.keeps c.stand in
    read_on (n.Sequence s) (n.MoreParts s) (n.Post s) sequence start here from there old rows middle new read one made c b r m
    (λ to U later q p. part_more s here there to U later (front_same t.Comma here e) q p)
    (λ later. sequence_on (tree_of middle read) (tree_of middle one) later (free_parts middle read u) (free_parts middle one r.stand))
    (λ limit o w. sequence_parts limit (tree_of middle read) (tree_of middle one ∷ []) o (is_whole middle read u, (is_whole middle one r.stand, tt)) w)

pub branch_read : (s : Sort) (start here : List Lexeme) (old rows : List TableRow) (read : Pieces) → IsReadOn (n.Sequence s) (n.MoreParts s) sequence start here old rows read →
    same t.Comma (front_terminal here) ≡ false → ReadsNode (n.Sequence s) start here old rows read
branch_read s start here old rows read c h = record { reads = c.goes here [] (part_end s here h); stand = c.stand; keeps = c.keeps; fewer = c.fewer; no_deeper = c.no_deeper }

-- ---- an operator
pub same_behind : (from to : List Lexeme) → to ≡ behind from → length to ≤ length from
same_behind from to e = subst (λ (x : List Lexeme). length x ≤ length from) (sym e) (behind_le from)

pub operator_read : {I : Type 0} (at : I → ℕ) (s : Sort) (k : Terminal) (from to : List Lexeme) (old middle new : List TableRow) (p : Place) (parts : Parts I) (i : I) (made : Pieces) → is_operator k ≡ true → k ≡ front_terminal from →
    to ≡ behind from → Stand old (pieces at parts) → p ≡ parts_place parts → IsAdded old middle (tree_of old (pieces at parts)) (at i) → Merges middle new (placed_form (placed_at middle) p (shape at (repeated_node k i))) made →
    ReadsInto (n.Post s) (a_tree (tree_of old (pieces at parts)) ∷ []) n.Operator from to old new made
operator_read at s k from to old middle new p parts i made h q e st pe a m =
    let T : PlacedTree = tree_of old (pieces at parts) in
    let u : placed_form (placed_at middle) p (shape at (repeated_node k i)) ≡ repeated k T = repeated_is (placed_at middle) at k p i T a.placed (place_of_parts at old parts p st pe) in
    record {
      value = mark k (front_place from);
      reads = subst (λ (x : List Lexeme). Reads n.Operator from x (mark k (front_place from))) (sym e) (operator_reads k from h (sym q));
      makes = ap a_tree (sym (m.is ∙ u));
      stand = m.stand;
      keeps = KeepsRows-trans old middle new a.keeps m.keeps;
      fewer = same_behind from to e;
      no_deeper = made_within old middle new _ made m (subst (λ (U : PlacedTree). NoDeeper (TreeWithin U) old middle) (sym u) (node_within old old middle T (repeated k T) (at i) a (repeated_in k T) (none_deeper (TreeWithin T) old)));
    }

pub operator_not_read : (s : Sort) (from : List Lexeme) (rows : List TableRow) (made : Pieces) → Stand rows made → is_operator (front_terminal from) ≡ false →
    ReadsInto (n.Post s) (a_tree (tree_of rows made) ∷ []) n.Operator from from rows rows made
operator_not_read s from rows made h k = record {
  value = absent;
  reads = operator_none from k;
  makes = once_makes s (tree_of rows made);
  stand = h;
  keeps = KeepsRows-refl rows;
  fewer = omega arith;
  no_deeper = none_deeper (TreeWithin (tree_of rows made)) rows;
}

-- ---- words
pub type_name : (w : List ℕ) → has_word keywords w ≡ false → bytes_eq w string_word ≡ false → is_type_name w ≡ true
type_name w h e = let f : bytes_eq string_word w ≡ false = bytes_eq-turned w string_word e in rw (h, f) refl

pub named_name : (w : List ℕ) (p : Place) → bytes_eq w string_word ≡ false → named_type w p ≡ Name_at p w
named_name w p e = let f : bytes_eq string_word w ≡ false = bytes_eq-turned w string_word e in rw f refl

-- ---- what each nonterminal reads
pub content_empty_read : {I : Type 0} (at : I → ℕ) (s : Sort) (from to : List Lexeme) (old : List TableRow) (p : Place) (parts : Parts I) → same t.BracketR (front_terminal from) ≡ true → to ≡ behind from → p ≡ front_place from →
    IsNothing p parts → ReadsNode (n.Content s) from to old old (pieces at parts)
content_empty_read at s from to old p parts h e q a = subst (λ (made : Pieces). ReadsNode (n.Content s) from to old old made) (sym (nothing_is at p parts a)) (record {
  reads = subst (λ (x : List Lexeme). Reads (n.Content s) from x (a_tree (Empty_at p))) (sym e)
      (subst (λ (x : Place). Reads (n.Content s) from (behind from) (a_tree (Empty_at x))) (sym q) (content_empty s from (front_same t.BracketR from h)));
  stand = nothing_stands old p;
  keeps = KeepsRows-refl old;
  fewer = same_behind from to e;
  no_deeper = none_deeper (TreeWithin (Empty_at p)) old;
})

pub content_full_read : (s : Sort) (from middle to : List Lexeme) (old new : List TableRow) (made : Pieces) → same t.BracketR (front_terminal from) ≡ false → ReadsNode (n.Alternative s) from middle old new made →
    to ≡ behind middle → ReadsNode (n.Content s) from to old new made
content_full_read s from middle to old new made h r e = record {
  reads = subst (λ (x : List Lexeme). Reads (n.Content s) from x (a_tree (tree_of new made))) (sym e) (content_full s from middle (tree_of new made) h r.reads);
  stand = r.stand;
  keeps = r.keeps;
  fewer = (let x = same_behind middle to e in let y = r.fewer in omega arith);
  no_deeper = r.no_deeper;
}

pub group_empty_read : {I : Type 0} (at : I → ℕ) (s : Sort) (from to : List Lexeme) (old : List TableRow) (p : Place) (parts : Parts I) → same t.ParenR (front_terminal from) ≡ true → to ≡ behind from → IsNothing p parts →
    ReadsInto (n.Prim s) (mark t.ParenL p ∷ []) (n.Group s) from to old old (pieces at parts)
group_empty_read at s from to old p parts h e a = subst (λ (made : Pieces). ReadsInto (n.Prim s) (mark t.ParenL p ∷ []) (n.Group s) from to old old made) (sym (nothing_is at p parts a)) (record {
  value = absent;
  reads = subst (λ (x : List Lexeme). Reads (n.Group s) from x absent) (sym e) (group_empty s from (front_same t.ParenR from h));
  makes = group_empty_makes s p (Empty_at p) refl;
  stand = nothing_stands old p;
  keeps = KeepsRows-refl old;
  fewer = same_behind from to e;
  no_deeper = none_deeper (TreeWithin (Empty_at p)) old;
})

pub group_full_read : (s : Sort) (from middle to : List Lexeme) (old new : List TableRow) (made : Pieces) (p : Place) → same t.ParenR (front_terminal from) ≡ false → ReadsNode (n.Alternative s) from middle old new made →
    to ≡ behind middle → ReadsInto (n.Prim s) (mark t.ParenL p ∷ []) (n.Group s) from to old new made
group_full_read s from middle to old new made p h r e = record {
  value = a_tree (tree_of new made);
  reads = subst (λ (x : List Lexeme). Reads (n.Group s) from x (a_tree (tree_of new made))) (sym e) (group_full s from middle (tree_of new made) h r.reads);
  makes = group_makes s p (tree_of new made);
  stand = r.stand;
  keeps = r.keeps;
  fewer = (let x = same_behind middle to e in let y = r.fewer in omega arith);
  no_deeper = r.no_deeper;
}

pub element_read : (s : Sort) (from middle to : List Lexeme) (old rows added new : List TableRow) (inside : Pieces) (j : ℕ) (made : Pieces) (p : Place) (c : LabelClass) → BeginsElement s from → Reads n.Class from middle (class p c) →
    length middle ≤ length (behind from) → ReadsNode (n.Content s) middle to old rows inside → IsAdded rows added (tree_of rows inside) j → Merges added new (Elem_at p c (placed_at added j)) made → ReadsNode (n.Prim s) from to old new made
element_read s from middle to old rows added new inside j made p c b r l q a m =
    let T : PlacedTree = tree_of rows inside in
    reads_made (n.Prim s) from to old added new (Elem_at p c T) made (KeepsRows-trans old rows added q.keeps a.keeps)
    (subst (λ (U : PlacedTree). Merges added new (Elem_at p c U) made) a.placed m) (primary_element s from middle to p c T b r q.reads)
    (let x = q.fewer in let y = behind_le from in omega arith) (node_within old rows added T (Elem_at p c T) j a (content_in p c T) q.no_deeper)

pub part_read : (s : Sort) (from middle to : List Lexeme) (old rows new : List TableRow) (one made : Pieces) → same t.Val (front_terminal from) ≡ false → ReadsNode (n.Prim s) from middle old rows one →
    ReadsInto (n.Post s) (a_tree (tree_of rows one) ∷ []) n.Operator middle to rows new made → ReadsNode (n.Post s) from to old new made
part_read s from middle to old rows new one made h r q = record {
  reads = post_reads s from middle to (tree_of rows one) (tree_of new made) q.value h r.reads q.reads q.makes;
  stand = q.stand;
  keeps = KeepsRows-trans old rows new r.keeps q.keeps;
  fewer = (let x = r.fewer in let y = q.fewer in omega arith);
  no_deeper = λ limit o w. within_both limit old rows new q.keeps (r.no_deeper limit o (operator_in s (tree_of rows one) (tree_of new made) q.value q.makes limit o w)) (q.no_deeper limit o w);
}

pub word_read : (s : Sort) (from to : List Lexeme) (old new : List TableRow) (made : Pieces) (x : List ℕ) (p : Place) → front_terminal from ≡ t.Word → (front_terminal from ≡ t.Word → x ≡ front_text from) →
    p ≡ front_place from → to ≡ behind from → Merges old new (named_type x p) made → ReadsNode (n.Prim s) from to old new made
word_read s from to old new made x p h f q e a =
    reads_made (n.Prim s) from to old old new (named_type x p) made (KeepsRows-refl old) a
    (subst (λ (y : List Lexeme). Reads (n.Prim s) from y (a_tree (named_type x p))) (sym e)
    (subst (λ (y : Place). Reads (n.Prim s) from (behind from) (a_tree (named_type x y))) (sym q)
    (subst (λ (y : List ℕ). Reads (n.Prim s) from (behind from) (a_tree (named_type y (front_place from)))) (sym (f h)) (primary_word s from h))))
    (same_behind from to e) (none_deeper (TreeWithin (named_type x p)) old)

pub text_read : (s : Sort) (from to : List Lexeme) (old new : List TableRow) (made : Pieces) (x : List ℕ) (p : Place) → front_terminal from ≡ t.Text → (front_terminal from ≡ t.Text → x ≡ unescaped (front_text from)) →
    p ≡ front_place from → to ≡ behind from → Merges old new (Words_at p (class_of false (x ∷ []))) made → ReadsNode (n.Prim s) from to old new made
text_read s from to old new made x p h f q e a =
    reads_made (n.Prim s) from to old old new (Words_at p (class_of false (x ∷ []))) made (KeepsRows-refl old) a
    (subst (λ (y : List Lexeme). Reads (n.Prim s) from y (a_tree (Words_at p (class_of false (x ∷ []))))) (sym e)
    (subst (λ (y : Place). Reads (n.Prim s) from (behind from) (a_tree (Words_at y (class_of false (x ∷ []))))) (sym q)
    (subst (λ (y : List ℕ). Reads (n.Prim s) from (behind from) (a_tree (Words_at (front_place from) (class_of false (y ∷ []))))) (sym (f h)) (primary_text s from h))))
    (same_behind from to e) (none_deeper (TreeWithin (Words_at p (class_of false (x ∷ [])))) old)

-- what stands after a `^`, with its place
except_reads : (s : Sort) (from next to : List Lexeme) (p : Place) (v : Value) (U : PlacedTree) → front_terminal from ≡ t.Caret → p ≡ front_place from → next ≡ behind from → Reads (n.Excepted s) next to v →
    value_of (n.Prim s) (mark t.Caret p ∷ (v ∷ [])) ≡ a_tree U → Reads (n.Prim s) from to (a_tree U)
except_reads s from next to p v U h q e r m =
    primary_except s from to v U h (subst (λ (x : List Lexeme). Reads (n.Excepted s) x to v) e r) (subst (λ (x : Place). value_of (n.Prim s) (mark t.Caret x ∷ (v ∷ [])) ≡ a_tree U) q m)

pub texts_read : (s : Sort) (from next to : List Lexeme) (old new : List TableRow) (made : Pieces) (p : Place) (ss : List (List ℕ)) → front_terminal from ≡ t.Caret → p ≡ front_place from → next ≡ behind from →
    length to ≤ length next → ((q : Sort) → Reads (n.Excepted q) next to (texts ss)) → Merges old new (Words_at p (class_of true ss)) made → ReadsNode (n.Prim s) from to old new made
texts_read s from next to old new made p ss h q e l r m =
    reads_made (n.Prim s) from to old old new (Words_at p (class_of true ss)) made (KeepsRows-refl old) m
    (except_reads s from next to p (texts ss) (Words_at p (class_of true ss)) h q e (r s) refl)
    (let x = same_behind from next e in omega arith) (none_deeper (TreeWithin (Words_at p (class_of true ss))) old)

pub exception_read : (s : Sort) (from next middle to : List Lexeme) (old rows added new : List TableRow) (inside : Pieces) (j : ℕ) (made : Pieces) (p : Place) (ws : List (List ℕ)) (c : LabelClass) → front_terminal from ≡ t.Caret →
    p ≡ front_place from → next ≡ behind from → length middle ≤ length next →
    ((q : Sort) (to : List Lexeme) (T : PlacedTree) → Reads (n.Content q) middle to (a_tree T) → Reads (n.Excepted q) next to (labelled ws T)) → c ≡ class_of true ws →
    ReadsNode (n.Content s) middle to old rows inside → IsAdded rows added (tree_of rows inside) j → Merges added new (Elem_at p c (placed_at added j)) made → ReadsNode (n.Prim s) from to old new made
exception_read s from next middle to old rows added new inside j made p ws c h q e l r k o a m =
    let T : PlacedTree = tree_of rows inside in
    reads_made (n.Prim s) from to old added new (Elem_at p c T) made (KeepsRows-trans old rows added o.keeps a.keeps)
    (subst (λ (U : PlacedTree). Merges added new (Elem_at p c U) made) a.placed m)
    (subst (λ (d : LabelClass). Reads (n.Prim s) from to (a_tree (Elem_at p d T))) (sym k) (except_reads s from next to p (labelled ws T) (Elem_at p (class_of true ws) T) h q e (r s to T o.reads) refl))
    (let x = same_behind from next e in let y = o.fewer in omega arith) (node_within old rows added T (Elem_at p c T) j a (content_in p c T) o.no_deeper)

pub group_read : (s : Sort) (from here to : List Lexeme) (old new : List TableRow) (made : Pieces) (p : Place) → front_terminal from ≡ t.ParenL → SpellNo (element_row s) from → p ≡ front_place from →
    here ≡ behind from → ReadsInto (n.Prim s) (mark t.ParenL p ∷ []) (n.Group s) here to old new made → ReadsNode (n.Prim s) from to old new made
group_read s from here to old new made p h u q e r = record {
  reads = primary_group s from to r.value (tree_of new made) h u (subst (λ (x : List Lexeme). Reads (n.Group s) x to r.value) e r.reads)
      (subst (λ (x : Place). value_of (n.Prim s) (mark t.ParenL x ∷ (r.value ∷ [])) ≡ a_tree (tree_of new made)) q r.makes);
  stand = r.stand;
  keeps = r.keeps;
  fewer = (let x = same_behind from here e in let y = r.fewer in omega arith);
  no_deeper = r.no_deeper;
}

pub none_read : {I : Type 0} (at : I → ℕ) (s : Sort) (from to : List Lexeme) (old : List TableRow) (p : Place) (parts : Parts I) → (front_terminal from ≡ t.Word → ⊥) → (front_terminal from ≡ t.ParenL → ⊥) → (front_terminal from ≡ t.Text → ⊥) →
    (front_terminal from ≡ t.Tilde → ⊥) → (front_terminal from ≡ t.Caret → ⊥) → (front_terminal from ≡ t.Label → ⊥) → to ≡ behind from → IsNothing p parts → ReadsNode (n.Prim s) from to old old (pieces at parts)
none_read at s from to old p parts a b y c d f e x = subst (λ (made : Pieces). ReadsNode (n.Prim s) from to old old made) (sym (nothing_is at p parts x)) (record {
  reads = primary_none s from to (a_tree (Empty_at p)) a b y c d f;
  stand = nothing_stands old p;
  keeps = KeepsRows-refl old;
  fewer = same_behind from to e;
  no_deeper = none_deeper (TreeWithin (Empty_at p)) old;
})

-- ---- variables
no_pattern : sorts.Type ≡ sorts.Pattern → ⊥
no_pattern e = cc

pub unbound_read : {I : Type 0} (at : I → ℕ) (s : Sort) (from to : List Lexeme) (old : List TableRow) (p : Place) (parts : Parts I) → s ≡ sorts.Type → front_terminal from ≡ t.Val → to ≡ behind from → IsNothing p parts →
    ReadsNode (n.Post s) from to old old (pieces at parts)
unbound_read at sorts.Type from to old p parts b h e a = subst (λ (made : Pieces). ReadsNode (n.Post sorts.Type) from to old old made) (sym (nothing_is at p parts a)) (record {
  reads = no_variable from to (Empty_at p) h;
  stand = nothing_stands old p;
  keeps = KeepsRows-refl old;
  fewer = same_behind from to e;
  no_deeper = none_deeper (TreeWithin (Empty_at p)) old;
})
unbound_read at sorts.Pattern from to old p parts b h e a = absurd (no_pattern (sym b))

pub variable_read : (s : Sort) (from next here to : List Lexeme) (old new : List TableRow) (made : Pieces) (p q : Place) (x : List ℕ) → s ≡ sorts.Pattern → front_terminal from ≡ t.Val → p ≡ front_place from →
    next ≡ behind from → (front_terminal next ≡ t.Word → x ≡ front_text next) → q ≡ front_place next → here ≡ behind next →
    ReadsInto (n.Post s) (mark t.Val p ∷ (word x q ∷ [])) n.Bound here to old new made → ReadsNode (n.Post s) from to old new made
variable_read sorts.Type from next here to old new made p q x b h pe ne f qe e r = absurd (no_pattern b)
variable_read sorts.Pattern from next here to old new made p q x b h pe ne f qe e r = record {
  reads = variable_reads from to x q r.value (tree_of new made) h (λ k. f (ap front_terminal ne ∙ k) ∙ ap front_text ne) (qe ∙ ap front_place ne)
      (subst (λ (y : List Lexeme). Reads n.Bound y to r.value) (e ∙ ap behind ne) r.reads)
      (subst (λ (y : Place). value_of (n.Post sorts.Pattern) (mark t.Val y ∷ (word x q ∷ (r.value ∷ []))) ≡ a_tree (tree_of new made)) pe r.makes);
  stand = r.stand;
  keeps = r.keeps;
  fewer = (let u = same_behind from next ne in let v = same_behind next here e in let w = r.fewer in omega arith);
  no_deeper = r.no_deeper;
}

pub bound_read : (s : Sort) (from next to : List Lexeme) (old rows added new : List TableRow) (one : Pieces) (j : ℕ) (made : Pieces) (p q : Place) (x : List ℕ) → s ≡ sorts.Pattern → same t.As (front_terminal from) ≡ true →
    next ≡ behind from → ReadsNode (n.Post s) next to old rows one → IsAdded rows added (tree_of rows one) j → Merges added new (Val_at p x q (placed_at added j)) made →
    ReadsInto (n.Post s) (mark t.Val p ∷ (word x q ∷ [])) n.Bound from to old new made
bound_read sorts.Type from next to old rows added new one j made p q x b h e r a m = absurd (no_pattern b)
bound_read sorts.Pattern from next to old rows added new one j made p q x b h e r a m =
    let T : PlacedTree = tree_of rows one in
    let v : Merges added new (Val_at p x q T) made = subst (λ (U : PlacedTree). Merges added new (Val_at p x q U) made) a.placed m in
    record {
      value = a_tree T;
      reads = bound_reads from to T (front_same t.As from h) (subst (λ (y : List Lexeme). Reads (n.Post sorts.Pattern) y to (a_tree T)) e r.reads);
      makes = ap a_tree (sym v.is);
      stand = v.stand;
      keeps = KeepsRows-trans old rows new r.keeps (KeepsRows-trans rows added new a.keeps v.keeps);
      fewer = (let u = same_behind from next e in let w = r.fewer in omega arith);
      no_deeper = made_within old added new (Val_at p x q T) made v (node_within old rows added T (Val_at p x q T) j a (bound_in p q x T) r.no_deeper);
    }

pub any_read : (s : Sort) (from : List Lexeme) (old added new : List TableRow) (j : ℕ) (made : Pieces) (p q : Place) (x : List ℕ) → s ≡ sorts.Pattern → same t.As (front_terminal from) ≡ false →
    IsAdded old added (Name_at q any_word) j → Merges added new (Val_at p x q (placed_at added j)) made → ReadsInto (n.Post s) (mark t.Val p ∷ (word x q ∷ [])) n.Bound from from old new made
any_read sorts.Type from old added new j made p q x b h a m = absurd (no_pattern b)
any_read sorts.Pattern from old added new j made p q x b h a m =
    let T : PlacedTree = Name_at q any_word in
    let v : Merges added new (Val_at p x q T) made = subst (λ (U : PlacedTree). Merges added new (Val_at p x q U) made) a.placed m in
    record {
      value = absent;
      reads = bound_none from h;
      makes = ap a_tree (sym v.is);
      stand = v.stand;
      keeps = KeepsRows-trans old added new a.keeps v.keeps;
      fewer = omega arith;
      no_deeper = made_within old added new (Val_at p x q T) made v (node_within old old added T (Val_at p x q T) j a (bound_in p q x T) (none_deeper (TreeWithin T) old));
    }

-- ---- a whole type, or a pattern without alternatives
pub node_read : (part : Nonterminal) (from to : List Lexeme) (old rows new : List TableRow) (made : Pieces) (i : ℕ) → ReadsNode part from to old rows made → IsAdded rows new (tree_of rows made) i → Reads part from to (a_tree (placed_at new i))
node_read part from to old rows new made i r a = subst (λ (T : PlacedTree). Reads part from to (a_tree T)) (sym a.placed) r.reads

pub node_deeper : (part : Nonterminal) (from to : List Lexeme) (old rows new : List TableRow) (made : Pieces) (i : ℕ) → ReadsNode part from to old rows made → IsAdded rows new (tree_of rows made) i → NoDeeper (TreeWithin (placed_at new i)) old new
node_deeper part from to old rows new made i r a =
    subst (λ (T : PlacedTree). NoDeeper (TreeWithin T) old new) (sym a.placed) (node_within old rows new (tree_of rows made) (tree_of rows made) i a (λ limit o w. w) r.no_deeper)
