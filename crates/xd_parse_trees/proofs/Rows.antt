-- What rows of symbols read, part by part.
use Rattle.std.proofs.Common.{◌≡◌, ◌≢◌, ◌<◌, ◌≤◌, arith, length, ℕ, zero, suc, ◌++◌, Bool, true, false, List, [], ◌∷◌, Some, None, refl, sym, ap, subst, ◌∙◌, inl, inr}
use Rattle.std.proofs.lemmas.Bool.{false≢true}
use Rattle.xd_doc.proofs.Lists.{not_nil, same_first}
use Rattle.xd_lex.specs.Tokens.{Lexeme}
use Rattle.xd_grammar.specs.declared.grammar.Nonterminal.{Nonterminal}
use Rattle.xd_grammar.specs.declared.grammar.Nonterminal.TheVariants as n
use Rattle.xd_grammar.specs.declared.grammar.Sort.TheVariants as sorts
use Rattle.xd_grammar.specs.declared.grammar.Symbol.TheVariants.{Token, Opening, Closed, Unless, Part}
use Rattle.xd_grammar.specs.declared.grammar.Terminal.{Terminal}
use Rattle.xd_grammar.specs.declared.grammar.Terminal.TheVariants as t
use Rattle.xd_doc.specs.Members.{IsOneOf}
use Rattle.xd_grammar.specs.Grammar.{Row, rules}
use Rattle.xd_grammar.specs.Fits.{same, fits, first_fit}
use Rattle.xd_parse_trees.specs.Values.{Value, token_of, token_value, value_of}
use Rattle.xd_parse_trees.specs.Means.{Means, ends, a_token, an_opening, a_closing, a_bar, a_part}
use Rattle.xd_parse_trees.specs.Reading.{Reads, front_terminal, front_place, front_text, behind}
use Rattle.xd_grammar.proofs.Derive.{same-refl, same-of, same-other, same-true, may, any_of, is_group, rules_decided, chosen_none, chosen_only, all_rows, all_of}
use Rattle.xd_grammar.specs.Text.{terminal_at}

-- the next token, by its test
pub front_same : (j : Terminal) (from : List Lexeme) → same j (front_terminal from) ≡ true → front_terminal from ≡ j
front_same j from h = sym (same-true j (front_terminal from) h)

-- ---- what is read, by the row's first symbol
abbrev pub MeansView : Row → (from to : List Lexeme) → List Value → Type 0
MeansView [] from to vs = (from ≡ to) × (vs ≡ [])
MeansView (Token k ∷ row) from to vs = (l : Lexeme) × (ls : List Lexeme) × (us : List Value) × (from ≡ l ∷ ls) × (terminal_at l ≡ k) × (vs ≡ token_value l ∷ us) × Means row ls to us
MeansView (Opening k ∷ row) from to vs = (l : Lexeme) × (ls : List Lexeme) × (us : List Value) × (from ≡ l ∷ ls) × (terminal_at l ≡ k) × (vs ≡ token_value l ∷ us) × Means row ls to us
MeansView (Closed ∷ row) from to vs = Means row from to vs
MeansView (Unless j ∷ row) from to vs = (l : Lexeme) × (ls : List Lexeme) × (from ≡ l ∷ ls) × (j ≢ terminal_at l) × Means row from to vs
MeansView (Part part ∷ row) from to vs = (made : Row) × (middle : List Lexeme) × (parts : List Value) × (us : List Value) × IsOneOf made (rules part) × Means made from middle parts × Means row middle to us × (vs ≡ value_of part parts ∷ us)

pub means_view : {row : Row} {from to : List Lexeme} {vs : List Value} → Means row from to vs → MeansView row from to vs
means_view ends = (refl, refl)
means_view (a_token {l = l} {ls = ls} {vs = vs} m) = (l, ls, vs, refl, refl, refl, m)
means_view (an_opening {l = l} {ls = ls} {vs = vs} m) = (l, ls, vs, refl, refl, refl, m)
means_view (a_closing m) = m
means_view (a_bar {l = l} {ls = ls} ne m) = (l, ls, refl, ne, m)
means_view (a_part made {middle = middle} {parts = parts} {vs = vs} one m o) = (made, middle, parts, vs, one, m, o, refl)

-- whatever the row reads from here on reaches just to there, and stands for just these
abbrev pub ReadsRow : Row → (from to : List Lexeme) → List Value → Type 0
ReadsRow row from to vs = (rest : List Lexeme) (ws : List Value) → Means row from rest ws → (rest ≡ to) × (ws ≡ vs)

pub row_end : (l : List Lexeme) → ReadsRow [] l l []
row_end l rest ws m = let v : MeansView [] l rest ws = means_view m in (sym v.0, v.1)

cons_values : (v w : Value) (vs ws : List Value) → v ≡ w → vs ≡ ws → v ∷ vs ≡ w ∷ ws
cons_values v w vs ws e f = cc

-- a token of a row, by what stands at the front
token_at_front : (k : Terminal) (from to : List Lexeme) (l : Lexeme) (ls : List Lexeme) (us vs ws : List Value) → from ≡ l ∷ ls → terminal_at l ≡ k → ws ≡ token_value l ∷ us → us ≡ vs → ws ≡ token_of k (front_text from) (front_place from) ∷ vs
token_at_front k from to l ls us vs ws e f g h = rw e (subst (λ (j : Terminal). ws ≡ token_of j l.text l.place ∷ vs) f (g ∙ ap (λ xs. token_value l ∷ xs) h))

pub row_token : (k : Terminal) (row : Row) (from to : List Lexeme) (vs : List Value) → ReadsRow row (behind from) to vs → ReadsRow (Token k ∷ row) from to (token_of k (front_text from) (front_place from) ∷ vs)
row_token k row from to vs r rest ws m =
    let v : MeansView (Token k ∷ row) from rest ws = means_view m in
    let e : behind from ≡ v.1 = ap behind v.3 in
    let q : (rest ≡ to) × (v.2 ≡ vs) = r rest v.2 (subst (λ (x : List Lexeme). Means row x rest v.2) (sym e) v.6) in
    (q.0, token_at_front k from to v.0 v.1 v.2 vs ws v.3 v.4 v.5 q.1)

-- where just that token comes next
pub row_token_where : (k : Terminal) (row : Row) (from to : List Lexeme) (vs : List Value) → (front_terminal from ≡ k → ReadsRow (Token k ∷ row) from to vs) → ReadsRow (Token k ∷ row) from to vs
row_token_where k row from to vs r rest ws m = let v : MeansView (Token k ∷ row) from rest ws = means_view m in r (ap front_terminal v.3 ∙ v.4) rest ws m

pub row_opening : (k : Terminal) (row : Row) (from to : List Lexeme) (vs : List Value) → ReadsRow row (behind from) to vs → ReadsRow (Opening k ∷ row) from to (token_of k (front_text from) (front_place from) ∷ vs)
row_opening k row from to vs r rest ws m =
    let v : MeansView (Opening k ∷ row) from rest ws = means_view m in
    let e : behind from ≡ v.1 = ap behind v.3 in
    let q : (rest ≡ to) × (v.2 ≡ vs) = r rest v.2 (subst (λ (x : List Lexeme). Means row x rest v.2) (sym e) v.6) in
    (q.0, token_at_front k from to v.0 v.1 v.2 vs ws v.3 v.4 v.5 q.1)

pub row_closed : (row : Row) (from to : List Lexeme) (vs : List Value) → ReadsRow row from to vs → ReadsRow (Closed ∷ row) from to vs
row_closed row from to vs r rest ws m = let v : MeansView (Closed ∷ row) from rest ws = means_view m in r rest ws v

pub row_unless : (j : Terminal) (row : Row) (from to : List Lexeme) (vs : List Value) → ReadsRow row from to vs → ReadsRow (Unless j ∷ row) from to vs
row_unless j row from to vs r rest ws m = let v : MeansView (Unless j ∷ row) from rest ws = means_view m in r rest ws v.4

pub row_part : (part : Nonterminal) (row : Row) (from middle to : List Lexeme) (x : Value) (vs : List Value) → Reads part from middle x → ReadsRow row middle to vs → ReadsRow (Part part ∷ row) from to (x ∷ vs)
row_part part row from middle to x vs one r rest ws m =
    let v : MeansView (Part part ∷ row) from rest ws = means_view m in
    let p : (v.1 ≡ middle) × (value_of part v.2 ≡ x) = one v.1 (value_of part v.2) (a_part v.0 v.4 v.5 ends) in
    let q : (rest ≡ to) × (v.3 ≡ vs) = r rest v.3 (subst (λ (y : List Lexeme). Means row y rest v.3) p.0 v.6) in
    (q.0, v.7 ∙ cons_values (value_of part v.2) x v.3 vs p.1 q.1)

-- ---- a nonterminal, by its row
pub one_value : (v w : Value) → v ∷ [] ≡ w ∷ [] → v ≡ w
one_value v w e = cc

pub by_row : (part : Nonterminal) (made : Row) (from to : List Lexeme) (vs : List Value) → ((other : Row) (rest : List Lexeme) (ws : List Value) → IsOneOf other (rules part) → Means other from rest ws → other ≡ made) → ReadsRow made from to vs → Reads part from to (value_of part vs)
by_row part made from to vs only r rest w m =
    let v : MeansView (Part part ∷ []) from rest (w ∷ []) = means_view m in
    let z : MeansView [] v.1 rest v.3 = means_view v.6 in
    let e : v.0 ≡ made = only v.0 v.1 v.2 v.4 v.5 in
    let q : (v.1 ≡ to) × (v.2 ≡ vs) = r v.1 v.2 (subst (λ (x : Row). Means x from v.1 v.2) e v.5) in
    (sym z.0 ∙ q.0, one_value w (value_of part vs) (v.7 ∙ cons_values (value_of part v.2) (value_of part vs) v.3 [] (ap (value_of part) q.1) z.1))

only_one : (other made : Row) → IsOneOf other (made ∷ []) → other ≡ made
only_one other made (inl e) = sym e
only_one other made (inr h) = absurd h

-- a nonterminal of one row
pub part_one : (part : Nonterminal) (made : Row) (from to : List Lexeme) (vs : List Value) → rules part ≡ made ∷ [] → ReadsRow made from to vs → Reads part from to (value_of part vs)
part_one part made from to vs e r = by_row part made from to vs (λ other rest ws one m. only_one other made (subst (λ (rs : List Row). IsOneOf other rs) e one)) r

-- ---- the row that the next token leaves
pub append_means : {made : Row} {from middle : List Lexeme} {ps : List Value} → Means made from middle ps → (row : Row) (rest : List Lexeme) (ws : List Value) → Means row middle rest ws → Means (made ++ row) from rest (ps ++ ws)
append_means ends row rest ws m = m
append_means (a_token o) row rest ws m = a_token (append_means o row rest ws m)
append_means (an_opening o) row rest ws m = an_opening (append_means o row rest ws m)
append_means (a_closing o) row rest ws m = a_closing (append_means o row rest ws m)
append_means (a_bar ne o) row rest ws m = a_bar ne (append_means o row rest ws m)
append_means (a_part made one o p) row rest ws m = a_part made one o (append_means p row rest ws m)

pub same_at : (j k : Terminal) (l x : Lexeme) (ls xs : List Lexeme) → l ∷ ls ≡ x ∷ xs → terminal_at x ≡ j → terminal_at l ≡ k → same j k ≡ true
same_at j k l x ls xs e f g = same-of j k (sym f ∙ ap terminal_at (sym (same_first l x ls xs e)) ∙ g)

pub other_at : (j k : Terminal) (l x : Lexeme) (ls xs : List Lexeme) → l ∷ ls ≡ x ∷ xs → j ≢ terminal_at x → terminal_at l ≡ k → same j k ≡ false
other_at j k l x ls xs e f g = same-other j k (λ q. f (q ∙ sym g ∙ ap terminal_at (same_first l x ls xs e)))

pub means_fits : (made : Row) (l : Lexeme) (ls rest : List Lexeme) (ws : List Value) (k : Terminal) → terminal_at l ≡ k → Means made (l ∷ ls) rest ws → fits made k ≡ true
means_fits [] l ls rest ws k g m = refl
means_fits (Token j ∷ made) l ls rest ws k g m = let v : MeansView (Token j ∷ made) (l ∷ ls) rest ws = means_view m in same_at j k l v.0 ls v.1 v.3 v.4 g
means_fits (Opening j ∷ made) l ls rest ws k g m = let v : MeansView (Opening j ∷ made) (l ∷ ls) rest ws = means_view m in same_at j k l v.0 ls v.1 v.3 v.4 g
means_fits (Closed ∷ made) l ls rest ws k g m = refl
means_fits (Unless j ∷ made) l ls rest ws k g m =
    let v : MeansView (Unless j ∷ made) (l ∷ ls) rest ws = means_view m in
    rw (other_at j k l v.0 ls v.1 v.2 v.3 g) (means_fits made l ls rest ws k g v.4)
means_fits (Part part ∷ made) l ls rest ws k g m = refl

pub means_may : (f : ℕ) (made : Row) (l : Lexeme) (ls rest : List Lexeme) (ws : List Value) (k : Terminal) → terminal_at l ≡ k → Means made (l ∷ ls) rest ws → may f made k ≡ true
means_may zero made l ls rest ws k g m = refl
means_may (suc f) [] l ls rest ws k g m = refl
means_may (suc f) (Token j ∷ made) l ls rest ws k g m = let v : MeansView (Token j ∷ made) (l ∷ ls) rest ws = means_view m in same_at j k l v.0 ls v.1 v.3 v.4 g
means_may (suc f) (Opening j ∷ made) l ls rest ws k g m = let v : MeansView (Opening j ∷ made) (l ∷ ls) rest ws = means_view m in same_at j k l v.0 ls v.1 v.3 v.4 g
means_may (suc f) (Closed ∷ made) l ls rest ws k g m = means_may f made l ls rest ws k g (let v : MeansView (Closed ∷ made) (l ∷ ls) rest ws = means_view m in v)
means_may (suc f) (Unless j ∷ made) l ls rest ws k g m =
    let v : MeansView (Unless j ∷ made) (l ∷ ls) rest ws = means_view m in
    rw (other_at j k l v.0 ls v.1 v.2 v.3 g) (means_may f made l ls rest ws k g v.4)
means_may (suc f) (Part part ∷ made) l ls rest ws k g m =
    let v : MeansView (Part part ∷ made) (l ∷ ls) rest ws = means_view m in
    any_of (λ (r : Row). may f (r ++ made) k) (rules part) v.0 v.4 (means_may f (v.0 ++ made) l ls rest (v.2 ++ v.3) k g (append_means v.5 made rest v.3 v.6))

-- ---- each nonterminal has a token to come
abbrev pub needs : ℕ → Row → Bool
needs zero row = false
needs (suc f) [] = false
needs (suc f) (Token j ∷ row) = true
needs (suc f) (Opening j ∷ row) = true
needs (suc f) (Unless j ∷ row) = true
needs (suc f) (Closed ∷ row) = needs f row
needs (suc f) (Part part ∷ row) = all_rows (λ (r : Row). needs f (r ++ row)) (rules part)

pub needs_token : (f : ℕ) (row : Row) (rest : List Lexeme) (ws : List Value) → needs f row ≡ true → Means row [] rest ws → ⊥
needs_token zero row rest ws h m = false≢true h
needs_token (suc f) [] rest ws h m = false≢true h
needs_token (suc f) (Token j ∷ row) rest ws h m = let v : MeansView (Token j ∷ row) [] rest ws = means_view m in not_nil v.0 v.1 v.3
needs_token (suc f) (Opening j ∷ row) rest ws h m = let v : MeansView (Opening j ∷ row) [] rest ws = means_view m in not_nil v.0 v.1 v.3
needs_token (suc f) (Unless j ∷ row) rest ws h m = let v : MeansView (Unless j ∷ row) [] rest ws = means_view m in not_nil v.0 v.1 v.2
needs_token (suc f) (Closed ∷ row) rest ws h m = needs_token f row rest ws h (let v : MeansView (Closed ∷ row) [] rest ws = means_view m in v)
needs_token (suc f) (Part part ∷ row) rest ws h m =
    let v : MeansView (Part part ∷ row) [] rest ws = means_view m in
    needs_token f (v.0 ++ row) rest (v.2 ++ v.3) (all_of (λ (r : Row). needs f (r ++ row)) (rules part) v.0 v.4 h) (append_means v.5 row rest v.3 v.6)

part_needs : (part : Nonterminal) → needs 12 (Part part ∷ []) ≡ true
part_needs (n.Alternative sorts.Type) = refl
part_needs (n.Alternative sorts.Pattern) = refl
part_needs (n.Sequence sorts.Type) = refl
part_needs (n.Sequence sorts.Pattern) = refl
part_needs (n.Post sorts.Type) = refl
part_needs (n.Post sorts.Pattern) = refl
part_needs (n.Prim sorts.Type) = refl
part_needs (n.Prim sorts.Pattern) = refl
part_needs (n.Group sorts.Type) = refl
part_needs (n.Group sorts.Pattern) = refl
part_needs (n.Content sorts.Type) = refl
part_needs (n.Content sorts.Pattern) = refl
part_needs part = refl

pub empty_means : (part : Nonterminal) (rest : List Lexeme) (ws : List Value) → Means (Part part ∷ []) [] rest ws → ⊥
empty_means part rest ws m = needs_token 12 (Part part ∷ []) rest ws (part_needs part) m

-- a nonterminal, by the row that the next token leaves
pub part_fit : (part : Nonterminal) (made : Row) (from to : List Lexeme) (vs : List Value) → is_group part (front_terminal from) ≡ false → first_fit (rules part) (front_terminal from) ≡ Some made → ReadsRow made from to vs → Reads part from to (value_of part vs)
part_fit part made [] to vs g f r = λ rest w m. absurd (empty_means part rest (w ∷ []) m)
part_fit part made (l ∷ ls) to vs g f r = by_row part made (l ∷ ls) to vs (λ other rest ws one m. chosen_only (rules part) (terminal_at l) (rules_decided part (terminal_at l) g) made f other one (means_fits other l ls rest ws (terminal_at l) refl m) (means_may 8 other l ls rest ws (terminal_at l) refl m)) r

-- no row begins with the next token
pub part_none : (part : Nonterminal) (from to : List Lexeme) (v : Value) → first_fit (rules part) (front_terminal from) ≡ None → Reads part from to v
part_none part [] to v f rest w m = absurd (empty_means part rest (w ∷ []) m)
part_none part (l ∷ ls) to v f rest w m =
    let x : MeansView (Part part ∷ []) (l ∷ ls) rest (w ∷ []) = means_view m in
    absurd (chosen_none (rules part) (terminal_at l) f x.0 x.4 (means_fits x.0 l ls x.1 x.2 (terminal_at l) refl x.5))

-- ---- how many tokens are left
pub behind_le : (c : List Lexeme) → length (behind c) ≤ length c
behind_le [] = omega arith
behind_le (l ∷ ls) = omega arith

pub next_lt : (k : Terminal) (c : List Lexeme) → same k t.Broken ≡ false → front_terminal c ≡ k → length (behind c) < length c
next_lt k [] h e = let f : same k t.Broken ≡ true = subst (λ (x : Terminal). same k x ≡ true) (sym e) (same-refl k) in cc
next_lt k (l ∷ ls) h e = omega arith

pub next_lt_at : (k : Terminal) (c : List Lexeme) → same k t.Broken ≡ false → same k (front_terminal c) ≡ true → length (behind c) < length c
next_lt_at k c h e = next_lt k c h (front_same k c e)
