-- What the rows of classes read.
use Rattle.std.proofs.Common.{Bool, ◌≡◌, ℕ, ◌-◌, ◌≤◌, ◌++◌, true, false, List, [], ◌∷◌, length, take, refl, sym, ap, subst, ◌∙◌, append-nil, append_assoc, arith}
use Rattle.xd_base.specs.declared.Place.{Place}
use Rattle.xd_lex.specs.Tokens.{Lexeme}
use Rattle.xd_lex.specs.Spelled.{unescaped}
use Rattle.xd_syntax.specs.Placed.{PlacedTree}
use Rattle.xd_grammar.specs.declared.grammar.Nonterminal.{Nonterminal}
use Rattle.xd_grammar.specs.declared.grammar.Nonterminal.TheVariants as n
use Rattle.xd_grammar.specs.declared.grammar.Sort.{Sort}
use Rattle.xd_parse_trees.specs.declared.classes.Excepted.{Excepted}
use Rattle.xd_parse_trees.specs.declared.classes.Excepted.TheVariants.{Texts, Labels}
use Rattle.xd_grammar.specs.declared.grammar.Symbol.TheVariants.{Token, Opening, Closed, Unless, Part}
use Rattle.xd_grammar.specs.declared.grammar.Terminal.{Terminal}
use Rattle.xd_grammar.specs.declared.grammar.Terminal.TheVariants as t
use Rattle.xd_grammar.specs.Fits.{same}
use Rattle.xd_parse_trees.specs.Merged.{class_of}
use Rattle.xd_grammar.proofs.Derive.{same-true}
use Rattle.xd_parse_trees.specs.Values.{Value, mark, a_text, a_tree, names, labels, class, texts, labelled, value_of}
use Rattle.xd_parse_trees.specs.Reading.{Reads, ReadsListed, ReadsTexts, ReadsExcepted, front_terminal, front_place, front_text, behind, any_text}
use Rattle.xd_parse_trees.proofs.Rows.{ReadsRow, row_end, row_token, row_token_where, row_opening, row_closed, row_unless, row_part, part_one, part_fit, part_none, front_same, behind_le}

abbrev IsAnyWord : (k : Terminal) (from : List Lexeme) (s : List ℕ) → Type 0
IsAnyWord k from s = front_terminal from ≡ k → (k ≡ t.Word → s ≡ front_text from) → Reads n.AnyWord from (behind from) (names (any_text k s ∷ []))

-- a word or a keyword
pub any_word_reads : (k : Terminal) (from : List Lexeme) (s : List ℕ) → IsAnyWord k from s
any_word_reads t.Word from s e h = rw (h refl) (part_fit n.AnyWord (Token t.Word ∷ []) from (behind from) _ refl (rw e refl) (row_token t.Word [] from (behind from) [] (row_end (behind from))))
any_word_reads t.Type from s e h = part_fit n.AnyWord (Token t.Type ∷ []) from (behind from) _ refl (rw e refl) (row_token t.Type [] from (behind from) [] (row_end (behind from)))
any_word_reads t.Fun from s e h = part_fit n.AnyWord (Token t.Fun ∷ []) from (behind from) _ refl (rw e refl) (row_token t.Fun [] from (behind from) [] (row_end (behind from)))
any_word_reads t.Val from s e h = part_fit n.AnyWord (Token t.Val ∷ []) from (behind from) _ refl (rw e refl) (row_token t.Val [] from (behind from) [] (row_end (behind from)))
any_word_reads t.As from s e h = part_fit n.AnyWord (Token t.As ∷ []) from (behind from) _ refl (rw e refl) (row_token t.As [] from (behind from) [] (row_end (behind from)))
any_word_reads t.Match from s e h = part_fit n.AnyWord (Token t.Match ∷ []) from (behind from) _ refl (rw e refl) (row_token t.Match [] from (behind from) [] (row_end (behind from)))
any_word_reads t.With from s e h = part_fit n.AnyWord (Token t.With ∷ []) from (behind from) _ refl (rw e refl) (row_token t.With [] from (behind from) [] (row_end (behind from)))
any_word_reads k from s e h = part_none n.AnyWord from (behind from) _ (rw e refl)

-- ---- lists, with bars between what they name

-- What was read of a list, from its first part on: what the nonterminal of its rest reads from here
-- it reads from the start, after that.
pub record SoFar (rest : Nonterminal) (made : List (List ℕ) → Value) (from now : List Lexeme) (first all : List (List ℕ)) : Type 0 where
  pub more : List (List ℕ)
  pub split : all ≡ first ++ more
  pub reads : (to : List Lexeme) (ws : List (List ℕ)) → Reads rest now to (made ws) → Reads rest from to (made (more ++ ws))
  pub fewer : length now ≤ length from

list_more : (rest : Nonterminal) (made : List (List ℕ) → Value) (from now later : List Lexeme) (first all : List (List ℕ)) (w : List ℕ) → SoFar rest made from now first all → later ≡ behind (behind now) →
    ((to : List Lexeme) (ws : List (List ℕ)) → Reads rest later to (made ws) → Reads rest now to (made (w ∷ ws))) → SoFar rest made from later first (all ++ w ∷ [])
list_more rest made from now later first all w s g one = record {
  more = s.more ++ w ∷ [];
  split = ap (λ xs. xs ++ w ∷ []) s.split ∙ append_assoc first s.more (w ∷ []);
  reads = λ to ws r. rw (append_assoc s.more (w ∷ []) ws) (s.reads to (w ∷ ws) (one to ws r));
  fewer = let a = behind_le now in let b = behind_le (behind now) in let c = s.fewer in rw g (omega arith);
}

list_done : (rest : Nonterminal) (made : List (List ℕ) → Value) (from now : List Lexeme) (first all : List (List ℕ)) (s : SoFar rest made from now first all) → Reads rest now now (made []) → Reads rest from now (made s.more)
list_done rest made from now first all s r = subst (λ xs. Reads rest from now (made xs)) (append-nil s.more) (s.reads now [] r)

-- ---- words
more_names_reads : (now later to : List Lexeme) (w : List ℕ) (ws : List (List ℕ)) → same t.Bar (front_terminal now) ≡ true → Reads n.AnyWord (behind now) later (names (w ∷ [])) → Reads n.MoreNames later to (names ws) → Reads n.MoreNames now to (names (w ∷ ws))
more_names_reads now later to w ws e one r =
    part_fit n.MoreNames (Token t.Bar ∷ Part n.AnyWord ∷ Part n.MoreNames ∷ []) now to _ refl (rw e refl)
    (row_token t.Bar (Part n.AnyWord ∷ Part n.MoreNames ∷ []) now to _
    (row_part n.AnyWord (Part n.MoreNames ∷ []) (behind now) later to _ _ one
    (row_part n.MoreNames [] later to to _ _ r (row_end to))))

pub names_more : (from now later : List Lexeme) (first all : List (List ℕ)) (w : List ℕ) → SoFar n.MoreNames names from now first all → same t.Bar (front_terminal now) ≡ true → later ≡ behind (behind now) → Reads n.AnyWord (behind now) later (names (w ∷ [])) →
    SoFar n.MoreNames names from later first (all ++ w ∷ [])
names_more from now later first all w s e g one = list_more n.MoreNames names from now later first all w s g (λ to ws r. more_names_reads now later to w ws e one r)

no_more_names : (now : List Lexeme) → same t.Bar (front_terminal now) ≡ false → Reads n.MoreNames now now (names [])
no_more_names now e = part_fit n.MoreNames (Unless t.Bar ∷ []) now now _ refl (rw e refl) (row_unless t.Bar [] now now [] (row_end now))

pub names_done : (start from now : List Lexeme) (w : List ℕ) (first all : List (List ℕ)) → Reads n.AnyWord start from (names (w ∷ [])) → first ≡ w ∷ [] → SoFar n.MoreNames names from now first all → same t.Bar (front_terminal now) ≡ false → ReadsListed start now all
names_done start from now w first all one f s e = record {
  now = from;
  word = w;
  more = s.more;
  first = one;
  others = list_done n.MoreNames names from now first all s (no_more_names now e);
  are = s.split ∙ ap (λ xs. xs ++ s.more) f;
}

pub names_reads : (start now : List Lexeme) (all : List (List ℕ)) → ReadsListed (behind start) now all → Reads n.Names start (behind now) (labels (front_place start) all)
names_reads start now all s =
    rw s.are (part_one n.Names (Opening t.ParenL ∷ Part n.AnyWord ∷ Part n.MoreNames ∷ Token t.ParenR ∷ Closed ∷ []) start (behind now) _ refl
    (row_opening t.ParenL (Part n.AnyWord ∷ Part n.MoreNames ∷ Token t.ParenR ∷ Closed ∷ []) start (behind now) _
    (row_part n.AnyWord (Part n.MoreNames ∷ Token t.ParenR ∷ Closed ∷ []) (behind start) s.now (behind now) _ _ s.first
    (row_part n.MoreNames (Token t.ParenR ∷ Closed ∷ []) s.now now (behind now) _ _ s.others
    (row_token t.ParenR (Closed ∷ []) now (behind now) _ (row_closed [] (behind now) (behind now) [] (row_end (behind now))))))))

-- ---- texts
more_texts_reads : (now to : List Lexeme) (x : List ℕ) (ws : List (List ℕ)) → same t.Bar (front_terminal now) ≡ true → (front_terminal (behind now) ≡ t.Text → x ≡ unescaped (front_text (behind now))) → Reads n.MoreTexts (behind (behind now)) to (texts ws) →
    Reads n.MoreTexts now to (texts (x ∷ ws))
more_texts_reads now to x ws e h r =
    part_fit n.MoreTexts (Token t.Bar ∷ Token t.Text ∷ Part n.MoreTexts ∷ []) now to _ refl (rw e refl)
    (row_token t.Bar (Token t.Text ∷ Part n.MoreTexts ∷ []) now to _
    (row_token_where t.Text (Part n.MoreTexts ∷ []) (behind now) to _
    (λ k. subst (λ (y : List ℕ). ReadsRow (Token t.Text ∷ Part n.MoreTexts ∷ []) (behind now) to (a_text y (front_place (behind now)) ∷ (texts ws ∷ []))) (sym (h k))
    (row_token t.Text (Part n.MoreTexts ∷ []) (behind now) to _ (row_part n.MoreTexts [] (behind (behind now)) to to _ _ r (row_end to))))))

pub texts_more : (from now next later : List Lexeme) (first all : List (List ℕ)) (x : List ℕ) → SoFar n.MoreTexts texts from now first all → same t.Bar (front_terminal now) ≡ true → next ≡ behind now → (front_terminal next ≡ t.Text → x ≡ unescaped (front_text next)) →
    later ≡ behind next → SoFar n.MoreTexts texts from later first (all ++ x ∷ [])
texts_more from now next later first all x s e f h g =
    list_more n.MoreTexts texts from now later first all x s (g ∙ ap behind f)
    (λ to ws r. more_texts_reads now to x ws e (λ k. h (ap front_terminal f ∙ k) ∙ ap (λ (y : List Lexeme). unescaped (front_text y)) f) (subst (λ (y : List Lexeme). Reads n.MoreTexts y to (texts ws)) (g ∙ ap behind f) r))

no_more_texts : (now : List Lexeme) → same t.Bar (front_terminal now) ≡ false → Reads n.MoreTexts now now (texts [])
no_more_texts now e = part_fit n.MoreTexts (Unless t.Bar ∷ []) now now _ refl (rw e refl) (row_unless t.Bar [] now now [] (row_end now))

pub texts_done : (start from now : List Lexeme) (x : List ℕ) (first all : List (List ℕ)) → x ≡ unescaped (front_text start) → from ≡ behind start → first ≡ x ∷ [] → SoFar n.MoreTexts texts from now first all → same t.Bar (front_terminal now) ≡ false → ReadsTexts start now all
texts_done start from now x first all h g f s e = record {
  more = s.more;
  others = subst (λ (y : List Lexeme). Reads n.MoreTexts y now (texts s.more)) g (list_done n.MoreTexts texts from now first all s (no_more_texts now e));
  are = s.split ∙ ap (λ xs. xs ++ s.more) (f ∙ ap (λ (y : List ℕ). y ∷ []) h);
}

-- ---- after a `^`
pub excepted_text_reads : (s : Sort) (from : List Lexeme) (x : List ℕ) → same t.Text (front_terminal from) ≡ true → (front_terminal from ≡ t.Text → x ≡ unescaped (front_text from)) → Reads (n.Excepted s) from (behind from) (texts (x ∷ []))
excepted_text_reads s from x e h =
    rw (h (front_same t.Text from e)) (part_fit (n.Excepted s) (Token t.Text ∷ []) from (behind from) _ refl (rw e refl) (row_token t.Text [] from (behind from) [] (row_end (behind from))))

pub excepted_label_reads : (s : Sort) (from to : List Lexeme) (w : List ℕ) (T : PlacedTree) → same t.Text (front_terminal from) ≡ false → same t.Label (front_terminal from) ≡ true →
    (front_terminal from ≡ t.Label → w ≡ take (length (front_text from) - 1) (front_text from)) → Reads (n.Content s) (behind from) to (a_tree T) → Reads (n.Excepted s) from to (labelled (w ∷ []) T)
excepted_label_reads s from to w T f e h r =
    rw (h (front_same t.Label from e))
    (part_fit (n.Excepted s) (Opening t.Label ∷ Part (n.Content s) ∷ []) from to _ refl (rw (f, e) refl) (row_opening t.Label _ from to _ (row_part (n.Content s) [] (behind from) to to _ _ r (row_end to))))

list_reads : (s : Sort) (from to : List Lexeme) (v : Value) → same t.Text (front_terminal from) ≡ false → same t.Label (front_terminal from) ≡ false → Reads (n.ExceptedList s) (behind from) to v →
    value_of (n.Excepted s) (mark t.ParenL (front_place from) ∷ (v ∷ [])) ≡ v → Reads (n.Excepted s) from to v
list_reads s from to v f g r m = go (same t.ParenL (front_terminal from)) refl
  where
    go : (b : Bool) → same t.ParenL (front_terminal from) ≡ b → Reads (n.Excepted s) from to v
    go true e = subst (Reads (n.Excepted s) from to) m
        (part_fit (n.Excepted s) (Opening t.ParenL ∷ Part (n.ExceptedList s) ∷ []) from to _ refl (rw (f, g, e) refl) (row_opening t.ParenL _ from to _ (row_part (n.ExceptedList s) [] (behind from) to to _ _ r (row_end to))))
    go false e = part_none (n.Excepted s) from to v (rw (f, g, e) refl)

pub excepted_list_reads : (from next here : List Lexeme) (e : Excepted) → same t.Text (front_terminal from) ≡ false → same t.Label (front_terminal from) ≡ false → next ≡ behind from → ReadsExcepted n.ExceptedList next here e → ReadsExcepted n.Excepted from here e
excepted_list_reads from next here (Texts ts) f g b r = λ s. list_reads s from here (texts ts.items) f g (subst (λ (x : List Lexeme). Reads (n.ExceptedList s) x here (texts ts.items)) b (r s)) refl
excepted_list_reads from next here (Labels ws) f g b r =
    λ s to T q. list_reads s from to (labelled ws.items T) f g (subst (λ (x : List Lexeme). Reads (n.ExceptedList s) x to (labelled ws.items T)) b (r s to T q)) refl

pub listed_texts_read : (s : Sort) (from now to : List Lexeme) (all : List (List ℕ)) → same t.Text (front_terminal from) ≡ true → ReadsTexts from now all → to ≡ behind now → Reads (n.ExceptedList s) from to (texts all)
listed_texts_read s from now to all e l b =
    rw (l.are, b) (part_fit (n.ExceptedList s) (Token t.Text ∷ Part n.MoreTexts ∷ Token t.ParenR ∷ Closed ∷ []) from (behind now) _ refl (rw e refl)
    (row_token t.Text _ from (behind now) _ (row_part n.MoreTexts _ (behind from) now (behind now) _ _ l.others
    (row_token t.ParenR (Closed ∷ []) now (behind now) _ (row_closed [] (behind now) (behind now) [] (row_end (behind now)))))))

pub listed_labels_read : (s : Sort) (from now next here to : List Lexeme) (all : List (List ℕ)) (T : PlacedTree) → same t.Text (front_terminal from) ≡ false → ReadsListed from now all → next ≡ behind now → here ≡ behind next →
    Reads (n.Content s) here to (a_tree T) → Reads (n.ExceptedList s) from to (labelled all T)
listed_labels_read s from now next here to all T e l b c q =
    rw l.are (part_fit (n.ExceptedList s) (Part n.AnyWord ∷ Part n.MoreNames ∷ Token t.ParenR ∷ Closed ∷ Opening t.BracketL ∷ Part (n.Content s) ∷ []) from to _ refl (rw e refl)
    (row_part n.AnyWord _ from l.now to _ _ l.first (row_part n.MoreNames _ l.now now to _ _ l.others
    (row_token t.ParenR _ now to _ (row_closed _ (behind now) to _ (row_opening t.BracketL _ (behind now) to _
    (row_part (n.Content s) [] (behind (behind now)) to to _ _ (subst (λ (x : List Lexeme). Reads (n.Content s) x to (a_tree T)) (c ∙ ap behind b) q) (row_end to))))))))

-- ---- labels and classes

pub label_reads : (from : List Lexeme) (w : List ℕ) (p : Place) → same t.Label (front_terminal from) ≡ true → (front_terminal from ≡ t.Label → w ≡ take (length (front_text from) - 1) (front_text from)) → p ≡ front_place from → Reads n.Labels from (behind from) (labels p (w ∷ []))
label_reads from w p e h q =
    rw (q, h (sym (same-true t.Label (front_terminal from) e)))
    (part_fit n.Labels (Opening t.Label ∷ []) from (behind from) _ refl (rw e refl) (row_opening t.Label [] from (behind from) [] (row_end (behind from))))

pub listed_reads : (from now : List Lexeme) (p : Place) (ws : List (List ℕ)) → same t.Label (front_terminal from) ≡ false → Reads n.Names from now (labels p ws) → Reads n.Labels from (behind now) (labels p ws)
listed_reads from now p ws e r =
    part_fit n.Labels (Part n.Names ∷ Opening t.BracketL ∷ []) from (behind now) _ refl (rw e refl)
    (row_part n.Names (Opening t.BracketL ∷ []) from now (behind now) _ _ r (row_opening t.BracketL [] now (behind now) [] (row_end (behind now))))

pub all_labels_reads : (from : List Lexeme) → same t.Tilde (front_terminal from) ≡ true → Reads n.Class from (behind (behind from)) (class (front_place from) (class_of true []))
all_labels_reads from e =
    part_fit n.Class (Token t.Tilde ∷ Opening t.BracketL ∷ []) from (behind (behind from)) _ refl (rw e refl)
    (row_token t.Tilde (Opening t.BracketL ∷ []) from (behind (behind from)) _ (row_opening t.BracketL [] (behind from) (behind (behind from)) [] (row_end (behind (behind from)))))

pub these_reads : (from to : List Lexeme) (p : Place) (ws : List (List ℕ)) → same t.Tilde (front_terminal from) ≡ false → Reads n.Labels from to (labels p ws) → Reads n.Class from to (class p (class_of false ws))
these_reads from to p ws f r =
    part_fit n.Class (Part n.Labels ∷ []) from to _ refl (rw f refl) (row_part n.Labels [] from to to _ _ r (row_end to))
