-- The tokens of a canonical text: quoted texts, labels, commas and brackets.
use Rattle.std.proofs.Common.{◌≡◌, ℕ, suc, ◌+◌, ◌<◌, true, false, List, [], ◌∷◌, ◌++◌, length, drop, take, refl, ap, ◌∙◌, arith, append_assoc, length-append}
use Rattle.std.specs.Prelude.{◌==◌, slice_index}
use Rattle.std.specs.List.{take_while}
use Rattle.std.proofs.Math.Seq.{take-append_seam, drop-append_seam, get_or-append_seam}
use Rattle.std.proofs.lemmas.List.Sums.{take_while-cons}
use Rattle.std.proofs.lemmas.Bool.Decides.{nat_tests}
use Rattle.xd_base.specs.declared.Place.{Place}
use Rattle.xd_doc.specs.Word.{is_word, is_word_start, is_word_part, are_word_parts}
use Rattle.xd_doc.specs.Document.{escaped_all}
use Rattle.xd_lex.specs.declared.Kind.{Kind}
use Rattle.xd_lex.specs.declared.Kind.TheVariants as kinds
use Rattle.xd_lex.specs.declared.Front.TheVariants as fronts
use Rattle.xd_lex.specs.Scan.{is_blank, symbol, of_text, of_word, front_of}
use Rattle.xd_lex.specs.Tokens.{Lexeme, past, tokens_from}
use Rattle.xd_lex.proofs.Escapes.{quoted-escaped}
use Rattle.xd_lex.proofs.Froms.{first, at_token}
use Rattle.std.proofs.lemmas.Bool.{and_parts}

-- a token that is spelled by xs
pub token_front : (xs rest : List ℕ) (p : Place) (k : Kind) (n : ℕ) → 0 < length xs → n ≡ length xs → first (xs ++ rest) ≡ fronts.Token k n → tokens_from 0 p (xs ++ rest) ≡ record { kind = k; text = xs; place = p } ∷ tokens_from 0 (past p xs) rest
token_front xs rest p k n l e f =
    let t : take n (xs ++ rest) ≡ xs = ap (λ (m : ℕ). take m (xs ++ rest)) e ∙ take-append_seam xs rest in
    let d : drop n (xs ++ rest) ≡ rest = ap (λ (m : ℕ). drop m (xs ++ rest)) e ∙ drop-append_seam xs rest in
    at_token (xs ++ rest) p k n (omega arith) (omega (arith, length-append xs rest)) f
    ∙ ap (λ (ys : List ℕ). record { kind = k; text = ys; place = p } ∷ tokens_from 0 (past p ys) (drop n (xs ++ rest))) t
    ∙ ap (λ (ys : List ℕ). record { kind = k; text = xs; place = p } ∷ tokens_from 0 (past p xs) ys) d

quoted_first : (s rest : List ℕ) → front_of 34 (escaped_all s ++ 34 ∷ rest) ≡ fronts.Token kinds.Text (length (escaped_all s) + 1 + 1)
unfolding front_of
quoted_first s rest = ap of_text (quoted-escaped s rest)

pub tokens-quoted : (p : Place) (s rest : List ℕ) → tokens_from 0 p ((34 ∷ escaped_all s ++ 34 ∷ []) ++ rest) ≡ record { kind = kinds.Text; text = 34 ∷ escaped_all s ++ 34 ∷ []; place = p } ∷ tokens_from 0 (past p (34 ∷ escaped_all s ++ 34 ∷ [])) rest
tokens-quoted p s rest =
    token_front (34 ∷ escaped_all s ++ 34 ∷ []) rest p kinds.Text (length (escaped_all s) + 1 + 1) (omega arith) (omega (arith, length-append (escaped_all s) (34 ∷ [])))
    (ap (λ (bs : List ℕ). front_of 34 bs) (append_assoc (escaped_all s) (34 ∷ []) rest) ∙ quoted_first s rest)

-- a word that a bracket follows
word_whole : (bs rest : List ℕ) → are_word_parts bs ≡ true → take_while is_word_part (bs ++ 91 ∷ rest) ≡ bs
word_whole [] rest h = rw take_while-cons refl
word_whole (b ∷ bs) rest h =
    let part : is_word_part b ≡ true = (and_parts (is_word_part b) (are_word_parts bs) h).0 in
    let parts : are_word_parts bs ≡ true = (and_parts (is_word_part b) (are_word_parts bs) h).1 in
    rw (take_while-cons, part) (ap (λ (xs : List ℕ). b ∷ xs) (word_whole bs rest parts))

pub start_no_blank : (b : ℕ) → is_word_start b ≡ true → is_blank b ≡ false
start_no_blank b h = grind (arith, nat_tests)

pub start_no_paren : (b : ℕ) → is_word_start b ≡ true → (b == 40) ≡ false
start_no_paren b h = grind (arith, nat_tests)

of_label : (bs : List ℕ) (n : ℕ) → slice_index bs n ≡ 91 → of_word bs n ≡ fronts.Token kinds.Label (n + 1)
of_label bs n e = rw e refl

label_first : (b : ℕ) (bs rest : List ℕ) → is_word_start b ≡ true → are_word_parts bs ≡ true → front_of b (bs ++ 91 ∷ rest) ≡ fronts.Token kinds.Label (length bs + 1 + 1)
unfolding front_of
label_first b bs rest s h =
    let n : is_blank b ≡ false = start_no_blank b s in
    let q : (b == 40) ≡ false = start_no_paren b s in
    let there : slice_index (b ∷ (bs ++ 91 ∷ rest)) (length bs + 1) ≡ 91 = (let e : length bs + 1 ≡ suc (length bs) = omega arith in rw e (get_or-append_seam bs 91 rest 0)) in
    rw (n, q, s, word_whole bs rest h) (of_label (b ∷ (bs ++ 91 ∷ rest)) (length bs + 1) there)

pub tokens-label : (p : Place) (word rest : List ℕ) → is_word word ≡ true → tokens_from 0 p ((word ++ 91 ∷ []) ++ rest) ≡ record { kind = kinds.Label; text = word ++ 91 ∷ []; place = p } ∷ tokens_from 0 (past p (word ++ 91 ∷ [])) rest
tokens-label p [] rest h = cc
tokens-label p (b ∷ bs) rest h =
    token_front (b ∷ bs ++ 91 ∷ []) rest p kinds.Label (length bs + 1 + 1) (omega arith) (omega (arith, length-append bs (91 ∷ [])))
    (ap (λ (xs : List ℕ). front_of b xs) (append_assoc bs (91 ∷ []) rest) ∙ label_first b bs rest (and_parts (is_word_start b) (are_word_parts bs) h).0 (and_parts (is_word_start b) (are_word_parts bs) h).1)

comma_first : (rest : List ℕ) → front_of 44 rest ≡ fronts.Token kinds.Comma 1
unfolding front_of symbol
comma_first rest = refl

pub tokens-comma : (p : Place) (rest : List ℕ) → tokens_from 0 p (44 ∷ rest) ≡ record { kind = kinds.Comma; text = 44 ∷ []; place = p } ∷ tokens_from 0 (past p (44 ∷ [])) rest
tokens-comma p rest = token_front (44 ∷ []) rest p kinds.Comma 1 (omega arith) refl (comma_first rest)

bracket_first : (rest : List ℕ) → front_of 93 rest ≡ fronts.Token kinds.BracketR 1
unfolding front_of symbol
bracket_first rest = refl

pub tokens-bracket_r : (p : Place) (rest : List ℕ) → tokens_from 0 p (93 ∷ rest) ≡ record { kind = kinds.BracketR; text = 93 ∷ []; place = p } ∷ tokens_from 0 (past p (93 ∷ [])) rest
tokens-bracket_r p rest = token_front (93 ∷ []) rest p kinds.BracketR 1 (omega arith) refl (bracket_first rest)

paren_first : (rest : List ℕ) → front_of 41 rest ≡ fronts.Token kinds.ParenR 1
unfolding front_of symbol
paren_first rest = refl

pub tokens-paren_r : (p : Place) (rest : List ℕ) → tokens_from 0 p (41 ∷ rest) ≡ record { kind = kinds.ParenR; text = 41 ∷ []; place = p } ∷ tokens_from 0 (past p (41 ∷ [])) rest
tokens-paren_r p rest = token_front (41 ∷ []) rest p kinds.ParenR 1 (omega arith) refl (paren_first rest)

open_first : (rest : List ℕ) → front_of 40 (41 ∷ rest) ≡ fronts.Token kinds.ParenL 1
unfolding front_of symbol
open_first rest = refl

-- `()`
pub tokens-parens : (p : Place) (rest : List ℕ) → tokens_from 0 p (40 ∷ 41 ∷ rest) ≡ record { kind = kinds.ParenL; text = 40 ∷ []; place = p } ∷ record { kind = kinds.ParenR; text = 41 ∷ []; place = past p (40 ∷ []) } ∷ tokens_from 0 (past (past p (40 ∷ [])) (41 ∷ [])) rest
tokens-parens p rest =
    token_front (40 ∷ []) (41 ∷ rest) p kinds.ParenL 1 (omega arith) refl (open_first rest)
    ∙ ap (λ (ts : List Lexeme). record { kind = kinds.ParenL; text = 40 ∷ []; place = p } ∷ ts) (tokens-paren_r (past p (40 ∷ [])) rest)
