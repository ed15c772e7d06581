-- Symbols and words in front of a text.
use Rattle.std.proofs.Common.{◌≡◌, ℕ, suc, ◌+◌, true, false, List, [], ◌∷◌, ◌++◌, length, get_or, refl, ap, ◌∙◌, arith}
use Rattle.std.specs.Prelude.{◌==◌, slice_index}
use Rattle.std.specs.List.{take_while}
use Rattle.std.proofs.lemmas.List.Sums.{take_while-cons}
use Rattle.std.proofs.lemmas.Bool.{and_parts}
use Rattle.xd_base.specs.declared.Place.{Place}
use Rattle.xd_doc.specs.Word.{is_word, is_word_start, is_word_part, are_word_parts}
use Rattle.xd_lex.specs.declared.Kind.{Kind}
use Rattle.xd_lex.specs.declared.Kind.TheVariants as kinds
use Rattle.xd_lex.specs.declared.Front.TheVariants as fronts
use Rattle.xd_lex.specs.Scan.{is_blank, symbol, of_word, front_of}
use Rattle.xd_lex.specs.Tokens.{past, tokens_from}
use Rattle.xd_lex.proofs.Canonical.{token_front, tokens-comma, tokens-bracket_r, tokens-paren_r, start_no_blank, start_no_paren}

-- the token of these bytes, of this kind, stands in front of what follows
abbrev pub IsToken : Kind → List ℕ → List ℕ → Type 0
IsToken k x rest = (p : Place) → tokens_from 0 p (x ++ rest) ≡ record { kind = k; text = x; place = p } ∷ tokens_from 0 (past p x) rest

one_byte : (c : ℕ) (k : Kind) (rest : List ℕ) → front_of c rest ≡ fronts.Token k 1 → IsToken k (c ∷ []) rest
one_byte c k rest e p = token_front (c ∷ []) rest p k 1 (omega arith) refl e

pub paren_r : (rest : List ℕ) → IsToken kinds.ParenR (41 ∷ []) rest
paren_r rest = λ p. tokens-paren_r p rest

pub bracket_l : (rest : List ℕ) → IsToken kinds.BracketL (91 ∷ []) rest
unfolding front_of symbol
bracket_l rest = one_byte 91 kinds.BracketL rest refl

pub bracket_r : (rest : List ℕ) → IsToken kinds.BracketR (93 ∷ []) rest
bracket_r rest = λ p. tokens-bracket_r p rest

pub comma : (rest : List ℕ) → IsToken kinds.Comma (44 ∷ []) rest
comma rest = λ p. tokens-comma p rest

pub bar : (rest : List ℕ) → IsToken kinds.Bar (124 ∷ []) rest
unfolding front_of symbol
bar rest = one_byte 124 kinds.Bar rest refl

pub star : (rest : List ℕ) → IsToken kinds.Star (42 ∷ []) rest
unfolding front_of symbol
star rest = one_byte 42 kinds.Star rest refl

pub plus : (rest : List ℕ) → IsToken kinds.Plus (43 ∷ []) rest
unfolding front_of symbol
plus rest = one_byte 43 kinds.Plus rest refl

pub query : (rest : List ℕ) → IsToken kinds.Query (63 ∷ []) rest
unfolding front_of symbol
query rest = one_byte 63 kinds.Query rest refl

pub tilde : (rest : List ℕ) → IsToken kinds.Tilde (126 ∷ []) rest
unfolding front_of symbol
tilde rest = one_byte 126 kinds.Tilde rest refl

pub caret : (rest : List ℕ) → IsToken kinds.Caret (94 ∷ []) rest
unfolding front_of symbol
caret rest = one_byte 94 kinds.Caret rest refl

open_front : (rest : List ℕ) → (slice_index rest 0 == 42) ≡ false → front_of 40 rest ≡ fronts.Token kinds.ParenL 1
unfolding front_of symbol
open_front rest h = rw h refl

pub paren_l : (rest : List ℕ) → (slice_index rest 0 == 42) ≡ false → IsToken kinds.ParenL (40 ∷ []) rest
paren_l rest h = one_byte 40 kinds.ParenL rest (open_front rest h)

-- ---- a word that ends where neither a word nor a label goes on
pub record EndsWord (rest : List ℕ) : Type 0 where
  pub no_part : is_word_part (get_or rest 0 0) ≡ false
  pub no_bracket : (get_or rest 0 0 == 91) ≡ false

word_whole : (bs rest : List ℕ) → are_word_parts bs ≡ true → is_word_part (get_or rest 0 0) ≡ false → take_while is_word_part (bs ++ rest) ≡ bs
word_whole [] [] h e = refl
word_whole [] (c ∷ rest) h e = rw (take_while-cons, e) refl
word_whole (b ∷ bs) rest h e =
    let r = and_parts (is_word_part b) (are_word_parts bs) h in
    rw (take_while-cons, r.0) (ap (λ xs. b ∷ xs) (word_whole bs rest r.1 e))

behind_word : (bs rest : List ℕ) → slice_index (bs ++ rest) (length bs) ≡ get_or rest 0 0
behind_word [] rest = refl
behind_word (b ∷ bs) rest = behind_word bs rest

of_plain : (bs : List ℕ) (n : ℕ) → (slice_index bs n == 91) ≡ false → of_word bs n ≡ fronts.Token kinds.Word n
of_plain bs n e = rw e refl

word_first : (b : ℕ) (bs rest : List ℕ) → is_word_start b ≡ true → are_word_parts bs ≡ true → EndsWord rest → front_of b (bs ++ rest) ≡ fronts.Token kinds.Word (length bs + 1)
unfolding front_of
word_first b bs rest s h e =
    let n : is_blank b ≡ false = start_no_blank b s in
    let q : (b == 40) ≡ false = start_no_paren b s in
    let at : slice_index (b ∷ (bs ++ rest)) (length bs + 1) ≡ get_or rest 0 0 = (let f : length bs + 1 ≡ suc (length bs) = omega arith in rw f (behind_word bs rest)) in
    let there : (slice_index (b ∷ (bs ++ rest)) (length bs + 1) == 91) ≡ false = ap (λ c. c == 91) at ∙ e.no_bracket in
    rw (n, q, s, word_whole bs rest h e.no_part) (of_plain (b ∷ (bs ++ rest)) (length bs + 1) there)

pub a_word : (w rest : List ℕ) → is_word w ≡ true → EndsWord rest → IsToken kinds.Word w rest
a_word [] rest h e p = absurd (cc)
a_word (b ∷ bs) rest h e p =
    let r = and_parts (is_word_start b) (are_word_parts bs) h in
    token_front (b ∷ bs) rest p kinds.Word (length bs + 1) (omega arith) (omega arith) (word_first b bs rest r.0 r.1 e)
