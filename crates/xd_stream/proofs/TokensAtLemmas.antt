-- The tokens of bytes, from what stands at their front.
use Rattle.std.proofs.Common.{◌≡◌, ℕ, ◌+◌, ◌<◌, Bool, true, false, cond, List, [], ◌∷◌, ◌++◌, length, take, map, refl, ap, ◌∙◌, arith, IsUtf8, length-append}
use Rattle.std.specs.Prelude.{◌==◌}
use Rattle.std.specs.Str.{StartsWithNoChar}
use Rattle.std.specs.Str.Lossy.{utf8_valid_len}
use Rattle.std.proofs.lemmas.Bool.{eqb-true, eq-eqb, ne_eqb}
use Rattle.std.proofs.lemmas.List.{append-nil}
use Rattle.std.proofs.Math.Seq.{take-length}
use Rattle.xd_base.specs.declared.Place.{Place}
use Rattle.xd_doc.proofs.Bools.{same_tests}
use Rattle.xd_lex.specs.declared.Kind.{Kind}
use Rattle.xd_lex.specs.declared.Kind.TheVariants as kinds
use Rattle.xd_lex.specs.declared.LexFault.TheVariants.{BadCharacter}
use Rattle.xd_lex.specs.Tokens.{Lexeme, past, tokens_from}
use Rattle.xd_lex.proofs.Skipped.{past-append}
use Rattle.xd_stream.specs.Stop.{text_front, is_open, cut_off, cut_off_unless, tokens_at}
use Rattle.xd_stream.proofs.Fronts.{take_past, valid_len-append, valid_len-none, valid_len-all}

-- a text in front of bytes
pub text_front-append : (t x : List ℕ) → IsUtf8 t → text_front (t ++ x) ≡ t ++ text_front x
text_front-append t x u = ap (λ n. take n (t ++ x)) (valid_len-append t x u) ∙ take_past t x (utf8_valid_len x)

same_more : (k a b : ℕ) → (k + a == k + b) ≡ (a == b)
same_more k a b = same_tests (k + a == k + b) (a == b)
    (λ e. eq-eqb a b (let f : k + a ≡ k + b = eqb-true (k + a) (k + b) e in omega arith))
    (λ e. eq-eqb (k + a) (k + b) (ap (λ n. k + n) (eqb-true a b e)))

whole_same : (t x : List ℕ) → IsUtf8 t → (utf8_valid_len (t ++ x) == length (t ++ x)) ≡ (utf8_valid_len x == length x)
whole_same t x u =
    ap (λ n. n == length (t ++ x)) (valid_len-append t x u)
    ∙ ap (λ n. length t + utf8_valid_len x == n) (length-append t x)
    ∙ same_more (length t) (utf8_valid_len x) (length x)

-- the tokens after a text, by those of the text and of what is UTF-8 after it
pub tokens_behind : (p : Place) (t x : List ℕ) → IsUtf8 t → tokens_at p (t ++ x) ≡ cut_off_unless (utf8_valid_len x == length x) (past (past p t) (text_front x)) (tokens_from 0 p (t ++ text_front x))
tokens_behind p t x u =
    ap (λ b. cut_off_unless b (past p (text_front (t ++ x))) (tokens_from 0 p (text_front (t ++ x)))) (whole_same t x u)
    ∙ ap (λ (f : List ℕ). cut_off_unless (utf8_valid_len x == length x) (past p f) (tokens_from 0 p f)) (text_front-append t x u)
    ∙ ap (λ (q : Place). cut_off_unless (utf8_valid_len x == length x) q (tokens_from 0 p (t ++ text_front x))) (past-append p t (text_front x))

kept_first : (b : Bool) (q : Place) (y : Lexeme) (ys : List Lexeme) → is_open y.kind ≡ false → cut_off_unless b q (y ∷ ys) ≡ y ∷ cut_off_unless b q ys
kept_first true q y ys e = refl
kept_first false q y ys e = ap (λ c. cond c (record { kind = kinds.Broken BadCharacter; text = []; place = q }) y ∷ map (cut_off q) ys) e

-- a token in front
pub token_in_front : (p : Place) (t x : List ℕ) (k : Kind) → IsUtf8 t → is_open k ≡ false
    → tokens_from 0 p (t ++ text_front x) ≡ record { kind = k; text = t; place = p } ∷ tokens_from 0 (past p t) (text_front x)
    → tokens_at p (t ++ x) ≡ record { kind = k; text = t; place = p } ∷ tokens_at (past p t) x
token_in_front p t x k u o e =
    tokens_behind p t x u
    ∙ ap (cut_off_unless (utf8_valid_len x == length x) (past (past p t) (text_front x))) e
    ∙ kept_first (utf8_valid_len x == length x) (past (past p t) (text_front x)) (record { kind = k; text = t; place = p }) (tokens_from 0 (past p t) (text_front x)) o

-- a gap in front
pub gap_in_front : (p : Place) (t x : List ℕ) → IsUtf8 t → tokens_from 0 p (t ++ text_front x) ≡ tokens_from 0 (past p t) (text_front x) → tokens_at p (t ++ x) ≡ tokens_at (past p t) x
gap_in_front p t x u e = tokens_behind p t x u ∙ ap (cut_off_unless (utf8_valid_len x == length x) (past (past p t) (text_front x))) e

-- a fault in front, which isn't open
pub fault_in_front : (p : Place) (t x : List ℕ) → IsUtf8 t → tokens_from 0 p (t ++ text_front x) ≡ record { kind = kinds.Broken BadCharacter; text = []; place = p } ∷ []
    → tokens_at p (t ++ x) ≡ record { kind = kinds.Broken BadCharacter; text = []; place = p } ∷ []
fault_in_front p t x u e =
    tokens_behind p t x u
    ∙ ap (cut_off_unless (utf8_valid_len x == length x) (past (past p t) (text_front x))) e
    ∙ kept_first (utf8_valid_len x == length x) (past (past p t) (text_front x)) (record { kind = kinds.Broken BadCharacter; text = []; place = p }) [] refl ∙ none (utf8_valid_len x == length x)
  where
    none : (b : Bool) → record { kind = kinds.Broken BadCharacter; text = []; place = p } ∷ cut_off_unless b (past (past p t) (text_front x)) [] ≡ record { kind = kinds.Broken BadCharacter; text = []; place = p } ∷ []
    none true = refl
    none false = refl

-- an open token, and bytes that begin with no character
pub broken_off : (p : Place) (t x : List ℕ) (y : Lexeme) → IsUtf8 t → 0 < length x → StartsWithNoChar x → is_open y.kind ≡ true → tokens_from 0 p t ≡ y ∷ []
    → tokens_at p (t ++ x) ≡ record { kind = kinds.Broken BadCharacter; text = []; place = past p t } ∷ []
broken_off p t x y u some none o e =
    tokens_behind p t x u
    ∙ ap (λ n. cut_off_unless (n == length x) (past (past p t) (take n x)) (tokens_from 0 p (t ++ take n x))) zero_len
    ∙ ap (λ b. cut_off_unless b (past p t) (tokens_from 0 p (t ++ []))) (ne_eqb 0 (length x) (λ z. omega arith))
    ∙ ap (λ (f : List ℕ). map (cut_off (past p t)) (tokens_from 0 p f)) (append-nil t)
    ∙ ap (map (cut_off (past p t))) e
    ∙ ap (λ c. cond c (record { kind = kinds.Broken BadCharacter; text = []; place = past p t }) y ∷ []) o
  where
    zero_len : utf8_valid_len x ≡ 0
    zero_len = valid_len-none x none

-- nothing is left
pub at_end : (p : Place) (t : List ℕ) → IsUtf8 t → tokens_at p t ≡ tokens_from 0 p t
at_end p t u =
    ap (λ n. cut_off_unless (n == length t) (past p (take n t)) (tokens_from 0 p (take n t))) (valid_len-all t u)
    ∙ ap (λ b. cut_off_unless b (past p (take (length t) t)) (tokens_from 0 p (take (length t) t))) (eq-eqb (length t) (length t) refl)
    ∙ ap (tokens_from 0 p) (take-length t)
