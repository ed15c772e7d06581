-- Parts of the text that is read.
use Rattle.std.proofs.Common.{◌≡◌, ◌≤◌, ◌<◌, ◌+◌, ◌-◌, ℕ, List, [], ◌∷◌, ◌++◌, true, length, take, drop, get_or, refl, sym, ap, subst, ◌∙◌, arith, length-append, length-drop}
use Rattle.std.specs.Prelude.{slice_range}
use Rattle.std.specs.Str.{IsCharBoundary}
use Rattle.std.proofs.lemmas.List.{drop-drop, drop_at, take-append-le, drop-append-le, take_at, get_or-drop, get_or_at, get_or_append_left}
use Rattle.std.proofs.lemmas.Str.{IsCharBoundary-after_ascii, IsCharBoundary-before_ascii}
use Rattle.std.proofs.lemmas.Bool.{and_parts}
use Rattle.xd_doc.specs.Word.{is_word, is_word_start, are_word_parts}
use Rattle.xd_lex.specs.declared.Kind.TheVariants as kinds
use Rattle.xd_lex.specs.Spellings.{IsSpelling}
use Rattle.xd_lex.proofs.Fronts.{begins_ascii}
use Rattle.xd_read.specs.Pending.{StandsAt}
use Rattle.xd_read.specs.Reading.{word_of}

from_there : (whole : List ℕ) (at : ℕ) (part : List ℕ) (s : StandsAt whole at part) → drop at whole ≡ part ++ s.behind
from_there whole at part s = rw (← s.place) (rw s.split (drop_at s.before (part ++ s.behind) _ refl))

pub within : (whole : List ℕ) (at : ℕ) (part : List ℕ) → StandsAt whole at part → at + length part ≤ length whole
within whole at part s = omega (arith, ap length s.split, length-append s.before (part ++ s.behind), length-append part s.behind, s.place)

-- a range of the part is one of the whole
range_there : (whole : List ℕ) (at : ℕ) (part : List ℕ) (from to : ℕ) → StandsAt whole at part → from ≤ to → to ≤ length part → slice_range whole (at + from) (at + to) ≡ slice_range part from to
range_there whole at part from to s h l =
    let short : (at + to) - (at + from) ≡ to - from = omega arith in
    let there : drop (at + from) whole ≡ drop from part ++ s.behind = sym (drop-drop from at whole) ∙ ap (drop from) (from_there whole at part s) ∙ drop-append-le from part s.behind (omega arith) in
    rw (short, there) (take-append-le (to - from) (drop from part) s.behind (omega (arith, length-drop from part)))

-- a byte of the part is one of the whole
byte_there : (whole : List ℕ) (at : ℕ) (part : List ℕ) (k : ℕ) → StandsAt whole at part → k < length part → get_or whole (at + k) 0 ≡ get_or part k 0
byte_there whole at part k s h = sym (get_or-drop at whole k 0) ∙ ap (λ (xs : List ℕ). get_or xs k 0) (from_there whole at part s) ∙ get_or_append_left part s.behind 0 k h

-- the whole may be cut before an ASCII byte of the part, and after it
before_byte : (whole : List ℕ) (at : ℕ) (part : List ℕ) (k : ℕ) → StandsAt whole at part → k < length part → get_or part k 0 < 128 → IsCharBoundary whole (at + k)
before_byte whole at part k s h lt =
    let same : get_or whole (at + k) 0 ≡ get_or part k 0 = byte_there whole at part k s h in
    IsCharBoundary-before_ascii whole (at + k) (omega (arith, within whole at part s)) (omega arith)

behind_byte : (whole : List ℕ) (at : ℕ) (part : List ℕ) (k : ℕ) → StandsAt whole at part → k < length part → get_or part k 0 < 128 → IsCharBoundary whole (at + k + 1)
behind_byte whole at part k s h lt =
    let same : get_or whole (at + k) 0 ≡ get_or part k 0 = byte_there whole at part k s h in
    IsCharBoundary-after_ascii whole (at + k) s.utf8 (omega (arith, within whole at part s)) (omega arith)

-- what stands between the quotes of a text
pub record IsInside (whole : List ℕ) (at : ℕ) (token : List ℕ) : Type 0 where
  pub order : at + 1 ≤ at + length token - 1
  pub start : IsCharBoundary whole (at + 1)
  pub end : IsCharBoundary whole (at + length token - 1)
  pub same : slice_range whole (at + 1) (at + length token - 1) ≡ slice_range token 1 (length token - 1)

pub inside_quotes : (whole : List ℕ) (at : ℕ) (token : List ℕ) → StandsAt whole at token → IsSpelling kinds.Text token → IsInside whole at token
inside_quotes whole at token s (pieces, h, e) =
    let len : length token ≡ length pieces + 2 = omega (arith, ap length e, length-append pieces (34 ∷ [])) in
    let last : at + length token - 1 ≡ at + (length token - 1) = omega arith in
    let first_quote : get_or token 0 0 ≡ 34 = ap (λ (xs : List ℕ). get_or xs 0 0) e in
    let last_quote : get_or token (length token - 1) 0 ≡ 34 = ap (λ (xs : List ℕ). get_or xs (length token - 1) 0) e ∙ get_or_at (34 ∷ pieces) 34 [] 0 (length token - 1) (omega arith) in
    let zero_more : at + 0 + 1 ≡ at + 1 = omega arith in
    record {
      order = omega arith;
      start = subst (λ n. IsCharBoundary whole n) zero_more (behind_byte whole at token 0 s (omega arith) (omega arith));
      end = rw last (before_byte whole at token (length token - 1) s (omega arith) (omega arith));
      same = rw last (range_there whole at token 1 (length token - 1) s (omega arith) (omega arith));
    }

-- a word before its bracket
pub record IsWordThere (whole : List ℕ) (at : ℕ) (token : List ℕ) : Type 0 where
  pub order : at ≤ at + length token - 1
  pub start : IsCharBoundary whole at
  pub end : IsCharBoundary whole (at + length token - 1)
  pub same : slice_range whole at (at + length token - 1) ≡ word_of token
  pub word : is_word (word_of token) ≡ true

starts_ascii : (word : List ℕ) → is_word word ≡ true → (0 < length word) × (get_or word 0 0 < 128)
starts_ascii [] h = cc
starts_ascii (c ∷ cs) h = (omega arith, begins_ascii c (and_parts (is_word_start c) (are_word_parts cs) h).0)

pub word_there : (whole : List ℕ) (at : ℕ) (token : List ℕ) → StandsAt whole at token → IsSpelling kinds.Label token → IsWordThere whole at token
word_there whole at token s (word, h, e) =
    let len : length token ≡ length word + 1 = omega (arith, ap length e, length-append word (91 ∷ [])) in
    let last : at + length token - 1 ≡ at + (length token - 1) = omega arith in
    let none : at + 0 ≡ at = omega arith in
    let all : length token - 1 - 0 ≡ length token - 1 = omega arith in
    let ascii = starts_ascii word h in
    let first_byte : get_or token 0 0 ≡ get_or word 0 0 = ap (λ (xs : List ℕ). get_or xs 0 0) e ∙ get_or_append_left word (91 ∷ []) 0 0 ascii.0 in
    let bracket : get_or token (length token - 1) 0 ≡ 91 = ap (λ (xs : List ℕ). get_or xs (length token - 1) 0) e ∙ get_or_at word 91 [] 0 (length token - 1) (omega arith) in
    let taken : word_of token ≡ word = rw e (take_at word (91 ∷ []) _ (omega (arith, length-append word (91 ∷ [])))) in
    record {
      order = omega arith;
      start = subst (λ n. IsCharBoundary whole n) none (before_byte whole at token 0 s (omega arith) (omega (arith, ascii.1)));
      end = rw last (before_byte whole at token (length token - 1) s (omega arith) (omega arith));
      same = rw last (subst (λ n. slice_range whole n (at + (length token - 1)) ≡ slice_range token 0 (length token - 1)) none (range_there whole at token 0 (length token - 1) s (omega arith) (omega arith)) ∙ ap (λ (n : ℕ). take n token) all);
      word = rw taken h;
    }
