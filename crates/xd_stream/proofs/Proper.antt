-- A document that bytes spell has words as labels and UTF-8 texts.
use Rattle.std.proofs.Common.{◌≡◌, inl, inr, ℕ, ◌+◌, ◌<◌, true, List, [], ◌∷◌, ◌++◌, length, get_or, refl, sym, ap, subst, ◌∙◌, arith, IsUtf8, append_assoc, length-append}
use Rattle.std.specs.Prelude.{◌&&◌}
use Rattle.std.specs.List.{AllByRecursion}
use Rattle.std.specs.Str.{IsCharBoundary, is_utf8}
use Rattle.std.proofs.lemmas.Bool.{and_from, and_parts}
use Rattle.std.proofs.Math.Seq.{drop-append_seam, take-append_seam}
use Rattle.std.proofs.lemmas.Str.{IsCharBoundary-after_ascii, IsUtf8-drop, IsUtf8-take}
use Rattle.xd_base.specs.declared.Place.{Place}
use Rattle.xd_doc.specs.Document.{Document, empty, text, element, is_proper}
use Rattle.xd_doc.specs.Word.{are_word_parts, is_word, is_word_part, is_word_start}
use Rattle.xd_lex.specs.declared.Kind.{Kind}
use Rattle.xd_lex.specs.declared.Kind.TheVariants as kinds
use Rattle.xd_lex.specs.Spellings.{IsSpelling}
use Rattle.xd_lex.specs.Spelled.{unescaped}
use Rattle.xd_lex.specs.Reading.{IsGap, Reads, blank, broken, comment, end, gap, token}
use Rattle.xd_lex.specs.Tokens.{Lexeme, past, start, tokens_of}
use Rattle.xd_lex.proofs.Fronts.{begins_ascii, word_ascii, blank_ascii}
use Rattle.xd_lex.proofs.ReadLemmas.{tokens_are_read}
use Rattle.xd_read.specs.Grammar.{Context, Whole, Content, Behind, Items, Lead, NoItems, Terminal, QuotedText, Label, BracketR, End}
use Rattle.xd_read.specs.Reading.{terminal, terminals_of, word_of}
use Rattle.xd_read.proofs.CanonicalSpells.{word_of-label}
use Rattle.xd_stream.specs.Laws.{SpelledIsProper}
use Rattle.xd_stream.proofs.QuotedTexts.{unescaped_utf8}

-- a label is a word, and a text is UTF-8
abbrev IsProperTerminal : Terminal → Type 0
IsProperTerminal (QuotedText t) = is_utf8 t ≡ true
IsProperTerminal (Label l) = is_word l ≡ true
IsProperTerminal t = Unit {0}

abbrev AreProperTerminals : List Terminal → Type 0
AreProperTerminals ts = AllByRecursion IsProperTerminal ts

-- ---- tokens

proper_token : (k : Kind) (t : List ℕ) → IsSpelling k t → IsUtf8 t → IsProperTerminal (terminal k t)
proper_token kinds.Text t s u = subst (λ (xs : List ℕ). is_utf8 (unescaped xs) ≡ true) (sym s.2) (unescaped_utf8 (s.0 ++ 34 ∷ []) (subst IsUtf8 s.2 u))
proper_token kinds.Label t s u = subst (λ (xs : List ℕ). is_word (word_of xs) ≡ true) (sym s.2) (subst (λ (xs : List ℕ). is_word xs ≡ true) (sym (word_of-label s.0)) s.1)
proper_token k t s u = tt

-- the last byte is ASCII
record EndsAscii (xs : List ℕ) : Type 0 where
  front : List ℕ
  last : ℕ
  ascii : last < 128
  parts : xs ≡ front ++ last ∷ []

record AreBoth (xs ys : List ℕ) : Type 0 where
  one : IsUtf8 xs
  two : IsUtf8 ys

cut_at : (ys : List ℕ) (b : ℕ) (rest : List ℕ) → b < 128 → IsUtf8 ((ys ++ b ∷ []) ++ rest) → AreBoth (ys ++ b ∷ []) rest
cut_at ys b rest lt u =
    let xs : List ℕ = ys ++ b ∷ [] in
    let n : ℕ = length ys in
    let long : length xs ≡ n + 1 = length-append ys (b ∷ []) in
    let here : get_or (xs ++ rest) n 0 ≡ b = ap (λ (zs : List ℕ). get_or zs n 0) (append_assoc ys (b ∷ []) rest) ∙ get_or-seam ys b rest in
    let within : n < length (xs ++ rest) = omega (arith, long, length-append xs rest) in
    let edge : IsCharBoundary (xs ++ rest) (length xs) = subst (IsCharBoundary (xs ++ rest)) (sym long) (IsCharBoundary-after_ascii (xs ++ rest) n u within (subst (λ (c : ℕ). c < 128) (sym here) lt)) in
    record {
      one = subst IsUtf8 (take-append_seam xs rest) (IsUtf8-take (xs ++ rest) (length xs) u edge);
      two = subst IsUtf8 (drop-append_seam xs rest) (IsUtf8-drop (xs ++ rest) (length xs) u edge);
    }
  where
    get_or-seam : (ys : List ℕ) (b : ℕ) (rest : List ℕ) → get_or (ys ++ b ∷ rest) (length ys) 0 ≡ b
    get_or-seam [] b rest = refl
    get_or-seam (y ∷ ys) b rest = get_or-seam ys b rest

cut : (xs rest : List ℕ) → EndsAscii xs → IsUtf8 (xs ++ rest) → AreBoth xs rest
cut xs rest e u = subst (λ (zs : List ℕ). AreBoth zs rest) (sym e.parts) (cut_at e.front e.last rest e.ascii (subst (λ (zs : List ℕ). IsUtf8 (zs ++ rest)) e.parts u))

one_ascii : (xs : List ℕ) (b : ℕ) → b < 128 → xs ≡ b ∷ [] → EndsAscii xs
one_ascii xs b lt e = record { front = []; last = b; ascii = lt; parts = e }

word_ends : (c : ℕ) (cs : List ℕ) → c < 128 → are_word_parts cs ≡ true → EndsAscii (c ∷ cs)
word_ends c [] lt h = one_ascii (c ∷ []) c lt refl
word_ends c (d ∷ ds) lt h =
    let p = and_parts (is_word_part d) (are_word_parts ds) h in
    let k : EndsAscii (d ∷ ds) = word_ends d ds (word_ascii d p.0) p.1 in
    record { front = c ∷ k.front; last = k.last; ascii = k.ascii; parts = ap (λ (ys : List ℕ). c ∷ ys) k.parts }

gap_ends : (g : List ℕ) → IsGap g → EndsAscii g
gap_ends g (blank {b = b} h) = one_ascii (b ∷ []) b (blank_ascii b h) refl
gap_ends g (comment i) = record { front = (40 ∷ 42 ∷ i.0) ++ 42 ∷ []; last = 41; ascii = omega arith; parts = i.2 ∙ sym (append_assoc (40 ∷ 42 ∷ i.0) (42 ∷ []) (41 ∷ [])) }

token_ends : (k : Kind) (t : List ℕ) → IsSpelling k t → 0 < length t → EndsAscii t
token_ends kinds.Word [] s lt = absurd (omega (arith, lt))
token_ends kinds.Word (c ∷ cs) s lt = let p = and_parts (is_word_start c) (are_word_parts cs) s in word_ends c cs (begins_ascii c p.0) p.1
token_ends kinds.Label t s lt = record { front = s.0; last = 91; ascii = omega arith; parts = s.2 }
token_ends kinds.Text t s lt = record { front = 34 ∷ s.0; last = 34; ascii = omega arith; parts = s.2 }
token_ends kinds.ParenL t s lt = one_ascii t 40 (omega arith) s
token_ends kinds.ParenR t s lt = one_ascii t 41 (omega arith) s
token_ends kinds.BracketL t s lt = one_ascii t 91 (omega arith) s
token_ends kinds.BracketR t s lt = one_ascii t 93 (omega arith) s
token_ends kinds.Comma t s lt = one_ascii t 44 (omega arith) s
token_ends kinds.Bar t s lt = one_ascii t 124 (omega arith) s
token_ends kinds.Star t s lt = one_ascii t 42 (omega arith) s
token_ends kinds.Plus t s lt = one_ascii t 43 (omega arith) s
token_ends kinds.Query t s lt = one_ascii t 63 (omega arith) s
token_ends kinds.Equals t s lt = one_ascii t 61 (omega arith) s
token_ends kinds.Colon t s lt = one_ascii t 58 (omega arith) s
token_ends kinds.Tilde t s lt = one_ascii t 126 (omega arith) s
token_ends kinds.Caret t s lt = one_ascii t 94 (omega arith) s
token_ends kinds.Arrow t s lt = record { front = 45 ∷ []; last = 62; ascii = omega arith; parts = s }
token_ends kinds.End t s lt = absurd (omega (arith, lt, ap length s))
token_ends (kinds.Broken f) t s lt = absurd (omega (arith, lt, ap length s))

proper_read : (p : Place) (bytes : List ℕ) (ts : List Lexeme) → Reads p bytes ts → IsUtf8 bytes → AreProperTerminals (terminals_of ts)
proper_read p bytes ts end u = (tt, tt)
proper_read p bytes ts (gap {gap = g} {rest = rest} {ts = others} i r) u = proper_read (past p g) rest others r (cut g rest (gap_ends g i) u).two
proper_read p bytes ts (token {kind = k} {text = t} {rest = rest} {ts = others} s lt e r) u =
    let both = cut t rest (token_ends k t s lt) u in
    (proper_token k t s both.one, proper_read (past p t) rest others r both.two)
proper_read p bytes ts (broken f) u = (tt, tt)

-- ---- items

nothing_rest : (c : Context) (ts rest : List Terminal) → NoItems c ts rest → AreProperTerminals ts → AreProperTerminals rest
nothing_rest Whole ts rest e h = (subst AreProperTerminals e h).1.1
nothing_rest Content ts rest (inl e) h = subst AreProperTerminals e h
nothing_rest Content ts rest (inr e) h = (subst AreProperTerminals e h).1.1
nothing_rest Behind ts rest e h = subst AreProperTerminals e h

lead_rest : (c : Context) (ts item : List Terminal) → Lead c ts item → AreProperTerminals ts → AreProperTerminals item
lead_rest Whole ts item e h = subst AreProperTerminals e h
lead_rest Content ts item e h = subst AreProperTerminals e h
lead_rest Behind ts item e h = (subst AreProperTerminals e h).1

items_proper : (c : Context) (d : Document) (ts rest : List Terminal) → Items c d ts rest → AreProperTerminals ts → (is_proper d ≡ true) × AreProperTerminals rest
items_proper c empty ts rest i h = (refl, nothing_rest c ts rest i h)
items_proper c (text s r) ts rest (us, lead, behind) h =
    let here = lead_rest c ts (QuotedText s ∷ us) lead h in
    let after = items_proper Behind r us rest behind here.1 in
    (and_from (is_utf8 s) (is_proper r) here.0 after.0, after.1)
items_proper c (element l inner r) ts rest (us, vs, lead, content, behind) h =
    let here = lead_rest c ts (Label l ∷ us) lead h in
    let within = items_proper Content inner us (BracketR ∷ vs) content here.1 in
    let after = items_proper Behind r vs rest behind within.1.1 in
    (and_from (is_word l) (is_proper inner && is_proper r) here.0 (and_from (is_proper inner) (is_proper r) within.0 after.0), after.1)

pub spelled_is_proper : SpelledIsProper
spelled_is_proper bytes d b = (items_proper Whole d (terminals_of (tokens_of bytes)) (End ∷ []) b.spells (proper_read start bytes (tokens_of bytes) (tokens_are_read bytes) b.utf8)).0
