-- The canonical text of a document spells it.
use Rattle.std.proofs.Common.{◌≡◌, ℕ, ◌-◌, List, [], ◌∷◌, ◌++◌, length, true, refl, ap, subst, ◌∙◌, arith, append_assoc, length-append, inl}
use Rattle.std.proofs.lemmas.List.{append-nil}
use Rattle.std.specs.Prelude.{◌&&◌}
use Rattle.std.specs.Str.{is_utf8}
use Rattle.std.proofs.Math.Seq.{take-append_seam}
use Rattle.xd_base.specs.declared.Place.{Place}
use Rattle.xd_doc.specs.Word.{is_word}
use Rattle.xd_doc.specs.Document.{Document, empty, text, element, is_proper, escaped_all, comma_before, items_text, canonical_text}
use Rattle.xd_lex.specs.Tokens.{start, tokens_from, tokens_of, past}
use Rattle.xd_lex.proofs.Escapes.{unescaped-escaped}
use Rattle.xd_lex.proofs.Canonical.{tokens-quoted, tokens-label, tokens-comma, tokens-bracket_r, tokens-parens}
use Rattle.xd_read.specs.Grammar.{Terminal, QuotedText, Label, BracketR, Comma, Context, Content, Behind, Items, Spells}
use Rattle.xd_read.specs.Reading.{terminals_of, word_of, BytesSpell}
use Rattle.xd_read.proofs.CanonicalLemmas.{canonical_text_utf8}
use Rattle.std.proofs.lemmas.Bool.{and_parts}

-- the terminals of a text that begins at this place
abbrev terminals_at : Place → List ℕ → List Terminal
terminals_at p bs = terminals_of (tokens_from 0 p bs)

pub word_of-label : (l : List ℕ) → word_of (l ++ 91 ∷ []) ≡ l
word_of-label l =
    let n : length (l ++ 91 ∷ []) - 1 ≡ length l = omega (arith, length-append l (91 ∷ [])) in
    rw n (take-append_seam l (91 ∷ []))

quoted_at : (p : Place) (s rest : List ℕ) → terminals_at p ((34 ∷ escaped_all s ++ 34 ∷ []) ++ rest) ≡ QuotedText s ∷ terminals_at (past p (34 ∷ escaped_all s ++ 34 ∷ [])) rest
quoted_at p s rest = ap terminals_of (tokens-quoted p s rest) ∙ ap (λ (x : List ℕ). QuotedText x ∷ terminals_at (past p (34 ∷ escaped_all s ++ 34 ∷ [])) rest) (unescaped-escaped s)

label_at : (p : Place) (l rest : List ℕ) → is_word l ≡ true → terminals_at p ((l ++ 91 ∷ []) ++ rest) ≡ Label l ∷ terminals_at (past p (l ++ 91 ∷ [])) rest
label_at p l rest h = ap terminals_of (tokens-label p l rest h) ∙ ap (λ (x : List ℕ). Label x ∷ terminals_at (past p (l ++ 91 ∷ [])) rest) (word_of-label l)

comma_at : (p : Place) (rest : List ℕ) → terminals_at p (44 ∷ rest) ≡ Comma ∷ terminals_at (past p (44 ∷ [])) rest
comma_at p rest = ap terminals_of (tokens-comma p rest)

bracket_at : (p : Place) (rest : List ℕ) → terminals_at p (93 ∷ rest) ≡ BracketR ∷ terminals_at (past p (93 ∷ [])) rest
bracket_at p rest = ap terminals_of (tokens-bracket_r p rest)

-- what is written after an item
abbrev behind_text : Document → List ℕ
behind_text d = comma_before d ++ items_text d

text_parts : (s : List ℕ) (r : Document) (rest : List ℕ) → items_text (text s r) ++ rest ≡ (34 ∷ escaped_all s ++ 34 ∷ []) ++ (behind_text r ++ rest)
text_parts s r rest = append_assoc (34 ∷ escaped_all s ++ 34 ∷ []) (behind_text r) rest

element_parts : (l : List ℕ) (c r : Document) (rest : List ℕ) → items_text (element l c r) ++ rest ≡ (l ++ 91 ∷ []) ++ (items_text c ++ (93 ∷ (behind_text r ++ rest)))
element_parts l c r rest = simp append_assoc

-- the items are spelled as a content, and then the terminals of what is left follow from some place
-- on
record ReadAt (s : Context) (d : Document) (ts : List Terminal) (rest : List ℕ) : Type 0 where
  next : Place
  items : Items s d ts (terminals_at next rest)

-- after an item, where each place lets the items be read as a content
behind_by : (d : Document) (rest : List ℕ) → ((p : Place) → ReadAt Content d (terminals_at p (items_text d ++ rest)) rest) → (p : Place) → ReadAt Behind d (terminals_at p (behind_text d ++ rest)) rest
behind_by empty rest f p = record { next = p; items = refl }
behind_by (text s r) rest f p =
    let c = f (past p (44 ∷ [])) in
    record { next = c.next; items = (c.items.0, comma_at p (items_text (text s r) ++ rest) ∙ ap (λ (ts : List Terminal). Comma ∷ ts) c.items.1, c.items.2) }
behind_by (element l k r) rest f p =
    let c = f (past p (44 ∷ [])) in
    record { next = c.next; items = (c.items.0, c.items.1, comma_at p (items_text (element l k r) ++ rest) ∙ ap (λ (ts : List Terminal). Comma ∷ ts) c.items.2, c.items.3, c.items.4) }

content_at : (d : Document) (p : Place) (rest : List ℕ) → is_proper d ≡ true → ReadAt Content d (terminals_at p (items_text d ++ rest)) rest
content_at empty p rest h = record { next = p; items = inl refl }
content_at (text s r) p rest h =
    let after = behind_text r ++ rest in
    let b = behind_by r rest (λ q. content_at r q rest (and_parts (is_utf8 s) (is_proper r) h).1) (past p (34 ∷ escaped_all s ++ 34 ∷ [])) in
    record { next = b.next; items = (terminals_at (past p (34 ∷ escaped_all s ++ 34 ∷ [])) after, ap (terminals_at p) (text_parts s r rest) ∙ quoted_at p s after, b.items) }
content_at (element l c r) p rest h =
    let after = behind_text r ++ rest in
    let both = (and_parts (is_word l) (is_proper c && is_proper r) h).1 in
    let k = content_at c (past p (l ++ 91 ∷ [])) (93 ∷ after) (and_parts (is_proper c) (is_proper r) both).0 in
    let b = behind_by r rest (λ q. content_at r q rest (and_parts (is_proper c) (is_proper r) both).1) (past k.next (93 ∷ [])) in
    record {
      next = b.next;
      items = (
        terminals_at (past p (l ++ 91 ∷ [])) (items_text c ++ (93 ∷ after)),
        terminals_at (past k.next (93 ∷ [])) after,
        ap (terminals_at p) (element_parts l c r rest) ∙ label_at p l (items_text c ++ (93 ∷ after)) (and_parts (is_word l) (is_proper c && is_proper r) h).0,
        subst (λ (ts : List Terminal). Items Content c (terminals_at (past p (l ++ 91 ∷ [])) (items_text c ++ (93 ∷ after))) ts) (bracket_at k.next after) k.items,
        b.items,
      );
    }

pub canonical_spells : (d : Document) → is_proper d ≡ true → Spells (terminals_of (tokens_of (canonical_text d))) d
canonical_spells empty h = ap terminals_of (tokens-parens start [])
canonical_spells (text s r) h = subst (λ (bs : List ℕ). Spells (terminals_at start bs) (text s r)) (append-nil (items_text (text s r))) (content_at (text s r) start [] h).items
canonical_spells (element l c r) h = subst (λ (bs : List ℕ). Spells (terminals_at start bs) (element l c r)) (append-nil (items_text (element l c r))) (content_at (element l c r) start [] h).items

pub canonical_text_spells : (d : Document) → is_proper d ≡ true → BytesSpell (canonical_text d) d
canonical_text_spells d h = record { utf8 = canonical_text_utf8 d h; spells = canonical_spells d h }
