-- The canonical text of a proper type is UTF-8.
use Rattle.std.proofs.Common.{◌≡◌, ℕ, Bool, true, false, cond, List, [], ◌∷◌, ◌++◌, map, refl, arith, IsUtf8}
use Rattle.std.specs.Prelude.{codes}
use Rattle.std.specs.List.{AllByRecursion}
use Rattle.std.specs.Str.{is_utf8}
use Rattle.std.proofs.lemmas.Str.{IsUtf8-append, IsUtf8-nil, IsUtf8-from_is_utf8}
use Rattle.xd_doc.specs.Word.{is_word}
use Rattle.xd_syntax.specs.Tree.{Tree, Empty, Text, Words, Name, Elem, Seq, Alt, Star, Plus, Opt, Val, is_empty}
use Rattle.xd_syntax.specs.Proper.{IsProperTree}
use Rattle.xd_syntax.specs.TypeText.{Level, any_type_level, sequence_level, postfix_level, primary_level, parted, sequence_wants, alternative_wants, postfix_wants, in_parentheses, barred, labels_text, excepted_text, class_text, quoted_text, text_at_level}
use Rattle.xd_syntax.specs.Words.{string_word}
use Rattle.xd_read.proofs.CanonicalLemmas.{cons_ascii, escaped_all_utf8, word_utf8}

mark : (c : ℕ) → IsUtf8 (c ∷ []) → (s : List ℕ) → IsUtf8 s → IsUtf8 (s ++ c ∷ [])
mark c h s u = IsUtf8-append s (c ∷ []) u h

parens : (s : List ℕ) → IsUtf8 s → IsUtf8 (in_parentheses s)
parens s u = mark 41 (cons_ascii 41 [] (omega arith) IsUtf8-nil) (40 ∷ s) (cons_ascii 40 s (omega arith) u)

if_wanted : (b : Bool) (s : List ℕ) → IsUtf8 s → IsUtf8 (parted b s)
if_wanted true s u = parens s u
if_wanted false s u = u

between : (s : List ℕ) (c : ℕ) (r : List ℕ) → IsUtf8 s → IsUtf8 (c ∷ []) → IsUtf8 r → IsUtf8 (s ++ (c ∷ []) ++ r)
between s c r u h v = IsUtf8-append (s ++ c ∷ []) r (mark c h s u) v

comma : IsUtf8 (44 ∷ [])
comma = cons_ascii 44 [] (omega arith) IsUtf8-nil

bar : IsUtf8 (124 ∷ [])
bar = cons_ascii 124 [] (omega arith) IsUtf8-nil

abbrev AllUtf8 : List (List ℕ) → Type 0
AllUtf8 ws = AllByRecursion IsUtf8 ws

barred_utf8 : (ws : List (List ℕ)) → AllUtf8 ws → IsUtf8 (barred ws)
barred_utf8 [] a = IsUtf8-nil
barred_utf8 (w ∷ []) a = a.0
barred_utf8 (w ∷ (v ∷ vs)) a = between w 124 (barred (v ∷ vs)) a.0 bar (barred_utf8 (v ∷ vs) a.1)

list_utf8 : (ws : List (List ℕ)) → AllUtf8 ws → IsUtf8 (labels_text ws)
list_utf8 [] a = parens [] IsUtf8-nil
list_utf8 (w ∷ []) a = a.0
list_utf8 (w ∷ (v ∷ vs)) a = parens (barred (w ∷ (v ∷ vs))) (barred_utf8 (w ∷ (v ∷ vs)) a)

excepted_utf8 : (ws : List (List ℕ)) → AllUtf8 ws → IsUtf8 (excepted_text ws)
excepted_utf8 [] a = cons_ascii 126 [] (omega arith) IsUtf8-nil
excepted_utf8 (w ∷ ws) a = cons_ascii 94 (labels_text (w ∷ ws)) (omega arith) (list_utf8 (w ∷ ws) a)

labels_utf8 : (ws : List (List ℕ)) → AllByRecursion (λ w. is_word w ≡ true) ws → AllUtf8 ws
labels_utf8 [] a = tt
labels_utf8 (w ∷ ws) a = (word_utf8 w a.0, labels_utf8 ws a.1)

quoted_utf8 : (s : List ℕ) → is_utf8 s ≡ true → IsUtf8 (quoted_text s)
quoted_utf8 s h = cons_ascii 34 _ (omega arith) (mark 34 (cons_ascii 34 [] (omega arith) IsUtf8-nil) _ (escaped_all_utf8 [] s (IsUtf8-from_is_utf8 s h)))

texts_utf8 : (ws : List (List ℕ)) → AllByRecursion (λ w. is_utf8 w ≡ true) ws → AllUtf8 (map quoted_text ws)
texts_utf8 [] a = tt
texts_utf8 (w ∷ ws) a = (quoted_utf8 w a.0, texts_utf8 ws a.1)

either : (b : Bool) (s r : List ℕ) → IsUtf8 s → IsUtf8 r → IsUtf8 (cond b s r)
either true s r u v = u
either false s r u v = v

pub text_utf8 : (v : Level) (T : Tree) → IsProperTree false T → IsUtf8 (text_at_level v T)
text_utf8 v Empty p = parens [] IsUtf8-nil
text_utf8 v Text p = word_utf8 string_word refl
text_utf8 v (Words w) p = IsUtf8-append (cond w.except (codes "^") []) (labels_text (map quoted_text w.names)) (either w.except (codes "^") [] (cons_ascii 94 [] (omega arith) IsUtf8-nil) IsUtf8-nil) (list_utf8 (map quoted_text w.names) (texts_utf8 w.names p.words))
text_utf8 v (Name x) p = word_utf8 x p
text_utf8 v (Elem c T) p =
    let a = labels_utf8 c.names (p.0).words in
    let k = either c.except (excepted_text c.names) (labels_text c.names) (excepted_utf8 c.names a) (list_utf8 c.names a) in
    mark 93 (cons_ascii 93 [] (omega arith) IsUtf8-nil) (class_text c ++ codes "[" ++ cond (is_empty T) [] (text_at_level any_type_level T))
    (between (class_text c) 91 (cond (is_empty T) [] (text_at_level any_type_level T)) k (cons_ascii 91 [] (omega arith) IsUtf8-nil) (either (is_empty T) [] (text_at_level any_type_level T) IsUtf8-nil (text_utf8 any_type_level T p.1)))
text_utf8 v (Seq T U) p = if_wanted (sequence_wants v) _ (between (text_at_level postfix_level T) 44 (text_at_level sequence_level U) (text_utf8 postfix_level T p.0) comma (text_utf8 sequence_level U p.1))
text_utf8 v (Alt T U) p = if_wanted (alternative_wants v) _ (between (text_at_level sequence_level T) 124 (text_at_level any_type_level U) (text_utf8 sequence_level T p.0) bar (text_utf8 any_type_level U p.1))
text_utf8 v (Star T) p = if_wanted (postfix_wants v) _ (mark 42 (cons_ascii 42 [] (omega arith) IsUtf8-nil) (text_at_level primary_level T) (text_utf8 primary_level T p))
text_utf8 v (Plus T) p = if_wanted (postfix_wants v) _ (mark 43 (cons_ascii 43 [] (omega arith) IsUtf8-nil) (text_at_level primary_level T) (text_utf8 primary_level T p))
text_utf8 v (Opt T) p = if_wanted (postfix_wants v) _ (mark 63 (cons_ascii 63 [] (omega arith) IsUtf8-nil) (text_at_level primary_level T) (text_utf8 primary_level T p))
text_utf8 v (Val x T) p = text_utf8 v T p.2
