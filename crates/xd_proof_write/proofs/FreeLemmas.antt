-- No line feed stands in the lines of a proof text.
use Rattle.std.proofs.Common.{◌≡◌, ℕ, arith, Bool, true, false, not, cond, nat_eq, List, [], ◌∷◌, ◌++◌, map, refl, subst}
use Rattle.std.specs.Prelude.{codes}
use Rattle.std.specs.List.{AllByRecursion, list_all}
use Rattle.std.specs.Int.{IsInRange}
use Rattle.std.specs.Fmt.{decimal}
use Rattle.std.proofs.lemmas.Fmt.{digits_decimal}
use Rattle.xd_doc.specs.Word.{is_word, is_word_start, is_word_part, are_word_parts}
use Rattle.xd_doc.specs.Document.{escaped, escaped_all}
use Rattle.xd_doc.proofs.Bools.{and_parts}
use Rattle.xd_doc.proofs.Lists.{all_append}
use Rattle.xd_syntax.specs.Tree.{Tree, Empty, Text, Words, Name, Elem, Seq, Alt, Star, Plus, Opt, Val, is_empty}
use Rattle.xd_syntax.specs.Proper.{IsProperTree}
use Rattle.xd_syntax.specs.TypeText.{Level, any_type_level, sequence_level, postfix_level, primary_level, parted, sequence_wants, alternative_wants, postfix_wants, in_parentheses, barred, labels_text, excepted_text, class_text, quoted_text, text_at_level}
use Rattle.xd_rules.specs.declared.atom.Atom.{Atom}
use Rattle.xd_rules.specs.declared.atom.Atom.TheVariants as atoms
use Rattle.xd_rules.specs.Rules.{ChoiceTree, settles_content, settles_rest, split_on, Case}
use Rattle.xd_proof.specs.Lines.{line_feed, space, spaced, IsFreeOf, IsNumber}
use Rattle.xd_proof.specs.Parts.{atom_word, IsAtom, tree_words, HasNumbers, case_words}
use Rattle.xd_proof.proofs.Unique.{digits_model}
use Rattle.xd_proof_write.specs.Laws.{IsWritableCase}

abbrev pub IsLine : List ℕ → Type 0
IsLine bytes = IsFreeOf line_feed bytes

pub line_joined : (s r : List ℕ) → IsLine s → IsLine r → IsLine (s ++ r)
line_joined s r a b = all_append (λ b. b ≡ line_feed → ⊥) s r a b

-- by a test
pub is_line : (bytes : List ℕ) → list_all (λ b. not (nat_eq b line_feed)) bytes ≡ true → IsLine bytes
is_line [] h = tt
is_line (b ∷ bs) h =
    let r = and_parts (not (nat_eq b line_feed)) (list_all (λ b. not (nat_eq b line_feed)) bs) h in
    ((λ k. let z : false ≡ true = subst (λ x. not (nat_eq x line_feed) ≡ true) k r.0 in absurd (cc)), is_line bs r.1)

digits_line : (ds : List ℕ) → AllByRecursion (IsInRange 48 57) ds → IsLine ds
digits_line [] a = tt
digits_line (c ∷ cs) a = ((λ e. let h = (a.0).0 in omega (arith, h, e)), digits_line cs a.1)

pub decimal_line : (n : ℕ) → IsNumber n → IsLine (decimal n)
decimal_line n h = let m = h.most in digits_line (decimal n) (digits_decimal digits_model n (omega (arith, m)))

parts_line : (cs : List ℕ) → are_word_parts cs ≡ true → IsLine cs
parts_line [] h = tt
parts_line (c ∷ cs) h =
    let r = and_parts _ _ h in
    ((λ e. let k : false ≡ true = subst (λ x. is_word_part x ≡ true) e r.0 in absurd (cc)), parts_line cs r.1)

word_line : (w : List ℕ) → is_word w ≡ true → IsLine w
word_line [] h = tt
word_line (c ∷ cs) h =
    let r = and_parts _ _ h in
    ((λ e. let k : false ≡ true = subst (λ x. is_word_start x ≡ true) e r.0 in absurd (cc)), parts_line cs r.1)

-- ---- texts in quotes
escape_line : (c : ℕ) (a b d e : Bool) → nat_eq c 10 ≡ d → IsLine (cond a (92 ∷ 34 ∷ []) (cond b (92 ∷ 92 ∷ []) (cond d (92 ∷ 110 ∷ []) (cond e (92 ∷ 116 ∷ []) (c ∷ [])))))
escape_line c true b d e h = is_line (92 ∷ 34 ∷ []) refl
escape_line c false true d e h = is_line (92 ∷ 92 ∷ []) refl
escape_line c false false true e h = is_line (92 ∷ 110 ∷ []) refl
escape_line c false false false true h = is_line (92 ∷ 116 ∷ []) refl
escape_line c false false false false h = ((λ k. let z : true ≡ false = subst (λ x. nat_eq x 10 ≡ false) k h in absurd (cc)), tt)

escaped_line : (s : List ℕ) → IsLine (escaped_all s)
escaped_line [] = tt
escaped_line (c ∷ cs) = line_joined (escaped c) (escaped_all cs) (escape_line c (nat_eq c 34) (nat_eq c 92) (nat_eq c 10) (nat_eq c 9) refl) (escaped_line cs)

quoted_line : (s : List ℕ) → IsLine (quoted_text s)
quoted_line s = line_joined (codes "\"" ++ escaped_all s) (codes "\"") (line_joined (codes "\"") (escaped_all s) (is_line (codes "\"") refl) (escaped_line s)) (is_line (codes "\"") refl)

-- ---- types
between : (s mark r : List ℕ) → IsLine s → IsLine mark → IsLine r → IsLine (s ++ mark ++ r)
between s mark r a b c = line_joined (s ++ mark) r (line_joined s mark a b) c

parens : (s : List ℕ) → IsLine s → IsLine (in_parentheses s)
parens s a = between (codes "(") s (codes ")") (is_line (codes "(") refl) a (is_line (codes ")") refl)

if_wanted : (b : Bool) (s : List ℕ) → IsLine s → IsLine (parted b s)
if_wanted true s a = parens s a
if_wanted false s a = a

either : (b : Bool) (s r : List ℕ) → IsLine s → IsLine r → IsLine (cond b s r)
either true s r a b = a
either false s r a b = b

barred_line : (ws : List (List ℕ)) → AllByRecursion IsLine ws → IsLine (barred ws)
barred_line [] a = tt
barred_line (w ∷ []) a = a.0
barred_line (w ∷ (v ∷ vs)) a = between w (codes "|") (barred (v ∷ vs)) a.0 (is_line (codes "|") refl) (barred_line (v ∷ vs) a.1)

list_line : (ws : List (List ℕ)) → AllByRecursion IsLine ws → IsLine (labels_text ws)
list_line [] a = parens [] tt
list_line (w ∷ []) a = a.0
list_line (w ∷ (v ∷ vs)) a = parens (barred (w ∷ (v ∷ vs))) (barred_line (w ∷ (v ∷ vs)) a)

excepted_line : (ws : List (List ℕ)) → AllByRecursion IsLine ws → IsLine (excepted_text ws)
excepted_line [] a = is_line (codes "~") refl
excepted_line (w ∷ ws) a = line_joined (codes "^") (labels_text (w ∷ ws)) (is_line (codes "^") refl) (list_line (w ∷ ws) a)

labels_line : (ws : List (List ℕ)) → AllByRecursion (λ w. is_word w ≡ true) ws → AllByRecursion IsLine ws
labels_line [] a = tt
labels_line (w ∷ ws) a = (word_line w a.0, labels_line ws a.1)

texts_line : (ws : List (List ℕ)) → AllByRecursion IsLine (map quoted_text ws)
texts_line [] = tt
texts_line (w ∷ ws) = (quoted_line w, texts_line ws)

operator : (b : Bool) (s mark : List ℕ) → IsLine s → IsLine mark → IsLine (parted b (s ++ mark))
operator b s mark a m = if_wanted b (s ++ mark) (line_joined s mark a m)

text_line : (v : Level) (T : Tree) → IsProperTree false T → IsLine (text_at_level v T)
text_line v Empty p = is_line (codes "()") refl
text_line v Text p = is_line (codes "String") refl
text_line v (Words w) p =
    line_joined (cond w.except (codes "^") []) (labels_text (map quoted_text w.names)) (either w.except (codes "^") [] (is_line (codes "^") refl) tt) (list_line (map quoted_text w.names) (texts_line w.names))
text_line v (Name x) p = word_line x p
text_line v (Elem c T) p =
    let a = labels_line c.names (p.0).words in
    let k = either c.except (excepted_text c.names) (labels_text c.names) (excepted_line c.names a) (list_line c.names a) in
    line_joined (class_text c ++ codes "[" ++ cond (is_empty T) [] (text_at_level any_type_level T)) (codes "]")
    (between (class_text c) (codes "[") (cond (is_empty T) [] (text_at_level any_type_level T)) k (is_line (codes "[") refl) (either (is_empty T) [] (text_at_level any_type_level T) tt (text_line any_type_level T p.1)))
    (is_line (codes "]") refl)
text_line v (Seq T U) p = if_wanted (sequence_wants v) _ (between (text_at_level postfix_level T) (codes ",") (text_at_level sequence_level U) (text_line postfix_level T p.0) (is_line (codes ",") refl) (text_line sequence_level U p.1))
text_line v (Alt T U) p = if_wanted (alternative_wants v) _ (between (text_at_level sequence_level T) (codes "|") (text_at_level any_type_level U) (text_line sequence_level T p.0) (is_line (codes "|") refl) (text_line any_type_level U p.1))
text_line v (Star T) p = operator (postfix_wants v) (text_at_level primary_level T) (codes "*") (text_line primary_level T p) (is_line (codes "*") refl)
text_line v (Plus T) p = operator (postfix_wants v) (text_at_level primary_level T) (codes "+") (text_line primary_level T p) (is_line (codes "+") refl)
text_line v (Opt T) p = operator (postfix_wants v) (text_at_level primary_level T) (codes "?") (text_line primary_level T p) (is_line (codes "?") refl)
text_line v (Val x T) p = text_line v T p.2

pub type_line : (T : Tree) → IsProperTree false T → IsLine (text_at_level any_type_level T)
type_line T p = text_line any_type_level T p

-- ---- cases
atom_line : (a : Atom) → IsAtom a → IsLine (atom_word a)
atom_line (atoms.Label l) h = word_line l h
atom_line atoms.OtherLabel h = is_line (codes "~") refl
atom_line (atoms.Text s) h = quoted_line s
atom_line atoms.OtherText h = is_line (codes "$") refl

tree_lines : (t : ChoiceTree) → HasNumbers t → AllByRecursion IsLine (tree_words t)
tree_lines (settles_content n) h = (is_line (codes "c") refl, (decimal_line n h, tt))
tree_lines (settles_rest n) h = (is_line (codes "r") refl, (decimal_line n h, tt))
tree_lines (split_on n A B) h = (is_line (codes "?") refl, (decimal_line n h.0, all_append IsLine (tree_words A) (tree_words B) (tree_lines A h.1) (tree_lines B h.2)))

pub spaced_line : (ws : List (List ℕ)) → AllByRecursion IsLine ws → IsLine (spaced ws)
spaced_line [] a = tt
spaced_line (w ∷ []) a = a.0
spaced_line (w ∷ (v ∷ vs)) a = line_joined w (space ∷ spaced (v ∷ vs)) a.0 (line_joined (space ∷ []) (spaced (v ∷ vs)) (is_line (space ∷ []) refl) (spaced_line (v ∷ vs) a.1))

pub case_line : (c : Case) → IsWritableCase c → IsLine (spaced (case_words c))
case_line c w = spaced_line (case_words c) (is_line (codes "case") refl, (decimal_line c.head w.head, (atom_line c.atom w.atom, tree_lines c.choice w.choice)))
