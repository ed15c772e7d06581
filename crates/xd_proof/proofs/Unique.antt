-- A line spells one part at most, and a text one list of goals.
use Rattle.std.proofs.Common.{◌≡◌, ℕ, ◌<◌, ◌^◌, ◌+◌, arith, Bool, true, false, List, [], ◌∷◌, ◌++◌, length, get_or, drop, append_assoc, Result, Ok, refl, ap, sym, subst, ◌∙◌}
use Rattle.std.specs.Prelude.{codes}
use Rattle.std.specs.List.{AllByRecursion}
use Rattle.std.specs.Int.{IsInRange}
use Rattle.std.specs.Fmt.{decimal}
use Rattle.std.specs.Str.Parse.{digits_value}
use Rattle.std.proofs.lemmas.List.{append_cancel_left}
use Rattle.std.proofs.lemmas.Str.Parse.{IsNumeralModel, numerals_by_value}
use Rattle.std.proofs.lemmas.Fmt.{decimal_is_IsNumeral, digits_decimal}
use Rattle.xd_doc.specs.Word.{is_word, is_word_start, is_word_part, are_word_parts}
use Rattle.xd_doc.proofs.Bools.{and_parts}
use Rattle.xd_doc.proofs.Lists.{all_append, same_fronts}
use Rattle.xd_syntax.specs.Tree.{Tree}
use Rattle.xd_rules.specs.declared.atom.Atom.{Atom}
use Rattle.xd_rules.specs.declared.atom.Atom.TheVariants.{Label, OtherLabel, Text, OtherText}
use Rattle.xd_rules.specs.Rules.{ChoiceTree, settles_content, settles_rest, split_on, Case}
use Rattle.xd_doc.specs.Document.{escaped_all}
use Rattle.xd_lex.specs.declared.LexFault.{LexFault}
use Rattle.xd_lex.specs.Scan.{quoted_length as scanned}
use Rattle.xd_lex.specs.Spelled.{unescaped}
use Rattle.xd_lex.proofs.Escapes.{quoted-escaped, unescaped-escaped}
use Rattle.xd_syntax.specs.TypeText.{quoted_text}
use Rattle.xd_proof.specs.Lines.{space, spaced, IsFreeOf, IsNumber, SpellsNumber}
use Rattle.xd_proof.specs.Parts.{ProofLine, first_title, second_title, type_count, type_part, goal_count, goal_part, left_part, right_part, empty_part, case_part, end_part, atom_word, IsAtom, tree_words, HasNumbers, case_words, SpellsCase, Follows, SpellsTypePart, SpellsPart, SpellParts}
use Rattle.xd_proof.proofs.LineLemmas.{same_front, same_words}

fits : (n : ℕ) → IsNumber n → n < 2 ^ 64
fits n h = let m = h.most in omega (arith, m)

decimal_one : (n m : ℕ) → IsNumber n → IsNumber m → decimal n ≡ decimal m → n ≡ m
decimal_one n m p q e = sym (decimal_is_IsNumeral n (fits n p)).1 ∙ ap (digits_value 10) e ∙ (decimal_is_IsNumeral m (fits m q)).1

pub number_one : (bs : List ℕ) (n m : ℕ) → SpellsNumber bs n → SpellsNumber bs m → n ≡ m
number_one bs n m s t = decimal_one n m s.number t.number (sym s.digits ∙ t.digits)

pub digits_model : IsNumeralModel (AllByRecursion (IsInRange 48 57)) (digits_value 10)
digits_model = numerals_by_value _ (record { empty = tt; parts = λ c cs p. p; more = λ c cs r p. (r, p) })

no_space : (ds : List ℕ) → AllByRecursion (IsInRange 48 57) ds → IsFreeOf space ds
no_space [] a = tt
no_space (c ∷ cs) a = ((λ e. let h = (a.0).0 in omega (arith, h, e)), no_space cs a.1)

pub decimal_free : (n : ℕ) → IsNumber n → IsFreeOf space (decimal n)
decimal_free n h = no_space (decimal n) (digits_decimal digits_model n (fits n h))

part_free : (c : ℕ) → is_word_part c ≡ true → c ≡ space → ⊥
part_free c h e = let k : false ≡ true = subst (λ x. is_word_part x ≡ true) e h in absurd (cc)

start_free : (c : ℕ) → is_word_start c ≡ true → c ≡ space → ⊥
start_free c h e = let k : false ≡ true = subst (λ x. is_word_start x ≡ true) e h in absurd (cc)

parts_free : (cs : List ℕ) → are_word_parts cs ≡ true → IsFreeOf space cs
parts_free [] h = tt
parts_free (c ∷ cs) h = let r = and_parts _ _ h in (part_free c r.0, parts_free cs r.1)

word_free : (l : List ℕ) → is_word l ≡ true → IsFreeOf space l
word_free [] h = tt
word_free (c ∷ cs) h = let r = and_parts _ _ h in (start_free c r.0, parts_free cs r.1)

pub tree_free : (t : ChoiceTree) → HasNumbers t → AllByRecursion (IsFreeOf space) (tree_words t)
tree_free (settles_content n) h = (((λ e. omega (arith, e)), tt), (decimal_free n h, tt))
tree_free (settles_rest n) h = (((λ e. omega (arith, e)), tt), (decimal_free n h, tt))
tree_free (split_on n A B) h =
    (((λ e. omega (arith, e)), tt), (decimal_free n h.0, all_append (IsFreeOf space) (tree_words A) (tree_words B) (tree_free A h.1) (tree_free B h.2)))

-- trees whose words stand before others
tree_one : (t u : ChoiceTree) (xs ys : List (List ℕ)) → HasNumbers t → HasNumbers u → tree_words t ++ xs ≡ tree_words u ++ ys → (t ≡ u) × (xs ≡ ys)
tree_one (settles_content n) (settles_content m) xs ys h k e = (ap settles_content (decimal_one n m h k (ap (λ l. get_or l 1 []) e)), ap (λ l. drop 2 l) e)
tree_one (settles_rest n) (settles_rest m) xs ys h k e = (ap settles_rest (decimal_one n m h k (ap (λ l. get_or l 1 []) e)), ap (λ l. drop 2 l) e)
tree_one (split_on n A B) (split_on m C D) xs ys h k e =
    let w : (tree_words A ++ tree_words B) ++ xs ≡ (tree_words C ++ tree_words D) ++ ys = ap (λ l. drop 2 l) e in
    let p = tree_one A C (tree_words B ++ xs) (tree_words D ++ ys) h.1 k.1 (sym (append_assoc (tree_words A) (tree_words B) xs) ∙ w ∙ append_assoc (tree_words C) (tree_words D) ys) in
    let q = tree_one B D xs ys h.2 k.2 p.1 in (
      ap (λ i. split_on i A B) (decimal_one n m h.0 k.0 (ap (λ l. get_or l 1 []) e)) ∙ ap (λ S. split_on m S B) p.0 ∙ ap (λ S. split_on m C S) q.0,
      q.1,
    )
tree_one (settles_content n) (settles_rest m) xs ys h k e = let z : 99 ≡ 114 = ap (λ l. get_or (get_or l 0 []) 0 0) e in absurd (omega (arith, z))
tree_one (settles_content n) (split_on m C D) xs ys h k e = let z : 99 ≡ 63 = ap (λ l. get_or (get_or l 0 []) 0 0) e in absurd (omega (arith, z))
tree_one (settles_rest n) (settles_content m) xs ys h k e = let z : 114 ≡ 99 = ap (λ l. get_or (get_or l 0 []) 0 0) e in absurd (omega (arith, z))
tree_one (settles_rest n) (split_on m C D) xs ys h k e = let z : 114 ≡ 63 = ap (λ l. get_or (get_or l 0 []) 0 0) e in absurd (omega (arith, z))
tree_one (split_on n A B) (settles_content m) xs ys h k e = let z : 63 ≡ 99 = ap (λ l. get_or (get_or l 0 []) 0 0) e in absurd (omega (arith, z))
tree_one (split_on n A B) (settles_rest m) xs ys h k e = let z : 63 ≡ 114 = ap (λ l. get_or (get_or l 0 []) 0 0) e in absurd (omega (arith, z))

ok_one : (n m : ℕ) → (let x : Result ℕ LexFault = Ok n in x) ≡ Ok m → n ≡ m
ok_one n m e = cc

abbrev pub is_text_atom : Atom → Bool
is_text_atom (Text s) = true
is_text_atom _ = false

no_word : (l w : List ℕ) → l ≡ w → is_word l ≡ true → is_word w ≡ false → ⊥
no_word l w e h k = let z : is_word w ≡ true = subst (λ x. is_word x ≡ true) e h in let y : false ≡ true = sym k ∙ z in cc

-- ---- atoms
-- a text in quotes, with something after it
pub quoted_one : (s t r q : List ℕ) → quoted_text s ++ r ≡ quoted_text t ++ q → (s ≡ t) × (r ≡ q)
quoted_one s t r q e =
    let a : escaped_all s ++ 34 ∷ r ≡ escaped_all t ++ 34 ∷ q =
    sym (append_assoc (escaped_all s) (34 ∷ []) r) ∙ ap (λ l. drop 1 l) e ∙ append_assoc (escaped_all t) (34 ∷ []) q in
    let k : length (escaped_all s) + 1 ≡ length (escaped_all t) + 1 = ok_one _ _ (sym (quoted-escaped s r) ∙ ap (λ l. scanned false l) a ∙ quoted-escaped t q) in
    let p = same_fronts (escaped_all s) (escaped_all t) (34 ∷ r) (34 ∷ q) (omega (arith, k)) a in
    (sym (unescaped-escaped s) ∙ ap (λ l. unescaped (34 ∷ l ++ 34 ∷ [])) p.0 ∙ unescaped-escaped t, ap (λ l. drop 1 l) p.1)

-- not the front of a text in quotes
pub word_no_quote : (l r : List ℕ) → is_word l ≡ true → get_or (l ++ r) 0 0 ≡ 34 → ⊥
word_no_quote [] r h e = cc
word_no_quote (c ∷ cs) r h e = let k = (and_parts _ _ h).0 in let z : false ≡ true = subst (λ x. is_word_start x ≡ true) e k in cc

pub plain_no_quote : (a : Atom) (r s q : List ℕ) → IsAtom a → (is_text_atom a ≡ false) → atom_word a ++ space ∷ r ≡ quoted_text s ++ space ∷ q → ⊥
plain_no_quote (Label l) r s q h p e = word_no_quote l (space ∷ r) h (ap (λ l. get_or l 0 0) e)
plain_no_quote OtherLabel r s q h p e = let z : 126 ≡ 34 = ap (λ l. get_or l 0 0) e in omega (arith, z)
plain_no_quote (Text t) r s q h p e = cc
plain_no_quote OtherText r s q h p e = let z : 36 ≡ 34 = ap (λ l. get_or l 0 0) e in omega (arith, z)

pub plain_free : (a : Atom) → IsAtom a → is_text_atom a ≡ false → IsFreeOf space (atom_word a)
plain_free (Label l) h p = word_free l h
plain_free OtherLabel h p = ((λ e. omega (arith, e)), tt)
plain_free (Text s) h p = absurd (cc)
plain_free OtherText h p = ((λ e. omega (arith, e)), tt)

plain_one : (a b : Atom) → IsAtom a → IsAtom b → is_text_atom a ≡ false → is_text_atom b ≡ false → atom_word a ≡ atom_word b → a ≡ b
plain_one (Label l) (Label m) h k p q e = ap Label e
plain_one (Label l) OtherLabel h k p q e = absurd (no_word l (codes "~") e h refl)
plain_one (Label l) OtherText h k p q e = absurd (no_word l (codes "$") e h refl)
plain_one OtherLabel (Label m) h k p q e = absurd (no_word m (codes "~") (sym e) k refl)
plain_one OtherLabel OtherLabel h k p q e = refl
plain_one OtherLabel OtherText h k p q e = let z : 126 ≡ 36 = ap (λ l. get_or l 0 0) e in absurd (omega (arith, z))
plain_one OtherText (Label m) h k p q e = absurd (no_word m (codes "$") (sym e) k refl)
plain_one OtherText OtherLabel h k p q e = let z : 36 ≡ 126 = ap (λ l. get_or l 0 0) e in absurd (omega (arith, z))
plain_one OtherText OtherText h k p q e = refl
plain_one (Text s) b h k p q e = absurd (cc)
plain_one a (Text s) h k p q e = absurd (cc)

plain_apart : (a b : Atom) (r q : List ℕ) → IsAtom a → IsAtom b → is_text_atom a ≡ false → is_text_atom b ≡ false → atom_word a ++ space ∷ r ≡ atom_word b ++ space ∷ q → (a ≡ b) × (r ≡ q)
plain_apart a b r q h k p s e =
    let w = same_front space (atom_word a) (atom_word b) r q (plain_free a h p) (plain_free b k s) e in
    (plain_one a b h k p s w.0, w.1)

-- an atom, and what stands after the space after it
pub atom_one : (a b : Atom) (r q : List ℕ) → IsAtom a → IsAtom b → atom_word a ++ space ∷ r ≡ atom_word b ++ space ∷ q → (a ≡ b) × (r ≡ q)
atom_one (Text s) (Text t) r q h k e = let w = quoted_one s t (space ∷ r) (space ∷ q) e in (ap Text w.0, ap (λ l. drop 1 l) w.1)
atom_one (Text s) (Label m) r q h k e = absurd (plain_no_quote (Label m) q s r k refl (sym e))
atom_one (Text s) OtherLabel r q h k e = absurd (plain_no_quote OtherLabel q s r k refl (sym e))
atom_one (Text s) OtherText r q h k e = absurd (plain_no_quote OtherText q s r k refl (sym e))
atom_one (Label l) (Text t) r q h k e = absurd (plain_no_quote (Label l) r t q h refl e)
atom_one OtherLabel (Text t) r q h k e = absurd (plain_no_quote OtherLabel r t q h refl e)
atom_one OtherText (Text t) r q h k e = absurd (plain_no_quote OtherText r t q h refl e)
atom_one (Label l) (Label m) r q h k e = plain_apart (Label l) (Label m) r q h k refl refl e
atom_one (Label l) OtherLabel r q h k e = plain_apart (Label l) OtherLabel r q h k refl refl e
atom_one (Label l) OtherText r q h k e = plain_apart (Label l) OtherText r q h k refl refl e
atom_one OtherLabel (Label m) r q h k e = plain_apart OtherLabel (Label m) r q h k refl refl e
atom_one OtherLabel OtherLabel r q h k e = plain_apart OtherLabel OtherLabel r q h k refl refl e
atom_one OtherLabel OtherText r q h k e = plain_apart OtherLabel OtherText r q h k refl refl e
atom_one OtherText (Label m) r q h k e = plain_apart OtherText (Label m) r q h k refl refl e
atom_one OtherText OtherLabel r q h k e = plain_apart OtherText OtherLabel r q h k refl refl e
atom_one OtherText OtherText r q h k e = plain_apart OtherText OtherText r q h k refl refl e

-- ---- cases
pub tree_some : (t : ChoiceTree) → 0 < length (tree_words t)
tree_some (settles_content n) = omega arith
tree_some (settles_rest n) = omega arith
tree_some (split_on n A B) = omega arith

spaced_more : (w : List ℕ) (ws : List (List ℕ)) → 0 < length ws → spaced (w ∷ ws) ≡ w ++ space ∷ spaced ws
spaced_more w [] h = absurd (omega (arith, h))
spaced_more w (v ∷ vs) h = refl

pub case_line : (c : Case) → spaced (case_words c) ≡ codes "case" ++ space ∷ (decimal c.head ++ space ∷ (atom_word c.atom ++ space ∷ spaced (tree_words c.choice)))
case_line c = ap (λ l. codes "case" ++ space ∷ (decimal c.head ++ space ∷ l)) (spaced_more (atom_word c.atom) (tree_words c.choice) (tree_some c.choice))

pub tree_spelled_one : (t u : ChoiceTree) → HasNumbers t → HasNumbers u → spaced (tree_words t) ≡ spaced (tree_words u) → t ≡ u
tree_spelled_one t u h k e =
    let w = same_words (tree_words t) (tree_words u) (tree_free t h) (tree_free u k) (tree_some t) (tree_some u) e in
    (tree_one t u [] [] h k (ap (λ l. l ++ []) w)).0

pub case_one : (bs : List ℕ) (c d : Case) → SpellsCase bs c → SpellsCase bs d → c ≡ d
case_one bs c d s t =
    let w : codes "case" ++ space ∷ (decimal c.head ++ space ∷ (atom_word c.atom ++ space ∷ spaced (tree_words c.choice)))
    ≡ codes "case" ++ space ∷ (decimal d.head ++ space ∷ (atom_word d.atom ++ space ∷ spaced (tree_words d.choice))) = sym (case_line c) ∙ sym s.words ∙ t.words ∙ case_line d in
    let v = same_front space (decimal c.head) (decimal d.head) _ _ (decimal_free c.head s.head) (decimal_free d.head t.head) (ap (λ l. drop 5 l) w) in
    let n : c.head ≡ d.head = decimal_one c.head d.head s.head t.head v.0 in
    let a = atom_one c.atom d.atom (spaced (tree_words c.choice)) (spaced (tree_words d.choice)) s.atom t.atom v.1 in
    let r : c.choice ≡ d.choice = tree_spelled_one c.choice d.choice s.numbers t.numbers a.1 in
    ap (λ i. let x : Case = record { head = i; atom = c.atom; choice = c.choice } in x) n
    ∙ ap (λ b. let x : Case = record { head = d.head; atom = b; choice = c.choice } in x) a.0
    ∙ ap (λ u. let x : Case = record { head = d.head; atom = d.atom; choice = u } in x) r

pub follows_one : {A : Type 0} (word : List ℕ) (R : List ℕ → A → Type 0) (line : List ℕ) (x y : A) → ((b : List ℕ) (u v : A) → R b u → R b v → u ≡ v) →
    Follows word R line x → Follows word R line y → x ≡ y
follows_one word R line x y one f g =
    let e : f.behind ≡ g.behind = ap (λ l. drop 1 l) (append_cancel_left word (space ∷ f.behind) (space ∷ g.behind) (sym f.whole ∙ g.whole)) in
    one g.behind x y (subst (λ b. R b x) e f.reads) g.reads

-- the number of a type and the type
type_part_one : (R : List ℕ → Tree → Type 0) → ((b : List ℕ) (T U : Tree) → R b T → R b U → T ≡ U) → (line : List ℕ) (n m : ℕ) (T U : Tree) →
    Follows (codes "type") (λ b V. SpellsTypePart R b n V) line T → Follows (codes "type") (λ b V. SpellsTypePart R b m V) line U → (n ≡ m) × (T ≡ U)
type_part_one R one line n m T U f g =
    let e : f.behind ≡ g.behind = ap (λ l. drop 1 l) (append_cancel_left (codes "type") (space ∷ f.behind) (space ∷ g.behind) (sym f.whole ∙ g.whole)) in
    let p = (f.reads).reads in
    let q = (g.reads).reads in
    let r = same_front space (decimal n) (decimal m) p.behind q.behind (decimal_free n (f.reads).number) (decimal_free m (g.reads).number) (sym p.whole ∙ e ∙ q.whole) in
    (decimal_one n m (f.reads).number (g.reads).number r.0, one q.behind T U (subst (λ b. R b T) r.1 p.reads) q.reads)

-- the first and fifth letters of a line
abbrev letters : List ℕ → ℕ × ℕ
letters l = (get_or l 0 0, get_or l 4 0)

module _ {A : Type 0} where
  abbrev letters_of : ProofLine A → ℕ × ℕ
  letters_of first_title = (120, 101)
  letters_of second_title = (120, 101)
  letters_of (type_count n) = (116, 115)
  letters_of (type_part n T) = (116, 32)
  letters_of (goal_count n) = (103, 115)
  letters_of (goal_part n) = (103, 32)
  letters_of (left_part x) = (108, 32)
  letters_of (right_part x) = (114, 116)
  letters_of (empty_part n) = (101, 121)
  letters_of (case_part c) = (99, 32)
  letters_of end_part = (101, 0)

module _ {A : Type 0} (R : List ℕ → Tree → Type 0) (S : List ℕ → A → Type 0) where
  letters_are : (l : List ℕ) (p : ProofLine A) → SpellsPart R S l p → letters l ≡ letters_of p
  letters_are l first_title s = ap letters s
  letters_are l second_title s = ap letters s
  letters_are l (type_count n) s = ap letters s.whole
  letters_are l (type_part n T) s = ap letters s.whole
  letters_are l (goal_count n) s = ap letters s.whole
  letters_are l (goal_part n) s = ap letters s.whole
  letters_are l (left_part x) s = ap letters s.whole
  letters_are l (right_part x) s = ap letters s.whole
  letters_are l (empty_part n) s = ap letters s.whole
  letters_are l (case_part c) s = ap letters s.words
  letters_are l end_part s = ap letters s

module _ {A : Type 0} (R : List ℕ → Tree → Type 0) (S : List ℕ → A → Type 0)
    (types_one : (b : List ℕ) (T U : Tree) → R b T → R b U → T ≡ U) (one : (b : List ℕ) (x y : A) → S b x → S b y → x ≡ y) where
  titles_apart : (l : List ℕ) → l ≡ codes "xduce-proof 1" → l ≡ codes "xduce-proof 2" → ⊥
  titles_apart l e f = let z : 49 ≡ 50 = ap (λ x. get_or x 12 0) (sym e ∙ f) in omega (arith, z)

  by_letters : (p q : ProofLine A) → letters_of p ≡ letters_of q → (l : List ℕ) → SpellsPart R S l p → SpellsPart R S l q → p ≡ q
  by_letters first_title first_title e l s t = refl
  by_letters first_title second_title e l s t = absurd (titles_apart l s t)
  by_letters second_title first_title e l s t = absurd (titles_apart l t s)
  by_letters second_title second_title e l s t = refl
  by_letters (type_count n) (type_count m) e l s t = ap type_count (follows_one (codes "types") SpellsNumber l n m number_one s t)
  by_letters (type_part n T) (type_part m U) e l s t =
      let r = type_part_one R types_one l n m T U s t in
      ap (λ k. type_part k T) r.0 ∙ ap (λ V. type_part m V) r.1
  by_letters (goal_count n) (goal_count m) e l s t = ap goal_count (follows_one (codes "goals") SpellsNumber l n m number_one s t)
  by_letters (goal_part n) (goal_part m) e l s t = ap goal_part (follows_one (codes "goal") SpellsNumber l n m number_one s t)
  by_letters (left_part x) (left_part y) e l s t = ap left_part (follows_one (codes "left") S l x y one s t)
  by_letters (right_part x) (right_part y) e l s t = ap right_part (follows_one (codes "right") S l x y one s t)
  by_letters (empty_part n) (empty_part m) e l s t = ap empty_part (follows_one (codes "empty") SpellsNumber l n m number_one s t)
  by_letters (case_part c) (case_part d) e l s t = ap case_part (case_one l c d s t)
  by_letters end_part end_part e l s t = refl
  by_letters _ _ e l s t = absurd (omega (arith, ap (λ (x : ℕ × ℕ). x.0) e, ap (λ (x : ℕ × ℕ). x.1) e))

  pub part_one : (l : List ℕ) (p q : ProofLine A) → SpellsPart R S l p → SpellsPart R S l q → p ≡ q
  part_one l p q s t = by_letters p q (sym (letters_are R S l p s) ∙ letters_are R S l q t) l s t

  pub parts_one : (ls : List (List ℕ)) (ps qs : List (ProofLine A)) → SpellParts R S ls ps → SpellParts R S ls qs → ps ≡ qs
  parts_one [] [] [] s t = refl
  parts_one [] [] (q ∷ qs) s t = absurd t
  parts_one [] (p ∷ ps) qs s t = absurd s
  parts_one (l ∷ ls) [] qs s t = absurd s
  parts_one (l ∷ ls) (p ∷ ps) [] s t = absurd t
  parts_one (l ∷ ls) (p ∷ ps) (q ∷ qs) s t = ap (λ x. x ∷ ps) (part_one l p q s.0 t.0) ∙ ap (λ x. q ∷ x) (parts_one ls ps qs s.1 t.1)
