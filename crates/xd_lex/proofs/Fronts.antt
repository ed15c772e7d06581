-- What stands at the front of a text ends within it, with an ASCII byte.
use Rattle.std.proofs.Common.{◌≡◌, ℕ, zero, suc, ◌+◌, ◌-◌, ◌<◌, ◌≤◌, Bool, true, false, cond, List, [], ◌∷◌, ◌++◌, not, length, get_or, drop, take, subst, Option, Some, None, Result, Ok, Err, refl, sym, ap, ◌∙◌, arith, add-one, IsUtf8}
use Rattle.std.specs.Prelude.{◌==◌, ◌&&◌, slice_index}
use Rattle.std.specs.List.{take_while, prefix_len}
use Rattle.std.specs.Str.{IsCharBoundary}
use Rattle.std.proofs.lemmas.List.Sums.{prefix_len_passes, prefix_len-le-length}
use Rattle.std.proofs.lemmas.List.Folds.{length-prefix_len}
use Rattle.std.proofs.lemmas.Bool.Decides.{nat_tests}
use Rattle.std.proofs.lemmas.Str.{IsCharBoundary-after_ascii}
use Rattle.std.proofs.lemmas.List.Sums.{take_while-cons}
use Rattle.xd_doc.specs.Word.{is_word_start, is_word_part, are_word_parts, is_word}
use Rattle.xd_lex.specs.declared.Kind.{Kind}
use Rattle.xd_lex.specs.declared.Kind.TheVariants as kinds
use Rattle.xd_lex.specs.declared.LexFault.{LexFault}
use Rattle.xd_lex.specs.declared.LexFault.TheVariants.{BadCharacter}
use Rattle.xd_lex.specs.declared.Front.{Front}
use Rattle.xd_lex.specs.declared.Front.TheVariants as fronts
use Rattle.xd_lex.specs.LexedTokens.{is_last}
use Rattle.xd_lex.specs.Spellings.{IsSpelling, are_pieces}
use Rattle.xd_lex.specs.Scan.{quoted_length, commented, is_escape, is_blank, symbol, one_more, option_more, of_text, of_comment, of_symbol, front_of}
use Rattle.std.proofs.lemmas.Bool.{and_parts, and_from, not_from_false, eqb-true, cond_both}

-- n bytes stand at the front, and the last of them is ASCII
pub record Reaches (bs : List ℕ) (n : ℕ) : Type 0 where
  pub positive : 0 < n
  pub within : n ≤ length bs
  pub ascii : get_or bs (n - 1) 0 < 128

further : (b : ℕ) (bs : List ℕ) (n : ℕ) → Reaches bs n → Reaches (b ∷ bs) (n + 1)
further b bs zero r = absurd (omega (arith, r.positive))
further b bs (suc n) r =
    let e : suc n + 1 - 1 ≡ suc n = omega arith in
    let f : suc n - 1 ≡ n = omega arith in
    record { positive = omega arith; within = omega (arith, r.within); ascii = rw e (rw f at r.ascii) }

one : (b : ℕ) (bs : List ℕ) → b < 128 → Reaches (b ∷ bs) 1
one b bs h = record { positive = omega arith; within = omega arith; ascii = h }

abbrev IfReaches : Result ℕ LexFault → List ℕ → Type 0
IfReaches (Ok n) bs = Reaches bs n
IfReaches (Err f) bs = Unit {0}

abbrev IfReachesOption : Option ℕ → List ℕ → Type 0
IfReachesOption (Some n) bs = Reaches bs n
IfReachesOption None bs = Unit {0}

one_more_reaches : (b : ℕ) (bs : List ℕ) (r : Result ℕ LexFault) → IfReaches r bs → IfReaches (one_more r) (b ∷ bs)
one_more_reaches b bs (Ok n) h = further b bs n h
one_more_reaches b bs (Err f) h = tt

option_more_reaches : (b : ℕ) (bs : List ℕ) (r : Option ℕ) → IfReachesOption r bs → IfReachesOption (option_more r) (b ∷ bs)
option_more_reaches b bs (Some n) h = further b bs n h
option_more_reaches b bs None h = tt

eq_34 : (b : ℕ) → (b == 34) ≡ true → b < 128
eq_34 b h = grind (arith, nat_tests)

eq_41 : (s : Bool) (b : ℕ) → (s && (b == 41)) ≡ true → b < 128
eq_41 true b h = grind (arith, nat_tests)
eq_41 false b h = cc

quoted_reaches : (escaped : Bool) (bs : List ℕ) → IfReaches (quoted_length escaped bs) bs
quoted_reaches true [] = tt
quoted_reaches false [] = tt
quoted_reaches true (b ∷ bs) = cond_both (is_escape b) (one_more (quoted_length false bs)) (Err BadCharacter) (λ r. IfReaches r (b ∷ bs)) (λ _. one_more_reaches b bs (quoted_length false bs) (quoted_reaches false bs)) (λ _. tt)
quoted_reaches false (b ∷ bs) = cond_both (b == 34) (Ok 1) (one_more (quoted_length (b == 92) bs)) (λ r. IfReaches r (b ∷ bs)) (λ e. one b bs (eq_34 b e)) (λ _. one_more_reaches b bs (quoted_length (b == 92) bs) (quoted_reaches (b == 92) bs))

commented_reaches : (starred : Bool) (bs : List ℕ) → IfReachesOption (commented starred bs) bs
commented_reaches starred [] = tt
commented_reaches starred (b ∷ bs) = cond_both (starred && (b == 41)) (Some 1) (option_more (commented (b == 42) bs)) (λ r. IfReachesOption r (b ∷ bs)) (λ e. one b bs (eq_41 starred b e)) (λ _. option_more_reaches b bs (commented (b == 42) bs) (commented_reaches (b == 42) bs))

-- what stands at the front, in a text that is bs
abbrev pub Fits : Front → List ℕ → Type 0
Fits (fronts.Gap n) bs = Reaches bs n
Fits (fronts.Token k n) bs = Reaches bs n × (is_last k ≡ false) × IsSpelling k (take n bs)
Fits (fronts.Fault f) bs = Unit {0}

pub blank_ascii : (b : ℕ) → is_blank b ≡ true → b < 128
blank_ascii b h = grind (arith, nat_tests)

pub word_ascii : (b : ℕ) → is_word_part b ≡ true → b < 128
word_ascii b h = grind (arith, nat_tests)

pub begins_ascii : (b : ℕ) → is_word_start b ≡ true → b < 128
begins_ascii b h = grind (arith, nat_tests)

-- a count of the bytes of pieces and of a closing quote
abbrev IfPieces : Result ℕ LexFault → Bool → List ℕ → Type 0
IfPieces (Ok n) escaped bs = (pieces : List ℕ) × (are_pieces escaped pieces ≡ true) × (take n bs ≡ pieces ++ 34 ∷ [])
IfPieces (Err f) escaped bs = Unit {0}

take_more : (b : ℕ) (bs : List ℕ) (n : ℕ) → take (n + 1) (b ∷ bs) ≡ b ∷ take n bs
take_more b bs n = rw add-one refl

pieces_more : (b : ℕ) (bs : List ℕ) (r : Result ℕ LexFault) (e f : Bool) → ((pieces : List ℕ) → are_pieces e pieces ≡ true → are_pieces f (b ∷ pieces) ≡ true) → IfPieces r e bs → IfPieces (one_more r) f (b ∷ bs)
pieces_more b bs (Ok n) e f g h = (b ∷ h.0, g h.0 h.1, take_more b bs n ∙ ap (λ (xs : List ℕ). b ∷ xs) h.2)
pieces_more b bs (Err x) e f g h = tt

pub quoted_pieces : (escaped : Bool) (bs : List ℕ) → IfPieces (quoted_length escaped bs) escaped bs
quoted_pieces true [] = tt
quoted_pieces false [] = tt
quoted_pieces true (b ∷ bs) = cond_both (is_escape b) (one_more (quoted_length false bs)) (Err BadCharacter) (λ r. IfPieces r true (b ∷ bs)) (λ e. pieces_more b bs (quoted_length false bs) false true (λ pieces h. and_from (is_escape b) (are_pieces false pieces) e h) (quoted_pieces false bs)) (λ _. tt)
quoted_pieces false (b ∷ bs) =
    cond_both (b == 34) (Ok 1) (one_more (quoted_length (b == 92) bs)) (λ r. IfPieces r false (b ∷ bs))
    (λ e. ([], refl, ap (λ (c : ℕ). c ∷ []) (eqb-true b 34 e)))
    (λ e. pieces_more b bs (quoted_length (b == 92) bs) (b == 92) false (λ pieces h. and_from (not (b == 34)) (are_pieces (b == 92) pieces) (not_from_false (b == 34) e) h) (quoted_pieces (b == 92) bs))

text_fits : (b : ℕ) (bs : List ℕ) (r : Result ℕ LexFault) → b ≡ 34 → IfReaches r bs → IfPieces r false bs → Fits (of_text r) (b ∷ bs)
text_fits b bs (Ok n) e h q = (further b bs n h, refl, (q.0, q.1, take_more b bs n ∙ ap (λ (xs : List ℕ). b ∷ xs) q.2 ∙ ap (λ (c : ℕ). c ∷ (q.0 ++ 34 ∷ [])) e))
text_fits b bs (Err f) e h q = tt

-- as many letters, digits and underscores as there are
taken : (p : ℕ → Bool) (bs : List ℕ) → take (length (take_while p bs)) bs ≡ take_while p bs
taken p [] = refl
taken p (b ∷ bs) = rw take_while-cons (at_first (p b) (taken p bs))
  where
    at_first : (c : Bool) → take (length (take_while p bs)) bs ≡ take_while p bs → take (length (cond c (b ∷ take_while p bs) [])) (b ∷ bs) ≡ cond c (b ∷ take_while p bs) []
    at_first true h = ap (λ (xs : List ℕ). b ∷ xs) h
    at_first false h = refl

parts_of : (bs : List ℕ) → are_word_parts (take_while is_word_part bs) ≡ true
parts_of [] = refl
parts_of (b ∷ bs) = rw take_while-cons (at_first (is_word_part b) refl (parts_of bs))
  where
    at_first : (c : Bool) → is_word_part b ≡ c → are_word_parts (take_while is_word_part bs) ≡ true → are_word_parts (cond c (b ∷ take_while is_word_part bs) []) ≡ true
    at_first true e h = and_from (is_word_part b) (are_word_parts (take_while is_word_part bs)) e h
    at_first false e h = refl

word_of : (b : ℕ) (bs : List ℕ) → is_word_start b ≡ true → is_word (take (length (take_while is_word_part bs) + 1) (b ∷ bs)) ≡ true
word_of b bs e = rw (take_more b bs (length (take_while is_word_part bs)), taken is_word_part bs) (and_from (is_word_start b) (are_word_parts (take_while is_word_part bs)) e (parts_of bs))

with_bracket : (bs : List ℕ) (n : ℕ) → (slice_index bs n == 91) ≡ true → take (n + 1) bs ≡ take n bs ++ 91 ∷ []
with_bracket [] n h = cc
with_bracket (b ∷ bs) zero h = ap (λ (c : ℕ). c ∷ []) (eqb-true b 91 h)
with_bracket (b ∷ bs) (suc n) h = take_more b bs (suc n) ∙ ap (λ (xs : List ℕ). b ∷ xs) (let e : suc n ≡ n + 1 = omega arith in rw e (with_bracket bs n h))

comment_fits : (b : ℕ) (bs : List ℕ) (r : Option ℕ) → 0 < length bs → IfReachesOption r (drop 1 bs) → Fits (of_comment r) (b ∷ bs)
comment_fits b [] r l h = absurd (omega arith)
comment_fits b (c ∷ bs) (Some n) l h = let e : n + 2 ≡ n + 1 + 1 = omega arith in rw e (further b (c ∷ bs) (n + 1) (further c bs n h))
comment_fits b (c ∷ bs) None l h = tt

word_reaches : (b : ℕ) (bs : List ℕ) → b < 128 → Reaches (b ∷ bs) (length (take_while is_word_part bs) + 1)
word_reaches b bs h =
    let len : length (take_while is_word_part bs) ≡ prefix_len is_word_part bs = length-prefix_len is_word_part bs in
    rw len (elim (prefix_len is_word_part bs) as (λ n. n ≤ length bs → ((k : ℕ) → k < n → get_or bs k 0 < 128) → Reaches (b ∷ bs) (n + 1)) [
      | zero ↦ λ l below. one b bs h
      | suc n ↦ λ l below. further b bs (suc n) (record { positive = omega arith; within = l; ascii = below (suc n - 1) (omega arith) })
    ] (prefix_len-le-length is_word_part bs) (λ k lt. word_ascii (get_or bs k 0) (prefix_len_passes is_word_part bs k 0 lt)))

bracket_at : (bs : List ℕ) (n : ℕ) → (slice_index bs n == 91) ≡ true → Reaches bs (n + 1)
bracket_at [] n h = cc
bracket_at (b ∷ bs) zero h = one b bs (grind (arith, nat_tests))
bracket_at (b ∷ bs) (suc n) h = further b bs (suc n) (let e : suc n ≡ n + 1 = omega arith in rw e (bracket_at bs n h))

choose_fits : (bs : List ℕ) (c : Bool) (x y : Front) → (c ≡ true → Fits x bs) → (c ≡ false → Fits y bs) → Fits (cond c x y) bs
choose_fits bs true x y f g = f refl
choose_fits bs false x y f g = g refl

nonempty : (bs : List ℕ) → (slice_index bs 0 == 42) ≡ true → 0 < length bs
nonempty [] h = cc
nonempty (b ∷ bs) h = omega arith

eq_ascii : (b k : ℕ) → k < 128 → (b == k) ≡ true → b < 128
eq_ascii b k lt h = grind (arith, nat_tests)

abbrev IfAscii : Option Kind → ℕ → Type 0
IfAscii (Some k) b = (b < 128) × (is_last k ≡ false) × IsSpelling k (b ∷ [])
IfAscii None b = Unit {0}

choose_ascii : (b k : ℕ) (kind : Kind) (y : Option Kind) → k < 128 → is_last kind ≡ false → IsSpelling kind (k ∷ []) → IfAscii y b → IfAscii (cond (b == k) (Some kind) y) b
choose_ascii b k kind y lt more spelled h = cond_both (b == k) (Some kind) y (λ o. IfAscii o b) (λ e. (eq_ascii b k lt e, more, subst (λ (c : ℕ). IsSpelling kind (c ∷ [])) (sym (eqb-true b k e)) spelled)) (λ _. h)

symbol_ascii : (b : ℕ) → IfAscii (symbol b) b
unfolding symbol
symbol_ascii b =
    choose_ascii b 40 _ _ (omega arith) refl refl (choose_ascii b 41 _ _ (omega arith) refl refl (choose_ascii b 91 _ _ (omega arith) refl refl (choose_ascii b 93 _ _ (omega arith) refl refl (choose_ascii b 44 _ _ (omega arith) refl refl (choose_ascii b 124 _ _ (omega arith) refl refl (choose_ascii b 42 _ _ (omega arith) refl refl (choose_ascii b 43 _ _ (omega arith) refl refl (choose_ascii b 63 _ _ (omega arith) refl refl (choose_ascii b 61 _ _ (omega arith) refl refl (choose_ascii b 58 _ _ (omega arith) refl refl (choose_ascii b 126 _ _ (omega arith) refl refl (choose_ascii b 94 _ _ (omega arith) refl refl tt))))))))))))

symbol_fits : (b : ℕ) (bs : List ℕ) (o : Option Kind) → IfAscii o b → Fits (of_symbol o) (b ∷ bs)
symbol_fits b bs (Some k) h = (one b bs h.0, h.1, h.2)
symbol_fits b bs None h = tt

arrow : (b : ℕ) (bs : List ℕ) → (slice_index bs 0 == 62) ≡ true → Reaches (b ∷ bs) 2
arrow b [] h = cc
arrow b (c ∷ bs) h = further b (c ∷ bs) 1 (one c bs (eq_ascii c 62 (omega arith) h))

arrow_spelled : (b : ℕ) (bs : List ℕ) → ((b == 45) && (slice_index bs 0 == 62)) ≡ true → take 2 (b ∷ bs) ≡ 45 ∷ 62 ∷ []
arrow_spelled b [] h = absurd (let r : (slice_index [] 0 == 62) ≡ true = (and_parts (b == 45) (slice_index [] 0 == 62) h).1 in cc)
arrow_spelled b (c ∷ bs) h =
    let l : b ≡ 45 = eqb-true b 45 (and_parts (b == 45) (c == 62) h).0 in
    let r : c ≡ 62 = eqb-true c 62 (and_parts (b == 45) (c == 62) h).1 in
    ap (λ (x : ℕ). x ∷ c ∷ []) l ∙ ap (λ (x : ℕ). 45 ∷ x ∷ []) r

abbrev last_front : ℕ → List ℕ → Front
last_front b bs = cond ((b == 45) && (slice_index bs 0 == 62)) (fronts.Token kinds.Arrow 2) (of_symbol (symbol b))

pub fits : (b : ℕ) (bs : List ℕ) → Fits (front_of b bs) (b ∷ bs)
unfolding front_of
fits b bs =
    choose_fits _ _ _ _ (λ e. one b bs (blank_ascii b e)) (λ _.
    choose_fits _ _ _ _ (λ e. comment_fits b bs (commented false (drop 1 bs)) (nonempty bs (and_parts (b == 40) (slice_index bs 0 == 42) e).1) (commented_reaches false (drop 1 bs))) (λ _.
    choose_fits _ _ _ _ (λ e. let n = length (take_while is_word_part bs) + 1 in choose_fits (b ∷ bs) (slice_index (b ∷ bs) n == 91) (fronts.Token kinds.Label (n + 1)) (fronts.Token kinds.Word n) (λ h. (bracket_at (b ∷ bs) n h, refl, (take n (b ∷ bs), word_of b bs e, with_bracket (b ∷ bs) n h))) (λ _. (word_reaches b bs (begins_ascii b e), refl, word_of b bs e))) (λ _.
    choose_fits (b ∷ bs) (b == 34) (of_text (quoted_length false bs)) (last_front b bs) (λ e. text_fits b bs (quoted_length false bs) (eqb-true b 34 e) (quoted_reaches false bs) (quoted_pieces false bs)) (λ _.
    choose_fits (b ∷ bs) ((b == 45) && (slice_index bs 0 == 62)) (fronts.Token kinds.Arrow 2) (of_symbol (symbol b)) (λ e. (arrow b bs (and_parts (b == 45) (slice_index bs 0 == 62) e).1, refl, arrow_spelled b bs e)) (λ _.
    symbol_fits b bs (symbol b) (symbol_ascii b))))))

-- so the text may be cut there
pub boundary : (bs : List ℕ) (n : ℕ) → IsUtf8 bs → Reaches bs n → IsCharBoundary bs n
boundary bs zero u r = absurd (omega (arith, r.positive))
boundary bs (suc n) u r =
    let e : suc n - 1 ≡ n = omega arith in
    rw (← add-one) (IsCharBoundary-after_ascii bs n u (omega (arith, r.within)) (rw e at r.ascii))
