-- Each text is read as its tokens.
use Rattle.std.proofs.Common.{◌≡◌, get_or, append_assoc, ◌≢◌, ℕ, zero, suc, ◌+◌, ◌<◌, ◌≤◌, Bool, true, false, cond, not, inl, inr, List, [], ◌∷◌, ◌++◌, length, drop, take, Option, Some, None, Result, Ok, Err, refl, sym, ap, subst, ◌∙◌, arith, add-one, length-drop, length-take-le}
use Rattle.std.specs.Prelude.{◌⊎◌, ◌==◌, ◌&&◌, slice_index}
use Rattle.std.specs.List.{take_while}
use Rattle.std.proofs.lemmas.List.{take-append-drop, get_or-drop}
use Rattle.std.proofs.lemmas.List.Sums.{take_while-cons}
use Rattle.std.proofs.lemmas.Bool.Decides.{nat_tests}
use Rattle.xd_base.specs.declared.Place.{Place}
use Rattle.xd_doc.specs.Word.{is_word, is_word_start, is_word_part, are_word_parts}
use Rattle.xd_lex.specs.declared.Kind.{Kind}
use Rattle.xd_lex.specs.declared.Kind.TheVariants as kinds
use Rattle.xd_lex.specs.declared.LexFault.{LexFault}
use Rattle.xd_lex.specs.declared.LexFault.TheVariants.{BadCharacter, OpenText, OpenComment}
use Rattle.xd_lex.specs.declared.Front.{Front}
use Rattle.xd_lex.specs.declared.Front.TheVariants as fronts
use Rattle.xd_lex.specs.Scan.{is_blank, quoted_length, commented, option_more, one_more, is_escape, symbol, of_text, of_comment, of_word, of_symbol, front_of}
use Rattle.xd_lex.specs.Tokens.{Lexeme, start, past, tokens_from}
use Rattle.xd_lex.specs.LexedTokens.{is_last}
use Rattle.xd_lex.specs.Reading.{HasNoEnd, IsComment, IsGap, blank, comment, EndsBefore, Reads, end, gap, token, broken, IsFault, BeginsNothing, TokensAreRead, HasOneLast, OneLast}
use Rattle.xd_lex.specs.Spellings.{IsSpelling, are_pieces}
use Rattle.xd_lex.proofs.Fronts.{Fits, fits}
use Rattle.xd_lex.proofs.Froms.{first, at_gap, at_token, at_fault}
use Rattle.std.proofs.lemmas.Bool.{and_parts, and_from, not_from_false, eqb-true, eqb-false, cond_both}

-- what stands at the front, in the words of the grammar
abbrev Stands : Front → List ℕ → Type 0
Stands (fronts.Gap n) bs = IsGap (take n bs)
Stands (fronts.Token k n) bs = EndsBefore k (drop n bs)
Stands (fronts.Fault f) bs = IsFault f bs

-- the bytes of a comment after c, up to the first `*)`
abbrev IfEnd : ℕ → Option ℕ → List ℕ → Type 0
IfEnd c (Some n) bs = (inside : List ℕ) × HasNoEnd (inside ++ 42 ∷ []) × (c ∷ take n bs ≡ inside ++ 42 ∷ 41 ∷ [])
IfEnd c None bs = Unit {0}

star_alone : HasNoEnd (42 ∷ [])
star_alone zero e f = cc
star_alone (suc k) e f = cc

same_front : (inside : List ℕ) → slice_index (inside ++ 42 ∷ []) 0 ≡ slice_index (inside ++ 42 ∷ 41 ∷ []) 0
same_front [] = refl
same_front (x ∷ xs) = refl

one_before : (c b : ℕ) (xs : List ℕ) → ((c == 42) && (b == 41)) ≡ false → slice_index xs 0 ≡ b → HasNoEnd xs → HasNoEnd (c ∷ xs)
one_before c b xs h e none zero f g = absurd (not_both (c == 42) (b == 41) h (equal_is c 42 f) (equal_is b 41 (sym e ∙ g)))
  where
    equal_is : (x y : ℕ) → x ≡ y → (x == y) ≡ true
    equal_is x y p = grind (arith, nat_tests)

    not_both : (x y : Bool) → (x && y) ≡ false → x ≡ true → y ≡ true → ⊥
    not_both true y p q r = cc
    not_both false y p q r = cc
one_before c b xs h e none (suc k) f g = none k f (let s : suc k + 1 ≡ suc (k + 1) = omega arith in (ap (λ (m : ℕ). slice_index (c ∷ xs) m) (sym s) ∙ g))

end_more : (c b : ℕ) (bs : List ℕ) (r : Option ℕ) → ((c == 42) && (b == 41)) ≡ false → IfEnd b r bs → IfEnd c (option_more r) (b ∷ bs)
end_more c b bs (Some n) h i = (
  c ∷ i.0,
  one_before c b (i.0 ++ 42 ∷ []) h (same_front i.0 ∙ ap (λ (xs : List ℕ). slice_index xs 0) (sym i.2)) i.1,
  (let m : take (n + 1) (b ∷ bs) ≡ b ∷ take n bs = rw add-one refl in ap (λ (xs : List ℕ). c ∷ xs) (m ∙ i.2)),
)
end_more c b bs None h i = tt

commented_end : (c : ℕ) (bs : List ℕ) → IfEnd c (commented (c == 42) bs) bs
commented_end c [] = tt
commented_end c (b ∷ bs) =
    cond_both ((c == 42) && (b == 41)) (Some 1) (option_more (commented (b == 42) bs)) (λ r. IfEnd c r (b ∷ bs))
    (λ e. ([], star_alone, ap (λ (x : ℕ). x ∷ b ∷ []) (eqb-true c 42 (and_parts (c == 42) (b == 41) e).0) ∙ ap (λ (x : ℕ). 42 ∷ x ∷ []) (eqb-true b 41 (and_parts (c == 42) (b == 41) e).1)))
    (λ e. end_more c b bs (commented (b == 42) bs) e (commented_end b bs))

-- a comment that has no end
no_end : (c : ℕ) (bs : List ℕ) → commented (c == 42) bs ≡ None → HasNoEnd (c ∷ bs)
no_end c [] h = λ k f g. absurd (at_none k g)
  where
    at_none : (k : ℕ) → slice_index (c ∷ []) (k + 1) ≡ 41 → ⊥
    at_none k g = (let s : k + 1 ≡ suc k = omega arith in let z : 0 ≡ 41 = (ap (λ (m : ℕ). slice_index (c ∷ []) m) (sym s) ∙ g) in cc)
no_end c (b ∷ bs) h = at_test ((c == 42) && (b == 41)) refl (λ e. no_end b bs e)
  where
    none_of : (r : Option ℕ) → option_more r ≡ None → r ≡ None
    none_of None e = refl
    none_of (Some n) e = cc

    at_test : (t : Bool) → ((c == 42) && (b == 41)) ≡ t → (commented (b == 42) bs ≡ None → HasNoEnd (b ∷ bs)) → HasNoEnd (c ∷ b ∷ bs)
    at_test true e more = absurd (let x : cond true (Some 1) (option_more (commented (b == 42) bs)) ≡ None = (ap (λ (t : Bool). cond t (Some 1) (option_more (commented (b == 42) bs))) (sym e) ∙ h) in cc)
    at_test false e more = one_before c b (b ∷ bs) e refl (more (none_of (commented (b == 42) bs) (ap (λ (t : Bool). cond t (Some 1) (option_more (commented (b == 42) bs))) (sym e) ∙ h)))

-- after the opening quote, or after a `\\` where the flag says so
abbrev WrongEscape : Bool → List ℕ → Type 0
WrongEscape true bs = ((c : ℕ) × (rest : List ℕ) × (is_escape c ≡ false) × (bs ≡ c ∷ rest)) ⊎ ((pieces : List ℕ) × (c : ℕ) × (rest : List ℕ) × (are_pieces true pieces ≡ true) × (is_escape c ≡ false) × (bs ≡ pieces ++ 92 ∷ c ∷ rest))
WrongEscape false bs = (pieces : List ℕ) × (c : ℕ) × (rest : List ℕ) × (are_pieces false pieces ≡ true) × (is_escape c ≡ false) × (bs ≡ pieces ++ 92 ∷ c ∷ rest)

abbrev IfBad : Bool → Result ℕ LexFault → List ℕ → Type 0
IfBad escaped (Ok n) bs = Unit {0}
IfBad escaped (Err OpenText) bs = (more : List ℕ) × (are_pieces escaped (bs ++ more) ≡ true)
IfBad escaped (Err BadCharacter) bs = WrongEscape escaped bs
IfBad escaped (Err OpenComment) bs = ⊥

bad_behind_escape : (b : ℕ) (bs : List ℕ) (r : Result ℕ LexFault) → is_escape b ≡ true → IfBad false r bs → IfBad true (one_more r) (b ∷ bs)
bad_behind_escape b bs (Ok n) e h = tt
bad_behind_escape b bs (Err OpenText) e h = (h.0, and_from (is_escape b) (are_pieces false (bs ++ h.0)) e h.1)
bad_behind_escape b bs (Err BadCharacter) e h = inr (b ∷ h.0, h.1, h.2, and_from (is_escape b) (are_pieces false h.0) e h.3, h.4, ap (λ (xs : List ℕ). b ∷ xs) h.5)
bad_behind_escape b bs (Err OpenComment) e h = absurd h

wrong_more : (b : ℕ) (bs : List ℕ) (t : Bool) → (b == 92) ≡ t → (b == 34) ≡ false → WrongEscape t bs → WrongEscape false (b ∷ bs)
wrong_more b bs false e q h = (b ∷ h.0, h.1, h.2, and_from (not (b == 34)) (are_pieces (b == 92) h.0) (not_from_false (b == 34) q) (ap (λ (x : Bool). are_pieces x h.0) e ∙ h.3), h.4, ap (λ (xs : List ℕ). b ∷ xs) h.5)
wrong_more b bs true e q (inl h) = ([], h.0, h.1, refl, h.2, ap (λ (xs : List ℕ). b ∷ xs) h.3 ∙ ap (λ (x : ℕ). x ∷ h.0 ∷ h.1) (eqb-true b 92 e))
wrong_more b bs true e q (inr h) = (b ∷ h.0, h.1, h.2, and_from (not (b == 34)) (are_pieces (b == 92) h.0) (not_from_false (b == 34) q) (ap (λ (x : Bool). are_pieces x h.0) e ∙ h.3), h.4, ap (λ (xs : List ℕ). b ∷ xs) h.5)

bad_behind : (b : ℕ) (bs : List ℕ) (r : Result ℕ LexFault) → (b == 34) ≡ false → IfBad (b == 92) r bs → IfBad false (one_more r) (b ∷ bs)
bad_behind b bs (Ok n) q h = tt
bad_behind b bs (Err OpenText) q h = (h.0, and_from (not (b == 34)) (are_pieces (b == 92) (bs ++ h.0)) (not_from_false (b == 34) q) h.1)
bad_behind b bs (Err BadCharacter) q h = wrong_more b bs (b == 92) refl q h
bad_behind b bs (Err OpenComment) q h = absurd h

open_slash : IfBad true (Err OpenText) []
open_slash = (34 ∷ [], refl)

open_plain : IfBad false (Err OpenText) []
open_plain = ([], refl)

quoted_bad : (escaped : Bool) (bs : List ℕ) → IfBad escaped (quoted_length escaped bs) bs
quoted_bad true [] = open_slash
quoted_bad false [] = open_plain
quoted_bad true (b ∷ bs) = cond_both (is_escape b) (one_more (quoted_length false bs)) (Err BadCharacter) (λ r. IfBad true r (b ∷ bs)) (λ e. bad_behind_escape b bs (quoted_length false bs) e (quoted_bad false bs)) (λ e. inl (b, bs, e, refl))
quoted_bad false (b ∷ bs) = cond_both (b == 34) (Ok 1) (one_more (quoted_length (b == 92) bs)) (λ r. IfBad false r (b ∷ bs)) (λ e. tt) (λ e. bad_behind b bs (quoted_length (b == 92) bs) e (quoted_bad (b == 92) bs))

text_stands : (b : ℕ) (bs : List ℕ) (r : Result ℕ LexFault) → b ≡ 34 → IfBad false r bs → Stands (of_text r) (b ∷ bs)
text_stands b bs (Ok n) e h = tt
text_stands b bs (Err OpenText) e h = (bs, h.0, h.1, ap (λ (x : ℕ). x ∷ bs) e)
text_stands b bs (Err BadCharacter) e h = inl (h.0, h.1, h.2, h.3, h.4, ap (λ (x : ℕ). x ∷ bs) e ∙ ap (λ (xs : List ℕ). 34 ∷ xs) h.5)
text_stands b bs (Err OpenComment) e h = absurd h

-- what no token begins
record Strange (b : ℕ) (bs : List ℕ) : Type 0 where
  blank_no : is_blank b ≡ false
  word_no : is_word_start b ≡ false
  quote_no : (b == 34) ≡ false
  arrow_no : ((b == 45) && (slice_index bs 0 == 62)) ≡ false
  symbol_no : symbol b ≡ None

no_symbol : (b : ℕ) (bs text rest : List ℕ) (k : ℕ) (kind : Kind) → symbol k ≡ Some kind → symbol b ≡ None → text ≡ k ∷ [] → b ∷ bs ≡ text ++ rest → ⊥
no_symbol b bs text rest k kind s n t e =
    let front : b ≡ k = ap (λ (xs : List ℕ). get_or xs 0 0) (e ∙ ap (λ (xs : List ℕ). xs ++ rest) t) in
    let same : symbol b ≡ symbol k = ap symbol front in
    cc

no_word : (b : ℕ) (bs text rest : List ℕ) → is_word_start b ≡ false → is_word text ≡ true → b ∷ bs ≡ text ++ rest → ⊥
no_word b bs [] rest n w e = cc
no_word b bs (x ∷ xs) rest n w e =
    let front : b ≡ x = ap (λ (ys : List ℕ). get_or ys 0 0) e in
    let start : is_word_start x ≡ true = (and_parts (is_word_start x) (are_word_parts xs) w).0 in
    let same : is_word_start b ≡ is_word_start x = ap is_word_start front in
    absurd (true_is_false (is_word_start b) n (same ∙ start))
  where
    true_is_false : (t : Bool) → t ≡ false → t ≡ true → ⊥
    true_is_false true f g = cc
    true_is_false false f g = cc

no_arrow : (b : ℕ) (bs text rest : List ℕ) → ((b == 45) && (slice_index bs 0 == 62)) ≡ false → text ≡ 45 ∷ 62 ∷ [] → b ∷ bs ≡ text ++ rest → ⊥
no_arrow b bs text rest n t e =
    let whole : b ∷ bs ≡ 45 ∷ 62 ∷ rest = e ∙ ap (λ (xs : List ℕ). xs ++ rest) t in
    let x : b ≡ 45 = ap (λ (xs : List ℕ). get_or xs 0 0) whole in
    let y : slice_index bs 0 ≡ 62 = ap (λ (xs : List ℕ). get_or xs 1 0) whole in
    let z : ((b == 45) && (slice_index bs 0 == 62)) ≡ true = ap (λ (m : ℕ). (m == 45) && (slice_index bs 0 == 62)) x ∙ ap (λ (m : ℕ). m == 62) y in
    (let q : true ≡ false = sym z ∙ n in cc)

no_token_there : (b : ℕ) (bs : List ℕ) → Strange b bs → (kind : Kind) (text rest : List ℕ) → IsSpelling kind text → 0 < length text → b ∷ bs ≡ text ++ rest → ⊥
unfolding symbol
no_token_there b bs n kinds.Word t r s l e = no_word b bs t r n.word_no s e
no_token_there b bs n kinds.Label t r s l e = no_word b bs s.0 (91 ∷ r) n.word_no s.1 (e ∙ ap (λ (xs : List ℕ). xs ++ r) s.2 ∙ append_assoc s.0 (91 ∷ []) r)
no_token_there b bs n kinds.Text t r s l e = eqb-false b 34 n.quote_no (ap (λ (xs : List ℕ). get_or xs 0 0) (e ∙ ap (λ (xs : List ℕ). xs ++ r) s.2))
no_token_there b bs n kinds.ParenL t r s l e = no_symbol b bs t r 40 kinds.ParenL refl n.symbol_no s e
no_token_there b bs n kinds.ParenR t r s l e = no_symbol b bs t r 41 kinds.ParenR refl n.symbol_no s e
no_token_there b bs n kinds.BracketL t r s l e = no_symbol b bs t r 91 kinds.BracketL refl n.symbol_no s e
no_token_there b bs n kinds.BracketR t r s l e = no_symbol b bs t r 93 kinds.BracketR refl n.symbol_no s e
no_token_there b bs n kinds.Comma t r s l e = no_symbol b bs t r 44 kinds.Comma refl n.symbol_no s e
no_token_there b bs n kinds.Bar t r s l e = no_symbol b bs t r 124 kinds.Bar refl n.symbol_no s e
no_token_there b bs n kinds.Star t r s l e = no_symbol b bs t r 42 kinds.Star refl n.symbol_no s e
no_token_there b bs n kinds.Plus t r s l e = no_symbol b bs t r 43 kinds.Plus refl n.symbol_no s e
no_token_there b bs n kinds.Query t r s l e = no_symbol b bs t r 63 kinds.Query refl n.symbol_no s e
no_token_there b bs n kinds.Equals t r s l e = no_symbol b bs t r 61 kinds.Equals refl n.symbol_no s e
no_token_there b bs n kinds.Colon t r s l e = no_symbol b bs t r 58 kinds.Colon refl n.symbol_no s e
no_token_there b bs n kinds.Tilde t r s l e = no_symbol b bs t r 126 kinds.Tilde refl n.symbol_no s e
no_token_there b bs n kinds.Caret t r s l e = no_symbol b bs t r 94 kinds.Caret refl n.symbol_no s e
no_token_there b bs n kinds.Arrow t r s l e = no_arrow b bs t r n.arrow_no s e
no_token_there b bs n kinds.End t r s l e = absurd (omega (arith, ap length s))
no_token_there b bs n (kinds.Broken f) t r s l e = absurd (omega (arith, ap length s))

strange_stands : (b : ℕ) (bs : List ℕ) → Strange b bs → BeginsNothing (b ∷ bs)
strange_stands b bs n = record { some = omega arith; no_blank = n.blank_no; no_quote = eqb-false b 34 n.quote_no; no_token = no_token_there b bs n }

-- after the `(*`
comment_stands : (b c : ℕ) (bs : List ℕ) (r : Option ℕ) → b ≡ 40 → c ≡ 42 → IfEnd 0 r bs → (r ≡ None → HasNoEnd (0 ∷ bs)) → Stands (of_comment r) (b ∷ c ∷ bs)
comment_stands b c bs None p q i none = (bs, (λ k f g. none refl (suc k) f (let s : suc k + 1 ≡ suc (k + 1) = omega arith in (ap (λ (m : ℕ). slice_index (0 ∷ bs) m) s ∙ g))), ap (λ (x : ℕ). x ∷ c ∷ bs) p ∙ ap (λ (x : ℕ). 40 ∷ x ∷ bs) q)
comment_stands b c bs (Some n) p q i _ = comment (of_inside i.0 i.1 i.2)
  where
    of_inside : (inside : List ℕ) → HasNoEnd (inside ++ 42 ∷ []) → 0 ∷ take n bs ≡ inside ++ 42 ∷ 41 ∷ [] → IsComment (take (n + 2) (b ∷ c ∷ bs))
    of_inside [] none e = cc
    of_inside (x ∷ xs) none e = (
      xs,
      (λ k f g. none (suc k) f (let s : suc k + 1 ≡ suc (k + 1) = omega arith in (ap (λ (m : ℕ). slice_index (x ∷ xs ++ 42 ∷ []) m) s ∙ g))),
      (let m : take (n + 2) (b ∷ c ∷ bs) ≡ b ∷ c ∷ take n bs = (let s : n + 2 ≡ suc (suc n) = omega arith in rw s refl) in
          let t : take n bs ≡ xs ++ 42 ∷ 41 ∷ [] = ap (λ (ys : List ℕ). drop 1 ys) e in
          m ∙ ap (λ (y : ℕ). y ∷ c ∷ take n bs) p ∙ ap (λ (y : ℕ). 40 ∷ y ∷ take n bs) q ∙ ap (λ (ys : List ℕ). 40 ∷ 42 ∷ ys) t),
    )

-- a word ends where no more of it comes
word_ends : (bs : List ℕ) → is_word_part (slice_index (drop (length (take_while is_word_part bs)) bs) 0) ≡ false
word_ends [] = refl
word_ends (b ∷ bs) = rw take_while-cons (at_first (is_word_part b) refl (word_ends bs))
  where
    at_first : (c : Bool) → is_word_part b ≡ c → is_word_part (slice_index (drop (length (take_while is_word_part bs)) bs) 0) ≡ false → is_word_part (slice_index (drop (length (cond c (b ∷ take_while is_word_part bs) [])) (b ∷ bs)) 0) ≡ false
    at_first true e h = h
    at_first false e h = e

front_of_rest : (bs : List ℕ) (n : ℕ) → slice_index (drop n bs) 0 ≡ slice_index bs n
front_of_rest bs n = get_or-drop n bs 0 0 ∙ (let s : n + 0 ≡ n = omega arith in ap (λ (m : ℕ). slice_index bs m) s)

abbrev IfEnds : Option Kind → List ℕ → Type 0
IfEnds (Some k) bs = EndsBefore k bs
IfEnds None bs = Unit {0}

no_star : (b : ℕ) (bs : List ℕ) → ((b == 40) && (slice_index bs 0 == 42)) ≡ false → (b == 40) ≡ true → slice_index bs 0 ≢ 42
no_star b bs h e = eqb-false (slice_index bs 0) 42 (ap (λ (x : Bool). x && (slice_index bs 0 == 42)) (sym e) ∙ h)

symbol_ends : (b : ℕ) (bs : List ℕ) → ((b == 40) && (slice_index bs 0 == 42)) ≡ false → IfEnds (symbol b) bs
unfolding symbol
symbol_ends b bs h =
    cond_both (b == 40) _ _ (λ o. IfEnds o bs) (no_star b bs h) (λ _.
    cond_both (b == 41) _ _ (λ o. IfEnds o bs) (λ _. tt) (λ _.
    cond_both (b == 91) _ _ (λ o. IfEnds o bs) (λ _. tt) (λ _.
    cond_both (b == 93) _ _ (λ o. IfEnds o bs) (λ _. tt) (λ _.
    cond_both (b == 44) _ _ (λ o. IfEnds o bs) (λ _. tt) (λ _.
    cond_both (b == 124) _ _ (λ o. IfEnds o bs) (λ _. tt) (λ _.
    cond_both (b == 42) _ _ (λ o. IfEnds o bs) (λ _. tt) (λ _.
    cond_both (b == 43) _ _ (λ o. IfEnds o bs) (λ _. tt) (λ _.
    cond_both (b == 63) _ _ (λ o. IfEnds o bs) (λ _. tt) (λ _.
    cond_both (b == 61) _ _ (λ o. IfEnds o bs) (λ _. tt) (λ _.
    cond_both (b == 58) _ _ (λ o. IfEnds o bs) (λ _. tt) (λ _.
    cond_both (b == 126) _ _ (λ o. IfEnds o bs) (λ _. tt) (λ _.
    cond_both (b == 94) _ _ (λ o. IfEnds o bs) (λ _. tt) (λ _. tt)))))))))))))

symbol_stands : (b : ℕ) (bs : List ℕ) (o : Option Kind) → IfEnds o bs → (o ≡ None → BeginsNothing (b ∷ bs)) → Stands (of_symbol o) (b ∷ bs)
symbol_stands b bs (Some k) h n = h
symbol_stands b bs None h n = inr (n refl)

comment_front : (b : ℕ) (bs : List ℕ) → ((b == 40) && (slice_index bs 0 == 42)) ≡ true → Stands (of_comment (commented false (drop 1 bs))) (b ∷ bs)
comment_front b [] h = absurd (let r : (slice_index [] 0 == 42) ≡ true = (and_parts (b == 40) (slice_index [] 0 == 42) h).1 in cc)
comment_front b (c ∷ bs) h = comment_stands b c bs (commented false bs) (eqb-true b 40 (and_parts (b == 40) (c == 42) h).0) (eqb-true c 42 (and_parts (b == 40) (c == 42) h).1) (commented_end 0 bs) (no_end 0 bs)

word_stands : (b : ℕ) (bs : List ℕ) → Stands (of_word (b ∷ bs) (length (take_while is_word_part bs) + 1)) (b ∷ bs)
word_stands b bs =
    let n = length (take_while is_word_part bs) + 1 in
    cond_both (slice_index (b ∷ bs) n == 91) (fronts.Token kinds.Label (n + 1)) (fronts.Token kinds.Word n) (λ f. Stands f (b ∷ bs))
    (λ e. tt)
    (λ e. ((let s : n ≡ suc (length (take_while is_word_part bs)) = omega arith in rw s (word_ends bs)), rw (front_of_rest (b ∷ bs) n) (eqb-false (slice_index (b ∷ bs) n) 91 e)))

choose_stands : (bs : List ℕ) (c : Bool) (x y : Front) → (c ≡ true → Stands x bs) → (c ≡ false → Stands y bs) → Stands (cond c x y) bs
choose_stands bs true x y f g = f refl
choose_stands bs false x y f g = g refl

abbrev last_front_of : ℕ → List ℕ → Front
last_front_of b bs = cond ((b == 45) && (slice_index bs 0 == 62)) (fronts.Token kinds.Arrow 2) (of_symbol (symbol b))

stands : (b : ℕ) (bs : List ℕ) → Stands (front_of b bs) (b ∷ bs)
unfolding front_of
stands b bs =
    choose_stands (b ∷ bs) (is_blank b) (fronts.Gap 1) _ (λ e. blank {b = b} e) (λ blank_no.
    choose_stands (b ∷ bs) ((b == 40) && (slice_index bs 0 == 42)) (of_comment (commented false (drop 1 bs))) _ (comment_front b bs) (λ none.
    choose_stands (b ∷ bs) (is_word_start b) (of_word (b ∷ bs) (length (take_while is_word_part bs) + 1)) _ (λ _. word_stands b bs) (λ word_no.
    choose_stands (b ∷ bs) (b == 34) (of_text (quoted_length false bs)) (last_front_of b bs) (λ e. text_stands b bs (quoted_length false bs) (eqb-true b 34 e) (quoted_bad false bs)) (λ quote_no.
    choose_stands (b ∷ bs) ((b == 45) && (slice_index bs 0 == 62)) (fronts.Token kinds.Arrow 2) (of_symbol (symbol b)) (λ _. tt) (λ arrow_no.
    symbol_stands b bs (symbol b) (symbol_ends b bs none) (λ e. strange_stands b bs (record { blank_no = blank_no; word_no = word_no; quote_no = quote_no; arrow_no = arrow_no; symbol_no = e })))))))

-- one gap, token or fault, and what is read after it
read_front : (f : Front) (p : Place) (bs : List ℕ) → 0 < length bs → first bs ≡ f → Fits f bs → Stands f bs → ((n : ℕ) → 0 < n → n ≤ length bs → Reads (past p (take n bs)) (drop n bs) (tokens_from 0 (past p (take n bs)) (drop n bs))) → Reads p bs (tokens_from 0 p bs)
read_front (fronts.Gap n) p bs l e fit stand more =
    let r : Reads p (take n bs ++ drop n bs) (tokens_from 0 (past p (take n bs)) (drop n bs)) = gap stand (more n fit.positive fit.within) in
    rw (at_gap bs p n fit.positive fit.within e) (subst (λ (xs : List ℕ). Reads p xs (tokens_from 0 (past p (take n bs)) (drop n bs))) (take-append-drop n bs) r)
read_front (fronts.Token k n) p bs l e fit stand more =
    let t : 0 < length (take n bs) = omega (arith, length-take-le n bs fit.0.within, fit.0.positive) in
    let r : Reads p (take n bs ++ drop n bs) (record { kind = k; text = take n bs; place = p } ∷ tokens_from 0 (past p (take n bs)) (drop n bs)) = token fit.2 t stand (more n fit.0.positive fit.0.within) in
    rw (at_token bs p k n fit.0.positive fit.0.within e) (subst (λ (xs : List ℕ). Reads p xs (record { kind = k; text = take n bs; place = p } ∷ tokens_from 0 (past p (take n bs)) (drop n bs))) (take-append-drop n bs) r)
read_front (fronts.Fault f) p bs l e fit stand more = rw (at_fault bs p f l e) (broken stand)

read_all : (fuel : ℕ) (p : Place) (bs : List ℕ) → length bs ≤ fuel → Reads p bs (tokens_from 0 p bs)
read_all fuel p [] h = end
read_all zero p (b ∷ bs) h = absurd (omega arith)
read_all (suc fuel) p (b ∷ bs) h =
    read_front (front_of b bs) p (b ∷ bs) (omega arith) refl (fits b bs) (stands b bs)
    (λ n pos within. read_all fuel (past p (take n (b ∷ bs))) (drop n (b ∷ bs)) (omega (arith, length-drop n (b ∷ bs))))

pub tokens_are_read : TokensAreRead
tokens_are_read bytes = read_all (length bytes) start bytes (omega arith)

one_more_token : (t : Lexeme) (ts : List Lexeme) → is_last t.kind ≡ false → HasOneLast ts → HasOneLast (t ∷ ts)
one_more_token t [] e h = absurd h
one_more_token t (u ∷ ts) e h = (e, h)

last_front : (f : Front) (p : Place) (bs : List ℕ) → 0 < length bs → first bs ≡ f → Fits f bs → ((n : ℕ) → 0 < n → n ≤ length bs → HasOneLast (tokens_from 0 (past p (take n bs)) (drop n bs))) → HasOneLast (tokens_from 0 p bs)
last_front (fronts.Gap n) p bs l e fit more = rw (at_gap bs p n fit.positive fit.within e) (more n fit.positive fit.within)
last_front (fronts.Token k n) p bs l e fit more = rw (at_token bs p k n fit.0.positive fit.0.within e) (one_more_token (record { kind = k; text = take n bs; place = p }) (tokens_from 0 (past p (take n bs)) (drop n bs)) fit.1 (more n fit.0.positive fit.0.within))
last_front (fronts.Fault f) p bs l e fit more = rw (at_fault bs p f l e) refl

last_all : (fuel : ℕ) (p : Place) (bs : List ℕ) → length bs ≤ fuel → HasOneLast (tokens_from 0 p bs)
last_all fuel p [] h = refl
last_all zero p (b ∷ bs) h = absurd (omega arith)
last_all (suc fuel) p (b ∷ bs) h =
    last_front (front_of b bs) p (b ∷ bs) (omega arith) refl (fits b bs)
    (λ n pos within. last_all fuel (past p (take n (b ∷ bs))) (drop n (b ∷ bs)) (omega (arith, length-drop n (b ∷ bs))))

pub one_last : OneLast
one_last bytes = last_all (length bytes) start bytes (omega arith)
