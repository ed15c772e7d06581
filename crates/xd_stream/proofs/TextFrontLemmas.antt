-- What stands in front of bytes, from how they are scanned.
use Rattle.std.proofs.Common.{◌≡◌, ℕ, suc, ◌+◌, Bool, true, false, not, cond, List, [], ◌∷◌, ◌++◌, length, take, drop, Option, Some, None, Result, Ok, Err, refl, sym, ap, ◌∙◌, arith, append_assoc, length-append}
use Rattle.std.specs.Prelude.{◌==◌, ◌&&◌}
use Rattle.std.proofs.lemmas.List.{append-nil}
use Rattle.std.proofs.Math.Seq.{take-append_seam, drop-append_seam}
use Rattle.xd_base.specs.declared.Place.{Place}
use Rattle.xd_lex.specs.declared.Kind.TheVariants as kinds
use Rattle.xd_lex.specs.declared.LexFault.{LexFault}
use Rattle.xd_lex.specs.declared.LexFault.TheVariants.{BadCharacter, OpenText, OpenComment}
use Rattle.xd_lex.specs.Scan.{is_escape, quoted_length, commented, one_more, option_more, of_text, of_comment, front_of}
use Rattle.xd_lex.specs.Spellings.{are_pieces}
use Rattle.xd_lex.specs.Tokens.{past, tokens_from}
use Rattle.xd_lex.proofs.Scans.{ahead, option_ahead}
use Rattle.xd_lex.proofs.Froms.{at_gap, at_fault}
use Rattle.xd_lex.proofs.Canonical.{token_front}
use Rattle.xd_stream.specs.Pending.{scan_text, scan_comment}

more_ahead : (n : ℕ) (r : Result ℕ LexFault) → one_more (ahead n r) ≡ ahead (suc n) r
more_ahead n (Ok m) = ap (λ (k : ℕ). Ok k) (let e : m + n + 1 ≡ m + suc n = omega arith in e)
more_ahead n (Err f) = refl

none_ahead : (r : Result ℕ LexFault) → r ≡ ahead 0 r
none_ahead (Ok m) = ap (λ (k : ℕ). Ok k) (let e : m ≡ m + 0 = omega arith in e)
none_ahead (Err f) = refl

-- the pieces that were scanned stand in front
pub quoted_scan : (e : Bool) (xs ys : List ℕ) (f : Bool) → scan_text e xs ≡ Some f → quoted_length e (xs ++ ys) ≡ ahead (length xs) (quoted_length f ys)
quoted_scan e [] ys f h = let same : e ≡ f = cc in rw same (none_ahead (quoted_length f ys))
quoted_scan true (b ∷ bs) ys f h = go (is_escape b) h (λ k. quoted_scan false bs ys f k)
  where
    go : (c : Bool) → cond c (scan_text false bs) None ≡ Some f → (scan_text false bs ≡ Some f → quoted_length false (bs ++ ys) ≡ ahead (length bs) (quoted_length f ys)) → cond c (one_more (quoted_length false (bs ++ ys))) (Err BadCharacter) ≡ ahead (suc (length bs)) (quoted_length f ys)
    go true k ih = ap one_more (ih k) ∙ more_ahead (length bs) (quoted_length f ys)
    go false k ih = absurd (cc)
quoted_scan false (b ∷ bs) ys f h = go (b == 34) h (λ k. quoted_scan (b == 92) bs ys f k)
  where
    go : (c : Bool) → cond c None (scan_text (b == 92) bs) ≡ Some f → (scan_text (b == 92) bs ≡ Some f → quoted_length (b == 92) (bs ++ ys) ≡ ahead (length bs) (quoted_length f ys)) → cond c (Ok 1) (one_more (quoted_length (b == 92) (bs ++ ys))) ≡ ahead (suc (length bs)) (quoted_length f ys)
    go false k ih = ap one_more (ih k) ∙ more_ahead (length bs) (quoted_length f ys)
    go true k ih = absurd (cc)

pub scan_text-append : (e : Bool) (xs ys : List ℕ) (f : Bool) → scan_text e xs ≡ Some f → scan_text e (xs ++ ys) ≡ scan_text f ys
scan_text-append e [] ys f h = let same : e ≡ f = cc in rw same refl
scan_text-append true (b ∷ bs) ys f h = go (is_escape b) h (λ k. scan_text-append false bs ys f k)
  where
    go : (c : Bool) → cond c (scan_text false bs) None ≡ Some f → (scan_text false bs ≡ Some f → scan_text false (bs ++ ys) ≡ scan_text f ys) → cond c (scan_text false (bs ++ ys)) None ≡ scan_text f ys
    go true k ih = ih k
    go false k ih = absurd (cc)
scan_text-append false (b ∷ bs) ys f h = go (b == 34) h (λ k. scan_text-append (b == 92) bs ys f k)
  where
    go : (c : Bool) → cond c None (scan_text (b == 92) bs) ≡ Some f → (scan_text (b == 92) bs ≡ Some f → scan_text (b == 92) (bs ++ ys) ≡ scan_text f ys) → cond c None (scan_text (b == 92) (bs ++ ys)) ≡ scan_text f ys
    go false k ih = ih k
    go true k ih = absurd (cc)

pub pieces_scan : (e : Bool) (xs : List ℕ) (f : Bool) → scan_text e xs ≡ Some f → are_pieces e xs ≡ not f
pieces_scan e [] f h = let same : e ≡ f = cc in ap not same
pieces_scan true (b ∷ bs) f h = go (is_escape b) h (λ k. pieces_scan false bs f k)
  where
    go : (c : Bool) → cond c (scan_text false bs) None ≡ Some f → (scan_text false bs ≡ Some f → are_pieces false bs ≡ not f) → (c && are_pieces false bs) ≡ not f
    go true k ih = ih k
    go false k ih = absurd (cc)
pieces_scan false (b ∷ bs) f h = go (b == 34) h (λ k. pieces_scan (b == 92) bs f k)
  where
    go : (c : Bool) → cond c None (scan_text (b == 92) bs) ≡ Some f → (scan_text (b == 92) bs ≡ Some f → are_pieces (b == 92) bs ≡ not f) → (not c && are_pieces (b == 92) bs) ≡ not f
    go false k ih = ih k
    go true k ih = absurd (cc)

more_option : (n : ℕ) (o : Option ℕ) → option_more (option_ahead n o) ≡ option_ahead (suc n) o
more_option n (Some m) = ap (λ (k : ℕ). Some k) (let e : m + n + 1 ≡ m + suc n = omega arith in e)
more_option n None = refl

none_option : (o : Option ℕ) → o ≡ option_ahead 0 o
none_option (Some m) = ap (λ (k : ℕ). Some k) (let e : m ≡ m + 0 = omega arith in e)
none_option None = refl

pub commented_scan : (s : Bool) (xs ys : List ℕ) (f : Bool) → scan_comment s xs ≡ Some f → commented s (xs ++ ys) ≡ option_ahead (length xs) (commented f ys)
commented_scan s [] ys f h = let same : s ≡ f = cc in rw same (none_option (commented f ys))
commented_scan s (b ∷ bs) ys f h = go (s && (b == 41)) h (λ k. commented_scan (b == 42) bs ys f k)
  where
    go : (c : Bool) → cond c None (scan_comment (b == 42) bs) ≡ Some f → (scan_comment (b == 42) bs ≡ Some f → commented (b == 42) (bs ++ ys) ≡ option_ahead (length bs) (commented f ys)) → cond c (Some 1) (option_more (commented (b == 42) (bs ++ ys))) ≡ option_ahead (suc (length bs)) (commented f ys)
    go false k ih = ap option_more (ih k) ∙ more_option (length bs) (commented f ys)
    go true k ih = absurd (cc)

pub scan_comment-append : (s : Bool) (xs ys : List ℕ) (f : Bool) → scan_comment s xs ≡ Some f → scan_comment s (xs ++ ys) ≡ scan_comment f ys
scan_comment-append s [] ys f h = let same : s ≡ f = cc in rw same refl
scan_comment-append s (b ∷ bs) ys f h = go (s && (b == 41)) h (λ k. scan_comment-append (b == 42) bs ys f k)
  where
    go : (c : Bool) → cond c None (scan_comment (b == 42) bs) ≡ Some f → (scan_comment (b == 42) bs ≡ Some f → scan_comment (b == 42) (bs ++ ys) ≡ scan_comment f ys) → cond c None (scan_comment (b == 42) (bs ++ ys)) ≡ scan_comment f ys
    go false k ih = ih k
    go true k ih = absurd (cc)

-- ---- what stands in front then

text_first : (pieces rest : List ℕ) → front_of 34 (pieces ++ rest) ≡ of_text (quoted_length false (pieces ++ rest))
unfolding front_of
text_first pieces rest = refl

-- a text that is closed
pub tokens-text : (p : Place) (pieces rest : List ℕ) → scan_text false pieces ≡ Some false
    → tokens_from 0 p ((34 ∷ pieces ++ 34 ∷ []) ++ rest) ≡ record { kind = kinds.Text; text = 34 ∷ pieces ++ 34 ∷ []; place = p } ∷ tokens_from 0 (past p (34 ∷ pieces ++ 34 ∷ [])) rest
tokens-text p pieces rest h =
    token_front (34 ∷ pieces ++ 34 ∷ []) rest p kinds.Text (1 + length pieces + 1) (omega arith) (omega (arith, length-append pieces (34 ∷ [])))
    (ap (λ (xs : List ℕ). front_of 34 xs) (append_assoc pieces (34 ∷ []) rest) ∙ text_first pieces (34 ∷ rest) ∙ ap of_text (quoted_scan false pieces (34 ∷ rest) false h))

-- a text that isn't
pub tokens-open_text : (p : Place) (pieces : List ℕ) (f : Bool) → scan_text false pieces ≡ Some f → tokens_from 0 p (34 ∷ pieces) ≡ record { kind = kinds.Broken OpenText; text = []; place = p } ∷ []
tokens-open_text p pieces f h =
    at_fault (34 ∷ pieces) p OpenText (omega arith)
    (ap (λ (xs : List ℕ). front_of 34 xs) (sym (append-nil pieces)) ∙ text_first pieces [] ∙ ap of_text (quoted_scan false pieces [] f h ∙ none_left f))
  where
    none_left : (f : Bool) → ahead (length pieces) (quoted_length f []) ≡ Err OpenText
    none_left true = refl
    none_left false = refl

-- a text with a wrong escape
pub tokens-bad_text : (p : Place) (pieces : List ℕ) (c : ℕ) (rest : List ℕ) → scan_text false pieces ≡ Some true → is_escape c ≡ false → tokens_from 0 p (34 ∷ pieces ++ c ∷ rest) ≡ record { kind = kinds.Broken BadCharacter; text = []; place = p } ∷ []
tokens-bad_text p pieces c rest h e =
    at_fault (34 ∷ pieces ++ c ∷ rest) p BadCharacter (omega arith)
    (text_first pieces (c ∷ rest) ∙ ap of_text (quoted_scan false pieces (c ∷ rest) true h ∙ ap (λ b. ahead (length pieces) (cond b (one_more (quoted_length false rest)) (Err BadCharacter))) e))

comment_first : (rest : List ℕ) → front_of 40 (42 ∷ rest) ≡ of_comment (commented false rest)
unfolding front_of
comment_first rest = refl

-- a comment that is closed
pub tokens-comment : (p : Place) (inside rest : List ℕ) → scan_comment false inside ≡ Some true
    → tokens_from 0 p ((40 ∷ 42 ∷ inside ++ 41 ∷ []) ++ rest) ≡ tokens_from 0 (past p (40 ∷ 42 ∷ inside ++ 41 ∷ [])) rest
tokens-comment p inside rest h =
    let text : List ℕ = 40 ∷ 42 ∷ inside ++ 41 ∷ [] in
    let n = 1 + length inside + 2 in
    let is : n ≡ length text = omega (arith, length-append inside (41 ∷ [])) in
    at_gap (text ++ rest) p n (omega arith) (omega (arith, length-append text rest))
    (ap (λ (xs : List ℕ). front_of 40 (42 ∷ xs)) (append_assoc inside (41 ∷ []) rest) ∙ comment_first (inside ++ 41 ∷ rest) ∙ ap of_comment (commented_scan false inside (41 ∷ rest) true h))
    ∙ ap (λ (k : ℕ). tokens_from 0 (past p (take k (text ++ rest))) (drop k (text ++ rest))) is
    ∙ ap (λ (xs : List ℕ). tokens_from 0 (past p xs) (drop (length text) (text ++ rest))) (take-append_seam text rest)
    ∙ ap (λ (xs : List ℕ). tokens_from 0 (past p text) xs) (drop-append_seam text rest)

-- a comment that isn't
pub tokens-open_comment : (p : Place) (inside : List ℕ) (f : Bool) → scan_comment false inside ≡ Some f → tokens_from 0 p (40 ∷ 42 ∷ inside) ≡ record { kind = kinds.Broken OpenComment; text = []; place = p } ∷ []
tokens-open_comment p inside f h =
    at_fault (40 ∷ 42 ∷ inside) p OpenComment (omega arith)
    (ap (λ (xs : List ℕ). front_of 40 (42 ∷ xs)) (sym (append-nil inside)) ∙ comment_first (inside ++ []) ∙ ap of_comment (commented_scan false inside [] f h))
