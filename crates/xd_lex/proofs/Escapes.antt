-- Escapes: what is escaped and put between quotes is one quoted text, and stands for what it was.
use Rattle.std.proofs.Common.{◌≡◌, sym, ℕ, ◌+◌, Bool, true, false, cond, List, [], ◌∷◌, ◌++◌, length, Result, Ok, refl, ap, ◌∙◌, arith, append_assoc, length-append}
use Rattle.std.specs.Prelude.{◌==◌}
use Rattle.xd_doc.specs.Document.{escaped, escaped_all}
use Rattle.xd_lex.specs.declared.LexFault.{LexFault}
use Rattle.xd_lex.specs.Scan.{quoted_length, one_more}
use Rattle.xd_lex.specs.Spelled.{characters, unescaped}
use Rattle.std.proofs.lemmas.Bool.{eqb-true}

-- one escaped character stands for itself
pub characters-escaped : (c : ℕ) (bs : List ℕ) → characters false (escaped c ++ bs) ≡ c ∷ characters false bs
characters-escaped c bs = at_quote (c == 34) refl
  where
    at_tab : (t : Bool) → (c == 9) ≡ t → (c == 34) ≡ false → (c == 92) ≡ false → characters false (cond t (92 ∷ 116 ∷ []) (c ∷ []) ++ bs) ≡ c ∷ characters false bs
    at_tab true e q s = ap (λ (x : ℕ). x ∷ characters false bs) (sym (eqb-true c 9 e))
    at_tab false e q s = rw (q, s) refl

    at_line : (t : Bool) → (c == 10) ≡ t → (c == 34) ≡ false → (c == 92) ≡ false → characters false (cond t (92 ∷ 110 ∷ []) (cond (c == 9) (92 ∷ 116 ∷ []) (c ∷ [])) ++ bs) ≡ c ∷ characters false bs
    at_line true e q s = ap (λ (x : ℕ). x ∷ characters false bs) (sym (eqb-true c 10 e))
    at_line false e q s = at_tab (c == 9) refl q s

    at_slash : (t : Bool) → (c == 92) ≡ t → (c == 34) ≡ false → characters false (cond t (92 ∷ 92 ∷ []) (cond (c == 10) (92 ∷ 110 ∷ []) (cond (c == 9) (92 ∷ 116 ∷ []) (c ∷ []))) ++ bs) ≡ c ∷ characters false bs
    at_slash true e q = ap (λ (x : ℕ). x ∷ characters false bs) (sym (eqb-true c 92 e))
    at_slash false e q = at_line (c == 10) refl q e

    at_quote : (t : Bool) → (c == 34) ≡ t → characters false (cond t (92 ∷ 34 ∷ []) (cond (c == 92) (92 ∷ 92 ∷ []) (cond (c == 10) (92 ∷ 110 ∷ []) (cond (c == 9) (92 ∷ 116 ∷ []) (c ∷ [])))) ++ bs) ≡ c ∷ characters false bs
    at_quote true e = ap (λ (x : ℕ). x ∷ characters false bs) (sym (eqb-true c 34 e))
    at_quote false e = at_slash (c == 92) refl e

characters-escaped_all : (s rest : List ℕ) → characters false (escaped_all s ++ 34 ∷ rest) ≡ s
characters-escaped_all [] rest = refl
characters-escaped_all (c ∷ cs) rest =
    ap (λ (bs : List ℕ). characters false bs) (append_assoc (escaped c) (escaped_all cs) (34 ∷ rest))
    ∙ characters-escaped c (escaped_all cs ++ 34 ∷ rest) ∙ ap (λ (bs : List ℕ). c ∷ bs) (characters-escaped_all cs rest)

-- a text, escaped and quoted, stands for itself
pub unescaped-escaped : (s : List ℕ) → unescaped (34 ∷ escaped_all s ++ 34 ∷ []) ≡ s
unescaped-escaped s = characters-escaped_all s []

-- one escaped character is a piece
quoted-escaped_one : (c n : ℕ) (bs : List ℕ) → quoted_length false bs ≡ Ok n → quoted_length false (escaped c ++ bs) ≡ Ok (length (escaped c) + n)
quoted-escaped_one c n bs h = at_quote (c == 34) refl
  where
    two : one_more (one_more (quoted_length false bs)) ≡ Ok (2 + n)
    two = ap (λ (r : Result ℕ LexFault). one_more (one_more r)) h ∙ ap (λ (k : ℕ). Ok k) (let e : n + 1 + 1 ≡ 2 + n = omega arith in e)

    at_tab : (t : Bool) → (c == 34) ≡ false → (c == 92) ≡ false → quoted_length false (cond t (92 ∷ 116 ∷ []) (c ∷ []) ++ bs) ≡ Ok (length (cond t (92 ∷ 116 ∷ []) (c ∷ [])) + n)
    at_tab true q s = two
    at_tab false q s = rw (q, s) (ap (λ (r : Result ℕ LexFault). one_more r) h ∙ ap (λ (k : ℕ). Ok k) (let e : n + 1 ≡ 1 + n = omega arith in e))

    at_line : (t : Bool) → (c == 34) ≡ false → (c == 92) ≡ false → quoted_length false (cond t (92 ∷ 110 ∷ []) (cond (c == 9) (92 ∷ 116 ∷ []) (c ∷ [])) ++ bs) ≡ Ok (length (cond t (92 ∷ 110 ∷ []) (cond (c == 9) (92 ∷ 116 ∷ []) (c ∷ []))) + n)
    at_line true q s = two
    at_line false q s = at_tab (c == 9) q s

    at_slash : (t : Bool) → (c == 92) ≡ t → (c == 34) ≡ false → quoted_length false (cond t (92 ∷ 92 ∷ []) (cond (c == 10) (92 ∷ 110 ∷ []) (cond (c == 9) (92 ∷ 116 ∷ []) (c ∷ []))) ++ bs) ≡ Ok (length (cond t (92 ∷ 92 ∷ []) (cond (c == 10) (92 ∷ 110 ∷ []) (cond (c == 9) (92 ∷ 116 ∷ []) (c ∷ [])))) + n)
    at_slash true e q = two
    at_slash false e q = at_line (c == 10) q e

    at_quote : (t : Bool) → (c == 34) ≡ t → quoted_length false (cond t (92 ∷ 34 ∷ []) (cond (c == 92) (92 ∷ 92 ∷ []) (cond (c == 10) (92 ∷ 110 ∷ []) (cond (c == 9) (92 ∷ 116 ∷ []) (c ∷ [])))) ++ bs) ≡ Ok (length (cond t (92 ∷ 34 ∷ []) (cond (c == 92) (92 ∷ 92 ∷ []) (cond (c == 10) (92 ∷ 110 ∷ []) (cond (c == 9) (92 ∷ 116 ∷ []) (c ∷ []))))) + n)
    at_quote true e = two
    at_quote false e = at_slash (c == 92) refl e

-- the quoted text ends at the quote that is put after
pub quoted-escaped : (s rest : List ℕ) → quoted_length false (escaped_all s ++ 34 ∷ rest) ≡ Ok (length (escaped_all s) + 1)
quoted-escaped [] rest = refl
quoted-escaped (c ∷ cs) rest =
    ap (λ (bs : List ℕ). quoted_length false bs) (append_assoc (escaped c) (escaped_all cs) (34 ∷ rest))
    ∙ quoted-escaped_one c (length (escaped_all cs) + 1) (escaped_all cs ++ 34 ∷ rest) (quoted-escaped cs rest)
    ∙ ap (λ (k : ℕ). Ok k) (let e : length (escaped c) + (length (escaped_all cs) + 1) ≡ length (escaped c ++ escaped_all cs) + 1 = omega (arith, length-append (escaped c) (escaped_all cs)) in e)
