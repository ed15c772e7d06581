-- What a quoted text stands for is a text.
use Rattle.std.proofs.Common.{◌≡◌, ℕ, ◌<◌, ◌≤◌, ◌⊎◌, ⊎_elim, Bool, true, false, cond, List, [], ◌∷◌, ◌++◌, refl, sym, ap, subst, arith, IsUtf8}
use Rattle.std.specs.Prelude.{◌==◌}
use Rattle.std.specs.List.{AllByRecursion}
use Rattle.std.specs.Str.{is_utf8}
use Rattle.std.proofs.Math.Utf8.{encode, encodes, scalar, scalars, scalar_cases}
use Rattle.std.proofs.lemmas.Bool.{and_from, and_parts, cases_lt, cond_both, ne_eqb}
use Rattle.std.proofs.lemmas.List.{append-nil}
use Rattle.std.proofs.lemmas.Str.{IsCharBoundary-after_ascii, IsUtf8-append, IsUtf8-drop, IsUtf8-nil, encode_ascii, is_utf8-from_IsUtf8}
use Rattle.std.proofs.str.Laws.{Shape, of1, of2, of3, of4, shape}
use Rattle.xd_lex.specs.Spelled.{characters, escape_meaning, unescaped}
use Rattle.xd_stream.proofs.InFront.{ascii_utf8}

-- bytes that aren't ASCII stand for themselves
wide_stay : (xs rest : List ℕ) → AllByRecursion (λ x. 128 ≤ x) xs → characters false (xs ++ rest) ≡ xs ++ characters false rest
wide_stay [] rest h = refl
wide_stay (x ∷ xs) rest h = rw (ne_eqb x 34 (λ e. omega (arith, h.0)), ne_eqb x 92 (λ e. omega (arith, h.0))) (ap (λ (ys : List ℕ). x ∷ ys) (wide_stay xs rest h.1))

wide_character : (e : Bool) (x : ℕ) (xs rest : List ℕ) → AllByRecursion (λ y. 128 ≤ y) (x ∷ xs) → characters e ((x ∷ xs) ++ rest) ≡ (x ∷ xs) ++ characters false rest
wide_character false x xs rest h = wide_stay (x ∷ xs) rest h
wide_character true x xs rest h = rw (ne_eqb x 110 (λ e. omega (arith, h.0)), ne_eqb x 116 (λ e. omega (arith, h.0))) (ap (λ (ys : List ℕ). x ∷ ys) (wide_stay xs rest h.1))

-- the bytes of a character that isn't ASCII
record IsWide (c : ℕ) : Type 0 where
  first : ℕ
  rest : List ℕ
  bytes : encode c ≡ first ∷ rest
  wide : AllByRecursion (λ x. 128 ≤ x) (first ∷ rest)

are_wide : (c : ℕ) → scalar c ≡ true → 128 ≤ c → IsWide c
are_wide c valid h = go (shape c (scalar_cases c valid))
  where
    go : Shape c → IsWide c
    go (of1 lt e) = absurd (omega (arith, lt, h))
    go (of2 x y a b p q e) = record { first = x; rest = y ∷ []; bytes = e; wide = (omega (arith, a), (p.0, tt)) }
    go (of3 x y z a b p q r e) = record { first = x; rest = y ∷ z ∷ []; bytes = e; wide = (omega (arith, a), (p.0, (q.0, tt))) }
    go (of4 x y z w a b p q r s e) = record { first = x; rest = y ∷ z ∷ w ∷ []; bytes = e; wide = (omega (arith, a), (p.0, (q.0, (r.0, tt)))) }

one_utf8 : (c : ℕ) → scalar c ≡ true → IsUtf8 (encode c)
one_utf8 c h = (c ∷ [], (and_from (scalar c) true h refl, append-nil (encode c)))

meaning_ascii : (c : ℕ) → c < 128 → escape_meaning c < 128
meaning_ascii c h = cond_both (c == 110) 10 (cond (c == 116) 9 c) (λ n. n < 128) (λ e. omega arith) (λ e. cond_both (c == 116) 9 c (λ n. n < 128) (λ f. omega arith) (λ f. h))

characters_utf8 : (e : Bool) (cs : List ℕ) → scalars cs ≡ true → IsUtf8 (characters e (encodes cs))
characters_utf8 true [] h = IsUtf8-nil
characters_utf8 false [] h = IsUtf8-nil
characters_utf8 e (c ∷ cs) h =
    let p = and_parts (scalar c) (scalars cs) h in
    go e (characters_utf8 false cs p.1) (characters_utf8 true cs p.1) p.0 (cases_lt c 128)
  where
    ascii : (e : Bool) → IsUtf8 (characters false (encodes cs)) → IsUtf8 (characters true (encodes cs)) → c < 128 → IsUtf8 (characters e (c ∷ encodes cs))
    ascii true plain escaped lt = IsUtf8-append (escape_meaning c ∷ []) (characters false (encodes cs)) (ascii_utf8 (escape_meaning c) (meaning_ascii c lt)) plain
    ascii false plain escaped lt =
        cond_both (c == 34) [] (cond (c == 92) (characters true (encodes cs)) (c ∷ characters false (encodes cs))) IsUtf8 (λ f. IsUtf8-nil)
        (λ f. cond_both (c == 92) (characters true (encodes cs)) (c ∷ characters false (encodes cs)) IsUtf8 (λ g. escaped) (λ g. IsUtf8-append (c ∷ []) (characters false (encodes cs)) (ascii_utf8 c lt) plain))

    wide : (e : Bool) → IsUtf8 (characters false (encodes cs)) → scalar c ≡ true → IsWide c → IsUtf8 (characters e (encode c ++ encodes cs))
    wide e plain valid w =
        subst (λ (xs : List ℕ). IsUtf8 (characters e (xs ++ encodes cs))) (sym w.bytes)
        (subst IsUtf8 (sym (wide_character e w.first w.rest (encodes cs) w.wide))
        (IsUtf8-append (w.first ∷ w.rest) (characters false (encodes cs)) (subst IsUtf8 w.bytes (one_utf8 c valid)) plain))

    go : (e : Bool) → IsUtf8 (characters false (encodes cs)) → IsUtf8 (characters true (encodes cs)) → scalar c ≡ true → (c < 128) ⊎ (128 ≤ c) → IsUtf8 (characters e (encode c ++ encodes cs))
    go e plain escaped valid k = ⊎_elim (λ lt. subst (λ (xs : List ℕ). IsUtf8 (characters e (xs ++ encodes cs))) (sym (encode_ascii c lt)) (ascii e plain escaped lt)) (λ ge. wide e plain valid (are_wide c valid ge)) k

-- what is in the quotes
pub unescaped_utf8 : (inside : List ℕ) → IsUtf8 (34 ∷ inside) → is_utf8 (unescaped (34 ∷ inside)) ≡ true
unescaped_utf8 inside u =
    let v : IsUtf8 inside = IsUtf8-drop (34 ∷ inside) 1 u (IsCharBoundary-after_ascii (34 ∷ inside) 0 u (omega arith) (omega arith)) in
    is_utf8-from_IsUtf8 (unescaped (34 ∷ inside)) (subst (λ (xs : List ℕ). IsUtf8 (characters false xs)) v.1.1 (characters_utf8 false v.0 v.1.0))
