-- What a machine does at bytes in a row that go on with a word or a quoted text.
use Rattle.std.proofs.Common.{◌≡◌, ◌≢◌, ℕ, ◌+◌, ◌<◌, true, false, List, [], ◌∷◌, ◌++◌, length, take, drop, get_or, Some, refl, sym, ap, subst, ◌∙◌, arith, IsUtf8, append_assoc}
use Rattle.std.specs.Prelude.{◌==◌}
use Rattle.std.specs.List.{AllByRecursion}
use Rattle.std.proofs.lemmas.Bool.{and_parts}
use Rattle.std.proofs.lemmas.Bool.Decides.{nat_tests}
use Rattle.std.proofs.Math.Seq.{take-add}
use Rattle.std.proofs.lemmas.List.{take-append-drop}
use Rattle.std.proofs.lemmas.Str.{IsUtf8-append, IsUtf8-nil}
use Rattle.xd_base.specs.declared.Place.{Place}
use Rattle.xd_doc.specs.Word.{are_word_parts, is_word_part}
use Rattle.xd_lex.proofs.Fronts.{word_ascii}
use Rattle.xd_lex.specs.Tokens.{past}
use Rattle.xd_stream.specs.Stop.{told}
use Rattle.xd_stream.specs.Pending.{AreRefused, RefusesAll, RefusesByte, StandsBehind, Stops, Takes, TakesAll, scan_text}
use Rattle.xd_stream.specs.Runs.{GoesOnBy, IsColumnsOn, IsRun, are_plain, is_plain}
use Rattle.xd_stream.specs.Validating.{IsSameFor}
use Rattle.xd_stream.specs.declared.machine.Mode.{Mode}
use Rattle.xd_stream.specs.declared.machine.Mode.TheVariants as modes
use Rattle.xd_stream.specs.declared.machine.Machine.{Machine}
use Rattle.xd_stream.specs.declared.error.StreamError.{StreamError}
use Rattle.xd_stream.proofs.Bytes.{column_after, part_line, refused_same, word_goes_on}
use Rattle.xd_stream.proofs.InFront.{ascii_utf8}
use Rattle.xd_stream.proofs.Inside.{text_goes_on}

-- a byte of one column
abbrev IsNarrow : ℕ → Type 0
IsNarrow b = (b < 128) × (b ≢ 10)

narrow_past : (xs : List ℕ) (p : Place) → AllByRecursion IsNarrow xs → past p xs ≡ record { line = p.line; column = p.column + length xs }
narrow_past [] p h = let at : ℕ → Place = λ n. record { line = p.line; column = n } in let e : p.column ≡ p.column + 0 = omega arith in ap at e
narrow_past (x ∷ xs) p h =
    let at : ℕ → Place = λ n. record { line = p.line; column = n } in
    let e : (p.column + 1) + length xs ≡ p.column + length (x ∷ xs) = omega arith in
    ap (λ q. past q xs) (column_after p x h.0.1 h.0.0) ∙ narrow_past xs (at (p.column + 1)) h.1 ∙ ap at e

narrow_utf8 : (xs : List ℕ) → AllByRecursion IsNarrow xs → IsUtf8 xs
narrow_utf8 [] h = IsUtf8-nil
narrow_utf8 (x ∷ xs) h = IsUtf8-append (x ∷ []) xs (ascii_utf8 x h.0.0) (narrow_utf8 xs h.1)

columns : (xs : List ℕ) (old new : Place) → AllByRecursion IsNarrow xs → IsColumnsOn (length xs) old new → (p : Place) → old ≡ told p → new ≡ told (past p xs)
columns xs old new narrow on p e = on p e ∙ ap told (sym (narrow_past xs p narrow))

-- ---- a quoted text

plain_narrow : (x : ℕ) → is_plain x ≡ true → IsNarrow x
plain_narrow x h = (grind (arith, nat_tests), λ e. let t : is_plain 10 ≡ true = subst (λ n. is_plain n ≡ true) e h in cc)

plain_quote : (x : ℕ) → is_plain x ≡ true → (x == 34) ≡ false
plain_quote x h = grind (arith, nat_tests)

plain_backslash : (x : ℕ) → is_plain x ≡ true → (x == 92) ≡ false
plain_backslash x h = grind (arith, nat_tests)

plain_all : (xs : List ℕ) → are_plain xs ≡ true → AllByRecursion IsNarrow xs
plain_all [] h = tt
plain_all (x ∷ xs) h = let p = and_parts (is_plain x) (are_plain xs) h in (plain_narrow x p.0, plain_all xs p.1)

plain_scan : (xs : List ℕ) → are_plain xs ≡ true → scan_text false xs ≡ Some false
plain_scan [] h = refl
plain_scan (x ∷ xs) h = let p = and_parts (is_plain x) (are_plain xs) h in rw (plain_quote x p.0, plain_backslash x p.0) (plain_scan xs p.1)

-- ---- a word

parts_all : (xs : List ℕ) → are_word_parts xs ≡ true → AllByRecursion IsNarrow xs
parts_all [] h = tt
parts_all (x ∷ xs) h = let p = and_parts (is_word_part x) (are_word_parts xs) h in ((word_ascii x p.0, part_line x p.0), parts_all xs p.1)

-- ---- both

pub run_takes : (m n : Machine) (xs : List ℕ) → IsRun m xs → n.validator ≡ m.validator → n.mode ≡ m.mode → n.awaited ≡ m.awaited → n.begun ≡ m.begun → n.held.items ≡ m.held.items ++ xs → IsColumnsOn (length xs) m.place n.place → TakesAll m xs n
run_takes m n xs run v is w begun held place = go m.mode refl run
  where
    go : (k : Mode) → m.mode ≡ k → GoesOnBy k m.awaited xs → TakesAll m xs n
    go modes.Word e r = word_goes_on m e n xs r (narrow_utf8 xs (parts_all xs r)) v is w begun held (columns xs m.place n.place (parts_all xs r) place)
    go (modes.Text false) e r = text_goes_on m false e n xs false r.0 (narrow_utf8 xs (plain_all xs r.1)) (plain_scan xs r.1) v (is ∙ e) w begun held (columns xs m.place n.place (plain_all xs r.1) place)
    go (modes.Text true) e r = absurd r
    go modes.Between e r = absurd r
    go modes.Paren e r = absurd r
    go (modes.Comment s) e r = absurd r

-- ---- one front after the other

pub takes_both : (m k n : Machine) (xs ys : List ℕ) → TakesAll m xs k → TakesAll k ys n → TakesAll m (xs ++ ys) n
takes_both m k n xs ys f g bytes h = subst (StandsBehind n) (append_assoc bytes xs ys) (g (bytes ++ xs) (f bytes h))

pub refuses_both : (m k : Machine) (xs ys : List ℕ) (e : StreamError) → IsSameFor m.validator k.validator → TakesAll m xs k → RefusesAll k ys e → RefusesAll m (xs ++ ys) e
refuses_both m k xs ys e same f g bytes h =
    subst (λ (zs : List ℕ). AreRefused m zs e) (append_assoc bytes xs ys)
    (refused_same m k ((bytes ++ xs) ++ ys) e same (g (bytes ++ xs) (f bytes h)))

-- what is taken after a front
pub takes_further : (m k n : Machine) (piece : List ℕ) (i j : ℕ) → TakesAll m (take i piece) k → TakesAll k (take j (drop i piece)) n → TakesAll m (take (i + j) piece) n
takes_further m k n piece i j f g = subst (λ (xs : List ℕ). TakesAll m xs n) (sym (take-add i j piece)) (takes_both m k n (take i piece) (take j (drop i piece)) f g)

pub refuses_rest : (m k : Machine) (piece : List ℕ) (i : ℕ) (e : StreamError) → IsSameFor m.validator k.validator → TakesAll m (take i piece) k → RefusesAll k (drop i piece) e → RefusesAll m piece e
refuses_rest m k piece i e same f g = subst (λ (xs : List ℕ). RefusesAll m xs e) (take-append-drop i piece) (refuses_both m k (take i piece) (drop i piece) e same f g)

-- the first byte
pub front_byte : (m n : Machine) (bytes : List ℕ) → 0 < length bytes → Takes m (get_or bytes 0 0) n → TakesAll m (take 1 bytes) n
front_byte m n [] lt f = absurd (omega (arith, lt))
front_byte m n (b ∷ bs) lt f = f

-- what is refused stays so
pub refuses_front : (m : Machine) (bytes : List ℕ) (e : StreamError) → 0 < length bytes → RefusesByte m (get_or bytes 0 0) e → RefusesAll m bytes e
refuses_front m [] e lt f = absurd (omega (arith, lt))
refuses_front m (b ∷ bs) e lt f = λ bytes h more.
    subst (λ (xs : List ℕ). Stops m xs e) (append_assoc bytes (b ∷ []) (bs ++ more) ∙ sym (append_assoc bytes (b ∷ bs) more)) (f bytes h (bs ++ more))
