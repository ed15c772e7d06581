-- No token of the bytes that are pending is settled: by what follows, another comes first.
use Rattle.std.proofs.Common.{◌≡◌, ℕ, zero, suc, ◌+◌, ◌<◌, ◌≤◌, ◌⊎◌, inl, inr, ⊎_elim, Bool, true, false, cond, List, [], ◌∷◌, ◌++◌, length, Some, refl, sym, ap, subst, ◌∙◌, arith, IsUtf8, append_assoc, length-append}
use Rattle.std.specs.Prelude.{◌==◌, ◌&&◌, nat_le, nat_lt}
use Rattle.std.specs.Str.{StartsWithNoChar}
use Rattle.std.specs.List.{AllByRecursion}
use Rattle.std.proofs.lemmas.Bool.{eqb-true}
use Rattle.std.proofs.lemmas.List.{append-nil, append_cancel_left, map-append, nil_from_length}
use Rattle.std.proofs.lemmas.Str.{IsUtf8-append}
use Rattle.xd_base.specs.declared.Place.{Place}
use Rattle.xd_doc.specs.Word.{is_word}
use Rattle.xd_lex.specs.declared.Kind.{Kind}
use Rattle.xd_lex.specs.declared.Kind.TheVariants as kinds
use Rattle.xd_lex.specs.declared.LexFault.TheVariants.{BadCharacter, OpenText, OpenComment}
use Rattle.xd_lex.specs.Tokens.{Lexeme, after, past, tokens_from}
use Rattle.xd_lex.proofs.Symbols.{a_word, paren_l}
use Rattle.xd_read.specs.Grammar.{Terminal, Spells}
use Rattle.xd_read.specs.Reading.{terminal_of, terminals_of}
use Rattle.xd_stream.specs.StopByState.{BeginsAccepted}
use Rattle.xd_stream.specs.Stop.{tokens_at}
use Rattle.xd_stream.specs.Fed.{AreSettled, AreWhole}
use Rattle.xd_stream.specs.Pending.{HasShape, StandsBehind, scan_text, scan_comment}
use Rattle.xd_stream.specs.declared.machine.Mode.{Mode}
use Rattle.xd_stream.specs.declared.machine.Mode.TheVariants as modes
use Rattle.xd_stream.specs.declared.machine.Machine.{Machine}
use Rattle.xd_stream.proofs.StopsLemmas.{nothing_left, some_partial}
use Rattle.xd_stream.proofs.IsPartialLemmas.{IsFinish, finish}
use Rattle.xd_stream.proofs.InFront.{ascii_utf8, bad_text_at, broken_comment_at, broken_text_at, comma_at, comment_at, label_at, text_at}
use Rattle.xd_stream.proofs.Inside.{scan_text-wide, scan_comment-wide, wide_no_escape}
use Rattle.xd_stream.proofs.TokensAtLemmas.{at_end}
use Rattle.xd_stream.proofs.TextFrontLemmas.{tokens-open_text, tokens-open_comment, scan_text-append, scan_comment-append}
use Rattle.xd_stream.proofs.WideBytes.{nothing_partial, partial_none}

-- ---- places grow

abbrev IsBefore : Place → Place → Type 0
IsBefore p q = (p.line < q.line) ⊎ ((p.line ≡ q.line) × (p.column ≤ q.column))

grown : (t c : Bool) (p : Place) → IsBefore p (cond t (record { line = p.line + 1; column = 1 }) (cond c p (record { line = p.line; column = p.column + 1 })))
grown true c p = inl (omega arith)
grown false true p = inr (refl, omega arith)
grown false false p = inr (refl, omega arith)

after_grows : (p : Place) (b : ℕ) → IsBefore p (after p b)
after_grows p b = grown (b == 10) (nat_le 128 b && nat_lt b 192) p

both_grow : (p q r : Place) → IsBefore p q → IsBefore q r → IsBefore p r
both_grow p q r (inl a) (inl b) = inl (omega arith)
both_grow p q r (inl a) (inr b) = inl (omega (arith, b.0))
both_grow p q r (inr a) (inl b) = inl (omega (arith, a.0))
both_grow p q r (inr a) (inr b) = inr (a.0 ∙ b.0, omega (arith, a.1, b.1))

past_grows : (p : Place) (bs : List ℕ) → IsBefore p (past p bs)
past_grows p [] = inr (refl, omega arith)
past_grows p (b ∷ bs) = both_grow p (after p b) (past (after p b) bs) (after_grows p b) (past_grows (after p b) bs)

text_moves : (p : Place) (pieces : List ℕ) → past p (34 ∷ pieces) ≡ p → ⊥
text_moves p pieces e = go (subst (IsBefore (record { line = p.line; column = p.column + 1 })) e (past_grows (record { line = p.line; column = p.column + 1 }) pieces))
  where
    go : IsBefore (record { line = p.line; column = p.column + 1 }) p → ⊥
    go (inl a) = omega arith
    go (inr a) = omega (arith, a.1)

-- ---- two first tokens

pub head_same : (a b : Lexeme) (xs ys : List Lexeme) → a ∷ xs ≡ b ∷ ys → a ≡ b
head_same a b xs ys e = cc

abbrev pub IsFirstOf : Place → List ℕ → Lexeme → Type 0
IsFirstOf p pending x = (more : List ℕ) → (rest : List Lexeme) × (tokens_at p (pending ++ more) ≡ x ∷ rest)

first_is : (p : Place) (pending : List ℕ) (x : Lexeme) → IsFirstOf p pending x → (more : List ℕ) (y : Lexeme) (ys : List Lexeme) → tokens_at p (pending ++ more) ≡ y ∷ ys → x ≡ y
first_is p pending x settled more y ys e = let s = settled more in head_same x y s.0 ys (sym s.1 ∙ e)

-- nothing is pending
between_open : (p : Place) (x : Lexeme) → IsFirstOf p [] x → ⊥
between_open p x f =
    let a : x ≡ record { kind = kinds.End; text = []; place = p } = first_is p [] x f [] (record { kind = kinds.End; text = []; place = p }) [] (nothing_left p) in
    let b : x ≡ record { kind = kinds.Comma; text = 44 ∷ []; place = p } = first_is p [] x f (44 ∷ []) (record { kind = kinds.Comma; text = 44 ∷ []; place = p }) (tokens_at (past p (44 ∷ [])) []) (comma_at p []) in
    let k : kinds.End ≡ kinds.Comma = sym (ap (λ (y : Lexeme). y.kind) a) ∙ ap (λ (y : Lexeme). y.kind) b in cc

paren_open : (p : Place) (x : Lexeme) → IsFirstOf p (40 ∷ []) x → ⊥
paren_open p x f =
    let u : IsUtf8 (40 ∷ 42 ∷ 42 ∷ 41 ∷ []) =
    IsUtf8-append (40 ∷ []) (42 ∷ 42 ∷ 41 ∷ []) (ascii_utf8 40 (omega arith)) (IsUtf8-append (42 ∷ []) (42 ∷ 41 ∷ []) (ascii_utf8 42 (omega arith)) (IsUtf8-append (42 ∷ []) (41 ∷ []) (ascii_utf8 42 (omega arith)) (ascii_utf8 41 (omega arith)))) in
    let a : x ≡ record { kind = kinds.ParenL; text = 40 ∷ []; place = p } =
    first_is p (40 ∷ []) x f [] (record { kind = kinds.ParenL; text = 40 ∷ []; place = p }) (tokens_from 0 (past p (40 ∷ [])) []) (at_end p (40 ∷ []) (ascii_utf8 40 (omega arith)) ∙ paren_l [] refl p) in
    let b : x ≡ record { kind = kinds.End; text = []; place = past p (40 ∷ 42 ∷ 42 ∷ 41 ∷ []) } =
    first_is p (40 ∷ []) x f (42 ∷ 42 ∷ 41 ∷ []) (record { kind = kinds.End; text = []; place = past p (40 ∷ 42 ∷ 42 ∷ 41 ∷ []) }) []
    (comment_at p (42 ∷ []) u refl [] ∙ nothing_left (past p (40 ∷ 42 ∷ 42 ∷ 41 ∷ []))) in
    let k : kinds.ParenL ≡ kinds.End = sym (ap (λ (y : Lexeme). y.kind) a) ∙ ap (λ (y : Lexeme). y.kind) b in cc

word_open : (p : Place) (w : List ℕ) (x : Lexeme) → IsUtf8 w → is_word w ≡ true → IsFirstOf p w x → ⊥
word_open p w x u h f =
    let a : x ≡ record { kind = kinds.Word; text = w; place = p } =
    first_is p w x f [] (record { kind = kinds.Word; text = w; place = p }) (tokens_from 0 (past p w) [])
    (ap (tokens_at p) (append-nil w) ∙ at_end p w u ∙ ap (tokens_from 0 p) (sym (append-nil w)) ∙ a_word w [] h (record { no_part = refl; no_bracket = refl }) p) in
    let b : x ≡ record { kind = kinds.Label; text = w ++ 91 ∷ []; place = p } =
    first_is p w x f (91 ∷ []) (record { kind = kinds.Label; text = w ++ 91 ∷ []; place = p }) (tokens_at (past p (w ++ 91 ∷ [])) [])
    (ap (tokens_at p) (sym (append-nil (w ++ 91 ∷ []))) ∙ label_at p w (IsUtf8-append w (91 ∷ []) u (ascii_utf8 91 (omega arith))) h []) in
    let k : kinds.Word ≡ kinds.Label = sym (ap (λ (y : Lexeme). y.kind) a) ∙ ap (λ (y : Lexeme). y.kind) b in cc

-- a text, with bytes that close it
text_closed : (p : Place) (pieces more : List ℕ) (x : Lexeme) (k : Kind) → IsFirstOf p (34 ∷ pieces) x → IsUtf8 (34 ∷ (pieces ++ more) ++ 34 ∷ []) → scan_text false (pieces ++ more) ≡ Some false → x.kind ≡ k → (kinds.Text ≡ k → ⊥) → ⊥
text_closed p pieces more x k f u scan is other =
    let t : List ℕ = 34 ∷ (pieces ++ more) ++ 34 ∷ [] in
    let e : (34 ∷ pieces) ++ (more ++ 34 ∷ []) ≡ t ++ [] = ap (λ (xs : List ℕ). 34 ∷ xs) (sym (append_assoc pieces more (34 ∷ []))) ∙ sym (append-nil t) in
    let b : x ≡ record { kind = kinds.Text; text = t; place = p } =
    first_is p (34 ∷ pieces) x f (more ++ 34 ∷ []) (record { kind = kinds.Text; text = t; place = p }) (tokens_at (past p t) []) (ap (tokens_at p) e ∙ text_at p (pieces ++ more) u scan []) in
    other (sym (ap (λ (y : Lexeme). y.kind) b) ∙ is)

text_open : (p : Place) (pieces : List ℕ) (e : Bool) (x : Lexeme) → IsUtf8 (34 ∷ pieces) → scan_text false pieces ≡ Some e → IsFirstOf p (34 ∷ pieces) x → ⊥
text_open p pieces e x u scan f =
    let a : x ≡ record { kind = kinds.Broken OpenText; text = []; place = p } =
    first_is p (34 ∷ pieces) x f [] (record { kind = kinds.Broken OpenText; text = []; place = p }) []
    (ap (tokens_at p) (append-nil (34 ∷ pieces)) ∙ at_end p (34 ∷ pieces) u ∙ tokens-open_text p pieces e scan) in
    go e scan (ap (λ (y : Lexeme). y.kind) a)
  where
    go : (t : Bool) → scan_text false pieces ≡ Some t → x.kind ≡ kinds.Broken OpenText → ⊥
    go false s k =
        text_closed p pieces [] x (kinds.Broken OpenText) f
        (subst (λ (xs : List ℕ). IsUtf8 (34 ∷ xs ++ 34 ∷ [])) (sym (append-nil pieces)) (IsUtf8-append (34 ∷ pieces) (34 ∷ []) u (ascii_utf8 34 (omega arith))))
        (ap (scan_text false) (append-nil pieces) ∙ s) k (λ c. cc)
    go true s k =
        text_closed p pieces (110 ∷ []) x (kinds.Broken OpenText) f
        (IsUtf8-append (34 ∷ pieces ++ 110 ∷ []) (34 ∷ []) (IsUtf8-append (34 ∷ pieces) (110 ∷ []) u (ascii_utf8 110 (omega arith))) (ascii_utf8 34 (omega arith)))
        (scan_text-append false pieces (110 ∷ []) true s) k (λ c. cc)

text_cut : (p : Place) (pieces us : List ℕ) (e : Bool) (x : Lexeme) → IsUtf8 (34 ∷ pieces) → scan_text false pieces ≡ Some e → 0 < length us → StartsWithNoChar us → IsFinish us → IsFirstOf p (34 ∷ pieces ++ us) x → ⊥
text_cut p pieces us e x u scan some none finish f =
    let a : x ≡ record { kind = kinds.Broken BadCharacter; text = []; place = past p (34 ∷ pieces) } =
    first_is p (34 ∷ pieces ++ us) x f [] (record { kind = kinds.Broken BadCharacter; text = []; place = past p (34 ∷ pieces) }) []
    (ap (tokens_at p) (append-nil (34 ∷ pieces ++ us)) ∙ broken_text_at p pieces us e u scan some none) in
    go e scan a
  where
    v : IsUtf8 (34 ∷ pieces ++ (us ++ finish.rest))
    v = IsUtf8-append (34 ∷ pieces) (us ++ finish.rest) u finish.utf8

    g : (more : List ℕ) → (rest : List Lexeme) × (tokens_at p ((34 ∷ pieces ++ (us ++ finish.rest)) ++ more) ≡ x ∷ rest)
    g more = subst (λ (xs : List ℕ). (rest : List Lexeme) × (tokens_at p xs ≡ x ∷ rest))
        (append_assoc (34 ∷ pieces) us (finish.rest ++ more) ∙ ap (λ (xs : List ℕ). (34 ∷ pieces) ++ xs) (sym (append_assoc us finish.rest more)) ∙ sym (append_assoc (34 ∷ pieces) (us ++ finish.rest) more))
        (f (finish.rest ++ more))

    go : (t : Bool) → scan_text false pieces ≡ Some t → x ≡ record { kind = kinds.Broken BadCharacter; text = []; place = past p (34 ∷ pieces) } → ⊥
    go false s a =
        text_closed p (pieces ++ (us ++ finish.rest)) [] x (kinds.Broken BadCharacter) g
        (subst (λ (xs : List ℕ). IsUtf8 (34 ∷ xs ++ 34 ∷ [])) (sym (append-nil (pieces ++ (us ++ finish.rest)))) (IsUtf8-append (34 ∷ pieces ++ (us ++ finish.rest)) (34 ∷ []) v (ascii_utf8 34 (omega arith))))
        (ap (scan_text false) (append-nil (pieces ++ (us ++ finish.rest))) ∙ scan_text-append false pieces (us ++ finish.rest) false s ∙ scan_text-wide (us ++ finish.rest) finish.wide.wide)
        (ap (λ (y : Lexeme). y.kind) a) (λ c. cc)
    go true s a =
        let w : AllByRecursion (λ y. 128 ≤ y) (finish.wide.first ∷ finish.wide.rest) = subst (AllByRecursion (λ y. 128 ≤ y)) finish.wide.is finish.wide.wide in
        let b : x ≡ record { kind = kinds.Broken BadCharacter; text = []; place = p } =
        first_is p (34 ∷ pieces ++ (us ++ finish.rest)) x g [] (record { kind = kinds.Broken BadCharacter; text = []; place = p }) []
        (ap (λ (xs : List ℕ). tokens_at p ((34 ∷ pieces ++ xs) ++ [])) finish.wide.is
        ∙ bad_text_at p pieces finish.wide.first finish.wide.rest (subst (λ (xs : List ℕ). IsUtf8 (34 ∷ pieces ++ xs)) finish.wide.is v) s (wide_no_escape finish.wide.first w.0) []) in
        text_moves p pieces (sym (ap (λ (y : Lexeme). y.place) a) ∙ ap (λ (y : Lexeme). y.place) b)

-- a comment, with bytes that close it
comment_closed : (p : Place) (inside : List ℕ) (s : Bool) (x : Lexeme) (k : Kind) → IsFirstOf p (40 ∷ 42 ∷ inside) x → IsUtf8 (40 ∷ 42 ∷ inside) → scan_comment false inside ≡ Some s → x.kind ≡ k → (kinds.End ≡ k → ⊥) → ⊥
comment_closed p inside s x k f u scan is other =
    let t : List ℕ = 40 ∷ 42 ∷ (inside ++ 42 ∷ []) ++ 41 ∷ [] in
    let e : (40 ∷ 42 ∷ inside) ++ (42 ∷ 41 ∷ []) ≡ t ++ [] = ap (λ (xs : List ℕ). 40 ∷ 42 ∷ xs) (sym (append_assoc inside (42 ∷ []) (41 ∷ []))) ∙ sym (append-nil t) in
    let v : IsUtf8 t = IsUtf8-append (40 ∷ 42 ∷ inside ++ 42 ∷ []) (41 ∷ []) (IsUtf8-append (40 ∷ 42 ∷ inside) (42 ∷ []) u (ascii_utf8 42 (omega arith))) (ascii_utf8 41 (omega arith)) in
    let b : x ≡ record { kind = kinds.End; text = []; place = past p t } =
    first_is p (40 ∷ 42 ∷ inside) x f (42 ∷ 41 ∷ []) (record { kind = kinds.End; text = []; place = past p t }) []
    (ap (tokens_at p) e ∙ comment_at p (inside ++ 42 ∷ []) v (scan_comment-append false inside (42 ∷ []) s scan ∙ star s) [] ∙ nothing_left (past p t)) in
    other (sym (ap (λ (y : Lexeme). y.kind) b) ∙ is)
  where
    star : (s : Bool) → scan_comment s (42 ∷ []) ≡ Some true
    star true = refl
    star false = refl

comment_open : (p : Place) (inside : List ℕ) (s : Bool) (x : Lexeme) → IsUtf8 (40 ∷ 42 ∷ inside) → scan_comment false inside ≡ Some s → IsFirstOf p (40 ∷ 42 ∷ inside) x → ⊥
comment_open p inside s x u scan f =
    let a : x ≡ record { kind = kinds.Broken OpenComment; text = []; place = p } =
    first_is p (40 ∷ 42 ∷ inside) x f [] (record { kind = kinds.Broken OpenComment; text = []; place = p }) []
    (ap (tokens_at p) (append-nil (40 ∷ 42 ∷ inside)) ∙ at_end p (40 ∷ 42 ∷ inside) u ∙ tokens-open_comment p inside s scan) in
    comment_closed p inside s x (kinds.Broken OpenComment) f u scan (ap (λ (y : Lexeme). y.kind) a) (λ c. cc)

comment_cut : (p : Place) (inside us : List ℕ) (s : Bool) (x : Lexeme) → IsUtf8 (40 ∷ 42 ∷ inside) → scan_comment false inside ≡ Some s → 0 < length us → StartsWithNoChar us → IsFinish us → IsFirstOf p (40 ∷ 42 ∷ inside ++ us) x → ⊥
comment_cut p inside us s x u scan some none finish f =
    let a : x ≡ record { kind = kinds.Broken BadCharacter; text = []; place = past p (40 ∷ 42 ∷ inside) } =
    first_is p (40 ∷ 42 ∷ inside ++ us) x f [] (record { kind = kinds.Broken BadCharacter; text = []; place = past p (40 ∷ 42 ∷ inside) }) []
    (ap (tokens_at p) (append-nil (40 ∷ 42 ∷ inside ++ us)) ∙ broken_comment_at p inside us s u scan some none) in
    comment_closed p (inside ++ (us ++ finish.rest)) false x (kinds.Broken BadCharacter) g (IsUtf8-append (40 ∷ 42 ∷ inside) (us ++ finish.rest) u finish.utf8)
    (scan_comment-append false inside (us ++ finish.rest) s scan ∙ wide) (ap (λ (y : Lexeme). y.kind) a) (λ c. cc)
  where
    g : (more : List ℕ) → (rest : List Lexeme) × (tokens_at p ((40 ∷ 42 ∷ inside ++ (us ++ finish.rest)) ++ more) ≡ x ∷ rest)
    g more = subst (λ (xs : List ℕ). (rest : List Lexeme) × (tokens_at p xs ≡ x ∷ rest))
        (append_assoc (40 ∷ 42 ∷ inside) us (finish.rest ++ more) ∙ ap (λ (xs : List ℕ). (40 ∷ 42 ∷ inside) ++ xs) (sym (append_assoc us finish.rest more)) ∙ sym (append_assoc (40 ∷ 42 ∷ inside) (us ++ finish.rest) more))
        (f (finish.rest ++ more))

    wide : scan_comment s (us ++ finish.rest) ≡ Some false
    wide =
        ap (scan_comment s) finish.wide.is
        ∙ scan_comment-wide s finish.wide.first finish.wide.rest (subst (AllByRecursion (λ y. 128 ≤ y)) finish.wide.is finish.wide.wide)

-- ---- what is pending is open

pub none_settled : (m : Machine) (bytes : List ℕ) (h : StandsBehind m bytes) (x : Lexeme) → IsFirstOf h.from h.pending x → ⊥
none_settled m bytes h x f = go m.mode h.pends.shape (m.awaited.left == 0) refl
  where
    p : Place
    p = h.from

    at : (xs : List ℕ) → h.pending ≡ xs → IsFirstOf p xs x
    at xs e = subst (λ (ys : List ℕ). IsFirstOf p ys x) e f

    front_at : (xs : List ℕ) → h.pends.front ≡ xs → IsUtf8 xs
    front_at xs e = subst IsUtf8 e h.pends.utf8

    us : List ℕ
    us = h.pends.partial

    whole : us ≡ [] → (xs : List ℕ) → h.pends.front ≡ xs → h.pending ≡ xs
    whole e xs i = h.pends.parts ∙ ap (λ (ys : List ℕ). h.pends.front ++ ys) e ∙ append-nil h.pends.front ∙ i

    parts : (xs : List ℕ) → h.pends.front ≡ xs → h.pending ≡ xs ++ us
    parts xs i = h.pends.parts ∙ ap (λ (ys : List ℕ). ys ++ us) i

    left : (m.awaited.left == 0) ≡ false → 0 < m.awaited.left
    left e = some m.awaited.left e
      where
        some : (n : ℕ) → (n == 0) ≡ false → 0 < n
        some zero k = absurd (cc)
        some (suc n) k = omega arith

    go : (mode : Mode) → HasShape mode m.held.items h.pends.front h.pends.partial → (t : Bool) → (m.awaited.left == 0) ≡ t → ⊥
    go modes.Between s t e = between_open p x (at [] (whole s.1 [] s.0))
    go modes.Paren s t e = paren_open p x (at (40 ∷ []) (whole s.1 (40 ∷ []) s.0))
    go modes.Word s t e = word_open p h.pends.front x h.pends.utf8 s.0 (at h.pends.front (whole s.2 h.pends.front refl))
    go (modes.Text q) s true e = text_open p s.0 q x (front_at (34 ∷ s.0) s.1) s.2 (at (34 ∷ s.0) (whole (nothing_partial m.awaited us (eqb-true m.awaited.left 0 e) h.pends.awaits) (34 ∷ s.0) s.1))
    go (modes.Text q) s false e =
        text_cut p s.0 us q x (front_at (34 ∷ s.0) s.1) s.2 (some_partial m.awaited us (left e) h.pends.awaits) (partial_none m.awaited us (left e) h.pends.awaits) (finish m.awaited us (left e) h.pends.awaits) (at (34 ∷ s.0 ++ us) (parts (34 ∷ s.0) s.1))
    go (modes.Comment q) s true e = comment_open p s.0 q x (front_at (40 ∷ 42 ∷ s.0) s.1) s.2 (at (40 ∷ 42 ∷ s.0) (whole (nothing_partial m.awaited us (eqb-true m.awaited.left 0 e) h.pends.awaits) (40 ∷ 42 ∷ s.0) s.1))
    go (modes.Comment q) s false e =
        comment_cut p s.0 us q x (front_at (40 ∷ 42 ∷ s.0) s.1) s.2 (some_partial m.awaited us (left e) h.pends.awaits) (partial_none m.awaited us (left e) h.pends.awaits) (finish m.awaited us (left e) h.pends.awaits) (at (40 ∷ 42 ∷ s.0 ++ us) (parts (40 ∷ 42 ∷ s.0) s.1))

-- ---- what is settled is a front of the tokens

-- where one list goes further than the other
pub record GoesOn (ts us : List Lexeme) : Type 0 where
  pub token : Lexeme
  pub rest : List Lexeme
  pub is : ts ≡ us ++ token ∷ rest

pub fronts : (ts us a b : List Lexeme) → ts ++ a ≡ us ++ b → ((rest : List Lexeme) × (us ≡ ts ++ rest)) ⊎ GoesOn ts us
fronts [] us a b e = inl (us, refl)
fronts (t ∷ ts) [] a b e = inr (record { token = t; rest = ts; is = refl })
fronts (t ∷ ts) (u ∷ us) a b e = ⊎_elim
    (λ r. inl (r.0, ap (λ (xs : List Lexeme). u ∷ xs) r.1 ∙ ap (λ x. x ∷ ts ++ r.0) (sym (head_same t u (ts ++ a) (us ++ b) e))))
    (λ g. inr (record { token = g.token; rest = g.rest; is = ap (λ (xs : List Lexeme). t ∷ xs) g.is ∙ ap (λ x. x ∷ us ++ g.token ∷ g.rest) (head_same t u (ts ++ a) (us ++ b) e) }))
    (fronts ts us a b (tail_same t u (ts ++ a) (us ++ b) e))
  where
    tail_same : (a b : Lexeme) (xs ys : List Lexeme) → a ∷ xs ≡ b ∷ ys → xs ≡ ys
    tail_same a b xs ys e = cc

pub settled_front : (m : Machine) (bytes : List ℕ) (h : StandsBehind m bytes) (ts : List Lexeme) → AreSettled bytes ts → (rest : List Lexeme) × (h.tokens ≡ ts ++ rest)
settled_front m bytes h ts settled = ⊎_elim (λ r. r) (λ g. absurd (further g)) (fronts ts h.tokens (settled []).0 (tokens_at h.from (h.pending ++ [])) (sym (settled []).1 ∙ h.lexed []))
  where
    further : GoesOn ts h.tokens → ⊥
    further g = none_settled m bytes h g.token (λ more.
        let s = settled more in (
          g.rest ++ s.0,
          append_cancel_left h.tokens (tokens_at h.from (h.pending ++ more)) (g.token ∷ g.rest ++ s.0)
              (sym (h.lexed more) ∙ s.1 ∙ ap (λ (xs : List Lexeme). xs ++ s.0) g.is ∙ append_assoc h.tokens (g.token ∷ g.rest) s.0),
        ))

-- the tokens that it stands for are the whole ones
pub whole_tokens : (m : Machine) (bytes : List ℕ) (h : StandsBehind m bytes) (ts : List Lexeme) → AreWhole bytes ts → h.tokens ≡ ts
whole_tokens m bytes h ts w =
    let r = settled_front m bytes h ts w.settled in
    let le : length h.tokens ≤ length ts = w.most h.tokens (λ more. (tokens_at h.from (h.pending ++ more), h.lexed more)) in
    r.1 ∙ ap (λ (xs : List Lexeme). ts ++ xs) (nil_from_length r.0 (omega (arith, ap length r.1, length-append ts r.0))) ∙ append-nil ts

pub are_whole : (m : Machine) (bytes : List ℕ) (h : StandsBehind m bytes) → AreWhole bytes h.tokens
are_whole m bytes h = record {
  settled = λ more. (tokens_at h.from (h.pending ++ more), h.lexed more);
  most = λ others s. let r = settled_front m bytes h others s in omega (arith, ap length r.1, length-append others r.0);
}

-- a front of what begins an accepted document begins it too
pub begins_front : (m : Machine) (bytes : List ℕ) (h : StandsBehind m bytes) (before : List Lexeme) (x : Lexeme) → AreSettled bytes (before ++ x ∷ []) → BeginsAccepted m.validator.automaton m.validator.start (terminals_of (before ++ x ∷ []))
begins_front m bytes h before x s = go (settled_front m bytes h (before ++ x ∷ []) s) h.gone.goes
  where
    go : ((rest : List Lexeme) × (h.tokens ≡ (before ++ x ∷ []) ++ rest)) → (h.tokens ≡ []) ⊎ BeginsAccepted m.validator.automaton m.validator.start (terminals_of h.tokens) → BeginsAccepted m.validator.automaton m.validator.start (terminals_of (before ++ x ∷ []))
    go r (inl e) = absurd (let l : length h.tokens ≡ 0 = ap length e in omega (arith, l, ap length r.1, length-append (before ++ x ∷ []) r.0, length-append before (x ∷ [])))
    go r (inr b) = record {
      more = terminals_of r.0 ++ b.more;
      document = b.document;
      spells = subst (λ (ts : List Terminal). Spells ts b.document) (ap (λ (ts : List Lexeme). terminals_of ts ++ b.more) r.1 ∙ ap (λ (ts : List Terminal). ts ++ b.more) (map-append terminal_of (before ++ x ∷ []) r.0) ∙ append_assoc (terminals_of (before ++ x ∷ [])) (terminals_of r.0) b.more) b.spells;
      within = b.within;
    }
