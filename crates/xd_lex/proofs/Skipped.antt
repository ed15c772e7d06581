-- The loop of `cut`: what it skips, and the token that it finds.
use Rattle.std.proofs.Common.{◌≡◌, ℕ, zero, suc, Bool, true, false, ◌+◌, ◌-◌, ◌^◌, ◌<◌, ◌≤◌, List, [], ◌∷◌, ◌++◌, length, drop, take, refl, sym, ap, subst, ◌∙◌, arith, append_assoc, length-append, IsUtf8}
use Rattle.std.proofs.lemmas.List.{nil_from_length, take-append-drop, take_at}
use Rattle.std.proofs.lemmas.Str.{IsUtf8-drop}
use Rattle.xd_base.specs.declared.Place.{Place}
use Rattle.xd_lex.specs.declared.Kind.{Kind}
use Rattle.xd_lex.specs.declared.Kind.TheVariants as kinds
use Rattle.xd_lex.specs.declared.LexFault.{LexFault}
use Rattle.xd_lex.specs.declared.Front.{Front}
use Rattle.xd_lex.specs.declared.Front.TheVariants as fronts
use Rattle.xd_lex.specs.Scan.{front_of}
use Rattle.xd_lex.specs.Tokens.{Lexeme, past, after, tokens_from}
use Rattle.xd_lex.specs.LexedTokens.{is_last}
use Rattle.xd_lex.specs.Left.{IsPlaced, tokens_left}
use Rattle.xd_lex.specs.Cut.{IsFirstToken}
use Rattle.xd_lex.proofs.Fronts.{Reaches, Fits, fits, boundary}
use Rattle.xd_lex.proofs.Froms.{first, at_gap, at_token, at_fault, past_near}

-- the text is a gap and the rest, and has the tokens that the rest has
pub record Skipped (text rest : List ℕ) : Type 0 where
  pub gap : List ℕ
  pub parts : text ≡ gap ++ rest
  pub same : (p : Place) → tokens_from 0 p text ≡ tokens_from 0 (past p gap) rest
  pub utf8 : IsUtf8 rest

pub reached : (rest : List ℕ) (f : Front) → 0 < length rest → first rest ≡ f → Fits f rest
reached [] f l e = absurd (omega arith)
reached (b ∷ bs) f l e = subst (λ g. Fits g (b ∷ bs)) e (fits b bs)

pub skipped_none : (text : List ℕ) → IsUtf8 text → Skipped text text
skipped_none text u = record { gap = []; parts = refl; same = λ p. refl; utf8 = u }

pub past-append : (p : Place) (xs ys : List ℕ) → past p (xs ++ ys) ≡ past (past p xs) ys
past-append p [] ys = refl
past-append p (x ∷ xs) ys = past-append (after p x) xs ys

-- the first n bytes, and what stands after them
parted : (rest front behind : List ℕ) (n : ℕ) → front ≡ take n rest → behind ≡ drop n rest → rest ≡ front ++ behind
parted rest front behind n f b = rw (f, b) (sym (take-append-drop n rest))

-- one more gap
pub skipped_more : (text rest front behind : List ℕ) (n : ℕ) → Skipped text rest → 0 < length rest → first rest ≡ fronts.Gap n → front ≡ take n rest → behind ≡ drop n rest → Skipped text behind
skipped_more text rest front behind n s l e front_is behind_is =
    let r : Reaches rest n = reached rest (fronts.Gap n) l e in
    record {
      gap = s.gap ++ front;
      parts = s.parts ∙ ap (λ (xs : List ℕ). s.gap ++ xs) (parted rest front behind n front_is behind_is) ∙ sym (append_assoc s.gap front behind);
      same = λ p. s.same p ∙ at_gap rest (past p s.gap) n r.positive r.within e ∙ rw (past-append p s.gap front, front_is, behind_is) refl;
      utf8 = rw behind_is (IsUtf8-drop rest n s.utf8 (boundary rest n s.utf8 r));
    }

-- the token after the gaps
pub token_found : (text rest front behind : List ℕ) (k : Kind) (n : ℕ) → Skipped text rest → 0 < length rest → first rest ≡ fronts.Token k n → front ≡ take n rest → behind ≡ drop n rest → IsFirstToken text k front behind
token_found text rest front behind k n s l e front_is behind_is =
    let f : Fits (fronts.Token k n) rest = reached rest (fronts.Token k n) l e in
    record {
      gap = s.gap;
      parts = s.parts ∙ ap (λ (xs : List ℕ). s.gap ++ xs) (parted rest front behind n front_is behind_is);
      tokens = λ p. s.same p ∙ at_token rest (past p s.gap) k n f.0.positive f.0.within e ∙ rw (f.1, front_is, behind_is) refl;
    }

-- a broken token
pub fault_found : (text rest : List ℕ) (fault : LexFault) → Skipped text rest → 0 < length rest → first rest ≡ fronts.Fault fault → IsFirstToken text (kinds.Broken fault) [] rest
fault_found text rest fault s l e = record { gap = s.gap; parts = s.parts; tokens = λ p. s.same p ∙ at_fault rest (past p s.gap) fault l e }

-- the end of the text
pub end_found : (text rest : List ℕ) → Skipped text rest → length rest ≡ 0 → IsFirstToken text kinds.End [] rest
end_found text rest s l =
    record { gap = s.gap; parts = s.parts; tokens = λ p. s.same p ∙ ap (λ (xs : List ℕ). tokens_from 0 (past p s.gap) xs) (nil_from_length rest l) }

-- how many bytes stand before the token
pub take_gap : (text gap token rest : List ℕ) (n : ℕ) → text ≡ gap ++ (token ++ rest) → n ≡ length text - length rest - length token → take n text ≡ gap
take_gap text gap token rest n e is =
    let l : n ≡ length gap = omega (arith, ap length e, length-append gap (token ++ rest), length-append token rest) in
    rw (e, l) (take_at gap (token ++ rest) (length gap) refl)

-- the token with its place, once what stands before it is known
pub token_placed : (text token rest gap : List ℕ) (kind : Kind) (place here behind : Place) (f : IsFirstToken text kind token rest) → gap ≡ f.gap → here ≡ past place gap → behind ≡ past here token
    → tokens_from 0 place text ≡ record { kind = kind; text = token; place = here } ∷ tokens_left (is_last kind) behind rest
token_placed text token rest gap kind place here behind f g h b = rw (b, h, g) (f.tokens place)

-- how far the places go
len_parts : (text token rest gap : List ℕ) (kind : Kind) (f : IsFirstToken text kind token rest) → gap ≡ f.gap → length text ≡ length gap + (length token + length rest)
len_parts text token rest gap kind f g = rw g (ap length f.parts ∙ length-append f.gap (token ++ rest) ∙ ap (λ (n : ℕ). length f.gap + n) (length-append token rest))

pub token_fits : (text token rest gap : List ℕ) (kind : Kind) (place here : Place) (f : IsFirstToken text kind token rest) → gap ≡ f.gap → here ≡ past place gap → IsPlaced place text
    → ((here).line + length token < 2 ^ 64) × ((here).column + length token < 2 ^ 64)
token_fits text token rest gap kind place here f g h p =
    let near = past_near place gap in
    let len = len_parts text token rest gap kind f g in
    let line : (here).line ≤ place.line + length gap = rw h near.0 in
    let column : (here).column ≤ place.column + length gap = rw h near.1 in
    (omega (arith, p.line), omega (arith, p.column))

pub rest_placed : (text token rest gap : List ℕ) (kind : Kind) (place here behind : Place) (f : IsFirstToken text kind token rest) → gap ≡ f.gap → here ≡ past place gap → behind ≡ past here token → IsUtf8 rest → IsPlaced place text → IsPlaced behind rest
rest_placed text token rest gap kind place here behind f g h b u p =
    let one = past_near place gap in
    let two = past_near here token in
    let len = len_parts text token rest gap kind f g in
    let line : (here).line ≤ place.line + length gap = rw h one.0 in
    let column : (here).column ≤ place.column + length gap = rw h one.1 in
    rw b (record { utf8 = u; line = omega (arith, p.line, two.0); column = omega (arith, p.column, two.1) })

-- no text is without a token
pub some_token : (n : ℕ) (p : Place) (bs : List ℕ) → 0 < length (tokens_from n p bs)
some_token n p [] = omega arith
some_token (suc n) p (b ∷ bs) = some_token n (after p b) bs
some_token zero p (b ∷ bs) =
    elim (front_of b bs) as (λ f. 0 < length (elim f as (λ _. List Lexeme) [
      | fronts.Gap n ↦ tokens_from (n - 1) (after p b) bs
      | fronts.Token kind n ↦ record { kind = kind; text = take n (b ∷ bs); place = p } ∷ tokens_from (n - 1) (after p b) bs
      | fronts.Fault f ↦ record { kind = kinds.Broken f; text = []; place = p } ∷ []
    ])) [
      | fronts.Gap n ↦ some_token (n - 1) (after p b) bs
      | fronts.Token kind n ↦ omega arith
      | fronts.Fault f ↦ omega arith
    ]

pub left_last : (b c : Bool) (p : Place) (bs : List ℕ) → c ≡ b → (b ≡ true → tokens_left c p bs ≡ []) × (tokens_left c p bs ≡ [] → b ≡ true)
left_last true true p bs e = (λ _. refl, λ _. refl)
left_last false true p bs e = cc
left_last true false p bs e = cc
left_last false false p bs e = (λ h. cc, λ h. absurd (let l : 0 < length (tokens_from 0 p bs) = some_token 0 p bs in omega (arith, ap length h)))

pub left_more : (b c : Bool) (p : Place) (bs : List ℕ) → c ≡ b → b ≡ false → 0 < length (tokens_left c p bs)
left_more b false p bs e f = some_token 0 p bs
left_more b true p bs e f = cc
