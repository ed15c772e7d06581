-- The tokens of a text, from what stands at its front.
use Rattle.std.proofs.Common.{◌≡◌, ℕ, zero, suc, ◌+◌, ◌-◌, ◌<◌, ◌≤◌, true, false, cond, List, [], ◌∷◌, length, get_or, drop, take, refl, ap, arith}
use Rattle.std.specs.Prelude.{◌==◌, ◌&&◌, nat_le, nat_lt}
use Rattle.xd_base.specs.declared.Place.{Place}
use Rattle.xd_lex.specs.declared.Kind.{Kind}
use Rattle.xd_lex.specs.declared.Kind.TheVariants as kinds
use Rattle.xd_lex.specs.declared.LexFault.{LexFault}
use Rattle.xd_lex.specs.declared.Front.{Front}
use Rattle.xd_lex.specs.declared.Front.TheVariants as fronts
use Rattle.xd_lex.specs.Scan.{front_of}
use Rattle.xd_lex.specs.Tokens.{Lexeme, after, past, tokens_from}

-- bytes that belong to what was read before
skips : (n : ℕ) (p : Place) (bs : List ℕ) → n ≤ length bs → tokens_from n p bs ≡ tokens_from 0 (past p (take n bs)) (drop n bs)
skips zero p [] h = refl
skips zero p (b ∷ bs) h = refl
skips (suc n) p [] h = absurd (omega arith)
skips (suc n) p (b ∷ bs) h = skips n (after p b) bs (omega arith)

one_less : (n : ℕ) → suc n - 1 ≡ n
one_less n = omega arith

abbrev pub first : List ℕ → Front
first bs = front_of (get_or bs 0 0) (drop 1 bs)

pub at_gap : (bs : List ℕ) (p : Place) (n : ℕ) → 0 < n → n ≤ length bs → first bs ≡ fronts.Gap n → tokens_from 0 p bs ≡ tokens_from 0 (past p (take n bs)) (drop n bs)
at_gap [] p n pos h e = absurd (omega arith)
at_gap (b ∷ bs) p zero pos h e = absurd (omega arith)
at_gap (b ∷ bs) p (suc n) pos h e = rw (e, tokens_from, one_less n) (skips n (after p b) bs (omega arith))

pub at_token : (bs : List ℕ) (p : Place) (k : Kind) (n : ℕ) → 0 < n → n ≤ length bs → first bs ≡ fronts.Token k n → tokens_from 0 p bs ≡ record { kind = k; text = take n bs; place = p } ∷ tokens_from 0 (past p (take n bs)) (drop n bs)
at_token [] p k n pos h e = absurd (omega arith)
at_token (b ∷ bs) p k zero pos h e = absurd (omega arith)
at_token (b ∷ bs) p k (suc n) pos h e = rw (e, tokens_from, one_less n) (ap (λ (ts : List Lexeme). record { kind = k; text = take (suc n) (b ∷ bs); place = p } ∷ ts) (skips n (after p b) bs (omega arith)))

pub at_fault : (bs : List ℕ) (p : Place) (f : LexFault) → 0 < length bs → first bs ≡ fronts.Fault f → tokens_from 0 p bs ≡ record { kind = kinds.Broken f; text = []; place = p } ∷ []
at_fault [] p f pos e = absurd (omega arith)
at_fault (b ∷ bs) p f pos e = rw (e, tokens_from) refl

-- a place goes on by at most one for each byte
after_near : (p : Place) (b : ℕ) → ((after p b).line ≤ p.line + 1) × ((after p b).column ≤ p.column + 1)
after_near p b =
    elim (b == 10) as (λ c. let q = cond c (record { line = p.line + 1; column = 1 }) (cond (nat_le 128 b && nat_lt b 192) p (record { line = p.line; column = p.column + 1 })) in (q.line ≤ p.line + 1) × (q.column ≤ p.column + 1)) [
      | true ↦ (omega arith, omega arith)
      | false ↦ elim (nat_le 128 b && nat_lt b 192) as (λ c. let q = cond c p (record { line = p.line; column = p.column + 1 }) in (q.line ≤ p.line + 1) × (q.column ≤ p.column + 1)) [ true ↦ (omega arith, omega arith) | false ↦ (omega arith, omega arith) ]
    ]

pub past_near : (p : Place) (bs : List ℕ) → ((past p bs).line ≤ p.line + length bs) × ((past p bs).column ≤ p.column + length bs)
past_near p [] = (omega arith, omega arith)
past_near p (b ∷ bs) =
    let one = after_near p b in
    let rest = past_near (after p b) bs in
    (omega (arith, one.0, rest.0), omega (arith, one.1, rest.1))
