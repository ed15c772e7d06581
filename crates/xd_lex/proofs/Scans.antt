-- Scanning a text from an index on.
use Rattle.std.proofs.Common.{◌≡◌, ℕ, ◌+◌, ◌<◌, true, false, cond, List, ◌∷◌, length, get_or, drop, Option, Some, None, Result, Ok, Err, refl, ap, ◌∙◌, add-one, drop-cons}
use Rattle.std.specs.Prelude.{◌==◌}
use Rattle.xd_lex.specs.declared.LexFault.{LexFault}
use Rattle.xd_lex.specs.declared.LexFault.TheVariants.{BadCharacter}
use Rattle.xd_lex.specs.Scan.{quoted_length, is_escape, one_more}

-- a count with n before it
abbrev pub ahead : ℕ → Result ℕ LexFault → Result ℕ LexFault
ahead n (Ok m) = Ok (m + n)
ahead n (Err f) = Err f

abbrev pub option_ahead : ℕ → Option ℕ → Option ℕ
option_ahead n (Some m) = Some (m + n)
option_ahead n None = None

pub drop_one : (bs : List ℕ) (i : ℕ) → i < length bs → drop i bs ≡ get_or bs i 0 ∷ drop (i + 1) bs
drop_one bs i h = rw (add-one, drop-cons bs i 0) refl

pub no_escape : (bs : List ℕ) (i : ℕ) → i < length bs → is_escape (get_or bs i 0) ≡ false → ahead i (quoted_length true (drop i bs)) ≡ Err BadCharacter
no_escape bs i h e = ap (λ (l : List ℕ). ahead i (quoted_length true l)) (drop_one bs i h) ∙ ap (λ b. ahead i (cond b (one_more (quoted_length false (drop (i + 1) bs))) (Err BadCharacter))) e

pub at_quote : (bs : List ℕ) (i : ℕ) → i < length bs → (get_or bs i 0 == 34) ≡ true → ahead i (quoted_length false (drop i bs)) ≡ Ok (1 + i)
at_quote bs i h e = ap (λ (l : List ℕ). ahead i (quoted_length false l)) (drop_one bs i h) ∙ ap (λ b. ahead i (cond b (Ok 1) (one_more (quoted_length (get_or bs i 0 == 92) (drop (i + 1) bs))))) e
