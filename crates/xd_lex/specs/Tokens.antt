-- The tokens of a text, each with its place.
use Rattle.std.specs.Prelude.{◌≡◌, ℕ, zero, suc, ◌+◌, ◌-◌, ◌==◌, ◌&&◌, List, [], ◌∷◌, take, nat_le, nat_lt, if◌then◌else◌, IsUtf8}
use Rattle.std.specs.Str.{byte}
use Rattle.std.specs.Str.Lossy.{utf8_valid_len}
use Rattle.xd_base.specs.declared.Place.{Place}
use Rattle.xd_lex.specs.declared.Kind.{Kind}
use Rattle.xd_lex.specs.declared.Kind.TheVariants as kinds
use Rattle.xd_lex.specs.declared.Front.TheVariants as fronts
use Rattle.xd_lex.specs.Scan.{front_of}

-- a token without where it lies in memory
pub record Lexeme : Type 0 where
  pub kind : Kind
  pub text : List ℕ
  pub place : Place

-- the first place of a text
abbrev pub start : Place
start = record { line = 1; column = 1 }

-- the place after a byte: a byte that continues a character doesn't count
abbrev pub after : Place → ℕ → Place
after p b =
    if b == byte "\n" then record { line = p.line + 1; column = 1 }
    else (if nat_le 128 b && nat_lt b 192 then p
    else record { line = p.line; column = p.column + 1 })

-- the place after these bytes
abbrev pub past : Place → List ℕ → Place
past p [] = p
past p (b ∷ bs) = past (after p b) bs

-- The tokens of the text bs from the place p on, but for the first n bytes, which belong to what
-- was read before.
abbrev pub tokens_from : ℕ → Place → List ℕ → List Lexeme
tokens_from n p [] = record { kind = kinds.End; text = []; place = p } ∷ []
tokens_from (suc n) p (b ∷ bs) = tokens_from n (after p b) bs
tokens_from zero p (b ∷ bs) = elim (front_of b bs) [
  | fronts.Gap n ↦ tokens_from (n - 1) (after p b) bs
  | fronts.Token kind n ↦
      record { kind = kind; text = take n (b ∷ bs); place = p } ∷ tokens_from (n - 1) (after p b) bs
  | fronts.Fault f ↦ record { kind = kinds.Broken f; text = []; place = p } ∷ []
]

-- the tokens of a text
abbrev pub tokens_of : List ℕ → List Lexeme
tokens_of bytes = tokens_from 0 start bytes

-- the bytes aren't UTF-8, and the place is the one after their longest front that is UTF-8
pub record IsNotUtf8At (bytes : List ℕ) (p : Place) : Type 0 where
  pub refused : ¬ (IsUtf8 bytes)
  pub place : p ≡ past start (take (utf8_valid_len bytes) bytes)
