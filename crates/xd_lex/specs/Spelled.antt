-- What a quoted text stands for.
use Rattle.std.specs.Prelude.{ℕ, ◌==◌, Bool, true, false, List, [], ◌∷◌, drop, if◌then◌else◌}
use Rattle.std.specs.Str.{byte}

-- the character that stands after a `\` for another: `n` for a line feed, `t` for a tab, else
-- itself
abbrev pub escape_meaning : ℕ → ℕ
escape_meaning b = if b == byte "n" then byte "\n" else (if b == byte "t" then byte "\t" else b)

-- After the opening quote: the characters that the pieces stand for, up to the closing quote. The
-- flag says that a `\` which begins an escape stands directly before.
abbrev pub characters : Bool → List ℕ → List ℕ
characters escaped [] = []
characters true (b ∷ bs) = escape_meaning b ∷ characters false bs
characters false (b ∷ bs) =
    if b == byte "\"" then [] else (if b == byte "\\" then characters true bs else b ∷ characters false bs)

-- the text that a quoted text stands for
abbrev pub unescaped : List ℕ → List ℕ
unescaped t = characters false (drop 1 t)
