-- The words that the caller holds.
use Rattle.std.specs.Prelude.{List, ℕ}
use Rattle.std.specs.Str.{IsUtf8}
use Rattle.xd_page.specs.declared.Word.{Word}

abbrev pub word_bytes : Word → List ℕ
word_bytes w = w.bytes.now

-- its bytes are UTF-8
abbrev pub IsWord : Word → Type 0
IsWord w = IsUtf8 w.bytes.now
