-- Bytes in a row that go on with a word or a quoted text.
use Rattle.std.specs.Prelude.{◌≡◌, ◌==◌, ◌&&◌, ℕ, ◌+◌, Bool, true, false, not, List, [], ◌∷◌, ◌++◌, nat_lt}
use Rattle.xd_base.specs.declared.Place.{Place}
use Rattle.xd_doc.specs.Word.{are_word_parts}
use Rattle.xd_lex.specs.Spelled.{unescaped}
use Rattle.xd_read.specs.Grammar.{Terminal, QuotedText}
use Rattle.xd_stream.specs.Stop.{told}
use Rattle.xd_stream.specs.declared.characters.Awaited.{Awaited}
use Rattle.xd_stream.specs.declared.machine.Mode.{Mode}
use Rattle.xd_stream.specs.declared.machine.Mode.TheVariants as modes
use Rattle.xd_stream.specs.declared.machine.Machine.{Machine}

-- a character of a quoted text that stands for itself and ends no line
abbrev pub is_plain : ℕ → Bool
is_plain b = nat_lt b 128 && (not (b == 34) && (not (b == 92) && not (b == 10)))

abbrev pub are_plain : List ℕ → Bool
are_plain [] = true
are_plain (b ∷ bs) = is_plain b && are_plain bs

-- bytes that go on with what is begun
abbrev pub GoesOnBy : Mode → Awaited → List ℕ → Type 0
GoesOnBy modes.Word w bytes = are_word_parts bytes ≡ true
GoesOnBy (modes.Text false) w bytes = (w.left ≡ 0) × (are_plain bytes ≡ true)
GoesOnBy mode w bytes = ⊥

abbrev pub IsRun : Machine → List ℕ → Type 0
IsRun m bytes = GoesOnBy m.mode m.awaited bytes

-- where the one place is another as it is told, so is the other, so many columns on
abbrev pub IsColumnsOn : ℕ → Place → Place → Type 0
IsColumnsOn n old new = (p : Place) → old ≡ told p → new ≡ told (record { line = p.line; column = p.column + n })

-- the text whose bytes are held, all but its closing quote
abbrev pub held_text : Machine → Terminal
held_text m = QuotedText (unescaped (m.held.items ++ 34 ∷ []))
