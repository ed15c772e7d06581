-- What stands at the front of a text: a gap, a token, or neither.
use Rattle.std.specs.Prelude.{ℕ, ◌+◌, ◌==◌, ◌&&◌, ◌||◌, Bool, true, false, List, [], ◌∷◌, length, drop, slice_index, Option, Some, None, Result, Ok, Err, if◌then◌else◌}
use Rattle.std.specs.List.{take_while}
use Rattle.std.specs.Str.{byte}
use Rattle.xd_doc.specs.Word.{is_word_start, is_word_part}
use Rattle.xd_lex.specs.declared.Kind.{Kind}
use Rattle.xd_lex.specs.declared.Kind.TheVariants as kinds
use Rattle.xd_lex.specs.declared.LexFault.{LexFault}
use Rattle.xd_lex.specs.declared.LexFault.TheVariants.{BadCharacter, OpenText, OpenComment}
use Rattle.xd_lex.specs.declared.Front.{Front}
use Rattle.xd_lex.specs.declared.Front.TheVariants as fronts

-- a space, a tab, a line feed or a carriage return
abbrev pub is_blank : ℕ → Bool
is_blank b = ((b == byte " ") || (b == byte "\t")) || ((b == byte "\n") || (b == byte "\r"))

-- one of the characters that make an escape after a `\`
abbrev pub is_escape : ℕ → Bool
is_escape b = ((b == byte "\"") || (b == byte "\\")) || ((b == byte "n") || (b == byte "t"))

-- the length with one byte more, or the same fault
abbrev pub one_more : {E : Type 0} → Result ℕ E → Result ℕ E
one_more (Ok n) = Ok (n + 1)
one_more (Err e) = Err e

-- the length with one byte more, if there is one
abbrev pub option_more : Option ℕ → Option ℕ
option_more (Some n) = Some (n + 1)
option_more None = None

-- After the opening quote of a text: how many bytes its pieces and its closing quote have. The
-- flag says that a `\` which begins an escape stands directly before.
abbrev pub quoted_length : Bool → List ℕ → Result ℕ LexFault
quoted_length escaped [] = Err OpenText
quoted_length true (b ∷ bs) = if is_escape b then one_more (quoted_length false bs) else Err BadCharacter
quoted_length false (b ∷ bs) = if b == byte "\"" then Ok 1 else one_more (quoted_length (b == byte "\\") bs)

-- After the `(*` of a comment: how many bytes there are up to the end of the first `*)`. The flag
-- says that a `*` stands directly before, other than that of the `(*`.
abbrev pub commented : Bool → List ℕ → Option ℕ
commented starred [] = None
commented starred (b ∷ bs) =
    if starred && (b == byte ")") then Some 1 else option_more (commented (b == byte "*") bs)

-- the kind of a symbol of one character, if it is one
unfoldable pub symbol : ℕ → Option Kind
symbol b =
    if b == byte "(" then Some kinds.ParenL
    else (if b == byte ")" then Some kinds.ParenR
    else (if b == byte "[" then Some kinds.BracketL
    else (if b == byte "]" then Some kinds.BracketR
    else (if b == byte "," then Some kinds.Comma
    else (if b == byte "|" then Some kinds.Bar
    else (if b == byte "*" then Some kinds.Star
    else (if b == byte "+" then Some kinds.Plus
    else (if b == byte "?" then Some kinds.Query
    else (if b == byte "=" then Some kinds.Equals
    else (if b == byte ":" then Some kinds.Colon
    else (if b == byte "~" then Some kinds.Tilde
    else (if b == byte "^" then Some kinds.Caret
    else None))))))))))))

-- a text whose pieces and closing quote have this length, behind the opening quote
abbrev pub of_text : Result ℕ LexFault → Front
of_text (Ok n) = fronts.Token kinds.Text (n + 1)
of_text (Err f) = fronts.Fault f

-- a comment whose rest has this length, behind its `(*`
abbrev pub of_comment : Option ℕ → Front
of_comment (Some n) = fronts.Gap (n + 2)
of_comment None = fronts.Fault OpenComment

-- a token of one character, if it is one
abbrev pub of_symbol : Option Kind → Front
of_symbol (Some k) = fronts.Token k 1
of_symbol None = fronts.Fault BadCharacter

-- a label where a `[` stands directly after the word, else the word
abbrev pub of_word : List ℕ → ℕ → Front
of_word bs n =
    if slice_index bs n == byte "[" then fronts.Token kinds.Label (n + 1) else fronts.Token kinds.Word n

-- what begins with the byte b, with the bytes bs after it
unfoldable pub front_of : ℕ → List ℕ → Front
front_of b bs =
    if is_blank b then fronts.Gap 1
    else (if (b == byte "(") && (slice_index bs 0 == byte "*") then of_comment (commented false (drop 1 bs))
    else (if is_word_start b then of_word (b ∷ bs) (length (take_while is_word_part bs) + 1)
    else (if b == byte "\"" then of_text (quoted_length false bs)
    else (if (b == byte "-") && (slice_index bs 0 == byte ">") then fronts.Token kinds.Arrow 2
    else of_symbol (symbol b)))))
