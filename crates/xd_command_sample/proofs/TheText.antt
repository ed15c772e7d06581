-- The text of the telephone program is the text of that program.
use Rattle.std.proofs.Common.{◌≡◌, ℕ, ltb, ltb-true, Bool, true, false, cond, List, [], ◌∷◌, Some, refl, IsUtf8}
use Rattle.std.specs.Str.{IsAscii}
use Rattle.std.proofs.lemmas.Str.{IsUtf8-from_ascii}
use Rattle.std.proofs.lemmas.Str.Ascii.{IsAscii-nil, IsAscii-cons}
use Rattle.xd_lex.specs.Scan.{front_of, symbol}
use Rattle.xd_lex.specs.Tokens.{tokens_of}
use Rattle.xd_syntax.specs.declared.fault.Fault.{Fault}
use Rattle.xd_grammar.specs.declared.grammar.Nonterminal.TheVariants as n
use Rattle.xd_grammar.specs.declared.grammar.Symbol.TheVariants.{Part}
use Rattle.xd_grammar.specs.Grammar.{end}
use Rattle.xd_parse.specs.Faults.{IsFirstTextFault}
use Rattle.xd_parse_trees.specs.Means.{IsProgramText}
use Rattle.xd_parse_trees.specs.Values.{definitions}
use Rattle.xd_grammar.proofs.Derive.{both_of}
use Rattle.xd_parse.proofs.Sure.{texts_mean_one_thing}
use Rattle.xd_grammar.proofs.TextLemmas.{refused_text}
use Rattle.xd_command_sample.specs.Telephones.{telephone_text, telephone_program}
use Rattle.xd_command_sample.specs.Laws.{TextIsRead}
use Rattle.xd_command_sample.proofs.ReadRows.{Read, read_row, IsRead, read_is}
use Rattle.xd_command_sample.proofs.Faultless.{telephones_sound, no_recursion_fault}

-- all is read, no level is left open, and it stands for the program
abbrev whole_read : Read
whole_read = record { to = []; level = 0; values = definitions telephone_program ∷ [] }

-- The tokens, and what they are read as, are computed.
computed : read_row 200 0 (Part n.Definitions ∷ []) (tokens_of telephone_text) ≡ Some whole_read
unfolding front_of symbol
computed = refl

read : IsRead 0 (Part n.Definitions ∷ []) (tokens_of telephone_text) whole_read
read = read_is 200 0 (Part n.Definitions ∷ []) (tokens_of telephone_text) whole_read computed

abbrev all_ascii : List ℕ → Bool
all_ascii [] = true
all_ascii (b ∷ bs) = cond (ltb b 128) (all_ascii bs) false

is_ascii : (bs : List ℕ) → all_ascii bs ≡ true → IsAscii bs
is_ascii [] e = IsAscii-nil
is_ascii (b ∷ bs) e = let h = both_of (ltb b 128) (all_ascii bs) e in IsAscii-cons b bs (ltb-true b 128 h.0) (is_ascii bs h.1)

utf8 : IsUtf8 telephone_text
utf8 = IsUtf8-from_ascii telephone_text (is_ascii telephone_text refl)

spelled : IsProgramText telephone_text telephone_program
spelled = record { spelled = record { utf8 = utf8; means = read.means }; within = record { utf8 = utf8; spells = read.derives [] (end tt) } }

no_fault : (f : Fault) → IsFirstTextFault n.Definitions telephone_text f → ⊥
no_fault f h = (refused_text n.Definitions telephone_text h.0 h.1).1 spelled.within

pub text_is_read : TextIsRead
text_is_read = record {
  spelled = spelled;
  only = λ P h. texts_mean_one_thing.programs telephone_text P telephone_program h.spelled spelled.spelled;
  no_fault = no_fault;
  sound = telephones_sound;
  no_recursion_fault = no_recursion_fault;
}
