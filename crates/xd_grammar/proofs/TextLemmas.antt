-- Texts from their tokens.
use Rattle.std.proofs.Common.{◌≡◌, ◌+◌, ℕ, ◌++◌, true, List, [], ◌∷◌, Option, Some, None, take, drop, refl, sym, ap, subst}
use Rattle.std.proofs.lemmas.Bool.{false≢true}
use Rattle.std.proofs.lemmas.List.{take-append-drop}
use Rattle.std.specs.Prelude.{IsUtf8, MatchOption}
use Rattle.xd_lex.specs.declared.Kind.{Kind}
use Rattle.xd_lex.specs.declared.Kind.TheVariants as kinds
use Rattle.xd_lex.specs.Tokens.{Lexeme, tokens_of}
use Rattle.xd_lex.specs.LexedTokens.{is_last}
use Rattle.xd_lex.specs.Reading.{HasOneLast}
use Rattle.xd_lex.proofs.ReadLemmas.{one_last}
use Rattle.xd_grammar.specs.declared.grammar.Nonterminal.{Nonterminal}
use Rattle.xd_grammar.specs.declared.grammar.Nonterminal.TheVariants as n
use Rattle.xd_grammar.specs.declared.grammar.Symbol.TheVariants.{Part}
use Rattle.xd_grammar.specs.declared.grammar.Terminal.{Terminal}
use Rattle.xd_grammar.specs.declared.text.TextFault.{TextFault}
use Rattle.xd_grammar.specs.declared.text.TextFault.TheVariants as faults
use Rattle.xd_grammar.specs.declared.text.TextError.TheVariants.{Fault}
use Rattle.xd_grammar.specs.Grammar.{BeginsNonterminal, SpellsNonterminal}
use Rattle.xd_grammar.specs.FirstFault.{Refusal, no_text, too_deep, IsFirstRefusal}
use Rattle.xd_grammar.specs.Text.{kind_terminal, terminals_at, SpellsText, IsLexemeFault, IsTextFault}
use Rattle.xd_grammar.specs.TextErrors.{ends_text, is_text, IsTextError}
use Rattle.xd_grammar.proofs.Ends.{sealed, ended, front_of}
use Rattle.xd_syntax.specs.Shallow.{nesting_limit}

last_terminal : (kind : Kind) (text : List ℕ) → is_last kind ≡ true → ends_text (kind_terminal kind text) ≡ true
last_terminal kinds.End text h = refl
last_terminal (kinds.Broken fault) text h = refl
last_terminal kind text h = absurd (false≢true h)

pub record LastIs (ts : List Terminal) : Type 0 where
  pub front : List Terminal
  pub last : Terminal
  pub is : ts ≡ front ++ last ∷ []
  pub ends : ends_text last ≡ true

last_of : (ls : List Lexeme) → HasOneLast ls → LastIs (terminals_at ls)
last_of [] h = absurd h
last_of (l ∷ []) h = record { front = []; last = kind_terminal l.kind l.text; is = refl; ends = last_terminal l.kind l.text h }
last_of (l ∷ (m ∷ ls)) h = let more : LastIs (terminals_at (m ∷ ls)) = last_of (m ∷ ls) h.1 in record {
  front = kind_terminal l.kind l.text ∷ more.front;
  last = more.last;
  is = ap (λ (x : List Terminal). kind_terminal l.kind l.text ∷ x) more.is;
  ends = more.ends;
}

text_sealed : (part : Nonterminal) → is_text part ≡ true → sealed (Part part ∷ []) ≡ true
text_sealed n.Definitions h = refl
text_sealed n.TypeText h = refl
text_sealed part h = absurd (false≢true h)

pub spelled : (part : Nonterminal) (bytes : List ℕ) → is_text part ≡ true → IsUtf8 bytes → BeginsNonterminal nesting_limit part (terminals_at (tokens_of bytes)) → SpellsText part bytes
spelled part bytes h utf8 g = let last : LastIs (terminals_at (tokens_of bytes)) = last_of (tokens_of bytes) (one_last bytes) in record {
  utf8 = utf8;
  spells = ended g last.front last.last last.is last.ends (text_sealed part h);
}

take_drop : (k : ℕ) (ts : List Terminal) → ts ≡ take k ts ++ drop k ts
take_drop k ts = sym (take-append-drop k ts)

refused : (part : Nonterminal) (ts : List Terminal) (k : ℕ) (refusal : Refusal) → IsFirstRefusal part ts k refusal → SpellsNonterminal nesting_limit part ts → ⊥
refused part ts k no_text f g = f.there nesting_limit (front_of g (take (k + 1) ts) (drop (k + 1) ts) (take_drop (k + 1) ts))
refused part ts k too_deep f g = f.there.0 (front_of g (take (k + 1) ts) (drop (k + 1) ts) (take_drop (k + 1) ts))

unspelled_at : (part : Nonterminal) (bytes : List ℕ) (fault : TextFault) → IsTextFault part bytes fault → SpellsText part bytes → ⊥
unspelled_at part bytes (faults.NotUtf8 place) f s = f.refused s.utf8
unspelled_at part bytes (faults.Syntax place) f s = refused part (terminals_at (tokens_of bytes)) f.1.index no_text f.1.first s.spells
unspelled_at part bytes (faults.TooDeep place) f s = refused part (terminals_at (tokens_of bytes)) f.1.index too_deep f.1.first s.spells

-- a text with a fault is not spelled
pub refused_text : (part : Nonterminal) (bytes : List ℕ) (fault : TextFault) → IsTextFault part bytes fault → IsTextError part bytes (Fault fault)
refused_text part bytes fault f = (f, unspelled_at part bytes fault f)

text_of : (part : Nonterminal) (bytes : List ℕ) (fault : TextFault) → IsUtf8 bytes → IsLexemeFault part (tokens_of bytes) fault → IsTextFault part bytes fault
text_of part bytes (faults.NotUtf8 place) utf8 f = absurd f
text_of part bytes (faults.Syntax place) utf8 f = (utf8, f)
text_of part bytes (faults.TooDeep place) utf8 f = (utf8, f)

pub found_text : (part : Nonterminal) (bytes : List ℕ) (ls : List Lexeme) (found : Option TextFault) → is_text part ≡ true → IsUtf8 bytes → ls ≡ tokens_of bytes → MatchOption found (BeginsNonterminal nesting_limit part (terminals_at ls)) (λ fault. IsLexemeFault part ls fault) → MatchOption found (SpellsText part bytes) (λ fault. IsTextFault part bytes fault)
found_text part bytes ls None h utf8 e g = spelled part bytes h utf8 (subst (λ (x : List Lexeme). BeginsNonterminal nesting_limit part (terminals_at x)) e g)
found_text part bytes ls (Some fault) h utf8 e f = text_of part bytes fault utf8 (subst (λ (x : List Lexeme). IsLexemeFault part x fault) e f)
