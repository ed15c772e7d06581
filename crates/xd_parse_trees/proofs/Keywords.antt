-- A word that is no keyword.
use Rattle.std.proofs.Common.{◌≡◌, ℕ, Bool, true, false, cond, List, Option, Some, refl, sym, subst, ◌∙◌}
use Rattle.std.specs.Prelude.{codes}
use Rattle.std.specs.Str.{bytes_eq}
use Rattle.xd_lex.specs.declared.Kind.{Kind}
use Rattle.xd_lex.specs.declared.Kind.TheVariants as kinds
use Rattle.xd_lex.specs.Tokens.{Lexeme}
use Rattle.xd_syntax.specs.Words.{has_word}
use Rattle.xd_syntax.specs.Keywords.{keywords}
use Rattle.xd_syntax.proofs.Words.{bytes_eq-turned}
use Rattle.xd_parse_trees.specs.declared.cursor.Lookahead.{Lookahead}
use Rattle.xd_grammar.specs.declared.grammar.Terminal.{Terminal}
use Rattle.xd_grammar.specs.declared.grammar.Terminal.TheVariants as t
use Rattle.xd_grammar.specs.Fits.{same}
use Rattle.xd_parse_trees.specs.Lookahead.{IsAhead, IsInFront}
use Rattle.xd_grammar.specs.Text.{kind_terminal, word_terminal}

-- the test of a word against a keyword failed, where the result is no keyword
not_taken : (b : Bool) (k rest : Terminal) → same k t.Word ≡ false → cond b k rest ≡ t.Word → b ≡ false
not_taken true k rest other e = let q : same k t.Word ≡ true = rw e refl in absurd (let f : true ≡ false = sym q ∙ other in cc)
not_taken false k rest other e = refl

rest_is : (b : Bool) (k rest : Terminal) → b ≡ false → cond b k rest ≡ t.Word → rest ≡ t.Word
rest_is true k rest f e = cc
rest_is false k rest f e = e

abbrev w1 : List ℕ → Terminal
w1 w = cond (bytes_eq w (codes "fun")) t.Fun (cond (bytes_eq w (codes "val")) t.Val (cond (bytes_eq w (codes "as")) t.As (cond (bytes_eq w (codes "match")) t.Match (cond (bytes_eq w (codes "with")) t.With t.Word))))

abbrev w2 : List ℕ → Terminal
w2 w = cond (bytes_eq w (codes "val")) t.Val (cond (bytes_eq w (codes "as")) t.As (cond (bytes_eq w (codes "match")) t.Match (cond (bytes_eq w (codes "with")) t.With t.Word)))

abbrev w3 : List ℕ → Terminal
w3 w = cond (bytes_eq w (codes "as")) t.As (cond (bytes_eq w (codes "match")) t.Match (cond (bytes_eq w (codes "with")) t.With t.Word))

abbrev w4 : List ℕ → Terminal
w4 w = cond (bytes_eq w (codes "match")) t.Match (cond (bytes_eq w (codes "with")) t.With t.Word)

abbrev w5 : List ℕ → Terminal
w5 w = cond (bytes_eq w (codes "with")) t.With t.Word

none_of : (w : List ℕ) → bytes_eq (codes "type") w ≡ false → bytes_eq (codes "fun") w ≡ false → bytes_eq (codes "val") w ≡ false → bytes_eq (codes "as") w ≡ false → bytes_eq (codes "match") w ≡ false → bytes_eq (codes "with") w ≡ false → has_word keywords w ≡ false
none_of w a b c d e f = rw (a, b, c, d, e, f) refl

word_plain : (w : List ℕ) → word_terminal w ≡ t.Word → has_word keywords w ≡ false
word_plain w e =
    let a : bytes_eq w (codes "type") ≡ false = not_taken (bytes_eq w (codes "type")) t.Type (w1 w) refl e in
    let e1 : w1 w ≡ t.Word = rest_is (bytes_eq w (codes "type")) t.Type (w1 w) a e in
    let b : bytes_eq w (codes "fun") ≡ false = not_taken (bytes_eq w (codes "fun")) t.Fun (w2 w) refl e1 in
    let e2 : w2 w ≡ t.Word = rest_is (bytes_eq w (codes "fun")) t.Fun (w2 w) b e1 in
    let c : bytes_eq w (codes "val") ≡ false = not_taken (bytes_eq w (codes "val")) t.Val (w3 w) refl e2 in
    let e3 : w3 w ≡ t.Word = rest_is (bytes_eq w (codes "val")) t.Val (w3 w) c e2 in
    let d : bytes_eq w (codes "as") ≡ false = not_taken (bytes_eq w (codes "as")) t.As (w4 w) refl e3 in
    let e4 : w4 w ≡ t.Word = rest_is (bytes_eq w (codes "as")) t.As (w4 w) d e3 in
    let g : bytes_eq w (codes "match") ≡ false = not_taken (bytes_eq w (codes "match")) t.Match (w5 w) refl e4 in
    let e5 : w5 w ≡ t.Word = rest_is (bytes_eq w (codes "match")) t.Match (w5 w) g e4 in
    let h : bytes_eq w (codes "with") ≡ false = not_taken (bytes_eq w (codes "with")) t.With t.Word refl e5 in
    none_of w (bytes_eq-turned w (codes "type") a) (bytes_eq-turned w (codes "fun") b) (bytes_eq-turned w (codes "val") c) (bytes_eq-turned w (codes "as") d) (bytes_eq-turned w (codes "match") g) (bytes_eq-turned w (codes "with") h)

not_number : (j : Terminal) → j ≡ t.Word → same j t.Word ≡ false → ⊥
not_number j e f = let q : same j t.Word ≡ true = rw e refl in let g : true ≡ false = sym q ∙ f in cc

-- a token that is a word to the grammar is no keyword
pub terminal_plain : (k : Kind) (w : List ℕ) → kind_terminal k w ≡ t.Word → has_word keywords w ≡ false
terminal_plain kinds.Word w e = word_plain w e
terminal_plain kinds.Label w e = absurd (not_number t.Label e refl)
terminal_plain kinds.Text w e = absurd (not_number t.Text e refl)
terminal_plain kinds.ParenL w e = absurd (not_number t.ParenL e refl)
terminal_plain kinds.ParenR w e = absurd (not_number t.ParenR e refl)
terminal_plain kinds.BracketL w e = absurd (not_number t.BracketL e refl)
terminal_plain kinds.BracketR w e = absurd (not_number t.BracketR e refl)
terminal_plain kinds.Comma w e = absurd (not_number t.Comma e refl)
terminal_plain kinds.Bar w e = absurd (not_number t.Bar e refl)
terminal_plain kinds.Star w e = absurd (not_number t.Star e refl)
terminal_plain kinds.Plus w e = absurd (not_number t.Plus e refl)
terminal_plain kinds.Query w e = absurd (not_number t.Query e refl)
terminal_plain kinds.Equals w e = absurd (not_number t.Equals e refl)
terminal_plain kinds.Colon w e = absurd (not_number t.Colon e refl)
terminal_plain kinds.Tilde w e = absurd (not_number t.Tilde e refl)
terminal_plain kinds.Caret w e = absurd (not_number t.Caret e refl)
terminal_plain kinds.Arrow w e = absurd (not_number t.Arrow e refl)
terminal_plain kinds.End w e = absurd (not_number t.End e refl)
terminal_plain (kinds.Broken f) w e = absurd (not_number t.Broken e refl)

-- the token that comes next, where it is a word
pub ahead_plain : (next : Option Lookahead) (ahead : Lookahead) (ls : List Lexeme) → IsInFront next ls → next ≡ Some ahead → ahead.terminal ≡ t.Word → has_word keywords ahead.token.text.now ≡ false
ahead_plain next ahead ls front is e =
    let known : IsAhead ahead ls = subst (λ (o : Option Lookahead). IsInFront o ls) is front in
    terminal_plain ahead.token.kind ahead.token.text.now (sym known.terminal ∙ e)
