-- What a parser function reads: the tool of the parser.
use Rattle.std.specs.Prelude.{◌≡◌, List, [], ◌∷◌, ℕ, codes, vec_len}
use Rattle.xd_base.specs.declared.Place.{Place}
use Rattle.xd_lex.specs.Tokens.{Lexeme, start}
use Rattle.xd_lex.specs.Spelled.{unescaped}
use Rattle.xd_syntax.specs.Placed.{PlacedTree}
use Rattle.xd_grammar.specs.declared.grammar.Nonterminal.{Nonterminal}
use Rattle.xd_grammar.specs.declared.grammar.Nonterminal.TheVariants as n
use Rattle.xd_grammar.specs.declared.grammar.Symbol.TheVariants.{Opening, Part}
use Rattle.xd_grammar.specs.declared.grammar.Terminal.{Terminal}
use Rattle.xd_grammar.specs.declared.grammar.Terminal.TheVariants as t
use Rattle.xd_grammar.specs.declared.grammar.Sort.{Sort}
use Rattle.xd_parse_trees.specs.declared.classes.Excepted.{Excepted}
use Rattle.xd_parse_trees.specs.declared.classes.Excepted.TheVariants.{Texts, Labels}
use Rattle.xd_grammar.specs.Grammar.{Row}
use Rattle.xd_grammar.specs.Text.{terminal_at}
use Rattle.xd_parse_trees.specs.Values.{Value, a_tree, names, texts, labelled}
use Rattle.xd_parse_trees.specs.Means.{Means}

-- the next token's terminal, place and text; where no token is left it is `Broken`, the start and
-- empty
abbrev pub front_terminal : List Lexeme → Terminal
front_terminal [] = t.Broken
front_terminal (l ∷ ls) = terminal_at l

abbrev pub front_place : List Lexeme → Place
front_place [] = start
front_place (l ∷ ls) = l.place

abbrev pub front_text : List Lexeme → List ℕ
front_text [] = []
front_text (l ∷ ls) = l.text

-- the tokens after the next one
abbrev pub behind : List Lexeme → List Lexeme
behind [] = []
behind (l ∷ ls) = ls

-- Whatever tokens spell the nonterminal from here on, and whatever it then stands for: they reach
-- just to there, and it is just this.
abbrev pub Reads : Nonterminal → (from to : List Lexeme) → Value → Type 0
Reads part from to v = (rest : List Lexeme) (w : Value) → Means (Part part ∷ []) from rest (w ∷ []) → (rest ≡ to) × (w ≡ v)

-- the word that a token is among labels, where keywords are words
abbrev pub any_text : Terminal → List ℕ → List ℕ
any_text t.Type s = codes "type"
any_text t.Fun s = codes "fun"
any_text t.Val s = codes "val"
any_text t.As s = codes "as"
any_text t.Match s = codes "match"
any_text t.With s = codes "with"
any_text k s = s

-- words with bars between them are read: just these
pub record ReadsListed (from to : List Lexeme) (all : List (List ℕ)) : Type 0 where
  pub now : List Lexeme
  pub word : List ℕ
  pub more : List (List ℕ)
  pub first : Reads n.AnyWord from now (names (word ∷ []))
  pub others : Reads n.MoreNames now to (names more)
  pub are : all ≡ word ∷ more

-- texts with bars between them are read: just these
pub record ReadsTexts (from to : List Lexeme) (all : List (List ℕ)) : Type 0 where
  pub more : List (List ℕ)
  pub others : Reads n.MoreTexts (behind from) to (texts more)
  pub are : all ≡ unescaped (front_text from) ∷ more

-- After a `^` these are read; where they are labels, a content is read next.
abbrev pub ReadsExcepted : (Sort → Nonterminal) → (from here : List Lexeme) → Excepted → Type 0
ReadsExcepted part from here (Texts ts) = (s : Sort) → Reads (part s) from here (texts ts.items)
ReadsExcepted part from here (Labels ws) = (s : Sort) (to : List Lexeme) (T : PlacedTree) → Reads (n.Content s) here to (a_tree T) → Reads (part s) from to (labelled ws.items T)

-- how many they are
abbrev pub count_excepted : Excepted → ℕ
count_excepted (Texts ts) = vec_len ts
count_excepted (Labels ws) = vec_len ws

-- what stands in parentheses where a primary of this sort begins with one
abbrev pub group_row : Sort → Row
group_row s = Opening t.ParenL ∷ Part (n.Group s) ∷ []

-- an element
abbrev pub element_row : Sort → Row
element_row s = Part n.Class ∷ Part (n.Content s) ∷ []

-- no tokens from here on spell the row
abbrev pub SpellNo : Row → List Lexeme → Type 0
SpellNo row from = (rest : List Lexeme) (ws : List Value) → Means row from rest ws → ⊥
