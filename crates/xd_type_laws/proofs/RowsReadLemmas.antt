-- Rows that are read from bytes, from any place on.
use Rattle.std.proofs.Common.{◌≡◌, ◌≢◌, ℕ, suc, ◌<◌, List, [], ◌∷◌, ◌++◌, sym, subst, ◌∙◌, append_assoc}
use Rattle.xd_base.specs.declared.Place.{Place}
use Rattle.xd_lex.specs.declared.Kind.{Kind}
use Rattle.xd_lex.specs.Tokens.{Lexeme, after, past, tokens_from}
use Rattle.xd_lex.proofs.Skipped.{past-append}
use Rattle.xd_grammar.specs.declared.grammar.Nonterminal.{Nonterminal}
use Rattle.xd_grammar.specs.declared.grammar.Symbol.TheVariants.{Token, Opening, Closed, Unless, Part}
use Rattle.xd_grammar.specs.declared.grammar.Terminal.{Terminal}
use Rattle.xd_doc.specs.Members.{IsOneOf}
use Rattle.xd_grammar.specs.Grammar.{Row, rules, Entire, Derives, token, opening, closed, unless, by}
use Rattle.xd_grammar.specs.Text.{kind_terminal, terminals_at, terminal_at}
use Rattle.xd_parse_trees.specs.Values.{Value, token_of, value_of}
use Rattle.xd_parse.proofs.Spelled.{MeansAt, ends_at, token_at, opening_at, closing_at, bar_at, part_at}
use Rattle.xd_lex.proofs.Symbols.{IsToken}

-- before `rest`, the bytes s are read by the row from the place p on, where d levels are open
-- before it and e after
abbrev pub Reads : (l d : ℕ) → Row → (e : ℕ) → Place → (s rest : List ℕ) → List Value → Type 0
Reads l d row e p s rest vs = MeansAt l d row (tokens_from 0 p (s ++ rest)) (tokens_from 0 (past p s) rest) e vs

pub read_end : (l d : ℕ) (p : Place) (rest : List ℕ) → Reads l d [] d p [] rest []
read_end l d p rest = ends_at

joined : (l d e : ℕ) (row : Row) (p : Place) (s r rest : List ℕ) (vs : List Value) → MeansAt l d row (tokens_from 0 p (s ++ (r ++ rest))) (tokens_from 0 (past (past p s) r) rest) e vs → Reads l d row e p (s ++ r) rest vs
joined l d e row p s r rest vs m =
    subst (λ q. MeansAt l d row (tokens_from 0 p ((s ++ r) ++ rest)) (tokens_from 0 q rest) e vs) (sym (past-append p s r))
    (subst (λ x. MeansAt l d row (tokens_from 0 p x) (tokens_from 0 (past (past p s) r) rest) e vs) (sym (append_assoc s r rest)) m)

valued : (l d e : ℕ) (row : Row) (ls to : List Lexeme) (k : Kind) (x : List ℕ) (p : Place) (j : Terminal) (vs : List Value) → kind_terminal k x ≡ j → MeansAt l d row ls to e vs →
    MeansAt l d (Token j ∷ row) (record { kind = k; text = x; place = p } ∷ ls) to e (token_of j x p ∷ vs)
valued l d e row ls to k x p j vs f m = subst (λ i. MeansAt l d (Token i ∷ row) (record { kind = k; text = x; place = p } ∷ ls) to e (token_of i x p ∷ vs)) f (token_at m)

opened : (l d e : ℕ) (row : Row) (ls to : List Lexeme) (k : Kind) (x : List ℕ) (p : Place) (j : Terminal) (vs : List Value) → kind_terminal k x ≡ j → d < l → MeansAt l (suc d) row ls to e vs →
    MeansAt l d (Opening j ∷ row) (record { kind = k; text = x; place = p } ∷ ls) to e (token_of j x p ∷ vs)
opened l d e row ls to k x p j vs f h m = subst (λ i. MeansAt l d (Opening i ∷ row) (record { kind = k; text = x; place = p } ∷ ls) to e (token_of i x p ∷ vs)) f (opening_at h m)

pub read_token : (l d e : ℕ) (row : Row) (p : Place) (k : Kind) (j : Terminal) (x s rest : List ℕ) (vs : List Value) → IsToken k x (s ++ rest) → kind_terminal k x ≡ j → Reads l d row e (past p x) s rest vs →
    Reads l d (Token j ∷ row) e p (x ++ s) rest (token_of j x p ∷ vs)
read_token l d e row p k j x s rest vs a f m =
    joined l d e (Token j ∷ row) p x s rest (token_of j x p ∷ vs)
    (subst (λ ls. MeansAt l d (Token j ∷ row) ls (tokens_from 0 (past (past p x) s) rest) e (token_of j x p ∷ vs)) (sym (a p)) (valued l d e row _ _ k x p j vs f m))

pub read_opening : (l d e : ℕ) (row : Row) (p : Place) (k : Kind) (j : Terminal) (x s rest : List ℕ) (vs : List Value) → IsToken k x (s ++ rest) → kind_terminal k x ≡ j → d < l → Reads l (suc d) row e (past p x) s rest vs →
    Reads l d (Opening j ∷ row) e p (x ++ s) rest (token_of j x p ∷ vs)
read_opening l d e row p k j x s rest vs a f h m =
    joined l d e (Opening j ∷ row) p x s rest (token_of j x p ∷ vs)
    (subst (λ ls. MeansAt l d (Opening j ∷ row) ls (tokens_from 0 (past (past p x) s) rest) e (token_of j x p ∷ vs)) (sym (a p)) (opened l d e row _ _ k x p j vs f h m))

pub read_closed : (l d e : ℕ) (row : Row) (p : Place) (s rest : List ℕ) (vs : List Value) → Reads l d row e p s rest vs → Reads l (suc d) (Closed ∷ row) e p s rest vs
read_closed l d e row p s rest vs m = closing_at m

pub read_part : (l d m e : ℕ) (part : Nonterminal) (made row : Row) (p : Place) (s r rest : List ℕ) (vs us : List Value) → IsOneOf made (rules part) → Reads l d made m p s (r ++ rest) vs → Reads l m row e (past p s) r rest us →
    Reads l d (Part part ∷ row) e p (s ++ r) rest (value_of part vs ∷ us)
read_part l d m e part made row p s r rest vs us one a b = joined l d e (Part part ∷ row) p s r rest (value_of part vs ∷ us) (part_at made one a b)

-- the bytes written otherwise
pub same_bytes : (l d e : ℕ) (row : Row) (p : Place) (s r rest : List ℕ) (vs : List Value) → s ≡ r → Reads l d row e p s rest vs → Reads l d row e p r rest vs
same_bytes l d e row p s r rest vs f m = subst (λ x. Reads l d row e p x rest vs) f m

-- a part that is all
pub read_alone : (l d m : ℕ) (part : Nonterminal) (made : Row) (p : Place) (s rest : List ℕ) (vs : List Value) → IsOneOf made (rules part) → Reads l d made m p s rest vs → Reads l d (Part part ∷ []) m p s rest (value_of part vs ∷ [])
read_alone l d m part made p s rest vs one a = part_at made one a ends_at

-- a row, and after it another
pub rows_joined : {l d m e : ℕ} {row other : Row} {from mid to : List Lexeme} {vs us : List Value} → MeansAt l d row from mid m vs → MeansAt l m other mid to e us → MeansAt l d (row ++ other) from to e (vs ++ us)
rows_joined ends_at b = b
rows_joined (token_at a) b = token_at (rows_joined a b)
rows_joined (opening_at h a) b = opening_at h (rows_joined a b)
rows_joined (closing_at a) b = closing_at (rows_joined a b)
rows_joined (bar_at ne a) b = bar_at ne (rows_joined a b)
rows_joined (part_at made one a c) b = part_at made one a (rows_joined c b)

-- a part, and after it more of the row
pub read_then : (l d m e : ℕ) (part : Nonterminal) (row : Row) (p : Place) (s r rest : List ℕ) (v : Value) (us : List Value) → Reads l d (Part part ∷ []) m p s (r ++ rest) (v ∷ []) → Reads l m row e (past p s) r rest us →
    Reads l d (Part part ∷ row) e p (s ++ r) rest (v ∷ us)
read_then l d m e part row p s r rest v us a b = joined l d e (Part part ∷ row) p s r rest (v ∷ us) (rows_joined a b)

-- ---- what may follow
-- the first token of these bytes
pub record Starts (rest : List ℕ) (k : Terminal) : Type 0 where
  pub at : (p : Place) → (l : Lexeme) × (ls : List Lexeme) × (tokens_from 0 p rest ≡ l ∷ ls) × (terminal_at l ≡ k)

pub starts_token : (k : Kind) (j : Terminal) (x rest : List ℕ) → IsToken k x rest → kind_terminal k x ≡ j → Starts (x ++ rest) j
starts_token k j x rest a f = record { at = λ p. (record { kind = k; text = x; place = p }, tokens_from 0 (past p x) rest, a p, f) }

pub read_unless : (l d e : ℕ) (j k : Terminal) (row : Row) (p : Place) (s rest : List ℕ) (vs : List Value) → j ≢ k → Starts (s ++ rest) k → Reads l d row e p s rest vs → Reads l d (Unless j ∷ row) e p s rest vs
read_unless l d e j k row p s rest vs ne f m =
    let a = f.at p in
    let ne' : j ≢ terminal_at a.0 = λ h. ne (h ∙ a.3) in
    subst (λ ls. MeansAt l d (Unless j ∷ row) ls (tokens_from 0 (past p s) rest) e vs) (sym a.2) (bar_at ne' (subst (λ ls. MeansAt l d row ls (tokens_from 0 (past p s) rest) e vs) a.2 m))

-- ---- what is read is derived
pub derived : {l d e : ℕ} {row : Row} {from to : List Lexeme} {vs : List Value} → MeansAt l d row from to e vs → (more : Row) → Derives Entire l e more (terminals_at to) → Derives Entire l d (row ++ more) (terminals_at from)
derived ends_at more g = g
derived (token_at m) more g = token (derived m more g)
derived (opening_at h m) more g = opening h (derived m more g)
derived (closing_at m) more g = closed (derived m more g)
derived (bar_at ne m) more g = unless ne (derived m more g)
derived (part_at made {row = row} one m n) more g = by made one (derived m (row ++ more) (derived n more g))
