-- Tokens that spell a nonterminal within a limit of nesting stand for something.
use Rattle.std.proofs.Common.{◌≡◌, ◌≢◌, ◌<◌, ℕ, suc, ◌++◌, List, [], ◌∷◌, refl, sym, subst}
use Rattle.xd_doc.proofs.Lists.{not_nil, same_first, same_rest}
use Rattle.xd_lex.specs.Tokens.{Lexeme}
use Rattle.xd_grammar.specs.declared.grammar.Nonterminal.{Nonterminal}
use Rattle.xd_grammar.specs.declared.grammar.Symbol.TheVariants.{Token, Opening, Closed, Unless, Part}
use Rattle.xd_grammar.specs.declared.grammar.Terminal.{Terminal}
use Rattle.xd_doc.specs.Members.{IsOneOf}
use Rattle.xd_grammar.specs.Grammar.{Row, rules, Entire, MayEnd, Derives, end, token, opening, closed, unless, by, SpellsNonterminal}
use Rattle.xd_grammar.specs.Text.{terminals_at, terminal_at}
use Rattle.xd_parse_trees.specs.Values.{Value, token_value, value_of}
use Rattle.xd_parse_trees.specs.Means.{Means, MeansAll, ends, a_token, an_opening, a_closing, a_bar, a_part}
use Rattle.xd_parse_trees.specs.Reading.{Reads}

-- what a row stands for, where so many levels are open before it and so many after it, and no more
-- than the limit ever
pub data MeansAt (limit : ℕ) : (before : ℕ) → Row → (from to : List Lexeme) → (after : ℕ) → List Value → Type 0 where
  ends_at : {d : ℕ} {ls : List Lexeme} → MeansAt limit d [] ls ls d []
  token_at : {d e : ℕ} {l : Lexeme} {row : Row} {ls rest : List Lexeme} {vs : List Value} → MeansAt limit d row ls rest e vs → MeansAt limit d (Token (terminal_at l) ∷ row) (l ∷ ls) rest e (token_value l ∷ vs)
  opening_at : {d e : ℕ} {l : Lexeme} {row : Row} {ls rest : List Lexeme} {vs : List Value} → d < limit → MeansAt limit (suc d) row ls rest e vs → MeansAt limit d (Opening (terminal_at l) ∷ row) (l ∷ ls) rest e (token_value l ∷ vs)
  closing_at : {d e : ℕ} {row : Row} {ls rest : List Lexeme} {vs : List Value} → MeansAt limit d row ls rest e vs → MeansAt limit (suc d) (Closed ∷ row) ls rest e vs
  bar_at : {d e : ℕ} {j : Terminal} {l : Lexeme} {row : Row} {ls rest : List Lexeme} {vs : List Value} → j ≢ terminal_at l → MeansAt limit d row (l ∷ ls) rest e vs → MeansAt limit d (Unless j ∷ row) (l ∷ ls) rest e vs
  part_at : {d m e : ℕ} {part : Nonterminal} (made : Row) {row : Row} {ls middle rest : List Lexeme} {parts vs : List Value} → IsOneOf made (rules part) → MeansAt limit d made ls middle m parts → MeansAt limit m row middle rest e vs → MeansAt limit d (Part part ∷ row) ls rest e (value_of part parts ∷ vs)

-- the levels left aside
pub levels_aside : {limit d e : ℕ} {row : Row} {from to : List Lexeme} {vs : List Value} → MeansAt limit d row from to e vs → Means row from to vs
levels_aside ends_at = ends
levels_aside (token_at m) = a_token (levels_aside m)
levels_aside (opening_at h m) = an_opening (levels_aside m)
levels_aside (closing_at m) = a_closing (levels_aside m)
levels_aside (bar_at ne m) = a_bar ne (levels_aside m)
levels_aside (part_at made one m n) = a_part made one (levels_aside m) (levels_aside n)

-- ---- a row in two pieces
record Cut (limit d : ℕ) (front back : Row) (from to : List Lexeme) (e : ℕ) : Type 0 where
  level : ℕ
  middle : List Lexeme
  firsts : List Value
  others : List Value
  one : MeansAt limit d front from middle level firsts
  two : MeansAt limit level back middle to e others

abbrev AtView : (limit d : ℕ) → Row → (from to : List Lexeme) → (e : ℕ) → List Value → Type 0
AtView limit d [] from to e vs = (d ≡ e) × (from ≡ to)
AtView limit d (Token k ∷ row) from to e vs = (l : Lexeme) × (ls : List Lexeme) × (us : List Value) × (from ≡ l ∷ ls) × (terminal_at l ≡ k) × MeansAt limit d row ls to e us
AtView limit d (Opening k ∷ row) from to e vs = (l : Lexeme) × (ls : List Lexeme) × (us : List Value) × (from ≡ l ∷ ls) × (terminal_at l ≡ k) × (d < limit) × MeansAt limit (suc d) row ls to e us
AtView limit d (Closed ∷ row) from to e vs = (c : ℕ) × (d ≡ suc c) × MeansAt limit c row from to e vs
AtView limit d (Unless j ∷ row) from to e vs = (l : Lexeme) × (ls : List Lexeme) × (from ≡ l ∷ ls) × (j ≢ terminal_at l) × MeansAt limit d row from to e vs
AtView limit d (Part part ∷ row) from to e vs = (made : Row) × (m : ℕ) × (middle : List Lexeme) × (parts : List Value) × (us : List Value) × IsOneOf made (rules part) × MeansAt limit d made from middle m parts × MeansAt limit m row middle to e us

at_view : {limit d e : ℕ} {row : Row} {from to : List Lexeme} {vs : List Value} → MeansAt limit d row from to e vs → AtView limit d row from to e vs
at_view ends_at = (refl, refl)
at_view (token_at {l = l} {ls = ls} {vs = vs} m) = (l, ls, vs, refl, refl, m)
at_view (opening_at {l = l} {ls = ls} {vs = vs} h m) = (l, ls, vs, refl, refl, h, m)
at_view (closing_at {d = d} m) = (d, refl, m)
at_view (bar_at {l = l} {ls = ls} ne m) = (l, ls, refl, ne, m)
at_view (part_at {m = m} made {middle = middle} {parts = parts} {vs = vs} one o p) = (made, m, middle, parts, vs, one, o, p)

token_is : (limit d e : ℕ) (k : Terminal) (l : Lexeme) (row : Row) (from ls to : List Lexeme) (vs : List Value) → from ≡ l ∷ ls → terminal_at l ≡ k → MeansAt limit d row ls to e vs → MeansAt limit d (Token k ∷ row) from to e (token_value l ∷ vs)
token_is limit d e k l row from ls to vs q f m = subst (λ (x : List Lexeme). MeansAt limit d (Token k ∷ row) x to e (token_value l ∷ vs)) (sym q) (subst (λ (j : Terminal). MeansAt limit d (Token j ∷ row) (l ∷ ls) to e (token_value l ∷ vs)) f (token_at m))

opening_is : (limit d e : ℕ) (k : Terminal) (l : Lexeme) (row : Row) (from ls to : List Lexeme) (vs : List Value) → from ≡ l ∷ ls → terminal_at l ≡ k → d < limit → MeansAt limit (suc d) row ls to e vs → MeansAt limit d (Opening k ∷ row) from to e (token_value l ∷ vs)
opening_is limit d e k l row from ls to vs q f h m = subst (λ (x : List Lexeme). MeansAt limit d (Opening k ∷ row) x to e (token_value l ∷ vs)) (sym q) (subst (λ (j : Terminal). MeansAt limit d (Opening j ∷ row) (l ∷ ls) to e (token_value l ∷ vs)) f (opening_at h m))

closing_is : (limit c d e : ℕ) (row : Row) (from to : List Lexeme) (vs : List Value) → d ≡ suc c → MeansAt limit c row from to e vs → MeansAt limit d (Closed ∷ row) from to e vs
closing_is limit c d e row from to vs q m = subst (λ (x : ℕ). MeansAt limit x (Closed ∷ row) from to e vs) (sym q) (closing_at m)

bar_is : (limit d e : ℕ) (j : Terminal) (l : Lexeme) (row : Row) (from ls to : List Lexeme) (vs : List Value) → from ≡ l ∷ ls → j ≢ terminal_at l → MeansAt limit d row from to e vs → MeansAt limit d (Unless j ∷ row) from to e vs
bar_is limit d e j l row from ls to vs q ne m = subst (λ (x : List Lexeme). MeansAt limit d (Unless j ∷ row) x to e vs) (sym q) (bar_at ne (subst (λ (x : List Lexeme). MeansAt limit d row x to e vs) q m))

cut_token : (limit d e : ℕ) (k : Terminal) (front back : Row) (l : Lexeme) (from ls to : List Lexeme) → from ≡ l ∷ ls → terminal_at l ≡ k → Cut limit d front back ls to e → Cut limit d (Token k ∷ front) back from to e
cut_token limit d e k front back l from ls to q f c = record { level = c.level; middle = c.middle; firsts = token_value l ∷ c.firsts; others = c.others; one = token_is limit d c.level k l front from ls c.middle c.firsts q f c.one; two = c.two }

cut_opening : (limit d e : ℕ) (k : Terminal) (front back : Row) (l : Lexeme) (from ls to : List Lexeme) → from ≡ l ∷ ls → terminal_at l ≡ k → d < limit → Cut limit (suc d) front back ls to e → Cut limit d (Opening k ∷ front) back from to e
cut_opening limit d e k front back l from ls to q f h c = record { level = c.level; middle = c.middle; firsts = token_value l ∷ c.firsts; others = c.others; one = opening_is limit d c.level k l front from ls c.middle c.firsts q f h c.one; two = c.two }

cut_closing : (limit i d e : ℕ) (front back : Row) (from to : List Lexeme) → d ≡ suc i → Cut limit i front back from to e → Cut limit d (Closed ∷ front) back from to e
cut_closing limit i d e front back from to q c = record { level = c.level; middle = c.middle; firsts = c.firsts; others = c.others; one = closing_is limit i d c.level front from c.middle c.firsts q c.one; two = c.two }

cut_bar : (limit d e : ℕ) (j : Terminal) (front back : Row) (l : Lexeme) (from ls to : List Lexeme) → from ≡ l ∷ ls → j ≢ terminal_at l → Cut limit d front back from to e → Cut limit d (Unless j ∷ front) back from to e
cut_bar limit d e j front back l from ls to q ne c = record { level = c.level; middle = c.middle; firsts = c.firsts; others = c.others; one = bar_is limit d c.level j l front from ls c.middle c.firsts q ne c.one; two = c.two }

cut_part : (limit d m e : ℕ) (part : Nonterminal) (made front back : Row) (from between to : List Lexeme) (parts : List Value) → IsOneOf made (rules part) → MeansAt limit d made from between m parts → Cut limit m front back between to e → Cut limit d (Part part ∷ front) back from to e
cut_part limit d m e part made front back from between to parts one n c = record { level = c.level; middle = c.middle; firsts = value_of part parts ∷ c.firsts; others = c.others; one = part_at made one n c.one; two = c.two }

cut : (limit d e : ℕ) (front back : Row) (from to : List Lexeme) (ws : List Value) → MeansAt limit d (front ++ back) from to e ws → Cut limit d front back from to e
cut limit d e [] back from to ws m = record { level = d; middle = from; firsts = []; others = ws; one = ends_at; two = m }
cut limit d e (Token k ∷ front) back from to ws m = let v : AtView limit d (Token k ∷ (front ++ back)) from to e ws = at_view m in cut_token limit d e k front back v.0 from v.1 to v.3 v.4 (cut limit d e front back v.1 to v.2 v.5)
cut limit d e (Opening k ∷ front) back from to ws m = let v : AtView limit d (Opening k ∷ (front ++ back)) from to e ws = at_view m in cut_opening limit d e k front back v.0 from v.1 to v.3 v.4 v.5 (cut limit (suc d) e front back v.1 to v.2 v.6)
cut limit d e (Closed ∷ front) back from to ws m = let v : AtView limit d (Closed ∷ (front ++ back)) from to e ws = at_view m in cut_closing limit v.0 d e front back from to v.1 (cut limit v.0 e front back from to ws v.2)
cut limit d e (Unless j ∷ front) back from to ws m = let v : AtView limit d (Unless j ∷ (front ++ back)) from to e ws = at_view m in cut_bar limit d e j front back v.0 from v.1 to v.2 v.3 (cut limit d e front back from to ws v.4)
cut limit d e (Part part ∷ front) back from to ws m = let v : AtView limit d (Part part ∷ (front ++ back)) from to e ws = at_view m in cut_part limit d v.1 e part v.0 front back from v.2 to v.3 v.5 v.6 (cut limit v.1 e front back v.2 to v.4 v.7)

-- ---- what a row stands for, if tokens spell it
abbrev AllMeans : (limit d : ℕ) → Row → List Lexeme → Type 0
AllMeans limit d row ls = (e : ℕ) × (vs : List Value) × MeansAt limit d row ls [] e vs

cons_nil : (k : Terminal) (ts : List Terminal) → k ∷ ts ≡ [] → ⊥
cons_nil k ts e = cc

at_end : (limit d : ℕ) (row : Row) → MayEnd Entire row → (ls : List Lexeme) → [] ≡ terminals_at ls → AllMeans limit d row ls
at_end limit d [] m [] e = (d, [], ends_at)
at_end limit d [] m (l ∷ ls) e = absurd (not_nil (terminal_at l) (terminals_at ls) e)
at_end limit d (s ∷ row) m ls e = absurd m

by_token : (limit d : ℕ) (k : Terminal) (row : Row) (ts : List Terminal) (ls : List Lexeme) → k ∷ ts ≡ terminals_at ls → ((later : List Lexeme) → ts ≡ terminals_at later → AllMeans limit d row later) → AllMeans limit d (Token k ∷ row) ls
by_token limit d k row ts [] q more = absurd (cons_nil k ts q)
by_token limit d k row ts (l ∷ ls) q more = let s = more ls (same_rest k (terminal_at l) ts (terminals_at ls) q) in (s.0, token_value l ∷ s.1, token_is limit d s.0 k l row (l ∷ ls) ls [] s.1 refl (sym (same_first k (terminal_at l) ts (terminals_at ls) q)) s.2)

by_opening : (limit d : ℕ) (k : Terminal) (row : Row) (ts : List Terminal) (ls : List Lexeme) → d < limit → k ∷ ts ≡ terminals_at ls → ((later : List Lexeme) → ts ≡ terminals_at later → AllMeans limit (suc d) row later) → AllMeans limit d (Opening k ∷ row) ls
by_opening limit d k row ts [] h q more = absurd (cons_nil k ts q)
by_opening limit d k row ts (l ∷ ls) h q more = let s = more ls (same_rest k (terminal_at l) ts (terminals_at ls) q) in (s.0, token_value l ∷ s.1, opening_is limit d s.0 k l row (l ∷ ls) ls [] s.1 refl (sym (same_first k (terminal_at l) ts (terminals_at ls) q)) h s.2)

by_bar : (limit d : ℕ) (j k : Terminal) (row : Row) (ts : List Terminal) (ls : List Lexeme) → j ≢ k → k ∷ ts ≡ terminals_at ls → AllMeans limit d row ls → AllMeans limit d (Unless j ∷ row) ls
by_bar limit d j k row ts [] ne q s = absurd (cons_nil k ts q)
by_bar limit d j k row ts (l ∷ ls) ne q s = (s.0, s.1, bar_is limit d s.0 j l row (l ∷ ls) ls [] s.1 refl (subst (λ (x : Terminal). j ≢ x) (same_first k (terminal_at l) ts (terminals_at ls) q) ne) s.2)

by_part : (limit d : ℕ) (part : Nonterminal) (made row : Row) (ls : List Lexeme) → IsOneOf made (rules part) → AllMeans limit d (made ++ row) ls → AllMeans limit d (Part part ∷ row) ls
by_part limit d part made row ls one s = let c = cut limit d s.0 made row ls [] s.1 s.2 in (s.0, value_of part c.firsts ∷ c.others, part_at made one c.one c.two)

means_of : {limit depth : ℕ} {row : Row} {ts : List Terminal} → Derives Entire limit depth row ts → (ls : List Lexeme) → ts ≡ terminals_at ls → AllMeans limit depth row ls
means_of {limit = limit} (end {depth = d} {row = row} m) ls q = at_end limit d row m ls q
means_of {limit = limit} (token {depth = d} {k = k} {row = row} {ts = ts} m) ls q = by_token limit d k row ts ls q (λ later f. means_of m later f)
means_of {limit = limit} (opening {depth = d} {k = k} {row = row} {ts = ts} h m) ls q = by_opening limit d k row ts ls h q (λ later f. means_of m later f)
means_of {limit = limit} (closed {depth = d} {row = row} m) ls q = let s = means_of m ls q in (s.0, s.1, closing_at s.2)
means_of {limit = limit} (unless {depth = d} {j = j} {k = k} {row = row} {ts = ts} ne m) ls q = by_bar limit d j k row ts ls ne q (means_of m ls q)
means_of {limit = limit} (by {depth = d} {part = part} made {row = row} one m) ls q = by_part limit d part made row ls one (means_of m ls q)

-- all the tokens spell the nonterminal within the limit, and it stands for the value
pub record MeansWithin (limit : ℕ) (part : Nonterminal) (ls : List Lexeme) (v : Value) : Type 0 where
  pub made : Row
  pub level : ℕ
  pub parts : List Value
  pub one : IsOneOf made (rules part)
  pub within : MeansAt limit 0 made ls [] level parts
  pub is : v ≡ value_of part parts

one_of : (limit : ℕ) (part : Nonterminal) (ls : List Lexeme) → AllMeans limit 0 (Part part ∷ []) ls → (v : Value) × MeansWithin limit part ls v
one_of limit part ls s =
    let v : AtView limit 0 (Part part ∷ []) ls [] s.0 s.1 = at_view s.2 in
    let z : AtView limit v.1 [] v.2 [] s.0 v.4 = at_view v.7 in
    (value_of part v.3, record { made = v.0; level = v.1; parts = v.3; one = v.5; within = subst (λ (x : List Lexeme). MeansAt limit 0 v.0 ls x v.1 v.3) z.1 v.6; is = refl })

-- tokens that spell a nonterminal stand for something
pub spelled_within : (limit : ℕ) (part : Nonterminal) (ls : List Lexeme) → SpellsNonterminal limit part (terminals_at ls) → (v : Value) × MeansWithin limit part ls v
spelled_within limit part ls s = one_of limit part ls (means_of s ls refl)

all_of : (limit : ℕ) (part : Nonterminal) (ls : List Lexeme) (v : Value) → MeansWithin limit part ls v → MeansAll part ls v
all_of limit part ls v m = subst (λ (w : Value). MeansAll part ls w) (sym m.is) (a_part m.made m.one (levels_aside m.within) ends)

-- what was read is what they stand for, and within the limit
pub read_within : (limit : ℕ) (part : Nonterminal) (ls to : List Lexeme) (v : Value) → SpellsNonterminal limit part (terminals_at ls) → Reads part ls to v → MeansWithin limit part ls v
read_within limit part ls to v s r =
    let m = spelled_within limit part ls s in
    let q : ([] ≡ to) × (m.0 ≡ v) = r [] m.0 (all_of limit part ls m.0 m.1) in
    subst (λ (w : Value). MeansWithin limit part ls w) q.1 m.1

pub read_all : (limit : ℕ) (part : Nonterminal) (ls to : List Lexeme) (v : Value) → SpellsNonterminal limit part (terminals_at ls) → Reads part ls to v → MeansAll part ls v
read_all limit part ls to v s r = all_of limit part ls v (read_within limit part ls to v s r)
