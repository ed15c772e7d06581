-- What the machine has read so far.
use Rattle.std.proofs.Common.{◌≡◌, ◌<◌, ◌≤◌, ◌+◌, ℕ, ◌++◌, List, [], ◌∷◌, take, length, reverse, refl, sym, ap, subst, ◌∙◌, append_assoc, length-append, inl, arith}
use Rattle.std.proofs.lemmas.List.{append-nil, map-append, map_push}
use Rattle.std.proofs.Math.Seq.{take-append_seam, take-append-add}
use Rattle.xd_lex.specs.Tokens.{Lexeme}
use Rattle.xd_grammar.specs.declared.grammar.Nonterminal.{Nonterminal}
use Rattle.xd_grammar.specs.declared.grammar.Symbol.{Symbol}
use Rattle.xd_grammar.specs.declared.grammar.Symbol.TheVariants.{Part}
use Rattle.xd_grammar.specs.declared.grammar.Terminal.{Terminal}
use Rattle.xd_grammar.specs.declared.machine.Reading.{Reading}
use Rattle.xd_grammar.specs.declared.machine.Reading.TheVariants.{Plain, Opened, Named, Barred, AfterVal, Shut}
use Rattle.xd_grammar.specs.Grammar.{Row, Extent, Partial, Derives, end, token, opening, closed, unless, by, BeginsNonterminal}
use Rattle.xd_grammar.specs.FirstFault.{Refusal, no_text, too_deep, IsFirstRefusal}
use Rattle.xd_grammar.specs.Started.{IsStart}
use Rattle.xd_grammar.specs.Machine.{Reads, Passes, Stops, Sinks}
use Rattle.xd_grammar.specs.Text.{IsFaultAt, IsPlaceAt, terminals_at, terminal_at}
use Rattle.xd_syntax.specs.Shallow.{nesting_limit}

-- after these tokens the text of the nonterminal goes on as the machine's state says
pub record Stands (part : Nonterminal) (read : List Terminal) (reading : Reading) (depth : ℕ) (row : Row) : Type 0 where
  pub on : (e : Extent) (l : ℕ) (us : List Terminal) → nesting_limit ≤ l → Derives e l 0 (Part part ∷ []) (read ++ us) → Reads reading e l depth row us
  pub back : (e : Extent) (l : ℕ) (us : List Terminal) → nesting_limit ≤ l → Reads reading e l depth row us → Derives e l 0 (Part part ∷ []) (read ++ us)

pub at_start : (part : Nonterminal) (reading : Reading) (depth : ℕ) (stack : List Symbol) → IsStart part reading depth stack → Stands part [] reading depth (reverse stack)
at_start part reading depth stack s =
    subst (λ (x : Reading). Stands part [] x depth (reverse stack)) (sym s.plain)
    (subst (λ (x : ℕ). Stands part [] Plain x (reverse stack)) (sym s.flat)
    (subst (λ (x : List Symbol). Stands part [] Plain 0 (reverse x)) (sym s.one) (record { on = λ e l us h g. g; back = λ e l us h g. g })))

one_more : (read : List Terminal) (k : Terminal) (us : List Terminal) → (read ++ k ∷ []) ++ us ≡ read ++ (k ∷ us)
one_more read k us = append_assoc read (k ∷ []) us

pub advances : (part : Nonterminal) (read more : List Terminal) (k : Terminal) (reading : Reading) (depth : ℕ) (row : Row) (after : Reading) (new : ℕ) (rest : Row) → more ≡ read ++ k ∷ [] → Stands part read reading depth row → Passes reading depth row k after new rest → Stands part more after new rest
advances part read more k reading depth row after new rest is s p = subst (λ (x : List Terminal). Stands part x after new rest) (sym is) (record {
  on = λ e l us h g. p.on e l us h (s.on e l (k ∷ us) h (subst (Derives e l 0 (Part part ∷ [])) (one_more read k us) g));
  back = λ e l us h g. subst (Derives e l 0 (Part part ∷ [])) (sym (one_more read k us)) (s.back e l (k ∷ us) h (p.back e l us h g));
})

-- every state goes on with no token
alive : (reading : Reading) (l depth : ℕ) (row : Row) → Reads reading Partial l depth row []
alive Plain l depth row = end tt
alive (Opened sort) l depth row = inl (end tt)
alive (Named sort) l depth row = inl (end tt)
alive (Barred sort) l depth row = inl (end tt)
alive AfterVal l depth row = inl (end tt)
alive (Shut sort) l depth row = inl (end tt)

pub so_far : (part : Nonterminal) (read : List Terminal) (reading : Reading) (depth : ℕ) (row : Row) → Stands part read reading depth row → BeginsNonterminal nesting_limit part read
so_far part read reading depth row s = subst (BeginsNonterminal nesting_limit part) (append-nil read) (s.back Partial nesting_limit [] (omega arith) (alive reading nesting_limit depth row))

-- a larger limit takes no text away
pub wider : {e : Extent} {l depth : ℕ} {row : Row} {ts : List Terminal} → Derives e l depth row ts → (m : ℕ) → l ≤ m → Derives e m depth row ts
wider (end h) m le = end h
wider (token d) m le = token (wider d m le)
wider (opening h d) m le = opening (omega arith) (wider d m le)
wider (closed d) m le = closed (wider d m le)
wider (unless ne d) m le = unless ne (wider d m le)
wider (by made one d) m le = by made one (wider d m le)

-- ---- the token k after those that were read
up_to_read : (ts read more : List Terminal) (k : Terminal) → ts ≡ read ++ k ∷ more → take (length read) ts ≡ read
up_to_read ts read more k is = ap (take (length read)) is ∙ take-append_seam read (k ∷ more)

up_to_token : (ts read more : List Terminal) (k : Terminal) → ts ≡ read ++ k ∷ more → take (length read + 1) ts ≡ read ++ k ∷ []
up_to_token ts read more k is = ap (take (length read + 1)) is ∙ take-append-add read (k ∷ more) 1

before : (ts read more : List Terminal) (k : Terminal) → ts ≡ read ++ k ∷ more → length read < length ts
before ts read more k is = omega (arith, ap length is, length-append read (k ∷ more))

pub stops : (part : Nonterminal) (ts read more : List Terminal) (k : Terminal) (reading : Reading) (depth : ℕ) (row : Row) → ts ≡ read ++ k ∷ more → Stands part read reading depth row → Stops reading depth row k → IsFirstRefusal part ts (length read) no_text
stops part ts read more k reading depth row is s p = record {
  within = before ts read more k is;
  before = subst (BeginsNonterminal nesting_limit part) (sym (up_to_read ts read more k is)) (so_far part read reading depth row s);
  there = λ limit g. p.dead Partial (limit + nesting_limit) [] (omega arith) (s.on Partial (limit + nesting_limit) (k ∷ []) (omega arith) (wider (subst (BeginsNonterminal limit part) (up_to_token ts read more k is) g) (limit + nesting_limit) (omega arith)));
}

pub sinks : (part : Nonterminal) (ts read more : List Terminal) (k : Terminal) (reading : Reading) (depth : ℕ) (row : Row) → ts ≡ read ++ k ∷ more → Stands part read reading depth row → Sinks reading depth row k → IsFirstRefusal part ts (length read) too_deep
sinks part ts read more k reading depth row is s p = record {
  within = before ts read more k is;
  before = subst (BeginsNonterminal nesting_limit part) (sym (up_to_read ts read more k is)) (so_far part read reading depth row s);
  there = (λ g. p.dead Partial [] (s.on Partial nesting_limit (k ∷ []) (omega arith) (subst (BeginsNonterminal nesting_limit part) (up_to_token ts read more k is) g)), (p.limit, subst (BeginsNonterminal p.limit part) (sym (up_to_token ts read more k is)) (s.back Partial p.limit (k ∷ []) p.above p.alive)));
}

-- ---- the tokens of a lexer
-- the machine stands after the first of all tokens, and these are left
pub record ReadsTo (part : Nonterminal) (all left : List Lexeme) (reading : Reading) (depth : ℕ) (row : Row) : Type 0 where
  pub read : List Lexeme
  pub parts : all ≡ read ++ left
  pub stands : Stands part (terminals_at read) reading depth row

pub reads_none : (part : Nonterminal) (all : List Lexeme) (reading : Reading) (depth : ℕ) (stack : List Symbol) → IsStart part reading depth stack → ReadsTo part all all reading depth (reverse stack)
reads_none part all reading depth stack s = record { read = []; parts = refl; stands = at_start part reading depth stack s }

whole : (all read old left : List Lexeme) (l : Lexeme) → all ≡ read ++ old → old ≡ l ∷ left → all ≡ read ++ l ∷ left
whole all read old left l e f = e ∙ ap (λ (ls : List Lexeme). read ++ ls) f

pub reads_more : (part : Nonterminal) (all old left : List Lexeme) (l : Lexeme) (reading : Reading) (depth : ℕ) (row : Row) (after : Reading) (new : ℕ) (rest : Row) → old ≡ l ∷ left → ReadsTo part all old reading depth row → Passes reading depth row (terminal_at l) after new rest → ReadsTo part all left after new rest
reads_more part all old left l reading depth row after new rest is r p = record {
  read = r.read ++ l ∷ [];
  parts = whole all r.read old left l r.parts is ∙ sym (append_assoc r.read (l ∷ []) left);
  stands = advances part (terminals_at r.read) (terminals_at (r.read ++ l ∷ [])) (terminal_at l) reading depth row after new rest (map_push terminal_at r.read l) r.stands p;
}

terminals_whole : (all read left : List Lexeme) (l : Lexeme) → all ≡ read ++ l ∷ left → terminals_at all ≡ terminals_at read ++ terminal_at l ∷ terminals_at left
terminals_whole all read left l e = ap terminals_at e ∙ map-append terminal_at read (l ∷ left)

token_at : (read left : List Lexeme) (l : Lexeme) → IsPlaceAt (read ++ l ∷ left) (length (terminals_at read)) l.place
token_at [] left l = record { lexeme = l; stands = refl; at = refl }
token_at (x ∷ read) left l = let more = token_at read left l in record { lexeme = more.lexeme; stands = more.stands; at = more.at }

-- the fault at the token after those that were read
fault_there : (part : Nonterminal) (all read left : List Lexeme) (l : Lexeme) (refusal : Refusal) → all ≡ read ++ l ∷ left → IsFirstRefusal part (terminals_at all) (length (terminals_at read)) refusal → IsFaultAt part all refusal l.place
fault_there part all read left l refusal is f = record { index = length (terminals_at read); first = f; placed = subst (λ (ls : List Lexeme). IsPlaceAt ls (length (terminals_at read)) l.place) (sym is) (token_at read left l) }

pub token_stops : (part : Nonterminal) (all old left : List Lexeme) (l : Lexeme) (reading : Reading) (depth : ℕ) (row : Row) → old ≡ l ∷ left → ReadsTo part all old reading depth row → Stops reading depth row (terminal_at l) → IsFaultAt part all no_text l.place
token_stops part all old left l reading depth row is r p =
    let w = whole all r.read old left l r.parts is in
    fault_there part all r.read left l no_text w (stops part (terminals_at all) (terminals_at r.read) (terminals_at left) (terminal_at l) reading depth row (terminals_whole all r.read left l w) r.stands p)

pub token_sinks : (part : Nonterminal) (all old left : List Lexeme) (l : Lexeme) (reading : Reading) (depth : ℕ) (row : Row) → old ≡ l ∷ left → ReadsTo part all old reading depth row → Sinks reading depth row (terminal_at l) → IsFaultAt part all too_deep l.place
token_sinks part all old left l reading depth row is r p =
    let w = whole all r.read old left l r.parts is in
    fault_there part all r.read left l too_deep w (sinks part (terminals_at all) (terminals_at r.read) (terminals_at left) (terminal_at l) reading depth row (terminals_whole all r.read left l w) r.stands p)

pub all_read : (part : Nonterminal) (all left : List Lexeme) (reading : Reading) (depth : ℕ) (row : Row) → left ≡ [] → ReadsTo part all left reading depth row → BeginsNonterminal nesting_limit part (terminals_at all)
all_read part all left reading depth row none r =
    let is : all ≡ r.read = r.parts ∙ ap (λ (ls : List Lexeme). r.read ++ ls) none ∙ append-nil r.read in
    subst (λ (ls : List Lexeme). BeginsNonterminal nesting_limit part (terminals_at ls)) (sym is) (so_far part (terminals_at r.read) reading depth row r.stands)
