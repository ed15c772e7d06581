-- The tokens that were read, and those that are left.
use Rattle.std.proofs.Common.{◌≡◌, ◌-◌, ◌^◌, ◌<◌, ℕ, Bool, false, List, [], ◌∷◌, ◌++◌, length, take, reverse, refl, sym, ap, subst, ◌∙◌, inl, inr, append_assoc, length-append, arith, ◌↔◌, IsUtf8}
use Rattle.std.proofs.lemmas.List.{map-append}
use Rattle.xd_base.specs.declared.Place.{Place}
use Rattle.xd_doc.specs.Document.{Document}
use Rattle.xd_doc.specs.StoreNodes.{Keeps}
use Rattle.xd_doc.proofs.StoredLemmas.{Keeps-same, Keeps-trans}
use Rattle.xd_lex.specs.declared.Kind.{Kind}
use Rattle.xd_lex.specs.Cut.{IsFirstToken}
use Rattle.xd_lex.specs.Left.{tokens_left}
use Rattle.xd_lex.specs.Tokens.{Lexeme, past, start, tokens_from, tokens_of}
use Rattle.xd_lex.specs.LexedTokens.{is_last}
use Rattle.xd_lex.proofs.Skipped.{past-append, some_token, take_gap}
use Rattle.xd_read.specs.Grammar.{Terminal, Spells, Begins}
use Rattle.xd_read.specs.Reading.{terminal, terminal_of, terminals_of, IsFirstFault, IsMalformedAt, SpellsNothing}
use Rattle.xd_read.specs.Pending.{front_of, frames_of, IsReaderReady, CanComplete, PassesToken, EndsDocument, StandsAt, StopsAt}
use Rattle.xd_read.specs.declared.moves.Expect.TheVariants as expects
use Rattle.xd_read.specs.declared.reader.Reader.{Reader}
use Rattle.xd_read.proofs.Machine.{At, completion, spelled_completes, completes_spelled}

-- from what the reader keeps, the terminals complete the document
abbrev pub ReaderCompletes : List Document → Reader → List Terminal → Document → Type 0
ReaderCompletes ds r ts d = CanComplete ds r.expect r.finished.items r.elements.items ts d

-- the reader stands after tokens of the list, before those that are left
pub record StandsBefore (all left : List Lexeme) (old ds : List Document) (r : Reader) : Type 0 where
  pub keeps : Keeps old ds
  pub ready : IsReaderReady ds r
  pub before : List Lexeme
  pub split : all ≡ before ++ left
  pub more : 0 < length left
  pub same : (ts : List Terminal) (d : Document) → Spells (terminals_of before ++ ts) d ↔ ReaderCompletes ds r ts d

pub stands_first : (all : List Lexeme) (ds : List Document) (r : Reader) → 0 < length all → r.expect ≡ expects.Document → r.finished.items ≡ [] → r.elements.items ≡ [] → StandsBefore all all ds ds r
stands_first all ds r lt e f o = record {
  keeps = Keeps-same ds;
  ready = rw (f, o) (record { finished = tt; marks = tt });
  before = [];
  split = refl;
  more = lt;
  same = λ ts d. rw (e, f, o) ((λ s. spelled_completes ts d s), (λ c. completes_spelled ts d c));
}

one_more : (before : List Lexeme) (x : Lexeme) (ts : List Terminal) → terminals_of (before ++ x ∷ []) ++ ts ≡ terminals_of before ++ terminal_of x ∷ ts
one_more before x ts = ap (λ (l : List Terminal). l ++ ts) (map-append terminal_of before (x ∷ [])) ∙ append_assoc (terminals_of before) (terminal_of x ∷ []) ts

pub stands_next : (all left now : List Lexeme) (x : Lexeme) (old ds ds' : List Document) (r r' : Reader) → StandsBefore all left old ds r → left ≡ x ∷ now → 0 < length now → Keeps ds ds' → PassesToken ds r (terminal_of x) ds' r' → StandsBefore all now old ds' r'
stands_next all left now x old ds ds' r r' h e lt k p = record {
  keeps = Keeps-trans old ds ds' h.keeps k;
  ready = p.ready;
  before = h.before ++ x ∷ [];
  split = h.split ∙ ap (λ (l : List Lexeme). h.before ++ l) e ∙ sym (append_assoc h.before (x ∷ []) now);
  more = lt;
  same = λ ts d. (
    (λ s. (p.same ts d).0 ((h.same (terminal_of x ∷ ts) d).0 (subst (λ (l : List Terminal). Spells l d) (one_more h.before x ts) s))),
    (λ c. subst (λ (l : List Terminal). Spells l d) (sym (one_more h.before x ts)) ((h.same (terminal_of x ∷ ts) d).1 ((p.same ts d).1 c))),
  );
}

-- the tokens that were read begin a document
begins_so_far : (all left : List Lexeme) (old ds : List Document) (r : Reader) (h : StandsBefore all left old ds r) → Begins (terminals_of h.before)
begins_so_far all left old ds r h =
    let c = completion (At r.expect (front_of ds r.finished.items (reverse r.elements.items)) (frames_of ds r.finished.items (reverse r.elements.items))) in
    (c.0, c.1, (h.same c.0 c.1).1 c.2)

pub first_fault : (all left now : List Lexeme) (x : Lexeme) (old ds : List Document) (r : Reader) (place : Place) → StandsBefore all left old ds r → left ≡ x ∷ now → StopsAt ds r (terminal_of x) → place ≡ x.place → IsFirstFault all place
first_fault all left now x old ds r place h e s p = record {
  before = h.before;
  fault = x;
  after = now;
  split = h.split ∙ ap (λ (l : List Lexeme). h.before ++ l) e;
  goes = begins_so_far all left old ds r h;
  stops = λ b. s b.0 b.1 ((h.same (terminal_of x ∷ b.0) b.1).0 (subst (λ (l : List Terminal). Spells l b.1) (one_more h.before x b.0) b.2));
  here = p;
}

-- where the tokens stop somewhere, they spell nothing
pub fault_spells_nothing : (all : List Lexeme) (place : Place) → IsFirstFault all place → (d : Document) → Spells (terminals_of all) d → ⊥
fault_spells_nothing all place f d s =
    let whole : all ≡ (f.before ++ f.fault ∷ []) ++ f.after = f.split ∙ sym (append_assoc f.before (f.fault ∷ []) f.after) in
    let parts : terminals_of all ≡ terminals_of (f.before ++ f.fault ∷ []) ++ terminals_of f.after = ap terminals_of whole ∙ map-append terminal_of (f.before ++ f.fault ∷ []) f.after in
    f.stops (terminals_of f.after, d, subst (λ (l : List Terminal). Spells l d) parts s)

pub malformed_spells_nothing : (bytes : List ℕ) (place : Place) → IsMalformedAt bytes place → SpellsNothing bytes
malformed_spells_nothing bytes place (inl e) d s = e.refused s.utf8
malformed_spells_nothing bytes place (inr (u, f)) d s = fault_spells_nothing (tokens_of bytes) place f d s.spells

append-nil : (xs : List Lexeme) → xs ++ [] ≡ xs
append-nil [] = refl
append-nil (x ∷ xs) = ap (λ (ys : List Lexeme). x ∷ ys) (append-nil xs)

pub spelled : (all left now : List Lexeme) (x : Lexeme) (old ds : List Document) (r : Reader) (d : Document) → StandsBefore all left old ds r → left ≡ x ∷ now → now ≡ [] → EndsDocument ds r (terminal_of x) d → Spells (terminals_of all) d
spelled all left now x old ds r d h e n f =
    let whole : terminals_of all ≡ terminals_of h.before ++ terminal_of x ∷ [] = ap terminals_of (h.split ∙ ap (λ (l : List Lexeme). h.before ++ l) (e ∙ ap (λ (l : List Lexeme). x ∷ l) n)) ∙ map-append terminal_of h.before (x ∷ []) in
    subst (λ (l : List Terminal). Spells l d) (sym whole) ((h.same (terminal_of x ∷ []) d).1 f.ended)

-- the reader stands before the rest of the bytes
pub record StandsAtRest (bytes rest : List ℕ) (old ds : List Document) (r : Reader) : Type 0 where
  pub front : List ℕ
  pub parts : bytes ≡ front ++ rest
  pub stands : StandsBefore (tokens_of bytes) (tokens_from 0 (past start front) rest) old ds r

pub rest_first : (bytes rest : List ℕ) (ds : List Document) (r : Reader) → rest ≡ bytes → r.expect ≡ expects.Document → r.finished.items ≡ [] → r.elements.items ≡ [] → StandsAtRest bytes rest ds ds r
rest_first bytes rest ds r same e f o = rw same (record { front = []; parts = refl; stands = stands_first (tokens_of bytes) ds r (some_token 0 start bytes) e f o })

split_at : (bytes rest token behind : List ℕ) (kind : Kind) (front : List ℕ) → bytes ≡ front ++ rest → (f : IsFirstToken rest kind token behind) → bytes ≡ (front ++ f.gap) ++ (token ++ behind)
split_at bytes rest token behind kind front e f = e ∙ ap (λ (xs : List ℕ). front ++ xs) f.parts ∙ sym (append_assoc front f.gap (token ++ behind))

-- where the token stands
pub token_stands : (whole bytes rest token behind : List ℕ) (kind : Kind) (at : ℕ) (old ds : List Document) (r : Reader) → whole ≡ bytes → IsUtf8 bytes → length bytes < 2 ^ 63 → StandsAtRest bytes rest old ds r → IsFirstToken rest kind token behind → at ≡ length bytes - length behind - length token → StandsAt whole at token
token_stands whole bytes rest token behind kind at old ds r same u lt s f e =
    let split : bytes ≡ (s.front ++ f.gap) ++ (token ++ behind) = split_at bytes rest token behind kind s.front s.parts f in
    rw same (record {
      utf8 = u;
      fits = lt;
      before = s.front ++ f.gap;
      behind = behind;
      split = split;
      place = omega (arith, ap length split, length-append (s.front ++ f.gap) (token ++ behind), length-append token behind);
    })

pub rest_next : (bytes rest token behind : List ℕ) (kind : Kind) (old ds ds' : List Document) (r r' : Reader) → StandsAtRest bytes rest old ds r → IsFirstToken rest kind token behind → is_last kind ≡ false → Keeps ds ds' → PassesToken ds r (terminal kind token) ds' r' → StandsAtRest bytes behind old ds' r'
rest_next bytes rest token behind kind old ds ds' r r' s f l k p =
    let here : Place = past (past start s.front) f.gap in
    let x : Lexeme = record { kind = kind; text = token; place = here } in
    let there : past start ((s.front ++ f.gap) ++ token) ≡ past here token = past-append start (s.front ++ f.gap) token ∙ ap (λ (q : Place). past q token) (past-append start s.front f.gap) in
    let left : tokens_from 0 (past start s.front) rest ≡ x ∷ tokens_from 0 (past here token) behind = f.tokens (past start s.front) ∙ ap (λ (b : Bool). x ∷ tokens_left b (past here token) behind) l in
    record {
      front = (s.front ++ f.gap) ++ token;
      parts = split_at bytes rest token behind kind s.front s.parts f ∙ sym (append_assoc (s.front ++ f.gap) token behind);
      stands = rw there (stands_next (tokens_of bytes) (tokens_from 0 (past start s.front) rest) (tokens_from 0 (past here token) behind) x old ds ds' r r' s.stands left (some_token 0 (past here token) behind) k p);
    }

pub rest_malformed : (bytes rest token behind : List ℕ) (kind : Kind) (at : ℕ) (place : Place) (old ds : List Document) (r : Reader) → IsUtf8 bytes → StandsAtRest bytes rest old ds r → IsFirstToken rest kind token behind → at ≡ length bytes - length behind - length token → place ≡ past start (take at bytes) → StopsAt ds r (terminal kind token) → IsMalformedAt bytes place
rest_malformed bytes rest token behind kind at place old ds r u s f e p stops =
    let here : Place = past (past start s.front) f.gap in
    let front : take at bytes ≡ s.front ++ f.gap = take_gap bytes (s.front ++ f.gap) token behind at (split_at bytes rest token behind kind s.front s.parts f) e in
    inr (u, first_fault (tokens_of bytes) (tokens_from 0 (past start s.front) rest) (tokens_left (is_last kind) (past here token) behind) (record { kind = kind; text = token; place = here }) old ds r place s.stands (f.tokens (past start s.front)) stops (p ∙ ap (past start) front ∙ past-append start s.front f.gap))
