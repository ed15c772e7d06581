-- The rules of longest match leave which tokens begin a symbol as it is.
--
-- One direction drops conditions. For the other a derivation that minds no next token is followed
-- token by token. A row that forbids a token may be taken where nothing after it begins with that
-- token, which a test of the grammar tells (`is_right`). Only items and clauses of a match in
-- another's body are left: where the inner repetition was left out before a comma or a bar and an
-- outer one takes it, the inner one can take it too, since all that stands between them can be left
-- out (`Absorbs`).
use Rattle.std.proofs.Common.{◌≡◌, ◌≢◌, ◌≤◌, ◌==◌, ◌+◌, ◌⊎◌, ℕ, zero, suc, ◌++◌, Bool, true, false, cond, map, length, List, [], ◌∷◌, refl, sym, ap, subst, ◌∙◌, append_assoc, inl, inr, arith}
use Rattle.std.proofs.lemmas.Bool.{eqb-true, false≢true}
use Rattle.xd_doc.proofs.Lists.{not_nil, same_first, same_rest}
use Rattle.xd_grammar.specs.declared.grammar.Nonterminal.{Nonterminal}
use Rattle.xd_grammar.specs.declared.grammar.Nonterminal.TheVariants as n
use Rattle.xd_grammar.specs.declared.grammar.Sort.TheVariants as sorts
use Rattle.xd_grammar.specs.declared.grammar.Symbol.{Symbol}
use Rattle.xd_grammar.specs.declared.grammar.Symbol.TheVariants.{Token, Opening, Closed, Unless, Part}
use Rattle.xd_grammar.specs.declared.grammar.Terminal.{Terminal}
use Rattle.xd_grammar.specs.declared.grammar.Terminal.TheVariants as t
use Rattle.xd_doc.specs.Members.{IsOneOf}
use Rattle.xd_grammar.specs.Grammar.{Row, rules, Partial, Derives, end, token, opening, closed, unless, by}
use Rattle.xd_grammar.specs.Fits.{same}
use Rattle.xd_grammar.specs.Erasing.{production, productions, Starts, nothing, symbol, choice, opened, LongestMatchOnlyChooses}
use Rattle.xd_grammar.proofs.Derive.{same-of, same-true, same-false, both_of, all_rows, all_of}

-- ---- derivations of a front, whatever the next token is and however many levels are open
data Loose : Row → List Terminal → Type 0 where
  done : {row : Row} → Loose row []
  word : {k : Terminal} {row : Row} {ts : List Terminal} → Loose row ts → Loose (Token k ∷ row) (k ∷ ts)
  opens : {k : Terminal} {row : Row} {ts : List Terminal} → Loose row ts → Loose (Opening k ∷ row) (k ∷ ts)
  closes : {row : Row} {ts : List Terminal} → Loose row ts → Loose (Closed ∷ row) ts
  passes : {j : Terminal} {row : Row} {ts : List Terminal} → Loose row ts → Loose (Unless j ∷ row) ts
  becomes : {part : Nonterminal} (made : Row) {row : Row} {ts : List Terminal} → IsOneOf made (rules part) → Loose (made ++ row) ts → Loose (Part part ∷ row) ts

abbrev LooseView : Row → Terminal → List Terminal → Type 0
LooseView [] k ts = ⊥
LooseView (Token j ∷ row) k ts = (j ≡ k) × Loose row ts
LooseView (Opening j ∷ row) k ts = (j ≡ k) × Loose row ts
LooseView (Closed ∷ row) k ts = Loose row (k ∷ ts)
LooseView (Unless j ∷ row) k ts = Loose row (k ∷ ts)
LooseView (Part part ∷ row) k ts = (made : Row) × IsOneOf made (rules part) × Loose (made ++ row) (k ∷ ts)

loose_view : {row : Row} {us : List Terminal} → Loose row us → (k : Terminal) (ts : List Terminal) → us ≡ k ∷ ts → LooseView row k ts
loose_view done k ts q = absurd (not_nil k ts q)
loose_view (word {k = j} {row = row} {ts = us} l) k ts q = (same_first j k us ts q, subst (Loose row) (same_rest j k us ts q) l)
loose_view (opens {k = j} {row = row} {ts = us} l) k ts q = (same_first j k us ts q, subst (Loose row) (same_rest j k us ts q) l)
loose_view (closes {row = row} l) k ts q = subst (Loose row) q l
loose_view (passes {row = row} l) k ts q = subst (Loose row) q l
loose_view (becomes made {row = row} one l) k ts q = (made, one, subst (Loose (made ++ row)) q l)

-- what stands after a front may be another row

instead : (x y : Row) → ((ts : List Terminal) → Loose x ts → Loose y ts) → {row : Row} {ts : List Terminal} → Loose row ts → (front : Row) → row ≡ front ++ x → Loose (front ++ y) ts
instead x y f {ts = ts} l [] e = f ts (subst (λ (z : Row). Loose z ts) e l)
instead x y f done (s ∷ front) e = done
instead x y f (word {k = k} {row = row} {ts = ts} l) (s ∷ front) e =
    subst (λ (z : Symbol). Loose (z ∷ (front ++ y)) (k ∷ ts)) (same_first (Token k) s row (front ++ x) e) (word (instead x y f l front (same_rest (Token k) s row (front ++ x) e)))
instead x y f (opens {k = k} {row = row} {ts = ts} l) (s ∷ front) e =
    subst (λ (z : Symbol). Loose (z ∷ (front ++ y)) (k ∷ ts)) (same_first (Opening k) s row (front ++ x) e) (opens (instead x y f l front (same_rest (Opening k) s row (front ++ x) e)))
instead x y f (closes {row = row} {ts = ts} l) (s ∷ front) e =
    subst (λ (z : Symbol). Loose (z ∷ (front ++ y)) ts) (same_first Closed s row (front ++ x) e) (closes (instead x y f l front (same_rest Closed s row (front ++ x) e)))
instead x y f (passes {j = j} {row = row} {ts = ts} l) (s ∷ front) e =
    subst (λ (z : Symbol). Loose (z ∷ (front ++ y)) ts) (same_first (Unless j) s row (front ++ x) e) (passes (instead x y f l front (same_rest (Unless j) s row (front ++ x) e)))
instead x y f (becomes {part = part} made {row = row} {ts = ts} one l) (s ∷ front) e =
    let q : made ++ row ≡ (made ++ front) ++ x = ap (λ (z : Row). made ++ z) (same_rest (Part part) s row (front ++ x) e) ∙ sym (append_assoc made front x) in
    subst (λ (z : Symbol). Loose (z ∷ (front ++ y)) ts) (same_first (Part part) s row (front ++ x) e) (becomes made one (subst (λ (z : Row). Loose z ts) (append_assoc made front y) (instead x y f l (made ++ front) q)))

-- ---- tokens that do not come next
abbrev has : Terminal → List Terminal → Bool
has j [] = false
has j (k ∷ ks) = cond (same j k) true (has j ks)

-- The tokens that do not come directly after a symbol: by each a text of the symbol goes on, or
-- could not end.
abbrev behind_post : List Terminal
behind_post = t.As ∷ t.Star ∷ t.Plus ∷ t.Query ∷ t.BracketL ∷ []

abbrev guards : Nonterminal → List Terminal
guards n.MoreParams = t.ParenL ∷ []
guards (n.Alternative s) = t.Bar ∷ t.Comma ∷ behind_post
guards (n.MoreBranches s) = t.Bar ∷ t.Comma ∷ behind_post
guards (n.Sequence s) = t.Comma ∷ behind_post
guards (n.MoreParts s) = t.Comma ∷ behind_post
guards (n.Post s) = behind_post
guards (n.Prim s) = t.BracketL ∷ []
guards (n.Group s) = t.BracketL ∷ []
guards n.Bound = behind_post
guards n.Operator = behind_post
guards n.MoreNames = t.Bar ∷ []
guards n.MoreTexts = t.Bar ∷ []
guards n.Expr = t.ParenL ∷ []
guards n.MoreItems = t.ParenL ∷ []
guards n.Item = t.ParenL ∷ []
guards n.MoreParens = t.ParenL ∷ []
guards n.Clause = t.ParenL ∷ []
guards n.MoreClauses = t.ParenL ∷ []
guards part = []

abbrev Avoids : Terminal → Row → Type 0
Avoids j row = (ts : List Terminal) → Loose row (j ∷ ts) → ⊥

abbrev Guarded : List Terminal → Row → Type 0
Guarded ks row = (j : Terminal) → has j ks ≡ true → Avoids j row

-- whether a row with guarded tokens after it avoids this one
abbrev avoids : ℕ → List Terminal → Terminal → Row → Bool
avoids zero ks j row = false
avoids (suc f) ks j [] = has j ks
avoids (suc f) ks j (Token k ∷ row) = cond (same k j) false true
avoids (suc f) ks j (Opening k ∷ row) = cond (same k j) false true
avoids (suc f) ks j (Closed ∷ row) = avoids f ks j row
avoids (suc f) ks j (Unless k ∷ row) = avoids f ks j row
avoids (suc f) ks j (Part part ∷ row) = all_rows (λ (r : Row). avoids f ks j (r ++ row)) (rules part)

not_true : (b : Bool) → cond b false true ≡ true → b ≡ true → ⊥
not_true true h g = cc
not_true false h g = cc

avoids_row : (f : ℕ) (ks : List Terminal) (j : Terminal) (row behind : Row) → avoids f ks j row ≡ true → Guarded ks behind → Avoids j (row ++ behind)
avoids_row zero ks j row behind h g ts l = false≢true h
avoids_row (suc f) ks j [] behind h g ts l = g j h ts l
avoids_row (suc f) ks j (Token k ∷ row) behind h g ts l = let v : LooseView (Token k ∷ (row ++ behind)) j ts = loose_view l j ts refl in not_true (same k j) h (same-of k j v.0)
avoids_row (suc f) ks j (Opening k ∷ row) behind h g ts l = let v : LooseView (Opening k ∷ (row ++ behind)) j ts = loose_view l j ts refl in not_true (same k j) h (same-of k j v.0)
avoids_row (suc f) ks j (Closed ∷ row) behind h g ts l = let v : LooseView (Closed ∷ (row ++ behind)) j ts = loose_view l j ts refl in avoids_row f ks j row behind h g ts v
avoids_row (suc f) ks j (Unless k ∷ row) behind h g ts l = let v : LooseView (Unless k ∷ (row ++ behind)) j ts = loose_view l j ts refl in avoids_row f ks j row behind h g ts v
avoids_row (suc f) ks j (Part part ∷ row) behind h g ts l =
    let v : LooseView (Part part ∷ (row ++ behind)) j ts = loose_view l j ts refl in
    avoids_row f ks j (v.0 ++ row) behind (all_of (λ (r : Row). avoids f ks j (r ++ row)) (rules part) v.0 v.1 h) g ts (subst (λ (z : Row). Loose z (j ∷ ts)) (sym (append_assoc v.0 row behind)) v.2)

abbrev avoid_all : List Terminal → List Terminal → Row → Bool
avoid_all ks [] row = true
avoid_all ks (j ∷ js) row = cond (avoids 9 ks j row) (avoid_all ks js row) false

first_or_other : (b c : Bool) → cond b true c ≡ true → (b ≡ true) ⊎ (c ≡ true)
first_or_other true c h = inl refl
first_or_other false c h = inr h

avoid_all_row : (ks js : List Terminal) (row behind : Row) → avoid_all ks js row ≡ true → Guarded ks behind → Guarded js (row ++ behind)
avoid_all_row ks [] row behind h g j one = absurd (false≢true one)
avoid_all_row ks (k ∷ js) row behind h g j one =
    let b : (avoids 9 ks k row ≡ true) × (avoid_all ks js row ≡ true) = both_of (avoids 9 ks k row) (avoid_all ks js row) h in
    elim (first_or_other (same j k) (has j js) one) [ inl e ↦ subst (λ (z : Terminal). Avoids z (row ++ behind)) (sym (same-true j k e)) (avoids_row 9 ks k row behind b.0 g) | inr e ↦ avoid_all_row ks js row behind b.1 g j e ]

-- ---- commas and bars that an outer item or match would take are taken by the inner one as well
abbrev again : Terminal → Row
again t.Comma = Part n.Item ∷ Part n.MoreItems ∷ []
again t.Bar = Part n.Clause ∷ Part n.MoreClauses ∷ []
again k = []

abbrev Absorbs : Terminal → Row → Type 0
Absorbs j row = (ts : List Terminal) → Loose row (j ∷ ts) → Loose (again j ++ row) ts

record AbsorbsBoth (row : Row) : Type 0 where
  comma : Absorbs t.Comma row
  bar : Absorbs t.Bar row

absorbs_closed : (j : Terminal) (row : Row) → Absorbs j row → Absorbs j (Closed ∷ row)
absorbs_closed j row a ts l =
    let v : LooseView (Closed ∷ row) j ts = loose_view l j ts refl in
    instead row (Closed ∷ row) (λ us m. closes m) (a ts v) (again j) refl

-- a repetition of items or clauses
abbrev Repeats : Nonterminal → Terminal → Type 0
Repeats more i = rules more ≡ (Token i ∷ again i) ∷ (Unless i ∷ []) ∷ []

leaves_out : (more : Nonterminal) (i : Terminal) → Repeats more i → (row : Row) (ts : List Terminal) → Loose row ts → Loose (Part more ∷ row) ts
leaves_out more i e row ts l = becomes (Unless i ∷ []) (subst (λ (rs : List Row). IsOneOf (Unless i ∷ []) rs) (sym e) (inr (inl refl))) (passes l)

absorbed : (more : Nonterminal) (i j : Terminal) (row made : Row) (ts : List Terminal) → Absorbs j row → IsOneOf made ((Token i ∷ again i) ∷ (Unless i ∷ []) ∷ []) → Loose (made ++ row) (j ∷ ts) → Loose (again j ++ row) ts
absorbed more i j row made ts a (inl e) l =
    let v : LooseView (Token i ∷ (again i ++ row)) j ts = loose_view (subst (λ (z : Row). Loose (z ++ row) (j ∷ ts)) (sym e) l) j ts refl in
    subst (λ (k : Terminal). Loose (again k ++ row) ts) v.0 v.1
absorbed more i j row made ts a (inr (inl e)) l =
    let v : LooseView (Unless i ∷ row) j ts = loose_view (subst (λ (z : Row). Loose (z ++ row) (j ∷ ts)) (sym e) l) j ts refl in
    a ts v
absorbed more i j row made ts a (inr (inr none)) l = absurd none

absorbs_more : (more : Nonterminal) (i j : Terminal) → Repeats more i → (row : Row) → Absorbs j row → Absorbs j (Part more ∷ row)
absorbs_more more i j e row a ts l =
    let v : LooseView (Part more ∷ row) j ts = loose_view l j ts refl in
    instead row (Part more ∷ row) (λ us m. leaves_out more i e row us m) (absorbed more i j row v.0 ts a (subst (λ (rs : List Row). IsOneOf v.0 rs) e v.1) v.2) (again j) refl

abbrev is_more : Nonterminal → Bool
is_more n.MoreItems = true
is_more n.MoreClauses = true
is_more part = false

more_repeats : (more : Nonterminal) → is_more more ≡ true → (i : Terminal) × Repeats more i
more_repeats n.MoreItems h = (t.Comma, refl)
more_repeats n.MoreClauses h = (t.Bar, refl)
more_repeats part h = absurd (false≢true h)

-- the symbols that may end in an expression
abbrev is_loose : Nonterminal → Bool
is_loose n.Expr = true
is_loose n.MoreItems = true
is_loose n.Item = true
is_loose n.Clause = true
is_loose n.MoreClauses = true
is_loose part = false

abbrev absorbs : List Terminal → Bool → Row → Bool
absorbs ks b [] = b
absorbs ks b (Closed ∷ row) = absorbs ks b row
absorbs ks b (Token k ∷ row) = avoid_all ks (t.Comma ∷ t.Bar ∷ []) (Token k ∷ row)
absorbs ks b (Opening k ∷ row) = avoid_all ks (t.Comma ∷ t.Bar ∷ []) (Opening k ∷ row)
absorbs ks b (Unless k ∷ row) = avoid_all ks (t.Comma ∷ t.Bar ∷ []) (Unless k ∷ row)
absorbs ks b (Part part ∷ row) = cond (is_more part) (absorbs ks b row) (avoid_all ks (t.Comma ∷ t.Bar ∷ []) (Part part ∷ row))

absorbs_avoided : (ks : List Terminal) (row behind : Row) → avoid_all ks (t.Comma ∷ t.Bar ∷ []) row ≡ true → Guarded ks behind → AbsorbsBoth (row ++ behind)
absorbs_avoided ks row behind h g =
    let a : Guarded (t.Comma ∷ t.Bar ∷ []) (row ++ behind) = avoid_all_row ks (t.Comma ∷ t.Bar ∷ []) row behind h g in
    record { comma = λ ts l. absurd (a t.Comma refl ts l); bar = λ ts l. absurd (a t.Bar refl ts l) }

by_test : {A : Type 0} (b c d : Bool) → (b ≡ true → c ≡ true → A) → (d ≡ true → A) → cond b c d ≡ true → A
by_test true c d f g h = f refl h
by_test false c d f g h = g h

absorbs_more_both : (more : Nonterminal) → is_more more ≡ true → (row : Row) → AbsorbsBoth row → AbsorbsBoth (Part more ∷ row)
absorbs_more_both more is row a =
    let r : (i : Terminal) × Repeats more i = more_repeats more is in
    record { comma = absorbs_more more r.0 t.Comma r.1 row a.comma; bar = absorbs_more more r.0 t.Bar r.1 row a.bar }

absorbs_row : (ks : List Terminal) (b : Bool) (row behind : Row) → absorbs ks b row ≡ true → Guarded ks behind → (b ≡ true → AbsorbsBoth behind) → AbsorbsBoth (row ++ behind)
absorbs_row ks b [] behind h g a = a h
absorbs_row ks b (Closed ∷ row) behind h g a =
    let r : AbsorbsBoth (row ++ behind) = absorbs_row ks b row behind h g a in
    record { comma = absorbs_closed t.Comma (row ++ behind) r.comma; bar = absorbs_closed t.Bar (row ++ behind) r.bar }
absorbs_row ks b (Token k ∷ row) behind h g a = absorbs_avoided ks (Token k ∷ row) behind h g
absorbs_row ks b (Opening k ∷ row) behind h g a = absorbs_avoided ks (Opening k ∷ row) behind h g
absorbs_row ks b (Unless k ∷ row) behind h g a = absorbs_avoided ks (Unless k ∷ row) behind h g
absorbs_row ks b (Part part ∷ row) behind h g a =
    by_test (is_more part) (absorbs ks b row) (avoid_all ks (t.Comma ∷ t.Bar ∷ []) (Part part ∷ row)) (λ is m. absorbs_more_both part is (row ++ behind) (absorbs_row ks b row behind m g a)) (λ m. absorbs_avoided ks (Part part ∷ row) behind m g) h

-- ---- a row whose symbols each stand before what may come after them
abbrev Fine : Row → Type 0
Fine [] = Unit {0}
Fine (Token k ∷ row) = Fine row
Fine (Opening k ∷ row) = Fine row
Fine (Closed ∷ row) = Fine row
Fine (Unless j ∷ row) = Avoids j row × Fine row
Fine (Part part ∷ row) = Guarded (guards part) row × (is_loose part ≡ true → AbsorbsBoth row) × Fine row

abbrev is_fine : List Terminal → Bool → Row → Bool
is_fine ks b [] = true
is_fine ks b (Token k ∷ row) = is_fine ks b row
is_fine ks b (Opening k ∷ row) = is_fine ks b row
is_fine ks b (Closed ∷ row) = is_fine ks b row
is_fine ks b (Unless j ∷ row) = cond (avoids 9 ks j row) (is_fine ks b row) false
is_fine ks b (Part part ∷ row) = cond (avoid_all ks (guards part) row) (cond (cond (is_loose part) (absorbs ks b row) true) (is_fine ks b row) false) false

where_true : (b c : Bool) → cond b c true ≡ true → b ≡ true → c ≡ true
where_true true c h g = h
where_true false c h g = absurd (false≢true g)

fine_row : (ks : List Terminal) (b : Bool) (row behind : Row) → is_fine ks b row ≡ true → Guarded ks behind → (b ≡ true → AbsorbsBoth behind) → Fine behind → Fine (row ++ behind)
fine_row ks b [] behind h g a f = f
fine_row ks b (Token k ∷ row) behind h g a f = fine_row ks b row behind h g a f
fine_row ks b (Opening k ∷ row) behind h g a f = fine_row ks b row behind h g a f
fine_row ks b (Closed ∷ row) behind h g a f = fine_row ks b row behind h g a f
fine_row ks b (Unless j ∷ row) behind h g a f =
    let p : (avoids 9 ks j row ≡ true) × (is_fine ks b row ≡ true) = both_of (avoids 9 ks j row) (is_fine ks b row) h in
    (avoids_row 9 ks j row behind p.0 g, fine_row ks b row behind p.1 g a f)
fine_row ks b (Part part ∷ row) behind h g a f =
    let p : (avoid_all ks (guards part) row ≡ true) × (cond (cond (is_loose part) (absorbs ks b row) true) (is_fine ks b row) false ≡ true) = both_of (avoid_all ks (guards part) row) (cond (cond (is_loose part) (absorbs ks b row) true) (is_fine ks b row) false) h in
    let q : (cond (is_loose part) (absorbs ks b row) true ≡ true) × (is_fine ks b row ≡ true) = both_of (cond (is_loose part) (absorbs ks b row) true) (is_fine ks b row) p.1 in
    (avoid_all_row ks (guards part) row behind p.0 g, λ is. absorbs_row ks b row behind (where_true (is_loose part) (absorbs ks b row) q.0 is) g a, fine_row ks b row behind q.1 g a f)

-- the same where this token comes next
abbrev FineAt : Terminal → Row → Type 0
FineAt k [] = Unit {0}
FineAt k (Token j ∷ row) = Fine row
FineAt k (Opening j ∷ row) = Fine row
FineAt k (Closed ∷ row) = FineAt k row
FineAt k (Unless j ∷ row) = (j ≡ k → Avoids j row) × FineAt k row
FineAt k (Part part ∷ row) = Fine (Part part ∷ row)

fine_at : (k : Terminal) (row : Row) → Fine row → FineAt k row
fine_at k [] f = f
fine_at k (Token j ∷ row) f = f
fine_at k (Opening j ∷ row) f = f
fine_at k (Closed ∷ row) f = fine_at k row f
fine_at k (Unless j ∷ row) f = (λ e. f.0, fine_at k row f.1)
fine_at k (Part part ∷ row) f = f

-- Each row of a nonterminal is fine, or the nonterminal repeats items or clauses.
abbrev is_right : Nonterminal → Row → Bool
is_right part row = is_fine (guards part) (is_loose part) row

data Kind (part : Nonterminal) : Type 0 where
  settled : all_rows (is_right part) (rules part) ≡ true → Kind part
  repeats : (i : Terminal) → Repeats part i → is_right part (Token i ∷ again i) ≡ true → is_loose part ≡ true → ((row : Row) → AbsorbsBoth row → Absorbs i row) → Kind part

kind : (part : Nonterminal) → Kind part
kind n.MoreItems = repeats t.Comma refl refl refl (λ row a. a.comma)
kind n.MoreClauses = repeats t.Bar refl refl refl (λ row a. a.bar)
kind (n.Post sorts.Type) = settled refl
kind (n.Post sorts.Pattern) = settled refl
kind part = settled refl

-- ---- levels of nesting: a row closes no level that is not open, unless nothing comes after; an
-- inner one begins in an open level
data Turn : Type 0 where
  Up : Turn
  Down : Turn
  Inner : Turn
  Level : Turn

abbrev turn : Nonterminal → Turn
turn n.Class = Up
turn n.Labels = Up
turn (n.Group s) = Down
turn (n.Content s) = Down
turn (n.ExceptedList s) = Inner
turn n.ExprContent = Down
turn n.ParenContent = Down
turn part = Level

abbrev Bare : Row → Type 0
Bare row = (j : Terminal) → Avoids j row

-- one level lower
abbrev lower : Type 0 → (ℕ → Type 0) → ℕ → Type 0
lower none deep zero = none
lower none deep (suc d) = deep d

abbrev turned : Turn → Type 0 → (ℕ → Type 0) → ℕ → Type 0
turned Up none deep d = deep (suc d)
turned Down none deep d = lower none deep d
turned Inner none deep d = lower ⊥ deep d
turned Level none deep d = deep d

abbrev Deep : Row → ℕ → Type 0
Deep [] d = Unit {0}
Deep (Token k ∷ row) d = Deep row d
Deep (Opening k ∷ row) d = Deep row (suc d)
Deep (Closed ∷ row) d = lower (Bare row) (Deep row) d
Deep (Unless j ∷ row) d = Deep row d
Deep (Part part ∷ row) d = turned (turn part) (Bare row) (Deep row) d

-- The row leads from so many levels to a number that passes the test. It closes none below, or else
-- that is the end of it.
abbrev is_bare : Row → Bool
is_bare [] = true
is_bare (Closed ∷ row) = is_bare row
is_bare (Unless j ∷ row) = is_bare row
is_bare (Token k ∷ row) = false
is_bare (Opening k ∷ row) = false
is_bare (Part part ∷ row) = false

abbrev lower_test : Bool → (ℕ → Bool) → ℕ → Bool
lower_test last test zero = last
lower_test last test (suc d) = test d

abbrev turned_test : Turn → Bool → (ℕ → Bool) → ℕ → Bool
turned_test Up last test d = test (suc d)
turned_test Down last test d = lower_test last test d
turned_test Inner last test d = lower_test false test d
turned_test Level last test d = test d

abbrev walks : (ℕ → Bool) → Bool → Row → ℕ → Bool
walks test sinks [] d = test d
walks test sinks (Token k ∷ row) d = walks test sinks row d
walks test sinks (Opening k ∷ row) d = walks test sinks row (suc d)
walks test sinks (Closed ∷ row) d = lower_test (cond sinks (is_bare row) false) (walks test sinks row) d
walks test sinks (Unless j ∷ row) d = walks test sinks row d
walks test sinks (Part part ∷ row) d = turned_test (turn part) (cond sinks (is_bare row) false) (walks test sinks row) d

bare_row : (row behind : Row) → is_bare row ≡ true → Bare behind → Bare (row ++ behind)
bare_row [] behind h b j ts l = b j ts l
bare_row (Closed ∷ row) behind h b j ts l = let v : LooseView (Closed ∷ (row ++ behind)) j ts = loose_view l j ts refl in bare_row row behind h b j ts v
bare_row (Unless k ∷ row) behind h b j ts l = let v : LooseView (Unless k ∷ (row ++ behind)) j ts = loose_view l j ts refl in bare_row row behind h b j ts v
bare_row (Token k ∷ row) behind h b j ts l = false≢true h
bare_row (Opening k ∷ row) behind h b j ts l = false≢true h
bare_row (Part part ∷ row) behind h b j ts l = false≢true h

abbrev raised : ℕ → ℕ → ℕ
raised zero d = d
raised (suc m) d = suc (raised m d)

walks_lower : (last : Bool) (test : ℕ → Bool) (none : Type 0) (deep : ℕ → Type 0) (d : ℕ) → (last ≡ true → (d ≡ 0) × none) → ((m : ℕ) → test m ≡ true → deep (raised m d)) → (m : ℕ) → lower_test last test m ≡ true → lower none deep (raised m d)
walks_lower last test none deep d a f zero h = subst (λ (x : ℕ). lower none deep x) (sym (a h).0) (a h).1
walks_lower last test none deep d a f (suc m) h = f m h

walks_turned : (u : Turn) (last : Bool) (test : ℕ → Bool) (none : Type 0) (deep : ℕ → Type 0) (d : ℕ) → (last ≡ true → (d ≡ 0) × none) → ((m : ℕ) → test m ≡ true → deep (raised m d)) → (m : ℕ) → turned_test u last test m ≡ true → turned u none deep (raised m d)
walks_turned Up last test none deep d a f m h = f (suc m) h
walks_turned Down last test none deep d a f m h = walks_lower last test none deep d a f m h
walks_turned Inner last test none deep d a f m h = walks_lower false test ⊥ deep d (λ e. absurd (false≢true e)) f m h
walks_turned Level last test none deep d a f m h = f m h

-- what is known of the row after
record Ground (test : ℕ → Bool) (sinks : Bool) (behind : Row) (d : ℕ) : Type 0 where
  above : (m : ℕ) → test m ≡ true → Deep behind (raised m d)
  below : sinks ≡ true → (d ≡ 0) × Bare behind

last_level : (test : ℕ → Bool) (sinks : Bool) (row behind : Row) (d : ℕ) → Ground test sinks behind d → cond sinks (is_bare row) false ≡ true → (d ≡ 0) × Bare (row ++ behind)
last_level test sinks row behind d g h =
    let b : (sinks ≡ true) × (is_bare row ≡ true) = both_of sinks (is_bare row) h in
    ((g.below b.0).0, bare_row row behind b.1 (g.below b.0).1)

walks_row : (test : ℕ → Bool) (sinks : Bool) (row behind : Row) (d : ℕ) → Ground test sinks behind d → (m : ℕ) → walks test sinks row m ≡ true → Deep (row ++ behind) (raised m d)
walks_row test sinks [] behind d g m h = g.above m h
walks_row test sinks (Token k ∷ row) behind d g m h = walks_row test sinks row behind d g m h
walks_row test sinks (Opening k ∷ row) behind d g m h = walks_row test sinks row behind d g (suc m) h
walks_row test sinks (Closed ∷ row) behind d g m h =
    walks_lower (cond sinks (is_bare row) false) (walks test sinks row) (Bare (row ++ behind)) (Deep (row ++ behind)) d (last_level test sinks row behind d g) (λ i e. walks_row test sinks row behind d g i e) m h
walks_row test sinks (Unless j ∷ row) behind d g m h = walks_row test sinks row behind d g m h
walks_row test sinks (Part part ∷ row) behind d g m h =
    walks_turned (turn part) (cond sinks (is_bare row) false) (walks test sinks row) (Bare (row ++ behind)) (Deep (row ++ behind)) d (last_level test sinks row behind d g) (λ i e. walks_row test sinks row behind d g i e) m h

-- Each row leads where its nonterminal does.
abbrev is_level : Turn → Row → Bool
is_level Up row = walks (λ d. d == 1) false row 0
is_level Down row = cond (walks (λ d. d == 0) false row 1) (walks (λ d. false) true row 0) false
is_level Inner row = walks (λ d. d == 0) false row 1
is_level Level row = walks (λ d. d == 0) false row 0

all_level : (part : Nonterminal) → all_rows (is_level (turn part)) (rules part) ≡ true
all_level (n.Post sorts.Type) = refl
all_level (n.Post sorts.Pattern) = refl
all_level part = refl

deep_between : (e m : ℕ) (made row : Row) (d : ℕ) → walks (λ x. x == e) false made m ≡ true → Deep row (raised e d) → Deep (made ++ row) (raised m d)
deep_between e m made row d h deep = walks_row (λ x. x == e) false made row d (record { above = λ i q. subst (λ (x : ℕ). Deep row (raised x d)) (sym (eqb-true i e q)) deep; below = λ no. absurd (false≢true no) }) m h

deep_made : (u : Turn) (made row : Row) (d : ℕ) → is_level u made ≡ true → turned u (Bare row) (Deep row) d → Deep (made ++ row) d
deep_made Up made row d h deep = deep_between 1 0 made row d h deep
deep_made Down made row zero h bare = walks_row (λ x. false) true made row 0 (record { above = λ i no. absurd (false≢true no); below = λ e. (refl, bare) }) 0 (both_of (walks (λ x. x == 0) false made 1) (walks (λ x. false) true made 0) h).1
deep_made Down made row (suc d) h deep = deep_between 0 1 made row d (both_of (walks (λ x. x == 0) false made 1) (walks (λ x. false) true made 0) h).0 deep
deep_made Inner made row zero h deep = absurd deep
deep_made Inner made row (suc d) h deep = deep_between 0 1 made row d h deep
deep_made Level made row d h deep = deep_between 0 0 made row d h deep

-- ---- the rules of longest match kept
abbrev Next : Terminal → List Terminal → ℕ → ℕ → Row → Type 0
Next k ts limit depth row = FineAt k row → Deep row depth → depth + suc (length ts) ≤ limit → Derives Partial limit depth row (k ∷ ts)

abbrev Later : List Terminal → ℕ → Type 0
Later ts limit = (depth : ℕ) (row : Row) → Fine row → Deep row depth → depth + length ts ≤ limit → Loose row ts → Derives Partial limit depth row ts

at_settled : (part : Nonterminal) (made row : Row) → IsOneOf made (rules part) → all_rows (is_right part) (rules part) ≡ true → Fine (Part part ∷ row) → Fine (made ++ row)
at_settled part made row one h f = fine_row (guards part) (is_loose part) made row (all_of (is_right part) (rules part) made one h) f.0 f.1 f.2

deep_at : (part : Nonterminal) (made row : Row) (depth : ℕ) → IsOneOf made (rules part) → Deep (Part part ∷ row) depth → Deep (made ++ row) depth
deep_at part made row depth one deep = deep_made (turn part) made row depth (all_of (is_level (turn part)) (rules part) made one (all_level part)) deep

-- a repetition that is left out: the next token is another, or the repetition goes on after all
at_left_out : (k : Terminal) (ts : List Terminal) (limit : ℕ) → Later ts limit → (part : Nonterminal) (i : Terminal) (depth : ℕ) (row : Row) → Repeats part i → is_right part (Token i ∷ again i) ≡ true → is_loose part ≡ true → Absorbs i row → (b : Bool) → same i k ≡ b → Loose row (k ∷ ts) → Next k ts limit depth ((Unless i ∷ []) ++ row) → Next k ts limit depth (Part part ∷ row)
at_left_out k ts limit later part i depth row e right is absorb true same_token l next f deep big =
    let q : i ≡ k = same-true i k same_token in
    let one : IsOneOf (Token i ∷ again i) (rules part) = subst (λ (rs : List Row). IsOneOf (Token i ∷ again i) rs) (sym e) (inl refl) in
    let more : Loose (again i ++ row) ts = absorb ts (subst (λ (x : Terminal). Loose row (x ∷ ts)) (sym q) l) in
    let on : Derives Partial limit depth (again i ++ row) ts = later depth (again i ++ row) (fine_row (guards part) (is_loose part) (Token i ∷ again i) row right f.0 f.1 f.2) (deep_at part (Token i ∷ again i) row depth one deep) (omega arith) more in
    subst (λ (x : Terminal). Derives Partial limit depth (Part part ∷ row) (x ∷ ts)) q (by (Token i ∷ again i) one (token on))
at_left_out k ts limit later part i depth row e right is absorb false other l next f deep big =
    let ne : i ≢ k = same-false i k other in
    let one : IsOneOf (Unless i ∷ []) (rules part) = subst (λ (rs : List Row). IsOneOf (Unless i ∷ []) rs) (sym e) (inr (inl refl)) in
    by (Unless i ∷ []) one (next (λ q. absurd (ne q), fine_at k row f.2) (deep_at part (Unless i ∷ []) row depth one deep) big)

at_repeats : (k : Terminal) (ts : List Terminal) (limit : ℕ) → Later ts limit → (part : Nonterminal) (i : Terminal) (made : Row) (depth : ℕ) (row : Row) → Repeats part i → is_right part (Token i ∷ again i) ≡ true → is_loose part ≡ true → Absorbs i row → IsOneOf made ((Token i ∷ again i) ∷ (Unless i ∷ []) ∷ []) → IsOneOf made (rules part) → Loose (made ++ row) (k ∷ ts) → Next k ts limit depth (made ++ row) → Next k ts limit depth (Part part ∷ row)
at_repeats k ts limit later part i made depth row e right is absorb (inl q) one l next f deep big =
    let right_made : is_right part made ≡ true = subst (λ (r : Row). is_right part r ≡ true) q right in
    by made one (next (fine_at k (made ++ row) (fine_row (guards part) (is_loose part) made row right_made f.0 f.1 f.2)) (deep_at part made row depth one deep) big)
at_repeats k ts limit later part i made depth row e right is absorb (inr (inl q)) one l next f deep big =
    let v : LooseView (Unless i ∷ row) k ts = loose_view (subst (λ (r : Row). Loose (r ++ row) (k ∷ ts)) (sym q) l) k ts refl in
    at_left_out k ts limit later part i depth row e right is absorb (same i k) refl v (subst (λ (r : Row). Next k ts limit depth (r ++ row)) (sym q) next) f deep big
at_repeats k ts limit later part i made depth row e right is absorb (inr (inr none)) one l next f deep big = absurd none

at_part : (k : Terminal) (ts : List Terminal) (limit : ℕ) → Later ts limit → (part : Nonterminal) → Kind part → (made : Row) (depth : ℕ) (row : Row) → IsOneOf made (rules part) → Loose (made ++ row) (k ∷ ts) → Next k ts limit depth (made ++ row) → Next k ts limit depth (Part part ∷ row)
at_part k ts limit later part (settled h) made depth row one l next f deep big = by made one (next (fine_at k (made ++ row) (at_settled part made row one h f)) (deep_at part made row depth one deep) big)
at_part k ts limit later part (repeats i e right is absorb) made depth row one l next f deep big = at_repeats k ts limit later part i made depth row e right is (absorb row (f.1 is)) (subst (λ (rs : List Row). IsOneOf made rs) e one) one l next f deep big

at_token : (k : Terminal) (ts : List Terminal) (limit : ℕ) → Later ts limit → {row : Row} {us : List Terminal} → Loose row us → us ≡ k ∷ ts → (depth : ℕ) → Next k ts limit depth row
at_token k ts limit later done e depth f deep big = absurd (not_nil k ts e)
at_token k ts limit later (word {k = j} {row = row} {ts = us} l) e depth f deep big =
    subst (λ (x : Terminal). Derives Partial limit depth (Token x ∷ row) (k ∷ ts)) (sym (same_first j k us ts e)) (token (later depth row f deep (omega arith) (subst (Loose row) (same_rest j k us ts e) l)))
at_token k ts limit later (opens {k = j} {row = row} {ts = us} l) e depth f deep big =
    subst (λ (x : Terminal). Derives Partial limit depth (Opening x ∷ row) (k ∷ ts)) (sym (same_first j k us ts e)) (opening (omega arith) (later (suc depth) row f deep (omega arith) (subst (Loose row) (same_rest j k us ts e) l)))
at_token k ts limit later (closes {row = row} l) e zero f deep big = absurd (deep k ts (subst (Loose row) e l))
at_token k ts limit later (closes l) e (suc depth) f deep big = closed (at_token k ts limit later l e depth f deep (omega arith))
at_token k ts limit later (passes {j = j} {row = row} l) e depth f deep big =
    unless (λ q. f.0 q ts (subst (Loose row) (e ∙ ap (λ (x : Terminal). x ∷ ts) (sym q)) l)) (at_token k ts limit later l e depth f.1 deep big)
at_token k ts limit later (becomes {part = part} made {row = row} one l) e depth f deep big =
    at_part k ts limit later part (kind part) made depth row one (subst (Loose (made ++ row)) e l) (λ g d b. at_token k ts limit later l e depth g d b) f deep big

kept : (ts : List Terminal) (limit : ℕ) → Later ts limit
kept [] limit depth row f deep big l = end tt
kept (k ∷ ts) limit depth row f deep big l = at_token k ts limit (kept ts limit) l refl depth (fine_at k row f) deep (omega arith)

-- ---- and by the productions alone
nothing_behind : (j : Terminal) → Avoids j []
nothing_behind j ts l = loose_view l j ts refl

nothing_absorbed : AbsorbsBoth []
nothing_absorbed = record { comma = λ ts l. absurd (nothing_behind t.Comma ts l); bar = λ ts l. absurd (nothing_behind t.Bar ts l) }

deep_alone : (part : Nonterminal) → Deep (Part part ∷ []) (opened part)
deep_alone (n.Group s) = nothing_behind
deep_alone (n.Content s) = nothing_behind
deep_alone n.ExprContent = nothing_behind
deep_alone n.ParenContent = nothing_behind
deep_alone part = tt

symbol_other : (k : Terminal) (part : Nonterminal) (a b : Row) → Token k ∷ a ≡ Part part ∷ b → ⊥
symbol_other k part a b e = cc

same_token : (j k : Terminal) (a b : Row) → Token j ∷ a ≡ Token k ∷ b → j ≡ k
same_token j k a b e = cc

same_part : (p q : Nonterminal) (a b : Row) → Part p ∷ a ≡ Part q ∷ b → p ≡ q
same_part p q a b e = cc

production_both : (a b : Row) → production (a ++ b) ≡ production a ++ production b
production_both [] b = refl
production_both (Token k ∷ a) b = ap (λ (r : Row). Token k ∷ r) (production_both a b)
production_both (Opening k ∷ a) b = ap (λ (r : Row). Token k ∷ r) (production_both a b)
production_both (Closed ∷ a) b = production_both a b
production_both (Unless k ∷ a) b = production_both a b
production_both (Part part ∷ a) b = ap (λ (r : Row). Part part ∷ r) (production_both a b)

row_of : (made : Row) (rs : List Row) → IsOneOf made (map production rs) → (r : Row) × IsOneOf r rs × (made ≡ production r)
row_of made [] one = absurd one
row_of made (r ∷ rs) (inl e) = (r, inl refl, sym e)
row_of made (r ∷ rs) (inr one) = let o : (s : Row) × IsOneOf s rs × (made ≡ production s) = row_of made rs one in (o.0, inr o.1, o.2)

production_of : (made : Row) (rs : List Row) → IsOneOf made rs → IsOneOf (production made) (map production rs)
production_of made [] one = absurd one
production_of made (r ∷ rs) (inl e) = inl (ap production e)
production_of made (r ∷ rs) (inr one) = inr (production_of made rs one)

through_symbol : (k : Terminal) (row : Row) (ts : List Terminal) → ((r : Row) → production r ≡ row → Loose r ts) → (r : Row) → production r ≡ Token k ∷ row → Loose r (k ∷ ts)
through_symbol k row ts f [] e = absurd (not_nil (Token k) row e)
through_symbol k row ts f (Token j ∷ r) e = subst (λ (x : Terminal). Loose (Token x ∷ r) (k ∷ ts)) (sym (same_token j k (production r) row e)) (word (f r (same_rest (Token j) (Token k) (production r) row e)))
through_symbol k row ts f (Opening j ∷ r) e = subst (λ (x : Terminal). Loose (Opening x ∷ r) (k ∷ ts)) (sym (same_token j k (production r) row e)) (opens (f r (same_rest (Token j) (Token k) (production r) row e)))
through_symbol k row ts f (Closed ∷ r) e = closes (through_symbol k row ts f r e)
through_symbol k row ts f (Unless j ∷ r) e = passes (through_symbol k row ts f r e)
through_symbol k row ts f (Part part ∷ r) e = absurd (symbol_other k part row (production r) (sym e))

through_choice : (part : Nonterminal) (made row : Row) (ts : List Terminal) → IsOneOf made (productions part) → ((r : Row) → production r ≡ made ++ row → Loose r ts) → (r : Row) → production r ≡ Part part ∷ row → Loose r ts
through_choice part made row ts one f [] e = absurd (not_nil (Part part) row e)
through_choice part made row ts one f (Token j ∷ r) e = absurd (symbol_other j part (production r) row e)
through_choice part made row ts one f (Opening j ∷ r) e = absurd (symbol_other j part (production r) row e)
through_choice part made row ts one f (Closed ∷ r) e = closes (through_choice part made row ts one f r e)
through_choice part made row ts one f (Unless j ∷ r) e = passes (through_choice part made row ts one f r e)
through_choice part made row ts one f (Part other ∷ r) e =
    let o : (s : Row) × IsOneOf s (rules part) × (made ≡ production s) = row_of made (rules part) one in
    let q : production (o.0 ++ r) ≡ made ++ row = production_both o.0 r ∙ ap (λ (x : Row). x ++ production r) (sym o.2) ∙ ap (λ (x : Row). made ++ x) (same_rest (Part other) (Part part) (production r) row e) in
    subst (λ (p : Nonterminal). Loose (Part p ∷ r) ts) (sym (same_part other part (production r) row e)) (becomes o.0 o.1 (f (o.0 ++ r) q))

loose_of : {row : Row} {ts : List Terminal} → Starts row ts → (r : Row) → production r ≡ row → Loose r ts
loose_of nothing r e = done
loose_of (symbol {k = k} {row = row} {ts = ts} s) r e = through_symbol k row ts (λ x q. loose_of s x q) r e
loose_of (choice {part = part} made {row = row} {ts = ts} one s) r e = through_choice part made row ts one (λ x q. loose_of s x q) r e

starts_of : {row : Row} {ts : List Terminal} → Loose row ts → Starts (production row) ts
starts_of done = nothing
starts_of (word l) = symbol (starts_of l)
starts_of (opens l) = symbol (starts_of l)
starts_of (closes l) = starts_of l
starts_of (passes l) = starts_of l
starts_of (becomes {part = part} made {row = row} {ts = ts} one l) = choice (production made) (production_of made (rules part) one) (subst (λ (r : Row). Starts r ts) (production_both made row) (starts_of l))

loosened : {limit depth : ℕ} {row : Row} {ts : List Terminal} → Derives Partial limit depth row ts → Loose row ts
loosened (end m) = done
loosened (token d) = word (loosened d)
loosened (opening h d) = opens (loosened d)
loosened (closed d) = closes (loosened d)
loosened (unless ne d) = passes (loosened d)
loosened (by made one d) = becomes made one (loosened d)

pub longest_match_only_chooses : LongestMatchOnlyChooses
longest_match_only_chooses part ts = (
  λ h. starts_of (loosened h.1),
  λ s. (opened part + length ts, kept ts (opened part + length ts) (opened part) (Part part ∷ []) (λ j one. nothing_behind j, λ is. nothing_absorbed, tt) (deep_alone part) (omega arith) (loose_of s (Part part ∷ []) refl)),
)
