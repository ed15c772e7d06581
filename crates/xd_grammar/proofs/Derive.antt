-- What a derivation is at its next token.
use Rattle.std.proofs.Common.{◌≡◌, ◌≢◌, ◌<◌, ◌==◌, ℕ, zero, suc, ◌++◌, ◌⊎◌, Bool, true, false, cond, List, [], ◌∷◌, Option, Some, None, refl, sym, ap, subst, ◌∙◌, append_assoc, inl, inr}
use Rattle.xd_doc.proofs.Lists.{not_nil, same_first, same_rest}
use Rattle.std.proofs.lemmas.Bool.{eqb-true, false_from_ne_true}
use Rattle.xd_doc.proofs.Bools.{not_both}
use Rattle.xd_grammar.specs.declared.grammar.Nonterminal.{Nonterminal}
use Rattle.xd_grammar.specs.declared.grammar.Nonterminal.TheVariants as n
use Rattle.xd_grammar.specs.declared.grammar.Sort.TheVariants as sorts
use Rattle.xd_grammar.specs.declared.grammar.Symbol.TheVariants.{Token, Opening, Closed, Unless, Part}
use Rattle.xd_grammar.specs.declared.grammar.Terminal.{Terminal}
use Rattle.xd_grammar.specs.declared.grammar.Terminal.TheVariants as t
use Rattle.xd_doc.specs.Members.{IsOneOf}
use Rattle.xd_grammar.specs.Grammar.{Row, rules, Extent, Derives, end, token, opening, closed, unless, by}
use Rattle.xd_grammar.specs.Fits.{number, same, fits, first_fit}

abbrev pub View : Extent → ℕ → ℕ → Row → Terminal → List Terminal → Type 0
View e limit depth [] k ts = ⊥
View e limit depth (Token j ∷ row) k ts = (j ≡ k) × Derives e limit depth row ts
View e limit depth (Opening j ∷ row) k ts = (j ≡ k) × (depth < limit) × Derives e limit (suc depth) row ts
View e limit depth (Closed ∷ row) k ts = (d : ℕ) × (depth ≡ suc d) × Derives e limit d row (k ∷ ts)
View e limit depth (Unless j ∷ row) k ts = (j ≢ k) × Derives e limit depth row (k ∷ ts)
View e limit depth (Part part ∷ row) k ts = (made : Row) × IsOneOf made (rules part) × Derives e limit depth (made ++ row) (k ∷ ts)

pub view : {e : Extent} {limit depth : ℕ} {row : Row} {us : List Terminal} → Derives e limit depth row us → (k : Terminal) (ts : List Terminal) → us ≡ k ∷ ts → View e limit depth row k ts
view (end m) k ts q = absurd (not_nil k ts q)
view {e = e} {limit = limit} (token {depth = depth} {k = j} {row = row} {ts = us} d) k ts q = (same_first j k us ts q, subst (Derives e limit depth row) (same_rest j k us ts q) d)
view {e = e} {limit = limit} (opening {depth = depth} {k = j} {row = row} {ts = us} h d) k ts q = (same_first j k us ts q, h, subst (Derives e limit (suc depth) row) (same_rest j k us ts q) d)
view {e = e} {limit = limit} (closed {depth = depth} {row = row} {ts = us} d) k ts q = (depth, refl, subst (Derives e limit depth row) q d)
view {e = e} {limit = limit} (unless {depth = depth} {j = j} {k = i} {row = row} {ts = us} ne d) k ts q = (subst (λ (x : Terminal). j ≢ x) (same_first i k us ts q) ne, subst (Derives e limit depth row) q d)
view {e = e} {limit = limit} (by {depth = depth} {part = part} made {row = row} {ts = us} one d) k ts q = (made, one, subst (Derives e limit depth (made ++ row)) q d)

-- the numbers tell terminals apart
abbrev of_number : ℕ → Terminal
of_number x = cond (x == 0) t.Type (cond (x == 1) t.Fun (cond (x == 2) t.Val (cond (x == 3) t.As (cond (x == 4) t.Match (cond (x == 5) t.With (cond (x == 6) t.Word (cond (x == 7) t.Label (cond (x == 8) t.Text (cond (x == 9) t.ParenL (cond (x == 10) t.ParenR (cond (x == 11) t.BracketL (cond (x == 12) t.BracketR (cond (x == 13) t.Comma (cond (x == 14) t.Bar (cond (x == 15) t.Star (cond (x == 16) t.Plus (cond (x == 17) t.Query (cond (x == 18) t.Equals (cond (x == 19) t.Colon (cond (x == 20) t.Tilde (cond (x == 21) t.Caret (cond (x == 22) t.Arrow (cond (x == 23) t.End (t.Broken))))))))))))))))))))))))

of_number_of : (k : Terminal) → of_number (number k) ≡ k
of_number_of t.Type = refl
of_number_of k = refl

pub same-refl : (k : Terminal) → same k k ≡ true
same-refl t.Type = refl
same-refl k = refl

pub same-true : (j k : Terminal) → same j k ≡ true → j ≡ k
same-true j k e = let q : number j ≡ number k = eqb-true (number j) (number k) e in sym (of_number_of j) ∙ ap of_number q ∙ of_number_of k

pub same-of : (j k : Terminal) → j ≡ k → same j k ≡ true
same-of j k e = subst (λ (x : Terminal). same j x ≡ true) e (same-refl j)

pub same-other : (j k : Terminal) → j ≢ k → same j k ≡ false
same-other j k ne = false_from_ne_true (same j k) (λ e. ne (same-true j k e))

pub same-false : (j k : Terminal) → same j k ≡ false → j ≢ k
same-false j k e q = not_both (same j k) (same-of j k q) e

-- a row that begins with a token lets it come next
pub fits-true : (made row : Row) (e : Extent) (limit depth : ℕ) (k : Terminal) (ts : List Terminal) → Derives e limit depth (made ++ row) (k ∷ ts) → fits made k ≡ true
fits-true [] row e limit depth k ts d = refl
fits-true (Token j ∷ made) row e limit depth k ts d = same-of j k (view d k ts refl).0
fits-true (Opening j ∷ made) row e limit depth k ts d = same-of j k (view d k ts refl).0
fits-true (Closed ∷ made) row e limit depth k ts d = refl
fits-true (Unless j ∷ made) row e limit depth k ts d = rw (same-other j k (view d k ts refl).0) (fits-true made row e limit depth k ts (view d k ts refl).1)
fits-true (Part part ∷ made) row e limit depth k ts d = refl

-- ---- the same to some depth
abbrev pub any_row : (Row → Bool) → List Row → Bool
any_row p [] = false
any_row p (r ∷ rs) = cond (p r) true (any_row p rs)

abbrev pub may : ℕ → Row → Terminal → Bool
may zero row k = true
may (suc f) [] k = true
may (suc f) (Token j ∷ row) k = same j k
may (suc f) (Opening j ∷ row) k = same j k
may (suc f) (Closed ∷ row) k = may f row k
may (suc f) (Unless j ∷ row) k = cond (same j k) false (may f row k)
may (suc f) (Part part ∷ row) k = any_row (λ (r : Row). may f (r ++ row) k) (rules part)

pub any_of : (p : Row → Bool) (rs : List Row) (made : Row) → IsOneOf made rs → p made ≡ true → any_row p rs ≡ true
any_of p [] made one h = absurd one
any_of p (r ∷ rs) made (inl e) h = let q : p r ≡ true = subst (λ (x : Row). p x ≡ true) (sym e) h in rw q refl
any_of p (r ∷ rs) made (inr one) h = let q : any_row p rs ≡ true = any_of p rs made one h in elim (p r) as (λ b. cond b true (any_row p rs) ≡ true) [ true ↦ refl | false ↦ q ]

pub may-true : (f : ℕ) (made row : Row) (e : Extent) (limit depth : ℕ) (k : Terminal) (ts : List Terminal) → Derives e limit depth (made ++ row) (k ∷ ts) → may f made k ≡ true
may-true zero made row e limit depth k ts d = refl
may-true (suc f) [] row e limit depth k ts d = refl
may-true (suc f) (Token j ∷ made) row e limit depth k ts d = same-of j k (view d k ts refl).0
may-true (suc f) (Opening j ∷ made) row e limit depth k ts d = same-of j k (view d k ts refl).0
may-true (suc f) (Closed ∷ made) row e limit depth k ts d = may-true f made row e limit (view d k ts refl).0 k ts (view d k ts refl).2
may-true (suc f) (Unless j ∷ made) row e limit depth k ts d = rw (same-other j k (view d k ts refl).0) (may-true f made row e limit depth k ts (view d k ts refl).1)
may-true (suc f) (Part part ∷ made) row e limit depth k ts d =
    let v : View e limit depth (Part part ∷ (made ++ row)) k ts = view d k ts refl in
    any_of (λ (r : Row). may f (r ++ made) k) (rules part) v.0 v.1 (may-true f (v.0 ++ made) row e limit depth k ts (subst (λ (x : Row). Derives e limit depth x (k ∷ ts)) (sym (append_assoc v.0 made row)) v.2))

-- ---- the one rule that a token leaves
abbrev pub none_may : List Row → Terminal → Bool
none_may [] k = true
none_may (r ∷ rs) k = cond (may 8 r k) false (none_may rs k)

-- the rules after the first that fits can't begin with the token
abbrev pub decided : List Row → Terminal → Bool
decided [] k = true
decided (r ∷ rs) k = cond (fits r k) (none_may rs k) (decided rs k)

right_of : (b c : Bool) → cond b false c ≡ true → c ≡ true
right_of true c h = cc
right_of false c h = h

some_none : (r : Row) → Some r ≡ None → ⊥
some_none r e = cc

none_some : (r : Row) → None ≡ Some r → ⊥
none_some r e = cc

none_right : (b : Bool) (r : Row) (o : Option Row) → cond b (Some r) o ≡ None → o ≡ None
none_right true r o h = cc
none_right false r o h = h

some_is : (r made : Row) → Some r ≡ Some made → r ≡ made
some_is r made e = cc

some_of : (b : Bool) (r : Row) (o : Option Row) (made : Row) → cond b (Some r) o ≡ Some made → (r ≡ made) ⊎ (o ≡ Some made)
some_of true r o made h = inl (some_is r made h)
some_of false r o made h = inr h

none_of : (rs : List Row) (k : Terminal) → none_may rs k ≡ true → (made : Row) → IsOneOf made rs → may 8 made k ≡ true → ⊥
none_of [] k h made one m = absurd one
none_of (r ∷ rs) k h made (inl e) m = let q : may 8 r k ≡ true = subst (λ (x : Row). may 8 x k ≡ true) (sym e) m in not_both (cond (may 8 r k) false (none_may rs k)) h (rw q refl)
none_of (r ∷ rs) k h made (inr one) m = none_of rs k (right_of (may 8 r k) (none_may rs k) h) made one m

pub chosen_none : (rs : List Row) (k : Terminal) → first_fit rs k ≡ None → (made : Row) → IsOneOf made rs → fits made k ≡ true → ⊥
chosen_none [] k h made one m = absurd one
chosen_none (r ∷ rs) k h made (inl e) m = let q : fits r k ≡ true = subst (λ (x : Row). fits x k ≡ true) (sym e) m in some_none r (rw q at h)
chosen_none (r ∷ rs) k h made (inr one) m = chosen_none rs k (none_right (fits r k) r (first_fit rs k) h) made one m

pub chosen_is : (rs : List Row) (k : Terminal) (made : Row) → first_fit rs k ≡ Some made → IsOneOf made rs
chosen_is [] k made h = absurd (none_some made h)
chosen_is (r ∷ rs) k made h = elim (some_of (fits r k) r (first_fit rs k) made h) [ inl e ↦ inl e | inr g ↦ inr (chosen_is rs k made g) ]

chosen_at : (r : Row) (rs : List Row) (k : Terminal) (b : Bool) → fits r k ≡ b → decided (r ∷ rs) k ≡ true → (made : Row) → first_fit (r ∷ rs) k ≡ Some made → (other : Row) → IsOneOf other (r ∷ rs) → fits other k ≡ true → may 8 other k ≡ true → (decided rs k ≡ true → first_fit rs k ≡ Some made → IsOneOf other rs → other ≡ made) → other ≡ made
chosen_at r rs k true g h made f other (inl e) p q more = sym e ∙ some_is r made (rw g at f)
chosen_at r rs k true g h made f other (inr one) p q more = absurd (none_of rs k (rw g at h) other one q)
chosen_at r rs k false g h made f other (inl e) p q more = absurd (not_both (fits r k) (subst (λ (x : Row). fits x k ≡ true) (sym e) p) g)
chosen_at r rs k false g h made f other (inr one) p q more = more (rw g at h) (rw g at f) one

-- where the rules are decided, what begins one of them begins the first that fits
pub chosen_only : (rs : List Row) (k : Terminal) → decided rs k ≡ true → (made : Row) → first_fit rs k ≡ Some made → (other : Row) → IsOneOf other rs → fits other k ≡ true → may 8 other k ≡ true → other ≡ made
chosen_only [] k h made f other one p q = absurd one
chosen_only (r ∷ rs) k h made f other one p q = chosen_at r rs k (fits r k) refl h made f other one p q (λ h f one. chosen_only rs k h made f other one p q)

-- ---- what a test says of each rule
pub left_true : (b c : Bool) → cond b c false ≡ true → b ≡ true
left_true true c h = refl
left_true false c h = cc

pub right_true : (b c : Bool) → cond b c false ≡ true → c ≡ true
right_true true c h = h
right_true false c h = cc

abbrev pub all_rows : (Row → Bool) → List Row → Bool
all_rows p [] = true
all_rows p (r ∷ rs) = cond (p r) (all_rows p rs) false

pub all_of : (p : Row → Bool) (rs : List Row) (made : Row) → IsOneOf made rs → all_rows p rs ≡ true → p made ≡ true
all_of p [] made one h = absurd one
all_of p (r ∷ rs) made (inl e) h = subst (λ (x : Row). p x ≡ true) e (left_true (p r) (all_rows p rs) h)
all_of p (r ∷ rs) made (inr one) h = all_of p rs made one (right_true (p r) (all_rows p rs) h)

-- ---- every rule is decided, but for a primary at a parenthesis
abbrev terminals : List Terminal
terminals = t.Type ∷ t.Fun ∷ t.Val ∷ t.As ∷ t.Match ∷ t.With ∷ t.Word ∷ t.Label ∷ t.Text ∷ t.ParenL ∷ t.ParenR ∷ t.BracketL ∷ t.BracketR ∷ t.Comma ∷ t.Bar ∷ t.Star ∷ t.Plus ∷ t.Query ∷ t.Equals ∷ t.Colon ∷ t.Tilde ∷ t.Caret ∷ t.Arrow ∷ t.End ∷ t.Broken ∷ []

abbrev IsTerminal : Terminal → List Terminal → Type 0
IsTerminal k [] = ⊥
IsTerminal k (j ∷ js) = (j ≡ k) ⊎ IsTerminal k js

is_terminal : (k : Terminal) → IsTerminal k terminals
is_terminal t.Type = inl refl
is_terminal t.Fun = inr (inl refl)
is_terminal t.Val = inr (inr (inl refl))
is_terminal t.As = inr (inr (inr (inl refl)))
is_terminal t.Match = inr (inr (inr (inr (inl refl))))
is_terminal t.With = inr (inr (inr (inr (inr (inl refl)))))
is_terminal t.Word = inr (inr (inr (inr (inr (inr (inl refl))))))
is_terminal t.Label = inr (inr (inr (inr (inr (inr (inr (inl refl)))))))
is_terminal t.Text = inr (inr (inr (inr (inr (inr (inr (inr (inl refl))))))))
is_terminal t.ParenL = inr (inr (inr (inr (inr (inr (inr (inr (inr (inl refl)))))))))
is_terminal t.ParenR = inr (inr (inr (inr (inr (inr (inr (inr (inr (inr (inl refl))))))))))
is_terminal t.BracketL = inr (inr (inr (inr (inr (inr (inr (inr (inr (inr (inr (inl refl)))))))))))
is_terminal t.BracketR = inr (inr (inr (inr (inr (inr (inr (inr (inr (inr (inr (inr (inl refl))))))))))))
is_terminal t.Comma = inr (inr (inr (inr (inr (inr (inr (inr (inr (inr (inr (inr (inr (inl refl)))))))))))))
is_terminal t.Bar = inr (inr (inr (inr (inr (inr (inr (inr (inr (inr (inr (inr (inr (inr (inl refl))))))))))))))
is_terminal t.Star = inr (inr (inr (inr (inr (inr (inr (inr (inr (inr (inr (inr (inr (inr (inr (inl refl)))))))))))))))
is_terminal t.Plus = inr (inr (inr (inr (inr (inr (inr (inr (inr (inr (inr (inr (inr (inr (inr (inr (inl refl))))))))))))))))
is_terminal t.Query = inr (inr (inr (inr (inr (inr (inr (inr (inr (inr (inr (inr (inr (inr (inr (inr (inr (inl refl)))))))))))))))))
is_terminal t.Equals = inr (inr (inr (inr (inr (inr (inr (inr (inr (inr (inr (inr (inr (inr (inr (inr (inr (inr (inl refl))))))))))))))))))
is_terminal t.Colon = inr (inr (inr (inr (inr (inr (inr (inr (inr (inr (inr (inr (inr (inr (inr (inr (inr (inr (inr (inl refl)))))))))))))))))))
is_terminal t.Tilde = inr (inr (inr (inr (inr (inr (inr (inr (inr (inr (inr (inr (inr (inr (inr (inr (inr (inr (inr (inr (inl refl))))))))))))))))))))
is_terminal t.Caret = inr (inr (inr (inr (inr (inr (inr (inr (inr (inr (inr (inr (inr (inr (inr (inr (inr (inr (inr (inr (inr (inl refl)))))))))))))))))))))
is_terminal t.Arrow = inr (inr (inr (inr (inr (inr (inr (inr (inr (inr (inr (inr (inr (inr (inr (inr (inr (inr (inr (inr (inr (inr (inl refl))))))))))))))))))))))
is_terminal t.End = inr (inr (inr (inr (inr (inr (inr (inr (inr (inr (inr (inr (inr (inr (inr (inr (inr (inr (inr (inr (inr (inr (inr (inl refl)))))))))))))))))))))))
is_terminal t.Broken = inr (inr (inr (inr (inr (inr (inr (inr (inr (inr (inr (inr (inr (inr (inr (inr (inr (inr (inr (inr (inr (inr (inr (inr (inl refl))))))))))))))))))))))))

abbrev every : (Terminal → Bool) → List Terminal → Bool
every p [] = true
every p (k ∷ ks) = cond (p k) (every p ks) false

pub both_of : (b c : Bool) → cond b c false ≡ true → (b ≡ true) × (c ≡ true)
both_of true c h = (refl, h)
both_of false c h = cc

every_at : (p : Terminal → Bool) (ks : List Terminal) → every p ks ≡ true → (k : Terminal) → IsTerminal k ks → p k ≡ true
every_at p [] h k one = absurd one
every_at p (j ∷ js) h k (inl e) = subst (λ (x : Terminal). p x ≡ true) e (both_of (p j) (every p js) h).0
every_at p (j ∷ js) h k (inr one) = every_at p js (both_of (p j) (every p js) h).1 k one

-- a primary at a parenthesis
abbrev pub is_group : Nonterminal → Terminal → Bool
is_group (n.Prim s) k = same t.ParenL k
is_group part k = false

abbrev is_decided : Nonterminal → Terminal → Bool
is_decided part k = cond (is_group part k) true (decided (rules part) k)

all_decided : (part : Nonterminal) → every (is_decided part) terminals ≡ true
all_decided (n.Post sorts.Type) = refl
all_decided (n.Post sorts.Pattern) = refl
all_decided (n.Group sorts.Type) = refl
all_decided (n.Group sorts.Pattern) = refl
all_decided (n.Content sorts.Type) = refl
all_decided (n.Content sorts.Pattern) = refl
all_decided part = refl

pub rules_decided : (part : Nonterminal) (k : Terminal) → is_group part k ≡ false → decided (rules part) k ≡ true
rules_decided part k g = let h : is_decided part k ≡ true = every_at (is_decided part) terminals (all_decided part) k (is_terminal k) in rw g at h
