-- What one symbol on top of the stack does at a token.
use Rattle.std.proofs.Math.Dec.{ltb}
use Rattle.std.proofs.lemmas.Bool.{ltb-true}
use Rattle.std.proofs.Common.{◌≡◌, ◌<◌, ◌≤◌, ℕ, suc, ◌+◌, ◌++◌, Bool, true, false, cond, List, [], ◌∷◌, Option, Some, None, refl, sym, subst, inl, inr, arith}
use Rattle.xd_grammar.specs.declared.grammar.Nonterminal.{Nonterminal}
use Rattle.xd_grammar.specs.declared.grammar.Nonterminal.TheVariants as n
use Rattle.xd_grammar.specs.declared.grammar.Symbol.TheVariants.{Token, Opening, Closed, Unless, Part}
use Rattle.xd_grammar.specs.declared.grammar.Terminal.{Terminal}
use Rattle.xd_grammar.specs.declared.grammar.Terminal.TheVariants as t
use Rattle.xd_grammar.specs.declared.grammar.Sort.{Sort}
use Rattle.xd_grammar.specs.declared.grammar.Sort.TheVariants as sorts
use Rattle.xd_grammar.specs.declared.machine.Reading.{Reading}
use Rattle.xd_grammar.specs.declared.machine.Reading.TheVariants.{Plain, Opened}
use Rattle.xd_grammar.specs.declared.machine.Step.{Step}
use Rattle.xd_grammar.specs.declared.machine.Step.TheVariants.{Next, Syntax, TooDeep}
use Rattle.xd_doc.specs.Members.{IsOneOf}
use Rattle.xd_grammar.specs.Grammar.{Row, rules, Extent, Partial, Derives, end, token, opening, closed, unless, by}
use Rattle.xd_grammar.specs.Fits.{same, first_fit, work, cost, is_empty_too}
use Rattle.xd_grammar.specs.Machine.{Reads, prim_group, group_of, entered, Turns, Shifts}
use Rattle.xd_grammar.proofs.Derive.{View, view, same-true, same-false, fits-true, may-true, chosen_none, chosen_is, chosen_only, is_group, rules_decided, all_rows, all_of, left_true, right_true}
use Rattle.xd_syntax.specs.Shallow.{nesting_limit}

pub turns_refl : (d : ℕ) (r : Row) (k : Terminal) → Turns d r k d r
turns_refl d r k = record { on = λ e l ts h g. g; back = λ e l ts h g. g }

pub turns_then : (d : ℕ) (r : Row) (k : Terminal) (e : ℕ) (s : Row) (f : ℕ) (q : Row) → Turns d r k e s → Turns e s k f q → Turns d r k f q
turns_then d r k e s f q a b = record {
  on = λ x l ts h g. b.on x l ts h (a.on x l ts h g);
  back = λ x l ts h g. a.back x l ts h (b.back x l ts h g);
}

pub turns_shift : (d : ℕ) (r : Row) (k : Terminal) (e : ℕ) (s : Row) (step : Step) (f : ℕ) (q : Row) → Turns d r k e s → Shifts e s k step f q → Shifts d r k step f q
turns_shift d r k e s (Next after) f q a b = record {
  on = λ x l ts h g. b.on x l ts h (a.on x l ts h g);
  back = λ x l ts h g. a.back x l ts h (b.back x l ts h g);
}
turns_shift d r k e s Syntax f q a b = record { dead = λ x l ts h g. b.dead x l ts h (a.on x l ts h g) }
turns_shift d r k e s TooDeep f q a b = record {
  dead = λ x ts g. b.dead x ts (a.on x nesting_limit ts (omega arith) g);
  limit = b.limit;
  above = b.above;
  alive = a.back Partial b.limit [] b.above b.alive;
}

-- a token
pub token_next : (d : ℕ) (r : Row) (j k : Terminal) → same j k ≡ true → Shifts d (Token j ∷ r) k (Next Plain) d r
token_next d r j k m = record {
  on = λ e l ts h g. (view g k ts refl).1;
  back = λ e l ts h g. subst (λ (x : Terminal). Derives e l d (Token j ∷ r) (x ∷ ts)) (same-true j k m) (token g);
}

pub token_stops : (d : ℕ) (r : Row) (j k : Terminal) (f : ℕ) (q : Row) → same j k ≡ false → Shifts d (Token j ∷ r) k Syntax f q
token_stops d r j k f q m = record { dead = λ e l ts h g. same-false j k m (view g k ts refl).0 }

pub opening_next : (d : ℕ) (r : Row) (j k : Terminal) → same j k ≡ true → d < nesting_limit → Shifts d (Opening j ∷ r) k (Next Plain) (suc d) r
opening_next d r j k m low = record {
  on = λ e l ts h g. (view g k ts refl).2;
  back = λ e l ts h g. subst (λ (x : Terminal). Derives e l d (Opening j ∷ r) (x ∷ ts)) (same-true j k m) (opening (omega arith) g);
}

pub opening_sinks : (d : ℕ) (r : Row) (j k : Terminal) (f : ℕ) (q : Row) → same j k ≡ true → nesting_limit ≤ d → Shifts d (Opening j ∷ r) k TooDeep f q
opening_sinks d r j k f q m high = record {
  dead = λ e ts g. absurd (let low : d < nesting_limit = (view g k ts refl).1 in omega arith);
  limit = suc d;
  above = omega arith;
  alive = subst (λ (x : Terminal). Derives Partial (suc d) d (Opening j ∷ r) (x ∷ [])) (same-true j k m) (opening (omega arith) (end tt));
}

pub opening_stops : (d : ℕ) (r : Row) (j k : Terminal) (f : ℕ) (q : Row) → same j k ≡ false → Shifts d (Opening j ∷ r) k Syntax f q
opening_stops d r j k f q m = record { dead = λ e l ts h g. same-false j k m (view g k ts refl).0 }

pub opening_enters : (d : ℕ) (r : Row) (j k : Terminal) (step : Step) (f : ℕ) → same j k ≡ true → entered d Plain step f → Shifts d (Opening j ∷ r) k step f r
opening_enters d r j k (Next next) f m (is, low, new) =
    subst (λ (x : Reading). Shifts d (Opening j ∷ r) k (Next x) f r) (sym is) (subst (λ (x : ℕ). Shifts d (Opening j ∷ r) k (Next Plain) x r) (sym new) (opening_next d r j k m low))
opening_enters d r j k TooDeep f m high = opening_sinks d r j k f r m high
opening_enters d r j k Syntax f m none = absurd none

pub closed_turns : (d f : ℕ) (r : Row) (k : Terminal) → d ≡ suc f → Turns d (Closed ∷ r) k f r
closed_turns d f r k is = record {
  on = λ e l ts h g. let v : View e l d (Closed ∷ r) k ts = view g k ts refl in let q : v.0 ≡ f = omega (arith, v.1) in subst (λ (x : ℕ). Derives e l x r (k ∷ ts)) q v.2;
  back = λ e l ts h g. subst (λ (x : ℕ). Derives e l x (Closed ∷ r) (k ∷ ts)) (sym is) (closed g);
}

pub unless_turns : (d : ℕ) (r : Row) (j k : Terminal) → same j k ≡ false → Turns d (Unless j ∷ r) k d r
unless_turns d r j k m = record {
  on = λ e l ts h g. (view g k ts refl).1;
  back = λ e l ts h g. unless (same-false j k m) g;
}

-- a nonterminal
pub part_stops : (d : ℕ) (r : Row) (part : Nonterminal) (k : Terminal) (f : ℕ) (q : Row) → first_fit (rules part) k ≡ None → Shifts d (Part part ∷ r) k Syntax f q
part_stops d r part k f q none = record {
  dead = λ e l ts h g. let v : View e l d (Part part ∷ r) k ts = view g k ts refl in chosen_none (rules part) k none v.0 v.1 (fits-true v.0 r e l d k ts v.2);
}

pub part_turns : (d : ℕ) (r : Row) (part : Nonterminal) (k : Terminal) (made : Row) → is_group part k ≡ false → first_fit (rules part) k ≡ Some made → Turns d (Part part ∷ r) k d (made ++ r)
part_turns d r part k made single is = record {
  on = λ e l ts h g.
      let v : View e l d (Part part ∷ r) k ts = view g k ts refl in
      let q : v.0 ≡ made = chosen_only (rules part) k (rules_decided part k single) made is v.0 v.1 (fits-true v.0 r e l d k ts v.2) (may-true 8 v.0 r e l d k ts v.2) in
      subst (λ (x : Row). Derives e l d (x ++ r) (k ∷ ts)) q v.2;
  back = λ e l ts h g. by made (chosen_is (rules part) k made is) g;
}

-- ---- and the work falls

-- how much work a row is, and whether what stands after it counts too
abbrev weight : Row → ℕ
weight [] = 0
weight (Token j ∷ row) = 1
weight (Opening j ∷ row) = 1
weight (Closed ∷ row) = suc (weight row)
weight (Unless j ∷ row) = suc (weight row)
weight (Part part ∷ row) = cost part + cond (is_empty_too part) (weight row) 0

abbrev is_open : Row → Bool
is_open [] = true
is_open (Token j ∷ row) = false
is_open (Opening j ∷ row) = false
is_open (Closed ∷ row) = is_open row
is_open (Unless j ∷ row) = is_open row
is_open (Part part ∷ row) = cond (is_empty_too part) (is_open row) false

part_weighs : (b c : Bool) (k w v u : ℕ) → v ≡ w + cond c u 0 → k + cond b v 0 ≡ (k + cond b w 0) + cond (cond b c false) u 0
part_weighs true true k w v u e = omega arith
part_weighs true false k w v u e = omega arith
part_weighs false c k w v u e = omega arith

weighs : (made r : Row) → work (made ++ r) ≡ weight made + cond (is_open made) (work r) 0
weighs [] r = omega arith
weighs (Token j ∷ made) r = omega arith
weighs (Opening j ∷ made) r = omega arith
weighs (Closed ∷ made) r = let e = weighs made r in omega arith
weighs (Unless j ∷ made) r = let e = weighs made r in omega arith
weighs (Part part ∷ made) r = part_weighs (is_empty_too part) (is_open made) (cost part) (weight made) (work (made ++ r)) (work r) (weighs made r)

-- a row of a nonterminal is less work than it
abbrev is_less : Nonterminal → Row → Bool
is_less part made = cond (ltb (weight made) (cost part)) (cond (is_open made) (is_empty_too part) true) false

all_less : (part : Nonterminal) → all_rows (is_less part) (rules part) ≡ true
all_less (n.Post sorts.Type) = refl
all_less (n.Post sorts.Pattern) = refl
all_less part = refl

less_at : (b c : Bool) (w k u : ℕ) → w < k → cond b c true ≡ true → w + cond b u 0 < k + cond c u 0
less_at true true w k u h e = omega arith
less_at true false w k u h e = cc
less_at false true w k u h e = omega arith
less_at false false w k u h e = omega arith

rule_work : (part : Nonterminal) (made r : Row) → IsOneOf made (rules part) → work (made ++ r) < work (Part part ∷ r)
rule_work part made r one =
    let h : is_less part made ≡ true = all_of (is_less part) (rules part) made one (all_less part) in
    let a : ltb (weight made) (cost part) ≡ true = left_true (ltb (weight made) (cost part)) (cond (is_open made) (is_empty_too part) true) h in
    let b : cond (is_open made) (is_empty_too part) true ≡ true = right_true (ltb (weight made) (cost part)) (cond (is_open made) (is_empty_too part) true) h in
    let e = weighs made r in
    let l = less_at (is_open made) (is_empty_too part) (weight made) (cost part) (work r) (ltb-true (weight made) (cost part) a) b in
    omega arith

pub part_work : (r : Row) (part : Nonterminal) (k : Terminal) (made : Row) → first_fit (rules part) k ≡ Some made → work (made ++ r) < work (Part part ∷ r)
part_work r part k made is = rule_work part made r (chosen_is (rules part) k made is)

-- ---- a parenthesis in a type or a pattern
word_paren : t.Word ≡ t.ParenL → ⊥
word_paren e = cc

text_paren : t.Text ≡ t.ParenL → ⊥
text_paren e = cc

caret_paren : t.Caret ≡ t.ParenL → ⊥
caret_paren e = cc

class_turns : (d : ℕ) (r : Row) → Turns d (Part n.Class ∷ r) t.ParenL d (Opening t.ParenL ∷ Part n.AnyWord ∷ Part n.MoreNames ∷ Token t.ParenR ∷ Closed ∷ Opening t.BracketL ∷ r)
class_turns d r =
    turns_then d (Part n.Class ∷ r) t.ParenL d (Part n.Labels ∷ r) d (Opening t.ParenL ∷ Part n.AnyWord ∷ Part n.MoreNames ∷ Token t.ParenR ∷ Closed ∷ Opening t.BracketL ∷ r)
    (part_turns d r n.Class t.ParenL (Part n.Labels ∷ []) refl refl)
    (turns_then d (Part n.Labels ∷ r) t.ParenL d (Part n.Names ∷ Opening t.BracketL ∷ r) d (Opening t.ParenL ∷ Part n.AnyWord ∷ Part n.MoreNames ∷ Token t.ParenR ∷ Closed ∷ Opening t.BracketL ∷ r)
    (part_turns d r n.Labels t.ParenL (Part n.Names ∷ Opening t.BracketL ∷ []) refl refl)
    (part_turns d (Opening t.BracketL ∷ r) n.Names t.ParenL (Opening t.ParenL ∷ Part n.AnyWord ∷ Part n.MoreNames ∷ Token t.ParenR ∷ Closed ∷ []) refl refl))

group_rows : (s : Sort) (e : Extent) (l d : ℕ) (r : Row) (ts : List Terminal) → nesting_limit ≤ l → Derives e l d (Part (n.Prim s) ∷ r) (t.ParenL ∷ ts) → (d < l) × Reads (Opened s) e l (suc d) r ts
group_rows s e l d r ts h g = elim ((view g t.ParenL ts refl).1) [
  | inl q ↦ (let w : View e l d (Token t.Word ∷ r) t.ParenL ts = view (subst (λ (x : Row). Derives e l d (x ++ r) (t.ParenL ∷ ts)) (sym q) (view g t.ParenL ts refl).2) t.ParenL ts refl in absurd (word_paren w.0))
  | inr (inl q) ↦ (let w : View e l d (Opening t.ParenL ∷ Part (n.Group s) ∷ r) t.ParenL ts = view (subst (λ (x : Row). Derives e l d (x ++ r) (t.ParenL ∷ ts)) (sym q) (view g t.ParenL ts refl).2) t.ParenL ts refl in (w.1, inl w.2))
  | inr (inr (inl q)) ↦ (let w : View e l d (Token t.Text ∷ r) t.ParenL ts = view (subst (λ (x : Row). Derives e l d (x ++ r) (t.ParenL ∷ ts)) (sym q) (view g t.ParenL ts refl).2) t.ParenL ts refl in absurd (text_paren w.0))
  | inr (inr (inr (inl q))) ↦ (let w : View e l d (Token t.Caret ∷ Part (n.Excepted s) ∷ r) t.ParenL ts = view (subst (λ (x : Row). Derives e l d (x ++ r) (t.ParenL ∷ ts)) (sym q) (view g t.ParenL ts refl).2) t.ParenL ts refl in absurd (caret_paren w.0))
  | inr (inr (inr (inr (inl q)))) ↦ (let w : View e l d (Opening t.ParenL ∷ Part n.AnyWord ∷ Part n.MoreNames ∷ Token t.ParenR ∷ Closed ∷ Opening t.BracketL ∷ Part (n.Content s) ∷ r) t.ParenL ts = view ((class_turns d (Part (n.Content s) ∷ r)).on e l ts h (subst (λ (x : Row). Derives e l d (x ++ r) (t.ParenL ∷ ts)) (sym q) (view g t.ParenL ts refl).2)) t.ParenL ts refl in (w.1, inr w.2))
  | inr (inr (inr (inr (inr none)))) ↦ absurd none
]

group_back : (s : Sort) (e : Extent) (l d : ℕ) (r : Row) (ts : List Terminal) → nesting_limit ≤ l → d < l → Reads (Opened s) e l (suc d) r ts → Derives e l d (Part (n.Prim s) ∷ r) (t.ParenL ∷ ts)
group_back s e l d r ts h low (inl g) = by (Opening t.ParenL ∷ Part (n.Group s) ∷ []) (inr (inl refl)) (opening low g)
group_back s e l d r ts h low (inr g) = by (Part n.Class ∷ Part (n.Content s) ∷ []) (inr (inr (inr (inr (inl refl))))) ((class_turns d (Part (n.Content s) ∷ r)).back e l ts h (opening low g))

group_enters_by : (s : Sort) (d : ℕ) (r : Row) (step : Step) (f : ℕ) → entered d (Opened s) step f → Shifts d (Part (n.Prim s) ∷ r) t.ParenL step f r
group_enters_by s d r (Next next) f (is, low, new) =
    subst (λ (x : Reading). Shifts d (Part (n.Prim s) ∷ r) t.ParenL (Next x) f r) (sym is) (subst (λ (x : ℕ). Shifts d (Part (n.Prim s) ∷ r) t.ParenL (Next (Opened s)) x r) (sym new) (record {
      on = λ e l ts h g. (group_rows s e l d r ts h g).1;
      back = λ e l ts h g. group_back s e l d r ts h (omega arith) g;
    }))
group_enters_by s d r TooDeep f high = record {
  dead = λ e ts g. absurd (let low : d < nesting_limit = (group_rows s e nesting_limit d r ts (omega arith) g).0 in omega arith);
  limit = suc d;
  above = omega arith;
  alive = by (Opening t.ParenL ∷ Part (n.Group s) ∷ []) (inr (inl refl)) (opening (omega arith) (end tt));
}
group_enters_by s d r Syntax f none = absurd none

none_some : (s : Sort) → None ≡ Some s → ⊥
none_some s e = cc

some_sort : (s q : Sort) → Some s ≡ Some q → s ≡ q
some_sort s q e = cc

prim_enters : (part : Nonterminal) (sort : Sort) (d : ℕ) (r : Row) (step : Step) (f : ℕ) → prim_group part ≡ Some sort → entered d (Opened sort) step f → Shifts d (Part part ∷ r) t.ParenL step f r
prim_enters (n.Prim s) sort d r step f is en = group_enters_by s d r step f (subst (λ (x : Sort). entered d (Opened x) step f) (sym (some_sort s sort is)) en)
prim_enters part sort d r step f is en = absurd (none_some sort is)

group_at : (b : Bool) (o : Option Sort) (sort : Sort) → cond b o None ≡ Some sort → (b ≡ true) × (o ≡ Some sort)
group_at true o sort e = (refl, e)
group_at false o sort e = absurd (none_some sort e)

pub group_enters : (part : Nonterminal) (k : Terminal) (sort : Sort) (d : ℕ) (r : Row) (step : Step) (f : ℕ) → group_of part k ≡ Some sort → entered d (Opened sort) step f → Shifts d (Part part ∷ r) k step f r
group_enters part k sort d r step f is en =
    let b : (same t.ParenL k ≡ true) × (prim_group part ≡ Some sort) = group_at (same t.ParenL k) (prim_group part) sort is in
    subst (λ (x : Terminal). Shifts d (Part part ∷ r) x step f r) (same-true t.ParenL k b.0) (prim_enters part sort d r step f b.1 en)

not_at : (b : Bool) (s : Sort) → cond b (Some s) None ≡ None → b ≡ false
not_at true s e = absurd (none_some s (sym e))
not_at false s e = refl

not_group : (part : Nonterminal) (k : Terminal) → group_of part k ≡ None → is_group part k ≡ false
not_group (n.Prim s) k e = not_at (same t.ParenL k) s e
not_group part k e = refl

pub part_goes : (d : ℕ) (r : Row) (part : Nonterminal) (k : Terminal) (made : Row) → group_of part k ≡ None → first_fit (rules part) k ≡ Some made → Turns d (Part part ∷ r) k d (made ++ r) × (work (made ++ r) < work (Part part ∷ r))
part_goes d r part k made single is = (part_turns d r part k made (not_group part k single) is, part_work r part k made is)
