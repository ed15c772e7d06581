-- Which of the two readings of a parenthesis goes on at a token.
use Rattle.std.proofs.Common.{◌≡◌, ◌≤◌, ℕ, zero, suc, ◌++◌, ◌⊎◌, Bool, true, false, cond, List, [], ◌∷◌, Option, Some, None, refl, subst, inl, inr, arith}
use Rattle.xd_grammar.specs.declared.grammar.Nonterminal.{Nonterminal}
use Rattle.xd_grammar.specs.declared.grammar.Symbol.TheVariants.{Token, Opening, Closed, Unless, Part}
use Rattle.xd_grammar.specs.declared.grammar.Terminal.{Terminal}
use Rattle.xd_grammar.specs.declared.grammar.Terminal.TheVariants as t
use Rattle.xd_grammar.specs.declared.grammar.Sort.TheVariants as sorts
use Rattle.xd_grammar.specs.declared.machine.Reading.{Reading}
use Rattle.xd_grammar.specs.declared.machine.Reading.TheVariants.{Plain, Opened, Named, Barred, AfterVal, Shut}
use Rattle.xd_grammar.specs.declared.machine.Course.{Course}
use Rattle.xd_grammar.specs.declared.machine.Course.TheVariants.{Both, Main, Listed}
use Rattle.xd_grammar.specs.declared.machine.Step.{Step}
use Rattle.xd_grammar.specs.declared.machine.Step.TheVariants.{Next, Syntax, TooDeep}
use Rattle.xd_grammar.specs.Grammar.{Row, rules, Extent, Partial, Derives, token}
use Rattle.xd_grammar.specs.Fits.{same, first_fit}
use Rattle.xd_grammar.specs.Machine.{main_row, listed_row, Reads, course, Turns, Passes, Advances, Shifts}
use Rattle.xd_grammar.proofs.Derive.{view, same-true, same-false, is_group}
use Rattle.xd_grammar.proofs.Shift.{unless_turns, part_turns, part_stops}
use Rattle.xd_syntax.specs.Shallow.{nesting_limit}

-- what a token does to a row, as far as it computes
pub data Out : Type 0 where
  Dead : Out
  Behind : Row → Out
  Unknown : Out

abbrev pub out_of : Option Row → (Row → Out) → Out
out_of None f = Dead
out_of (Some made) f = f made

abbrev pub dead_too : Out → Out
dead_too Dead = Dead
dead_too (Behind r) = Unknown
dead_too Unknown = Unknown

abbrev pub if_plain : Bool → Out → Out
if_plain true o = Unknown
if_plain false o = o

abbrev pub go : ℕ → Row → Terminal → Out
go zero row k = Unknown
go (suc f) [] k = Unknown
go (suc f) (Token j ∷ row) k = cond (same j k) (Behind row) Dead
go (suc f) (Opening j ∷ row) k = cond (same j k) Unknown Dead
go (suc f) (Closed ∷ row) k = dead_too (go f row k)
go (suc f) (Unless j ∷ row) k = cond (same j k) Dead (go f row k)
go (suc f) (Part part ∷ row) k = if_plain (is_group part k) (out_of (first_fit (rules part) k) (λ (made : Row). go f (made ++ row) k))

pub record Leaves (row : Row) (k : Terminal) (rest : Row) : Type 0 where
  pub on : (e : Extent) (l d : ℕ) (ts : List Terminal) → nesting_limit ≤ l → Derives e l d row (k ∷ ts) → Derives e l d rest ts
  pub back : (e : Extent) (l d : ℕ) (ts : List Terminal) → nesting_limit ≤ l → Derives e l d rest ts → Derives e l d row (k ∷ ts)

abbrev pub Holds : Out → Row → Terminal → Type 0
Holds Dead row k = (e : Extent) (l d : ℕ) (ts : List Terminal) → nesting_limit ≤ l → Derives e l d row (k ∷ ts) → ⊥
Holds (Behind rest) row k = Leaves row k rest
Holds Unknown row k = Unit {0}

holds_turn : (o : Out) (row rest : Row) (k : Terminal) → ((d : ℕ) → Turns d row k d rest) → Holds o rest k → Holds o row k
holds_turn Dead row rest k turn h = λ e l d ts big g. h e l d ts big ((turn d).on e l ts big g)
holds_turn (Behind r) row rest k turn h = record {
  on = λ e l d ts big g. h.on e l d ts big ((turn d).on e l ts big g);
  back = λ e l d ts big g. (turn d).back e l ts big (h.back e l d ts big g);
}
holds_turn Unknown row rest k turn h = tt

token_at : (b : Bool) (j k : Terminal) (row : Row) → same j k ≡ b → Holds (cond b (Behind row) Dead) (Token j ∷ row) k
token_at true j k row m = record {
  on = λ e l d ts big g. (view g k ts refl).1;
  back = λ e l d ts big g. subst (λ (x : Terminal). Derives e l d (Token j ∷ row) (x ∷ ts)) (same-true j k m) (token g);
}
token_at false j k row m = λ e l d ts big g. same-false j k m (view g k ts refl).0

opening_at : (b : Bool) (j k : Terminal) (row : Row) → same j k ≡ b → Holds (cond b Unknown Dead) (Opening j ∷ row) k
opening_at true j k row m = tt
opening_at false j k row m = λ e l d ts big g. same-false j k m (view g k ts refl).0

closed_at : (o : Out) (row : Row) (k : Terminal) → Holds o row k → Holds (dead_too o) (Closed ∷ row) k
closed_at Dead row k h = λ e l d ts big g. h e l (view g k ts refl).0 ts big (view g k ts refl).2
closed_at (Behind r) row k h = tt
closed_at Unknown row k h = tt

unless_at : (b : Bool) (o : Out) (j k : Terminal) (row : Row) → same j k ≡ b → Holds o row k → Holds (cond b Dead o) (Unless j ∷ row) k
unless_at true o j k row m h = λ e l d ts big g. (view g k ts refl).0 (same-true j k m)
unless_at false o j k row m h = holds_turn o (Unless j ∷ row) row k (λ d. unless_turns d row j k m) h

part_at : (o : Option Row) (f : Row → Out) (part : Nonterminal) (k : Terminal) (row : Row) → is_group part k ≡ false → first_fit (rules part) k ≡ o → ((made : Row) → Holds (f made) (made ++ row) k) → Holds (out_of o f) (Part part ∷ row) k
part_at None f part k row single is h = λ e l d ts big g. (part_stops d row part k 0 [] is).dead e l ts big g
part_at (Some made) f part k row single is h = holds_turn (f made) (Part part ∷ row) (made ++ row) k (λ d. part_turns d row part k made single is) (h made)

plain_at : (b : Bool) (o : Out) (row : Row) (k : Terminal) → (b ≡ false → Holds o row k) → Holds (if_plain b o) row k
plain_at true o row k h = tt
plain_at false o row k h = h refl

pub go_holds : (f : ℕ) (row : Row) (k : Terminal) → Holds (go f row k) row k
go_holds zero row k = tt
go_holds (suc f) [] k = tt
go_holds (suc f) (Token j ∷ row) k = token_at (same j k) j k row refl
go_holds (suc f) (Opening j ∷ row) k = opening_at (same j k) j k row refl
go_holds (suc f) (Closed ∷ row) k = closed_at (go f row k) row k (go_holds f row k)
go_holds (suc f) (Unless j ∷ row) k = unless_at (same j k) (go f row k) j k row refl (go_holds f row k)
go_holds (suc f) (Part part ∷ row) k = plain_at (is_group part k) (out_of (first_fit (rules part) k) (λ (made : Row). go f (made ++ row) k)) (Part part ∷ row) k (λ single. part_at (first_fit (rules part) k) (λ (made : Row). go f (made ++ row) k) part k row single refl (λ made. go_holds f (made ++ row) k))

-- ---- the course is right
abbrev pub IsDouble : Reading → Type 0
IsDouble Plain = ⊥
IsDouble reading = Unit {0}

abbrev pub IsRight : Course → Reading → Terminal → Row → Type 0
IsRight (Both next) reading k row = (go 9 (main_row reading ++ row) k ≡ Behind (main_row next ++ row)) × (go 9 (listed_row reading ++ row) k ≡ Behind (listed_row next ++ row)) × IsDouble next
IsRight Main Plain k row = Unit {0}
IsRight Main reading k row = go 9 (listed_row reading ++ row) k ≡ Dead
IsRight Listed reading k row = (go 9 (main_row reading ++ row) k ≡ Dead) × IsDouble reading

pub course_right : (reading : Reading) (k : Terminal) (row : Row) → IsRight (course reading k) reading k row
course_right Plain k row = tt
course_right (Opened sorts.Type) t.Type row = (refl, tt)
course_right (Opened sorts.Type) t.Fun row = (refl, tt)
course_right (Opened sorts.Type) t.Val row = (refl, tt)
course_right (Opened sorts.Type) t.As row = (refl, tt)
course_right (Opened sorts.Type) t.Match row = (refl, tt)
course_right (Opened sorts.Type) t.With row = (refl, tt)
course_right (Opened sorts.Type) t.Word row = (refl, refl, tt)
course_right (Opened sorts.Type) k row = refl
course_right (Opened sorts.Pattern) t.Type row = (refl, tt)
course_right (Opened sorts.Pattern) t.Fun row = (refl, tt)
course_right (Opened sorts.Pattern) t.Val row = (refl, refl, tt)
course_right (Opened sorts.Pattern) t.As row = (refl, tt)
course_right (Opened sorts.Pattern) t.Match row = (refl, tt)
course_right (Opened sorts.Pattern) t.With row = (refl, tt)
course_right (Opened sorts.Pattern) t.Word row = (refl, refl, tt)
course_right (Opened sorts.Pattern) k row = refl
course_right (Barred sorts.Type) t.Type row = (refl, tt)
course_right (Barred sorts.Type) t.Fun row = (refl, tt)
course_right (Barred sorts.Type) t.Val row = (refl, tt)
course_right (Barred sorts.Type) t.As row = (refl, tt)
course_right (Barred sorts.Type) t.Match row = (refl, tt)
course_right (Barred sorts.Type) t.With row = (refl, tt)
course_right (Barred sorts.Type) t.Word row = (refl, refl, tt)
course_right (Barred sorts.Type) k row = refl
course_right (Barred sorts.Pattern) t.Type row = (refl, tt)
course_right (Barred sorts.Pattern) t.Fun row = (refl, tt)
course_right (Barred sorts.Pattern) t.Val row = (refl, refl, tt)
course_right (Barred sorts.Pattern) t.As row = (refl, tt)
course_right (Barred sorts.Pattern) t.Match row = (refl, tt)
course_right (Barred sorts.Pattern) t.With row = (refl, tt)
course_right (Barred sorts.Pattern) t.Word row = (refl, refl, tt)
course_right (Barred sorts.Pattern) k row = refl
course_right (Named s) t.ParenR row = (refl, refl, tt)
course_right (Named s) t.Bar row = (refl, refl, tt)
course_right (Named s) k row = refl
course_right AfterVal t.ParenR row = (refl, tt)
course_right AfterVal t.Bar row = (refl, tt)
course_right AfterVal k row = refl
course_right (Shut s) t.BracketL row = (refl, tt)
course_right (Shut s) k row = refl

-- ---- and the machine's step
left_only : (reading : Reading) (k : Terminal) (row : Row) → go 9 (listed_row reading ++ row) k ≡ Dead → (e : Extent) (l d : ℕ) (ts : List Terminal) → nesting_limit ≤ l → Derives e l d (listed_row reading ++ row) (k ∷ ts) → ⊥
left_only reading k row dead = let h : Holds Dead (listed_row reading ++ row) k = subst (λ (o : Out). Holds o (listed_row reading ++ row) k) dead (go_holds 9 (listed_row reading ++ row) k) in h

right_only : (reading : Reading) (k : Terminal) (row : Row) → go 9 (main_row reading ++ row) k ≡ Dead → (e : Extent) (l d : ℕ) (ts : List Terminal) → nesting_limit ≤ l → Derives e l d (main_row reading ++ row) (k ∷ ts) → ⊥
right_only reading k row dead = let h : Holds Dead (main_row reading ++ row) k = subst (λ (o : Out). Holds o (main_row reading ++ row) k) dead (go_holds 9 (main_row reading ++ row) k) in h

either_left : {A B : Type 0} → (B → ⊥) → A ⊎ B → A
either_left f (inl a) = a
either_left f (inr b) = absurd (f b)

either_right : {A B : Type 0} → (A → ⊥) → A ⊎ B → B
either_right f (inl a) = absurd (f a)
either_right f (inr b) = b

-- only one reading is left: what a step does to its row, it does to the state
abbrev pub OneIs : Reading → Terminal → Row → Row → Type 0
OneIs reading k row rest = ((e : Extent) (l d : ℕ) (ts : List Terminal) → nesting_limit ≤ l → Reads reading e l d row (k ∷ ts) → Derives e l d rest (k ∷ ts)) × ((e : Extent) (l d : ℕ) (ts : List Terminal) → nesting_limit ≤ l → Derives e l d rest (k ∷ ts) → Reads reading e l d row (k ∷ ts))

one_advances : (reading : Reading) (d : ℕ) (row rest : Row) (k : Terminal) (step : Step) (f : ℕ) (q : Row) → OneIs reading k row rest → Shifts d rest k step f q → Advances reading d row k step f q
one_advances reading d row rest k (Next after) f q one s = record {
  on = λ e l ts big g. s.on e l ts big (one.0 e l d ts big g);
  back = λ e l ts big g. one.1 e l d ts big (s.back e l ts big g);
}
one_advances reading d row rest k Syntax f q one s = record { dead = λ e l ts big g. s.dead e l ts big (one.0 e l d ts big g) }
one_advances reading d row rest k TooDeep f q one s = record {
  dead = λ e ts g. s.dead e ts (one.0 e nesting_limit d ts (omega arith) g);
  limit = s.limit;
  above = s.above;
  alive = one.1 Partial s.limit d [] s.above s.alive;
}

main_one : (reading : Reading) (k : Terminal) (row : Row) → IsRight Main reading k row → OneIs reading k row (main_row reading ++ row)
main_one Plain k row right = (λ e l d ts big g. g, λ e l d ts big g. g)
main_one (Opened sort) k row right = (λ e l d ts big g. either_left (left_only (Opened sort) k row right e l d ts big) g, λ e l d ts big g. inl g)
main_one (Named sort) k row right = (λ e l d ts big g. either_left (left_only (Named sort) k row right e l d ts big) g, λ e l d ts big g. inl g)
main_one (Barred sort) k row right = (λ e l d ts big g. either_left (left_only (Barred sort) k row right e l d ts big) g, λ e l d ts big g. inl g)
main_one (Shut sort) k row right = (λ e l d ts big g. either_left (left_only (Shut sort) k row right e l d ts big) g, λ e l d ts big g. inl g)
main_one AfterVal k row right = (λ e l d ts big g. either_left (left_only AfterVal k row right e l d ts big) g, λ e l d ts big g. inl g)

listed_one : (reading : Reading) (k : Terminal) (row : Row) → IsRight Listed reading k row → OneIs reading k row (listed_row reading ++ row)
listed_one Plain k row right = absurd right.1
listed_one (Opened sort) k row right = (λ e l d ts big g. either_right (right_only (Opened sort) k row right.0 e l d ts big) g, λ e l d ts big g. inr g)
listed_one (Named sort) k row right = (λ e l d ts big g. either_right (right_only (Named sort) k row right.0 e l d ts big) g, λ e l d ts big g. inr g)
listed_one (Barred sort) k row right = (λ e l d ts big g. either_right (right_only (Barred sort) k row right.0 e l d ts big) g, λ e l d ts big g. inr g)
listed_one (Shut sort) k row right = (λ e l d ts big g. either_right (right_only (Shut sort) k row right.0 e l d ts big) g, λ e l d ts big g. inr g)
listed_one AfterVal k row right = (λ e l d ts big g. either_right (right_only AfterVal k row right.0 e l d ts big) g, λ e l d ts big g. inr g)

pub main_advances : (reading : Reading) (d : ℕ) (row : Row) (k : Terminal) (step : Step) (f : ℕ) (q : Row) → course reading k ≡ Main → Shifts d (main_row reading ++ row) k step f q → Advances reading d row k step f q
main_advances reading d row k step f q is s = one_advances reading d row (main_row reading ++ row) k step f q (main_one reading k row (subst (λ (c : Course). IsRight c reading k row) is (course_right reading k row))) s

pub listed_advances : (reading : Reading) (d : ℕ) (row : Row) (k : Terminal) (step : Step) (f : ℕ) (q : Row) → course reading k ≡ Listed → Shifts d (listed_row reading ++ row) k step f q → Advances reading d row k step f q
listed_advances reading d row k step f q is s = one_advances reading d row (listed_row reading ++ row) k step f q (listed_one reading k row (subst (λ (c : Course). IsRight c reading k row) is (course_right reading k row))) s

-- both readings are alive
abbrev TwoRows : Reading → Type 0
TwoRows reading = (e : Extent) (l d : ℕ) (row : Row) (ts : List Terminal) → (Reads reading e l d row ts → Derives e l d (main_row reading ++ row) ts ⊎ Derives e l d (listed_row reading ++ row) ts) × (Derives e l d (main_row reading ++ row) ts ⊎ Derives e l d (listed_row reading ++ row) ts → Reads reading e l d row ts)

two_rows : (reading : Reading) → IsDouble reading → TwoRows reading
two_rows Plain two e l d row ts = absurd two
two_rows (Opened sort) two e l d row ts = (λ g. g, λ g. g)
two_rows (Named sort) two e l d row ts = (λ g. g, λ g. g)
two_rows (Barred sort) two e l d row ts = (λ g. g, λ g. g)
two_rows (Shut sort) two e l d row ts = (λ g. g, λ g. g)
two_rows AfterVal two e l d row ts = (λ g. g, λ g. g)

behind_leaves : (row rest : Row) (k : Terminal) → go 9 row k ≡ Behind rest → Leaves row k rest
behind_leaves row rest k is = let h : Holds (Behind rest) row k = subst (λ (o : Out). Holds o row k) is (go_holds 9 row k) in h

pub main_both : (next : Reading) → Main ≡ Both next → ⊥
main_both next e = cc

double_of : (reading : Reading) (k : Terminal) (next : Reading) → course reading k ≡ Both next → IsDouble reading
double_of Plain k next e = main_both next e
double_of (Opened sort) k next e = tt
double_of (Named sort) k next e = tt
double_of (Barred sort) k next e = tt
double_of (Shut sort) k next e = tt
double_of AfterVal k next e = tt

both_with : (reading next : Reading) (d : ℕ) (row : Row) (k : Terminal) → IsDouble reading → IsDouble next → Leaves (main_row reading ++ row) k (main_row next ++ row) → Leaves (listed_row reading ++ row) k (listed_row next ++ row) → Passes reading d row k next d row
both_with reading next d row k two twice a b = record {
  on = λ e l ts big g. (two_rows next twice e l d row ts).1 (elim ((two_rows reading two e l d row (k ∷ ts)).0 g) [ inl h ↦ inl (a.on e l d ts big h) | inr h ↦ inr (b.on e l d ts big h) ]);
  back = λ e l ts big g. (two_rows reading two e l d row (k ∷ ts)).1 (elim ((two_rows next twice e l d row ts).0 g) [ inl h ↦ inl (a.back e l d ts big h) | inr h ↦ inr (b.back e l d ts big h) ]);
}

pub both_advances : (reading next : Reading) (d : ℕ) (row : Row) (k : Terminal) → course reading k ≡ Both next → Passes reading d row k next d row
both_advances reading next d row k is =
    let right : IsRight (Both next) reading k row = subst (λ (c : Course). IsRight c reading k row) is (course_right reading k row) in
    both_with reading next d row k (double_of reading k next is) right.2 (behind_leaves (main_row reading ++ row) (main_row next ++ row) k right.0) (behind_leaves (listed_row reading ++ row) (listed_row next ++ row) k right.1)
