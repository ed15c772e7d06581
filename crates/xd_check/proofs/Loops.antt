-- Loops over the parts of a sequence, over arguments and over clauses.
use Rattle.xd_check_steps.proofs.Ceilings.{ceiling}
use Rattle.std.proofs.Common.{◌≡◌, ℕ, suc, zero, ◌+◌, ◌<◌, ◌≤◌, arith, List, [], ◌∷◌, ◌++◌, map, length, get_or, drop, Some, None, refl, ap, sym, subst, ◌∙◌, append-nil, append_assoc}
use Rattle.std.specs.List.{AllByRecursion, slice_get}
use Rattle.std.proofs.lemmas.List.{drop_more}
use Rattle.xd_doc.specs.Document.{Document}
use Rattle.xd_doc.specs.StoreNodes.{Keeps}
use Rattle.xd_doc.proofs.StoredLemmas.{Keeps-same, Keeps-trans}
use Rattle.xd_doc.proofs.Lists.{all_push, all_as}
use Rattle.xd_auto.specs.declared.auto.State.{State}
use Rattle.xd_auto.specs.Automaton.{Automaton, IsState}
use Rattle.xd_syntax.specs.Tree.{Definitions}
use Rattle.xd_syntax.specs.Expression.{Expression, arguments_of, place_of_expression}
use Rattle.xd_syntax.specs.Exprs.{expr_numbers}
use Rattle.xd_syntax.specs.Program.{Parameter, ProgramTree, names_of}
use Rattle.xd_syntax.specs.Kept.{ProgramTable, program_tree}
use Rattle.xd_syntax.specs.May.{Scope, May}
use Rattle.xd_syntax.specs.CheckFaults.{Line, LineWhere, LinesOf, LinesOfArguments, wrong_argument}
use Rattle.xd_syntax.specs.Order.{InTurn}
use Rattle.xd_syntax.specs.declared.exprs.ExprId.{ExprId}
use Rattle.xd_check_steps.specs.declared.variables.Variable.{Variable}
use Rattle.xd_check_steps.specs.Found.{AddsFound, Found, InOrder, JustLines, Seen, followed}
use Rattle.xd_check_steps.specs.FoundLines.{AddsLines, told_size}
use Rattle.xd_check_steps.specs.InScope.{AreStates, ScopeStands}
use Rattle.xd_check_steps.specs.Walkable.{CanBeWalked, expr_at}
use Rattle.xd_check_steps.specs.Signed.{AreParameters, IsTypeState}
use Rattle.xd_check_steps.specs.States.{AcceptsJust, Grows, IsMisfit}
use Rattle.xd_check.specs.Walked.{ArePartsWalked, IsWalked, LinesOfArgument, SeenIn, SeenInArguments, SeenInParts}
use Rattle.xd_check.proofs.Arguments.{argument_more, argument_step, misfit_lines, no_arguments}
use Rattle.xd_check_steps.proofs.AddsFoundLemmas.{Goes, adds_both, adds_lines, goes_all, goes_begin, goes_more}
use Rattle.xd_check_steps.proofs.GrowsLemmas.{grows_none, grows_then, scope_kept}
use Rattle.xd_check_steps.proofs.IsSignatureLemmas.{parameters_kept}
use Rattle.xd_check.proofs.Walks.{pairs_kept, pairs_push}
use Rattle.xd_meaning.specs.KeptFaults.{AllPaired}

-- expressions with a state for each, and others that are still to come
pub record ArePartsGoing (p : ProgramTable) (S : Scope) (all left : List Expression) (a : Automaton) (ds : List Document) (old new : Found) (ss : List State) : Type 0 where
  pub done : List Expression
  pub split : all ≡ done ++ left
  pub may : AllPaired (λ (e : Expression) (s : State). AcceptsJust a s (May (program_tree p) S e)) done ss
  pub found : AddsFound p a ds (Goes (SeenInParts (program_tree p) S left) (SeenInParts (program_tree p) S all)) old new

-- what stays in a loop
pub record Stays (a b : Automaton) (vs ws : List Variable) (ds es : List Document) : Type 0 where
  pub variables : ws ≡ vs
  pub grows : Grows a b
  pub keeps : Keeps ds es

pub stays_begin : (a : Automaton) (vs : List Variable) (ds : List Document) → Stays a a vs vs ds ds
stays_begin a vs ds = record { variables = refl; grows = grows_none a; keeps = Keeps-same ds }

pub stays_more : (a b c : Automaton) (vs ws us : List Variable) (ds es fs : List Document) → Stays a b vs ws ds es → us ≡ ws → Grows b c → Keeps es fs → Stays a c vs us ds fs
stays_more a b c vs ws us ds es fs s v g k = record { variables = v ∙ s.variables; grows = grows_then a b c s.grows g; keeps = Keeps-trans ds es fs s.keeps k }

-- the parts of a sequence from the n-th on are still to be walked
pub record PartsLoop (p : ProgramTable) (a b : Automaton) (vs ws : List Variable) (ds es : List Document) (old new : Found) (parts : List ExprId) (n : ℕ) (ss : List State) : Type 0 where
  pub stays : Stays a b vs ws ds es
  pub there : AllByRecursion (IsState b) ss
  pub rest : AllByRecursion (CanBeWalked p) (expr_numbers (drop n parts))
  pub below : ceiling (expr_numbers (drop n parts)) ≤ ceiling (expr_numbers parts)
  pub walked : (S : Scope) → ScopeStands (program_tree p) S a vs →
      ArePartsGoing p S (map (expr_at p) (expr_numbers parts)) (map (expr_at p) (expr_numbers (drop n parts))) b es old new ss

pub parts_begin : (p : ProgramTable) (a : Automaton) (vs : List Variable) (ds : List Document) (f : Found) (parts : List ExprId) → AllByRecursion (CanBeWalked p) (expr_numbers parts) → PartsLoop p a a vs vs ds ds f f parts 0 []
parts_begin p a vs ds f parts h = record {
  stays = stays_begin a vs ds;
  there = tt;
  rest = h;
  below = omega arith;
  walked = λ S s. record { done = []; split = refl; may = tt; found = goes_begin (SeenInParts (program_tree p) S (map (expr_at p) (expr_numbers parts))) f };
}

pub part_front : (parts : List ExprId) (n : ℕ) (id : ExprId) → n < length parts → id ≡ get_or parts n id → drop n parts ≡ id ∷ drop (n + 1) parts
part_front parts n id l e = drop_more parts n id l ∙ ap (λ x. x ∷ drop (n + 1) parts) (sym e)

pub part_here : (p : ProgramTable) (a b : Automaton) (vs ws : List Variable) (ds es : List Document) (old new : Found) (parts : List ExprId) (n : ℕ) (ss : List State) (id : ExprId) →
    PartsLoop p a b vs ws ds es old new parts n ss → n < length parts → id ≡ get_or parts n id → CanBeWalked p id.at × (id.at + 1 ≤ ceiling (expr_numbers parts))
part_here p a b vs ws ds es old new parts n ss id h l e =
    let f = part_front parts n id l e in
    let r : AllByRecursion (CanBeWalked p) (expr_numbers (id ∷ drop (n + 1) parts)) = subst (λ (xs : List ExprId). AllByRecursion (CanBeWalked p) (expr_numbers xs)) f h.rest in
    let c : ceiling (expr_numbers (id ∷ drop (n + 1) parts)) ≤ ceiling (expr_numbers parts) = subst (λ (xs : List ExprId). ceiling (expr_numbers xs) ≤ ceiling (expr_numbers parts)) f h.below in
    (r.0, omega arith)

pub parts_more : (p : ProgramTable) (a b c : Automaton) (vs ws xs : List Variable) (ds es fs : List Document) (old mid new : Found) (parts : List ExprId) (n : ℕ) (ss us : List State) (id : ExprId) (s : State) → AreStates a vs →
    PartsLoop p a b vs ws ds es old mid parts n ss → n < length parts → id ≡ get_or parts n id → IsState c s →
    ((S : Scope) → ScopeStands (program_tree p) S b ws → IsWalked p S (expr_at p id.at) c fs mid new s) → xs ≡ ws → Grows b c → Keeps es fs → us ≡ ss ++ s ∷ [] →
    PartsLoop p a c vs xs ds fs old new parts (n + 1) us
parts_more p a b c vs ws xs ds es fs old mid new parts n ss us id s av h l e i w v g k u =
    let P : ProgramTree = program_tree p in
    let f = part_front parts n id l e in
    let all : List Expression = map (expr_at p) (expr_numbers parts) in
    let left : List Expression = map (expr_at p) (expr_numbers (drop (n + 1) parts)) in
    let r : AllByRecursion (CanBeWalked p) (expr_numbers (id ∷ drop (n + 1) parts)) = subst (λ (ys : List ExprId). AllByRecursion (CanBeWalked p) (expr_numbers ys)) f h.rest in
    let q : ceiling (expr_numbers (id ∷ drop (n + 1) parts)) ≤ ceiling (expr_numbers parts) = subst (λ (ys : List ExprId). ceiling (expr_numbers ys) ≤ ceiling (expr_numbers parts)) f h.below in
    let st = h.stays in
    record {
      stays = stays_more a b c vs ws xs ds es fs h.stays v g k;
      there = subst (AllByRecursion (IsState c)) (sym u) (all_push (IsState c) ss s (all_as (IsState b) (IsState c) (λ t m. (g.extends).states t m) ss h.there) i);
      rest = r.1;
      below = omega arith;
      walked = λ S stands.
          (let x = h.walked S stands in
          let y : ArePartsGoing p S all (expr_at p id.at ∷ left) b es old mid ss = subst (λ (ys : List ExprId). ArePartsGoing p S all (map (expr_at p) (expr_numbers ys)) b es old mid ss) f x in
          let z = w S (subst (ScopeStands P S b) (sym st.variables) (scope_kept P S a b st.grows vs av stands)) in
          record {
            done = y.done ++ expr_at p id.at ∷ [];
            split = y.split ∙ sym (append_assoc y.done (expr_at p id.at ∷ []) left);
            may = subst (AllPaired (λ (m : Expression) (t : State). AcceptsJust c t (May P S m)) (y.done ++ expr_at p id.at ∷ [])) (sym u)
                (pairs_push P S c y.done ss (expr_at p id.at) s (pairs_kept P S b c g y.done ss h.there y.may) z.may);
            found = goes_more g k (SeenInParts P S (expr_at p id.at ∷ left)) (SeenIn P S (expr_at p id.at)) (SeenInParts P S left) (SeenInParts P S all) (λ s t m u. (s, t, m, u, refl)) y.found z.found;
          });
    }

pub parts_end : (p : ProgramTable) (a b : Automaton) (vs ws : List Variable) (ds es : List Document) (old new : Found) (parts : List ExprId) (n : ℕ) (ss : List State) → drop n parts ≡ [] →
    PartsLoop p a b vs ws ds es old new parts n ss → (S : Scope) → ScopeStands (program_tree p) S a vs → ArePartsWalked p S (map (expr_at p) (expr_numbers parts)) b es old new ss
parts_end p a b vs ws ds es old new parts n ss d h S stands =
    let P : ProgramTree = program_tree p in
    let all : List Expression = map (expr_at p) (expr_numbers parts) in
    let x : ArePartsGoing p S all [] b es old new ss = subst (λ (ys : List ExprId). ArePartsGoing p S all (map (expr_at p) (expr_numbers ys)) b es old new ss) d (h.walked S stands) in
    record {
      may = subst (λ xs. AllPaired (λ (e : Expression) (s : State). AcceptsJust b s (May P S e)) xs ss) (sym (x.split ∙ append-nil x.done)) x.may;
      found = goes_all (SeenInParts P S []) (SeenInParts P S all) refl x.found;
    }

-- the arguments from the n-th on are still to be walked
pub record ArgumentsLoop (p : ProgramTable) (a b : Automaton) (vs ws : List Variable) (ds es : List Document) (old new : Found) (ts : List State) (parts : List ExprId) (n : ℕ) : Type 0 where
  pub stays : Stays a b vs ws ds es
  pub rest : AllByRecursion (CanBeWalked p) (expr_numbers (drop n parts))
  pub below : ceiling (expr_numbers (drop n parts)) ≤ ceiling (expr_numbers parts)
  pub walked : (S : Scope) (qs : List Parameter) → ScopeStands (program_tree p) S a vs → AreParameters (names_of (program_tree p)) a qs ts →
      AddsFound p b es (Goes (SeenInArguments (program_tree p) S (drop n qs) (arguments_of (map (expr_at p) (expr_numbers (drop n parts))))) (SeenInArguments (program_tree p) S qs (arguments_of (map (expr_at p) (expr_numbers parts))))) old new

pub arguments_begin : (p : ProgramTable) (a : Automaton) (vs : List Variable) (ds : List Document) (f : Found) (ts : List State) (parts : List ExprId) → AllByRecursion (CanBeWalked p) (expr_numbers parts) →
    ArgumentsLoop p a a vs vs ds ds f f ts parts 0
arguments_begin p a vs ds f ts parts h = record {
  stays = stays_begin a vs ds;
  rest = h;
  below = omega arith;
  walked = λ S qs s t. goes_begin (SeenInArguments (program_tree p) S qs (arguments_of (map (expr_at p) (expr_numbers parts)))) f;
}

pub argument_here : (p : ProgramTable) (a b : Automaton) (vs ws : List Variable) (ds es : List Document) (old new : Found) (ts : List State) (parts : List ExprId) (n : ℕ) (id : ExprId) →
    ArgumentsLoop p a b vs ws ds es old new ts parts n → n < length parts → id ≡ get_or parts n id → CanBeWalked p id.at × (id.at + 1 ≤ ceiling (expr_numbers parts))
argument_here p a b vs ws ds es old new ts parts n id h l e =
    let f = part_front parts n id l e in
    let r : AllByRecursion (CanBeWalked p) (expr_numbers (id ∷ drop (n + 1) parts)) = subst (λ (xs : List ExprId). AllByRecursion (CanBeWalked p) (expr_numbers xs)) f h.rest in
    let c : ceiling (expr_numbers (id ∷ drop (n + 1) parts)) ≤ ceiling (expr_numbers parts) = subst (λ (xs : List ExprId). ceiling (expr_numbers xs) ≤ ceiling (expr_numbers parts)) f h.below in
    (r.0, omega arith)

-- the n-th parameter and its state, or neither
pub data HasParameter (E : Definitions) (a : Automaton) (qs : List Parameter) (ts : List State) (n : ℕ) : Type 0 where
  has_one : (q : Parameter) (t : State) → drop n qs ≡ q ∷ drop (n + 1) qs → slice_get ts n ≡ Some t → IsTypeState E a q.declared t → HasParameter E a qs ts n
  has_none : drop n qs ≡ [] → drop (n + 1) qs ≡ [] → slice_get ts n ≡ None → HasParameter E a qs ts n

next : (E : Definitions) (a : Automaton) (q : Parameter) (t : State) (qs : List Parameter) (ts : List State) (n : ℕ) → HasParameter E a qs ts n → HasParameter E a (q ∷ qs) (t ∷ ts) (suc n)
next E a q t qs ts n (has_one r s d e i) = (let f : suc n + 1 ≡ suc (n + 1) = omega arith in has_one r s (d ∙ ap (λ m. r ∷ drop m (q ∷ qs)) (sym f)) e i)
next E a q t qs ts n (has_none d e f) = (let g : suc n + 1 ≡ suc (n + 1) = omega arith in has_none d (ap (λ m. drop m (q ∷ qs)) g ∙ e) f)

parameter_at : (E : Definitions) (a : Automaton) (qs : List Parameter) (ts : List State) (n : ℕ) → AreParameters E a qs ts → HasParameter E a qs ts n
parameter_at E a [] [] zero h = has_none refl refl refl
parameter_at E a [] [] (suc n) h = (let g : suc n + 1 ≡ suc (n + 1) = omega arith in has_none refl (ap (λ m. drop m []) g) refl)
parameter_at E a [] (t ∷ ts) n h = absurd h
parameter_at E a (q ∷ qs) [] n h = absurd h
parameter_at E a (q ∷ qs) (t ∷ ts) zero h = has_one q t refl refl h.0
parameter_at E a (q ∷ qs) (t ∷ ts) (suc n) h = next E a q t qs ts n (parameter_at E a qs ts n h.1)

-- the lines of an argument and of what is not of its parameter's type are those of the arguments
-- that are left
module _ (P : ProgramTree) (S : Scope) (e : Expression) (es : List Expression) (a : Automaton) (s : State) (may : AcceptsJust a s (May P S e)) where
  argument_lines : (qs : List Parameter) (ts : List State) (n : ℕ) → HasParameter (names_of P) a qs ts n → (xs ms : List Line) →
      InTurn (LinesOf told_size P S e) (LinesOfArgument a (place_of_expression e) s (slice_get ts n)) xs → LinesOfArguments told_size P S (drop (n + 1) qs) (arguments_of es) ms →
      LinesOfArguments told_size P S (drop n qs) (arguments_of (e ∷ es)) (xs ++ ms)
  argument_lines qs ts n (has_one q t d f i) xs ms b r =
      let c : LineWhere told_size (place_of_expression e) wrong_argument (IsMisfit a s t) b.1 = subst (λ o. LinesOfArgument a (place_of_expression e) s o b.1) f b.3 in
      subst (λ rs. LinesOfArguments told_size P S rs (arguments_of (e ∷ es)) (xs ++ ms)) (sym d)
      (argument_step P S e es q (drop (n + 1) qs) xs ms (b.0, b.1, b.2, misfit_lines P S e q.declared (place_of_expression e) wrong_argument a s t may i.exact b.1 c, b.4) r)
  argument_lines qs ts n (has_none d z f) xs ms b r =
      let c : b.1 ≡ [] = subst (λ o. LinesOfArgument a (place_of_expression e) s o b.1) f b.3 in
      let same : xs ≡ b.0 = b.4 ∙ ap (λ ys. b.0 ++ ys) c ∙ append-nil b.0 in
      subst (λ rs. LinesOfArguments told_size P S rs (arguments_of (e ∷ es)) (xs ++ ms)) (sym d)
      (argument_more P S e es xs ms (subst (LinesOf told_size P S e) (sym same) b.2) (subst (λ rs. LinesOfArguments told_size P S rs (arguments_of es) ms) z r))

  argument_seen : (qs : List Parameter) (ts : List State) (n : ℕ) → HasParameter (names_of P) a qs ts n → (x m : Seen) →
      InOrder (SeenIn P S e) (JustLines (LinesOfArgument a (place_of_expression e) s (slice_get ts n))) x → SeenInArguments P S (drop (n + 1) qs) (arguments_of es) m →
      SeenInArguments P S (drop n qs) (arguments_of (e ∷ es)) (followed x m)
  argument_seen qs ts n h x m b r = (
    argument_lines qs ts n h x.lines m.lines ((b.0).lines, (b.1).lines, (b.2).0, (b.3).0, ap (λ (u : Seen). u.lines) b.4) r.0,
    ((b.0).matches, m.matches, (b.2).1, r.1, ap (λ us. us ++ m.matches) (ap (λ (u : Seen). u.matches) b.4 ∙ ap (λ us. (b.0).matches ++ us) (b.3).1 ∙ append-nil (b.0).matches)),
  )

pub arguments_more : (p : ProgramTable) (a b c : Automaton) (vs ws xs : List Variable) (ds es fs gs : List Document) (old mid mor new : Found) (ts : List State) (parts : List ExprId) (n : ℕ) (id : ExprId) (s : State) → AreStates a vs →
    ArgumentsLoop p a b vs ws ds es old mid ts parts n → n < length parts → id ≡ get_or parts n id →
    ((S : Scope) → ScopeStands (program_tree p) S b ws → IsWalked p S (expr_at p id.at) c fs mid mor s) → xs ≡ ws → Grows b c → Keeps es fs →
    AddsLines gs (LinesOfArgument c (place_of_expression (expr_at p id.at)) s (slice_get ts n)) mor.lines new.lines → new.met ≡ mor.met → Keeps fs gs →
    ArgumentsLoop p a c vs xs ds gs old new ts parts (n + 1)
arguments_more p a b c vs ws xs ds es fs gs old mid mor new ts parts n id s av h l e w v g k m u j =
    let P : ProgramTree = program_tree p in
    let f = part_front parts n id l e in
    let x : Expression = expr_at p id.at in
    let left : List Expression = map (expr_at p) (expr_numbers (drop (n + 1) parts)) in
    let r : AllByRecursion (CanBeWalked p) (expr_numbers (id ∷ drop (n + 1) parts)) = subst (λ (ys : List ExprId). AllByRecursion (CanBeWalked p) (expr_numbers ys)) f h.rest in
    let q : ceiling (expr_numbers (id ∷ drop (n + 1) parts)) ≤ ceiling (expr_numbers parts) = subst (λ (ys : List ExprId). ceiling (expr_numbers ys) ≤ ceiling (expr_numbers parts)) f h.below in
    let st = h.stays in
    let kept = Keeps-trans es fs gs k j in
    record {
      stays = stays_more a b c vs ws xs ds es gs h.stays v g kept;
      rest = r.1;
      below = omega arith;
      walked = λ S qs stands ps.
          (let whole : Seen → Type 0 = SeenInArguments P S qs (arguments_of (map (expr_at p) (expr_numbers parts))) in
          let y : AddsFound p b es (Goes (SeenInArguments P S (drop n qs) (arguments_of (x ∷ left))) whole) old mid
          = subst (λ (ys : List ExprId). AddsFound p b es (Goes (SeenInArguments P S (drop n qs) (arguments_of (map (expr_at p) (expr_numbers ys)))) whole) old mid) f (h.walked S qs stands ps) in
          let z = w S (subst (ScopeStands P S b) (sym st.variables) (scope_kept P S a b st.grows vs av stands)) in
          let line : List Line → Type 0 = LinesOfArgument c (place_of_expression x) s (slice_get ts n) in
          let both = adds_both (grows_none c) j (SeenIn P S x) (JustLines line) z.found (adds_lines line mor new m u) in
          let there = parameter_at (names_of P) c qs ts n (parameters_kept (names_of P) a c (grows_then a b c st.grows g) qs ts ps) in
          goes_more g kept (SeenInArguments P S (drop n qs) (arguments_of (x ∷ left))) (InOrder (SeenIn P S x) (JustLines line))
          (SeenInArguments P S (drop (n + 1) qs) (arguments_of left)) whole (argument_seen P S x left c s z.may qs ts n there) y both);
    }

pub arguments_end : (p : ProgramTable) (a b : Automaton) (vs ws : List Variable) (ds es : List Document) (old new : Found) (ts : List State) (parts : List ExprId) (n : ℕ) → drop n parts ≡ [] →
    ArgumentsLoop p a b vs ws ds es old new ts parts n → (S : Scope) (qs : List Parameter) → ScopeStands (program_tree p) S a vs → AreParameters (names_of (program_tree p)) a qs ts →
    AddsFound p b es (SeenInArguments (program_tree p) S qs (arguments_of (map (expr_at p) (expr_numbers parts)))) old new
arguments_end p a b vs ws ds es old new ts parts n d h S qs stands ps =
    let P : ProgramTree = program_tree p in
    let whole : Seen → Type 0 = SeenInArguments P S qs (arguments_of (map (expr_at p) (expr_numbers parts))) in
    let y : AddsFound p b es (Goes (SeenInArguments P S (drop n qs) (arguments_of [])) whole) old new
    = subst (λ (ys : List ExprId). AddsFound p b es (Goes (SeenInArguments P S (drop n qs) (arguments_of (map (expr_at p) (expr_numbers ys)))) whole) old new) d (h.walked S qs stands ps) in
    goes_all (SeenInArguments P S (drop n qs) (arguments_of [])) whole (no_arguments P S (drop n qs), refl) y
