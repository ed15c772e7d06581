-- Variables that come into scope: those of a clause's pattern, and parameters.
use Rattle.std.proofs.Common.{◌≡◌, ◌↔◌, ℕ, ◌+◌, ◌-◌, ◌<◌, ◌≤◌, arith, true, false, Bool, cond, List, [], ◌∷◌, ◌++◌, map, length, get_or, drop, Some, refl, ap, sym, subst, ◌∙◌, length-append}
use Rattle.std.specs.List.{All, AllByRecursion}
use Rattle.std.specs.Str.{bytes_eq}
use Rattle.std.proofs.lemmas.List.{drop_at, drop_more}
use Rattle.std.proofs.lemmas.List.Elements.{All-head, All-tail}
use Rattle.xd_doc.specs.Document.{Document, is_proper}
use Rattle.xd_auto.specs.declared.auto.State.{State}
use Rattle.xd_auto.specs.Automaton.{Automaton, IsState, accepts}
use Rattle.xd_syntax.specs.Tree.{Definitions}
use Rattle.xd_syntax.specs.Placed.{PlacedTree, unplaced}
use Rattle.xd_syntax.specs.Fits.{Fits}
use Rattle.xd_syntax.specs.Expression.{Expression}
use Rattle.xd_syntax.specs.Program.{Parameter, ProgramTree, names_of}
use Rattle.xd_syntax.specs.Kept.{ProgramTable, parameter}
use Rattle.xd_syntax.specs.declared.program.Param.{Param}
use Rattle.xd_syntax.specs.May.{Scope, clause_entry, parameters_scope, Allows, MayBind, WhereTrue}
use Rattle.xd_bind.specs.declared.tracks.Given.{Given}
use Rattle.xd_clauses.specs.Clauses.{AreMayGivens, IsMayGiven}
use Rattle.xd_check_steps.specs.declared.variables.Variable.{Variable}
use Rattle.xd_check_steps.specs.InScope.{AcceptedBy, AreStates, ScopeStands, given_variables, parameters_in_scope, state_of}
use Rattle.xd_check_steps.specs.Signed.{AreParameters}
use Rattle.xd_check.specs.Walked.{ComesTo}
use Rattle.xd_check_steps.specs.States.{Grows}
use Rattle.xd_check.proofs.ClauseLemmas.{bound_stands}
use Rattle.xd_check_steps.proofs.GrowsLemmas.{scope_kept, states_kept}

pub states_joined : (a : Automaton) (us vs : List Variable) → AreStates a us → AreStates a vs → AreStates a (us ++ vs)
states_joined a [] vs h k = k
states_joined a (u ∷ us) vs h k = (h.0, states_joined a us vs h.1 k)

-- the variables of a pattern with their states
module _ (E : Definitions) (C : Document → Type 0) (Q : PlacedTree) (a : Automaton) where
  given_states : (gs : List Given) → All (IsMayGiven E C [] Q a) gs → AreStates a (given_variables gs)
  given_states [] h = tt
  given_states (g ∷ gs) h =
      (let one : IsMayGiven E C [] Q a g = All-head (IsMayGiven E C [] Q a) g gs h in one.belongs, given_states gs (All-tail (IsMayGiven E C [] Q a) g gs h))

  given_names : (gs : List Given) → map (λ (v : Variable). v.name) (given_variables gs) ≡ map (λ (g : Given). g.variable) gs
  given_names [] = refl
  given_names (g ∷ gs) = ap (λ xs. g.variable ∷ xs) (given_names gs)

  given_bound : (gs : List Given) → All (IsMayGiven E C [] Q a) gs →
      AllByRecursion (λ (u : Variable). (d : Document) → is_proper d ≡ true → (accepts a d u.state ≡ true) ↔ MayBind E C [] Q u.name d) (given_variables gs)
  given_bound [] h = tt
  given_bound (g ∷ gs) h =
      (let one : IsMayGiven E C [] Q a g = All-head (IsMayGiven E C [] Q a) g gs h in one.exact, given_bound gs (All-tail (IsMayGiven E C [] Q a) g gs h))

-- the scope of a clause
pub clause_scope : (P : ProgramTree) (S : Scope) (e : Expression) (earlier : List PlacedTree) (C : Document → Type 0) (Q : PlacedTree) → ComesTo P S e earlier Q C → (a b : Automaton) (vs ws : List Variable) (gs : List Given) →
    Grows a b → AreStates a vs → ScopeStands P S a vs → AreMayGivens (names_of P) C [] Q b gs → ws ≡ given_variables gs ++ vs → ScopeStands P (clause_entry e earlier Q ∷ S) b ws
clause_scope P S e earlier C Q comes a b vs ws gs g h stands k m =
    subst (ScopeStands P (clause_entry e earlier Q ∷ S) b) (sym m)
    (bound_stands P S e earlier C Q comes b vs (scope_kept P S a b g vs h stands) (given_variables gs)
    (given_bound (names_of P) C Q b gs k.each) (given_names (names_of P) C Q b gs ∙ k.variables))

pub clause_states : (E : Definitions) (C : Document → Type 0) (Q : PlacedTree) (a b : Automaton) (vs ws : List Variable) (gs : List Given) → Grows a b → AreStates a vs → AreMayGivens E C [] Q b gs → ws ≡ given_variables gs ++ vs → AreStates b ws
clause_states E C Q a b vs ws gs g h k m = subst (AreStates b) (sym m) (states_joined b (given_variables gs) vs (given_states E C Q b gs k.each) (states_kept a b g vs h))

-- after the clause the old variables are left
pub clause_left : (vs ws us : List Variable) (n : ℕ) (gs : List Given) → ws ≡ given_variables gs ++ vs → n ≡ length vs → us ≡ drop (length ws - n) ws → us ≡ vs
clause_left vs ws us n gs m e k =
    let l : length ws ≡ length (given_variables gs) + length vs = ap length m ∙ length-append (given_variables gs) vs in
    let d : length (given_variables gs) ≡ length ws - n = omega arith in
    k ∙ ap (drop (length ws - n)) m ∙ drop_at (given_variables gs) vs (length ws - n) d

-- parameters in scope
pub parameters_stand : (P : ProgramTree) (p : ProgramTable) (a : Automaton) (qs : List Param) (ss : List State) → AreParameters (names_of P) a (map (parameter p.types) qs) ss →
    ScopeStands P (parameters_scope (map (parameter p.types) qs)) a (parameters_in_scope qs ss)
parameters_stand P p a [] [] h x d i = ((λ m. m), (λ m. m))
parameters_stand P p a [] (s ∷ ss) h x d i = absurd h
parameters_stand P p a (q ∷ qs) [] h x d i = absurd h
parameters_stand P p a (q ∷ qs) (s ∷ ss) h x d i = go (bytes_eq q.name x) (parameters_stand P p a qs ss h.1 x d i)
  where
    go : (t : Bool) → AcceptedBy a (state_of (parameters_in_scope qs ss) x) d ↔ Allows P (parameters_scope (map (parameter p.types) qs)) x d →
        AcceptedBy a (cond t (Some s) (state_of (parameters_in_scope qs ss) x)) d ↔ WhereTrue t (Fits (names_of P) (unplaced (parameter p.types q).declared) d) (Allows P (parameters_scope (map (parameter p.types) qs)) x d)
    go true r = (h.0).exact d
    go false r = r

pub parameters_states : (E : Definitions) (p : ProgramTable) (a : Automaton) (qs : List Param) (ss : List State) → AreParameters E a (map (parameter p.types) qs) ss → AreStates a (parameters_in_scope qs ss)
parameters_states E p a [] ss h = tt
parameters_states E p a (q ∷ qs) [] h = tt
parameters_states E p a (q ∷ qs) (s ∷ ss) h = ((h.0).belongs, parameters_states E p a qs ss h.1)

pub parameters_count : (E : Definitions) (p : ProgramTable) (a : Automaton) (qs : List Param) (ss : List State) → AreParameters E a (map (parameter p.types) qs) ss → length qs ≡ length ss
parameters_count E p a [] [] h = refl
parameters_count E p a [] (s ∷ ss) h = absurd h
parameters_count E p a (q ∷ qs) [] h = absurd h
parameters_count E p a (q ∷ qs) (s ∷ ss) h = let r = parameters_count E p a qs ss h.1 in omega arith

pub parameter_states : (E : Definitions) (a : Automaton) (qs : List Parameter) (ss : List State) → AreParameters E a qs ss → AllByRecursion (IsState a) ss
parameter_states E a [] [] h = tt
parameter_states E a [] (s ∷ ss) h = absurd h
parameter_states E a (q ∷ qs) [] h = absurd h
parameter_states E a (q ∷ qs) (s ∷ ss) h = ((h.0).belongs, parameter_states E a qs ss h.1)

-- one more parameter in front
pub parameter_front : (qs : List Param) (ss : List State) (n : ℕ) (q : Param) (s : State) → 0 < n → n ≤ length qs → n ≤ length ss → q ≡ get_or qs (n - 1) q → s ≡ get_or ss (n - 1) s →
    parameters_in_scope (drop (n - 1) qs) (drop (n - 1) ss) ≡ record { name = q.name; state = s } ∷ parameters_in_scope (drop n qs) (drop n ss)
parameter_front qs ss n q s h k l e f =
    let i : n - 1 < length qs = omega arith in
    let j : n - 1 < length ss = omega arith in
    let m : n - 1 + 1 ≡ n = omega arith in
    let a : drop (n - 1) qs ≡ q ∷ drop n qs = drop_more qs (n - 1) q i ∙ ap (λ x. x ∷ drop (n - 1 + 1) qs) (sym e) ∙ ap (λ x. q ∷ drop x qs) m in
    let b : drop (n - 1) ss ≡ s ∷ drop n ss = drop_more ss (n - 1) s j ∙ ap (λ x. x ∷ drop (n - 1 + 1) ss) (sym f) ∙ ap (λ x. s ∷ drop x ss) m in
    ap (λ xs. parameters_in_scope xs (drop (n - 1) ss)) a ∙ ap (λ ys. parameters_in_scope (q ∷ drop n qs) ys) b
