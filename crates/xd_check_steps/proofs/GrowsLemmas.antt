-- Stores and automata that grow.
use Rattle.std.proofs.Common.{◌≡◌, true, ◌↔◌, ℕ, List, [], ◌∷◌, Some, refl, sym, subst, ◌∙◌, cond, Bool, false}
use Rattle.std.specs.Str.{bytes_eq}
use Rattle.xd_doc.specs.Document.{Document}
use Rattle.xd_auto.specs.declared.auto.State.{State}
use Rattle.xd_auto.specs.Automaton.{Automaton, Extends, IsState, KeepsAccepting, accepts}
use Rattle.xd_auto.proofs.ExtendsLemmas.{extends_then}
use Rattle.xd_syntax.specs.Program.{ProgramTree}
use Rattle.xd_syntax.specs.May.{Scope}
use Rattle.xd_check_steps.specs.declared.variables.Variable.{Variable}
use Rattle.xd_check_steps.specs.InScope.{AcceptedBy, AreStates, ScopeStands, state_of}
use Rattle.xd_check_steps.specs.States.{AcceptsJust, Grows}

pub grows_none : (a : Automaton) → Grows a a
grows_none a = record {
  extends = record { states = λ s h. h; moves = λ s h. refl };
  keeps = λ d s h. refl;
}

pub grows_then : (a b c : Automaton) → Grows a b → Grows b c → Grows a c
grows_then a b c g h = record {
  extends = extends_then a b c g.extends h.extends;
  keeps = λ d s i. h.keeps d s ((g.extends).states s i) ∙ g.keeps d s i;
}

pub grows_by : (a b : Automaton) → Extends a b → KeepsAccepting a b → Grows a b
grows_by a b e k = record { extends = e; keeps = k }

pub just_kept : (a b : Automaton) → Grows a b → (s : State) (A : Document → Type 0) → IsState a s → AcceptsJust a s A → AcceptsJust b s A
just_kept a b g s A i h d p =
    let e : accepts b d s ≡ accepts a d s = g.keeps d s i in
    ((λ m. (h d p).0 (sym e ∙ m)), (λ m. e ∙ (h d p).1 m))

pub states_kept : (a b : Automaton) → Grows a b → (vs : List Variable) → AreStates a vs → AreStates b vs
states_kept a b g [] h = tt
states_kept a b g (v ∷ vs) h = ((g.extends).states v.state h.0, states_kept a b g vs h.1)

-- a variable's state accepts what it did
accepted_kept : (a b : Automaton) → Grows a b → (vs : List Variable) → AreStates a vs → (x : List ℕ) (d : Document) →
    AcceptedBy b (state_of vs x) d ↔ AcceptedBy a (state_of vs x) d
accepted_kept a b g [] h x d = ((λ m. m), (λ m. m))
accepted_kept a b g (v ∷ vs) h x d = go (bytes_eq v.name x) (accepted_kept a b g vs h.1 x d)
  where
    go : (t : Bool) → AcceptedBy b (state_of vs x) d ↔ AcceptedBy a (state_of vs x) d →
        AcceptedBy b (cond t (Some v.state) (state_of vs x)) d ↔ AcceptedBy a (cond t (Some v.state) (state_of vs x)) d
    go true r = let e : accepts b d v.state ≡ accepts a d v.state = g.keeps d v.state h.0 in ((λ m. sym e ∙ m), (λ m. e ∙ m))
    go false r = r

pub scope_kept : (P : ProgramTree) (S : Scope) (a b : Automaton) → Grows a b → (vs : List Variable) → AreStates a vs → ScopeStands P S a vs → ScopeStands P S b vs
scope_kept P S a b g vs i h x d p =
    let k = accepted_kept a b g vs i x d in
    let m = h x d p in
    ((λ n. m.0 (k.0 n)), (λ n. k.1 (m.1 n)))

pub state_there : (a : Automaton) (vs : List Variable) (x : List ℕ) (s : State) → AreStates a vs → state_of vs x ≡ Some s → IsState a s
state_there a [] x s h e = absurd (cc)
state_there a (v ∷ vs) x s h e = go (bytes_eq v.name x) e (λ q. state_there a vs x s h.1 q)
  where
    go : (t : Bool) → cond t (Some v.state) (state_of vs x) ≡ Some s → (state_of vs x ≡ Some s → IsState a s) → IsState a s
    go true q r = (let i : v.state ≡ s = cc in subst (IsState a) i h.0)
    go false q r = r q
