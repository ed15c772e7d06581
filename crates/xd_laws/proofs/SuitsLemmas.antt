-- Environments that suit a scope: inside a clause, and in a function.
use Rattle.std.proofs.Common.{◌≡◌, ℕ, Bool, true, false, cond, ◌||◌, inl, inr, List, [], ◌∷◌, ◌++◌, map, Some, refl, ap, sym, subst, ◌∙◌}
use Rattle.std.specs.Str.{bytes_eq}
use Rattle.std.specs.List.{AllByRecursion}
use Rattle.std.specs.List.Sorted.{IsStrictlySortedBy}
use Rattle.std.proofs.lemmas.Bool.{false_from_ne_true}
use Rattle.xd_doc.specs.Document.{Document, is_proper}
use Rattle.xd_syntax.specs.Words.{has_word, any_word}
use Rattle.xd_syntax.specs.Tree.{Tree, body, any_type}
use Rattle.xd_syntax.specs.Placed.{PlacedTree, unplaced, variables}
use Rattle.xd_syntax.specs.Fits.{Fits}
use Rattle.xd_syntax.specs.Ways.{Way, unfoldings, IsWholeWay}
use Rattle.xd_syntax.specs.Expression.{Expression}
use Rattle.xd_syntax.specs.Program.{TypeDefinition, Parameter, ProgramTree, names_of}
use Rattle.xd_syntax.specs.Proper.{IsProperTree, IsProperDefinition, IsProperProgram}
use Rattle.xd_syntax.specs.NotLinear.{not_linear}
use Rattle.xd_syntax.specs.May.{Scope, clause_entry, Allows, WhereTrue, parameters_scope}
use Rattle.xd_syntax.specs.CheckFaults.{Comes}
use Rattle.xd_meaning.specs.Meaning.{Environment, looked_up, bound}
use Rattle.xd_laws.specs.Safety.{Suits, AreValuesOf}
use Rattle.xd_laws.proofs.WordLists.{has_word_split}
use Rattle.xd_laws.proofs.WayShapes.{IsWay, way_shape}
use Rattle.xd_laws.proofs.BoundVariables.{proper_way, BindNothing, binds_left, binds_right, binds_some, looked_up-binds, looked_up-split, looked_up-among, proper_among, only_variables}
use Rattle.xd_laws.proofs.LinearPatterns.{binds_variables}

-- what a type names binds nothing
definitions_bind : (ts : List TypeDefinition) → AllByRecursion IsProperDefinition ts → (x : List ℕ) (T : Tree) → body (map (λ t. (t.name, unplaced t.body)) ts) x ≡ Some T →
    IsProperTree false T
definitions_bind [] a x T e = absurd (cc)
definitions_bind (t ∷ ts) a x T e = go (bytes_eq t.name x) e (λ k. definitions_bind ts a.1 x T k)
  where
    go : (b : Bool) → cond b (Some (unplaced t.body)) (body (map (λ s. (s.name, unplaced s.body)) ts) x) ≡ Some T →
        (body (map (λ s. (s.name, unplaced s.body)) ts) x ≡ Some T → IsProperTree false T) → IsProperTree false T
    go true k rec = let f : unplaced t.body ≡ T = cc in subst (IsProperTree false) f (a.0).body
    go false k rec = rec k

any_proper : IsProperTree false any_type
unfolding IsStrictlySortedBy
any_proper = ((record { words = tt; sorted = tt; filled = inr refl }, refl), tt)

pub bind_nothing : (P : ProgramTree) → IsProperProgram P → BindNothing (names_of P)
bind_nothing P p x T e = go (bytes_eq any_word x) e
  where
    go : (b : Bool) → cond b (Some any_type) (body (map (λ t. (t.name, unplaced t.body)) P.types) x) ≡ Some T → IsProperTree false T
    go true k = let f : any_type ≡ T = cc in subst (IsProperTree false) f any_proper
    go false k = definitions_bind P.types p.types x T k

where_true : (b : Bool) (A B : Type 0) → b ≡ true → A → WhereTrue b A B
where_true b A B e a = subst (λ c. WhereTrue c A B) (sym e) a

where_false : (b : Bool) (A B : Type 0) → b ≡ false → B → WhereTrue b A B
where_false b A B e a = subst (λ c. WhereTrue c A B) (sym e) a

-- a way of a linear pattern, on a document that comes to the clause
pub clause_suits : (P : ProgramTree) → IsProperProgram P → (S : Scope) (known : List (List ℕ)) (env : Environment) → Suits P S known env →
    (e : Expression) (earlier : List PlacedTree) (Q : PlacedTree) (d : Document) → Comes P S e earlier d → not_linear false [] [] false Q ≡ [] →
    (w : Way) → IsWholeWay (names_of P) (unplaced Q) d w → Suits P (clause_entry e earlier Q ∷ S) (variables Q ++ known) (w.bindings ++ env)
clause_suits P proper S known env s e earlier Q d comes linear w whole = record { has = has; allowed = allowed }
  where
    shape : IsWay (names_of P) (unplaced Q) d w
    shape = way_shape (names_of P) (unfoldings (names_of P) d) (unplaced Q) d w whole.0

    has : (x : List ℕ) → has_word (variables Q ++ known) x ≡ true → (c : Document) × (looked_up (w.bindings ++ env) x ≡ Some c)
    has x h =
        elim (has_word_split (variables Q) known x h) [
          | inl a ↦ binds_some (w.bindings ++ env) x (binds_left w.bindings env x (binds_variables (names_of P) Q d w linear shape x a))
          | inr b ↦
              let r = s.has x b.1 in
              binds_some (w.bindings ++ env) x (binds_right w.bindings env x (looked_up-binds env x r.0 r.1))
        ]

    allowed : (x : List ℕ) (c : Document) → looked_up (w.bindings ++ env) x ≡ Some c → (is_proper c ≡ true) × Allows P (clause_entry e earlier Q ∷ S) x c
    allowed x c h =
        elim (looked_up-split w.bindings env x c h) [
          | inl a ↦
              let m = looked_up-among w.bindings x c a.1 in (
                proper_among w.bindings x c (proper_way (names_of P) shape comes.0).bindings m,
                where_true (has_word (variables Q) x) _ _ (only_variables (names_of P) (bind_nothing P proper) Q d w shape x a.0) (d, w, comes, whole, m),
              )
          | inr b ↦
              let r = s.allowed x c b.1 in
              let n : has_word (variables Q) x ≡ false =
              false_from_ne_true (has_word (variables Q) x) (λ i. let j : true ≡ false = sym (binds_variables (names_of P) Q d w linear shape x i) ∙ b.0 in cc) in
              (r.0, where_false (has_word (variables Q) x) _ _ n r.1)
        ]

pub parameters_suit : (P : ProgramTree) (qs : List Parameter) (ds : List Document) → AreValuesOf (names_of P) qs ds →
    Suits P (parameters_scope qs) (map (λ (q : Parameter). q.name) qs) (bound qs ds)
parameters_suit P [] [] a = record { has = λ x h. absurd (cc); allowed = λ x d h. absurd (cc) }
parameters_suit P [] (d ∷ ds) a = absurd a
parameters_suit P (q ∷ qs) [] a = absurd a
parameters_suit P (q ∷ qs) (d ∷ ds) a = one_more (parameters_suit P qs ds a.1)
  where
    has_at : (x : List ℕ) (b : Bool) → (b || has_word (map (λ (r : Parameter). r.name) qs) x) ≡ true →
        (has_word (map (λ (r : Parameter). r.name) qs) x ≡ true → (c : Document) × (looked_up (bound qs ds) x ≡ Some c)) →
        (c : Document) × (cond b (Some d) (looked_up (bound qs ds) x) ≡ Some c)
    has_at x true h rec = (d, refl)
    has_at x false h rec = rec h

    allowed_at : (x : List ℕ) (c : Document) (b : Bool) → cond b (Some d) (looked_up (bound qs ds) x) ≡ Some c →
        (looked_up (bound qs ds) x ≡ Some c → (is_proper c ≡ true) × Allows P (parameters_scope qs) x c) →
        (is_proper c ≡ true) × WhereTrue b (Fits (names_of P) (unplaced q.declared) c) (Allows P (parameters_scope qs) x c)
    allowed_at x c true h rec =
        let e : d ≡ c = cc in (ap is_proper (sym e) ∙ (a.0).0, subst (Fits (names_of P) (unplaced q.declared)) e (a.0).1)
    allowed_at x c false h rec = rec h

    one_more : Suits P (parameters_scope qs) (map (λ (r : Parameter). r.name) qs) (bound qs ds) →
        Suits P (parameters_scope (q ∷ qs)) (map (λ (r : Parameter). r.name) (q ∷ qs)) (bound (q ∷ qs) (d ∷ ds))
    one_more s = record {
      has = λ x h. has_at x (bytes_eq q.name x) h (λ k. s.has x k);
      allowed = λ x c h. allowed_at x c (bytes_eq q.name x) h (λ k. s.allowed x c k);
    }
