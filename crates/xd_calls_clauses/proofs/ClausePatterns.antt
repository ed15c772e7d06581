-- The patterns of clauses in the body of a program's first function are linear.
use Rattle.std.proofs.Common.{◌≡◌, ℕ, ◌<◌, inl, inr, List, [], ◌∷◌, map, length, refl, subst, Option, Some, None, Vec}
use Rattle.std.specs.List.{All, AllByRecursion, slice_get}
use Rattle.std.specs.Option.{IfSome}
use Rattle.std.specs.Prelude.{Result, Ok, Err, IfOk}
use Rattle.std.proofs.lemmas.List.Elements.{All-from_recursion}
use Rattle.xd_doc.specs.Document.{Document}
use Rattle.xd_doc.specs.StoredSeq.{BelongsTo}
use Rattle.xd_doc.specs.declared.store.Seq.{Seq}
use Rattle.xd_doc.specs.Members.{IsOneOf}
use Rattle.xd_syntax.specs.Table.{Row}
use Rattle.xd_syntax.specs.Placed.{PlacedTree, unplaced}
use Rattle.xd_syntax.specs.PlacedTable.{placed_at}
use Rattle.xd_syntax.specs.Expression.{Expression}
use Rattle.xd_syntax.specs.ExpressionTable.{clauses_of}
use Rattle.xd_syntax.specs.Exprs.{clause_numbers}
use Rattle.xd_syntax.specs.declared.exprs.Clause.{Clause}
use Rattle.xd_syntax.proofs.Members.{append_right}
use Rattle.xd_syntax.proofs.PlacedTrees.{unplaced_at}
use Rattle.xd_pattern_runs.specs.Linear.{IsLinear}
use Rattle.xd_pattern_runs.specs.Clauses.{patterns_in, patterns_in_clauses}
use Rattle.xd_patterns.specs.CompiledProgram.{IsLinearPattern}
use Rattle.xd_match.specs.Matches.{AreBindings}
use Rattle.xd_meaning.specs.Meaning.{Environment}

abbrev pub AreLinear : List PlacedTree → Type 0
AreLinear As = (A : PlacedTree) → IsOneOf A As → IsLinear (unplaced A)

-- the clauses' patterns are there, and those of all clauses in them are linear
pub linear_in_clauses : (rows : List Row) (t : ℕ → Expression) (cs : List Clause) → AllByRecursion (λ (c : ℕ × ℕ). c.0 < length rows) (clause_numbers cs) →
    AreLinear (patterns_in_clauses (clauses_of (placed_at rows) t (clause_numbers cs))) → AllByRecursion (IsLinearPattern rows) (map (λ (c : Clause). c.pattern) cs)
linear_in_clauses rows t [] there h = tt
linear_in_clauses rows t (c ∷ cs) there h = (
  record { there = there.0; linear = subst IsLinear (unplaced_at rows c.pattern.at) (h (placed_at rows c.pattern.at) (inl refl)) },
  linear_in_clauses rows t cs there.1 (λ A m. h A (inr (append_right A (patterns_in (t c.body.at)) (patterns_in_clauses (clauses_of (placed_at rows) t (clause_numbers cs))) m))),
)

-- the first of a list is among it
pub first_among : {X : Type 0} (x : X) (xs : List X) → slice_get xs 0 ≡ Some x → IsOneOf x xs
first_among x [] e = absurd (cc)
first_among x (y ∷ ys) e = (let f : y ≡ x = cc in inl f)

-- what follows from what is so of a value, where there is one
pub if_ok_then : {X E : Type 0} (P Q : X → Type 0) (r : Result X E) → ((x : X) → P x → Q x) → IfOk r P → IfOk r Q
if_ok_then P Q (Ok x) f h = f x h
if_ok_then P Q (Err e) f h = tt

-- what first matches bind belongs to the store
pub bound_belong : {S : Type 0} (ds : List Document) (vs : Option Environment) (bs : Option (Vec (List ℕ × Seq) S)) → AreBindings ds vs bs → IfSome bs (λ ws. All (λ (b : List ℕ × Seq). BelongsTo ds b.1) ws.items)
bound_belong ds None None h = tt
bound_belong ds (Some vs) (Some bs) h = All-from_recursion (λ (b : List ℕ × Seq). BelongsTo ds b.1) bs.items h.1
bound_belong ds None (Some bs) h = absurd h
bound_belong ds (Some vs) None h = absurd h
