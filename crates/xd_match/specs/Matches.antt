-- The bindings of first matches, as documents of a store.
use Rattle.std.specs.Prelude.{◌≡◌, ℕ, List, [], ◌∷◌, map, Option, Some, None, Vec}
use Rattle.std.specs.List.{AllByRecursion}
use Rattle.xd_doc.specs.Document.{Document}
use Rattle.xd_doc.specs.Stored.{document_at}
use Rattle.xd_doc.specs.StoredSeq.{BelongsTo}
use Rattle.xd_doc.specs.declared.store.Seq.{Seq}
use Rattle.xd_meaning.specs.Meaning.{Environment}

-- what names have in a store, where this is what they are bound to
abbrev pub environment_in : List Document → List (List ℕ × Seq) → Environment
environment_in ds bs = map (λ b. (b.0, document_at ds b.1)) bs

-- what the names of a scope have belongs to the store
abbrev pub ScopeStands : List Document → List (List ℕ × Seq) → Type 0
ScopeStands ds bs = AllByRecursion (λ (b : List ℕ × Seq). BelongsTo ds b.1) bs

-- a match's bindings, or none where there is no match
abbrev pub AreBindings : {S : Type 0} → List Document → Option Environment → Option (Vec (List ℕ × Seq) S) → Type 0
AreBindings ds None None = Unit {0}
AreBindings ds (Some vs) (Some bs) = (environment_in ds bs.items ≡ vs) × ScopeStands ds bs.items
AreBindings ds None (Some bs) = ⊥
AreBindings ds (Some vs) None = ⊥

-- each variable with its document, in order
abbrev pub named : List (List ℕ) → List Seq → List (List ℕ × Seq)
named [] seqs = []
named (x ∷ xs) [] = []
named (x ∷ xs) (seq ∷ seqs) = (x, seq) ∷ named xs seqs
