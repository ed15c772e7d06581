-- What is left after patterns.
use Rattle.std.proofs.Common.{◌≡◌, ◌↔◌, ℕ, true, List, [], ap, subst}
use Rattle.xd_doc.specs.Document.{Document, is_proper}
use Rattle.xd_syntax.specs.Tree.{Definitions}
use Rattle.xd_syntax.specs.Table.{Row}
use Rattle.xd_syntax.specs.Placed.{PlacedTree}
use Rattle.xd_syntax.specs.Kept.{ProgramTable, AddsTypes, program_tree}
use Rattle.xd_syntax.specs.Program.{names_of}
use Rattle.xd_syntax.specs.May.{Arrives, IsLive, MayBind, NoneTakes}

-- ---- where B is what is left of A after the earlier patterns

module _ (E : Definitions) (A B : Document → Type 0) (earlier : List PlacedTree) (P : PlacedTree) (left : (d : Document) → B d ↔ (A d × NoneTakes E earlier d)) where
  arrives_on : (d : Document) → Arrives E B [] d → Arrives E A earlier d
  arrives_on d h = let r = (left d).0 h.1 in (h.0, r.0, r.1)

  arrives_back : (d : Document) → Arrives E A earlier d → Arrives E B [] d
  arrives_back d h = (h.0, (left d).1 (h.1, h.2), tt)

  pub live_on : IsLive E B [] P → IsLive E A earlier P
  live_on l = (l.0, arrives_on l.0 l.1, l.2)

  pub live_back : IsLive E A earlier P → IsLive E B [] P
  live_back l = (l.0, arrives_back l.0 l.1, l.2)

  bind_on : (x : List ℕ) (e : Document) → MayBind E B [] P x e → MayBind E A earlier P x e
  bind_on x e m = (m.0, m.1, arrives_on m.0 m.2, m.3, m.4)

  bind_back : (x : List ℕ) (e : Document) → MayBind E A earlier P x e → MayBind E B [] P x e
  bind_back x e m = (m.0, m.1, arrives_back m.0 m.2, m.3, m.4)

  pub bind_same : (x : List ℕ) (e : Document) → is_proper e ≡ true → MayBind E B [] P x e ↔ MayBind E A earlier P x e
  bind_same x e proper = (λ m. bind_on x e m, λ m. bind_back x e m)

-- ---- a program to which types were added

module _ (p q : ProgramTable) (adds : AddsTypes p q) (same : program_tree q ≡ program_tree p) where
  pub to_old : (Q : Definitions → List Row → Type 0) → Q (names_of (program_tree q)) q.patterns → Q (names_of (program_tree p)) p.patterns
  to_old Q h = subst (λ rows. Q (names_of (program_tree p)) rows) adds.patterns (subst (λ E. Q E q.patterns) (ap names_of same) h)

-- what a state of another automaton accepts
pub left_of : (A B C : Document → Type 0) (E : Definitions) (Ps : List PlacedTree) → ((d : Document) → B d ↔ A d) → ((d : Document) → C d ↔ (B d × NoneTakes E Ps d)) → (d : Document) → C d ↔ (A d × NoneTakes E Ps d)
left_of A B C E Ps f g d = (λ h. let r = (g d).0 h in ((f d).0 r.0, r.1), λ h. (g d).1 ((f d).1 h.0, h.1))
