-- What is kept where it stands first.
use Rattle.std.proofs.Common.{◌≡◌, ◌&&◌, ◌||◌, not, ℕ, Bool, true, false, nat_eq, arith, Option, Some, None, refl, ap, sym, subst, ◌∙◌, List, [], ◌∷◌, ◌++◌, inl, inr}
use Rattle.std.proofs.lemmas.Bool.Decides.{nat_tests}
use mathlib.Core.Bool.{beq}
use Rattle.std.specs.List.{list_any}
use Rattle.std.specs.Prelude.{if◌then◌else◌}
use Rattle.xd_doc.proofs.Bools.{and_parts}
use Rattle.xd_doc.proofs.Numbers.{number_same}
use Rattle.std.specs.Option.{option_eq}
use Rattle.xd_doc.specs.Members.{IsOneOf}
use Rattle.xd_patterns.specs.Tasks.{HasFound}
use Rattle.xd_patterns.specs.Expanding.{Enters}
use Rattle.xd_patterns.specs.declared.expand.Task.{Task}
use Rattle.xd_patterns.specs.declared.chains.Piece.{Piece}
use Rattle.xd_patterns.specs.declared.expand.Found.{Found}

any_among : {A : Type 0} (test : A → Bool) (x : A) → ((y : A) → test y ≡ true → y ≡ x) → (ys : List A) → list_any test ys ≡ true → IsOneOf x ys
any_among test x right [] h = cc
any_among test x right (y ∷ ys) h = go (test y) refl h (λ k. any_among test x right ys k)
  where
    go : (b : Bool) → test y ≡ b → (b || list_any test ys) ≡ true → (list_any test ys ≡ true → IsOneOf x ys) → IsOneOf x (y ∷ ys)
    go true e k rec = inl (right y e)
    go false e k rec = inr (rec k)

abbrev piece_test : Piece → Piece → Bool
piece_test p q = beq p.of_pattern q.of_pattern && (nat_eq p.node q.node && (nat_eq p.from q.from && (beq p.is_turns q.is_turns && nat_eq p.marks q.marks)))

abbrev found_test : Found → Found → Bool
found_test f g = beq f.is_stop g.is_stop && (piece_test f.piece g.piece && nat_eq f.rest g.rest)

same_found : (f g : Found) → found_test f g ≡ true → g ≡ f
same_found f g h = grind (arith, nat_tests)

pub has_found : (old new : List Found) (f : Found) → new ≡ if list_any (found_test f) old then old else old ++ f ∷ [] → HasFound old f new
has_found old new f e = go (list_any (found_test f) old) refl e
  where
    go : (b : Bool) → list_any (found_test f) old ≡ b → new ≡ if b then old else old ++ f ∷ [] → HasFound old f new
    go true i q = inl (any_among (found_test f) f (same_found f) old i, q)
    go false i q = inr q

-- the same of tasks

abbrev task_test : Task → Task → Bool
task_test x y = nat_eq x.cell y.cell && option_eq nat_eq x.turn y.turn

same_turn : (o u : Option ℕ) → option_eq nat_eq o u ≡ true → u ≡ o
same_turn None None h = refl
same_turn None (Some n) h = cc
same_turn (Some m) None h = cc
same_turn (Some m) (Some n) h = ap Some (number_same m n h)

same_task : (x y : Task) → task_test x y ≡ true → y ≡ x
same_task x y h =
    let a = and_parts (nat_eq x.cell y.cell) (option_eq nat_eq x.turn y.turn) h in
    ap (λ (n : ℕ). let r : Task = record { cell = n; turn = y.turn } in r) (number_same x.cell y.cell a.0)
    ∙ ap (λ (o : Option ℕ). let r : Task = record { cell = x.cell; turn = o } in r) (same_turn x.turn y.turn a.1)

pub enters : (old new : List Task) (x : Task) (first : Bool) → new ≡ (if list_any (task_test x) old then old else old ++ x ∷ []) → first ≡ not (list_any (task_test x) old) → Enters old x new first
enters old new x first e f = go (list_any (task_test x) old) refl e f
  where
    go : (b : Bool) → list_any (task_test x) old ≡ b → new ≡ (if b then old else old ++ x ∷ []) → first ≡ not b → Enters old x new first
    go true i q f = subst (Enters old x new) (sym f) (any_among (task_test x) x (same_task x) old i, q)
    go false i q f = subst (Enters old x new) (sym f) q
