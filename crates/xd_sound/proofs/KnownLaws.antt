-- What is known of types stays known while types are added.
use Rattle.std.proofs.Common.{◌≡◌, ℕ, ◌<◌, ◌≤◌, ◌↔◌, arith, Bool, true, false, List, [], ◌∷◌, ◌++◌, Option, Some, None, length, length-append, take, ap, sym, subst, ◌∙◌, inl, inr}
use Rattle.std.specs.List.{AllByRecursion}
use Rattle.std.specs.Option.{IfSome}
use Rattle.std.proofs.lemmas.List.{length_push, get_or_append_left, get_or_push}
use Rattle.std.proofs.lemmas.Bool.{cases_lt}
use Rattle.xd_doc.specs.Document.{empty}
use Rattle.xd_doc.proofs.Bools.{same_tests}
use Rattle.xd_syntax.specs.Tree.{Tree, Definitions}
use Rattle.xd_syntax.specs.Table.{Row, tree_at, KeepsRows}
use Rattle.xd_syntax.specs.Fits.{Fits, empty_by}
use Rattle.xd_syntax.specs.Program.{names_of}
use Rattle.xd_syntax.specs.RecursionFaults.{IsSound}
use Rattle.xd_syntax.specs.Kept.{ProgramTable, TypeDefStands, AddsTypes, program_tree}
use Rattle.xd_sound.specs.TypeNames.{meanings}
use Rattle.xd_sound.specs.Emptiness.{is_marked, name_marked, form_marked, IsRead, AreEmptyMarks, AreEmptySoFar}
use Rattle.xd_syntax.specs.Nodes.{form_at}
use Rattle.xd_sound.specs.Known.{AreKnownSoFar, IsSoundAndKnown}
use Rattle.xd_syntax.specs.declared.types.TypeDef.{TypeDef}
use Rattle.xd_sound.specs.declared.known.KnownTypes.{KnownTypes}
use Rattle.xd_syntax.proofs.Trees.{tree_kept}
use Rattle.xd_sound.proofs.EmptyLemmas.{bodies_below, decides, form_decided}

-- one more mark
pub so_far_more : (types : List Row) (ds : List TypeDef) (marks : List Bool) (b : Bool) → AreEmptySoFar types ds marks → length marks < length types → IsRead types (length marks) →
    b ≡ form_marked marks ds (form_at types (length marks)) → AreEmptySoFar types ds (marks ++ b ∷ [])
so_far_more types ds marks b m l r e =
    let n = length_push marks b in
    record {
      count = omega arith;
      bodies = bodies_more (length marks) (length (marks ++ b ∷ [])) (omega arith) ds m.bodies;
      exact = λ i h. elim (cases_lt i (length marks)) [
        | inl k ↦ subst (λ x. (x ≡ true) ↔ Fits (meanings types ds) (tree_at types i) empty) (sym (get_or_append_left marks (b ∷ []) false i k)) (m.exact i k)
        | inr k ↦
            let q : length marks ≡ i = omega arith in
            subst (λ x. (x ≡ true) ↔ Fits (meanings types ds) (tree_at types i) empty) (sym (get_or_push marks b false i q))
            (subst (λ j. (b ≡ true) ↔ Fits (meanings types ds) (tree_at types j) empty) q
            (subst (λ x. (x ≡ true) ↔ Fits (meanings types ds) (tree_at types (length marks)) empty) (sym e)
            (subst (λ T. (form_marked marks ds (form_at types (length marks)) ≡ true) ↔ Fits (meanings types ds) T empty) (sym r.tree)
            (form_decided types ds marks m (take (length marks) types) (length marks) (form_at types (length marks)) r.parts r.follows (omega arith)))))
      ];
    }
  where
    bodies_more : (a c : ℕ) → a ≤ c → (ds : List TypeDef) → AllByRecursion (λ (d : TypeDef). d.body.at < a) ds → AllByRecursion (λ (d : TypeDef). d.body.at < c) ds
    bodies_more a c h [] k = tt
    bodies_more a c h (d ∷ ds) k = let z = k.0 in (omega arith, bodies_more a c h ds k.1)

marks_so_far : (types : List Row) (ds : List TypeDef) (marks : List Bool) → AllByRecursion (TypeDefStands types) ds → AreEmptyMarks types ds marks → AreEmptySoFar types ds marks
marks_so_far types ds marks s m =
    let c = m.count in
    record { count = omega arith; bodies = bodies_below types (length marks) (omega arith) ds s; exact = λ i h. m.exact i (omega arith) }

marks_kept : (old new : List Row) (ds : List TypeDef) (marks : List Bool) → KeepsRows old new → meanings new ds ≡ meanings old ds → AreEmptySoFar old ds marks → AreEmptySoFar new ds marks
marks_kept old new ds marks k e m =
    let g = k.grown in
    let n = length-append old k.more in
    let z = ap length g in
    let c = m.count in
    record {
      count = omega arith;
      bodies = m.bodies;
      exact = λ i h.
          subst (λ (E : Definitions). (is_marked marks i ≡ true) ↔ Fits E (tree_at new i) empty) (sym e)
          (subst (λ T. (is_marked marks i ≡ true) ↔ Fits (meanings old ds) T empty) (sym (ap (λ rs. tree_at rs i) g ∙ tree_kept old k.more i (omega arith))) (m.exact i h));
    }

-- types are added
pub known_kept : (old new : ProgramTable) (k : KnownTypes) → AddsTypes old new → program_tree new ≡ program_tree old → AreKnownSoFar old.types old.type_defs k → AreKnownSoFar new.types new.type_defs k
known_kept old new k a e m =
    subst (λ ds. AreKnownSoFar new.types ds k) (sym a.type_defs)
    (record {
      numbered = m.numbered;
      marked = marks_kept old.types new.types old.type_defs k.empty_marks.items a.types (ap (meanings new.types) (sym a.type_defs) ∙ ap names_of e) m.marked;
    })

pub maybe_kept : (old new : ProgramTable) (k : Option KnownTypes) → AddsTypes old new → program_tree new ≡ program_tree old → IsSoundAndKnown old k → IsSoundAndKnown new k
maybe_kept old new k a e m = record { sound = subst IsSound (sym e) m.sound; known = go k m.known }
  where
    go : (k : Option KnownTypes) → IfSome k (AreKnownSoFar old.types old.type_defs) → IfSome k (AreKnownSoFar new.types new.type_defs)
    go None i = tt
    go (Some x) i = known_kept old new x a e i

-- marks and the test by marks say the same of nodes, and the test decides it of each type
pub marks_test : (types : List Row) (ds : List TypeDef) (marks : List Bool) → AllByRecursion (TypeDefStands types) ds → AreEmptyMarks types ds marks → (i : ℕ) → i < length types →
    is_marked marks i ≡ empty_by (name_marked marks ds) (tree_at types i)
marks_test types ds marks s m i l =
    let d = decides types ds marks (marks_so_far types ds marks s m) (tree_at types i) in
    let e = m.exact i l in
    same_tests (is_marked marks i) (empty_by (name_marked marks ds) (tree_at types i)) (λ h. d.1 (e.0 h)) (λ h. e.1 (d.0 h))

pub marks_decide : (types : List Row) (ds : List TypeDef) (marks : List Bool) → AllByRecursion (TypeDefStands types) ds → AreEmptyMarks types ds marks → (T : Tree) →
    (empty_by (name_marked marks ds) T ≡ true) ↔ Fits (meanings types ds) T empty
marks_decide types ds marks s m = decides types ds marks (marks_so_far types ds marks s m)
