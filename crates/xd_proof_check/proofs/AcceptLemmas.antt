-- A proof, checked.
use Rattle.std.proofs.Common.{◌≡◌, ◌<◌, ◌↔◌, arith, Bool, List, [], ◌∷◌, length, refl, ap, sym, ◌∙◌}
use Rattle.std.specs.List.{AllByRecursion, AllZip}
use Rattle.xd_doc.proofs.Bools.{same_tests}
use Rattle.xd_syntax.specs.Tree.{Tree, Definitions}
use Rattle.xd_syntax.specs.Table.{Row, KeepsRows, tree_at}
use Rattle.xd_syntax.specs.SoundTables.{IsTypeAt}
use Rattle.xd_meaning.specs.CanBeEmpty.{can_be_empty}
use Rattle.xd_sound.specs.Emptiness.{AreEmptyMarks, is_marked}
use Rattle.xd_syntax.specs.Kept.{ProgramTable, program_tree}
use Rattle.xd_syntax.specs.Program.{ProgramTree, names_of}
use Rattle.xd_syntax.specs.RecursionFaults.{IsSound}
use Rattle.xd_syntax.specs.declared.types.TypeId.{TypeId}
use Rattle.xd_meaning.specs.Violation.{Lined, goals_of}
use Rattle.xd_meaning.specs.Consistent.{ClaimHolds, Goal, IsConsistent}
use Rattle.xd_laws.proofs.FirstWrong.{first_wrong}
use Rattle.xd_laws.proofs.ViolationLaw.{first_is, none_is, rules_are_tested}
use Rattle.xd_laws.proofs.TheLaws.{consistent_proofs_hold_in, empty_decides}
use Rattle.xd_heads.specs.Numbered.{Serves}
use Rattle.xd_heads.specs.declared.lister.HeadLister.{HeadLister}
use Rattle.xd_proof.specs.Goals.{AreGoalsAt}
use Rattle.xd_proof.specs.declared.proof.ProofGoal.{ProofGoal}
use Rattle.xd_proof_check.specs.Corresponds.{IsClaimAt}
use Rattle.xd_proof_check.specs.GoalWalk.{MarksDecide, Stands, verdict_of}
use Rattle.xd_proof_check.specs.Leaves.{GoalsBelong}
use Rattle.xd_proof_check.specs.Reasons.{IsVerdict, reason_of}
use Rattle.xd_proof_check.specs.declared.verdict.ProofVerdict.{ProofVerdict}
use Rattle.xd_proof_check.specs.declared.verdict.ProofVerdict.TheVariants.{Accepted, Refused}
use Rattle.xd_proof_check.proofs.HeadLemmas.{knows}
use Rattle.xd_continuations.proofs.GrownTables.{tree_stays, more_rows}

-- ---- what goals of a proof are

ids_of : (types : List Row) (ids : List TypeId) (Ts : List Tree) → AllZip (λ id T. IsTypeAt types T id) ids Ts → AllByRecursion (λ (id : TypeId). id.at < length types) ids
ids_of types [] Ts z = tt
ids_of types (id ∷ ids) [] z = absurd z
ids_of types (id ∷ ids) (T ∷ Ts) z = (let i = z.0 in i.belongs, ids_of types ids Ts z.1)

pub belong_of : (types : List Row) (made : List ProofGoal) (ls : List Lined) → AreGoalsAt types made ls → GoalsBelong (length types) made
belong_of types [] ls z = tt
belong_of types (m ∷ ms) [] z = absurd z
belong_of types (m ∷ ms) (l ∷ ls) z =
    let k = z.0 in
    let g = k.goal in
    let i = g.left in
    (record { left = i.belongs; rights = ids_of types m.rights.items (l.goal).rights g.rights }, belong_of types ms ls z.1)

pub claims_of : (types : List Row) (made : List ProofGoal) (ls : List Lined) → AreGoalsAt types made ls → AllZip (IsClaimAt types) made (goals_of ls)
claims_of types [] [] z = tt
claims_of types [] (l ∷ ls) z = absurd z
claims_of types (m ∷ ms) [] z = absurd z
claims_of types (m ∷ ms) (l ∷ ls) z = (let k = z.0 in let g = k.goal in record { left = g.left; rights = g.rights }, claims_of types ms ls z.1)

type_stays : (old new : List Row) → KeepsRows old new → (id : TypeId) (T : Tree) → IsTypeAt old T id → IsTypeAt new T id
type_stays old new k id T i = record {
  belongs = (let g = more_rows old new k in let b = i.belongs in omega arith);
  same = tree_stays old new k id.at i.belongs ∙ i.same;
}

types_stay : (old new : List Row) → KeepsRows old new → (ids : List TypeId) (Ts : List Tree) → AllZip (λ id T. IsTypeAt old T id) ids Ts → AllZip (λ id T. IsTypeAt new T id) ids Ts
types_stay old new k [] [] z = tt
types_stay old new k [] (T ∷ Ts) z = absurd z
types_stay old new k (id ∷ ids) [] z = absurd z
types_stay old new k (id ∷ ids) (T ∷ Ts) z = (type_stays old new k id T z.0, types_stay old new k ids Ts z.1)

pub goals_stay : (old new : List Row) → KeepsRows old new → (made : List ProofGoal) (ls : List Lined) → AreGoalsAt old made ls → AreGoalsAt new made ls
goals_stay old new k [] [] z = tt
goals_stay old new k [] (l ∷ ls) z = absurd z
goals_stay old new k (m ∷ ms) [] z = absurd z
goals_stay old new k (m ∷ ms) (l ∷ ls) z =
    let i = z.0 in
    let g = i.goal in (
      record {
        line = i.line;
        goal = record { left = type_stays old new k m.left (l.goal).left g.left; rights = types_stay old new k m.rights.items (l.goal).rights g.rights; empty_right = g.empty_right; cases = g.cases };
      },
      goals_stay old new k ms ls z.1,
    )

-- ---- what is known

known_of : (p : ProgramTable) → IsSound (program_tree p) → (marks : List Bool) → AreEmptyMarks p.types p.type_defs marks → MarksDecide p.types (names_of (program_tree p)) marks
known_of p s marks m i h =
    let d = empty_decides (program_tree p) s (tree_at p.types i) in
    let x = m.exact i h in same_tests (is_marked marks i) (can_be_empty (names_of (program_tree p)) (tree_at p.types i)) (λ e. d.1 (x.0 e)) (λ e. x.1 (d.0 e))

pub stands : (p : ProgramTable) (l : HeadLister) → Serves p l → (goals : List ProofGoal) (gs : List Goal) → AllZip (IsClaimAt p.types) goals gs →
    Stands p.types l.cells gs (record { goals = goals; numbers = l.numbers.items })
stands p l s goals gs z = record { numbers = knows p l s; goals = z }

pub marks_decide : (p : ProgramTable) (l : HeadLister) → Serves p l → MarksDecide p.types (names_of (program_tree p)) l.empty_marks.items
marks_decide p l s = known_of p s.sound l.empty_marks.items (let k = s.known in k.marked)

-- ---- verdicts

pub verdict_is : (E : Definitions) (ls : List Lined) (v : ProofVerdict) → verdict_of v ≡ first_wrong E ls → IsVerdict E ls v
verdict_is E ls Accepted e = none_is E ls (sym e)
verdict_is E ls (Refused n r) e = first_is E ls n (reason_of r) (sym e)

pub accepted_is : (E : Definitions) (ls : List Lined) (v : ProofVerdict) → IsVerdict E ls v → (v ≡ Accepted) ↔ IsConsistent E (goals_of ls)
accepted_is E ls Accepted i = (λ e. i, λ c. refl)
accepted_is E ls (Refused n r) i = (λ e. absurd (cc), λ c. absurd ((rules_are_tested E ls).1 c n (reason_of r) i))

pub claims_hold : (P : ProgramTree) → IsSound P → (ls : List Lined) (v : ProofVerdict) → IsVerdict (names_of P) ls v → v ≡ Accepted → AllByRecursion (ClaimHolds (names_of P)) (goals_of ls)
claims_hold P s ls v i e = consistent_proofs_hold_in P s (goals_of ls) ((accepted_is (names_of P) ls v i).0 e)

pub says_verdict : (p q : ProgramTable) (E : Definitions) (F : List ProofGoal) (v : ProofVerdict) → KeepsRows p.types q.types → names_of (program_tree q) ≡ E →
    ((ls : List Lined) → AreGoalsAt q.types F ls → verdict_of v ≡ first_wrong (names_of (program_tree q)) ls) → (ls : List Lined) → AreGoalsAt p.types F ls → IsVerdict E ls v
says_verdict p q E F v k e says ls z = verdict_is E ls v (says ls (goals_stay p.types q.types k F ls z) ∙ ap (λ D. first_wrong D ls) e)
