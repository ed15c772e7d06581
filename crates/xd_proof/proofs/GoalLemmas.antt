-- Goals of a proof, and what they are.
use Rattle.std.proofs.Common.{List, [], ◌∷◌, refl}
use Rattle.std.specs.List.{AllByRecursion, AllZip}
use Rattle.xd_syntax.specs.Tree.{Tree}
use Rattle.xd_syntax.specs.Table.{Row}
use Rattle.xd_syntax.specs.SoundTables.{IsTypeAt}
use Rattle.xd_syntax.specs.Types.{BelongsTo, tree}
use Rattle.xd_syntax.specs.declared.types.TypeId.{TypeId}
use Rattle.xd_meaning.specs.Violation.{Lined}
use Rattle.xd_rules.specs.Rules.{Case}
use Rattle.xd_proof.specs.Cases.{IsCase, IsTree}
use Rattle.xd_proof.specs.declared.cases.ReadCase.{ReadCase}
use Rattle.xd_proof.specs.Goals.{AreGoalsAt, GoalBelongs, GoalsBelong, IsLinedAt}
use Rattle.xd_proof.specs.Kept.{AreTrees}
use Rattle.xd_proof.specs.declared.proof.ProofGoal.{ProofGoal}

-- ---- goals whose types are there and whose cases are trees are some goals

cases_are : (made : List ReadCase) → AllByRecursion IsTree made → (cs : List Case) × AllZip IsCase made cs
cases_are [] h = ([], tt)
cases_are (m ∷ ms) h =
    let t = h.0 in
    let more = cases_are ms h.1 in
    (record { head = m.head; atom = m.atom; choice = t.0 } ∷ more.0, (record { head = refl; atom = refl; steps = t.1 }, more.1))

types_are : (types : List Row) (ids : List TypeId) → AllByRecursion (BelongsTo types) ids → (Ts : List Tree) × AllZip (λ id T. IsTypeAt types T id) ids Ts
types_are types [] h = ([], tt)
types_are types (id ∷ ids) h = let more = types_are types ids h.1 in (tree types id ∷ more.0, (record { belongs = h.0; same = refl }, more.1))

goal_is : (types : List Row) (m : ProofGoal) → GoalBelongs types m → AreTrees m → (l : Lined) × IsLinedAt types m l
goal_is types m b t =
    let rights = types_are types m.rights.items b.rights in
    let cases = cases_are m.cases.items t in (
      record { line = m.line; goal = record { left = tree types m.left; rights = rights.0; empty_right = m.empty_right; cases = cases.0 } },
      record { line = refl; goal = record { left = record { belongs = b.left; same = refl }; rights = rights.1; empty_right = refl; cases = cases.1 } },
    )

pub goals_are : (types : List Row) (made : List ProofGoal) → GoalsBelong types made → AllByRecursion AreTrees made → (ls : List Lined) × AreGoalsAt types made ls
goals_are types [] b t = ([], tt)
goals_are types (m ∷ ms) b t =
    let one = goal_is types m b.0 t.0 in
    let more = goals_are types ms b.1 t.1 in (one.0 ∷ more.0, (one.1, more.1))

-- ---- and the other way round

types_belong : (types : List Row) (ids : List TypeId) (Ts : List Tree) → AllZip (λ id T. IsTypeAt types T id) ids Ts → AllByRecursion (BelongsTo types) ids
types_belong types [] Ts z = tt
types_belong types (id ∷ ids) [] z = absurd z
types_belong types (id ∷ ids) (T ∷ Ts) z = ((z.0).belongs, types_belong types ids Ts z.1)

pub goals_belong : (types : List Row) (made : List ProofGoal) (ls : List Lined) → AreGoalsAt types made ls → GoalsBelong types made
goals_belong types [] ls z = tt
goals_belong types (m ∷ ms) [] z = absurd z
goals_belong types (m ∷ ms) (l ∷ ls) z =
    (record { left = ((z.0).goal).left.belongs; rights = types_belong types m.rights.items (l.goal).rights ((z.0).goal).rights }, goals_belong types ms ls z.1)

pub cases_have_trees : (made : List ReadCase) (cs : List Case) → AllZip IsCase made cs → AllByRecursion IsTree made
cases_have_trees [] cs z = tt
cases_have_trees (m ∷ ms) [] z = absurd z
cases_have_trees (m ∷ ms) (c ∷ cs) z = ((c.choice, (z.0).steps), cases_have_trees ms cs z.1)

pub goals_have_trees : (types : List Row) (made : List ProofGoal) (ls : List Lined) → AreGoalsAt types made ls → AllByRecursion AreTrees made
goals_have_trees types [] ls z = tt
goals_have_trees types (m ∷ ms) [] z = absurd z
goals_have_trees types (m ∷ ms) (l ∷ ls) z = (cases_have_trees m.cases.items (l.goal).cases ((z.0).goal).cases, goals_have_trees types ms ls z.1)
