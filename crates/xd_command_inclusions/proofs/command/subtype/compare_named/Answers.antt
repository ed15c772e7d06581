use Rattle.std.proofs.Common.{◌≡◌, Bool, true, false, cond, ◌||◌, List, [], ◌∷◌, inr, refl, sym, subst}
use Rattle.std.specs.Prelude.{ℕ, None}
use Rattle.std.specs.Str.{bytes_eq}
use Rattle.xd_doc.proofs.Lists.{append_none_parts}
use Rattle.xd_proof_make.specs.Made.{UsesDefined}
use Rattle.xd_syntax.specs.Tree.{uses_only, Text, Name}
use Rattle.xd_syntax.specs.Kept.{program_tree}
use Rattle.xd_syntax.specs.NameFaults.{known_types}
use Rattle.xd_syntax.specs.Program.{ProgramTree}
use Rattle.xd_syntax.specs.Sound.{is_defined, type_named}
use Rattle.xd_syntax.specs.SoundTables.{IsTypeAt}
use Rattle.xd_syntax.specs.Table.{Row}
use Rattle.xd_syntax.specs.Types.{tree}
use Rattle.xd_syntax.specs.Words.{has_word, string_word}
use Rattle.xd_syntax.specs.declared.fault.Fault.{Fault}
use Rattle.xd_syntax.specs.declared.fault.FaultKind.TheVariants.{NoSuchName}
use Rattle.xd_syntax.specs.declared.types.TypeId.{TypeId}
use Rattle.xd_command_inclusions.specs.Subtype.{undefined, AnswersInclusion}
use Rattle.xd_command_inclusions.proofs.command.subtype.compare_named.Goals as goal

defined : (P : ProgramTree) (w : List ℕ) → undefined P w ≡ [] → is_defined P w ≡ true
defined P w e = go (is_defined P w) e
  where
    go : (b : Bool) → cond {A = List Fault} b [] (record { place = None; kind = NoSuchName w } ∷ []) ≡ [] → b ≡ true
    go true e = refl
    go false e = absurd (cc)

-- a type that is defined uses no other name
uses_itself : (P : ProgramTree) (w : List ℕ) → is_defined P w ≡ true → UsesDefined P (type_named w)
uses_itself P w e = go (bytes_eq string_word w) e
  where
    go : (b : Bool) → (b || has_word (known_types P) w) ≡ true → uses_only (known_types P) (cond b Text (Name w)) ≡ true
    go true e = refl
    go false e = e

used : (P : ProgramTree) (types : List Row) (w : List ℕ) (id : TypeId) → undefined P w ≡ [] → IsTypeAt types (type_named w) id → UsesDefined P (tree types id)
used P types w id none is = subst (UsesDefined P) (sym is.same) (uses_itself P w (defined P w none))

pub compare-requires-clause-left_names : goal.compare-requires-clause-left_names
compare-requires-clause-left_names c =
    let P = program_tree c.args.sound.now in
    let named = c.in_ok-one.ensures.step in
    let none = append_none_parts (undefined P c.args.left.now) (undefined P c.args.right.now) named.defined in
    subst (λ Q. UsesDefined Q (tree c.named_types.new.sound.types c.in_ok-one.one)) (sym c.named_types.ensures.same)
    (used P c.named_types.new.sound.types c.args.left.now c.in_ok-one.one none.0 named.one)

pub compare-requires-clause-right_names : goal.compare-requires-clause-right_names
compare-requires-clause-right_names c =
    let P = program_tree c.args.sound.now in
    let named = c.in_ok-one.ensures.step in
    let none = append_none_parts (undefined P c.args.left.now) (undefined P c.args.right.now) named.defined in
    subst (λ Q. UsesDefined Q (tree c.named_types.new.sound.types c.in_ok-one.other)) (sym c.named_types.ensures.same)
    (used P c.named_types.new.sound.types c.args.right.now c.in_ok-one.other none.1 named.other)

pub returns : goal.returns
returns c =
    let types = c.named_types.new.sound.types in
    let w = type_named c.args.left.now in
    let v = type_named c.args.right.now in
    let o = c.in_ok-compare.field-0 in
    let named = c.in_ok-one.ensures.step in
    let Q = program_tree c.named_types.new.sound in
    inr (
      named.defined,
      subst (λ P. AnswersInclusion P w v o) c.named_types.ensures.same
          (subst (λ R. AnswersInclusion Q w R o) named.other.same
          (subst (λ L. AnswersInclusion Q L (tree types c.in_ok-one.other) o) named.one.same c.in_ok-compare.ensures)),
    )
