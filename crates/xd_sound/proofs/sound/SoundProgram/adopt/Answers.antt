use Rattle.std.proofs.Common.{◌<◌, ℕ, Bool, List, length, ◌∙◌, ap, sym, subst, arith}
use Rattle.std.specs.List.{list_all}
use Rattle.xd_syntax.specs.NameFaults.{known_types}
use Rattle.xd_syntax.specs.Kept.{ProgramTable, program_tree}
use Rattle.xd_syntax.specs.ShallowTables.{IsShallow}
use Rattle.xd_syntax.specs.Shallow.{nesting_limit}
use Rattle.xd_sound.specs.Adopt.{form_known}
use Rattle.xd_syntax.specs.Nodes.{form_at}
use Rattle.xd_syntax.proofs.ShallowTables.{shallow_grown, weaker_within}
use Rattle.xd_sound.proofs.Reached.{each_contained, reached_older, all_known}
use Rattle.xd_sound.proofs.sound.SoundProgram.adopt.Goals as goal

pub knows_all-requires : goal.knows_all-requires
knows_all-requires c =
    rw c.deref.ensures.value
    (each_contained (λ i. i < length c.args.types.now) c.in_ok-reached.reached.items
    (λ i h. omega (arith, c.requires, reached_older _ _ _ c.see_table.ensures.built c.requires i ((c.in_ok-reached.ensures.exact i).0 h))))

pub returns-then-not-branch-clause-defined : goal.returns-then-not-branch-clause-defined
returns-then-not-branch-clause-defined c =
    let known : List (List ℕ) = known_types (program_tree c.args.self.now) in
    let p : ℕ → Bool = λ i. form_known known (form_at c.args.types.now i) in
    sym c.if-not-branch.true ∙ c.in_ok-knows_all.ensures.all ∙ ap (list_all p) c.deref.ensures.value
    ∙ all_known _ c.args.types.now c.args.id.at _ c.see_table.ensures.built c.requires c.in_ok-reached.ensures known

pub returns-clause-defined : goal.returns-clause-defined
returns-clause-defined c =
    let known : List (List ℕ) = known_types (program_tree c.args.self.now) in
    let p : ℕ → Bool = λ i. form_known known (form_at c.args.types.now i) in
    sym c.if-not-branch.false ∙ c.in_ok-knows_all.ensures.all ∙ ap (list_all p) c.deref.ensures.value
    ∙ all_known _ c.args.types.now c.args.id.at _ c.see_table.ensures.built c.requires c.in_ok-reached.ensures known

pub returns-in_err-copy_in-clause-shallow : goal.returns-in_err-copy_in-clause-shallow
returns-in_err-copy_in-clause-shallow c = λ d s.
    shallow_grown _ _ c.copy_in.ensures.adds.types (weaker_within _ nesting_limit _ _ d c.copy_in.ensures.within)
    (subst (λ (p : ProgramTable). IsShallow p.types) (sym c.in_ok-knows_all.ensures.same) s)

pub returns-clause-shallow : goal.returns-clause-shallow
returns-clause-shallow c = λ d s.
    shallow_grown _ _ c.copy_in.ensures.adds.types (weaker_within _ nesting_limit _ _ d c.copy_in.ensures.within)
    (subst (λ (p : ProgramTable). IsShallow p.types) (sym c.in_ok-knows_all.ensures.same) s)
