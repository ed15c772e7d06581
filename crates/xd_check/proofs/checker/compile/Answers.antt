use Rattle.std.proofs.Common.{◌≡◌, ap, sym, subst, ◌∙◌}
use Rattle.std.specs.List.{AllByRecursion}
use Rattle.xd_auto.specs.declared.auto.State.{State}
use Rattle.xd_syntax.specs.Kept.{ProgramStands, ProgramTable, program_tree}
use Rattle.xd_syntax.specs.Program.{names_of}
use Rattle.xd_syntax.specs.Types.{BelongsTo}
use Rattle.xd_syntax.specs.declared.types.TypeId.{TypeId}
use Rattle.xd_meaning.specs.KeptFaults.{AllPaired}
use Rattle.xd_patterns.specs.CompiledProgram.{AcceptsType, type_states}
use Rattle.xd_clauses.proofs.NumberedLemmas.{paired_length}
use Rattle.xd_check_steps.specs.Signed.{types_declared}
use Rattle.xd_check_steps.proofs.AreTypeStatesLemmas.{all_declared_there}
use Rattle.xd_check.proofs.checker.compile.Goals as goal

pub with_types-requires : goal.with_types-requires
with_types-requires c =
    let p : ProgramTable = c.args.sound.now in
    let same : c.functions.result.now ≡ p.functions = c.functions.ensures.functions ∙ ap (λ (q : ProgramTable). q.functions) c.program.ensures.program in
    let stands : ProgramStands p = subst ProgramStands c.program.ensures.program c.functions.ensures.stands in
    let is : c.deref.result.now ≡ types_declared p.functions = c.deref.ensures.value ∙ c.in_ok-types.ensures ∙ ap types_declared same in
    record {
      serves = c.requires;
      types = subst (AllByRecursion (BelongsTo p.types)) (sym is) (all_declared_there p stands.functions);
      patterns = c.in_ok-ids.ensures;
    }

pub new-requires : goal.new-requires
new-requires c =
    let p : ProgramTable = c.args.sound.now in
    let same : c.functions.result.now ≡ p.functions = c.functions.ensures.functions ∙ ap (λ (q : ProgramTable). q.functions) c.program.ensures.program in
    let is : c.deref.result.now ≡ types_declared p.functions = c.deref.ensures.value ∙ c.in_ok-types.ensures ∙ ap types_declared same in
    let R : TypeId → State → Type 0 = λ id s. AcceptsType (names_of (program_tree p)) p.types c.with_types.new.auto id s in
    let states = subst (AllPaired R (types_declared p.functions)) (sym c.types.ensures) (subst (λ ids. AllPaired R ids (type_states (c.in_ok-patterns.patterns).compiled)) is c.in_ok-patterns.ensures.types) in
    sym (paired_length R (types_declared p.functions) c.types.result.now states)

pub returns : goal.returns
returns c =
    let p : ProgramTable = c.args.sound.now in
    let same : c.functions.result.now ≡ p.functions = c.functions.ensures.functions ∙ ap (λ (q : ProgramTable). q.functions) c.program.ensures.program in
    let is : c.deref.result.now ≡ types_declared p.functions = c.deref.ensures.value ∙ c.in_ok-types.ensures ∙ ap types_declared same in
    let a = c.with_types.new.auto in
    let R : TypeId → State → Type 0 = λ id s. AcceptsType (names_of (program_tree p)) p.types a id s in
    record {
      patterns = c.in_ok-patterns.ensures.patterns;
      points = λ b x. c.serving_stays.ensures a b (c.in_ok-patterns.patterns).states c.len-states.ensures.closed x c.in_ok-patterns.ensures.serve;
      signatures = c.in_ok-signatures.ensures a (subst (AllPaired R (types_declared p.functions)) (sym c.types.ensures) (subst (λ ids. AllPaired R ids (type_states (c.in_ok-patterns.patterns).compiled)) is c.in_ok-patterns.ensures.types));
    }
