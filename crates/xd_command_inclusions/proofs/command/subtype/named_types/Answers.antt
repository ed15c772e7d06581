use Rattle.std.proofs.Common.{◌≡◌, ◌≢◌, Bool, true, false, cond, List, [], ◌∷◌, ◌++◌, Option, ap, sym, subst, ◌∙◌}
use Rattle.std.specs.Prelude.{is_some, ℕ, None}
use Rattle.std.specs.Option.{IfSome}
use Rattle.xd_syntax.specs.Kept.{program_tree}
use Rattle.xd_syntax.specs.Program.{ProgramTree}
use Rattle.xd_syntax.specs.Sound.{is_defined, type_named}
use Rattle.xd_syntax.specs.SoundTables.{IsTypeAt}
use Rattle.xd_syntax.specs.declared.fault.Fault.{Fault}
use Rattle.xd_syntax.specs.declared.types.TypeId.{TypeId}
use Rattle.xd_syntax.specs.declared.fault.FaultKind.TheVariants.{NoSuchName}
use Rattle.xd_sound.proofs.AdoptLaws.{type_kept}
use Rattle.xd_command_steps.specs.Output.{Output, fault_lines}
use Rattle.xd_command_inclusions.specs.Subtype.{undefined, EndsAtNames}
use Rattle.xd_command_inclusions.specs.Named.{AreNamed}
use Rattle.xd_command_documents.proofs.Steps.{no-memory}
use Rattle.xd_command_inclusions.proofs.command.subtype.named_types.Goals as goal

known : (P : ProgramTree) (w : List ℕ) → is_defined P w ≡ true → undefined P w ≡ []
known P w e = ap (λ b. cond b [] (record { place = None; kind = NoSuchName w } ∷ [])) e

abbrev Ends : (w v : List ℕ) (a b : Bool) → Output → Type 0
Ends w v a b o = let fs = cond {A = List Fault} a [] (record { place = None; kind = NoSuchName w } ∷ []) ++ cond b [] (record { place = None; kind = NoSuchName v } ∷ []) in (fs ≢ []) × (o ≡ fault_lines fs)

left_ends : (w v : List ℕ) (a b : Bool) (o : Output) → a ≡ false → b ≡ true → o ≡ fault_lines (record { place = None; kind = NoSuchName w } ∷ []) → Ends w v a b o
left_ends w v false true o e f h = (λ n. absurd (cc), h)
left_ends w v true b o e f h = absurd (cc)
left_ends w v false false o e f h = absurd (cc)

right_ends : (w v : List ℕ) (a b : Bool) (o : Output) → a ≡ true → b ≡ false → o ≡ fault_lines (record { place = None; kind = NoSuchName v } ∷ []) → Ends w v a b o
right_ends w v true false o e f h = (λ n. absurd (cc), h)
right_ends w v false b o e f h = absurd (cc)
right_ends w v true true o e f h = absurd (cc)

both_end : (w v : List ℕ) (a b : Bool) (o : Output) → a ≡ false → b ≡ false → o ≡ fault_lines (record { place = None; kind = NoSuchName w } ∷ (record { place = None; kind = NoSuchName v } ∷ [])) → Ends w v a b o
both_end w v false false o e f h = (λ n. absurd (cc), h)
both_end w v true b o e f h = absurd (cc)
both_end w v false true o e f h = absurd (cc)

pub returns-in-Some-Some : goal.returns-in-Some-Some
returns-in-Some-Some c =
    let P = program_tree c.args.sound.now in
    let one : is_defined P c.args.left.now ≡ true = sym c.in_ok-one.ensures.defined ∙ ap is_some c.in-Some-Some.is-0 in
    let other : is_defined P c.args.right.now ≡ true =
    ap (λ Q. is_defined Q c.args.right.now) (sym c.find_type.ensures.same) ∙ sym c.in_ok-other.ensures.defined ∙ ap is_some c.in-Some-Some.is-1 in
    record {
      step = record {
        defined = ap (λ fs. fs ++ undefined P c.args.right.now) (known P c.args.left.now one) ∙ known P c.args.right.now other;
        one = type_kept c.find_type.new.self.types c.find_type-2.new.self.types (type_named c.args.left.now) c.in-Some-Some.one c.find_type-2.ensures.adds.types
            (subst (λ (o : Option TypeId). IfSome o (IsTypeAt c.find_type.new.self.types (type_named c.args.left.now))) c.in-Some-Some.is-0 c.in_ok-one.ensures.found);
        other = subst (λ (o : Option TypeId). IfSome o (IsTypeAt c.find_type-2.new.self.types (type_named c.args.right.now))) c.in-Some-Some.is-1 c.in_ok-other.ensures.found;
      };
      same = c.find_type-2.ensures.same ∙ c.find_type.ensures.same;
      shallow = λ h. c.find_type-2.ensures.shallow (c.find_type.ensures.shallow h);
    }

pub returns-in_ok-undefined_type-in-None-Some : goal.returns-in_ok-undefined_type-in-None-Some
returns-in_ok-undefined_type-in-None-Some c =
    let P = program_tree c.args.sound.now in
    let one : is_defined P c.args.left.now ≡ false = sym c.in_ok-one.ensures.defined ∙ ap is_some c.in-None-Some.is-0 in
    let other : is_defined P c.args.right.now ≡ true =
    ap (λ Q. is_defined Q c.args.right.now) (sym c.find_type.ensures.same) ∙ sym c.in_ok-other.ensures.defined ∙ ap is_some c.in-None-Some.is-1 in
    record {
      step = left_ends c.args.left.now c.args.right.now (is_defined P c.args.left.now) (is_defined P c.args.right.now) c.in_ok-undefined_type-in-None-Some.field-0 one other c.in_ok-undefined_type-in-None-Some.ensures;
      same = c.find_type-2.ensures.same ∙ c.find_type.ensures.same;
      shallow = λ h. c.find_type-2.ensures.shallow (c.find_type.ensures.shallow h);
    }

pub returns-in_ok-undefined_type-in-Some-None : goal.returns-in_ok-undefined_type-in-Some-None
returns-in_ok-undefined_type-in-Some-None c =
    let P = program_tree c.args.sound.now in
    let one : is_defined P c.args.left.now ≡ true = sym c.in_ok-one.ensures.defined ∙ ap is_some c.in-Some-None.is-0 in
    let other : is_defined P c.args.right.now ≡ false =
    ap (λ Q. is_defined Q c.args.right.now) (sym c.find_type.ensures.same) ∙ sym c.in_ok-other.ensures.defined ∙ ap is_some c.in-Some-None.is-1 in
    record {
      step = right_ends c.args.left.now c.args.right.now (is_defined P c.args.left.now) (is_defined P c.args.right.now) c.in_ok-undefined_type-in-Some-None.field-0 one other c.in_ok-undefined_type-in-Some-None.ensures;
      same = c.find_type-2.ensures.same ∙ c.find_type.ensures.same;
      shallow = λ h. c.find_type-2.ensures.shallow (c.find_type.ensures.shallow h);
    }

pub returns-in_ok-undefined_types-in-None-None : goal.returns-in_ok-undefined_types-in-None-None
returns-in_ok-undefined_types-in-None-None c =
    let P = program_tree c.args.sound.now in
    let one : is_defined P c.args.left.now ≡ false = sym c.in_ok-one.ensures.defined ∙ ap is_some c.in-None-None.is-0 in
    let other : is_defined P c.args.right.now ≡ false =
    ap (λ Q. is_defined Q c.args.right.now) (sym c.find_type.ensures.same) ∙ sym c.in_ok-other.ensures.defined ∙ ap is_some c.in-None-None.is-1 in
    record {
      step = both_end c.args.left.now c.args.right.now (is_defined P c.args.left.now) (is_defined P c.args.right.now) c.in_ok-undefined_types-in-None-None.field-0 one other c.in_ok-undefined_types-in-None-None.ensures;
      same = c.find_type-2.ensures.same ∙ c.find_type.ensures.same;
      shallow = λ h. c.find_type-2.ensures.shallow (c.find_type.ensures.shallow h);
    }

pub returns-in_err-undefined_type-in-None-Some : goal.returns-in_err-undefined_type-in-None-Some
returns-in_err-undefined_type-in-None-Some c =
    let P = program_tree c.args.sound.now in
    record {
      step = no-memory (EndsAtNames P c.args.left.now c.args.right.now) (AreNamed P c.find_type-2.new.self.types c.args.left.now c.args.right.now) c.from_residual-in_err-undefined_type-in-None-Some.result c.from_residual-in_err-undefined_type-in-None-Some.ensures.1;
      same = c.find_type-2.ensures.same ∙ c.find_type.ensures.same;
      shallow = λ h. c.find_type-2.ensures.shallow (c.find_type.ensures.shallow h);
    }

pub returns-in_err-undefined_type-in-Some-None : goal.returns-in_err-undefined_type-in-Some-None
returns-in_err-undefined_type-in-Some-None c =
    let P = program_tree c.args.sound.now in
    record {
      step = no-memory (EndsAtNames P c.args.left.now c.args.right.now) (AreNamed P c.find_type-2.new.self.types c.args.left.now c.args.right.now) c.from_residual-in_err-undefined_type-in-Some-None.result c.from_residual-in_err-undefined_type-in-Some-None.ensures.1;
      same = c.find_type-2.ensures.same ∙ c.find_type.ensures.same;
      shallow = λ h. c.find_type-2.ensures.shallow (c.find_type.ensures.shallow h);
    }

pub returns-in_err-undefined_types-in-None-None : goal.returns-in_err-undefined_types-in-None-None
returns-in_err-undefined_types-in-None-None c =
    let P = program_tree c.args.sound.now in
    record {
      step = no-memory (EndsAtNames P c.args.left.now c.args.right.now) (AreNamed P c.find_type-2.new.self.types c.args.left.now c.args.right.now) c.from_residual-in_err-undefined_types-in-None-None.result c.from_residual-in_err-undefined_types-in-None-None.ensures.1;
      same = c.find_type-2.ensures.same ∙ c.find_type.ensures.same;
      shallow = λ h. c.find_type-2.ensures.shallow (c.find_type.ensures.shallow h);
    }

pub returns-in_err-other : goal.returns-in_err-other
returns-in_err-other c =
    let P = program_tree c.args.sound.now in
    record {
      step = no-memory (EndsAtNames P c.args.left.now c.args.right.now) (AreNamed P c.find_type-2.new.self.types c.args.left.now c.args.right.now) c.from_residual-in_err-other.result c.from_residual-in_err-other.ensures.1;
      same = c.find_type-2.ensures.same ∙ c.find_type.ensures.same;
      shallow = λ h. c.find_type-2.ensures.shallow (c.find_type.ensures.shallow h);
    }
