use Rattle.std.proofs.Common.{◌≡◌, ℕ, ◌+◌, List, [], ◌∷◌, ◌++◌, Some, map, get_or, take, ap, sym, subst, ◌∙◌}
use Rattle.std.specs.List.{AllByRecursion, slice_get}
use Rattle.std.proofs.lemmas.List.{take_all, take_more}
use Rattle.xd_syntax.specs.Kept.{ProgramTable}
use Rattle.xd_syntax.specs.declared.exprs.Clause.{Clause}
use Rattle.xd_syntax.specs.declared.patterns.PatternId.{PatternId}
use Rattle.xd_meaning.specs.KeptFaults.{AllPaired}
use Rattle.xd_patterns.specs.CompiledProgram.{IsLinearPattern}
use Rattle.xd_patterns.proofs.Pairing.{paired_end}
use Rattle.xd_check_steps.proofs.Collecting.{map_got, map_push, patterns_linear}
use Rattle.xd_check_steps.proofs.clauses.own_patterns.Goals as goal

pub loop-number-preserved : goal.loop-number-preserved
loop-number-preserved c =
    let n : ℕ = c.loop-number.number in
    let cs : List Clause = c.args.clauses.now in
    let none : Clause = record { pattern = record { at = 0 }; body = record { at = 0 } } in
    let k : Clause = get_or cs n none in
    let more : take (n + 1) cs ≡ take n cs ++ k ∷ [] = take_more cs n none c.loop-number-test.true in
    let R : Clause → ℕ → Type 0 = λ (x : Clause) (i : ℕ). slice_get (map (λ (j : Clause). j.pattern) cs) i ≡ Some x.pattern in
    record {
      ids = c.in_ok-push.ensures.items ∙ ap (λ (is : List PatternId). is ++ k.pattern ∷ []) c.loop-number.invariant.ids ∙ sym (map_push (take n cs) k) ∙ ap (map (λ (j : Clause). j.pattern)) (sym more);
      numbers = subst (λ xs. AllPaired R xs c.push-in-loop-number.new.self.items) (sym more)
          (subst (AllPaired R (take n cs ++ k ∷ [])) (sym c.in_ok-push-2.ensures.items)
          (paired_end R (take n cs) c.loop-number.numbers.items k n c.loop-number.invariant.numbers (map_got cs n none c.loop-number-test.true)));
    }

pub alone-requires : goal.alone-requires
alone-requires c =
    let p : ProgramTable = c.args.sound.now in
    let ids : c.loop-number.ids.items ≡ map (λ (j : Clause). j.pattern) c.args.clauses.now = c.loop-number.invariant.ids ∙ ap (map (λ (j : Clause). j.pattern)) (take_all c.loop-number.number c.args.clauses.now c.loop-number-test.false) in
    record {
      serves = c.requires.serves;
      patterns = subst (AllByRecursion (IsLinearPattern p.patterns)) (sym ids) (patterns_linear p c.args.clauses.now c.requires.clauses);
    }

pub returns : goal.returns
returns c =
    let ids : c.loop-number.ids.items ≡ map (λ (j : Clause). j.pattern) c.args.clauses.now = c.loop-number.invariant.ids ∙ ap (map (λ (j : Clause). j.pattern)) (take_all c.loop-number.number c.args.clauses.now c.loop-number-test.false) in
    let made = c.in_ok-patterns.patterns in
    let same : map (λ (j : Clause). j.pattern) c.args.clauses.now ≡ made.ids.items = sym (ap (λ v. v.items) c.in_ok-patterns.ensures.ids ∙ ids) in
    λ a m. record {
      patterns = c.in_ok-patterns.ensures.patterns;
      points = λ b x. c.in_ok-patterns.ensures.serve b;
      numbers = subst (λ xs. AllPaired (λ (k : Clause) (n : ℕ). slice_get xs n ≡ Some k.pattern) c.args.clauses.now c.loop-number.numbers.items) same
          (subst (λ xs. AllPaired (λ (k : Clause) (n : ℕ). slice_get (map (λ (j : Clause). j.pattern) c.args.clauses.now) n ≡ Some k.pattern) xs c.loop-number.numbers.items) (take_all c.loop-number.number c.args.clauses.now c.loop-number-test.false) c.loop-number.invariant.numbers);
    }
