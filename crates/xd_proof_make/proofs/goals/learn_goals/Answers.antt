use Rattle.std.proofs.Common.{ℕ, ◌<◌, get_or, length, ap, sym, subst, ◌∙◌}
use Rattle.std.specs.List.{AllByRecursion}
use Rattle.xd_auto.specs.declared.auto.State.{State}
use Rattle.xd_goals.specs.Rows.{row_at}
use Rattle.xd_heads.specs.Mirrors.{IsTypeState}
use Rattle.xd_heads.proofs.GrowsTypesLemmas.{grows_then}
use Rattle.xd_proof_make.specs.Known.{HasKnown}
use Rattle.xd_proof_make.specs.Made.{HasTypes, IsTypedRow}
use Rattle.xd_proof_make.proofs.IsMetLemmas.{all_get_by, all_more_by}
use Rattle.xd_proof_make.proofs.KeepsKnownLemmas.{mirrors_grow, keeps-then, has_kept, types_kept, below_kept}
use Rattle.xd_proof_make.proofs.goals.learn_goals.Goals as goal

pub learn-requires-clause-mirrors : goal.learn-requires-clause-mirrors
learn-requires-clause-mirrors c = mirrors_grow c.args.sound.now c.loop-number.sound c.args.cells.now c.requires.mirrors c.loop-number.invariant.grows

pub returns-in_err-learn-clause-known : goal.returns-in_err-learn-clause-known
returns-in_err-learn-clause-known c = λ k. c.learn.ensures.known (c.loop-number.invariant.known k)

pub returns-in_err-learn-clause-grows : goal.returns-in_err-learn-clause-grows
returns-in_err-learn-clause-grows c = grows_then c.args.sound.now c.loop-number.sound c.learn.new.sound c.loop-number.invariant.grows c.learn.ensures.grows

pub learn_all-requires-clause-mirrors : goal.learn_all-requires-clause-mirrors
learn_all-requires-clause-mirrors c =
    mirrors_grow c.args.sound.now c.learn.new.sound c.args.cells.now c.requires.mirrors (grows_then c.args.sound.now c.loop-number.sound c.learn.new.sound c.loop-number.invariant.grows c.learn.ensures.grows)

pub learn_all-requires-clause-there : goal.learn_all-requires-clause-there
learn_all-requires-clause-there c =
    let row = all_get_by (λ g. IsTypedRow c.args.cells.now (length c.args.states.now.items) (row_at c.args.table.now.rows g)) c.args.goals.now c.loop-number.number-index 0 c.loop-number-test.true c.requires.types in
    below_kept (length c.args.states.now.items) (length c.learn.new.states.items) (row_at c.args.table.now.rows (get_or c.args.goals.now c.loop-number.number-index 0)).rights c.rights.result.now
    (c.learn.ensures.keeps.sized ∙ c.loop-number.invariant.keeps.sized) (c.rights.ensures ∙ ap (λ (n : ℕ). (row_at c.args.table.now.rows n).rights) c.goal-goal.ensures) row.rights_there

pub returns-in_err-learn_all-clause-known : goal.returns-in_err-learn_all-clause-known
returns-in_err-learn_all-clause-known c = λ k. c.learn_all.ensures.known (c.learn.ensures.known (c.loop-number.invariant.known k))

pub returns-in_err-learn_all-clause-grows : goal.returns-in_err-learn_all-clause-grows
returns-in_err-learn_all-clause-grows c =
    grows_then c.args.sound.now c.learn.new.sound c.learn_all.new.sound (grows_then c.args.sound.now c.loop-number.sound c.learn.new.sound c.loop-number.invariant.grows c.learn.ensures.grows) c.learn_all.ensures.grows

pub loop-number-preserved : goal.loop-number-preserved
loop-number-preserved c =
    let i = c.loop-number.invariant in
    let keeps = keeps-then c.loop-number.states.items c.learn.new.states.items c.learn_all.new.states.items c.learn.ensures.keeps c.learn_all.ensures.keeps in
    record {
      known = λ k. c.learn_all.ensures.known (c.learn.ensures.known (i.known k));
      has = all_more_by (λ g. HasTypes c.learn_all.new.states.items (row_at c.args.table.now.rows g)) c.args.goals.now c.loop-number.number-index 0 c.loop-number-test.true
          (types_kept c.loop-number.states.items c.learn_all.new.states.items c.args.table.now.rows keeps _ i.has)
          (record {
            left = subst (HasKnown c.learn_all.new.states.items) (c.left.ensures ∙ ap (λ (n : ℕ). (row_at c.args.table.now.rows n).left) c.goal-goal.ensures)
                (has_kept c.learn.new.states.items c.learn_all.new.states.items c.left.result c.learn_all.ensures.keeps c.in_ok-learn.ensures.has);
            rights = subst (AllByRecursion (HasKnown c.learn_all.new.states.items)) (c.rights.ensures ∙ ap (λ (n : ℕ). (row_at c.args.table.now.rows n).rights) c.goal-goal.ensures) c.in_ok-learn_all.ensures.has;
          });
      keeps = keeps-then c.args.states.now.items c.loop-number.states.items c.learn_all.new.states.items i.keeps keeps;
      grows = grows_then c.args.sound.now c.learn.new.sound c.learn_all.new.sound (grows_then c.args.sound.now c.loop-number.sound c.learn.new.sound i.grows c.learn.ensures.grows) c.learn_all.ensures.grows;
    }

pub learn-requires-clause-state : goal.learn-requires-clause-state
learn-requires-clause-state c =
    let row = all_get_by (λ g. IsTypedRow c.args.cells.now (length c.args.states.now.items) (row_at c.args.table.now.rows g)) c.args.goals.now c.loop-number.number-index 0 c.loop-number-test.true c.requires.types in
    subst (IsTypeState c.args.cells.now) (sym (c.left.ensures ∙ ap (λ (n : ℕ). (row_at c.args.table.now.rows n).left) c.goal-goal.ensures)) row.types.left

pub learn-requires-clause-there : goal.learn-requires-clause-there
learn-requires-clause-there c =
    let row = all_get_by (λ g. IsTypedRow c.args.cells.now (length c.args.states.now.items) (row_at c.args.table.now.rows g)) c.args.goals.now c.loop-number.number-index 0 c.loop-number-test.true c.requires.types in
    let there = subst (λ (n : ℕ). (row_at c.args.table.now.rows (get_or c.args.goals.now c.loop-number.number-index 0)).left.number < n) (sym c.loop-number.invariant.keeps.sized) row.left_there in
    subst (λ (s : State). s.number < length c.loop-number.states.items) (sym (c.left.ensures ∙ ap (λ (n : ℕ). (row_at c.args.table.now.rows n).left) c.goal-goal.ensures)) there

pub learn_all-requires-clause-state : goal.learn_all-requires-clause-state
learn_all-requires-clause-state c =
    let row = all_get_by (λ g. IsTypedRow c.args.cells.now (length c.args.states.now.items) (row_at c.args.table.now.rows g)) c.args.goals.now c.loop-number.number-index 0 c.loop-number-test.true c.requires.types in
    subst (AllByRecursion (IsTypeState c.args.cells.now)) (sym (c.rights.ensures ∙ ap (λ (n : ℕ). (row_at c.args.table.now.rows n).rights) c.goal-goal.ensures)) row.types.rights

pub returns-in_err-learn-clause-keeps : goal.returns-in_err-learn-clause-keeps
returns-in_err-learn-clause-keeps c = keeps-then c.args.states.now.items c.loop-number.states.items c.learn.new.states.items c.loop-number.invariant.keeps c.learn.ensures.keeps

pub returns-in_err-learn_all-clause-keeps : goal.returns-in_err-learn_all-clause-keeps
returns-in_err-learn_all-clause-keeps c =
    keeps-then c.args.states.now.items c.loop-number.states.items c.learn_all.new.states.items c.loop-number.invariant.keeps
    (keeps-then c.loop-number.states.items c.learn.new.states.items c.learn_all.new.states.items c.learn.ensures.keeps c.learn_all.ensures.keeps)

pub goal-goal-requires : goal.goal-goal-requires
goal-goal-requires c = all_get_by (λ g. g < length c.args.table.now.rows) c.args.goals.now c.loop-number.number-index 0 c.loop-number-test.true c.requires.there

pub left-requires : goal.left-requires
left-requires c =
    subst (λ (g : ℕ). g < length c.args.table.now.rows) (sym c.goal-goal.ensures)
    (all_get_by (λ g. g < length c.args.table.now.rows) c.args.goals.now c.loop-number.number-index 0 c.loop-number-test.true c.requires.there)

pub rights-requires : goal.rights-requires
rights-requires c =
    subst (λ (g : ℕ). g < length c.args.table.now.rows) (sym c.goal-goal.ensures)
    (all_get_by (λ g. g < length c.args.table.now.rows) c.args.goals.now c.loop-number.number-index 0 c.loop-number-test.true c.requires.there)
