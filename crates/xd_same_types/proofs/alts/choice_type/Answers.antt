use Rattle.std.proofs.Common.{rules, ◌≡◌, true, false, ◌<◌, length, subst, arith}
use Rattle.std.specs.Vec.{vec_len}
use Rattle.xd_syntax.specs.TreeForms.{alt_of}
use Rattle.xd_same_types.specs.Same.{CanBeEmpty, IsChoice, trees}
use Rattle.xd_same_types.proofs.Ids.{ok_map, not_zero}
use Rattle.xd_same_types.proofs.Laws.{same_then, same_of, opt_same}
use Rattle.xd_same_types.proofs.AltLaws.{choice_is_alt, choice_is_opt, opt_nothing}
use Rattle.xd_same_types.proofs.Tables.{some_trees}
use Rattle.xd_same_types.proofs.alts.choice_type.Goals as goal

pub returns-then-not-empty-clause-same : goal.returns-then-not-empty-clause-same
returns-then-not-empty-clause-same c =
    let rows = c.args.pool.now.types in
    let no : c.args.empty ≡ false = search rules in
    let z = not_zero (vec_len c.args.parts) _ c.is_empty.ensures c.if-is_empty.false in
    let l : 0 < length c.args.parts.items = omega (arith, z, c.args.parts.ok.0) in
    ok_map c.alt_from.result _ _ (λ id e. λ T h. same_then (same_of e) (choice_is_alt T (trees rows c.args.parts.items) (some_trees rows c.args.parts.items l) (subst (IsChoice T (trees rows c.args.parts.items)) no h))) c.alt_from.ensures.tree

pub returns-then-some_plainly_empty-clause-same : goal.returns-then-some_plainly_empty-clause-same
returns-then-some_plainly_empty-clause-same c =
    let rows = c.args.pool.now.types in
    let yes : c.args.empty ≡ true = search rules in
    let z = not_zero (vec_len c.args.parts) _ c.is_empty.ensures c.if-is_empty.false in
    let l : 0 < length c.args.parts.items = omega (arith, z, c.args.parts.ok.0) in
    let can = subst (λ xs. CanBeEmpty (alt_of (trees rows xs))) c.deref.ensures.value (c.some_plainly_empty.ensures c.if-some_plainly_empty.true) in
    ok_map c.alt_from-then-some_plainly_empty.result _ _
    (λ id e. λ T h. same_then (same_of e) (same_then (opt_nothing _ can) (choice_is_opt T (trees rows c.args.parts.items) (some_trees rows c.args.parts.items l) (subst (IsChoice T (trees rows c.args.parts.items)) yes h))))
    c.alt_from-then-some_plainly_empty.ensures.tree

pub returns-clause-same : goal.returns-clause-same
returns-clause-same c =
    let rows = c.args.pool.now.types in
    let yes : c.args.empty ≡ true = search rules in
    let z = not_zero (vec_len c.args.parts) _ c.is_empty.ensures c.if-is_empty.false in
    let l : 0 < length c.args.parts.items = omega (arith, z, c.args.parts.ok.0) in
    ok_map c.opt.result _ _
    (λ id s. λ T h. same_then s (same_then (opt_same (same_of c.in_ok-id.ensures.tree)) (choice_is_opt T (trees rows c.args.parts.items) (some_trees rows c.args.parts.items l) (subst (IsChoice T (trees rows c.args.parts.items)) yes h))))
    c.opt.ensures.same
