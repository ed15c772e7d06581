use Rattle.std.proofs.Common.{◌≡◌, ◌<◌, [], ◌∷◌, ◌++◌, length, get_or, set, refl, sym, ap, ◌∙◌, subst, arith}
use Rattle.std.specs.Option.{IfSome}
use Rattle.std.specs.Vec.{with_item}
use Rattle.xd_doc.proofs.Lists.{all_push, all_set, all_there}
use Rattle.xd_syntax.specs.Types.{BelongsTo}
use Rattle.xd_show_solve.specs.declared.sums.Term.{Term}
use Rattle.xd_show_solve.specs.declared.sums.Sum.{Sum}
use Rattle.xd_show_solve.proofs.SumSteps.{term_put, term_pushed, terms_kept, constant_stays}
use Rattle.xd_same_types.proofs.Tables.{keeps_then, kept_belongs}
use Rattle.xd_show_solve.proofs.sums.add_term.Goals as goal

pub alt-requires-clause-one : goal.alt-requires-clause-one
alt-requires-clause-one c =
    let inv = c.loop-number.invariant in
    let k = c.loop-number.number in
    let old = c.index-old.result.now in
    let l : k < length c.args.sum.now.terms.items = omega (arith, c.len-number-end.ensures, c.args.sum.now.terms.ok.0) in
    let e = subst (λ xs. old ≡ get_or xs k old) inv.terms c.index-old.ensures in
    kept_belongs _ _ inv.keeps old.by (all_there (λ (u : Term). BelongsTo c.args.pool.now.types u.by) c.args.sum.now.terms.items k old c.requires.sum.terms l e)

pub alt-requires-clause-two : goal.alt-requires-clause-two
alt-requires-clause-two c = kept_belongs _ _ c.loop-number.invariant.keeps c.args.term.by c.requires.term

pub returns-then-old-term-clause-adds : goal.returns-then-old-term-clause-adds
returns-then-old-term-clause-adds c =
    let inv = c.loop-number.invariant in
    let k = c.loop-number.number in
    let old = c.index-old.result.now in
    let l : k < length c.args.sum.now.terms.items = omega (arith, c.len-number-end.ensures, c.args.sum.now.terms.ok.0) in
    let e = subst (λ xs. old ≡ get_or xs k old) inv.terms c.index-old.ensures in
    let made : Term = record { by = c.in_ok-by.by; to = c.args.term.to } in
    let t : Sum = record { terms = with_item c.loop-number.sum.terms k made; constant = c.loop-number.sum.constant } in
    term_put _ _ _ inv.keeps c.alt.ensures.keeps (keeps_then _ _ _ inv.keeps c.alt.ensures.keeps) c.args.sum.now t c.args.term old made k c.requires.sum c.requires.term l e
    c.if-old-term.true refl (ap (λ xs. set xs k made) inv.terms) inv.constant c.in_ok-by.ensures.same

pub returns-then-old-term-clause-stands : goal.returns-then-old-term-clause-stands
returns-then-old-term-clause-stands c =
    let inv = c.loop-number.invariant in
    let ab = keeps_then _ _ _ inv.keeps c.alt.ensures.keeps in
    record {
      terms = rw inv.terms (all_set (λ (u : Term). BelongsTo c.alt.new.pool.types u.by) c.args.sum.now.terms.items c.loop-number.number (record { by = c.in_ok-by.by; to = c.args.term.to }) (terms_kept _ _ ab c.args.sum.now.terms.items c.requires.sum.terms) c.in_ok-by.ensures.belongs);
      constant = subst (λ o. IfSome o (BelongsTo c.alt.new.pool.types)) (sym inv.constant) (constant_stays _ _ ab c.args.sum.now.constant c.requires.sum.constant);
    }

pub returns-clause-adds : goal.returns-clause-adds
returns-clause-adds c =
    let inv = c.loop-number.invariant in
    term_pushed _ _ inv.keeps c.args.sum.now (record { terms = c.push.new.self; constant = c.loop-number.sum.constant }) c.args.term c.requires.sum c.requires.term
    (c.in_ok-push.ensures.items ∙ ap (λ ts. ts ++ c.args.term ∷ []) inv.terms) inv.constant

pub returns-clause-stands : goal.returns-clause-stands
returns-clause-stands c =
    let inv = c.loop-number.invariant in
    record {
      terms = rw c.in_ok-push.ensures.items (rw inv.terms (all_push (λ (u : Term). BelongsTo c.loop-number.pool.types u.by) c.args.sum.now.terms.items c.args.term (terms_kept _ _ inv.keeps c.args.sum.now.terms.items c.requires.sum.terms) (kept_belongs _ _ inv.keeps c.args.term.by c.requires.term)));
      constant = subst (λ o. IfSome o (BelongsTo c.loop-number.pool.types)) (sym inv.constant) (constant_stays _ _ inv.keeps c.args.sum.now.constant c.requires.sum.constant);
    }
