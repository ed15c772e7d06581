use Rattle.std.proofs.Common.{rules, ◌≡◌, true, nat_eq, sym, ◌∙◌, subst}
use Rattle.std.specs.Cmp.Lexicographic.{pointwise}
use Rattle.xd_same_types.proofs.ClassLaws.{same_class}
use Rattle.xd_same_types.proofs.same.is_same_class.Goals as goal

pub returns : goal.returns
returns c = λ e.
    let excepts : c.takes_others.result ≡ c.takes_others-2.result = search rules in
    let named : pointwise (pointwise nat_eq) c.names.result.now c.names-2.result.now ≡ true = sym c.eq.ensures ∙ e in
    same_class c.args.one.now c.args.other.now (sym c.takes_others.ensures ∙ excepts ∙ c.takes_others-2.ensures)
    (subst (λ ns. pointwise (pointwise nat_eq) c.args.one.now.names ns ≡ true) c.names-2.ensures.names
    (subst (λ ns. pointwise (pointwise nat_eq) ns c.names-2.result.now ≡ true) c.names.ensures.names named))
