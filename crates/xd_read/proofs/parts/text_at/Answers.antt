use Rattle.std.proofs.Common.{◌≡◌, ◌∙◌, ℕ, List, arith, subst, sym, IfOk}
use Rattle.xd_read.proofs.PartLemmas.{inside_quotes, within}
use Rattle.xd_read.proofs.parts.text_at.Goals as goal

pub overflow_add-at : goal.overflow_add-at
overflow_add-at c =
    let i = inside_quotes _ _ _ c.requires.stands c.requires.spelled in
    omega (arith, within _ _ _ c.requires.stands, c.requires.stands.fits, i.order)

pub overflow_add-at-then-is_plain : goal.overflow_add-at-then-is_plain
overflow_add-at-then-is_plain c = omega (arith, within _ _ _ c.requires.stands, c.requires.stands.fits)

pub part-requires : goal.part-requires
part-requires c =
    let i = inside_quotes _ _ _ c.requires.stands c.requires.spelled in
    record { order = i.order; start_boundary = i.start; end_boundary = i.end }

pub returns-then-is_plain : goal.returns-then-is_plain
returns-then-is_plain c =
    let i = inside_quotes _ _ _ c.requires.stands c.requires.spelled in
    subst (λ (xs : List ℕ). IfOk c.part.result (λ made. made ≡ xs)) (i.same ∙ sym (c.is_plain.ensures.same c.if-is_plain.true)) c.part.ensures
