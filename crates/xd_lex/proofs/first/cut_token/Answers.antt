use Rattle.std.proofs.Common.{◌≡◌, ◌<◌, ℕ, List, subst, length, sym, ap, ◌∙◌, arith, false-eqb, eqb-true}
use Rattle.std.proofs.lemmas.Str.{IsUtf8-drop}
use Rattle.xd_lex.specs.declared.Front.TheVariants as fronts
use Rattle.xd_lex.specs.Spellings.{IsSpelling}
use Rattle.xd_lex.proofs.Fronts.{Reaches, boundary}
use Rattle.xd_lex.proofs.Froms.{first}
use Rattle.xd_lex.proofs.Skipped.{reached, skipped_none, skipped_more, token_found, fault_found, end_found}
use Rattle.xd_lex.proofs.first.cut_token.Goals as goal
use Rattle.xd_lex.proofs.first.cut_token.Goals.{In-Gap, In-Token}

pub gaps-init : goal.gaps-init
gaps-init c = skipped_none _ c.utf8.text

left : (c : In-Gap) → 0 < length c.gaps.rest.now
left c = omega (arith, false-eqb _ 0 c.gaps-test.ensures)

gap_first : (c : In-Gap) → first c.gaps.rest.now ≡ fronts.Gap c.in-Gap.n
gap_first c = ap first (sym c.as_bytes.ensures.value) ∙ sym c.front.ensures ∙ c.in-Gap.is

gap_reaches : (c : In-Gap) → Reaches c.gaps.rest.now c.in-Gap.n
gap_reaches c = reached _ (fronts.Gap c.in-Gap.n) (left c) (gap_first c)

pub split_at-requires : goal.split_at-requires
split_at-requires c = boundary _ _ c.gaps.invariant.utf8 (gap_reaches c)

pub gaps-smaller : goal.gaps-smaller
gaps-smaller c =
    let r : Reaches c.gaps.rest.now c.in-Gap.n = gap_reaches (goal.at.gaps-smaller c).In-Gap in
    omega (arith, c.split_at.ensures.back_len, r.positive, r.within)

pub gaps-preserved : goal.gaps-preserved
gaps-preserved c =
    let d = (goal.at.gaps-preserved c).In-Gap in
    skipped_more _ _ _ _ c.in-Gap.n c.gaps.invariant (left d) (gap_first d) c.split_at.ensures.front c.split_at.ensures.back

left_token : (c : In-Token) → 0 < length c.gaps.rest.now
left_token c = omega (arith, false-eqb _ 0 c.gaps-test.ensures)

token_first : (c : In-Token) → first c.gaps.rest.now ≡ fronts.Token c.in-Token.kind c.in-Token.n
token_first c = ap first (sym c.as_bytes.ensures.value) ∙ sym c.front.ensures ∙ c.in-Token.is

pub split_at-requires-in-Token : goal.split_at-requires-in-Token
split_at-requires-in-Token c = boundary _ _ c.gaps.invariant.utf8 (reached _ (fronts.Token c.in-Token.kind c.in-Token.n) (left_token c) (token_first c)).0

pub returns-in-Token-clause-first : goal.returns-in-Token-clause-first
returns-in-Token-clause-first c =
    let d = (goal.at.returns-in-Token-clause-first c).In-Token in
    token_found _ _ _ _ _ c.in-Token.n c.gaps.invariant (left_token d) (token_first d) c.split_at-in-Token.ensures.front c.split_at-in-Token.ensures.back

pub returns-in-Token-clause-spelled : goal.returns-in-Token-clause-spelled
returns-in-Token-clause-spelled c =
    let d = (goal.at.returns-in-Token-clause-spelled c).In-Token in
    subst (λ (t : List ℕ). IsSpelling c.in-Token.kind t) (sym c.split_at-in-Token.ensures.front) (reached _ (fronts.Token c.in-Token.kind c.in-Token.n) (left_token d) (token_first d)).2

pub returns-in-Fault-clause-first : goal.returns-in-Fault-clause-first
returns-in-Fault-clause-first c =
    fault_found _ _ c.in-Fault.fault c.gaps.invariant (omega (arith, false-eqb _ 0 c.gaps-test.ensures)) (ap first (sym c.as_bytes.ensures.value) ∙ sym c.front.ensures ∙ c.in-Fault.is)

pub returns-clause-first : goal.returns-clause-first
returns-clause-first c = end_found _ _ c.gaps.invariant (eqb-true _ 0 (sym c.gaps-test.ensures))

pub returns-in-Token-clause-utf8 : goal.returns-in-Token-clause-utf8
returns-in-Token-clause-utf8 c =
    let d = (goal.at.returns-in-Token-clause-utf8 c).In-Token in
    rw c.split_at-in-Token.ensures.back (IsUtf8-drop _ c.in-Token.n c.gaps.invariant.utf8 (boundary _ _ c.gaps.invariant.utf8 (reached _ (fronts.Token c.in-Token.kind c.in-Token.n) (left_token d) (token_first d)).0))

pub returns-in-Token-clause-some : goal.returns-in-Token-clause-some
returns-in-Token-clause-some c =
    let d = (goal.at.returns-in-Token-clause-some c).In-Token in
    let r : Reaches c.gaps.rest.now c.in-Token.n = (reached _ (fronts.Token c.in-Token.kind c.in-Token.n) (left_token d) (token_first d)).0 in
    λ _. omega (arith, c.split_at-in-Token.ensures.front_len, r.positive)
