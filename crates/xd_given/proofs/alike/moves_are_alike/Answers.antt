use Rattle.std.proofs.Common.{◌≡◌, ◌∙◌, List, Some, ap, sym, subst, refl, length, arith}
use Rattle.std.specs.List.{slice_get}
use Rattle.std.proofs.lemmas.Option.{slice_get_read, slice_get_within}
use Rattle.xd_auto.specs.declared.kind.MoveKind.{MoveKind}
use Rattle.xd_auto.specs.declared.leading.Ends.{Ends}
use Rattle.xd_auto.specs.Automaton.{moves_at}
use Rattle.xd_empty.specs.Parts.{is_marked}
use Rattle.xd_given.specs.Belonging.{IsAlikeMove}
use Rattle.xd_given.proofs.AlikeLaw.{next_more}
use Rattle.xd_given.proofs.FreeLaw.{true_false}
use Rattle.xd_given.proofs.alike.moves_are_alike.Goals as goal

pub loop-number-preserved : goal.loop-number-preserved
loop-number-preserved g c n m lt e =
    let alike = IsAlikeMove (g.H.Holds.owned c.args.owner.now) c.args.count (is_marked c.args.marks.now) c.args.state in
    let xs = c.moves-moves.result.now in
    let i = c.loop-number.number in
    let x = c.index-moves-number.result in
    next_more (λ k (y : g.row.M.Denot). alike g.M.Leads.KIND k (g.M.Leads.ends_of y)) xs i x (slice_get_read xs (length xs) i x refl c.loop-number-test.true c.index-moves-number.is) c.loop-number.invariant
    (subst (λ (k : MoveKind). alike k i (g.M.Leads.ends_of x)) c.KIND.ensures (subst (λ (w : Ends). alike c.KIND.result i w) c.ends-ends.ensures.ends (c.is_alike.ensures.alike c.if-not-is_alike.false))) n m lt e

pub returns-then-not-is_alike-clause-all : goal.returns-then-not-is_alike-clause-all
returns-then-not-is_alike-clause-all g c h =
    let alike = IsAlikeMove (g.H.Holds.owned c.args.owner.now) c.args.count (is_marked c.args.marks.now) c.args.state in
    let xs = c.moves-moves.result.now in
    let i = c.loop-number.number in
    let x = c.index-moves-number.result in
    let there : slice_get (g.M.Move.moves_in (moves_at c.args.auto.now c.args.state)) i ≡ Some x =
    ap (λ (ms : List g.row.M.Denot). slice_get ms i) (sym c.moves-moves.ensures.value) ∙ slice_get_read xs (length xs) i x refl c.loop-number-test.true c.index-moves-number.is in
    true_false c.is_alike.result (c.is_alike.ensures.all c.requires.some (subst (λ (k : MoveKind). alike k i c.ends-ends.result) (sym c.KIND.ensures) (subst (λ (w : Ends). alike g.M.Leads.KIND i w) (sym c.ends-ends.ensures.ends) (h i x there)))) c.if-not-is_alike.true

pub returns-clause-alike : goal.returns-clause-alike
returns-clause-alike g c e n m h =
    let xs = c.moves-moves.result.now in
    let here = ap (λ (ms : List g.row.M.Denot). slice_get ms n) c.moves-moves.ensures.value ∙ h in
    let within = slice_get_within xs n m here in
    c.loop-number.invariant n m (omega arith) here
