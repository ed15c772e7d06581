use Rattle.std.proofs.Common.{◌≡◌, ◌∙◌, false, List, ap, sym, refl, length, arith}
use Rattle.std.specs.List.{slice_get}
use Rattle.std.proofs.lemmas.Option.{slice_get_read, slice_get_within}
use Rattle.xd_empty.specs.Parts.{is_marked}
use Rattle.xd_bind.specs.Owning.{is_owned}
use Rattle.xd_given.specs.Free.{goes_free}
use Rattle.xd_given.proofs.AlikeLaw.{next_more}
use Rattle.xd_given.proofs.free.goes_on_by.Goals as goal

pub loop-number-preserved : goal.loop-number-preserved
loop-number-preserved g c n m lt e =
    let goes = goes_free (is_owned (g.H.Holds.owned c.args.owner.now c.args.variable) g.M.Leads.KIND c.args.state) (is_marked c.args.marks.now) in
    let xs = c.moves-moves.result.now in
    let i = c.loop-number.number in
    let x = c.index-moves-number.result in
    next_more (λ k (y : g.row.M.Denot). goes k (g.M.Leads.ends_of y) ≡ false) xs i x (slice_get_read xs (length xs) i x refl c.loop-number-test.true c.index-moves-number.is) c.loop-number.invariant
    (ap (goes i) (sym c.ends-ends.ensures.ends) ∙ sym c.goes_free.ensures ∙ c.if-goes_free.false) n m lt e

pub returns-then-goes_free-clause-some : goal.returns-then-goes_free-clause-some
returns-then-goes_free-clause-some g c e =
    let goes = goes_free (is_owned (g.H.Holds.owned c.args.owner.now c.args.variable) g.M.Leads.KIND c.args.state) (is_marked c.args.marks.now) in
    let xs = c.moves-moves.result.now in
    let i = c.loop-number.number in
    let x = c.index-moves-number.result in
    record {
      number = i;
      move = x;
      there = ap (λ (ms : List g.row.M.Denot). slice_get ms i) (sym c.moves-moves.ensures.value) ∙ slice_get_read xs (length xs) i x refl c.loop-number-test.true c.index-moves-number.is;
      filled = c.ends-ends.ensures.filled;
      goes = ap (goes i) (sym c.ends-ends.ensures.ends) ∙ sym c.goes_free.ensures ∙ c.if-goes_free.true;
    }

pub returns-clause-none : goal.returns-clause-none
returns-clause-none g c e n m h =
    let xs = c.moves-moves.result.now in
    let here = ap (λ (ms : List g.row.M.Denot). slice_get ms n) c.moves-moves.ensures.value ∙ h in
    let lt = slice_get_within xs n m here in
    c.loop-number.invariant n m (omega arith) here
