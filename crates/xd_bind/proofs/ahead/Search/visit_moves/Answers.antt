use Rattle.std.proofs.Common.{◌≡◌, ◌<◌, ◌∙◌, ap, subst, sym, refl, Bool, true, false, Some, arith, get_or, length}
use Rattle.std.specs.List.{slice_get}
use Rattle.std.proofs.lemmas.Option.{slice_get_read}
use Rattle.xd_auto.specs.Automaton.{moves_at}
use Rattle.xd_empty.specs.Parts.{is_marked}
use Rattle.xd_auto.specs.Leading.{EndsAre}
use Rattle.xd_auto.specs.declared.kind.MoveKind.{MoveKind}
use Rattle.xd_auto.proofs.EndsLemmas.{ends_are}
use Rattle.xd_bind.specs.Owning.{is_owned}
use Rattle.xd_bind.proofs.IsSearchLemmas.{visit_more, visit_past}
use Rattle.xd_bind.proofs.ahead.Search.visit_moves.Goals as goal
use Rattle.xd_bind.proofs.ahead.Search.visit_moves.Goals.{then-not-has_ends+then-not-holds+in_ok-visit_ends, then-not-has_ends+else-not-holds, else-not-has_ends}

pub loop-number-preserved : goal.loop-number-preserved
loop-number-preserved g c =
    let moves = g.M.Move.moves_in (moves_at c.args.auto.now c.args.state) in
    let owned = is_owned (g.H.Holds.owned c.args.owner.now c.args.variable) g.M.Leads.KIND c.args.state in
    let free = is_marked c.args.free.now in
    let i = c.loop-number.number in
    let kind : MoveKind → Bool = λ k. is_owned (g.H.Holds.owned c.args.owner.now c.args.variable) k c.args.state i in
    let xs = c.moves-moves.result.now in
    let m = c.index-moves-number.result in
    let there : slice_get moves i ≡ Some m = ap (λ ls. slice_get ls i) (sym c.moves-moves.ensures.value) ∙ slice_get_read xs (length xs) i m refl c.loop-number-test.true c.index-moves-number.is in
    let ends : c.ends-ends.result ≡ g.M.Leads.ends_of m = c.ends-ends.ensures.ends in
    elim c.if-not-has_ends.branch [
      | then-not-has_ends+then-not-holds+in_ok-visit_ends w ↦
          rw w.self-is
          (visit_more g.M.Leads.Filled g.M.Leads.ends_of owned free moves _ _ _ _ _ _ i m there (ap kind (sym w.KIND.ensures) ∙ sym w.holds.ensures ∙ w.if-not-holds.true) (rw ends at w.in_ok-visit_ends.ensures.grows)
          (record { sides = rw ends at w.in_ok-visit_ends.ensures.marked; filled = c.ends-ends.ensures.filled }) c.loop-number.invariant)
      | then-not-has_ends+else-not-holds w ↦
          rw w.self-is
          (visit_past g.M.Leads.Filled g.M.Leads.ends_of owned free moves _ _ _ _ i m there (λ own. absurd (let both : true ≡ false = sym w.if-not-holds.false ∙ w.holds.ensures ∙ ap kind w.KIND.ensures ∙ own in cc)) c.loop-number.invariant)
      | else-not-has_ends w ↦
          rw w.self-is (visit_past g.M.Leads.Filled g.M.Leads.ends_of owned free moves _ _ _ _ i m there (λ own. record { sides = rw ends at c.has_ends.ensures w.if-not-has_ends.false; filled = c.ends-ends.ensures.filled }) c.loop-number.invariant)
    ]

pub returns-clause-marked : goal.returns-clause-marked
returns-clause-marked g c n m l there own =
    let e = ap length c.moves-moves.ensures.value in
    c.loop-number.invariant.marked n m (omega arith) there own

pub has_ends-requires-clause-ends : goal.has_ends-requires-clause-ends
has_ends-requires-clause-ends g c =
    let a = c.args.auto.now in
    let moves = g.M.Move.moves_in (moves_at a c.args.state) in
    let i = c.loop-number.number in
    let m = c.index-moves-number.result in
    let is : m ≡ get_or moves i m = rw c.moves-moves.ensures.value at c.index-moves-number.is in
    let within : i < length moves = (let e = ap length c.moves-moves.ensures.value in omega (arith, e, c.loop-number-test.true)) in
    ends_are _ _ (λ s below. omega (arith, below, c.requires.marks, c.loop-number.invariant.grows.sized)) c.ends-ends.result
    (subst (EndsAre (λ s. s.number < length a)) (ap g.M.Leads.ends_of (sym is) ∙ sym c.ends-ends.ensures.ends) (g.met.M.Leads.closed (length a) (moves_at a c.args.state) c.moves-moves.ensures.closed i m within))

pub visit_ends-requires-clause-ends : goal.visit_ends-requires-clause-ends
visit_ends-requires-clause-ends g c =
    let a = c.args.auto.now in
    let moves = g.M.Move.moves_in (moves_at a c.args.state) in
    let i = c.loop-number.number in
    let m = c.index-moves-number.result in
    let is : m ≡ get_or moves i m = rw c.moves-moves.ensures.value at c.index-moves-number.is in
    let within : i < length moves = (let e = ap length c.moves-moves.ensures.value in omega (arith, e, c.loop-number-test.true)) in
    ends_are _ _ (λ s below. omega (arith, below, c.requires.marks, c.loop-number.invariant.grows.sized)) c.ends-ends.result
    (subst (EndsAre (λ s. s.number < length a)) (ap g.M.Leads.ends_of (sym is) ∙ sym c.ends-ends.ensures.ends) (g.met.M.Leads.closed (length a) (moves_at a c.args.state) c.moves-moves.ensures.closed i m within))
