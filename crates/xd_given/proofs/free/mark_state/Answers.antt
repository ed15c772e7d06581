use Rattle.std.proofs.Common.{◌<◌, ◌∙◌, Bool, true, List, ℕ, length, set, ap, sym, subst, arith}
use Rattle.xd_bind.specs.Marks.{unmarked}
use Rattle.xd_bind.proofs.MarkLemmas.{unmarked-set}
use Rattle.xd_empty.specs.Parts.{is_marked}
use Rattle.xd_given.specs.Free.{GoesOn}
use Rattle.xd_given.proofs.FreeLemmas.{marks_kept, newly_marked}
use Rattle.xd_given.proofs.free.mark_state.Goals as goal

pub returns-clause-kept : goal.returns-clause-kept
returns-clause-kept g c s e =
    let marks = c.args.marks.now.items in
    ap (λ (k : ℕ). is_marked (set marks k true) s) c.number.ensures ∙ marks_kept marks c.args.state.number s (omega (arith, c.requires.state, c.requires.sized)) e

pub returns-clause-sound : goal.returns-clause-sound
returns-clause-sound g c s e not_yet =
    let marks = c.args.marks.now.items in
    let a = c.args.auto.now in
    let b = g.H.Holds.owned c.args.owner.now c.args.variable in
    let goes : GoesOn a b (is_marked marks) c.args.state =
    subst (λ (ms : List Bool). GoesOn a b (is_marked ms) c.args.state) c.deref-else-is_marked.ensures.value (c.goes_on.ensures.some c.if-not-goes_on.false) in
    newly_marked a b marks c.args.state s goes (sym (ap (λ (k : ℕ). is_marked (set marks k true) s) c.number.ensures) ∙ e) not_yet

pub returns-clause-counted : goal.returns-clause-counted
returns-clause-counted g c e =
    let marks = c.args.marks.now.items in
    let within : c.args.state.number < length marks = omega (arith, c.requires.state, c.requires.sized) in
    let less = unmarked-set marks c.args.state.number within (ap (λ (ms : List Bool). is_marked ms c.args.state) (sym c.deref.ensures.value) ∙ sym c.is_marked.ensures ∙ c.if-is_marked.false) in
    let same = ap (λ (k : ℕ). unmarked (set marks k true)) c.number.ensures in
    omega (arith, less, same)
