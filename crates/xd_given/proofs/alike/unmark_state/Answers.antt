use Rattle.std.proofs.Common.{◌≡◌, ◌∙◌, Bool, true, false, List, ℕ, set, ap, sym, subst, arith}
use Rattle.xd_empty.specs.Parts.{is_marked}
use Rattle.xd_given.specs.Alike.{IsAlikeFor, marked_count}
use Rattle.xd_given.proofs.AlikeLaw.{fewer_marks, still_in}
use Rattle.xd_given.proofs.FreeLaw.{true_false}
use Rattle.xd_given.proofs.alike.unmark_state.Goals as goal

pub returns-clause-kept : goal.returns-clause-kept
returns-clause-kept g c family is within s h =
    let marks = c.args.marks.now.items in
    let a = c.args.auto.now in
    let owned = g.H.Holds.owned c.args.owner.now in
    ap (λ (k : ℕ). is_marked (set marks k false) s) c.number.ensures
    ∙ still_in a owned c.args.count family marks c.args.state
    (λ alike. true_false c.are_alike.result
    (c.are_alike.ensures.all (subst (λ (ms : List Bool). IsAlikeFor a owned c.args.count (is_marked ms) c.args.state) (sym c.deref-else-not-is_marked.ensures.value) alike)) c.if-are_alike.false)
    is within s h

pub returns-clause-counted : goal.returns-clause-counted
returns-clause-counted g c e =
    let marks = c.args.marks.now.items in
    let here : is_marked marks c.args.state ≡ true = ap (λ (ms : List Bool). is_marked ms c.args.state) (sym c.deref.ensures.value) ∙ sym c.is_marked.ensures ∙ c.if-not-is_marked.false in
    let less = fewer_marks marks c.args.state.number here in
    let same = ap (λ (k : ℕ). marked_count (set marks k false)) c.number.ensures in
    omega (arith, less, same)
