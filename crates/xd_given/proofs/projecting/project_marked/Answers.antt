use Rattle.std.proofs.Common.{◌≡◌, ◌∙◌, Ok, ap, sym, subst, true, false, arith, length}
use Rattle.xd_auto.specs.Automaton.{Automaton, accepts}
use Rattle.xd_auto.specs.Traces.{KeepsTogether}
use Rattle.xd_auto.specs.declared.kind.MoveKind.TheVariants.{Label, Text}
use Rattle.xd_bind.specs.Projection.{owned_by}
use Rattle.xd_auto.proofs.SameMoves.{together_same}
use Rattle.xd_given.specs.Buckets.{owned_in}
use Rattle.xd_given.proofs.ProjectLemmas.{givens_whole, takes_whole}
use Rattle.xd_given.proofs.projecting.project_marked.Goals as goal

pub bindings-requires-clause-alike : goal.bindings-requires-clause-alike
bindings-requires-clause-alike c x lt s leaves = absurd (let no : true ≡ false = sym leaves ∙ c.requires.left_out s in cc)

pub bindings-requires-clause-together : goal.bindings-requires-clause-together
bindings-requires-clause-together c x lt =
    let same = c.requires.marks in
    let tracks = c.args.tracks.now in
    subst (λ (a : Automaton). KeepsTogether a (owned_in c.args.marks.now.rows.items x) tracks.start) (sym c.requires.auto)
    (together_same tracks.auto (owned_by tracks.marks.items x) (owned_in c.args.marks.now.rows.items x)
    (record { text = λ s k. sym (same x Text s k); element = λ s k. sym (same x Label s k) }) tracks.start (c.requires.tracks.together x (omega (arith, ap length c.deref.ensures.value))))

pub bindings-requires-clause-known : goal.bindings-requires-clause-known
bindings-requires-clause-known c = c.new-known.ensures _ _

pub bindings_of-requires : goal.bindings_of-requires
bindings_of-requires c =
    let same = c.requires.marks in
    let tracks = c.args.tracks.now in
    rw c.deref-in-Some.ensures.value
    (givens_whole c.add_universal.new.auto tracks.auto c.args.pattern.now (owned_in c.args.marks.now.rows.items) (owned_by tracks.marks.items) c.in_ok-everything.everything tracks.start c.deref.result.now tracks.variables.items
    c.bindings.new.auto c.in-Some.givens.items c.in_ok-everything.ensures.accepted c.requires.auto (λ x. record { text = λ s k. same x Text s k; element = λ s k. same x Label s k }) c.deref.ensures.value (rw c.in-Some.is at c.in_ok-found.ensures.givens))

pub nothing_bound-requires : goal.nothing_bound-requires
nothing_bound-requires c d =
    let tracks = c.args.tracks.now in
    subst (λ (a : Automaton). accepts a d tracks.start ≡ false) c.requires.auto
    (sym (takes_whole c.add_universal.new.auto c.args.pattern.now c.in_ok-everything.everything tracks.start c.in_ok-everything.ensures.accepted d) ∙ c.in_ok-found.ensures.none (ap (λ o. Ok o) c.in-None.is) d)
