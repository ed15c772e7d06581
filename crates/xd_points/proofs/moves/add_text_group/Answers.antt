use Rattle.std.proofs.Common.{true, not, ◌&&◌, Bool, List, ◌≡◌, ◌++◌, ◌∷◌, [], ap, sym, subst, ◌∙◌}
use Rattle.std.specs.List.{AllByRecursion, list_any}
use Rattle.xd_doc.specs.Classes.{TextClass}
use Rattle.xd_auto.specs.declared.auto.TextMove.{TextMove}
use Rattle.xd_doc.specs.Classes.{class_has}
use Rattle.xd_auto.specs.declared.auto.State.{State}
use Rattle.xd_auto.specs.Automaton.{IsState, accepts}
use Rattle.xd_empty.specs.Parts.{is_marked}
use Rattle.xd_points.specs.Meaning.{point}
use Rattle.xd_points.specs.Narrowing.{leaves_nothing}
use Rattle.xd_points.specs.Points.{rests_accept}
use Rattle.xd_boole.specs.Meaning.{any_accepts, with_states}
use Rattle.xd_boole.proofs.DifferenceLemmas.{none_taken}
use Rattle.xd_points.proofs.MeetLemmas.{nothing_meant, text_added, text_none}
use Rattle.xd_points.proofs.GrowsLemmas.{adds_none}
use Rattle.xd_boole.proofs.UniversalLemmas.{marked_accepts}
use Rattle.xd_boole.proofs.AnyAcceptsLemmas.{set_accepts, states_are, with_states_all}
use Rattle.xd_points.proofs.moves.add_text_group.Goals as goal

pub stand_for-requires-clause-states : goal.stand_for-requires-clause-states
stand_for-requires-clause-states c =
    let b = c.args.automata.patterns.now in
    let sides = c.args.group.now.sides.items in
    let is : c.deref-5.result.now ≡ with_states sides [] = c.deref-5.ensures.value ∙ c.in_ok-rights.ensures ∙ ap (λ ss. with_states ss []) c.deref-3.ensures.value in
    record {
      left = c.requires.rests.left;
      pattern = c.requires.rests.pattern;
      rights = subst (AllByRecursion (IsState b.taken.auto)) (sym is) (with_states_all (IsState b.taken.auto) sides [] (states_are b.taken.auto sides c.requires.group) tt);
    }

pub returns-then-any_marked : goal.returns-then-any_marked
returns-then-any_marked c =
    let a = c.args.automata.lefts.now in
    let b = c.args.automata.patterns.now in
    let sides : List State = c.args.group.now.sides.items in
    let marks : List Bool = c.args.automata.patterns.now.taken.universal.items in
    let marked : list_any (is_marked marks) sides ≡ true =
    subst (λ (ss : List State). list_any (is_marked marks) ss ≡ true) c.deref-2.ensures.value
    (subst (λ (ms : List Bool). list_any (is_marked ms) c.deref-2.result.now ≡ true) c.deref.ensures.value (sym c.any_marked.ensures ∙ c.if-any_marked.true)) in
    adds_none c.requires.whole c.requires.leads
    (λ q. none_taken (rests_accept a b q.rest c.args.rests) (class_has c.args.group.now.class q.characters) (any_accepts b.taken.auto sides q.rest) (marked_accepts b.taken.auto marks sides q.rest c.args.automata.serve.universal marked))

pub returns-then-leaves_nothing : goal.returns-then-leaves_nothing
returns-then-leaves_nothing c =
    let a = c.args.automata.lefts.now in
    let b = c.args.automata.patterns.now in
    let rests = c.args.rests in
    let sides = c.args.group.now.sides.items in
    let is : c.deref-4.result.now ≡ with_states sides [] = c.deref-4.ensures.value ∙ c.in_ok-rights.ensures ∙ ap (λ ss. with_states ss []) c.deref-3.ensures.value in
    let none : leaves_nothing b (point rests.left rests.pattern c.deref-4.result.now) ≡ true = sym c.leaves_nothing.ensures ∙ c.if-leaves_nothing.true in
    adds_none c.requires.whole c.requires.leads
    (λ q.
    ap (λ w. rests_accept a b q.rest rests && (class_has c.args.group.now.class q.characters && not w)) (sym (set_accepts b.taken.auto sides q.rest) ∙ sym (ap (λ (ss : List State). any_accepts b.taken.auto ss q.rest) is))
    ∙ text_none (accepts a q.rest rests.left) (accepts b.auto q.rest rests.pattern) (class_has c.args.group.now.class q.characters) (not (any_accepts b.taken.auto c.deref-4.result.now q.rest))
    (nothing_meant a b c.args.automata.serve (point rests.left rests.pattern c.deref-4.result.now) q.rest none))

pub returns : goal.returns
returns c =
    let a = c.args.automata.lefts.now in let b = c.args.automata.patterns.now in
    let sides = c.args.group.now.sides.items in
    let rest = c.in_ok-rest.rest in
    let is : c.deref-5.result.now ≡ with_states sides [] = c.deref-5.ensures.value ∙ c.in_ok-rights.ensures ∙ ap (λ ss. with_states ss []) c.deref-3.ensures.value in
    let items : c.push.new.self.items ≡ c.args.texts.now.items ++ record { words = c.args.group.now.class; rest = rest } ∷ [] =
    c.in_ok-push.ensures.items ∙ ap (λ (k : TextClass). let m : TextMove = record { words = k; rest = rest } in c.args.texts.now.items ++ m ∷ []) c.in_ok-share.ensures.same in
    text_added a b c.args.points.now c.stand_for.new.points c.args.texts.now.items c.push.new.self.items c.args.rests rest c.args.group.now c.deref-5.result.now
    items c.requires.leads c.in_ok-rest.ensures.grows c.in_ok-rest.ensures.whole c.in_ok-rest.ensures.state
    (λ w. ap (λ ss. any_accepts b.taken.auto ss w.rest) is ∙ set_accepts b.taken.auto sides w.rest)
