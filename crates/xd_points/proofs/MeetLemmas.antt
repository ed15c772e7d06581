-- What the moves that are made take.
use Rattle.std.proofs.Common.{◌≡◌, ◌<◌, nat_lt, Bool, true, false, not, ◌&&◌, ◌||◌, List, [], ◌∷◌, ◌++◌, refl, ap, sym, ◌∙◌, arith}
use Rattle.std.proofs.lemmas.Bool.Decides.{nat_tests}
use Rattle.std.specs.List.{AllByRecursion}
use Rattle.xd_doc.specs.Classes.{LabelClass, TextClass, class_has}
use Rattle.xd_doc.proofs.Bools.{and_left, and_right, and_false, and_false_within, and_join}
use Rattle.xd_auto.specs.declared.auto.State.{State}
use Rattle.xd_auto.specs.declared.auto.LabelMove.{LabelMove}
use Rattle.xd_auto.specs.declared.auto.TextMove.{TextMove}
use Rattle.xd_auto.specs.Automaton.{Automaton, accepts}
use Rattle.xd_points.specs.declared.patterns.PatternStates.{PatternStates}
use Rattle.xd_boole.specs.declared.groups.Group.{Group}
use Rattle.xd_boole.specs.declared.choices.SideChoice.{SideChoice}
use Rattle.xd_doc.specs.Document.{Document}
use Rattle.xd_boole.specs.Meaning.{TextFirst, any_accepts, has_state}
use Rattle.xd_boole.specs.Groups.{group_refuses}
use Rattle.xd_boole.specs.Choices.{choice_refuses}
use Rattle.xd_boole.proofs.Bools.{part_chosen, part_group}
use Rattle.xd_points.specs.declared.moves.Parts.{Parts}
use Rattle.xd_points.specs.declared.moves.Rests.{Rests}
use Rattle.xd_points.specs.declared.points.Points.{Points}
use Rattle.xd_boole.proofs.AnyAcceptsLemmas.{has_refuses}
use Rattle.xd_points.specs.Meaning.{PointView, ServePoints, means, point}
use Rattle.xd_points.specs.Narrowing.{leaves_nothing}
use Rattle.xd_points.specs.Points.{AddsLabels, AddsTexts, ArePoints, Grows, LabelLeads, StandsFor, TextLeads, label_means, label_states, meaning, parts_accept, rests_accept, text_means, text_states}
use Rattle.xd_points.proofs.GrowsLemmas.{adds_push, grows_trans, keeps, keeps_same, label_stays, leads_here, state_means, text_stays}

chosen : (h lc lr pc pr u v : Bool) → (h && ((lc && (pc && not u)) && (lr && (pr && not v)))) ≡ (h && (((lc && lr) && (pc && pr)) && (not u && not v)))
chosen false lc lr pc pr u v = refl
chosen true false lr pc pr u v = refl
chosen true true false pc pr u v = and_false (pc && not u)
chosen true true true pc pr u v = part_chosen true pc pr u v

-- the move by which two parts go on as a choice says
pub move_added : (a : Automaton) (b : PatternStates) (p q r : Points) (ms after : List LabelMove) (parts : Parts) (choice : SideChoice) (class : LabelClass) (content rest : State)
    → after ≡ ms ++ record { class = class; content = content; rest = rest } ∷ [] → AllByRecursion (LabelLeads parts.pattern p) ms → Grows p q → Grows q r → ArePoints a b r
    → StandsFor a b q (point parts.left.content parts.pattern.content choice.contents.items) content → StandsFor a b r (point parts.left.rest parts.pattern.rest choice.rests.items) rest
    → AddsLabels parts.pattern a b p r ms after (λ w. class_has class w.label && (parts_accept a b w.content w.rest parts && choice_refuses b.taken.auto w.content w.rest choice))
move_added a b p q r ms after parts choice class content rest is below one two whole first second =
    let inside = point parts.left.content parts.pattern.content choice.contents.items in
    let behind = point parts.left.rest parts.pattern.rest choice.rests.items in
    adds_push (parts.pattern.content ∷ parts.pattern.rest ∷ []) label_states (label_means a b) a b (label_stays a b) p r ms after (record { class = class; content = content; rest = rest }) _ is below (grows_trans p q r one two) whole
    (leads_here a b q r inside content first (keeps q r two), (leads_here a b r r behind rest second (keeps_same r), tt))
    (λ w.
    ap (λ v. class_has class w.label && (v && meaning a b r rest.number w.rest)) (state_means a b q r inside content first (keeps q r two) w.content)
    ∙ ap (λ v. class_has class w.label && (means a b inside w.content && v)) (state_means a b r r behind rest second (keeps_same r) w.rest)
    ∙ chosen (class_has class w.label) (accepts a w.content parts.left.content) (accepts a w.rest parts.left.rest) (accepts b.auto w.content parts.pattern.content) (accepts b.auto w.rest parts.pattern.rest)
    (any_accepts b.taken.auto choice.contents.items w.content) (any_accepts b.taken.auto choice.rests.items w.rest))

-- the move for the texts of a group
pub text_added : (a : Automaton) (b : PatternStates) (p r : Points) (ms after : List TextMove) (rests : Rests) (rest : State) (group : Group TextClass State) (rights : List State)
    → after ≡ ms ++ record { words = group.class; rest = rest } ∷ [] → AllByRecursion (TextLeads rests.pattern p) ms → Grows p r → ArePoints a b r → StandsFor a b r (point rests.left rests.pattern rights) rest
    → ((w : TextFirst) → any_accepts b.taken.auto rights w.rest ≡ any_accepts b.taken.auto group.sides.items w.rest)
    → AddsTexts rests.pattern a b p r ms after (λ w. rests_accept a b w.rest rests && group_refuses class_has (λ s. accepts b.taken.auto w.rest s) w.characters group)
text_added a b p r ms after rests rest group rights is below grows whole state same =
    adds_push (rests.pattern ∷ []) text_states (text_means a b) a b (text_stays a b) p r ms after (record { words = group.class; rest = rest }) _ is below grows whole (leads_here a b r r (point rests.left rests.pattern rights) rest state (keeps_same r), tt)
    (λ w.
    ap (λ v. class_has group.class w.characters && v)
    (state_means a b r r (point rests.left rests.pattern rights) rest state (keeps_same r) w.rest ∙ ap (λ v. accepts a w.rest rests.left && (accepts b.auto w.rest rests.pattern && not v)) (same w)
    ∙ and_join (accepts a w.rest rests.left) (accepts b.auto w.rest rests.pattern) (not (any_accepts b.taken.auto group.sides.items w.rest)))
    ∙ part_group (rests_accept a b w.rest rests) (class_has group.class w.characters) (not (any_accepts b.taken.auto group.sides.items w.rest)))

-- what two moves share that the rights refuse
pub met : (h k s p n : Bool) → ((s && p) && ((h && k) && n)) ≡ (((h && s) && (k && p)) && n)
met true true s p n = refl
met true false true p n = and_false p
met true false false p n = refl
met false k s p n = and_false (s && p)

-- nothing is left of a state that must refuse
nothing_left : (a : Automaton) (b : PatternStates) → ServePoints a b → (s : State) (rights : List State) (d : Document) → has_state s rights ≡ true → (accepts b.auto d s && not (any_accepts b.taken.auto rights d)) ≡ false
nothing_left a b serve s rights d has = go (any_accepts b.taken.auto rights d) refl
  where
    go : (v : Bool) → any_accepts b.taken.auto rights d ≡ v → (accepts b.auto d s && not v) ≡ false
    go true e = and_false (accepts b.auto d s)
    go false e = ap (λ w. w && true) (sym (serve.same d s) ∙ has_refuses b.taken.auto s rights d has e)

-- nothing is left of a point where its pattern's state must refuse, or its left
pub nothing_meant : (a : Automaton) (b : PatternStates) → ServePoints a b → (p : PointView) (d : Document) → leaves_nothing b p ≡ true → means a b p d ≡ false
nothing_meant a b serve p d e = go (has_state p.pattern p.rights) refl e
  where
    go : (v : Bool) → has_state p.pattern p.rights ≡ v → (v || (nat_lt p.left.number b.shared && has_state p.left p.rights)) ≡ true → means a b p d ≡ false
    go true is h = ap (λ w. accepts a d p.left && w) (nothing_left a b serve p.pattern p.rights d is) ∙ and_false (accepts a d p.left)
    go false is h =
        let below : p.left.number < b.shared = let t = and_left (nat_lt p.left.number b.shared) (has_state p.left p.rights) h in grind (arith, nat_tests) in
        let none = not (any_accepts b.taken.auto p.rights d) in
        and_false_within (accepts a d p.left) (accepts b.auto d p.pattern) none
        (ap (λ w. w && none) (serve.shared d p.left below) ∙ nothing_left a b serve p.left p.rights d (and_right (nat_lt p.left.number b.shared) (has_state p.left p.rights) h))

-- no move is needed where nothing is left of a part
pub part_none : (h lc lr pc pr u v : Bool) (hc hr : Bool) → (hc ≡ true → (lc && (pc && not u)) ≡ false) → (hr ≡ true → (lr && (pr && not v)) ≡ false) → (hc || hr) ≡ true → (h && (((lc && lr) && (pc && pr)) && (not u && not v))) ≡ false
part_none h lc lr pc pr u v true hr one two e = sym (chosen h lc lr pc pr u v) ∙ ap (λ w. h && (w && (lr && (pr && not v)))) (one refl) ∙ and_false h
part_none h lc lr pc pr u v false hr one two e =
    sym (chosen h lc lr pc pr u v) ∙ ap (λ w. h && ((lc && (pc && not u)) && w)) (two e) ∙ ap (λ w. h && w) (and_false (lc && (pc && not u))) ∙ and_false h

pub text_none : (l p h k : Bool) → (l && (p && k)) ≡ false → ((l && p) && (h && k)) ≡ false
text_none false p h k e = refl
text_none true false h k e = refl
text_none true true h k e = ap (λ w. h && w) e ∙ and_false h
