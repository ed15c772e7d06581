-- On choices of sides.
use Rattle.std.proofs.Common.{◌≡◌, ℕ, ◌+◌, ◌<◌, ◌≤◌, Bool, true, false, not, ◌&&◌, ◌||◌, List, [], ◌∷◌, ◌++◌, if◌then◌else◌, filter, take, length, get_or, refl, ap, sym, ◌∙◌, subst}
use Rattle.std.proofs.lemmas.Bool.{not-true}
use Rattle.std.proofs.lemmas.List.Folds.{list_any_at, list_any-append, list_any_more}
use Rattle.xd_doc.specs.Document.{Document}
use Rattle.xd_doc.proofs.SortedNames.{or_false}
use Rattle.xd_doc.proofs.Bools.{and_left, and_right, or_assoc, and_false}
use Rattle.xd_doc.proofs.Lists.{all_push, all_last}
use Rattle.xd_auto.specs.Automaton.{Automaton, accepts}
use Rattle.xd_auto.specs.declared.auto.State.{State}
use Rattle.std.specs.List.{list_any}
use Rattle.xd_boole.specs.declared.groups.MoveSide.{MoveSide}
use Rattle.xd_boole.specs.declared.choices.SideChoice.{SideChoice}
use Rattle.xd_boole.specs.Meaning.{any_accepts, has_state, is_state, is_within, with_state}
use Rattle.xd_empty.specs.Parts.{is_marked}
use Rattle.xd_boole.specs.Groups.{AllPass, is_side, side_accepts}
use Rattle.xd_boole.specs.Universal.{MarkUniversal}
use Rattle.xd_boole.specs.Choices.{AddsChoice, AddsContent, AddsRest, AddsSide, AllChoices, CopiesChoices, IsChoiceOf, IsNoChoice, any_choice, choice_refuses, is_refused_alone}
use Rattle.xd_boole.proofs.Lists.{all_at, all_front, any_walked}
use Rattle.xd_boole.proofs.Bools.{either_side, implied_by, next_one, other_content, other_rest}
use Rattle.xd_boole.proofs.AnyAcceptsLemmas.{has_refuses, with_state_accepts, with_state_all, within_refuses}

-- the sets of a choice contain those of another
abbrev pub contains : SideChoice → SideChoice → Bool
contains k other = is_within k.contents.items other.contents.items && is_within k.rests.items other.rests.items

module _ (a : Automaton) (c d : Document) where
  refuses_content : (k : SideChoice) → choice_refuses a c d k ≡ true → any_accepts a k.contents.items c ≡ false
  refuses_content k e = not-true (any_accepts a k.contents.items c) (and_left (not (any_accepts a k.contents.items c)) (not (any_accepts a k.rests.items d)) e)

  refuses_rest : (k : SideChoice) → choice_refuses a c d k ≡ true → any_accepts a k.rests.items d ≡ false
  refuses_rest k e = not-true (any_accepts a k.rests.items d) (and_right (not (any_accepts a k.contents.items c)) (not (any_accepts a k.rests.items d)) e)

  -- then it refuses no more
  contains_implies : (k other : SideChoice) → contains k other ≡ true → choice_refuses a c d k ≡ true → choice_refuses a c d other ≡ true
  contains_implies k other within e =
      ap (λ w. not w && not (any_accepts a other.rests.items d))
      (within_refuses a other.contents.items k.contents.items c (and_left (is_within k.contents.items other.contents.items) (is_within k.rests.items other.rests.items) within) (refuses_content k e))
      ∙ ap not (within_refuses a other.rests.items k.rests.items d (and_right (is_within k.contents.items other.contents.items) (is_within k.rests.items other.rests.items) within) (refuses_rest k e))

refused_first : (o x : Bool) → o ≡ true → (o || x) ≡ true
refused_first o x e = ap (λ w. w || x) e

refused_later : (o x : Bool) → x ≡ true → (o || x) ≡ true
refused_later true x e = refl
refused_later false x e = e

both_true : (o x : Bool) → o ≡ true → x ≡ true → (o && x) ≡ true
both_true o x e f = ap (λ w. w && x) e ∙ f

drop_first : (o x k : Bool) → (o ≡ true → k ≡ true) → ((o || x) || k) ≡ (x || k)
drop_first true true k h = refl
drop_first true false k h = sym (h refl)
drop_first false x k h = refl

-- another choice refuses all that it does
pub choice_there : (k other : SideChoice) (choices : List SideChoice) (i : ℕ) → i < length choices → other ≡ get_or choices i other → contains k other ≡ true → AddsChoice k choices choices
choice_there k other choices i lt at within = record {
  refused = λ a c d. implied_by (any_choice a c d choices) (choice_refuses a c d k)
      (λ e. list_any_at (choice_refuses a c d) choices i other lt (ap (choice_refuses a c d) (sym at) ∙ contains_implies a c d k other within e));
  states = λ a h e. h;
}

-- without those that refuse no more than a new one
module _ (k : SideChoice) where
  abbrev pub others : SideChoice → Bool
  others o = not (contains o k)

  one_more : (a : Automaton) (c d : Document) (o : SideChoice) (os : List SideChoice) (b : Bool) → contains o k ≡ b → (any_choice a c d (filter others os) || choice_refuses a c d k) ≡ (any_choice a c d os || choice_refuses a c d k)
      → (any_choice a c d (filter others (o ∷ os)) || choice_refuses a c d k) ≡ (any_choice a c d (o ∷ os) || choice_refuses a c d k)
  one_more a c d o os true e before =
      ap (λ w. any_choice a c d (if not w then o ∷ filter others os else filter others os) || choice_refuses a c d k) e ∙ before
      ∙ sym (drop_first (choice_refuses a c d o) (any_choice a c d os) (choice_refuses a c d k) (contains_implies a c d o k e))
  one_more a c d o os false e before =
      ap (λ w. any_choice a c d (if not w then o ∷ filter others os else filter others os) || choice_refuses a c d k) e
      ∙ sym (or_assoc (choice_refuses a c d o) (any_choice a c d (filter others os)) (choice_refuses a c d k))
      ∙ ap (λ w. choice_refuses a c d o || w) before
      ∙ or_assoc (choice_refuses a c d o) (any_choice a c d os) (choice_refuses a c d k)

  refused_still : (a : Automaton) (c d : Document) (os : List SideChoice) → (any_choice a c d (filter others os) || choice_refuses a c d k) ≡ (any_choice a c d os || choice_refuses a c d k)
  refused_still a c d [] = refl
  refused_still a c d (o ∷ os) = one_more a c d o os (contains o k) refl (refused_still a c d os)

  states_still : (a : Automaton) (os : List SideChoice) → AllChoices a os → AllChoices a (filter others os)
  states_still a [] h = tt
  states_still a (o ∷ os) h = go (others o) (states_still a os h.1)
    where
      go : (b : Bool) → AllChoices a (filter others os) → AllChoices a (if b then o ∷ filter others os else filter others os)
      go true later = (h.0, later)
      go false later = later

  pub choice_added : (old kept new : List SideChoice) → kept ≡ filter others old → new ≡ kept ++ k ∷ [] → AddsChoice k old new
  choice_added old kept new some is = record {
    refused = λ a c d.
        ap (any_choice a c d) (is ∙ ap (λ (os : List SideChoice). os ++ k ∷ []) some) ∙ list_any-append (choice_refuses a c d) (filter others old) (k ∷ [])
        ∙ ap (λ w. any_choice a c d (filter others old) || w) (or_false (choice_refuses a c d k)) ∙ refused_still a c d old;
    states = λ a h e. subst (AllChoices a) (sym (is ∙ ap (λ (os : List SideChoice). os ++ k ∷ []) some)) (all_push (IsChoiceOf a) (filter others old) k (states_still a old h) e);
  }

any_alone : (a : Automaton) (c d : Document) (s : State) (os : List SideChoice) → accepts a c s ≡ false → list_any (is_refused_alone s) os ≡ true → any_choice a c d os ≡ true
any_alone a c d s [] e h = absurd (cc)
any_alone a c d s (o ∷ os) e h = go (is_refused_alone s o) refl h (λ later. any_alone a c d s os e later)
  where
    go : (b : Bool) → is_refused_alone s o ≡ b → (b || list_any (is_refused_alone s) os) ≡ true → (list_any (is_refused_alone s) os ≡ true → any_choice a c d os ≡ true) → (choice_refuses a c d o || any_choice a c d os) ≡ true
    go true is k later = refused_first (choice_refuses a c d o) (any_choice a c d os) (refused is)
      where
        refused : is_refused_alone s o ≡ true → choice_refuses a c d o ≡ true
        refused is =
            both_true (not (any_accepts a o.contents.items c)) (not (any_accepts a o.rests.items d))
            (ap not (within_refuses a o.contents.items (s ∷ []) c (and_left (is_within (s ∷ []) o.contents.items) (is_within [] o.rests.items) is) (ap (λ w. w || false) e)))
            (ap not (within_refuses a o.rests.items [] d (and_right (is_within (s ∷ []) o.contents.items) (is_within [] o.rests.items) is) refl))
    go false is k later = refused_later (choice_refuses a c d o) (any_choice a c d os) (later k)

-- one of the choices refuses all that a choice does to which the content is added
pub content_alone : (universal : List Bool) (side : MoveSide) (k : SideChoice) (choices : List SideChoice) → list_any (is_refused_alone side.content) choices ≡ true → AddsContent universal side k choices choices
content_alone universal side k choices has = record {
  refused = λ a u c d. implied_by (any_choice a c d choices) (choice_refuses a c d k && not (accepts a c side.content))
      (λ e. any_alone a c d side.content choices (not-true (accepts a c side.content) (and_right (choice_refuses a c d k) (not (accepts a c side.content)) e)) has);
  states = λ a h e s. h;
}

and_absorbed : (k s : Bool) → (k ≡ true → s ≡ false) → k ≡ (k && not s)
and_absorbed true s h = ap not (sym (h refl))
and_absorbed false s h = refl

-- the choice refuses what the move accepts already
pub side_refused : (universal : List Bool) (side : MoveSide) (k : SideChoice) (old new : List SideChoice) → (has_state side.content k.contents.items || has_state side.rest k.rests.items) ≡ true → AddsChoice k old new → AddsSide universal side k old new
side_refused universal side k old new has adds = record {
  refused = λ a u c d. adds.refused a c d ∙ ap (λ w. any_choice a c d old || w) (and_absorbed (choice_refuses a c d k) (side_accepts a c d side) (refused a c d (has_state side.content k.contents.items) refl has));
  states = λ a h e s. adds.states a h e;
}
  where
    refused : (a : Automaton) (c d : Document) (b : Bool) → has_state side.content k.contents.items ≡ b → (has_state side.content k.contents.items || has_state side.rest k.rests.items) ≡ true
        → choice_refuses a c d k ≡ true → side_accepts a c d side ≡ false
    refused a c d true is h e = ap (λ w. w && accepts a d side.rest) (has_refuses a side.content k.contents.items c is (refuses_content a c d k e))
    refused a c d false is h e =
        ap (λ w. accepts a c side.content && w) (has_refuses a side.rest k.rests.items d (sym (ap (λ w. w || has_state side.rest k.rests.items) is) ∙ h) (refuses_rest a c d k e)) ∙ and_false (accepts a c side.content)

-- the choice was extended in one way
module _ (universal : List Bool) (side : MoveSide) (k one : SideChoice) (old new : List SideChoice) (adds : AddsChoice one old new) where
  pub content_added : one.contents.items ≡ with_state side.content k.contents.items → one.rests.items ≡ k.rests.items → AddsContent universal side k old new
  content_added contents rests = record {
    refused = λ a u c d. adds.refused a c d ∙ ap (λ w. any_choice a c d old || w)
        (ap (λ w. not (any_accepts a w c) && not (any_accepts a one.rests.items d)) contents ∙ ap (λ w. not (any_accepts a (with_state side.content k.contents.items) c) && not (any_accepts a w d)) rests
        ∙ ap (λ w. not w && not (any_accepts a k.rests.items d)) (with_state_accepts a side.content k.contents.items c)
        ∙ other_content (accepts a c side.content) (any_accepts a k.contents.items c) (any_accepts a k.rests.items d));
    states = λ a h e s. adds.states a h
        (subst (AllPass (is_state a)) (sym contents) (with_state_all (λ w. is_state a w ≡ true) side.content k.contents.items e.0 s), subst (AllPass (is_state a)) (sym rests) e.1);
  }

  pub rest_added : one.contents.items ≡ k.contents.items → one.rests.items ≡ with_state side.rest k.rests.items → AddsRest universal side k old new
  rest_added contents rests = record {
    refused = λ a u c d. adds.refused a c d ∙ ap (λ w. any_choice a c d old || w)
        (ap (λ w. not (any_accepts a w c) && not (any_accepts a one.rests.items d)) contents ∙ ap (λ w. not (any_accepts a k.contents.items c) && not (any_accepts a w d)) rests
        ∙ ap (λ w. not (any_accepts a k.contents.items c) && not w) (with_state_accepts a side.rest k.rests.items d)
        ∙ other_rest (accepts a d side.rest) (any_accepts a k.contents.items c) (any_accepts a k.rests.items d));
    states = λ a h e s. adds.states a h
        (subst (AllPass (is_state a)) (sym contents) e.0, subst (AllPass (is_state a)) (sym rests) (with_state_all (λ w. is_state a w ≡ true) side.rest k.rests.items e.1 s));
  }

-- what accepts everything can't refuse
nothing_refused : (o k x : Bool) → x ≡ true → o ≡ (o || (k && not x))
nothing_refused o k x e = sym (or_false o) ∙ ap (λ w. o || w) (sym (ap (λ w. k && not w) e ∙ and_false k))

pub content_marked : (universal : List Bool) (side : MoveSide) (k : SideChoice) (old : List SideChoice) → is_marked universal side.content ≡ true → AddsContent universal side k old old
content_marked universal side k old marked = record {
  refused = λ a u c d. nothing_refused (any_choice a c d old) (choice_refuses a c d k) (accepts a c side.content) (u side.content marked c);
  states = λ a h e s. h;
}

pub rest_marked : (universal : List Bool) (side : MoveSide) (k : SideChoice) (old : List SideChoice) → is_marked universal side.rest ≡ true → AddsRest universal side k old old
rest_marked universal side k old marked = record {
  refused = λ a u c d. nothing_refused (any_choice a c d old) (choice_refuses a c d k) (accepts a d side.rest) (u side.rest marked d);
  states = λ a h e s. h;
}

-- an equal choice refuses the same
copy_refuses : (a : Automaton) (c d : Document) (k copy : SideChoice) → copy.contents.items ≡ k.contents.items → copy.rests.items ≡ k.rests.items → choice_refuses a c d copy ≡ choice_refuses a c d k
copy_refuses a c d k copy contents rests =
    ap (λ ss. not (any_accepts a ss c) && not (any_accepts a copy.rests.items d)) contents ∙ ap (λ ss. not (any_accepts a k.contents.items c) && not (any_accepts a ss d)) rests

copy_states : (a : Automaton) (k copy : SideChoice) → copy.contents.items ≡ k.contents.items → copy.rests.items ≡ k.rests.items → IsChoiceOf a k → IsChoiceOf a copy
copy_states a k copy contents rests h = (subst (AllPass (is_state a)) (sym contents) h.0, subst (AllPass (is_state a)) (sym rests) h.1)

-- the choice was extended in both ways
pub side_added : (universal : List Bool) (side : MoveSide) (k : SideChoice) (old mid new : List SideChoice) → AddsContent universal side k old mid → AddsRest universal side k mid new → AddsSide universal side k old new
side_added universal side k old mid new first second = record {
  refused = λ a u c d.
      second.refused a u c d ∙ ap (λ w. w || (choice_refuses a c d k && not (accepts a d side.rest))) (first.refused a u c d)
      ∙ either_side (any_choice a c d old) (choice_refuses a c d k) (accepts a c side.content) (accepts a d side.rest);
  states = λ a h e s.
      second.states a (first.states a h e (and_left (is_state a side.content) (is_state a side.rest) s)) e (and_right (is_state a side.content) (is_state a side.rest) s);
}

-- some choices were extended, and others are left
pub record ExtendsFirst (universal : List Bool) (side : MoveSide) (initial extended left : List SideChoice) : Type 0 where
  pub refused : (a : Automaton) → MarkUniversal a universal → (c d : Document) → (any_choice a c d extended || (any_choice a c d left && not (side_accepts a c d side))) ≡ (any_choice a c d initial && not (side_accepts a c d side))
  pub left_states : (a : Automaton) → AllChoices a initial → AllChoices a left
  pub states : (a : Automaton) → AllChoices a initial → is_side a side ≡ true → AllChoices a extended

pub extends_more : (universal : List Bool) (side : MoveSide) (k : SideChoice) (initial extended new left rest : List SideChoice) → AddsSide universal side k extended new → left ≡ rest ++ k ∷ [] → ExtendsFirst universal side initial extended left → ExtendsFirst universal side initial new rest
extends_more universal side k initial extended new left rest adds is before = record {
  refused = λ a u c d.
      ap (λ w. w || (any_choice a c d rest && not (side_accepts a c d side))) (adds.refused a u c d)
      ∙ next_one (any_choice a c d extended) (any_choice a c d rest) (choice_refuses a c d k) (side_accepts a c d side)
      ∙ ap (λ w. any_choice a c d extended || (w && not (side_accepts a c d side))) (sym (ap (any_choice a c d) is ∙ list_any-append (choice_refuses a c d) rest (k ∷ [])))
      ∙ before.refused a u c d;
  left_states = λ a h. all_front (IsChoiceOf a) rest k (subst (AllChoices a) is (before.left_states a h));
  states = λ a h s. adds.states a (before.states a h s) (all_last (IsChoiceOf a) rest k (subst (AllChoices a) is (before.left_states a h))) s;
}

-- the same choice, copied, was extended by the content
pub content_copied : (universal : List Bool) (side : MoveSide) (k copy : SideChoice) (old new : List SideChoice) → copy.contents.items ≡ k.contents.items → copy.rests.items ≡ k.rests.items → AddsContent universal side copy old new → AddsContent universal side k old new
content_copied universal side k copy old new contents rests adds = record {
  refused = λ a u c d. adds.refused a u c d ∙ ap (λ w. any_choice a c d old || (w && not (accepts a c side.content))) (copy_refuses a c d k copy contents rests);
  states = λ a h e s. adds.states a h (copy_states a k copy contents rests e) s;
}

-- no state need refuse
pub is_no_choice : (k : SideChoice) (choices : List SideChoice) → k.contents.items ≡ [] → k.rests.items ≡ [] → choices ≡ k ∷ [] → IsNoChoice choices
is_no_choice k choices contents rests is = record {
  refused = λ a c d.
      ap (any_choice a c d) is ∙ ap (λ ss. (not (any_accepts a ss c) && not (any_accepts a k.rests.items d)) || false) contents ∙ ap (λ ss. (true && not (any_accepts a ss d)) || false) rests;
  states = λ a. subst (AllChoices a) (sym is) ((subst (AllPass (is_state a)) (sym contents) tt, subst (AllPass (is_state a)) (sym rests) tt), tt);
}

-- the first of some choices were copied
pub record CopiesFirst (choices : List SideChoice) (i : ℕ) (copies : List SideChoice) : Type 0 where
  pub refused : (a : Automaton) (c d : Document) → any_choice a c d copies ≡ any_choice a c d (take i choices)
  pub states : (a : Automaton) → AllChoices a choices → AllChoices a copies

pub copies_more : (choices : List SideChoice) (i : ℕ) (k copy : SideChoice) (old new : List SideChoice) → i < length choices → k ≡ get_or choices i k → copy.contents.items ≡ k.contents.items → copy.rests.items ≡ k.rests.items
    → new ≡ old ++ copy ∷ [] → CopiesFirst choices i old → CopiesFirst choices (i + 1) new
copies_more choices i k copy old new lt at contents rests is before = record {
  refused = λ a c d.
      ap (any_choice a c d) is ∙ list_any-append (choice_refuses a c d) old (copy ∷ [])
      ∙ ap (λ w. any_choice a c d old || w) (or_false (choice_refuses a c d copy) ∙ copy_refuses a c d k copy contents rests)
      ∙ ap (λ w. w || choice_refuses a c d k) (before.refused a c d)
      ∙ ap (λ w. any_choice a c d (take i choices) || choice_refuses a c d w) at ∙ sym (list_any_more (choice_refuses a c d) choices i k lt);
  states = λ a h. subst (AllChoices a) (sym is) (all_push (IsChoiceOf a) old copy (before.states a h) (copy_states a k copy contents rests (all_at (IsChoiceOf a) choices h i k lt at)));
}

pub copies_all : (choices : List SideChoice) (i : ℕ) (copies : List SideChoice) → length choices ≤ i → CopiesFirst choices i copies → CopiesChoices choices copies
copies_all choices i copies le h = record {
  refused = λ a c d. h.refused a c d ∙ any_walked (choice_refuses a c d) choices i le;
  states = h.states;
}
