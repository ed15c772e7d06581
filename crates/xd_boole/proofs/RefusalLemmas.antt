-- How a class is put into groups, with the choices by which what stands before a label is refused.
use Rattle.std.proofs.Common.{◌≡◌, ℕ, ◌+◌, ◌<◌, ◌≤◌, length, length-append, take, get_or, Bool, true, false, not, ◌&&◌, ◌||◌, List, [], ◌∷◌, ◌++◌, Some, None, refl, sym, ap, ◌∙◌, subst, arith}
use Rattle.std.specs.List.{list_any}
use Rattle.std.proofs.lemmas.List.Folds.{list_any-append}
use Rattle.xd_doc.specs.ClassForms.{IsPart}
use Rattle.xd_doc.specs.Classes.{LabelClass, class_has}
use Rattle.xd_doc.proofs.Bools.{and_true, and_not_or}
use Rattle.xd_doc.proofs.SortedNames.{or_false}
use Rattle.xd_doc.proofs.Lists.{all_push, all_last}
use Rattle.xd_auto.specs.declared.auto.LabelMove.{LabelMove}
use Rattle.xd_auto.specs.Automaton.{Automaton}
use Rattle.xd_boole.specs.declared.choices.SideChoice.{SideChoice}
use Rattle.xd_boole.specs.declared.refusals.Narrowed.{Narrowed}
use Rattle.xd_boole.specs.declared.refusals.Parted.{Parted}
use Rattle.xd_boole.specs.declared.refusals.LabelRefusal.{LabelRefusal}
use Rattle.xd_boole.specs.Meaning.{ElementFirst, move_takes}
use Rattle.xd_boole.specs.Groups.{is_side, label_side, side_accepts}
use Rattle.xd_boole.specs.Choices.{AllChoices, CopiesChoices, ExtendsAll, any_choice}
use Rattle.xd_boole.specs.Refusals.{AddsRefusals, AllRefusals, LeadInside, Narrows, NarrowsMore, Parts, any_refused, is_refused_by, label_refused}
use Rattle.xd_boole.specs.Universal.{MarkUniversal}
use Rattle.xd_boole.proofs.Lists.{all_at, all_front, any_walked}
use Rattle.xd_boole.proofs.DividesLemmas.{divided_by_more}

-- on the labels of the class one move more is to be refused
less_none : (c s n : Bool) → n ≡ false → c ≡ (c && not n)
less_none true s n e = sym (ap not e)
less_none false s n e = refl

extended_tells : (c l s : Bool) → ((c && not s) && not l) ≡ ((c && not l) && not s)
extended_tells false l s = refl
extended_tells true true true = refl
extended_tells true true false = refl
extended_tells true false true = refl
extended_tells true false false = refl

apart_here : (h k : Bool) → h ≡ true → (h && k) ≡ false → k ≡ false
apart_here h k e f = sym (ap (λ w. w && k) e) ∙ f

module _ (universal : List Bool) (class : LabelClass) (m : LabelMove) (old : Narrowed) where
  pub narrows_apart : ((x : List ℕ) → (class_has class x && class_has m.class x) ≡ false) → NarrowsMore universal class m old old
  narrows_apart apart = record {
    refused = λ a u q has.
        less_none (is_refused_by a q old.choices.items old.moves.items) true (move_takes a q m)
        (ap (λ w. w && side_accepts a q.content q.rest (label_side m)) (apart_here (class_has class q.label) (class_has m.class q.label) has (apart q.label)));
    states = λ a h s. h;
    inside = λ a h s. h;
    fewer = omega arith;
  }

  pub narrows_whole : (new : Narrowed) → new.moves.items ≡ old.moves.items → ((x : List ℕ) → class_has class x ≡ true → class_has m.class x ≡ true) → ExtendsAll universal (label_side m) old.choices.items new.choices.items
      → NarrowsMore universal class m old new
  narrows_whole new same whole extends = record {
    refused = λ a u q has.
        let s = side_accepts a q.content q.rest (label_side m) in
        ap (λ w. w && not (list_any (move_takes a q) new.moves.items)) (extends.refused a u q.content q.rest)
        ∙ ap (λ ms. (any_choice a q.content q.rest old.choices.items && not s) && not (list_any (move_takes a q) ms)) same
        ∙ extended_tells (any_choice a q.content q.rest old.choices.items) (list_any (move_takes a q) old.moves.items) s
        ∙ ap (λ w. is_refused_by a q old.choices.items old.moves.items && not (w && s)) (sym (whole q.label has));
    states = λ a h s. extends.states a h s;
    inside = λ a h s. subst (LeadInside a) (sym same) h;
    fewer = let e = ap (λ (ms : List LabelMove). length ms) same in omega (arith, e);
  }

  pub narrows_part : (new : Narrowed) → new.choices.items ≡ old.choices.items → new.moves.items ≡ old.moves.items ++ m ∷ [] → NarrowsMore universal class m old new
  narrows_part new same more = record {
    refused = λ a u q has.
        ap (λ ks. any_choice a q.content q.rest ks && not (list_any (move_takes a q) new.moves.items)) same
        ∙ ap (λ w. any_choice a q.content q.rest old.choices.items && not w)
        (ap (list_any (move_takes a q)) more ∙ list_any-append (move_takes a q) old.moves.items (m ∷ []) ∙ ap (λ w. list_any (move_takes a q) old.moves.items || w) (or_false (move_takes a q m)))
        ∙ and_not_or (any_choice a q.content q.rest old.choices.items) (list_any (move_takes a q) old.moves.items) (move_takes a q m);
    states = λ a h s. subst (AllChoices a) (sym same) h;
    inside = λ a h s. subst (LeadInside a) (sym more) (all_push (λ w. is_side a (label_side w) ≡ true) old.moves.items m h s);
    fewer = let e = ap (λ (ms : List LabelMove). length ms) more in omega (arith, e, length-append old.moves.items (m ∷ []));
  }

-- the first of the moves were looked at
pub record NarrowsFirst (universal : List Bool) (class : LabelClass) (choices : List SideChoice) (moves : List LabelMove) (i : ℕ) (n : Narrowed) : Type 0 where
  pub refused : (a : Automaton) → MarkUniversal a universal → (q : ElementFirst) → class_has class q.label ≡ true
      → is_refused_by a q n.choices.items n.moves.items ≡ (any_choice a q.content q.rest choices && not (list_any (move_takes a q) (take i moves)))
  pub states : (a : Automaton) → AllChoices a choices → LeadInside a moves → AllChoices a n.choices.items
  pub inside : (a : Automaton) → LeadInside a moves → LeadInside a n.moves.items
  pub fewer : length n.moves.items ≤ i

pub narrowed_none : (universal : List Bool) (class : LabelClass) (moves : List LabelMove) (n : Narrowed) → n.moves.items ≡ [] → NarrowsFirst universal class n.choices.items moves 0 n
narrowed_none universal class moves n none = record {
  refused = λ a u q has. ap (λ ms. is_refused_by a q n.choices.items ms) none;
  states = λ a h k. h;
  inside = λ a h. subst (LeadInside a) (sym none) tt;
  fewer = let e = ap (λ (ms : List LabelMove). length ms) none in omega (arith, e);
}

pub narrowed_more : (universal : List Bool) (class : LabelClass) (choices : List SideChoice) (moves : List LabelMove) (i : ℕ) (m : LabelMove) (old new : Narrowed) → i < length moves → m ≡ get_or moves i m
    → NarrowsMore universal class m old new → NarrowsFirst universal class choices moves i old → NarrowsFirst universal class choices moves (i + 1) new
narrowed_more universal class choices moves i m old new lt at more before = record {
  refused = λ a u q has.
      divided_by_more (move_takes a q) moves i m (is_refused_by a q old.choices.items old.moves.items) (is_refused_by a q new.choices.items new.moves.items) (any_choice a q.content q.rest choices) lt at
      (more.refused a u q has) (before.refused a u q has);
  states = λ a h k. more.states a (before.states a h k) (all_at (λ w. is_side a (label_side w) ≡ true) moves k i m lt at);
  inside = λ a k. more.inside a (before.inside a k) (all_at (λ w. is_side a (label_side w) ≡ true) moves k i m lt at);
  fewer = omega (arith, more.fewer, before.fewer);
}

pub narrowed_all : (universal : List Bool) (class : LabelClass) (choices : List SideChoice) (moves : List LabelMove) (i : ℕ) (n : Narrowed) → length moves ≤ i → i ≤ length moves → NarrowsFirst universal class choices moves i n → Narrows universal class choices moves n
narrowed_all universal class choices moves i n le ge h = record {
  refused = λ a u q has. h.refused a u q has ∙ ap (λ w. any_choice a q.content q.rest choices && not w) (any_walked (move_takes a q) moves i le);
  states = h.states;
  inside = h.inside;
  fewer = omega (arith, h.fewer);
}

-- the class is divided in halves
pub parts_half : (universal : List Bool) (choices : List SideChoice) (moves : List LabelMove) (depth : ℕ) (p : Parted) → p.depth < depth → CopiesChoices choices p.choices.items → p.moves.items ≡ moves → Parts universal choices moves depth p
parts_half universal choices moves depth p less copies same = record {
  inside = λ a u q has.
      ap (λ w. w && not (list_any (move_takes a q) p.moves.items)) (copies.refused a q.content q.rest) ∙ ap (λ ms. is_refused_by a q choices ms) same;
  outside = λ a u q has. ap (λ ms. is_refused_by a q choices ms) same;
  states = λ a h k. copies.states a h;
  leads = λ a h. subst (LeadInside a) (sym same) h;
  less = let e = ap (λ (ms : List LabelMove). length ms) same in omega (arith, e);
}

-- it is divided by the last move
taken_here : (c l t s : Bool) → t ≡ s → ((c && not s) && not l) ≡ (c && not (l || t))
taken_here c l t s e = extended_tells c l s ∙ sym (and_not_or c l s) ∙ ap (λ w. c && not (l || w)) (sym e)

left_out : (c l t : Bool) → t ≡ false → (c && not l) ≡ (c && not (l || t))
left_out c l t e = ap (λ w. c && not w) (sym (or_false l) ∙ ap (λ w. l || w) (sym e))

pub parts_last : (universal : List Bool) (choices copies : List SideChoice) (rest : List LabelMove) (m : LabelMove) (moves : List LabelMove) (depth : ℕ) (p : Parted) → CopiesChoices choices copies → ExtendsAll universal (label_side m) copies p.choices.items
    → moves ≡ rest ++ m ∷ [] → p.moves.items ≡ rest → p.part ≡ m.class → p.depth ≡ depth → Parts universal choices moves depth p
parts_last universal choices copies rest m moves depth p copied extends is left part same = record {
  inside = λ a u q has.
      let s = side_accepts a q.content q.rest (label_side m) in
      let c = any_choice a q.content q.rest choices in
      let there : class_has m.class q.label ≡ true = ap (λ (k : LabelClass). class_has k q.label) (sym part) ∙ has in
      ap (λ ms. is_refused_by a q p.choices.items ms) left
      ∙ ap (λ w. w && not (list_any (move_takes a q) rest)) (extends.refused a u q.content q.rest ∙ ap (λ w. w && not s) (copied.refused a q.content q.rest))
      ∙ taken_here c (list_any (move_takes a q) rest) (move_takes a q m) s (ap (λ w. w && s) there)
      ∙ ap (λ w. c && not w) (sym (whole a q));
  outside = λ a u q has.
      let s = side_accepts a q.content q.rest (label_side m) in
      let c = any_choice a q.content q.rest choices in
      let there : class_has m.class q.label ≡ false = ap (λ (k : LabelClass). class_has k q.label) (sym part) ∙ has in
      ap (λ ms. is_refused_by a q choices ms) left ∙ left_out c (list_any (move_takes a q) rest) (move_takes a q m) (ap (λ w. w && s) there) ∙ ap (λ w. c && not w) (sym (whole a q));
  states = λ a h k. extends.states a (copied.states a h) (all_last (λ w. is_side a (label_side w) ≡ true) rest m (subst (LeadInside a) is k));
  leads = λ a k. subst (LeadInside a) (sym left) (all_front (λ w. is_side a (label_side w) ≡ true) rest m (subst (LeadInside a) is k));
  less =
      let e = ap (λ (ms : List LabelMove). length ms) is in
      let f = ap (λ (ms : List LabelMove). length ms) left in
      omega (arith, e, f, same, length-append rest (m ∷ []));
}
  where
    whole : (a : Automaton) (q : ElementFirst) → list_any (move_takes a q) moves ≡ (list_any (move_takes a q) rest || move_takes a q m)
    whole a q = ap (list_any (move_takes a q)) is ∙ list_any-append (move_takes a q) rest (m ∷ []) ∙ ap (λ w. list_any (move_takes a q) rest || w) (or_false (move_takes a q m))

-- nothing is refused by no choice
adds_nothing : (o h r : Bool) → (h ≡ true → r ≡ false) → o ≡ (o || (h && r))
adds_nothing true h r e = refl
adds_nothing false true r e = sym (e refl)
adds_nothing false false r e = refl

same_where : (o h x y : Bool) → (h ≡ true → x ≡ y) → (o || (h && x)) ≡ (o || (h && y))
same_where true h x y e = refl
same_where false true x y e = e refl
same_where false false x y e = refl

both_parts : (o h t ri ro r : Bool) → (h ≡ true → t ≡ true → ri ≡ r) → (h ≡ true → t ≡ false → ro ≡ r) → ((o || ((h && t) && ri)) || ((h && not t) && ro)) ≡ (o || (h && r))
both_parts true h t ri ro r e f = refl
both_parts false false t ri ro r e f = refl
both_parts false true true ri ro r e f = or_false ri ∙ e refl refl
both_parts false true false ri ro r e f = f refl refl

module _ (a : Automaton) (universal : List Bool) (u : MarkUniversal a universal) (class : LabelClass) (choices : List SideChoice) (moves : List LabelMove) (n : Narrowed) (narrows : Narrows universal class choices moves n) where
  -- no choice is left
  pub refused_none : (groups : List LabelRefusal) → n.choices.items ≡ [] → AddsRefusals a class choices moves groups groups
  refused_none groups none = record {
    taken = λ q.
        adds_nothing (any_refused a q groups) (class_has class q.label) (is_refused_by a q choices moves)
        (λ has. sym (narrows.refused a u q has) ∙ ap (λ ks. is_refused_by a q ks n.moves.items) none);
    states = λ h. h;
  }

  -- no move is left
  pub refused_one : (old new : List LabelRefusal) (g : LabelRefusal) → new ≡ old ++ g ∷ [] → g.class ≡ class → g.choices.items ≡ n.choices.items → n.moves.items ≡ [] → AllChoices a choices → LeadInside a moves → AddsRefusals a class choices moves old new
  refused_one old new g is here same none h k = record {
    taken = λ q.
        ap (any_refused a q) is ∙ list_any-append (label_refused a q) old (g ∷ []) ∙ ap (λ w. any_refused a q old || w) (or_false (label_refused a q g))
        ∙ ap (λ (c : LabelClass). any_refused a q old || (class_has c q.label && any_choice a q.content q.rest g.choices.items)) here
        ∙ same_where (any_refused a q old) (class_has class q.label) (any_choice a q.content q.rest g.choices.items) (is_refused_by a q choices moves)
        (λ has.
        ap (any_choice a q.content q.rest) same ∙ sym (and_true (any_choice a q.content q.rest n.choices.items)) ∙ ap (λ ms. is_refused_by a q n.choices.items ms) (sym none)
        ∙ narrows.refused a u q has);
    states = λ r. subst (AllRefusals a) (sym is) (all_push (λ (g : LabelRefusal). AllChoices a g.choices.items) old g r (subst (AllChoices a) (sym same) (narrows.states a h k)));
  }

  module _ (depth : ℕ) (p : Parted) (parts : Parts universal n.choices.items n.moves.items depth p) where
    -- the part has nothing of the class
    pub refused_outside : (old new : List LabelRefusal) → IsPart true class p.part None → AddsRefusals a class n.choices.items p.moves.items old new → AddsRefusals a class choices moves old new
    refused_outside old new none adds = record {
      taken = λ q.
          adds.taken q
          ∙ same_where (any_refused a q old) (class_has class q.label) (is_refused_by a q n.choices.items p.moves.items) (is_refused_by a q choices moves)
          (λ has. parts.outside a u q (apart_here (class_has class q.label) (class_has p.part q.label) has (none q.label)) ∙ narrows.refused a u q has);
      states = adds.states;
    }

    -- it has the whole class
    pub refused_inside : (old new : List LabelRefusal) → IsPart false class p.part None → AddsRefusals a class p.choices.items p.moves.items old new → AddsRefusals a class choices moves old new
    refused_inside old new none adds = record {
      taken = λ q.
          adds.taken q
          ∙ same_where (any_refused a q old) (class_has class q.label) (is_refused_by a q p.choices.items p.moves.items) (is_refused_by a q choices moves)
          (λ has. parts.inside a u q (there (class_has class q.label) (class_has p.part q.label) has (none q.label)) ∙ narrows.refused a u q has);
      states = adds.states;
    }
      where
        there : (h k : Bool) → h ≡ true → (h && not k) ≡ false → k ≡ true
        there h true e f = refl
        there true false e f = sym f
        there false false e f = absurd (cc)

    -- it has some of the class
    pub refused_both : (inside outside : LabelClass) (old mid new : List LabelRefusal) → IsPart true class p.part (Some inside) → IsPart false class p.part (Some outside) → AddsRefusals a inside p.choices.items p.moves.items old mid
        → AddsRefusals a outside n.choices.items p.moves.items mid new → AddsRefusals a class choices moves old new
    refused_both inside outside old mid new one two first second = record {
      taken = λ q.
          let ri = is_refused_by a q p.choices.items p.moves.items in
          let ro = is_refused_by a q n.choices.items p.moves.items in
          second.taken q ∙ ap (λ w. w || (class_has outside q.label && ro)) (first.taken q)
          ∙ ap (λ w. (any_refused a q old || (w && ri)) || (class_has outside q.label && ro)) (one q.label)
          ∙ ap (λ w. (any_refused a q old || ((class_has class q.label && class_has p.part q.label) && ri)) || (w && ro)) (two q.label)
          ∙ both_parts (any_refused a q old) (class_has class q.label) (class_has p.part q.label) ri ro (is_refused_by a q choices moves)
          (λ has there. parts.inside a u q there ∙ narrows.refused a u q has) (λ has there. parts.outside a u q there ∙ narrows.refused a u q has);
      states = λ h. second.states (first.states h);
    }
