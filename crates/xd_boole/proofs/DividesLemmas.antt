-- How a group is divided by a move.
use Rattle.std.proofs.Common.{◌≡◌, ℕ, ◌+◌, ◌<◌, length, take, get_or, Bool, true, false, not, ◌&&◌, ◌||◌, List, [], ◌∷◌, ◌++◌, Option, Some, None, refl, sym, ap, ◌∙◌, subst}
use Rattle.std.specs.List.{list_any}
use Rattle.std.proofs.lemmas.List.Folds.{list_any-append, list_any_more}
use Rattle.xd_doc.proofs.SortedNames.{or_false as or_nothing}
use Rattle.xd_doc.proofs.Bools.{or_join}
use Rattle.xd_doc.proofs.Lists.{all_push, all_last}
use Rattle.xd_boole.specs.declared.groups.Group.{Group}
use Rattle.xd_boole.specs.Groups.{AddsInside, AddsOutside, AllPass, AllSides, Divides, HasSide, IsPartAdded, IsPartBy, any_group, group_refuses}
use Rattle.xd_boole.proofs.Lists.{all_front}
use Rattle.xd_boole.proofs.Bools.{and_more, divided_inside, divided_both, next_one}

or_false : (x y : Bool) → (x || (y || false)) ≡ (x || y)
or_false true y = refl
or_false false true = refl
or_false false false = refl

none_matches : (h c a s : Bool) → (h && c) ≡ false → ((h && not a) || false) ≡ ((h && not a) && not (c && s))
none_matches false c a s e = refl
none_matches true true a s e = absurd (cc)
none_matches true false true s e = refl
none_matches true false false s e = refl

-- a side was added, or is there already
pub side_added : {S : Type 0} (sides made : List S) (side : S) → made ≡ sides ++ side ∷ [] → HasSide sides side made
side_added sides made side is = record {
  taken = λ p. ap (list_any p) is ∙ list_any-append p sides (side ∷ []) ∙ ap (λ w. list_any p sides || w) (or_nothing (p side));
  all = λ p h s. subst (AllPass p) (sym is) (all_push (λ w. p w ≡ true) sides side h s);
}

said_already : (h a c s : Bool) → (a ≡ false → s ≡ false) → ((h && not a) || false) ≡ ((h && not a) && not (c && s))
said_already false a c s e = refl
said_already true true c s e = refl
said_already true false true true e = let no : true ≡ false = e refl in absurd (cc)
said_already true false true false e = refl
said_already true false false s e = refl

module _ {C S : Type 0} (has : C → List ℕ → Bool) (class : C) (side : S) where
  -- another move said the same of all names of the group
  pub divides_there : (g : Group C S) (old new : List (Group C S)) → new ≡ old ++ g ∷ [] → ((p : S → Bool) → list_any p g.sides.items ≡ false → p side ≡ false) → Divides has class side g old new
  divides_there g old new is among = record {
    taken = λ p x.
        ap (any_group has p x) is ∙ list_any-append (group_refuses has p x) old (g ∷ [])
        ∙ ap (λ w. any_group has p x old || w) (said_already (has g.class x) (list_any p g.sides.items) (has class x) (p side) (among p));
    sides = λ p h k s. subst (AllSides p) (sym is) (all_push (λ (w : Group C S). AllPass p w.sides.items) old g h k);
  }

  -- the group of the names that the move matches
  pub record IsInside (g i : Group C S) : Type 0 where
    pub class_is : IsPartBy has true g.class class (Some i.class)
    pub sides_are : HasSide g.sides.items side i.sides.items

  inside_refuses : (g i : Group C S) → IsInside g i → (p : S → Bool) (x : List ℕ) → group_refuses has p x i ≡ ((has g.class x && has class x) && not (list_any p g.sides.items || p side))
  inside_refuses g i is p x =
      ap (λ w. w && not (list_any p i.sides.items)) (is.class_is x)
      ∙ ap (λ w. (has g.class x && has class x) && not w)
      (is.sides_are.taken p)

  inside_sides : (g i : Group C S) → IsInside g i → (p : S → Bool) → AllPass p g.sides.items → p side ≡ true → AllPass p i.sides.items
  inside_sides g i is p h s = is.sides_are.all p h s

  -- it matches none of them
  pub divides_none : (g : Group C S) (old new : List (Group C S)) → new ≡ old ++ g ∷ [] → IsPartBy has true g.class class None → Divides has class side g old new
  divides_none g old new is none = record {
    taken = λ p x.
        ap (any_group has p x) is ∙ list_any-append (group_refuses has p x) old (g ∷ [])
        ∙ ap (λ w. any_group has p x old || w) (none_matches (has g.class x) (has class x) (list_any p g.sides.items) (p side) (none x));
    sides = λ p h k s. subst (AllSides p) (sym is) (all_push (λ (w : Group C S). AllPass p w.sides.items) old g h k);
  }

  -- it matches all of them
  divides_all : (g i : Group C S) (old new : List (Group C S)) → new ≡ old ++ i ∷ [] → IsInside g i → IsPartBy has false g.class class None → Divides has class side g old new
  divides_all g i old new is inside none = record {
    taken = λ p x.
        ap (any_group has p x) is ∙ list_any-append (group_refuses has p x) old (i ∷ [])
        ∙ ap (λ w. any_group has p x old || (w || false)) (inside_refuses g i inside p x)
        ∙ ap (λ w. any_group has p x old || w) (divided_inside (has g.class x) (has class x) (list_any p g.sides.items) (p side) (none x));
    sides = λ p h k s. subst (AllSides p) (sym is) (all_push (λ (w : Group C S). AllPass p w.sides.items) old i h (inside_sides g i inside p k s));
  }

  -- it matches some of them
  divides_both : (g i o : Group C S) (old mid new : List (Group C S)) → mid ≡ old ++ i ∷ [] → new ≡ mid ++ o ∷ [] → IsInside g i
      → IsPartBy has false g.class class (Some o.class) → o.sides.items ≡ g.sides.items → Divides has class side g old new
  divides_both g i o old mid new first second inside outside same = record {
    taken = λ p x.
        let none : List S → Bool = λ sides. not (list_any p sides) in
        let outer : group_refuses has p x o ≡ ((has g.class x && not (has class x)) && none g.sides.items) =
        ap (λ w. w && none o.sides.items) (outside x) ∙ ap (λ w. (has g.class x && not (has class x)) && none w) same in
        ap (any_group has p x) second ∙ list_any-append (group_refuses has p x) mid (o ∷ [])
        ∙ ap (λ w. any_group has p x w || (group_refuses has p x o || false)) first
        ∙ ap (λ w. w || (group_refuses has p x o || false)) (list_any-append (group_refuses has p x) old (i ∷ []))
        ∙ or_join (any_group has p x old) (group_refuses has p x i || false) (group_refuses has p x o || false)
        ∙ ap (λ w. any_group has p x old || w)
        (or_false (group_refuses has p x i || false) (group_refuses has p x o)
        ∙ ap (λ w. (group_refuses has p x i || false) || w) outer
        ∙ ap (λ w. (w || false) || ((has g.class x && not (has class x)) && none g.sides.items)) (inside_refuses g i inside p x)
        ∙ or_first ((has g.class x && has class x) && not (list_any p g.sides.items || p side)) ((has g.class x && not (has class x)) && none g.sides.items)
        ∙ divided_both (has g.class x) (has class x) (list_any p g.sides.items) (p side));
    sides = λ p h k s.
        let mids : AllSides p mid = subst (AllSides p) (sym first) (all_push (λ (w : Group C S). AllPass p w.sides.items) old i h (inside_sides g i inside p k s)) in
        subst (AllSides p) (sym second) (all_push (λ (w : Group C S). AllPass p w.sides.items) mid o mids (subst (AllPass p) (sym same) k));
  }
    where
      or_first : (x y : Bool) → ((x || false) || y) ≡ (x || y)
      or_first true y = refl
      or_first false y = refl

  -- the names that it matches stand after the groups, and then those that it doesn't
  pub divides : (g : Group C S) (inside : C) (old mid new : List (Group C S)) → IsPartBy has true g.class class (Some inside)
      → AddsInside inside g.sides.items side old mid → AddsOutside has class g mid new → Divides has class side g old new
  divides g inside old mid new is first second = divides_in second.part second.is second.items
    where
      group_is : IsInside g first.group
      group_is = record { class_is = λ x. ap (λ w. has w x) first.class_is ∙ is x; sides_are = first.sides_are }

      divides_in : (part : Option C) → IsPartBy has false g.class class part → IsPartAdded g mid new part → Divides has class side g old new
      divides_in None none same = divides_all g first.group old new (same ∙ first.items) group_is none
      divides_in (Some part) outside added = divides_both g first.group (record g { class = part }) old mid new first.items added group_is outside refl

  -- some groups were divided, and others are left
  pub record DividesFirst (initial divided left : List (Group C S)) : Type 0 where
    pub taken : (p : S → Bool) (x : List ℕ) → (any_group has p x divided || (any_group has p x left && not (has class x && p side))) ≡ (any_group has p x initial && not (has class x && p side))
    pub left_sides : (p : S → Bool) → AllSides p initial → AllSides p left
    pub sides : (p : S → Bool) → AllSides p initial → p side ≡ true → AllSides p divided

  pub divided_more : (g : Group C S) (divided new left initial rest : List (Group C S)) → Divides has class side g divided new → left ≡ rest ++ g ∷ []
      → DividesFirst initial divided left → DividesFirst initial new rest
  divided_more g divided new left initial rest divides is before = record {
    taken = λ p x.
        ap (λ w. w || (any_group has p x rest && not (has class x && p side))) (divides.taken p x)
        ∙ next_one (any_group has p x divided) (any_group has p x rest) (group_refuses has p x g) (has class x && p side)
        ∙ ap (λ w. any_group has p x divided || (w && not (has class x && p side))) (sym (ap (any_group has p x) is ∙ list_any-append (group_refuses has p x) rest (g ∷ [])))
        ∙ before.taken p x;
    left_sides = λ p h. all_front (λ (w : Group C S). AllPass p w.sides.items) rest g (subst (AllSides p) is (before.left_sides p h));
    sides = λ p h s. divides.sides p (before.sides p h s) (all_last (λ (w : Group C S). AllPass p w.sides.items) rest g (subst (AllSides p) is (before.left_sides p h))) s;
  }

-- divided by one more move
pub divided_by_more : {X : Type 0} (p : X → Bool) (xs : List X) (i : ℕ) (x : X) (now next initial : Bool) → i < length xs → x ≡ get_or xs i x
    → next ≡ (now && not (p x)) → now ≡ (initial && not (list_any p (take i xs))) → next ≡ (initial && not (list_any p (take (i + 1) xs)))
divided_by_more {X} p xs i x now next initial lt at step before =
    step ∙ ap (λ w. w && not (p x)) before ∙ and_more initial (list_any p (take i xs)) (p x)
    ∙ ap (λ w. initial && not w) (ap (λ w. list_any p (take i xs) || p w) at ∙ sym (list_any_more p xs i x lt))
