-- Runs through points are the pattern's runs on what the points mean.
use Rattle.std.proofs.Common.{ℕ, zero, suc, ◌<◌, ◌≡◌, inl, inr, Bool, true, false, not, nat_eq, ◌&&◌, ◌||◌, List, [], ◌∷◌, take, length, Option, Some, None, refl, sym, ap, ◌∙◌, subst, arith}
use Rattle.std.specs.List.{AllZip, list_any, slice_get}
use Rattle.std.specs.Option.{IsSomeAnd}
use Rattle.std.proofs.lemmas.Bool.Decides.{nat_tests}
use Rattle.std.proofs.lemmas.Bool.{and_from}
use Rattle.xd_doc.specs.Document.{Document, empty, text, element}
use Rattle.xd_doc.specs.Classes.{class_has}
use Rattle.xd_doc.proofs.Bools.{and_left, and_right, or_left, or_right, or_true, not_true}
use Rattle.xd_doc.specs.Runs.{Run, at_end, at_text, at_element}
use Rattle.xd_auto.specs.declared.auto.State.{State}
use Rattle.xd_auto.specs.declared.auto.LabelMove.{LabelMove}
use Rattle.xd_auto.specs.declared.auto.TextMove.{TextMove}
use Rattle.xd_auto.specs.Automaton.{Automaton, accepts, moves_at}
use Rattle.xd_boole.proofs.MatchLemmas.{passes_any}
use Rattle.xd_points.specs.FirstRuns.{IsRunBy, place_before}
use Rattle.xd_points.specs.declared.patterns.PatternStates.{PatternStates}
use Rattle.xd_boole.specs.Groups.{passes_at}
use Rattle.xd_boole.specs.Meaning.{ElementFirst, TextFirst, any_accepts, element_of, move_takes, text_of, text_takes}
use Rattle.xd_points.specs.declared.points.Points.{Points}
use Rattle.xd_points.specs.Following.{Follows, FollowsAllRuns, IsRunAt}
use Rattle.xd_points.specs.Points.{AreExpanded, HasMoves, IsLabelStep, IsTextStep, RowView, any_for, is_old, label_means, meaning, point_at, row_at, state_at, text_means}
use Rattle.xd_points.proofs.FirstRunLaw.{by_accepts}

pub zip_there : {A : Type 0} (R : A → ℕ → Type 0) (xs : List A) (ys : List ℕ) (k n : ℕ) (x : A) → AllZip R xs ys → slice_get xs k ≡ Some x → slice_get ys k ≡ Some n → R x n
zip_there R [] ys k n x h e f = absurd (cc)
zip_there R (z ∷ xs) [] k n x h e f = absurd h
zip_there {A} R (z ∷ xs) (y ∷ ys) zero n x h e f =
    let one : z ≡ x = cc in
    let two : y ≡ n = cc in
    subst (λ (w : A). R w n) one (subst (λ (w : ℕ). R z w) two h.0)
zip_there R (z ∷ xs) (y ∷ ys) (suc k) n x h e f = zip_there R xs ys k n x h.1 e f

for_there : {A : Type 0} (f : A → Bool) (n : ℕ) (xs : List A) (ys : List ℕ) (k : ℕ) (x : A) → slice_get xs k ≡ Some x → slice_get ys k ≡ Some n → f x ≡ true → any_for f n xs ys ≡ true
for_there f n [] ys k x e g h = absurd (cc)
for_there f n (z ∷ xs) [] k x e g h = absurd (cc)
for_there {A} f n (z ∷ xs) (y ∷ ys) zero x e g h =
    let one : z ≡ x = cc in
    let two : y ≡ n = cc in
    let same : nat_eq y n ≡ true = grind (arith, nat_tests) in
    ap (λ w. (w && f z) || any_for f n xs ys) same ∙ ap (λ (w : A). f w || any_for f n xs ys) one ∙ ap (λ w. w || any_for f n xs ys) h
for_there f n (z ∷ xs) (y ∷ ys) (suc k) x e g h = ap (λ w. (nat_eq y n && f z) || w) (for_there f n xs ys k x e g h) ∙ or_true (nat_eq y n && f z)

record Found {A : Type 0} (f : A → Bool) (n : ℕ) (xs : List A) (ys : List ℕ) : Type 0 where
  place : ℕ
  item : A
  there : slice_get xs place ≡ Some item
  number : slice_get ys place ≡ Some n
  passes : f item ≡ true

found : {A : Type 0} (f : A → Bool) (n : ℕ) (xs : List A) (ys : List ℕ) → any_for f n xs ys ≡ true → Found f n xs ys
found f n [] ys e = absurd (cc)
found f n (x ∷ xs) [] e = absurd (cc)
found f n (x ∷ xs) (y ∷ ys) e = go (nat_eq y n && f x) refl e (λ h. found f n xs ys h)
  where
    go : (b : Bool) → (nat_eq y n && f x) ≡ b → (b || any_for f n xs ys) ≡ true → (any_for f n xs ys ≡ true → Found f n xs ys) → Found f n (x ∷ xs) (y ∷ ys)
    go true is h more =
        let same : y ≡ n = let t = and_left (nat_eq y n) (f x) is in grind (arith, nat_tests) in
        record { place = zero; item = x; there = refl; number = ap Some same; passes = and_right (nat_eq y n) (f x) is }
    go false is h more = let r = more h in record { place = suc r.place; item = r.item; there = r.there; number = r.number; passes = r.passes }

passes_there : {X : Type 0} (t : X → Bool) (xs : List X) (n : ℕ) (x : X) → slice_get xs n ≡ Some x → passes_at t xs n ≡ t x
passes_there t [] n x e = absurd (cc)
passes_there {X} t (y ∷ xs) zero x e = let same : y ≡ x = cc in ap t same
passes_there t (y ∷ xs) (suc n) x e = passes_there t xs n x e

record Origin {X : Type 0} (o : Option X) (P : X → Type 0) : Type 0 where
  item : X
  is : o ≡ Some item
  holds : P item

origin : {X : Type 0} (o : Option X) (P : X → Type 0) → IsSomeAnd o P → Origin o P
origin None P h = absurd h
origin (Some x) P h = record { item = x; is = refl; holds = h }

some_same : {X : Type 0} (o : Option X) (x y : X) → o ≡ Some x → o ≡ Some y → x ≡ y
some_same o x y e f = cc

module _ (first : Bool) (a : Automaton) (t : PatternStates) (p : Points) (rows : List RowView) (expanded : AreExpanded first a t p rows) (every : length rows ≡ length p.points.items) where
  has : (i : ℕ) → i < length p.points.items → is_old t p i ≡ false → HasMoves first a t p i (row_at rows i)
  has i lt yet = expanded.has i (omega (arith, every)) yet

  pattern_at : ℕ → State
  pattern_at i = (point_at p.points.items i).pattern

  pub to : (d : Document) (i : ℕ) (run : Run ℕ) → i < length p.points.items → Follows first a t p rows d i run → IsRunAt first a t p i d run
  to empty i run lt h = h
  to (text c d) i at_end lt h = absurd h
  to (text c d) i (at_element n k r) lt h = absurd h
  to (text c d) i (at_text n r) lt (inl h) = h.1
  to (text c d) i (at_text n r) lt (inr h) =
      let m = h.2 in
      let q : TextFirst = record { characters = c; rest = d } in
      let moves = has i lt h.0 in
      let v = point_at p.points.items i in
      let step = zip_there (IsTextStep t.auto v.pattern p) (moves_at p.made (state_at i)).texts (row_at rows i).texts h.1 n m moves.texts.steps h.3 h.4 in
      let after = to d m.rest.number r step.leads.0.within h.6 in
      let passes = and_from (class_has m.words c) (meaning a t p m.rest.number d) h.5 after.0 in
      let yes = sym (moves.texts.taken n q) ∙ for_there (text_means a t p q) n (moves_at p.made (state_at i)).texts (row_at rows i).texts h.1 m h.3 h.4 passes in
      let xs = (moves_at t.auto v.pattern).texts in
      let there = passes_at (text_takes t.auto q) xs n in
      let right = any_accepts t.taken.auto v.rights (text_of q) in
      let before = list_any (text_takes t.auto q) (take (place_before first n) xs) in
      let more = and_right (accepts a (text_of q) v.left) (there && not (right || before)) yes in
      let takes = and_left there (not (right || before)) more in
      let neither = not_true (right || before) (and_right there (not (right || before)) more) in
      let none = or_left right before neither in
      let one = sym (passes_there (text_takes t.auto q) xs n step.origin step.there) ∙ takes in (
        and_from (accepts a (text_of q) v.left) (accepts t.auto (text_of q) v.pattern && not right) (and_left (accepts a (text_of q) v.left) (there && not (right || before)) yes)
            (and_from (accepts t.auto (text_of q) v.pattern) (not right) (passes_any (text_takes t.auto q) xs n takes) (ap not none)),
        subst (λ (o : Option TextMove). IsSomeAnd o (λ w. (class_has w.words c ≡ true) × (before ≡ false) × IsRunBy first t.auto d w.rest r)) (sym step.there)
            (and_left (class_has step.origin.words c) (accepts t.auto d step.origin.rest) one, or_right right before neither, subst (λ (s : State). IsRunBy first t.auto d s r) step.leads.0.pattern_is after.1),
      )
  to (element l c d) i at_end lt h = absurd h
  to (element l c d) i (at_text n r) lt h = absurd h
  to (element l c d) i (at_element n k r) lt (inl h) = h.1
  to (element l c d) i (at_element n k r) lt (inr h) =
      let m = h.2 in
      let q : ElementFirst = record { label = l; content = c; rest = d } in
      let moves = has i lt h.0 in
      let v = point_at p.points.items i in
      let step = zip_there (IsLabelStep t.auto v.pattern p) (moves_at p.made (state_at i)).labels (row_at rows i).labels h.1 n m moves.labels.steps h.3 h.4 in
      let inside = to c m.content.number k step.leads.0.within h.6 in
      let after = to d m.rest.number r step.leads.1.0.within h.7 in
      let passes = and_from (class_has m.class l) (meaning a t p m.content.number c && meaning a t p m.rest.number d) h.5 (and_from (meaning a t p m.content.number c) (meaning a t p m.rest.number d) inside.0 after.0) in
      let yes = sym (moves.labels.taken n q) ∙ for_there (label_means a t p q) n (moves_at p.made (state_at i)).labels (row_at rows i).labels h.1 m h.3 h.4 passes in
      let xs = (moves_at t.auto v.pattern).labels in
      let there = passes_at (move_takes t.auto q) xs n in
      let right = any_accepts t.taken.auto v.rights (element_of q) in
      let before = list_any (move_takes t.auto q) (take (place_before first n) xs) in
      let more = and_right (accepts a (element_of q) v.left) (there && not (right || before)) yes in
      let takes = and_left there (not (right || before)) more in
      let neither = not_true (right || before) (and_right there (not (right || before)) more) in
      let none = or_left right before neither in
      let one = sym (passes_there (move_takes t.auto q) xs n step.origin step.there) ∙ takes in (
        and_from (accepts a (element_of q) v.left) (accepts t.auto (element_of q) v.pattern && not right) (and_left (accepts a (element_of q) v.left) (there && not (right || before)) yes)
            (and_from (accepts t.auto (element_of q) v.pattern) (not right) (passes_any (move_takes t.auto q) xs n takes) (ap not none)),
        subst (λ (o : Option LabelMove). IsSomeAnd o (λ w. (class_has w.class l ≡ true) × (before ≡ false) × IsRunBy first t.auto c w.content k × IsRunBy first t.auto d w.rest r)) (sym step.there) (
          and_left (class_has step.origin.class l) (accepts t.auto c step.origin.content && accepts t.auto d step.origin.rest) one,
          or_right right before neither,
          subst (λ (s : State). IsRunBy first t.auto c s k) step.leads.0.pattern_is inside.1,
          subst (λ (s : State). IsRunBy first t.auto d s r) step.leads.1.0.pattern_is after.1,
        ),
      )

  or_none : (r b : Bool) → r ≡ false → b ≡ false → not (r || b) ≡ true
  or_none r b e f = ap (λ w. not (w || b)) e ∙ ap not f

  pub back : (d : Document) (i : ℕ) (run : Run ℕ) → i < length p.points.items → IsRunAt first a t p i d run → Follows first a t p rows d i run
  back empty i run lt h = h
  back (text c d) i at_end lt h = absurd h.1
  back (text c d) i (at_element n k r) lt h = absurd h.1
  back (text c d) i (at_text n r) lt h = go (is_old t p i) refl (λ j there e. back d j r there e)
    where
      go : (o : Bool) → is_old t p i ≡ o → ((j : ℕ) → j < length p.points.items → IsRunAt first a t p j d r → Follows first a t p rows d j r) → Follows first a t p rows (text c d) i (at_text n r)
      go true o rest = inl (o, h)
      go false o rest =
          let q : TextFirst = record { characters = c; rest = d } in
          let moves = has i lt o in
          let v = point_at p.points.items i in
          let xs = (moves_at t.auto v.pattern).texts in
          let right = any_accepts t.taken.auto v.rights (text_of q) in
          let before = list_any (text_takes t.auto q) (take (place_before first n) xs) in
          let from = origin (slice_get xs n) (λ w. (class_has w.words c ≡ true) × (before ≡ false) × IsRunBy first t.auto d w.rest r) h.1 in
          let takes = passes_there (text_takes t.auto q) xs n from.item from.is ∙ and_from (class_has from.item.words c) (accepts t.auto d from.item.rest) from.holds.0 (by_accepts first t.auto d from.item.rest r from.holds.2) in
          let left = and_left (accepts a (text_of q) v.left) (accepts t.auto (text_of q) v.pattern && not right) h.0 in
          let none = not_true right (and_right (accepts t.auto (text_of q) v.pattern) (not right) (and_right (accepts a (text_of q) v.left) (accepts t.auto (text_of q) v.pattern && not right) h.0)) in
          let yes = moves.texts.taken n q ∙ and_from (accepts a (text_of q) v.left) (passes_at (text_takes t.auto q) xs n && not (right || before)) left (and_from (passes_at (text_takes t.auto q) xs n) (not (right || before)) takes (or_none right before none from.holds.1)) in
          let f = found (text_means a t p q) n (moves_at p.made (state_at i)).texts (row_at rows i).texts yes in
          let step = zip_there (IsTextStep t.auto v.pattern p) (moves_at p.made (state_at i)).texts (row_at rows i).texts f.place n f.item moves.texts.steps f.there f.number in
          let same = some_same (slice_get xs n) from.item step.origin from.is step.there in
          let to_pattern = ap (λ (w : TextMove). w.rest) same ∙ sym step.leads.0.pattern_is in
          inr (
            o,
            f.place,
            f.item,
            f.there,
            f.number,
            and_left (class_has f.item.words c) (meaning a t p f.item.rest.number d) f.passes,
            rest f.item.rest.number step.leads.0.within (and_right (class_has f.item.words c) (meaning a t p f.item.rest.number d) f.passes, subst (λ (s : State). IsRunBy first t.auto d s r) to_pattern from.holds.2),
          )
  back (element l c d) i at_end lt h = absurd h.1
  back (element l c d) i (at_text n r) lt h = absurd h.1
  back (element l c d) i (at_element n k r) lt h = go (is_old t p i) refl (λ j there e. back c j k there e) (λ j there e. back d j r there e)
    where
      go : (o : Bool) → is_old t p i ≡ o → ((j : ℕ) → j < length p.points.items → IsRunAt first a t p j c k → Follows first a t p rows c j k)
          → ((j : ℕ) → j < length p.points.items → IsRunAt first a t p j d r → Follows first a t p rows d j r) → Follows first a t p rows (element l c d) i (at_element n k r)
      go true o content rest = inl (o, h)
      go false o content rest =
          let q : ElementFirst = record { label = l; content = c; rest = d } in
          let moves = has i lt o in
          let v = point_at p.points.items i in
          let xs = (moves_at t.auto v.pattern).labels in
          let right = any_accepts t.taken.auto v.rights (element_of q) in
          let before = list_any (move_takes t.auto q) (take (place_before first n) xs) in
          let from = origin (slice_get xs n) (λ w. (class_has w.class l ≡ true) × (before ≡ false) × IsRunBy first t.auto c w.content k × IsRunBy first t.auto d w.rest r) h.1 in
          let takes = passes_there (move_takes t.auto q) xs n from.item from.is
          ∙ and_from (class_has from.item.class l) (accepts t.auto c from.item.content && accepts t.auto d from.item.rest) from.holds.0
          (and_from (accepts t.auto c from.item.content) (accepts t.auto d from.item.rest) (by_accepts first t.auto c from.item.content k from.holds.2) (by_accepts first t.auto d from.item.rest r from.holds.3)) in
          let left = and_left (accepts a (element_of q) v.left) (accepts t.auto (element_of q) v.pattern && not right) h.0 in
          let none = not_true right (and_right (accepts t.auto (element_of q) v.pattern) (not right) (and_right (accepts a (element_of q) v.left) (accepts t.auto (element_of q) v.pattern && not right) h.0)) in
          let yes = moves.labels.taken n q ∙ and_from (accepts a (element_of q) v.left) (passes_at (move_takes t.auto q) xs n && not (right || before)) left (and_from (passes_at (move_takes t.auto q) xs n) (not (right || before)) takes (or_none right before none from.holds.1)) in
          let f = found (label_means a t p q) n (moves_at p.made (state_at i)).labels (row_at rows i).labels yes in
          let step = zip_there (IsLabelStep t.auto v.pattern p) (moves_at p.made (state_at i)).labels (row_at rows i).labels f.place n f.item moves.labels.steps f.there f.number in
          let same = some_same (slice_get xs n) from.item step.origin from.is step.there in
          let both = meaning a t p f.item.content.number c && meaning a t p f.item.rest.number d in
          let parts = and_right (class_has f.item.class l) both f.passes in
          let in_pattern = ap (λ (w : LabelMove). w.content) same ∙ sym step.leads.0.pattern_is in
          let to_pattern = ap (λ (w : LabelMove). w.rest) same ∙ sym step.leads.1.0.pattern_is in
          inr (
            o,
            f.place,
            f.item,
            f.there,
            f.number,
            and_left (class_has f.item.class l) both f.passes,
            content f.item.content.number step.leads.0.within (and_left (meaning a t p f.item.content.number c) (meaning a t p f.item.rest.number d) parts, subst (λ (s : State). IsRunBy first t.auto c s k) in_pattern from.holds.2),
            rest f.item.rest.number step.leads.1.0.within (and_right (meaning a t p f.item.content.number c) (meaning a t p f.item.rest.number d) parts, subst (λ (s : State). IsRunBy first t.auto d s r) to_pattern from.holds.3),
          )

pub follows_all_runs : FollowsAllRuns
follows_all_runs first a t p rows expanded every d i run lt = (to first a t p rows expanded every d i run lt, back first a t p rows expanded every d i run lt)
