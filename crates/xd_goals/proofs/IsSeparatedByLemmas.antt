-- Right heads that are on neither side of a path, and which of them a tree splits on.
use Rattle.std.proofs.Common.{ℕ, zero, suc, ◌+◌, ◌<◌, ◌≤◌, ◌≡◌, Bool, true, false, cond, nat_eq, ◌||◌, List, [], ◌∷◌, take, get_or, MatchOption, Option, None, Some, ⊎_elim, refl, sym, subst, ◌∙◌, arith}
use Rattle.std.specs.List.{slice_get, AllByRecursion, list_any}
use Rattle.std.specs.Option.{option_or}
use Rattle.std.proofs.lemmas.Bool.Decides.{Decides-eqb}
use Rattle.std.proofs.lemmas.List.{take_more}
use Rattle.std.proofs.lemmas.Option.{slice_get_within, get_or_from_slice_get}
use Rattle.std.proofs.lemmas.Bool.{or_left, or_right}
use Rattle.xd_doc.specs.Document.{Document}
use Rattle.xd_doc.specs.Stored.{document_at}
use Rattle.xd_doc.specs.declared.store.Seq.{Seq}
use Rattle.xd_doc.proofs.Bools.{and_parts, or_cases}
use Rattle.xd_doc.proofs.Lists.{all_push}
use Rattle.xd_auto.specs.declared.auto.State.{State}
use Rattle.xd_auto.specs.Automaton.{Automaton, accepts}
use Rattle.xd_doc.specs.Members.{IsOneOf}
use Rattle.xd_rules.proofs.Members.{any-one_of, one_of-any}
use Rattle.xd_rules.specs.Rules.{Claim}
use Rattle.xd_state_heads.specs.Moves.{claim_with, with_state}
use Rattle.xd_goals.specs.Rows.{TableView, row_at}
use Rattle.xd_goals.specs.Trees.{IsFree, IsLeafFor, IsTaker}
use Rattle.xd_goals.specs.Standing.{AreSeparated, IsSeparatedBy}
use Rattle.xd_state_heads.specs.declared.heads.Side.{Side}
use Rattle.xd_goals.specs.declared.table.GoalCase.{GoalCase}
use Rattle.xd_goals.specs.declared.table.GoalId.{GoalId}
use Rattle.xd_goals.specs.declared.table.Standing.{Standing}
use Rattle.xd_goals.specs.declared.table.Standing.TheVariants.{Refuted}
use Rattle.xd_goals.proofs.GrowsByLemmas.{claim_within}
use Rattle.xd_goals.proofs.Facts.{separated-grows}
use Rattle.xd_goals.specs.Kept.{GrowsBy}
use Rattle.xd_goals.proofs.Trees.{with_state-has, with_state-keeps, with_state-same}

abbrev pub stands_in : State → List State → Bool
stands_in s ts = list_any (λ (t : State). nat_eq t.number s.number) ts

stands_in-from : (s : State) (ts : List State) → stands_in s ts ≡ true → IsOneOf s ts
stands_in-from s ts e =
    let m = one_of-any (λ (t : State). nat_eq t.number s.number) ts e in
    subst (λ (t : State). IsOneOf t ts) (with_state-same s m.0 m.2) m.1

stands_in-to : (s : State) (ts : List State) → IsOneOf s ts → stands_in s ts ≡ true
stands_in-to s ts m = any-one_of (λ (t : State). nat_eq t.number s.number) s ts m ((Decides-eqb s.number s.number).1 refl)

-- something of the right head is on one of the sides
abbrev pub is_placed : List State → List State → Side → Bool
is_placed contents rests s = stands_in s.content contents || stands_in s.rest rests

-- how many right heads are on neither side
abbrev pub unplaced : List State → List State → List Side → ℕ
unplaced contents rests [] = 0
unplaced contents rests (s ∷ ss) = cond (is_placed contents rests s) (unplaced contents rests ss) (suc (unplaced contents rests ss))

free_is : (x y : Bool) → ¬ (x ≡ true) → ¬ (y ≡ true) → (x || y) ≡ false
free_is true y n m = absurd (n refl)
free_is false true n m = absurd (m refl)
free_is false false n m = refl

module _ (cs rs cs2 rs2 : List State) (more : (s : Side) → is_placed cs rs s ≡ true → is_placed cs2 rs2 s ≡ true) where
  fewer : (sides : List Side) → unplaced cs2 rs2 sides ≤ unplaced cs rs sides
  fewer [] = omega arith
  fewer (s ∷ ss) = go (is_placed cs rs s) (is_placed cs2 rs2 s) (more s) (fewer ss)
    where
      go : (b d : Bool) → (b ≡ true → d ≡ true) → unplaced cs2 rs2 ss ≤ unplaced cs rs ss
          → cond d (unplaced cs2 rs2 ss) (suc (unplaced cs2 rs2 ss)) ≤ cond b (unplaced cs rs ss) (suc (unplaced cs rs ss))
      go true true f le = le
      go true false f le = let w = f refl in absurd (cc)
      go false true f le = omega arith
      go false false f le = omega arith

  fewer_by_one : (sides : List Side) (i : ℕ) (side : Side) → slice_get sides i ≡ Some side → is_placed cs rs side ≡ false → is_placed cs2 rs2 side ≡ true → unplaced cs2 rs2 sides < unplaced cs rs sides
  fewer_by_one [] i side at free placed = absurd (cc)
  fewer_by_one (s ∷ ss) zero side at free placed =
      let same : s ≡ side = cc in
      let n : is_placed cs rs s ≡ false = subst (λ (w : Side). is_placed cs rs w ≡ false) (sym same) free in
      let y : is_placed cs2 rs2 s ≡ true = subst (λ (w : Side). is_placed cs2 rs2 w ≡ true) (sym same) placed in
      go (is_placed cs rs s) (is_placed cs2 rs2 s) n y (fewer ss)
    where
      go : (b d : Bool) → b ≡ false → d ≡ true → unplaced cs2 rs2 ss ≤ unplaced cs rs ss
          → cond d (unplaced cs2 rs2 ss) (suc (unplaced cs2 rs2 ss)) < cond b (unplaced cs rs ss) (suc (unplaced cs rs ss))
      go true d p q le = absurd (cc)
      go false false p q le = absurd (cc)
      go false true p q le = omega arith
  fewer_by_one (s ∷ ss) (suc i) side at free placed = go (is_placed cs rs s) (is_placed cs2 rs2 s) (more s) (fewer_by_one ss i side at free placed)
    where
      go : (b d : Bool) → (b ≡ true → d ≡ true) → unplaced cs2 rs2 ss < unplaced cs rs ss
          → cond d (unplaced cs2 rs2 ss) (suc (unplaced cs2 rs2 ss)) < cond b (unplaced cs rs ss) (suc (unplaced cs rs ss))
      go true true f lt = lt
      go true false f lt = let w = f refl in absurd (cc)
      go false true f lt = omega arith
      go false false f lt = omega arith

-- a split on a free head leaves fewer
module _ (sides : List Side) (contents rests : List State) (side : Side) (free : IsFree sides contents rests side) where
  was_free : is_placed contents rests side ≡ false
  was_free = free_is (stands_in side.content contents) (stands_in side.rest rests)
      (λ e. free.content_free (stands_in-from side.content contents e)) (λ e. free.rest_free (stands_in-from side.rest rests e))

  pub falls_content : (cs : List State) → cs ≡ with_state side.content contents → unplaced cs rests sides < unplaced contents rests sides
  falls_content cs e = rw e (fewer_by_one contents rests (with_state side.content contents) rests
      (λ s p. ⊎_elim
      (λ q. or_left _ _ (stands_in-to s.content (with_state side.content contents) (with_state-keeps side.content s.content contents (stands_in-from s.content contents q))))
      (λ q. or_right _ _ q)
      (or_cases (stands_in s.content contents) (stands_in s.rest rests) p))
      sides free.place side free.found was_free
      (or_left _ _ (stands_in-to side.content (with_state side.content contents) (with_state-has side.content contents))))

  pub falls_rest : (rs : List State) → rs ≡ with_state side.rest rests → unplaced contents rs sides < unplaced contents rests sides
  falls_rest rs e = rw e (fewer_by_one contents rests contents (with_state side.rest rests)
      (λ s p. ⊎_elim
      (λ q. or_left _ _ q)
      (λ q. or_right _ _ (stands_in-to s.rest (with_state side.rest rests) (with_state-keeps side.rest s.rest rests (stands_in-from s.rest rests q))))
      (or_cases (stands_in s.content contents) (stands_in s.rest rests) p))
      sides free.place side free.found was_free
      (or_right _ _ (stands_in-to side.rest (with_state side.rest rests) (with_state-has side.rest rests))))

-- one more of a list
pub all-take_more : {X : Type 0} (P : X → Type 0) (xs : List X) (i : ℕ) (x : X) → slice_get xs i ≡ Some x → AllByRecursion P (take i xs) → P x → AllByRecursion P (take (i + 1) xs)
all-take_more P xs i x at h p =
    let e = get_or_from_slice_get xs i x x at in
    let lt = slice_get_within xs i x at in
    subst (AllByRecursion P) (sym (take_more xs i x lt)) (all_push P (take i xs) (get_or xs i x) h (subst P (sym e) p))

-- of the heads so far, one that takes the element, or none
pub none_to : {X : Type 0} (P R : Type 0) (Q : X → Type 0) (o : Option X) → (P → R) → MatchOption o P Q → MatchOption o R Q
none_to P R Q None f h = f h
none_to P R Q (Some x) f h = h

pub none_more : {X : Type 0} (P Q : X → Type 0) (xs : List X) (i : ℕ) (x : X) (o : Option X) → slice_get xs i ≡ Some x → P x → MatchOption o (AllByRecursion P (take i xs)) Q → MatchOption o (AllByRecursion P (take (i + 1) xs)) Q
none_more P Q xs i x o at p h = none_to (AllByRecursion P (take i xs)) (AllByRecursion P (take (i + 1) xs)) Q o (λ k. all-take_more P xs i x at k p) h

pub or_found : {X : Type 0} (P R : Type 0) (Q : X → Type 0) (o : Option X) (x : X) (r : Option X) → r ≡ option_or o (Some x) → MatchOption o P Q → Q x → MatchOption r R Q
or_found P R Q None x r e h q = rw e q
or_found P R Q (Some y) x r e h q = rw e h

-- the document of a leaf's goal that was read as refuted
pub leaf_separated : {A : List State → Type 0} (a : Automaton) (ds : List Document) (s t : TableView) → GrowsBy A s t → AreSeparated a ds s.rows → (owner : GoalCase) (c : Claim State) (g : GoalId) (st : Standing) (seq : Seq)
    → IsLeafFor t owner c g.number → st ≡ (row_at t.rows g.number).standing → st ≡ Refuted seq → IsSeparatedBy a ds c seq
leaf_separated a ds s t grows h owner c g st seq l e r =
    subst (λ (x : Claim State). IsSeparatedBy a ds x seq) (claim_within t.rows g.number c l.claim).1 (separated-grows a ds s t grows h g.number seq (sym e ∙ r))

-- a head that takes the element of two documents is on neither side of the path whose goals they
-- refute
pub taker_free : (a : Automaton) (ds : List Document) (content rest : State) (sides : List Side) (contents rests : List State) (inside behind : Seq) (side : Side)
    → IsSeparatedBy a ds (claim_with content contents) inside → IsSeparatedBy a ds (claim_with rest rests) behind → IsTaker a ds sides inside behind side → IsFree sides contents rests side
taker_free a ds content rest sides contents rests inside behind side x y t =
    let both = and_parts (accepts a (document_at ds inside) side.content) (accepts a (document_at ds behind) side.rest) t.takes_it in
    record {
      place = t.place;
      found = t.found;
      content_free = λ m. x.separates.refused side.content m both.0;
      rest_free = λ m. y.separates.refused side.rest m both.1;
    }
