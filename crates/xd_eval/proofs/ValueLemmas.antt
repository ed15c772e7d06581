-- On what values stand for, in a store that grows and among joins that grow.
use Rattle.std.proofs.Common.{◌≡◌, ℕ, zero, suc, ◌+◌, ◌<◌, ◌≤◌, arith, List, [], ◌∷◌, ◌++◌, length, get_or, set, Option, Some, None, refl, ap, sym, subst, ◌∙◌, length-append}
use Rattle.std.proofs.lemmas.List.{get_or_append_left}
use Rattle.std.proofs.Math.Seq.{get_or-append_seam}
use Rattle.xd_doc.specs.Document.{Document, empty, join}
use Rattle.xd_doc.specs.Stored.{at_node, document_at}
use Rattle.xd_doc.specs.StoredSeq.{BelongsTo}
use Rattle.xd_doc.specs.StoreNodes.{Keeps, node_seq}
use Rattle.xd_doc.specs.declared.store.Seq.{Seq}
use Rattle.xd_eval.specs.Values.{World, value_at, Stands, value_from, value_of, joined_by, joined_after, AreJoined, world, JoinsStand, KeepsValues, place_of_value}
use Rattle.xd_eval.specs.declared.joins.Value.{Value}
use Rattle.xd_eval.specs.declared.joins.Value.TheVariants.{Empty, Stored, Joined}
use Rattle.xd_eval.specs.declared.joins.Join.{Join}

value_from-at : (w : World) (o : Option ℕ) → value_at w (value_from o) ≡ at_node w.documents o
value_from-at w None = refl
value_from-at w (Some i) = refl

pub value_of-at : (w : World) (seq : Seq) → value_at w (value_of seq) ≡ document_at w.documents seq
value_of-at w seq = value_from-at w seq.node

value_from-stands : (w : World) (o : Option ℕ) → BelongsTo w.documents (record { node = o }) → Stands w (value_from o)
value_from-stands w None b = tt
value_from-stands w (Some i) b = b

pub value_of-stands : (w : World) (seq : Seq) → BelongsTo w.documents seq → Stands w (value_of seq)
value_of-stands w seq b = value_from-stands w seq.node b

pub KeepsValues-same : (w : World) → KeepsValues w w
KeepsValues-same w = record { stands = λ v s. s; same = λ v s. refl }

pub KeepsValues-trans : (u v w : World) → KeepsValues u v → KeepsValues v w → KeepsValues u w
KeepsValues-trans u v w a b = record { stands = λ x s. b.stands x (a.stands x s); same = λ x s. b.same x (a.stands x s) ∙ a.same x s }

abbrev pub with_joined : List Document → List Document → World
with_joined ds qs = record { documents = ds; joined = qs }

-- a store that grows
module _ (old new : List Document) (k : Keeps old new) where
  value_kept : (qs : List Document) (v : Value) → Stands (with_joined old qs) v → value_at (with_joined new qs) v ≡ value_at (with_joined old qs) v
  value_kept qs Empty s = refl
  value_kept qs (Stored i) s = k.same (node_seq i) s
  value_kept qs (Joined i) s = refl

  stands_kept : (qs : List Document) (v : Value) → Stands (with_joined old qs) v → Stands (with_joined new qs) v
  stands_kept qs Empty s = tt
  stands_kept qs (Stored i) s = k.belongs (node_seq i) s
  stands_kept qs (Joined i) s = s

  -- the joins may be others, where they stand for the same
  pub world_same : (qs rs : List Document) → rs ≡ qs → KeepsValues (with_joined old qs) (with_joined new rs)
  world_same qs rs e = record {
    stands = λ v s. subst (λ xs. Stands (with_joined new xs) v) (sym e) (stands_kept qs v s);
    same = λ v s. ap (λ xs. value_at (with_joined new xs) v) e ∙ value_kept qs v s;
  }

  join_kept : (qs : List Document) (j : Join) → Stands (with_joined old qs) j.front → Stands (with_joined old qs) j.back → joined_by (with_joined new qs) j ≡ joined_by (with_joined old qs) j
  join_kept qs j f b =
      ap (λ d. join d (value_at (with_joined new qs) j.back)) (value_kept qs j.front f) ∙ ap (join (value_at (with_joined old qs) j.front)) (value_kept qs j.back b)

  joined_kept : (qs : List Document) (js : List Join) → AreJoined old qs js → joined_after new qs js ≡ joined_after old qs js
  joined_kept qs [] s = refl
  joined_kept qs (j ∷ js) s =
      ap (λ d. joined_after new (qs ++ d ∷ []) js) (join_kept qs j s.0 s.1) ∙ joined_kept (qs ++ joined_by (with_joined old qs) j ∷ []) js s.2

  are_kept : (qs : List Document) (js : List Join) → AreJoined old qs js → AreJoined new qs js
  are_kept qs [] s = tt
  are_kept qs (j ∷ js) s = (
    stands_kept qs j.front s.0,
    stands_kept qs j.back s.1,
    subst (λ d. AreJoined new (qs ++ d ∷ []) js) (sym (join_kept qs j s.0 s.1)) (are_kept (qs ++ joined_by (with_joined old qs) j ∷ []) js s.2),
  )

  pub joins_kept : (js : List Join) → JoinsStand old js → JoinsStand new js
  joins_kept js s = are_kept [] js s

  pub joined_same : (js : List Join) → JoinsStand old js → joined_after new [] js ≡ joined_after old [] js
  joined_same js s = joined_kept [] js s

  pub world_kept : (js : List Join) → JoinsStand old js → KeepsValues (world old js) (world new js)
  world_kept js s = world_same (joined_after old [] js) (joined_after new [] js) (joined_kept [] js s)

-- one more document
more_kept : (ds qs : List Document) (d : Document) → KeepsValues (with_joined ds qs) (with_joined ds (qs ++ d ∷ []))
more_kept ds qs d = record { stands = there; same = same }
  where
    there : (v : Value) → Stands (with_joined ds qs) v → Stands (with_joined ds (qs ++ d ∷ [])) v
    there Empty s = tt
    there (Stored i) s = s
    there (Joined i) s = omega (arith, length-append qs (d ∷ []))

    same : (v : Value) → Stands (with_joined ds qs) v → value_at (with_joined ds (qs ++ d ∷ [])) v ≡ value_at (with_joined ds qs) v
    same Empty s = refl
    same (Stored i) s = refl
    same (Joined i) s = get_or_append_left qs (d ∷ []) empty i s

after_kept : (ds qs : List Document) (js : List Join) → KeepsValues (with_joined ds qs) (with_joined ds (joined_after ds qs js))
after_kept ds qs [] = KeepsValues-same (with_joined ds qs)
after_kept ds qs (j ∷ js) =
    let d : Document = joined_by (with_joined ds qs) j in
    KeepsValues-trans (with_joined ds qs) (with_joined ds (qs ++ d ∷ [])) (with_joined ds (joined_after ds (qs ++ d ∷ []) js)) (more_kept ds qs d) (after_kept ds (qs ++ d ∷ []) js)

after_push : (ds qs : List Document) (js : List Join) (j : Join) → joined_after ds qs (js ++ j ∷ []) ≡ joined_after ds qs js ++ joined_by (with_joined ds (joined_after ds qs js)) j ∷ []
after_push ds qs [] j = refl
after_push ds qs (i ∷ js) j = after_push ds (qs ++ joined_by (with_joined ds qs) i ∷ []) js j

are_push : (ds qs : List Document) (js : List Join) (j : Join) → AreJoined ds qs js → Stands (with_joined ds (joined_after ds qs js)) j.front → Stands (with_joined ds (joined_after ds qs js)) j.back →
    AreJoined ds qs (js ++ j ∷ [])
are_push ds qs [] j s f b = (f, b, tt)
are_push ds qs (i ∷ js) j s f b = (s.0, s.1, are_push ds (qs ++ joined_by (with_joined ds qs) i ∷ []) js j s.2 f b)

length-after : (ds qs : List Document) (js : List Join) → length (joined_after ds qs js) ≡ length qs + length js
length-after ds qs [] = omega arith
length-after ds qs (j ∷ js) =
    let d : Document = joined_by (with_joined ds qs) j in omega (arith, length-after ds (qs ++ d ∷ []) js, length-append qs (d ∷ []))

pub length-joined : (ds : List Document) (js : List Join) → length (joined_after ds [] js) ≡ length js
length-joined ds js = omega (arith, length-after ds [] js)

-- A join more: it stands for its sides, and the others for what they stood for.
pub record IsPushed (ds : List Document) (js more : List Join) (j : Join) : Type 0 where
  pub joins : JoinsStand ds more
  pub kept : KeepsValues (world ds js) (world ds more)
  pub value : value_at (world ds more) (Joined (length js)) ≡ joined_by (world ds js) j
  pub stands : Stands (world ds more) (Joined (length js))

pub pushed : (ds : List Document) (js more : List Join) (j : Join) → more ≡ js ++ j ∷ [] → JoinsStand ds js → Stands (world ds js) j.front → Stands (world ds js) j.back → IsPushed ds js more j
pushed ds js more j m s f b = subst (λ (xs : List Join). IsPushed ds js xs j) (sym m) whole
  where
    qs : List Document
    qs = joined_after ds [] js

    e : joined_after ds [] (js ++ j ∷ []) ≡ qs ++ joined_by (world ds js) j ∷ []
    e = after_push ds [] js j

    l : length js ≡ length qs
    l = sym (length-joined ds js)

    whole : IsPushed ds js (js ++ j ∷ []) j
    whole = record {
      joins = are_push ds [] js j s f b;
      kept = subst (λ xs. KeepsValues (world ds js) (with_joined ds xs)) (sym e) (more_kept ds qs (joined_by (world ds js) j));
      value = ap (λ xs. get_or xs (length js) empty) e ∙ ap (λ i. get_or (qs ++ joined_by (world ds js) j ∷ []) i empty) l ∙ get_or-append_seam qs (joined_by (world ds js) j) [] empty;
      stands = omega (arith, ap length e, length-append qs (joined_by (world ds js) j ∷ []), l);
    }

-- a side of a join has a smaller place
side_before : (ds qs : List Document) (v : Value) → Stands (with_joined ds qs) v → place_of_value v ≤ length qs
side_before ds qs Empty s = omega arith
side_before ds qs (Stored i) s = omega arith
side_before ds qs (Joined i) s = omega arith

-- what is so of the join of this number, where these are the documents of all joins
pub record IsJoin (ds qs : List Document) (i : ℕ) (j : Join) : Type 0 where
  pub document : get_or qs i empty ≡ joined_by (with_joined ds qs) j
  pub front : Stands (with_joined ds qs) j.front
  pub back : Stands (with_joined ds qs) j.back
  pub front_before : place_of_value j.front ≤ i
  pub back_before : place_of_value j.back ≤ i

-- the first of these joins
first_joined : (ds qs : List Document) (j : Join) (js : List Join) → get_or (joined_after ds qs (j ∷ js)) (length qs) empty ≡ joined_by (with_joined ds qs) j
first_joined ds qs j js =
    let d : Document = joined_by (with_joined ds qs) j in
    let k = after_kept ds (qs ++ d ∷ []) js in
    k.same (Joined (length qs)) (omega (arith, length-append qs (d ∷ []))) ∙ get_or-append_seam qs d [] empty

join_after : (ds qs : List Document) (js : List Join) (i : ℕ) (x : Join) → AreJoined ds qs js → i < length js → IsJoin ds (joined_after ds qs js) (length qs + i) (get_or js i x)
join_after ds qs [] i x s l = absurd (omega arith)
join_after ds qs (j ∷ js) zero x s l =
    let all : List Document = joined_after ds qs (j ∷ js) in
    let k : KeepsValues (with_joined ds qs) (with_joined ds all) = after_kept ds qs (j ∷ js) in
    let z : length qs + 0 ≡ length qs = omega arith in
    let f = side_before ds qs j.front s.0 in
    let b = side_before ds qs j.back s.1 in
    record {
      document = ap (λ n. get_or all n empty) z ∙ first_joined ds qs j js
          ∙ sym (ap (λ d. join d (value_at (with_joined ds all) j.back)) (k.same j.front s.0) ∙ ap (join (value_at (with_joined ds qs) j.front)) (k.same j.back s.1));
      front = k.stands j.front s.0;
      back = k.stands j.back s.1;
      front_before = omega arith;
      back_before = omega arith;
    }
join_after ds qs (j ∷ js) (suc i) x s l =
    let d : Document = joined_by (with_joined ds qs) j in
    let e : length (qs ++ d ∷ []) + i ≡ length qs + suc i = omega (arith, length-append qs (d ∷ [])) in
    subst (λ n. IsJoin ds (joined_after ds qs (j ∷ js)) n (get_or js i x)) e (join_after ds (qs ++ d ∷ []) js i x s.2 (omega arith))

pub join_at : (ds : List Document) (js : List Join) (i : ℕ) (j : Join) → JoinsStand ds js → i < length js → j ≡ get_or js i j → IsJoin ds (joined_after ds [] js) i j
join_at ds js i j s l e =
    let z : 0 + i ≡ i = omega arith in
    subst (λ (x : Join). IsJoin ds (joined_after ds [] js) i x) (sym e) (subst (λ n. IsJoin ds (joined_after ds [] js) n (get_or js i j)) z (join_after ds [] js i j s l))

-- a join whose document was made
module _ (ds : List Document) (made : Seq) (belongs : BelongsTo ds made) where
  abbrev pub done : Join
  done = record { front = Empty; back = value_of made }

  same_first : (qs : List Document) (j : Join) (js : List Join) (n : ℕ) → n ≡ length qs → get_or (joined_after ds qs (j ∷ js)) n empty ≡ document_at ds made →
      joined_by (with_joined ds qs) done ≡ joined_by (with_joined ds qs) j
  same_first qs j js n z e =
      value_of-at (with_joined ds qs) made ∙ sym e ∙ ap (λ i. get_or (joined_after ds qs (j ∷ js)) i empty) z ∙ first_joined ds qs j js

  set_after : (qs : List Document) (js : List Join) (i : ℕ) → i < length js → get_or (joined_after ds qs js) (length qs + i) empty ≡ document_at ds made →
      joined_after ds qs (set js i done) ≡ joined_after ds qs js
  set_after qs [] i l e = absurd (omega arith)
  set_after qs (j ∷ js) zero l e = ap (λ d. joined_after ds (qs ++ d ∷ []) js) (same_first qs j js (length qs + 0) (omega arith) e)
  set_after qs (j ∷ js) (suc i) l e =
      let d : Document = joined_by (with_joined ds qs) j in
      let n : length (qs ++ d ∷ []) + i ≡ length qs + suc i = omega (arith, length-append qs (d ∷ [])) in
      set_after (qs ++ d ∷ []) js i (omega arith) (ap (λ k. get_or (joined_after ds qs (j ∷ js)) k empty) n ∙ e)

  set_are : (qs : List Document) (js : List Join) (i : ℕ) → i < length js → get_or (joined_after ds qs js) (length qs + i) empty ≡ document_at ds made → AreJoined ds qs js →
      AreJoined ds qs (set js i done)
  set_are qs [] i l e s = absurd (omega arith)
  set_are qs (j ∷ js) zero l e s = (
    tt,
    value_of-stands (with_joined ds qs) made belongs,
    subst (λ d. AreJoined ds (qs ++ d ∷ []) js) (sym (same_first qs j js (length qs + 0) (omega arith) e)) s.2,
  )
  set_are qs (j ∷ js) (suc i) l e s =
      let d : Document = joined_by (with_joined ds qs) j in
      let n : length (qs ++ d ∷ []) + i ≡ length qs + suc i = omega (arith, length-append qs (d ∷ [])) in
      (s.0, s.1, set_are (qs ++ d ∷ []) js i (omega arith) (ap (λ k. get_or (joined_after ds qs (j ∷ js)) k empty) n ∙ e) s.2)

  pub set_same : (js : List Join) (i : ℕ) → i < length js → get_or (joined_after ds [] js) i empty ≡ document_at ds made → joined_after ds [] (set js i done) ≡ joined_after ds [] js
  set_same js i l e = let z : 0 + i ≡ i = omega arith in set_after [] js i l (ap (λ n. get_or (joined_after ds [] js) n empty) z ∙ e)

  pub set_stand : (js : List Join) (i : ℕ) → i < length js → get_or (joined_after ds [] js) i empty ≡ document_at ds made → JoinsStand ds js → JoinsStand ds (set js i done)
  set_stand js i l e s = let z : 0 + i ≡ i = omega arith in set_are [] js i l (ap (λ n. get_or (joined_after ds [] js) n empty) z ∙ e) s
