-- In a guarded program each kind of pattern has the ways that its row says, with as many unfoldings
-- as each document needs.
use Rattle.std.proofs.Common.{◌≡◌, ℕ, suc, zero, ◌+◌, ◌*◌, ◌≤◌, ltb, ltb-true, mul-le-mul_right, arith, true, false, cond, Bool, List, [], ◌∷◌, ◌++◌, map, flat_map, length, Some, None, refl, ap, sym, ◌∙◌}
use Rattle.xd_doc.specs.Document.{Document, empty, element, size}
use Rattle.xd_doc.specs.Classes.{LabelClass, class_has}
use Rattle.xd_doc.specs.Members.{IsOneOf}
use Rattle.xd_syntax.specs.Tree.{Tree, Name, Elem, Seq, Star, Plus, Definitions, body}
use Rattle.xd_syntax.specs.Ways.{Way, no_item_way, then_way, item_count, turns, is_whole, element_ways, ways_by, ways_of_definition, ways_of_name, ways_within, unfoldings, ways}
use Rattle.xd_laws.specs.Guarded.{Guarded}
use Rattle.xd_syntax.proofs.Members.{flat_same}
use Rattle.xd_laws.proofs.FitsWays.{turns_fuel, cond_same}
use Rattle.xd_laws.proofs.WaysFit.{sound}
use Rattle.xd_laws.proofs.Unfoldings.{stable, rest_within}

-- the ways of a repetition: a turn that leaves less, and the repetition after it; then no turn
abbrev pub turn_ways : (Document → List Way) → Document → Way → List Way
turn_ways W d v = cond (ltb (item_count v.rest) (item_count d)) (map (then_way v) (W v.rest)) []

not_below_none : (W : Document → List Way) (d : Document) (L : List Way) → item_count d ≡ 0 → flat_map (turn_ways W d) L ≡ []
not_below_none W d [] e = refl
not_below_none W d (v ∷ L) e = go (ltb (item_count v.rest) (item_count d)) refl (not_below_none W d L e)
  where
    go : (b : Bool) → ltb (item_count v.rest) (item_count d) ≡ b → flat_map (turn_ways W d) L ≡ [] → cond b (map (then_way v) (W v.rest)) [] ++ flat_map (turn_ways W d) L ≡ []
    go true h r = let k = ltb-true _ _ h in absurd (omega arith)
    go false h r = r

module _ (E : Definitions) (guarded : Guarded E) where
  pub enough : (n : ℕ) (T : Tree) (d : Document) → unfoldings E d ≤ n → ways_within E n T d ≡ ways E T d
  enough n T d h =
      let r : (size d + 1) * length E ≤ unfoldings E d = omega arith in sym (stable E guarded (unfoldings E d) n h T d r)

  fewer : (b d : Document) → size b ≤ size d → unfoldings E b ≤ unfoldings E d
  fewer b d h = let i : size b + 1 ≤ size d + 1 = omega arith in mul-le-mul_right (length E + 1) i

  -- the unfoldings for a document suffice for what a way leaves of it
  pub enough_behind : (T U : Tree) (d : Document) (v : Way) → IsOneOf v (ways E T d) → ways_within E (unfoldings E d) U v.rest ≡ ways E U v.rest
  enough_behind T U d v m =
      let g = sound E (unfoldings E d) T d v m in
      enough (unfoldings E d) U v.rest (fewer v.rest d (rest_within v.taken v.rest d g.0))

  pub ways_seq : (T U : Tree) (d : Document) → ways E (Seq T U) d ≡ flat_map (λ v. map (then_way v) (ways E U v.rest)) (ways E T d)
  ways_seq T U d =
      flat_same (λ v. map (then_way v) (ways_within E (unfoldings E d) U v.rest)) (λ v. map (then_way v) (ways E U v.rest)) (ways E T d)
      (λ v m. ap (map (then_way v)) (enough_behind T U d v m))

  pub ways_plus : (T : Tree) (d : Document) → ways E (Plus T) d ≡ flat_map (λ v. map (then_way v) (ways E (Star T) v.rest)) (ways E T d)
  ways_plus T d =
      flat_same (λ v. map (then_way v) (ways_within E (unfoldings E d) (Star T) v.rest)) (λ v. map (then_way v) (ways E (Star T) v.rest)) (ways E T d)
      (λ v m. ap (map (then_way v)) (enough_behind T (Star T) d v m))

  pub ways_star : (T : Tree) (d : Document) → ways E (Star T) d ≡ flat_map (turn_ways (ways E (Star T)) d) (ways E T d) ++ no_item_way d ∷ []
  ways_star T d = go (item_count d) refl
    where
      go : (k : ℕ) → item_count d ≡ k → turns (ways_within E (unfoldings E d) T) k d ≡ flat_map (turn_ways (ways E (Star T)) d) (ways E T d) ++ no_item_way d ∷ []
      go zero e = ap (λ xs. xs ++ no_item_way d ∷ []) (sym (not_below_none (ways E (Star T)) d (ways E T d) e))
      go (suc k) e =
          ap (λ xs. xs ++ no_item_way d ∷ [])
          (flat_same (turn_ways (turns (ways_within E (unfoldings E d) T) k) d) (turn_ways (ways E (Star T)) d) (ways E T d)
          (λ v m. cond_same (ltb (item_count v.rest) (item_count d)) _ _ (λ t. let l = ltb-true _ _ t in
          ap (map (then_way v))
          (turns_fuel (ways_within E (unfoldings E d) T) k (item_count v.rest) v.rest (omega arith) (omega arith) ∙ enough_behind T (Star T) d v m))))

  pub ways_elem : (c : LabelClass) (T : Tree) (l : List ℕ) (k d : Document) → ways E (Elem c T) (element l k d) ≡ element_ways c (ways E T) (element l k d)
  ways_elem c T l k d =
      ap (λ ws. cond (class_has c l) (flat_map (λ v. cond (is_whole v) (record { bindings = v.bindings; taken = element l k empty; rest = d } ∷ []) []) ws) [])
      (enough (unfoldings E (element l k d)) T k (fewer k (element l k d) (omega arith)))

  pub ways_name : (x : List ℕ) (T : Tree) (d : Document) → body E x ≡ Some T → ways E (Name x) d ≡ ways E T d
  ways_name x T d e =
      sym (enough (suc (unfoldings E d)) (Name x) d (omega arith))
      ∙ ap (λ o. ways_of_definition (ways_by (ways_of_name E (unfoldings E d))) o d) e

  pub ways_no_name : (x : List ℕ) (d : Document) → body E x ≡ None → ways E (Name x) d ≡ []
  ways_no_name x d e =
      sym (enough (suc (unfoldings E d)) (Name x) d (omega arith))
      ∙ ap (λ o. ways_of_definition (ways_by (ways_of_name E (unfoldings E d))) o d) e
