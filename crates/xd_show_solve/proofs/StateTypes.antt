-- The type of a state, by the equations of its level.
use Rattle.std.proofs.Common.{◌≡◌, ◌⊎◌, ◌↔◌, inl, inr, ℕ, zero, suc, ◌<◌, true, sym, ap, ◌∙◌, subst, List, [], ◌∷◌, ◌++◌, length, get_or, Option, arith}
use Rattle.std.specs.List.{AllByRecursion}
use Rattle.xd_doc.proofs.Lists.{all_there, same_at}
use Rattle.xd_auto.specs.declared.auto.State.{State}
use Rattle.xd_auto.specs.Automaton.{Automaton, accepts}
use Rattle.xd_auto.specs.declared.auto.LabelMove.{LabelMove}
use Rattle.xd_syntax.specs.Table.{Row}
use Rattle.xd_same_types.specs.Grown.{GrowsTypes}
use Rattle.xd_syntax.specs.declared.types.TypeId.{TypeId}
use Rattle.xd_syntax.specs.Words.{any_word}
use Rattle.xd_same_types.specs.Same.{Meaning, TakesItem}
use Rattle.xd_show_solve.specs.Equations.{Product, Side, Unknowns, IsFine, ConstantTakes, SumStands, own_in, side_in}
use Rattle.xd_show_solve.specs.Systems.{AllStand, AreEquations, AreFineSums, IsSolution, Reduces, SumsTops, is_alive, all_alive}
use Rattle.xd_show_solve.specs.Levels.{AreContents, MeansAny, ArePlaced, ArePlaces, AreStateSums, HasPlace, IsLevel, IsReady, IsStateSide, IsStateType, IsWritten, WrittenBelong}
use Rattle.xd_show_solve.specs.declared.sums.Sum.{Sum}
use Rattle.xd_same_types.proofs.Ids.{got}
use Rattle.xd_show_solve.proofs.ReduceLaws.{alive_there, pushed_cases}
use Rattle.xd_show_solve.proofs.LevelLaws.{contents_stay}
use Rattle.xd_show_solve.proofs.SumSteps.{side_kept}
use Rattle.xd_same_types.proofs.Facts.{iff_back}

-- what the states of a level accept
abbrev pub unknowns_of : Automaton → List State → State → Unknowns
unknowns_of a states start i d = accepts a d (get_or states i start)

module _ (a : Automaton) (old new : List Row) (written : List (Option TypeId)) (places : List (Option ℕ)) (states : List State) (start : State) (sums : List Sum) (level : IsLevel a states places) (count : length sums ≡ length states) (sides : AreStateSums a old written places states new sums) where
  abbrev pub X : Unknowns
  X = unknowns_of a states start

  placed : ArePlaces a X places
  placed s p e d =
      let r = level.right s p e in
      let f : get_or states p start ≡ s = at_place states p start s r.0 r.1 in
      (λ g. subst (λ x. accepts a d x ≡ true) f g, λ g. subst (λ x. accepts a d x ≡ true) (sym f) g)
    where
      at_place : (xs : List State) (k : ℕ) (x y : State) → k < length xs → get_or xs k y ≡ y → get_or xs k x ≡ y
      at_place [] k x y l e = absurd (omega (arith, l))
      at_place (z ∷ zs) zero x y l e = e
      at_place (z ∷ zs) (suc k) x y l e = let m : k < length zs = omega (arith, l) in at_place zs k x y m e

  side_at : (i : ℕ) (t : Sum) → i < length sums → t ≡ get_or sums i t → IsStateSide a old written places (get_or states i start) (side_in new t)
  side_at i t l e = let m : i < length states = omega (arith, l, count) in sides i (get_or states i start) t l (got states i start m) e

  pub level_equations : (N : Meaning) → MeansAny N → AreContents a N old written → AreEquations N X new (all_alive sums) sums
  level_equations N any contents i t l v e d = iff_back ((side_at i t l e).takes N X any contents placed d)

  pub level_fine : AreFineSums new (all_alive sums) [] sums
  level_fine i t l v e = fine (side_in new t).products (side_at i t l e).items (side_at i t l e).placed
    where
      fine : (ps : List Product) → AllByRecursion (λ (p : Product). TakesItem p.by) ps → AllByRecursion (λ (p : Product). HasPlace places p.to) ps → AllByRecursion (IsFine (is_alive (all_alive sums)) [] (get_or [] i 0)) ps
      fine [] h g = tt
      fine (p ∷ ps) h g =
          let w = level.right g.0.0 p.to g.0.1 in
          let m : p.to < length sums = omega (arith, w.0, count) in
          (record { use_allowed = alive_there sums p.to m; guarded = inl h.0 }, fine ps h.1 g.1)

  pub level_tops : SumsTops (any_word ∷ []) new sums
  level_tops i t l e = (side_at i t l e).tops

pub state_type_law : (a : Automaton) (old mid low new : List Row) (written : List (Option TypeId)) (places : List (Option ℕ)) (states : List State) (start : State) (sums few : List Sum) (o : Option TypeId) → IsLevel a states places → length sums ≡ length states → start ≡ get_or states 0 start → AreStateSums a old written places states mid sums →
    Reduces mid low sums few → IsSolution low new few o → IsStateType a old written start new o
state_type_law a old mid low new written places states start sums few o level count first sides r s = record {
  exact = λ N any contents d.
      let eqs = level_equations a old mid written places states start sums level count sides N any contents in
      let fine = level_fine a old mid written places states start sums level count sides in
      let few_fine = r.fine fine in
      let it = s.exact N (unknowns_of a states start) few_fine.0 few_fine.1 (r.equations N (unknowns_of a states start) eqs) d in
      subst (λ x. (accepts a d x ≡ true) ↔ ConstantTakes N d (own_in new o)) (sym first) it;
  tops = s.tops (any_word ∷ []) (r.tops (any_word ∷ []) (level_tops a old mid written places states start sums level count sides));
}

-- the same side over a table that has grown
state_side_before : (o : Automaton) (a b : List Row) → GrowsTypes a b → (written : List (Option TypeId)) (places : List (Option ℕ)) (s : State) (side : Side) → WrittenBelong a written → IsStateSide o b written places s side → IsStateSide o a written places s side
state_side_before o a b k written places s side h g = record { takes = λ N X y c q d. g.takes N X y (contents_stay o N a b k written h c) q d; items = g.items; placed = g.placed; tops = g.tops }

pub state_sums_none : (o : Automaton) (a b : List Row) (written : List (Option TypeId)) (places : List (Option ℕ)) (states : List State) → AreStateSums o a written places states b []
state_sums_none o a b written places states i s t l e f = absurd (omega (arith, l))

pub state_sums_more : (o : Automaton) (a m b : List Row) → GrowsTypes a m → GrowsTypes m b → (written : List (Option TypeId)) (places : List (Option ℕ)) (states : List State) (sums : List Sum) (i : ℕ) (s : State) (t : Sum) → WrittenBelong a written → AllStand m sums →
    i ≡ length sums → i < length states → s ≡ get_or states i s → AreStateSums o a written places states m sums → IsStateSide o m written places s (side_in b t) → AreStateSums o a written places states b (sums ++ t ∷ [])
state_sums_more o a m b early late written places states sums i s t h st q n g r w k x y l e f = by_case (pushed_cases sums t k y l f)
  where
    by_case : ((k < length sums) × (y ≡ get_or sums k y)) ⊎ ((k ≡ length sums) × (y ≡ t)) → IsStateSide o a written places x (side_in b y)
    by_case (inl c) = subst (IsStateSide o a written places x) (sym (side_kept m b late y (all_there (SumStands m) sums k y st c.0 c.1))) (r k x y c.0 e c.1)
    by_case (inr c) =
        let j : k ≡ i = c.0 ∙ sym q in
        let z : x ≡ s = e ∙ ap (λ u. get_or states u x) j ∙ same_at states i x s n ∙ sym g in
        subst (λ u. IsStateSide o a written places u (side_in b y)) (sym z) (subst (λ u. IsStateSide o a written places s (side_in b u)) (sym c.1) (state_side_before o a m early written places s (side_in b t) h w))

pub all_ready : (written : List (Option TypeId)) (places : List (Option ℕ)) (ms : List LabelMove) → AllByRecursion (λ (m : LabelMove). IsWritten written m.content) ms → ArePlaced places ms → AllByRecursion (IsReady written places) ms
all_ready written places [] w p = tt
all_ready written places (m ∷ ms) w p = (record { content = w.0; rest = p.0 }, all_ready written places ms w.1 p.1)
