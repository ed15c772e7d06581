-- The right side of a state.
use Rattle.std.proofs.Common.{◌≡◌, ◌⊎◌, ◌↔◌, inl, inr, ℕ, Bool, true, false, refl, sym, subst, List, [], ◌∷◌, ◌++◌, Option, Some}
use Rattle.std.specs.List.{list_any}
use Rattle.std.specs.Option.{IfSome}
use Rattle.xd_doc.specs.Document.{Document, empty, text, element}
use Rattle.xd_doc.proofs.Lists.{all_append}
use Rattle.xd_auto.specs.declared.auto.State.{State}
use Rattle.xd_auto.specs.Automaton.{Automaton, accepts, moves_at, takes_word, takes_element}
use Rattle.xd_syntax.specs.Tree.{Tree, Name}
use Rattle.xd_boole.specs.Universal.{AcceptsAll}
use Rattle.xd_syntax.specs.Words.{any_word}
use Rattle.xd_syntax.specs.Table.{Row}
use Rattle.xd_same_types.specs.Same.{Meaning, TakesItem}
use Rattle.xd_same_types.specs.Same.{HasTops}
use Rattle.xd_show_solve.specs.Equations.{Product, Side, ConstantTakes}
use Rattle.xd_show_solve.specs.Levels.{LabelsTake, TextsTake, HasPlace, AreLabelProducts, AreTextProducts, IsStateSide, last_tree}
use Rattle.xd_show_solve.proofs.SideLaws.{a_side, iff_refl}
use Rattle.xd_same_types.proofs.Facts.{iff_then, or_same}
use Rattle.xd_show_solve.proofs.SumLaws.{some_append}

last_empty : (N : Meaning) (b : Bool) → ConstantTakes N empty (last_tree b) ↔ (b ≡ true)
last_empty N true = (λ e. refl, λ e. refl)
last_empty N false = (λ e. absurd e, λ e. absurd (cc))

last_text : (N : Meaning) (t : List ℕ) (r : Document) (b : Bool) → ConstantTakes N (text t r) (last_tree b) → ⊥
last_text N t r true e = cc
last_text N t r false e = e

last_element : (N : Meaning) (l : List ℕ) (c r : Document) (b : Bool) → ConstantTakes N (element l c r) (last_tree b) → ⊥
last_element N l c r true e = cc
last_element N l c r false e = e

-- what a state accepts: an element that it takes, a text that it takes, or nothing
state_takes : (a : Automaton) (N : Meaning) (s : State) (d : Document) → ((LabelsTake a (moves_at a s).labels d ⊎ TextsTake a (moves_at a s).texts d) ⊎ ConstantTakes N d (last_tree (moves_at a s).last)) ↔ (accepts a d s ≡ true)
state_takes a N s empty = (go, λ e. inr ((last_empty N (moves_at a s).last).1 e))
  where
    go : (⊥ ⊎ ⊥) ⊎ ConstantTakes N empty (last_tree (moves_at a s).last) → (moves_at a s).last ≡ true
    go (inl (inl n)) = absurd n
    go (inl (inr n)) = absurd n
    go (inr e) = (last_empty N (moves_at a s).last).0 e
state_takes a N s (text t r) = (go, λ e. inl (inr e))
  where
    go : (⊥ ⊎ (list_any (takes_word a t r) (moves_at a s).texts ≡ true)) ⊎ ConstantTakes N (text t r) (last_tree (moves_at a s).last) → list_any (takes_word a t r) (moves_at a s).texts ≡ true
    go (inl (inl n)) = absurd n
    go (inl (inr e)) = e
    go (inr e) = absurd (last_text N t r (moves_at a s).last e)
state_takes a N s (element l c r) = (go, λ e. inl (inl e))
  where
    go : ((list_any (takes_element a l c r) (moves_at a s).labels ≡ true) ⊎ ⊥) ⊎ ConstantTakes N (element l c r) (last_tree (moves_at a s).last) → list_any (takes_element a l c r) (moves_at a s).labels ≡ true
    go (inl (inl e)) = e
    go (inl (inr n)) = absurd n
    go (inr e) = absurd (last_element N l c r (moves_at a s).last e)

last_tops : (b : Bool) → IfSome (last_tree b) (HasTops (any_word ∷ []))
last_tops true = refl
last_tops false = tt

pub state_side : (a : Automaton) (types : List Row) (written : _) (places : _) (s : State) (ps qs : List Product) (o : Option Tree) → AreLabelProducts a types written places (moves_at a s).labels ps → AreTextProducts a places (moves_at a s).texts qs →
    o ≡ last_tree (moves_at a s).last → IsStateSide a types written places s (a_side (ps ++ qs) o)
state_side a types written places s ps qs o l t e = subst (λ x. IsStateSide a types written places s (a_side (ps ++ qs) x)) (sym e) (record {
  takes = λ N X y c p d. iff_then (or_same (iff_then (some_append N X d ps qs) (or_same (l.takes N X c p d) (t.takes N X p d))) (iff_refl (ConstantTakes N d (last_tree (moves_at a s).last)))) (state_takes a N s d);
  items = all_append (λ (p : Product). TakesItem p.by) ps qs l.items t.items;
  placed = all_append (λ (p : Product). HasPlace places p.to) ps qs l.placed t.placed;
  tops = (all_append (λ (p : Product). HasTops (any_word ∷ []) p.by) ps qs (l.tops (any_word ∷ [])) (t.tops (any_word ∷ [])), last_tops (moves_at a s).last);
})

-- a state that accepts every document
pub any_side : (a : Automaton) (types : List Row) (written : _) (places : _) (s : State) (side : Side) → AcceptsAll a s → side ≡ a_side [] (Some (Name any_word)) → IsStateSide a types written places s side
any_side a types written places s side h e = subst (IsStateSide a types written places s) (sym e) (record {
  takes = λ N X y c p d. (λ f. h d, λ f. inr (y d));
  items = tt;
  placed = tt;
  tops = (tt, refl);
})
