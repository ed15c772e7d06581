-- On states and moves that have nothing in common.
use Rattle.std.proofs.Common.{◌≡◌, ℕ, ◌+◌, ◌<◌, ◌≤◌, Bool, true, false, ◌&&◌, ◌||◌, List, [], ◌∷◌, ◌++◌, take, length, get_or, sym, ap, ◌∙◌, subst}
use Rattle.std.specs.List.{list_any}
use Rattle.std.proofs.lemmas.List.Folds.{list_any-append, list_any_more}
use Rattle.xd_doc.specs.Document.{empty, text, element}
use Rattle.xd_doc.specs.Classes.{class_has}
use Rattle.xd_doc.proofs.SortedNames.{or_false}
use Rattle.xd_doc.proofs.Bools.{and_false_within}
use Rattle.xd_doc.proofs.Lists.{all_push}
use Rattle.xd_auto.specs.declared.auto.State.{State}
use Rattle.xd_auto.specs.declared.auto.LabelMove.{LabelMove}
use Rattle.xd_auto.specs.declared.auto.TextMove.{TextMove}
use Rattle.xd_auto.specs.Automaton.{Automaton, moves_at}
use Rattle.xd_boole.specs.declared.groups.MoveSide.{MoveSide}
use Rattle.xd_boole.specs.Meaning.{ElementFirst, TextFirst, move_takes, text_takes}
use Rattle.xd_boole.specs.Groups.{AllPass, label_side, side_accepts}
use Rattle.xd_boole.specs.Disjoint.{AreDisjoint, AreDisjointSides, AreNearMoves}
use Rattle.xd_boole.proofs.Lists.{all_at, any_walked}

module _ (a b : Automaton) where
  -- moves of which no two take the same
  abbrev pub NoneShared : List LabelMove → List LabelMove → Type 0
  NoneShared ms others = (q : ElementFirst) → (list_any (move_takes a q) ms && list_any (move_takes b q) others) ≡ false

  abbrev pub NoTextShared : List TextMove → List TextMove → Type 0
  NoTextShared ms others = (q : TextFirst) → (list_any (text_takes a q) ms && list_any (text_takes b q) others) ≡ false

  pub disjoint_states : (s t : State) → ((moves_at a s).last && (moves_at b t).last) ≡ false → NoneShared (moves_at a s).labels (moves_at b t).labels → NoTextShared (moves_at a s).texts (moves_at b t).texts → AreDisjoint a b s t
  disjoint_states s t last labels texts empty = last
  disjoint_states s t last labels texts (text x d) = texts (record { characters = x; rest = d })
  disjoint_states s t last labels texts (element l c d) = labels (record { label = l; content = c; rest = d })

  -- the moves that were looked at are all moves
  pub none_shared : (items others ms ns : List LabelMove) (i : ℕ) → length items ≤ i → items ≡ ms → others ≡ ns → NoneShared (take i items) others → NoneShared ms ns
  none_shared items others ms ns i le is are h q =
      sym (ap (λ w. w && list_any (move_takes b q) ns) (any_walked (move_takes a q) items i le ∙ ap (list_any (move_takes a q)) is))
      ∙ ap (λ zs. list_any (move_takes a q) (take i items) && list_any (move_takes b q) zs) (sym are) ∙ h q

  pub no_text_shared : (items others ms ns : List TextMove) (i : ℕ) → length items ≤ i → items ≡ ms → others ≡ ns → NoTextShared (take i items) others → NoTextShared ms ns
  no_text_shared items others ms ns i le is are h q =
      sym (ap (λ w. w && list_any (text_takes b q) ns) (any_walked (text_takes a q) items i le ∙ ap (list_any (text_takes a q)) is))
      ∙ ap (λ zs. list_any (text_takes a q) (take i items) && list_any (text_takes b q) zs) (sym are) ∙ h q

  pub move_disjoint : (part : MoveSide) (m : LabelMove) → AreDisjointSides a b part (label_side m) → (q : ElementFirst) → (side_accepts a q.content q.rest part && move_takes b q m) ≡ false
  move_disjoint part m apart q = and_false_within (side_accepts a q.content q.rest part) (class_has m.class q.label) (side_accepts b q.content q.rest (label_side m)) (apart q.content q.rest)

-- ---- what is near a part

-- of the first of these moves some, which take the same of what a part accepts
pub record NearFirst (a b : Automaton) (part : MoveSide) (items : List LabelMove) (i : ℕ) (near : List LabelMove) : Type 0 where
  pub taken : (q : ElementFirst) → side_accepts a q.content q.rest part ≡ true → list_any (move_takes b q) near ≡ list_any (move_takes b q) (take i items)
  pub all : (p : LabelMove → Bool) → AllPass p items → AllPass p near

module _ (a b : Automaton) (part : MoveSide) (items : List LabelMove) where
  pub near_none : (near : List LabelMove) → near ≡ [] → NearFirst a b part items 0 near
  near_none near none = record {
    taken = λ q e. ap (list_any (move_takes b q)) none;
    all = λ p h. subst (AllPass p) (sym none) tt;
  }

  pub near_all : (i : ℕ) (near : List LabelMove) → length items ≤ i → NearFirst a b part items i near → AreNearMoves a b part items near
  near_all i near le h = record {
    taken = λ q e. h.taken q e ∙ any_walked (move_takes b q) items i le;
    all = h.all;
  }

  module _ (i : ℕ) (x : LabelMove) (lt : i < length items) (at : x ≡ get_or items i x) (near : List LabelMove) (before : NearFirst a b part items i near) where
    one_more : (q : ElementFirst) → (list_any (move_takes b q) (take i items) || move_takes b q x) ≡ list_any (move_takes b q) (take (i + 1) items)
    one_more q = ap (λ w. list_any (move_takes b q) (take i items) || move_takes b q w) at ∙ sym (list_any_more (move_takes b q) items i x lt)

    pub near_kept : (new : List LabelMove) → new ≡ near ++ x ∷ [] → NearFirst a b part items (i + 1) new
    near_kept new is = record {
      taken = λ q e.
          ap (list_any (move_takes b q)) is ∙ list_any-append (move_takes b q) near (x ∷ []) ∙ ap (λ w. list_any (move_takes b q) near || w) (or_false (move_takes b q x))
          ∙ ap (λ w. w || move_takes b q x) (before.taken q e) ∙ one_more q;
      all = λ p h. subst (AllPass p) (sym is) (all_push (λ w. p w ≡ true) near x (before.all p h) (all_at (λ w. p w ≡ true) items h i x lt at));
    }

    pub near_dropped : ((q : ElementFirst) → (side_accepts a q.content q.rest part && move_takes b q x) ≡ false) → NearFirst a b part items (i + 1) near
    near_dropped apart = record {
      taken = λ q e.
          before.taken q e ∙ sym (or_false (list_any (move_takes b q) (take i items)))
          ∙ ap (λ w. list_any (move_takes b q) (take i items) || w) (sym (ap (λ w. w && move_takes b q x) (sym e) ∙ apart q))
          ∙ one_more q;
      all = before.all;
    }
