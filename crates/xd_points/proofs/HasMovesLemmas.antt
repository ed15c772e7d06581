-- A state gets the moves that its point asks for.
use Rattle.std.proofs.Common.{ℕ, ◌+◌, ◌<◌, ◌≤◌, ◌≡◌, Bool, true, false, List, [], ◌∷◌, ◌++◌, length, inl, inr, refl, sym, ap, ◌∙◌, subst, arith, length-append}
use Rattle.std.specs.List.{All, AllZip}
use Rattle.std.proofs.lemmas.Bool.{cases_eq, cases_lt}
use Rattle.xd_auto.specs.declared.auto.State.{State}
use Rattle.xd_auto.specs.declared.auto.LabelMove.{LabelMove}
use Rattle.xd_auto.specs.declared.auto.TextMove.{TextMove}
use Rattle.xd_auto.specs.Automaton.{Automaton, ChangesOnly, StateMoves, moves_at}
use Rattle.xd_points.specs.declared.patterns.PatternStates.{PatternStates}
use Rattle.xd_points.specs.Meaning.{PointView, is_old_point}
use Rattle.xd_boole.proofs.ArePointsLemmas.{at_end, at_front, place_cases}
use Rattle.xd_points.specs.declared.points.Points.{Points}
use Rattle.xd_points.specs.Points.{AreExpanded, AreMovesFor, ArePoints, Grows, HasMoves, IsBare, IsLabelStep, IsTextStep, KeepMoves, KeepsPoints, LabelsStand, RowView, TextsStand, is_old, no_row, point_at, row_at, state_at}
use Rattle.xd_points.proofs.GrowsLemmas.{grows_trans, keeps, label_stays, text_stays}
use Rattle.xd_points.proofs.StandForMovesLemmas.{stand_more, zip_all}

-- the points with another automaton
abbrev pub with_made : Points → Automaton → Points
with_made p made = record { made = made; points = p.points; found = p.found }

module _ (a : Automaton) (b : PatternStates) where
  -- a state that has its moves keeps them
  pub has_more : (first : Bool) (p q : Points) (i : ℕ) (row : RowView) → KeepsPoints p q → moves_at q.made (state_at i) ≡ moves_at p.made (state_at i) → i < length p.points.items → HasMoves first a b p i row → HasMoves first a b q i row
  has_more first p q i row stay same lt h =
      let of = point_at p.points.items i in
      subst (λ (v : PointView). AreMovesFor first a b q v (moves_at q.made (state_at i)) row) (sym (stay.points i lt))
      (subst (λ (ms : StateMoves). AreMovesFor first a b q of ms row) (sym same)
      (record { labels = stand_more (label_stays a b) stay h.labels; texts = stand_more (text_stays a b) stay h.texts }))

  -- the new moves lead to the states of points
  pub labels_lead : (s : State) (p q : Points) (ms : List LabelMove) (ns : List ℕ) → AllZip (IsLabelStep b.auto s p) ms ns → KeepsPoints p q → ArePoints a b q → All (λ m. (m.content.number < length q.made) × (m.rest.number < length q.made)) ms
  labels_lead s p q ms ns h stay whole =
      zip_all (IsLabelStep b.auto s p) (λ m. (m.content.number < length q.made) × (m.rest.number < length q.made)) ms ns
      (λ m n step. (omega (arith, step.leads.0.within, stay.longer, whole.count), omega (arith, step.leads.1.0.within, stay.longer, whole.count))) h

  pub texts_lead : (s : State) (p q : Points) (ms : List TextMove) (ns : List ℕ) → AllZip (IsTextStep b.auto s p) ms ns → KeepsPoints p q → ArePoints a b q → All (λ m. m.rest.number < length q.made) ms
  texts_lead s p q ms ns h stay whole =
      zip_all (IsTextStep b.auto s p) (λ m. m.rest.number < length q.made) ms ns (λ m n step. omega (arith, step.leads.0.within, stay.longer, whole.count)) h

module _ (first : Bool) (a : Automaton) (b : PatternStates) (old mid new : Points) (made : Automaton) (rows : List RowView) (row : RowView) (of : PointView) (labels : List LabelMove) (texts : List TextMove)
    (expanded : AreExpanded first a b old rows) (within : length rows < length old.points.items)
    (of_is : point_at old.points.items (length rows) ≡ of)
    (grows_one : Grows old mid) (grows_two : Grows mid new) (points : ArePoints a b new)
    (labels_stand : LabelsStand first a b mid of labels row.labels) (texts_stand : TextsStand first a b new of texts row.texts)
    (is : moves_at made (state_at (length rows)) ≡ record (moves_at new.made (state_at (length rows))) { labels = labels; texts = texts })
    (changes : ChangesOnly (state_at (length rows)) new.made made) where
  grows : Grows old new
  grows = grows_trans old mid new grows_one grows_two

  pub stay : KeepsPoints old (with_made new made)
  stay = record { longer = grows.longer; points = grows.points }

  stay_mid : KeepsPoints mid (with_made new made)
  stay_mid = record { longer = grows_two.longer; points = grows_two.points }

  stay_new : KeepsPoints new (with_made new made)
  stay_new = record { longer = omega arith; points = λ i lt. refl }

  last_stays : (i : ℕ) → (moves_at made (state_at i)).last ≡ (moves_at new.made (state_at i)).last
  last_stays i = elim (cases_eq i (length rows)) [
    | inl e ↦ subst (λ (k : ℕ). (moves_at made (state_at k)).last ≡ (moves_at new.made (state_at k)).last) (sym e) (ap (λ (m : StateMoves). m.last) is)
    | inr ne ↦ ap (λ (m : StateMoves). m.last) (changes.others (state_at i) ne)
  ]

  whole : ArePoints a b (with_made new made)
  whole = record {
    count = changes.states ∙ points.count;
    points = points.points;
    last = λ i lt. last_stays i ∙ points.last i lt;
    only = points.only;
  }

  -- each other state has the moves that it had
  others : (i : ℕ) → (i ≡ length rows → ⊥) → i < length old.points.items → moves_at made (state_at i) ≡ moves_at old.made (state_at i)
  others i ne lt = changes.others (state_at i) ne ∙ grows.moves i lt

  here_is : point_at new.points.items (length rows) ≡ of
  here_is = grows.points (length rows) within ∙ of_is

  here : HasMoves first a b (with_made new made) (length rows) row
  here =
      subst (λ (v : PointView). AreMovesFor first a b (with_made new made) v (moves_at made (state_at (length rows))) row) (sym here_is)
      (subst (λ (ms : StateMoves). AreMovesFor first a b (with_made new made) of ms row) (sym is) (record {
        labels = stand_more (label_stays a b) stay_mid labels_stand;
        texts = stand_more (text_stays a b) stay_new texts_stand;
      }))

  count : length (rows ++ row ∷ []) ≡ length rows + 1
  count = length-append rows (row ∷ [])

  all_have : (i : ℕ) → i < length (rows ++ row ∷ []) → is_old b new i ≡ false → HasMoves first a b (with_made new made) i (row_at (rows ++ row ∷ []) i)
  all_have i lt yet = elim (place_cases rows (rows ++ row ∷ []) row i refl lt) [
    | inl below ↦
        let ne : i ≡ length rows → ⊥ = λ (e : i ≡ length rows). omega arith in
        let there : i < length old.points.items = omega arith in
        subst (HasMoves first a b (with_made new made) i) (sym (at_front rows (rows ++ row ∷ []) row no_row i refl below))
        (has_more a b first old (with_made new made) i (row_at rows i) stay (others i ne there) there (expanded.has i below (ap (is_old_point b) (sym (grows.points i there)) ∙ yet)))
    | inr e ↦
        subst (HasMoves first a b (with_made new made) i) (sym (at_end rows (rows ++ row ∷ []) row no_row i refl e))
        (subst (λ (k : ℕ). HasMoves first a b (with_made new made) k row) (sym e) here)
  ]

  bare_else : (i : ℕ) → length (rows ++ row ∷ []) ≤ i → i < length new.points.items → IsBare (moves_at made (state_at i))
  bare_else i le lt =
      let ne : i ≡ length rows → ⊥ = λ (e : i ≡ length rows). omega (arith, count) in
      subst IsBare (sym (changes.others (state_at i) ne)) (elim (cases_lt i (length old.points.items)) [
        | inl h ↦ subst IsBare (sym (grows.moves i h)) (expanded.bare i (omega (arith, count)) h)
        | inr h ↦ grows.fresh i h lt
      ])

  pub earlier_keep : KeepMoves (length rows) old (with_made new made)
  earlier_keep i lt = others i (λ (e : i ≡ length rows). omega arith) (omega (arith, lt, within))

  pub expanded_more : AreExpanded first a b (with_made new made) (rows ++ row ∷ [])
  expanded_more = record { whole = whole; within = omega (arith, count, grows.longer); has = all_have; bare = bare_else }

-- a point that means what an old state accepts gets no moves
module _ (first : Bool) (a : Automaton) (b : PatternStates) (p : Points) (rows : List RowView) (expanded : AreExpanded first a b p rows) (within : length rows < length p.points.items) (old : is_old b p (length rows) ≡ true) where
  count_bare : length (rows ++ no_row ∷ []) ≡ length rows + 1
  count_bare = length-append rows (no_row ∷ [])

  have_bare : (i : ℕ) → i < length (rows ++ no_row ∷ []) → is_old b p i ≡ false → HasMoves first a b p i (row_at (rows ++ no_row ∷ []) i)
  have_bare i lt yet = elim (place_cases rows (rows ++ no_row ∷ []) no_row i refl lt) [
    | inl below ↦ subst (HasMoves first a b p i) (sym (at_front rows (rows ++ no_row ∷ []) no_row no_row i refl below)) (expanded.has i below yet)
    | inr e ↦ absurd (no_both (ap (is_old b p) e ∙ old) yet)
  ]
    where
      no_both : is_old b p i ≡ true → is_old b p i ≡ false → ⊥
      no_both x y = cc

  pub expanded_bare : AreExpanded first a b p (rows ++ no_row ∷ [])
  expanded_bare = record { whole = expanded.whole; within = omega (arith, count_bare); has = have_bare; bare = λ i le lt. expanded.bare i (omega (arith, count_bare)) lt }

-- new points have no moves yet
pub expanded_grown : (first : Bool) (a : Automaton) (b : PatternStates) (old new : Points) (rows : List RowView) → AreExpanded first a b old rows → Grows old new → ArePoints a b new → AreExpanded first a b new rows
expanded_grown first a b old new rows expanded grows whole = record {
  whole = whole;
  within = omega (arith, expanded.within, grows.longer);
  has = λ i lt yet.
      let there : i < length old.points.items = omega (arith, lt, expanded.within) in
      has_more a b first old new i (row_at rows i) (keeps old new grows) (grows.moves i there) there (expanded.has i lt (ap (is_old_point b) (sym (grows.points i there)) ∙ yet));
  bare = λ i le lt. elim (cases_lt i (length old.points.items)) [
    | inl h ↦ subst IsBare (sym (grows.moves i h)) (expanded.bare i le h)
    | inr h ↦ grows.fresh i h lt
  ];
}
