-- Answers that are kept: what stays right, and how one is put into a row and into the rows.
use Rattle.std.proofs.Common.{ℕ, zero, suc, ◌≡◌, ◌≢◌, ◌⊎◌, ◌+◌, ◌*◌, ◌%◌, ◌<◌, ◌≤◌, Bool, true, List, [], ◌∷◌, ◌++◌, length, get_or, set, Some, None, Vec, arith, refl, sym, subst, ap, ◌∙◌, inl, inr}
use Rattle.std.specs.Vec.{vec_capacity}
use Rattle.std.proofs.lemmas.Bool.{cases_eq}
use Rattle.std.proofs.lemmas.Nat.Bits.{bit_at-zero}
use Rattle.std.proofs.lemmas.List.{map-set, length-map, get_or-map, get_or-set_same, get_or-set_other, get_or_append_left, length_push, length-set}
use Rattle.xd_doc.specs.Document.{Document}
use Rattle.xd_doc.specs.StoreNodes.{node_seq}
use Rattle.xd_auto.specs.Automaton.{Automaton, accepts}
use Rattle.xd_auto.specs.Marks.{SetsBit, bit_of}
use Rattle.xd_auto.specs.Kept.{Answers, AreRight, HasRoom, IsRight, KeepsAnswer, KeepsInRow, SameAnswers, StayRightForAutomaton, StayRightForStore, kept_at, kept_in, words_of}

pub stay_right_for_store : (rows : Answers) → StayRightForStore rows
stay_right_for_store rows a old new keeps right node s answer e =
    let was : IsRight a old node s answer = right node s answer e in
    record {
      belongs = keeps.belongs (node_seq node) was.belongs;
      state = was.state;
      is = was.is ∙ ap (λ (d : Document). accepts a d s) (sym (keeps.same (node_seq node) was.belongs));
    }

pub stay_right_for_automaton : (rows : Answers) → StayRightForAutomaton rows
stay_right_for_automaton rows old new ds extends keeps right node s answer e =
    let was : IsRight old ds node s answer = right node s answer e in
    record { belongs = was.belongs; state = extends.states s was.state; is = was.is ∙ sym (keeps _ s was.state) }

-- both bits of a node are set, one after the other
pub two_bits : (node : ℕ) (answer : Bool) (old middle new : List ℕ) → SetsBit (2 * node) true old middle → SetsBit (2 * node + 1) answer middle new
    → KeepsInRow node answer old new
two_bits node answer old middle new one two = record {
  there =
      let apart : 2 * node ≢ 2 * node + 1 = λ e. omega arith in
      rw (two.others (2 * node) apart, one.there, two.there) refl;
  others = λ p ne.
      let a : 2 * p ≢ 2 * node + 1 = λ e. omega arith in
      let b : 2 * p ≢ 2 * node = λ e. ne (omega arith) in
      let c : 2 * p + 1 ≢ 2 * node + 1 = λ e. ne (omega arith) in
      let d : 2 * p + 1 ≢ 2 * node = λ e. omega arith in
      rw (two.others (2 * p) a, one.others (2 * p) b, two.others (2 * p + 1) c, one.others (2 * p + 1) d) refl;
}

-- rows of the same bits keep the same
pub same_row : (old new : List ℕ) → ((i : ℕ) → bit_of new i ≡ bit_of old i) → (p : ℕ) → kept_in new p ≡ kept_in old p
same_row old new same p = rw (same (2 * p), same (2 * p + 1)) refl

pub row_from_same : (node : ℕ) (answer : Bool) (old middle new : List ℕ) → ((i : ℕ) → bit_of middle i ≡ bit_of old i) → KeepsInRow node answer middle new → KeepsInRow node answer old new
row_from_same node answer old middle new same k = record {
  there = k.there;
  others = λ p ne. k.others p ne ∙ same_row old middle same p;
}

module _ {A : Type 0} where
  -- the words of a state's row
  pub row_words : (rows : List (Vec ℕ A)) (s : ℕ) (row : Vec ℕ A) → s < length rows → get_or (words_of rows) s [] ≡ (get_or rows s row).items
  row_words rows s row lt = get_or-map (λ (r : Vec ℕ A). r.items) rows s row [] lt

  pub room_less : (rows : List (Vec ℕ A)) (states words states2 words2 : ℕ) → HasRoom states words rows → states2 ≤ states → words2 ≤ words → HasRoom states2 words2 rows
  room_less rows states words states2 words2 h fewer shorter = record {
    enough = omega (arith, h.enough);
    wide = λ s row lt.
        let below : s < states = omega arith in
        omega (arith, h.wide s row below);
  }

  -- an empty row more changes nothing
  pub same_more : (rows : List (Vec ℕ A)) (row : Vec ℕ A) → row.items ≡ [] → SameAnswers (words_of rows) (words_of (rows ++ row ∷ []))
  same_more rows row bare node s = ap (λ (words : List ℕ). kept_in words node) (at rows s)
    where
      at : (rows2 : List (Vec ℕ A)) (t : ℕ) → get_or (words_of (rows2 ++ row ∷ [])) t [] ≡ get_or (words_of rows2) t []
      at [] zero = bare
      at [] (suc t) = refl
      at (r ∷ rs) zero = refl
      at (r ∷ rs) (suc t) = at rs t

  pub room_more : (rows : List (Vec ℕ A)) (row : Vec ℕ A) (states words : ℕ) → HasRoom states words rows → HasRoom states words (rows ++ row ∷ [])
  room_more rows row states words h = record {
    enough = omega (arith, length_push rows row, h.enough);
    wide = λ s r lt.
        let below : s < length rows = omega (arith, h.enough) in
        rw (get_or_append_left rows (row ∷ []) r s below) (h.wide s r lt);
  }

  -- a row with as much room in the place of another
  pub room_set : (rows : List (Vec ℕ A)) (i : ℕ) (row : Vec ℕ A) (states words : ℕ) → i < length rows → vec_capacity (get_or rows i row) ≤ vec_capacity row
      → HasRoom states words rows → HasRoom states words (set rows i row)
  room_set rows i row states words lt wide h = record {
    enough = omega (arith, length-set rows i row, h.enough);
    wide = λ s r below. go s r below (cases_eq s i);
  }
    where
      go : (s : ℕ) (r : Vec ℕ A) → s < states → (s ≡ i) ⊎ (s ≢ i) → words ≤ vec_capacity (get_or (set rows i row) s r)
      go s r below (inl e) =
          let small : i < states = omega arith in
          rw (e, get_or-set_same rows i row r lt) (omega (arith, h.wide i row small))
      go s r below (inr ne) = rw (get_or-set_other rows i s row r ne) (h.wide s r below)

  words_here : (rows : List (Vec ℕ A)) (i : ℕ) (row : Vec ℕ A) → i < length rows → get_or (words_of (set rows i row)) i [] ≡ row.items
  words_here rows i row lt =
      let small : i < length (words_of rows) = omega (arith, length-map rows (λ (r : Vec ℕ A). r.items)) in
      ap (λ (ws : Answers). get_or ws i []) (map-set (λ (r : Vec ℕ A). r.items) rows i row) ∙ get_or-set_same (words_of rows) i row.items [] small

  words_there : (rows : List (Vec ℕ A)) (i s : ℕ) (row : Vec ℕ A) → s ≢ i → get_or (words_of (set rows i row)) s [] ≡ get_or (words_of rows) s []
  words_there rows i s row ne =
      ap (λ (ws : Answers). get_or ws s []) (map-set (λ (r : Vec ℕ A). r.items) rows i row) ∙ get_or-set_other (words_of rows) i s row.items [] ne

  words_before : (rows : List (Vec ℕ A)) (i : ℕ) (was : Vec ℕ A) → i < length rows → was ≡ get_or rows i was → get_or (words_of rows) i [] ≡ was.items
  words_before rows i was lt is = row_words rows i was lt ∙ ap (λ (r : Vec ℕ A). r.items) (sym is)

  -- a row in which an answer was put, in its place
  pub keep_row : (rows : List (Vec ℕ A)) (i node : ℕ) (answer : Bool) (row was : Vec ℕ A) → i < length rows → was ≡ get_or rows i was → KeepsInRow node answer was.items row.items
      → KeepsAnswer node i answer (words_of rows) (words_of (set rows i row))
  keep_row rows i node answer row was lt is k = record {
    there = ap (λ (ws : List ℕ). kept_in ws node) (words_here rows i row lt) ∙ k.there;
    others = λ p s o. go p s o (cases_eq s i);
  }
    where
      same_word : (p s : ℕ) → s ≢ i → kept_at (words_of (set rows i row)) p s ≡ kept_at (words_of rows) p s
      same_word p s ne = ap (λ (ws : List ℕ). kept_in ws p) (words_there rows i s row ne)

      at_row : (p : ℕ) → p ≢ node → kept_at (words_of (set rows i row)) p i ≡ kept_at (words_of rows) p i
      at_row p ne =
          ap (λ (ws : List ℕ). kept_in ws p) (words_here rows i row lt) ∙ k.others p ne
          ∙ sym (ap (λ (ws : List ℕ). kept_in ws p) (words_before rows i was lt is))

      go : (p s : ℕ) → (p ≢ node) ⊎ (s ≢ i) → (s ≡ i) ⊎ (s ≢ i) → kept_at (words_of (set rows i row)) p s ≡ kept_at (words_of rows) p s
      go p s o (inr ne) = same_word p s ne
      go p s (inr ne) (inl e) = same_word p s ne
      go p s (inl ne) (inl e) = subst (λ (t : ℕ). kept_at (words_of (set rows i row)) p t ≡ kept_at (words_of rows) p t) (sym e) (at_row p ne)

  pub same_rows : (rows : List (Vec ℕ A)) (i : ℕ) (row was : Vec ℕ A) → i < length rows → was ≡ get_or rows i was → ((p : ℕ) → kept_in row.items p ≡ kept_in was.items p)
      → SameAnswers (words_of rows) (words_of (set rows i row))
  same_rows rows i row was lt is same node s = go (cases_eq s i)
    where
      go : (s ≡ i) ⊎ (s ≢ i) → kept_at (words_of (set rows i row)) node s ≡ kept_at (words_of rows) node s
      go (inr ne) = ap (λ (ws : List ℕ). kept_in ws node) (words_there rows i s row ne)
      go (inl e) = subst (λ (t : ℕ). kept_at (words_of (set rows i row)) node t ≡ kept_at (words_of rows) node t) (sym e)
          (ap (λ (ws : List ℕ). kept_in ws node) (words_here rows i row lt) ∙ same node ∙ sym (ap (λ (ws : List ℕ). kept_in ws node) (words_before rows i was lt is)))

  -- rows without words keep nothing
  pub none_kept : (rows : List (Vec ℕ A)) → ((s : ℕ) (row : Vec ℕ A) → s < length rows → (get_or rows s row).items ≡ []) → (node s : ℕ) → kept_at (words_of rows) node s ≡ None
  none_kept rows bare node s = ap (λ (ws : List ℕ). kept_in ws node) (at rows s bare) ∙ rw (bit_at-zero (2 * node % 64)) refl
    where
      at : (rows2 : List (Vec ℕ A)) (t : ℕ) → ((u : ℕ) (row : Vec ℕ A) → u < length rows2 → (get_or rows2 u row).items ≡ []) → get_or (words_of rows2) t [] ≡ []
      at [] t h = refl
      at (r ∷ rs) zero h = h 0 r (omega arith)
      at (r ∷ rs) (suc t) h = at rs t (λ u row lt. h (suc u) row (omega arith))

  -- one more row without words
  pub bare_set : (rows : List (Vec ℕ A)) (i : ℕ) (row : Vec ℕ A) → i < length rows → row.items ≡ [] → ((s : ℕ) (d : Vec ℕ A) → s < i → (get_or rows s d).items ≡ [])
      → (s : ℕ) (d : Vec ℕ A) → s < i + 1 → (get_or (set rows i row) s d).items ≡ []
  bare_set rows i row lt bare below s d less = go (cases_eq s i)
    where
      go : (s ≡ i) ⊎ (s ≢ i) → (get_or (set rows i row) s d).items ≡ []
      go (inl e) = rw (e, get_or-set_same rows i row d lt) bare
      go (inr ne) = rw (get_or-set_other rows i s row d ne) (below s d (omega arith))

pub answer_from_same : (node s : ℕ) (answer : Bool) (old middle new : Answers) → SameAnswers old middle → KeepsAnswer node s answer middle new → KeepsAnswer node s answer old new
answer_from_same node s answer old middle new same k = record { there = k.there; others = λ p t o. k.others p t o ∙ same p t }

-- where nothing is kept, all that is kept is right
pub nothing_kept : (a : Automaton) (ds : List Document) → AreRight a ds []
nothing_kept a ds node s answer e =
    let none : kept_at [] node s.number ≡ None = none_kept {A = ℕ} [] (λ t row lt. absurd (omega arith)) node s.number in
    let both : None ≡ Some answer = sym none ∙ e in
    absurd (cc)
