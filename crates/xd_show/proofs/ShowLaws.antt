-- Names that stand for states, and what is shown.
use Rattle.std.proofs.Common.{◌≡◌, ◌↔◌, ℕ, zero, suc, ◌<◌, Bool, true, false, cond, arith, refl, sym, ap, ◌∙◌, List, [], ◌∷◌, length, get_or}
use Rattle.std.specs.Str.{bytes_eq}
use Rattle.std.specs.Prelude.{Option, Some, slice_get}
use Rattle.std.proofs.lemmas.Slice.Eq.{bytes_eq-Decides}
use Rattle.xd_doc.specs.Document.{Document}
use Rattle.xd_doc.proofs.Bools.{cond_true, cond_false}
use Rattle.xd_doc.proofs.Lists.{word_equals, first_at}
use Rattle.xd_auto.specs.declared.auto.State.{State}
use Rattle.xd_auto.specs.Automaton.{Automaton, accepts}
use Rattle.xd_syntax.specs.Words.{any_word}
use Rattle.xd_syntax.specs.Program.{ProgramTree}
use Rattle.xd_syntax.specs.Table.{Row, tree_at}
use Rattle.xd_syntax.specs.Types.{BelongsTo}
use Rattle.xd_syntax.specs.declared.types.TypeId.{TypeId}
use Rattle.xd_same_types.specs.Grown.{NamesAmong}
use Rattle.xd_same_types.specs.Same.{Meaning, FitsAs, HasTops}
use Rattle.xd_same_types.proofs.Ids.{got}
use Rattle.xd_shown.specs.Bodies.{AreBodies, AreMeant, HasProper}
use Rattle.xd_shown.specs.FreeNames.{AreDistinct, AreNewNames}
use Rattle.xd_shown.specs.Shown.{IsShown}
use Rattle.xd_empty.specs.Parts.{HasDocument}
use Rattle.xd_show_solve.specs.Levels.{MeansAny}
use Rattle.xd_named_parts.proofs.NamedLaws.{lacks_there}
use Rattle.xd_show.proofs.ContentLaws.{all_of_each}
use Rattle.xd_show.specs.Contents.{AreBodiesBy, AreContentsBy, IsTypeOf, MeansAnyAnd, MeansAnyAndStates, MeansStates}

-- the state of the first of the words that is this one
abbrev pub stands_for : Automaton → List (List ℕ) → List State → Meaning
stands_for a [] named w d = false
stands_for a (x ∷ xs) [] w d = false
stands_for a (x ∷ xs) (s ∷ ss) w d = cond (bytes_eq x w) (accepts a d s) (stands_for a xs ss w d)

-- words stand for states, and `Any` for every document
abbrev pub meaning_of : Automaton → List (List ℕ) → List State → Meaning
meaning_of a words named w d = cond (bytes_eq any_word w) true (stands_for a words named w d)

other_word : (x w : List ℕ) → (x ≡ w → ⊥) → bytes_eq x w ≡ false
other_word x w f = go (bytes_eq x w) refl
  where
    go : (r : Bool) → bytes_eq x w ≡ r → bytes_eq x w ≡ false
    go true e = absurd (f ((bytes_eq-Decides x w).0 e))
    go false e = e

stands_there : (a : Automaton) (words : List (List ℕ)) (named : List State) (k : ℕ) (w : List ℕ) (s : State) (d : Document) → AreDistinct words → length words ≡ length named → k < length named → w ≡ get_or words k w → s ≡ get_or named k s →
    stands_for a words named w d ≡ accepts a d s
stands_there a [] [] k w s d g n l e f = absurd (omega arith)
stands_there a [] (y ∷ ys) k w s d g n l e f = absurd (omega arith)
stands_there a (x ∷ xs) [] k w s d g n l e f = absurd (omega arith)
stands_there a (x ∷ xs) (y ∷ ys) zero w s d g n l e f =
    cond_true (bytes_eq x w) (accepts a d y) (stands_for a xs ys w d) (word_equals x w (sym e)) ∙ ap (accepts a d) (sym f)
stands_there a (x ∷ xs) (y ∷ ys) (suc k) w s d g n l e f =
    let m : length xs ≡ length ys = omega arith in
    let i : k < length ys = omega arith in
    let j : k < length xs = omega arith in
    cond_false (bytes_eq x w) (accepts a d y) (stands_for a xs ys w d) (other_word x w (lacks_there xs k w x g.0 j e)) ∙ stands_there a xs ys k w s d g.1 m i e f

pub any_means : (a : Automaton) (words : List (List ℕ)) (named : List State) → MeansAny (meaning_of a words named)
any_means a words named d = refl

pub states_mean : (a : Automaton) (words : List (List ℕ)) (named : List State) → AreNewNames words → length words ≡ length named → MeansStates a words named (meaning_of a words named)
states_mean a words named new n k w s l e f d =
    let m : k < length words = omega arith in
    cond_false (bytes_eq any_word w) true (stands_for a words named w d) (other_word any_word w (lacks_there words k w any_word new.not_any m e)) ∙ stands_there a words named k w s d new.distinct n l e f

-- the same set, said in another way
pub shown_same : (D E : Document → Type 0) (taken : List (List ℕ)) (P : ProgramTree) (start : List ℕ) → ((d : Document) → D d ↔ E d) → IsShown D taken P start → IsShown E taken P start
shown_same D E taken P start same h = record {
  exact = λ d p. let i = h.exact d p in (λ f. (same d).0 (i.0 f), λ e. i.1 ((same d).1 e));
  sound = h.sound;
  types_only = h.types_only;
  names = h.names;
  first = h.first;
  under_labels = h.under_labels;
  nothing = λ none. h.nothing (λ d p x. none d p ((same d).0 x));
}

-- what is shown of the state that has the first name

first_of : (words : List (List ℕ)) → 0 < length words → (w : List ℕ) × (slice_get words 0 ≡ Some w)
first_of [] l = absurd (omega arith)
first_of (x ∷ xs) l = (x, refl)

-- definitions that are made over what is written for contents

module _ (a : Automaton) (words : List (List ℕ)) (named : List State) (start : State) (old new : List Row) (written : List (Option TypeId)) (bodies : List TypeId) (names : AreNewNames words) (count : length words ≡ length named) (contents : AreContentsBy a words named old written) (by : AreBodiesBy a words named old written new bodies) where
  word_at : (k : ℕ) → k < length named → get_or words k [] ≡ get_or words k (get_or words k [])
  word_at k l = let m : k < length words = omega arith in got words k [] m

  is_type : (k : ℕ) (id : TypeId) → k < length named → id ≡ get_or bodies k id → IsTypeOf (MeansAnyAnd a (get_or words k []) (get_or named k start)) a old written (get_or named k start) new id
  is_type k id l e = by.each k (get_or words k []) (get_or named k start) id l (word_at k l) (got named k start l) e

  within : (k : ℕ) → k < length bodies → k < length named
  within k l = let c = by.count in omega arith

  pub are_bodies : 0 < length named → NamesAmong (any_word ∷ words) new → AreBodies new words bodies
  are_bodies some known = record {
    some = omega arith;
    each = by.count ∙ sym count;
    belong = all_of_each (BelongsTo new) bodies (λ k id l e. (is_type k id (within k l) e).belongs);
    guarded = all_of_each (λ id. HasTops (any_word ∷ []) (tree_at new id.at)) bodies (λ k id l e. (is_type k id (within k l) e).tops);
    known = known;
  }

  pub are_meant : AreMeant (meaning_of a words named) new words bodies
  are_meant = record {
    any = any_means a words named;
    each = λ k id l e d. means k id (omega arith) e d;
  }
    where
      N : Meaning
      N = meaning_of a words named

      means : (k : ℕ) (id : TypeId) → k < length named → id ≡ get_or bodies k id → (d : Document) → (N (get_or words k []) d ≡ true) ↔ FitsAs N (tree_at new id.at) d
      means k id l e d =
          let at_word = states_mean a words named names count k (get_or words k []) (get_or named k start) l (word_at k l) (got named k start l) in
          let all : MeansAnyAndStates a words named N = (any_means a words named, states_mean a words named names count) in
          let one : MeansAnyAnd a (get_or words k []) (get_or named k start) N = (any_means a words named, at_word) in
          let it = (is_type k id l e).exact N one (contents.right N all) d in
          (λ h. it.0 (sym (at_word d) ∙ h), λ h. at_word d ∙ it.1 h)

  -- the first name stands for what the start accepts
  pub first_means : 0 < length named → get_or named 0 start ≡ start → (w : List ℕ) → slice_get words 0 ≡ Some w → (d : Document) → meaning_of a words named w d ≡ accepts a d start
  first_means some first w e d = states_mean a words named names count 0 w start some (first_at words w e) (sym first) d

  pub shown_law : (taken : List (List ℕ)) (P : ProgramTree) (w : List ℕ) → 0 < length named → get_or named 0 start ≡ start → HasDocument a start →
      ((N : Meaning) (x : List ℕ) → AreMeant N new words bodies → slice_get words 0 ≡ Some x → HasProper (N x) → IsShown (λ d. N x d ≡ true) taken P w) →
      IsShown (λ d. accepts a d start ≡ true) taken P w
  shown_law taken P w some first has shows =
      let x = first_of words (omega arith) in
      let means = first_means some first x.0 x.1 in
      shown_same (λ d. meaning_of a words named x.0 d ≡ true) (λ d. accepts a d start ≡ true) taken P w (λ d. (λ h. sym (means d) ∙ h, λ h. means d ∙ h))
      (shows (meaning_of a words named) x.0 are_meant x.1 (has.document, has.proper, means has.document ∙ has.accepted))

-- a set of no document
pub nothing_shown : (D : Document → Type 0) (taken : List (List ℕ)) (P : ProgramTree) (start : List ℕ) → ((d : Document) → D d → ⊥) → IsShown (λ d. ⊥) taken P start → IsShown D taken P start
nothing_shown D taken P start none h = shown_same (λ d. ⊥) D taken P start (λ d. (λ f. absurd f, none d)) h

-- an automaton that accepts the same has a document too
pub has_document_too : (a b : Automaton) (s t : State) → ((d : Document) → accepts b d t ≡ accepts a d s) → HasDocument a s → HasDocument b t
has_document_too a b s t same h = record { document = h.document; proper = h.proper; accepted = same h.document ∙ h.accepted }
