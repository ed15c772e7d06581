-- Names that stand for nodes, and definitions that say the same by them.
use Rattle.std.proofs.Common.{◌≡◌, ◌↔◌, ℕ, zero, suc, ◌<◌, Bool, true, false, cond, arith, refl, sym, ap, ◌∙◌, subst, List, [], ◌∷◌, length, get_or, Option, Some}
use Rattle.std.specs.Str.{bytes_eq}
use Rattle.std.specs.Prelude.{slice_get}
use Rattle.std.specs.List.{AllByRecursion}
use Rattle.std.proofs.lemmas.Slice.Eq.{bytes_eq-Decides}
use Rattle.std.proofs.lemmas.Bool.{or_left}
use Rattle.xd_doc.specs.Document.{Document}
use Rattle.xd_doc.proofs.Lists.{same_at, word_equals, first_at}
use Rattle.xd_doc.proofs.Bools.{cond_true, cond_false, or_second}
use Rattle.xd_syntax.specs.Words.{any_word, has_word}
use Rattle.xd_syntax.specs.Table.{Row, tree_at}
use Rattle.xd_syntax.specs.declared.types.TypeId.{TypeId}
use Rattle.xd_same_types.specs.Grown.{NamesAmong}
use Rattle.xd_same_types.specs.Same.{Meaning, FitsAs, HasTops}
use Rattle.xd_same_types.proofs.Ids.{got}
use Rattle.xd_syntax.specs.Program.{ProgramTree}
use Rattle.xd_shown.specs.Bodies.{AreBodies, AreMeant, HasProper, ShowsMeanings}
use Rattle.xd_shown.proofs.AreMeantLemmas.{same_set}
use Rattle.xd_shown.specs.FreeNames.{AreDistinct, AreNewNames}
use Rattle.xd_shown.specs.Shown.{AreNamedFrom, IsShown}
use Rattle.xd_named_parts.specs.Copies.{AllCopied, AreBare, AreCopies, AreGiven, AreGivenWith, AreNoCopies, CopiesBelong, GrowsCopies, StandForNodes, copy_in}
use Rattle.xd_named_parts.specs.Plans.{IsPlan}
use Rattle.xd_named_parts.specs.Shorter.{AreDefinitions, AreShorter, ShowsDefinitions}
use Rattle.xd_named_parts.specs.declared.parts.Definitions.{Definitions}
use Rattle.xd_named_parts.proofs.CopyLaws.{copied_belong, copied_count, no_copy}
use Rattle.xd_named_parts.proofs.FitTests.{fit_test, fit_tests}

-- the node of the first of the names that is this one
abbrev pub stands_for : Meaning → List Row → List (List ℕ) → List TypeId → Meaning
stands_for N old [] named w d = false
stands_for N old (x ∷ xs) [] w d = false
stands_for N old (x ∷ xs) (i ∷ is) w d = cond (bytes_eq x w) (fit_test N (tree_at old i.at) d) (stands_for N old xs is w d)

-- names stand for nodes, and `Any` for every document
abbrev pub meaning_of : Meaning → List Row → List (List ℕ) → List TypeId → Meaning
meaning_of N old names named w d = cond (bytes_eq any_word w) true (stands_for N old names named w d)

other_word : (x w : List ℕ) → (x ≡ w → ⊥) → bytes_eq x w ≡ false
other_word x w f = go (bytes_eq x w) refl
  where
    go : (r : Bool) → bytes_eq x w ≡ r → bytes_eq x w ≡ false
    go true e = absurd (f ((bytes_eq-Decides x w).0 e))
    go false e = e

pub has_there : (ws : List (List ℕ)) (k : ℕ) (w : List ℕ) → k < length ws → w ≡ get_or ws k w → has_word ws w ≡ true
has_there [] k w l e = absurd (omega arith)
has_there (x ∷ xs) zero w l e = or_left (bytes_eq x w) (has_word xs w) (word_equals x w (sym e))
has_there (x ∷ xs) (suc k) w l e = let m : k < length xs = omega arith in or_second (bytes_eq x w) (has_there xs k w m e)

pub lacks_there : (ws : List (List ℕ)) (k : ℕ) (w v : List ℕ) → has_word ws v ≡ false → k < length ws → w ≡ get_or ws k w → v ≡ w → ⊥
lacks_there ws k w v n l e f = let h : has_word ws v ≡ true = subst (λ u. has_word ws u ≡ true) (sym f) (has_there ws k w l e) in let g : true ≡ false = sym h ∙ n in cc

stands_there : (N : Meaning) (old : List Row) (names : List (List ℕ)) (named : List TypeId) (k : ℕ) (w : List ℕ) (id : TypeId) (d : Document) → AreDistinct names → length names ≡ length named → k < length named → w ≡ get_or names k w → id ≡ get_or named k id →
    stands_for N old names named w d ≡ fit_test N (tree_at old id.at) d
stands_there N old [] [] k w id d g n l e f = absurd (omega arith)
stands_there N old [] (y ∷ ys) k w id d g n l e f = absurd (omega arith)
stands_there N old (x ∷ xs) [] k w id d g n l e f = absurd (omega arith)
stands_there N old (x ∷ xs) (y ∷ ys) zero w id d g n l e f =
    cond_true (bytes_eq x w) (fit_test N (tree_at old y.at) d) (stands_for N old xs ys w d) (word_equals x w (sym e)) ∙ ap (λ (i : TypeId). fit_test N (tree_at old i.at) d) (sym f)
stands_there N old (x ∷ xs) (y ∷ ys) (suc k) w id d g n l e f =
    let m : length xs ≡ length ys = omega arith in
    let i : k < length ys = omega arith in
    let j : k < length xs = omega arith in
    cond_false (bytes_eq x w) (fit_test N (tree_at old y.at) d) (stands_for N old xs ys w d) (other_word x w (lacks_there xs k w x g.0 j e)) ∙ stands_there N old xs ys k w id d g.1 m i e f

pub nodes_mean : (N : Meaning) (old : List Row) (names : List (List ℕ)) (named : List TypeId) → AreNewNames names → length names ≡ length named → StandForNodes old names named N (meaning_of N old names named)
nodes_mean N old names named new n k w id l e f d =
    let m : k < length names = omega arith in
    let g : meaning_of N old names named w d ≡ fit_test N (tree_at old id.at) d =
    cond_false (bytes_eq any_word w) true (stands_for N old names named w d) (other_word any_word w (lacks_there names k w any_word new.not_any m e)) ∙ stands_there N old names named k w id d new.distinct n l e f in
    let t = fit_tests N (tree_at old id.at) d in
    (λ h. t.0 (sym g ∙ h), λ h. g ∙ t.1 h)

-- what a copy is at a place
copied_at : (table : List (Option TypeId)) (ps qs : List TypeId) (k : ℕ) (q : TypeId) → AllCopied table ps qs → k < length qs → q ≡ get_or qs k q → (p : TypeId) → p ≡ get_or ps k p → copy_in table p.at ≡ Some q
copied_at table [] [] k q h l e p f = absurd (omega arith)
copied_at table [] (y ∷ qs) k q h l e p f = absurd h
copied_at table (x ∷ ps) [] k q h l e p f = absurd h
copied_at table (x ∷ ps) (y ∷ qs) zero q h l e p f = ap (λ (i : TypeId). copy_in table i.at) f ∙ h.0 ∙ ap Some (sym e)
copied_at table (x ∷ ps) (y ∷ qs) (suc k) q h l e p f = let m : k < length qs = omega arith in copied_at table ps qs k q h.1 m e p f

all_bare : (rows : List Row) (table : List (Option TypeId)) (ps qs : List TypeId) → AreBare rows table → AllCopied table ps qs → AllByRecursion (λ (id : TypeId). HasTops (any_word ∷ []) (tree_at rows id.at)) qs
all_bare rows table [] [] b h = tt
all_bare rows table [] (y ∷ qs) b h = absurd h
all_bare rows table (x ∷ ps) [] b h = absurd h
all_bare rows table (x ∷ ps) (y ∷ qs) b h = (b x.at y h.0, all_bare rows table ps qs b h.1)

module _ (D E : Definitions) (taken : List (List ℕ)) (named : List TypeId) (given : AreDefinitions D) (plan : IsPlan D.pool.types D.bodies.items named) (new : AreNewNames E.names.items) (in_order : AreNamedFrom taken 1 E.names.items) (count : length E.names.items ≡ length named)
    (r0 r1 r2 : List Row) (inner0 inner1 inner2 plain0 plain1 : List (Option TypeId)) (n : ℕ) (none_inner : AreNoCopies n inner0) (none_plain : AreNoCopies n plain0)
    (name : GrowsCopies (StandForNodes D.pool.types E.names.items named) D.pool.types r0 inner0 r1 inner1) (inner : GrowsCopies (AreGiven D.pool.types D.names.items D.bodies.items) D.pool.types r1 inner1 r2 inner2)
    (plain : GrowsCopies (AreGivenWith D.pool.types D.names.items D.bodies.items r2 inner2) D.pool.types r2 plain0 E.pool.types plain1) (bare : AreBare E.pool.types plain1) (copied : AllCopied plain1 named E.bodies.items)
    (known : NamesAmong (any_word ∷ E.names.items) E.pool.types) where
  abbrev pub old : List Row
  old = D.pool.types

  abbrev pub names : List (List ℕ)
  names = E.names.items

  abbrev pub bodies : List TypeId
  bodies = E.bodies.items

  all_copied : length bodies ≡ length named
  all_copied = copied_count plain1 named bodies copied

  belong : CopiesBelong E.pool.types plain1
  belong = plain.belong (λ i id e. absurd (no_copy n plain0 none_plain i id e))

  are_bodies : AreBodies E.pool.types names bodies
  are_bodies = record {
    some = let s = plan.some in omega arith;
    each = all_copied ∙ sym count;
    belong = copied_belong E.pool.types plain1 named bodies belong copied;
    guarded = all_bare E.pool.types plain1 named bodies bare copied;
    known = known;
  }

  module _ (N : Meaning) (m : AreMeant N old D.names.items D.bodies.items) where
    abbrev pub M : Meaning
    M = meaning_of N old names named

    stand : StandForNodes old names named N M
    stand = nodes_mean N old names named new count

    given_both : AreGiven old D.names.items D.bodies.items N M
    given_both = (m, λ d. refl)

    right_inner : AreCopies N M old r2 inner2
    right_inner = inner.right N M given_both (name.right N M stand (λ i id e. absurd (no_copy n inner0 none_inner i id e)))

    right : AreCopies N M old E.pool.types plain1
    right = plain.right N M (given_both, right_inner) (λ i id e. absurd (no_copy n plain0 none_plain i id e))

    abbrev pub node_at : ℕ → TypeId
    node_at k = get_or named k (record { at = 0 })

    meant : AreMeant M E.pool.types names bodies
    meant = record { any = λ d. refl; each = each }
      where
        each : (k : ℕ) (id : TypeId) → k < length names → id ≡ get_or bodies k id → (d : Document) → (M (get_or names k []) d ≡ true) ↔ FitsAs M (tree_at E.pool.types id.at) d
        each k id l e d =
            let i : k < length named = omega (arith, count) in
            let j : k < length bodies = omega (arith, all_copied) in
            let s = stand k (get_or names k []) (node_at k) i (got names k [] l) (got named k (record { at = 0 }) i) d in
            let c = right (node_at k).at id (copied_at plain1 named bodies k id copied j e (node_at k) (got named k (record { at = 0 }) i)) d in
            (λ h. c.0 (s.0 h), λ f. s.1 (c.1 f))

    first_same : (x y : List ℕ) → slice_get D.names.items 0 ≡ Some x → slice_get names 0 ≡ Some y → (d : Document) → (M y d ≡ true) ↔ (N x d ≡ true)
    first_same x y ex ey d =
        let some = plan.some in
        let there = given.bodies.some in
        let each = given.bodies.each in
        let b : TypeId = get_or D.bodies.items 0 (record { at = 0 }) in
        let at_b = got D.bodies.items 0 (record { at = 0 }) (omega arith) in
        let s = stand 0 y b some (first_at names y ey) (sym (plan.first b at_b)) d in
        let g = m.each 0 b there at_b d in
        let w : get_or D.names.items 0 [] ≡ x = same_at D.names.items 0 [] x there ∙ sym (first_at D.names.items x ex) in
        (λ h. subst (λ v. N v d ≡ true) w (g.1 (s.0 h)), λ h. s.1 (g.0 (subst (λ v. N v d ≡ true) (sym w) h)))

  pub are_shorter : AreShorter taken D E
  are_shorter = record {
    definitions = record { names = new; bodies = are_bodies };
    in_order = in_order;
    same = λ N x y m ex ey. (M N m, meant N m, first_same N m x y ex ey);
  }

-- ---- the program of definitions
proper_too : (N M : Document → Bool) → ((d : Document) → (M d ≡ true) ↔ (N d ≡ true)) → HasProper N → HasProper M
proper_too N M same h = (h.0, h.1, (same h.0).1 h.2)

pub short_shown : (taken : List (List ℕ)) (D E : Definitions) (P : ProgramTree) (start : List ℕ) → AreShorter taken D E → slice_get E.names.items 0 ≡ Some start →
    ShowsMeanings E.pool.types E.names.items E.bodies.items P start → ShowsDefinitions taken D P start
short_shown taken D E P start short e shows N x m ex proper =
    let s = short.same N x start m ex e in
    same_set (λ d p. s.2 d) (shows taken s.0 short.in_order s.1 (proper_too (N x) (s.0 start) s.2 proper))

pub given_shown : (taken : List (List ℕ)) (D : Definitions) (P : ProgramTree) (start : List ℕ) → AreNamedFrom taken 1 D.names.items → slice_get D.names.items 0 ≡ Some start →
    ShowsMeanings D.pool.types D.names.items D.bodies.items P start → ShowsDefinitions taken D P start
given_shown taken D P start in_order e shows N x m ex proper =
    let f : Some start ≡ Some x = sym e ∙ ex in
    let g : start ≡ x = some_same f in
    subst (λ y. IsShown (λ d. N y d ≡ true) taken P start) g (shows taken N in_order m (subst (λ y. HasProper (N y)) (sym g) proper))
  where
    some_same : {A : Type 0} {a b : A} → Some a ≡ Some b → a ≡ b
    some_same e = cc

-- each of the names is known
pub known_there : (names : List (List ℕ)) (k : ℕ) (w : List ℕ) → k < length names → w ≡ get_or names k w → has_word (any_word ∷ names) w ≡ true
known_there names k w l e = or_second (bytes_eq any_word w) (has_there names k w l e)
