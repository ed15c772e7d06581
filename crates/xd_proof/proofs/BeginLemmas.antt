-- Lines that can begin a proof text, and courses.
use Rattle.std.proofs.Common.{◌≡◌, ◌↔◌, ◌⊎◌, ℕ, ◌<◌, arith, List, [], ◌∷◌, ◌++◌, length, get_or, Some, refl, ap, sym, subst, ◌∙◌, inl, inr}
use Rattle.std.specs.Prelude.{codes, ◌^◌}
use Rattle.std.specs.List.{AllByRecursion}
use Rattle.std.specs.Fmt.{decimal}
use Rattle.xd_syntax.specs.Tree.{Tree}
use Rattle.xd_proof.specs.Lines.{space, IsNumber, SpellsNumber}
use Rattle.xd_proof.specs.Parts.{ProofLine, goal_count, goal_part, left_part, end_part, Follows, SpellsPart, SpellParts}
use Rattle.xd_proof.specs.Form.{GoalBlock, goal_list, goals_from, AreProof, CanBegin}
use Rattle.xd_proof.specs.Course.{Course, at_count, at_first_goal, at_left, in_rights, in_cases, at_end, along}
use Rattle.xd_proof.proofs.CourseLemmas.{seen, Filler, count_of, course_filled, all_seen, list_follows, front_stands}

module _ {A : Type 0} (R : List ℕ → Tree → Type 0) (S : List ℕ → A → Type 0) where
  pub spell_joined : (ls ms : List (List ℕ)) (ps qs : List (ProofLine A)) → SpellParts R S ls ps → SpellParts R S ms qs → SpellParts R S (ls ++ ms) (ps ++ qs)
  spell_joined [] ms [] qs a b = b
  spell_joined [] ms (p ∷ ps) qs a b = absurd a
  spell_joined (l ∷ ls) ms [] qs a b = absurd a
  spell_joined (l ∷ ls) ms (p ∷ ps) qs a b = (a.0, spell_joined ls ms ps qs a.1 b)

  -- what a front of the lines spells
  pub spell_front : (ls ms : List (List ℕ)) (ps : List (ProofLine A)) → SpellParts R S (ls ++ ms) ps →
      (front : List (ProofLine A)) × (back : List (ProofLine A)) × SpellParts R S ls front × (front ++ back ≡ ps)
  spell_front [] ms ps a = ([], ps, tt, refl)
  spell_front (l ∷ ls) ms [] a = absurd a
  spell_front (l ∷ ls) ms (p ∷ ps) a = let r = spell_front ls ms ps a.1 in (p ∷ r.0, r.1, (a.0, r.2), ap (λ q. p ∷ q) r.3)

  pub number_after : (word : List ℕ) (n : ℕ) → 0 < n → n < 10 ^ 18 → Follows word SpellsNumber (word ++ space ∷ decimal n) n
  number_after word n p m = record { behind = decimal n; whole = refl; reads = record { digits = refl; number = record { least = p; most = m } } }

  module _ (bytes : List ℕ) (x : A) (s : S bytes x) where
    spell_filler : (n : ℕ) (p : ProofLine A) → n < 10 ^ 18 → Filler x n p → (l : List ℕ) × SpellsPart R S l p
    spell_filler n (goal_count m) h f = (codes "goals" ++ space ∷ decimal m, number_after (codes "goals") m (omega (arith, f)) (omega (arith, f)))
    spell_filler n (goal_part k) h f = (codes "goal" ++ space ∷ decimal k, number_after (codes "goal") k f.0 (omega (arith, f.1, h)))
    spell_filler n (left_part y) h f =
        (codes "left" ++ space ∷ bytes, record { behind = bytes; whole = refl; reads = subst (S bytes) (sym f) s })
    spell_filler n end_part h f = (codes "end", refl)
    spell_filler n _ h f = absurd f

    spell_fillers : (n : ℕ) (ps : List (ProofLine A)) → n < 10 ^ 18 → AllByRecursion (Filler x n) ps → (ls : List (List ℕ)) × SpellParts R S ls ps
    spell_fillers n [] h a = ([], tt)
    spell_fillers n (p ∷ ps) h a =
        let l = spell_filler n p h a.0 in
        let r = spell_fillers n ps h a.1 in
        (l.0 ∷ r.0, (l.1, r.1))

  count_spelled : (n : ℕ) (ls : List (List ℕ)) (ps : List (ProofLine A)) → SpellParts R S ls (goal_count n ∷ ps) → IsNumber n
  count_spelled n [] ps a = absurd a
  count_spelled n (l ∷ ls) ps a = ((a.0).reads).number

  count_small : (c : Course A) (ls : List (List ℕ)) → SpellParts R S ls (seen c) → count_of c < 10 ^ 18
  count_small at_count ls a = omega arith
  count_small (at_first_goal n) ls a = (count_spelled n ls _ a).most
  count_small (at_left n bs) ls a = (count_spelled n ls _ a).most
  count_small (in_rights n bs T Us) ls a = (count_spelled n ls _ a).most
  count_small (in_cases n bs b) ls a = (count_spelled n ls _ a).most
  count_small (at_end bs) ls a = (count_spelled (length bs) ls _ a).most

  -- the lines of a list of goals, from a front of it
  pub front_course : (ls ms : List (List ℕ)) (bs : List (GoalBlock A)) → SpellParts R S (ls ++ ms) (goal_list bs) →
      (ps : List (ProofLine A)) × (c : Course A) × SpellParts R S ls ps × (along (Some at_count) ps ≡ Some c)
  front_course ls ms bs a =
      let h = count_spelled (length bs) (ls ++ ms) _ a in
      let r = spell_front ls ms (goal_list bs) a in
      let f = front_stands (Some at_count) r.0 r.1 (at_end bs) (ap (λ l. along (Some at_count) l) r.3 ∙ list_follows bs h.least) in
      (r.0, f.0, r.2, f.1)

  pub course_list : (bytes : List ℕ) (x : A) → S bytes x → (ls : List (List ℕ)) (ps : List (ProofLine A)) (c : Course A) → SpellParts R S ls ps → along (Some at_count) ps ≡ Some c →
      (ms : List (List ℕ)) × (bs : List (GoalBlock A)) × SpellParts R S (ls ++ ms) (goal_list bs)
  course_list bytes x s ls ps c a e =
      let k = all_seen at_count ps c tt e in
      let f = course_filled x c k.1 in
      let b : SpellParts R S ls (seen c) = subst (SpellParts R S ls) (sym k.0) a in
      let m = spell_fillers bytes x s (count_of c) f.0 (count_small c ls b) f.4 in
      (m.0, f.1, subst (SpellParts R S (ls ++ m.0)) f.3 (spell_joined ls m.0 (seen c) f.0 b m.1))

module _ (R : List ℕ → Tree → Type 0) where
  titles_differ : codes "xduce-proof 1" ≡ codes "xduce-proof 2" → ⊥
  titles_differ e = let h : 49 ≡ 50 = ap (λ l. get_or l 12 0) e in omega (arith, h)

  pub first_begins : (bytes : List ℕ) (T : Tree) → R bytes T → (ls : List (List ℕ)) →
      CanBegin R (codes "xduce-proof 1" ∷ ls) ↔ ((ps : List (ProofLine Tree)) × (c : Course Tree) × SpellParts R R ls ps × (along (Some at_count) ps ≡ Some c))
  first_begins bytes T s ls = (there, back)
    where
      there : CanBegin R (codes "xduce-proof 1" ∷ ls) → (ps : List (ProofLine Tree)) × (c : Course Tree) × SpellParts R R ls ps × (along (Some at_count) ps ≡ Some c)
      there b = go b.read
        where
          go : AreProof R ((codes "xduce-proof 1" ∷ ls) ++ b.more) b.goals → (ps : List (ProofLine Tree)) × (c : Course Tree) × SpellParts R R ls ps × (along (Some at_count) ps ≡ Some c)
          go (inl f) = front_course R R ls b.more f.blocks (f.spelled).1
          go (inr f) = absurd (titles_differ (f.spelled).0)

      back : ((ps : List (ProofLine Tree)) × (c : Course Tree) × SpellParts R R ls ps × (along (Some at_count) ps ≡ Some c)) → CanBegin R (codes "xduce-proof 1" ∷ ls)
      back r =
          let q = course_list R R bytes T s ls r.0 r.1 r.2 r.3 in
          record { more = q.0; goals = goals_from 3 q.1; read = inl (record { blocks = q.1; spelled = (refl, q.2); read = refl }) }

  pub titles_begin : (l : List ℕ) (ls : List (List ℕ)) → CanBegin R (l ∷ ls) → (l ≡ codes "xduce-proof 1") ⊎ (l ≡ codes "xduce-proof 2")
  titles_begin l ls b = go b.read
    where
      go : AreProof R ((l ∷ ls) ++ b.more) b.goals → (l ≡ codes "xduce-proof 1") ⊎ (l ≡ codes "xduce-proof 2")
      go (inl f) = inl (f.spelled).0
      go (inr f) = inr (f.spelled).0
