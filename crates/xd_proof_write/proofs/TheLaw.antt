-- The second text of goals is a proof text of these goals.
use Rattle.std.proofs.Common.{◌≡◌, ℕ, ◌+◌, ◌<◌, ◌≤◌, ◌^◌, arith, Bool, true, false, ◌||◌, List, [], ◌∷◌, ◌++◌, map, length, Option, Some, None, refl, ap, sym, subst, ◌∙◌, inr, append-nil}
use Rattle.std.specs.Prelude.{codes}
use Rattle.std.specs.Fmt.{decimal}
use Rattle.std.specs.List.{AllByRecursion, list_any, position_or_len}
use Rattle.std.proofs.lemmas.List.{length-map}
use Rattle.xd_doc.proofs.Lists.{all_append, all_front, all_back}
use Rattle.xd_syntax.specs.Tree.{Tree}
use Rattle.xd_syntax.specs.TypeText.{type_text}
use Rattle.xd_rules.specs.Rules.{Case}
use Rattle.xd_meaning.specs.Consistent.{Goal}
use Rattle.xd_meaning.specs.Violation.{goals_of}
use Rattle.xd_laws.specs.SameTree.{same_tree}
use Rattle.xd_laws.proofs.SameTrees.{same_tree-is, tree_same}
use Rattle.xd_type_laws.proofs.TheLaw.{types_read_back}
use Rattle.xd_proof.specs.Lines.{line_feed, space, each_ended, IsNumber, SpellsNumber}
use Rattle.xd_proof.specs.Parts.{ProofLine, type_part, goal_part, left_part, right_part, case_part, end_part, Follows, SpellsPart, SpellParts}
use Rattle.xd_proof.specs.TypeTexts.{SpellsType}
use Rattle.xd_proof.specs.Form.{GoalBlock, empty_parts, block_parts, blocks_from, types_from, goal_list, block_length, goals_from, AreNamed, NameTypes}
use Rattle.xd_proof_write.specs.SecondText.{each_once, number_among, types_of, distinct_types, numbered_block, second_parts, line_of, second_text_of}
use Rattle.xd_proof_write.specs.Laws.{IsWritable, IsTableType, IsWritableCase, IsWritableNumber, IsWritableGoal, SecondTextsReadBack, SameTypesAreEqual}
use Rattle.xd_proof_write.proofs.OnceLemmas.{all_there, once_has, number_stands, all_once}
use Rattle.xd_proof_write.proofs.FreeLemmas.{IsLine, line_joined, is_line, decimal_line, type_line, case_line}

-- ---- lines that are spelled, and have no line feed
module _ (known : List (List ℕ)) where
  record IsWritten (p : ProofLine ℕ) : Type 0 where
    spelled : SpellsPart (SpellsType known) SpellsNumber (line_of p) p
    line : IsLine (line_of p)

  spell_all : (ps : List (ProofLine ℕ)) → AllByRecursion IsWritten ps → SpellParts (SpellsType known) SpellsNumber (map line_of ps) ps
  spell_all [] a = tt
  spell_all (p ∷ ps) a = ((a.0).spelled, spell_all ps a.1)

  all_lines : (ps : List (ProofLine ℕ)) → AllByRecursion IsWritten ps → AllByRecursion IsLine (map line_of ps)
  all_lines [] a = tt
  all_lines (p ∷ ps) a = ((a.0).line, all_lines ps a.1)

  follows : (word : List ℕ) (n : ℕ) → IsNumber n → Follows word SpellsNumber (word ++ space ∷ decimal n) n
  follows word n h = record { behind = decimal n; whole = refl; reads = record { digits = refl; number = h } }

  numbered_line : (word : List ℕ) (n : ℕ) → IsLine word → IsNumber n → IsLine (word ++ space ∷ decimal n)
  numbered_line word n w h = line_joined word (space ∷ decimal n) w (line_joined (space ∷ []) (decimal n) (is_line (space ∷ []) refl) (decimal_line n h))

  -- over these names, shallow, and as tables have it
  abbrev IsGood : Tree → Type 0
  IsGood T = IsWritable known T × IsTableType T

  type_spelled : (T : Tree) → IsGood T → SpellsType known (type_text T) T
  type_spelled T (w, t) =
      let r = types_read_back T t.merged t.proper in
      record { placed = r.placed; text = record { spelled = r.spelled; within = r.within w.shallow }; same = r.same; known_names = w.names }

  type_written : (k : ℕ) (T : Tree) → IsNumber k → IsGood T → IsWritten (type_part k T)
  type_written k T h w = record {
    spelled = record { behind = decimal k ++ space ∷ type_text T; whole = refl; reads = record { number = h; reads = record { behind = type_text T; whole = refl; reads = type_spelled T w } } };
    line = line_joined (codes "type ") (decimal k ++ space ∷ type_text T) (is_line (codes "type ") refl)
        (line_joined (decimal k) (space ∷ type_text T) (decimal_line k h) (line_joined (space ∷ []) (type_text T) (is_line (space ∷ []) refl) (type_line T (w.1).proper)));
  }

  types_written : (k : ℕ) (Ts : List Tree) → 0 < k → k + length Ts ≤ 10 ^ 18 → AllByRecursion IsGood Ts → AllByRecursion IsWritten (types_from k Ts)
  types_written k [] p q a = tt
  types_written k (T ∷ Ts) p q a =
      (type_written k T (record { least = p; most = omega (arith, q) }) a.0, types_written (k + 1) Ts (omega arith) (omega (arith, q)) a.1)

  -- ---- goals, over types with these numbers
  module _ (Us : List Tree) (few : IsNumber (length Us)) where
    abbrev IsThere : Tree → Type 0
    IsThere T = list_any (same_tree T) Us ≡ true

    below : (p : Tree → Bool) (Ts : List Tree) → list_any p Ts ≡ true → position_or_len p Ts < length Ts
    below p [] h = absurd (let z : false ≡ true = h in cc)
    below p (T ∷ Ts) h = by (p T) refl (below p Ts)
      where
        by : (b : Bool) → p T ≡ b → (list_any p Ts ≡ true → position_or_len p Ts < length Ts) → position_or_len p (T ∷ Ts) < length (T ∷ Ts)
        by true e more = rw e (omega arith)
        by false e more = let m = more (sym (ap (λ b. b || list_any p Ts) e) ∙ h) in rw e (omega (arith, m))

    number : (T : Tree) → IsThere T → IsNumber (number_among same_tree Us T)
    number T h =
        let l = below (same_tree T) Us h in
        let m = few.most in
        record { least = omega arith; most = omega (arith, l, m) }

    rights_written : (Ts : List Tree) → AllByRecursion IsThere Ts → AllByRecursion IsWritten (map right_part (map (number_among same_tree Us) Ts))
    rights_written [] a = tt
    rights_written (T ∷ Ts) a =
        let n = number T a.0 in
        (record { spelled = follows (codes "right") _ n; line = numbered_line (codes "right") _ (is_line (codes "right") refl) n }, rights_written Ts a.1)

    empty_written : (e : Option ℕ) → IsWritableNumber e → AllByRecursion IsWritten (empty_parts e)
    empty_written None w = tt
    empty_written (Some n) w = (record { spelled = follows (codes "empty") n w; line = numbered_line (codes "empty") n (is_line (codes "empty") refl) w }, tt)

    cases_written : (cs : List Case) → AllByRecursion IsWritableCase cs → AllByRecursion IsWritten (map case_part cs)
    cases_written [] a = tt
    cases_written (c ∷ cs) a =
        let w = a.0 in
        (record { spelled = record { words = refl; head = w.head; atom = w.atom; numbers = w.choice }; line = case_line c w }, cases_written cs a.1)

    block_written : (k : ℕ) (g : Goal) → IsNumber k → IsWritableGoal g → AllByRecursion IsThere (g.left ∷ g.rights) → AllByRecursion IsWritten (block_parts k (numbered_block Us g))
    block_written k g h w a =
        let n = number g.left a.0 in
        all_append IsWritten (goal_part k ∷ left_part (number_among same_tree Us g.left) ∷ map right_part (map (number_among same_tree Us) g.rights)) (empty_parts g.empty_right ++ map case_part g.cases) (
          record { spelled = follows (codes "goal") k h; line = numbered_line (codes "goal") k (is_line (codes "goal") refl) h },
          (record { spelled = follows (codes "left") _ n; line = numbered_line (codes "left") _ (is_line (codes "left") refl) n }, rights_written g.rights a.1),
        )
        (all_append IsWritten (empty_parts g.empty_right) (map case_part g.cases) (empty_written g.empty_right w.empty_right) (cases_written g.cases w.cases))

    blocks_written : (k : ℕ) (gs : List Goal) → 0 < k → k + length gs ≤ 10 ^ 18 → AllByRecursion IsWritableGoal gs → AllByRecursion IsThere (types_of gs) → AllByRecursion IsWritten (blocks_from k (map (numbered_block Us) gs))
    blocks_written k [] p q w a = tt
    blocks_written k (g ∷ gs) p q w a =
        all_append IsWritten (block_parts k (numbered_block Us g)) (blocks_from (k + 1) (map (numbered_block Us) gs))
        (block_written k g (record { least = p; most = omega (arith, q) }) w.0 (all_front IsThere (g.left ∷ g.rights) (types_of gs) a))
        (blocks_written (k + 1) gs (omega arith) (omega (arith, q)) w.1 (all_back IsThere (g.left ∷ g.rights) (types_of gs) a))

    -- what the numbers name
    abbrev meant : Goal → GoalBlock Tree
    meant g = record { left = g.left; rights = g.rights; empty_right = g.empty_right; cases = g.cases }

    are_named : (Ts : List Tree) → AllByRecursion IsThere Ts → AreNamed Us (map (number_among same_tree Us) Ts) Ts
    are_named [] a = tt
    are_named (T ∷ Ts) a = (number_stands same_tree same_tree-is tree_same T Us a.0, are_named Ts a.1)

    name_types : (gs : List Goal) → AllByRecursion IsThere (types_of gs) → NameTypes Us (map (numbered_block Us) gs) (map meant gs)
    name_types [] a = tt
    name_types (g ∷ gs) a =
        let r = all_front IsThere (g.left ∷ g.rights) (types_of gs) a in (
          record { left = number_stands same_tree same_tree-is tree_same g.left Us r.0; rights = are_named g.rights r.1; empty_right = refl; cases = refl },
          name_types gs (all_back IsThere (g.left ∷ g.rights) (types_of gs) a),
        )

    same_goals : (n : ℕ) (gs : List Goal) → goals_of (goals_from n (map meant gs)) ≡ gs
    same_goals n [] = refl
    same_goals n (g ∷ gs) = ap (λ hs. g ∷ hs) (same_goals (n + block_length (meant g)) gs)

    goals_written : (gs : List Goal) → IsNumber (length gs) → AllByRecursion IsWritableGoal gs → AllByRecursion IsThere (types_of gs) → AllByRecursion IsWritten (goal_list (map (numbered_block Us) gs))
    goals_written gs h w a =
        let m = h.most in
        let n : IsNumber (length (map (numbered_block Us) gs)) = subst IsNumber (sym (length-map gs (numbered_block Us))) h in (
          record { spelled = follows (codes "goals") _ n; line = numbered_line (codes "goals") _ (is_line (codes "goals") refl) n },
          all_append IsWritten (blocks_from 1 (map (numbered_block Us) gs)) (end_part ∷ []) (blocks_written 1 gs (omega arith) (omega (arith, m)) w a) (record { spelled = refl; line = is_line (codes "end") refl }, tt),
        )

there : (Ts : List Tree) (xs : List Tree) → AllByRecursion (λ T. list_any (same_tree T) xs ≡ true) Ts → AllByRecursion (λ T. list_any (same_tree T) (each_once same_tree xs) ≡ true) Ts
there [] xs a = tt
there (T ∷ Ts) xs a = (once_has same_tree same_tree-is tree_same T xs ∙ a.0, there Ts xs a.1)

both_ways : (known : List (List ℕ)) (xs : List Tree) → AllByRecursion (IsWritable known) xs → AllByRecursion IsTableType xs → AllByRecursion (IsGood known) xs
both_ways known [] a b = tt
both_ways known (x ∷ xs) a b = ((a.0, b.0), both_ways known xs a.1 b.1)

once_good : (known : List (List ℕ)) (xs : List Tree) → AllByRecursion (IsGood known) xs → AllByRecursion (IsGood known) (each_once same_tree xs)
once_good known xs a = all_once (λ (T : Tree). T) same_tree same_tree (IsGood known) (λ x y p q. refl) xs a

pub second_texts_read_back : SecondTextsReadBack
unfolding second_text_of
second_texts_read_back known gs w t =
    let Us = distinct_types gs in
    let in_list : AllByRecursion (λ T. list_any (same_tree T) Us ≡ true) (types_of gs) = there (types_of gs) (types_of gs) (all_there same_tree same_tree-is tree_same (types_of gs)) in
    let few = w.type_count in
    let m = few.most in
    let written : AllByRecursion (IsWritten known) (second_parts gs) = (
      record { spelled = refl; line = is_line (codes "xduce-proof 2") refl },
      (
        record { spelled = follows known (codes "types") (length Us) few; line = numbered_line known (codes "types") (length Us) (is_line (codes "types") refl) few },
        all_append (IsWritten known) (types_from 1 Us) (goal_list (map (numbered_block Us) gs))
            (types_written known 1 Us (omega arith) (omega (arith, m)) (once_good known (types_of gs) (both_ways known (types_of gs) w.types t)))
            (goals_written known Us few gs w.goal_count w.goals in_list),
      ),
    ) in
    record {
      lined = goals_from (4 + length Us) (map (meant known Us few) gs);
      text = record {
        lines = map line_of (second_parts gs);
        cut = record { whole = sym (append-nil (each_ended line_feed (map line_of (second_parts gs)))); free = all_lines known (second_parts gs) written; left_free = tt };
        read = inr (record { types = Us; blocks = map (numbered_block Us) gs; meant = map (meant known Us few) gs; spelled = spell_all known (second_parts gs) written; named = name_types known Us few gs in_list; read = refl });
      };
      same = same_goals known Us few (4 + length Us) gs;
    }

pub same_types_are_equal : SameTypesAreEqual
same_types_are_equal T U = (same_tree-is T U, λ e. subst (λ V. same_tree T V ≡ true) e (tree_same T))
