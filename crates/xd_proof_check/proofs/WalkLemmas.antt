-- What a walk over steps finds is what is wrong first with the tree.
use Rattle.std.proofs.Common.{◌≡◌, ℕ, zero, suc, ◌+◌, ◌-◌, ◌<◌, ◌≤◌, arith, Bool, true, false, not, cond, ◌||◌, ◌&&◌, nat_eq, Option, Some, None, List, [], ◌∷◌, ◌++◌, map, length, refl, ap, sym, subst, ◌∙◌, append_assoc, append-nil}
use Rattle.std.specs.List.{AllByRecursion, AllZip, list_all}
use Rattle.std.proofs.lemmas.Bool.{eq-eqb, eqb-true}
use Rattle.xd_doc.proofs.Bools.{or_swap, same_tests}
use Rattle.xd_syntax.specs.Tree.{Tree}
use Rattle.xd_syntax.specs.Table.{Row}
use Rattle.xd_syntax.specs.SoundTables.{IsTypeAt}
use Rattle.xd_syntax.specs.declared.types.TypeId.{TypeId}
use Rattle.xd_rules.specs.Heads.{Head, HeadKind, matches}
use Rattle.xd_rules.specs.declared.atom.Atom.{Atom}
use Rattle.xd_rules.specs.Rules.{ChoiceTree, settles_content, settles_rest, split_on, numbered, matching, Sides, no_sides, on_content, on_rest}
use Rattle.xd_meaning.specs.Consistent.{Goal}
use Rattle.xd_meaning.specs.Violation.{Reason, bad_split, bad_leaf}
use Rattle.xd_laws.proofs.FirstWrong.{same_tree, head_matches, has_number, has_part, some_head, each_some_head, leaf_stands, split_allowed, reason_unless, or_next, wrong_choice, wrong_text}
use Rattle.xd_laws.proofs.SameTrees.{same_tree-is, tree_same}
use Rattle.xd_proof.specs.declared.proof.ProofGoal.{ProofGoal}
use Rattle.xd_proof.specs.Steps.{steps_of}
use Rattle.xd_proof.specs.declared.steps.Step.{Step}
use Rattle.xd_moves.specs.Codes.{number_at}
use Rattle.xd_proof_check.specs.Paths.{content_side, rest_side, heads_split, turned}
use Rattle.xd_proof_check.specs.Leaves.{is_among, leaf_numbered}
use Rattle.xd_proof_check.specs.Walk.{SettingView, kind_matches, split_fits, wrong_steps, turns_after, rest_turns, wrong_text_step}
use Rattle.xd_proof_check.specs.Corresponds.{IsClaimAt, Corresponds, Knows}
use Rattle.xd_moves.specs.Cells.{Cell}
use Rattle.xd_heads.specs.Numbered.{IsNumberIn}
use Rattle.xd_proof_check.specs.declared.path.Turn.{Turn}

suc_same : (m n : ℕ) → nat_eq m n ≡ nat_eq (suc m) (suc n)
suc_same m n =
    same_tests (nat_eq m n) (nat_eq (suc m) (suc n)) (λ e. eq-eqb (suc m) (suc n) (ap suc (eqb-true m n e)))
    (λ e. eq-eqb m n (let q = eqb-true (suc m) (suc n) e in omega arith))

next_assoc : {A : Type 0} (a b c : Option A) → or_next a (or_next b c) ≡ or_next (or_next a b) c
next_assoc None b c = refl
next_assoc (Some x) b c = refl

next_none : {A : Type 0} (a : Option A) → or_next a None ≡ a
next_none None = refl
next_none (Some x) = refl

-- the sides of a path
sides_of : List Turn → Sides
sides_of [] = no_sides
sides_of (t ∷ ts) = cond t.on_rest (on_rest (suc t.right) (sides_of ts)) (on_content (suc t.right) (sides_of ts))

module _ (types : List Row) (cells : List Cell) (numbers : List ℕ) (known : Knows types cells numbers) where
  -- numbers tell types apart
  number_same : (k m : ℕ) (T U : Tree) → IsNumberIn types cells k T → IsNumberIn types cells m U → nat_eq k m ≡ same_tree T U
  number_same k m T U a b = same_tests (nat_eq k m) (same_tree T U) to_tree to_number
    where
      to_tree : nat_eq k m ≡ true → same_tree T U ≡ true
      to_tree e = subst (λ V. same_tree T V ≡ true) ((known.tell k m T U a b).0 (eqb-true k m e)) (tree_same T)

      to_number : same_tree T U ≡ true → nat_eq k m ≡ true
      to_number e = eq-eqb k m ((known.tell k m T U a b).1 (same_tree-is T U e))

  type_number : (id : TypeId) (T : Tree) → IsTypeAt types T id → IsNumberIn types cells (number_at numbers id.at) T
  type_number id T i = subst (IsNumberIn types cells (number_at numbers id.at)) i.same (known.nodes id.at i.belongs)

  module _ (part : Head Tree → Tree) (hs : List (Head Tree)) where
    -- the number is that of a part of the right head of this number
    IsPartAt : ℕ → ℕ → Type 0
    IsPartAt k n = (h : Head Tree) × (numbered hs n ≡ Some h) × IsNumberIn types cells k (part h)

    among_same : (ks ns : List ℕ) → AllZip IsPartAt ks ns → (m : ℕ) (T : Tree) → IsNumberIn types cells m T → is_among ks m ≡ some_head part hs ns T
    unfolding IsPartAt
    among_same [] [] a m T i = refl
    among_same [] (n ∷ ns) a m T i = absurd a
    among_same (k ∷ ks) [] a m T i = absurd a
    among_same (k ∷ ks) (n ∷ ns) a m T i =
        let r = a.0 in
        let p : nat_eq k m ≡ has_part part T (numbered hs n) = number_same k m (part r.0) T r.2 i ∙ ap (has_part part T) (sym r.1) in
        ap (λ b. b || is_among ks m) p ∙ ap (λ b. has_part part T (numbered hs n) || b) (among_same ks ns a.1 m T i)

    each_same : (ks ns : List ℕ) → AllZip IsPartAt ks ns → (ids : List TypeId) (Ts : List Tree) → AllZip (λ id T. IsTypeAt types T id) ids Ts →
        list_all (λ (id : TypeId). is_among ks (number_at numbers id.at)) ids ≡ each_some_head part hs ns Ts
    each_same ks ns a [] [] z = refl
    each_same ks ns a [] (T ∷ Ts) z = absurd z
    each_same ks ns a (id ∷ ids) [] z = absurd z
    each_same ks ns a (id ∷ ids) (T ∷ Ts) z =
        ap (λ b. b && list_all (λ (i : TypeId). is_among ks (number_at numbers i.at)) ids) (among_same ks ns a (number_at numbers id.at) T (type_number id T z.0))
        ∙ ap (λ b. some_head part hs ns T && b) (each_same ks ns a ids Ts z.1)

    leaf_same : (goals : List ProofGoal) (gs : List Goal) → AllZip (IsClaimAt types) goals gs → (k : ℕ) (left : Head Tree) → IsNumberIn types cells k (part left) → (ks ns : List ℕ) →
        AllZip IsPartAt ks ns → (n : ℕ) → leaf_numbered numbers k ks (numbered goals n) ≡ leaf_stands part left hs ns (numbered gs n)
    leaf_same goals gs z k left i ks ns a zero = refl
    leaf_same [] [] z k left i ks ns a (suc n) = refl
    leaf_same [] (g ∷ gs) z k left i ks ns a (suc n) = absurd z
    leaf_same (m ∷ goals) [] z k left i ks ns a (suc n) = absurd z
    leaf_same (m ∷ goals) (g ∷ gs) z k left i ks ns a (suc zero) =
        let c = z.0 in
        ap (λ b. b && list_all (λ (id : TypeId). is_among ks (number_at numbers id.at)) m.rights.items) (number_same (number_at numbers m.left.at) k g.left (part left) (type_number m.left g.left c.left) i)
        ∙ ap (λ b. same_tree g.left (part left) && b) (each_same ks ns a m.rights.items g.rights c.rights)
    leaf_same (m ∷ goals) (g ∷ gs) z k left i ks ns a (suc (suc n)) = leaf_same goals gs z.1 k left i ks ns a (suc n)

    -- the parts of right heads by their positions
    part_at : (cs : List ℕ) (js : List (Head Tree)) → AllZip (λ number (h : Head Tree). IsNumberIn types cells number (part h)) cs js → (i : ℕ) → i < length cs →
        (h : Head Tree) × (numbered js (suc i) ≡ Some h) × IsNumberIn types cells (number_at cs i) (part h)
    part_at [] js z i l = absurd (omega arith)
    part_at (c ∷ cs) [] z i l = absurd z
    part_at (c ∷ cs) (j ∷ js) z zero l = (j, refl, z.0)
    part_at (c ∷ cs) (j ∷ js) z (suc i) l = part_at cs js z.1 i (omega arith)

    content_parts : (cs : List ℕ) → AllZip (λ number (h : Head Tree). IsNumberIn types cells number (part h)) cs hs → (ts : List Turn) → AllByRecursion (λ (t : Turn). t.right < length cs) ts →
        AllZip IsPartAt (content_side cs ts) (sides_of ts).content
    unfolding IsPartAt sides_of
    content_parts cs z [] w = tt
    content_parts cs z (t ∷ ts) w = go t.on_rest (content_parts cs z ts w.1)
      where
        go : (b : Bool) → AllZip IsPartAt (content_side cs ts) (sides_of ts).content →
            AllZip IsPartAt (cond b (content_side cs ts) (number_at cs t.right ∷ content_side cs ts)) (cond b (on_rest (suc t.right) (sides_of ts)) (on_content (suc t.right) (sides_of ts))).content
        go true i = i
        go false i = (part_at cs hs z t.right w.0, i)

    rest_parts : (rs : List ℕ) → AllZip (λ number (h : Head Tree). IsNumberIn types cells number (part h)) rs hs → (ts : List Turn) → AllByRecursion (λ (t : Turn). t.right < length rs) ts →
        AllZip IsPartAt (rest_side rs ts) (sides_of ts).rest
    unfolding IsPartAt sides_of
    rest_parts rs z [] w = tt
    rest_parts rs z (t ∷ ts) w = go t.on_rest (rest_parts rs z ts w.1)
      where
        go : (b : Bool) → AllZip IsPartAt (rest_side rs ts) (sides_of ts).rest →
            AllZip IsPartAt (cond b (number_at rs t.right ∷ rest_side rs ts) (rest_side rs ts)) (cond b (on_rest (suc t.right) (sides_of ts)) (on_content (suc t.right) (sides_of ts))).rest
        go true i = (part_at rs hs z t.right w.0, i)
        go false i = i

-- ---- splits

kind_same : (a : Atom) (hs : List (Head Tree)) (n : ℕ) → kind_matches a (numbered (map (λ (h : Head Tree). h.kind) hs) n) ≡ head_matches a (numbered hs n)
kind_same a hs zero = refl
kind_same a [] (suc n) = refl
kind_same a (h ∷ hs) (suc zero) = refl
kind_same a (h ∷ hs) (suc (suc n)) = kind_same a hs (suc n)

kind_there : (a : Atom) (ks : List HeadKind) (n : ℕ) → kind_matches a (numbered ks n) ≡ true → (suc (n - 1) ≡ n) × (n - 1 < length ks)
kind_there a ks zero e = cc
kind_there a [] (suc n) e = cc
kind_there a (k ∷ ks) (suc zero) e = (omega arith, omega arith)
kind_there a (k ∷ ks) (suc (suc n)) e = let r = kind_there a ks (suc n) e in (omega arith, (let h = r.1 in omega arith))

split_same : (ts : List Turn) (k : ℕ) → is_among (heads_split ts) k ≡ (has_number (sides_of ts).content (suc k) || has_number (sides_of ts).rest (suc k))
unfolding sides_of
split_same [] k = refl
split_same (t ∷ ts) k = go t.on_rest (split_same ts k)
  where
    go : (b : Bool) → is_among (heads_split ts) k ≡ (has_number (sides_of ts).content (suc k) || has_number (sides_of ts).rest (suc k)) →
        (nat_eq t.right k || is_among (heads_split ts) k)
        ≡ (has_number (cond b (on_rest (suc t.right) (sides_of ts)) (on_content (suc t.right) (sides_of ts))).content (suc k)
        || has_number (cond b (on_rest (suc t.right) (sides_of ts)) (on_content (suc t.right) (sides_of ts))).rest (suc k))
    go true i =
        ap (λ b. b || is_among (heads_split ts) k) (suc_same t.right k) ∙ ap (λ b. nat_eq (suc t.right) (suc k) || b) i
        ∙ or_swap (nat_eq (suc t.right) (suc k)) (has_number (sides_of ts).content (suc k)) (has_number (sides_of ts).rest (suc k))
    go false i =
        ap (λ b. b || is_among (heads_split ts) k) (suc_same t.right k) ∙ ap (λ b. nat_eq (suc t.right) (suc k) || b) i
        ∙ or_assoc (nat_eq (suc t.right) (suc k)) (has_number (sides_of ts).content (suc k)) (has_number (sides_of ts).rest (suc k))
      where
        or_assoc : (a b c : Bool) → (a || (b || c)) ≡ ((a || b) || c)
        or_assoc true b c = refl
        or_assoc false b c = refl

allowed_same : (a : Atom) (hs : List (Head Tree)) (ts : List Turn) (n : ℕ) →
    (kind_matches a (numbered (map (λ (h : Head Tree). h.kind) hs) n) && not (is_among (heads_split ts) (n - 1))) ≡ split_allowed a hs (sides_of ts) n
allowed_same a hs ts zero = refl
allowed_same a hs ts (suc k) =
    let e : suc k - 1 ≡ k = omega arith in
    ap (λ b. b && not (is_among (heads_split ts) (suc k - 1))) (kind_same a hs (suc k))
    ∙ ap (λ b. head_matches a (numbered hs (suc k)) && not b) (ap (is_among (heads_split ts)) e ∙ split_same ts k)

-- ---- the walk

pub after_tree : (t : ChoiceTree) (ts : List Turn) (ss : List Step) → turns_after ts (steps_of t ++ ss) ≡ turns_after (turned ts) ss
after_tree (settles_content n) ts ss = refl
after_tree (settles_rest n) ts ss = refl
after_tree (split_on n t u) ts ss =
    let here : Turn = record { right = n - 1; on_rest = false } in
    ap (turns_after (here ∷ ts)) (append_assoc (steps_of t) (steps_of u) ss) ∙ after_tree t (here ∷ ts) (steps_of u ++ ss)
    ∙ after_tree u (record { right = n - 1; on_rest = true } ∷ ts) ss

pub tree_left : (t : ChoiceTree) → turns_after [] (steps_of t) ≡ []
tree_left t = ap (turns_after []) (sym (append-nil (steps_of t))) ∙ after_tree t [] []

module _ (types : List Row) (cells : List Cell) (s : SettingView) (left : Head Tree) (hs : List (Head Tree)) (gs : List Goal) (c : Corresponds types cells s left hs gs) where
  fits_same : (ts : List Turn) (n : ℕ) → split_fits s ts n ≡ split_allowed s.atom hs (sides_of ts) n
  fits_same ts n = ap (λ ks. kind_matches s.atom (numbered ks n) && not (is_among (heads_split ts) (n - 1))) c.kinds ∙ allowed_same s.atom hs ts n

  long_zip : {A B : Type 0} (P : A → B → Type 0) (xs : List A) (ys : List B) → AllZip P xs ys → length xs ≡ length ys
  long_zip P [] [] z = refl
  long_zip P [] (y ∷ ys) z = absurd z
  long_zip P (x ∷ xs) [] z = absurd z
  long_zip P (x ∷ xs) (y ∷ ys) z = ap suc (long_zip P xs ys z.1)

  long_rests : length s.rests ≡ length s.contents
  long_rests =
      long_zip (λ number (h : Head Tree). IsNumberIn types cells number h.rest) s.rests hs c.rests ∙ sym (long_zip (λ number (h : Head Tree). IsNumberIn types cells number h.content) s.contents hs c.contents)

  rests_within : (ts : List Turn) → AllByRecursion (λ (t : Turn). t.right < length s.contents) ts → AllByRecursion (λ (t : Turn). t.right < length s.rests) ts
  rests_within ts w = subst (λ n. AllByRecursion (λ (t : Turn). t.right < n) ts) (sym long_rests) w

  kinds_long : length s.kinds ≡ length s.contents
  kinds_long = ap length c.kinds ∙ mapped hs ∙ sym (long_zip (λ number (h : Head Tree). IsNumberIn types cells number h.content) s.contents hs c.contents)
    where
      mapped : (js : List (Head Tree)) → length (map (λ (h : Head Tree). h.kind) js) ≡ length js
      mapped [] = refl
      mapped (j ∷ js) = ap suc (mapped js)

  content_leaf_same : (ts : List Turn) → AllByRecursion (λ (t : Turn). t.right < length s.contents) ts → (n : ℕ) →
      leaf_numbered s.numbers s.left_content (content_side s.contents ts) (numbered s.goals n) ≡ leaf_stands (λ h. h.content) left hs (sides_of ts).content (numbered gs n)
  content_leaf_same ts w n =
      leaf_same types cells s.numbers c.numbers (λ h. h.content) hs s.goals gs c.goals s.left_content left c.left_content (content_side s.contents ts) (sides_of ts).content
      (content_parts types cells s.numbers c.numbers (λ h. h.content) hs s.contents c.contents ts w) n

  rest_leaf_same : (ts : List Turn) → AllByRecursion (λ (t : Turn). t.right < length s.contents) ts → (n : ℕ) →
      leaf_numbered s.numbers s.left_rest (rest_side s.rests ts) (numbered s.goals n) ≡ leaf_stands (λ h. h.rest) left hs (sides_of ts).rest (numbered gs n)
  rest_leaf_same ts w n =
      leaf_same types cells s.numbers c.numbers (λ h. h.rest) hs s.goals gs c.goals s.left_rest left c.left_rest (rest_side s.rests ts) (sides_of ts).rest
      (rest_parts types cells s.numbers c.numbers (λ h. h.rest) hs s.rests c.rests ts (rests_within ts w)) n

  walked : (t : ChoiceTree) (ts : List Turn) (ss : List Step) → AllByRecursion (λ (t : Turn). t.right < length s.contents) ts →
      wrong_steps s ts (steps_of t ++ ss) ≡ or_next (wrong_choice gs s.atom left hs (sides_of ts) t) (wrong_steps s (turned ts) ss)
  unfolding sides_of
  walked (settles_content n) ts ss w = ap (λ b. or_next (reason_unless b bad_leaf) (wrong_steps s (turned ts) ss)) (content_leaf_same ts w n)
  walked (settles_rest n) ts ss w = ap (λ b. or_next (reason_unless b bad_leaf) (wrong_steps s (turned ts) ss)) (rest_leaf_same ts w n)
  walked (split_on n t u) ts ss w =
      ap (λ b. or_next (reason_unless b bad_split) behind) (fits_same ts n) ∙ by_split (split_allowed s.atom hs (sides_of ts) n) (fits_same ts n)
      (λ here v. ap (wrong_steps s here) (append_assoc (steps_of t) (steps_of u) ss) ∙ walked t here (steps_of u ++ ss) v) (λ there v. walked u there ss v)
    where
      here : Turn
      here = record { right = n - 1; on_rest = false }

      there : Turn
      there = record { right = n - 1; on_rest = true }

      behind : Option Reason
      behind = wrong_steps s (here ∷ ts) ((steps_of t ++ steps_of u) ++ ss)

      goes : List Turn → Type 0
      goes us = AllByRecursion (λ (t : Turn). t.right < length s.contents) us

      and_true : (a b : Bool) → (a && b) ≡ true → a ≡ true
      and_true true b e = refl
      and_true false b e = e

      by_split : (b : Bool) → split_fits s ts n ≡ b →
          ((us : List Turn) → goes us → wrong_steps s us ((steps_of t ++ steps_of u) ++ ss) ≡ or_next (wrong_choice gs s.atom left hs (sides_of us) t) (wrong_steps s (turned us) (steps_of u ++ ss))) →
          ((us : List Turn) → goes us → wrong_steps s us (steps_of u ++ ss) ≡ or_next (wrong_choice gs s.atom left hs (sides_of us) u) (wrong_steps s (turned us) ss)) →
          or_next (reason_unless b bad_split) behind
          ≡ or_next (or_next (reason_unless b bad_split) (or_next (wrong_choice gs s.atom left hs (on_content n (sides_of ts)) t) (wrong_choice gs s.atom left hs (on_rest n (sides_of ts)) u))) (wrong_steps s (turned ts) ss)
      by_split false e f g = refl
      by_split true e f g =
          let k = kind_there s.atom s.kinds n (and_true (kind_matches s.atom (numbered s.kinds n)) (not (is_among (heads_split ts) (n - 1))) e) in
          let v : n - 1 < length s.contents = let h = k.1 in let q = kinds_long in omega arith in
          f (here ∷ ts) (v, w)
          ∙ ap (or_next (wrong_choice gs s.atom left hs (on_content (suc (n - 1)) (sides_of ts)) t)) (g (there ∷ ts) (v, w))
          ∙ ap (λ m. or_next (wrong_choice gs s.atom left hs (on_content m (sides_of ts)) t) (or_next (wrong_choice gs s.atom left hs (on_rest m (sides_of ts)) u) (wrong_steps s (turned ts) ss))) k.0
          ∙ next_assoc (wrong_choice gs s.atom left hs (on_content n (sides_of ts)) t) (wrong_choice gs s.atom left hs (on_rest n (sides_of ts)) u) (wrong_steps s (turned ts) ss)

  pub tree_walked : (t : ChoiceTree) → wrong_steps s [] (steps_of t) ≡ wrong_choice gs s.atom left hs no_sides t
  unfolding sides_of
  tree_walked t = ap (wrong_steps s []) (sym (append-nil (steps_of t))) ∙ walked t [] [] tt ∙ next_none (wrong_choice gs s.atom left hs no_sides t)

  -- ---- texts

  turns_match : (n : ℕ) (js : List (Head Tree)) → (sides_of (rest_turns s.atom n (map (λ (h : Head Tree). h.kind) js))).rest ≡ matching s.atom (suc n) js
  unfolding sides_of
  turns_match n [] = refl
  turns_match n (j ∷ js) = go (matches j.kind s.atom) (turns_match (suc n) js ∙ ap (λ m. matching s.atom m js) (omega arith))
    where
      more : List Turn
      more = rest_turns s.atom (suc n) (map (λ (h : Head Tree). h.kind) js)

      go : (b : Bool) → (sides_of more).rest ≡ matching s.atom (suc n + 1) js →
          (sides_of (cond b (record { right = n; on_rest = true } ∷ more) more)).rest ≡ cond b (suc n ∷ matching s.atom (suc n + 1) js) (matching s.atom (suc n + 1) js)
      go true i = ap (λ ns. suc n ∷ ns) i
      go false i = i

  turns_within : (n total : ℕ) (ks : List HeadKind) → n + length ks ≤ total → AllByRecursion (λ (t : Turn). t.right < total) (rest_turns s.atom n ks)
  turns_within n total [] h = tt
  turns_within n total (k ∷ ks) h = go (matches k s.atom) (turns_within (suc n) total ks (omega arith))
    where
      go : (b : Bool) → AllByRecursion (λ (t : Turn). t.right < total) (rest_turns s.atom (suc n) ks) →
          AllByRecursion (λ (t : Turn). t.right < total) (cond b (record { right = n; on_rest = true } ∷ rest_turns s.atom (suc n) ks) (rest_turns s.atom (suc n) ks))
      go true i = (omega arith, i)
      go false i = i

  pub text_walked : (t : ChoiceTree) → wrong_text_step s t ≡ wrong_text gs s.atom left hs t
  text_walked (settles_content n) = refl
  text_walked (split_on n t u) = refl
  text_walked (settles_rest n) =
      let ts = rest_turns s.atom 0 s.kinds in
      let w = turns_within 0 (length s.contents) s.kinds (let k = kinds_long in omega arith) in
      ap (λ b. reason_unless b bad_leaf) (rest_leaf_same ts w n ∙ ap (λ ns. leaf_stands (λ h. h.rest) left hs ns (numbered gs n)) (ap (λ ks. (sides_of (rest_turns s.atom 0 ks)).rest) c.kinds ∙ turns_match 0 hs))
