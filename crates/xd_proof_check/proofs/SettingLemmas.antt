-- Settings of cases.
use Rattle.std.proofs.Common.{◌≡◌, ℕ, zero, suc, ◌-◌, ◌<◌, ◌≤◌, arith, Bool, true, false, not, cond, ◌&&◌, Option, Some, None, Result, Ok, Err, IfOk, List, [], ◌∷◌, length, drop, get_or, refl, ap, sym, ◌∙◌}
use Rattle.std.proofs.Math.Seq.{drop-cons}
use Rattle.std.specs.Option.{IfNone, option_map}
use Rattle.xd_syntax.specs.Tree.{Tree}
use Rattle.xd_rules.specs.declared.atom.Atom.{Atom}
use Rattle.xd_rules.specs.declared.atom.Atom.TheVariants.{Label, OtherLabel, Text, OtherText}
use Rattle.xd_rules.specs.Meaning.{is_text_atom}
use Rattle.xd_rules.specs.Rules.{ChoiceTree, numbered, no_sides}
use Rattle.xd_meaning.specs.Consistent.{Goal}
use Rattle.xd_rules.specs.Heads.{Head, HeadKind, matches}
use Rattle.xd_syntax.specs.Table.{Row}
use Rattle.xd_meaning.specs.Violation.{Reason}
use Rattle.xd_laws.proofs.FirstWrong.{wrong_choice, wrong_text, wrong_tree}
use Rattle.xd_moves.specs.Cells.{Cell}
use Rattle.xd_heads.specs.HeadList.{kind_at}
use Rattle.xd_heads.specs.declared.lister.NumberedHead.{NumberedHead}
use Rattle.xd_proof.specs.Steps.{steps_of}
use Rattle.xd_proof.specs.declared.steps.Step.{Step}
use Rattle.xd_proof_check.specs.Atoms.{kinds_of}
use Rattle.xd_proof_check.specs.Leaves.{is_among}
use Rattle.xd_proof_check.specs.Corresponds.{Corresponds}
use Rattle.xd_proof_check.specs.Paths.{IsClear, IsPath, KeepsRoom, heads_split, turned, turns_of}
use Rattle.xd_proof_check.specs.Reasons.{reason_of}
use Rattle.xd_proof_check.specs.declared.verdict.Reason as code
use Rattle.xd_proof_check.specs.Walk.{IsSetting, SettingView, kind_matches, rest_turns, split_fits, turns_after, wrong_steps, wrong_text_step}
use Rattle.xd_proof_check.specs.declared.path.Path.{Path}
use Rattle.xd_proof_check.specs.declared.path.Turn.{Turn}
use Rattle.xd_proof_check.proofs.PathLemmas.{path_clear, room_kept}
use Rattle.xd_proof_check.proofs.WalkLemmas.{text_walked, tree_left, tree_walked}

-- kinds of heads by number
pub kind_none : (hs : List NumberedHead) (n : ℕ) → None ≡ numbered hs n → numbered (kinds_of hs) n ≡ None
kind_none hs zero e = refl
kind_none [] (suc n) e = refl
kind_none (h ∷ hs) (suc zero) e = cc
kind_none (h ∷ hs) (suc (suc n)) e = kind_none hs (suc n) e

pub kind_some : (hs : List NumberedHead) (n : ℕ) (h : NumberedHead) → Some h ≡ numbered hs n → (numbered (kinds_of hs) n ≡ Some (kind_at h.kind)) × (0 < n) × (n - 1 < length hs)
kind_some hs zero h e = cc
kind_some [] (suc n) h e = cc
kind_some (g ∷ hs) (suc zero) h e = let q : g ≡ h = cc in (ap (λ (x : NumberedHead). Some (kind_at x.kind)) q, omega arith, omega arith)
kind_some (g ∷ hs) (suc (suc n)) h e = let r = kind_some hs (suc n) h e in (r.0, omega arith, (let l = r.2 in omega arith))

pub length-kinds_of : (hs : List NumberedHead) → length (kinds_of hs) ≡ length hs
length-kinds_of [] = refl
length-kinds_of (h ∷ hs) = ap suc (length-kinds_of hs)

pub fits_none : (s : SettingView) (ts : List Turn) (n : ℕ) → numbered s.kinds n ≡ None → split_fits s ts n ≡ false
fits_none s ts n e = ap (λ o. kind_matches s.atom o && not (is_among (heads_split ts) (n - 1))) e

pub fits_other : (s : SettingView) (ts : List Turn) (n : ℕ) (k : HeadKind) → numbered s.kinds n ≡ Some k → matches k s.atom ≡ false → split_fits s ts n ≡ false
fits_other s ts n k e m = ap (λ o. kind_matches s.atom o && not (is_among (heads_split ts) (n - 1))) e ∙ ap (λ b. b && not (is_among (heads_split ts) (n - 1))) m

pub fits_again : (s : SettingView) (ts : List Turn) (n : ℕ) → is_among (heads_split ts) (n - 1) ≡ true → split_fits s ts n ≡ false
fits_again s ts n e = ap (λ b. kind_matches s.atom (numbered s.kinds n) && not b) e ∙ and_false (kind_matches s.atom (numbered s.kinds n))
  where
    and_false : (b : Bool) → (b && false) ≡ false
    and_false true = refl
    and_false false = refl

pub fits_new : (s : SettingView) (ts : List Turn) (n : ℕ) (k : HeadKind) → numbered s.kinds n ≡ Some k → matches k s.atom ≡ true → is_among (heads_split ts) (n - 1) ≡ false →
    split_fits s ts n ≡ true
fits_new s ts n k e m a =
    ap (λ o. kind_matches s.atom o && not (is_among (heads_split ts) (n - 1))) e ∙ ap (λ b. b && not (is_among (heads_split ts) (n - 1))) m ∙ ap not a

-- a walk over the steps of a tree, from a clear path
pub walk_found : (types : List Row) (cells : List Cell) (s : SettingView) (left : Head Tree) (hs : List (Head Tree)) (gs : List Goal) (t : ChoiceTree) (steps : List Step) (ts : List Turn) (o : Option Reason) →
    Corresponds types cells s left hs gs → steps ≡ steps_of t → ts ≡ [] → o ≡ wrong_steps s ts steps → o ≡ wrong_choice gs s.atom left hs no_sides t
walk_found types cells s left hs gs t steps ts o c e n q = q ∙ ap (λ us. wrong_steps s us steps) n ∙ ap (wrong_steps s []) e ∙ tree_walked types cells s left hs gs c t

pub walk_clear : (s : SettingView) (t : ChoiceTree) (steps : List Step) (ts us : List Turn) → steps ≡ steps_of t → ts ≡ [] → us ≡ turns_after ts steps → us ≡ []
walk_clear s t steps ts us e n q = q ∙ ap (λ vs. turns_after vs steps) n ∙ ap (turns_after []) e ∙ tree_left t

-- turns on the rest side are all left at once
pub rest_turns_left : (a : Atom) (n : ℕ) (ks : List HeadKind) → turned (rest_turns a n ks) ≡ []
rest_turns_left a n [] = refl
rest_turns_left a n (k ∷ ks) = go (matches k a) (rest_turns_left a (suc n) ks)
  where
    go : (b : Bool) → turned (rest_turns a (suc n) ks) ≡ [] → turned (cond b (record { right = n; on_rest = true } ∷ rest_turns a (suc n) ks) (rest_turns a (suc n) ks)) ≡ []
    go true i = i
    go false i = i

-- ---- answers

pub label_is : (l : List ℕ) (a : Atom) → a ≡ Label l → is_text_atom a ≡ false
label_is l a e = ap is_text_atom e

pub other_label_is : (a : Atom) → a ≡ OtherLabel → is_text_atom a ≡ false
other_label_is a e = ap is_text_atom e

pub text_is : (w : List ℕ) (a : Atom) → a ≡ Text w → is_text_atom a ≡ true
text_is w a e = ap is_text_atom e

pub other_text_is : (a : Atom) → a ≡ OtherText → is_text_atom a ≡ true
other_text_is a e = ap is_text_atom e

tree_of_label : (gs : List Goal) (a : Atom) (left : Head Tree) (hs : List (Head Tree)) (t : ChoiceTree) → is_text_atom a ≡ false → wrong_tree gs a left hs t ≡ wrong_choice gs a left hs no_sides t
tree_of_label gs (Label l) left hs t e = refl
tree_of_label gs OtherLabel left hs t e = refl
tree_of_label gs (Text w) left hs t e = cc
tree_of_label gs OtherText left hs t e = cc

tree_of_text : (gs : List Goal) (a : Atom) (left : Head Tree) (hs : List (Head Tree)) (t : ChoiceTree) → is_text_atom a ≡ true → wrong_tree gs a left hs t ≡ wrong_text gs a left hs t
tree_of_text gs (Label l) left hs t e = cc
tree_of_text gs OtherLabel left hs t e = cc
tree_of_text gs (Text w) left hs t e = refl
tree_of_text gs OtherText left hs t e = refl

module _ {E : Type 0} (s : SettingView) (steps : List Step) where
  pub walk_says : (ts : List Turn) (r : Result (Option code.Reason) E) → ts ≡ [] → is_text_atom s.atom ≡ false → IfOk r (λ found. option_map reason_of found ≡ wrong_steps s ts steps) →
      IfOk r (λ found. (types : List Row) (cells : List Cell) (gs : List Goal) (left : Head Tree) (hs : List (Head Tree)) (t : ChoiceTree) → Corresponds types cells s left hs gs → steps ≡ steps_of t →
      option_map reason_of found ≡ wrong_tree gs s.atom left hs t)
  walk_says ts (Ok found) n a h =
      λ types cells gs left hs t c e. walk_found types cells s left hs gs t steps ts (option_map reason_of found) c e n h ∙ sym (tree_of_label gs s.atom left hs t a)
  walk_says ts (Err e) n a h = tt

  pub text_says : (r : Result (Option code.Reason) E) → is_text_atom s.atom ≡ true → IfOk r (λ found. (t : ChoiceTree) → steps ≡ steps_of t → option_map reason_of found ≡ wrong_text_step s t) →
      IfOk r (λ found. (types : List Row) (cells : List Cell) (gs : List Goal) (left : Head Tree) (hs : List (Head Tree)) (t : ChoiceTree) → Corresponds types cells s left hs gs → steps ≡ steps_of t →
      option_map reason_of found ≡ wrong_tree gs s.atom left hs t)
  text_says (Ok found) a h = λ types cells gs left hs t c e. h t e ∙ text_walked types cells s left hs gs c t ∙ sym (tree_of_text gs s.atom left hs t a)
  text_says (Err e) a h = tt

  pub walk_clears : (contents rests : List ℕ) (ts : List Turn) (p : Path) (r : Result (Option code.Reason) E) → ts ≡ [] →
      IfOk r (λ found. IfNone found (IsPath contents rests p × (turns_of p ≡ turns_after ts steps))) → IfOk r (λ found. (t : ChoiceTree) → steps ≡ steps_of t → IfNone found (IsClear p))
  walk_clears contents rests ts p (Ok None) n h = λ t e. path_clear contents rests p h.0 (walk_clear s t steps ts (turns_of p) e n h.1)
  walk_clears contents rests ts p (Ok (Some r)) n h = λ t e. tt
  walk_clears contents rests ts p (Err e) n h = tt

pub text_clears : {E : Type 0} (contents rests : List ℕ) (a : Atom) (ks : List HeadKind) (ts : List Turn) (p : Path) (r : Result (Option code.Reason) E) → ts ≡ rest_turns a 0 ks →
    IfOk r (λ found. IfNone found (IsPath contents rests p × (turns_of p ≡ turned ts))) → IfOk r (λ found. IfNone found (IsClear p))
text_clears contents rests a ks ts p (Ok None) n h = path_clear contents rests p h.0 (h.1 ∙ ap turned n ∙ rest_turns_left a 0 ks)
text_clears contents rests a ks ts p (Ok (Some r)) n h = tt
text_clears contents rests a ks ts p (Err e) n h = tt

-- a setting goes on to fit where the tables of marks are as long as they were
pub setting_kept : (s : SettingView) (p q : Path) → KeepsRoom p q → IsSetting s p → IsSetting s q
setting_kept s p q k h = record {
  belong = h.belong;
  contents = λ i. omega (arith, k.content, h.contents i);
  rests = λ i. omega (arith, k.rest, h.rests i);
  heads = h.heads;
  room = room_kept s.contents s.rests p q k h.room;
}

abbrev pub rest_turn : ℕ → Turn
rest_turn n = record { right = n; on_rest = true }

-- one more right head, from the last one on
pub rest_turns_more : (a : Atom) (hs : List NumberedHead) (r : ℕ) (h : NumberedHead) (b : Bool) → 0 < r → r ≤ length hs → b ≡ matches (kind_at (get_or hs (r - 1) h).kind) a
    → rest_turns a (r - 1) (kinds_of (drop (r - 1) hs)) ≡ cond b (rest_turn (r - 1) ∷ rest_turns a r (kinds_of (drop r hs))) (rest_turns a r (kinds_of (drop r hs)))
rest_turns_more a hs r h b pos le m =
    let s : suc (r - 1) ≡ r = omega arith in
    let lt : r - 1 < length hs = omega arith in
    ap (λ (xs : List NumberedHead). rest_turns a (r - 1) (kinds_of xs)) (drop-cons hs (r - 1) h lt)
    ∙ ap (λ c. cond c (rest_turn (r - 1) ∷ rest_turns a (suc (r - 1)) (kinds_of (drop (suc (r - 1)) hs))) (rest_turns a (suc (r - 1)) (kinds_of (drop (suc (r - 1)) hs)))) (sym m)
    ∙ ap (λ n. cond b (rest_turn (r - 1) ∷ rest_turns a n (kinds_of (drop n hs))) (rest_turns a n (kinds_of (drop n hs)))) s
