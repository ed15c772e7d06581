-- What is merged is no less deep than its parts.
use Rattle.std.proofs.Common.{◌≡◌, ◌≤◌, ℕ, max, ◌++◌, List, [], ◌∷◌, flat_map, refl, sym, ap, ◌∙◌, arith}
use Rattle.std.proofs.Math.Nat.{le-max_left, le-max_right, max-le}
use Rattle.xd_base.specs.declared.Place.{Place}
use Rattle.xd_doc.proofs.Numbers.{itself}
use Rattle.xd_syntax.specs.Placed.{PlacedTree, Empty_at, Text_at, Words_at, Name_at, Elem_at, Seq_at, Alt_at, Star_at, Plus_at, Opt_at, Val_at, place_of, placed_seq, placed_alt}
use Rattle.xd_parse_trees.specs.Merged.{parts_of_seq, parts_of_alt, merged_seq, sequence, alternative}
use Rattle.xd_parse_trees.specs.Shallow.{TreeWithin, TreesWithin, IsWhole, IsDeepest}
use Rattle.xd_parse_trees.proofs.Depth.{any_depth, seq_depth, post_depth, up_seq, up_post, some_branch, cons_not_nil}

le_trans : (a b c : ℕ) → a ≤ b → b ≤ c → a ≤ c
le_trans a b c h k = omega arith

same_le : (a b c : ℕ) → a ≡ b → b ≤ c → a ≤ c
same_le a b c e h = omega arith

max_grows : (a b c : ℕ) → b ≤ c → max a b ≤ max a c
max_grows a b c h = let l = le-max_left a c in let r = le-max_right a c in max-le l (le_trans b c (max a c) h r)

-- ---- alternatives
-- how deep the alternative of these branches is
abbrev alt_list : List PlacedTree → ℕ
alt_list [] = 1
alt_list (T ∷ []) = any_depth T
alt_list (T ∷ (U ∷ Us)) = max (seq_depth T) (alt_list (U ∷ Us))

alt_is : (p : Place) (Ts : List PlacedTree) → any_depth (placed_alt p Ts) ≡ alt_list Ts
alt_is p [] = refl
alt_is p (T ∷ []) = refl
alt_is p (T ∷ (U ∷ Us)) = ap (max (seq_depth T)) (alt_is (place_of U) (U ∷ Us))

-- the first branch
alt_head : (T : PlacedTree) (Us : List PlacedTree) → any_depth T ≤ alt_list (T ∷ Us)
alt_head T [] = itself (any_depth T)
alt_head T (U ∷ Us) = le_trans (any_depth T) (seq_depth T) (max (seq_depth T) (alt_list (U ∷ Us))) (up_seq T) (le-max_left (seq_depth T) (alt_list (U ∷ Us)))

alt_tail : (T : PlacedTree) (Us : List PlacedTree) → (Us ≡ [] → ⊥) → alt_list Us ≤ alt_list (T ∷ Us)
alt_tail T [] ne = absurd (ne refl)
alt_tail T (U ∷ Us) ne = le-max_right (seq_depth T) (alt_list (U ∷ Us))

append_some : (Vs Us : List PlacedTree) → (Us ≡ [] → ⊥) → Vs ++ Us ≡ [] → ⊥
append_some [] Us ne e = ne e
append_some (V ∷ Vs) Us ne e = cons_not_nil V (Vs ++ Us) e

alt_behind : (Vs Us : List PlacedTree) → (Us ≡ [] → ⊥) → alt_list Us ≤ alt_list (Vs ++ Us)
alt_behind [] Us ne = itself (alt_list Us)
alt_behind (V ∷ Vs) Us ne = le_trans (alt_list Us) (alt_list (Vs ++ Us)) (alt_list (V ∷ (Vs ++ Us))) (alt_behind Vs Us ne) (alt_tail V (Vs ++ Us) (append_some Vs Us ne))

alt_pair : (T : PlacedTree) (m : ℕ) (Us : List PlacedTree) → (Us ≡ [] → ⊥) → m ≤ alt_list Us → max (seq_depth T) m ≤ alt_list (T ∷ Us)
alt_pair T m [] ne h = absurd (ne refl)
alt_pair T m (U ∷ Us) ne h = max_grows (seq_depth T) m (alt_list (U ∷ Us)) h

alt_first : (T : PlacedTree) (Us : List PlacedTree) → any_depth T ≤ alt_list (parts_of_alt T ++ Us)
alt_first (Empty_at p) Us = alt_head (Empty_at p) Us
alt_first (Text_at p) Us = alt_head (Text_at p) Us
alt_first (Words_at p w) Us = alt_head (Words_at p w) Us
alt_first (Name_at p x) Us = alt_head (Name_at p x) Us
alt_first (Elem_at p c T) Us = alt_head (Elem_at p c T) Us
alt_first (Seq_at p T U) Us = alt_head (Seq_at p T U) Us
alt_first (Alt_at p T U) Us = alt_pair T (any_depth U) (parts_of_alt U ++ Us) (some_branch U Us) (alt_first U Us)
alt_first (Star_at p T) Us = alt_head (Star_at p T) Us
alt_first (Plus_at p T) Us = alt_head (Plus_at p T) Us
alt_first (Opt_at p T) Us = alt_head (Opt_at p T) Us
alt_first (Val_at p x q T) Us = alt_head (Val_at p x q T) Us

alt_each : (limit : ℕ) (Ts : List PlacedTree) → alt_list (flat_map parts_of_alt Ts) ≤ limit → TreesWithin Ts limit
alt_each limit [] h = tt
alt_each limit (T ∷ []) h = (le_trans (any_depth T) _ limit (alt_first T []) h, tt)
alt_each limit (T ∷ (U ∷ Us)) h =
    let rest = flat_map parts_of_alt (U ∷ Us) in (
      le_trans (any_depth T) _ limit (alt_first T rest) h,
      alt_each limit (U ∷ Us) (le_trans (alt_list rest) (alt_list (parts_of_alt T ++ rest)) limit (alt_behind (parts_of_alt T) rest (some_branch U (flat_map parts_of_alt Us))) h),
    )

-- each branch is no deeper than the alternative
pub alternative_branches : (limit : ℕ) (T : PlacedTree) (Ts : List PlacedTree) → TreeWithin (alternative T Ts) limit → TreesWithin (T ∷ Ts) limit
alternative_branches limit T [] h = (h, tt)
alternative_branches limit T (U ∷ Us) h = alt_each limit (T ∷ (U ∷ Us)) (same_le _ _ limit (sym (alt_is (place_of T) (flat_map parts_of_alt (T ∷ (U ∷ Us))))) h)

-- ---- sequences
-- how deep the sequence of these parts is after a part, and where it stands alone
abbrev seq_list : List PlacedTree → ℕ
seq_list [] = 1
seq_list (T ∷ []) = seq_depth T
seq_list (T ∷ (U ∷ Us)) = max (post_depth T) (seq_list (U ∷ Us))

abbrev any_list : List PlacedTree → ℕ
any_list [] = 1
any_list (T ∷ []) = any_depth T
any_list (T ∷ (U ∷ Us)) = max (post_depth T) (seq_list (U ∷ Us))

seq_is : (p : Place) (Ts : List PlacedTree) → seq_depth (placed_seq p Ts) ≡ seq_list Ts
seq_is p [] = refl
seq_is p (T ∷ []) = refl
seq_is p (T ∷ (U ∷ Us)) = ap (max (post_depth T)) (seq_is (place_of U) (U ∷ Us))

any_is : (p : Place) (Ts : List PlacedTree) → any_depth (placed_seq p Ts) ≡ any_list Ts
any_is p [] = refl
any_is p (T ∷ []) = refl
any_is p (T ∷ (U ∷ Us)) = ap (max (post_depth T)) (seq_is (place_of U) (U ∷ Us))

merged_is : (p : Place) (Ts : List PlacedTree) → any_depth (merged_seq p Ts) ≡ any_list Ts
merged_is p [] = refl
merged_is p (T ∷ Ts) = any_is (place_of T) (T ∷ Ts)

up_list : (Ts : List PlacedTree) → any_list Ts ≤ seq_list Ts
up_list [] = itself 1
up_list (T ∷ []) = up_seq T
up_list (T ∷ (U ∷ Us)) = itself (max (post_depth T) (seq_list (U ∷ Us)))

seq_front : (T : PlacedTree) (Ts Us : List PlacedTree) → seq_list (T ∷ Ts) ≤ seq_list (T ∷ (Ts ++ Us))
seq_front T [] [] = itself (seq_depth T)
seq_front T [] (U ∷ Us) = le_trans (seq_depth T) (post_depth T) (max (post_depth T) (seq_list (U ∷ Us))) (up_post T) (le-max_left (post_depth T) (seq_list (U ∷ Us)))
seq_front T (V ∷ Vs) Us = max_grows (post_depth T) (seq_list (V ∷ Vs)) (seq_list (V ∷ (Vs ++ Us))) (seq_front V Vs Us)

any_front : (T : PlacedTree) (Ts Us : List PlacedTree) → any_list (T ∷ Ts) ≤ any_list (T ∷ (Ts ++ Us))
any_front T [] [] = itself (any_depth T)
any_front T [] (U ∷ Us) =
    le_trans (any_depth T) (post_depth T) (max (post_depth T) (seq_list (U ∷ Us))) (le_trans (any_depth T) (seq_depth T) (post_depth T) (up_seq T) (up_post T)) (le-max_left (post_depth T) (seq_list (U ∷ Us)))
any_front T (V ∷ Vs) Us = max_grows (post_depth T) (seq_list (V ∷ Vs)) (seq_list (V ∷ (Vs ++ Us))) (seq_front V Vs Us)

any_tail : (T : PlacedTree) (Us : List PlacedTree) → (Us ≡ [] → ⊥) → any_list Us ≤ any_list (T ∷ Us)
any_tail T [] ne = absurd (ne refl)
any_tail T (U ∷ Us) ne = le_trans (any_list (U ∷ Us)) (seq_list (U ∷ Us)) (max (post_depth T) (seq_list (U ∷ Us))) (up_list (U ∷ Us)) (le-max_right (post_depth T) (seq_list (U ∷ Us)))

any_behind : (Vs Us : List PlacedTree) → (Us ≡ [] → ⊥) → any_list Us ≤ any_list (Vs ++ Us)
any_behind [] Us ne = itself (any_list Us)
any_behind (V ∷ Vs) Us ne = le_trans (any_list Us) (any_list (Vs ++ Us)) (any_list (V ∷ (Vs ++ Us))) (any_behind Vs Us ne) (any_tail V (Vs ++ Us) (append_some Vs Us ne))

-- in front and after, within a limit; where nothing stands there, it is 1
front_within : (limit : ℕ) (Ts Us : List PlacedTree) → 1 ≤ limit → any_list (Ts ++ Us) ≤ limit → any_list Ts ≤ limit
front_within limit [] Us o h = o
front_within limit (T ∷ Ts) Us o h = le_trans (any_list (T ∷ Ts)) (any_list (T ∷ (Ts ++ Us))) limit (any_front T Ts Us) h

behind_within : (limit : ℕ) (Ts Us : List PlacedTree) → 1 ≤ limit → any_list (Ts ++ Us) ≤ limit → any_list Us ≤ limit
behind_within limit Ts [] o h = o
behind_within limit Ts (U ∷ Us) o h = le_trans (any_list (U ∷ Us)) (any_list (Ts ++ (U ∷ Us))) limit (any_behind Ts (U ∷ Us) (cons_not_nil U Us)) h

abbrev pub AreWhole : List PlacedTree → Type 0
AreWhole [] = Unit {0}
AreWhole (T ∷ Ts) = IsWhole T × AreWhole Ts

seq_each : (limit : ℕ) (Ts : List PlacedTree) → 1 ≤ limit → AreWhole Ts → any_list (flat_map parts_of_seq Ts) ≤ limit → TreesWithin Ts limit
seq_each limit [] o w h = tt
seq_each limit (T ∷ Ts) o w h =
    let parts = parts_of_seq T in
    let rest = flat_map parts_of_seq Ts in (
      same_le (any_depth T) (any_list parts) limit (ap any_depth (sym w.0) ∙ any_is (place_of T) parts) (front_within limit parts rest o h),
      seq_each limit Ts o w.1 (behind_within limit parts rest o h),
    )

-- each part is no deeper than the sequence
pub sequence_parts : (limit : ℕ) (T : PlacedTree) (Ts : List PlacedTree) → 1 ≤ limit → AreWhole (T ∷ Ts) → TreeWithin (sequence T Ts) limit → TreesWithin (T ∷ Ts) limit
sequence_parts limit T [] o w h = (h, tt)
sequence_parts limit T (U ∷ Us) o w h = seq_each limit (T ∷ (U ∷ Us)) o w (same_le _ _ limit (sym (merged_is (place_of T) (flat_map parts_of_seq (T ∷ (U ∷ Us))))) h)

pub merged_parts : (p : Place) (Ts : List PlacedTree) (T : PlacedTree) → AreWhole Ts → T ≡ merged_seq p (flat_map parts_of_seq Ts) → IsDeepest T Ts
merged_parts p Ts T w e limit o h = seq_each limit Ts o w (same_le _ _ limit (sym (ap any_depth e ∙ merged_is p (flat_map parts_of_seq Ts))) h)

pub one_part : (T : PlacedTree) → IsDeepest T (T ∷ [])
one_part T limit o h = (h, tt)
