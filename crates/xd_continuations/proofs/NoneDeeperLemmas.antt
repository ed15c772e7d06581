-- Contents and rests of a continuation are no deeper than it.
use Rattle.std.proofs.Common.{◌≡◌, ◌≤◌, ℕ, zero, suc, ◌+◌, max, arith, Bool, true, false, cond, List, [], ◌∷◌, map, length, Option, Some, None, refl, sym, subst}
use Rattle.std.specs.Str.{bytes_eq}
use Rattle.std.specs.List.{AllByRecursion}
use Rattle.xd_doc.proofs.Lists.{all_append}
use Rattle.xd_syntax.specs.Tree.{Tree, Empty, Text, Words, Name, Elem, Seq, Alt, Star, Plus, Opt, Val, Definitions, body, seq_of, is_empty}
use Rattle.xd_syntax.specs.TypeText.{Level, any_type_level, sequence_level, postfix_level, primary_level, alternative_wants, sequence_wants, postfix_wants}
use Rattle.xd_syntax.specs.TypeDepth.{depth, depth_at_level, deeper}
use Rattle.xd_sound.proofs.Reached.{sequence_below_postfix}
use Rattle.xd_meaning.specs.CanBeEmpty.{can_be_empty}
use Rattle.xd_meaning.specs.Heads.{pieces}
use Rattle.xd_continuations.specs.Continuation.{Move, followed, moves_by, definition_within, name_within, moves_within, moves_along, moves, is_piece, IsMerged, AreMerged, IsContinuation}
use Rattle.xd_continuations.specs.Depths.{NoneDeeper, IsNoDeeper}
use Rattle.xd_continuations.proofs.MoveLemmas.{all_map, all_cond, seq_of-pieces, merged_body}

-- ---- levels

deeper_more : (b : Bool) (n : ℕ) → n ≤ deeper b n
deeper_more true n = omega arith
deeper_more false n = omega arith

-- parentheses add at most
level_more : (v : Level) (T : Tree) → depth T ≤ depth_at_level v T
level_more v Empty = omega arith
level_more v Text = omega arith
level_more v (Words w) = omega arith
level_more v (Name x) = omega arith
level_more v (Elem c T) = omega arith
level_more v (Seq T U) = deeper_more (sequence_wants v) (max (depth_at_level postfix_level T) (depth_at_level sequence_level U))
level_more v (Alt T U) = deeper_more (alternative_wants v) (max (depth_at_level sequence_level T) (depth_at_level any_type_level U))
level_more v (Star T) = deeper_more (postfix_wants v) (depth_at_level primary_level T)
level_more v (Plus T) = deeper_more (postfix_wants v) (depth_at_level primary_level T)
level_more v (Opt T) = deeper_more (postfix_wants v) (depth_at_level primary_level T)
level_more v (Val x T) = level_more v T

module _ (limit : ℕ) (some : 1 ≤ limit) where
  -- a part of a sequence is no deeper
  abbrev IsPart : Tree → Type 0
  IsPart T = depth_at_level postfix_level T ≤ limit

  inside : (T : Tree) → cond (is_empty T) 0 (depth T) + 1 ≤ limit → depth T ≤ limit
  inside Empty h = some
  inside Text h = omega arith
  inside (Words w) h = omega arith
  inside (Name x) h = omega arith
  inside (Elem c T) h = omega arith
  inside (Seq T U) h = omega arith
  inside (Alt T U) h = omega arith
  inside (Star T) h = omega arith
  inside (Plus T) h = omega arith
  inside (Opt T) h = omega arith
  inside (Val x T) h = omega arith

  left_of : (a b : ℕ) → max a b ≤ limit → a ≤ limit
  left_of a b h = omega arith

  right_of : (a b : ℕ) → max a b ≤ limit → b ≤ limit
  right_of a b h = omega arith

  both_of : (a b : ℕ) → a ≤ limit → b ≤ limit → max a b ≤ limit
  both_of a b h k = omega arith

  -- at the end of a sequence
  pieces_shallow : (U : Tree) → IsMerged U → depth_at_level sequence_level U ≤ limit → AllByRecursion IsPart (pieces U)
  pieces_shallow Empty m h = tt
  pieces_shallow Text m h = (h, tt)
  pieces_shallow (Words w) m h = (h, tt)
  pieces_shallow (Name x) m h = (h, tt)
  pieces_shallow (Elem c T) m h = (h, tt)
  pieces_shallow (Seq T U) m h =
      (left_of (depth_at_level postfix_level T) (depth_at_level sequence_level U) h, pieces_shallow U m.3 (right_of (depth_at_level postfix_level T) (depth_at_level sequence_level U) h))
  pieces_shallow (Alt T U) m h = (h, tt)
  pieces_shallow (Star T) m h = (h, tt)
  pieces_shallow (Plus T) m h = (h, tt)
  pieces_shallow (Opt T) m h = (h, tt)
  pieces_shallow (Val x T) m h = absurd m

  parts_end : (K : List Tree) → AllByRecursion IsPart K → depth_at_level sequence_level (seq_of K) ≤ limit
  parts_end [] a = some
  parts_end (T ∷ []) a = let h = a.0 in let e = sequence_below_postfix T in omega arith
  parts_end (T ∷ (U ∷ Us)) a = both_of (depth_at_level postfix_level T) (depth_at_level sequence_level (seq_of (U ∷ Us))) a.0 (parts_end (U ∷ Us) a.1)

  -- and the parts of a sequence at its end are no deeper
  tail_parts : (K : List Tree) → IsContinuation K → depth_at_level sequence_level (seq_of K) ≤ limit → AllByRecursion IsPart K
  tail_parts [] k h = tt
  tail_parts (T ∷ []) k h = (alone T (k.0).0 (k.0).1 h, tt)
    where
      alone : (T : Tree) → is_piece T ≡ true → IsMerged T → depth_at_level sequence_level T ≤ limit → IsPart T
      alone Empty p m h = cc
      alone Text p m h = h
      alone (Words w) p m h = h
      alone (Name x) p m h = h
      alone (Elem c T) p m h = h
      alone (Seq T U) p m h = cc
      alone (Alt T U) p m h = h
      alone (Star T) p m h = h
      alone (Plus T) p m h = h
      alone (Opt T) p m h = h
      alone (Val x T) p m h = absurd m
  tail_parts (T ∷ (U ∷ Us)) k h = (
    left_of (depth_at_level postfix_level T) (depth_at_level sequence_level (seq_of (U ∷ Us))) h,
    tail_parts (U ∷ Us) k.1 (right_of (depth_at_level postfix_level T) (depth_at_level sequence_level (seq_of (U ∷ Us))) h),
  )

  parts_shallow : (K : List Tree) → AllByRecursion IsPart K → depth (seq_of K) ≤ limit
  parts_shallow K a = let h = parts_end K a in let l = level_more sequence_level (seq_of K) in omega arith

  -- ---- moves

  abbrev IsShallowMove : Move → Type 0
  IsShallowMove m = (depth (seq_of m.content) ≤ limit) × AllByRecursion IsPart m.rest

  followed_shallow : (K : List Tree) → AllByRecursion IsPart K → (ms : List Move) → AllByRecursion IsShallowMove ms → AllByRecursion IsShallowMove (map (followed K) ms)
  followed_shallow K k ms a = all_map IsShallowMove IsShallowMove (followed K) ms (λ m i. (i.0, all_append IsPart m.rest K i.1 k)) a

  module _ (Z : Tree → Bool) (N : List ℕ → List Move) (names : (x : List ℕ) → AllByRecursion IsShallowMove (N x)) where
    moves_shallow : (T : Tree) → IsMerged T → depth T ≤ limit → AllByRecursion IsShallowMove (moves_by Z N T)
    moves_shallow Empty m h = tt
    moves_shallow Text m h = ((some, tt), tt)
    moves_shallow (Words w) m h = ((some, tt), tt)
    moves_shallow (Name x) m h = names x
    moves_shallow (Elem c T) m h = ((subst (λ U. depth U ≤ limit) (sym (seq_of-pieces T m)) (inside T h), tt), tt)
    moves_shallow (Seq T U) m h =
        let a = left_of (depth_at_level postfix_level T) (depth_at_level sequence_level U) h in
        let b = right_of (depth_at_level postfix_level T) (depth_at_level sequence_level U) h in
        let l = level_more postfix_level T in
        let r = level_more sequence_level U in
        all_append IsShallowMove (map (followed (pieces U)) (moves_by Z N T)) (cond (Z T) (moves_by Z N U) [])
        (followed_shallow (pieces U) (pieces_shallow U m.3 b) (moves_by Z N T) (moves_shallow T m.2 (omega arith)))
        (all_cond IsShallowMove (Z T) (moves_by Z N U) (moves_shallow U m.3 (omega arith)))
    moves_shallow (Alt T U) m h =
        let a = left_of (depth_at_level sequence_level T) (depth U) h in
        let b = right_of (depth_at_level sequence_level T) (depth U) h in
        let l = level_more sequence_level T in
        all_append IsShallowMove (moves_by Z N T) (moves_by Z N U) (moves_shallow T m.0 (omega arith)) (moves_shallow U m.1 b)
    moves_shallow (Star T) m h = let l = level_more primary_level T in followed_shallow (Star T ∷ []) (h, tt) (moves_by Z N T) (moves_shallow T m (omega arith))
    moves_shallow (Plus T) m h = let l = level_more primary_level T in followed_shallow (Star T ∷ []) (h, tt) (moves_by Z N T) (moves_shallow T m (omega arith))
    moves_shallow (Opt T) m h = let l = level_more primary_level T in moves_shallow T m (omega arith)
    moves_shallow (Val x T) m h = absurd m

  shallow_body : (E : Definitions) → NoneDeeper limit E → (x : List ℕ) (T : Tree) → body E x ≡ Some T → depth T ≤ limit
  shallow_body [] a x T e = cc
  shallow_body (p ∷ ps) a x T e = go (bytes_eq p.0 x) e (λ k. shallow_body ps a.1 x T k)
    where
      go : (b : Bool) → cond b (Some p.1) (body ps x) ≡ Some T → (body ps x ≡ Some T → depth T ≤ limit) → depth T ≤ limit
      go true k rec = let q : p.1 ≡ T = cc in subst (λ U. depth U ≤ limit) q a.0
      go false k rec = rec k

  module _ (E : Definitions) (merged : AreMerged E) (none : NoneDeeper limit E) (Z : Tree → Bool) where
    definition_shallow : (F : Tree → List Move) → ((T : Tree) → IsMerged T → depth T ≤ limit → AllByRecursion IsShallowMove (F T)) → (x : List ℕ) (o : Option Tree) → body E x ≡ o →
        AllByRecursion IsShallowMove (definition_within [] F o)
    definition_shallow F h x None e = tt
    definition_shallow F h x (Some T) e = h T (merged_body E merged x T e) (shallow_body E none x T e)

    names_shallow : (n : ℕ) (x : List ℕ) → AllByRecursion IsShallowMove (name_within [] (moves_by Z) E n x)
    names_shallow zero x = tt
    names_shallow (suc n) x =
        definition_shallow (moves_by Z (name_within [] (moves_by Z) E n)) (moves_shallow Z (name_within [] (moves_by Z) E n) (names_shallow n)) x (body E x) refl

    along_shallow : (n : ℕ) (K : List Tree) → IsContinuation K → depth (seq_of K) ≤ limit → AllByRecursion IsShallowMove (moves_along Z (moves_by Z (name_within [] (moves_by Z) E n)) K)
    along_shallow n [] k h = tt
    along_shallow n (T ∷ []) k h =
        all_append IsShallowMove (map (followed []) (moves_by Z (name_within [] (moves_by Z) E n) T)) (cond (Z T) [] [])
        (followed_shallow [] tt (moves_by Z (name_within [] (moves_by Z) E n) T) (moves_shallow Z (name_within [] (moves_by Z) E n) (names_shallow n) T (k.0).1 h))
        (all_cond IsShallowMove (Z T) [] tt)
    along_shallow n (T ∷ (U ∷ Us)) k h =
        let K : List Tree = U ∷ Us in
        let a = left_of (depth_at_level postfix_level T) (depth_at_level sequence_level (seq_of K)) h in
        let b = right_of (depth_at_level postfix_level T) (depth_at_level sequence_level (seq_of K)) h in
        let l = level_more postfix_level T in
        let r = level_more sequence_level (seq_of K) in
        let parts = tail_parts K k.1 b in
        all_append IsShallowMove (map (followed K) (moves_by Z (name_within [] (moves_by Z) E n) T)) (cond (Z T) (moves_along Z (moves_by Z (name_within [] (moves_by Z) E n)) K) [])
        (followed_shallow K parts (moves_by Z (name_within [] (moves_by Z) E n) T) (moves_shallow Z (name_within [] (moves_by Z) E n) (names_shallow n) T (k.0).1 (omega arith)))
        (all_cond IsShallowMove (Z T) (moves_along Z (moves_by Z (name_within [] (moves_by Z) E n)) K) (along_shallow n (U ∷ Us) k.1 (omega arith)))

-- contents and rests of a continuation's moves are no deeper than it and the definitions
pub moves_no_deeper : (limit : ℕ) → 1 ≤ limit → (E : Definitions) → AreMerged E → NoneDeeper limit E → (K : List Tree) → IsContinuation K → depth (seq_of K) ≤ limit →
    AllByRecursion (IsNoDeeper limit) (moves E K)
unfolding moves
moves_no_deeper limit some E merged none K k h =
    all_whole (moves_along (can_be_empty E) (moves_within E (length E)) K) (along_shallow limit some E merged none (can_be_empty E) (length E) K k h)
  where
    all_whole : (ms : List Move) → AllByRecursion (IsShallowMove limit some) ms → AllByRecursion (IsNoDeeper limit) ms
    all_whole [] a = tt
    all_whole (m ∷ ms) a = (((a.0).0, parts_shallow limit some m.rest (a.0).1), all_whole ms a.1)
