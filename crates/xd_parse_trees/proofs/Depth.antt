-- The types of a text are no deeper than its nesting.
use Rattle.std.proofs.Common.{◌≡◌, ◌≤◌, ◌+◌, ◌-◌, ℕ, suc, max, ◌++◌, Bool, true, false, cond, List, [], ◌∷◌, flat_map, refl, arith}
use Rattle.std.proofs.Math.Nat.{le-max_left, le-max_right, max-le}
use Rattle.std.specs.Str.{bytes_eq}
use Rattle.xd_doc.proofs.Numbers.{itself, le_suc}
use Rattle.xd_syntax.specs.Words.{string_word}
use Rattle.std.specs.List.{AllByRecursion}
use Rattle.xd_base.specs.declared.Place.{Place}
use Rattle.xd_syntax.specs.Placed.{PlacedTree, Empty_at, Text_at, Words_at, Name_at, Elem_at, Seq_at, Alt_at, Star_at, Plus_at, Opt_at, Val_at, place_of, placed_seq, placed_alt, unplaced}
use Rattle.xd_syntax.specs.TypeText.{any_type_level, sequence_level, postfix_level, primary_level}
use Rattle.xd_syntax.specs.TypeDepth.{depth_at_level}
use Rattle.xd_grammar.specs.declared.grammar.Terminal.{Terminal}
use Rattle.xd_grammar.specs.declared.grammar.Terminal.TheVariants as t
use Rattle.xd_parse_trees.specs.Merged.{parts_of_seq, parts_of_alt, merged_seq, sequence, alternative}
use Rattle.xd_parse_trees.specs.Values.{repeated, named_type}

-- ---- how deep a type is at a level, beside the next
abbrev pub any_depth : PlacedTree → ℕ
any_depth T = depth_at_level any_type_level (unplaced T)

abbrev pub seq_depth : PlacedTree → ℕ
seq_depth T = depth_at_level sequence_level (unplaced T)

abbrev pub post_depth : PlacedTree → ℕ
post_depth T = depth_at_level postfix_level (unplaced T)

abbrev pub prim_depth : PlacedTree → ℕ
prim_depth T = depth_at_level primary_level (unplaced T)

pub up_seq : (T : PlacedTree) → any_depth T ≤ seq_depth T
up_seq (Empty_at p) = omega arith
up_seq (Text_at p) = omega arith
up_seq (Words_at p w) = itself _
up_seq (Name_at p x) = omega arith
up_seq (Elem_at p c T) = itself _
up_seq (Seq_at p T U) = itself _
up_seq (Alt_at p T U) = le_suc _
up_seq (Star_at p T) = itself _
up_seq (Plus_at p T) = itself _
up_seq (Opt_at p T) = itself _
up_seq (Val_at p x q T) = up_seq T

pub up_post : (T : PlacedTree) → seq_depth T ≤ post_depth T
up_post (Empty_at p) = omega arith
up_post (Text_at p) = omega arith
up_post (Words_at p w) = itself _
up_post (Name_at p x) = omega arith
up_post (Elem_at p c T) = itself _
up_post (Seq_at p T U) = le_suc _
up_post (Alt_at p T U) = itself _
up_post (Star_at p T) = itself _
up_post (Plus_at p T) = itself _
up_post (Opt_at p T) = itself _
up_post (Val_at p x q T) = up_post T

pub up_prim : (T : PlacedTree) → post_depth T ≤ prim_depth T
up_prim (Empty_at p) = omega arith
up_prim (Text_at p) = omega arith
up_prim (Words_at p w) = itself _
up_prim (Name_at p x) = omega arith
up_prim (Elem_at p c T) = itself _
up_prim (Seq_at p T U) = itself _
up_prim (Alt_at p T U) = itself _
up_prim (Star_at p T) = le_suc _
up_prim (Plus_at p T) = le_suc _
up_prim (Opt_at p T) = le_suc _
up_prim (Val_at p x q T) = up_prim T

-- in parentheses a type is at most one level deeper
down_prim : (T : PlacedTree) → prim_depth T ≤ any_depth T + 1
down_prim (Empty_at p) = omega arith
down_prim (Text_at p) = omega arith
down_prim (Words_at p w) = le_suc _
down_prim (Name_at p x) = omega arith
down_prim (Elem_at p c T) = le_suc _
down_prim (Seq_at p T U) = itself _
down_prim (Alt_at p T U) = itself _
down_prim (Star_at p T) = itself _
down_prim (Plus_at p T) = itself _
down_prim (Opt_at p T) = itself _
down_prim (Val_at p x q T) = down_prim T

-- ---- types without binders, within a limit
abbrev pub plain : PlacedTree → Type 0
plain (Empty_at p) = Unit {0}
plain (Text_at p) = Unit {0}
plain (Words_at p w) = Unit {0}
plain (Name_at p x) = Unit {0}
plain (Elem_at p c T) = plain T
plain (Seq_at p T U) = plain T × plain U
plain (Alt_at p T U) = plain T × plain U
plain (Star_at p T) = plain T
plain (Plus_at p T) = plain T
plain (Opt_at p T) = plain T
plain (Val_at p x q T) = ⊥

abbrev pub AnyWithin : (l d : ℕ) → PlacedTree → Type 0
AnyWithin l d T = plain T × (d + any_depth T ≤ l)

abbrev pub SeqWithin : (l d : ℕ) → PlacedTree → Type 0
SeqWithin l d T = plain T × (d + seq_depth T ≤ l)

abbrev pub PostWithin : (l d : ℕ) → PlacedTree → Type 0
PostWithin l d T = plain T × (d + post_depth T ≤ l)

abbrev pub PrimWithin : (l d : ℕ) → PlacedTree → Type 0
PrimWithin l d T = plain T × (d + prim_depth T ≤ l)

pub seq_any : (l d : ℕ) (T : PlacedTree) → SeqWithin l d T → AnyWithin l d T
seq_any l d T h = let u = up_seq T in let k = h.1 in (h.0, omega arith)

pub post_seq : (l d : ℕ) (T : PlacedTree) → PostWithin l d T → SeqWithin l d T
post_seq l d T h = let u = up_post T in let k = h.1 in (h.0, omega arith)

pub prim_post : (l d : ℕ) (T : PlacedTree) → PrimWithin l d T → PostWithin l d T
prim_post l d T h = let u = up_prim T in let k = h.1 in (h.0, omega arith)

pub any_prim : (l d : ℕ) (T : PlacedTree) → AnyWithin l (suc d) T → PrimWithin l d T
any_prim l d T h = let u = down_prim T in let k = h.1 in (h.0, omega arith)

left_of : (a b d l : ℕ) → d + max a b ≤ l → d + a ≤ l
left_of a b d l h = let u = le-max_left a b in omega arith

right_of : (a b d l : ℕ) → d + max a b ≤ l → d + b ≤ l
right_of a b d l h = let u = le-max_right a b in omega arith

max_within : (a b d l : ℕ) → d + a ≤ l → d + b ≤ l → d + max a b ≤ l
max_within a b d l p q =
    let x : a ≤ l - d = omega arith in
    let y : b ≤ l - d = omega arith in
    let z : max a b ≤ l - d = max-le x y in
    omega arith

one_more : (a d l : ℕ) → d + (a + 1) ≤ l → suc d + a ≤ l
one_more a d l h = omega arith

one_less : (a d l : ℕ) → d + (a + 1) ≤ l → d + a ≤ l
one_less a d l h = omega arith

-- ---- merged sequences
abbrev AllPosts : (l d : ℕ) → List PlacedTree → Type 0
AllPosts l d Ts = AllByRecursion (PostWithin l d) Ts

posts_append : (l d : ℕ) (Ts Us : List PlacedTree) → AllPosts l d Ts → AllPosts l d Us → AllPosts l d (Ts ++ Us)
posts_append l d [] Us a b = b
posts_append l d (T ∷ Ts) Us a b = (a.0, posts_append l d Ts Us a.1 b)

rest_posts : (l d : ℕ) (T : PlacedTree) → SeqWithin l d T → AllPosts l d (parts_of_seq T)
rest_posts l d (Empty_at p) h = tt
rest_posts l d (Text_at p) h = (h, tt)
rest_posts l d (Words_at p w) h = (h, tt)
rest_posts l d (Name_at p x) h = (h, tt)
rest_posts l d (Elem_at p c T) h = (h, tt)
rest_posts l d (Seq_at p T U) h = ((h.0.0, left_of (post_depth T) (seq_depth U) d l h.1), rest_posts l d U (h.0.1, right_of (post_depth T) (seq_depth U) d l h.1))
rest_posts l d (Alt_at p T U) h = (h, tt)
rest_posts l d (Star_at p T) h = (h, tt)
rest_posts l d (Plus_at p T) h = (h, tt)
rest_posts l d (Opt_at p T) h = (h, tt)
rest_posts l d (Val_at p x q T) h = absurd h.0

part_posts : (l d : ℕ) (T : PlacedTree) → PostWithin l d T → AllPosts l d (parts_of_seq T)
part_posts l d T h = rest_posts l d T (post_seq l d T h)

all_posts : (l d : ℕ) (Ts : List PlacedTree) → AllPosts l d Ts → AllPosts l d (flat_map parts_of_seq Ts)
all_posts l d [] h = tt
all_posts l d (T ∷ Ts) h = posts_append l d (parts_of_seq T) (flat_map parts_of_seq Ts) (part_posts l d T h.0) (all_posts l d Ts h.1)

placed_seq_within : (l d : ℕ) (p : Place) (T : PlacedTree) (Ts : List PlacedTree) → PostWithin l d T → AllPosts l d Ts → SeqWithin l d (placed_seq p (T ∷ Ts))
placed_seq_within l d p T [] h a = post_seq l d T h
placed_seq_within l d p T (U ∷ Us) h a =
    let r : SeqWithin l d (placed_seq (place_of U) (U ∷ Us)) = placed_seq_within l d (place_of U) U Us a.0 a.1 in
    ((h.0, r.0), max_within (post_depth T) (seq_depth (placed_seq (place_of U) (U ∷ Us))) d l h.1 r.1)

pub cons_not_nil : (T : PlacedTree) (Ts : List PlacedTree) → T ∷ Ts ≡ [] → ⊥
cons_not_nil T Ts e = cc

-- where nothing is left, the first part was empty
empty_first : (l d : ℕ) (T : PlacedTree) (Us : List PlacedTree) → PostWithin l d T → parts_of_seq T ++ Us ≡ [] → d + 1 ≤ l
empty_first l d (Empty_at p) Us h e = h.1
empty_first l d (Text_at p) Us h e = absurd (cons_not_nil _ _ e)
empty_first l d (Words_at p w) Us h e = absurd (cons_not_nil _ _ e)
empty_first l d (Name_at p x) Us h e = absurd (cons_not_nil _ _ e)
empty_first l d (Elem_at p c T) Us h e = absurd (cons_not_nil _ _ e)
empty_first l d (Seq_at p T U) Us h e = absurd (cons_not_nil _ _ e)
empty_first l d (Alt_at p T U) Us h e = absurd (cons_not_nil _ _ e)
empty_first l d (Star_at p T) Us h e = absurd (cons_not_nil _ _ e)
empty_first l d (Plus_at p T) Us h e = absurd (cons_not_nil _ _ e)
empty_first l d (Opt_at p T) Us h e = absurd (cons_not_nil _ _ e)
empty_first l d (Val_at p x q T) Us h e = absurd h.0

merged_within : (l d : ℕ) (p : Place) (Ts : List PlacedTree) → (Ts ≡ [] → d + 1 ≤ l) → AllPosts l d Ts → SeqWithin l d (merged_seq p Ts)
merged_within l d p [] e a = (tt, e refl)
merged_within l d p (T ∷ Ts) e a = placed_seq_within l d (place_of T) T Ts a.0 a.1

pub sequence_within : (l d : ℕ) (T : PlacedTree) (Ts : List PlacedTree) → PostWithin l d T → AllPosts l d Ts → SeqWithin l d (sequence T Ts)
sequence_within l d T [] h a = post_seq l d T h
sequence_within l d T (U ∷ Us) h a = merged_within l d (place_of T) (flat_map parts_of_seq (T ∷ (U ∷ Us))) (λ e. empty_first l d T (flat_map parts_of_seq (U ∷ Us)) h e) (all_posts l d (T ∷ (U ∷ Us)) (h, a))

-- ---- merged alternatives
abbrev AllSeqs : (l d : ℕ) → List PlacedTree → Type 0
AllSeqs l d Ts = AllByRecursion (SeqWithin l d) Ts

seqs_append : (l d : ℕ) (Ts Us : List PlacedTree) → AllSeqs l d Ts → AllSeqs l d Us → AllSeqs l d (Ts ++ Us)
seqs_append l d [] Us a b = b
seqs_append l d (T ∷ Ts) Us a b = (a.0, seqs_append l d Ts Us a.1 b)

rest_seqs : (l d : ℕ) (T : PlacedTree) → AnyWithin l d T → AllSeqs l d (parts_of_alt T)
rest_seqs l d (Empty_at p) h = (h, tt)
rest_seqs l d (Text_at p) h = (h, tt)
rest_seqs l d (Words_at p w) h = (h, tt)
rest_seqs l d (Name_at p x) h = (h, tt)
rest_seqs l d (Elem_at p c T) h = (h, tt)
rest_seqs l d (Seq_at p T U) h = (h, tt)
rest_seqs l d (Alt_at p T U) h = ((h.0.0, left_of (seq_depth T) (any_depth U) d l h.1), rest_seqs l d U (h.0.1, right_of (seq_depth T) (any_depth U) d l h.1))
rest_seqs l d (Star_at p T) h = (h, tt)
rest_seqs l d (Plus_at p T) h = (h, tt)
rest_seqs l d (Opt_at p T) h = (h, tt)
rest_seqs l d (Val_at p x q T) h = absurd h.0

all_seqs : (l d : ℕ) (Ts : List PlacedTree) → AllSeqs l d Ts → AllSeqs l d (flat_map parts_of_alt Ts)
all_seqs l d [] h = tt
all_seqs l d (T ∷ Ts) h = seqs_append l d (parts_of_alt T) (flat_map parts_of_alt Ts) (rest_seqs l d T (seq_any l d T h.0)) (all_seqs l d Ts h.1)

placed_alt_within : (l d : ℕ) (p : Place) (T : PlacedTree) (Ts : List PlacedTree) → SeqWithin l d T → AllSeqs l d Ts → AnyWithin l d (placed_alt p (T ∷ Ts))
placed_alt_within l d p T [] h a = seq_any l d T h
placed_alt_within l d p T (U ∷ Us) h a =
    let r : AnyWithin l d (placed_alt (place_of U) (U ∷ Us)) = placed_alt_within l d (place_of U) U Us a.0 a.1 in
    ((h.0, r.0), max_within (seq_depth T) (any_depth (placed_alt (place_of U) (U ∷ Us))) d l h.1 r.1)

pub some_branch : (T : PlacedTree) (Us : List PlacedTree) → parts_of_alt T ++ Us ≡ [] → ⊥
some_branch (Empty_at p) Us e = cons_not_nil _ _ e
some_branch (Text_at p) Us e = cons_not_nil _ _ e
some_branch (Words_at p w) Us e = cons_not_nil _ _ e
some_branch (Name_at p x) Us e = cons_not_nil _ _ e
some_branch (Elem_at p c T) Us e = cons_not_nil _ _ e
some_branch (Seq_at p T U) Us e = cons_not_nil _ _ e
some_branch (Alt_at p T U) Us e = cons_not_nil _ _ e
some_branch (Star_at p T) Us e = cons_not_nil _ _ e
some_branch (Plus_at p T) Us e = cons_not_nil _ _ e
some_branch (Opt_at p T) Us e = cons_not_nil _ _ e
some_branch (Val_at p x q T) Us e = cons_not_nil _ _ e

branches_within : (l d : ℕ) (p : Place) (Ts : List PlacedTree) → (Ts ≡ [] → ⊥) → AllSeqs l d Ts → AnyWithin l d (placed_alt p Ts)
branches_within l d p [] e a = absurd (e refl)
branches_within l d p (T ∷ Ts) e a = placed_alt_within l d p T Ts a.0 a.1

pub alternative_within : (l d : ℕ) (T : PlacedTree) (Ts : List PlacedTree) → SeqWithin l d T → AllSeqs l d Ts → AnyWithin l d (alternative T Ts)
alternative_within l d T [] h a = seq_any l d T h
alternative_within l d T (U ∷ Us) h a = branches_within l d (place_of T) (flat_map parts_of_alt (T ∷ (U ∷ Us))) (λ e. some_branch T (flat_map parts_of_alt (U ∷ Us)) e) (all_seqs l d (T ∷ (U ∷ Us)) (h, a))

pub repeated_within : (l d : ℕ) (k : Terminal) (T : PlacedTree) → PrimWithin l d T → PostWithin l d (repeated k T)
repeated_within l d t.Star T h = h
repeated_within l d t.Plus T h = h
repeated_within l d k T h = h

pub named_within : (l d : ℕ) (x : List ℕ) (p : Place) → d ≤ l → PrimWithin l d (named_type x p)
named_within l d x p h = go (bytes_eq string_word x)
  where
    go : (b : Bool) → PrimWithin l d (cond b (Text_at p) (Name_at p x))
    go true = (tt, omega arith)
    go false = (tt, omega arith)
