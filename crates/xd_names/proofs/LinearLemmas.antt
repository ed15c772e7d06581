-- Occurrences that aren't linear, part by part, for any lists with the same words.
use Rattle.std.proofs.Common.{◌≡◌, ℕ, ◌≤◌, arith, Bool, true, false, not, ◌&&◌, ◌||◌, List, [], ◌∷◌, ◌++◌, map, flat_map, length, take, drop, refl, ap, sym, ◌∙◌, subst, append-nil, append_assoc, take-append-drop}
use Rattle.std.specs.List.{filter, list_all, AllByRecursion}
use Rattle.std.specs.Str.{bytes_eq}
use Rattle.xd_base.specs.declared.Place.{Place}
use Rattle.xd_doc.proofs.Bools.{and_with_true}
use Rattle.xd_doc.proofs.SortedNames.{or_false}
use Rattle.xd_syntax.specs.Words.{has_word}
use Rattle.xd_syntax.specs.TreeForms.{is_alt}
use Rattle.xd_syntax.specs.Table.{Row, CanFollow, alt_form, IsAltPart, tree_at}
use Rattle.xd_syntax.specs.Placed.{PlacedTree, Empty_at, Text_at, Words_at, Name_at, Elem_at, Seq_at, Alt_at, Star_at, Plus_at, Opt_at, Val_at, place_of, placed_seq, placed_alt, unplaced, variables}
use Rattle.xd_syntax.specs.PlacedTable.{placed_at}
use Rattle.xd_syntax.specs.NameFaults.{in_each_branch, lacking_somewhere, without}
use Rattle.xd_syntax.specs.NotLinear.{not_linear}
use Rattle.xd_syntax.specs.declared.fault.Fault.{Fault}
use Rattle.xd_syntax.proofs.PlacedTrees.{unplaced_at}
use Rattle.xd_syntax.proofs.Trees.{tree_kept}
use Rattle.std.proofs.lemmas.List.{length-map}
use Rattle.std.proofs.lemmas.List.Folds.{list_all-map}
use Rattle.xd_syntax.proofs.NotLinear.{has_word_both}
use Rattle.xd_syntax.proofs.Words.{filter_at}
use Rattle.xd_names.proofs.TreeLemmas.{variables_alt}

-- the same words
abbrev pub Same : List (List ℕ) → List (List ℕ) → Type 0
Same xs ys = (w : List ℕ) → has_word xs w ≡ has_word ys w

pub has_word-filter : (p : List ℕ → Bool) (xs : List (List ℕ)) (w : List ℕ) → has_word (filter p xs) w ≡ (p w && has_word xs w)
has_word-filter p [] w = and_false (p w)
  where
    and_false : (b : Bool) → false ≡ (b && false)
    and_false true = refl
    and_false false = refl
has_word-filter p (x ∷ xs) w = filter_at p x w xs (has_word-filter p xs w) (p x) (bytes_eq x w) refl refl

pub has_word-without : (gone xs : List (List ℕ)) (w : List ℕ) → has_word (without gone xs) w ≡ (not (has_word gone w) && has_word xs w)
has_word-without gone xs w = has_word-filter (λ x. not (has_word gone x)) xs w

pub same_append : (xs ys zs : List (List ℕ)) → Same ys zs → Same (xs ++ ys) (xs ++ zs)
same_append xs ys zs h w = has_word_both xs ys w ∙ ap (λ b. has_word xs w || b) (h w) ∙ sym (has_word_both xs zs w)

pub same_without : (gone xs ys : List (List ℕ)) → Same xs ys → Same (without gone xs) (without gone ys)
same_without gone xs ys h w = has_word-without gone xs w ∙ ap (λ b. not (has_word gone w) && b) (h w) ∙ sym (has_word-without gone ys w)

-- what is looked up in the lists alone counts
pub not_linear-same : (r : Bool) (e f q s : List (List ℕ)) (inner : Bool) (T : PlacedTree) → Same e f → Same q s → not_linear r e q inner T ≡ not_linear r f s inner T
not_linear-same r e f q s inner (Empty_at p) h k = refl
not_linear-same r e f q s inner (Text_at p) h k = refl
not_linear-same r e f q s inner (Words_at p ts) h k = refl
not_linear-same r e f q s inner (Name_at p x) h k = refl
not_linear-same r e f q s inner (Elem_at p c T) h k = not_linear-same r e f q s false T h k
not_linear-same r e f q s inner (Seq_at p T U) h k =
    let a = not_linear-same r e f q s false T h k in
    let b = not_linear-same r (variables T ++ e) (variables T ++ f) (without (variables T) q) (without (variables T) s) false U (same_append (variables T) e f h) (same_without (variables T) q s k) in
    cc
not_linear-same r e f q s true (Alt_at p T U) h k =
    let a = not_linear-same r e f q s false T h k in
    let b = not_linear-same r e f (without (variables T) q) (without (variables T) s) true U h (same_without (variables T) q s k) in
    cc
not_linear-same r e f q s false (Alt_at p T U) h k =
    let l : List (List ℕ) = lacking_somewhere (Alt_at p T U) in
    let m : Same (l ++ q) (l ++ s) = same_append l q s k in
    let a = not_linear-same r e f (l ++ q) (l ++ s) false T h m in
    let b = not_linear-same r e f (without (variables T) (l ++ q)) (without (variables T) (l ++ s)) true U h (same_without (variables T) (l ++ q) (l ++ s) m) in
    cc
not_linear-same r e f q s inner (Star_at p T) h k = not_linear-same true e f q s false T h k
not_linear-same r e f q s inner (Plus_at p T) h k = not_linear-same true e f q s false T h k
not_linear-same r e f q s inner (Opt_at p T) h k = not_linear-same true e f q s false T h k
not_linear-same r e f q s inner (Val_at p x z T) h k =
    let a = not_linear-same r (x ∷ e) (x ∷ f) (without (x ∷ []) q) (without (x ∷ []) s) false T (same_append (x ∷ []) e f h) (same_without (x ∷ []) q s k) in
    let b : has_word e x ≡ has_word f x = h x in
    let c : has_word q x ≡ has_word s x = k x in
    cc

-- the parts of a sequence in turn
abbrev pub seq_faults : Bool → List (List ℕ) → List (List ℕ) → List PlacedTree → List Fault
seq_faults r e q [] = []
seq_faults r e q (t ∷ ts) = not_linear r e q false t ++ seq_faults r (variables t ++ e) (without (variables t) q) ts

pub seq_faults-same : (r : Bool) (e f q s : List (List ℕ)) (ts : List PlacedTree) → Same e f → Same q s → seq_faults r e q ts ≡ seq_faults r f s ts
seq_faults-same r e f q s [] h k = refl
seq_faults-same r e f q s (t ∷ ts) h k =
    let a = not_linear-same r e f q s false t h k in
    let b = seq_faults-same r (variables t ++ e) (variables t ++ f) (without (variables t) q) (without (variables t) s) ts (same_append (variables t) e f h) (same_without (variables t) q s k) in
    cc

pub not_linear-seq : (r : Bool) (e q : List (List ℕ)) (p : Place) (ts : List PlacedTree) → not_linear r e q false (placed_seq p ts) ≡ seq_faults r e q ts
not_linear-seq r e q p [] = refl
not_linear-seq r e q p (t ∷ []) = sym (append-nil (not_linear r e q false t))
not_linear-seq r e q p (t ∷ (u ∷ us)) = ap (λ fs. not_linear r e q false t ++ fs) (not_linear-seq r (variables t ++ e) (without (variables t) q) (place_of u) (u ∷ us))

-- the branches of an alternative in turn
abbrev pub alt_faults : Bool → List (List ℕ) → List (List ℕ) → List PlacedTree → List Fault
alt_faults r e q [] = []
alt_faults r e q (t ∷ ts) = not_linear r e q false t ++ alt_faults r e (without (variables t) q) ts

pub alt_faults-same : (r : Bool) (e f q s : List (List ℕ)) (ts : List PlacedTree) → Same e f → Same q s → alt_faults r e q ts ≡ alt_faults r f s ts
alt_faults-same r e f q s [] h k = refl
alt_faults-same r e f q s (t ∷ ts) h k =
    let a = not_linear-same r e f q s false t h k in
    let b = alt_faults-same r e f (without (variables t) q) (without (variables t) s) ts h (same_without (variables t) q s k) in
    cc

abbrev pub NotAlt : PlacedTree → Type 0
NotAlt t = is_alt (unplaced t) ≡ false

abbrev pub NoAlts : List PlacedTree → Type 0
NoAlts ts = AllByRecursion NotAlt ts

inner_any : (r : Bool) (e q : List (List ℕ)) (t : PlacedTree) → NotAlt t → not_linear r e q true t ≡ not_linear r e q false t
inner_any r e q (Empty_at p) n = refl
inner_any r e q (Text_at p) n = refl
inner_any r e q (Words_at p ts) n = refl
inner_any r e q (Name_at p x) n = refl
inner_any r e q (Elem_at p c T) n = refl
inner_any r e q (Seq_at p T U) n = refl
inner_any r e q (Alt_at p T U) n = absurd (cc)
inner_any r e q (Star_at p T) n = refl
inner_any r e q (Plus_at p T) n = refl
inner_any r e q (Opt_at p T) n = refl
inner_any r e q (Val_at p x z T) n = refl

not_linear-rest : (r : Bool) (e q : List (List ℕ)) (p : Place) (ts : List PlacedTree) → NoAlts ts → not_linear r e q true (placed_alt p ts) ≡ alt_faults r e q ts
not_linear-rest r e q p [] n = refl
not_linear-rest r e q p (t ∷ []) n = inner_any r e q t n.0 ∙ sym (append-nil (not_linear r e q false t))
not_linear-rest r e q p (t ∷ (u ∷ us)) n = ap (λ fs. not_linear r e q false t ++ fs) (not_linear-rest r e (without (variables t) q) (place_of u) (u ∷ us) n.1)

pub not_linear-alt : (r : Bool) (e q : List (List ℕ)) (p : Place) (ts : List PlacedTree) → 2 ≤ length ts → NoAlts ts →
    not_linear r e q false (placed_alt p ts) ≡ alt_faults r e (lacking_somewhere (placed_alt p ts) ++ q) ts
not_linear-alt r e q p [] l n = absurd (omega arith)
not_linear-alt r e q p (t ∷ []) l n = absurd (omega arith)
not_linear-alt r e q p (t ∷ (u ∷ us)) l n =
    let k : List (List ℕ) = lacking_somewhere (placed_alt p (t ∷ (u ∷ us))) ++ q in
    ap (λ fs. not_linear r e k false t ++ fs) (not_linear-rest r e (without (variables t) k) (place_of u) (u ∷ us) n.1)

in_one : (w : List ℕ) (t : PlacedTree) → NotAlt t → in_each_branch w t ≡ has_word (variables t) w
in_one w (Empty_at p) n = refl
in_one w (Text_at p) n = refl
in_one w (Words_at p ts) n = refl
in_one w (Name_at p x) n = refl
in_one w (Elem_at p c T) n = refl
in_one w (Seq_at p T U) n = refl
in_one w (Alt_at p T U) n = absurd (cc)
in_one w (Star_at p T) n = refl
in_one w (Plus_at p T) n = refl
in_one w (Opt_at p T) n = refl
in_one w (Val_at p x z T) n = refl

in_each : (w : List ℕ) (p : Place) (t : PlacedTree) (ts : List PlacedTree) → NoAlts (t ∷ ts) → in_each_branch w (placed_alt p (t ∷ ts)) ≡ list_all (λ u. has_word (variables u) w) (t ∷ ts)
in_each w p t [] n = in_one w t n.0 ∙ and_with_true (has_word (variables t) w)
in_each w p t (u ∷ us) n = ap (λ b. has_word (variables t) w && b) (in_each w (place_of u) u us n.1)

-- the words that some branch lacks
pub has_word-lacking : (w : List ℕ) (p : Place) (ts : List PlacedTree) → 2 ≤ length ts → NoAlts ts →
    has_word (lacking_somewhere (placed_alt p ts)) w ≡ (not (list_all (λ t. has_word (variables t) w) ts) && has_word (variables (placed_alt p ts)) w)
has_word-lacking w p [] l n = absurd (omega arith)
has_word-lacking w p (t ∷ ts) l n =
    has_word-filter (λ x. not (in_each_branch x (placed_alt p (t ∷ ts)))) (variables (placed_alt p (t ∷ ts))) w
    ∙ ap (λ b. not b && has_word (variables (placed_alt p (t ∷ ts))) w) (in_each w p t ts n)

-- the parts of an alternative's node are no alternatives
parts_no_alts : (rows : List Row) (n : ℕ) → n ≤ length rows → (is : List ℕ) → AllByRecursion (IsAltPart (take n rows)) is → NoAlts (map (placed_at rows) is)
parts_no_alts rows n h [] a = tt
parts_no_alts rows n h (i ∷ is) a =
    (subst (λ t. is_alt t ≡ false) (sym (unplaced_at rows i ∙ ap (λ rs. tree_at rs i) (sym (take-append-drop n rows)) ∙ tree_kept (take n rows) (drop n rows) i a.0.0)) a.0.1, parts_no_alts rows n h is a.1)

pub no_alts : (rows : List Row) (n : ℕ) (is : List ℕ) → n ≤ length rows → CanFollow true (take n rows) (alt_form is) → NoAlts (map (placed_at rows) is)
no_alts rows n is h a = parts_no_alts rows n h is a.1

or_comm : (a b : Bool) → (a || b) ≡ (b || a)
or_comm true true = refl
or_comm true false = refl
or_comm false true = refl
or_comm false false = refl

none_of : (a b c : Bool) → (not a && (not b && c)) ≡ (not (b || a) && c)
none_of true true c = refl
none_of true false c = refl
none_of false true c = refl
none_of false false c = refl

-- words that are taken out in turn
pub partial_more : (vs rest p q : List (List ℕ)) (w : List ℕ) → has_word q w ≡ (not (has_word vs w) && has_word p w) →
    (not (has_word rest w) && has_word q w) ≡ (not (has_word (vs ++ rest) w) && has_word p w)
partial_more vs rest p q w h =
    ap (λ b. not (has_word rest w) && b) h ∙ none_of (has_word rest w) (has_word vs w) (has_word p w) ∙ ap (λ b. not b && has_word p w) (sym (has_word_both vs rest w))

pub partial_val : (x : List ℕ) (vs p q o : List (List ℕ)) (w : List ℕ) → has_word q w ≡ (not (bytes_eq x w) && has_word p w) → has_word o w ≡ (not (has_word vs w) && has_word q w) →
    has_word o w ≡ (not (has_word (x ∷ vs) w) && has_word p w)
partial_val x vs p q o w h k = k ∙ ap (λ b. not (has_word vs w) && b) h ∙ none_of (has_word vs w) (bytes_eq x w) (has_word p w)

pub same_turned : (e vs : List (List ℕ)) → Same (e ++ vs) (vs ++ e)
same_turned e vs w = has_word_both e vs w ∙ or_comm (has_word e w) (has_word vs w) ∙ sym (has_word_both vs e w)

pub val_faults : (r : Bool) (e p q : List (List ℕ)) (x : List ℕ) (T : PlacedTree) → ((w : List ℕ) → has_word q w ≡ (not (bytes_eq x w) && has_word p w)) →
    not_linear r (e ++ x ∷ []) q false T ≡ not_linear r (x ∷ e) (without (x ∷ []) p) false T
val_faults r e p q x T h = not_linear-same r (e ++ x ∷ []) (x ∷ e) q (without (x ∷ []) p) false T (same_turned e (x ∷ []))
    (λ w. h w ∙ ap (λ b. not b && has_word p w) (sym (or_false (bytes_eq x w))) ∙ sym (has_word-without (x ∷ []) p w))

pub seq_more : (r : Bool) (e p q : List (List ℕ)) (t : PlacedTree) (ts : List PlacedTree) (fs : List Fault) → ((w : List ℕ) → has_word q w ≡ (not (has_word (variables t) w) && has_word p w)) →
    (fs ++ not_linear r e p false t) ++ seq_faults r (e ++ variables t) q ts ≡ fs ++ seq_faults r e p (t ∷ ts)
seq_more r e p q t ts fs h =
    append_assoc fs (not_linear r e p false t) (seq_faults r (e ++ variables t) q ts)
    ∙ ap (λ gs. fs ++ (not_linear r e p false t ++ gs))
    (seq_faults-same r (e ++ variables t) (variables t ++ e) q (without (variables t) p) ts (same_turned e (variables t)) (λ w. h w ∙ sym (has_word-without (variables t) p w)))

pub alt_more : (r : Bool) (e p q : List (List ℕ)) (t : PlacedTree) (ts : List PlacedTree) (fs : List Fault) → ((w : List ℕ) → has_word q w ≡ (not (has_word (variables t) w) && has_word p w)) →
    (fs ++ not_linear r e p false t) ++ alt_faults r e q ts ≡ fs ++ alt_faults r e p (t ∷ ts)
alt_more r e p q t ts fs h =
    append_assoc fs (not_linear r e p false t) (alt_faults r e q ts)
    ∙ ap (λ gs. fs ++ (not_linear r e p false t ++ gs)) (alt_faults-same r e e q (without (variables t) p) ts (λ w. refl) (λ w. h w ∙ sym (has_word-without (variables t) p w)))

-- what an alternative takes out of the words that it added to
pub partial_alt : (l f : Bool) (p q o : Bool) → q ≡ (p || (not l && f)) → o ≡ (not f && q) → o ≡ (not f && p)
partial_alt l true p q o h k = k
partial_alt true false p q o h k = k ∙ h ∙ or_false p
partial_alt false false p q o h k = k ∙ h ∙ or_false p

-- the faults of an alternative, where q are the words p and those that some branch lacks
pub alt_all : (r : Bool) (e p q : List (List ℕ)) (t : ℕ → PlacedTree) (pl : Place) (is : List ℕ) → 2 ≤ length is → NoAlts (map t is) →
    ((w : List ℕ) → has_word q w ≡ (has_word p w || (not (list_all (λ i. has_word (variables (t i)) w) is) && has_word (flat_map (λ i. variables (t i)) is) w))) →
    alt_faults r e q (map t is) ≡ not_linear r e p false (placed_alt pl (map t is))
alt_all r e p q t pl is l n h =
    let two : 2 ≤ length (map t is) = omega (arith, length-map is t) in
    alt_faults-same r e e q (lacking_somewhere (placed_alt pl (map t is)) ++ p) (map t is) (λ w. refl)
    (λ w. h w
    ∙ or_comm (has_word p w) (not (list_all (λ i. has_word (variables (t i)) w) is) && has_word (flat_map (λ i. variables (t i)) is) w)
    ∙ ap (λ b. b || has_word p w)
    (ap (λ b. not b && has_word (flat_map (λ i. variables (t i)) is) w) (sym (list_all-map (λ u. has_word (variables u) w) t is))
    ∙ ap (λ vs. not (list_all (λ u. has_word (variables u) w) (map t is)) && has_word vs w) (sym (variables_alt t pl is))
    ∙ sym (has_word-lacking w pl (map t is) two n))
    ∙ sym (has_word_both (lacking_somewhere (placed_alt pl (map t is))) p w))
    ∙ sym (not_linear-alt r e p pl (map t is) two n)

-- words that are in every branch are no branch's lack
pub lacked : (a f : Bool) → (not (a && f) && f) ≡ (not a && f)
lacked true true = refl
lacked true false = refl
lacked false true = refl
lacked false false = refl
