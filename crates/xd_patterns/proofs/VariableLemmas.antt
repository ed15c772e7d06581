-- The variables of patterns, and lists of them.
use Rattle.std.proofs.Common.{◌≡◌, ℕ, zero, suc, ◌+◌, ◌<◌, ◌≤◌, ◌&&◌, ◌||◌, not, nat_eq, cond, arith, Bool, true, false, Bor, length, drop, get_or, List, [], ◌∷◌, ◌++◌, map, flat_map, filter, Option, Some, None, refl, ap, sym, subst, ◌∙◌, append-nil, append_assoc}
use Rattle.std.specs.Prelude.{if◌then◌else◌, nat_lt}
use Rattle.std.specs.List.{AllByRecursion, IsDistinct, list_any, slice_get, position_or_len}
use Rattle.std.specs.Str.{bytes_eq}
use Rattle.std.proofs.lemmas.Bool.Decides.{nat_tests}
use Rattle.std.proofs.lemmas.List.Folds.{flat_map-map}
use Rattle.xd_base.specs.declared.Place.{Place}
use Rattle.xd_doc.proofs.SortedNames.{or_false}
use Rattle.xd_doc.proofs.Bools.{or_assoc, and_false, or_true}
use Rattle.xd_doc.proofs.Numbers.{number_same, same_eq}
use Rattle.xd_doc.proofs.Lists.{drop_past, word_itself}
use Rattle.xd_syntax.specs.Words.{has_word}
use Rattle.xd_syntax.proofs.PlacedTrees.{variables_in_seq, variables_in_alt}
use Rattle.xd_meaning.specs.Bindings.{each_once, variables_of}
use Rattle.xd_syntax.specs.Tree.{Tree, occurrences}
use Rattle.xd_syntax.specs.NameFaults.{without}
use Rattle.xd_syntax.specs.Placed.{PlacedTree, variables}
use Rattle.xd_syntax.specs.PlacedTable.{placed_form, placed_at}
use Rattle.xd_syntax.specs.Table.{Row}
use Rattle.xd_syntax.specs.Nodes.{IsNode, form_parts, view_form}
use Rattle.xd_syntax.specs.declared.nodes.FormView.{FormView}
use Rattle.xd_syntax.specs.declared.nodes.FormView.TheVariants.{Empty, Text, Words, Name, Elem, Seq, Alt, Star, Plus, Opt, Val}
use Rattle.xd_laws.proofs.Unfoldings.{same_word_eq}
use Rattle.xd_continuations.specs.Chains.{list_at, lists_in}
use Rattle.xd_patterns.specs.Pieces.{form_at, variable_of}
use Rattle.xd_patterns.specs.Variables.{if_some, words_of, with_position, with_number, HasVariables, AreNumbered, numbers_in, put_each}
use Rattle.xd_patterns.specs.Compiling.{rows_in}
use Rattle.xd_patterns.specs.declared.variables.Numbers.{Numbers}
use Rattle.xd_patterns.specs.declared.compile.StateMarks.{StateMarks}
use Rattle.xd_continuations.specs.declared.links.Link.{Link}
use Rattle.xd_continuations.proofs.ChainLemmas.{list_none, lists-length}

-- occurrences

-- what is no variable has the variables of its parts
variables_of_parts : {I : Type 0} (at : I → ℕ) (t : ℕ → PlacedTree) (p : Place) (f : FormView I) → ((x : Bor (List ℕ)) (q : Place) (i : I) → f ≡ Val x q i → ⊥) →
    variables (placed_form t p (view_form at f)) ≡ flat_map (λ i. variables (t i)) (form_parts (view_form at f))
variables_of_parts at t p Empty other = refl
variables_of_parts at t p Text other = refl
variables_of_parts at t p (Words ws) other = refl
variables_of_parts at t p (Name w) other = refl
variables_of_parts at t p (Elem c i) other = sym (append-nil (variables (t (at i))))
variables_of_parts at t p (Seq is) other = variables_in_seq p (map t (map at is.now)) ∙ flat_map-map variables t (map at is.now)
variables_of_parts at t p (Alt is) other = variables_in_alt p (map t (map at is.now)) ∙ flat_map-map variables t (map at is.now)
variables_of_parts at t p (Star i) other = sym (append-nil (variables (t (at i))))
variables_of_parts at t p (Plus i) other = sym (append-nil (variables (t (at i))))
variables_of_parts at t p (Opt i) other = sym (append-nil (variables (t (at i))))
variables_of_parts at t p (Val x q i) other = absurd (other x q i refl)

-- the end of a walk over the parts of a node
pub variables_done : {I : Type 0} (at : I → ℕ) (b : Bool) (rows : List Row) (i : ℕ) (p : Place) (f : FormView I) (xs : List I) (n : ℕ) (made old : List (List ℕ)) →
    IsNode b rows i p (view_form at f) → map at xs ≡ form_parts (view_form at f) → ((x : Bor (List ℕ)) (q : Place) (j : I) → f ≡ Val x q j → ⊥) → length xs ≤ n →
    made ++ flat_map (λ j. variables (placed_at rows j)) (map at (drop n xs)) ≡ old ++ flat_map (λ j. variables (placed_at rows j)) (map at xs) →
    made ≡ old ++ variables (placed_at rows i)
variables_done at b rows i p f xs n made old node e other h loop =
    let d : drop n xs ≡ [] = drop_past xs n h in
    sym (append-nil made)
    ∙ ap (λ ys. made ++ flat_map (λ j. variables (placed_at rows j)) (map at ys)) (sym d)
    ∙ loop
    ∙ ap (λ vs. old ++ vs) (ap (flat_map (λ j. variables (placed_at rows j))) e
    ∙ sym (ap variables node.placed ∙ variables_of_parts at (placed_at rows) p f other))

-- words, each once

-- whether two words are equal, and then what is known of them
word_cases : (P : Bool → Bool → Type 0) (v w : List ℕ) → (v ≡ w → P true true) → P false false → P (bytes_eq v w) (bytes_eq w v)
word_cases P v w equal other = go (bytes_eq v w) (bytes_eq w v) refl refl
  where
    go : (a b : Bool) → bytes_eq v w ≡ a → bytes_eq w v ≡ b → P a b
    go true true e f = equal (same_word_eq v w e)
    go false false e f = other
    go true false e f = let s = same_word_eq v w e in let k : true ≡ false = sym (word_itself v) ∙ ap (λ x. bytes_eq x v) s ∙ f in cc
    go false true e f = let s = same_word_eq w v f in let k : true ≡ false = sym (word_itself w) ∙ ap (λ x. bytes_eq x w) s ∙ e in cc

turned : (v w : List ℕ) → bytes_eq v w ≡ bytes_eq w v
turned v w = word_cases (λ a b. a ≡ b) v w (λ e. refl) refl

pub any_is : (w : List ℕ) (ks : List (List ℕ)) → list_any (bytes_eq w) ks ≡ has_word ks w
any_is w [] = refl
any_is w (k ∷ ks) = ap (λ b. b || list_any (bytes_eq w) ks) (turned w k) ∙ ap (λ b. bytes_eq k w || b) (any_is w ks)

pub word_end : (ks : List (List ℕ)) (x w : List ℕ) → has_word (ks ++ x ∷ []) w ≡ (has_word ks w || bytes_eq x w)
word_end [] x w = or_none (bytes_eq x w)
  where
    or_none : (b : Bool) → (b || false) ≡ b
    or_none true = refl
    or_none false = refl
word_end (k ∷ ks) x w = ap (λ b. bytes_eq k w || b) (word_end ks x w) ∙ or_assoc (bytes_eq k w) (has_word ks w) (bytes_eq x w)
  where
    or_assoc : (a b c : Bool) → (a || (b || c)) ≡ ((a || b) || c)
    or_assoc true b c = refl
    or_assoc false b c = refl

filter_both : (p q r : List ℕ → Bool) (xs : List (List ℕ)) → ((x : List ℕ) → r x ≡ (q x && p x)) → filter p (filter q xs) ≡ filter r xs
filter_both p q r [] h = refl
filter_both p q r (x ∷ xs) h =
    go (q x) (filter_both p q r xs h) ∙ ap (λ b. cond b (x ∷ filter r xs) (filter r xs)) (sym (h x))
  where
    go : (b : Bool) → filter p (filter q xs) ≡ filter r xs → filter p (cond b (x ∷ filter q xs) (filter q xs)) ≡ cond (b && p x) (x ∷ filter r xs) (filter r xs)
    go true i = ap (λ z. cond (p x) (x ∷ z) z) i
    go false i = i

abbrev lacks : List (List ℕ) → List ℕ → Bool
lacks ks w = not (has_word ks w)

put_behind : (ks xs : List (List ℕ)) → put_each ks xs ≡ ks ++ filter (lacks ks) (each_once xs)
put_behind ks [] = sym (append-nil ks)
put_behind ks (x ∷ xs) = go (list_any (bytes_eq x) ks) (sym (any_is x ks)) (put_behind ks xs) (put_behind (ks ++ x ∷ []) xs)
  where
    rest : List (List ℕ)
    rest = filter (lacks ks) (without (x ∷ []) (each_once xs))

    -- a word that was put before is left out again
    again : has_word ks x ≡ true → (w : List ℕ) → lacks ks w ≡ (not (bytes_eq x w || false) && lacks ks w)
    again h w = word_cases (λ a b. lacks ks w ≡ (not (a || false) && lacks ks w)) x w (λ e. ap not (ap (has_word ks) (sym e) ∙ h)) refl

    more : (w : List ℕ) → lacks (ks ++ x ∷ []) w ≡ (not (bytes_eq x w || false) && lacks ks w)
    more w = ap not (word_end ks x w) ∙ both (has_word ks w) (bytes_eq x w)
      where
        both : (a b : Bool) → not (a || b) ≡ (not (b || false) && not a)
        both true true = refl
        both true false = refl
        both false true = refl
        both false false = refl

    go : (b : Bool) → has_word ks x ≡ b → put_each ks xs ≡ ks ++ filter (lacks ks) (each_once xs) → put_each (ks ++ x ∷ []) xs ≡ (ks ++ x ∷ []) ++ filter (lacks (ks ++ x ∷ [])) (each_once xs) →
        put_each (if b then ks else ks ++ x ∷ []) xs ≡ ks ++ filter (lacks ks) (x ∷ without (x ∷ []) (each_once xs))
    go true h i j = i ∙ ap (λ z. ks ++ z) (sym (filter_both (lacks ks) (λ w. not (has_word (x ∷ []) w)) (lacks ks) (each_once xs) (again h)) ∙ sym (ap (λ b. cond (not b) (x ∷ rest) rest) h))
    go false h i j =
        j ∙ append_assoc ks (x ∷ []) (filter (lacks (ks ++ x ∷ [])) (each_once xs))
        ∙ ap (λ z. ks ++ z) (ap (λ z. x ∷ z) (sym (filter_both (lacks ks) (λ w. not (has_word (x ∷ []) w)) (lacks (ks ++ x ∷ [])) (each_once xs) more)) ∙ sym (ap (λ b. cond (not b) (x ∷ rest) rest) h))

filter_all : (xs : List (List ℕ)) → filter (lacks []) xs ≡ xs
filter_all [] = refl
filter_all (x ∷ xs) = ap (λ z. x ∷ z) (filter_all xs)

pub puts_once : (xs : List (List ℕ)) → put_each [] xs ≡ each_once xs
puts_once xs = put_behind [] xs ∙ filter_all (each_once xs)

-- numbers of words

found_at : (p : List ℕ → Bool) (xs : List (List ℕ)) → position_or_len p xs < length xs → (w : List ℕ) × (slice_get xs (position_or_len p xs) ≡ Some w) × (p w ≡ true)
found_at p [] h = absurd (omega arith)
found_at p (x ∷ xs) h = go (p x) refl h (λ k. found_at p xs k)
  where
    go : (b : Bool) → p x ≡ b → cond (not b) (1 + position_or_len p xs) 0 < length (x ∷ xs) → (position_or_len p xs < length xs → (w : List ℕ) × (slice_get xs (position_or_len p xs) ≡ Some w) × (p w ≡ true)) →
        (w : List ℕ) × (slice_get (x ∷ xs) (cond (not b) (1 + position_or_len p xs) 0) ≡ Some w) × (p w ≡ true)
    go true q k rec = (x, refl, q)
    go false q k rec = let r = rec (omega arith) in let e : 1 + position_or_len p xs ≡ suc (position_or_len p xs) = omega arith in (r.0, ap (slice_get (x ∷ xs)) e ∙ r.1, r.2)

not_found : (p : List ℕ → Bool) (xs : List (List ℕ)) → length xs ≤ position_or_len p xs → list_any p xs ≡ false
not_found p [] e = refl
not_found p (x ∷ xs) e = go (p x) e (λ h. not_found p xs h)
  where
    go : (b : Bool) → length (x ∷ xs) ≤ cond (not b) (1 + position_or_len p xs) 0 → (length xs ≤ position_or_len p xs → list_any p xs ≡ false) → (b || list_any p xs) ≡ false
    go true h rec = absurd (omega arith)
    go false h rec = rec (omega arith)

words_push : (vs : List (List ℕ)) (ns : List ℕ) (i : ℕ) (w x : List ℕ) → slice_get vs i ≡ Some w → has_word (words_of vs (ns ++ i ∷ [])) x ≡ (has_word (words_of vs ns) x || bytes_eq w x)
words_push vs [] i w x g = ap (λ o. has_word (if_some o ++ []) x) g ∙ or_false (bytes_eq w x)
words_push vs (n ∷ ns) i w x g = go (slice_get vs n) (words_push vs ns i w x g)
  where
    go : (o : Option (List ℕ)) → has_word (words_of vs (ns ++ i ∷ [])) x ≡ (has_word (words_of vs ns) x || bytes_eq w x) →
        has_word (if_some o ++ words_of vs (ns ++ i ∷ [])) x ≡ (has_word (if_some o ++ words_of vs ns) x || bytes_eq w x)
    go None k = k
    go (Some v) k = ap (λ b. bytes_eq v x || b) k ∙ or_assoc (bytes_eq v x) (has_word (words_of vs ns) x) (bytes_eq w x)

words_have : (vs : List (List ℕ)) (ns : List ℕ) (i : ℕ) (w : List ℕ) → slice_get vs i ≡ Some w → list_any (λ n. nat_eq n i) ns ≡ true → has_word (words_of vs ns) w ≡ true
words_have vs [] i w g e = cc
words_have vs (n ∷ ns) i w g e = go (nat_eq n i) refl e (slice_get vs n) refl (λ h. words_have vs ns i w g h)
  where
    go : (b : Bool) → nat_eq n i ≡ b → (b || list_any (λ k. nat_eq k i) ns) ≡ true → (o : Option (List ℕ)) → slice_get vs n ≡ o → (list_any (λ k. nat_eq k i) ns ≡ true → has_word (words_of vs ns) w ≡ true) →
        has_word (if_some o ++ words_of vs ns) w ≡ true
    go true q h None s rec = let k : Some w ≡ None = sym g ∙ ap (slice_get vs) (number_same n i q) ∙ s in cc
    go true q h (Some v) s rec =
        let k : Some w ≡ Some v = sym g ∙ ap (slice_get vs) (number_same n i q) ∙ s in
        let z : w ≡ v = cc in ap (λ y. bytes_eq y w || has_word (words_of vs ns) w) (sym z) ∙ ap (λ b. b || has_word (words_of vs ns) w) (word_itself w)
    go false q h None s rec = rec h
    go false q h (Some v) s rec = ap (λ b. bytes_eq v w || b) (rec h) ∙ or_true (bytes_eq v w)

word_there : (vs : List (List ℕ)) (i : ℕ) (w : List ℕ) → slice_get vs i ≡ Some w → has_word vs w ≡ true
word_there [] i w e = cc
word_there (v ∷ vs) zero w e = let z : v ≡ w = cc in ap (λ y. bytes_eq y w || has_word vs w) z ∙ ap (λ b. b || has_word vs w) (word_itself w)
word_there (v ∷ vs) (suc i) w e = ap (λ b. bytes_eq v w || b) (word_there vs i w e) ∙ or_true (bytes_eq v w)

-- one variable more
pub numbered_more : (vs : List (List ℕ)) (ns : List ℕ) (w : List ℕ) (ws : List (List ℕ)) → ((x : List ℕ) → has_word (words_of vs ns) x ≡ (has_word vs x && has_word ws x)) →
    (x : List ℕ) → has_word (words_of vs (with_number vs ns w)) x ≡ (has_word vs x && has_word (w ∷ ws) x)
numbered_more vs ns w ws h x = go (nat_lt (position_or_len (bytes_eq w) vs) (length vs)) refl
  where
    found : (i : ℕ) → slice_get vs i ≡ Some w → (b : Bool) → list_any (λ n. nat_eq n i) ns ≡ b → has_word (words_of vs (if b then ns else ns ++ i ∷ [])) x ≡ (has_word vs x && (bytes_eq w x || has_word ws x))
    found i g true e =
        word_cases (λ a b. has_word (words_of vs ns) x ≡ (has_word vs x && (a || has_word ws x))) w x
        (λ q. subst (λ y. has_word (words_of vs ns) y ≡ (has_word vs y && true)) q (words_have vs ns i w g e ∙ sym (ap (λ b. b && true) (word_there vs i w g)))) (h x)
    found i g false e =
        words_push vs ns i w x g
        ∙ word_cases (λ a b. (has_word (words_of vs ns) x || a) ≡ (has_word vs x && (a || has_word ws x))) w x
        (λ q. or_true (has_word (words_of vs ns) x) ∙ sym (ap (λ b. b && true) (subst (λ y. has_word vs y ≡ true) q (word_there vs i w g)))) (or_false (has_word (words_of vs ns) x) ∙ h x)

    go : (t : Bool) → nat_lt (position_or_len (bytes_eq w) vs) (length vs) ≡ t →
        has_word (words_of vs (with_position ns (cond t (Some (position_or_len (bytes_eq w) vs)) None))) x ≡ (has_word vs x && (bytes_eq w x || has_word ws x))
    go false e =
        let f : has_word vs w ≡ false = sym (any_is w vs) ∙ not_found (bytes_eq w) vs (grind (arith, nat_tests)) in
        word_cases (λ a b. has_word (words_of vs ns) x ≡ (has_word vs x && (a || has_word ws x))) w x
        (λ q. let z = subst (λ y. has_word vs y ≡ false) q f in h x ∙ ap (λ b. b && has_word ws x) z ∙ sym (ap (λ b. b && true) z)) (h x)
    go true e =
        let r = found_at (bytes_eq w) vs (grind (arith, nat_tests)) in
        let i = position_or_len (bytes_eq w) vs in
        found i (r.1 ∙ ap Some (sym (same_word_eq w r.0 r.2))) (list_any (λ n. nat_eq n i) ns) refl

-- lists of binders, one after the other

pub numbered_none : (patterns : List Row) (vs : List (List ℕ)) (marks : List (Link ℕ)) → AreNumbered patterns vs marks 1 ([] ∷ [])
numbered_none patterns vs marks = record { count = refl; have = λ n h x. go n x h }
  where
    go : (n : ℕ) (x : List ℕ) → n < 1 → has_word (words_of vs (get_or ([] ∷ []) n [])) x ≡ (has_word vs x && has_word (map (λ i. variable_of (form_at patterns i)) (list_at marks n)) x)
    go zero x h = sym (ap (λ K. has_word vs x && has_word (map (λ i. variable_of (form_at patterns i)) K) x) (list_none marks) ∙ and_false (has_word vs x))
    go (suc n) x h = absurd (omega arith)

get_front : (ls : List (List ℕ)) (l : List ℕ) (n : ℕ) → n < length ls → get_or (ls ++ l ∷ []) n [] ≡ get_or ls n []
get_front [] l n h = absurd (omega arith)
get_front (k ∷ ls) l zero h = refl
get_front (k ∷ ls) l (suc n) h = get_front ls l n (omega arith)

get_last : (ls : List (List ℕ)) (l : List ℕ) (n : ℕ) → n ≡ length ls → get_or (ls ++ l ∷ []) n [] ≡ l
get_last [] l zero h = refl
get_last [] l (suc n) h = absurd (omega arith)
get_last (k ∷ ls) l zero h = absurd (omega arith)
get_last (k ∷ ls) l (suc n) h = get_last ls l n (omega arith)

pub one_more : (ls : List (List ℕ)) (l : List ℕ) → length (ls ++ l ∷ []) ≡ length ls + 1
one_more [] l = refl
one_more (k ∷ ls) l = let i = one_more ls l in omega arith

pub numbered_next : (patterns : List Row) (vs : List (List ℕ)) (marks : List (Link ℕ)) (n : ℕ) (ls : List (List ℕ)) (k : Link ℕ) (l : List ℕ) → AreNumbered patterns vs marks n ls → k.behind < n → list_at marks n ≡ k.item ∷ list_at marks k.behind →
    l ≡ with_number vs (get_or ls k.behind []) (variable_of (form_at patterns k.item)) → AreNumbered patterns vs marks (n + 1) (ls ++ l ∷ [])
numbered_next patterns vs marks n ls k l a b list e = record { count = let c = a.count in let o = one_more ls l in omega arith; have = λ i h. go i (nat_eq i n) refl h }
  where
    go : (i : ℕ) (t : Bool) → nat_eq i n ≡ t → i < n + 1 → HasVariables patterns vs marks i (get_or (ls ++ l ∷ []) i [])
    go i true q h =
        let s : n ≡ i = number_same i n q in
        let c = a.count in
        subst (λ j. HasVariables patterns vs marks j (get_or (ls ++ l ∷ []) j [])) s
        (subst (HasVariables patterns vs marks n) (sym (get_last ls l n (omega arith)))
        (subst (HasVariables patterns vs marks n) (sym e)
        (λ x. numbered_more vs (get_or ls k.behind []) (variable_of (form_at patterns k.item)) (map (λ j. variable_of (form_at patterns j)) (list_at marks k.behind)) (a.have k.behind b) x
        ∙ ap (λ K. has_word vs x && has_word (map (λ j. variable_of (form_at patterns j)) K) x) (sym list))))
    go i false q h =
        let c = a.count in
        let d : i < n = grind (arith, nat_tests) in
        subst (HasVariables patterns vs marks i) (sym (get_front ls l i (omega arith))) (a.have i d)

get_past : (ls : List (List ℕ)) (n : ℕ) → length ls ≤ n → get_or ls n [] ≡ []
get_past [] n h = refl
get_past (l ∷ ls) zero h = absurd (omega arith)
get_past (l ∷ ls) (suc n) h = get_past ls n (omega arith)

list_past : (m : List (Link ℕ)) (n : ℕ) → length m + 1 ≤ n → list_at m n ≡ []
unfolding list_at
list_past m n h = nothing (lists_in m) n (let e = lists-length ([] ∷ []) m in omega arith)
  where
    nothing : (Ks : List (List ℕ)) (n : ℕ) → length Ks ≤ n → get_or Ks n [] ≡ []
    nothing Ks n k = get_past Ks n k

pub numbered_all : (patterns : List Row) (vs : List (List ℕ)) (marks : List (Link ℕ)) (ls : List (List ℕ)) → AreNumbered patterns vs marks (length marks + 1) ls → (n : ℕ) → HasVariables patterns vs marks n (get_or ls n [])
numbered_all patterns vs marks ls a n x = go (nat_lt n (length marks + 1)) refl
  where
    go : (b : Bool) → nat_lt n (length marks + 1) ≡ b → has_word (words_of vs (get_or ls n [])) x ≡ (has_word vs x && has_word (map (λ i. variable_of (form_at patterns i)) (list_at marks n)) x)
    go true h = a.have n (grind (arith, nat_tests)) x
    go false h =
        let l : length marks + 1 ≤ n = grind (arith, nat_tests) in
        let c = a.count in
        ap (λ ns. has_word (words_of vs ns) x) (get_past ls n (omega arith))
        ∙ sym (ap (λ K. has_word vs x && has_word (map (λ i. variable_of (form_at patterns i)) K) x) (list_past marks n l) ∙ and_false (has_word vs x))

-- the same words

pub put_has : (ks xs : List (List ℕ)) (x : List ℕ) → has_word (put_each ks xs) x ≡ (has_word ks x || has_word xs x)
put_has ks [] x = sym (or_false (has_word ks x))
put_has ks (w ∷ xs) x = go (list_any (bytes_eq w) ks) (sym (any_is w ks)) (put_has ks xs x) (put_has (ks ++ w ∷ []) xs x)
  where
    go : (b : Bool) → has_word ks w ≡ b → has_word (put_each ks xs) x ≡ (has_word ks x || has_word xs x) → has_word (put_each (ks ++ w ∷ []) xs) x ≡ (has_word (ks ++ w ∷ []) x || has_word xs x) →
        has_word (put_each (if b then ks else ks ++ w ∷ []) xs) x ≡ (has_word ks x || (bytes_eq w x || has_word xs x))
    go true h i j =
        word_cases (λ a b. has_word (put_each ks xs) x ≡ (has_word ks x || (a || has_word xs x))) w x
        (λ q. let z = subst (λ y. has_word ks y ≡ true) q h in i ∙ ap (λ b. b || has_word xs x) z ∙ sym (ap (λ b. b || true) z)) i
    go false h i j = j ∙ ap (λ b. b || has_word xs x) (word_end ks w x) ∙ sym (or_assoc (has_word ks x) (bytes_eq w x) (has_word xs x))

pub variables_have : (T : Tree) (x : List ℕ) → has_word (variables_of T) x ≡ has_word (occurrences T) x
variables_have T x = ap (λ ks. has_word ks x) (sym (puts_once (occurrences T))) ∙ put_has [] (occurrences T) x

pub marks_kept : (patterns : List Row) (vs : List (List ℕ)) (m : List (Link ℕ)) (ls : List (List ℕ)) → AreNumbered patterns vs m (length m + 1) ls → (L : List ℕ) (n : ℕ) (x : List ℕ) →
    has_word (get_or (map (λ l. words_of vs (get_or ls l [])) L) n []) x ≡ (has_word vs x && has_word (get_or (map (λ l. map (λ i. variable_of (form_at patterns i)) (list_at m l)) L) n []) x)
marks_kept patterns vs m ls a [] n x = sym (and_false (has_word vs x))
marks_kept patterns vs m ls a (l ∷ L) zero x = numbered_all patterns vs m ls a l x
marks_kept patterns vs m ls a (l ∷ L) (suc n) x = marks_kept patterns vs m ls a L n x

-- numbers of distinct words

all_at : (P : List ℕ → Type 0) (vs : List (List ℕ)) → AllByRecursion P vs → (v : ℕ) → v < length vs → P (get_or vs v [])
all_at P [] a v h = absurd (omega arith)
all_at P (x ∷ xs) a zero h = a.0
all_at P (x ∷ xs) a (suc v) h = all_at P xs a.1 v (omega arith)

all_got : (P : List ℕ → Type 0) (vs : List (List ℕ)) → AllByRecursion P vs → (n : ℕ) (w : List ℕ) → slice_get vs n ≡ Some w → P w
all_got P [] a n w e = cc
all_got P (x ∷ xs) a zero w e = let z : x ≡ w = cc in subst P z a.0
all_got P (x ∷ xs) a (suc n) w e = all_got P xs a.1 n w e

distinct_words : (vs : List (List ℕ)) → IsDistinct bytes_eq vs → (n v : ℕ) (w : List ℕ) → v < length vs → slice_get vs n ≡ Some w →
    (n ≡ v → bytes_eq w (get_or vs v []) ≡ true) × ((n ≡ v → ⊥) → bytes_eq w (get_or vs v []) ≡ false)
unfolding IsDistinct
distinct_words [] d n v w h e = cc
distinct_words (x ∷ xs) d zero zero w h e = let z : x ≡ w = cc in ((λ q. ap (bytes_eq w) z ∙ word_itself w), (λ q. absurd (q refl)))
distinct_words (x ∷ xs) d zero (suc v) w h e =
    let z : x ≡ w = cc in ((λ q. absurd (omega arith)), (λ q. ap (λ y. bytes_eq y (get_or xs v [])) (sym z) ∙ all_at (λ y. bytes_eq x y ≡ false) xs d.0 v (omega arith)))
distinct_words (x ∷ xs) d (suc n) zero w h e = ((λ q. absurd (omega arith)), (λ q. turned w x ∙ all_got (λ y. bytes_eq x y ≡ false) xs d.0 n w e))
distinct_words (x ∷ xs) d (suc n) (suc v) w h e = let r = distinct_words xs d.1 n v w (omega arith) e in ((λ q. r.0 (omega arith)), (λ q. r.1 (λ k. q (omega arith))))

past_get : (vs : List (List ℕ)) (n : ℕ) → slice_get vs n ≡ None → length vs ≤ n
past_get [] n e = omega arith
past_get (x ∷ xs) zero e = cc
past_get (x ∷ xs) (suc n) e = let h = past_get xs n e in omega arith

pub number_held : (vs : List (List ℕ)) → IsDistinct bytes_eq vs → (v : ℕ) → v < length vs → (ns : List ℕ) → list_any (λ n. nat_eq n v) ns ≡ has_word (words_of vs ns) (get_or vs v [])
number_held vs d v h [] = refl
number_held vs d v h (n ∷ ns) = go (slice_get vs n) refl (nat_eq n v) refl (number_held vs d v h ns)
  where
    go : (o : Option (List ℕ)) → slice_get vs n ≡ o → (b : Bool) → nat_eq n v ≡ b → list_any (λ k. nat_eq k v) ns ≡ has_word (words_of vs ns) (get_or vs v []) →
        (b || list_any (λ k. nat_eq k v) ns) ≡ has_word (if_some o ++ words_of vs ns) (get_or vs v [])
    go None e true q i = let l = past_get vs n e in let s = number_same n v q in absurd (omega arith)
    go None e false q i = i
    go (Some w) e true q i = sym (ap (λ b. b || has_word (words_of vs ns) (get_or vs v [])) ((distinct_words vs d n v w h e).0 (sym (number_same n v q))))
    go (Some w) e false q i =
        let f : n ≡ v → ⊥ = λ k. (let z : false ≡ true = sym q ∙ ap (λ m. nat_eq m v) k ∙ same_eq v in cc) in
        i ∙ sym (ap (λ b. b || has_word (words_of vs ns) (get_or vs v [])) ((distinct_words vs d n v w h e).1 f))

pub numbers_push : (ls : List Numbers) (l : Numbers) → numbers_in (ls ++ l ∷ []) ≡ numbers_in ls ++ l.list.items ∷ []
numbers_push [] l = refl
numbers_push (k ∷ ls) l = ap (λ z. k.list.items ∷ z) (numbers_push ls l)

pub number_got : (ls : List Numbers) (n : ℕ) (d : Numbers) → n < length ls → get_or (numbers_in ls) n [] ≡ (get_or ls n d).list.items
number_got [] n d h = absurd (omega arith)
number_got (l ∷ ls) zero d h = refl
number_got (l ∷ ls) (suc n) d h = number_got ls n d (omega arith)

-- rows of lists

pub row_got : (rs : List StateMarks) (i : ℕ) (d : StateMarks) → i < length rs → get_or (rows_in rs) i ([], []) ≡ ((get_or rs i d).texts.items, (get_or rs i d).labels.items)
row_got [] i d h = absurd (omega arith)
row_got (x ∷ rs) zero d h = refl
row_got (x ∷ rs) (suc i) d h = row_got rs i d (omega arith)

pub no_row : (rs : List StateMarks) (i : ℕ) → length rs ≤ i → get_or (rows_in rs) i ([], []) ≡ ([], [])
no_row [] i h = refl
no_row (x ∷ rs) zero h = absurd (omega arith)
no_row (x ∷ rs) (suc i) h = no_row rs i (omega arith)

pub mark_at : (F : ℕ → List (List ℕ)) (L : List ℕ) (n d : ℕ) → n < length L → get_or (map F L) n [] ≡ F (get_or L n d)
mark_at F [] n d h = absurd (omega arith)
mark_at F (l ∷ L) zero d h = refl
mark_at F (l ∷ L) (suc n) d h = mark_at F L n d (omega arith)

pub no_mark : (F : ℕ → List (List ℕ)) (L : List ℕ) (n : ℕ) → length L ≤ n → get_or (map F L) n [] ≡ []
no_mark F [] n h = refl
no_mark F (l ∷ L) zero h = absurd (omega arith)
no_mark F (l ∷ L) (suc n) h = no_mark F L n (omega arith)

pub no_numbers : (ls : List Numbers) (n : ℕ) → length ls ≤ n → get_or (numbers_in ls) n [] ≡ []
no_numbers [] n h = refl
no_numbers (l ∷ ls) zero h = absurd (omega arith)
no_numbers (l ∷ ls) (suc n) h = no_numbers ls n (omega arith)

pub new_state : (base : ℕ) (xs : List ℕ) (s : ℕ) → base ≤ s → cond (nat_lt s base) [] xs ≡ xs
new_state base xs s h = let e : nat_lt s base ≡ false = grind (arith, nat_tests) in ap (λ b. cond b [] xs) e
