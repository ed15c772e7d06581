-- Occurrences of variables in patterns, and the first ones.
use Rattle.std.proofs.Common.{◌≡◌, ℕ, ◌&&◌, ◌||◌, not, cond, Bool, true, false, Bor, List, [], ◌∷◌, ◌++◌, map, flat_map, filter, refl, ap, sym, ◌∙◌, append-nil, append_assoc}
use Rattle.std.specs.Str.{bytes_eq}
use Rattle.std.proofs.lemmas.List.{map-append}
use Rattle.std.proofs.lemmas.List.Folds.{flat_map-map}
use Rattle.xd_base.specs.declared.Place.{Place}
use Rattle.xd_syntax.specs.Words.{has_word}
use Rattle.xd_syntax.specs.Tree.{occurrences}
use Rattle.xd_syntax.specs.NameFaults.{without, Spot}
use Rattle.xd_syntax.specs.Placed.{PlacedTree, Empty_at, Text_at, Words_at, Name_at, Elem_at, Seq_at, Alt_at, Star_at, Plus_at, Opt_at, Val_at, place_of, placed_alt, placed_seq, unplaced}
use Rattle.xd_syntax.specs.PlacedTable.{placed_at, placed_form}
use Rattle.xd_syntax.specs.Matches.{first_spots, variable_spots}
use Rattle.xd_syntax.specs.Table.{Row}
use Rattle.xd_syntax.specs.Nodes.{IsNode, form_parts, view_form}
use Rattle.xd_syntax.specs.declared.nodes.FormView.{FormView}
use Rattle.xd_syntax.specs.declared.nodes.FormView.TheVariants.{Empty, Text, Words, Name, Elem, Seq, Alt, Star, Plus, Opt, Val}
use Rattle.xd_meaning.specs.Bindings.{each_once, variables_of}
use Rattle.xd_laws.proofs.Unfoldings.{same_word_eq}

variable_spots_seq : (p : Place) (ts : List PlacedTree) → variable_spots (placed_seq p ts) ≡ flat_map variable_spots ts
variable_spots_seq p [] = refl
variable_spots_seq p (t ∷ []) = sym (append-nil (variable_spots t))
variable_spots_seq p (t ∷ (u ∷ us)) = ap (λ xs. variable_spots t ++ xs) (variable_spots_seq (place_of u) (u ∷ us))

variable_spots_alt : (p : Place) (ts : List PlacedTree) → variable_spots (placed_alt p ts) ≡ flat_map variable_spots ts
variable_spots_alt p [] = refl
variable_spots_alt p (t ∷ []) = sym (append-nil (variable_spots t))
variable_spots_alt p (t ∷ (u ∷ us)) = ap (λ xs. variable_spots t ++ xs) (variable_spots_alt (place_of u) (u ∷ us))

-- what is no variable has the occurrences of its parts
spots_of_parts : {I : Type 0} (at : I → ℕ) (t : ℕ → PlacedTree) (p : Place) (f : FormView I) → ((x : Bor (List ℕ)) (q : Place) (i : I) → f ≡ Val x q i → ⊥) →
    variable_spots (placed_form t p (view_form at f)) ≡ flat_map (λ i. variable_spots (t i)) (form_parts (view_form at f))
spots_of_parts at t p Empty other = refl
spots_of_parts at t p Text other = refl
spots_of_parts at t p (Words ws) other = refl
spots_of_parts at t p (Name w) other = refl
spots_of_parts at t p (Elem c i) other = sym (append-nil (variable_spots (t (at i))))
spots_of_parts at t p (Seq is) other = variable_spots_seq p (map t (map at is.now)) ∙ flat_map-map variable_spots t (map at is.now)
spots_of_parts at t p (Alt is) other = variable_spots_alt p (map t (map at is.now)) ∙ flat_map-map variable_spots t (map at is.now)
spots_of_parts at t p (Star i) other = sym (append-nil (variable_spots (t (at i))))
spots_of_parts at t p (Plus i) other = sym (append-nil (variable_spots (t (at i))))
spots_of_parts at t p (Opt i) other = sym (append-nil (variable_spots (t (at i))))
spots_of_parts at t p (Val x q i) other = absurd (other x q i refl)

-- the end of a walk over the parts of a node, of which none is left
pub binders_done : {I : Type 0} (at : I → ℕ) (b : Bool) (rows : List Row) (i : ℕ) (p : Place) (f : FormView I) (xs left : List I) (made old : List Spot) → IsNode b rows i p (view_form at f) →
    map at xs ≡ form_parts (view_form at f) → ((x : Bor (List ℕ)) (q : Place) (j : I) → f ≡ Val x q j → ⊥) → left ≡ [] →
    made ++ flat_map (λ j. variable_spots (placed_at rows j)) (map at left) ≡ old ++ flat_map (λ j. variable_spots (placed_at rows j)) (map at xs) → made ≡ old ++ variable_spots (placed_at rows i)
binders_done at b rows i p f xs left made old node e other none loop =
    sym (append-nil made)
    ∙ ap (λ ys. made ++ flat_map (λ j. variable_spots (placed_at rows j)) (map at ys)) (sym none)
    ∙ loop
    ∙ ap (λ vs. old ++ vs) (ap (flat_map (λ j. variable_spots (placed_at rows j))) e ∙ sym (ap variable_spots node.placed ∙ spots_of_parts at (placed_at rows) p f other))

-- ---- the first ones, each of a word that wasn't seen

filter_both : {X : Type 0} (p q r : X → Bool) (xs : List X) → ((x : X) → r x ≡ (q x && p x)) → filter p (filter q xs) ≡ filter r xs
filter_both p q r [] h = refl
filter_both p q r (x ∷ xs) h = go (q x) (filter_both p q r xs h) ∙ ap (λ b. cond b (x ∷ filter r xs) (filter r xs)) (sym (h x))
  where
    go : (b : Bool) → filter p (filter q xs) ≡ filter r xs → filter p (cond b (x ∷ filter q xs) (filter q xs)) ≡ cond (b && p x) (x ∷ filter r xs) (filter r xs)
    go true i = ap (λ z. cond (p x) (x ∷ z) z) i
    go false i = i

abbrev lacks : List (List ℕ) → Spot → Bool
lacks ks o = not (has_word ks o.word)

-- the first occurrences, but for those of words that were seen
abbrev pub still_first : List (List ℕ) → List Spot → List Spot
still_first ks os = filter (lacks ks) (first_spots os)

filter_all : (os : List Spot) → filter (lacks []) os ≡ os
filter_all [] = refl
filter_all (o ∷ os) = ap (λ z. o ∷ z) (filter_all os)

pub first_begin : (os : List Spot) → still_first [] os ≡ first_spots os
first_begin os = filter_all (first_spots os)

abbrev differs : Spot → Spot → Bool
differs o p = not (bytes_eq o.word p.word)

seen_again : (ks : List (List ℕ)) (o p : Spot) → has_word ks o.word ≡ true → lacks ks p ≡ (differs o p && lacks ks p)
seen_again ks o p h = go (bytes_eq o.word p.word) refl
  where
    go : (b : Bool) → bytes_eq o.word p.word ≡ b → lacks ks p ≡ (not b && lacks ks p)
    go true e = ap (λ w. not (has_word ks w)) (sym (same_word_eq o.word p.word e)) ∙ ap not h
    go false e = refl

pub first_seen : (ks : List (List ℕ)) (o : Spot) (os : List Spot) → has_word ks o.word ≡ true → still_first ks (o ∷ os) ≡ still_first ks os
first_seen ks o os h =
    let fs = first_spots os in
    ap (λ b. cond (not b) (o ∷ filter (lacks ks) (filter (differs o) fs)) (filter (lacks ks) (filter (differs o) fs))) h
    ∙ filter_both (lacks ks) (differs o) (lacks ks) fs (λ p. seen_again ks o p h)

word_end : (ks : List (List ℕ)) (x w : List ℕ) → not (has_word (ks ++ x ∷ []) w) ≡ (not (bytes_eq x w) && not (has_word ks w))
word_end [] x w = go (bytes_eq x w)
  where
    go : (b : Bool) → not (b || false) ≡ (not b && true)
    go true = refl
    go false = refl
word_end (k ∷ ks) x w = go (bytes_eq k w) (word_end ks x w)
  where
    go : (b : Bool) → not (has_word (ks ++ x ∷ []) w) ≡ (not (bytes_eq x w) && not (has_word ks w)) → not (b || has_word (ks ++ x ∷ []) w) ≡ (not (bytes_eq x w) && not (b || has_word ks w))
    go false r = r
    go true r = never (bytes_eq x w)
      where
        never : (c : Bool) → false ≡ (not c && false)
        never true = refl
        never false = refl

pub first_new : (ks : List (List ℕ)) (o : Spot) (os : List Spot) → has_word ks o.word ≡ false → still_first ks (o ∷ os) ≡ o ∷ still_first (ks ++ o.word ∷ []) os
first_new ks o os h =
    let fs = first_spots os in
    ap (λ b. cond (not b) (o ∷ filter (lacks ks) (filter (differs o) fs)) (filter (lacks ks) (filter (differs o) fs))) h
    ∙ ap (λ z. o ∷ z) (filter_both (lacks ks) (differs o) (lacks (ks ++ o.word ∷ [])) fs (λ p. word_end ks o.word p.word))

-- ---- the words of the first ones are the variables of the pattern

abbrev pub words_of : List Spot → List (List ℕ)
words_of os = map (λ (o : Spot). o.word) os

words_left : (x : List ℕ) (os : List Spot) → words_of (filter (λ (p : Spot). not (bytes_eq x p.word)) os) ≡ without (x ∷ []) (words_of os)
words_left x [] = refl
words_left x (o ∷ os) = go (bytes_eq x o.word) (words_left x os)
  where
    rest : List Spot
    rest = filter (λ (p : Spot). not (bytes_eq x p.word)) os

    go : (b : Bool) → words_of rest ≡ without (x ∷ []) (words_of os) → words_of (cond (not b) (o ∷ rest) rest) ≡ cond (not (b || false)) (o.word ∷ without (x ∷ []) (words_of os)) (without (x ∷ []) (words_of os))
    go true r = r
    go false r = ap (λ ws. o.word ∷ ws) r

words_of_first : (os : List Spot) → words_of (first_spots os) ≡ each_once (words_of os)
words_of_first [] = refl
words_of_first (o ∷ os) = ap (λ ws. o.word ∷ ws) (words_left o.word (first_spots os) ∙ ap (without (o.word ∷ [])) (words_of_first os))

both_words : (T U : PlacedTree) → words_of (variable_spots T) ≡ occurrences (unplaced T) → words_of (variable_spots U) ≡ occurrences (unplaced U) →
    words_of (variable_spots T ++ variable_spots U) ≡ occurrences (unplaced T) ++ occurrences (unplaced U)
both_words T U h k = map-append (λ (o : Spot). o.word) (variable_spots T) (variable_spots U) ∙ ap (λ ws. ws ++ words_of (variable_spots U)) h ∙ ap (λ ws. occurrences (unplaced T) ++ ws) k

words_in : (T : PlacedTree) → words_of (variable_spots T) ≡ occurrences (unplaced T)
words_in (Empty_at p) = refl
words_in (Text_at p) = refl
words_in (Words_at p ws) = refl
words_in (Name_at p w) = refl
words_in (Elem_at p c T) = words_in T
words_in (Seq_at p T U) = both_words T U (words_in T) (words_in U)
words_in (Alt_at p T U) = both_words T U (words_in T) (words_in U)
words_in (Star_at p T) = words_in T
words_in (Plus_at p T) = words_in T
words_in (Opt_at p T) = words_in T
words_in (Val_at p x q T) = ap (λ ws. x ∷ ws) (words_in T)

pub first_words : (T : PlacedTree) → words_of (first_spots (variable_spots T)) ≡ variables_of (unplaced T)
first_words T = words_of_first (variable_spots T) ∙ ap each_once (words_in T)

-- one more occurrence is looked at
module _ (place : Spot → Place) where
  pub first_more : (ks us : List (List ℕ)) (ps qs all : List Place) (o : Spot) (os : List Spot) (new : Bool) → new ≡ not (has_word ks o.word) → us ≡ cond (has_word ks o.word) ks (ks ++ o.word ∷ []) →
      qs ≡ cond new (ps ++ place o ∷ []) ps → ps ++ map place (still_first ks (o ∷ os)) ≡ all → qs ++ map place (still_first us os) ≡ all
  first_more ks us ps qs all o os new e f g h =
      ap (λ ws. qs ++ map place (still_first ws os)) f ∙ ap (λ ws. ws ++ map place (still_first (cond (has_word ks o.word) ks (ks ++ o.word ∷ [])) os)) (g ∙ ap (λ b. cond b (ps ++ place o ∷ []) ps) e)
      ∙ go (has_word ks o.word) refl ∙ h
    where
      go : (b : Bool) → has_word ks o.word ≡ b → cond (not b) (ps ++ place o ∷ []) ps ++ map place (still_first (cond b ks (ks ++ o.word ∷ [])) os) ≡ ps ++ map place (still_first ks (o ∷ os))
      go true k = ap (λ fs. ps ++ map place fs) (sym (first_seen ks o os k))
      go false k = append_assoc ps (place o ∷ []) (map place (still_first (ks ++ o.word ∷ []) os)) ∙ ap (λ fs. ps ++ map place fs) (sym (first_new ks o os k))
