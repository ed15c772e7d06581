-- What is read from the nodes of lists of parts.
use Rattle.std.proofs.Common.{◌≡◌, ℕ, ◌+◌, ◌<◌, ◌≤◌, Bool, Bor, length, drop, get_or, append_assoc, subst, List, [], ◌∷◌, ◌++◌, map, flat_map, refl, ap, sym, ◌∙◌, append-nil}
use Rattle.std.proofs.lemmas.List.Folds.{flat_map-map}
use Rattle.std.specs.List.{AllByRecursion}
use Rattle.xd_base.specs.declared.Place.{Place}
use Rattle.xd_doc.proofs.Lists.{drop_past}
use Rattle.xd_syntax.specs.Placed.{PlacedTree, place_of, placed_seq, placed_alt, variables}
use Rattle.xd_syntax.specs.PlacedTable.{placed_form, placed_at}
use Rattle.xd_syntax.specs.Table.{Row}
use Rattle.xd_syntax.specs.declared.fault.Fault.{Fault}
use Rattle.xd_syntax.specs.Nodes.{IsNode, form_parts, view_form}
use Rattle.xd_syntax.specs.declared.nodes.FormView.{FormView}
use Rattle.xd_syntax.specs.declared.nodes.FormView.TheVariants.{Empty, Text, Words, Name, Elem, Seq, Alt, Star, Plus, Opt, Val}
use Rattle.xd_syntax.specs.NameFaults.{unknown_types}
use Rattle.xd_syntax.proofs.PlacedTrees.{variables_in_seq, variables_in_alt}
use Rattle.xd_names.proofs.WordLemmas.{drop_at, drop_item}

unknown_in_seq : (known : List (List ℕ)) (p : Place) (ts : List PlacedTree) → unknown_types known (placed_seq p ts) ≡ flat_map (unknown_types known) ts
unknown_in_seq known p [] = refl
unknown_in_seq known p (t ∷ []) = sym (append-nil (unknown_types known t))
unknown_in_seq known p (t ∷ (u ∷ us)) = ap (λ fs. unknown_types known t ++ fs) (unknown_in_seq known (place_of u) (u ∷ us))

unknown_in_alt : (known : List (List ℕ)) (p : Place) (ts : List PlacedTree) → unknown_types known (placed_alt p ts) ≡ flat_map (unknown_types known) ts
unknown_in_alt known p [] = refl
unknown_in_alt known p (t ∷ []) = sym (append-nil (unknown_types known t))
unknown_in_alt known p (t ∷ (u ∷ us)) = ap (λ fs. unknown_types known t ++ fs) (unknown_in_alt known (place_of u) (u ∷ us))

pub unknown_seq : (known : List (List ℕ)) (t : ℕ → PlacedTree) (p : Place) (is : List ℕ) → unknown_types known (placed_seq p (map t is)) ≡ flat_map (λ i. unknown_types known (t i)) is
unknown_seq known t p is = unknown_in_seq known p (map t is) ∙ flat_map-map (unknown_types known) t is

pub unknown_alt : (known : List (List ℕ)) (t : ℕ → PlacedTree) (p : Place) (is : List ℕ) → unknown_types known (placed_alt p (map t is)) ≡ flat_map (λ i. unknown_types known (t i)) is
unknown_alt known t p is = unknown_in_alt known p (map t is) ∙ flat_map-map (unknown_types known) t is

pub variables_seq : (t : ℕ → PlacedTree) (p : Place) (is : List ℕ) → variables (placed_seq p (map t is)) ≡ flat_map (λ i. variables (t i)) is
variables_seq t p is = variables_in_seq p (map t is) ∙ flat_map-map variables t is

pub variables_alt : (t : ℕ → PlacedTree) (p : Place) (is : List ℕ) → variables (placed_alt p (map t is)) ≡ flat_map (λ i. variables (t i)) is
variables_alt t p is = variables_in_alt p (map t is) ∙ flat_map-map variables t is

-- what is no name uses what its parts use
pub unknown_of_parts : {I : Type 0} (at : I → ℕ) (known : List (List ℕ)) (t : ℕ → PlacedTree) (p : Place) (f : FormView I) → ((w : Bor (List ℕ)) → f ≡ Name w → ⊥) →
    unknown_types known (placed_form t p (view_form at f)) ≡ flat_map (λ i. unknown_types known (t i)) (form_parts (view_form at f))
unknown_of_parts at known t p Empty other = refl
unknown_of_parts at known t p Text other = refl
unknown_of_parts at known t p (Words ws) other = refl
unknown_of_parts at known t p (Name w) other = absurd (other w refl)
unknown_of_parts at known t p (Elem c i) other = sym (append-nil (unknown_types known (t (at i))))
unknown_of_parts at known t p (Seq is) other = unknown_seq known t p (map at is.now)
unknown_of_parts at known t p (Alt is) other = unknown_alt known t p (map at is.now)
unknown_of_parts at known t p (Star i) other = sym (append-nil (unknown_types known (t (at i))))
unknown_of_parts at known t p (Plus i) other = sym (append-nil (unknown_types known (t (at i))))
unknown_of_parts at known t p (Opt i) other = sym (append-nil (unknown_types known (t (at i))))
unknown_of_parts at known t p (Val x q i) other = sym (append-nil (unknown_types known (t (at i))))

-- what is no variable has the variables of its parts
pub variables_of_parts : {I : Type 0} (at : I → ℕ) (t : ℕ → PlacedTree) (p : Place) (f : FormView I) → ((x : Bor (List ℕ)) (q : Place) (i : I) → f ≡ Val x q i → ⊥) →
    variables (placed_form t p (view_form at f)) ≡ flat_map (λ i. variables (t i)) (form_parts (view_form at f))
variables_of_parts at t p Empty other = refl
variables_of_parts at t p Text other = refl
variables_of_parts at t p (Words ws) other = refl
variables_of_parts at t p (Name w) other = refl
variables_of_parts at t p (Elem c i) other = sym (append-nil (variables (t (at i))))
variables_of_parts at t p (Seq is) other = variables_seq t p (map at is.now)
variables_of_parts at t p (Alt is) other = variables_alt t p (map at is.now)
variables_of_parts at t p (Star i) other = sym (append-nil (variables (t (at i))))
variables_of_parts at t p (Plus i) other = sym (append-nil (variables (t (at i))))
variables_of_parts at t p (Opt i) other = sym (append-nil (variables (t (at i))))
variables_of_parts at t p (Val x q i) other = absurd (other x q i refl)

-- the end of a loop over parts
pub parts_done : {X Y Z : Type 0} (n : X → Z) (g : Z → List Y) (made old : List Y) (xs : List X) (i : ℕ) → length xs ≤ i →
    made ++ flat_map g (map n (drop i xs)) ≡ old ++ flat_map g (map n xs) → made ≡ old ++ flat_map g (map n xs)
parts_done n g made old xs i h e = let d : drop i xs ≡ [] = drop_past xs i h in
    sym (append-nil made) ∙ ap (λ ys. made ++ flat_map g (map n ys)) (sym d) ∙ e

-- the end of a walk over the parts of a node
pub uses_done : {I : Type 0} (at : I → ℕ) (known : List (List ℕ)) (b : Bool) (rows : List Row) (i : ℕ) (p : Place) (f : FormView I) (xs : List I) (n : ℕ) (made old : List Fault) →
    IsNode b rows i p (view_form at f) → map at xs ≡ form_parts (view_form at f) → ((w : Bor (List ℕ)) → f ≡ Name w → ⊥) → length xs ≤ n →
    made ++ flat_map (λ j. unknown_types known (placed_at rows j)) (map at (drop n xs)) ≡ old ++ flat_map (λ j. unknown_types known (placed_at rows j)) (map at xs) →
    made ≡ old ++ unknown_types known (placed_at rows i)
uses_done at known b rows i p f xs n made old node e other h loop =
    parts_done at (λ j. unknown_types known (placed_at rows j)) made old xs n h loop
    ∙ ap (λ fs. old ++ fs) (ap (flat_map (λ j. unknown_types known (placed_at rows j))) e
    ∙ sym (ap (unknown_types known) node.placed ∙ unknown_of_parts at known (placed_at rows) p f other))

pub variables_done : {I : Type 0} (at : I → ℕ) (b : Bool) (rows : List Row) (i : ℕ) (p : Place) (f : FormView I) (xs : List I) (n : ℕ) (made old : List (List ℕ)) →
    IsNode b rows i p (view_form at f) → map at xs ≡ form_parts (view_form at f) → ((x : Bor (List ℕ)) (q : Place) (j : I) → f ≡ Val x q j → ⊥) → length xs ≤ n →
    made ++ flat_map (λ j. variables (placed_at rows j)) (map at (drop n xs)) ≡ old ++ flat_map (λ j. variables (placed_at rows j)) (map at xs) →
    made ≡ old ++ variables (placed_at rows i)
variables_done at b rows i p f xs n made old node e other h loop =
    parts_done at (λ j. variables (placed_at rows j)) made old xs n h loop
    ∙ ap (λ vs. old ++ vs) (ap (flat_map (λ j. variables (placed_at rows j))) e
    ∙ sym (ap variables node.placed ∙ variables_of_parts at (placed_at rows) p f other))

-- one more part of a loop that appends what each gives
pub part_step : {X Y Z : Type 0} (n : X → Z) (g : Z → List Y) (xs : List X) (i : ℕ) (d : X) (made all : List Y) → i < length xs →
    made ++ flat_map g (map n (drop i xs)) ≡ all → (made ++ g (n (get_or xs i d))) ++ flat_map g (map n (drop (i + 1) xs)) ≡ all
part_step n g xs i d made all h e =
    append_assoc made (g (n (get_or xs i d))) (flat_map g (map n (drop (i + 1) xs)))
    ∙ ap (λ ys. made ++ flat_map g (map n ys)) (sym (drop_at xs i d h))
    ∙ e

-- what is so of all from here on is so of this one and of those after it
pub parts_step : {X Z : Type 0} (P : Z → Type 0) (n : X → Z) (xs : List X) (i : ℕ) (d : X) → i < length xs → AllByRecursion P (map n (drop i xs)) →
    P (n (get_or xs i d)) × AllByRecursion P (map n (drop (i + 1) xs))
parts_step P n xs i d h a = subst (λ ys. AllByRecursion P (map n ys)) (drop_at xs i d h) a

-- the same of items that stand in no table
pub item_step : {X Y : Type 0} (g : X → List Y) (xs : List X) (i : ℕ) (x : X) (made all : List Y) → i < length xs → x ≡ get_or xs i x →
    made ++ flat_map g (drop i xs) ≡ all → (made ++ g x) ++ flat_map g (drop (i + 1) xs) ≡ all
item_step g xs i x made all h e k =
    append_assoc made (g x) (flat_map g (drop (i + 1) xs))
    ∙ ap (λ ys. made ++ flat_map g ys) (sym (drop_item xs i x h e))
    ∙ k
