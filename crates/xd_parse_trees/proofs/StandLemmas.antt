-- What was read, before a node is made of it, and what it merges with.
use Rattle.std.proofs.Common.{◌≡◌, ℕ, ◌<◌, ◌≤◌, arith, true, false, ◌||◌, ◌==◌, List, [], ◌∷◌, ◌++◌, map, length, flat_map, refl, ap, sym, ◌∙◌, subst, length-append, append-nil, append_assoc, lit<, Result, Ok, Err, IfOk}
use Rattle.std.proofs.lemmas.List.{map-append, length-map}
use Rattle.std.proofs.lemmas.Bool.{eqb-true}
use Rattle.std.specs.List.{AllByRecursion}
use Rattle.xd_base.specs.declared.Place.{Place}
use Rattle.xd_doc.proofs.Lists.{all_append}
use Rattle.xd_syntax.specs.Tree.{Tree, is_empty}
use Rattle.xd_syntax.specs.TreeForms.{is_seq, is_alt}
use Rattle.xd_syntax.specs.Table.{Row, Form, empty_form, seq_form, alt_form, tree_at, IsSeqPart, IsAltPart, KeepsRows}
use Rattle.xd_syntax.specs.Placed.{PlacedTree, Empty_at, Seq_at, Alt_at, placed_seq, placed_alt, place_of, unplaced}
use Rattle.xd_syntax.specs.PlacedTable.{placed_at, placed_form}
use Rattle.xd_syntax.proofs.Trees.{tree_kept}
use Rattle.xd_syntax.proofs.PlacedTrees.{placed_kept, placed_new, unplaced_at}
use Rattle.xd_syntax.proofs.TableRows.{KeepsRows-trans}
use Rattle.xd_parse_trees.specs.declared.parts.Parts.{Parts}
use Rattle.xd_parse_trees.specs.declared.parts.Parts.TheVariants.{One, Sequence, Alternative}
use Rattle.xd_parse_trees.specs.Merged.{parts_of_seq, parts_of_alt, merged_seq, sequence, alternative}
use Rattle.xd_parse_trees.specs.Nodes.{merges, has_none, parts_place, IsAdded, Extends, Merges}
use Rattle.xd_parse_trees.specs.Pieces.{Pieces, in_row, in_choice, pieces, tree_of, first_place, IsBranchAlone, Stand}
use Rattle.xd_parse_trees.specs.Shallow.{TreeWithin, IsWhole}
use Rattle.xd_syntax.specs.ShallowTables.{AddsWithin}
use Rattle.xd_syntax.proofs.ShallowTables.{within_both}
use Rattle.xd_parse_trees.proofs.Kept.{KeepsRows-refl, IsPattern-more}
use Rattle.xd_parse_trees.proofs.Deeper.{merged_parts, alternative_branches}
use Rattle.xd_parse_trees.proofs.AddedDepth.{none_deeper, only_within}

-- ---- one part, and one branch
true_false : true ≡ false → ⊥
true_false e = cc

abbrev pub IsPiece : PlacedTree → Type 0
IsPiece T = parts_of_seq T ≡ T ∷ []

abbrev pub IsBranch : PlacedTree → Type 0
IsBranch T = parts_of_alt T ≡ T ∷ []

one_of_seq : (T : PlacedTree) → (is_seq (unplaced T) || is_empty (unplaced T)) ≡ false → IsPiece T
one_of_seq (Empty_at p) h = absurd (true_false h)
one_of_seq (Seq_at p T U) h = absurd (true_false h)
one_of_seq T h = refl

one_of_alt : (T : PlacedTree) → is_alt (unplaced T) ≡ false → IsBranch T
one_of_alt (Alt_at p T U) h = absurd (true_false h)
one_of_alt T h = refl

one_seq_part : (rs : List Row) (i : ℕ) → IsSeqPart rs i → IsPiece (placed_at rs i)
one_seq_part rs i h = one_of_seq (placed_at rs i) (subst (λ (T : Tree). (is_seq T || is_empty T) ≡ false) (sym (unplaced_at rs i)) h.1)

one_alt_part : (rs : List Row) (i : ℕ) → IsAltPart rs i → IsBranch (placed_at rs i)
one_alt_part rs i h = one_of_alt (placed_at rs i) (subst (λ (T : Tree). is_alt T ≡ false) (sym (unplaced_at rs i)) h.1)

are_pieces : (rs : List Row) (is : List ℕ) → AllByRecursion (IsSeqPart rs) is → AllByRecursion IsPiece (map (placed_at rs) is)
are_pieces rs [] a = tt
are_pieces rs (i ∷ is) a = (one_seq_part rs i a.0, are_pieces rs is a.1)

are_branches : (rs : List Row) (is : List ℕ) → AllByRecursion (IsAltPart rs) is → AllByRecursion IsBranch (map (placed_at rs) is)
are_branches rs [] a = tt
are_branches rs (i ∷ is) a = (one_alt_part rs i a.0, are_branches rs is a.1)

-- the parts of what is merged of parts
parts_of_placed : (p : Place) (Ts : List PlacedTree) → AllByRecursion IsPiece Ts → parts_of_seq (placed_seq p Ts) ≡ Ts
parts_of_placed p [] a = refl
parts_of_placed p (T ∷ []) a = a.0
parts_of_placed p (T ∷ (U ∷ Us)) a = ap (λ Ts. T ∷ Ts) (parts_of_placed (place_of U) (U ∷ Us) a.1)

branches_of_placed : (p : Place) (Ts : List PlacedTree) → 0 < length Ts → AllByRecursion IsBranch Ts → parts_of_alt (placed_alt p Ts) ≡ Ts
branches_of_placed p [] h a = absurd (omega arith)
branches_of_placed p (T ∷ []) h a = a.0
branches_of_placed p (T ∷ (U ∷ Us)) h a = ap (λ Ts. T ∷ Ts) (branches_of_placed (place_of U) (U ∷ Us) (omega arith) a.1)

merged_is_placed : (p : Place) (Ts : List PlacedTree) → merged_seq p Ts ≡ placed_seq (first_place p Ts) Ts
merged_is_placed p [] = refl
merged_is_placed p (T ∷ Ts) = refl

parts_of_merged : (p : Place) (Ts : List PlacedTree) → AllByRecursion IsPiece Ts → parts_of_seq (merged_seq p Ts) ≡ Ts
parts_of_merged p Ts a = ap parts_of_seq (merged_is_placed p Ts) ∙ parts_of_placed (first_place p Ts) Ts a

-- ---- one after the other or all at once
merged_on : (p : Place) (Ts Us : List PlacedTree) → merged_seq (place_of (merged_seq p Ts)) (Ts ++ Us) ≡ merged_seq p (Ts ++ Us)
merged_on p [] Us = refl
merged_on p (T ∷ Ts) Us = refl

together : (xs ys zs : List PlacedTree) → (xs ++ (ys ++ [])) ++ zs ≡ xs ++ (ys ++ zs)
together xs ys zs = ap (λ a. (xs ++ a) ++ zs) (append-nil ys) ∙ append_assoc xs ys zs

pub sequence_on : (T U : PlacedTree) (later : List PlacedTree) → AllByRecursion IsPiece (parts_of_seq T) → AllByRecursion IsPiece (parts_of_seq U) → sequence (sequence T (U ∷ [])) later ≡ sequence T (U ∷ later)
sequence_on T U [] a b = refl
sequence_on T U (W ∷ Ws) a b =
    let F = flat_map parts_of_seq (W ∷ Ws) in
    let A = parts_of_seq T ++ (parts_of_seq U ++ []) in
    let free : AllByRecursion IsPiece A = all_append IsPiece (parts_of_seq T) (parts_of_seq U ++ []) a (all_append IsPiece (parts_of_seq U) [] b tt) in
    ap (λ Ts. merged_seq (place_of (merged_seq (place_of T) A)) (Ts ++ F)) (parts_of_merged (place_of T) A free)
    ∙ merged_on (place_of T) A F ∙ ap (merged_seq (place_of T)) (together (parts_of_seq T) (parts_of_seq U) F)

two_place : (p : Place) (Ts : List PlacedTree) → 2 ≤ length Ts → place_of (placed_alt p Ts) ≡ p
two_place p [] h = absurd (omega arith)
two_place p (T ∷ []) h = absurd (omega arith)
two_place p (T ∷ (U ∷ Us)) h = refl

some_branches : (T : PlacedTree) → 0 < length (parts_of_alt T)
some_branches (Alt_at p T U) = omega arith
some_branches T = lit< tt

two_branches : (T U : PlacedTree) → 2 ≤ length (parts_of_alt T ++ (parts_of_alt U ++ []))
two_branches T U =
    let a = some_branches T in let b = some_branches U in
    omega (arith, length-append (parts_of_alt T) (parts_of_alt U ++ []), length-append (parts_of_alt U) [])

pub alternative_on : (T U : PlacedTree) (later : List PlacedTree) → AllByRecursion IsBranch (parts_of_alt T) → AllByRecursion IsBranch (parts_of_alt U) → alternative (alternative T (U ∷ [])) later ≡ alternative T (U ∷ later)
alternative_on T U [] a b = refl
alternative_on T U (W ∷ Ws) a b =
    let F = flat_map parts_of_alt (W ∷ Ws) in
    let A = parts_of_alt T ++ (parts_of_alt U ++ []) in
    let two : 2 ≤ length A = two_branches T U in
    let free : AllByRecursion IsBranch A = all_append IsBranch (parts_of_alt T) (parts_of_alt U ++ []) a (all_append IsBranch (parts_of_alt U) [] b tt) in
    ap (λ Ts. placed_alt (place_of (placed_alt (place_of T) A)) (Ts ++ F)) (branches_of_placed (place_of T) A (omega arith) free)
    ∙ ap (λ p. placed_alt p (A ++ F)) (two_place (place_of T) A two)
    ∙ ap (placed_alt (place_of T)) (together (parts_of_alt T) (parts_of_alt U) F)

-- ---- a table that grows
pub kept : (old new : List Row) (i : ℕ) → KeepsRows old new → i < length old → placed_at new i ≡ placed_at old i
kept old new i k h = subst (λ (rs : List Row). placed_at rs i ≡ placed_at old i) (sym k.grown) (placed_kept old k.more i h)

tree_stays : (old new : List Row) (i : ℕ) → KeepsRows old new → i < length old → tree_at new i ≡ tree_at old i
tree_stays old new i k h = subst (λ (rs : List Row). tree_at rs i ≡ tree_at old i) (sym k.grown) (tree_kept old k.more i h)

seq_part_stays : (old new : List Row) → KeepsRows old new → (i : ℕ) → IsSeqPart old i → IsSeqPart new i
seq_part_stays old new k i h = (IsPattern-more old new i k h.0, subst (λ (T : Tree). (is_seq T || is_empty T) ≡ false) (sym (tree_stays old new i k h.0)) h.1)

alt_part_stays : (old new : List Row) → KeepsRows old new → (i : ℕ) → IsAltPart old i → IsAltPart new i
alt_part_stays old new k i h = (IsPattern-more old new i k h.0, subst (λ (T : Tree). is_alt T ≡ false) (sym (tree_stays old new i k h.0)) h.1)

all_stay : (P Q : ℕ → Type 0) → ((i : ℕ) → P i → Q i) → (is : List ℕ) → AllByRecursion P is → AllByRecursion Q is
all_stay P Q f [] a = tt
all_stay P Q f (i ∷ is) a = (f i a.0, all_stay P Q f is a.1)

trees_stay : (old new : List Row) (P : ℕ → Type 0) → KeepsRows old new → ((i : ℕ) → P i → i < length old) → (is : List ℕ) → AllByRecursion P is → map (placed_at new) is ≡ map (placed_at old) is
trees_stay old new P k f [] a = refl
trees_stay old new P k f (i ∷ is) a = let e = kept old new i k (f i a.0) in let g = trees_stay old new P k f is a.1 in cc

alone_stays : (old new : List Row) (is : List ℕ) → KeepsRows old new → IsBranchAlone old is → IsBranchAlone new is
alone_stays old new [] k a = tt
alone_stays old new (i ∷ []) k a = alt_part_stays old new k i a
alone_stays old new (i ∷ (j ∷ is)) k a = tt

pub tree_of_stays : (old new : List Row) (ps : Pieces) → KeepsRows old new → Stand old ps → tree_of new ps ≡ tree_of old ps
tree_of_stays old new (in_row p is) k s = ap (placed_seq p) (trees_stay old new (IsSeqPart old) k (λ i h. h.0) is s.0)
tree_of_stays old new (in_choice p is) k s = ap (placed_alt p) (trees_stay old new (IsAltPart old) k (λ i h. h.0) is s.1)

pub stand_stays : (old new : List Row) (ps : Pieces) → KeepsRows old new → Stand old ps → Stand new ps
stand_stays old new (in_row p is) k s =
    (all_stay (IsSeqPart old) (IsSeqPart new) (seq_part_stays old new k) is s.0, alone_stays old new is k s.1, ap (first_place p) (trees_stay old new (IsSeqPart old) k (λ i h. h.0) is s.0) ∙ s.2)
stand_stays old new (in_choice p is) k s = (s.0, all_stay (IsAltPart old) (IsAltPart new) (alt_part_stays old new k) is s.1)

-- ---- what pieces are
two_piece : (f : ℕ → PlacedTree) (p : Place) (is : List ℕ) → 2 ≤ length is → IsPiece (placed_alt p (map f is))
two_piece f p [] h = absurd (omega arith)
two_piece f p (i ∷ []) h = absurd (omega arith)
two_piece f p (i ∷ (j ∷ is)) h = refl

two_at : (f : ℕ → PlacedTree) (p : Place) (is : List ℕ) → 2 ≤ length is → place_of (placed_alt p (map f is)) ≡ p
two_at f p [] h = absurd (omega arith)
two_at f p (i ∷ []) h = absurd (omega arith)
two_at f p (i ∷ (j ∷ is)) h = refl

row_place : (f : ℕ → PlacedTree) (p : Place) (is : List ℕ) → first_place p (map f is) ≡ p → place_of (placed_seq p (map f is)) ≡ p
row_place f p [] h = refl
row_place f p (i ∷ []) h = h
row_place f p (i ∷ (j ∷ is)) h = refl

row_branch : (rs : List Row) (p : Place) (is : List ℕ) → IsBranchAlone rs is → IsBranch (placed_seq p (map (placed_at rs) is))
row_branch rs p [] h = refl
row_branch rs p (i ∷ []) h = one_alt_part rs i h
row_branch rs p (i ∷ (j ∷ is)) h = refl

abbrev pub place_in : Pieces → Place
place_in (in_row p is) = p
place_in (in_choice p is) = p

pub place_is : (rs : List Row) (ps : Pieces) → Stand rs ps → place_of (tree_of rs ps) ≡ place_in ps
place_is rs (in_row p is) s = row_place (placed_at rs) p is s.2
place_is rs (in_choice p is) s = two_at (placed_at rs) p is s.0

pub free_parts : (rs : List Row) (ps : Pieces) → Stand rs ps → AllByRecursion IsPiece (parts_of_seq (tree_of rs ps))
free_parts rs (in_row p is) s = subst (AllByRecursion IsPiece) (sym (parts_of_placed p (map (placed_at rs) is) (are_pieces rs is s.0))) (are_pieces rs is s.0)
free_parts rs (in_choice p is) s = let e = two_piece (placed_at rs) p is s.0 in subst (AllByRecursion IsPiece) (sym e) (e, tt)

pub free_branches : (rs : List Row) (ps : Pieces) → Stand rs ps → AllByRecursion IsBranch (parts_of_alt (tree_of rs ps))
free_branches rs (in_row p is) s = let e = row_branch rs p is s.1 in subst (AllByRecursion IsBranch) (sym e) (e, tt)
free_branches rs (in_choice p is) s =
    let two : 2 ≤ length is = s.0 in
    let e = branches_of_placed p (map (placed_at rs) is) (omega (arith, length-map is (placed_at rs))) (are_branches rs is s.1) in
    subst (AllByRecursion IsBranch) (sym e) (are_branches rs is s.1)

-- the first part stands where all stand
first_is : (rs : List Row) (ps : Pieces) → Stand rs ps → first_place (place_in ps) (parts_of_seq (tree_of rs ps)) ≡ place_in ps
first_is rs (in_row p is) s = ap (first_place p) (parts_of_placed p (map (placed_at rs) is) (are_pieces rs is s.0)) ∙ s.2
first_is rs (in_choice p is) s = ap (first_place p) (two_piece (placed_at rs) p is s.0) ∙ two_at (placed_at rs) p is s.0

pub is_whole : (rs : List Row) (ps : Pieces) → Stand rs ps → IsWhole (tree_of rs ps)
is_whole rs (in_row p is) s =
    ap (λ q. placed_seq q (parts_of_seq (placed_seq p (map (placed_at rs) is)))) (row_place (placed_at rs) p is s.2)
    ∙ ap (placed_seq p) (parts_of_placed p (map (placed_at rs) is) (are_pieces rs is s.0))
is_whole rs (in_choice p is) s = ap (placed_seq (place_of (placed_alt p (map (placed_at rs) is)))) (two_piece (placed_at rs) p is s.0)

-- what is merged of its own parts
merged_again : (rs : List Row) (ps : Pieces) (Us : List PlacedTree) → Stand rs ps → Us ≡ [] → merged_seq (place_of (tree_of rs ps)) (parts_of_seq (tree_of rs ps) ++ (Us ++ [])) ≡ tree_of rs ps
merged_again rs ps Us s e =
    let T = tree_of rs ps in
    ap (λ xs. merged_seq (place_of T) (parts_of_seq T ++ (xs ++ []))) e ∙ ap (merged_seq (place_of T)) (append-nil (parts_of_seq T)) ∙ merged_is_placed (place_of T) (parts_of_seq T)
    ∙ ap (λ p. placed_seq p (parts_of_seq T)) (ap (λ p. first_place p (parts_of_seq T)) (place_is rs ps s) ∙ first_is rs ps s ∙ sym (place_is rs ps s)) ∙ is_whole rs ps s

-- ---- after others
numbers_added : {I : Type 0} (at : I → ℕ) (old more all : List I) → all ≡ old ++ more → map at all ≡ map at old ++ map at more
numbers_added at old more all e = ap (map at) e ∙ map-append at old more

pub joined_parts : {I : Type 0} (at : I → ℕ) (rows : List Row) (p : Place) (row more all : List I) → Stand rows (in_row p (map at more)) → all ≡ row ++ more →
    Extends IsSeqPart parts_of_seq rows rows (tree_of rows (in_row p (map at more))) (map at row) (map at all)
joined_parts at rows p row more all s e = record {
  more = map at more;
  grown = numbers_added at row more all e;
  placed = sym (parts_of_placed p (map (placed_at rows) (map at more)) (are_pieces rows (map at more) s.0));
  stand = s.0;
  keeps = KeepsRows-refl rows;
  only = λ j h k. absurd (omega arith);
}

pub joined_branches : {I : Type 0} (at : I → ℕ) (rows : List Row) (p : Place) (row more all : List I) → Stand rows (in_choice p (map at more)) → all ≡ row ++ more →
    Extends IsAltPart parts_of_alt rows rows (tree_of rows (in_choice p (map at more))) (map at row) (map at all)
joined_branches at rows p row more all s e =
    let two : 2 ≤ length (map at more) = s.0 in
    record {
      more = map at more;
      grown = numbers_added at row more all e;
      placed = sym (branches_of_placed p (map (placed_at rows) (map at more)) (omega (arith, length-map (map at more) (placed_at rows))) (are_branches rows (map at more) s.1));
      stand = s.1;
      keeps = KeepsRows-refl rows;
      only = λ j h k. absurd (omega arith);
    }

-- the node of what was added, as a part and as a branch
added_tree : (old new : List Row) (T : PlacedTree) (i : ℕ) → IsAdded old new T i → tree_at new i ≡ unplaced T
added_tree old new T i a = sym (unplaced_at new i) ∙ ap unplaced a.placed

choice_no_seq : (f : ℕ → PlacedTree) (p : Place) (is : List ℕ) → 2 ≤ length is → (is_seq (unplaced (placed_alt p (map f is))) || is_empty (unplaced (placed_alt p (map f is)))) ≡ false
choice_no_seq f p [] h = absurd (omega arith)
choice_no_seq f p (i ∷ []) h = absurd (omega arith)
choice_no_seq f p (i ∷ (j ∷ is)) h = refl

row_no_alt : (rs : List Row) (p : Place) (is : List ℕ) → IsBranchAlone rs is → is_alt (unplaced (placed_seq p (map (placed_at rs) is))) ≡ false
row_no_alt rs p [] h = refl
row_no_alt rs p (i ∷ []) h = subst (λ (T : Tree). is_alt T ≡ false) (sym (unplaced_at rs i)) h.1
row_no_alt rs p (i ∷ (j ∷ is)) h = refl

pub pushed_choice : {I : Type 0} (at : I → ℕ) (old new : List Row) (p : Place) (branches made row all : List I) (id : I) → Stand old (in_choice p (map at branches)) → made ≡ branches →
    IsAdded old new (tree_of old (in_choice p (map at made))) (at id) → all ≡ row ++ id ∷ [] → Extends IsSeqPart parts_of_seq old new (tree_of old (in_choice p (map at branches))) (map at row) (map at all)
pushed_choice at old new p branches made row all id s m h e =
    let T : PlacedTree = tree_of old (in_choice p (map at branches)) in
    let a : IsAdded old new T (at id) = subst (λ xs. IsAdded old new (tree_of old (in_choice p (map at xs))) (at id)) m h in
    record {
      more = at id ∷ [];
      grown = numbers_added at row (id ∷ []) all e;
      placed = ap (λ U. U ∷ []) a.placed ∙ sym (two_piece (placed_at old) p (map at branches) s.0);
      stand = ((a.belongs, subst (λ (U : Tree). (is_seq U || is_empty U) ≡ false) (sym (added_tree old new T (at id) a)) (choice_no_seq (placed_at old) p (map at branches) s.0)), tt);
      keeps = a.keeps;
      only = a.only;
    }

pub pushed_row : {I : Type 0} (at : I → ℕ) (old new : List Row) (p : Place) (parts made branches all : List I) (id : I) → Stand old (in_row p (map at parts)) → made ≡ parts →
    IsAdded old new (tree_of old (in_row p (map at made))) (at id) → all ≡ branches ++ id ∷ [] → Extends IsAltPart parts_of_alt old new (tree_of old (in_row p (map at parts))) (map at branches) (map at all)
pushed_row at old new p parts made branches all id s m h e =
    let T : PlacedTree = tree_of old (in_row p (map at parts)) in
    let a : IsAdded old new T (at id) = subst (λ xs. IsAdded old new (tree_of old (in_row p (map at xs))) (at id)) m h in
    record {
      more = at id ∷ [];
      grown = numbers_added at branches (id ∷ []) all e;
      placed = ap (λ U. U ∷ []) a.placed ∙ sym (row_branch old p (map at parts) s.1);
      stand = ((a.belongs, subst (λ (U : Tree). is_alt U ≡ false) (sym (added_tree old new T (at id) a)) (row_no_alt old p (map at parts) s.1)), tt);
      keeps = a.keeps;
      only = a.only;
    }

-- ---- one node alone
node_piece : (t : ℕ → PlacedTree) (p : Place) (f : Form) → merges f ≡ false → (is_seq (unplaced (placed_form t p f)) || is_empty (unplaced (placed_form t p f))) ≡ false
node_piece t p empty_form h = absurd (true_false h)
node_piece t p (seq_form is) h = absurd (true_false h)
node_piece t p (alt_form is) h = absurd (true_false h)
node_piece t p f h = refl

node_branch : (t : ℕ → PlacedTree) (p : Place) (f : Form) → merges f ≡ false → is_alt (unplaced (placed_form t p f)) ≡ false
node_branch t p empty_form h = absurd (true_false h)
node_branch t p (seq_form is) h = absurd (true_false h)
node_branch t p (alt_form is) h = absurd (true_false h)
node_branch t p f h = refl

node_place : (t : ℕ → PlacedTree) (p : Place) (f : Form) → merges f ≡ false → place_of (placed_form t p f) ≡ p
node_place t p empty_form h = absurd (true_false h)
node_place t p (seq_form is) h = absurd (true_false h)
node_place t p (alt_form is) h = absurd (true_false h)
node_place t p f h = refl

pub part_added : (old new : List Row) (p : Place) (f : Form) (i : ℕ) → merges f ≡ false → IsAdded old new (placed_form (placed_at old) p f) i → Merges old new (placed_form (placed_at old) p f) (in_row p (i ∷ []))
part_added old new p f i m a =
    let T : PlacedTree = placed_form (placed_at old) p f in
    let t = added_tree old new T i a in
    record {
      is = a.placed;
      stand = (
        ((a.belongs, subst (λ (U : Tree). (is_seq U || is_empty U) ≡ false) (sym t) (node_piece (placed_at old) p f m)), tt),
        (a.belongs, subst (λ (U : Tree). is_alt U ≡ false) (sym t) (node_branch (placed_at old) p f m)),
        ap place_of a.placed ∙ node_place (placed_at old) p f m,
      );
      keeps = a.keeps;
      no_deeper = λ limit o w. only_within limit old new T a.only w;
    }

-- ---- two that are merged
none_row : {I : Type 0} (at : I → ℕ) (rs : List Row) (p : Place) (ids : List I) → length ids ≡ 0 → parts_of_seq (placed_seq p (map (placed_at rs) (map at ids))) ≡ []
none_row at rs p [] e = refl
none_row at rs p (i ∷ ids) e = absurd (omega arith)

none_parts : {I : Type 0} (at : I → ℕ) (rs : List Row) (parts : Parts I) → has_none parts ≡ true → parts_of_seq (tree_of rs (pieces at parts)) ≡ []
none_parts at rs (One p i) h = absurd (true_false (sym h))
none_parts at rs (Sequence p parts) h = none_row at rs p parts.items (eqb-true (length parts.items) 0 h)
none_parts at rs (Alternative p parts) h = absurd (true_false (sym h))

some_row : {I : Type 0} (at : I → ℕ) (rs : List Row) (ids : List I) → (length ids == 0) ≡ false → 0 < length (map (placed_at rs) (map at ids))
some_row at rs [] h = absurd (true_false h)
some_row at rs (i ∷ ids) h = omega arith

some_parts : {I : Type 0} (at : I → ℕ) (rs : List Row) (parts : Parts I) → has_none parts ≡ false → Stand rs (pieces at parts) → 0 < length (parts_of_seq (tree_of rs (pieces at parts)))
some_parts at rs (One p i) h s = subst (λ (Ts : List PlacedTree). 0 < length Ts) (sym (one_seq_part rs (at i) s.0.0)) (lit< tt)
some_parts at rs (Sequence p parts) h s =
    subst (λ (Ts : List PlacedTree). 0 < length Ts) (sym (parts_of_placed p (map (placed_at rs) (map at parts.items)) (are_pieces rs (map at parts.items) s.0))) (some_row at rs parts.items h)
some_parts at rs (Alternative p parts) h s = subst (λ (Ts : List PlacedTree). 0 < length Ts) (sym (two_piece (placed_at rs) p (map at parts.items) s.0)) (lit< tt)

-- what is empty is left out
pub back_none : {I : Type 0} (at : I → ℕ) (rs : List Row) (front back : Parts I) → Stand rs (pieces at front) → has_none back ≡ true →
    Merges rs rs (sequence (tree_of rs (pieces at front)) (tree_of rs (pieces at back) ∷ [])) (pieces at front)
back_none at rs front back s h =
    let T = tree_of rs (pieces at front) in
    let U = tree_of rs (pieces at back) in
    record {
      is = sym (merged_again rs (pieces at front) (parts_of_seq U) s (none_parts at rs back h));
      stand = s;
      keeps = KeepsRows-refl rs;
      no_deeper = none_deeper (TreeWithin (sequence T (U ∷ []))) rs;
    }

merged_any : (p q : Place) (Ts : List PlacedTree) → 0 < length Ts → merged_seq p Ts ≡ merged_seq q Ts
merged_any p q [] h = absurd (omega arith)
merged_any p q (T ∷ Ts) h = refl

pub front_none : {I : Type 0} (at : I → ℕ) (rs : List Row) (front back : Parts I) → Stand rs (pieces at back) → has_none front ≡ true → has_none back ≡ false →
    Merges rs rs (sequence (tree_of rs (pieces at front)) (tree_of rs (pieces at back) ∷ [])) (pieces at back)
front_none at rs front back s h k =
    let T = tree_of rs (pieces at front) in
    let U = tree_of rs (pieces at back) in
    let e : merged_seq (place_of T) (parts_of_seq T ++ (parts_of_seq U ++ [])) ≡ merged_seq (place_of T) (parts_of_seq U) = ap (λ xs. merged_seq (place_of T) (xs ++ (parts_of_seq U ++ []))) (none_parts at rs front h) ∙ ap (merged_seq (place_of T)) (append-nil (parts_of_seq U)) in
    let f : merged_seq (place_of U) (parts_of_seq U ++ ([] ++ [])) ≡ merged_seq (place_of U) (parts_of_seq U) = ap (merged_seq (place_of U)) (append-nil (parts_of_seq U)) in
    record {
      is = sym (e ∙ merged_any (place_of T) (place_of U) (parts_of_seq U) (some_parts at rs back k s) ∙ sym f ∙ merged_again rs (pieces at back) [] s refl);
      stand = s;
      keeps = KeepsRows-refl rs;
      no_deeper = none_deeper (TreeWithin (sequence T (U ∷ []))) rs;
    }

-- all that were put together
record Together (fit : List Row → ℕ → Type 0) (parts_of : PlacedTree → List PlacedTree) (old new : List Row) (T U : PlacedTree) (all : List ℕ) : Type 0 where
  placed : map (placed_at new) all ≡ parts_of T ++ parts_of U
  stand : AllByRecursion (fit new) all
  keeps : KeepsRows old new
  within : (limit : ℕ) → TreeWithin T limit → TreeWithin U limit → AddsWithin limit old new

both_together : (fit : List Row → ℕ → Type 0) (parts_of : PlacedTree → List PlacedTree) → ((rows : List Row) (i : ℕ) → fit rows i → i < length rows) →
    ((old new : List Row) → KeepsRows old new → (i : ℕ) → fit old i → fit new i) → (old middle new : List Row) (T U V : PlacedTree) (none first all : List ℕ) → none ≡ [] → V ≡ U →
    Extends fit parts_of old middle T none first → Extends fit parts_of middle new V first all → Together fit parts_of old new T U all
both_together fit parts_of there stays old middle new T U V none first all z v a b =
    let f : first ≡ a.more = a.grown ∙ ap (λ xs. xs ++ a.more) z in
    let g : all ≡ a.more ++ b.more = b.grown ∙ ap (λ xs. xs ++ b.more) f in
    record {
      placed = ap (map (placed_at new)) g ∙ map-append (placed_at new) a.more b.more
          ∙ ap (λ Ts. Ts ++ map (placed_at new) b.more) (trees_stay middle new (fit middle) b.keeps (there middle) a.more a.stand ∙ a.placed)
          ∙ ap (λ Ts. parts_of T ++ Ts) (b.placed ∙ ap parts_of v);
      stand = subst (AllByRecursion (fit new)) (sym g) (all_append (fit new) a.more b.more (all_stay (fit middle) (fit new) (stays middle new b.keeps) a.more a.stand) b.stand);
      keeps = KeepsRows-trans old middle new a.keeps b.keeps;
      within = λ limit t u. within_both limit old middle new b.keeps (only_within limit old middle T a.only t) (only_within limit middle new V b.only (subst (λ (X : PlacedTree). TreeWithin X limit) (sym v) u));
    }

first_of_front : (p : Place) (Ts Us : List PlacedTree) → 0 < length Ts → first_place p (Ts ++ Us) ≡ first_place p Ts
first_of_front p [] Us h = absurd (omega arith)
first_of_front p (T ∷ Ts) Us h = refl

alone_none : (rs : List Row) (is : List ℕ) → 2 ≤ length is → IsBranchAlone rs is
alone_none rs [] h = tt
alone_none rs (i ∷ []) h = absurd (omega arith)
alone_none rs (i ∷ (j ∷ is)) h = tt

parts_place_is : {I : Type 0} (at : I → ℕ) (parts : Parts I) → parts_place parts ≡ place_in (pieces at parts)
parts_place_is at (One p i) = refl
parts_place_is at (Sequence p parts) = refl
parts_place_is at (Alternative p parts) = refl

none_numbers : {I : Type 0} (at : I → ℕ) (none : List I) → none ≡ [] → map at none ≡ []
none_numbers at none e = ap (map at) e

-- the sequence of both
pub in_one_row : {I : Type 0} (at : I → ℕ) (old middle new : List Row) (front back : Parts I) (p : Place) (none first all : List I) → Stand old (pieces at front) → Stand old (pieces at back) →
    has_none front ≡ false → has_none back ≡ false → p ≡ parts_place front → none ≡ [] → Extends IsSeqPart parts_of_seq old middle (tree_of old (pieces at front)) (map at none) (map at first) →
    Extends IsSeqPart parts_of_seq middle new (tree_of middle (pieces at back)) (map at first) (map at all) →
    Merges old new (sequence (tree_of old (pieces at front)) (tree_of old (pieces at back) ∷ [])) (in_row p (map at all))
in_one_row at old middle new front back p none first all s u h k pe z a b =
    let T = tree_of old (pieces at front) in
    let U = tree_of old (pieces at back) in
    let is : List ℕ = map at all in
    let q : p ≡ place_of T = pe ∙ parts_place_is at front ∙ sym (place_is old (pieces at front) s) in
    let x = both_together IsSeqPart parts_of_seq (λ rows i f. f.0) seq_part_stays old middle new T U (tree_of middle (pieces at back)) (map at none) (map at first) is
    (none_numbers at none z) (tree_of_stays old middle (pieces at back) a.keeps u) a b in
    let t : 0 < length (parts_of_seq T) = some_parts at old front h s in
    let v : 0 < length (parts_of_seq U) = some_parts at old back k u in
    let l : length is ≡ length (parts_of_seq T ++ parts_of_seq U) = sym (length-map is (placed_at new)) ∙ ap length x.placed in
    let f : first_place p (map (placed_at new) is) ≡ p = ap (first_place p) x.placed ∙ first_of_front p (parts_of_seq T) (parts_of_seq U) t
    ∙ ap (λ r. first_place r (parts_of_seq T)) (pe ∙ parts_place_is at front) ∙ first_is old (pieces at front) s ∙ sym (pe ∙ parts_place_is at front) in
    let g : placed_seq p (map (placed_at new) is) ≡ sequence T (U ∷ []) = ap (λ r. placed_seq r (map (placed_at new) is)) (sym f)
    ∙ sym (merged_is_placed p (map (placed_at new) is)) ∙ ap (merged_seq p) (x.placed ∙ ap (λ Ts. parts_of_seq T ++ Ts) (sym (append-nil (parts_of_seq U)))) ∙ ap (λ r. merged_seq r (parts_of_seq T ++ (parts_of_seq U ++ []))) q in
    record {
      is = g;
      stand = (x.stand, alone_none new is (omega (arith, length-append (parts_of_seq T) (parts_of_seq U))), f);
      keeps = x.keeps;
      no_deeper = λ limit o w.
          let d = merged_parts (place_of T) (T ∷ (U ∷ [])) (sequence T (U ∷ [])) (is_whole old (pieces at front) s, (is_whole old (pieces at back) u, tt)) refl limit o w in
          x.within limit d.0 d.1.0;
    }

-- the alternative of both
pub in_one_choice : {I : Type 0} (at : I → ℕ) (old middle new : List Row) (front back : Parts I) (p : Place) (none first all : List I) → Stand old (pieces at front) → Stand old (pieces at back) →
    p ≡ parts_place front → none ≡ [] → Extends IsAltPart parts_of_alt old middle (tree_of old (pieces at front)) (map at none) (map at first) →
    Extends IsAltPart parts_of_alt middle new (tree_of middle (pieces at back)) (map at first) (map at all) →
    Merges old new (alternative (tree_of old (pieces at front)) (tree_of old (pieces at back) ∷ [])) (in_choice p (map at all))
in_one_choice at old middle new front back p none first all s u pe z a b =
    let T = tree_of old (pieces at front) in
    let U = tree_of old (pieces at back) in
    let is : List ℕ = map at all in
    let q : p ≡ place_of T = pe ∙ parts_place_is at front ∙ sym (place_is old (pieces at front) s) in
    let x = both_together IsAltPart parts_of_alt (λ rows i f. f.0) alt_part_stays old middle new T U (tree_of middle (pieces at back)) (map at none) (map at first) is
    (none_numbers at none z) (tree_of_stays old middle (pieces at back) a.keeps u) a b in
    let e : map (placed_at new) is ≡ parts_of_alt T ++ (parts_of_alt U ++ []) = x.placed ∙ ap (λ Ts. parts_of_alt T ++ Ts) (sym (append-nil (parts_of_alt U))) in
    let l : length is ≡ length (parts_of_alt T ++ (parts_of_alt U ++ [])) = sym (length-map is (placed_at new)) ∙ ap length e in
    let two = two_branches T U in
    record {
      is = ap (placed_alt p) e ∙ ap (λ r. placed_alt r (parts_of_alt T ++ (parts_of_alt U ++ []))) q;
      stand = (omega arith, x.stand);
      keeps = x.keeps;
      no_deeper = λ limit o w. let d = alternative_branches limit T (U ∷ []) w in x.within limit d.0 d.1.0;
    }

-- ---- the node of what was read
pub one_node : (rs : List Row) (p : Place) (i : ℕ) → Stand rs (in_row p (i ∷ [])) → IsAdded rs rs (tree_of rs (in_row p (i ∷ []))) i
one_node rs p i s = record { keeps = KeepsRows-refl rs; belongs = s.0.0.0; placed = refl; only = λ j h k. absurd (omega arith) }

-- the place of what was read
pub place_of_parts : {I : Type 0} (at : I → ℕ) (rows : List Row) (parts : Parts I) (p : Place) → Stand rows (pieces at parts) → p ≡ parts_place parts → p ≡ place_of (tree_of rows (pieces at parts))
place_of_parts at rows parts p s e = e ∙ parts_place_is at parts ∙ sym (place_is rows (pieces at parts) s)

-- ---- one row more
added_only : (old new : List Row) (r : Row) → new ≡ old ++ r ∷ [] → (j : ℕ) → length old ≤ j → j < length new → placed_at new j ≡ placed_form (placed_at old) r.place r.form
added_only old new r e j h k =
    let n : length new ≡ length (old ++ r ∷ []) = ap length e in
    let q : j ≡ length old = omega (arith, length-append old (r ∷ [])) in
    ap (placed_at new) q ∙ ap (λ rs. placed_at rs (length old)) e ∙ placed_new old r

-- one node more, by its row
pub added_node : {E I : Type 0} (r : Result I E) (at : I → ℕ) (old new : List Row) (p : Place) (f g : Form) → f ≡ g → KeepsRows old new → IfOk r (λ id. at id < length new) →
    IfOk r (λ id. placed_at new (at id) ≡ placed_form (placed_at old) p f) → IfOk r (λ id. new ≡ old ++ record { place = p; form = f } ∷ []) → IfOk r (λ id. IsAdded old new (placed_form (placed_at old) p g) (at id))
added_node (Ok id) at old new p f g e k b h n =
    subst (λ (x : Form). IsAdded old new (placed_form (placed_at old) p x) (at id)) e (record { keeps = k; belongs = b; placed = h; only = added_only old new (record { place = p; form = f }) n })
added_node (Err x) at old new p f g e k b h n = tt
