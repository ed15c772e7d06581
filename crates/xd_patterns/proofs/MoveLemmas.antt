-- Choices that were found, as moves of a state.
use Rattle.std.proofs.Common.{◌≡◌, ℕ, zero, suc, ◌+◌, ◌<◌, ◌≤◌, ◌⊎◌, arith, true, false, cond, List, [], ◌∷◌, ◌++◌, map, length, append-nil, append_assoc, get_or, refl, ap, sym, subst, ◌∙◌, inl, inr}
use Rattle.std.specs.List.{AllByRecursion}
use Rattle.xd_doc.specs.Classes.{LabelClass, TextClass}
use Rattle.xd_doc.proofs.Lists.{all_more, map_append}
use Rattle.xd_syntax.specs.Tree.{Tree, Elem, Definitions}
use Rattle.xd_auto.specs.declared.auto.State.{State}
use Rattle.xd_auto.specs.Automaton.{Automaton, moves_at, no_moves, state_number}
use Rattle.xd_pattern_runs.specs.Runs as Runs
use Rattle.xd_pattern_runs.specs.Runs.{Continuation, Choice, take_text, take_element, start, choices}
use Rattle.xd_pattern_runs.specs.Steps.{marked}
use Rattle.xd_continuations.specs.Chains.{list_at, KeepsLinks, HasLink}
use Rattle.xd_patterns.specs.Pieces.{part_of, IsLike, form_at, variable_of}
use Rattle.xd_patterns.specs.Tasks.{Tables, rows_of, words_at, piece_part, piece_at, continuation, ArePieces, item_choice, choice_at, IsFound, StandFound, Adds}
use Rattle.xd_patterns.specs.Expanding.{AreFound}
use Rattle.xd_patterns.specs.Compiling.{standing, AddsText, AddsElement, HasMoves, Grows, AddsMove, IsAdding, Makes}
use Rattle.xd_continuations.specs.declared.links.Link.{Link}
use Rattle.xd_patterns.specs.declared.chains.Piece.{Piece}
use Rattle.xd_patterns.specs.declared.expand.Found.{Found}
use Rattle.xd_continuations.proofs.ChainLemmas.{list_none, kept_length}
use Rattle.xd_patterns.proofs.TablesLemmas.{adds_none, adds_then, adds_link}
use Rattle.xd_patterns.proofs.StepArms.{like_piece, like_part}
use Rattle.xd_patterns.proofs.Expansion.{found_choice}
use Rattle.xd_patterns.proofs.StateLemmas.{adds_text, adds_element, continuation_kept}

pub not_stop : (t : Tables) (m : List (Link ℕ)) (c : List (Link Piece)) (f : Found) → f.is_stop ≡ false → (f.is_stop ≡ true) ⊎ IsFound t m c f → IsFound t m c f
not_stop t m c f e (inl h) = let z : true ≡ false = sym h ∙ e in cc
not_stop t m c f e (inr i) = i

item_is : (t : Tables) (m : List (Link ℕ)) (c : List (Link Piece)) (f : Found) (T : Tree) → f.is_stop ≡ false → piece_part t f.piece ≡ T → choice_at t m c f ≡ item_choice (words_at t m f.piece.marks) T (continuation t m c f.rest)
item_is t m c f T e h =
    ap (λ b. cond b Runs.stop (item_choice (words_at t m f.piece.marks) (piece_part t f.piece) (continuation t m c f.rest))) e
    ∙ ap (λ U. item_choice (words_at t m f.piece.marks) U (continuation t m c f.rest)) h

module _ (t : Tables) (m : List (Link ℕ)) (c : List (Link Piece)) (base : ℕ) (states : List ℕ) (auto : Automaton) (from : State) (here : state_number from < length auto) (count : length auto ≡ base + length states)
    (p : ArePieces t m c) (ns : AllByRecursion (λ n. n ≤ length c) states) (f : Found) (plain : f.is_stop ≡ false) (found : IsFound t m c f) where
  pub text_arm : (T : Tree) (w v : TextClass) → piece_part t f.piece ≡ T → v ≡ w → ((xs : List (List ℕ)) (K : Continuation) → item_choice xs T K ≡ take_text w xs K) → (states' : List ℕ) (auto' : Automaton) (ts ts' ls ls' : List ℕ) →
      AddsText f.piece.marks f.rest v from base states states' auto auto' ts ts' ls ls' → AddsMove t m c c base states states' auto auto' from ts ts' ls ls' (choice_at t m c f)
  text_arm T w v e q item states' auto' ts ts' ls ls' x =
      subst (AddsMove t m c c base states states' auto auto' from ts ts' ls ls')
      (ap (λ u. take_text u (words_at t m f.piece.marks) (continuation t m c f.rest)) q ∙ sym (item_is t m c f T plain e ∙ item (words_at t m f.piece.marks) (continuation t m c f.rest)))
      (adds_text t m c base states auto from here count p ns c (adds_none t m c) states' (x.bounded (length c) found.rest ns) auto' ts ts' ls ls' f.piece.marks f.rest v found.piece.marked x)

  pub elem_arm : (w v : LabelClass) (q : Piece) → part_of (rows_of t f.piece.of_pattern) f.piece ≡ Elem w (part_of (rows_of t f.piece.of_pattern) q) → IsLike (rows_of t f.piece.of_pattern) f.piece.of_pattern 0 q → v ≡ w →
      (c' : List (Link Piece)) (k : ℕ) → k ≤ length c' → HasLink c (record { item = q; behind = 0 }) c' → list_at c' k ≡ q ∷ list_at c 0 → (states' : List ℕ) (auto' : Automaton) (ts ts' ls ls' : List ℕ) →
      AddsElement f.piece.marks f.rest v k from base states states' auto auto' ts ts' ls ls' → AddsMove t m c c' base states states' auto auto' from ts ts' ls ls' (choice_at t m c f)
  elem_arm w v q e like same c' k hk link list states' auto' ts ts' ls ls' x =
      let T : Tree = piece_part t q in
      let e' : piece_part t f.piece ≡ Elem w T = e ∙ ap (Elem w) (like_part t f.piece.of_pattern 0 q like) in
      let a = adds_link t m c c' (record { item = q; behind = 0 }) (like_piece t m f.piece.of_pattern 0 q (omega arith) like) link in
      let l = kept_length c c' a.cells in
      let r = found.rest in
      let none : words_at t m q.marks ≡ [] = ap (words_at t m) like.marked ∙ ap (map (λ i. variable_of (form_at t.patterns i))) (list_none m) in
      let inside : continuation t m c' k ≡ start T =
      ap (map (piece_at t m)) (list ∙ ap (λ z. q ∷ z) (list_none c)) ∙ ap (λ xs. marked xs T ∷ []) none in
      let bound : AllByRecursion (λ n. n ≤ length c') states = all_more (λ n. n ≤ length c) (λ n. n ≤ length c') states (λ n h. omega arith) ns in
      subst (AddsMove t m c c' base states states' auto auto' from ts ts' ls ls')
      (ap (λ C. take_element v C (words_at t m f.piece.marks) (continuation t m c' f.rest)) inside
      ∙ ap (λ K. take_element v (start T) (words_at t m f.piece.marks) K) (continuation_kept t m m c c' a p f.rest found.rest)
      ∙ ap (λ u. take_element u (start T) (words_at t m f.piece.marks) (continuation t m c f.rest)) same
      ∙ sym (item_is t m c f (Elem w T) plain e'))
      (adds_element t m c base states auto from here count p ns c' a states' (x.bounded (length c') (omega arith) hk bound) auto' ts ts' ls ls' f.piece.marks f.rest k v found.piece.marked x)

-- one after the other

pub grows_then : (t : Tables) (m n o : List (Link ℕ)) (c d e : List (Link Piece)) (base : ℕ) (x y z : List ℕ) (a b g : Automaton) (s : State) → Grows t m n c d base x y a b s → Grows t n o d e base y z b g s → Grows t m o c e base x z a g s
grows_then t m n o c d e base x y z a b g s i j = record {
  adds = adds_then t m n o c d e i.adds j.adds;
  more = i.more ++ j.more;
  grown = j.grown ∙ ap (λ w. w ++ j.more) i.grown ∙ append_assoc x i.more j.more;
  numbers = λ h. j.numbers (i.numbers h);
  count = j.count;
  longer = let k = i.longer in let l = j.longer in omega arith;
  moves = λ q h. j.moves q h ∙ i.moves q h;
}

module _ (t : Tables) (m : List (Link ℕ)) (c : List (Link Piece)) (base : ℕ) (states : List ℕ) (auto : Automaton) (from : State) where
  pub adding_none : length auto ≡ base + length states → ArePieces t m c → AllByRecursion (λ n. n ≤ length c) states → moves_at auto from ≡ no_moves false → IsAdding t m c c base states states auto auto from [] [] []
  adding_none count p ns fresh = record {
    grows = record { adds = adds_none t m c; more = []; grown = sym (append-nil states); numbers = λ h. h; count = count; longer = omega arith; moves = λ s h. refl };
    pieces = p;
    bounded = ns;
    has = subst (λ v. HasMoves t m (standing t m c base states) v [] [] []) (sym fresh) (record { last = refl; text_moves = tt; label_moves = tt });
  }

  pub adding_more : ArePieces t m c → (d d' : List (Link Piece)) (x x' : List ℕ) (b b' : Automaton) (ts ts' ls ls' : List ℕ) (fs : List Found) (f : Found) → IsAdding t m c d base states x auto b from ts ls fs →
      (f.is_stop ≡ true) ⊎ IsFound t m c f → AddsMove t m d d' base x x' b b' from ts ts' ls ls' (choice_at t m d f) → IsAdding t m c d' base states x' auto b' from ts' ls' (fs ++ f ∷ [])
  adding_more p d d' x x' b b' ts ts' ls ls' fs f i found a =
      let e = found_choice t m m c d i.grows.adds p f found in record {
        grows = grows_then t m m m c d d' base states x x' auto b b' from i.grows a.grows;
        pieces = a.grows.adds.pieces i.pieces;
        bounded = a.grows.numbers i.bounded;
        has =
            subst (HasMoves t m (standing t m d' base x') (moves_at b' from) ts' ls') (sym (map_append (choice_at t m c) fs (f ∷ [])))
            (subst (λ ch. HasMoves t m (standing t m d' base x') (moves_at b' from) ts' ls' (map (choice_at t m c) fs ++ ch ∷ [])) e (a.has (map (choice_at t m c) fs) i.has));
      }

pub makes : (E : Definitions) (t : Tables) (m m' : List (Link ℕ)) (c d c' : List (Link Piece)) (base number : ℕ) (states states' : List ℕ) (auto auto' : Automaton) (from : State) (ts ls : List ℕ) (fs : List Found) →
    AllByRecursion (λ n. n ≤ length c) states → length auto ≡ base + length states → AreFound E t m m' c d number fs → IsAdding t m' d c' base states states' auto auto' from ts ls fs →
    Makes E t m m' c c' base number states states' auto auto' from ts ls
makes E t m m' c d c' base number states states' auto auto' from ts ls fs ns count f i = record {
  grows = record {
    adds = adds_then t m m' m' c d c' f.adds i.grows.adds;
    more = i.grows.more;
    grown = i.grows.grown;
    numbers = λ h. i.bounded;
    count = i.grows.count;
    longer = i.grows.longer;
    moves = i.grows.moves;
  };
  bounded = i.bounded;
  pieces = i.pieces;
  found = map (choice_at t m' d) fs;
  alike = f.alike;
  has = i.has;
}

pub numbers_grow : (t : Tables) (m m' : List (Link ℕ)) (c c' : List (Link Piece)) → Adds t m m' c c' → (ns : List ℕ) → AllByRecursion (λ n. n ≤ length c) ns → AllByRecursion (λ n. n ≤ length c') ns
numbers_grow t m m' c c' a ns h = let l = kept_length c c' a.cells in all_more (λ n. n ≤ length c) (λ n. n ≤ length c') ns (λ n k. omega arith) h

pub found_at : (t : Tables) (m : List (Link ℕ)) (c : List (Link Piece)) (fs : List Found) (i : ℕ) (d : Found) → StandFound t m c fs → i < length fs → ((get_or fs i d).is_stop ≡ true) ⊎ IsFound t m c (get_or fs i d)
found_at t m c [] i d s h = absurd (omega arith)
found_at t m c (f ∷ fs) zero d s h = s.0
found_at t m c (f ∷ fs) (suc i) d s h = found_at t m c fs i d s.1 (omega arith)

pub still_found : (t : Tables) (m : List (Link ℕ)) (c c' : List (Link Piece)) → KeepsLinks c c' → (f : Found) → (f.is_stop ≡ true) ⊎ IsFound t m c f → (f.is_stop ≡ true) ⊎ IsFound t m c' f
still_found t m c c' k f (inl e) = inl e
still_found t m c c' k f (inr i) = inr (record { piece = i.piece; item = i.item; rest = let l = kept_length c c' k in let h = i.rest in omega arith })
