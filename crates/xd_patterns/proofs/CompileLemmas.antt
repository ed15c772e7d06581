-- States get their moves one after the other.
use Rattle.std.proofs.Common.{◌≡◌, ℕ, zero, suc, ◌+◌, ◌-◌, ◌<◌, ◌≤◌, ◌⊎◌, nat_lt, arith, Bool, true, false, cond, List, [], ◌∷◌, ◌++◌, map, length, length-append, append-nil, append_assoc, get_or, Option, Some, None, refl, ap, sym, subst, ◌∙◌, inl, inr}
use Rattle.std.proofs.lemmas.Bool.Decides.{nat_tests}
use Rattle.std.proofs.Math.ListN.{get_or-append}
use Rattle.std.proofs.Math.Seq.{get_or-append_seam}
use Rattle.std.specs.List.{AllByRecursion, AllZip, slice_get}
use Rattle.xd_doc.proofs.Numbers.{less_cases}
use Rattle.xd_syntax.specs.Tree.{Definitions, Tree}
use Rattle.xd_auto.specs.declared.auto.State.{State}
use Rattle.xd_auto.specs.Automaton.{Automaton, StateMoves, moves_at, no_moves, state_number}
use Rattle.xd_pattern_runs.specs.Alike.{Alike}
use Rattle.xd_pattern_runs.specs.Runs as Runs
use Rattle.xd_pattern_runs.specs.Runs.{Continuation, Choice, choices, start, texts_of, elements_of}
use Rattle.xd_pattern_runs.specs.Steps.{marked}
use Rattle.xd_pattern_runs.specs.Mirrors.{SameText, SameElement, AreMovesOf, Mirrors}
use Rattle.xd_continuations.specs.Chains.{list_at}
use Rattle.xd_patterns.specs.Marked.{marked_text, marked_label, with_each, marked_moves}
use Rattle.xd_patterns.specs.Tasks.{Tables, words_at, piece_part, pieces_at, continuation, ArePieces, Adds}
use Rattle.xd_patterns.specs.Pieces.{form_at, variable_of}
use Rattle.xd_patterns.specs.Compiling.{stands, standing, AreMoves, Makes, IsDone, texts_at, labels_at, rows_in, IsCompiling, marking}
use Rattle.xd_continuations.specs.declared.links.Link.{Link}
use Rattle.xd_patterns.specs.declared.chains.Piece.{Piece}
use Rattle.xd_patterns.specs.declared.compile.StateMarks.{StateMarks}
use Rattle.xd_continuations.proofs.ChainLemmas.{list_none}
use Rattle.xd_patterns.proofs.TablesLemmas.{adds_none, adds_then}
use Rattle.xd_patterns.proofs.StateLemmas.{get_all, get_kept, continuation_kept, standing_kept, moves_kept, standing_at}

rows_push : (rs : List StateMarks) (r : StateMarks) → rows_in (rs ++ r ∷ []) ≡ rows_in rs ++ (r.texts.items, r.labels.items) ∷ []
rows_push [] r = refl
rows_push (x ∷ rs) r = ap (λ z. (x.texts.items, x.labels.items) ∷ z) (rows_push rs r)

row_last : (rs : List (List ℕ × List ℕ)) (r : List ℕ × List ℕ) (i : ℕ) → i ≡ length rs → get_or (rs ++ r ∷ []) i ([], []) ≡ r
row_last rs r i e = ap (λ n. get_or (rs ++ r ∷ []) n ([], [])) e ∙ get_or-append_seam rs r [] ([], [])

pub compiling_none : (E : Definitions) (t : Tables) (m : List (Link ℕ)) (c : List (Link Piece)) (base : ℕ) (states : List ℕ) (auto : Automaton) → ArePieces t m c → AllByRecursion (λ n. n ≤ length c) states → length auto ≡ base + length states →
    ((s : State) → base ≤ state_number s → moves_at auto s ≡ no_moves false) → IsCompiling E t m m c c base states states auto auto 0 []
compiling_none E t m c base states auto p ns count fresh = record {
  adds = adds_none t m c;
  more = [];
  grown = sym (append-nil states);
  pieces = p;
  bounded = ns;
  count = count;
  longer = omega arith;
  old = λ s h. refl;
  fresh = λ s h. fresh s (omega arith);
  lined = refl;
  finished = λ i s h e. absurd (omega arith);
}

done_kept : (E : Definitions) (t : Tables) (m m' : List (Link ℕ)) (c c' : List (Link Piece)) (base : ℕ) (states states' more : List ℕ) (v w : StateMoves) (i : ℕ) (ts us ls ks : List ℕ) → Adds t m m' c c' → ArePieces t m c → AllByRecursion (λ n. n ≤ length c) states →
    states' ≡ states ++ more → w ≡ v → us ≡ ts → ks ≡ ls → IsDone E t m c base states v i ts ls → IsDone E t m' c' base states' w i us ks
done_kept E t m m' c c' base states states' more v w i ts us ls ks a p ns g e f h d =
    subst (λ z. IsDone E t m' c' base states' z i us ks) (sym e)
    (subst (λ z. IsDone E t m' c' base states' v i z ks) (sym f)
    (subst (λ z. IsDone E t m' c' base states' v i ts z) (sym h) (record {
      number = d.number;
      there = subst (λ z. slice_get z i ≡ Some d.number) (sym g) (get_kept states more i d.number d.there);
      found = d.found;
      alike = subst (λ K. Alike d.found (choices E K)) (sym (continuation_kept t m m' c c' a p d.number (get_all (λ k. k ≤ length c) states ns i d.number d.there))) d.alike;
      has = moves_kept t m m' (standing t m c base states) (standing t m' c' base states') v ts ls d.found a.marks (standing_kept t m m' c c' base states states' more a p ns g) d.has;
    })))

pub compiling_more : (E : Definitions) (t : Tables) (m0 m m' : List (Link ℕ)) (c0 c c' : List (Link Piece)) (base number : ℕ) (states0 states states' : List ℕ) (auto0 auto auto' : Automaton) (from : State) (done : ℕ) (rows : List StateMarks) (r : StateMarks) →
    IsCompiling E t m0 m c0 c base states0 states auto0 auto done (rows_in rows) → state_number from ≡ base + done → slice_get states done ≡ Some number → done < length states →
    Makes E t m m' c c' base number states states' auto auto' from r.texts.items r.labels.items → (rows' : List StateMarks) → rows' ≡ rows ++ r ∷ [] → (next : ℕ) → next ≡ done + 1 →
    IsCompiling E t m0 m' c0 c' base states0 states' auto0 auto' next (rows_in rows')
compiling_more E t m0 m m' c0 c c' base number states0 states states' auto0 auto auto' from done rows r i at there room k rows' e next z =
    let table : List (List ℕ × List ℕ) = rows_in rows ++ (r.texts.items, r.labels.items) ∷ [] in
    let lined = i.lined in
    subst (λ n. IsCompiling E t m0 m' c0 c' base states0 states' auto0 auto' n (rows_in rows')) (sym z)
    (subst (IsCompiling E t m0 m' c0 c' base states0 states' auto0 auto' (done + 1)) (sym (ap rows_in e ∙ rows_push rows r)) (record {
      adds = adds_then t m0 m m' c0 c c' i.adds k.grows.adds;
      more = i.more ++ k.grows.more;
      grown = k.grows.grown ∙ ap (λ w. w ++ k.grows.more) i.grown ∙ append_assoc states0 i.more k.grows.more;
      pieces = k.pieces;
      bounded = k.bounded;
      count = k.grows.count;
      longer = let a = i.longer in let b = k.grows.longer in omega arith;
      old = λ s h. k.grows.moves s (λ q. omega arith) ∙ i.old s h;
      fresh = λ s h. k.grows.moves s (λ q. omega arith) ∙ i.fresh s (omega arith);
      lined = omega (arith, length-append (rows_in rows) ((r.texts.items, r.labels.items) ∷ []));
      finished = λ j s h q. go j s q (less_cases j done h);
    }))
  where
    go : (j : ℕ) (s : State) → state_number s ≡ base + j → (j < done) ⊎ (j ≡ done) →
        IsDone E t m' c' base states' (moves_at auto' s) j (texts_at (rows_in rows ++ (r.texts.items, r.labels.items) ∷ []) j) (labels_at (rows_in rows ++ (r.texts.items, r.labels.items) ∷ []) j)
    go j s q (inl h) =
        let lined = i.lined in
        let row = get_or-append (rows_in rows) ((r.texts.items, r.labels.items) ∷ []) ([], []) j (omega arith) in
        done_kept E t m m' c c' base states states' k.grows.more (moves_at auto s) (moves_at auto' s) j (texts_at (rows_in rows) j) _ (labels_at (rows_in rows) j) _ k.grows.adds i.pieces i.bounded k.grows.grown
        (k.grows.moves s (λ w. omega arith)) (ap (λ (x : List ℕ × List ℕ). x.0) row) (ap (λ (x : List ℕ × List ℕ). x.1) row) (i.finished j s h q)
    go j s q (inr h) =
        let lined = i.lined in
        let same : s ≡ from = ap (λ (n : ℕ). let x : State = record { number = n } in x) (q ∙ ap (λ n. base + n) h ∙ sym at) in
        subst (λ x. IsDone E t m' c' base states' (moves_at auto' x) j (texts_at (rows_in rows ++ (r.texts.items, r.labels.items) ∷ []) j) (labels_at (rows_in rows ++ (r.texts.items, r.labels.items) ∷ []) j)) (sym same)
        (subst (λ (x : List ℕ × List ℕ). IsDone E t m' c' base states' (moves_at auto' from) j x.0 x.1) (sym (row_last (rows_in rows) (r.texts.items, r.labels.items) j (omega arith))) (record {
          number = number;
          there = subst (λ w. slice_get w j ≡ Some number) (sym k.grows.grown) (get_kept states k.grows.more j number (ap (slice_get states) h ∙ there));
          found = k.found;
          alike = subst (λ K. Alike k.found (choices E K)) (sym (continuation_kept t m m' c c' k.grows.adds i.pieces number (get_all (λ n. n ≤ length c) states i.bounded done number there))) k.alike;
          has = k.has;
        }))

-- at the end the automaton mirrors the lists

moves_zip : {V W N : Type 0} (t : Tables) (m : List (Link ℕ)) (f : List (List ℕ) → V → W) (R : W → N → Type 0) (is : List ℕ) (vs : List V) (ns : List N) → AreMoves t m f R is vs ns → AllZip R (with_each f (map (words_at t m) is) vs) ns
moves_zip t m f R [] [] [] x = tt
moves_zip t m f R (i ∷ is) (v ∷ vs) (n ∷ ns) x = (x.1, moves_zip t m f R is vs ns x.2)
moves_zip t m f R [] [] (n ∷ ns) x = absurd x
moves_zip t m f R [] (v ∷ vs) ns x = absurd x
moves_zip t m f R (i ∷ is) [] ns x = absurd x
moves_zip t m f R (i ∷ is) (v ∷ vs) [] x = absurd x

pub get_within : (xs : List ℕ) (n k : ℕ) → slice_get xs n ≡ Some k → n < length xs
get_within [] n k e = cc
get_within (x ∷ xs) zero k e = omega arith
get_within (x ∷ xs) (suc n) k e = let h = get_within xs n k e in omega arith

after_base : (n base : ℕ) → nat_lt n base ≡ false → base ≤ n
after_base n base e = grind (arith, nat_tests)

pub compiled_mirrors : (E : Definitions) (t : Tables) (m0 m : List (Link ℕ)) (c0 c : List (Link Piece)) (base : ℕ) (states0 states : List ℕ) (auto0 auto : Automaton) (rows : List (List ℕ × List ℕ)) →
    IsCompiling E t m0 m c0 c base states0 states auto0 auto (length states) rows → Mirrors E (marked_moves auto (marking t m base rows)) (standing t m c base states)
compiled_mirrors E t m0 m c0 c base states0 states auto0 auto rows i = record { found = λ s K e. go s K (nat_lt (state_number s) base) (slice_get states (state_number s - base)) refl refl e }
  where
    go : (s : State) (K : Continuation) (b : Bool) (o : Option ℕ) → nat_lt (state_number s) base ≡ b → slice_get states (state_number s - base) ≡ o → cond b None (stands t m c o) ≡ Some K →
        (cs : List Choice) × Alike cs (choices E K) × AreMovesOf (standing t m c base states) (marked_moves auto (marking t m base rows) s) cs
    go s K true o f g e = cc
    go s K false None f g e = cc
    go s K false (Some n) f g e =
        let h = after_base (state_number s) base f in
        let l = get_within states (state_number s - base) n g in
        let d = i.finished (state_number s - base) s l (omega arith) in
        let same : Some d.number ≡ Some n = sym d.there ∙ g in
        let k : d.number ≡ n = cc in
        let q : continuation t m c n ≡ K = cc in
        let moves_if : Bool → Runs.Moves State = λ x. record {
          last = (moves_at auto s).last;
          texts = with_each marked_text (map (words_at t m) (cond x [] (texts_at rows (state_number s - base)))) (moves_at auto s).texts;
          elements = with_each marked_label (map (words_at t m) (cond x [] (labels_at rows (state_number s - base)))) (moves_at auto s).labels;
        } in (
          d.found,
          subst (λ L. Alike d.found (choices E L)) (ap (continuation t m c) k ∙ q) d.alike,
          subst (λ b. AreMovesOf (standing t m c base states) (moves_if b) d.found) (sym f) (record {
            last = d.has.last;
            texts = moves_zip t m marked_text (SameText (standing t m c base states)) (texts_at rows (state_number s - base)) (moves_at auto s).texts (texts_of d.found) d.has.text_moves;
            elements = moves_zip t m marked_label (SameElement (standing t m c base states)) (labels_at rows (state_number s - base)) (moves_at auto s).labels (elements_of d.found) d.has.label_moves;
          }),
        )

pub number_at : (P : ℕ → Type 0) (xs : List ℕ) (n d : ℕ) → AllByRecursion P xs → n < length xs → P (get_or xs n d)
number_at P [] n d a h = absurd (omega arith)
number_at P (x ∷ xs) zero d a h = a.0
number_at P (x ∷ xs) (suc n) d a h = number_at P xs n d a.1 (omega arith)

pub numbered : (xs : List ℕ) (n d : ℕ) → n < length xs → slice_get xs n ≡ Some (get_or xs n d)
numbered [] n d h = absurd (omega arith)
numbered (x ∷ xs) zero d h = refl
numbered (x ∷ xs) (suc n) d h = numbered xs n d (omega arith)

-- a pattern

pub start_stands : (E : Definitions) (t : Tables) (m0 m : List (Link ℕ)) (c0 c : List (Link Piece)) (base : ℕ) (states0 states : List ℕ) (auto0 auto : Automaton) (rows : List (List ℕ × List ℕ)) (number done : ℕ) (s : State) (q : Piece) (T : Tree) →
    IsCompiling E t m0 m c0 c base states0 states auto0 auto done rows → ArePieces t m0 c0 → number ≤ length c0 → list_at c0 number ≡ q ∷ [] → q.marks ≡ 0 → piece_part t q ≡ T → base ≤ state_number s →
    slice_get states0 (state_number s - base) ≡ Some number → standing t m c base states s ≡ Some (start T)
start_stands E t m0 m c0 c base states0 states auto0 auto rows number done s q T i p h l z e b g =
    standing_at t m c base states s number b (subst (λ w. slice_get w (state_number s - base) ≡ Some number) (sym i.grown) (get_kept states0 i.more (state_number s - base) number g))
    ∙ ap (λ (K : Continuation). Some K)
    (continuation_kept t m0 m c0 c i.adds p number h ∙ ap (pieces_at t m0) l
    ∙ ap (λ xs. marked xs (piece_part t q) ∷ []) (ap (words_at t m0) z ∙ ap (map (λ k. variable_of (form_at t.patterns k))) (list_none m0)) ∙ ap (λ U. marked [] U ∷ []) e)
