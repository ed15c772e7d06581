-- States that are made for lists.
use Rattle.std.proofs.Common.{◌≡◌, ℕ, zero, suc, ◌+◌, ◌-◌, ◌<◌, ◌≤◌, ◌⊎◌, ◌||◌, nat_lt, arith, Bool, true, false, cond, List, [], ◌∷◌, ◌++◌, length, length-append, append-nil, append_assoc, get_or, get_or-set_same, get_or-set_other, Option, Some, None, refl, ap, sym, subst, ◌∙◌, inl, inr}
use Rattle.std.proofs.Math.ListN.{length-set}
use Rattle.std.proofs.lemmas.Bool.Decides.{nat_tests}
use Rattle.std.specs.List.{AllByRecursion, slice_get}
use Rattle.xd_doc.specs.Classes.{NameClass, LabelClass, TextClass, is_named}
use Rattle.xd_doc.proofs.SortedNames.{or_false}
use Rattle.xd_doc.proofs.Bools.{or_true}
use Rattle.xd_doc.proofs.Lists.{all_more, all_append}
use Rattle.xd_auto.proofs.Universals.{no_names}
use Rattle.xd_meaning.specs.Heads.{all_texts}
use Rattle.xd_auto.specs.declared.auto.State.{State}
use Rattle.xd_auto.specs.declared.auto.LabelMove.{LabelMove}
use Rattle.xd_auto.specs.declared.auto.TextMove.{TextMove}
use Rattle.xd_auto.specs.Automaton.{Automaton, StateMoves, moves_at, no_moves, state_number, with_moves, with_last}
use Rattle.xd_pattern_runs.specs.Runs.{Continuation, Choice, stop, take_text, take_element, has_stop, texts_of, elements_of}
use Rattle.xd_pattern_runs.specs.Mirrors.{Ahead, SameText, SameElement}
use Rattle.xd_continuations.specs.Chains.{list_at, KeepsLinks}
use Rattle.xd_patterns.specs.Tasks.{Tables, words_at, pieces_at, continuation, ArePieces, Adds}
use Rattle.xd_patterns.specs.Marked.{marked_text, marked_label}
use Rattle.xd_patterns.specs.Compiling.{stands, standing, FindsState, AddsStates, AddsText, AddsElement, AreMoves, TextsAre, LabelsAre, HasMoves, AddsMove}
use Rattle.xd_continuations.specs.declared.links.Link.{Link}
use Rattle.xd_patterns.specs.declared.chains.Piece.{Piece}
use Rattle.xd_continuations.proofs.ChainLemmas.{kept_list, kept_length, kept_same}
use Rattle.xd_patterns.proofs.TablesLemmas.{list_pieces, same_words, same_pieces, adds_none}

-- a class that names nothing, but is excepted, is that of all texts

pub names_nothing : (w : NameClass) (items : List (List ℕ)) → items ≡ [] → ((x : List ℕ) → is_named w.names x ≡ is_named items x) → w.except ≡ true → w ≡ all_texts
names_nothing w items e h x =
    let n : w.names ≡ [] = no_names w.names (λ y. h y ∙ ap (λ xs. is_named xs y) e) in
    ap (λ (ns : List (List ℕ)). let c : NameClass = record { names = ns; except = w.except } in c) n ∙ ap (λ (b : Bool). let c : NameClass = record { names = []; except = b } in c) x

-- moves of states that are after the others

pub new_moves : (a : Automaton) (s : State) → moves_at (a ++ no_moves false ∷ []) s ≡ moves_at a s
new_moves a s = go a (state_number s)
  where
    go : (a : Automaton) (n : ℕ) → get_or (a ++ no_moves false ∷ []) n (no_moves false) ≡ get_or a n (no_moves false)
    go [] zero = refl
    go [] (suc n) = refl
    go (x ∷ a) zero = refl
    go (x ∷ a) (suc n) = go a n

pub finds_adds : (number base : ℕ) (old new : List ℕ) (a b : Automaton) (s : State) → FindsState number base old new a b s → AddsStates base old new a b
finds_adds number base old new a b s f = go f.added
  where
    go : ((new ≡ old) × (b ≡ a)) ⊎ ((new ≡ old ++ number ∷ []) × (b ≡ a ++ no_moves false ∷ [])) → AddsStates base old new a b
    go (inl h) = record {
      more = [];
      grown = h.0 ∙ sym (append-nil old);
      count = f.count;
      longer = let e = ap length h.1 in omega arith;
      moves = λ q. ap (λ x. moves_at x q) h.1;
    }
    go (inr h) = record {
      more = number ∷ [];
      grown = h.0;
      count = f.count;
      longer = let e = ap length h.1 in omega (arith, length-append a (no_moves false ∷ []));
      moves = λ q. ap (λ x. moves_at x q) h.1 ∙ new_moves a q;
    }

pub adds_states_then : (base : ℕ) (x y z : List ℕ) (a b d : Automaton) → AddsStates base x y a b → AddsStates base y z b d → AddsStates base x z a d
adds_states_then base x y z a b d s r = record {
  more = s.more ++ r.more;
  grown = r.grown ∙ ap (λ w. w ++ r.more) s.grown ∙ append_assoc x s.more r.more;
  count = r.count;
  longer = let i = s.longer in let j = r.longer in omega arith;
  moves = λ q. r.moves q ∙ s.moves q;
}

pub finds_bounded : (number base : ℕ) (old new : List ℕ) (a b : Automaton) (s : State) → FindsState number base old new a b s → (k : ℕ) → number ≤ k → AllByRecursion (λ n. n ≤ k) old → AllByRecursion (λ n. n ≤ k) new
finds_bounded number base old new a b s f k h x = go f.added
  where
    go : ((new ≡ old) × (b ≡ a)) ⊎ ((new ≡ old ++ number ∷ []) × (b ≡ a ++ no_moves false ∷ [])) → AllByRecursion (λ n. n ≤ k) new
    go (inl e) = subst (AllByRecursion (λ n. n ≤ k)) (sym e.0) x
    go (inr e) = subst (AllByRecursion (λ n. n ≤ k)) (sym e.0) (all_append (λ n. n ≤ k) old (number ∷ []) x (h, tt))

pub get_kept : (xs ys : List ℕ) (n k : ℕ) → slice_get xs n ≡ Some k → slice_get (xs ++ ys) n ≡ Some k
get_kept [] ys n k e = cc
get_kept (x ∷ xs) ys zero k e = e
get_kept (x ∷ xs) ys (suc n) k e = get_kept xs ys n k e

pub there_kept : (base : ℕ) (x y : List ℕ) (a b : Automaton) (n k : ℕ) → AddsStates base x y a b → slice_get x n ≡ Some k → slice_get y n ≡ Some k
there_kept base x y a b n k s e = subst (λ z. slice_get z n ≡ Some k) (sym s.grown) (get_kept x s.more n k e)

pub get_all : (P : ℕ → Type 0) (xs : List ℕ) → AllByRecursion P xs → (n k : ℕ) → slice_get xs n ≡ Some k → P k
get_all P [] a n k e = cc
get_all P (x ∷ xs) a zero k e = let s : x ≡ k = cc in subst P s a.0
get_all P (x ∷ xs) a (suc n) k e = get_all P xs a.1 n k e

-- what stands ahead of states stays

pub continuation_kept : (t : Tables) (m m' : List (Link ℕ)) (c c' : List (Link Piece)) → Adds t m m' c c' → ArePieces t m c → (n : ℕ) → n ≤ length c → continuation t m' c' n ≡ continuation t m c n
continuation_kept t m m' c c' a p n h = ap (pieces_at t m') (kept_list c c' a.cells n h) ∙ same_pieces t m m' a.marks (list_at c n) (list_pieces t m c p n)

abbrev pub StaysAhead : Ahead State → Ahead State → Type 0
StaysAhead A B = (s : State) (K : Continuation) → A s ≡ Some K → B s ≡ Some K

pub standing_kept : (t : Tables) (m m' : List (Link ℕ)) (c c' : List (Link Piece)) (base : ℕ) (states states' more : List ℕ) → Adds t m m' c c' → ArePieces t m c → AllByRecursion (λ n. n ≤ length c) states →
    states' ≡ states ++ more → StaysAhead (standing t m c base states) (standing t m' c' base states')
standing_kept t m m' c c' base states states' more a p ns g s K e = go (nat_lt (state_number s) base) (slice_get states (state_number s - base)) refl e
  where
    go : (b : Bool) (o : Option ℕ) → slice_get states (state_number s - base) ≡ o → cond b None (stands t m c o) ≡ Some K → cond b None (stands t m' c' (slice_get states' (state_number s - base))) ≡ Some K
    go true o h e = cc
    go false None h e = cc
    go false (Some n) h e =
        let q : slice_get states' (state_number s - base) ≡ Some n = subst (λ z. slice_get z (state_number s - base) ≡ Some n) (sym g) (get_kept states more (state_number s - base) n h) in
        ap (stands t m' c') q ∙ ap (λ (L : Continuation). Some L) (continuation_kept t m m' c c' a p n (get_all (λ k. k ≤ length c) states ns (state_number s - base) n h)) ∙ e

not_below : (n base : ℕ) → base ≤ n → nat_lt n base ≡ false
not_below n base h = grind (arith, nat_tests)

-- what stands ahead of a state that was found
pub standing_at : (t : Tables) (m : List (Link ℕ)) (c : List (Link Piece)) (base : ℕ) (states : List ℕ) (s : State) (n : ℕ) → base ≤ state_number s → slice_get states (state_number s - base) ≡ Some n →
    standing t m c base states s ≡ Some (continuation t m c n)
standing_at t m c base states s n h e = ap (λ b. cond b None (stands t m c (slice_get states (state_number s - base)))) (not_below (state_number s) base h) ∙ ap (stands t m c) e

are_kept : {V W N : Type 0} (t : Tables) (m m' : List (Link ℕ)) (f : List (List ℕ) → V → W) (R S : W → N → Type 0) → KeepsLinks m m' → ((w : W) (n : N) → R w n → S w n) → (is : List ℕ) (vs : List V) (ns : List N) →
    AreMoves t m f R is vs ns → AreMoves t m' f S is vs ns
are_kept t m m' f R S k h [] [] [] x = tt
are_kept t m m' f R S k h (i ∷ is) (v ∷ vs) (n ∷ ns) x = (
  let l = kept_length m m' k in let j = x.0 in omega arith,
  subst (λ xs. S (f xs v) n) (sym (same_words t m m' k i x.0)) (h (f (words_at t m i) v) n x.1),
  are_kept t m m' f R S k h is vs ns x.2,
)
are_kept t m m' f R S k h [] [] (n ∷ ns) x = absurd x
are_kept t m m' f R S k h [] (v ∷ vs) ns x = absurd x
are_kept t m m' f R S k h (i ∷ is) [] ns x = absurd x
are_kept t m m' f R S k h (i ∷ is) (v ∷ vs) [] x = absurd x

pub moves_kept : (t : Tables) (m m' : List (Link ℕ)) (A B : Ahead State) (v : StateMoves) (ts ls : List ℕ) (cs : List Choice) → KeepsLinks m m' → StaysAhead A B → HasMoves t m A v ts ls cs → HasMoves t m' B v ts ls cs
moves_kept t m m' A B v ts ls cs k h x = record {
  last = x.last;
  text_moves =
      are_kept t m m' marked_text (SameText A) (SameText B) k (λ w n e. record { words = e.words; marks = e.marks; rest = h w.rest n.rest e.rest }) ts v.texts (texts_of cs) x.text_moves;
  label_moves =
      are_kept t m m' marked_label (SameElement A) (SameElement B) k (λ w n e. record { class = e.class; content = h w.content n.content e.content; marks = e.marks; rest = h w.rest n.rest e.rest }) ls
      v.labels (elements_of cs) x.label_moves;
}

-- one more move

are_push : {V W N : Type 0} (t : Tables) (m : List (Link ℕ)) (f : List (List ℕ) → V → W) (R : W → N → Type 0) (is : List ℕ) (vs : List V) (ns : List N) (i : ℕ) (v : V) (n : N) → AreMoves t m f R is vs ns → i ≤ length m →
    R (f (words_at t m i) v) n → AreMoves t m f R (is ++ i ∷ []) (vs ++ v ∷ []) (ns ++ n ∷ [])
are_push t m f R [] [] [] i v n x a b = (a, b, tt)
are_push t m f R (j ∷ is) (w ∷ vs) (o ∷ ns) i v n x a b = (x.0, x.1, are_push t m f R is vs ns i v n x.2 a b)
are_push t m f R [] [] (o ∷ ns) i v n x a b = absurd x
are_push t m f R [] (w ∷ vs) ns i v n x a b = absurd x
are_push t m f R (j ∷ is) [] ns i v n x a b = absurd x
are_push t m f R (j ∷ is) (w ∷ vs) [] i v n x a b = absurd x

texts_more : (cs : List Choice) (x : Choice) → texts_of (cs ++ x ∷ []) ≡ texts_of cs ++ texts_of (x ∷ [])
texts_more [] x = refl
texts_more (stop ∷ cs) x = texts_more cs x
texts_more (take_text w xs R ∷ cs) x = ap (λ z. record { words = w; marks = xs; rest = R } ∷ z) (texts_more cs x)
texts_more (take_element c C xs R ∷ cs) x = texts_more cs x

elements_more : (cs : List Choice) (x : Choice) → elements_of (cs ++ x ∷ []) ≡ elements_of cs ++ elements_of (x ∷ [])
elements_more [] x = refl
elements_more (stop ∷ cs) x = elements_more cs x
elements_more (take_text w xs R ∷ cs) x = elements_more cs x
elements_more (take_element c C xs R ∷ cs) x = ap (λ z. record { class = c; content = C; marks = xs; rest = R } ∷ z) (elements_more cs x)

stop_more : (cs : List Choice) (x : Choice) → has_stop (cs ++ x ∷ []) ≡ (has_stop cs || has_stop (x ∷ []))
stop_more [] x = refl
stop_more (stop ∷ cs) x = refl
stop_more (take_text w xs R ∷ cs) x = stop_more cs x
stop_more (take_element c C xs R ∷ cs) x = stop_more cs x

pub has_stop_more : (t : Tables) (m : List (Link ℕ)) (A : Ahead State) (v : StateMoves) (ts ls : List ℕ) (cs : List Choice) → HasMoves t m A v ts ls cs → HasMoves t m A (record v { last = true }) ts ls (cs ++ stop ∷ [])
has_stop_more t m A v ts ls cs x = record {
  last = sym (or_true (has_stop cs)) ∙ sym (stop_more cs stop);
  text_moves = subst (TextsAre t m A ts v.texts) (sym (texts_more cs stop ∙ append-nil (texts_of cs))) x.text_moves;
  label_moves = subst (LabelsAre t m A ls v.labels) (sym (elements_more cs stop ∙ append-nil (elements_of cs))) x.label_moves;
}

pub has_text_more : (t : Tables) (m : List (Link ℕ)) (A : Ahead State) (v : StateMoves) (ts ls : List ℕ) (cs : List Choice) (i : ℕ) (w : TextMove) (R : Continuation) → HasMoves t m A v ts ls cs → i ≤ length m → A w.rest ≡ Some R →
    HasMoves t m A (record v { texts = v.texts ++ w ∷ [] }) (ts ++ i ∷ []) ls (cs ++ take_text w.words (words_at t m i) R ∷ [])
has_text_more t m A v ts ls cs i w R x h r =
    let y : Choice = take_text w.words (words_at t m i) R in record {
      last = x.last ∙ sym (or_false (has_stop cs)) ∙ sym (stop_more cs y);
      text_moves = subst (TextsAre t m A (ts ++ i ∷ []) (v.texts ++ w ∷ [])) (sym (texts_more cs y)) (are_push t m marked_text (SameText A) ts v.texts (texts_of cs) i w (record { words = w.words; marks = words_at t m i; rest = R }) x.text_moves h (record { words = refl; marks = refl; rest = r }));
      label_moves = subst (LabelsAre t m A ls v.labels) (sym (elements_more cs y ∙ append-nil (elements_of cs))) x.label_moves;
    }

pub has_label_more : (t : Tables) (m : List (Link ℕ)) (A : Ahead State) (v : StateMoves) (ts ls : List ℕ) (cs : List Choice) (i : ℕ) (w : LabelMove) (C R : Continuation) → HasMoves t m A v ts ls cs → i ≤ length m → A w.content ≡ Some C →
    A w.rest ≡ Some R → HasMoves t m A (record v { labels = v.labels ++ w ∷ [] }) ts (ls ++ i ∷ []) (cs ++ take_element w.class C (words_at t m i) R ∷ [])
has_label_more t m A v ts ls cs i w C R x h q r =
    let y : Choice = take_element w.class C (words_at t m i) R in record {
      last = x.last ∙ sym (or_false (has_stop cs)) ∙ sym (stop_more cs y);
      text_moves = subst (TextsAre t m A ts v.texts) (sym (texts_more cs y ∙ append-nil (texts_of cs))) x.text_moves;
      label_moves =
          subst (LabelsAre t m A (ls ++ i ∷ []) (v.labels ++ w ∷ [])) (sym (elements_more cs y))
          (are_push t m marked_label (SameElement A) ls v.labels (elements_of cs) i w (record { class = w.class; content = C; marks = words_at t m i; rest = R }) x.label_moves h
          (record { class = refl; content = q; marks = refl; rest = r }));
    }

-- what a changed state has

at_changed : (a : Automaton) (s : State) (v : StateMoves) → state_number s < length a → moves_at (with_moves a s v) s ≡ v
at_changed a s v h = get_or-set_same a (state_number s) v (no_moves false) h

at_others : (a : Automaton) (s q : State) (v : StateMoves) → (state_number q ≡ state_number s → ⊥) → moves_at (with_moves a s v) q ≡ moves_at a q
at_others a s q v h = get_or-set_other a (state_number s) (state_number q) v (no_moves false) h

numbers_kept : (c c' : List (Link Piece)) → KeepsLinks c c' → (ns : List ℕ) → AllByRecursion (λ n. n ≤ length c) ns → AllByRecursion (λ n. n ≤ length c') ns
numbers_kept c c' k ns a = let l = kept_length c c' k in all_more (λ n. n ≤ length c) (λ n. n ≤ length c') ns (λ n h. omega arith) a

module _ (t : Tables) (m : List (Link ℕ)) (c : List (Link Piece)) (base : ℕ) (states : List ℕ) (auto : Automaton) (from : State) (here : state_number from < length auto) (count : length auto ≡ base + length states)
    (p : ArePieces t m c) (ns : AllByRecursion (λ n. n ≤ length c) states) where
  pub adds_stop : (ts ls : List ℕ) (auto' : Automaton) → auto' ≡ with_last auto from true → AddsMove t m c c base states states auto auto' from ts ts ls ls stop
  adds_stop ts ls auto' e =
      let v : StateMoves = record (moves_at auto from) { last = true } in
      let l : length (with_moves auto from v) ≡ length auto = length-set auto (state_number from) v in
      subst (λ b. AddsMove t m c c base states states auto b from ts ts ls ls stop) (sym e) (record {
        grows = record {
          adds = adds_none t m c;
          more = [];
          grown = sym (append-nil states);
          numbers = λ a. a;
          count = l ∙ count;
          longer = omega arith;
          moves = λ s h. at_others auto from s v h;
        };
        has = λ cs x. subst (λ w. HasMoves t m (standing t m c base states) w ts ls (cs ++ stop ∷ [])) (sym (at_changed auto from v here)) (has_stop_more t m (standing t m c base states) (moves_at auto from) ts ls cs x);
      })

  -- one more move, where states were added and the moves are these
  adds_choice : (c' : List (Link Piece)) → Adds t m m c c' → (states' : List ℕ) → AllByRecursion (λ n. n ≤ length c') states' → (auto' made : Automaton) → AddsStates base states states' auto made →
      (u : StateMoves) → auto' ≡ with_moves made from u → (ts ts' ls ls' : List ℕ) (choice : Choice) →
      ((cs : List Choice) → HasMoves t m (standing t m c' base states') (moves_at made from) ts ls cs → HasMoves t m (standing t m c' base states') u ts' ls' (cs ++ choice ∷ [])) →
      AddsMove t m c c' base states states' auto auto' from ts ts' ls ls' choice
  adds_choice c' a states' ns' auto' made s u e ts ts' ls ls' choice more =
      let lon = s.longer in
      let here' : state_number from < length made = omega arith in
      let l : length auto' ≡ length made = ap length e ∙ length-set made (state_number from) u in
      record {
        grows = record {
          adds = a;
          more = s.more;
          grown = s.grown;
          numbers = λ b. ns';
          count = l ∙ s.count;
          longer = omega arith;
          moves = λ q k. ap (λ b. moves_at b q) e ∙ at_others made from q u k ∙ s.moves q;
        };
        has = λ cs y.
            let A : Ahead State = standing t m c' base states' in
            let z = moves_kept t m m (standing t m c base states) A (moves_at auto from) ts ls cs (kept_same m) (standing_kept t m m c c' base states states' s.more a p ns s.grown) y in
            subst (λ b. HasMoves t m A b ts' ls' (cs ++ choice ∷ [])) (sym (ap (λ b. moves_at b from) e ∙ at_changed made from u here'))
            (more cs (subst (λ b. HasMoves t m A b ts ls cs) (sym (s.moves from)) z));
      }

  pub adds_text : (c' : List (Link Piece)) → Adds t m m c c' → (states' : List ℕ) → AllByRecursion (λ n. n ≤ length c') states' → (auto' : Automaton) (ts ts' ls ls' : List ℕ) (i n : ℕ) (w : TextClass) → i ≤ length m →
      AddsText i n w from base states states' auto auto' ts ts' ls ls' → AddsMove t m c c' base states states' auto auto' from ts ts' ls ls' (take_text w (words_at t m i) (continuation t m c' n))
  adds_text c' a states' ns' auto' ts ts' ls ls' i n w h x =
      let A : Ahead State = standing t m c' base states' in
      let v : TextMove = record { words = w; rest = x.rest } in
      let u : StateMoves = record (moves_at x.made from) { texts = (moves_at x.made from).texts ++ v ∷ [] } in
      let y : Choice = take_text w (words_at t m i) (continuation t m c' n) in
      adds_choice c' a states' ns' auto' x.made x.states u x.auto ts ts' ls ls' y
      (λ cs z.
      let r = has_text_more t m A (moves_at x.made from) ts ls cs i v (continuation t m c' n) z h (standing_at t m c' base states' x.rest n x.after x.there) in
      subst (λ b. HasMoves t m A u b ls' (cs ++ y ∷ [])) (sym x.marked) (subst (λ b. HasMoves t m A u (ts ++ i ∷ []) b (cs ++ y ∷ [])) (sym x.others) r))

  pub adds_element : (c' : List (Link Piece)) → Adds t m m c c' → (states' : List ℕ) → AllByRecursion (λ n. n ≤ length c') states' → (auto' : Automaton) (ts ts' ls ls' : List ℕ) (i n k : ℕ) (w : LabelClass) → i ≤ length m →
      AddsElement i n w k from base states states' auto auto' ts ts' ls ls' →
      AddsMove t m c c' base states states' auto auto' from ts ts' ls ls' (take_element w (continuation t m c' k) (words_at t m i) (continuation t m c' n))
  adds_element c' a states' ns' auto' ts ts' ls ls' i n k w h x =
      let A : Ahead State = standing t m c' base states' in
      let v : LabelMove = record { class = w; content = x.content; rest = x.rest } in
      let u : StateMoves = record (moves_at x.made from) { labels = (moves_at x.made from).labels ++ v ∷ [] } in
      let y : Choice = take_element w (continuation t m c' k) (words_at t m i) (continuation t m c' n) in
      adds_choice c' a states' ns' auto' x.made x.states u x.auto ts ts' ls ls' y
      (λ cs z.
      let r = has_label_more t m A (moves_at x.made from) ts ls cs i v (continuation t m c' k) (continuation t m c' n) z h (standing_at t m c' base states' x.content k x.content_after x.content_there)
      (standing_at t m c' base states' x.rest n x.after x.there) in
      subst (λ b. HasMoves t m A u ts' b (cs ++ y ∷ [])) (sym x.marked) (subst (λ b. HasMoves t m A u b (ls ++ i ∷ []) (cs ++ y ∷ [])) (sym x.others) r))
