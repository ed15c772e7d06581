-- The cases of a goal, and the names of its heads.
use Rattle.std.proofs.Common.{ℕ, zero, suc, ◌+◌, ◌-◌, ◌<◌, ◌≤◌, ◌≡◌, Bool, true, false, cond, List, [], ◌∷◌, ◌++◌, length, take, map, get_or, Some, refl, sym, ap, ◌∙◌, subst, inl, inr, arith, append_assoc}
use Rattle.std.specs.List.{filter, flat_map, AllByRecursion, slice_get}
use Rattle.std.specs.List.Sorted.{IsStrictlySortedBy}
use Rattle.std.specs.Ordering.{nat_cmp}
use Rattle.std.specs.Cmp.Lexicographic.{slice_cmp}
use Rattle.std.proofs.lemmas.List.{take_more, take_all, append-nil, map-append, length-map, length-take-le}
use Rattle.std.proofs.lemmas.List.Folds.{flat_map-map}
use Rattle.std.proofs.lemmas.Grind.{flat_map-append}
use Rattle.xd_doc.specs.Classes.{is_named}
use Rattle.xd_doc.proofs.Lists.{all_append}
use Rattle.xd_auto.specs.declared.auto.State.{State}
use Rattle.xd_auto.specs.declared.auto.LabelMove.{LabelMove}
use Rattle.xd_auto.specs.declared.auto.TextMove.{TextMove}
use Rattle.xd_auto.specs.Automaton.{Automaton, moves_at}
use Rattle.xd_rules.specs.declared.atom.Atom.{Atom}
use Rattle.xd_doc.specs.Members.{IsOneOf}
use Rattle.xd_rules.specs.Heads.{Head, Named, matches, atoms_of, all_atoms, labels_of, texts_of}
use Rattle.xd_rules.specs.Listed.{AreNames, IsSorted}
use Rattle.xd_rules.specs.Rules.{HeadAtom, atoms_from}
use Rattle.xd_rules.specs.Meaning.{keyed}
use Rattle.xd_rules.proofs.Members.{one_of-append_left}
use Rattle.xd_rules.proofs.Atoms.{labels_are_named, texts_are_named, one_of_names}
use Rattle.xd_state_heads.specs.Moves.{label_head, text_head, heads_of}
use Rattle.xd_state_heads.specs.Wants.{HasHead, IsCaseOf, IsHeadNamed, want_of, want_key, wants_at, wants_of}
use Rattle.xd_state_heads.specs.declared.heads.Want.{Want}

pub wants_of-append : (named : Named) (k : ℕ) (hs gs : List (Head State)) → wants_of named k (hs ++ gs) ≡ wants_of named k hs ++ wants_of named (k + length hs) gs
wants_of-append named k [] gs = let e : k ≡ k + 0 = omega arith in ap (λ (n : ℕ). wants_of named n gs) e
wants_of-append named k (h ∷ hs) gs =
    let e : suc k + length hs ≡ k + suc (length hs) = omega arith in
    ap (λ (ws : List Want). wants_at named k h ++ ws) (wants_of-append named (suc k) hs gs ∙ ap (λ (n : ℕ). wants_of named (suc k) hs ++ wants_of named n gs) e)
    ∙ sym (append_assoc (wants_at named k h) (wants_of named (suc k) hs) (wants_of named (k + suc (length hs)) gs))

-- a loop over moves, as heads
pub heads_step : {M : Type 0} (f : M → Head State) (named : Named) (k : ℕ) (ms : List M) (i : ℕ) (m : M) (old items new : List Want) (number : ℕ) (h : Head State) → i < length ms → m ≡ get_or ms i m → number ≡ k + i → h ≡ f m
    → items ≡ old ++ wants_of named k (map f (take i ms)) → new ≡ items ++ wants_at named number h → new ≡ old ++ wants_of named k (map f (take (i + 1) ms))
heads_step {M} f named k ms i m old items new number h lt e count is inv step =
    let place : number ≡ k + length (map f (take i ms)) = omega (arith, length-map (take i ms) f, length-take-le i ms (omega arith)) in
    step ∙ ap (λ (ws : List Want). ws ++ wants_at named number h) inv ∙ append_assoc old (wants_of named k (map f (take i ms))) (wants_at named number h)
    ∙ ap (λ (ws : List Want). old ++ ws)
    (ap (λ (j : ℕ). wants_of named k (map f (take i ms)) ++ wants_at named j h) place
    ∙ ap (λ (x : Head State). wants_of named k (map f (take i ms)) ++ wants_at named (k + length (map f (take i ms))) x) (is ∙ ap f e)
    ∙ ap (λ (ws : List Want). wants_of named k (map f (take i ms)) ++ ws) (sym (append-nil (wants_at named (k + length (map f (take i ms))) (f (get_or ms i m)))))
    ∙ sym (wants_of-append named k (map f (take i ms)) (f (get_or ms i m) ∷ []))
    ∙ ap (wants_of named k) (sym (map-append f (take i ms) (get_or ms i m ∷ [])) ∙ ap (map f) (sym (take_more ms i m lt))))

pub heads_done : {M : Type 0} (f : M → Head State) (named : Named) (k : ℕ) (ms ns : List M) (i : ℕ) (old items : List Want) → ms ≡ ns → length ms ≤ i → items ≡ old ++ wants_of named k (map f (take i ms)) → items ≡ old ++ wants_of named k (map f ns)
heads_done {M} f named k ms ns i old items e le h = h ∙ ap (λ (xs : List M). old ++ wants_of named k (map f xs)) (take_all i ms le ∙ e)

-- the cases of both kinds of moves
pub both_kinds : (named : Named) (a : Automaton) (s : State) (mid new : List Want) → mid ≡ wants_of named 1 (map label_head (moves_at a s).labels)
    → new ≡ mid ++ wants_of named (1 + length (moves_at a s).labels) (map text_head (moves_at a s).texts) → new ≡ wants_of named 1 (heads_of a s)
both_kinds named a s mid new e f =
    f ∙ ap (λ (ws : List Want). ws ++ wants_of named (1 + length (moves_at a s).labels) (map text_head (moves_at a s).texts)) e
    ∙ ap (λ (n : ℕ). wants_of named 1 (map label_head (moves_at a s).labels) ++ wants_of named (1 + n) (map text_head (moves_at a s).texts)) (sym (length-map (moves_at a s).labels label_head))
    ∙ sym (wants_of-append named 1 (map label_head (moves_at a s).labels) (map text_head (moves_at a s).texts))

abbrev pub head_labels : Head State → List (List ℕ)
head_labels h = labels_of h.kind

abbrev pub head_texts : Head State → List (List ℕ)
head_texts h = texts_of h.kind

-- names of heads are those of moves: texts name no labels, and elements no texts
none_named : {M : Type 0} (f : Head State → List (List ℕ)) (g : M → Head State) → ((m : M) → f (g m) ≡ []) → (ms : List M) → flat_map f (map g ms) ≡ []
none_named f g none [] = refl
none_named f g none (m ∷ ms) = rw (none m) (none_named f g none ms)

pub state_labels : (a : Automaton) (s : State) → flat_map head_labels (heads_of a s) ≡ flat_map (λ (m : LabelMove). m.class.names) (moves_at a s).labels
state_labels a s = flat_map-append head_labels (map label_head (moves_at a s).labels) (map text_head (moves_at a s).texts)
    ∙ ap (λ (ns : List (List ℕ)). flat_map head_labels (map label_head (moves_at a s).labels) ++ ns) (none_named head_labels text_head (λ m. refl) (moves_at a s).texts)
    ∙ append-nil (flat_map head_labels (map label_head (moves_at a s).labels)) ∙ flat_map-map head_labels label_head (moves_at a s).labels

pub state_texts : (a : Automaton) (s : State) → flat_map head_texts (heads_of a s) ≡ flat_map (λ (m : TextMove). m.words.names) (moves_at a s).texts
state_texts a s = flat_map-append head_texts (map label_head (moves_at a s).labels) (map text_head (moves_at a s).texts)
    ∙ ap (λ (ns : List (List ℕ)). ns ++ flat_map head_texts (map text_head (moves_at a s).texts)) (none_named head_texts label_head (λ m. refl) (moves_at a s).labels)
    ∙ flat_map-map head_texts text_head (moves_at a s).texts

-- a class that was made of all names
module _ (f : Head State → List (List ℕ)) (g : State → List (List ℕ)) (a : Automaton) (same_names : (s : State) → flat_map f (heads_of a s) ≡ g s) where
  states_names : (ss : List State) → flat_map f (flat_map (heads_of a) ss) ≡ flat_map g ss
  states_names [] = refl
  states_names (s ∷ ss) = flat_map-append f (heads_of a s) (flat_map (heads_of a) ss) ∙ rw (same_names s, states_names ss) refl

  pub names_sorted : (left : State) (rights : List State) (names made : List (List ℕ)) → names ≡ flat_map g (left ∷ rights) → ((l : List ℕ) → is_named made l ≡ is_named names l) → IsStrictlySortedBy (slice_cmp nat_cmp) made
      → IsSorted (flat_map f (heads_of a left ++ flat_map (heads_of a) rights)) made
  names_sorted left rights names made e same order = record { order = order; same = λ l. same l ∙ ap (λ (ns : List (List ℕ)). is_named ns l) (e ∙ sym (states_names (left ∷ rights))) }

-- each head's names are among all
pub heads_named : (hs gs : List (Head State)) (named : Named) → AreNames (hs ++ gs) named → AllByRecursion (IsHeadNamed named) hs
heads_named hs gs named names = go hs (λ h m. m)
  where
    go : (ks : List (Head State)) → ((h : Head State) → IsOneOf h ks → IsOneOf h hs) → AllByRecursion (IsHeadNamed named) ks
    go [] f = tt
    go (k ∷ ks) f =
        let m = one_of-append_left k hs gs (f k (inl refl)) in (
          record {
            labels = λ l e. labels_are_named (hs ++ gs) named names k m l (one_of_names l (labels_of k.kind) e);
            texts = λ t e. texts_are_named (hs ++ gs) named names k m t (one_of_names t (texts_of k.kind) e);
          },
          go ks (λ h x. f h (inr x)),
        )

-- what the cases are
pub wants_keys : (named : Named) (k : ℕ) (hs : List (Head State)) → map want_key (wants_of named k hs) ≡ atoms_from named k hs
wants_keys named k [] = refl
wants_keys named k (h ∷ hs) =
    let next : suc k ≡ k + 1 = omega arith in
    map-append want_key (wants_at named k h) (wants_of named (suc k) hs)
    ∙ ap (λ (ks : List HeadAtom). ks ++ map want_key (wants_of named (suc k) hs)) (one (atoms_of named h.kind))
    ∙ ap (λ (ks : List HeadAtom). map (keyed k) (atoms_of named h.kind) ++ ks) (wants_keys named (suc k) hs ∙ ap (λ (n : ℕ). atoms_from named n hs) next)
  where
    one : (atoms : List Atom) → map want_key (map (want_of k h) atoms) ≡ map (keyed k) atoms
    one [] = refl
    one (a ∷ as') = ap (λ (ks : List HeadAtom). keyed k a ∷ ks) (one as')

pub wants_are : (a : Automaton) (left : State) (named : Named) → AllByRecursion (IsCaseOf a left) (wants_of named 1 (heads_of a left))
wants_are a left named = go 0 (heads_of a left) (λ i h e. let q : i ≡ 0 + i = omega arith in subst (λ (j : ℕ). slice_get (heads_of a left) j ≡ Some h) q e)
  where
    at : (n : ℕ) (h : Head State) → slice_get (heads_of a left) n ≡ Some h → (atoms : List Atom) → AllByRecursion (IsCaseOf a left) (map (want_of (suc n) h) (filter (λ x. matches h.kind x) atoms))
    at n h there [] = tt
    at n h there (x ∷ xs) = by (matches h.kind x) refl (at n h there xs)
      where
        by : (b : Bool) → matches h.kind x ≡ b → AllByRecursion (IsCaseOf a left) (map (want_of (suc n) h) (filter (λ x. matches h.kind x) xs))
            → AllByRecursion (IsCaseOf a left) (map (want_of (suc n) h) (cond b (x ∷ filter (λ x. matches h.kind x) xs) (filter (λ x. matches h.kind x) xs)))
        by true m k = (record { has = record { of_head = h; found = there; content_is = refl; rest_is = refl }; matched = m }, k)
        by false m k = k

    go : (n : ℕ) (hs : List (Head State)) → ((i : ℕ) (h : Head State) → slice_get hs i ≡ Some h → slice_get (heads_of a left) (n + i) ≡ Some h) → AllByRecursion (IsCaseOf a left) (wants_of named (suc n) hs)
    go n [] f = tt
    go n (h ∷ hs) f =
        let z : n + 0 ≡ n = omega arith in
        all_append (IsCaseOf a left) (wants_at named (suc n) h) (wants_of named (suc (suc n)) hs)
        (at n h (subst (λ (j : ℕ). slice_get (heads_of a left) j ≡ Some h) z (f 0 h refl)) (all_atoms named))
        (go (suc n) hs (λ i g e. let q : n + suc i ≡ suc n + i = omega arith in subst (λ (j : ℕ). slice_get (heads_of a left) j ≡ Some g) q (f (suc i) g e)))

-- a head by its number
head_by : (a : Automaton) (s : State) (number : ℕ) (h : Head State) (x y : State) → 0 < number → slice_get (heads_of a s) (number - 1) ≡ Some h → x ≡ h.content → y ≡ h.rest → HasHead a s number x y
head_by a s zero h x y lt e p q = absurd (omega arith)
head_by a s (suc k) h x y lt e p q =
    let n : suc k - 1 ≡ k = omega arith in
    record { of_head = h; found = subst (λ (i : ℕ). slice_get (heads_of a s) i ≡ Some h) n e; content_is = p; rest_is = q }

mapped_at : {M : Type 0} (f : M → Head State) (ms : List M) (i : ℕ) (m : M) (back : List (Head State)) → i < length ms → m ≡ get_or ms i m → slice_get (map f ms ++ back) i ≡ Some (f m)
mapped_at f [] i m back lt e = absurd (omega arith)
mapped_at f (x ∷ ms) zero m back lt e = ap (λ (w : Head State). Some w) (ap f (sym e))
mapped_at f (x ∷ ms) (suc i) m back lt e = mapped_at f ms i m back (omega arith) e

behind_at : (hs back : List (Head State)) (i : ℕ) (h : Head State) → slice_get back i ≡ Some h → slice_get (hs ++ back) (length hs + i) ≡ Some h
behind_at [] back i h e = let q : i ≡ 0 + i = omega arith in subst (λ (j : ℕ). slice_get back j ≡ Some h) q e
behind_at (x ∷ hs) back i h e =
    let q : suc (length hs + i) ≡ suc (length hs) + i = omega arith in
    subst (λ (j : ℕ). slice_get (x ∷ (hs ++ back)) j ≡ Some h) q (behind_at hs back i h e)

pub label_head_at : (a : Automaton) (s : State) (ms : List LabelMove) (number : ℕ) (m : LabelMove) → ms ≡ (moves_at a s).labels → 0 < number → number ≤ length ms → m ≡ get_or ms (number - 1) m → HasHead a s number m.content m.rest
label_head_at a s ms number m same pos le e =
    let at = mapped_at label_head ms (number - 1) m (map text_head (moves_at a s).texts) (omega arith) e in
    head_by a s number (label_head m) m.content m.rest pos (subst (λ (xs : List LabelMove). slice_get (map label_head xs ++ map text_head (moves_at a s).texts) (number - 1) ≡ Some (label_head m)) same at) refl refl

pub text_head_at : (a : Automaton) (s : State) (before : ℕ) (ms : List TextMove) (number : ℕ) (m : TextMove) → ms ≡ (moves_at a s).texts → before ≡ length (moves_at a s).labels → before < number → number - 1 - before < length ms
    → m ≡ get_or ms (number - 1 - before) m → HasHead a s number m.rest m.rest
text_head_at a s before ms number m same count past lt e =
    let there = mapped_at text_head ms (number - 1 - before) m [] lt e in
    let at : slice_get (map text_head (moves_at a s).texts) (number - 1 - before) ≡ Some (text_head m) =
    subst (λ (hs : List (Head State)). slice_get hs (number - 1 - before) ≡ Some (text_head m)) (append-nil (map text_head ms) ∙ ap (map text_head) same) there in
    let place : length (map label_head (moves_at a s).labels) + (number - 1 - before) ≡ number - 1 = omega (arith, length-map (moves_at a s).labels label_head) in
    head_by a s number (text_head m) m.rest m.rest (omega arith)
    (subst (λ (i : ℕ). slice_get (heads_of a s) i ≡ Some (text_head m)) place (behind_at (map label_head (moves_at a s).labels) (map text_head (moves_at a s).texts) (number - 1 - before) (text_head m) at))
    refl refl
