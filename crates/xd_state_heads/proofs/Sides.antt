-- The right heads that match an atom, found move by move.
use Rattle.std.proofs.Common.{ℕ, zero, suc, ◌+◌, ◌<◌, ◌≤◌, ◌≡◌, Bool, true, false, cond, List, [], ◌∷◌, ◌++◌, length, take, map, get_or, refl, sym, ap, ◌∙◌, subst, arith, append_assoc, length-append}
use Rattle.std.specs.List.{flat_map}
use Rattle.std.proofs.lemmas.List.{take_more, take_all, append-nil, map-append, length-map, length-take-le}
use Rattle.std.proofs.lemmas.Grind.{flat_map-append}
use Rattle.xd_auto.specs.declared.auto.State.{State}
use Rattle.xd_auto.specs.declared.auto.LabelMove.{LabelMove}
use Rattle.xd_auto.specs.declared.auto.TextMove.{TextMove}
use Rattle.xd_auto.specs.Automaton.{Automaton, IsNext, moves_at}
use Rattle.xd_rules.specs.declared.atom.Atom.{Atom}
use Rattle.xd_rules.specs.Heads.{Head, matches}
use Rattle.xd_state_heads.specs.Moves.{heads_of, label_head, text_head}
use Rattle.xd_state_heads.specs.Wants.{matching_sides, side_at}
use Rattle.xd_state_heads.specs.declared.heads.Side.{Side}

pub matching-append : (atom : Atom) (k : ℕ) (xs ys : List (Head State)) → matching_sides atom k (xs ++ ys) ≡ matching_sides atom k xs ++ matching_sides atom (k + length xs) ys
matching-append atom k [] ys = let e : k ≡ k + 0 = omega arith in ap (λ (n : ℕ). matching_sides atom n ys) e
matching-append atom k (x ∷ xs) ys = go (matches x.kind atom) (matching-append atom (suc k) xs ys ∙ ap (λ (n : ℕ). matching_sides atom (suc k) xs ++ matching_sides atom n ys) e)
  where
    e : suc k + length xs ≡ k + suc (length xs)
    e = omega arith

    go : (b : Bool) → matching_sides atom (suc k) (xs ++ ys) ≡ matching_sides atom (suc k) xs ++ matching_sides atom (k + suc (length xs)) ys
        → cond b (side_at k x ∷ matching_sides atom (suc k) (xs ++ ys)) (matching_sides atom (suc k) (xs ++ ys)) ≡ cond b (side_at k x ∷ matching_sides atom (suc k) xs) (matching_sides atom (suc k) xs) ++ matching_sides atom (k + suc (length xs)) ys
    go true h = ap (λ (ss : List Side). side_at k x ∷ ss) h
    go false h = h

-- an element of a list, by its place
elem_at : {X : Type 0} (xs : List X) (i : ℕ) → i < length xs → X
elem_at [] i lt = absurd (omega arith)
elem_at (x ∷ xs) zero lt = x
elem_at (x ∷ xs) (suc i) lt = elem_at xs i (omega arith)

-- heads of moves, of which each has a number
module _ {M : Type 0} (f : M → Head State) (atom : Atom) (before : ℕ) (ms : List M) where
  abbrev Sides : ℕ → List Side
  Sides i = matching_sides atom (before + 1) (map f (take i ms))

  sides_more : (i : ℕ) (d : M) → i < length ms → matching_sides atom (before + 1) (map f (take (i + 1) ms)) ≡ matching_sides atom (before + 1) (map f (take i ms)) ++ matching_sides atom (before + i + 1) (f (get_or ms i d) ∷ [])
  sides_more i d lt =
      let n : before + 1 + length (map f (take i ms)) ≡ before + i + 1 = omega (arith, length-map (take i ms) f, length-take-le i ms (omega arith)) in
      ap (λ (xs : List M). matching_sides atom (before + 1) (map f xs)) (take_more ms i d lt) ∙ ap (matching_sides atom (before + 1)) (map-append f (take i ms) (get_or ms i d ∷ []))
      ∙ matching-append atom (before + 1) (map f (take i ms)) (f (get_or ms i d) ∷ [])
      ∙ ap (λ (k : ℕ). matching_sides atom (before + 1) (map f (take i ms)) ++ matching_sides atom k (f (get_or ms i d) ∷ [])) n

  one_side : (k : ℕ) (h : Head State) (b : Bool) → matches h.kind atom ≡ b → matching_sides atom k (h ∷ []) ≡ cond b (side_at k h ∷ []) []
  one_side k h b e = ap (λ (c : Bool). cond c (side_at k h ∷ []) []) e

  -- one that matches, and one that doesn't
  pub sides_hit : (i : ℕ) (m : M) (old items new : List Side) → i < length ms → m ≡ get_or ms i m → matches (f m).kind atom ≡ true
      → items ≡ old ++ matching_sides atom (before + 1) (map f (take i ms)) → new ≡ items ++ side_at (before + i + 1) (f m) ∷ [] → new ≡ old ++ matching_sides atom (before + 1) (map f (take (i + 1) ms))
  sides_hit i m old items new lt e hit inv step =
      step ∙ ap (λ (ss : List Side). ss ++ side_at (before + i + 1) (f m) ∷ []) inv ∙ append_assoc old (matching_sides atom (before + 1) (map f (take i ms))) (side_at (before + i + 1) (f m) ∷ [])
      ∙ ap (λ (ss : List Side). old ++ ss) (sym (sides_more i m lt
      ∙ ap (λ (x : M). matching_sides atom (before + 1) (map f (take i ms)) ++ matching_sides atom (before + i + 1) (f x ∷ [])) (sym e)
      ∙ ap (λ (ss : List Side). matching_sides atom (before + 1) (map f (take i ms)) ++ ss) (one_side (before + i + 1) (f m) true hit)))

  pub sides_miss : (i : ℕ) (d : M) (old items : List Side) → i < length ms → matches (f (get_or ms i d)).kind atom ≡ false
      → items ≡ old ++ matching_sides atom (before + 1) (map f (take i ms)) → items ≡ old ++ matching_sides atom (before + 1) (map f (take (i + 1) ms))
  sides_miss i d old items lt miss inv =
      inv ∙ ap (λ (ss : List Side). old ++ ss) (sym (sides_more i d lt
      ∙ ap (λ (ss : List Side). matching_sides atom (before + 1) (map f (take i ms)) ++ ss) (one_side (before + i + 1) (f (get_or ms i d)) false miss)
      ∙ append-nil (matching_sides atom (before + 1) (map f (take i ms)))))

  pub sides_skip : (c from number : ℕ) (old items : List Side) → number ≡ from + c → number ≤ length ms → ((k : ℕ) (d : M) → from ≤ k → k < number → matches (f (get_or ms k d)).kind atom ≡ false)
      → items ≡ old ++ matching_sides atom (before + 1) (map f (take from ms)) → items ≡ old ++ matching_sides atom (before + 1) (map f (take number ms))
  sides_skip zero from number old items e le lacks inv = let q : from ≡ number = omega arith in subst (λ (n : ℕ). items ≡ old ++ matching_sides atom (before + 1) (map f (take n ms))) q inv
  sides_skip (suc c) from number old items e le lacks inv =
      let q : from + c + 1 ≡ number = omega arith in
      let lt : from + c < length ms = omega arith in
      let d = elem_at ms (from + c) lt in
      subst (λ (n : ℕ). items ≡ old ++ matching_sides atom (before + 1) (map f (take n ms))) q
      (sides_miss (from + c) d old items lt (lacks (from + c) d (omega arith) (omega arith))
      (sides_skip c from (from + c) old items refl (omega arith) (λ k x l r. lacks k x l (omega arith)) inv))

  -- the next one by an index
  pub sides_next : {N : Type 0} (has : M → N → Bool) (name : N) → ((m : M) → has m name ≡ matches (f m).kind atom) → (from number : ℕ) → IsNext has ms name from number → (old items : List Side)
      → items ≡ old ++ matching_sides atom (before + 1) (map f (take from ms)) → items ≡ old ++ matching_sides atom (before + 1) (map f (take number ms))
  sides_next has name same from number next old items inv =
      let c = gap from number next.after in
      sides_skip c.0 from number old items c.1 next.within (λ k d l r. sym (same (get_or ms k d)) ∙ next.lacks k d l r) inv
    where
      gap : (m n : ℕ) → m ≤ n → (c : ℕ) × (n ≡ m + c)
      gap zero n le = (n, omega arith)
      gap (suc m) zero le = absurd (omega arith)
      gap (suc m) (suc n) le = let g = gap m n (omega arith) in (g.0, (let e = g.1 in omega arith))

  pub sides_done : (ns : List M) (i : ℕ) (old items : List Side) → ms ≡ ns → length ms ≤ i → items ≡ old ++ matching_sides atom (before + 1) (map f (take i ms)) → items ≡ old ++ matching_sides atom (before + 1) (map f ns)
  sides_done ns i old items e le inv = inv ∙ ap (λ (xs : List M). old ++ matching_sides atom (before + 1) (map f xs)) (take_all i ms le ∙ e)

-- moves of which none matches
none_match : {M : Type 0} (f : M → Head State) (atom : Atom) → ((m : M) → matches (f m).kind atom ≡ false) → (k : ℕ) (ms : List M) → matching_sides atom k (map f ms) ≡ []
none_match f atom lacks k [] = refl
none_match f atom lacks k (m ∷ ms) = ap (λ (b : Bool). cond b (side_at k (f m) ∷ matching_sides atom (suc k) (map f ms)) (matching_sides atom (suc k) (map f ms))) (lacks m) ∙ none_match f atom lacks (suc k) ms

-- the right heads of a state at a label, and at a text
module _ (a : Automaton) (s : State) (atom : Atom) (before : ℕ) (old new : List Side) where
  abbrev ls : List LabelMove
  ls = (moves_at a s).labels

  abbrev ts : List TextMove
  ts = (moves_at a s).texts

  pub at_label : ((m : TextMove) → matches (text_head m).kind atom ≡ false) → new ≡ old ++ matching_sides atom (before + 1) (map label_head (moves_at a s).labels) → new ≡ old ++ matching_sides atom (before + 1) (heads_of a s)
  at_label lacks h = h ∙ ap (λ (ss : List Side). old ++ ss)
      (sym (matching-append atom (before + 1) (map label_head ls) (map text_head ts)
      ∙ ap (λ (ss : List Side). matching_sides atom (before + 1) (map label_head ls) ++ ss) (none_match text_head atom lacks (before + 1 + length (map label_head ls)) ts)
      ∙ append-nil (matching_sides atom (before + 1) (map label_head ls))))

  pub at_text : (behind : ℕ) → behind ≡ before + length (moves_at a s).labels → ((m : LabelMove) → matches (label_head m).kind atom ≡ false) → new ≡ old ++ matching_sides atom (behind + 1) (map text_head (moves_at a s).texts)
      → new ≡ old ++ matching_sides atom (before + 1) (heads_of a s)
  at_text behind e lacks h =
      let n : before + 1 + length (map label_head ls) ≡ behind + 1 = omega (arith, length-map ls label_head) in
      h ∙ ap (λ (ss : List Side). old ++ ss)
      (sym (matching-append atom (before + 1) (map label_head ls) (map text_head ts)
      ∙ ap (λ (ss : List Side). ss ++ matching_sides atom (before + 1 + length (map label_head ls)) (map text_head ts)) (none_match label_head atom lacks (before + 1) ls)
      ∙ ap (λ (k : ℕ). matching_sides atom k (map text_head ts)) n))

pub count_heads_of : (a : Automaton) (s : State) → length (heads_of a s) ≡ length (moves_at a s).labels + length (moves_at a s).texts
count_heads_of a s = length-append (map label_head (moves_at a s).labels) (map text_head (moves_at a s).texts) ∙ ap (λ (n : ℕ). n + length (map text_head (moves_at a s).texts)) (length-map (moves_at a s).labels label_head)
    ∙ ap (λ (n : ℕ). length (moves_at a s).labels + n) (length-map (moves_at a s).texts text_head)

flat_map_at : (a : Automaton) (ss : List State) (i : ℕ) (d : State) → i < length ss → flat_map (heads_of a) (take (i + 1) ss) ≡ flat_map (heads_of a) (take i ss) ++ heads_of a (get_or ss i d)
flat_map_at a ss i d lt = ap (flat_map (heads_of a)) (take_more ss i d lt) ∙ flat_map-append (heads_of a) (take i ss) (get_or ss i d ∷ [])
    ∙ ap (λ (hs : List (Head State)). flat_map (heads_of a) (take i ss) ++ hs) (append-nil (heads_of a (get_or ss i d)))

flat_map_more : (a : Automaton) (ss : List State) (i : ℕ) (s : State) → i < length ss → s ≡ get_or ss i s → flat_map (heads_of a) (take (i + 1) ss) ≡ flat_map (heads_of a) (take i ss) ++ heads_of a s
flat_map_more a ss i s lt e = flat_map_at a ss i s lt ∙ ap (λ (x : State). flat_map (heads_of a) (take i ss) ++ heads_of a x) (sym e)

-- one more right
pub rights_more : (a : Automaton) (atom : Atom) (ss : List State) (i : ℕ) (s : State) (before : ℕ) (items new : List Side) → i < length ss → s ≡ get_or ss i s → before ≡ length (flat_map (heads_of a) (take i ss))
    → items ≡ matching_sides atom 1 (flat_map (heads_of a) (take i ss)) → new ≡ items ++ matching_sides atom (before + 1) (heads_of a s) → new ≡ matching_sides atom 1 (flat_map (heads_of a) (take (i + 1) ss))
rights_more a atom ss i s before items new lt e count inv step =
    let n : before + 1 ≡ 1 + length (flat_map (heads_of a) (take i ss)) = omega arith in
    step ∙ ap (λ (xs : List Side). xs ++ matching_sides atom (before + 1) (heads_of a s)) inv ∙ ap (λ (k : ℕ). matching_sides atom 1 (flat_map (heads_of a) (take i ss)) ++ matching_sides atom k (heads_of a s)) n
    ∙ sym (matching-append atom 1 (flat_map (heads_of a) (take i ss)) (heads_of a s)) ∙ ap (matching_sides atom 1) (sym (flat_map_more a ss i s lt e))

-- and the number of its heads
pub count_more : (a : Automaton) (ss : List State) (i : ℕ) (s : State) (before count : ℕ) → i < length ss → s ≡ get_or ss i s → before ≡ length (flat_map (heads_of a) (take i ss)) → count ≡ before + length (heads_of a s)
    → count ≡ length (flat_map (heads_of a) (take (i + 1) ss))
count_more a ss i s before count lt e inv is =
    is ∙ ap (λ (n : ℕ). n + length (heads_of a s)) inv ∙ sym (length-append (flat_map (heads_of a) (take i ss)) (heads_of a s)) ∙ ap length (sym (flat_map_more a ss i s lt e))
