-- One more move of a pair.
use Rattle.std.proofs.Common.{ℕ, ◌+◌, ◌<◌, ◌≡◌, Bool, true, false, not, ◌||◌, ◌&&◌, List, [], ◌∷◌, ◌++◌, length, take, get_or, ap, refl, sym, ◌∙◌, append_assoc}
use Rattle.std.specs.List.{list_any}
use Rattle.std.proofs.lemmas.List.Folds.{list_any-append, list_any_more}
use Rattle.std.proofs.lemmas.Bool.{and_left, or_parts}
use Rattle.xd_doc.specs.Classes.{class_has}
use Rattle.xd_doc.proofs.Bools.{or_join}
use Rattle.xd_auto.specs.declared.auto.State.{State}
use Rattle.xd_auto.specs.declared.auto.LabelMove.{LabelMove}
use Rattle.xd_auto.specs.declared.auto.TextMove.{TextMove}
use Rattle.xd_auto.specs.Automaton.{Automaton, IsNext, has_label, has_text, moves_at}
use Rattle.xd_empty.specs.Parts.{is_marked}
use Rattle.xd_stream.specs.Pairs.{TakesEveryText, leads_behind, leads_label, leads_on_text, leads_over_every_text, leads_over_text, leads_text}
use Rattle.xd_stream.specs.declared.pairs.Pair.{Pair}
use Rattle.xd_stream.specs.declared.pairs.Waiting.{Waiting}
use Rattle.xd_stream.proofs.Next.{any_one, any_all}
use Rattle.xd_stream.proofs.AllPassLemmas.{pass_same}

module _ (marks : List Bool) (t : List ℕ) (first : State) (moves : List TextMove) (base : List Pair) where
  needs : (f : Pair → Bool) (m : TextMove) → has_text m t ≡ false → leads_text marks t f first m ≡ false
  needs f m e = and_left (class_has m.words t) (is_marked marks m.rest && f (record { first = first; present = m.rest })) e

  pub text_one : (now new : List Pair) (from n : ℕ) (m : TextMove) → IsNext has_text moves t from n → n < length moves → m ≡ get_or moves n m
      → ((f : Pair → Bool) → list_any f now ≡ (list_any f base || list_any (leads_text marks t f first) (take from moves)))
      → ((f : Pair → Bool) → list_any f new ≡ (list_any f now || (is_marked marks m.rest && f (record { first = first; present = m.rest }))))
      → (f : Pair → Bool) → list_any f new ≡ (list_any f base || list_any (leads_text marks t f first) (take (n + 1) moves))
  text_one now new from n m next lt is old more f =
      more f
      ∙ ap (λ b. b || (is_marked marks m.rest && f (record { first = first; present = m.rest }))) (old f)
      ∙ or_join (list_any f base) (list_any (leads_text marks t f first) (take from moves)) (is_marked marks m.rest && f (record { first = first; present = m.rest }))
      ∙ ap (λ b. list_any f base || b)
      (ap (λ b. list_any (leads_text marks t f first) (take from moves) || b) here ∙ sym (any_one has_text (leads_text marks t f first) t moves (needs f) from n m next lt))
    where
      here : (is_marked marks m.rest && f (record { first = first; present = m.rest })) ≡ leads_text marks t f first (get_or moves n m)
      here = ap (λ b. b && (is_marked marks m.rest && f (record { first = first; present = m.rest }))) (sym (ap (λ v. has_text v t) is ∙ next.here m lt)) ∙ ap (leads_text marks t f first) is

  pub text_all : (now : List Pair) (from : ℕ) → IsNext has_text moves t from (length moves)
      → ((f : Pair → Bool) → list_any f now ≡ (list_any f base || list_any (leads_text marks t f first) (take from moves)))
      → (f : Pair → Bool) → list_any f now ≡ (list_any f base || list_any (leads_text marks t f first) moves)
  text_all now from next old f = old f ∙ ap (λ b. list_any f base || b) (sym (any_all has_text (leads_text marks t f first) t moves (needs f) from next))

-- the mark and the pair, where it was added or the mark is false
pub added_marked : {X : Type 0} (f : X → Bool) (now new : List X) (x : X) (b : Bool) → b ≡ true → list_any f new ≡ (list_any f now || f x) → list_any f new ≡ (list_any f now || (b && f x))
added_marked f now new x true e h = h
added_marked f now new x false e h = absurd (cc)

pub not_marked : {X : Type 0} (f : X → Bool) (now new : List X) (x : X) (b : Bool) → b ≡ false → new ≡ now → list_any f new ≡ (list_any f now || (b && f x))
not_marked f now new x false e h = ap (list_any f) h ∙ or_false (list_any f now)
  where
    or_false : (c : Bool) → c ≡ (c || false)
    or_false true = refl
    or_false false = refl
not_marked f now new x true e h = absurd (cc)

-- one more move after an element
pub behind_one : (a : Automaton) (now : List Pair) (ws : List Waiting) (f : Pair → Bool) (base mid new : List Pair) (i : ℕ) (w : Waiting) → i < length ws
    → list_any f mid ≡ (list_any f base || list_any (leads_behind a now f) (take i ws))
    → list_any f new ≡ (list_any f mid || leads_behind a now f (get_or ws i w))
    → list_any f new ≡ (list_any f base || list_any (leads_behind a now f) (take (i + 1) ws))
behind_one a now ws f base mid new i w lt old more =
    more
    ∙ ap (λ b. b || leads_behind a now f (get_or ws i w)) old
    ∙ or_join (list_any f base) (list_any (leads_behind a now f) (take i ws)) (leads_behind a now f (get_or ws i w))
    ∙ ap (λ b. list_any f base || b) (sym (list_any_more (leads_behind a now f) ws i w lt))

-- moves that wait, after those that were there
pub record Waits (marks : List Bool) (l : List ℕ) (first : State) (moves : List LabelMove) (base now : List Waiting) (from : ℕ) : Type 0 where
  pub added : List Waiting
  pub behind : now ≡ base ++ added
  pub same : (f : Waiting → Bool) → list_any f added ≡ list_any (leads_label marks l f first) (take from moves)

module _ (marks : List Bool) (l : List ℕ) (first : State) (moves : List LabelMove) (base : List Waiting) where
  needs_label : (f : Waiting → Bool) (m : LabelMove) → has_label m l ≡ false → leads_label marks l f first m ≡ false
  needs_label f m e = and_left (class_has m.class l) ((is_marked marks m.content && is_marked marks m.rest) && f (record { first = first; content = m.content; rest = m.rest })) e

  -- with the move where it is marked
  abbrev pub wait_of : LabelMove → Waiting
  wait_of m = record { first = first; content = m.content; rest = m.rest }

  one_more : (f : Waiting → Bool) (from n : ℕ) (m : LabelMove) → IsNext has_label moves l from n → n < length moves → m ≡ get_or moves n m → (k : Bool) → k ≡ (is_marked marks m.content && is_marked marks m.rest)
      → (list_any (leads_label marks l f first) (take from moves) || (k && f (wait_of m))) ≡ list_any (leads_label marks l f first) (take (n + 1) moves)
  one_more f from n m next lt is k e =
      ap (λ b. list_any (leads_label marks l f first) (take from moves) || (b && f (wait_of m))) e
      ∙ ap (λ b. list_any (leads_label marks l f first) (take from moves) || b)
      (ap (λ b. b && ((is_marked marks m.content && is_marked marks m.rest) && f (wait_of m))) (sym (ap (λ v. has_label v l) is ∙ next.here m lt)) ∙ ap (leads_label marks l f first) is)
      ∙ sym (any_one has_label (leads_label marks l f first) l moves (needs_label f) from n m next lt)

  pub wait_added : (now new : List Waiting) (from n : ℕ) (m : LabelMove) → IsNext has_label moves l from n → n < length moves → m ≡ get_or moves n m
      → Waits marks l first moves base now from → (is_marked marks m.content && is_marked marks m.rest) ≡ true → new ≡ now ++ wait_of m ∷ [] → Waits marks l first moves base new (n + 1)
  wait_added now new from n m next lt is h e pushed = record {
    added = h.added ++ wait_of m ∷ [];
    behind = pushed ∙ ap (λ (xs : List Waiting). xs ++ wait_of m ∷ []) h.behind ∙ append_assoc base h.added (wait_of m ∷ []);
    same = λ f.
        list_any-append f h.added (wait_of m ∷ [])
        ∙ ap (λ b. b || (f (wait_of m) || false)) (h.same f)
        ∙ ap (λ b. list_any (leads_label marks l f first) (take from moves) || b) (or_none (f (wait_of m)))
        ∙ one_more f from n m next lt is true (sym e);
  }
    where
      or_none : (b : Bool) → (b || false) ≡ (true && b)
      or_none true = refl
      or_none false = refl

  pub wait_not : (now new : List Waiting) (from n : ℕ) (m : LabelMove) → IsNext has_label moves l from n → n < length moves → m ≡ get_or moves n m
      → Waits marks l first moves base now from → (is_marked marks m.content && is_marked marks m.rest) ≡ false → new ≡ now → Waits marks l first moves base new (n + 1)
  wait_not now new from n m next lt is h e same = record {
    added = h.added;
    behind = same ∙ h.behind;
    same = λ f. h.same f ∙ or_none (list_any (leads_label marks l f first) (take from moves)) ∙ one_more f from n m next lt is false (sym e);
  }
    where
      or_none : (b : Bool) → b ≡ (b || false)
      or_none true = refl
      or_none false = refl

  pub wait_all : (now : List Waiting) (from : ℕ) → IsNext has_label moves l from (length moves) → (h : Waits marks l first moves base now from) → (f : Waiting → Bool) → list_any f h.added ≡ list_any (leads_label marks l f first) moves
  wait_all now from next h f = h.same f ∙ sym (any_all has_label (leads_label marks l f first) l moves (needs_label f) from next)

-- no move fails, one more among them
pub none_next : {X : Type 0} (g : X → Bool) (xs : List X) (i : ℕ) (d : X) → i < length xs → list_any g (take i xs) ≡ false → g (get_or xs i d) ≡ false → list_any g (take (i + 1) xs) ≡ false
none_next g xs i d lt h e = list_any_more g xs i d lt ∙ ap (λ b. b || g (get_or xs i d)) h ∙ e

-- where every move takes every text, it is the same which one comes
each_alike : (marks : List Bool) (t : List ℕ) (f : Pair → Bool) (first : State) (moves : List TextMove) → list_any (λ m. not (class_has m.words t)) moves ≡ false → list_any (leads_on_text marks f first) moves ≡ list_any (leads_text marks t f first) moves
each_alike marks t f first moves h =
    pass_same (λ m. class_has m.words t) (leads_on_text marks f first) (leads_text marks t f first) moves h
    (λ m e. sym (ap (λ b. b && (is_marked marks m.rest && f (record { first = first; present = m.rest }))) e))

pub every_alike : (a : Automaton) (marks : List Bool) (t : List ℕ) (f : Pair → Bool) (now : List Pair) → TakesEveryText a now → leads_over_every_text a marks f now ≡ leads_over_text a marks t f now
every_alike a marks t f now h = go now (h t)
  where
    go : (ps : List Pair) → list_any (λ p. list_any (λ m. not (class_has m.words t)) (moves_at a p.present).texts) ps ≡ false → leads_over_every_text a marks f ps ≡ leads_over_text a marks t f ps
    go [] e = refl
    go (p ∷ ps) e =
        let parts = or_parts (list_any (λ m. not (class_has m.words t)) (moves_at a p.present).texts) (list_any (λ q. list_any (λ m. not (class_has m.words t)) (moves_at a q.present).texts) ps) e in
        ap (λ b. b || leads_over_every_text a marks f ps) (each_alike marks t f p.first (moves_at a p.present).texts parts.0) ∙ ap (λ b. list_any (leads_text marks t f p.first) (moves_at a p.present).texts || b) (go ps parts.1)
