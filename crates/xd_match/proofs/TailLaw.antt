-- What the first run gives a variable where all that is left of a level belongs to the same
-- variables.
use Rattle.std.proofs.Common.{ℕ, ◌≡◌, Bool, true, false, cond, List, [], ◌∷◌, get_or, refl, sym, ap, ◌∙◌, inl, inr}
use Rattle.std.specs.List.{list_any}
use Rattle.xd_doc.specs.Document.{Document, empty, text, element, join}
use Rattle.xd_auto.specs.declared.auto.State.{State}
use Rattle.xd_auto.specs.declared.auto.LabelMove.{LabelMove}
use Rattle.xd_auto.specs.declared.auto.TextMove.{TextMove}
use Rattle.xd_auto.specs.Automaton.{Automaton, IsState, accepts, moves_at, takes_element, takes_word}
use Rattle.xd_auto.specs.Universal.{moves_back, reads_back}
use Rattle.xd_syntax.specs.Words.{has_word}
use Rattle.xd_patterns.specs.Marked.{Marking}
use Rattle.xd_match.specs.First.{first_held}
use Rattle.xd_match.specs.Taking.{IsFirst}
use Rattle.xd_match.specs.Tails.{AreTails, GoesOnWith, is_mixed, tail_marks}
use Rattle.xd_match.proofs.Firsts.{content_accepted, find_first, held_element, held_empty, held_text, rest_accepted, word_accepted}

cond_empty : (b : Bool) → cond b empty empty ≡ empty
cond_empty true = refl
cond_empty false = refl

text_whole : (b : Bool) (t : List ℕ) (d : Document) → join (cond b (text t empty) empty) (cond b d empty) ≡ cond b (text t d) empty
text_whole true t d = refl
text_whole false t d = refl

element_whole : (b : Bool) (l : List ℕ) (c d : Document) → join (cond b (element l c empty) empty) (cond b d empty) ≡ cond b (element l c d) empty
element_whole true l c d = refl
element_whole false l c d = refl

none_any : {X : Type 0} (test : X → Bool) (xs : List X) → xs ≡ [] → list_any test xs ≡ true → ⊥
none_any test [] e h = cc
none_any test (x ∷ xs) e h = cc

module _ (a : Automaton) (k : Marking) (mixed : List Bool) (tails : AreTails a k mixed) (x : List ℕ) where
  abbrev IsTail : Document → Type 0
  IsTail d = (s : State) (T : List (List ℕ)) → IsState a s → is_mixed mixed s ≡ false → GoesOnWith a k T s → accepts a d s ≡ true → first_held a k x d s ≡ cond (has_word T x) d empty

  text_tail : (t : List ℕ) (d : Document) → IsTail d → IsTail (text t d)
  text_tail t d later s T state even (inl bare) e = absurd (none_any (takes_word a t d) (moves_at a s).texts bare.1 e)
  text_tail t d later s T state even (inr is) e =
      let found = find_first (takes_word a t d) (moves_at a s).texts e in
      let n : ℕ = found.0 in
      let first : IsFirst (takes_word a t d) (moves_at a s).texts n = found.1 in
      let q : TextMove = reads_back s in
      let m : TextMove = get_or (moves_at a s).texts n q in
      let here = (tails.even s state even).0.texts n q first.within in
      let there = (tails.even s state even).1.texts n q first.within in
      let rest : first_held a k x d m.rest ≡ cond (has_word (tail_marks a k s) x) d empty = later m.rest (tail_marks a k s) there.0.0 there.0.1 here.1.0 (word_accepted a k t d m (first.passes q)) in
      held_text a k x n t d s q first
      ∙ ap (λ (ms : List (List ℕ)). join (cond (has_word ms x) (text t empty) empty) (first_held a k x d m.rest)) here.0
      ∙ ap (λ z. join (cond (has_word (tail_marks a k s) x) (text t empty) empty) z) rest
      ∙ text_whole (has_word (tail_marks a k s) x) t d
      ∙ ap (λ (ms : List (List ℕ)). cond (has_word ms x) (text t d) empty) is

  element_tail : (l : List ℕ) (c d : Document) → IsTail c → IsTail d → IsTail (element l c d)
  element_tail l c d inside later s T state even (inl bare) e = absurd (none_any (takes_element a l c d) (moves_at a s).labels bare.0 e)
  element_tail l c d inside later s T state even (inr is) e =
      let found = find_first (takes_element a l c d) (moves_at a s).labels e in
      let n : ℕ = found.0 in
      let first : IsFirst (takes_element a l c d) (moves_at a s).labels n = found.1 in
      let q : LabelMove = moves_back s in
      let m : LabelMove = get_or (moves_at a s).labels n q in
      let here = (tails.even s state even).0.labels n q first.within in
      let there = (tails.even s state even).1.labels n q first.within in
      let content : first_held a k x c m.content ≡ empty = inside m.content [] there.1.0 there.1.1 here.1.1 (content_accepted a k l c d m (first.passes q)) in
      let rest : first_held a k x d m.rest ≡ cond (has_word (tail_marks a k s) x) d empty = later m.rest (tail_marks a k s) there.0.0 there.0.1 here.1.0 (rest_accepted a k l c d m (first.passes q)) in
      held_element a k x n l c d s q first
      ∙ ap (λ (ms : List (List ℕ)). join (cond (has_word ms x) (element l c empty) empty) (join (first_held a k x c m.content) (first_held a k x d m.rest))) here.0
      ∙ ap (λ z. join (cond (has_word (tail_marks a k s) x) (element l c empty) empty) (join z (first_held a k x d m.rest))) content
      ∙ ap (λ z. join (cond (has_word (tail_marks a k s) x) (element l c empty) empty) z) rest
      ∙ element_whole (has_word (tail_marks a k s) x) l c d
      ∙ ap (λ (ms : List (List ℕ)). cond (has_word ms x) (element l c d) empty) is

  empty_tail : IsTail empty
  empty_tail s T state even goes e = held_empty a k x s ∙ sym (cond_empty (has_word T x))

  all_tails : (d : Document) → IsTail d
  all_tails empty = empty_tail
  all_tails (text t d) = text_tail t d (all_tails d)
  all_tails (element l c d) = element_tail l c d (all_tails c) (all_tails d)

  pub tail_held : (d : Document) (s : State) → IsState a s → is_mixed mixed s ≡ false → accepts a d s ≡ true → first_held a k x d s ≡ cond (has_word (tail_marks a k s) x) d empty
  tail_held d s state even e = all_tails d s (tail_marks a k s) state even (inr refl) e
