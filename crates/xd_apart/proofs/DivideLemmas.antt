-- How moves are divided.
use Rattle.std.proofs.Common.{◌≡◌, ℕ, zero, suc, ◌-◌, ◌<◌, Bool, true, false, ◌⊎◌, inl, inr, Option, Some, None, List, [], ◌∷◌, ◌++◌, length, get_or, set, take, drop, refl, ap, sym, subst, ◌∙◌, arith}
use Rattle.std.specs.Option.{IfSome}
use Rattle.std.specs.List.{All, Contains, remove}
use Rattle.std.proofs.lemmas.List.{get_or_default, set-append_right}
use Rattle.std.proofs.lemmas.List.Elements.{All-append, All-drop, All-get_or, All-take}
use Rattle.std.proofs.lemmas.List.Sorted.{Contains-permutation, IsPermutation-remove}
use Rattle.xd_auto.specs.declared.auto.State.{State}
use Rattle.xd_auto.specs.declared.auto.LabelMove.{LabelMove}
use Rattle.xd_auto.specs.declared.auto.TextMove.{TextMove}
use Rattle.xd_auto.specs.declared.leading.Ends.{Ends}
use Rattle.xd_auto.specs.Automaton.{Automaton, StateMoves, moves_at, no_moves, state_number, with_moves}
use Rattle.xd_boole.proofs.ArePointsLemmas.{at_end}
use Rattle.xd_apart.specs.OverApproximation.{Adds, Divides, EndsBelow, HasMove, behind_to, copied, in_both, in_first, in_place, inside_to}

first_or_later : {X : Type 0} (x v : X) (xs : List X) → Contains (x ∷ xs) v → Contains xs v ⊎ (v ≡ x)
first_or_later x v xs (zero, c, e) = inr (sym e)
first_or_later x v xs (suc k, c, e) = inl (k, omega (arith, c), e)

-- what stands in a list stands there without its element at a place, or is that element
pub removed_cases : {X : Type 0} (xs : List X) (i : ℕ) (x v : X) → i < length xs → x ≡ get_or xs i x → Contains xs v → Contains (remove xs i) v ⊎ (v ≡ x)
removed_cases xs i x v lt at c = first_or_later x v (remove xs i) (Contains-permutation xs (x ∷ remove xs i) v (IsPermutation-remove xs i x lt at) c)

-- an element at a place, by itself as the default, is what stands there
pub same_at : {X : Type 0} (xs : List X) (i : ℕ) (x w : X) → i < length xs → x ≡ get_or xs i x → get_or xs i w ≡ w → x ≡ w
same_at xs i x w lt one other = one ∙ get_or_default xs i x w lt ∙ other

pub All-remove : {X : Type 0} (P : X → Type 0) (xs : List X) (i : ℕ) → All P xs → All P (remove xs i)
All-remove P xs i h = All-append P (take i xs) (drop (suc i) xs) (All-take P i xs h) (All-drop P (suc i) xs h)

pub All-at : {X : Type 0} (P : X → Type 0) (xs : List X) (i : ℕ) (x : X) → i < length xs → x ≡ get_or xs i x → All P xs → P x
All-at P xs i x lt at h = subst P (sym at) (All-get_or P xs i x lt h)

module _ {M : Type 0} (has : M → List ℕ → Bool) (ends_of : M → Ends) where
  has_kept : (old new : List M) (name : List ℕ) (e : Ends) → ((v : M) → Contains old v → Contains new v) → HasMove has ends_of old name e → HasMove has ends_of new name e
  has_kept old new name e keeps h = record { move = h.move; among = keeps h.move h.among; named = h.named; ends = h.ends }

  if_kept : (on : List ℕ → Bool) (w : Ends) (o : Option State) (old new : List M) → ((v : M) → Contains old v → Contains new v) → IfSome o (λ s. (name : List ℕ) → on name ≡ true → HasMove has ends_of old name (inside_to s w))
      → IfSome o (λ s. (name : List ℕ) → on name ≡ true → HasMove has ends_of new name (inside_to s w))
  if_kept on w None old new keeps h = tt
  if_kept on w (Some s) old new keeps h = λ name e. has_kept old new name (inside_to s w) keeps (h name e)

  -- the parts of a division, one after the other
  pub divides : (w m : M) (by : Ends) (moves others shared all : List M) → ((v : M) → Contains moves v → Contains others v ⊎ (v ≡ w)) → ((v : M) → Contains others v → Contains shared v)
      → IfSome by.inside (λ s. (name : List ℕ) → in_both has w m name ≡ true → HasMove has ends_of shared name (inside_to s (ends_of w))) → ((name : List ℕ) → in_both has w m name ≡ true → HasMove has ends_of shared name (behind_to by.behind (ends_of w)))
      → Adds has ends_of (in_first has w m) (ends_of w) shared all → Divides has ends_of w m by moves all
  divides w m by moves others shared all removed keeps inside behind two = record {
    others = λ v c. (elim (removed v c) [ inl k ↦ inl (two.keeps v (keeps v k)) | inr e ↦ inr e ]);
    inside = if_kept (in_both has w m) (ends_of w) by.inside shared all two.keeps inside;
    behind = λ name k. has_kept shared all name (behind_to by.behind (ends_of w)) two.keeps (behind name k);
    outside = two.there;
  }

pub inside_below : (n : ℕ) (s : State) (e : Ends) → state_number s < n → EndsBelow n e → EndsBelow n (inside_to s e)
inside_below n s e lt below = (below.0, go e.inside)
  where
    go : (o : Option State) → IfSome (in_place s o) (λ t. state_number t < n)
    go None = tt
    go (Some t) = lt

-- what was put after a list is exchanged
pub set_at_end : {X : Type 0} (xs : List X) (x y : X) (i : ℕ) → i ≡ length xs → set (xs ++ x ∷ []) i y ≡ xs ++ y ∷ []
set_at_end xs x y i e =
    ap (λ (k : ℕ). set (xs ++ x ∷ []) k y) e ∙ set-append_right xs (x ∷ []) (length xs) (length xs) y refl (omega arith)
    ∙ ap (λ (k : ℕ). xs ++ set (x ∷ []) k y) (let zero_is : length xs - length xs ≡ 0 = omega arith in zero_is)

with_fields : (m n : StateMoves) (last : Bool) (labels : List LabelMove) (texts : List TextMove) → m ≡ no_moves last → labels ≡ n.labels → texts ≡ n.texts → record m { labels = labels; texts = texts } ≡ copied last n
with_fields m n last labels texts e f g =
    ap (λ (b : Bool). let v : StateMoves = record { last = b; labels = labels; texts = texts } in v) (ap (λ (v : StateMoves). v.last) e)
    ∙ ap (λ (xs : List LabelMove). let v : StateMoves = record { last = last; labels = xs; texts = texts } in v) f
    ∙ ap (λ (xs : List TextMove). let v : StateMoves = record { last = last; labels = n.labels; texts = xs } in v) g

-- a state that was put after the others got the moves of another one
pub copied_at_end : (old made after : Automaton) (s : State) (last : Bool) (labels : List LabelMove) (texts : List TextMove) (n : StateMoves) → state_number s ≡ length old → made ≡ old ++ no_moves last ∷ [] → labels ≡ n.labels → texts ≡ n.texts
    → after ≡ with_moves made s (record (moves_at made s) { labels = labels; texts = texts }) → after ≡ old ++ copied last n ∷ []
copied_at_end old made after s last labels texts n at added f g is =
    is ∙ ap (λ (v : StateMoves). set made (state_number s) v) (with_fields (moves_at made s) n last labels texts (at_end old made (no_moves last) (no_moves false) (state_number s) added at) f g)
    ∙ ap (λ (xs : Automaton). set xs (state_number s) (copied last n)) added ∙ set_at_end old (no_moves last) (copied last n) (state_number s) at
