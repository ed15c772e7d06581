-- On moves that lead to the states that stand in for theirs.
use Rattle.std.proofs.Common.{◌≡◌, ℕ, ◌+◌, ◌<◌, ◌≤◌, ◌++◌, take, get_or, append_assoc, inl, inr, Bool, false, ◌&&◌, ◌||◌, List, [], ◌∷◌, map, length, refl, ap, sym, subst, ◌∙◌, arith}
use Rattle.std.specs.List.{AllByRecursion, list_any}
use Rattle.std.proofs.lemmas.Bool.{cases_lt}
use Rattle.std.proofs.lemmas.List.{get_or_past, take_more}
use Rattle.xd_doc.specs.Document.{Document, empty, text, element}
use Rattle.xd_doc.specs.Classes.{LabelClass, TextClass, class_has}
use Rattle.xd_auto.specs.declared.auto.State.{State}
use Rattle.xd_auto.specs.declared.auto.LabelMove.{LabelMove}
use Rattle.xd_auto.specs.declared.auto.TextMove.{TextMove}
use Rattle.xd_auto.specs.Automaton.{Automaton, ChangesOnly, IsState, StateMoves, accepts, moves_at, no_moves, state_number, with_label_move, with_text_move}
use Rattle.xd_empty.proofs.PartLemmas.{changes_trans}
use Rattle.xd_boole.specs.Merging.{AreStandIns, IsRedirected, RedirectsFirst, RedirectsLabels, RedirectsTexts, redirected, text_redirected, stand_in}
use Rattle.xd_boole.specs.Meaning.{TellSame, move_takes, text_takes}
use Rattle.xd_boole.proofs.HasMovesLemmas.{given_moves}
use Rattle.xd_boole.proofs.MergeLemmas.{stand_in_there}

any_map : {X : Type 0} (h : X → X) (f g : X → Bool) (xs : List X) → ((x : X) → f (h x) ≡ g x) → list_any f (map h xs) ≡ list_any g xs
any_map h f g [] same = refl
any_map h f g (x ∷ xs) same = ap (λ w. w || list_any f (map h xs)) (same x) ∙ ap (λ w. g x || w) (any_map h f g xs same)

map_over : {X : Type 0} (h : X → X) (f g : X → Bool) (xs : List X) → ((x : X) → f (h x) ≡ g x) → map f (map h xs) ≡ map g xs
map_over h f g [] same = refl
map_over h f g (x ∷ xs) same = ap (λ w. w ∷ map f (map h xs)) (same x) ∙ ap (λ w. g x ∷ w) (map_over h f g xs same)

-- all states have their moves, so they accept what they did
module _ (a : Automaton) (same : List State) (made : Automaton) (n : ℕ) (stand : AreStandIns a same) (all : length a ≤ n) (h : RedirectsFirst a same made n) where
  state : (s : State) → IsRedirected a same made s
  state s = elim (cases_lt (state_number s) (length a)) [
    | inl lt ↦ h.done s (omega arith) lt
    | inr le ↦
        let old : moves_at a s ≡ no_moves false = get_or_past a (state_number s) (no_moves false) le in
        let new : moves_at made s ≡ no_moves false = get_or_past made (state_number s) (no_moves false) (omega (arith, h.count)) in
        record {
          last = ap (λ (m : StateMoves). m.last) new ∙ sym (ap (λ (m : StateMoves). m.last) old);
          labels = ap (λ (m : StateMoves). m.labels) new ∙ sym (ap (λ (m : StateMoves). map (redirected same) m.labels) old);
          texts = ap (λ (m : StateMoves). m.texts) new ∙ sym (ap (λ (m : StateMoves). map (text_redirected same) m.texts) old);
        }
  ]

  pub redirected_accepts : (d : Document) (s : State) → accepts made d s ≡ accepts a d s
  redirected_accepts empty s = (state s).last
  redirected_accepts (text t r) s =
      ap (list_any (λ (m : TextMove). class_has m.words t && accepts made r m.rest)) (state s).texts
      ∙ any_map (text_redirected same) (λ m. class_has m.words t && accepts made r m.rest) (λ m. class_has m.words t && accepts a r m.rest) (moves_at a s).texts
      (λ m. ap (λ w. class_has m.words t && w) (redirected_accepts r (stand_in same m.rest) ∙ stand.accept r m.rest))
  redirected_accepts (element l c r) s =
      ap (list_any (λ (m : LabelMove). class_has m.class l && (accepts made c m.content && accepts made r m.rest))) (state s).labels
      ∙ any_map (redirected same) (λ m. class_has m.class l && (accepts made c m.content && accepts made r m.rest)) (λ m. class_has m.class l && (accepts a c m.content && accepts a r m.rest)) (moves_at a s).labels
      (λ m. ap (λ w. class_has m.class l && (w && accepts made r (stand_in same m.rest))) (redirected_accepts c (stand_in same m.content) ∙ stand.accept c m.content)
      ∙ ap (λ w. class_has m.class l && (accepts a c m.content && w)) (redirected_accepts r (stand_in same m.rest) ∙ stand.accept r m.rest))

  -- and their moves tell what they did
  pub redirected_tells : TellSame a made
  redirected_tells = record {
    labels = λ q s.
        ap (map (move_takes made q)) (state s).labels
        ∙ map_over (redirected same) (move_takes made q) (move_takes a q) (moves_at a s).labels
        (λ m. ap (λ w. class_has m.class q.label && (w && accepts made q.rest (stand_in same m.rest))) (redirected_accepts q.content (stand_in same m.content) ∙ stand.accept q.content m.content)
        ∙ ap (λ w. class_has m.class q.label && (accepts a q.content m.content && w)) (redirected_accepts q.rest (stand_in same m.rest) ∙ stand.accept q.rest m.rest));
    texts = λ q s.
        ap (map (text_takes made q)) (state s).texts
        ∙ map_over (text_redirected same) (text_takes made q) (text_takes a q) (moves_at a s).texts
        (λ m. ap (λ w. class_has m.words q.characters && w) (redirected_accepts q.rest (stand_in same m.rest) ∙ stand.accept q.rest m.rest));
  }

-- ---- one more move

-- what stands in for a state belongs to an automaton with as many states
pub stands_within : (same : List State) (s t : State) (old mid : Automaton) → length mid ≡ length old → AllByRecursion (IsState old) same → IsState old s → t ≡ stand_in same s → IsState mid t
stands_within same s t old mid count all there is = subst (λ n. state_number t < n) (sym count) (subst (IsState old) (sym is) (stand_in_there old same s all there))

map_push : {X Y : Type 0} (f : X → Y) (xs : List X) (x : X) → map f (xs ++ x ∷ []) ≡ map f xs ++ f x ∷ []
map_push f [] x = refl
map_push f (y ∷ ys) x = ap (λ zs. f y ∷ zs) (map_push f ys x)

map_more : {X Y : Type 0} (f : X → Y) (before : List Y) (xs : List X) (i : ℕ) (x : X) (y : Y) → i < length xs → x ≡ get_or xs i x → y ≡ f x → (before ++ map f (take i xs)) ++ y ∷ [] ≡ before ++ map f (take (i + 1) xs)
map_more f before xs i x y lt at is =
    append_assoc before (map f (take i xs)) (y ∷ [])
    ∙ ap (λ z. before ++ (map f (take i xs) ++ z ∷ [])) (is ∙ ap f at)
    ∙ ap (λ zs. before ++ zs) (sym (map_push f (take i xs) (get_or xs i x)) ∙ ap (map f) (sym (take_more xs i x lt)))

pub label_given : (same : List State) (s : State) (moves : List LabelMove) (i : ℕ) (m : LabelMove) (class : LabelClass) (content rest : State) (old mid new : Automaton) → i < length moves → m ≡ get_or moves i m
    → class ≡ m.class → content ≡ stand_in same m.content → rest ≡ stand_in same m.rest → IsState mid s → new ≡ with_label_move mid s (record { class = class; content = content; rest = rest }) → ChangesOnly s mid new
    → RedirectsLabels same s (take i moves) old mid → RedirectsLabels same s (take (i + 1) moves) old new
label_given same s moves i m class content rest old mid new lt at k u v there is others before =
    let given : LabelMove = record { class = class; content = content; rest = rest } in
    let same_move : given ≡ redirected same m =
    ap (λ (x : LabelClass). let y : LabelMove = record { class = x; content = content; rest = rest } in y) k
    ∙ ap (λ (x : State). let y : LabelMove = record { class = m.class; content = x; rest = rest } in y) u
    ∙ ap (λ (x : State). let y : LabelMove = record { class = m.class; content = stand_in same m.content; rest = x } in y) v in
    let e : moves_at new s ≡ record (moves_at mid s) { labels = (moves_at mid s).labels ++ given ∷ [] } = given_moves mid new s _ there is in
    record {
      others = changes_trans s old mid new before.others others;
      last = ap (λ (x : StateMoves). x.last) e ∙ before.last;
      labels = ap (λ (x : StateMoves). x.labels) e ∙ ap (λ ls. ls ++ given ∷ []) before.labels ∙ map_more (redirected same) (moves_at old s).labels moves i m given lt at same_move;
      texts = ap (λ (x : StateMoves). x.texts) e ∙ before.texts;
    }

pub text_given : (same : List State) (s : State) (moves : List TextMove) (i : ℕ) (m : TextMove) (words : TextClass) (rest : State) (old mid new : Automaton) → i < length moves → m ≡ get_or moves i m
    → words ≡ m.words → rest ≡ stand_in same m.rest → IsState mid s → new ≡ with_text_move mid s (record { words = words; rest = rest }) → ChangesOnly s mid new
    → RedirectsTexts same s (take i moves) old mid → RedirectsTexts same s (take (i + 1) moves) old new
text_given same s moves i m words rest old mid new lt at k v there is others before =
    let given : TextMove = record { words = words; rest = rest } in
    let same_move : given ≡ text_redirected same m =
    ap (λ (x : TextClass). let y : TextMove = record { words = x; rest = rest } in y) k
    ∙ ap (λ (x : State). let y : TextMove = record { words = m.words; rest = x } in y) v in
    let e : moves_at new s ≡ record (moves_at mid s) { texts = (moves_at mid s).texts ++ given ∷ [] } = given_moves mid new s _ there is in
    record {
      others = changes_trans s old mid new before.others others;
      last = ap (λ (x : StateMoves). x.last) e ∙ before.last;
      labels = ap (λ (x : StateMoves). x.labels) e ∙ before.labels;
      texts = ap (λ (x : StateMoves). x.texts) e ∙ ap (λ ls. ls ++ given ∷ []) before.texts ∙ map_more (text_redirected same) (moves_at old s).texts moves i m given lt at same_move;
    }
