-- On states that accept the same, made one.
use Rattle.std.proofs.Common.{◌≡◌, ℕ, zero, suc, ◌+◌, ◌<◌, inl, inr, Bool, ◌&&◌, ◌||◌, cond, nat_eq, List, [], ◌∷◌, ◌++◌, length, get_or, set, take, true, false, Some, refl, ap, sym, ◌∙◌, subst, arith, length-set, get_or-set_other, get_or-set_same}
use Rattle.std.specs.List.{AllByRecursion, AllZip, list_any}
use Rattle.std.specs.HashMap.{HashMap}
use Rattle.std.proofs.lemmas.Bool.{cases_eq}
use Rattle.std.proofs.lemmas.List.{take_more}
use Rattle.std.proofs.lemmas.List.Elements.{AllZip-push}
use Rattle.std.specs.Cmp.Lexicographic.{pointwise, same_text}
use Rattle.xd_doc.specs.Document.{Document, empty, text, element}
use Rattle.xd_doc.specs.Classes.{NameClass, class_has}
use Rattle.xd_doc.proofs.Lists.{all_set}
use Rattle.xd_auto.specs.declared.auto.State.{State}
use Rattle.xd_auto.specs.Automaton.{Automaton, IsState, accepts, moves_at, state_number}
use Rattle.xd_boole.specs.declared.merging.Compared.{Compared}
use Rattle.xd_boole.specs.Merging.{AreLike, AreStandIns, IsLike, IsLikeLabel, IsLikeText, KeepStates, found_at, stand_in}

pub any_zip : {M : Type 0} (R : M → M → Type 0) (f g : M → Bool) (xs ys : List M) → AllZip R xs ys → ((x y : M) → R x y → f x ≡ g y) → list_any f xs ≡ list_any g ys
any_zip R f g [] [] h same = refl
any_zip R f g [] (y ∷ ys) h same = absurd h
any_zip R f g (x ∷ xs) [] h same = absurd h
any_zip R f g (x ∷ xs) (y ∷ ys) h same = ap (λ w. w || list_any f xs) (same x y h.0) ∙ ap (λ w. g y || w) (any_zip R f g xs ys h.1 same)

-- two lists that were compared so far, one step on
pub zip_more : {X : Type 0} (R : X → X → Type 0) (xs ys : List X) (i : ℕ) (x y : X) → i < length xs → i < length ys → x ≡ get_or xs i x → y ≡ get_or ys i y → AllZip R (take i xs) (take i ys) → R x y
    → AllZip R (take (i + 1) xs) (take (i + 1) ys)
zip_more R xs ys i x y lt lt2 at at2 h r =
    subst (λ zs. AllZip R zs (take (i + 1) ys)) (ap (λ z. take i xs ++ z ∷ []) at ∙ sym (take_more xs i x lt))
    (subst (λ zs. AllZip R (take i xs ++ x ∷ []) zs) (ap (λ z. take i ys ++ z ∷ []) at2 ∙ sym (take_more ys i y lt2)) (AllZip-push R (take i xs) (take i ys) x y h r))

-- classes with the same names
pub same_class : (c e : NameClass) → c.except ≡ e.except → pointwise (pointwise nat_eq) c.names e.names ≡ true → c ≡ e
same_class c e excepts names =
    ap (λ n. record { names = n; except = c.except }) (same_names c.names e.names names) ∙ ap (λ b. record { names = e.names; except = b }) excepts
  where
    left : (x y : Bool) → (x && y) ≡ true → x ≡ true
    left true y h = refl
    left false y h = h

    right : (x y : Bool) → (x && y) ≡ true → y ≡ true
    right true y h = h
    right false y h = absurd (cc)

    same_names : (xs ys : List (List ℕ)) → pointwise (pointwise nat_eq) xs ys ≡ true → xs ≡ ys
    same_names [] [] h = refl
    same_names [] (y ∷ ys) h = absurd (cc)
    same_names (x ∷ xs) [] h = absurd (cc)
    same_names (x ∷ xs) (y ∷ ys) h =
        ap (λ z. z ∷ xs) (same_text x y (sym (left (pointwise nat_eq x y) (pointwise (pointwise nat_eq) xs ys) h)))
        ∙ ap (λ zs. y ∷ zs) (same_names xs ys (right (pointwise nat_eq x y) (pointwise (pointwise nat_eq) xs ys) h))

-- what stands in for a state is a state
pub stand_in_there : (a : Automaton) (same : List State) (s : State) → AllByRecursion (IsState a) same → IsState a s → IsState a (stand_in same s)
stand_in_there a same s all there = go same (state_number s) all
  where
    go : (xs : List State) (k : ℕ) → AllByRecursion (IsState a) xs → IsState a (get_or xs k s)
    go [] k h = there
    go (x ∷ xs) zero h = h.0
    go (x ∷ xs) (suc k) h = go xs k h.1

-- one more state that stands in for itself
pub itself_push : (xs : List State) (t s : State) → state_number t ≡ length xs → stand_in xs s ≡ s → stand_in (xs ++ t ∷ []) s ≡ s
itself_push xs t s at h = go xs (state_number s) h (λ e. ap (λ k. record { number = k }) (at ∙ sym e))
  where
    go : (ys : List State) (k : ℕ) → get_or ys k s ≡ s → (k ≡ length ys → t ≡ s) → get_or (ys ++ t ∷ []) k s ≡ s
    go [] zero g e = e refl
    go [] (suc k) g e = refl
    go (y ∷ ys) zero g e = g
    go (y ∷ ys) (suc k) g e = go ys k g (λ q. e (ap suc q))

module _ (a : Automaton) (same : List State) (stand : AreStandIns a same) (c : Compared) where
  like_side : (d : Document) → accepts a d c.one ≡ accepts a d c.other → (u v : State) → IsLike same c u v → accepts a d u ≡ accepts a d v
  like_side d h u v (inl both) = ap (accepts a d) both.0 ∙ h ∙ sym (ap (accepts a d) both.1)
  like_side d h u v (inr e) = sym (stand.accept d u) ∙ ap (accepts a d) e ∙ stand.accept d v

  -- states that are like each other accept the same
  pub like_accepts : AreLike a same c → (d : Document) → accepts a d c.one ≡ accepts a d c.other
  like_accepts like empty = like.last
  like_accepts like (text t r) =
      any_zip (IsLikeText same c) (λ m. class_has m.words t && accepts a r m.rest) (λ m. class_has m.words t && accepts a r m.rest) (moves_at a c.one).texts (moves_at a c.other).texts like.texts
      (λ m n h. ap (λ w. class_has w t && accepts a r m.rest) h.words ∙ ap (λ w. class_has n.words t && w) (like_side r (like_accepts like r) m.rest n.rest h.rest))
  like_accepts like (element l k r) =
      any_zip (IsLikeLabel same c) (λ m. class_has m.class l && (accepts a k m.content && accepts a r m.rest)) (λ m. class_has m.class l && (accepts a k m.content && accepts a r m.rest))
      (moves_at a c.one).labels (moves_at a c.other).labels like.labels
      (λ m n h. ap (λ w. class_has w l && (accepts a k m.content && accepts a r m.rest)) h.class
      ∙ ap (λ w. class_has n.class l && (w && accepts a r m.rest)) (like_side k (like_accepts like k) m.content n.content h.content)
      ∙ ap (λ w. class_has n.class l && (accepts a k n.content && w)) (like_side r (like_accepts like r) m.rest n.rest h.rest))

  -- what stands in for the one stands in for the other
  pub stands_for : AreLike a same c → IsState a c.one → IsState a c.other → AreStandIns a (set same (state_number c.one) (stand_in same c.other))
  stands_for like one other = record {
    count = length-set same (state_number c.one) (stand_in same c.other) ∙ stand.count;
    states = all_set (IsState a) same (state_number c.one) (stand_in same c.other) stand.states (stand_in_there a same c.other stand.states other);
    accept = λ d s. elim (cases_eq (state_number s) (state_number c.one)) [
      | inl e ↦
          ap (accepts a d) (ap (λ k. get_or (set same (state_number c.one) (stand_in same c.other)) k s) e
          ∙ get_or-set_same same (state_number c.one) (stand_in same c.other) s (omega (arith, one, stand.count)))
          ∙ stand.accept d c.other ∙ sym (like_accepts like d) ∙ ap (λ k. accepts a d (record { number = k })) (sym e)
      | inr ne ↦ ap (accepts a d) (get_or-set_other same (state_number c.one) (state_number s) (stand_in same c.other) s ne) ∙ stand.accept d s
    ];
  }

-- each state stands in for itself
pub all_themselves : (a : Automaton) (same : List State) → length same ≡ length a → AllByRecursion (IsState a) same → ((s : State) → stand_in same s ≡ s) → AreStandIns a same
all_themselves a same count states itself = record { count = count; states = states; accept = λ d s. ap (accepts a d) (itself s) }

-- one more state is kept
pub keeps_one : {S : Type 0} (a : Automaton) (old new : HashMap ℕ State S) (key : ℕ) (s : State) → KeepStates a old → IsState a s
    → ((q : ℕ) → found_at new q ≡ cond (nat_eq key q) (Some s) (found_at old q)) → KeepStates a new
keeps_one {S} a old new key s kept there put = λ q t e. go q t (nat_eq key q) (sym (put q) ∙ e)
  where
    some_is : (t : State) → Some s ≡ Some t → s ≡ t
    some_is t e = cc

    go : (q : ℕ) (t : State) (b : Bool) → cond b (Some s) (found_at old q) ≡ Some t → IsState a t
    go q t true e = subst (IsState a) (some_is t e) there
    go q t false e = kept q t e
