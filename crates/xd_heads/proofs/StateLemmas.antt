-- States, and what they lead to.
use Rattle.std.proofs.Common.{◌≡◌, ℕ, zero, suc, ◌+◌, ◌<◌, ◌≤◌, ◌⊎◌, arith, Bool, true, false, ◌||◌, List, [], ◌∷◌, ◌++◌, map, length, append_assoc, append-nil, refl, ap, sym, subst, ◌∙◌, inl, inr, nat_eq, nat_lt, not, ◌&&◌, cond, Option, None, Some}
use Rattle.std.specs.Prelude.{if◌then◌else◌}
use Rattle.std.specs.List.{AllByRecursion, list_any, slice_get, position, position_or_len}
use Rattle.std.specs.Option.{IfSome, IfNone}
use Rattle.std.proofs.lemmas.Bool.Decides.{nat_tests}
use Rattle.std.proofs.lemmas.List.{length-map}
use Rattle.xd_doc.specs.Classes.{LabelClass, TextClass}
use Rattle.xd_doc.specs.Members.{IsOneOf}
use Rattle.xd_doc.proofs.Bools.{and_with_true}
use Rattle.xd_doc.proofs.Lists.{all_more}
use Rattle.xd_doc.proofs.Numbers.{number_same as same_number, same_eq}
use Rattle.xd_syntax.specs.Tree.{Tree, Definitions, any_type, seq_of}
use Rattle.xd_syntax.specs.Types.{form_of}
use Rattle.xd_syntax.specs.declared.types.TypeId.{TypeId}
use Rattle.xd_syntax.specs.declared.types.TypeForm.{TypeForm}
use Rattle.xd_syntax.specs.declared.types.TypeForm.TheVariants as V
use Rattle.xd_syntax.specs.Table.{Row, Form, empty_form, text_form, words_form, name_form, elem_form, seq_form, alt_form, star_form, plus_form, opt_form, val_form, tree_at, form_tree, CanFollow}
use Rattle.xd_syntax.specs.Placed.{unplaced}
use Rattle.xd_syntax.specs.Program.{TypeDefinition}
use Rattle.xd_syntax.specs.Kept.{type_definition}
use Rattle.xd_rules.specs.Heads.{text_in}
use Rattle.xd_meaning.specs.Heads.{all_texts}
use Rattle.xd_meaning.specs.CanBeEmpty.{can_be_empty, empty_name}
use Rattle.xd_syntax.specs.Fits.{empty_by}
use Rattle.xd_syntax.specs.declared.types.TypeDef.{TypeDef}
use Rattle.xd_syntax.proofs.Members.{mem_append}
use Rattle.xd_laws.proofs.Pigeon.{NoRepeat, pigeon}
use Rattle.xd_syntax.proofs.PlacedTrees.{unplaced_at}
use Rattle.xd_continuations.specs.Bounds.{node_count, NoneLarger, longest}
use Rattle.xd_continuations.specs.Chains.{list_at, AreLinks, KeepsLinks}
use Rattle.xd_moves.specs.Cells.{room, Cell}
use Rattle.xd_sound.specs.TypeNames.{meanings}
use Rattle.xd_moves.specs.Pieces.{piece_tree}
use Rattle.xd_moves.specs.Found.{continuation, move_of, AreOfTypes, AreBounded}
use Rattle.xd_continuations.specs.Continuation.{Move}
use Rattle.xd_heads.specs.Sorts.{is_text}
use Rattle.xd_heads.specs.States.{EachOnce, number_at, AddsNumber, IsOfCell, AddsStates, nodes_from, nodes_in}
use Rattle.xd_continuations.proofs.IsBoundedLemmas.{bounded_length}
use Rattle.xd_continuations.proofs.ChainLemmas.{kept_length, lists_within_are}
use Rattle.xd_moves.proofs.CellLemmas.{few_cells}

less_true : (m n : ℕ) → nat_lt m n ≡ true → m < n
less_true m n e = grind (arith, nat_tests)

less_false : (m n : ℕ) → nat_lt m n ≡ false → m < n → ⊥
less_false m n e h = grind (arith, nat_tests)

-- ---- one more state

module _ {A : Type 0} (test : A → Bool) (x : A) (whole : test x ≡ true) (right : (y : A) → test y ≡ true → y ≡ x) where
  any_among : (xs : List A) → list_any test xs ≡ true → IsOneOf x xs
  any_among [] h = cc
  any_among (y ∷ ys) h = go (test y) refl h (any_among ys)
    where
      go : (b : Bool) → test y ≡ b → (b || list_any test ys) ≡ true → (list_any test ys ≡ true → IsOneOf x ys) → IsOneOf x (y ∷ ys)
      go true e k rec = inl (right y e)
      go false e k rec = inr (rec k)

  among_any : (xs : List A) → IsOneOf x xs → list_any test xs ≡ true
  among_any [] m = absurd m
  among_any (y ∷ ys) (inl e) = let q : test y ≡ true = ap test e ∙ whole in rw q refl
  among_any (y ∷ ys) (inr m) = go (test y) (among_any ys m)
    where
      go : (b : Bool) → list_any test ys ≡ true → (b || list_any test ys) ≡ true
      go true e = refl
      go false e = e

  -- what an insertion leaves
  pub added : (old new : List A) → new ≡ if list_any test old then old else old ++ x ∷ [] → (IsOneOf x old × (new ≡ old)) ⊎ ((IsOneOf x old → ⊥) × (new ≡ old ++ x ∷ []))
  added old new e = go (list_any test old) refl e
    where
      go : (b : Bool) → list_any test old ≡ b → new ≡ if b then old else old ++ x ∷ [] → (IsOneOf x old × (new ≡ old)) ⊎ ((IsOneOf x old → ⊥) × (new ≡ old ++ x ∷ []))
      go true i q = inl (any_among old i, q)
      go false i q = inr ((λ m. let k = among_any old m in let z : true ≡ false = sym k ∙ i in cc), q)

  -- the place of the element
  place : (xs : List A) (k : ℕ) → k ≡ position_or_len test xs → k < length xs → slice_get xs k ≡ Some x
  place [] k e h = absurd (omega arith)
  place (y ∷ ys) k e h = go (test y) refl k e h (place ys)
    where
      go : (b : Bool) → test y ≡ b → (k : ℕ) → k ≡ cond (not b) (1 + position_or_len test ys) 0 → k < suc (length ys) →
          ((j : ℕ) → j ≡ position_or_len test ys → j < length ys → slice_get ys j ≡ Some x) → slice_get (y ∷ ys) k ≡ Some x
      go true q zero e h rec = ap Some (right y q)
      go true q (suc k) e h rec = absurd (omega arith)
      go false q zero e h rec = absurd (omega arith)
      go false q (suc k) e h rec = rec k (omega arith) (omega arith)

  has_place : (xs : List A) → IsOneOf x xs → position_or_len test xs < length xs
  has_place [] m = absurd m
  has_place (y ∷ ys) m = go (test y) refl m (has_place ys)
    where
      go : (b : Bool) → test y ≡ b → (y ≡ x) ⊎ IsOneOf x ys → (IsOneOf x ys → position_or_len test ys < length ys) → cond (not b) (1 + position_or_len test ys) 0 < suc (length ys)
      go true q i rec = omega arith
      go false q (inl e) rec = let z : true ≡ false = sym (ap test e ∙ whole) ∙ q in cc
      go false q (inr i) rec = let h = rec i in omega arith

  pub found_at_place : (xs : List A) (o : Option ℕ) → o ≡ position test xs → IfSome o (λ i. slice_get xs i ≡ Some x)
  found_at_place xs o e = go (nat_lt (position_or_len test xs) (length xs)) refl e
    where
      go : (b : Bool) → nat_lt (position_or_len test xs) (length xs) ≡ b → o ≡ cond b (Some (position_or_len test xs)) None → IfSome o (λ i. slice_get xs i ≡ Some x)
      go true q i =
          subst (λ (p : Option ℕ). IfSome p (λ j. slice_get xs j ≡ Some x)) (sym i)
          (place xs (position_or_len test xs) refl (less_true (position_or_len test xs) (length xs) q))
      go false q i = subst (λ (p : Option ℕ). IfSome p (λ j. slice_get xs j ≡ Some x)) (sym i) tt

  pub none_at_place : (xs : List A) (o : Option ℕ) → o ≡ position test xs → IfNone o (IsOneOf x xs → ⊥)
  none_at_place xs o e = go (nat_lt (position_or_len test xs) (length xs)) refl e
    where
      go : (b : Bool) → nat_lt (position_or_len test xs) (length xs) ≡ b → o ≡ cond b (Some (position_or_len test xs)) None → IfNone o (IsOneOf x xs → ⊥)
      go true q i = subst (λ (p : Option ℕ). IfNone p (IsOneOf x xs → ⊥)) (sym i) tt
      go false q i =
          subst (λ (p : Option ℕ). IfNone p (IsOneOf x xs → ⊥)) (sym i)
          (λ m. less_false (position_or_len test xs) (length xs) q (has_place xs m))

-- ---- numbers

-- what an insertion of a number leaves
pub number_added : (keys old new : List ℕ) (k : ℕ) → keys ≡ old → new ≡ if list_any (nat_eq k) keys then keys else keys ++ k ∷ [] → AddsNumber old k new
number_added keys old new k v e = added (nat_eq k) k (same_eq k) (same_number k) old new (subst (λ ks. new ≡ if list_any (nat_eq k) ks then ks else ks ++ k ∷ []) v e)

-- where a number is found, and that it is nowhere where none is found
pub number_found : (xs : List ℕ) (k : ℕ) (o : Option ℕ) → o ≡ position (nat_eq k) xs → IfSome o (λ i. slice_get xs i ≡ Some k)
number_found xs k = found_at_place (nat_eq k) k (same_eq k) (same_number k) xs

pub number_nowhere : (xs : List ℕ) (k : ℕ) (o : Option ℕ) → o ≡ position (nat_eq k) xs → IfNone o (IsOneOf k xs → ⊥)
number_nowhere xs k = none_at_place (nat_eq k) k (same_eq k) (same_number k) xs

once_push : (ks : List ℕ) (k : ℕ) → EachOnce ks → (IsOneOf k ks → ⊥) → EachOnce (ks ++ k ∷ [])
once_push [] k e h = ((λ m. m), tt)
once_push (j ∷ ks) k e h =
    ((λ m. elim (mem_append j ks (k ∷ []) m) [ inl a ↦ e.0 a | inr (inl q) ↦ h (inl (sym q)) | inr (inr b) ↦ b ]), once_push ks k e.1 (λ m. h (inr m)))

pub once_added : (old new : List ℕ) (k : ℕ) → EachOnce old → AddsNumber old k new → EachOnce new
once_added old new k e (inl h) = subst EachOnce (sym h.1) e
once_added old new k e (inr h) = subst EachOnce (sym h.1) (once_push old k e h.0)

-- ---- how many states there are

numbers_once : (ns : List ℕ) → EachOnce ns → NoRepeat ns
numbers_once [] o = tt
numbers_once (n ∷ ns) o = (o.0, numbers_once ns o.1)

up_to : ℕ → List ℕ
up_to zero = 0 ∷ []
up_to (suc n) = suc n ∷ up_to n

up_to-length : (n : ℕ) → length (up_to n) ≡ n + 1
unfolding up_to
up_to-length zero = refl
up_to-length (suc n) = let i = up_to-length n in omega arith

up_to_has : (n m : ℕ) → m ≤ n → IsOneOf m (up_to n)
unfolding up_to
up_to_has zero zero h = inl refl
up_to_has zero (suc m) h = absurd (omega arith)
up_to_has (suc n) m h = go m (cases m n h) (λ k. up_to_has n m k)
  where
    cases : (i j : ℕ) → i ≤ suc j → (i ≡ suc j) ⊎ (i ≤ j)
    cases zero j k = inr (omega arith)
    cases (suc zero) zero k = inl refl
    cases (suc (suc i)) zero k = absurd (omega arith)
    cases (suc i) (suc j) k = elim (cases i j (omega arith)) [ inl e ↦ inl (ap suc e) | inr l ↦ inr (omega arith) ]

    go : (i : ℕ) → (i ≡ suc n) ⊎ (i ≤ n) → (i ≤ n → IsOneOf i (up_to n)) → IsOneOf i (suc n ∷ up_to n)
    go i (inl e) rec = inl (sym e)
    go i (inr l) rec = inr (rec l)

below : (P : ℕ → Type 0) (ns : List ℕ) → AllByRecursion P ns → (n : ℕ) → IsOneOf n ns → P n
below P [] a n m = absurd m
below P (k ∷ ns) a n (inl e) = subst P e a.0
below P (k ∷ ns) a n (inr m) = below P ns a.1 n m

few_numbers : (ns : List ℕ) (n : ℕ) → NoRepeat ns → AllByRecursion (λ k. k ≤ n) ns → length ns ≤ n + 1
few_numbers ns n o a =
    let h = pigeon ns (up_to n) o (λ m i. up_to_has n m (below (λ k. k ≤ n) ns a m i)) in
    let e = up_to-length n in omega arith

-- no more states than there are short continuations
pub states_few : (E : Definitions) (m : ℕ) (types : List Row) (cells : List Cell) (states : List ℕ) → AreLinks cells → AreOfTypes types cells → AreBounded E m types cells → EachOnce states →
    AllByRecursion (IsOfCell (length cells)) states → length states ≤ room (length types) (longest E m)
states_few E m types cells states a nodes b o s =
    let short = lists_within_are (longest E m) cells
    (λ n h. (let k = bounded_length E m (continuation types cells n) (b n h) in let l = length-map (list_at cells n) (piece_tree types) in omega (arith, k, l))) in
    let f = few_cells (length types) (longest E m) cells a nodes short in
    let g = few_numbers states (length cells) (numbers_once states o) s in
    omega arith

-- ---- states that are added

numbers_kept : (old new : List Cell) → KeepsLinks old new → (os : List ℕ) → AllByRecursion (IsOfCell (length old)) os → AllByRecursion (IsOfCell (length new)) os
numbers_kept old new k os a = let l = kept_length old new k in all_more (IsOfCell (length old)) (IsOfCell (length new)) os (λ n h. omega arith) a

pub states_none : (old new : List Cell) → KeepsLinks old new → (states : List ℕ) → AddsStates old new states states
states_none old new k states = record { more = []; grown = sym (append-nil states); numbers = numbers_kept old new k states }

pub states_then : (a b c : List Cell) (x y z : List ℕ) → AddsStates a b x y → AddsStates b c y z → AddsStates a c x z
states_then a b c x y z s t = record {
  more = s.more ++ t.more;
  grown = t.grown ∙ ap (λ os. os ++ t.more) s.grown ∙ append_assoc x s.more t.more;
  numbers = λ n. t.numbers (s.numbers n);
}

-- each state has a number
pub number_none : (states : List ℕ) (n : ℕ) → number_at states n ≡ None → length states ≤ n
number_none [] n e = omega arith
number_none (m ∷ ms) zero e = cc
number_none (m ∷ ms) (suc n) e = let i = number_none ms n e in omega arith

-- ---- how large types are

six : (types rs : List Row) (i : ℕ) → 6 ≤ nodes_from types rs i
six types [] i = omega arith
six types (r ∷ rs) i = let k = six types rs (i + 1) in omega arith

nodes_at : (types rs : List Row) (i j : ℕ) → j < length rs → node_count (tree_at types (i + j)) ≤ nodes_from types rs i
nodes_at types [] i j h = absurd (omega arith)
nodes_at types (r ∷ rs) i zero h =
    let e : i + 0 ≡ i = omega arith in subst (λ k. node_count (tree_at types k) ≤ nodes_from types (r ∷ rs) i) (sym e) (omega arith)
nodes_at types (r ∷ rs) i (suc j) h =
    let e : (i + 1) + j ≡ i + suc j = omega arith in
    let k = subst (λ n. node_count (tree_at types n) ≤ nodes_from types rs (i + 1)) e (nodes_at types rs (i + 1) j (omega arith)) in omega arith

pub nodes_below : (types : List Row) (i : ℕ) → i < length types → node_count (tree_at types i) ≤ nodes_in types
unfolding nodes_in
nodes_below types i h = let e : 0 + i ≡ i = omega arith in subst (λ n. node_count (tree_at types n) ≤ nodes_from types types 0) e (nodes_at types types 0 i h)

any_small : (types : List Row) → node_count any_type ≤ nodes_in types
unfolding nodes_in
any_small types = let k = six types types 0 in omega arith

bodies_small : (types : List Row) (m : ℕ) → ((i : ℕ) → i < length types → node_count (tree_at types i) ≤ m) → (ds : List TypeDef) → AllByRecursion (λ (d : TypeDef). d.body.at < length types) ds →
    NoneLarger m (map (λ (t : TypeDefinition). (t.name, unplaced t.body)) (map (type_definition types) ds))
bodies_small types m h [] a = tt
bodies_small types m h (d ∷ ds) a = (subst (λ T. node_count T ≤ m) (sym (unplaced_at types d.body.at)) (h d.body.at a.0), bodies_small types m h ds a.1)

pub none_larger_in : (types : List Row) (ds : List TypeDef) → AllByRecursion (λ (d : TypeDef). d.body.at < length types) ds → NoneLarger (nodes_in types) (meanings types ds)
none_larger_in types ds a = (any_small types, bodies_small types (nodes_in types) (nodes_below types) ds a)

-- ---- contents

pub kind_of_other : (t : ℕ → Tree) (rows : List Row) (f : Form) → CanFollow false rows f → ((c : LabelClass) (i : ℕ) → f ≡ elem_form c i → ⊥) → ((w : TextClass) → f ≡ words_form w → ⊥) → (K : List Tree) →
    move_of (form_tree t f) K ≡ record { kind = text_in all_texts; content = []; rest = K }
kind_of_other t rows empty_form c n v K = refl
kind_of_other t rows text_form c n v K = refl
kind_of_other t rows (words_form w) c n v K = absurd (v w refl)
kind_of_other t rows (name_form w) c n v K = refl
kind_of_other t rows (elem_form k i) c n v K = absurd (n k i refl)
kind_of_other t rows (seq_form []) c n v K = refl
kind_of_other t rows (seq_form (i ∷ [])) c n v K = let h = c.0 in absurd (omega arith)
kind_of_other t rows (seq_form (i ∷ (j ∷ js))) c n v K = refl
kind_of_other t rows (alt_form []) c n v K = refl
kind_of_other t rows (alt_form (i ∷ [])) c n v K = let h = c.0 in absurd (omega arith)
kind_of_other t rows (alt_form (i ∷ (j ∷ js))) c n v K = refl
kind_of_other t rows (star_form i) c n v K = refl
kind_of_other t rows (plus_form i) c n v K = refl
kind_of_other t rows (opt_form i) c n v K = refl
kind_of_other t rows (val_form x q i) c n v K = refl

pub text_of_other : (t : ℕ → Tree) (rows : List Row) (f : Form) → CanFollow false rows f → ((c : LabelClass) (i : ℕ) → f ≡ elem_form c i → ⊥) → is_text (move_of (form_tree t f) []).kind ≡ true
text_of_other t rows (words_form w) c n = refl
text_of_other t rows f c n = ap (λ (m : Move). is_text m.kind) (kind_of_other t rows f c n (λ w e. cc) [])

pub elem_of : (f : TypeForm) (c : LabelClass) (i : ℕ) → form_of f ≡ elem_form c i → (k : LabelClass) × (t : TypeId) × (f ≡ V.Elem k t)
elem_of V.Empty c i e = cc
elem_of V.Text c i e = cc
elem_of (V.Words w) c i e = cc
elem_of (V.Name w) c i e = cc
elem_of (V.Elem k t) c i e = (k, t, refl)
elem_of (V.Seq ts) c i e = cc
elem_of (V.Alt ts) c i e = cc
elem_of (V.Star t) c i e = cc
elem_of (V.Plus t) c i e = cc
elem_of (V.Opt t) c i e = cc

pub words_of_form : (f : TypeForm) (w : TextClass) → form_of f ≡ words_form w → (v : TextClass) × (f ≡ V.Words v)
words_of_form V.Empty w e = cc
words_of_form V.Text w e = cc
words_of_form (V.Words v) w e = (v, refl)
words_of_form (V.Name x) w e = cc
words_of_form (V.Elem k t) w e = cc
words_of_form (V.Seq ts) w e = cc
words_of_form (V.Alt ts) w e = cc
words_of_form (V.Star t) w e = cc
words_of_form (V.Plus t) w e = cc
words_of_form (V.Opt t) w e = cc

-- ---- numbers

pub number_below : (n : ℕ) (states : List ℕ) (i k : ℕ) → AllByRecursion (IsOfCell n) states → number_at states i ≡ Some k → k ≤ n
number_below n [] i k a e = cc
number_below n (m ∷ os) zero k a e = let q : m ≡ k = cc in subst (λ j. j ≤ n) q a.0
number_below n (o ∷ os) (suc i) k a e = number_below n os i k a.1 e

pub number_within : (states : List ℕ) (i k : ℕ) → number_at states i ≡ Some k → i < length states
number_within [] i k e = cc
number_within (o ∷ os) zero k e = omega arith
number_within (o ∷ os) (suc i) k e = let h = number_within os i k e in omega arith

pub number_front : (states more : List ℕ) (i k : ℕ) → number_at states i ≡ Some k → number_at (states ++ more) i ≡ Some k
number_front [] more i k e = cc
number_front (o ∷ os) more zero k e = e
number_front (o ∷ os) more (suc i) k e = number_front os more i k e

-- a number after one more state is an old one's, or its own
pub number_pushed : (states : List ℕ) (o : ℕ) (i k : ℕ) → number_at (states ++ o ∷ []) i ≡ Some k → (number_at states i ≡ Some k) ⊎ ((i ≡ length states) × (o ≡ k))
number_pushed [] o zero k e = inr (refl, cc)
number_pushed [] o (suc i) k e = cc
number_pushed (x ∷ os) o zero k e = inl e
number_pushed (x ∷ os) o (suc i) k e = elim (number_pushed os o i k e) [ inl h ↦ inl h | inr h ↦ inr (ap suc h.0, h.1) ]

pub one_number : (states : List ℕ) (i j k : ℕ) → number_at states i ≡ Some j → number_at states i ≡ Some k → k ≡ j
one_number states i j k a b = let e : Some j ≡ Some k = sym a ∙ b in cc

-- ---- continuations that can be empty

pub empty_first : (E : Definitions) (T : Tree) (K : List Tree) → can_be_empty E (seq_of (T ∷ K)) ≡ (can_be_empty E T && can_be_empty E (seq_of K))
unfolding can_be_empty
empty_first E T [] = and_with_true (empty_by (empty_name E (length E)) T)
empty_first E T (U ∷ Us) = refl

pub none_empty : (E : Definitions) → can_be_empty E (seq_of []) ≡ true
unfolding can_be_empty
none_empty E = refl
