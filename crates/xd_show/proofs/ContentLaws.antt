-- Laws of what is written for contents.
use Rattle.std.proofs.Common.{◌≡◌, ◌≢◌, ◌⊎◌, ◌↔◌, inl, inr, ℕ, zero, suc, ◌+◌, ◌<◌, Bool, true, false, arith, refl, sym, ap, ◌∙◌, subst, List, [], ◌∷◌, ◌++◌, length, take, get_or, set, Option, Some, None, Result, Ok, Err}
use Rattle.std.proofs.lemmas.List.{length-set, get_or-set_same, get_or-set_other}
use Rattle.std.specs.List.{AllByRecursion}
use Rattle.std.specs.Str.{bytes_eq}
use Rattle.std.proofs.lemmas.Bool.{or_right}
use Rattle.xd_doc.specs.Document.{Document, empty, text, element}
use Rattle.xd_doc.proofs.Options.{some_holds}
use Rattle.xd_doc.proofs.Lists.{all_there, same_at, word_equals}
use Rattle.xd_auto.specs.declared.auto.State.{State}
use Rattle.xd_auto.specs.declared.auto.LabelMove.{LabelMove}
use Rattle.xd_auto.specs.Automaton.{Automaton, IsClosed, IsState, accepts, moves_at, no_moves, state_number}
use Rattle.xd_syntax.specs.Words.{any_word, has_word}
use Rattle.xd_syntax.specs.Tree.{Tree, Elem, Name}
use Rattle.xd_syntax.specs.Table.{Row, KeepsRows, tree_at}
use Rattle.xd_syntax.specs.Types.{BelongsTo}
use Rattle.xd_syntax.specs.declared.types.TypeId.{TypeId}
use Rattle.xd_syntax.proofs.TableRows.{KeepsRows-trans, KeepsRows-length, KeepsRows-tree}
use Rattle.xd_same_types.specs.Grown.{GrowsTypes}
use Rattle.xd_same_types.specs.Same.{Meaning, FitsAs, tops_only}
use Rattle.std.specs.Option.{IfSome}
use Rattle.std.specs.Result.{IfOk}
use Rattle.xd_doc.specs.Classes.{LabelClass}
use Rattle.xd_empty.specs.Parts.{is_marked}
use Rattle.xd_boole.specs.Universal.{MarkUniversal}
use Rattle.xd_same_types.proofs.Ids.{take_read}
use Rattle.xd_show_solve.specs.Levels.{AreContents, AreWritten, IsStateType, IsWritten, MeansAny, WrittenBelong, known_of}
use Rattle.xd_named_parts.proofs.NamedLaws.{has_there}
use Rattle.xd_show.specs.Plans.{AllAreNamed}
use Rattle.xd_show.specs.Contents.{AreAllWritten, AreContentsBy, AreFirst, AreKnown, GrowsContents, GrowsNames, IsTypeOf, IsUnderLabel, MeansAnyAnd, MeansState, MeansStates}

pub contents_refl : (P : Meaning → Type 0) (a : Automaton) (rows : List Row) (written : List (Option TypeId)) → GrowsContents P a rows written rows written
contents_refl P a rows written = record { count = refl; right = λ N p h. h; belong = λ h. h; written = λ s h. h }

pub contents_then : (P : Meaning → Type 0) (a : Automaton) (x y z : List Row) (u v w : List (Option TypeId)) → GrowsContents P a x u y v → GrowsContents P a y v z w → GrowsContents P a x u z w
contents_then P a x y z u v w g h = record {
  count = h.count ∙ g.count;
  right = λ N p k. h.right N p (g.right N p k);
  belong = λ k. h.belong (g.belong k);
  written = λ s k. h.written s (g.written s k);
}

pub contents_by : (P Q : Meaning → Type 0) (a : Automaton) (x y : List Row) (u v : List (Option TypeId)) → ((N : Meaning) → Q N → P N) → GrowsContents P a x u y v → GrowsContents Q a x u y v
contents_by P Q a x y u v f g = record { count = g.count; right = λ N q k. g.right N (f N q) k; belong = g.belong; written = g.written }

-- what is written stays right while the table grows
pub contents_kept : (a : Automaton) (N : Meaning) (old new : List Row) (written : List (Option TypeId)) → KeepsRows old new → WrittenBelong old written → AreContents a N old written → AreContents a N new written
contents_kept a N old new written k b h = λ s id e d. subst (λ T. (accepts a d s ≡ true) ↔ FitsAs N T d) (sym (KeepsRows-tree old new k id.at (b s id e))) (h s id e d)

pub belong_kept : (old new : List Row) (written : List (Option TypeId)) → KeepsRows old new → WrittenBelong old written → WrittenBelong new written
belong_kept old new written k b = λ s id e. let l = KeepsRows-length old new k in let m = b s id e in omega arith

-- a table grows, and nothing is written
pub contents_grown : (P : Meaning → Type 0) (a : Automaton) (old new : List Row) (written : List (Option TypeId)) → KeepsRows old new → WrittenBelong old written → GrowsContents P a old written new written
contents_grown P a old new written k b = record { count = refl; right = λ N p h. contents_kept a N old new written k b h; belong = λ h. belong_kept old new written k h; written = λ s h. h }

-- a type is written for a state
pub contents_set : (P : Meaning → Type 0) (a : Automaton) (old new : List Row) (written : List (Option TypeId)) (s : State) (id : TypeId) → KeepsRows old new → WrittenBelong old written → state_number s < length written →
    ((N : Meaning) → P N → AreContents a N old written → (d : Document) → (accepts a d s ≡ true) ↔ FitsAs N (tree_at new id.at) d) → BelongsTo new id → GrowsContents P a old written new (set written (state_number s) (Some id))
contents_set P a old new written s id k b l exact belongs = record {
  count = length-set written (state_number s) (Some id);
  right = λ N p h t x e d. by_case N p h t x e d (same_or_other t);
  belong = λ h t x e. belong_case h t x e (same_or_other t);
  written = λ t h. written_case t h (same_or_other t);
}
  where
    after : List (Option TypeId)
    after = set written (state_number s) (Some id)

    here : known_of after s ≡ Some id
    here = get_or-set_same written (state_number s) (Some id) None l

    equal_or_not : (m n : ℕ) → (m ≡ n) ⊎ (m ≢ n)
    equal_or_not zero zero = inl refl
    equal_or_not zero (suc n) = inr (λ e. omega arith)
    equal_or_not (suc m) zero = inr (λ e. omega arith)
    equal_or_not (suc m) (suc n) = elim (equal_or_not m n) [ inl e ↦ inl (ap suc e) | inr f ↦ inr (λ e. f (omega arith)) ]

    same_or_other : (t : State) → (t ≡ s) ⊎ (known_of after t ≡ known_of written t)
    same_or_other t = elim (equal_or_not (state_number t) (state_number s)) [
      | inl e ↦ inl (ap (λ n. let z : State = record { number = n } in z) e)
      | inr f ↦ inr (get_or-set_other written (state_number s) (state_number t) (Some id) None f)
    ]

    is_id : (t : State) (x : TypeId) → t ≡ s → known_of after t ≡ Some x → x ≡ id
    is_id t x e f = let g : Some id ≡ Some x = sym here ∙ subst (λ u. known_of after u ≡ Some x) e f in cc

    by_case : (N : Meaning) → P N → AreContents a N old written → (t : State) (x : TypeId) → known_of after t ≡ Some x → (d : Document) → (t ≡ s) ⊎ (known_of after t ≡ known_of written t) → (accepts a d t ≡ true) ↔ FitsAs N (tree_at new x.at) d
    by_case N p h t x e d (inl q) =
        subst (λ u. (accepts a d u ≡ true) ↔ FitsAs N (tree_at new x.at) d) (sym q)
        (subst (λ (y : TypeId). (accepts a d s ≡ true) ↔ FitsAs N (tree_at new y.at) d) (sym (is_id t x q e)) (exact N p h d))
    by_case N p h t x e d (inr q) = contents_kept a N old new written k b h t x (sym q ∙ e) d

    belong_case : WrittenBelong old written → (t : State) (x : TypeId) → known_of after t ≡ Some x → (t ≡ s) ⊎ (known_of after t ≡ known_of written t) → x.at < length new
    belong_case h t x e (inl q) = subst (BelongsTo new) (sym (is_id t x q e)) belongs
    belong_case h t x e (inr q) = belong_kept old new written k h t x (sym q ∙ e)

    written_case : (t : State) → IsWritten written t → (t ≡ s) ⊎ (known_of after t ≡ known_of written t) → IsWritten after t
    written_case t h (inl q) = (id, ap (known_of after) q ∙ here)
    written_case t h (inr q) = (h.0, q ∙ h.1)

pub written_set : (written : List (Option TypeId)) (s : State) (id : TypeId) → state_number s < length written → IsWritten (set written (state_number s) (Some id)) s
written_set written s id l = (id, get_or-set_same written (state_number s) (Some id) None l)

-- a name stands for what the state accepts
pub name_exact : (a : Automaton) (w : List ℕ) (s : State) (T : Tree) → T ≡ Name w → (N : Meaning) → MeansState a w s N → (d : Document) → (accepts a d s ≡ true) ↔ FitsAs N T d
name_exact a w s T e N m d = subst (λ U. (accepts a d s ≡ true) ↔ FitsAs N U d) (sym e) (λ h. m d ∙ h, λ h. sym (m d) ∙ h)

-- growth

pub names_refl : (words : List (List ℕ)) (rows : List Row) → GrowsNames words rows rows
names_refl words rows = record { rows = record { more = []; grown = same rows }; names = λ known h n. n }
  where
    same : (xs : List Row) → xs ≡ xs ++ []
    same [] = refl
    same (x ∷ xs) = ap (λ ys. x ∷ ys) (same xs)

pub names_then : (words : List (List ℕ)) (x y z : List Row) → GrowsNames words x y → GrowsNames words y z → GrowsNames words x z
names_then words x y z g h = record { rows = KeepsRows-trans x y z g.rows h.rows; names = λ known k n. h.names known k (g.names known k n) }

-- where more words are allowed
pub names_by : (less more : List (List ℕ)) (x y : List Row) → ((known : List (List ℕ)) → AreKnown known more → AreKnown known less) → GrowsNames less x y → GrowsNames more x y
names_by less more x y f g = record { rows = g.rows; names = λ known k n. g.names known (f known k) n }

-- types aside from names use `Any` at most
pub names_of_types : (words : List (List ℕ)) (x y : List Row) → ((known : List (List ℕ)) → AreKnown known words → has_word known any_word ≡ true) → GrowsTypes x y → GrowsNames words x y
names_of_types words x y f g = record { rows = g.rows; names = λ known k n. g.names known (f known k) n }

-- a place of a list with one more: it was there, or it is the new one, or there is none
at_pushed : {A : Type 0} (xs : List A) (y d : A) (k : ℕ) → (get_or (xs ++ y ∷ []) k d ≡ get_or xs k d) ⊎ (((k ≡ length xs) × (get_or (xs ++ y ∷ []) k d ≡ y)) ⊎ (get_or (xs ++ y ∷ []) k d ≡ d))
at_pushed [] y d zero = inr (inl (refl, refl))
at_pushed [] y d (suc k) = inl refl
at_pushed (x ∷ xs) y d zero = inl refl
at_pushed (x ∷ xs) y d (suc k) = elim (at_pushed xs y d k) [
  | inl e ↦ inl e
  | inr r ↦ elim r [ inl e ↦ inr (inl (ap suc e.0, e.1)) | inr e ↦ inr (inr e) ]
]

-- all that is written is `Any`, for marked states
abbrev pub OnlyMarked : List Bool → TypeId → List (Option TypeId) → Type 0
OnlyMarked marks any written = (s : State) (id : TypeId) → known_of written s ≡ Some id → (id ≡ any) × (is_marked marks s ≡ true)

pub only_marked_more : (marks : List Bool) (any : TypeId) (written : List (Option TypeId)) (s : State) (o : Option TypeId) → OnlyMarked marks any written → state_number s ≡ length written → IfSome o (λ id. (id ≡ any) × (is_marked marks s ≡ true)) →
    OnlyMarked marks any (written ++ o ∷ [])
only_marked_more marks any written s o h n p t id e = elim (at_pushed written o None (state_number t)) [
  | inl f ↦ h t id (sym f ∙ e)
  | inr r ↦ elim r [
    | inl f ↦
        let same : t ≡ s = ap (λ k. let z : State = record { number = k } in z) (f.0 ∙ sym n) in
        subst (λ u. (id ≡ any) × (is_marked marks u ≡ true)) (sym same) (some_holds (λ x. (x ≡ any) × (is_marked marks s ≡ true)) o id (sym f.1 ∙ e) p)
    | inr f ↦ let g : None ≡ Some id = sym f ∙ e in absurd (cc)
  ]
]

pub first_law : (a : Automaton) (types : List Row) (marks : List Bool) (any : TypeId) (written : List (Option TypeId)) → tree_at types any.at ≡ Name any_word → BelongsTo types any → MarkUniversal a marks → length written ≡ length a → OnlyMarked marks any written → AreFirst a types written
first_law a types marks any written e b u c h = record {
  count = c;
  right = λ N m s id k d.
      let q = h s id k in
      let is : tree_at types id.at ≡ Name any_word = ap (λ (x : TypeId). tree_at types x.at) q.0 ∙ e in
      subst (λ T. (accepts a d s ≡ true) ↔ FitsAs N T d) (sym is) (λ g. m d, λ g. u s q.1 d);
  belong = λ s id k. subst (BelongsTo types) (sym (h s id k).0) b;
}

-- types of states

pub type_of_state : (a : Automaton) (old : List Row) (written : List (Option TypeId)) (s : State) (new : List Row) (id : TypeId) → IsStateType a old written s new (Some id) → BelongsTo new id → IsTypeOf MeansAny a old written s new id
type_of_state a old written s new id h b = record { exact = λ N any contents d. h.exact N any contents d; belongs = b; tops = h.tops }

pub type_by : (P Q : Meaning → Type 0) (a : Automaton) (old : List Row) (written : List (Option TypeId)) (s : State) (new : List Row) (id : TypeId) → ((N : Meaning) → Q N → P N) → IsTypeOf P a old written s new id → IsTypeOf Q a old written s new id
type_by P Q a old written s new id f h = record { exact = λ N q. h.exact N (f N q); belongs = h.belongs; tops = h.tops }

-- a state that accepts nothing, as its name under a label
pub none_of_state : (a : Automaton) (w : List ℕ) (old : List Row) (written : List (Option TypeId)) (s : State) (mid new : List Row) (id : TypeId) → IsStateType a old written s mid None → IsUnderLabel w (tree_at new id.at) → BelongsTo new id → IsTypeOf (MeansAnyAnd a w s) a old written s new id
none_of_state a w old written s mid new id h u b = record {
  exact = λ N p contents d. (λ g. absurd ((h.exact N p.0 contents d).0 g), λ g. absurd (nothing N p contents (tree_at new id.at) u d g));
  belongs = b;
  tops = ap (tops_only (any_word ∷ [])) u.1;
}
  where
    inside : (N : Meaning) → MeansAnyAnd a w s N → AreContents a N old written → (k : LabelClass) (d : Document) → FitsAs N (Elem k (Name w)) d → ⊥
    inside N p contents k empty f = f
    inside N p contents k (text t r) f = f
    inside N p contents k (element l c r) f = (h.exact N p.0 contents c).0 (sym (p.1 c) ∙ f.2)

    nothing : (N : Meaning) → MeansAnyAnd a w s N → AreContents a N old written → (T : Tree) → IsUnderLabel w T → (d : Document) → FitsAs N T d → ⊥
    nothing N p contents T v d f = inside N p contents v.0 d (subst (λ U. FitsAs N U d) v.1 f)

-- over a smaller table before, or a larger one after
pub type_before : (P : Meaning → Type 0) (a : Automaton) (first old : List Row) (written : List (Option TypeId)) (s : State) (new : List Row) (id : TypeId) → KeepsRows first old → WrittenBelong first written → IsTypeOf P a old written s new id → IsTypeOf P a first written s new id
type_before P a first old written s new id k b h = record { exact = λ N p contents. h.exact N p (contents_kept a N first old written k b contents); belongs = h.belongs; tops = h.tops }

pub type_after : (P : Meaning → Type 0) (a : Automaton) (old : List Row) (written : List (Option TypeId)) (s : State) (mid new : List Row) (id : TypeId) → KeepsRows mid new → IsTypeOf P a old written s mid id → IsTypeOf P a old written s new id
type_after P a old written s mid new id k h =
    let e : tree_at new id.at ≡ tree_at mid id.at = KeepsRows-tree mid new k id.at h.belongs in
    record {
      exact = λ N p contents d. subst (λ T. (accepts a d s ≡ true) ↔ FitsAs N T d) (sym e) (h.exact N p contents d);
      belongs = let l = KeepsRows-length mid new k in let m = h.belongs in omega arith;
      tops = ap (tops_only (any_word ∷ [])) e ∙ h.tops;
    }

-- bodies that were made so far
abbrev pub AreBodiesBelow : Automaton → List (List ℕ) → List State → List Row → List (Option TypeId) → List Row → List TypeId → ℕ → Type 0
AreBodiesBelow a words named old written new bodies n =
    (k : ℕ) (w : List ℕ) (s : State) (id : TypeId) → k < n → w ≡ get_or words k w → s ≡ get_or named k s → id ≡ get_or bodies k id → IsTypeOf (MeansAnyAnd a w s) a old written s new id

pub bodies_more : (a : Automaton) (words : List (List ℕ)) (named : List State) (old mid new : List Row) (written : List (Option TypeId)) (bodies : List TypeId) (n : ℕ) (w : List ℕ) (s : State) (id : TypeId) → KeepsRows old mid → KeepsRows mid new → WrittenBelong old written →
    length bodies ≡ n → n < length words → n < length named → w ≡ get_or words n w → s ≡ get_or named n s → AreBodiesBelow a words named old written mid bodies n → IsTypeOf (MeansAnyAnd a w s) a mid written s new id → AreBodiesBelow a words named old written new (bodies ++ id ∷ []) (n + 1)
bodies_more a words named old mid new written bodies n w s id early late belong count l m e f h t k x y z b p q r = by_place (less_or_same k n b)
  where
    less_or_same : (i j : ℕ) → i < j + 1 → (i < j) ⊎ (i ≡ j)
    less_or_same zero zero o = inr refl
    less_or_same (suc i) zero o = absurd (omega arith)
    less_or_same zero (suc j) o = inl (omega arith)
    less_or_same (suc i) (suc j) o = let u : i < j + 1 = omega arith in elim (less_or_same i j u) [ inl v ↦ inl (omega arith) | inr v ↦ inr (ap suc v) ]

    by_place : (k < n) ⊎ (k ≡ n) → IsTypeOf (MeansAnyAnd a x y) a old written y new z
    by_place (inl u) = type_after (MeansAnyAnd a x y) a old written y mid new z late (h k x y z u p q (there (at_pushed bodies id z k)))
      where
        there : (get_or (bodies ++ id ∷ []) k z ≡ get_or bodies k z) ⊎ (((k ≡ length bodies) × (get_or (bodies ++ id ∷ []) k z ≡ id)) ⊎ (get_or (bodies ++ id ∷ []) k z ≡ z)) → z ≡ get_or bodies k z
        there (inl g) = r ∙ g
        there (inr (inl g)) = let v = g.0 in absurd (omega arith)
        there (inr (inr g)) = beyond bodies k r
          where
            beyond : (xs : List TypeId) (i : ℕ) → z ≡ get_or (xs ++ id ∷ []) i z → z ≡ get_or xs i z
            beyond [] zero o = refl
            beyond [] (suc i) o = refl
            beyond (v ∷ xs) zero o = o
            beyond (v ∷ xs) (suc i) o = beyond xs i o
    by_place (inr u) =
        let word_equals : x ≡ w = p ∙ ap (λ i. get_or words i x) u ∙ same_at words n x w l ∙ sym e in
        let same_state : y ≡ s = q ∙ ap (λ i. get_or named i y) u ∙ same_at named n y s m ∙ sym f in
        let same_body : z ≡ id = r ∙ ap (λ i. get_or (bodies ++ id ∷ []) i z) (u ∙ sym count) ∙ last bodies in
        let goal_at = λ (v : List ℕ) (o : State) (g : TypeId). IsTypeOf (MeansAnyAnd a v o) a old written o new g in
        subst (λ v. goal_at v y z) (sym word_equals) (subst (λ o. goal_at w o z) (sym same_state) (subst (λ g. goal_at w s g) (sym same_body) (type_before (MeansAnyAnd a w s) a old mid written s new id early belong t)))
      where
        last : (xs : List TypeId) → get_or (xs ++ id ∷ []) (length xs) z ≡ id
        last [] = refl
        last (v ∷ xs) = last xs

-- states of which the contents are written, one more
pub level_more : (a : Automaton) (written : List (Option TypeId)) (states : List State) (n : ℕ) (t d : State) → t ≡ get_or states n d → n < length states →
    ((i : ℕ) (s : State) → i < n → s ≡ get_or states i s → AllByRecursion (λ (m : LabelMove). IsWritten written m.content) (moves_at a s).labels) →
    AllByRecursion (λ (m : LabelMove). IsWritten written m.content) (moves_at a t).labels →
    (i : ℕ) (s : State) → i < n + 1 → s ≡ get_or states i s → AllByRecursion (λ (m : LabelMove). IsWritten written m.content) (moves_at a s).labels
level_more a written states n t d e l below here i s b f = by_place (less_or_same i n b)
  where
    less_or_same : (i j : ℕ) → i < j + 1 → (i < j) ⊎ (i ≡ j)
    less_or_same zero zero o = inr refl
    less_or_same (suc i) zero o = absurd (omega arith)
    less_or_same zero (suc j) o = inl (omega arith)
    less_or_same (suc i) (suc j) o = let u : i < j + 1 = omega arith in elim (less_or_same i j u) [ inl v ↦ inl (omega arith) | inr v ↦ inr (ap suc v) ]

    by_place : (i < n) ⊎ (i ≡ n) → AllByRecursion (λ (m : LabelMove). IsWritten written m.content) (moves_at a s).labels
    by_place (inl u) = below i s u f
    by_place (inr u) =
        let same : s ≡ t = f ∙ ap (λ k. get_or states k s) u ∙ same_at states n s d l ∙ sym e in
        subst (λ x. AllByRecursion (λ (m : LabelMove). IsWritten written m.content) (moves_at a x).labels) (sym same) here

-- the types of what was solved
pub types_found : {E : Type 0} (a : Automaton) (old : List Row) (written : List (Option TypeId)) (s : State) (new : List Row) (r : Result (Option TypeId) E) → IfOk r (IsStateType a old written s new) → IfOk r (λ o. IfSome o (BelongsTo new)) →
    IfOk r (λ o. IfSome o (IsTypeOf MeansAny a old written s new))
types_found a old written s new (Ok None) h b = tt
types_found a old written s new (Ok (Some id)) h b = type_of_state a old written s new id h b
types_found a old written s new (Err e) h b = tt

-- a word at a place is known where all are
pub known_at : (known words : List (List ℕ)) (k : ℕ) (w : List ℕ) → k < length words → w ≡ get_or words k w → AreKnown known words → AreKnown known (w ∷ [])
known_at known words k w l e h = (all_there (λ v. has_word known v ≡ true) words k w h l e, tt)

-- of the first states one more is written
pub written_more : (before after : List (Option TypeId)) (named : List State) (k : ℕ) (s : State) → k < length named → s ≡ get_or named k s → ((t : State) → IsWritten before t → IsWritten after t) → AllByRecursion (IsWritten before) (take k named) → IsWritten after s →
    AllByRecursion (IsWritten after) (take (k + 1) named)
written_more before after named k s l e f h g =
    subst (AllByRecursion (IsWritten after)) (sym (take_read named k s l e)) (pushed (take k named) h)
  where
    pushed : (xs : List State) → AllByRecursion (IsWritten before) xs → AllByRecursion (IsWritten after) (xs ++ s ∷ [])
    pushed [] p = (g, tt)
    pushed (x ∷ xs) p = (f x p.0, pushed xs p.1)

-- words that a list has

pub all_of_each : {A : Type 0} (P : A → Type 0) (xs : List A) → ((k : ℕ) (x : A) → k < length xs → x ≡ get_or xs k x → P x) → AllByRecursion P xs
all_of_each P [] h = tt
all_of_each P (x ∷ xs) h = (h 0 x (omega arith) refl, all_of_each P xs (λ k y l e. h (suc k) y (omega arith) e))

pub words_known : (words : List (List ℕ)) → AreKnown (any_word ∷ words) words
words_known words = all_of_each (λ w. has_word (any_word ∷ words) w ≡ true) words (λ k w l e. or_right (bytes_eq any_word w) (has_word words w) (has_there words k w l e))

-- all contents

pub contents_law : (a : Automaton) (words : List (List ℕ)) (named : List State) (first mid new : List Row) (u v w : List (Option TypeId)) → AreFirst a first u → GrowsTypes [] first → GrowsContents (MeansStates a words named) a first u mid v → GrowsNames words first mid →
    GrowsContents MeansAny a mid v new w → GrowsTypes mid new → AreContentsBy a words named new w
contents_law a words named first mid new u v w f k g l h m = record {
  count = h.count ∙ g.count ∙ f.count;
  right = λ N p. h.right N p.0 (g.right N p.1 (f.right N p.0));
  belong = h.belong (g.belong f.belong);
  names = m.names (any_word ∷ words) refl (l.names (any_word ∷ words) (words_known words) (k.names (any_word ∷ words) refl tt));
}

pub all_stay_written : (before after : List (Option TypeId)) (named : List State) → ((s : State) → IsWritten before s → IsWritten after s) → AllByRecursion (IsWritten before) named → AllByRecursion (IsWritten after) named
all_stay_written before after [] f h = tt
all_stay_written before after (s ∷ ss) f h = (f s h.0, all_stay_written before after ss f h.1)

-- where all states have names, all contents are written
pub all_named_written : (a : Automaton) (written : List (Option TypeId)) (named : List State) → IsClosed a → AllByRecursion (IsWritten written) named → AllAreNamed a named → AreAllWritten a written
all_named_written a written named closed h all s b =
    all_of_each (λ (m : LabelMove). IsWritten written m.content) (moves_at a s).labels (λ k m l e.
    let below = ((closed (state_number s) (no_moves false) b).labels k m l).0 in
    let there = subst (λ (x : LabelMove). state_number x.content < length a) (sym e) below in
    let w = all m.content there in
    all_there (IsWritten written) named w.0 m.content h w.1 (sym w.2))

-- of states of an automaton whose contents are all written
pub level_written : (a : Automaton) (written : List (Option TypeId)) (states : List State) → AllByRecursion (IsState a) states → AreAllWritten a written → AreWritten a written states
level_written a written states h all i s l e = all s (all_there (IsState a) states i s h l e)

pub nones_found : {E : Type 0} (a : Automaton) (w : List ℕ) (old : List Row) (written : List (Option TypeId)) (s : State) (mid new : List Row) (r : Result TypeId E) → IsStateType a old written s mid None → IfOk r (λ id. IsUnderLabel w (tree_at new id.at)) → IfOk r (BelongsTo new) →
    IfOk r (IsTypeOf (MeansAnyAnd a w s) a old written s new)
nones_found a w old written s mid new (Ok id) h u b = none_of_state a w old written s mid new id h u b
nones_found a w old written s mid new (Err e) h u b = tt

-- the same of the states before a number, one more
pub states_more : (a : Automaton) (written : List (Option TypeId)) (n : ℕ) (t : State) → state_number t ≡ n → ((s : State) → state_number s < n → AllByRecursion (λ (m : LabelMove). IsWritten written m.content) (moves_at a s).labels) →
    AllByRecursion (λ (m : LabelMove). IsWritten written m.content) (moves_at a t).labels → (s : State) → state_number s < n + 1 → AllByRecursion (λ (m : LabelMove). IsWritten written m.content) (moves_at a s).labels
states_more a written n t e below here s b = by_place (less_or_same (state_number s) n b)
  where
    less_or_same : (i j : ℕ) → i < j + 1 → (i < j) ⊎ (i ≡ j)
    less_or_same zero zero o = inr refl
    less_or_same (suc i) zero o = absurd (omega arith)
    less_or_same zero (suc j) o = inl (omega arith)
    less_or_same (suc i) (suc j) o = let u : i < j + 1 = omega arith in elim (less_or_same i j u) [ inl v ↦ inl (omega arith) | inr v ↦ inr (ap suc v) ]

    by_place : (state_number s < n) ⊎ (state_number s ≡ n) → AllByRecursion (λ (m : LabelMove). IsWritten written m.content) (moves_at a s).labels
    by_place (inl u) = below s u
    by_place (inr u) =
        let same : s ≡ t = ap (λ k. let z : State = record { number = k } in z) (u ∙ sym e) in
        subst (λ x. AllByRecursion (λ (m : LabelMove). IsWritten written m.content) (moves_at a x).labels) (sym same) here
