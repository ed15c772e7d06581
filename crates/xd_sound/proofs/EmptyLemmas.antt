-- marks of nodes that can be empty
use Rattle.std.proofs.Common.{◌≡◌, ℕ, zero, suc, ◌+◌, ◌*◌, ◌^◌, ◌-◌, ◌<◌, ◌≤◌, ◌⊎◌, ◌↔◌, arith, Bool, true, false, cond, List, [], ◌∷◌, ◌++◌, length, get_or, set, take, Option, Some, None, refl, ap, sym, subst, ◌∙◌, inl, inr}
use Rattle.std.proofs.Common.{◌||◌, ◌&&◌, map}
use Rattle.std.specs.List.{AllByRecursion}
use Rattle.std.specs.Str.{bytes_eq}
use Rattle.std.proofs.lemmas.List.{length_push, length-set, get_or-set_same, get_or-set_other, get_or_past}
use Rattle.std.proofs.lemmas.Bool.{cases_lt, cases_eq, and_from, or_left, or_right}
use Rattle.std.proofs.lemmas.Slice.Eq.{bytes_eq-Decides}
use Rattle.xd_doc.specs.Document.{Document, empty}
use Rattle.xd_doc.specs.Members.{IsOneOf}
use Rattle.xd_doc.proofs.Bools.{and_parts, or_cases}
use Rattle.xd_doc.proofs.Options.{some_same}
use Rattle.xd_doc.proofs.Joins.{joined_none}
use Rattle.xd_doc.proofs.Lists.{all_below}
use Rattle.xd_syntax.specs.Words.{any_word}
use Rattle.xd_syntax.specs.Tree.{Tree, Empty, Text, Words, Name, Elem, Seq, Alt, Star, Plus, Opt, Val, Definitions, body, any_type, seq_of}
use Rattle.xd_syntax.specs.TreeForms.{alt_of}
use Rattle.xd_syntax.specs.Table.{Row, Form, empty_form, text_form, words_form, name_form, elem_form, seq_form, alt_form, star_form, plus_form, opt_form, val_form, form_tree, tree_at, PartsBelow, CanFollow}
use Rattle.xd_syntax.specs.Fits.{Fits, empty_by}
use Rattle.xd_syntax.specs.Fits as F
use Rattle.xd_syntax.specs.Kept.{TypeDefStands}
use Rattle.xd_syntax.specs.SoundTables.{definition_of}
use Rattle.xd_syntax.specs.declared.types.TypeDef.{TypeDef}
use Rattle.xd_syntax.specs.declared.types.TypeId.{TypeId}
use Rattle.xd_syntax.specs.Types.{type_numbers}
use Rattle.xd_syntax.proofs.Members.{append_left, append_right, mem_append}
use Rattle.std.proofs.lemmas.List.{get_or_read}
use Rattle.xd_sound.specs.TypeNames.{meanings, first_of, body_at}
use Rattle.xd_sound.specs.Graph.{HasEdge, successors}
use Rattle.xd_sound.specs.Emptiness.{is_marked, body_marked, name_marked, all_marked, some_marked, form_marked, body_number, depends_on, AddsEdges, IsRead, AreRead, AreDependents, AreEmptyMarks, AreEmptySoFar, IsMarking}
use Rattle.xd_syntax.specs.Nodes.{no_row, form_at}
use Rattle.xd_sound.proofs.Graphs.{with_edge, edges_kept, edge_made}
use Rattle.xd_sound.proofs.NameLemmas.{first_found, meaning_of, body_of}

any_is : (w : List ℕ) → bytes_eq any_word w ≡ true → any_word ≡ w
any_is w e = (bytes_eq-Decides any_word w).0 e

-- a name that is marked can be empty
name_right : (types : List Row) (ds : List TypeDef) (marks : List Bool) → ((i : ℕ) → is_marked marks i ≡ true → Fits (meanings types ds) (tree_at types i) empty) →
    (w : List ℕ) → name_marked marks ds w ≡ true → Fits (meanings types ds) (Name w) empty
name_right types ds marks right w e = go (bytes_eq any_word w) refl e
  where
    defined : bytes_eq any_word w ≡ false → (o : Option TypeDef) → definition_of ds w ≡ o → body_marked marks o ≡ true → Fits (meanings types ds) (Name w) empty
    defined q None k m = absurd (cc)
    defined q (Some d) k m =
        let b : body (meanings types ds) w ≡ Some (tree_at types d.body.at) = meaning_of types ds w ∙ rw (q, k) refl in
        F.fits_name b (right d.body.at m)

    go : (b : Bool) → bytes_eq any_word w ≡ b → (b || body_marked marks (definition_of ds w)) ≡ true → Fits (meanings types ds) (Name w) empty
    go true q m =
        let b : body (meanings types ds) w ≡ Some any_type = meaning_of types ds w ∙ rw q refl in
        F.fits_name b F.fits_no_turn
    go false q m = defined q (definition_of ds w) refl m

all_right : (E : Definitions) (t : ℕ → Tree) (marks : List Bool) → ((i : ℕ) → is_marked marks i ≡ true → Fits E (t i) empty) → (is : List ℕ) → all_marked marks is ≡ true →
    Fits E (seq_of (map t is)) empty
all_right E t marks right [] e = F.fits_empty
all_right E t marks right (i ∷ []) e = right i (and_parts (is_marked marks i) true e).0
all_right E t marks right (i ∷ (j ∷ js)) e =
    let r = and_parts (is_marked marks i) (all_marked marks (j ∷ js)) e in
    F.fits_seq empty empty refl (right i r.0) (all_right E t marks right (j ∷ js) r.1)

some_right : (E : Definitions) (t : ℕ → Tree) (marks : List Bool) → ((i : ℕ) → is_marked marks i ≡ true → Fits E (t i) empty) → (is : List ℕ) → some_marked marks is ≡ true →
    Fits E (alt_of (map t is)) empty
some_right E t marks right [] e = absurd (cc)
some_right E t marks right (i ∷ []) e = elim (or_cases (is_marked marks i) false e) [ inl a ↦ right i a | inr a ↦ absurd (cc) ]
some_right E t marks right (i ∷ (j ∷ js)) e = elim (or_cases (is_marked marks i) (some_marked marks (j ∷ js)) e) [
  | inl a ↦ F.fits_left (right i a)
  | inr a ↦ F.fits_right (some_right E t marks right (j ∷ js) a)
]

-- a form that is marked can be empty
form_right : (types : List Row) (ds : List TypeDef) (marks : List Bool) → ((i : ℕ) → is_marked marks i ≡ true → Fits (meanings types ds) (tree_at types i) empty) →
    (f : Form) → form_marked marks ds f ≡ true → Fits (meanings types ds) (form_tree (tree_at types) f) empty
form_right types ds marks right empty_form e = F.fits_empty
form_right types ds marks right text_form e = absurd (cc)
form_right types ds marks right (words_form ws) e = absurd (cc)
form_right types ds marks right (name_form w) e = name_right types ds marks right w e
form_right types ds marks right (elem_form c i) e = absurd (cc)
form_right types ds marks right (seq_form is) e = all_right (meanings types ds) (tree_at types) marks right is e
form_right types ds marks right (alt_form is) e = some_right (meanings types ds) (tree_at types) marks right is e
form_right types ds marks right (star_form i) e = F.fits_no_turn
form_right types ds marks right (plus_form i) e = F.fits_plus empty empty refl (right i e) F.fits_no_turn
form_right types ds marks right (opt_form i) e = F.fits_absent
form_right types ds marks right (val_form x p i) e = F.fits_val (right i e)

-- one more mark changes only what depends on it
mark_other : (marks : List Bool) (i j : ℕ) → (j ≡ i → ⊥) → is_marked (set marks i true) j ≡ is_marked marks j
mark_other marks i j n = get_or-set_other marks i j true false n

all_changed : (marks : List Bool) (i : ℕ) (is : List ℕ) → all_marked marks is ≡ false → IsOneOf i is ⊎ (all_marked (set marks i true) is ≡ false)
all_changed marks i [] e = absurd (cc)
all_changed marks i (j ∷ is) e = elim (cases_eq j i) [
  | inl q ↦ inl (inl q)
  | inr n ↦ go (is_marked marks j) (mark_other marks i j n) e (λ f. all_changed marks i is f)
]
  where
    go : (b : Bool) → is_marked (set marks i true) j ≡ b → (b && all_marked marks is) ≡ false → (all_marked marks is ≡ false → IsOneOf i is ⊎ (all_marked (set marks i true) is ≡ false)) →
        IsOneOf i (j ∷ is) ⊎ ((is_marked (set marks i true) j && all_marked (set marks i true) is) ≡ false)
    go true q f rec = elim (rec f) [ inl a ↦ inl (inr a) | inr a ↦ inr (rw (q, a) refl) ]
    go false q f rec = inr (rw q refl)

some_changed : (marks : List Bool) (i : ℕ) (is : List ℕ) → some_marked marks is ≡ false → IsOneOf i is ⊎ (some_marked (set marks i true) is ≡ false)
some_changed marks i [] e = inr refl
some_changed marks i (j ∷ is) e = elim (cases_eq j i) [
  | inl q ↦ inl (inl q)
  | inr n ↦ go (is_marked marks j) (mark_other marks i j n) e (λ f. some_changed marks i is f)
]
  where
    go : (b : Bool) → is_marked (set marks i true) j ≡ b → (b || some_marked marks is) ≡ false → (some_marked marks is ≡ false → IsOneOf i is ⊎ (some_marked (set marks i true) is ≡ false)) →
        IsOneOf i (j ∷ is) ⊎ ((is_marked (set marks i true) j || some_marked (set marks i true) is) ≡ false)
    go true q f rec = absurd (cc)
    go false q f rec = elim (rec f) [ inl a ↦ inl (inr a) | inr a ↦ inr (rw (q, a) refl) ]

one_changed : (marks : List Bool) (i j : ℕ) → is_marked marks j ≡ false → IsOneOf i (j ∷ []) ⊎ (is_marked (set marks i true) j ≡ false)
one_changed marks i j e = elim (cases_eq j i) [ inl q ↦ inl (inl q) | inr n ↦ inr (mark_other marks i j n ∙ e) ]

form_changed : (ds : List TypeDef) (marks : List Bool) (i : ℕ) (f : Form) → form_marked marks ds f ≡ false → IsOneOf i (depends_on ds f) ⊎ (form_marked (set marks i true) ds f ≡ false)
form_changed ds marks i empty_form e = absurd (cc)
form_changed ds marks i text_form e = inr refl
form_changed ds marks i (words_form ws) e = inr refl
form_changed ds marks i (name_form w) e = go (bytes_eq any_word w) (definition_of ds w) e
  where
    go : (b : Bool) (o : Option TypeDef) → (b || body_marked marks o) ≡ false → IsOneOf i (body_number o) ⊎ ((b || body_marked (set marks i true) o) ≡ false)
    go true o k = absurd (cc)
    go false None k = inr refl
    go false (Some d) k = one_changed marks i d.body.at k
form_changed ds marks i (elem_form c j) e = inr refl
form_changed ds marks i (seq_form is) e = all_changed marks i is e
form_changed ds marks i (alt_form is) e = some_changed marks i is e
form_changed ds marks i (star_form j) e = absurd (cc)
form_changed ds marks i (plus_form j) e = one_changed marks i j e
form_changed ds marks i (opt_form j) e = absurd (cc)
form_changed ds marks i (val_form x p j) e = one_changed marks i j e

marked_there : (marks : List Bool) (i : ℕ) → is_marked marks i ≡ true → i < length marks
marked_there marks i e = elim (cases_lt i (length marks)) [ inl l ↦ l | inr l ↦ absurd (let q : false ≡ true = sym (get_or_past marks i false l) ∙ e in cc) ]

-- the node's tree is that of its form, and so its parts are below it
row_tree : (types : List Row) → AreRead types → (i : ℕ) → i < length types → tree_at types i ≡ form_tree (tree_at types) (form_at types i)
row_tree types b i l = (b i l).tree

-- a node that has its mark already, or that its form doesn't mark, needs no visit
pub visited : (types : List Row) (ds : List TypeDef) (marks : List Bool) (waiting : List ℕ) (i : ℕ) → IsMarking types ds marks (waiting ++ i ∷ []) →
    (is_marked marks i ≡ true) ⊎ (form_marked marks ds (form_at types i) ≡ false) → IsMarking types ds marks waiting
visited types ds marks waiting i m done = record {
  count = m.count;
  right = m.right;
  pending = λ j l. elim (m.pending j l) [
    | inl a ↦ inl a
    | inr (inr a) ↦ inr (inr a)
    | inr (inl a) ↦ elim (mem_append j waiting (i ∷ []) a) [
      | inl b ↦ inr (inl b)
      | inr (inl q) ↦ subst (λ k. (is_marked marks k ≡ true) ⊎ (IsOneOf k waiting ⊎ (form_marked marks ds (form_at types k) ≡ false))) q (elim done [ inl d ↦ inl d | inr d ↦ inr (inr d) ])
      | inr (inr f) ↦ absurd f
    ]
  ];
  within = λ j a. m.within j (append_left j waiting (i ∷ []) a);
}

-- a node that its form marks is marked, and what depends on it waits
pub marked_more : (types : List Row) (ds : List TypeDef) (g : List (List ℕ)) (marks : List Bool) (waiting : List ℕ) (i : ℕ) → AreRead types → AreDependents types ds g →
    ((v w : ℕ) → HasEdge g v w → w < length g) →
    IsMarking types ds marks (waiting ++ i ∷ []) → i < length types → form_marked marks ds (form_at types i) ≡ true → IsMarking types ds (set marks i true) (waiting ++ successors g i)
marked_more types ds g marks waiting i b dep closed m li e =
    let n = length-set marks i true in
    let c = m.count in
    record {
      count = n ∙ c;
      right = λ j k. elim (cases_eq j i) [
        | inl q ↦ subst (λ x. Fits (meanings types ds) (tree_at types x) empty) (sym q)
            (subst (λ t. Fits (meanings types ds) t empty) (sym (row_tree types b i li)) (form_right types ds marks m.right (form_at types i) e))
        | inr q ↦ m.right j (sym (mark_other marks i j q) ∙ k)
      ];
      pending = λ j l. elim (cases_eq j i) [
        | inl q ↦ inl (marked_now j q)
        | inr q ↦ elim (m.pending j l) [
          | inl a ↦ inl (mark_other marks i j q ∙ a)
          | inr (inl a) ↦ elim (mem_append j waiting (i ∷ []) a) [
            | inl w ↦ inr (inl (append_left j waiting (successors g i) w))
            | inr (inl x) ↦ inl (marked_now j (sym x))
            | inr (inr f) ↦ absurd f
          ]
          | inr (inr a) ↦ elim (form_changed ds marks i (form_at types j) a) [
            | inl d ↦ inr (inl (append_right j waiting (successors g i) (dep.all j i l d)))
            | inr d ↦ inr (inr d)
          ]
        ]
      ];
      within = λ j a. elim (mem_append j waiting (successors g i) a) [
        | inl w ↦ m.within j (append_left j waiting (i ∷ []) w)
        | inr w ↦ (let k = closed i j w in let z = dep.count in omega arith)
      ];
    }
  where
    marked_now : (j : ℕ) → j ≡ i → is_marked (set marks i true) j ≡ true
    marked_now j q = let c = m.count in ap (is_marked (set marks i true)) q ∙ get_or-set_same marks i true false (omega arith)

pub marking_none : (types : List Row) (ds : List TypeDef) (marks : List Bool) (waiting : List ℕ) → length marks ≡ length types → ((i : ℕ) → is_marked marks i ≡ false) →
    ((i : ℕ) → i < length types → IsOneOf i waiting) → ((i : ℕ) → IsOneOf i waiting → i < length types) → IsMarking types ds marks waiting
marking_none types ds marks waiting c n a w = record {
  count = c;
  right = λ i e. absurd (let q : false ≡ true = sym (n i) ∙ e in cc);
  pending = λ i l. inr (inl (a i l));
  within = w;
}

-- how many have no mark, and what bounds the visits that are left
abbrev pub unmarked : List Bool → ℕ
unmarked [] = 0
unmarked (true ∷ marks) = unmarked marks
unmarked (false ∷ marks) = unmarked marks + 1

abbrev pub visits_left : List Bool → List ℕ → ℕ
visits_left marks waiting = 2 ^ 65 * unmarked marks + length waiting

pub unmarked_less : (marks : List Bool) (i : ℕ) → i < length marks → is_marked marks i ≡ false → unmarked (set marks i true) + 1 ≡ unmarked marks
unmarked_less [] i l e = absurd (omega arith)
unmarked_less (true ∷ marks) zero l e = absurd (cc)
unmarked_less (false ∷ marks) zero l e = refl
unmarked_less (true ∷ marks) (suc i) l e = unmarked_less marks i (omega arith) e
unmarked_less (false ∷ marks) (suc i) l e = let r = unmarked_less marks i (omega arith) e in omega arith

pub defined_stands : (types : List Row) (ds : List TypeDef) (w : List ℕ) (d : TypeDef) → AllByRecursion (TypeDefStands types) ds → definition_of ds w ≡ Some d → d.body.at < length types
defined_stands types [] w d a c = absurd (cc)
defined_stands types (f ∷ fs) w d a c = go (bytes_eq f.name w) c (λ z. defined_stands types fs w d a.1 z)
  where
    go : (b : Bool) → cond b (Some f) (definition_of fs w) ≡ Some d → (definition_of fs w ≡ Some d → d.body.at < length types) → d.body.at < length types
    go true z rec = let y : f ≡ d = cc in subst (λ (g : TypeDef). g.body.at < length types) y (a.0).body
    go false z rec = rec z

abbrev AreRight : List Row → List TypeDef → List Bool → Type 0
AreRight types ds marks = (i : ℕ) → is_marked marks i ≡ true → Fits (meanings types ds) (tree_at types i) empty

-- what a test by marks holds of can be empty
tree_right : (types : List Row) (ds : List TypeDef) (marks : List Bool) → AreRight types ds marks → (T : Tree) → empty_by (name_marked marks ds) T ≡ true → Fits (meanings types ds) T empty
tree_right types ds marks right Empty e = F.fits_empty
tree_right types ds marks right Text e = absurd (cc)
tree_right types ds marks right (Words ws) e = absurd (cc)
tree_right types ds marks right (Name x) e = name_right types ds marks right x e
tree_right types ds marks right (Elem c T) e = absurd (cc)
tree_right types ds marks right (Seq T U) e =
    let r = and_parts (empty_by (name_marked marks ds) T) (empty_by (name_marked marks ds) U) e in
    F.fits_seq empty empty refl (tree_right types ds marks right T r.0) (tree_right types ds marks right U r.1)
tree_right types ds marks right (Alt T U) e = elim (or_cases (empty_by (name_marked marks ds) T) (empty_by (name_marked marks ds) U) e) [
  | inl a ↦ F.fits_left (tree_right types ds marks right T a)
  | inr a ↦ F.fits_right (tree_right types ds marks right U a)
]
tree_right types ds marks right (Star T) e = F.fits_no_turn
tree_right types ds marks right (Plus T) e = F.fits_plus empty empty refl (tree_right types ds marks right T e) F.fits_no_turn
tree_right types ds marks right (Opt T) e = F.fits_absent
tree_right types ds marks right (Val x T) e = F.fits_val (tree_right types ds marks right T e)

-- the bodies of definitions are marked where the test holds of them: then it decides
module _ (types : List Row) (ds : List TypeDef) (marks : List Bool) (right : AreRight types ds marks)
    (bodies : (w : List ℕ) (d : TypeDef) → definition_of ds w ≡ Some d → empty_by (name_marked marks ds) (tree_at types d.body.at) ≡ true → is_marked marks d.body.at ≡ true) where
  abbrev B : List ℕ → Bool
  B = name_marked marks ds

  name_up : (x : List ℕ) (T : Tree) → body (meanings types ds) x ≡ Some T → empty_by B T ≡ true → B x ≡ true
  name_up x T q e = go (bytes_eq any_word x) refl (sym (meaning_of types ds x) ∙ q)
    where
      defined : (o : Option TypeDef) → definition_of ds x ≡ o → body_of types o ≡ Some T → body_marked marks o ≡ true
      defined None k b = absurd (cc)
      defined (Some d) k b =
          let s : tree_at types d.body.at ≡ T = cc in
          bodies x d k (subst (λ t. empty_by B t ≡ true) (sym s) e)

      go : (b : Bool) → bytes_eq any_word x ≡ b → cond b (Some any_type) (body_of types (definition_of ds x)) ≡ Some T → (bytes_eq any_word x || body_marked marks (definition_of ds x)) ≡ true
      go true k z = rw k refl
      go false k z = or_right (bytes_eq any_word x) (body_marked marks (definition_of ds x)) (defined (definition_of ds x) refl z)

  found : {T : Tree} {d : Document} → Fits (meanings types ds) T d → d ≡ empty → empty_by B T ≡ true
  found F.fits_empty e = refl
  found F.fits_text e = cc
  found (F.fits_words h) e = cc
  found (F.fits_elem c f) e = cc
  found (F.fits_seq {T} {U} {d} a b q f g) e = let j = joined_none a b (q ∙ e) in and_from (empty_by B T) (empty_by B U) (found f j.0) (found g j.1)
  found (F.fits_left {T} {U} f) e = or_left (empty_by B T) (empty_by B U) (found f e)
  found (F.fits_right {T} {U} f) e = or_right (empty_by B T) (empty_by B U) (found f e)
  found F.fits_no_turn e = refl
  found (F.fits_turn a b q s f g) e = refl
  found (F.fits_plus a b q f g) e = found f (joined_none a b (q ∙ e)).0
  found F.fits_absent e = refl
  found (F.fits_present f) e = refl
  found (F.fits_name {x} {T} {d} q f) e = name_up x T q (found f e)
  found (F.fits_val f) e = found f e

  decided : (T : Tree) → (empty_by B T ≡ true) ↔ Fits (meanings types ds) T empty
  decided T = (λ e. tree_right types ds marks right T e, λ f. found f refl)

-- a form is marked where the test holds of it, and the parts are marked where it holds of them
module _ (types : List Row) (ds : List TypeDef) (marks : List Bool) where
  abbrev N : List ℕ → Bool
  N = name_marked marks ds

  all_up : (is : List ℕ) → ((i : ℕ) → IsOneOf i is → empty_by N (tree_at types i) ≡ true → is_marked marks i ≡ true) → empty_by N (seq_of (map (tree_at types) is)) ≡ true → all_marked marks is ≡ true
  all_up [] h e = refl
  all_up (i ∷ []) h e = and_from (is_marked marks i) true (h i (inl refl) e) refl
  all_up (i ∷ (j ∷ js)) h e =
      let r = and_parts (empty_by N (tree_at types i)) (empty_by N (seq_of (map (tree_at types) (j ∷ js)))) e in
      and_from (is_marked marks i) (all_marked marks (j ∷ js)) (h i (inl refl) r.0) (all_up (j ∷ js) (λ k a. h k (inr a)) r.1)

  some_up : (is : List ℕ) → 1 ≤ length is → ((i : ℕ) → IsOneOf i is → empty_by N (tree_at types i) ≡ true → is_marked marks i ≡ true) → empty_by N (alt_of (map (tree_at types) is)) ≡ true → some_marked marks is ≡ true
  some_up [] l h e = absurd (omega arith)
  some_up (i ∷ []) l h e = or_left (is_marked marks i) false (h i (inl refl) e)
  some_up (i ∷ (j ∷ js)) l h e = elim (or_cases (empty_by N (tree_at types i)) (empty_by N (alt_of (map (tree_at types) (j ∷ js)))) e) [
    | inl a ↦ or_left (is_marked marks i) (some_marked marks (j ∷ js)) (h i (inl refl) a)
    | inr a ↦ or_right (is_marked marks i) (some_marked marks (j ∷ js)) (some_up (j ∷ js) (omega arith) (λ k b. h k (inr b)) a)
  ]

  below_all : (n : ℕ) (is : List ℕ) → AllByRecursion (λ i. i < n) is → (i : ℕ) → IsOneOf i is → i < n
  below_all n [] a i f = absurd f
  below_all n (j ∷ js) a i (inl q) = subst (λ x. x < n) q a.0
  below_all n (j ∷ js) a i (inr f) = below_all n js a.1 i f

  form_up : (older : List Row) (n : ℕ) (f : Form) → PartsBelow n f → CanFollow false older f → ((i : ℕ) → i < n → empty_by N (tree_at types i) ≡ true → is_marked marks i ≡ true) →
      empty_by N (form_tree (tree_at types) f) ≡ true → form_marked marks ds f ≡ true
  form_up older n empty_form p c h e = refl
  form_up older n text_form p c h e = e
  form_up older n (words_form ws) p c h e = e
  form_up older n (name_form w) p c h e = e
  form_up older n (elem_form k i) p c h e = e
  form_up older n (seq_form is) p c h e = all_up is (λ i a. h i (below_all n is p i a)) e
  form_up older n (alt_form is) p c h e = let l = c.0 in some_up is (omega arith) (λ i a. h i (below_all n is p i a)) e
  form_up older n (star_form i) p c h e = refl
  form_up older n (plus_form i) p c h e = h i p e
  form_up older n (opt_form i) p c h e = refl
  form_up older n (val_form x q i) p c h e = h i p e

-- once nothing waits, the marks are exact
module _ (types : List Row) (ds : List TypeDef) (marks : List Bool) (built : AreRead types) (stand : AllByRecursion (TypeDefStands types) ds) (m : IsMarking types ds marks []) where
  closed : (i : ℕ) → i < length types → form_marked marks ds (form_at types i) ≡ true → is_marked marks i ≡ true
  closed i l e = elim (m.pending i l) [ inl a ↦ a | inr (inl f) ↦ absurd f | inr (inr a) ↦ absurd (let q : false ≡ true = sym a ∙ e in cc) ]

  -- what the test holds of is marked
  up_to : (n i : ℕ) → i < n → i < length types → empty_by (name_marked marks ds) (tree_at types i) ≡ true → is_marked marks i ≡ true
  up_to zero i h l e = absurd (omega arith)
  up_to (suc n) i h l e =
      closed i l (form_up types ds marks (take i types) i (form_at types i) (built i l).parts (built i l).follows
      (λ j k. up_to n j (omega arith) (omega arith)) (subst (λ t. empty_by (name_marked marks ds) t ≡ true) (row_tree types built i l) e))

  up : (i : ℕ) → i < length types → empty_by (name_marked marks ds) (tree_at types i) ≡ true → is_marked marks i ≡ true
  up i l e = up_to (suc i) i (omega arith) l e

  pub exact : AreEmptyMarks types ds marks
  exact = record {
    count = m.count;
    exact = λ i l. (
      λ e. m.right i e,
      λ f. up i l ((decided types ds marks m.right (λ w d q e. up d.body.at (defined_stands types ds w d stand q) e) (tree_at types i)).1 f),
    );
  }

-- marks of the first nodes, those of definitions among them
module _ (types : List Row) (ds : List TypeDef) (marks : List Bool) (m : AreEmptySoFar types ds marks) where
  are_right : AreRight types ds marks
  are_right i e = (m.exact i (marked_there marks i e)).0 e

  marked_up : (i : ℕ) → i < length marks → empty_by (name_marked marks ds) (tree_at types i) ≡ true → is_marked marks i ≡ true
  marked_up i l e = (m.exact i l).1 (tree_right types ds marks are_right (tree_at types i) e)

  body_below : (w : List ℕ) (d : TypeDef) (es : List TypeDef) → AllByRecursion (λ (d : TypeDef). d.body.at < length marks) es → definition_of es w ≡ Some d → d.body.at < length marks
  body_below w d [] a q = absurd (cc)
  body_below w d (e ∷ es) a q = go (bytes_eq e.name w) q (λ k. body_below w d es a.1 k)
    where
      go : (b : Bool) → cond b (Some e) (definition_of es w) ≡ Some d → (definition_of es w ≡ Some d → d.body.at < length marks) → d.body.at < length marks
      go true z rec = let y : e ≡ d = cc in subst (λ (g : TypeDef). g.body.at < length marks) y a.0
      go false z rec = rec z

  -- they decide which types can be empty
  pub decides : (T : Tree) → (empty_by (name_marked marks ds) T ≡ true) ↔ Fits (meanings types ds) T empty
  decides = decided types ds marks are_right (λ w d q e. marked_up d.body.at (body_below w d ds m.bodies q) e)

  -- and the next node
  pub form_decided : (older : List Row) (n : ℕ) (f : Form) → PartsBelow n f → CanFollow false older f → n ≤ length marks →
      (form_marked marks ds f ≡ true) ↔ Fits (meanings types ds) (form_tree (tree_at types) f) empty
  form_decided older n f p c l = (
    λ e. form_right types ds marks are_right f e,
    λ k. form_up types ds marks older n f p c (λ i h e. marked_up i (omega arith) e) ((decides (form_tree (tree_at types) f)).1 k),
  )

pub adds_none : (g : List (List ℕ)) (at : ℕ) → AddsEdges g g at []
adds_none g at = record { count = refl; kept = λ v w e. e; added = λ j f. absurd f }

pub adds_more : (old g : List (List ℕ)) (at j : ℕ) (js : List ℕ) → AddsEdges old g at js → j < length g → AddsEdges old (with_edge g j at) at (js ++ j ∷ [])
adds_more old g at j js a l = record {
  count = length-set g j (successors g j ++ at ∷ []) ∙ a.count;
  kept = λ v w e. edges_kept g j at v w l (a.kept v w e);
  added = λ k m. elim (mem_append k js (j ∷ []) m) [
    | inl x ↦ edges_kept g j at k at l (a.added k x)
    | inr (inl q) ↦ subst (λ x. HasEdge (with_edge g j at) x at) q (edge_made g j at l)
    | inr (inr f) ↦ absurd f
  ];
}

pub form_read : (types : List Row) (id at : ℕ) (r : Row) (f : Form) → id ≡ at → at < length types → r ≡ get_or types id r → f ≡ r.form → f ≡ form_at types at
form_read types id at r f e l q k =
    k ∙ ap (λ (x : Row). x.form) (get_or_read types at r l (q ∙ ap (λ i. get_or types i r) e) no_row)

pub bodies_below : (types : List Row) (n : ℕ) → length types ≤ n → (ds : List TypeDef) → AllByRecursion (TypeDefStands types) ds → AllByRecursion (λ (d : TypeDef). d.body.at < n) ds
bodies_below types n l [] a = tt
bodies_below types n l (d ∷ ds) a = let b = (a.0).body in (omega arith, bodies_below types n l ds a.1)

-- the definition that a name's number stands for
pub defined_at : (ds : List TypeDef) (w : List ℕ) (k : ℕ) (d : TypeDef) → first_of ds w ≡ Some k → (k < length ds) × (definition_of ds w ≡ Some (get_or ds k d))
defined_at ds w k d e = let r = first_found 0 ds w k e in let h = r.high in let z : k - 0 ≡ k = omega arith in (omega arith, r.defined d ∙ ap (λ i. Some (get_or ds i d)) z)

pub among_one : {A : Type 0} (x : A) (xs : List A) → IsOneOf x (xs ++ x ∷ [])
among_one x xs = append_right x xs (x ∷ []) (inl refl)

-- the last node that waits is one of the table, and has a mark
pub record IsPopped (types : List Row) (ds : List TypeDef) (marks : List Bool) (waiting : List ℕ) (i : ℕ) : Type 0 where
  pub marking : IsMarking types ds marks (waiting ++ i ∷ [])
  pub is_node : i < length types
  pub has_mark : i < length marks

pub popped : {types : List Row} {ds : List TypeDef} {marks : List Bool} {before : List ℕ} (waiting : List ℕ) (i : ℕ) → before ≡ waiting ++ i ∷ [] → IsMarking types ds marks before → IsPopped types ds marks waiting i
popped {types = types} {ds = ds} {marks = marks} waiting i e before =
    let m = subst (IsMarking types ds marks) e before in
    let l = m.within i (among_one i waiting) in
    let n = m.count in
    record { marking = m; is_node = l; has_mark = omega arith }

pub parts_up : (m n : ℕ) (f : Form) → PartsBelow m f → m ≤ n → PartsBelow n f
parts_up m n empty_form p h = tt
parts_up m n text_form p h = tt
parts_up m n (words_form ws) p h = tt
parts_up m n (name_form w) p h = tt
parts_up m n (elem_form c i) p h = omega arith
parts_up m n (seq_form is) p h = all_below m n h is p
parts_up m n (alt_form is) p h = all_below m n h is p
parts_up m n (star_form i) p h = omega arith
parts_up m n (plus_form i) p h = omega arith
parts_up m n (opt_form i) p h = omega arith
parts_up m n (val_form x q i) p h = omega arith

pub body_in : (n : ℕ) (ds : List TypeDef) (w : List ℕ) (b : ℕ) → AllByRecursion (λ (d : TypeDef). d.body.at < n) ds → Some b ≡ body_at (definition_of ds w) → b < n
body_in n [] w b a e = absurd (cc)
body_in n (d ∷ ds) w b a e = go (bytes_eq d.name w) e (λ k. body_in n ds w b a.1 k)
  where
    go : (t : Bool) → Some b ≡ body_at (cond t (Some d) (definition_of ds w)) → (Some b ≡ body_at (definition_of ds w) → b < n) → b < n
    go true k rec = let q = some_same b d.body.at k in let z = a.0 in omega arith
    go false k rec = rec k

pub number_some : (o : Option TypeDef) (b : ℕ) → Some b ≡ body_at o → body_number o ≡ b ∷ []
number_some None b e = absurd (cc)
number_some (Some d) b e = ap (λ n. n ∷ []) (sym (some_same b d.body.at e))

pub number_none : (o : Option TypeDef) → None ≡ body_at o → body_number o ≡ []
number_none None e = refl
number_none (Some d) e = absurd (cc)

pub marked_some : (marks : List Bool) (o : Option TypeDef) (b : ℕ) → Some b ≡ body_at o → is_marked marks b ≡ body_marked marks o
marked_some marks None b e = absurd (cc)
marked_some marks (Some d) b e = ap (is_marked marks) (some_same b d.body.at e)

pub marked_none : (marks : List Bool) (o : Option TypeDef) → None ≡ body_at o → false ≡ body_marked marks o
marked_none marks None e = refl
marked_none marks (Some d) e = absurd (cc)

-- while nodes are numbered, each waits
pub record IsListed (marks : List Bool) (waiting : List ℕ) (n : ℕ) : Type 0 where
  pub count : length marks ≡ n
  pub none : (i : ℕ) → is_marked marks i ≡ false
  pub all : (i : ℕ) → i < n → IsOneOf i waiting
  pub within : (i : ℕ) → IsOneOf i waiting → i < n

pub unmarked_push : (marks : List Bool) → ((i : ℕ) → is_marked marks i ≡ false) → (i : ℕ) → is_marked (marks ++ false ∷ []) i ≡ false
unmarked_push [] h zero = refl
unmarked_push [] h (suc i) = refl
unmarked_push (b ∷ marks) h zero = h zero
unmarked_push (b ∷ marks) h (suc i) = unmarked_push marks (λ j. h (suc j)) i

pub listed_more : (marks : List Bool) (waiting : List ℕ) (n : ℕ) → IsListed marks waiting n → IsListed (marks ++ false ∷ []) (waiting ++ n ∷ []) (n + 1)
listed_more marks waiting n i = record {
  count = (let a = length_push marks false in let c = i.count in omega arith);
  none = unmarked_push marks i.none;
  all = λ j l. elim (cases_eq j n) [ inl q ↦ append_right j waiting (n ∷ []) (inl (sym q)) | inr q ↦ append_left j waiting (n ∷ []) (i.all j (omega arith)) ];
  within = λ j a. elim (mem_append j waiting (n ∷ []) a) [ inl w ↦ (let k = i.within j w in omega arith) | inr (inl q) ↦ omega arith | inr (inr f) ↦ absurd f ];
}

pub read_at : (types : List Row) (n at : ℕ) (r : Row) → at ≡ n → n < length types → r ≡ get_or types at r → tree_at types at ≡ form_tree (tree_at types) r.form → PartsBelow at r.form →
    CanFollow false (take at types) r.form → IsRead types n
read_at types n at r e l row t p f =
    let y : r.form ≡ form_at types n = form_read types at n r r.form e l row refl in
    record {
      tree = subst (λ j. tree_at types j ≡ form_tree (tree_at types) (form_at types n)) e (t ∙ ap (form_tree (tree_at types)) y);
      parts = subst (λ j. PartsBelow j (form_at types n)) e (subst (PartsBelow at) y p);
      follows = subst (λ j. CanFollow false (take j types) (form_at types n)) e (subst (CanFollow false (take at types)) y f);
    }

pub read_more : (types : List Row) (n at : ℕ) (r : Row) → at ≡ n → n < length types → r ≡ get_or types at r → tree_at types at ≡ form_tree (tree_at types) r.form → PartsBelow at r.form →
    CanFollow false (take at types) r.form → ((i : ℕ) → i < n → IsRead types i) → (i : ℕ) → i < n + 1 → IsRead types i
read_more types n at r e l row t p f h i k = elim (cases_eq i n) [
  | inr q ↦ h i (omega arith)
  | inl q ↦ subst (IsRead types) (sym q) (read_at types n at r e l row t p f)
]

pub defined_in : (ds : List TypeDef) (w : List ℕ) (k : ℕ) → first_of ds w ≡ Some k → k < length ds
defined_in ds w k e = let h = (first_found 0 ds w k e).high in omega arith

pub part_in : (n : ℕ) (ids : List TypeId) (k : ℕ) (d : TypeId) → AllByRecursion (λ i. i < n) (type_numbers ids) → k < length ids → (get_or ids k d).at < n
part_in n [] k d a l = absurd (omega arith)
part_in n (i ∷ ids) zero d a l = a.0
part_in n (i ∷ ids) (suc k) d a l = part_in n ids k d a.1 (omega arith)
