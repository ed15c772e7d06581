-- The telephone program, without a clause, and with two clauses exchanged: their lines.
use Rattle.std.proofs.Common.{◌≡◌, ℕ, ◌+◌, ◌≤◌, ◌||◌, arith, Bool, true, false, ◌⊎◌, inl, inr, List, [], ◌∷◌, ◌++◌, Some, refl, ap, sym, subst, ◌∙◌}
use Rattle.std.specs.Prelude.{codes}
use Rattle.std.specs.Str.{bytes_eq, is_utf8}
use Rattle.std.proofs.lemmas.Str.{IsUtf8-nil, is_utf8-from_IsUtf8}
use Rattle.xd_doc.specs.Document.{Document, empty, text, element, join, is_proper, size}
use Rattle.xd_doc.specs.Least.{IsLeast}
use Rattle.std.specs.List.Sorted.{IsStrictlySortedBy}
use Rattle.xd_doc.specs.Word.{is_word}
use Rattle.xd_doc.specs.Classes.{class_has}
use Rattle.xd_doc.specs.ClassForms.{IsClass}
use Rattle.xd_doc.specs.Members.{IsOneOf}
use Rattle.xd_doc.proofs.Joins.{join_empty-right}
use Rattle.xd_syntax.specs.Words.{any_word}
use Rattle.xd_syntax.specs.Tree.{Tree, Empty, Text, Name, Elem, Seq, Opt, Val, Definitions, body}
use Rattle.xd_syntax.specs.Placed.{PlacedTree, Empty_at, unplaced}
use Rattle.xd_syntax.specs.Expression.{Nothing, Variable, Matched, Clauses, no_clause}
use Rattle.xd_syntax.specs.Program.{names_of}
use Rattle.xd_syntax.specs.Proper.{IsProperProgram}
use Rattle.xd_syntax.specs.Fits.{Fits, fits_empty, fits_text, fits_elem, fits_name, fits_seq, fits_no_turn, fits_turn, fits_absent, fits_present, fits_val}
use Rattle.xd_syntax.specs.Ways.{Way, unfoldings, IsWholeWay, Takes}
use Rattle.xd_laws.specs.Guarded.{Guarded}
use Rattle.xd_syntax.specs.RecursionFaults.{all_seen, IsSound}
use Rattle.xd_syntax.specs.May.{Scope, clause_entry, Arrives, MayBind, May, parameters_scope}
use Rattle.xd_syntax.specs.CheckFaults.{Line, wrong_argument, not_exhaustive, Misfits, IsLiveIn, LinesOf, LinesOfClauses, lines_in_order, AreLines, IsAccepted, IsProperWith, LineWhere}
use Rattle.xd_laws.proofs.Unfoldings.{same_word_eq, fits_takes}
use Rattle.xd_laws.proofs.SoundGuarded.{guarded}
use Rattle.xd_laws.proofs.FitsLaws.{any_fits, element_only, text_only, seq_only, opt_only, star_only, defined_name}
use Rattle.xd_laws.proofs.WaysFit.{whole_none}
use Rattle.xd_laws.proofs.WayShapes.{IsWay, way_text, way_name, way_elem, way_seq, way_val, way_shape, way_join}
use Rattle.xd_laws.proofs.OneLines.{empty_least, no_lines, first_alone, rest_alone, no_such_line, clause_alone, match_alone}
use Rattle.xd_laws.proofs.BoundVariables.{none_bound}
use Rattle.xd_laws.proofs.SuitsLemmas.{bind_nothing}
use Rattle.xd_laws.specs.LineSamples.{at_place, one, fault_line, warning_line, HasLines, name_label as name, addr_label as addr, tel_label as tel, n_variable as n, t_variable as t, rest_variable as rest, with_tel_at, without_tel_at, again, listed, with_tel, without_tel, at_end, scrutinee, persons_at, listed_at, input, main_with, telephones, all_clauses, without_last, exchanged, IsNumberThenDead}

abbrev names : Definitions
names = names_of (telephones no_clause)

abbrev scope : Scope
scope = parameters_scope (input ∷ [])

abbrev persons : Tree
persons = unplaced persons_at

-- a name that stands for a labelled text

same_label : (l k : List ℕ) → class_has (one l) k ≡ true → l ≡ k
same_label l k h = same_word_eq l k (true_left (bytes_eq l k) h)
  where
    true_left : (b : Bool) → (b || false) ≡ true → b ≡ true
    true_left true e = refl
    true_left false e = e

labelled_fits : (w l : List ℕ) (d : Document) → body names w ≡ Some (Elem (one l) Text) → Fits names (Name w) d →
    (s : List ℕ) × (d ≡ element l (text s empty) empty)
labelled_fits w l d e f = shape d (defined_name names w (Elem (one l) Text) d e f)
  where
    content : (k c : Document) (s : List ℕ) → k ≡ element l (text s c) empty → c ≡ empty → (u : List ℕ) × (k ≡ element l (text u empty) empty)
    content k c s e f = (s, e ∙ ap (λ q. element l (text s q) empty) f)

    inside : (k c r : Document) (m : List ℕ) → k ≡ element m c r → m ≡ l → r ≡ empty → Fits names Text c → (u : List ℕ) × (k ≡ element l (text u empty) empty)
    inside k empty r m e f g h = absurd (text_only names empty h)
    inside k (text s c) r m e f g h = content k c s (cc) (text_only names (text s c) h)
    inside k (element m' c c') r m e f g h = absurd (text_only names (element m' c c') h)

    shape : (k : Document) → Fits names (Elem (one l) Text) k → (u : List ℕ) × (k ≡ element l (text u empty) empty)
    shape empty g = absurd (element_only names (one l) Text empty g)
    shape (text s r) g = absurd (element_only names (one l) Text (text s r) g)
    shape (element m c r) g =
        let h = element_only names (one l) Text (element m c r) g in inside (element m c r) c r m refl (sym (same_label l m h.1)) h.0 h.2

fits_labelled : (w l s : List ℕ) → body names w ≡ Some (Elem (one l) Text) → class_has (one l) l ≡ true → Fits names (Name w) (element l (text s empty) empty)
fits_labelled w l s e h = fits_name e (fits_elem h fits_text)

-- Persons.

-- a person with what follows
abbrev person : List ℕ → List ℕ → Document → Document
person s u r = element name (text s empty) (element addr (text u empty) r)

abbrev with_number : List ℕ → Document → Document
with_number v r = element tel (text v empty) r

-- a person, and after it persons, or a telephone number and persons
abbrev IsPerson : Document → Type 0
IsPerson d =
    (s : List ℕ) × (u : List ℕ) × (r : Document) × (d ≡ person s u r)
    × (Fits names persons r ⊎ ((v : List ℕ) × (q : Document) × (r ≡ with_number v q) × Fits names persons q))

one_person : (a b d : Document) → join a b ≡ d → Fits names (Seq (Name (codes "Name")) (Seq (Name (codes "Addr")) (Opt (Name (codes "Tel"))))) a →
    Fits names persons b → IsPerson d
one_person a b d e f g =
    let h = seq_only names (Name (codes "Name")) (Seq (Name (codes "Addr")) (Opt (Name (codes "Tel")))) a f in
    let k = seq_only names (Name (codes "Addr")) (Opt (Name (codes "Tel"))) h.1 h.4 in
    let s = labelled_fits (codes "Name") name h.0 refl h.3 in
    let u = labelled_fits (codes "Addr") addr k.0 refl k.3 in
    let whole : (c : Document) → c ≡ k.1 → person s.0 u.0 (join c b) ≡ d
    = λ c i. ap (λ z. person s.0 u.0 (join z b)) i ∙ ap (λ z. element name (text s.0 empty) (join (join z k.1) b)) (sym u.1)
    ∙ ap (λ z. element name (text s.0 empty) (join z b)) k.2 ∙ ap (λ z. join (join z h.1) b) (sym s.1) ∙ ap (λ z. join z b) h.2 ∙ e in
    elim (opt_only names (Name (codes "Tel")) k.1 k.4) [
      | inl i ↦ (s.0, u.0, b, sym (whole empty (sym i)), inl g)
      | inr i ↦
          let v = labelled_fits (codes "Tel") tel k.1 refl i in
          (s.0, u.0, with_number v.0 b, sym (whole (with_number v.0 empty) (sym v.1)), inr (v.0, b, refl, g))
    ]

persons_shape : (d : Document) → Fits names persons d → (d ≡ empty) ⊎ IsPerson d
persons_shape d f =
    elim (star_only names (Seq (Name (codes "Name")) (Seq (Name (codes "Addr")) (Opt (Name (codes "Tel"))))) d f)
    [ inl e ↦ inl e | inr h ↦ inr (one_person h.0 h.1 d h.2 h.4 h.5) ]

-- no persons begin with a telephone number
no_number_first : (v : List ℕ) (q : Document) → Fits names persons (with_number v q) → ⊥
no_number_first v q f = elim (persons_shape (with_number v q) f) [ inl e ↦ cc | inr h ↦ other_label h.3 ]
  where
    other_label : {s u : List ℕ} {r : Document} → with_number v q ≡ person s u r → ⊥
    other_label e = cc

person_fits : (s u : List ℕ) (r : Document) → Fits names persons r → Fits names persons (person s u r)
person_fits s u r f =
    fits_turn (person s u empty) r refl refl
    (fits_seq (element name (text s empty) empty) (element addr (text u empty) empty) refl (fits_labelled (codes "Name") name s refl refl)
    (fits_seq (element addr (text u empty) empty) empty refl (fits_labelled (codes "Addr") addr u refl refl) fits_absent)) f

numbered_fits : (s u v : List ℕ) (r : Document) → Fits names persons r → Fits names persons (person s u (with_number v r))
numbered_fits s u v r f =
    fits_turn (person s u (with_number v empty)) r refl refl
    (fits_seq (element name (text s empty) empty) (element addr (text u empty) (with_number v empty)) refl (fits_labelled (codes "Name") name s refl refl)
    (fits_seq (element addr (text u empty) empty) (with_number v empty) refl (fits_labelled (codes "Addr") addr u refl refl)
    (fits_present (fits_labelled (codes "Tel") tel v refl refl)))) f

-- Ways of the patterns.

program_sound : IsSound (telephones no_clause)
program_sound = record { names = refl; recursion = record { outside = []; unguarded = []; outside_all = all_seen; unguarded_all = all_seen; listed = refl } }

names_guarded : Guarded names
names_guarded = guarded (telephones no_clause) program_sound

-- the way of a name that stands for a labelled text
labelled_way : (w l : List ℕ) (d : Document) (v : Way) → body names w ≡ Some (Elem (one l) Text) → IsWay names (Name w) d v →
    (s : List ℕ) × (d ≡ element l (text s empty) v.rest) × (v.bindings ≡ []) × (v.taken ≡ element l (text s empty) empty)
labelled_way w l d v e (way_name {T = T} f h) =
    let g : T ≡ Elem (one l) Text = cc in element_way d v (subst (λ U. IsWay names U d v) g h)
  where
    text_way : (k : Document) (u : Way) → IsWay names Text k u → u.rest ≡ empty → (s : List ℕ) × (k ≡ text s empty) × (u.bindings ≡ [])
    text_way k u (way_text {s = s} {r = r}) i = (s, ap (text s) i, refl)

    element_way : (d : Document) (v : Way) → IsWay names (Elem (one l) Text) d v →
        (s : List ℕ) × (d ≡ element l (text s empty) v.rest) × (v.bindings ≡ []) × (v.taken ≡ element l (text s empty) empty)
    element_way d v (way_elem {l = m} {k = k} {r = r} {v = u} c h i) =
        let q = text_way k u h i in
        let j : m ≡ l = sym (same_label l m c) in
        (q.0, ap (λ z. element z k r) j ∙ ap (λ z. element l z r) q.1, q.2, ap (λ z. element z k empty) j ∙ ap (λ z. element l z empty) q.1)

one_class : (l : List ℕ) → is_word l ≡ true → IsClass (one l)
unfolding IsStrictlySortedBy
one_class l e = record { words = (e, tt); sorted = (tt, tt); filled = inl (omega arith) }

program_proper : IsProperProgram (telephones no_clause)
program_proper = record {
  types = (
    record { name = refl; body = (one_class name refl, tt) },
    (record { name = refl; body = (one_class addr refl, tt) }, (record { name = refl; body = (one_class tel refl, tt) }, tt)),
  );
  functions = (
    record {
      name = refl;
      parameters = (record { name = refl; declared = (refl, (refl, refl)) }, tt);
      declared = (refl, refl);
      body = (refl, tt);
    },
    tt,
  );
}

-- a way of a bound name that takes all
rest_way : (d : Document) (v : Way) → v.rest ≡ empty → IsWay names (Val rest (Name any_word)) d v → v.bindings ≡ (rest, d) ∷ []
rest_way d v e (way_val {v = u} h) =
    let taken : u.taken ≡ d = sym (join_empty-right u.taken) ∙ ap (join u.taken) (sym e) ∙ way_join names h in
    ap (λ z. (rest, z) ∷ u.bindings) taken ∙ ap (λ z. (rest, d) ∷ z) (none_bound names (bind_nothing (telephones no_clause) program_proper) h refl)

bound_way : (y w l : List ℕ) (d : Document) (v : Way) → body names w ≡ Some (Elem (one l) Text) → IsWay names (Val y (Name w)) d v →
    (s : List ℕ) × (d ≡ element l (text s empty) v.rest) × (v.bindings ≡ (y, element l (text s empty) empty) ∷ [])
bound_way y w l d v e (way_val {v = u} h) =
    let r = labelled_way w l d u e h in (r.0, r.1, ap (λ z. (y, z) ∷ u.bindings) r.3 ∙ ap (λ z. (y, element l (text r.0 empty) empty) ∷ z) r.2)

abbrev without_tel_tree : Tree
without_tel_tree = unplaced (without_tel_at 0)

abbrev with_tel_tree : Tree
with_tel_tree = unplaced (with_tel_at 0)

without_tel_way : (d : Document) (w : Way) → w.rest ≡ empty → IsWay names without_tel_tree d w →
    (s : List ℕ) × (u : List ℕ) × (q : Document) × (d ≡ person s u q) × (w.bindings ≡ (rest, q) ∷ [])
without_tel_way d w e (way_seq {v = a} h (way_seq {v = b} {w = c} k m)) =
    let p = labelled_way (codes "Name") name d a refl h in
    let q = labelled_way (codes "Addr") addr a.rest b refl k in (
      p.0,
      q.0,
      b.rest,
      p.1 ∙ ap (element name (text p.0 empty)) q.1,
      ap (λ z. z ++ (b.bindings ++ c.bindings)) p.2 ∙ ap (λ z. z ++ c.bindings) q.2 ∙ rest_way b.rest c e m,
    )

with_tel_way : (d : Document) (w : Way) → w.rest ≡ empty → IsWay names with_tel_tree d w →
    (s : List ℕ) × (u : List ℕ) × (v : List ℕ) × (q : Document) × (d ≡ person s u (with_number v q))
    × (w.bindings ≡ (n, element name (text s empty) empty) ∷ (t, with_number v empty) ∷ (rest, q) ∷ [])
with_tel_way d w e (way_seq {v = a} h (way_seq {v = b} k (way_seq {v = c} {w = f} m o))) =
    let p = bound_way n (codes "Name") name d a refl h in
    let q = labelled_way (codes "Addr") addr a.rest b refl k in
    let r = bound_way t (codes "Tel") tel b.rest c refl m in (
      p.0,
      q.0,
      r.0,
      c.rest,
      p.1 ∙ ap (element name (text p.0 empty)) (q.1 ∙ ap (element addr (text q.0 empty)) r.1),
      ap (λ z. z ++ (b.bindings ++ (c.bindings ++ f.bindings))) p.2
          ∙ ap (λ z. (n, element name (text p.0 empty) empty) ∷ (z ++ (c.bindings ++ f.bindings))) q.2
          ∙ ap (λ z. (n, element name (text p.0 empty) empty) ∷ (z ++ f.bindings)) r.2
          ∙ ap (λ z. (n, element name (text p.0 empty) empty) ∷ (t, with_number r.0 empty) ∷ z) (rest_way c.rest f e o),
    )

-- What the patterns take.

abbrev own_names : Definitions
own_names = (codes "Name", Elem (one name) Text) ∷ (codes "Addr", Elem (one addr) Text) ∷ (codes "Tel", Elem (one tel) Text) ∷ []

without_tel_takes : (s u : List ℕ) (q : Document) → Takes names without_tel_tree (person s u q)
without_tel_takes s u q =
    fits_takes names names_guarded without_tel_tree (person s u q)
    (fits_seq (element name (text s empty) empty) (element addr (text u empty) q) refl (fits_labelled (codes "Name") name s refl refl)
    (fits_seq (element addr (text u empty) empty) q refl (fits_labelled (codes "Addr") addr u refl refl) (fits_val (any_fits own_names q))))

with_tel_takes : (s u v : List ℕ) (q : Document) → Takes names with_tel_tree (person s u (with_number v q))
with_tel_takes s u v q =
    fits_takes names names_guarded with_tel_tree (person s u (with_number v q))
    (fits_seq (element name (text s empty) empty) (element addr (text u empty) (with_number v q)) refl (fits_val (fits_labelled (codes "Name") name s refl refl))
    (fits_seq (element addr (text u empty) empty) (with_number v q) refl (fits_labelled (codes "Addr") addr u refl refl)
    (fits_seq (with_number v empty) q refl (fits_val (fits_labelled (codes "Tel") tel v refl refl)) (fits_val (any_fits own_names q)))))

-- the document that a clause's pattern takes, and what it binds
without_tel_whole : (d : Document) (w : Way) → IsWholeWay names without_tel_tree d w →
    (s : List ℕ) × (u : List ℕ) × (q : Document) × (d ≡ person s u q) × (w.bindings ≡ (rest, q) ∷ [])
without_tel_whole d w h = without_tel_way d w (whole_none w h.1) (way_shape names (unfoldings names d) without_tel_tree d w h.0)

with_tel_whole : (d : Document) (w : Way) → IsWholeWay names with_tel_tree d w →
    (s : List ℕ) × (u : List ℕ) × (v : List ℕ) × (q : Document) × (d ≡ person s u (with_number v q))
    × (w.bindings ≡ (n, element name (text s empty) empty) ∷ (t, with_number v empty) ∷ (rest, q) ∷ [])
with_tel_whole d w h = with_tel_way d w (whole_none w h.1) (way_shape names (unfoldings names d) with_tel_tree d w h.0)

without_tel_not_empty : Takes names without_tel_tree empty → ⊥
without_tel_not_empty h = let r = without_tel_whole empty h.0 h.1 in differ r.3
  where
    differ : {s u : List ℕ} {q : Document} → empty ≡ person s u q → ⊥
    differ e = cc

with_tel_not : (d : Document) → ((s u v : List ℕ) (q : Document) → d ≡ person s u (with_number v q) → ⊥) → Takes names with_tel_tree d → ⊥
with_tel_not d f h = let r = with_tel_whole d h.0 h.1 in f r.0 r.1 r.2 r.3 r.4

with_tel_not_empty : Takes names with_tel_tree empty → ⊥
with_tel_not_empty h = with_tel_not empty (λ s u v q e. cc) h

-- a variable and what it has
abbrev bind : List ℕ → Document → List ℕ × Document
bind y d = (y, d)

same_document : (y : List ℕ) (c d : Document) → bind y c ≡ bind y d → c ≡ d
same_document y c d e = ap (λ (p : List ℕ × Document). p.1) e

other_word : (y z : List ℕ) (c d : Document) → (y ≡ z → ⊥) → bind y c ≡ bind z d → ⊥
other_word y z c d f e = f (ap (λ (p : List ℕ × Document). p.0) e)

n_not_rest : n ≡ rest → ⊥
n_not_rest e = let f : true ≡ false = ap (λ w. bytes_eq n w) e in cc

t_not_rest : t ≡ rest → ⊥
t_not_rest e = let f : true ≡ false = ap (λ w. bytes_eq t w) e in cc

n_not_t : n ≡ t → ⊥
n_not_t e = let f : true ≡ false = ap (λ w. bytes_eq n w) e in cc

rest_of_one : (q d : Document) → IsOneOf (bind rest d) (bind rest q ∷ []) → q ≡ d
rest_of_one q d (inl e) = same_document rest q d e
rest_of_one q d (inr b) = absurd b

rest_of_three : (a b q d : Document) → IsOneOf (bind rest d) (bind n a ∷ bind t b ∷ bind rest q ∷ []) → q ≡ d
rest_of_three a b q d (inl e) = absurd (other_word n rest a d n_not_rest e)
rest_of_three a b q d (inr (inl e)) = absurd (other_word t rest b d t_not_rest e)
rest_of_three a b q d (inr (inr h)) = rest_of_one q d h

n_of_three : (a b q d : Document) → IsOneOf (bind n d) (bind n a ∷ bind t b ∷ bind rest q ∷ []) → a ≡ d
n_of_three a b q d (inl e) = same_document n a d e
n_of_three a b q d (inr (inl e)) = absurd (other_word t n b d (λ f. n_not_t (sym f)) e)
n_of_three a b q d (inr (inr (inl e))) = absurd (other_word rest n q d (λ f. n_not_rest (sym f)) e)
n_of_three a b q d (inr (inr (inr h))) = absurd h

t_of_three : (a b q d : Document) → IsOneOf (bind t d) (bind n a ∷ bind t b ∷ bind rest q ∷ []) → b ≡ d
t_of_three a b q d (inl e) = absurd (other_word n t a d n_not_t e)
t_of_three a b q d (inr (inl e)) = same_document t b d e
t_of_three a b q d (inr (inr (inl e))) = absurd (other_word rest t q d (λ f. t_not_rest (sym f)) e)
t_of_three a b q d (inr (inr (inr h))) = absurd h

-- What is after a person that is one of persons.

behind_number : (d : Document) → Fits names persons d → (s u v : List ℕ) (q : Document) → d ≡ person s u (with_number v q) → Fits names persons q
behind_number d f s u v q e =
    elim (persons_shape d f) [
      | inl i ↦ absurd (cc)
      | inr h ↦
          let r : h.2 ≡ with_number v q = cc in
          elim h.4 [
            | inl g ↦ absurd (no_number_first v q (subst (Fits names persons) r g))
            | inr k ↦ (let z : k.1 ≡ q = cc in subst (Fits names persons) z k.3)
          ]
    ]

-- persons, or a telephone number and persons
behind_person : (d : Document) → Fits names persons d → (s u : List ℕ) (q : Document) → d ≡ person s u q →
    Fits names persons q ⊎ ((v : List ℕ) × (r : Document) × (q ≡ with_number v r) × Fits names persons r)
behind_person d f s u q e =
    elim (persons_shape d f) [
      | inl i ↦ absurd (cc)
      | inr h ↦ (let r : h.2 ≡ q = cc in elim h.4 [ inl g ↦ inl (subst (Fits names persons) r g) | inr k ↦ inr (k.0, k.1, sym r ∙ k.2, k.3) ])
    ]

-- The clauses, over any scrutinee that may be persons.

abbrev Persons : Document → Type 0
Persons d = Fits names persons d

with_tel_rest : (earlier : List PlacedTree) (l : ℕ) (d : Document) → MayBind names Persons earlier (with_tel_at l) rest d → Fits names persons d
with_tel_rest earlier l d h =
    let w = with_tel_whole h.0 h.1 h.3 in
    let e : w.3 ≡ d = rest_of_three _ _ w.3 d (subst (IsOneOf (bind rest d)) w.5 h.4) in
    subst (Fits names persons) e (behind_number h.0 (h.2).1 w.0 w.1 w.2 w.3 w.4)

with_tel_n : (earlier : List PlacedTree) (l : ℕ) (d : Document) → MayBind names Persons earlier (with_tel_at l) n d → (s : List ℕ) × (d ≡ element name (text s empty) empty)
with_tel_n earlier l d h =
    let w = with_tel_whole h.0 h.1 h.3 in (w.0, sym (n_of_three _ _ w.3 d (subst (IsOneOf (bind n d)) w.5 h.4)))

with_tel_t : (earlier : List PlacedTree) (l : ℕ) (d : Document) → MayBind names Persons earlier (with_tel_at l) t d → (v : List ℕ) × (d ≡ with_number v empty)
with_tel_t earlier l d h =
    let w = with_tel_whole h.0 h.1 h.3 in (w.2, sym (t_of_three _ _ w.3 d (subst (IsOneOf (bind t d)) w.5 h.4)))

-- what is left of a person that comes to the clause
without_tel_rest : (earlier : List PlacedTree) (l : ℕ) (d : Document) → MayBind names Persons earlier (without_tel_at l) rest d →
    Fits names persons d ⊎ ((s : List ℕ) × (u : List ℕ) × (v : List ℕ) × (r : Document) × (d ≡ with_number v r) × Arrives names Persons earlier (person s u (with_number v r)))
without_tel_rest earlier l d h =
    let w = without_tel_whole h.0 h.1 h.3 in
    let e : w.2 ≡ d = rest_of_one w.2 d (subst (IsOneOf (bind rest d)) w.4 h.4) in
    elim (behind_person h.0 (h.2).1 w.0 w.1 w.2 w.3) [
      | inl f ↦ inl (subst (Fits names persons) e f)
      | inr k ↦ inr (w.0, w.1, k.0, k.1, sym e ∙ k.2, subst (Arrives names Persons earlier) (w.3 ∙ ap (person w.0 w.1) k.2) h.2)
    ]

-- `n, t, main(rest)` is listed persons
listed_fits : (a b c d e : Document) (s v : List ℕ) → a ≡ element name (text s empty) empty → b ≡ with_number v empty → Fits names (unplaced listed_at) c →
    join b c ≡ e → join a e ≡ d → Fits names (unplaced listed_at) d
listed_fits a b c d e s v f g h i j =
    let k : element name (text s empty) (with_number v c) ≡ d = ap (λ z. join (element name (text s empty) empty) (join z c)) (sym g)
    ∙ ap (λ z. join z (join b c)) (sym f) ∙ ap (join a) i ∙ j in
    subst (Fits names (unplaced listed_at)) k
    (fits_turn (element name (text s empty) (with_number v empty)) c refl refl
    (fits_seq (element name (text s empty) empty) (with_number v empty) refl (fits_labelled (codes "Name") name s refl refl) (fits_labelled (codes "Tel") tel v refl refl)) h)

-- Lines.

empty_utf8 : is_utf8 [] ≡ true
empty_utf8 = is_utf8-from_IsUtf8 [] IsUtf8-nil

person_proper : (r : Document) → is_proper r ≡ true → is_proper (person [] [] r) ≡ true
person_proper r h = rw (empty_utf8, h) refl

number_proper : is_proper (with_number [] empty) ≡ true
number_proper = rw empty_utf8 refl

-- a call on what fits has no line
again_lines : (cs : Clauses) (S : Scope) (l c : ℕ) → ((d : Document) → May (telephones cs) S (Variable (at_place l (c + 5)) rest) d → Fits names persons d) →
    LinesOf size (telephones cs) S (again l c) []
again_lines cs S l c h = ([], [], refl, ([], [], inr ((λ d p m. m.1 (h d m.0)), refl), refl, refl), refl)

abbrev in_with_tel : ℕ → List PlacedTree → Scope
in_with_tel l earlier = clause_entry scrutinee earlier (with_tel_at l) ∷ scope

abbrev in_without_tel : ℕ → List PlacedTree → Scope
in_without_tel l earlier = clause_entry scrutinee earlier (without_tel_at l) ∷ scope

listed_lines : (cs : Clauses) (l : ℕ) (earlier : List PlacedTree) → LinesOf size (telephones cs) (in_with_tel l earlier) (listed l) []
listed_lines cs l earlier = ([], [], refl, ([], [], refl, again_lines cs (in_with_tel l earlier) l 58 (λ d m. with_tel_rest earlier l d m), refl), refl)

-- the telephone program, with what follows its first two clauses

abbrev first_two : List PlacedTree
first_two = without_tel_at 7 ∷ with_tel_at 6 ∷ []

no_number : Takes names with_tel_tree (person [] [] empty) → ⊥
no_number h = with_tel_not (person [] [] empty) (λ s u v q e. cc) h

behind_first : (d : Document) → May (telephones no_clause) (in_without_tel 7 (with_tel_at 6 ∷ [])) (Variable (at_place 7 34) rest) d → Fits names persons d
behind_first d m =
    elim (without_tel_rest (with_tel_at 6 ∷ []) 7 d m) [ inl f ↦ f | inr k ↦ absurd ((k.5).2.0 (with_tel_takes k.0 k.1 k.2 k.3)) ]

with_tel_live : IsLiveIn (telephones no_clause) scope scrutinee [] (with_tel_at 6)
with_tel_live =
    (person [] [] (with_number [] empty), (person_proper (with_number [] empty) number_proper, numbered_fits [] [] [] empty fits_no_turn, tt), with_tel_takes [] [] [] empty)

without_tel_live : IsLiveIn (telephones no_clause) scope scrutinee (with_tel_at 6 ∷ []) (without_tel_at 7)
without_tel_live = (person [] [] empty, (person_proper empty refl, person_fits [] [] empty fits_no_turn, (no_number, tt)), without_tel_takes [] [] empty)

first_two_lines : (cs tail : Clauses) (ls : List Line) → LinesOfClauses size (telephones cs) scope (at_place 5 3) scrutinee first_two tail ls →
    LinesOfClauses size (telephones cs) scope (at_place 5 3) scrutinee [] (with_tel 6 (without_tel 7 tail)) ls
first_two_lines cs tail ls h = (
  [],
  ls,
  inl (with_tel_live, listed_lines cs 6 []),
  (
    [],
    ls,
    inl (without_tel_live, again_lines cs (in_without_tel 7 (with_tel_at 6 ∷ [])) 7 29 behind_first),
    h,
    refl,
  ),
  refl,
)

-- what comes after them is empty
only_empty_comes : (d : Document) → Arrives names Persons first_two d → d ≡ empty
only_empty_comes d c =
    elim (persons_shape d c.1)
    [ inl e ↦ e | inr h ↦ absurd ((c.2).0 (subst (Takes names without_tel_tree) (sym h.3) (without_tel_takes h.0 h.1 h.2))) ]

empty_comes : Arrives names Persons first_two empty
empty_comes = (refl, fits_no_turn, (without_tel_not_empty, (with_tel_not_empty, tt)))

empty_taken : Takes names Empty empty
empty_taken = fits_takes names names_guarded Empty empty fits_empty

listed_result : (cs : Clauses) (l : ℕ) (earlier : List PlacedTree) (d : Document) → May (telephones cs) (in_with_tel l earlier) (listed l) d → Fits names (unplaced listed_at) d
listed_result cs l earlier d m =
    let a = with_tel_n earlier l m.0 m.3 in
    let b = with_tel_t earlier l (m.4).0 (m.4).3 in
    listed_fits m.0 (m.4).0 (m.4).1 d m.1 a.0 b.0 a.1 b.1 (m.4).4 (m.4).2 m.2

-- Without its last clause: it has one fault, and that carries the empty document.

without_last_fits : (d : Document) → is_proper d ≡ true → Misfits (telephones without_last) scope (Matched (at_place 5 3) scrutinee without_last) listed_at d → ⊥
without_last_fits d p m =
    m.1 (elim m.0 [ inl a ↦ listed_result without_last 6 [] d a.1 | inr (inl b) ↦ b.1 | inr (inr c) ↦ absurd c ])

without_last_lines : AreLines (telephones without_last) (fault_line (at_place 5 3) not_exhaustive empty ∷ [])
without_last_lines = record {
  found = fault_line (at_place 5 3) not_exhaustive empty ∷ [];
  all = (
    fault_line (at_place 5 3) not_exhaustive empty ∷ [],
    [],
    (
      fault_line (at_place 5 3) not_exhaustive empty ∷ [],
      [],
      (
        [],
        fault_line (at_place 5 3) not_exhaustive empty ∷ [],
        refl,
        first_two_lines without_last no_clause (fault_line (at_place 5 3) not_exhaustive empty ∷ []) (inl (empty, empty_least _ empty_comes, refl)),
        refl,
      ),
      inr (without_last_fits, refl),
      refl,
    ),
    refl,
    refl,
  );
  ordered = refl;
}

-- The whole program has no fault and no warning.

end_lines : (cs : Clauses) → LinesOfClauses size (telephones cs) scope (at_place 5 3) scrutinee first_two at_end []
end_lines cs = (
  [],
  [],
  inl ((empty, empty_comes, empty_taken), refl),
  inr ((λ d p c. (c.2).0 (subst (Takes names Empty) (sym (only_empty_comes d (c.0, c.1, (c.2).1))) empty_taken)), refl),
  refl,
)

whole_fits : (d : Document) → is_proper d ≡ true → Misfits (telephones all_clauses) scope (Matched (at_place 5 3) scrutinee all_clauses) listed_at d → ⊥
whole_fits d p m =
    m.1 (elim m.0 [
      | inl a ↦ listed_result all_clauses 6 [] d a.1
      | inr (inl b) ↦ b.1
      | inr (inr (inl c)) ↦ subst (Fits names (unplaced listed_at)) (sym c.1) fits_no_turn
      | inr (inr (inr c)) ↦ absurd c
    ])

whole_lines : AreLines (telephones all_clauses) []
whole_lines = record {
  found = [];
  all = ([], [], ([], [], ([], [], refl, first_two_lines all_clauses at_end [] (end_lines all_clauses), refl), inr (whole_fits, refl), refl), refl, refl);
  ordered = refl;
}

whole_accepted : IsAccepted (telephones all_clauses)
whole_accepted = ([], whole_lines, refl)

-- With its first two clauses exchanged: a fault that carries a telephone number, and a warning.

abbrev exchanged_two : List PlacedTree
exchanged_two = with_tel_at 7 ∷ without_tel_at 6 ∷ []

abbrev number_line : Line
number_line = fault_line (at_place 6 34) wrong_argument (with_number [] empty)

abbrev dead_line : Line
dead_line = warning_line (at_place 7 5)

number_misfits : Misfits (telephones exchanged) (in_without_tel 6 []) (Variable (at_place 6 34) rest) persons_at (with_number [] empty)
number_misfits = (bound (without_tel_takes [] [] (with_number [] empty)), no_number_first [] empty)
  where
    bound : Takes names without_tel_tree (person [] [] (with_number [] empty)) → MayBind names Persons [] (without_tel_at 6) rest (with_number [] empty)
    bound h =
        let w = without_tel_whole (person [] [] (with_number [] empty)) h.0 h.1 in
        let q : w.2 ≡ with_number [] empty = cc in (
          person [] [] (with_number [] empty),
          h.0,
          (person_proper (with_number [] empty) number_proper, numbered_fits [] [] [] empty fits_no_turn, tt),
          h.1,
          subst (IsOneOf (bind rest (with_number [] empty))) (sym w.4) (inl (ap (bind rest) q)),
        )

-- each document that the fault may carry begins with a telephone number
misfit_begins : (d : Document) → Misfits (telephones exchanged) (in_without_tel 6 []) (Variable (at_place 6 34) rest) persons_at d →
    (v : List ℕ) × (r : Document) × (d ≡ with_number v r)
misfit_begins d m = elim (without_tel_rest [] 6 d m.0) [ inl f ↦ absurd (m.1 f) | inr k ↦ (k.2, k.3, k.4) ]

-- so no such document is smaller than a telephone number, and one that is no larger is a telephone
-- number alone
number_least : IsLeast (IsProperWith (Misfits (telephones exchanged) (in_without_tel 6 []) (Variable (at_place 6 34) rest) persons_at)) (with_number [] empty)
number_least = record {
  within = record { proper = number_proper; meets = number_misfits };
  least = λ e among. let b = misfit_begins e among.meets in subst (λ d. size (with_number [] empty) ≤ size d) (sym b.2) (smallest (size b.1));
}
  where
    smallest : (k : ℕ) → 2 ≤ 1 + k + 1
    smallest k = omega arith

no_item : (d : Document) → size d ≤ 0 → d ≡ empty
no_item empty le = refl
no_item (text s r) le = absurd (none (size r) le)
  where
    none : (k : ℕ) → k + 1 ≤ 0 → ⊥
    none k le = omega arith
no_item (element l c r) le = absurd (none (size c) (size r) le)
  where
    none : (j k : ℕ) → j + k + 1 ≤ 0 → ⊥
    none j k le = omega arith

number_alone : (v : List ℕ) (r : Document) → size (with_number v r) ≤ size (with_number [] empty) → r ≡ empty
number_alone v r le = no_item r (left (size r) le)
  where
    left : (k : ℕ) → 1 + k + 1 ≤ 2 → k ≤ 0
    left k le = omega arith

never_reached : IsLiveIn (telephones exchanged) scope scrutinee (without_tel_at 6 ∷ []) (with_tel_at 7) → ⊥
never_reached l =
    let w = with_tel_whole l.0 (l.2).0 (l.2).1 in
    ((l.1).2).0 (subst (Takes names without_tel_tree) (sym w.4) (without_tel_takes w.0 w.1 (with_number w.2 w.3)))

without_tel_first : IsLiveIn (telephones exchanged) scope scrutinee [] (without_tel_at 6)
without_tel_first = (person [] [] empty, (person_proper empty refl, person_fits [] [] empty fits_no_turn, tt), without_tel_takes [] [] empty)

end_live : IsLiveIn (telephones exchanged) scope scrutinee exchanged_two (Empty_at (at_place 8 5))
end_live = (empty, (refl, fits_no_turn, (with_tel_not_empty, (without_tel_not_empty, tt))), empty_taken)

exchanged_empty : (d : Document) → Arrives names Persons exchanged_two d → d ≡ empty
exchanged_empty d c =
    elim (persons_shape d c.1)
    [ inl e ↦ e | inr h ↦ absurd (((c.2).1).0 (subst (Takes names without_tel_tree) (sym h.3) (without_tel_takes h.0 h.1 h.2))) ]

exchanged_fits : (d : Document) → is_proper d ≡ true → Misfits (telephones exchanged) scope (Matched (at_place 5 3) scrutinee exchanged) listed_at d → ⊥
exchanged_fits d p m =
    m.1 (elim m.0 [
      | inl b ↦ b.1
      | inr (inl a) ↦ absurd (never_reached a.0)
      | inr (inr (inl c)) ↦ subst (Fits names (unplaced listed_at)) (sym c.1) fits_no_turn
      | inr (inr (inr c)) ↦ absurd c
    ])

exchanged_lines : AreLines (telephones exchanged) (number_line ∷ dead_line ∷ [])
exchanged_lines = record {
  found = number_line ∷ dead_line ∷ [];
  all = (
    number_line ∷ dead_line ∷ [],
    [],
    (
      number_line ∷ dead_line ∷ [],
      [],
      (
        [],
        number_line ∷ dead_line ∷ [],
        refl,
        (
          number_line ∷ [],
          dead_line ∷ [],
          inl (
            without_tel_first,
            ([], number_line ∷ [], refl, (number_line ∷ [], [], inl (with_number [] empty, number_least, refl), refl, refl), refl),
          ),
          (
            dead_line ∷ [],
            [],
            inr (never_reached, refl),
            (
              [],
              [],
              inl (end_live, refl),
              inr ((λ d p c. (c.2).0 (subst (Takes names Empty) (sym (exchanged_empty d (c.0, c.1, (c.2).1))) empty_taken)), refl),
              refl,
            ),
            refl,
          ),
          refl,
        ),
        refl,
      ),
      inr (exchanged_fits, refl),
      refl,
    ),
    refl,
    refl,
  );
  ordered = refl;
}

-- No other lists of lines.

abbrev other_than : Clauses → List Line → Type 0
other_than cs ls = (ms : List Line) × LinesOfClauses size (telephones cs) scope (at_place 5 3) scrutinee [] cs ms × (ls ≡ lines_in_order ms)

without_last_only : (ls : List Line) → AreLines (telephones without_last) ls → ls ≡ fault_line (at_place 5 3) not_exhaustive empty ∷ []
without_last_only ls a =
    let m : other_than without_last ls =
    match_alone (telephones without_last) (main_with without_last) (at_place 5 3) scrutinee without_last refl refl refl without_last_fits ls a in
    let k = clause_alone (telephones without_last) scope (at_place 5 3) scrutinee [] (with_tel_at 6) (listed 6) (without_tel 7 no_clause) m.0
    with_tel_live (listed_lines without_last 6 []) m.1 in
    let h = clause_alone (telephones without_last) scope (at_place 5 3) scrutinee (with_tel_at 6 ∷ []) (without_tel_at 7) (again 7 29) no_clause m.0
    without_tel_live (again_lines without_last (in_without_tel 7 (with_tel_at 6 ∷ [])) 7 29 behind_first) k in
    m.2 ∙ ap lines_in_order (the_line m.0 h)
  where
    the_line : (ms : List Line) → LineWhere size (at_place 5 3) not_exhaustive (Arrives names Persons first_two) ms → ms ≡ fault_line (at_place 5 3) not_exhaustive empty ∷ []
    the_line ms (inl h) = h.2 ∙ ap (λ d. fault_line (at_place 5 3) not_exhaustive d ∷ []) (only_empty_comes h.0 ((h.1).within).meets)
    the_line ms (inr h) = absurd (h.0 empty refl empty_comes)

-- the lines of `main(rest)` in the first clause
number_lines : (ls : List Line) → LinesOf size (telephones exchanged) (in_without_tel 6 []) (again 6 29) ls →
    (v : List ℕ) × (ls ≡ fault_line (at_place 6 34) wrong_argument (with_number v empty) ∷ [])
number_lines ls m = the_line ((m.3).0) (m.3).2 (rest_alone ls m.0 m.1 m.4 m.2 ∙ first_alone m.1 (m.3).0 (m.3).1 (m.3).4 (m.3).3)
  where
    the_line : (ms : List Line) → LineWhere size (at_place 6 34) wrong_argument (Misfits (telephones exchanged) (in_without_tel 6 []) (Variable (at_place 6 34) rest) persons_at) ms →
        ls ≡ ms → (v : List ℕ) × (ls ≡ fault_line (at_place 6 34) wrong_argument (with_number v empty) ∷ [])
    the_line ms (inl h) e =
        let b = misfit_begins h.0 ((h.1).within).meets in
        let none = number_alone b.0 b.1 (subst (λ d. size d ≤ size (with_number [] empty)) b.2 ((h.1).least (with_number [] empty) number_least.within)) in
        (b.0, e ∙ h.2 ∙ ap (λ d. fault_line (at_place 6 34) wrong_argument d ∷ []) (b.2 ∙ ap (with_number b.0) none))
    the_line ms (inr h) e = absurd (h.0 (with_number [] empty) number_proper number_misfits)

exchanged_end : (ls : List Line) → LinesOfClauses size (telephones exchanged) scope (at_place 5 3) scrutinee exchanged_two at_end ls → ls ≡ []
exchanged_end ls m =
    no_such_line (at_place 5 3) not_exhaustive (Arrives names Persons (Empty_at (at_place 8 5) ∷ exchanged_two)) ls
    (λ d p c. (c.2).0 (subst (Takes names Empty) (sym (exchanged_empty d (c.0, c.1, (c.2).1))) empty_taken))
    (clause_alone (telephones exchanged) scope (at_place 5 3) scrutinee exchanged_two (Empty_at (at_place 8 5)) (Nothing (at_place 8 11)) no_clause ls end_live refl m)

exchanged_two_lines : (ls : List Line) → LinesOfClauses size (telephones exchanged) scope (at_place 5 3) scrutinee [] exchanged ls →
    (v : List ℕ) × (ls ≡ fault_line (at_place 6 34) wrong_argument (with_number v empty) ∷ dead_line ∷ [])
exchanged_two_lines ls m = go (first_lines m.2)
  where
    first_lines : (IsLiveIn (telephones exchanged) scope scrutinee [] (without_tel_at 6) × LinesOf size (telephones exchanged) (in_without_tel 6 []) (again 6 29) m.0)
        ⊎ ((IsLiveIn (telephones exchanged) scope scrutinee [] (without_tel_at 6) → ⊥) × (m.0 ≡ warning_line (at_place 6 5) ∷ [])) →
        (v : List ℕ) × (m.0 ≡ fault_line (at_place 6 34) wrong_argument (with_number v empty) ∷ [])
    first_lines (inl l) = number_lines m.0 l.1
    first_lines (inr l) = absurd (l.0 without_tel_first)

    second_lines : LinesOfClauses size (telephones exchanged) scope (at_place 5 3) scrutinee (without_tel_at 6 ∷ []) (with_tel 7 at_end) m.1 → m.1 ≡ dead_line ∷ []
    second_lines k =
        first_alone m.1 k.0 k.1 k.4 (exchanged_end k.1 k.3) ∙ elim k.2 [ inl l ↦ absurd (never_reached l.0) | inr l ↦ l.1 ]

    go : (v : List ℕ) × (m.0 ≡ fault_line (at_place 6 34) wrong_argument (with_number v empty) ∷ []) →
        (v : List ℕ) × (ls ≡ fault_line (at_place 6 34) wrong_argument (with_number v empty) ∷ dead_line ∷ [])
    go f = (f.0, m.4 ∙ ap (λ z. z ++ m.1) f.1 ∙ ap (λ z. fault_line (at_place 6 34) wrong_argument (with_number f.0 empty) ∷ z) (second_lines m.3))

exchanged_only : (ls : List Line) → AreLines (telephones exchanged) ls → IsNumberThenDead ls
exchanged_only ls a =
    let m : other_than exchanged ls = match_alone (telephones exchanged) (main_with exchanged) (at_place 5 3) scrutinee exchanged refl refl refl exchanged_fits ls a in
    let r = exchanged_two_lines m.0 m.1 in
    (r.0, m.2 ∙ ap lines_in_order r.1)

pub whole_has_lines : HasLines (telephones all_clauses) (λ ls. ls ≡ [])
whole_has_lines = record { lines = []; are_lines = whole_lines; only = λ ls a. no_lines (telephones all_clauses) whole_lines ls a }

pub without_last_has_lines : HasLines (telephones without_last) (λ ls. ls ≡ fault_line (at_place 5 3) not_exhaustive empty ∷ [])
without_last_has_lines = record { lines = fault_line (at_place 5 3) not_exhaustive empty ∷ []; are_lines = without_last_lines; only = without_last_only }

pub exchanged_has_lines : HasLines (telephones exchanged) IsNumberThenDead
exchanged_has_lines = record { lines = number_line ∷ dead_line ∷ []; are_lines = exchanged_lines; only = exchanged_only }
