-- What a program of such definitions shows.
use Rattle.std.proofs.Common.{◌≡◌, ◌↔◌, ℕ, suc, zero, ◌<◌, Bool, true, false, ◌||◌, List, [], ◌∷◌, ◌++◌, map, length, get_or, slice_get, Some, refl, ap, sym, ◌∙◌, subst, append_assoc, arith}
use Rattle.std.specs.List.{AllByRecursion}
use Rattle.std.specs.Str.{bytes_eq}
use Rattle.std.proofs.lemmas.Slice.Eq.{bytes_eq-Decides}
use Rattle.xd_doc.specs.Document.{Document, empty, text, element, is_proper}
use Rattle.xd_doc.proofs.Bools.{or_second}
use Rattle.xd_syntax.specs.Words.{any_word, has_word}
use Rattle.xd_syntax.specs.Tree.{Tree, Name, Definitions, environment, uses_only}
use Rattle.xd_syntax.specs.Table.{Row}
use Rattle.xd_syntax.specs.Types.{BelongsTo, tree}
use Rattle.xd_syntax.specs.Fits.{Fits}
use Rattle.xd_syntax.specs.Program.{ProgramTree, names_of}
use Rattle.xd_syntax.specs.ProperTables.{IsTable}
use Rattle.xd_syntax.specs.declared.types.TypeId.{TypeId}
use Rattle.xd_type_laws.specs.DefinitionsText.{type_definitions}
use Rattle.xd_same_types.specs.Grown.{NamesAmong}
use Rattle.xd_same_types.specs.Same.{Meaning, FitsAs, tops_only}
use Rattle.xd_shown.specs.Bodies.{AreBodies, AreMeant, ShowsMeanings, defining}
use Rattle.xd_shown.specs.FreeNames.{AreNewNames}
use Rattle.xd_shown.specs.Shown.{AreNamedFrom, IsShown, none_type}
use Rattle.xd_shown.proofs.DefiningLemmas.{pairs, pairs_are, names_are, firsts_are, each_pair, bodies_use}
use Rattle.xd_shown.proofs.Meanings.{IsMeant, fits_meaning}
use Rattle.xd_syntax.proofs.Words.{bytes_eq-turned}
use Rattle.xd_shown.proofs.Soundness.{sound, under_labels}

-- The same documents are shown where the same proper documents are in both sets.
pub same_set : {D C : Document → Type 0} {taken : List (List ℕ)} {P : ProgramTree} {start : List ℕ} → ((d : Document) → is_proper d ≡ true → D d ↔ C d) →
    IsShown D taken P start → IsShown C taken P start
same_set h s = record {
  exact = λ d p. (let e = s.exact d p in (λ f. (h d p).0 (e.0 f), λ c. e.1 ((h d p).1 c)));
  sound = s.sound;
  types_only = s.types_only;
  names = s.names;
  first = s.first;
  under_labels = s.under_labels;
  nothing = λ none. s.nothing (λ d p x. none d p ((h d p).0 x));
}

-- a list of one name
pub one_word : (words : List (List ℕ)) (w start : List ℕ) → length words ≡ 1 → w ≡ get_or words 0 w → start ≡ w → words ≡ start ∷ []
one_word [] w start l e s = absurd (omega arith)
one_word (v ∷ []) w start l e s = ap (λ x. x ∷ []) (sym e ∙ sym s)
one_word (v ∷ (u ∷ us)) w start l e s = absurd (omega arith)

pub first_is : (words : List (List ℕ)) (w start : List ℕ) → 0 < length words → w ≡ get_or words 0 w → start ≡ w → slice_get words 0 ≡ Some start
first_is [] w start l e s = absurd (omega arith)
first_is (v ∷ words) w start l e s = ap Some (sym e ∙ sym s)

first_word : (words : List (List ℕ)) (start : List ℕ) → slice_get words 0 ≡ Some start → has_word words start ≡ true
first_word [] start e = absurd (cc)
first_word (w ∷ words) start e =
    let q : w ≡ start = some_same e in ap (λ b. b || has_word words start) ((bytes_eq-Decides w start).1 q)
  where
    some_same : {A : Type 0} {x y : A} → Some x ≡ Some y → x ≡ y
    some_same e = cc

-- each definition is meant
each_meant : (N : Meaning) (known : List (List ℕ)) (types : List Row) (words : List (List ℕ)) (bodies : List TypeId) → length bodies ≡ length words →
    AllByRecursion (λ w. has_word known w ≡ true) words → AllByRecursion (λ b. uses_only known (tree types b) ≡ true) bodies →
    ((k : ℕ) (id : TypeId) → k < length words → id ≡ get_or bodies k id → (d : Document) → (N (get_or words k []) d ≡ true) ↔ FitsAs N (tree types id) d) →
    AllByRecursion (IsMeant N known) (pairs types words bodies)
each_meant N known types [] bodies e o u m = tt
each_meant N known types (w ∷ words) [] e o u m = tt
each_meant N known types (w ∷ words) (b ∷ bodies) e o u m =
    (record { own = o.0; uses = u.0; same = m 0 b (omega arith) refl }, each_meant N known types words bodies (omega arith) o.1 u.1 (λ k id l q. m (suc k) id (omega arith) q))

-- each of the words is one of them
all_own : (front words : List (List ℕ)) → AllByRecursion (λ w. has_word (front ++ words) w ≡ true) words
all_own front [] = tt
all_own front (w ∷ words) = (there front, subst (λ ws. AllByRecursion (λ v. has_word ws v ≡ true) words) (append_assoc front (w ∷ []) words) (all_own (front ++ w ∷ []) words))
  where
    there : (front : List (List ℕ)) → has_word (front ++ w ∷ words) w ≡ true
    there [] = ap (λ b. b || has_word words w) ((bytes_eq-Decides w w).1 refl)
    there (v ∷ front) = or_second (bytes_eq v w) (there front)

module _ (types : List Row) (words : List (List ℕ)) (bodies : List TypeId) (table : IsTable false types) (n : AreNewNames words) (b : AreBodies types words bodies) where
  abbrev pub P : ProgramTree
  P = defining types words bodies

  -- just what the first name means fits it
  exact_by : (N : Meaning) → AreMeant N types words bodies → (start : List ℕ) → slice_get words 0 ≡ Some start → (d : Document) → Fits (names_of P) (Name start) d ↔ (N start d ≡ true)
  exact_by N m start f d =
      let ds : Definitions = pairs types words bodies in
      let e : words ≡ map (λ (p : List ℕ × Tree). p.0) ds = sym (firsts_are types words bodies b.each) in
      let meant : AllByRecursion (IsMeant N (any_word ∷ words)) ds =
      each_meant N (any_word ∷ words) types words bodies b.each (all_own (any_word ∷ []) words) (bodies_use (any_word ∷ words) types table b.known bodies b.belong) m.each in
      subst (λ (E : Definitions). Fits (environment E) (Name start) d ↔ (N start d ≡ true)) (sym (pairs_are types words bodies))
      (fits_meaning N ds m.any (subst (λ ws. AllByRecursion (IsMeant N (any_word ∷ ws)) ds) e meant) (each_pair (λ T. tops_only (any_word ∷ []) T ≡ true) types words bodies b.guarded) start
      (subst (λ ws. has_word ws start ≡ true) e (first_word words start f)) d)

  shows : (D : Document → Type 0) (taken : List (List ℕ)) (start : List ℕ) → AreNamedFrom taken 1 words → slice_get words 0 ≡ Some start →
      ((d : Document) → is_proper d ≡ true → Fits (names_of P) (Name start) d ↔ D d) →
      (((d : Document) → is_proper d ≡ true → D d → ⊥) → type_definitions P ≡ (start, none_type start) ∷ []) → IsShown D taken P start
  shows D taken start order f exact none = record {
    exact = exact;
    sound = sound types words bodies table n b;
    types_only = refl;
    names = subst (AreNamedFrom taken 1) (sym (names_are types words bodies b.each)) order;
    first = ap (λ ws. slice_get ws 0) (names_are types words bodies b.each) ∙ f;
    under_labels = under_labels types words bodies table n b;
    nothing = none;
  }

  pub shows_meanings : (start : List ℕ) → slice_get words 0 ≡ Some start → ShowsMeanings types words bodies P start
  shows_meanings start f taken N order m some =
      shows (λ d. N start d ≡ true) taken start order f (λ d p. exact_by N m start f d) (λ none. absurd (none some.0 some.1 some.2))

-- ---- no document
-- the type of no document, where the table uses but this name
pub none_bodies : (types made : List Row) (w : List ℕ) (id : TypeId) → types ≡ made → tree made id ≡ none_type w → BelongsTo made id → NamesAmong (any_word ∷ (w ∷ [])) made →
    AreBodies types (w ∷ []) (id ∷ [])
none_bodies types made w id e t b n =
    subst (λ rows. AreBodies rows (w ∷ []) (id ∷ [])) (sym e)
    (record {
      some = omega arith;
      each = refl;
      belong = (b, tt);
      guarded = (subst (λ T. tops_only (any_word ∷ []) T ≡ true) (sym t) refl, tt);
      known = n;
    })

-- the name is among those that the table may use
pub own_known : (w : List ℕ) → has_word (any_word ∷ (w ∷ [])) w ≡ true
own_known w = or_second (bytes_eq any_word w) (ap (λ b. b || false) ((bytes_eq-Decides w w).1 refl))

module _ (types : List Row) (w : List ℕ) (id : TypeId) (table : IsTable false types) (n : AreNewNames (w ∷ [])) (b : AreBodies types (w ∷ []) (id ∷ [])) (t : tree types id ≡ none_type w) where
  -- `Any` is every document, and each other name none
  abbrev pub nothing_else : Meaning
  nothing_else x d = bytes_eq any_word x

  not_any : bytes_eq any_word w ≡ false
  not_any = go (bytes_eq w any_word) refl n.not_any
    where
      go : (a : Bool) → bytes_eq w any_word ≡ a → (a || false) ≡ false → bytes_eq any_word w ≡ false
      go true e k = absurd (cc)
      go false e k = bytes_eq-turned w any_word e

  none_fits : (d : Document) → FitsAs nothing_else (none_type w) d → ⊥
  none_fits empty f = f
  none_fits (text s r) f = f
  none_fits (element l c r) f = let e : true ≡ false = sym f.2 ∙ not_any in cc

  is_meant : AreMeant nothing_else types (w ∷ []) (id ∷ [])
  is_meant = record { any = λ d. refl; each = each }
    where
      each : (k : ℕ) (i : TypeId) → k < 1 → i ≡ get_or (id ∷ []) k i → (d : Document) → (nothing_else (get_or (w ∷ []) k []) d ≡ true) ↔ FitsAs nothing_else (tree types i) d
      each zero i l e d = (
        λ h. absurd (let q : true ≡ false = sym h ∙ not_any in cc),
        λ f. absurd (none_fits d (subst (λ T. FitsAs nothing_else T d) t (subst (λ j. FitsAs nothing_else (tree types j) d) e f))),
      )
      each (suc k) i l e d = absurd (omega arith)

  pub shows_nothing : (taken : List (List ℕ)) → AreNamedFrom taken 1 (w ∷ []) → IsShown (λ d. ⊥) taken (defining types (w ∷ []) (id ∷ [])) w
  shows_nothing taken order =
      shows types (w ∷ []) (id ∷ []) table n b (λ d. ⊥) taken w order refl
      (λ d p. (λ f. (let e : true ≡ false = sym ((exact_by types (w ∷ []) (id ∷ []) table n b nothing_else is_meant w refl d).0 f) ∙ not_any in cc), λ e. absurd e))
      (λ none. pairs_are types (w ∷ []) (id ∷ []) ∙ ap (λ T. (w, T) ∷ []) t)
