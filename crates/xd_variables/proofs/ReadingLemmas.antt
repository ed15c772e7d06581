-- What a reading gives depends on the documents that come to the clause alone, and is nothing where
-- none does.
use Rattle.std.proofs.Common.{◌≡◌, ◌↔◌, ℕ, Bool, true, false, arith, List, [], ◌∷◌, ◌++◌, map, length, refl, ap, sym, subst, ◌∙◌, append-nil, append_assoc}
use Rattle.std.specs.List.{All, AllZip}
use Rattle.std.proofs.lemmas.List.Elements.{All-head, All-tail}
use Rattle.xd_base.specs.declared.Place.{Place}
use Rattle.xd_doc.specs.Document.{Document}
use Rattle.xd_auto.specs.Automaton.{Automaton, accepts}
use Rattle.xd_syntax.specs.Tree.{Definitions, Tree}
use Rattle.xd_syntax.specs.Expression.{Expression}
use Rattle.xd_syntax.specs.Matches.{first_spots, variable_spots}
use Rattle.xd_syntax.specs.NameFaults.{Spot}
use Rattle.xd_syntax.specs.May.{IsLive, May, Scope}
use Rattle.xd_syntax.specs.Patterns.{pattern_tree}
use Rattle.xd_syntax.specs.Placed.{PlacedTree, unplaced}
use Rattle.xd_syntax.specs.Program.{ProgramTree, names_of}
use Rattle.xd_syntax.specs.Table.{Row}
use Rattle.xd_syntax.specs.declared.patterns.PatternId.{PatternId}
use Rattle.xd_syntax.proofs.PlacedTrees.{unplaced_at}
use Rattle.xd_bind.specs.declared.tracks.Given.{Given}
use Rattle.xd_clauses.specs.Cases.{placed_pattern}
use Rattle.xd_clauses.specs.Clauses.{AreGivensOf, IsGivenOf}
use Rattle.xd_clauses.specs.Compiled.{IsNumbered}
use Rattle.xd_clauses.specs.declared.compiled.CompiledPatterns.{CompiledPatterns}
use Rattle.xd_check.specs.Walked.{ComesTo}
use Rattle.xd_check_steps.specs.States.{Grows}
use Rattle.xd_check.proofs.ClauseLemmas.{bind_from, bind_to, live_from, live_to}
use Rattle.xd_check.proofs.IsReadyLemmas.{serves_kept}
use Rattle.xd_prefer.proofs.PrefersLemmas.{nothing_preferred, prefers_same}
use Rattle.xd_variables.specs.Binders.{place_of_spot}
use Rattle.xd_variables.specs.Bound.{IsBound, reading_of}
use Rattle.xd_variables.specs.Read.{AddsVariables, IsClauseRead, IsReader, TellsLive, placed_givens}
use Rattle.xd_variables.specs.Seen.{Reading, SeenVariable, variable_at}
use Rattle.xd_variables.specs.declared.reader.Reader.{Reader}
use Rattle.xd_variables.specs.declared.variables.BoundVariable.{BoundVariable}
use Rattle.xd_variables.specs.declared.variables.Ways.{Ways}
use Rattle.xd_variables.specs.declared.variables.Ways.TheVariants.{First, Whole}
use Rattle.xd_variables.proofs.BinderLemmas.{first_words, words_of}

-- what clauses are read with, while the automaton grows
pub reader_kept : (r : Reader) (a b : Automaton) → Grows a b → IsReader r a → IsReader r b
reader_kept r a b g h = record { serves = h.serves; patterns = h.patterns; points = serves_kept a b r.patterns g.extends h.points }

-- ---- what a reading gives

pub gives_same : (w : Ways) (P : ProgramTree) (S : Scope) (e : Expression) (earlier : List PlacedTree) (C : Document → Type 0) (Q : PlacedTree) → ComesTo P S e earlier Q C → (x : List ℕ) (d : Document) →
    reading_of w (names_of P) C [] Q x d ↔ reading_of w (names_of P) (May P S e) earlier Q x d
gives_same Whole P S e earlier C Q comes x d = (bind_from P S e earlier C Q comes x d, bind_to P S e earlier C Q comes x d)
gives_same First P S e earlier C Q comes x d = prefers_same (names_of P) (May P S e) C earlier Q comes x d

pub gives_nothing : (w : Ways) (E : Definitions) (A : Document → Type 0) (P : PlacedTree) → (IsLive E A [] P → ⊥) → (x : List ℕ) (d : Document) → reading_of w E A [] P x d → ⊥
gives_nothing Whole E A P dead x d m = dead (m.0, m.2, (m.1, m.3))
gives_nothing First E A P dead x d m = nothing_preferred E A P dead x d m

-- ---- the pattern of an id

-- the pattern of a number is that of its tree as it is placed
pub placed : (E : Definitions) (rows : List Row) (id : PatternId) (m : CompiledPatterns) (n : ℕ) → IsNumbered E (pattern_tree rows id) m n → IsNumbered E (unplaced (placed_pattern rows id)) m n
placed E rows id m n made = subst (λ (T : Tree). IsNumbered E T m n) (sym (unplaced_at rows id.at)) made

-- ---- variables of one clause

module _ (B : Reading) (P : ProgramTree) (S : Scope) (e : Expression) (earlier : List PlacedTree) (Q : PlacedTree) (C : Document → Type 0) (a : Automaton)
    (same : (x : List ℕ) (d : Document) → B (names_of P) C [] Q x d ↔ B (names_of P) (May P S e) earlier Q x d) where
  one_bound : (o : Spot) (g : Given) → g.variable ≡ o.word → IsGivenOf (B (names_of P) C [] Q) a g →
      IsBound B P a (variable_at S e earlier Q o) (record { place = o.place; word = g.variable; state = g.state })
  one_bound o g w h = record {
    place = refl;
    word = w;
    belongs = h.belongs;
    exact = λ d p. subst (λ x. (accepts a d g.state ≡ true) ↔ B (names_of P) (May P S e) earlier Q x d) w
        (λ m. (same g.variable d).0 ((h.exact d p).0 m), λ m. (h.exact d p).1 ((same g.variable d).1 m));
  }

  pub clause_bound : (os : List Spot) (gs : List Given) → map (λ (g : Given). g.variable) gs ≡ words_of os → All (IsGivenOf (B (names_of P) C [] Q) a) gs →
      AllZip (IsBound B P a) (map (variable_at S e earlier Q) os) (placed_givens (map place_of_spot os) gs)
  clause_bound [] [] w h = tt
  clause_bound [] (g ∷ gs) w h = absurd (let e : g.variable ∷ map (λ (k : Given). k.variable) gs ≡ [] = w in cc)
  clause_bound (o ∷ os) [] w h = absurd (let e : [] ≡ o.word ∷ words_of os = w in cc)
  clause_bound (o ∷ os) (g ∷ gs) w h =
      let both : g.variable ∷ map (λ (k : Given). k.variable) gs ≡ o.word ∷ words_of os = w in
      let first : g.variable ≡ o.word = cc in
      let rest : map (λ (k : Given). k.variable) gs ≡ words_of os = cc in
      (one_bound o g first (All-head (IsGivenOf (B (names_of P) C [] Q) a) g gs h), clause_bound os gs rest (All-tail (IsGivenOf (B (names_of P) C [] Q) a) g gs h))

-- ---- lists of variables

module _ (B : Reading) (P : ProgramTree) where
  bound_kept : (a b : Automaton) → Grows a b → (vs : List SeenVariable) (xs : List BoundVariable) → AllZip (IsBound B P a) vs xs → AllZip (IsBound B P b) vs xs
  bound_kept a b g [] [] h = tt
  bound_kept a b g [] (x ∷ xs) h = absurd h
  bound_kept a b g (v ∷ vs) [] h = absurd h
  bound_kept a b g (v ∷ vs) (x ∷ xs) h = (
    record {
      place = (h.0).place;
      word = (h.0).word;
      belongs = (g.extends).states x.state (h.0).belongs;
      exact = λ d p.
          (let e : accepts b d x.state ≡ accepts a d x.state = g.keeps d x.state (h.0).belongs in
          let i = (h.0).exact d p in
          (λ m. i.0 (sym e ∙ m), λ m. e ∙ i.1 m));
    },
    bound_kept a b g vs xs h.1,
  )

  bound_joined : (a : Automaton) (vs ws : List SeenVariable) (xs ys : List BoundVariable) → AllZip (IsBound B P a) vs xs → AllZip (IsBound B P a) ws ys → AllZip (IsBound B P a) (vs ++ ws) (xs ++ ys)
  bound_joined a [] ws [] ys h k = k
  bound_joined a [] ws (x ∷ xs) ys h k = absurd h
  bound_joined a (v ∷ vs) ws [] ys h k = absurd h
  bound_joined a (v ∷ vs) ws (x ∷ xs) ys h k = (h.0, bound_joined a vs ws xs ys h.1 k)

  pub adds_none : (a : Automaton) (xs : List BoundVariable) → AddsVariables B P a [] xs xs
  adds_none a xs = record { more = []; grown = sym (append-nil xs); each = tt }

  -- the variables of one part, and then those of another
  pub adds_both : (a b : Automaton) → Grows a b → (vs ws : List SeenVariable) (old mid new : List BoundVariable) → AddsVariables B P a vs old mid → AddsVariables B P b ws mid new → AddsVariables B P b (vs ++ ws) old new
  adds_both a b g vs ws old mid new h k = record {
    more = h.more ++ k.more;
    grown = k.grown ∙ ap (λ xs. xs ++ k.more) h.grown ∙ append_assoc old h.more k.more;
    each = bound_joined b vs ws h.more k.more (bound_kept a b g vs h.more h.each) k.each;
  }

-- ---- one clause

-- the places of the first occurrences are as many as the variables
pub as_many : (place : Spot → Place) (os : List Spot) (gs : List Given) → map (λ (g : Given). g.variable) gs ≡ words_of os → length (map place os) ≡ length gs
as_many place [] [] w = refl
as_many place [] (g ∷ gs) w = absurd (let e : g.variable ∷ map (λ (k : Given). k.variable) gs ≡ [] = w in cc)
as_many place (o ∷ os) [] w = absurd (let e : [] ≡ o.word ∷ words_of os = w in cc)
as_many place (o ∷ os) (g ∷ gs) w =
    let both : g.variable ∷ map (λ (k : Given). k.variable) gs ≡ o.word ∷ words_of os = w in
    let rest : map (λ (k : Given). k.variable) gs ≡ words_of os = cc in
    let n = as_many place os gs rest in omega arith

tells_live : (P : ProgramTree) (S : Scope) (e : Expression) (earlier : List PlacedTree) (C : Document → Type 0) (Q : PlacedTree) → ComesTo P S e earlier Q C → (live : Bool) → ((live ≡ true) ↔ IsLive (names_of P) C [] Q) → TellsLive P S e earlier Q live
tells_live P S e earlier C Q comes true h = live_from P S e earlier C Q comes (h.0 refl)
tells_live P S e earlier C Q comes false h = λ l. absurd (let t : false ≡ true = h.1 (live_to P S e earlier C Q comes l) in cc)

pub clause_read : (w : Ways) (P : ProgramTree) (S : Scope) (e : Expression) (earlier : List PlacedTree) (C : Document → Type 0) (Q : PlacedTree) → ComesTo P S e earlier Q C → (a : Automaton) (qs : List Place) (gs : List Given) (old new : List BoundVariable) (live : Bool) →
    qs ≡ map place_of_spot (first_spots (variable_spots Q)) → AreGivensOf (reading_of w (names_of P) C [] Q) Q a gs → new ≡ old ++ placed_givens qs gs → ((live ≡ true) ↔ IsLive (names_of P) C [] Q) →
    IsClauseRead (reading_of w) P S e earlier Q a old new live
clause_read w P S e earlier C Q comes a qs gs old new live places given grown tells =
    let os : List Spot = first_spots (variable_spots Q) in
    record {
      tells = tells_live P S e earlier C Q comes live tells;
      adds = record {
        more = placed_givens (map place_of_spot os) gs;
        grown = grown ∙ ap (λ ps. old ++ placed_givens ps gs) places;
        each = clause_bound (reading_of w) P S e earlier Q C a (λ x d. gives_same w P S e earlier C Q comes x d) os gs (given.variables ∙ sym (first_words Q)) given.each;
      };
    }
