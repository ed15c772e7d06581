-- Moves that are added to a state.
use Rattle.std.proofs.Common.{◌≡◌, ℕ, ◌+◌, ◌<◌, ◌≤◌, ◌⊎◌, ◌↔◌, arith, true, List, [], ◌∷◌, ◌++◌, map, length, length-append, append_assoc, append-nil, Some, refl, ap, sym, subst, ◌∙◌, inl, inr}
use Rattle.std.specs.List.{AllByRecursion}
use Rattle.std.proofs.Math.ListN.{length-set}
use Rattle.xd_doc.specs.Classes.{LabelClass, TextClass}
use Rattle.xd_doc.proofs.Lists.{all_append}
use Rattle.xd_syntax.specs.Tree.{Tree}
use Rattle.xd_syntax.specs.Table.{Row, tree_at}
use Rattle.xd_meaning.specs.Heads.{pieces}
use Rattle.xd_syntax.specs.Placed.{unplaced}
use Rattle.xd_syntax.specs.Program.{TypeDefinition}
use Rattle.xd_syntax.specs.Kept.{type_definition}
use Rattle.xd_syntax.specs.TypeDepth.{depth}
use Rattle.xd_syntax.specs.ShallowTables.{IsShallow}
use Rattle.xd_syntax.specs.Shallow.{nesting_limit}
use Rattle.xd_syntax.proofs.PlacedTrees.{unplaced_at}
use Rattle.xd_continuations.specs.Depths.{NoneDeeper, IsNoDeeper}
use Rattle.xd_continuations.proofs.NoneDeeperLemmas.{moves_no_deeper}
use Rattle.xd_syntax.specs.declared.types.TypeDef.{TypeDef}
use Rattle.xd_auto.specs.Automaton.{accepts, Automaton, state_number, with_label_move, with_text_move}
use Rattle.xd_auto.specs.declared.auto.State.{State}
use Rattle.xd_auto.specs.declared.auto.LabelMove.{LabelMove}
use Rattle.xd_auto.specs.declared.auto.TextMove.{TextMove}
use Rattle.xd_rules.specs.Heads.{element_in, text_in}
use Rattle.xd_continuations.specs.Continuation.{Move, moves, IsMerged, AreMerged}
use Rattle.xd_sound.specs.TypeNames.{meanings}
use Rattle.xd_moves.specs.Found.{continuation, AddsCells, IsContent, AreMovesOf, IsFound, move_at}
use Rattle.xd_heads.specs.States.{AddsStates, StaysBounded, IsOfCell, number_at, nodes_in}
use Rattle.xd_heads.specs.Compiled.{numbered, continuations_of, GetsState, fresh_state, Spares, SparesOthers, IsOfState, AreCompiled, AddsMoves, AreAllCompiled}
use Rattle.xd_moves.specs.Cells.{Cell}
use Rattle.xd_moves.specs.declared.expansion.Found.{Found}
use Rattle.xd_doc.specs.Document.{Document}
use Rattle.xd_syntax.specs.Fits.{Fits}
use Rattle.xd_laws.specs.Guarded.{Guarded}
use Rattle.xd_continuations.proofs.AreMirroredLemmas.{mirrors_accept}
use Rattle.xd_continuations.proofs.MoveLemmas.{seq_of-pieces, IsMove, moves_continue}
use Rattle.xd_continuations.proofs.ChainLemmas.{kept_length, kept_same}
use Rattle.xd_continuations.proofs.IsBoundedLemmas.{bounded_pieces, bounded_start}
use Rattle.xd_continuations.specs.Bounds.{IsBounded}
use Rattle.xd_moves.proofs.PutsTasksLemmas.{adds_none, adds_then, continuation_kept}
use Rattle.xd_moves.proofs.WorkedTaskLemmas.{moves_kept}
use Rattle.xd_heads.proofs.SparesLemmas.{spares_none, spares_then}
use Rattle.xd_heads.proofs.StateLemmas.{states_none, states_then, number_within, number_front, nodes_below, none_larger_in}
use Rattle.xd_heads.proofs.AreMirroredLemmas.{compiled_cells, compiled_state, compiled_label, compiled_text, compiled_next, compiled_mirrors}

pub states_longer : (a b : List Cell) (old new : List ℕ) → AddsStates a b old new → length old ≤ length new
states_longer a b old new s = let e = ap length s.grown in omega (arith, length-append old s.more)

module _ (types : List Row) (ds : List TypeDef) where
  gets_states : (cells : List Cell) (old new : List ℕ) (a b : Automaton) (number : ℕ) (s : State) → number ≤ length cells → GetsState types ds cells old new a b number s → AddsStates cells cells old new
  gets_states cells old new a b number s h g = go g.added
    where
      go : ((new ≡ old) × (b ≡ a)) ⊎ ((new ≡ old ++ number ∷ []) × (b ≡ a ++ fresh_state types ds cells number ∷ [])) → AddsStates cells cells old new
      go (inl e) = record { more = []; grown = e.0 ∙ sym (append-nil old); numbers = λ n. subst (AllByRecursion (IsOfCell (length cells))) (sym e.0) n }
      go (inr e) =
          record {
            more = number ∷ [];
            grown = e.0;
            numbers = λ n. subst (AllByRecursion (IsOfCell (length cells))) (sym e.0) (all_append (IsOfCell (length cells)) old (number ∷ []) n (h, tt));
          }

  gets_keeps : (cells : List Cell) (old new : List ℕ) (a b : Automaton) (number : ℕ) (s : State) → GetsState types ds cells old new a b number s → (i v : ℕ) → number_at old i ≡ Some v → number_at new i ≡ Some v
  gets_keeps cells old new a b number s g i v e = go g.added
    where
      go : ((new ≡ old) × (b ≡ a)) ⊎ ((new ≡ old ++ number ∷ []) × (b ≡ a ++ fresh_state types ds cells number ∷ [])) → number_at new i ≡ Some v
      go (inl q) = ap (λ xs. number_at xs i) q.0 ∙ e
      go (inr q) = ap (λ xs. number_at xs i) q.0 ∙ number_front old (number ∷ []) i v e

  pub adds_moves_none : (cells : List Cell) (states : List ℕ) (auto : Automaton) (from : State) → length auto ≡ length states → AddsMoves types ds cells cells states states auto auto from []
  adds_moves_none cells states auto from h = record {
    cells_added = adds_none types cells;
    states_added = states_none cells cells (kept_same cells) states;
    aligned = h;
    bounded = λ tail stand b. b;
    compiled = λ a known c. subst (AreCompiled types ds cells states auto (state_number from)) (sym (append-nil known)) c;
  }

  pub adds_moves_then : (a b c : List Cell) (x y z : List ℕ) (p q r : Automaton) (from : State) (ms ns : List Move) → AddsMoves types ds a b x y p q from ms → AddsMoves types ds b c y z q r from ns →
      AddsMoves types ds a c x z p r from (ms ++ ns)
  adds_moves_then a b c x y z p q r from ms ns i j = record {
    cells_added = adds_then types a b c i.cells_added j.cells_added;
    states_added = states_then a b c x y z i.states_added j.states_added;
    aligned = j.aligned;
    bounded = λ tail stand o. j.bounded tail stand (i.bounded tail stand o);
    compiled = λ w known k.
        let s = split ms w in
        subst (AreCompiled types ds c z r (state_number from)) (append_assoc known ms ns) (j.compiled s.1 (known ++ ms) (i.compiled s.0 known k));
  }
    where
      split : (vs : List Move) → AllByRecursion (λ (m : Move). IsOfState types m.content × IsOfState types m.rest) (vs ++ ns) →
          AllByRecursion (λ (m : Move). IsOfState types m.content × IsOfState types m.rest) vs × AllByRecursion (λ (m : Move). IsOfState types m.content × IsOfState types m.rest) ns
      split [] w = (tt, w)
      split (v ∷ vs) w = let s = split vs w.1 in ((w.0, s.0), s.1)

  -- a move on an element
  pub label_added : (c0 c1 : List Cell) (st0 st1 st2 : List ℕ) (a0 a1 a2 a3 : Automaton) (from s1 s2 : State) (class copy : LabelClass) (i inside rest : ℕ) → i < length types → rest ≤ length c0 →
      state_number from < length st0 → IsContent types c0 c1 (pieces (tree_at types i)) inside → GetsState types ds c1 st0 st1 a0 a1 inside s1 → GetsState types ds c1 st1 st2 a1 a2 rest s2 →
      length a2 ≡ length st2 → copy ≡ class → a3 ≡ with_label_move a2 from (record { class = copy; content = s1; rest = s2 }) →
      AddsMoves types ds c0 c1 st0 st2 a0 a3 from (record { kind = element_in class; content = pieces (tree_at types i); rest = continuation types c0 rest } ∷ [])
  label_added c0 c1 st0 st1 st2 a0 a1 a2 a3 from s1 s2 class copy i inside rest h w f content g1 g2 al e q =
      let l : LabelMove = record { class = copy; content = s1; rest = s2 } in
      let v : Move = record { kind = element_in class; content = pieces (tree_at types i); rest = continuation types c0 rest } in
      let k = content.cells.kept in
      let n = kept_length c0 c1 k in
      let m : rest ≤ length c1 = omega arith in
      let t1 = gets_states c1 st0 st1 a0 a1 inside s1 content.within g1 in
      let t2 = gets_states c1 st1 st2 a1 a2 rest s2 m g2 in
      let o1 = states_longer c1 c1 st0 st1 t1 in
      let o2 = states_longer c1 c1 st1 st2 t2 in
      let x : continuations_of types c1 st2 s1 ≡ Some (pieces (tree_at types i)) =
      ap (numbered types c1) (gets_keeps c1 st1 st2 a1 a2 rest s2 g2 (state_number s1) inside g1.there) ∙ ap Some content.same in
      let y : continuations_of types c1 st2 s2 ≡ Some (continuation types c0 rest) =
      ap (numbered types c1) g2.there ∙ ap Some (continuation_kept types c0 c1 k rest w) in
      record {
        cells_added = content.cells;
        states_added = states_then c0 c1 c1 st0 st0 st2 (states_none c0 c1 k st0) (states_then c1 c1 c1 st0 st1 st2 t1 t2);
        aligned = ap length q ∙ length-set a2 (state_number from) _ ∙ al;
        bounded = λ tail stand b.
            content.bounded (meanings types ds) (nodes_in types) b
            (subst (IsBounded (meanings types ds) (nodes_in types)) (append-nil (pieces (tree_at types i)))
            (bounded_pieces (meanings types ds) (nodes_in types) (tree_at types i) [] (bounded_start (meanings types ds) (nodes_in types) (tree_at types i) (nodes_below types i h))));
        compiled = λ stand known c.
            let k1 = compiled_cells types ds c0 c1 st0 a0 (state_number from) known k c in
            let k2 = compiled_state types ds c1 st0 st1 a0 a1 (state_number from) known inside s1 content.within (subst (IsOfState types) (sym content.same) (stand.0).0) (omega arith) g1 k1 in
            let k3 = compiled_state types ds c1 st1 st2 a1 a2 (state_number from) known rest s2 m
            (subst (IsOfState types) (sym (continuation_kept types c0 c1 k rest w)) (stand.0).1) (omega arith) g2 k2 in
            subst (λ a. AreCompiled types ds c1 st2 a (state_number from) (known ++ v ∷ [])) (sym q)
            (compiled_label types ds c1 st2 a2 from known v l (omega arith) (ap element_in (sym e)) x y k3);
      }

  -- a move on a text
  pub text_added : (c0 : List Cell) (st0 st1 : List ℕ) (a0 a1 a2 : Automaton) (from s1 : State) (words : TextClass) (rest : ℕ) → rest ≤ length c0 → state_number from < length st0 →
      GetsState types ds c0 st0 st1 a0 a1 rest s1 → length a1 ≡ length st1 → a2 ≡ with_text_move a1 from (record { words = words; rest = s1 }) →
      AddsMoves types ds c0 c0 st0 st1 a0 a2 from (record { kind = text_in words; content = []; rest = continuation types c0 rest } ∷ [])
  text_added c0 st0 st1 a0 a1 a2 from s1 words rest w f g al q =
      let t : TextMove = record { words = words; rest = s1 } in
      let v : Move = record { kind = text_in words; content = []; rest = continuation types c0 rest } in
      let n = gets_states c0 st0 st1 a0 a1 rest s1 w g in
      let o = states_longer c0 c0 st0 st1 n in
      let y : continuations_of types c0 st1 s1 ≡ Some (continuation types c0 rest) = ap (numbered types c0) g.there in
      record {
        cells_added = adds_none types c0;
        states_added = n;
        aligned = ap length q ∙ length-set a1 (state_number from) _ ∙ al;
        bounded = λ tail stand b. b;
        compiled = λ stand known c.
            let k = compiled_state types ds c0 st0 st1 a0 a1 (state_number from) known rest s1 w (stand.0).1 (omega arith) g c in
            subst (λ a. AreCompiled types ds c0 st1 a (state_number from) (known ++ v ∷ [])) (sym q)
            (compiled_text types ds c0 st1 a1 from t known v (omega arith) refl y k);
      }

  -- ---- all moves of a continuation

  -- the first of the moves that were found are added
  pub record IsAdding (middle cells : List Cell) (before states : List ℕ) (old auto : Automaton) (from : State) (found : List Found) : Type 0 where
    pub adds : AddsMoves types ds middle cells before states old auto from (map (move_at types middle) found)
    pub longer : length before ≤ length states

  pub adding_none : (cells : List Cell) (states : List ℕ) (auto : Automaton) (from : State) → length auto ≡ length states → IsAdding cells cells states states auto auto from []
  adding_none cells states auto from h = record { adds = adds_moves_none cells states auto from h; longer = omega arith }

  map_last : {A B : Type 0} (f : A → B) (xs : List A) (x : A) → map f (xs ++ x ∷ []) ≡ map f xs ++ f x ∷ []
  map_last f [] x = refl
  map_last f (y ∷ ys) x = ap (λ zs. f y ∷ zs) (map_last f ys x)

  pub adding_more : (middle cells cells' : List Cell) (before states states' : List ℕ) (old auto auto' : Automaton) (from : State) (found : List Found) (f : Found) → IsFound types middle f →
      IsAdding middle cells before states old auto from found → AddsMoves types ds cells cells' states states' auto auto' from (move_at types cells f ∷ []) →
      IsAdding middle cells' before states' old auto' from (found ++ f ∷ [])
  adding_more middle cells cells' before states states' old auto auto' from found f w i a =
      let e : map (move_at types middle) (found ++ f ∷ []) ≡ map (move_at types middle) found ++ move_at types cells f ∷ [] =
      map_last (move_at types middle) found f
      ∙ ap (λ ms. map (move_at types middle) found ++ ms) (sym (moves_kept types middle cells i.adds.cells_added.kept (f ∷ []) (w, tt))) in
      let l = i.longer in
      let m = states_longer cells cells' states states' a.states_added in
      record {
        adds = subst (AddsMoves types ds middle cells' before states' old auto' from) (sym e)
            (adds_moves_then middle cells cells' before states states' old auto auto' from (map (move_at types middle) found) (move_at types cells f ∷ []) i.adds a);
        longer = omega arith;
      }

  pub moves_added : (old middle cells : List Cell) (before states : List ℕ) (a auto : Automaton) (from : State) (number : ℕ) (found : List Found) → number ≤ length old →
      AreMovesOf types ds old middle number found → IsAdding middle cells before states a auto from found → state_number from < length before →
      AddsMoves types ds old cells before states a auto from (moves (meanings types ds) (continuation types old number))
  moves_added old middle cells before states a auto from number found h m i f =
      let n = states_none old middle m.cells.kept before in
      record {
        cells_added = adds_then types old middle cells m.cells i.adds.cells_added;
        states_added = states_then old middle cells before before states n i.adds.states_added;
        aligned = i.adds.aligned;
        bounded = λ tail stand b. i.adds.bounded tail stand (m.bounded (nodes_in types) tail (none_larger_in types ds stand) b);
        compiled = λ w known c.
            subst (λ ms. AreCompiled types ds cells states auto (state_number from) (known ++ ms)) m.same
            (i.adds.compiled (subst (AllByRecursion (λ (v : Move). IsOfState types v.content × IsOfState types v.rest)) (sym m.same) w) known
            (compiled_cells types ds old middle before a (state_number from) known m.cells.kept c));
      }

  -- ---- the continuations of moves

  bodies_shallow : IsShallow types → (es : List TypeDef) → AllByRecursion (λ (d : TypeDef). d.body.at < length types) es →
      NoneDeeper nesting_limit (map (λ (t : TypeDefinition). (t.name, unplaced t.body)) (map (type_definition types) es))
  bodies_shallow s [] a = tt
  bodies_shallow s (d ∷ es) a = (subst (λ T. depth T ≤ nesting_limit) (sym (unplaced_at types d.body.at)) (s d.body.at a.0), bodies_shallow s es a.1)

  pub none_deeper : IsShallow types → AllByRecursion (λ (d : TypeDef). d.body.at < length types) ds → NoneDeeper nesting_limit (meanings types ds)
  none_deeper s a = (omega arith, bodies_shallow s ds a)

  both : (ms : List Move) → AllByRecursion IsMove ms → (IsShallow types → AllByRecursion (IsNoDeeper nesting_limit) ms) →
      AllByRecursion (λ (m : Move). IsOfState types m.content × IsOfState types m.rest) ms
  both [] a d = tt
  both (m ∷ ms) a d = ((((a.0).content, λ s. ((d s).0).0), ((a.0).rest, λ s. ((d s).0).1)), both ms a.1 (λ s. (d s).1))

  -- what a state's continuation leads to may be the continuation of a state
  moves_of_states : AreMerged (meanings types ds) → AllByRecursion (λ (d : TypeDef). d.body.at < length types) ds → (K : List Tree) → IsOfState types K →
      AllByRecursion (λ (m : Move). IsOfState types m.content × IsOfState types m.rest) (moves (meanings types ds) K)
  moves_of_states merged a K k =
      both (moves (meanings types ds) K) (moves_continue (meanings types ds) merged K k.0)
      (λ s. moves_no_deeper nesting_limit (omega arith) (meanings types ds) merged (none_deeper s a) K k.0 (k.1 s))

  -- ---- all states

  pub record IsCompiling (first cells : List Cell) (start states : List ℕ) (begin : ℕ) (old_auto auto : Automaton) (done : ℕ) : Type 0 where
    pub cells_added : AddsCells types first cells
    pub states_added : AddsStates first cells start states
    pub bounded : StaysBounded types ds first cells
    pub within : done ≤ length states
    pub later : begin ≤ done
    pub spares : Spares begin old_auto auto
    pub compiled : AreCompiled types ds cells states auto done []

  pub compiling_none : (cells : List Cell) (states : List ℕ) (auto : Automaton) (done : ℕ) → done ≤ length states → AreCompiled types ds cells states auto done [] →
      IsCompiling cells cells states states done auto auto done
  compiling_none cells states auto done h c = record {
    cells_added = adds_none types cells;
    states_added = states_none cells cells (kept_same cells) states;
    bounded = λ tail stand b. b;
    within = h;
    later = omega arith;
    spares = spares_none done auto;
    compiled = c;
  }

  pub compiling_more : (first cells cells' : List Cell) (start states states' : List ℕ) (begin : ℕ) (old_auto auto auto' : Automaton) (from : State) (done number : ℕ) → AreMerged (meanings types ds) → AllByRecursion (λ (d : TypeDef). d.body.at < length types) ds →
      state_number from ≡ done → number_at states done ≡ Some number →
      IsCompiling first cells start states begin old_auto auto done → AddsMoves types ds cells cells' states states' auto auto' from (moves (meanings types ds) (continuation types cells number)) →
      SparesOthers from auto auto' → number ≤ length cells → IsCompiling first cells' start states' begin old_auto auto' (done + 1)
  compiling_more first cells cells' start states states' begin old_auto auto auto' from done number merged stand f e i a o n =
      let E = meanings types ds in
      let l = states_longer cells cells' states states' a.states_added in
      let h = number_within states done number e in
      let al = i.compiled.aligned in
      let b = i.later in
      let k : IsOfState types (continuation types cells number) = i.compiled.continuations done number e in
      let w = moves_of_states merged stand (continuation types cells number) k in
      let c0 : AreCompiled types ds cells states auto (state_number from) [] = subst (λ d. AreCompiled types ds cells states auto d []) (sym f) i.compiled in
      let c1 : AreCompiled types ds cells' states' auto' done (moves E (continuation types cells number)) =
      subst (λ d. AreCompiled types ds cells' states' auto' d (moves E (continuation types cells number))) f (a.compiled w [] c0) in
      let s : number_at states' done ≡ Some number = ap (λ xs. number_at xs done) a.states_added.grown ∙ number_front states a.states_added.more done number e in
      let q : continuation types cells' number ≡ continuation types cells number = continuation_kept types cells cells' a.cells_added.kept number n in
      record {
        cells_added = adds_then types first cells cells' i.cells_added a.cells_added;
        states_added = states_then first cells cells' start states states' i.states_added a.states_added;
        bounded = λ tail stand b. a.bounded tail stand (i.bounded tail stand b);
        within = omega arith;
        later = omega arith;
        spares = spares_then begin from old_auto auto auto' (omega arith) (omega arith) i.spares o;
        compiled = compiled_next types ds cells' states' auto' done number s
            (subst (λ K. AreCompiled types ds cells' states' auto' done (moves E K)) (sym q) c1);
      }

  pub all_compiled : (first cells : List Cell) (start states : List ℕ) (begin : ℕ) (old_auto auto : Automaton) (done : ℕ) → length states ≤ done → IsCompiling first cells start states begin old_auto auto done →
      AreAllCompiled types ds first cells start states auto
  all_compiled first cells start states begin old_auto auto done h i =
      let w = i.within in
      let e : done ≡ length states = omega arith in
      record {
        cells_added = i.cells_added;
        states_added = i.states_added;
        bounded = i.bounded;
        compiled = subst (λ d. AreCompiled types ds cells states auto d []) e i.compiled;
      }

  -- ---- the state of a type

  pub type_started : (c0 c1 : List Cell) (st0 st1 : List ℕ) (a0 a1 : Automaton) (K : List Tree) (inside : ℕ) (s : State) → IsOfState types K → IsContent types c0 c1 K inside →
      GetsState types ds c1 st0 st1 a0 a1 inside s → AreCompiled types ds c0 st0 a0 (length st0) [] → AreCompiled types ds c1 st1 a1 (length st0) []
  type_started c0 c1 st0 st1 a0 a1 K inside s k content g c =
      compiled_state types ds c1 st0 st1 a0 a1 (length st0) [] inside s content.within (subst (IsOfState types) (sym content.same) k) (omega arith) g
      (compiled_cells types ds c0 c1 st0 a0 (length st0) [] content.cells.kept c)

  pub type_states : (c0 c1 : List Cell) (st0 st1 : List ℕ) (a0 a1 : Automaton) (K : List Tree) (inside : ℕ) (s : State) → IsContent types c0 c1 K inside →
      GetsState types ds c1 st0 st1 a0 a1 inside s → AddsStates c0 c1 st0 st1
  type_states c0 c1 st0 st1 a0 a1 K inside s content g =
      states_then c0 c1 c1 st0 st0 st1 (states_none c0 c1 content.cells.kept st0) (gets_states c1 st0 st1 a0 a1 inside s content.within g)

  pub type_bounded : (c0 c1 : List Cell) (i inside : ℕ) → i < length types → IsContent types c0 c1 (pieces (tree_at types i)) inside → StaysBounded types ds c0 c1
  type_bounded c0 c1 i inside h content tail stand b =
      content.bounded (meanings types ds) (nodes_in types) b
      (subst (IsBounded (meanings types ds) (nodes_in types)) (append-nil (pieces (tree_at types i)))
      (bounded_pieces (meanings types ds) (nodes_in types) (tree_at types i) [] (bounded_start (meanings types ds) (nodes_in types) (tree_at types i) (nodes_below types i h))))

  pub type_compiled : (c0 c1 c2 : List Cell) (st0 st1 st2 : List ℕ) (a0 a1 a2 : Automaton) (i inside : ℕ) (s : State) → i < length types → IsContent types c0 c1 (pieces (tree_at types i)) inside →
      GetsState types ds c1 st0 st1 a0 a1 inside s → AreAllCompiled types ds c1 c2 st1 st2 a2 → AreAllCompiled types ds c0 c2 st0 st2 a2
  type_compiled c0 c1 c2 st0 st1 st2 a0 a1 a2 i inside s h content g a = record {
    cells_added = adds_then types c0 c1 c2 content.cells a.cells_added;
    states_added = states_then c0 c1 c2 st0 st1 st2 (type_states c0 c1 st0 st1 a0 a1 (pieces (tree_at types i)) inside s content g) a.states_added;
    bounded = λ tail stand b. a.bounded tail stand (type_bounded c0 c1 i inside h content tail stand b);
    compiled = a.compiled;
  }

  pub type_continues : (c0 c1 c2 : List Cell) (st0 st1 st2 : List ℕ) (a0 a1 a2 : Automaton) (K : List Tree) (inside : ℕ) (s : State) → IsContent types c0 c1 K inside →
      GetsState types ds c1 st0 st1 a0 a1 inside s → AreAllCompiled types ds c1 c2 st1 st2 a2 → continuations_of types c2 st2 s ≡ Some K
  type_continues c0 c1 c2 st0 st1 st2 a0 a1 a2 K inside s content g a =
      ap (numbered types c2) (ap (λ xs. number_at xs (state_number s)) a.states_added.grown ∙ number_front st1 a.states_added.more (state_number s) inside g.there)
      ∙ ap Some (continuation_kept types c1 c2 a.cells_added.kept inside content.within ∙ content.same)

  pub type_accepts : Guarded (meanings types ds) → AreMerged (meanings types ds) → (c2 : List Cell) (st2 : List ℕ) (c1 : List Cell) (st1 : List ℕ) (a2 : Automaton) (i : ℕ) (s : State) → IsMerged (tree_at types i) →
      AreAllCompiled types ds c1 c2 st1 st2 a2 → continuations_of types c2 st2 s ≡ Some (pieces (tree_at types i)) →
      (d : Document) → (accepts a2 d s ≡ true) ↔ Fits (meanings types ds) (tree_at types i) d
  type_accepts guarded merged c2 st2 c1 st1 a2 i s m a e d =
      subst (λ T. (accepts a2 d s ≡ true) ↔ Fits (meanings types ds) T d) (seq_of-pieces (tree_at types i) m)
      (mirrors_accept (meanings types ds) guarded merged (continuations_of types c2 st2) a2
      (compiled_mirrors types ds c2 st2 a2 (length st2) (omega arith) a.compiled) d s (pieces (tree_at types i)) e)
