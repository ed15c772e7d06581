-- A row as a goal between types.
use Rattle.std.proofs.Common.{◌≡◌, ℕ, zero, suc, ◌+◌, ◌^◌, ◌<◌, ◌≤◌, Bool, true, false, ◌||◌, List, [], ◌∷◌, ◌++◌, map, length, get_or, take, Option, Some, None, Bor, refl, sym, ap, subst, ◌∙◌, arith}
use Rattle.std.specs.List.{AllByRecursion, AllZip, flat_map, list_any}
use Rattle.std.proofs.lemmas.List.{take_more}
use Rattle.xd_doc.proofs.Lists.{zip_long, length-mapped}
use Rattle.xd_goals.proofs.IsTreeBySortLemmas.{head_within}
use Rattle.xd_syntax.specs.Tree.{Tree, Definitions}
use Rattle.xd_meaning.specs.CanBeEmpty.{can_be_empty}
use Rattle.xd_syntax.specs.Program.{names_of}
use Rattle.xd_syntax.specs.SoundTables.{IsTypeAt}
use Rattle.xd_syntax.specs.Kept.{ProgramTable, program_tree}
use Rattle.xd_syntax.specs.declared.types.TypeId.{TypeId}
use Rattle.xd_auto.specs.declared.auto.State.{State}
use Rattle.xd_auto.specs.Automaton.{Automaton, moves_at}
use Rattle.xd_rules.specs.Heads.{Head, Named, named_in}
use Rattle.xd_meaning.specs.Heads.{heads}
use Rattle.xd_meaning.specs.Consistent.{Goal, EmptyRule}
use Rattle.xd_rules.specs.Rules.{numbered, atoms_from, ChoiceTree, Claim, LabelTree, LeafRule, Sides, TextTree, TreeRule, matching, no_sides, on_content, on_rest, settles_content, settles_rest, split_on}
use Rattle.xd_doc.specs.Members.{IsOneOf}
use Rattle.xd_rules.proofs.Members.{one_of-append_left, one_of-append_right}
use Rattle.xd_state_heads.specs.Moves.{heads_of, is_last_in, label_head, text_head}
use Rattle.xd_goals.specs.Rows.{GoalRow, TableView, row_at, claim_of, claim_at, choice_key}
use Rattle.xd_goals.specs.Standing.{IsBegun}
use Rattle.xd_goals.specs.Truth as goals
use Rattle.xd_goals.specs.declared.table.Choice.{Choice}
use Rattle.xd_goals.specs.declared.table.ChoiceNode.{ChoiceNode}
use Rattle.xd_goals.proofs.GrowsByLemmas.{claim_within}
use Rattle.xd_heads.specs.CellsView.{CellsView}
use Rattle.xd_heads.specs.Mirrors.{Mirrors, continuation_of, sorts_at}
use Rattle.xd_heads.specs.Sorts.{sorts_of}
use Rattle.xd_rules.specs.declared.atom.Atom.{Atom}
use Rattle.xd_rules.specs.declared.atom.Atom.TheVariants.{Label, OtherLabel, Text, OtherText}
use Rattle.xd_proof.specs.declared.proof.ProofGoal.{ProofGoal}
use Rattle.xd_proof_make.specs.Written.{AreTypes, IsWritten, Renumbers}
use Rattle.xd_proof_make.specs.Places.{all_places, place_in, new_numbers}
use Rattle.xd_proof_make.specs.Met.{number_in}
use Rattle.xd_proof_make.specs.Ordered.{AreOrdered, AreWrittenCases, IsWritable, SplitsWithin}
use Rattle.xd_proof_make.specs.Few.{AreFew, AreFewMoves}
use Rattle.xd_proof_make.specs.Known.{IsKnown, AreKnown, HasKnown, IsIdOf, known_at}
use Rattle.xd_proof_make.specs.Made.{CanWrite, IsEmptyRight, IsGoalMade}
use Rattle.xd_proof_make.specs.declared.places.Place.{Place}
use Rattle.xd_proof_make.proofs.AreHeadMovesLemmas.{moves_count, places_renumber, places_heads, places_of_types, new_numbers-length}
use Rattle.xd_proof_make.proofs.IsNamedLemmas.{names_written}
use Rattle.xd_proof_make.proofs.CaseOrderLemmas.{cut_at, wanted_above, wanted_below, wanted-append, ordered, AreCases}
use Rattle.xd_rules.specs.Meaning.{AllLeaves, right_heads as claim_heads}

-- ---- the empty document

numbered_zip : (C : State → Option Tree) (ss : List State) (Ts : List Tree) (n : ℕ) (s : State) → AreTypes C ss Ts → numbered ss n ≡ Some s → (T : Tree) × (numbered Ts n ≡ Some T) × (C s ≡ Some T)
numbered_zip C [] Ts zero s z e = absurd (cc)
numbered_zip C [] Ts (suc n) s z e = absurd (cc)
numbered_zip C (r ∷ ss) [] n s z e = absurd z
numbered_zip C (r ∷ ss) (T ∷ Ts) zero s z e = absurd (cc)
numbered_zip C (r ∷ ss) (T ∷ Ts) (suc zero) s z e = let q : r ≡ s = cc in (T, refl, subst (λ (x : State). C x ≡ Some T) q z.0)
numbered_zip C (r ∷ ss) (T ∷ Ts) (suc (suc n)) s z e = numbered_zip C ss Ts (suc n) s z.1 e

empty_written : (E : Definitions) (a : Automaton) (C : State → Option Tree) → ((s : State) (T : Tree) → C s ≡ Some T → (moves_at a s).last ≡ can_be_empty E T) → (left : State) (rights : List State) (goal : Goal)
    → C left ≡ Some goal.left → AreTypes C rights goal.rights → (o : Option ℕ) → IsEmptyRight a left rights o → EmptyRule E goal o
empty_written E a C flags left rights goal e z None h = sym (flags left goal.left e) ∙ h
empty_written E a C flags left rights goal e z (Some n) h =
    let x = numbered_zip C rights goal.rights n h.1 z h.2 in
    (sym (flags left goal.left e) ∙ h.0, x.0, x.1, sym (flags h.1 x.0 x.2) ∙ h.3)

-- ---- what is known of several states

record AreTyped (p : ProgramTable) (c : CellsView) (states : List (Option TypeId)) (ss : List State) : Type 0 where
  types : List Tree
  typed : AreTypes (continuation_of p.types c) ss types
  sorts : map (sorts_at c) ss ≡ map (λ (T : Tree). sorts_of (heads (names_of (program_tree p)) T)) types
  ids : (ids : List TypeId) → AllZip (IsIdOf states) ids ss → AllZip (λ id T. IsTypeAt p.types T id) ids types

typed_all : (p : ProgramTable) (c : CellsView) (a : Automaton) (states : List (Option TypeId)) → Mirrors p c a → AreKnown p c states → (ss : List State) → AllByRecursion (HasKnown states) ss → AreTyped p c states ss
typed_all p c a states m k [] h = record { types = []; typed = tt; sorts = refl; ids = none }
  where
    none : (ids : List TypeId) → AllZip (IsIdOf states) ids [] → AllZip (λ id T. IsTypeAt p.types T id) ids []
    none [] z = tt
    none (i ∷ ids) z = absurd z
typed_all p c a states m k (s ∷ ss) h =
    let r = typed_all p c a states m k ss h.1 in
    let x = k s h.0.known h.0.kept in
    record {
      types = x.type_ ∷ r.types;
      typed = (x.continuation, r.typed);
      sorts = (let here = m.sorts s x.type_ x.continuation in let others = r.sorts in cc);
      ids = ids r;
    }
  where
    ids : (r : AreTyped p c states ss) → (is : List TypeId) → AllZip (IsIdOf states) is (s ∷ ss) → AllZip (λ id T. IsTypeAt p.types T id) is ((k s h.0.known h.0.kept).type_ ∷ r.types)
    ids r [] z = absurd z
    ids r (i ∷ is) z =
        let w : i ≡ h.0.known = (let u = z.0 in let v = h.0.kept in cc) in
        (subst (λ (y : TypeId). IsTypeAt p.types (k s h.0.known h.0.kept).type_ y) (sym w) (k s h.0.known h.0.kept).there, r.ids is z.1)

-- ---- the goal

module _ (p : ProgramTable) (c : CellsView) (a : Automaton) (nodes : List ChoiceNode) (states : List (Option TypeId)) (numbers places : List ℕ) (row : GoalRow) (made : ProofGoal) (known : TypeId) (elements : ℕ)
    (m : Mirrors p c a) (k : AreKnown p c states) (kept : known_at states row.left ≡ Some (Some known)) (rights : AllByRecursion (HasKnown states) row.rights) (begun : IsBegun a (claim_of row) row.choices)
    (pl : places ≡ all_places 1 (map (sorts_at c) row.rights)) (el : elements ≡ length (moves_at a row.left).labels)
    (cases : AreWrittenCases nodes places numbers (sorts_at c row.left) elements row.choices (made.cases).items) where
  abbrev E : Definitions
  E = names_of (program_tree p)

  abbrev C : State → Option Tree
  C = continuation_of p.types c

  x : IsKnown p c row.left known
  x = k row.left known kept

  r : AreTyped p c states row.rights
  r = typed_all p c a states m k row.rights rights

  abbrev goal : Goal
  goal = record { left = x.type_; rights = r.types; empty_right = made.empty_right; cases = cases.cases }

  abbrev elements_of : List (Head State)
  elements_of = map label_head (moves_at a row.left).labels

  abbrev texts_of : List (Head State)
  texts_of = map text_head (moves_at a row.left).texts

  abbrev names : Named
  names = named_in (heads_of a row.left ++ claim_heads (heads_of a) (claim_of row))

  keys : (map choice_key cases.front ≡ atoms_from names 1 elements_of) × (map choice_key cases.back ≡ atoms_from names (elements + 1) texts_of)
  keys =
      let n = length-mapped label_head (moves_at a row.left).labels in
      cut_at (elements + 1) row.choices cases.front cases.back (atoms_from names 1 elements_of) (atoms_from names (elements + 1) texts_of) cases.cut
      (wanted_below names (elements + 1) 1 elements_of (omega arith)) (wanted_above names (elements + 1) (elements + 1) texts_of (omega arith))
      (begun.complete ∙ wanted-append names 1 (elements + 1) elements_of texts_of (omega arith))

  in_order : AreCases C nodes places numbers names row.choices (heads_of a row.left) (heads E x.type_) cases.cases (atoms_from names 1 (heads E x.type_))
  in_order =
      ordered C nodes places numbers names row.choices (heads_of a row.left) (heads E x.type_) (m.moves row.left x.type_ x.continuation) 1 1 (elements + 1) cases.front cases.back cases.cases
      (subst (λ (ss : List Bool). AreOrdered nodes places numbers ss 1 1 (elements + 1) cases.front cases.back cases.cases) (m.sorts row.left x.type_ x.continuation) cases.ordered)
      keys.0 keys.1
      (λ y h. subst (IsOneOf y) (sym (cases.cut).same) (one_of-append_left y cases.front cases.back h)) (λ y h. subst (IsOneOf y) (sym (cases.cut).same) (one_of-append_right y cases.front cases.back h))
      [] (record { same = refl; count = refl }) [] texts_of (record { same = refl; count = refl }) elements_of (record { same = refl; count = (let n = length-mapped label_head (moves_at a row.left).labels in omega arith) })

  written : IsEmptyRight a row.left row.rights made.empty_right → IsWritten E a C nodes (number_in numbers) row goal
  written empty = record {
    left = x.continuation;
    rights = r.typed;
    empty_right = empty_written E a C m.flags row.left row.rights goal x.continuation r.typed made.empty_right empty;
    cases = in_order.0 ∙ ap (λ (nm : Named). atoms_from nm 1 (heads E x.type_)) (sym (names_written E a C m.moves (claim_of row) goal x.continuation r.typed));
    place = place_in places;
    renumbers = subst (λ (ps : List ℕ). Renumbers C (place_in ps) (flat_map (heads_of a) row.rights) (flat_map (heads E) r.types)) (sym (pl ∙ ap (all_places 1) r.sorts)) (places_renumber E a C m.moves row.rights r.types r.typed);
    each = in_order.1;
  }

  pub goal_made : made.left ≡ known → AllZip (IsIdOf states) (made.rights).items row.rights → IsEmptyRight a row.left row.rights made.empty_right → made.line ≡ 1 → AreFew row.rights → AreFewMoves (moves_at a row.left).labels (moves_at a row.left).texts → AreFew places → AreFew (made.cases).items
      → IsGoalMade p c a nodes numbers row made
  goal_made left ids empty line few_rights few_left few_places few_cases = record {
    goal = goal;
    is = record { left = subst (λ (i : TypeId). IsTypeAt p.types x.type_ i) (sym left) x.there; rights = r.ids (made.rights).items ids; empty_right = refl; cases = cases.read };
    written = written empty;
    line = line;
    fit = record { fits = (let n = zip_long (IsIdOf states) (made.rights).items row.rights ids in omega (arith, line, few_rights, few_cases, n)) };
    small = record {
      rights = subst (λ (n : ℕ). n < 10 ^ 18) (zip_long (λ (s : State) (T : Tree). C s ≡ Some T) row.rights r.types r.typed) few_rights;
      on_left = subst (λ (n : ℕ). n < 10 ^ 18) (sym (moves_count C (m.moves row.left x.type_ x.continuation))) few_left;
      on_right = subst (λ (n : ℕ). n < 10 ^ 18) (ap length (pl ∙ ap (all_places 1) r.sorts) ∙ places_of_types E 1 r.types) few_places;
      atoms = cases.atoms;
    };
  }

-- ---- choices that can be written

module _ (rows : List GoalRow) (h : Head State) (atom : Atom) (rs : List (Head State)) where
  leaf_within : (part : Head State → State) (side : List ℕ) (g : ℕ) → LeafRule part (claim_at rows) h rs side g → g < length rows
  leaf_within part side g k = (claim_within rows g k.claim k.stands).0

  tree_writable : (tree : ChoiceTree) (s : Sides) → LabelTree (claim_at rows) atom h rs s tree → AllLeaves (λ g. g < length rows) tree × SplitsWithin (length rs) tree
  tree_writable (settles_content g) s k = (leaf_within (λ x. x.content) s.content g k, tt)
  tree_writable (settles_rest g) s k = (leaf_within (λ x. x.rest) s.rest g k, tt)
  tree_writable (split_on j t u) s k =
      let n = head_within rs j (k.0).head (k.0).stands in
      let x = tree_writable t (on_content j s) k.1 in
      let y = tree_writable u (on_rest j s) k.2 in
      ((x.0, y.0), (n.0, n.1, x.1, y.1))

  text_writable : (tree : ChoiceTree) → TextTree (claim_at rows) atom h rs tree → AllLeaves (λ g. g < length rows) tree × SplitsWithin (length rs) tree
  text_writable (settles_content g) k = absurd k
  text_writable (split_on j t u) k = absurd k
  text_writable (settles_rest g) k = (leaf_within (λ x. x.rest) (matching atom 1 rs) g k, tt)

case_writable : (rows : List GoalRow) (h : Head State) (atom : Atom) (rs : List (Head State)) (tree : ChoiceTree) → TreeRule (claim_at rows) atom h rs tree
    → AllLeaves (λ g. g < length rows) tree × SplitsWithin (length rs) tree
case_writable rows h (Label l) rs tree k = tree_writable rows h (Label l) rs tree no_sides k
case_writable rows h OtherLabel rs tree k = tree_writable rows h OtherLabel rs tree no_sides k
case_writable rows h (Text t) rs tree k = text_writable rows h (Text t) rs tree k
case_writable rows h OtherText rs tree k = text_writable rows h OtherText rs tree k

pub all_writable : (a : Automaton) (t : TableView) (n : ℕ) (c : Claim State) (ks : List Choice) → n ≡ length t.rows → AllByRecursion (goals.KeepsRules a t c) ks → AllByRecursion (IsWritable t.nodes n (length (claim_heads (heads_of a) c))) ks
all_writable a t n c [] e h = tt
all_writable a t n c (k ∷ ks) e h =
    let x = h.0 in
    let w = case_writable t.rows x.head k.atom (claim_heads (heads_of a) c) x.tree x.keeps in
    (record { tree = x.tree; stands = x.stands; leaves = subst (λ (i : ℕ). AllLeaves (λ g. g < i) x.tree) (sym e) w.0; splits = w.1 }, all_writable a t n c ks e h.1)

-- ---- while goals are written

pub numbered_next : (ss : List State) (i : ℕ) (d : State) → i < length ss → numbered ss (i + 1) ≡ Some (get_or ss i d)
numbered_next ss i d lt = ap (numbered ss) (let q : i + 1 ≡ suc i = omega arith in q) ∙ at ss i lt
  where
    at : (xs : List State) (k : ℕ) → k < length xs → numbered xs (suc k) ≡ Some (get_or xs k d)
    at [] k l = absurd (omega arith)
    at (x ∷ xs) zero l = refl
    at (x ∷ xs) (suc k) l = at xs k (omega arith)

pub some_last : (a : Automaton) (ss : List State) (i : ℕ) → AllByRecursion (λ (s : State). is_last_in a s ≡ false) (take i ss) → length ss ≤ i → list_any (is_last_in a) ss ≡ true → ⊥
some_last a [] i h le e = cc
some_last a (s ∷ ss) zero h le e = omega arith
some_last a (s ∷ ss) (suc i) h le e = some_last a ss i h.1 (omega arith) (sym (ap (λ (b : Bool). b || list_any (is_last_in a) ss) h.0) ∙ e)

pub can_writable : (c : CellsView) (a : Automaton) (t : TableView) (states : List (Option TypeId)) (numbers : List ℕ) (g : ℕ) (rights : List State) (places heads_ : List Place) (ks : List Choice) → CanWrite c a t states numbers g → rights ≡ (row_at t.rows g).rights
    → new_numbers places ≡ all_places 1 (map (sorts_at c) rights) → heads_ ≡ places → ks ≡ (row_at t.rows g).choices → AllByRecursion (IsWritable t.nodes (length numbers) (length heads_)) ks
can_writable c a t states numbers g rights places heads_ ks w e f h q =
    let y = typed_all w.program c a states w.mirrors w.known (row_at t.rows g).rights (w.types).rights in
    let count = places_heads (names_of (program_tree w.program)) a (continuation_of (w.program).types c) (w.mirrors).moves (row_at t.rows g).rights y.types y.typed in
    let same : length heads_ ≡ length (claim_heads (heads_of a) (claim_of (row_at t.rows g))) =
    ap length h ∙ sym (new_numbers-length places) ∙ ap length (f ∙ (ap (λ (ss : List State). all_places 1 (map (sorts_at c) ss)) e ∙ ap (all_places 1) y.sorts)) ∙ count in
    subst (AllByRecursion (IsWritable t.nodes (length numbers) (length heads_))) (sym q)
    (subst (λ (n : ℕ). AllByRecursion (IsWritable t.nodes (length numbers) n) (row_at t.rows g).choices) (sym same) w.writable)

-- what was found of the rights
module _ (c : CellsView) (rights : List State) (sorts given : List (Bor (List Bool))) (same : given ≡ sorts) (found : map (λ (b : Bor (List Bool)). b.now) sorts ≡ map (sorts_at c) rights) where
  pub places_kept : (places : List ℕ) → places ≡ all_places 1 (map (λ (b : Bor (List Bool)). b.now) given) → places ≡ all_places 1 (map (sorts_at c) rights)
  places_kept places e = e ∙ (ap (λ (bs : List (Bor (List Bool))). all_places 1 (map (λ (b : Bor (List Bool)). b.now) bs)) same ∙ ap (all_places 1) found)

  pub few_kept : (row : List State) → rights ≡ row → AreFew given → AreFew row
  few_kept row e few =
      subst (λ (n : ℕ). n < 10 ^ 18)
      (ap length same ∙ sym (length-mapped (λ (b : Bor (List Bool)). b.now) sorts) ∙ ap length found ∙ length-mapped (sorts_at c) rights ∙ ap length e) few

pub zip_more : {B : Type 0} (R : ℕ → B → Type 0) (xs : List ℕ) (i : ℕ) (ys ys2 : List B) (y : B) → i < length xs → AllZip R (take i xs) ys → R (get_or xs i 0) y → ys2 ≡ ys ++ y ∷ [] → AllZip R (take (i + 1) xs) ys2
zip_more {B} R xs i ys ys2 y lt z r e =
    subst (λ (u : List B). AllZip R (take (i + 1) xs) u) (sym e) (subst (λ (u : List ℕ). AllZip R u (ys ++ y ∷ [])) (sym (take_more xs i 0 lt)) (push (take i xs) ys z))
  where
    push : (us : List ℕ) (vs : List B) → AllZip R us vs → AllZip R (us ++ get_or xs i 0 ∷ []) (vs ++ y ∷ [])
    push [] [] w = (r, tt)
    push [] (v ∷ vs) w = absurd w
    push (u ∷ us) [] w = absurd w
    push (u ∷ us) (v ∷ vs) w = (w.0, push us vs w.1)

pub take_past : (xs : List ℕ) (i : ℕ) → length xs ≤ i → take i xs ≡ xs
take_past [] zero le = refl
take_past [] (suc i) le = refl
take_past (x ∷ xs) zero le = absurd (omega arith)
take_past (x ∷ xs) (suc i) le = ap (λ (ys : List ℕ). x ∷ ys) (take_past xs i (omega arith))
