-- Work on the cases of a goal.
use Rattle.std.proofs.Common.{ℕ, zero, suc, ◌+◌, ◌<◌, ◌≤◌, ◌≡◌, Bool, true, false, cond, List, [], ◌∷◌, ◌++◌, length, take, map, get_or, Some, Result, Ok, Err, IfOk, inl, inr, ⊎_elim, sym, refl, ap, subst, ◌∙◌, arith}
use Rattle.std.specs.List.{AllByRecursion, All, flat_map, list_any}
use Rattle.std.proofs.lemmas.List.{length-map, length-take-le, map-append}
use Rattle.std.proofs.lemmas.Option.{slice_get_within, get_or_from_slice_get}
use Rattle.xd_doc.specs.Document.{Document}
use Rattle.xd_doc.specs.declared.store.Seq.{Seq}
use Rattle.xd_doc.proofs.Lists.{map-take_more}
use Rattle.xd_auto.specs.declared.auto.State.{State}
use Rattle.xd_auto.specs.declared.auto.LabelMove.{LabelMove}
use Rattle.xd_auto.specs.declared.auto.TextMove.{TextMove}
use Rattle.xd_auto.specs.Automaton.{Automaton, IsState, IsClosed, moves_at}
use Rattle.xd_auto.proofs.Closed.{moves_at-closed}
use Rattle.xd_rules.specs.declared.atom.Atom.{Atom}
use Rattle.xd_doc.specs.Members.{IsOneOf}
use Rattle.xd_rules.specs.Heads.{Head, matches}
use Rattle.xd_rules.specs.Meaning.{is_text_atom, AllLeaves, keyed}
use Rattle.xd_rules.specs.Rules.{Claim, HeadAtom, ChoiceTree, settles_content, settles_rest, split_on, numbered}
use Rattle.xd_rules.proofs.Members.{get-one_of, one_of-all, one_of-append_cases, one_of-from_map, one_of-from_flat_map, one_of-numbered}
use Rattle.xd_state_heads.specs.Moves.{claim_with, heads_of, is_last_in, label_head, text_head, with_state}
use Rattle.xd_auto.specs.Kept.{Answers}
use Rattle.xd_goals.specs.Progress.{CanBegin, CanGrow}
use Rattle.xd_goals.specs.declared.goals.Goals.{Goals}
use Rattle.xd_goals.specs.Rows.{GoalRow, TableView, IsRefuted, choice_key, goal_case}
use Rattle.xd_goals.specs.Kept.{Grows}
use Rattle.xd_goals.specs.Trees.{HasTree, HasOpenTree, IsGrown, IsTextTree, gathered, IsTreeBySort, IsFailureBySort, IsPathBelow, GrownAs}
use Rattle.xd_state_heads.specs.Wants.{matching_sides, side_at, HasHead}
use Rattle.xd_goals.specs.Standing.{IsOpen, IsCaseTree, claim_sides, task_for}
use Rattle.xd_goals.specs.Facts.{ChoiceStands, RowHolds}
use Rattle.xd_goals.specs.Reached.{HasTreeWithin}
use Rattle.xd_goals.specs.Cases.{AreBegun, AreSettled, FailsAt, IsCaseGrown, IsOpenChoice, case_end_of}
use Rattle.xd_state_heads.specs.declared.heads.Side.{Side}
use Rattle.xd_goals.specs.declared.grow.Task.{Task}
use Rattle.xd_goals.specs.declared.grow.Grown.{Grown}
use Rattle.xd_goals.specs.declared.grow.Grown.TheVariants.{Stands, Fails}
use Rattle.xd_goals.specs.declared.table.Choice.{Choice}
use Rattle.xd_goals.specs.declared.work.CaseEnd.{CaseEnd}
use Rattle.xd_goals.specs.declared.work.CaseEnd.TheVariants.{Chosen, Failed}
use Rattle.xd_goals.specs.declared.work.Failure.{Failure}
use Rattle.xd_goals.specs.declared.table.GoalCase.{GoalCase}
use Rattle.xd_rules.proofs.Lists.{all_places, slice_get-push_cases}
use Rattle.xd_goals.proofs.GrowsByLemmas.{claim_within}
use Rattle.xd_goals.proofs.Facts.{choice-grows, open_choice-grows}
use Rattle.xd_goals.proofs.Trees.{StandsAt-one}
use Rattle.xd_goals.proofs.KeepsRulesLemmas.{sides_rise}

at_member : {X : Type 0} (P : X → Type 0) (xs : List X) (x : X) → All P xs → IsOneOf x xs → P x
at_member P xs x h m =
    let at = get-one_of x xs m in
    subst P (get_or_from_slice_get xs at.0 x x at.1) (h at.0 x (slice_get_within xs at.0 x at.1))

-- heads lead to states of the automaton
abbrev pub IsHeadBelow : ℕ → Head State → Type 0
IsHeadBelow n h = (h.content.number < n) × (h.rest.number < n)

pub heads_below : (a : Automaton) → IsClosed a → (s : State) → IsState a s → (h : Head State) → IsOneOf h (heads_of a s) → IsHeadBelow (length a) h
heads_below a closed s is h m =
    elim (one_of-append_cases h (map label_head (moves_at a s).labels) (map text_head (moves_at a s).texts) m) [
      | inl x ↦ let k = one_of-from_map label_head h (moves_at a s).labels x in
          subst (IsHeadBelow (length a)) k.2 (at_member (λ (w : LabelMove). (w.content.number < length a) × (w.rest.number < length a)) (moves_at a s).labels k.0 (moves_at-closed a s closed is).labels k.1)
      | inr x ↦ let k = one_of-from_map text_head h (moves_at a s).texts x in
          let b = at_member (λ (w : TextMove). w.rest.number < length a) (moves_at a s).texts k.0 (moves_at-closed a s closed is).texts k.1 in
          subst (IsHeadBelow (length a)) k.2 (b, b)
    ]

abbrev pub IsSideBelow : ℕ → Side → Type 0
IsSideBelow n s = (s.content.number < n) × (s.rest.number < n)

matching_below : (n : ℕ) (atom : Atom) (k : ℕ) (hs : List (Head State)) → ((h : Head State) → IsOneOf h hs → IsHeadBelow n h) → AllByRecursion (IsSideBelow n) (matching_sides atom k hs)
matching_below n atom k [] f = tt
matching_below n atom k (h ∷ hs) f = go (matches h.kind atom) (matching_below n atom (suc k) hs (λ g m. f g (inr m)))
  where
    go : (b : Bool) → AllByRecursion (IsSideBelow n) (matching_sides atom (suc k) hs) → AllByRecursion (IsSideBelow n) (cond b (side_at k h ∷ matching_sides atom (suc k) hs) (matching_sides atom (suc k) hs))
    go true r = (f h (inl refl), r)
    go false r = r

pub sides_below : (a : Automaton) → IsClosed a → (rights : List State) → AllByRecursion (IsState a) rights → (atom : Atom) → AllByRecursion (IsSideBelow (length a)) (matching_sides atom 1 (flat_map (heads_of a) rights))
sides_below a closed rights are atom =
    matching_below (length a) atom 1 (flat_map (heads_of a) rights)
    (λ h m. let r = one_of-from_flat_map (heads_of a) h rights m in heads_below a closed r.0 (one_of-all (IsState a) r.0 rights are r.1) h r.2)

-- a case as the code sees it: what its head says of the content and the rest, and the right heads
-- that match
module _ (a : Automaton) (owner : GoalCase) (c : Claim State) (number : ℕ) (atom : Atom) (content rest : State) (has : HasHead a c.left number content rest) (states : ℕ) (count : states ≡ length a)
    (sides : List Side) (same_sides : sides ≡ claim_sides a c atom) where
  abbrev pub task_of : Task
  task_of = record { owner = owner; content = content; rest = rest; states = states }

  task_is : task_of ≡ task_for a owner has.of_head
  task_is =
      ap (λ (s : State). record { owner = owner; content = s; rest = rest; states = states }) has.content_is
      ∙ ap (λ (s : State). record { owner = owner; content = has.of_head.content; rest = s; states = states }) has.rest_is
      ∙ ap (λ (n : ℕ). record { owner = owner; content = has.of_head.content; rest = has.of_head.rest; states = n }) count

  pub case_path : IsClosed a → IsState a c.left → AllByRecursion (IsState a) c.rights → IsPathBelow states task_of sides [] []
  case_path closed left rights =
      let h = heads_below a closed c.left left has.of_head (one_of-numbered has.of_head (heads_of a c.left) number has.found) in
      record {
        content_below = rw (count, has.content_is) h.0;
        rest_below = rw (count, has.rest_is) h.1;
        apart = rw same_sides (record { rise = sides_rise atom 1 (flat_map (heads_of a) c.rights) });
        sides_below = rw (count, same_sides) (sides_below a closed c.rights rights atom);
        contents_below = tt;
        rests_below = tt;
        contents_order = tt;
        rests_order = tt;
      }

  pub case_can_grow : {ds : List Document} {g : Goals} {xs : Answers} → IsClosed a → CanBegin a ds c owner.goal.number g xs → CanGrow a ds task_of sides [] [] g xs
  case_can_grow closed can = record {
    consistent = rw count can.consistent;
    owner = can.owner;
    path = case_path closed can.left can.rights;
    states = count;
    separated = can.separated;
    right = can.right;
  }

  tree_to : (text : Bool) → is_text_atom atom ≡ text → (rows : List GoalRow) (tree : ChoiceTree) → IsTreeBySort text rows task_of sides tree → IsCaseTree a rows owner c has.of_head atom tree
  tree_to text is rows tree k =
      subst (λ (b : Bool). IsTreeBySort b rows (task_for a owner has.of_head) (claim_sides a c atom) tree) (sym is)
      (subst (λ (ss : List Side). IsTreeBySort text rows (task_for a owner has.of_head) ss tree) same_sides
      (subst (λ (t : Task). IsTreeBySort text rows t sides tree) task_is k))

  tree_from : (text : Bool) → is_text_atom atom ≡ text → (rows : List GoalRow) (tree : ChoiceTree) → IsCaseTree a rows owner c has.of_head atom tree → IsTreeBySort text rows task_of sides tree
  tree_from text is rows tree k =
      subst (λ (t : Task). IsTreeBySort text rows t sides tree) (sym task_is)
      (subst (λ (ss : List Side). IsTreeBySort text rows (task_for a owner has.of_head) ss tree) (sym same_sides)
      (subst (λ (b : Bool). IsTreeBySort b rows (task_for a owner has.of_head) (claim_sides a c atom) tree) is k))

  failure_to : (text : Bool) → is_text_atom atom ≡ text → (ds : List Document) (rows : List GoalRow) (inside behind : Seq) → IsFailureBySort text a ds rows task_of sides inside behind
      → IsFailureBySort (is_text_atom atom) a ds rows (task_for a owner has.of_head) (claim_sides a c atom) inside behind
  failure_to text is ds rows inside behind k =
      subst (λ (b : Bool). IsFailureBySort b a ds rows (task_for a owner has.of_head) (claim_sides a c atom) inside behind) (sym is)
      (subst (λ (ss : List Side). IsFailureBySort text a ds rows (task_for a owner has.of_head) ss inside behind) same_sides
      (subst (λ (t : Task). IsFailureBySort text a ds rows t sides inside behind) task_is k))

  -- what was grown is a case
  module _ (matched : matches has.of_head.kind atom ≡ true) (text : Bool) (is : is_text_atom atom ≡ text) (ds : List Document) (t : TableView) where
    case_stands : (root : ℕ) → HasOpenTree t (IsTreeBySort text t.rows task_of sides) owner root → IsOpenChoice a t owner c (record { head = number; atom = atom; root = root })
    case_stands root k = record {
      stands = record {
        head = has.of_head;
        found = has.found;
        matched = matched;
        has = record { tree = k.has.tree; stands = k.has.stands; kind = tree_to text is t.rows k.has.tree k.has.kind; listed = k.has.listed };
      };
      opens = λ other s. subst (λ (x : ChoiceTree). AllLeaves (λ n. ¬ (IsRefuted t.rows n)) x) (StandsAt-one t.nodes k.has.tree other root k.has.stands s) k.open_;
    }

    case_fails : (inside behind : Seq) → IsFailureBySort text a ds t.rows task_of sides inside behind → FailsAt a ds t c atom inside behind
    case_fails inside behind k = record {
      owner = owner;
      of_head = has.of_head;
      among = one_of-numbered has.of_head (heads_of a c.left) number has.found;
      matched = matched;
      fails = failure_to text is ds t.rows inside behind k;
    }

    by_case : (g : Grown) → GrownAs (HasOpenTree t (IsTreeBySort text t.rows task_of sides) owner) (IsFailureBySort text a ds t.rows task_of sides) g → IsCaseGrown a ds t owner c number atom g
    by_case (Stands root) k = case_stands root k
    by_case (Fails inside behind) k = case_fails inside behind k

    pub case_grown : {E : Type 0} (r : Result Grown E) → IfOk r (GrownAs (HasOpenTree t (IsTreeBySort text t.rows task_of sides) owner) (IsFailureBySort text a ds t.rows task_of sides)) → IfOk r (IsCaseGrown a ds t owner c number atom)
    case_grown (Ok g) k = by_case g k
    case_grown (Err e) k = tt

  -- the tree that a choice has
  pub case_tree : (text : Bool) → is_text_atom atom ≡ text → (t : TableView) (root : ℕ) → ChoiceStands a t owner c (record { head = number; atom = atom; root = root }) → HasTree t (IsTreeBySort text t.rows task_of sides) owner root
  case_tree text is t root k =
      let found = has.found in
      let other = k.found in
      let same : k.head ≡ has.of_head = cc in
      record {
        tree = k.has.tree;
        stands = k.has.stands;
        kind = tree_from text is t.rows k.has.tree (subst (λ (h : Head State). IsCaseTree a t.rows owner c h atom k.has.tree) same k.has.kind);
        listed = k.has.listed;
      }

-- a head that a choice has, by its number
pub head_within : (hs : List (Head State)) (number : ℕ) (h : Head State) → numbered hs number ≡ Some h → (0 < number) × (number ≤ length hs)
head_within hs zero h e = absurd (cc)
head_within hs (suc k) h e = let w = slice_get_within hs k h e in (omega arith, omega arith)

pub same_head : (a : Automaton) (owner : GoalCase) (c : Claim State) (t : TableView) (k : Choice) (x y : State) → ChoiceStands a t owner c k → (has : HasHead a c.left k.head x y) → matches has.of_head.kind k.atom ≡ true
same_head a owner c t k x y s has =
    let one = s.found in
    let two = has.found in
    let same : s.head ≡ has.of_head = cc in
    subst (λ (h : Head State). matches h.kind k.atom ≡ true) same s.matched

-- the leaves of a choice's tree name goals that are there
pub leaves_there : (a : Automaton) (t : TableView) (owner : GoalCase) (c : Claim State) (k : Choice) → ChoiceStands a t owner c k → HasTreeWithin t.nodes (length t.rows) k.root
leaves_there a t owner c k h = record { tree = h.has.tree; stands = h.has.stands; within = go (is_text_atom k.atom) h.has.tree h.has.kind }
  where
    grown : (tree : ChoiceTree) (contents rests : List State) → IsGrown t.rows (task_for a owner h.head) (claim_sides a c k.atom) tree contents rests → AllLeaves (λ g. g < length t.rows) tree
    grown (settles_content g) contents rests x = (claim_within t.rows g (claim_with h.head.content contents) x).0
    grown (settles_rest g) contents rests x = (claim_within t.rows g (claim_with h.head.rest rests) x).0
    grown (split_on j x y) contents rests w = (grown x (with_state w.0.content contents) rests w.3, grown y contents (with_state w.0.rest rests) w.4)

    text_tree : (tree : ChoiceTree) → IsTextTree t.rows (task_for a owner h.head) (claim_sides a c k.atom) tree → AllLeaves (λ g. g < length t.rows) tree
    text_tree (settles_content g) x = absurd x
    text_tree (settles_rest g) x = (claim_within t.rows g (claim_with h.head.rest (gathered [] (claim_sides a c k.atom))) x).0
    text_tree (split_on j x y) w = absurd w

    go : (b : Bool) (tree : ChoiceTree) → IsTreeBySort b t.rows (task_for a owner h.head) (claim_sides a c k.atom) tree → AllLeaves (λ g. g < length t.rows) tree
    go true tree x = text_tree tree x
    go false tree x = grown tree [] [] x

-- one more choice
module _ (a : Automaton) (s t : TableView) (g : Grows s t) (goal : ℕ) (c : Claim State) where
  open_choice_still : (owner : GoalCase) (k : Choice) → IsOpenChoice a s owner c k → IsOpenChoice a t owner c k
  open_choice_still owner k h = record { stands = choice-grows a s t g owner c k h.stands; opens = open_choice-grows a s t g owner c k h.stands h.opens }

  pub begun_more : {X : Type 0} (key : X → HeadAtom) (xs : List X) (i : ℕ) (x : X) (made made2 : List Choice) (k : Choice) → i < length xs → x ≡ get_or xs i x → choice_key k ≡ key x
      → AreBegun a s goal c (map key (take i xs)) made → IsOpenChoice a t (goal_case goal i) c k → made2 ≡ made ++ k ∷ [] → AreBegun a t goal c (map key (take (i + 1) xs)) made2
  begun_more key xs i x made made2 k lt e same h o m = subst (λ (ks : List Choice). AreBegun a t goal c (map key (take (i + 1) xs)) ks) (sym m) (record {
    keys_are = map-append choice_key made (k ∷ []) ∙ ap (λ (ks : List HeadAtom). ks ++ choice_key k ∷ []) h.keys_are ∙ ap (λ (q : HeadAtom). map key (take i xs) ++ q ∷ []) same
        ∙ sym (map-take_more key xs i x lt e);
    open_choices = λ place y at. ⊎_elim
        (λ old. open_choice_still (goal_case goal place) y (h.open_choices place y old))
        (λ q. subst (λ (n : ℕ). IsOpenChoice a t (goal_case goal n) c y) (sym (q.0 ∙ count)) (subst (λ (w : Choice). IsOpenChoice a t (goal_case goal i) c w) q.1 o))
        (slice_get-push_cases made k y place at);
  })
    where
      count : length made ≡ i
      count = sym (length-map made choice_key) ∙ ap length h.keys_are ∙ length-map (take i xs) key ∙ length-take-le i xs (omega arith)

-- a goal whose cases are all settled holds
pub settled_holds : (a : Automaton) (t : TableView) (goal : ℕ) (c : Claim State) (ks : List Choice) → (is_last_in a c.left ≡ true → list_any (is_last_in a) c.rights ≡ true) → AreSettled a t goal c ks → RowHolds a t c ks
settled_holds a t goal c ks last h = record {
  begun = record { last = last; complete = h.complete };
  opens = all_places (IsOpen t) ks (λ place k e. (h.open_choices place k e).opens);
}

-- what a case came to
module _ (a : Automaton) (ds : List Document) (t : TableView) (owner : GoalCase) (c : Claim State) (head : ℕ) (atom : Atom) where
  abbrev choice_with : ℕ → Choice
  choice_with root = record { head = head; atom = atom; root = root }

  abbrev failure_with : Seq → Seq → Failure
  failure_with inside behind = record { atom = atom; inside = inside; behind = behind }

  pub end_chosen : (g : Grown) (end : CaseEnd) (k : Choice) → end ≡ case_end_of head atom g → end ≡ Chosen k → IsCaseGrown a ds t owner c head atom g → (choice_key k ≡ keyed head atom) × IsOpenChoice a t owner c k
  end_chosen (Stands root) end k e is h =
      let same : choice_with root ≡ k = cc in
      (ap choice_key (sym same), subst (λ (w : Choice). IsOpenChoice a t owner c w) same h)
  end_chosen (Fails inside behind) end k e is h = absurd (cc)

  pub end_failed : (g : Grown) (end : CaseEnd) (f : Failure) → end ≡ case_end_of head atom g → end ≡ Failed f → IsCaseGrown a ds t owner c head atom g → FailsAt a ds t c f.atom f.inside f.behind
  end_failed (Stands root) end f e is h = absurd (cc)
  end_failed (Fails inside behind) end f e is h =
      let same : failure_with inside behind ≡ f = cc in
      subst (λ (w : Failure). FailsAt a ds t c w.atom w.inside w.behind) same h
