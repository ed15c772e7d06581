-- The facts of a table, while it grows and while goals come to hold, to be refuted and to wait.
use Rattle.std.proofs.Common.{ℕ, ◌<◌, ◌≡◌, Bool, true, false, List, [], ◌∷◌, length, Some, ⊎_elim, sym, ap, subst, ◌∙◌, arith}
use Rattle.std.specs.List.{AllByRecursion, slice_get}
use Rattle.std.specs.HashMap.{HashMap}
use Rattle.std.proofs.lemmas.Bool.{cases_lt}
use Rattle.xd_doc.specs.Document.{Document}
use Rattle.xd_doc.specs.StoreNodes.{Keeps}
use Rattle.xd_auto.specs.declared.auto.State.{State}
use Rattle.xd_auto.specs.Automaton.{Automaton}
use Rattle.xd_rules.specs.declared.atom.Atom.{Atom}
use Rattle.xd_rules.specs.Heads.{Head}
use Rattle.xd_rules.specs.Meaning.{is_text_atom, Separates, AllLeaves}
use Rattle.xd_rules.specs.Rules.{Claim, ChoiceTree}
use Rattle.xd_state_heads.specs.Moves.{Accepts, claim_with}
use Rattle.xd_goals.specs.Rows.{GoalRow, TableView, row_at, claim_of, claim_key, goal_case, no_view, IsRefuted, IsUnbroken, RowsBelow}
use Rattle.xd_auto.specs.Keys.{found_at}
use Rattle.xd_goals.specs.Kept.{GrowsBy, IsIndexed}
use Rattle.xd_goals.specs.Trees.{IsTreeBySort}
use Rattle.xd_goals.specs.Standing.{AreSeparated, IsBegun, IsCaseTree, IsOpen, IsSeparatedBy, KeepsGoals, StandsOn, task_for, claim_sides}
use Rattle.xd_goals.specs.Facts.{ChoiceStands, RowHolds, FactsOn, FactsOnAutomaton, LeadsToSettled, StaySettled}
use Rattle.xd_goals.specs.declared.table.Choice.{Choice}
use Rattle.xd_goals.specs.declared.table.GoalCase.{GoalCase}
use Rattle.xd_goals.specs.declared.table.Standing.TheVariants.{Holds}
use Rattle.xd_rules.proofs.Lists.{all_at, all_places, none_at}
use Rattle.xd_goals.proofs.GrowsByLemmas.{past_is_new}
use Rattle.xd_goals.proofs.Trees.{AllLeaves-map, StandsAt-more, StandsAt-one, HasTree-grows, IsGrown-grows, IsTextTree-grows, standing-grows, broken-grows, choices-grows, open-grows, settled-grows, settled_leads}

pub case_tree-grows : {A : List State → Type 0} (a : Automaton) (t u : TableView) → GrowsBy A t u → (owner : GoalCase) (c : Claim State) (h : Head State) (atom : Atom) (tree : ChoiceTree)
    → IsCaseTree a t.rows owner c h atom tree → IsCaseTree a u.rows owner c h atom tree
case_tree-grows a t u g owner c h atom tree k = go (is_text_atom atom) k
  where
    go : (b : Bool) → IsTreeBySort b t.rows (task_for a owner h) (claim_sides a c atom) tree → IsTreeBySort b u.rows (task_for a owner h) (claim_sides a c atom) tree
    go true x = IsTextTree-grows t u g (task_for a owner h) (claim_sides a c atom) tree x
    go false x = IsGrown-grows t u g (task_for a owner h) (claim_sides a c atom) tree [] [] x

pub choice-grows : {A : List State → Type 0} (a : Automaton) (t u : TableView) → GrowsBy A t u → (owner : GoalCase) (c : Claim State) (k : Choice) → ChoiceStands a t owner c k → ChoiceStands a u owner c k
choice-grows a t u g owner c k h = record {
  head = h.head;
  found = h.found;
  matched = h.matched;
  has = HasTree-grows t u g (IsCaseTree a t.rows owner c h.head k.atom) (IsCaseTree a u.rows owner c h.head k.atom) (λ tree x. case_tree-grows a t u g owner c h.head k.atom tree x) owner k.root h.has;
}

-- a choice that is open stays open
pub open_choice-grows : {A : List State → Type 0} (a : Automaton) (t u : TableView) → GrowsBy A t u → (owner : GoalCase) (c : Claim State) (k : Choice) → ChoiceStands a t owner c k → IsOpen t k → IsOpen u k
open_choice-grows a t u g owner c k h o tree s =
    let there = StandsAt-more t.nodes u.nodes g.nodes h.has.tree k.root h.has.stands in
    let same : h.has.tree ≡ tree = StandsAt-one u.nodes h.has.tree tree k.root there s in
    subst (λ (w : ChoiceTree). AllLeaves (λ n. ¬ (IsRefuted u.rows n)) w) same
    (AllLeaves-map (λ n. ¬ (IsRefuted t.rows n)) (λ n. ¬ (IsRefuted u.rows n)) (λ n x. open-grows t u g n x) h.has.tree (o h.has.tree h.has.stands))

pub all_both : {X : Type 0} (P Q R : X → Type 0) (xs : List X) → ((x : X) → P x → Q x → R x) → AllByRecursion P xs → AllByRecursion Q xs → AllByRecursion R xs
all_both P Q R [] f h k = tt
all_both P Q R (x ∷ xs) f h k = (f x h.0 k.0, all_both P Q R xs f h.1 k.1)

-- the choice stands, whichever case of the goal it is
abbrev pub StandsSomewhere : Automaton → TableView → Claim State → Choice → Type 0
StandsSomewhere a t c k = (owner : GoalCase) × ChoiceStands a t owner c k

pub choices_stand : (a : Automaton) (t : TableView) → FactsOnAutomaton a t → (i : ℕ) → AllByRecursion (StandsSomewhere a t (claim_of (row_at t.rows i))) (row_at t.rows i).choices
choices_stand a t h i = all_places (StandsSomewhere a t (claim_of (row_at t.rows i))) (row_at t.rows i).choices (λ place k e. (goal_case i place, h.choices i place k e))

-- no two goals are alike, since the map tells them apart
pub unlike_index : {S : Type 0} (found : HashMap (List ℕ) ℕ S) (rows : List GoalRow) → IsIndexed found rows → (i j : ℕ) → i < length rows → j < length rows → claim_of (row_at rows i) ≡ claim_of (row_at rows j) → i ≡ j
unlike_index found rows h i j li lj e =
    let x = h.all i li in
    let y = h.all j lj in
    let same = ap (λ (c : Claim State). found_at found (claim_key c)) e in
    cc

pub claim-grows : {A : List State → Type 0} (t u : TableView) → GrowsBy A t u → (i : ℕ) → i < length t.rows → claim_of (row_at u.rows i) ≡ claim_of (row_at t.rows i)
claim-grows t u g i lt = let k = g.kept i lt in
    ap (λ (s : State). claim_with s (row_at u.rows i).rights) k.left ∙ ap (λ (ss : List State). claim_with (row_at t.rows i).left ss) k.rights

-- refuted goals keep their documents
pub separated-grows : {A : List State → Type 0} (a : Automaton) (ds : List Document) (t u : TableView) → GrowsBy A t u → AreSeparated a ds t.rows → AreSeparated a ds u.rows
separated-grows a ds t u g h i seq e =
    let was = sym (standing-grows t u g i) ∙ e in
    ⊎_elim
    (λ lt. subst (λ (c : Claim State). IsSeparatedBy a ds c seq) (sym (claim-grows t u g i lt)) (h i seq was))
    (λ ge. let w = (past_is_new t.rows i ge).standing in absurd (cc))
    (cases_lt i (length t.rows))

-- of a goal that was not there nothing is known
module _ {A : List State → Type 0} (a : Automaton) (t u : TableView) (g : GrowsBy A t u) where
  holds_there : (i : ℕ) → (row_at t.rows i).standing ≡ Holds → i < length t.rows
  holds_there i e = ⊎_elim (λ lt. lt) (λ ge. let w = (past_is_new t.rows i ge).standing in absurd (cc)) (cases_lt i (length t.rows))

  was_choice : (i place : ℕ) (k : Choice) → slice_get (row_at u.rows i).choices place ≡ Some k → slice_get (row_at t.rows i).choices place ≡ Some k
  was_choice i place k e = subst (λ (ks : List Choice). slice_get ks place ≡ Some k) (choices-grows t u g i) e

  choices_at : FactsOnAutomaton a t → (i place : ℕ) (k : Choice) → slice_get (row_at u.rows i).choices place ≡ Some k → ChoiceStands a u (goal_case i place) (claim_of (row_at u.rows i)) k
  choices_at h i place k e = ⊎_elim
      (λ lt. subst (λ (c : Claim State). ChoiceStands a u (goal_case i place) c k) (sym (claim-grows t u g i lt))
      (choice-grows a t u g (goal_case i place) (claim_of (row_at t.rows i)) k (h.choices i place k (was_choice i place k e))))
      (λ ge. absurd (none_at (row_at u.rows i).choices place k (g.added i ge).choices e))
      (cases_lt i (length t.rows))

  unbroken_at : FactsOnAutomaton a t → (i place : ℕ) (k : Choice) → slice_get (row_at u.rows i).choices place ≡ Some k → IsUnbroken (row_at u.rows i) place → IsOpen u k
  unbroken_at h i place k e b =
      let was = was_choice i place k e in
      open_choice-grows a t u g (goal_case i place) (claim_of (row_at t.rows i)) k (h.choices i place k was)
      (h.unbroken i place k was (subst (λ (flags : List Bool). slice_get flags place ≡ Some false) (broken-grows t u g i) b))

  row_holds : FactsOnAutomaton a t → (i : ℕ) → (row_at t.rows i).standing ≡ Holds → RowHolds a u (claim_of (row_at t.rows i)) (row_at t.rows i).choices
  row_holds h i e = let r = h.holds i e in record {
    begun = r.begun;
    opens = all_places (IsOpen u) (row_at t.rows i).choices
        (λ place k e. open_choice-grows a t u g (goal_case i place) (claim_of (row_at t.rows i)) k (h.choices i place k e) (all_at (IsOpen t) (row_at t.rows i).choices place k r.opens e));
  }

  settled_at : FactsOnAutomaton a t → StaySettled u
  settled_at h i e =
      let was = h.settled i (sym (settled-grows t u g i) ∙ e) in
      record {
        holds = standing-grows t u g i ∙ was.holds;
        leads = subst (λ (ks : List Choice). AllByRecursion (LeadsToSettled u) ks) (sym (choices-grows t u g i))
            (all_places (LeadsToSettled u) (row_at t.rows i).choices
            (λ place k at.
            let o = (h.choices i place k at).has in
            settled_leads t u g.nodes (λ n x. settled-grows t u g n ∙ x) k o.tree o.stands (all_at (LeadsToSettled t) (row_at t.rows i).choices place k was.leads at)));
      }

  begun_at : FactsOnAutomaton a t → (i : ℕ) → ¬ ((row_at u.rows i).choices ≡ []) → IsBegun a (claim_of (row_at u.rows i)) (row_at u.rows i).choices
  begun_at h i n = ⊎_elim
      (λ lt. subst (λ (ks : List Choice). IsBegun a (claim_of (row_at u.rows i)) ks) (sym (choices-grows t u g i))
      (subst (λ (c : Claim State). IsBegun a c (row_at t.rows i).choices) (sym (claim-grows t u g i lt)) (h.begun i (λ e. n (choices-grows t u g i ∙ e)))))
      (λ ge. absurd (n (g.added i ge).choices))
      (cases_lt i (length t.rows))

  pub facts-grows : RowsBelow (length a) u.rows → ((i j : ℕ) → i < length u.rows → j < length u.rows → claim_of (row_at u.rows i) ≡ claim_of (row_at u.rows j) → i ≡ j)
      → FactsOnAutomaton a t → FactsOnAutomaton a u
  facts-grows states unlike h = record {
    states = states;
    unlike = unlike;
    choices = choices_at h;
    begun = begun_at h;
    flags = λ i. ap length (broken-grows t u g i) ∙ h.flags i ∙ sym (ap length (choices-grows t u g i));
    unbroken = unbroken_at h;
    holds = λ i e.
        let was = sym (standing-grows t u g i) ∙ e in
        subst (λ (ks : List Choice). RowHolds a u (claim_of (row_at u.rows i)) ks) (sym (choices-grows t u g i))
        (subst (λ (c : Claim State). RowHolds a u c (row_at t.rows i).choices) (sym (claim-grows t u g i (holds_there i was))) (row_holds h i was));
    settled = settled_at h;
  }

pub keeps_goals-grows : {A : List State → Type 0} (t u : TableView) → GrowsBy A t u → KeepsGoals t u
keeps_goals-grows t u g = record {
  longer = g.longer;
  claims = λ i lt. claim-grows t u g i lt;
  refuted = λ i seq e. standing-grows t u g i ∙ e;
}

pub keeps_goals-then : (t u w : TableView) → KeepsGoals t u → KeepsGoals u w → KeepsGoals t w
keeps_goals-then t u w h k = record {
  longer = omega (arith, h.longer, k.longer);
  claims = λ i lt. k.claims i (omega (arith, h.longer)) ∙ h.claims i lt;
  refuted = λ i seq e. k.refuted i seq (h.refuted i seq e);
}

refuted-keep : (a : Automaton) (ds es : List Document) (rows : List GoalRow) → Keeps ds es → AreSeparated a ds rows → AreSeparated a es rows
refuted-keep a ds es rows k h i seq e = let s = h i seq e in record {
  belongs = k.belongs seq s.belongs;
  separates = subst (λ (d : Document). Separates (Accepts a) (claim_of (row_at rows i)) d) (sym (k.same seq s.belongs)) s.separates;
}

pub stands-keeps : (a : Automaton) (ds es : List Document) (t : TableView) → Keeps ds es → FactsOn a ds t → FactsOn a es t
stands-keeps a ds es t k h = record { facts = h.facts; refuted = refuted-keep a ds es t.rows k h.refuted }

pub stands_on-keeps : (a : Automaton) (ds es : List Document) (t : TableView) → Keeps ds es → StandsOn a ds t → StandsOn a es t
stands_on-keeps a ds es t k h = record { facts = h.facts; refuted = refuted-keep a ds es t.rows k h.refuted }

-- a table with no goal
pub stands-none : (a : Automaton) (ds : List Document) → FactsOn a ds no_view
stands-none a ds = record {
  facts = record {
    states = record { each = λ i lt. absurd (omega arith) };
    unlike = λ i j li lj e. absurd (omega arith);
    choices = λ i place k e. absurd (none_at (row_at [] i).choices place k (past_is_new [] i (omega arith)).choices e);
    begun = λ i n. absurd (n (past_is_new [] i (omega arith)).choices);
    flags = λ i. ap length (past_is_new [] i (omega arith)).broken ∙ sym (ap length (past_is_new [] i (omega arith)).choices);
    unbroken = λ i place k e b. absurd (none_at (row_at [] i).choices place k (past_is_new [] i (omega arith)).choices e);
    holds = λ i e. let w = (past_is_new [] i (omega arith)).standing in absurd (cc);
    settled = λ i e. let w = (past_is_new [] i (omega arith)).settled in absurd (cc);
  };
  refuted = λ i seq e. let w = (past_is_new [] i (omega arith)).standing in absurd (cc);
}
