-- What a table keeps by itself and what it says of an automaton, together and apart.
use Rattle.std.proofs.Common.{ℕ, zero, suc, ◌<◌, ◌≤◌, ◌≡◌, List, [], ◌∷◌, ◌++◌, length, Option, None, ⊎_elim, inl, inr, refl, sym, subst, arith}
use Rattle.std.specs.List.{AllByRecursion}
use Rattle.std.proofs.lemmas.Bool.{cases_lt}
use Rattle.xd_doc.specs.Document.{Document}
use Rattle.xd_auto.specs.Automaton.{Automaton}
use Rattle.xd_rules.specs.Rules.{ChoiceTree}
use Rattle.xd_rules.specs.Meaning.{AllLeaves}
use Rattle.xd_goals.specs.Rows.{GoalRow, TableView, row_at, goal_case, no_view, HasRoot, IsListed, Leads, here, behind, NodeStands}
use Rattle.xd_goals.specs.Kept.{AreNodes}
use Rattle.xd_goals.specs.Standing.{StandsOn, StandsOnAutomaton}
use Rattle.xd_goals.specs.Facts.{FactsOn, FactsOnAutomaton, KeepsLists}
use Rattle.xd_goals.specs.Reached.{HasTreeWithin, HaveTreesWithin}
use Rattle.xd_goals.specs.declared.table.Choice.{Choice}
use Rattle.xd_goals.specs.declared.table.ChoiceNode.{ChoiceNode}
use Rattle.xd_goals.specs.declared.table.ChoiceNode.TheVariants.{Split, Content, Rest}
use Rattle.xd_goals.specs.declared.table.GoalCase.{GoalCase}
use Rattle.xd_goals.specs.declared.table.Link.{Link}
use Rattle.xd_rules.proofs.Lists.{all_places, slice_get-push_cases}
use Rattle.xd_goals.proofs.Facts.{stands-none}
use Rattle.xd_goals.proofs.Trees.{AllLeaves-map, StandsAt-one, StandsAt-within}

pub lists_kept : (a : Automaton) (t : TableView) → FactsOnAutomaton a t → KeepsLists t
lists_kept a t h = record {
  unlike = h.unlike;
  trees = λ i place k e. let has = (h.choices i place k e).has in record { tree = has.tree; stands = has.stands; kind = tt; listed = has.listed };
  flags = h.flags;
  unbroken = h.unbroken;
  opens = λ i e. (h.holds i e).opens;
  settled = h.settled;
}

pub facts_apart : (a : Automaton) (t : TableView) → FactsOnAutomaton a t → StandsOnAutomaton a t
facts_apart a t h = record {
  states = h.states;
  begun = λ i w. ⊎_elim (λ e. (h.holds i e).begun) (λ n. h.begun i n) w;
  choices = λ i place k e.
      let s = h.choices i place k e in
      record { head = s.head; found = s.found; matched = s.matched; tree = s.has.tree; stands = s.has.stands; kind = s.has.kind };
}

pub facts_together : (a : Automaton) (t : TableView) → KeepsLists t → StandsOnAutomaton a t → FactsOnAutomaton a t
facts_together a t l s = record {
  states = s.states;
  unlike = l.unlike;
  choices = λ i place k e.
      let q = s.choices i place k e in
      let o = l.trees i place k e in
      record {
        head = q.head;
        found = q.found;
        matched = q.matched;
        has = record {
          tree = q.tree;
          stands = q.stands;
          kind = q.kind;
          listed = subst (λ (w : ChoiceTree). AllLeaves (λ g. IsListed t g (goal_case i place)) w) (StandsAt-one t.nodes o.tree q.tree k.root o.stands q.stands) o.listed;
        };
      };
  begun = λ i n. s.begun i (inr n);
  flags = l.flags;
  unbroken = l.unbroken;
  holds = λ i e. record { begun = s.begun i (inl e); opens = l.opens i e };
  settled = l.settled;
}

pub stands_apart : (a : Automaton) (ds : List Document) (t : TableView) → FactsOn a ds t → StandsOn a ds t
stands_apart a ds t h = record { facts = facts_apart a t h.facts; refuted = h.refuted }

pub stands_together : (a : Automaton) (ds : List Document) (t : TableView) → KeepsLists t → StandsOn a ds t → FactsOn a ds t
stands_together a ds t l s = record { facts = facts_together a t l s.facts; refuted = s.refuted }

pub lists_none : KeepsLists no_view
lists_none = lists_kept [] no_view (stands-none [] []).facts

-- ---- nodes

pub nodes_none : (rows : List GoalRow) (nodes : List ChoiceNode) → nodes ≡ [] → AreNodes rows nodes
nodes_none rows nodes e = subst (AreNodes rows) (sym e) (record { each = λ n node at. absurd (cc) })

node_longer : (m n : ℕ) → m ≤ n → (k : ℕ) (node : ChoiceNode) → NodeStands m k node → NodeStands n k node
node_longer m n le k node h = elim node as (λ x. NodeStands m k x → NodeStands n k x) [
  | Split right content rest ↦ λ s. s
  | Content goal ↦ λ s. omega arith
  | Rest goal ↦ λ s. omega arith
] h

pub nodes_longer : (rows rows2 : List GoalRow) (nodes : List ChoiceNode) → length rows ≤ length rows2 → AreNodes rows nodes → AreNodes rows2 nodes
nodes_longer rows rows2 nodes le h = record { each = λ n node at. node_longer (length rows) (length rows2) le n node (h.each n node at) }

pub nodes_push : (rows : List GoalRow) (nodes nodes2 : List ChoiceNode) (node : ChoiceNode) → nodes2 ≡ nodes ++ node ∷ [] → NodeStands (length rows) (length nodes) node → AreNodes rows nodes → AreNodes rows nodes2
nodes_push rows nodes nodes2 node e s h = subst (AreNodes rows) (sym e) (record {
  each = λ n x at. ⊎_elim
      (λ old. h.each n x old)
      (λ new. subst (λ (y : ChoiceNode). NodeStands (length rows) n y) new.1 (subst (λ (k : ℕ). NodeStands (length rows) k node) (sym new.0) s))
      (slice_get-push_cases nodes node x n at);
})

-- ---- the goals that leaves name

beyond : (rows : List GoalRow) (i : ℕ) → length rows ≤ i → (row_at rows i).dependents ≡ None
beyond [] i le = refl
beyond (r ∷ rows) zero le = absurd (omega arith)
beyond (r ∷ rows) (suc i) le = beyond rows i (omega arith)

none_leads : (links : List Link) (owner : GoalCase) (o : Option ℕ) → o ≡ None → Leads links owner o → ⊥
none_leads links owner _ e (here k l at same) = cc
none_leads links owner _ e (behind k l at more) = cc

listed_there : (t : TableView) (g : ℕ) (owner : GoalCase) → IsListed t g owner → g < length t.rows
listed_there t g owner l = ⊎_elim (λ lt. lt) (λ ge. absurd (none_leads t.links owner (row_at t.rows g).dependents (beyond t.rows g ge) l)) (cases_lt g (length t.rows))

-- trees of a table name goals that are there
pub trees_kept : (t : TableView) → KeepsLists t → (i : ℕ) → HaveTreesWithin t.nodes (length t.rows) (row_at t.rows i).choices
trees_kept t h i =
    all_places (λ (k : Choice). HasTreeWithin t.nodes (length t.rows) k.root) (row_at t.rows i).choices
    (λ place k e.
    let o = h.trees i place k e in
    record { tree = o.tree; stands = o.stands; within = AllLeaves-map (λ g. IsListed t g (goal_case i place)) (λ g. g < length t.rows) (λ g l. listed_there t g (goal_case i place) l) o.tree o.listed })

-- the roots of choices are nodes
pub roots_kept : (t : TableView) → KeepsLists t → (i : ℕ) → AllByRecursion (HasRoot t.nodes) (row_at t.rows i).choices
roots_kept t h i =
    all_places (HasRoot t.nodes) (row_at t.rows i).choices (λ place k e. let o = h.trees i place k e in StandsAt-within t.nodes o.tree k.root o.stands)
