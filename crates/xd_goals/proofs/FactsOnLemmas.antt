-- What a step of work does to a table.
use Rattle.std.proofs.Common.{ℕ, ◌+◌, ◌<◌, ◌≤◌, ◌≡◌, Bool, true, false, List, [], ◌∷◌, ◌++◌, length, set, length-set, Option, Some, get_or-set_other, ⊎_elim, sym, refl, ap, subst, ◌∙◌, arith}
use Rattle.std.specs.List.{AllByRecursion, list_any, slice_get}
use Rattle.std.specs.HashMap.{HashMap}
use Rattle.std.proofs.lemmas.Bool.{cases_eq}
use Rattle.xd_doc.specs.Document.{Document}
use Rattle.xd_doc.specs.StoredSeq.{IsBelow}
use Rattle.xd_doc.specs.declared.store.Seq.{Seq}
use Rattle.xd_doc.proofs.Lists.{all_more}
use Rattle.xd_auto.specs.declared.auto.State.{State}
use Rattle.xd_auto.specs.Automaton.{Automaton}
use Rattle.xd_rules.specs.Rules.{Claim}
use Rattle.xd_state_heads.specs.Moves.{IsInOrder, claim_with, is_last_in}
use Rattle.xd_goals.specs.Rows.{GoalRow, TableView, no_row, claim_at, claim_of, claim_key, goal_case, row_at, IsRefuted}
use Rattle.xd_auto.specs.Keys.{found_at}
use Rattle.xd_goals.specs.Kept.{AreLinked, AreNodes, Grows, GrowsBy, IsConsistent, IsIndexed, IsMarking, IsWhole, Refutes, view_of, with_mark}
use Rattle.xd_goals.specs.Standing.{IsBegun, IsOpen, IsSeparatedBy, KeepsGoals}
use Rattle.xd_goals.specs.Facts.{ChoiceStands, RowHolds, FactsOn, FactsOnAutomaton, StaySettled}
use Rattle.xd_goals.specs.Cases.{AreSettled}
use Rattle.xd_goals.specs.Measure.{AreMadeFrom, Lowers, possible}
use Rattle.xd_goals.specs.Progress.{Progresses}
use Rattle.xd_goals.specs.Reached.{HasTreeWithin, HaveTreesWithin, IsSettled, IsWaitingIn}
use Rattle.xd_goals.specs.Truth.{IsIncluded}
use Rattle.xd_goals.specs.Verdicts.{IsGoalBelow, IsProved}
use Rattle.xd_goals.specs.declared.goals.Goals.{Goals}
use Rattle.xd_goals.specs.declared.table.GoalId.{GoalId}
use Rattle.xd_goals.specs.declared.table.Choice.{Choice}
use Rattle.xd_goals.specs.declared.table.ChoiceNode.{ChoiceNode}
use Rattle.xd_goals.specs.declared.table.Link.{Link}
use Rattle.xd_goals.specs.declared.table.Standing.TheVariants.{Holds, Refuted, Waiting}
use Rattle.xd_goals.proofs.Facts.{facts-grows, keeps_goals-grows, keeps_goals-then, claim-grows, separated-grows, unlike_index}
use Rattle.xd_goals.proofs.Itself.{nodes_longer}
use Rattle.xd_goals.proofs.ChoiceStandsLemmas.{SameGoals, changed_same, holds_same, open_same, refutes_same, stands-changed, stands-refuted, stands_same}
use Rattle.xd_goals.proofs.PotentialLemmas.{rows_bound, lowers-grown, lowers-held, lowers-refuted, made-grows, made-then}
use Rattle.xd_goals.proofs.IsTreeBySortLemmas.{leaves_there, settled_holds}
use Rattle.xd_goals.proofs.GrowsByLemmas.{claim_at-is, claim_within}
use Rattle.xd_rules.proofs.Lists.{all_at, all_places}
use Rattle.xd_goals.proofs.Verdicts.{settled_is_included}

-- a goal was settled, and the facts stay
pub record IsStep (a : Automaton) (es : List Document) (old new : TableView) : Type 0 where
  pub stands : FactsOn a es new
  pub kept : KeepsGoals old new
  pub made : AreMadeFrom (length old.rows) new.rows
  pub lowers : Lowers old.rows new.rows

-- after the table grew
pub step_grown : (a : Automaton) (es : List Document) (s t u : TableView) → Grows s t → IsStep a es t u → IsStep a es s u
step_grown a es s t u g h = record {
  stands = h.stands;
  kept = keeps_goals-then s t u (keeps_goals-grows s t g) h.kept;
  made = made-then (length s.rows) t u h.kept (made-grows s t g) h.made;
  lowers = lowers-grown s t u.rows g h.lowers;
}

-- goals that are the same have the same index, the same lists and the same nodes
pub whole_same : (old new : List GoalRow) (nodes : List ChoiceNode) (links : List Link) {S : Type 0} (found : HashMap (List ℕ) ℕ S) → SameGoals old new → IsIndexed found old → AreLinked old links → AreNodes old nodes
    → IsIndexed found new × AreLinked new links × AreNodes new nodes
whole_same old new nodes links found same index linked stand = (
  record {
    all = λ i lt. ap (λ (c : Claim State). found_at found (claim_key c)) (same.claims i) ∙ index.all i (omega (arith, same.count));
    only = λ q i f. let o = index.only q i f in (omega (arith, same.count, o.0), ap claim_key (same.claims i) ∙ o.1);
  },
  record {
    first = λ i. subst (λ (o : Option ℕ). IsBelow (length links) o) (sym (same.dependents i)) (linked.first i);
    next = linked.next;
    goals = λ k l at. omega (arith, same.count, linked.goals k l at);
  },
  nodes_longer old new nodes (omega (arith, same.count)) stand,
)

pub none_made : (old new : List GoalRow) → SameGoals old new → AreMadeFrom (length old) new
none_made old new same i le lt = absurd (omega (arith, same.count))

-- a goal is refuted
module _ (a : Automaton) (ds : List Document) (old new : List GoalRow) (nodes : List ChoiceNode) (links : List Link) (goal : ℕ) (seq : Seq) (lt : goal < length old) (waits : (row_at old goal).standing ≡ Waiting)
    (r : Refutes links goal seq old new) where
  pub same_refuted : SameGoals old new
  same_refuted = refutes_same a ds old new nodes links goal seq r

  pub step_refuted : IsSeparatedBy a ds (claim_of (row_at old goal)) seq → FactsOn a ds (record { rows = old; nodes = nodes; links = links })
      → IsStep a ds (record { rows = old; nodes = nodes; links = links }) (record { rows = new; nodes = nodes; links = links })
  step_refuted doc h = record {
    stands = stands-refuted a ds old new nodes links goal seq r waits doc h;
    kept = record {
      longer = omega (arith, r.count);
      claims = λ i l. (refutes_same a ds old new nodes links goal seq r).claims i;
      refuted = λ i s e. refuted_stays i s e;
    };
    made = none_made old new (refutes_same a ds old new nodes links goal seq r);
    lowers = lowers-refuted links goal seq old new lt waits r;
  }
    where
      refuted_stays : (i : ℕ) (s : Seq) → (row_at old i).standing ≡ Refuted s → (row_at new i).standing ≡ Refuted s
      refuted_stays i s e = ⊎_elim
          (λ q. let both = ap (λ (k : ℕ). (row_at old k).standing) q in absurd (cc))
          (λ ne. ⊎_elim (λ k. k ∙ e) (λ x. let w = x.0 in absurd (cc)) (r.others i ne))
          (cases_eq i goal)

-- a goal comes to hold
module _ (a : Automaton) (ds : List Document) (old : List GoalRow) (nodes : List ChoiceNode) (links : List Link) (goal : ℕ) (row : GoalRow) (lt : goal < length old) (waits : (row_at old goal).standing ≡ Waiting)
    (claim : claim_of row ≡ claim_of (row_at old goal)) (dependents : row.dependents ≡ (row_at old goal).dependents) (holds : row.standing ≡ Holds) (mark : row.settled ≡ (row_at old goal).settled) where
  unrefuted : (seq : Seq) → ¬ (row.standing ≡ Refuted seq)
  unrefuted seq e = cc

  pub same_held : SameGoals old (set old goal row)
  same_held = changed_same a ds old nodes links goal row lt claim dependents unrefuted

  pub step_held : ((place : ℕ) (k : Choice) → slice_get row.choices place ≡ Some k → ChoiceStands a (record { rows = old; nodes = nodes; links = links }) (goal_case goal place) (claim_of (row_at old goal)) k)
      → length row.broken ≡ length row.choices
      → RowHolds a (record { rows = old; nodes = nodes; links = links }) (claim_of (row_at old goal)) row.choices
      → FactsOn a ds (record { rows = old; nodes = nodes; links = links })
      → IsStep a ds (record { rows = old; nodes = nodes; links = links }) (record { rows = set old goal row; nodes = nodes; links = links })
  step_held stand flags k h = record {
    stands = stands-changed a ds old nodes links goal row lt claim dependents unrefuted stand (λ n. k.begun) flags
        (λ place x e u. all_at (IsOpen (record { rows = old; nodes = nodes; links = links })) row.choices place x k.opens e) (λ e. k) waits mark h;
    kept = record {
      longer = omega (arith, length-set old goal row);
      claims = λ i l. same_held.claims i;
      refuted = λ i s e. refuted_stays i s e;
    };
    made = none_made old (set old goal row) same_held;
    lowers = lowers-held old goal row holds lt waits;
  }
    where
      refuted_stays : (i : ℕ) (s : Seq) → (row_at old i).standing ≡ Refuted s → (row_at (set old goal row) i).standing ≡ Refuted s
      refuted_stays i s e = ⊎_elim
          (λ q. let both = ap (λ (k : ℕ). (row_at old k).standing) q in absurd (cc))
          (λ ne. ap (λ (r : GoalRow). r.standing) (get_or-set_other old goal i row no_row ne) ∙ e)
          (cases_eq i goal)

-- the facts while the table grew
pub stands_grown : {A : List State → Type 0} (a : Automaton) (ds : List Document) (g h : Goals) → GrowsBy A (view_of g) (view_of h) → IsConsistent (length a) h → FactsOn a ds (view_of g) → FactsOn a ds (view_of h)
stands_grown a ds g h grows k s = record {
  facts = facts-grows a (view_of g) (view_of h) grows k.states (unlike_index h.found h.rows.items k.index) s.facts;
  refuted = separated-grows a ds (view_of g) (view_of h) grows s.refuted;
}

-- a goal's claim while the table grew
pub owner_claim : (s t : TableView) → Grows s t → (i : ℕ) (c : Claim State) → i < length s.rows → claim_of (row_at s.rows i) ≡ c → claim_of (row_at t.rows i) ≡ c
owner_claim s t g i c lt e = claim-grows s t g i lt ∙ e

-- the goal that a step worked on, by what settled it
pub held_by : (a : Automaton) (ds : List Document) (t : TableView) (goal : ℕ) (c : Claim State) (made : List Choice) (broken : List Bool) → length broken ≡ length made
    → goal < length t.rows → (row_at t.rows goal).standing ≡ Waiting → claim_of (row_at t.rows goal) ≡ c
    → (is_last_in a c.left ≡ true → list_any (is_last_in a) c.rights ≡ true) → AreSettled a t goal c made → FactsOn a ds t
    → IsStep a ds t (record { rows = set t.rows goal (record (row_at t.rows goal) { standing = Holds; choices = made; broken = broken }); nodes = t.nodes; links = t.links })
held_by a ds t goal c made broken flags lt waits e last h stands =
    step_held a ds t.rows t.nodes t.links goal (record (row_at t.rows goal) { standing = Holds; choices = made; broken = broken }) lt waits refl refl refl refl
    (λ place k at. subst (λ (x : Claim State). ChoiceStands a t (goal_case goal place) x k) (sym e) (h.open_choices place k at).stands)
    flags
    (subst (λ (x : Claim State). RowHolds a t x made) (sym e) (settled_holds a t goal c made last h))
    stands

pub same_held_by : (a : Automaton) (ds : List Document) (t : TableView) (goal : ℕ) (made : List Choice) (broken : List Bool) → goal < length t.rows → (row_at t.rows goal).standing ≡ Waiting
    → SameGoals t.rows (set t.rows goal (record (row_at t.rows goal) { standing = Holds; choices = made; broken = broken }))
same_held_by a ds t goal made broken lt waits =
    same_held a ds t.rows t.nodes t.links goal (record (row_at t.rows goal) { standing = Holds; choices = made; broken = broken }) lt waits refl refl refl refl

-- a table has no more goals than its first ones and the possible ones
pub bounded : (a : Automaton) (first : ℕ) (t : TableView) → FactsOnAutomaton a t → AreMadeFrom first t.rows → first ≤ length t.rows → length t.rows ≤ first + length (possible (length a))
bounded a first t h made le = rows_bound (length a) first t.rows h.states h.unlike made le

-- the asked goal was found or added
module _ {A : List State → Type 0} (a : Automaton) (ds : List Document) (g h : Goals) (grows : GrowsBy A (view_of g) (view_of h)) (consistent : IsConsistent (length a) h) (stands : FactsOn a ds (view_of g)) where
  pub asked_stands : FactsOn a ds (view_of h)
  asked_stands = stands_grown a ds g h grows consistent stands

  pub asked_kept : KeepsGoals (view_of g) (view_of h)
  asked_kept = keeps_goals-grows (view_of g) (view_of h) grows

pub whole_of : (n : ℕ) (g : Goals) → IsConsistent n g → IsWhole g
whole_of n g h = record { index = h.index; links = h.links; nodes = h.nodes }

pub none_added : (rows : List GoalRow) → AreMadeFrom (length rows) rows
none_added rows i le lt = absurd (omega arith)

-- trees of a table that stands name goals that are there
pub trees_there : (a : Automaton) (t : TableView) → FactsOnAutomaton a t → (i : ℕ) → HaveTreesWithin t.nodes (length t.rows) (row_at t.rows i).choices
trees_there a t h i =
    all_places (λ (k : Choice). HasTreeWithin t.nodes (length t.rows) k.root) (row_at t.rows i).choices
    (λ place k e. leaves_there a t (goal_case i place) (claim_of (row_at t.rows i)) k (h.choices i place k e))

-- what the asked goal's standing says
pub asked_separated : (a : Automaton) (ds : List Document) (t : TableView) (goal : ℕ) (c : Claim State) (seq : Seq) → FactsOn a ds t → claim_at t.rows goal ≡ Some c → (row_at t.rows goal).standing ≡ Refuted seq → IsSeparatedBy a ds c seq
asked_separated a ds t goal c seq h e r = subst (λ (x : Claim State). IsSeparatedBy a ds x seq) (claim_within t.rows goal c e).1 (h.refuted goal seq r)

pub asked_included : (a : Automaton) (t : TableView) (goal : ℕ) (left : State) (rights : List State) → FactsOnAutomaton a t → claim_at t.rows goal ≡ Some (claim_with left rights) → IsSettled t goal
    → IsIncluded a left rights × IsProved t left rights goal
asked_included a t goal left rights h e s =
    (settled_is_included a t h goal s left rights e, record { there = (claim_within t.rows goal (claim_with left rights) e).0; claim = e; holds = s.holds goal s.start; settled = s })

-- the asked goal's claim stays
pub claim_stays : (s t : TableView) → KeepsGoals s t → (goal : ℕ) (c : Claim State) → claim_at s.rows goal ≡ Some c → claim_at t.rows goal ≡ Some c
claim_stays s t k goal c e =
    let w = claim_within s.rows goal c e in
    claim_at-is t.rows goal (omega (arith, k.longer, w.0)) ∙ ap Some (k.claims goal w.0 ∙ w.1)

-- goals that wait are there
pub waiting_below : (rows : List GoalRow) (gs : List GoalId) → AllByRecursion (IsWaitingIn rows) gs → AllByRecursion (IsGoalBelow (length rows)) gs
waiting_below rows gs h = all_more (IsWaitingIn rows) (IsGoalBelow (length rows)) gs (λ g x. x.there) h

-- the last one of a list, and those before it
pub all_before : {X : Type 0} (P : X → Type 0) (xs ys : List X) (x : X) → ys ≡ xs ++ x ∷ [] → AllByRecursion P ys → AllByRecursion P xs × P x
all_before {X} P xs ys x e h = split xs (subst (AllByRecursion P) e h)
  where
    split : (zs : List X) → AllByRecursion P (zs ++ x ∷ []) → AllByRecursion P zs × P x
    split [] k = (tt, k.0)
    split (z ∷ zs) k = next k.0 (split zs k.1)
      where
        next : P z → AllByRecursion P zs × P x → AllByRecursion P (z ∷ zs) × P x
        next p q = ((p, q.0), q.1)

pub keeps_goals-same : (t : TableView) → KeepsGoals t t
keeps_goals-same t = record { longer = omega arith; claims = λ i lt. refl; refuted = λ i s e. e }

-- at most marks have changed
module _ (g h : Goals) (m : IsMarking g h) where
  row_same : (P : GoalRow → Type 0) (i : ℕ) → ((b : Bool) → P (with_mark b (row_at g.rows.items i))) → P (row_at h.rows.items i)
  row_same P i f = subst P (sym (m.rows.same i)) (f (row_at h.rows.items i).settled)

  pub marking_same : SameGoals g.rows.items h.rows.items
  marking_same = record {
    count = m.rows.count;
    claims = λ i. ap claim_of (m.rows.same i);
    dependents = λ i. ap (λ (r : GoalRow). r.dependents) (m.rows.same i);
  }

  standing_is : (i : ℕ) → (row_at h.rows.items i).standing ≡ (row_at g.rows.items i).standing
  standing_is i = ap (λ (r : GoalRow). r.standing) (m.rows.same i)

  choices_are : (i : ℕ) → (row_at h.rows.items i).choices ≡ (row_at g.rows.items i).choices
  choices_are i = ap (λ (r : GoalRow). r.choices) (m.rows.same i)

  broken_is : (i : ℕ) → (row_at h.rows.items i).broken ≡ (row_at g.rows.items i).broken
  broken_is i = ap (λ (r : GoalRow). r.broken) (m.rows.same i)

  pub marking_kept : KeepsGoals (view_of g) (view_of h)
  marking_kept = record {
    longer = let c = m.rows.count in omega arith;
    claims = λ i lt. ap claim_of (m.rows.same i);
    refuted = λ i seq e. standing_is i ∙ e;
  }

  pub marking_made : (first : ℕ) → AreMadeFrom first g.rows.items → AreMadeFrom first h.rows.items
  marking_made first made i le lt = subst IsInOrder (sym (ap (λ (r : GoalRow). r.rights) (m.rows.same i))) (made i le (let c = m.rows.count in omega arith))

  view_is : record { rows = h.rows.items; nodes = g.nodes.items; links = g.links.items } ≡ view_of h
  view_is =
      ap (λ (ns : List ChoiceNode). record { rows = h.rows.items; nodes = ns; links = g.links.items }) (sym m.nodes)
      ∙ ap (λ (ls : List Link). record { rows = h.rows.items; nodes = h.nodes.items; links = ls }) (sym m.links)

  pub marking_whole : IsWhole g → IsWhole h
  marking_whole w =
      let k = whole_same g.rows.items h.rows.items g.nodes.items g.links.items g.found marking_same w.index w.links w.nodes in
      record {
        index = subst (λ f. IsIndexed f h.rows.items) (sym m.found) k.0;
        links = subst (AreLinked h.rows.items) (sym m.links) k.1;
        nodes = subst (AreNodes h.rows.items) (sym m.nodes) k.2;
      }

  module _ (a : Automaton) (ds : List Document) where
    abbrev marked : TableView
    marked = record { rows = h.rows.items; nodes = g.nodes.items; links = g.links.items }

    still_open : (n : ℕ) → ¬ (IsRefuted g.rows.items n) → ¬ (IsRefuted h.rows.items n)
    still_open n not x = not (x.0, sym (standing_is n) ∙ x.1)

    pub marking_stands : StaySettled (view_of h) → FactsOn a ds (view_of g) → FactsOn a ds (view_of h)
    marking_stands settled s = subst (FactsOn a ds) view_is
        (stands_same a g.rows.items h.rows.items g.nodes.items g.links.items marking_same ds s
        (λ i place k e. s.facts.choices i place k (was i place k e))
        (λ i seq e. s.refuted i seq (sym (standing_is i) ∙ e))
        (λ i n. subst (λ (ks : List Choice). IsBegun a (claim_of (row_at g.rows.items i)) ks) (sym (choices_are i)) (s.facts.begun i (λ e. n (choices_are i ∙ e))))
        (λ i. ap length (broken_is i) ∙ s.facts.flags i ∙ sym (ap length (choices_are i)))
        (λ i place k e u.
        open_same a g.rows.items h.rows.items g.nodes.items g.links.items marking_same (goal_case i place) (claim_of (row_at g.rows.items i)) k (λ n l x. still_open n x)
        (s.facts.choices i place k (was i place k e)) (s.facts.unbroken i place k (was i place k e) (subst (λ (flags : List Bool). slice_get flags place ≡ Some false) (broken_is i) u)))
        (λ i e.
        subst (λ (ks : List Choice). RowHolds a marked (claim_of (row_at g.rows.items i)) ks) (sym (choices_are i))
        (holds_same a g.rows.items h.rows.items g.nodes.items g.links.items marking_same i (claim_of (row_at g.rows.items i)) (row_at g.rows.items i).choices (λ place n l x. still_open n x)
        (s.facts.choices i) (s.facts.holds i (sym (standing_is i) ∙ e))))
        (subst StaySettled (sym view_is) settled))
      where
        was : (i place : ℕ) (k : Choice) → slice_get (row_at h.rows.items i).choices place ≡ Some k → slice_get (row_at g.rows.items i).choices place ≡ Some k
        was i place k e = subst (λ (ks : List Choice). slice_get ks place ≡ Some k) (choices_are i) e

-- what stands after at most marks have changed
pub after_marks : (a : Automaton) (ds es : List Document) (first g h : Goals) → Progresses a ds es first g → IsMarking g h → StaySettled (view_of h) → Progresses a ds es first h
after_marks a ds es first g h p m settled = record {
  whole = marking_whole g h m p.whole;
  stands = marking_stands g h m a es settled p.stands;
  kept = keeps_goals-then (view_of first) (view_of g) (view_of h) p.kept (marking_kept g h m);
  keeps = p.keeps;
  made = marking_made g h m (length first.rows.items) p.made;
}
