-- What the repair of a case does to a table.
use Rattle.std.proofs.Common.{ℕ, ◌<◌, ◌≡◌, Bool, false, List, [], length, map, set, get_or-set_same, get_or-set_other, length-set, Option, Some, None, ⊎_elim, sym, refl, ap, subst, ◌∙◌, arith}
use Rattle.std.specs.List.{slice_get}
use Rattle.std.proofs.lemmas.Bool.{cases_eq}
use Rattle.std.proofs.lemmas.Option.{slice_get_within}
use Rattle.xd_doc.specs.Document.{Document}
use Rattle.xd_doc.specs.declared.store.Seq.{Seq}
use Rattle.xd_doc.proofs.Lists.{none_of}
use Rattle.xd_auto.specs.declared.auto.State.{State}
use Rattle.xd_auto.specs.Automaton.{Automaton}
use Rattle.xd_rules.specs.Rules.{Claim}
use Rattle.xd_goals.specs.Rows.{GoalRow, TableView, choice_key, claim_of, goal_case, no_row, row_at, IsUnbroken}
use Rattle.xd_goals.specs.Kept.{AreLinked, AreNodes, Grows, IsConsistent, IsIndexed, view_of, with_choice, with_standing}
use Rattle.xd_goals.specs.declared.goals.Goals.{Goals}
use Rattle.xd_goals.specs.Standing.{IsBegun, IsOpen}
use Rattle.xd_goals.specs.Facts.{ChoiceStands, FactsOn, FactsOnAutomaton}
use Rattle.xd_goals.specs.Cases.{IsMended, IsMending, IsOpenChoice}
use Rattle.xd_goals.specs.declared.work.Failure.{Failure}
use Rattle.xd_goals.specs.Measure.{Lowers}
use Rattle.xd_goals.specs.declared.table.Choice.{Choice}
use Rattle.xd_goals.specs.declared.table.ChoiceNode.{ChoiceNode}
use Rattle.xd_goals.specs.declared.table.GoalCase.{GoalCase}
use Rattle.xd_goals.specs.declared.table.Link.{Link}
use Rattle.xd_goals.specs.declared.table.Standing.TheVariants.{Holds, Refuted, Waiting}
use Rattle.xd_rules.proofs.Lists.{all_places, none_at, set_at, set_here, set_other, set_there, set-map}
use Rattle.xd_goals.proofs.Trees.{broken-grows, choices-grows, standing-grows}
use Rattle.xd_goals.proofs.Facts.{keeps_goals-grows, keeps_goals-then}
use Rattle.xd_goals.proofs.PotentialLemmas.{level-changed, made-grows, made-then, potential-grows}
use Rattle.xd_goals.proofs.ChoiceStandsLemmas.{SameGoals, changed_same, stands-changed}
use Rattle.xd_goals.proofs.FactsOnLemmas.{IsStep, keeps_goals-same, none_added, none_made, owner_claim, same_held, stands_grown, step_held, whole_same}

pub mending-same : (goal : ℕ) (t : TableView) → IsMending goal t t
mending-same goal t = record {
  kept = keeps_goals-same t;
  made = none_added t.rows;
  level = λ n. omega arith;
  standing = refl;
  flags = refl;
  unbroken = λ place u. u;
}

pub mending-then : (goal : ℕ) (s t u : TableView) → IsMending goal s t → IsMending goal t u → IsMending goal s u
mending-then goal s t u h k = record {
  kept = keeps_goals-then s t u h.kept k.kept;
  made = made-then (length s.rows) t u k.kept h.made k.made;
  level = λ n. omega (arith, h.level n, k.level n);
  standing = k.standing ∙ h.standing;
  flags = k.flags ∙ h.flags;
  unbroken = λ place b. k.unbroken place (h.unbroken place b);
}

pub mending-grows : (goal : ℕ) (s t : TableView) → Grows s t → IsMending goal s t
mending-grows goal s t g = record {
  kept = keeps_goals-grows s t g;
  made = made-grows s t g;
  level = λ n. potential-grows s t g n;
  standing = standing-grows s t g goal;
  flags = ap length (broken-grows s t g goal);
  unbroken = λ place b. subst (λ (flags : List Bool). slice_get flags place ≡ Some false) (sym (broken-grows s t g goal)) b;
}

-- a case gets an open tree
module _ (a : Automaton) (ds : List Document) (rows : List GoalRow) (nodes : List ChoiceNode) (links : List Link) (goal place : ℕ) (k : Choice) (root : ℕ) (lt : goal < length rows) (waits : (row_at rows goal).standing ≡ Waiting)
    (found : slice_get (row_at rows goal).choices place ≡ Some k) (stands : FactsOn a ds (record { rows = rows; nodes = nodes; links = links })) where
  abbrev before : TableView
  before = record { rows = rows; nodes = nodes; links = links }

  abbrev changed : Choice
  changed = record k { root = root }

  abbrev row : GoalRow
  row = with_choice place (record k { root = root }) (row_at rows goal)

  abbrev after : TableView
  after = record { rows = set rows goal (with_choice place (record k { root = root }) (row_at rows goal)); nodes = nodes; links = links }

  unrefuted : (seq : Seq) → ¬ ((row_at rows goal).standing ≡ Refuted seq)
  unrefuted seq e = cc

  pub same_mended : SameGoals rows (set rows goal (with_choice place (record k { root = root }) (row_at rows goal)))
  same_mended = changed_same a ds rows nodes links goal row lt refl refl unrefuted

  row_is : row_at (set rows goal row) goal ≡ row
  row_is = get_or-set_same rows goal row no_row lt

  keys_same : map choice_key (set (row_at rows goal).choices place changed) ≡ map choice_key (row_at rows goal).choices
  keys_same = set-map choice_key (row_at rows goal).choices place k changed found refl

  begun_same : IsBegun a (claim_of (row_at rows goal)) (set (row_at rows goal).choices place changed)
  begun_same =
      let b = stands.facts.begun goal (λ z. none_at (row_at rows goal).choices place k z found) in
      record { last = b.last; complete = keys_same ∙ b.complete }

  module _ (opens : IsOpenChoice a (record { rows = rows; nodes = nodes; links = links }) (goal_case goal place) (claim_of (row_at rows goal)) (record k { root = root })) where
    pub stands-mended : FactsOn a ds (record { rows = set rows goal (with_choice place (record k { root = root }) (row_at rows goal)); nodes = nodes; links = links })
    stands-mended =
        stands-changed a ds rows nodes links goal row lt refl refl unrefuted
        (λ p x e. ⊎_elim
        (λ q. at_place p x q e (λ (w : Choice). ChoiceStands a before (goal_case goal p) (claim_of (row_at rows goal)) w)
        (subst (λ (n : ℕ). ChoiceStands a before (goal_case goal n) (claim_of (row_at rows goal)) changed) (sym q) opens.stands))
        (λ ne. stands.facts.choices goal p x (set_there (row_at rows goal).choices place p changed x ne e))
        (cases_eq p place))
        (λ n. begun_same)
        (length-set (row_at rows goal).broken place false ∙ stands.facts.flags goal ∙ sym (length-set (row_at rows goal).choices place changed))
        (λ p x e u. ⊎_elim
        (λ q. at_place p x q e (λ (w : Choice). IsOpen before w) opens.opens)
        (λ ne. stands.facts.unbroken goal p x (set_there (row_at rows goal).choices place p changed x ne e) (set_there (row_at rows goal).broken place p false false ne u))
        (cases_eq p place))
        (λ e. absurd (held e))
        waits refl
        stands
      where
        at_place : (p : ℕ) (x : Choice) → p ≡ place → slice_get (set (row_at rows goal).choices place changed) p ≡ Some x → (P : Choice → Type 0) → P changed → P x
        at_place p x q e P h =
            subst P (set_here (row_at rows goal).choices place changed x (subst (λ (n : ℕ). slice_get (set (row_at rows goal).choices place changed) n ≡ Some x) q e)) h

        held : (row_at rows goal).standing ≡ Holds → ⊥
        held e = cc

  pub mending-root : IsMending goal (record { rows = rows; nodes = nodes; links = links }) (record { rows = set rows goal (with_choice place (record k { root = root }) (row_at rows goal)); nodes = nodes; links = links })
  mending-root = record {
    kept = record {
      longer = omega (arith, length-set rows goal row);
      claims = λ i l. same_mended.claims i;
      refuted = λ i s e. refuted_stays i s e;
    };
    made = none_made rows (set rows goal row) same_mended;
    level = λ n. level-changed rows goal row lt n refl;
    standing = ap (λ (r : GoalRow). r.standing) row_is;
    flags = ap (λ (r : GoalRow). length r.broken) row_is ∙ length-set (row_at rows goal).broken place false;
    unbroken = λ p u. subst (λ (r : GoalRow). IsUnbroken r p) (sym row_is) (still_unbroken p u);
  }
    where
      refuted_stays : (i : ℕ) (s : Seq) → (row_at rows i).standing ≡ Refuted s → (row_at (set rows goal row) i).standing ≡ Refuted s
      refuted_stays i s e = ⊎_elim
          (λ q. absurd (unrefuted s (ap (λ (n : ℕ). (row_at rows n).standing) (sym q) ∙ e)))
          (λ ne. ap (λ (r : GoalRow). r.standing) (get_or-set_other rows goal i row no_row ne) ∙ e)
          (cases_eq i goal)

      still_unbroken : (p : ℕ) → IsUnbroken (row_at rows goal) p → slice_get (set (row_at rows goal).broken place false) p ≡ Some false
      still_unbroken p u = ⊎_elim
          (λ q. subst (λ (n : ℕ). slice_get (set (row_at rows goal).broken place false) n ≡ Some false) (sym q)
          (set_at (row_at rows goal).broken place false (slice_get_within (row_at rows goal).broken place false (subst (λ (n : ℕ). slice_get (row_at rows goal).broken n ≡ Some false) q u))))
          (λ ne. set_other (row_at rows goal).broken place p false false ne u)
          (cases_eq p place)

  -- its flag isn't set then
  pub unbroken_now : place < length (row_at rows goal).broken → IsUnbroken (row_at (set rows goal (with_choice place (record k { root = root }) (row_at rows goal))) goal) place
  unbroken_now within = subst (λ (r : GoalRow). IsUnbroken r place) (sym row_is) (set_at (row_at rows goal).broken place false within)

-- a goal that waits, of which no flag is set, comes to hold
module _ (a : Automaton) (ds : List Document) (t : TableView) (goal : ℕ) (lt : goal < length t.rows) (waits : (row_at t.rows goal).standing ≡ Waiting) (stands : FactsOn a ds t) where
  pub same_again : SameGoals t.rows (set t.rows goal (with_standing Holds (row_at t.rows goal)))
  same_again = same_held a ds t.rows t.nodes t.links goal (with_standing Holds (row_at t.rows goal)) lt waits refl refl refl refl

  pub holds_again : ¬ ((row_at t.rows goal).choices ≡ []) → ((place : ℕ) → place < length (row_at t.rows goal).broken → IsUnbroken (row_at t.rows goal) place)
      → IsStep a ds t (record { rows = set t.rows goal (with_standing Holds (row_at t.rows goal)); nodes = t.nodes; links = t.links })
  holds_again begun unbroken =
      step_held a ds t.rows t.nodes t.links goal (with_standing Holds (row_at t.rows goal)) lt waits refl refl refl refl
      (stands.facts.choices goal) (stands.facts.flags goal)
      (record {
        begun = stands.facts.begun goal begun;
        opens = all_places (IsOpen t) (row_at t.rows goal).choices
            (λ place k e. stands.facts.unbroken goal place k e (unbroken place (let n = slice_get_within (row_at t.rows goal).choices place k e in let f = stands.facts.flags goal in omega arith)));
      })
      stands

-- a step after repairs
pub lowers-mended : (goal : ℕ) (s t : TableView) (rows : List GoalRow) → IsMending goal s t → Lowers t.rows rows → Lowers s.rows rows
lowers-mended goal s t rows h l n le = omega (arith, h.level n, l n le)

pub step_mended : (a : Automaton) (ds : List Document) (goal : ℕ) (s t u : TableView) → IsMending goal s t → IsStep a ds t u → IsStep a ds s u
step_mended a ds goal s t u h k = record {
  stands = k.stands;
  kept = keeps_goals-then s t u h.kept k.kept;
  made = made-then (length s.rows) t u k.kept h.made k.made;
  lowers = lowers-mended goal s t u.rows h k.lowers;
}

-- a case was repaired, in a table that grew
module _ (a : Automaton) (ds : List Document) (g h : Goals) (grows : Grows (view_of g) (view_of h)) (consistent : IsConsistent (length a) h) (owner : GoalCase) (c : Claim State) (k : Choice) (root : ℕ) (rows : List GoalRow)
    (lt : owner.goal.number < length g.rows.items) (waits : (row_at g.rows.items owner.goal.number).standing ≡ Waiting) (claim : claim_of (row_at g.rows.items owner.goal.number) ≡ c)
    (found : slice_get (row_at g.rows.items owner.goal.number).choices owner.place ≡ Some k) (stands : FactsOn a ds (view_of g)) (opens : IsOpenChoice a (view_of h) owner c (record k { root = root }))
    (changes : (x : Choice) → slice_get (row_at h.rows.items owner.goal.number).choices owner.place ≡ Some x → rows ≡ set h.rows.items owner.goal.number (with_choice owner.place (record x { root = root }) (row_at h.rows.items owner.goal.number))) where
  there : owner.goal.number < length h.rows.items
  there = omega (arith, grows.longer, lt)

  waits_still : (row_at h.rows.items owner.goal.number).standing ≡ Waiting
  waits_still = standing-grows (view_of g) (view_of h) grows owner.goal.number ∙ waits

  found_still : slice_get (row_at h.rows.items owner.goal.number).choices owner.place ≡ Some k
  found_still = subst (λ (ks : List Choice). slice_get ks owner.place ≡ Some k) (sym (choices-grows (view_of g) (view_of h) grows owner.goal.number)) found

  stands_still : FactsOn a ds (view_of h)
  stands_still = stands_grown a ds g h grows consistent stands

  opens_here : IsOpenChoice a (view_of h) owner (claim_of (row_at h.rows.items owner.goal.number)) (record k { root = root })
  opens_here = subst (λ (x : Claim State). IsOpenChoice a (view_of h) owner x (record k { root = root })) (sym (owner_claim (view_of g) (view_of h) grows owner.goal.number c lt claim)) opens

  is : rows ≡ set h.rows.items owner.goal.number (with_choice owner.place (record k { root = root }) (row_at h.rows.items owner.goal.number))
  is = changes k found_still

  pub repaired_stands : FactsOn a ds (record { rows = rows; nodes = h.nodes.items; links = h.links.items })
  repaired_stands = subst (λ (rs : List GoalRow). FactsOn a ds (record { rows = rs; nodes = h.nodes.items; links = h.links.items })) (sym is)
      (stands-mended a ds h.rows.items h.nodes.items h.links.items owner.goal.number owner.place k root there waits_still found_still stands_still opens_here)

  pub repaired_whole : IsIndexed h.found rows × AreLinked rows h.links.items × AreNodes rows h.nodes.items
  repaired_whole = subst (λ (rs : List GoalRow). IsIndexed h.found rs × AreLinked rs h.links.items × AreNodes rs h.nodes.items) (sym is)
      (whole_same h.rows.items (set h.rows.items owner.goal.number (with_choice owner.place (record k { root = root }) (row_at h.rows.items owner.goal.number))) h.nodes.items h.links.items h.found
      (same_mended a ds h.rows.items h.nodes.items h.links.items owner.goal.number owner.place k root there waits_still found_still stands_still) consistent.index consistent.links consistent.nodes)

  pub repaired_mending : IsMending owner.goal.number (view_of g) (record { rows = rows; nodes = h.nodes.items; links = h.links.items })
  repaired_mending = mending-then owner.goal.number (view_of g) (view_of h) (record { rows = rows; nodes = h.nodes.items; links = h.links.items })
      (mending-grows owner.goal.number (view_of g) (view_of h) grows)
      (subst (λ (rs : List GoalRow). IsMending owner.goal.number (view_of h) (record { rows = rs; nodes = h.nodes.items; links = h.links.items })) (sym is)
      (mending-root a ds h.rows.items h.nodes.items h.links.items owner.goal.number owner.place k root there waits_still found_still stands_still))

  pub repaired_unbroken : IsUnbroken (row_at rows owner.goal.number) owner.place
  repaired_unbroken = subst (λ (rs : List GoalRow). IsUnbroken (row_at rs owner.goal.number) owner.place) (sym is)
      (unbroken_now a ds h.rows.items h.nodes.items h.links.items owner.goal.number owner.place k root there waits_still found_still stands_still
      (let f = stands_still.facts.flags owner.goal.number in let n = slice_get_within (row_at h.rows.items owner.goal.number).choices owner.place k found_still in omega arith))

-- where no case failed, this one was repaired
pub mended_none : (a : Automaton) (ds : List Document) (t : TableView) (owner : GoalCase) (o : Option Failure) → ((f : Failure) → o ≡ Some f → ⊥) → IsMended a ds t owner o → IsUnbroken (row_at t.rows owner.goal.number) owner.place
mended_none a ds t owner None n h = h
mended_none a ds t owner (Some f) n h = absurd (n f refl)

-- a goal that was begun has its choices still
pub begun_still : (a : Automaton) (goal : ℕ) (s t : TableView) → FactsOnAutomaton a s → FactsOnAutomaton a t → IsMending goal s t → ¬ ((row_at s.rows goal).choices ≡ []) → ¬ ((row_at t.rows goal).choices ≡ [])
begun_still a goal s t hs ht m begun e =
    let n = ap length e in let f = hs.flags goal in let g = ht.flags goal in let k = m.flags in
    begun (none_of (row_at s.rows goal).choices (omega arith))

-- all cases were repaired
module _ (a : Automaton) (ds : List Document) (goal : ℕ) (s t : TableView) (lt : goal < length s.rows) (waits : (row_at s.rows goal).standing ≡ Waiting) (begun : ¬ ((row_at s.rows goal).choices ≡ []))
    (was : FactsOnAutomaton a s) (stands : FactsOn a ds t) (m : IsMending goal s t) (unbroken : (place : ℕ) → place < length (row_at t.rows goal).broken → IsUnbroken (row_at t.rows goal) place) where
  pub repaired_same : SameGoals t.rows (set t.rows goal (with_standing Holds (row_at t.rows goal)))
  repaired_same = same_again a ds t goal (omega (arith, m.kept.longer, lt)) (m.standing ∙ waits) stands

  pub repaired_step : IsStep a ds s (record { rows = set t.rows goal (with_standing Holds (row_at t.rows goal)); nodes = t.nodes; links = t.links })
  repaired_step = step_mended a ds goal s t (record { rows = set t.rows goal (with_standing Holds (row_at t.rows goal)); nodes = t.nodes; links = t.links }) m
      (holds_again a ds t goal (omega (arith, m.kept.longer, lt)) (m.standing ∙ waits) stands (begun_still a goal s t was stands.facts m begun) unbroken)
