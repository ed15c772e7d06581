-- The facts of a table when the row of a goal changes, and when one is refuted.
use Rattle.std.proofs.Common.{ℕ, ◌<◌, ◌≡◌, ◌⊎◌, Bool, true, false, inl, inr, List, [], length, set, get_or-set_same, get_or-set_other, length-set, Option, Some, ⊎_elim, sym, refl, ap, subst, ◌∙◌, arith}
use Rattle.std.specs.List.{slice_get, AllByRecursion}
use Rattle.std.specs.Option.{option_map}
use Rattle.std.proofs.lemmas.Bool.{cases_lt, cases_eq}
use Rattle.std.proofs.lemmas.Option.{slice_get_past}
use Rattle.xd_doc.specs.Document.{Document}
use Rattle.xd_doc.specs.declared.store.Seq.{Seq}
use Rattle.xd_doc.proofs.Lists.{all_more}
use Rattle.xd_auto.specs.declared.auto.State.{State}
use Rattle.xd_auto.specs.Automaton.{Automaton}
use Rattle.xd_rules.specs.Rules.{Claim, ChoiceTree, settles_content, settles_rest, split_on}
use Rattle.xd_rules.specs.Meaning.{AllLeaves}
use Rattle.xd_state_heads.specs.Moves.{AreBelow, claim_with}
use Rattle.xd_goals.specs.Rows.{GoalRow, TableView, no_row, row_at, claim_of, claim_at, goal_case, IsListed, IsRefuted, IsUnbroken, Leads, RowsBelow}
use Rattle.xd_goals.specs.Kept.{IsInDoubt, IsSeenTo, Refutes}
use Rattle.xd_goals.specs.Standing.{IsBegun, IsOpen, IsSeparatedBy}
use Rattle.xd_goals.specs.Facts.{ChoiceStands, RowHolds, FactsOn, IsSettledRow, LeadsToSettled, StaySettled}
use Rattle.xd_goals.specs.declared.table.Choice.{Choice}
use Rattle.xd_goals.specs.declared.table.ChoiceNode.{ChoiceNode}
use Rattle.xd_goals.specs.declared.table.GoalCase.{GoalCase}
use Rattle.xd_goals.specs.declared.table.Link.{Link}
use Rattle.xd_goals.specs.declared.table.Standing.{Standing}
use Rattle.xd_goals.specs.declared.table.Standing.TheVariants.{Holds, Refuted, Waiting}
use Rattle.xd_rules.proofs.Lists.{all_at, all_places}
use Rattle.xd_goals.proofs.GrowsByLemmas.{claim_at-is}
use Rattle.xd_goals.proofs.Trees.{AllLeaves-map, StandsAt-one}
use Rattle.xd_goals.proofs.Claims.{same_kinds}

-- the same goals, with the same dependents, and as many
pub record SameGoals (old new : List GoalRow) : Type 0 where
  pub count : length new ≡ length old
  pub claims : (i : ℕ) → claim_of (row_at new i) ≡ claim_of (row_at old i)
  pub dependents : (i : ℕ) → (row_at new i).dependents ≡ (row_at old i).dependents

pub same_claim_at : (old new : List GoalRow) → SameGoals old new → (g : ℕ) → claim_at new g ≡ claim_at old g
same_claim_at old new h g = ⊎_elim
    (λ lt. claim_at-is new g (omega (arith, h.count)) ∙ ap Some (h.claims g) ∙ sym (claim_at-is old g lt))
    (λ ge. ap (option_map claim_of) (slice_get_past new g (omega (arith, h.count))) ∙ sym (ap (option_map claim_of) (slice_get_past old g ge)))
    (cases_lt g (length old))

module _ (a : Automaton) (old new : List GoalRow) (nodes : List ChoiceNode) (links : List Link) (same : SameGoals old new) where
  abbrev before : TableView
  before = record { rows = old; nodes = nodes; links = links }

  abbrev after : TableView
  after = record { rows = new; nodes = nodes; links = links }

  listed_same : (on : ℕ) (owner : GoalCase) → IsListed before on owner → IsListed after on owner
  listed_same on owner l = subst (λ (o : Option ℕ). Leads links owner o) (sym (same.dependents on)) l

  pub choice_same : (owner : GoalCase) (c : Claim State) (k : Choice) → ChoiceStands a before owner c k → ChoiceStands a after owner c k
  choice_same owner c k h = record {
    head = h.head;
    found = h.found;
    matched = h.matched;
    has = record {
      tree = h.has.tree;
      stands = h.has.stands;
      kind = same_kinds a old new (same_claim_at old new same) owner c h.head k.atom h.has.tree h.has.kind;
      listed = AllLeaves-map (λ g. IsListed before g owner) (λ g. IsListed after g owner) (λ g l. listed_same g owner l) h.has.tree h.has.listed;
    };
  }

  states_same : (n : ℕ) → RowsBelow n old → RowsBelow n new
  states_same n h = record {
    each = λ i lt. let r = h.each i (omega (arith, same.count)) in record {
      left = subst (λ (c : Claim State). c.left.number < n) (sym (same.claims i)) r.left;
      rights = subst (λ (c : Claim State). AreBelow n c.rights) (sym (same.claims i)) r.rights;
    };
  }

  unlike_same : ((i j : ℕ) → i < length old → j < length old → claim_of (row_at old i) ≡ claim_of (row_at old j) → i ≡ j)
      → (i j : ℕ) → i < length new → j < length new → claim_of (row_at new i) ≡ claim_of (row_at new j) → i ≡ j
  unlike_same h i j li lj e = h i j (omega (arith, same.count)) (omega (arith, same.count)) (sym (same.claims i) ∙ e ∙ same.claims j)

  -- the facts stay, where the choices of each goal are known, and what is newly refuted, in doubt,
  -- and what still holds
  pub stands_same : (ds : List Document) → FactsOn a ds before
      → ((i place : ℕ) (k : Choice) → slice_get (row_at new i).choices place ≡ Some k → ChoiceStands a before (goal_case i place) (claim_of (row_at old i)) k)
      → ((i : ℕ) (seq : Seq) → (row_at new i).standing ≡ Refuted seq → IsSeparatedBy a ds (claim_of (row_at old i)) seq)
      → ((i : ℕ) → ¬ ((row_at new i).choices ≡ []) → IsBegun a (claim_of (row_at old i)) (row_at new i).choices)
      → ((i : ℕ) → length (row_at new i).broken ≡ length (row_at new i).choices)
      → ((i place : ℕ) (k : Choice) → slice_get (row_at new i).choices place ≡ Some k → IsUnbroken (row_at new i) place → IsOpen after k)
      → ((i : ℕ) → (row_at new i).standing ≡ Holds → RowHolds a after (claim_of (row_at old i)) (row_at new i).choices)
      → StaySettled after
      → FactsOn a ds after
  stands_same ds h choices refuted begun flags unbroken holds settled = record {
    facts = record {
      states = states_same (length a) h.facts.states;
      unlike = unlike_same h.facts.unlike;
      choices = λ i place k e. subst (λ (c : Claim State). ChoiceStands a after (goal_case i place) c k) (sym (same.claims i))
          (choice_same (goal_case i place) (claim_of (row_at old i)) k (choices i place k e));
      begun = λ i n. subst (λ (c : Claim State). IsBegun a c (row_at new i).choices) (sym (same.claims i)) (begun i n);
      flags = flags;
      unbroken = unbroken;
      holds = λ i e. subst (λ (c : Claim State). RowHolds a after c (row_at new i).choices) (sym (same.claims i)) (holds i e);
      settled = settled;
    };
    refuted = λ i seq e. subst (λ (c : Claim State). IsSeparatedBy a ds c seq) (sym (same.claims i)) (refuted i seq e);
  }

  -- choices that lead to settled goals alone do so still, where marks stay
  pub leads_same : ((g : ℕ) → (row_at old g).settled ≡ true → (row_at new g).settled ≡ true) → (ks : List Choice) → AllByRecursion (LeadsToSettled before) ks → AllByRecursion (LeadsToSettled after) ks
  leads_same keep ks h =
      all_more (LeadsToSettled before) (LeadsToSettled after) ks (λ k x tree is. AllLeaves-map (λ g. (row_at old g).settled ≡ true) (λ g. (row_at new g).settled ≡ true) keep tree (x tree is)) h

  -- trees whose leaves are neither refuted before nor the goal that is refuted now
  pub open_same : (owner : GoalCase) (c : Claim State) (k : Choice) → ((g : ℕ) → IsListed before g owner → ¬ (IsRefuted old g) → ¬ (IsRefuted new g)) → ChoiceStands a before owner c k → IsOpen before k → IsOpen after k
  open_same owner c k f h o tree s =
      let is : h.has.tree ≡ tree = StandsAt-one nodes h.has.tree tree k.root h.has.stands s in
      subst (λ (w : ChoiceTree). AllLeaves (λ n. ¬ (IsRefuted new n)) w) is (both h.has.tree h.has.listed (o h.has.tree h.has.stands))
    where
      both : (w : ChoiceTree) → AllLeaves (λ g. IsListed before g owner) w → AllLeaves (λ g. ¬ (IsRefuted old g)) w → AllLeaves (λ g. ¬ (IsRefuted new g)) w
      both (settles_content g) l n = f g l n
      both (settles_rest g) l n = f g l n
      both (split_on j x y) l n = (both x l.0 n.0, both y l.1 n.1)

  pub holds_same : (i : ℕ) (c : Claim State) (ks : List Choice) → ((place g : ℕ) → IsListed before g (goal_case i place) → ¬ (IsRefuted old g) → ¬ (IsRefuted new g))
      → ((place : ℕ) (k : Choice) → slice_get ks place ≡ Some k → ChoiceStands a before (goal_case i place) c k)
      → RowHolds a before c ks → RowHolds a after c ks
  holds_same i c ks f h r = record {
    begun = r.begun;
    opens = all_places (IsOpen after) ks (λ place k e. open_same (goal_case i place) c k (λ g l n. f place g l n) (h place k e) (all_at (IsOpen before) ks place k r.opens e));
  }

-- after a refutation
module _ (a : Automaton) (ds : List Document) (old new : List GoalRow) (nodes : List ChoiceNode) (links : List Link) (goal : ℕ) (seq : Seq) (r : Refutes links goal seq old new) where
  pub refutes_same : SameGoals old new
  refutes_same = record {
    count = r.count;
    claims = λ i. ap (λ (s : State). claim_with s (row_at new i).rights) (r.same i).left ∙ ap (λ (ss : List State). claim_with (row_at old i).left ss) (r.same i).rights;
    dependents = λ i. (r.same i).dependents;
  }

  was_refuted : (i : ℕ) (s : Seq) → ¬ (i ≡ goal) → (row_at new i).standing ≡ Refuted s → (row_at old i).standing ≡ Refuted s
  was_refuted i s ne e = ⊎_elim (λ k. sym k ∙ e) (λ w. let x = w.1 in absurd (cc)) (r.others i ne)

  held : (i : ℕ) → (row_at new i).standing ≡ Holds → (¬ (i ≡ goal)) × ((row_at old i).standing ≡ Holds)
  held i e = ⊎_elim
      (λ q. let x = ap (λ (k : ℕ). (row_at new k).standing) q ∙ r.goal_is in absurd (cc))
      (λ ne. (ne, ⊎_elim (λ k. sym k ∙ e) (λ w. w.0) (r.others i ne)))
      (cases_eq i goal)

  -- settled goals stay so
  settled_still : StaySettled (record { rows = old; nodes = nodes; links = links }) → (row_at old goal).standing ≡ Waiting → StaySettled (record { rows = new; nodes = nodes; links = links })
  settled_still h waits i e =
      let was = h i (sym (r.same i).settled ∙ e) in
      record {
        holds = ⊎_elim
            (λ q. let x = ap (λ (k : ℕ). (row_at old k).standing) q in let y = was.holds in absurd (cc))
            (λ ne. ⊎_elim (λ k. k ∙ was.holds) (λ w. let x = w.2 in let y = (r.same i).settled in absurd (cc)) (r.others i ne))
            (cases_eq i goal);
        leads = subst (λ (ks : List Choice). AllByRecursion (LeadsToSettled (record { rows = new; nodes = nodes; links = links })) ks) (sym (r.same i).choices)
            (leads_same a old new nodes links refutes_same (λ g x. (r.same g).settled ∙ x) (row_at old i).choices was.leads);
      }

  pub stands-refuted : (row_at old goal).standing ≡ Waiting → IsSeparatedBy a ds (claim_of (row_at old goal)) seq → FactsOn a ds (record { rows = old; nodes = nodes; links = links }) → FactsOn a ds (record { rows = new; nodes = nodes; links = links })
  stands-refuted waits doc h =
      stands_same a old new nodes links refutes_same ds h
      (λ i place k e. h.facts.choices i place k (was_choice i place k e))
      (λ i s e. ⊎_elim
      (λ q.
      let x : (row_at new i).standing ≡ Refuted seq = ap (λ (k : ℕ). (row_at new k).standing) q ∙ r.goal_is in
      let ss : seq ≡ s = refuted_one (row_at new i).standing seq s x e in
      subst (λ (w : Seq). IsSeparatedBy a ds (claim_of (row_at old i)) w) ss (subst (λ (k : ℕ). IsSeparatedBy a ds (claim_of (row_at old k)) seq) (sym q) doc))
      (λ ne. h.refuted i s (was_refuted i s ne e))
      (cases_eq i goal))
      (λ i n. subst (λ (ks : List Choice). IsBegun a (claim_of (row_at old i)) ks) (sym (r.same i).choices) (h.facts.begun i (λ e. n ((r.same i).choices ∙ e))))
      (λ i. (r.same i).flags ∙ h.facts.flags i ∙ sym (ap length (r.same i).choices))
      (λ i place k e u.
      let was = was_choice i place k e in
      ⊎_elim
      (λ mark. settled_open i place k mark e)
      (λ unmarked.
      open_same a old new nodes links refutes_same (goal_case i place) (claim_of (row_at old i)) k
      (λ g l n x. still_open g n x (λ q. (in_doubt i place unmarked (r.dependents (goal_case i place) (subst (λ (m : ℕ). Leads links (goal_case i place) (row_at old m).dependents) q l))).broken u))
      (h.facts.choices i place k was) (h.facts.unbroken i place k was ((r.same i).unbroken place u)))
      (cases_bool (row_at new i).settled))
      (λ i e.
      let w = held i e in
      subst (λ (ks : List Choice). RowHolds a (record { rows = new; nodes = nodes; links = links }) (claim_of (row_at old i)) ks) (sym (r.same i).choices)
      (⊎_elim
      (λ mark. record {
        begun = (h.facts.holds i w.1).begun;
        opens = all_places (IsOpen after_) (row_at old i).choices (λ place k x. settled_open i place k mark (subst (λ (ks : List Choice). slice_get ks place ≡ Some k) (sym (r.same i).choices) x));
      })
      (λ unmarked.
      holds_same a old new nodes links refutes_same i (claim_of (row_at old i)) (row_at old i).choices
      (λ place g l n x. still_open g n x (λ q. (in_doubt i place unmarked (r.dependents (goal_case i place) (subst (λ (m : ℕ). Leads links (goal_case i place) (row_at old m).dependents) q l))).settled e))
      (λ place k x. h.facts.choices i place k x) (h.facts.holds i w.1))
      (cases_bool (row_at new i).settled)))
      (settled_still h.facts.settled waits)
    where
      after_ : TableView
      after_ = record { rows = new; nodes = nodes; links = links }

      cases_bool : (b : Bool) → (b ≡ true) ⊎ (b ≡ false)
      cases_bool true = inl refl
      cases_bool false = inr refl

      in_doubt : (i place : ℕ) → (row_at new i).settled ≡ false → IsSeenTo (row_at new i) place → IsInDoubt (row_at new i) place
      in_doubt i place unmarked (inl mark) = absurd (cc)
      in_doubt i place unmarked (inr d) = d

      -- no leaf of a settled goal names a refuted one
      settled_open : (i place : ℕ) (k : Choice) → (row_at new i).settled ≡ true → slice_get (row_at new i).choices place ≡ Some k → IsOpen after_ k
      settled_open i place k mark e tree is =
          let stay = settled_still h.facts.settled waits in
          AllLeaves-map (λ g. (row_at new g).settled ≡ true) (λ g. ¬ (IsRefuted new g)) (λ g m x. let held = (stay g m).holds in let w = x.1 in absurd (cc)) tree
          (all_at (LeadsToSettled after_) (row_at new i).choices place k (stay i mark).leads e tree is)

      refuted_one : (s : Standing) (x y : Seq) → s ≡ Refuted x → s ≡ Refuted y → x ≡ y
      refuted_one s x y e f = cc

      was_choice : (i place : ℕ) (k : Choice) → slice_get (row_at new i).choices place ≡ Some k → slice_get (row_at old i).choices place ≡ Some k
      was_choice i place k e = subst (λ (ks : List Choice). slice_get ks place ≡ Some k) (r.same i).choices e

      -- a goal that is refuted only now is the one that was
      still_open : (g : ℕ) → ¬ (IsRefuted old g) → IsRefuted new g → ¬ (g ≡ goal) → ⊥
      still_open g n x ne = n (x.0, was_refuted g x.0 ne x.1)

-- after the row of a goal that waits was changed
module _ (a : Automaton) (ds : List Document) (old : List GoalRow) (nodes : List ChoiceNode) (links : List Link) (goal : ℕ) (row : GoalRow) (lt : goal < length old)
    (claim : claim_of row ≡ claim_of (row_at old goal)) (dependents : row.dependents ≡ (row_at old goal).dependents) (unrefuted : (seq : Seq) → ¬ (row.standing ≡ Refuted seq)) where
  abbrev new_rows : List GoalRow
  new_rows = set old goal row

  by_row : (P : ℕ → GoalRow → Type 0) → P goal row → ((i : ℕ) → ¬ (i ≡ goal) → P i (row_at old i)) → (i : ℕ) → P i (row_at new_rows i)
  by_row P here_ other i = ⊎_elim
      (λ q. subst (λ (k : ℕ). P k (row_at new_rows k)) (sym q) (subst (P goal) (sym (get_or-set_same old goal row no_row lt)) here_))
      (λ ne. subst (P i) (sym (get_or-set_other old goal i row no_row ne)) (other i ne))
      (cases_eq i goal)

  pub changed_same : SameGoals old new_rows
  changed_same = record {
    count = length-set old goal row;
    claims = by_row (λ i r. claim_of r ≡ claim_of (row_at old i)) claim (λ i ne. refl);
    dependents = by_row (λ i r. r.dependents ≡ (row_at old i).dependents) dependents (λ i ne. refl);
  }

  still_open : (g : ℕ) → ¬ (IsRefuted old g) → ¬ (IsRefuted new_rows g)
  still_open g = by_row (λ k r. ¬ (IsRefuted old k) → ¬ ((s : Seq) × (r.standing ≡ Refuted s))) (λ n x. unrefuted x.0 x.1) (λ k ne n x. n x) g

  pub stands-changed : ((place : ℕ) (k : Choice) → slice_get row.choices place ≡ Some k → ChoiceStands a (record { rows = old; nodes = nodes; links = links }) (goal_case goal place) (claim_of (row_at old goal)) k)
      → (¬ (row.choices ≡ []) → IsBegun a (claim_of (row_at old goal)) row.choices)
      → length row.broken ≡ length row.choices
      → ((place : ℕ) (k : Choice) → slice_get row.choices place ≡ Some k → IsUnbroken row place → IsOpen (record { rows = old; nodes = nodes; links = links }) k)
      → (row.standing ≡ Holds → RowHolds a (record { rows = old; nodes = nodes; links = links }) (claim_of (row_at old goal)) row.choices)
      → (row_at old goal).standing ≡ Waiting → row.settled ≡ (row_at old goal).settled
      → FactsOn a ds (record { rows = old; nodes = nodes; links = links }) → FactsOn a ds (record { rows = new_rows; nodes = nodes; links = links })
  stands-changed stand begun flags unbroken holds waits mark h =
      stands_same a old new_rows nodes links changed_same ds h
      (by_row (λ i r. (place : ℕ) (k : Choice) → slice_get r.choices place ≡ Some k → ChoiceStands a (record { rows = old; nodes = nodes; links = links }) (goal_case i place) (claim_of (row_at old i)) k)
      stand (λ i ne. h.facts.choices i))
      (by_row (λ i r. (seq : Seq) → r.standing ≡ Refuted seq → IsSeparatedBy a ds (claim_of (row_at old i)) seq) (λ seq e. absurd (unrefuted seq e)) (λ i ne seq e. h.refuted i seq e))
      (by_row (λ i r. ¬ (r.choices ≡ []) → IsBegun a (claim_of (row_at old i)) r.choices) begun (λ i ne n. h.facts.begun i n))
      (by_row (λ i r. length r.broken ≡ length r.choices) flags (λ i ne. h.facts.flags i))
      (by_row (λ i r. (place : ℕ) (k : Choice) → slice_get r.choices place ≡ Some k → IsUnbroken r place → IsOpen (record { rows = new_rows; nodes = nodes; links = links }) k)
      (λ place k e u. open_now goal place k (stand place k e) (unbroken place k e u))
      (λ i ne place k e u. open_now i place k (h.facts.choices i place k e) (h.facts.unbroken i place k e u)))
      (by_row (λ i r. r.standing ≡ Holds → RowHolds a (record { rows = new_rows; nodes = nodes; links = links }) (claim_of (row_at old i)) r.choices)
      (λ e. holds_same a old new_rows nodes links changed_same goal (claim_of (row_at old goal)) row.choices (λ place g l n. still_open g n) stand (holds e))
      (λ i ne e. holds_same a old new_rows nodes links changed_same i (claim_of (row_at old i)) (row_at old i).choices (λ place g l n. still_open g n) (h.facts.choices i) (h.facts.holds i e)))
      (by_row (λ i r. r.settled ≡ true → IsSettledRow (record { rows = new_rows; nodes = nodes; links = links }) r)
      (λ e. let was = (h.facts.settled goal (sym mark ∙ e)).holds in absurd (cc))
      (λ i ne e. let was = h.facts.settled i e in record { holds = was.holds; leads = leads_same a old new_rows nodes links changed_same keep_mark (row_at old i).choices was.leads }))
    where
      keep_mark : (g : ℕ) → (row_at old g).settled ≡ true → (row_at new_rows g).settled ≡ true
      keep_mark g = by_row (λ k r. (row_at old k).settled ≡ true → r.settled ≡ true) (λ e. mark ∙ e) (λ k ne e. e) g

      open_now : (i place : ℕ) (k : Choice) → ChoiceStands a (record { rows = old; nodes = nodes; links = links }) (goal_case i place) (claim_of (row_at old i)) k
          → IsOpen (record { rows = old; nodes = nodes; links = links }) k → IsOpen (record { rows = new_rows; nodes = nodes; links = links }) k
      open_now i place k x o = open_same a old new_rows nodes links changed_same (goal_case i place) (claim_of (row_at old i)) k (λ g l n. still_open g n) x o
