-- How a table grows.
use Rattle.std.proofs.Common.{ℕ, ◌+◌, ◌<◌, ◌≤◌, ◌≡◌, ◌⊎◌, Bool, true, false, cond, nat_eq, List, [], ◌∷◌, ◌++◌, length, set, get_or-set_same, get_or-set_other, Option, Some, None, inl, inr, ⊎_elim, refl, sym, ap, ◌∙◌, subst, arith, length-append, length-set}
use Rattle.std.specs.List.{slice_get}
use Rattle.std.specs.Option.{option_map}
use Rattle.std.specs.Cmp.Lexicographic.{pointwise}
use Rattle.std.specs.HashMap.{HashMap}
use Rattle.std.proofs.lemmas.List.{get_or_past, get_or_append_left}
use Rattle.std.proofs.lemmas.Option.{slice_get-get_or, slice_get_past}
use Rattle.std.proofs.lemmas.Bool.{cases_eq, cases_lt}
use Rattle.std.proofs.lemmas.Slice.Eq.{bytes_eq-Decides}
use Rattle.std.proofs.Math.Seq.{get_or-append_seam}
use Rattle.xd_doc.specs.StoredSeq.{IsBelow}
use Rattle.xd_doc.proofs.Lists.{there_front, last_at}
use Rattle.xd_auto.specs.declared.auto.State.{State}
use Rattle.xd_auto.proofs.Closed.{same_state}
use Rattle.xd_rules.specs.Rules.{Claim}
use Rattle.xd_state_heads.specs.Moves.{AreBelow, claim_with}
use Rattle.xd_goals.specs.Rows.{GoalRow, TableView, new_row, no_row, row_at, claim_of, claim_at, claim_key, state_numbers, IsListed, Leads, here, behind, IsRowBelow, RowsBelow}
use Rattle.xd_auto.specs.Keys.{found_at}
use Rattle.xd_goals.specs.Kept.{AreLinked, AreThese, BeginsWith, GrowsBy, IsIndexed, IsNew, IsSameButMarks, IsSameGoal}
use Rattle.xd_goals.specs.declared.table.ChoiceNode.{ChoiceNode}
use Rattle.xd_goals.specs.declared.table.GoalCase.{GoalCase}
use Rattle.xd_goals.specs.declared.table.Link.{Link}
use Rattle.xd_rules.proofs.Lists.{slice_get-push_cases}

pub same_goal : (row : GoalRow) → IsSameGoal row row
same_goal row = record { left = refl; rights = refl; standing = refl; choices = refl; broken = refl; settled = refl }

pub same_but_marks : (rows : List GoalRow) → IsSameButMarks rows rows
same_but_marks rows = record { count = refl; same = λ i. refl }

-- a goal that isn't there is new
pub past_is_new : (rows : List GoalRow) (i : ℕ) → length rows ≤ i → IsNew (row_at rows i)
past_is_new rows i le =
    let e : row_at rows i ≡ no_row = get_or_past rows i no_row le in
    record { standing = ap (λ (r : GoalRow). r.standing) e; choices = ap (λ (r : GoalRow). r.choices) e; broken = ap (λ (r : GoalRow). r.broken) e; settled = ap (λ (r : GoalRow). r.settled) e }

pub Leads-append : (links more : List Link) (goal : GoalCase) (first : Option ℕ) → Leads links goal first → Leads (links ++ more) goal first
Leads-append links more goal first (here k l at is) = here k l (there_front links more k l at) is
Leads-append links more goal first (behind k l at h) = behind k l (there_front links more k l at) (Leads-append links more goal l.next h)

pub Grows-same : {A : List State → Type 0} (t : TableView) → GrowsBy A t t
Grows-same t = record {
  longer = omega arith;
  kept = λ i lt. same_goal (row_at t.rows i);
  added = λ i le. past_is_new t.rows i le;
  allowed = λ i le lt. absurd (omega arith);
  nodes = λ n node e. e;
  listed = λ on goal h. h;
}

pub Grows-then : {A : List State → Type 0} (s t u : TableView) → GrowsBy A s t → GrowsBy A t u → GrowsBy A s u
Grows-then {A} s t u h k = record {
  longer = omega (arith, h.longer, k.longer);
  kept = λ i lt. let a = h.kept i lt in let b = k.kept i (omega (arith, h.longer)) in
      record { left = b.left ∙ a.left; rights = b.rights ∙ a.rights; standing = b.standing ∙ a.standing; choices = b.choices ∙ a.choices; broken = b.broken ∙ a.broken; settled = b.settled ∙ a.settled };
  added = λ i le. ⊎_elim
      (λ lt. let b = k.kept i lt in let n = h.added i le in record { standing = b.standing ∙ n.standing; choices = b.choices ∙ n.choices; broken = b.broken ∙ n.broken; settled = b.settled ∙ n.settled })
      (λ ge. k.added i ge) (cases_lt i (length t.rows));
  allowed = λ i le lt. ⊎_elim
      (λ old. subst A (sym (k.kept i old).rights) (h.allowed i le old))
      (λ ge. k.allowed i ge lt) (cases_lt i (length t.rows));
  nodes = λ n node e. k.nodes n node (h.nodes n node e);
  listed = λ on goal l. k.listed on goal (h.listed on goal l);
}

-- as far as other rights are allowed
pub Grows-weaken : (A B : List State → Type 0) (s t : TableView) → ((rights : List State) → A rights → B rights) → GrowsBy A s t → GrowsBy B s t
Grows-weaken A B s t f h = record { longer = h.longer; kept = h.kept; added = h.added; allowed = λ i le lt. f (row_at t.rows i).rights (h.allowed i le lt); nodes = h.nodes; listed = h.listed }

module _ (rows : List GoalRow) (nodes : List ChoiceNode) (links : List Link) where
  abbrev table : TableView
  table = record { rows = rows; nodes = nodes; links = links }

  pub Grows-node : {A : List State → Type 0} (nodes2 : List ChoiceNode) (node : ChoiceNode) → nodes2 ≡ nodes ++ node ∷ [] → GrowsBy A table (record { rows = rows; nodes = nodes2; links = links })
  Grows-node nodes2 node e = record {
    longer = omega arith;
    kept = λ i lt. same_goal (row_at rows i);
    added = λ i le. past_is_new rows i le;
    allowed = λ i le lt. absurd (omega arith);
    nodes = λ n x at. subst (λ (ns : List ChoiceNode). slice_get ns n ≡ Some x) (sym e) (there_front nodes (node ∷ []) n x at);
    listed = λ on goal h. h;
  }

  -- one more goal
  pub row_at-old : (row : GoalRow) (i : ℕ) → i < length rows → row_at (rows ++ row ∷ []) i ≡ row_at rows i
  row_at-old row i lt = get_or_append_left rows (row ∷ []) no_row i lt

  pub row_at-new : (row : GoalRow) → row_at (rows ++ row ∷ []) (length rows) ≡ row
  row_at-new row = get_or-append_seam rows row [] no_row

  length_more : (row : GoalRow) → length (rows ++ row ∷ []) ≡ length rows + 1
  length_more row = length-append rows (row ∷ [])

  place_cases : (i n : ℕ) → i < n + 1 → (i < n) ⊎ (i ≡ n)
  place_cases i n lt = ⊎_elim (λ l. inl l) (λ g. inr (omega arith)) (cases_lt i n)

  abbrev with_row : State → List State → List GoalRow
  with_row left rights = rows ++ new_row left rights ∷ []

  pub Grows-row : (rows2 : List GoalRow) (left : State) (rights : List State) → rows2 ≡ with_row left rights → GrowsBy (AreThese rights) table (record { rows = rows2; nodes = nodes; links = links })
  Grows-row rows2 left rights e = subst (λ (rs : List GoalRow). GrowsBy (AreThese rights) table (record { rows = rs; nodes = nodes; links = links })) (sym e) more
    where
      new_at : (i : ℕ) → length rows ≤ i → IsNew (row_at (with_row left rights) i)
      new_at i le = ⊎_elim
          (λ q. subst (λ (k : ℕ). IsNew (row_at (with_row left rights) k)) (sym q) (subst IsNew (sym (row_at-new (new_row left rights))) (record { standing = refl; choices = refl; broken = refl; settled = refl })))
          (λ ne. past_is_new (with_row left rights) i (omega (arith, length_more (new_row left rights), ne)))
          (cases_eq i (length rows))

      listed_at : (on : ℕ) (goal : GoalCase) → IsListed table on goal → Leads links goal (row_at (with_row left rights) on).dependents
      listed_at on goal h = ⊎_elim
          (λ lt. subst (λ (r : GoalRow). Leads links goal r.dependents) (sym (row_at-old (new_row left rights) on lt)) h)
          (λ ge. no_list (row_at rows on) (get_or_past rows on no_row ge) h)
          (cases_lt on (length rows))
        where
          none_leads : (o : Option ℕ) → o ≡ None → Leads links goal o → ⊥
          none_leads o e (here k l at is) = absurd (cc)
          none_leads o e (behind k l at b) = absurd (cc)

          no_list : (r : GoalRow) → r ≡ no_row → Leads links goal r.dependents → Leads links goal (row_at (with_row left rights) on).dependents
          no_list r q l = absurd (none_leads r.dependents (ap (λ (w : GoalRow). w.dependents) q) l)

      more : GrowsBy (AreThese rights) table (record { rows = with_row left rights; nodes = nodes; links = links })
      more = record {
        longer = omega (arith, length_more (new_row left rights));
        kept = λ i lt. subst (λ (r : GoalRow). IsSameGoal (row_at rows i) r) (sym (row_at-old (new_row left rights) i lt)) (same_goal (row_at rows i));
        added = new_at;
        allowed = λ i le lt. ⊎_elim (λ old. absurd (omega arith))
            (λ q. ap (λ (k : ℕ). (row_at (with_row left rights) k).rights) q ∙ ap (λ (r : GoalRow). r.rights) (row_at-new (new_row left rights)))
            (place_cases i (length rows) (omega (arith, length_more (new_row left rights))));
        nodes = λ n x at. at;
        listed = listed_at;
      }

  pub RowsBelow-row : (rows2 : List GoalRow) (left : State) (rights : List State) → rows2 ≡ with_row left rights → (n : ℕ) → RowsBelow n rows → left.number < n → AreBelow n rights → RowsBelow n rows2
  RowsBelow-row rows2 left rights e n h l rs = subst (RowsBelow n) (sym e) more
    where
      more : RowsBelow n (with_row left rights)
      more = record {
        each = λ i lt. ⊎_elim
            (λ old. subst (IsRowBelow n) (sym (row_at-old (new_row left rights) i old)) (h.each i old))
            (λ q. subst (λ (k : ℕ). IsRowBelow n (row_at (with_row left rights) k)) (sym q) (subst (IsRowBelow n) (sym (row_at-new (new_row left rights))) (record { left = l; rights = rs })))
            (place_cases i (length rows) (omega (arith, length_more (new_row left rights))));
      }

  pub AreLinked-row : (rows2 : List GoalRow) (left : State) (rights : List State) → rows2 ≡ with_row left rights → AreLinked rows links → AreLinked rows2 links
  AreLinked-row rows2 left rights e h = subst (λ (rs : List GoalRow). AreLinked rs links) (sym e) more
    where
      first_at : (i : ℕ) → IsBelow (length links) (row_at (with_row left rights) i).dependents
      first_at i = ⊎_elim
          (λ lt. subst (λ (r : GoalRow). IsBelow (length links) r.dependents) (sym (row_at-old (new_row left rights) i lt)) (h.first i))
          (λ ge. ⊎_elim
          (λ q. subst (λ (k : ℕ). IsBelow (length links) (row_at (with_row left rights) k).dependents) (sym q)
          (subst (λ (r : GoalRow). IsBelow (length links) r.dependents) (sym (row_at-new (new_row left rights))) tt))
          (λ ne. subst (λ (r : GoalRow). IsBelow (length links) r.dependents) (sym (get_or_past (with_row left rights) i no_row (omega (arith, length_more (new_row left rights), ne)))) tt)
          (cases_eq i (length rows)))
          (cases_lt i (length rows))

      more : AreLinked (with_row left rights) links
      more = record { first = first_at; next = h.next; goals = λ k l at. omega (arith, length_more (new_row left rights), h.goals k l at) }

  -- the map with the new goal's number under its key
  pub IsIndexed-row : (rows2 : List GoalRow) {S : Type 0} (found found2 : HashMap (List ℕ) ℕ S) (left : State) (rights : List State) → rows2 ≡ with_row left rights
      → ((q : List ℕ) → found_at found2 q ≡ cond (pointwise nat_eq (claim_key (claim_with left rights)) q) (Some (length rows)) (found_at found q))
      → found_at found (claim_key (claim_with left rights)) ≡ None → IsIndexed found rows → IsIndexed found2 rows2
  IsIndexed-row rows2 found found2 left rights e updated absent h = subst (IsIndexed found2) (sym e) more
    where
      key : List ℕ
      key = claim_key (claim_with left rights)

      at_key : (q : List ℕ) → key ≡ q → found_at found2 q ≡ Some (length rows)
      at_key q same = updated q ∙ ap (λ (b : Bool). cond b (Some (length rows)) (found_at found q)) ((bytes_eq-Decides key q).1 same)

      old_at : (i : ℕ) → i < length rows → found_at found2 (claim_key (claim_of (row_at rows i))) ≡ Some i
      old_at i lt = go (pointwise nat_eq key (claim_key (claim_of (row_at rows i)))) refl
        where
          go : (b : Bool) → pointwise nat_eq key (claim_key (claim_of (row_at rows i))) ≡ b → found_at found2 (claim_key (claim_of (row_at rows i))) ≡ Some i
          go true same =
              let k = (bytes_eq-Decides key (claim_key (claim_of (row_at rows i)))).0 same in
              let there = ap (found_at found) k ∙ h.all i lt in absurd (cc)
          go false other = updated (claim_key (claim_of (row_at rows i))) ∙ ap (λ (b : Bool). cond b (Some (length rows)) (found_at found (claim_key (claim_of (row_at rows i))))) other ∙ h.all i lt

      all_at : (i : ℕ) → i < length (with_row left rights) → found_at found2 (claim_key (claim_of (row_at (with_row left rights) i))) ≡ Some i
      all_at i lt = ⊎_elim
          (λ old. subst (λ (r : GoalRow). found_at found2 (claim_key (claim_of r)) ≡ Some i) (sym (row_at-old (new_row left rights) i old)) (old_at i old))
          (λ q. subst (λ (k : ℕ). found_at found2 (claim_key (claim_of (row_at (with_row left rights) k))) ≡ Some k) (sym q)
          (subst (λ (r : GoalRow). found_at found2 (claim_key (claim_of r)) ≡ Some (length rows)) (sym (row_at-new (new_row left rights))) (at_key key refl)))
          (place_cases i (length rows) (omega (arith, length_more (new_row left rights))))

      only_at : (q : List ℕ) (i : ℕ) → found_at found2 q ≡ Some i → (i < length (with_row left rights)) × (claim_key (claim_of (row_at (with_row left rights) i)) ≡ q)
      only_at q i f = go (pointwise nat_eq key q) refl
        where
          go : (b : Bool) → pointwise nat_eq key q ≡ b → (i < length (with_row left rights)) × (claim_key (claim_of (row_at (with_row left rights) i)) ≡ q)
          go true same =
              let k : key ≡ q = (bytes_eq-Decides key q).0 same in
              let at = at_key q k in
              let n : i ≡ length rows = cc in (
                omega (arith, length_more (new_row left rights), n),
                subst (λ (m : ℕ). claim_key (claim_of (row_at (with_row left rights) m)) ≡ q) (sym n)
                    (subst (λ (r : GoalRow). claim_key (claim_of r) ≡ q) (sym (row_at-new (new_row left rights))) k),
              )
          go false other =
              let was = sym (updated q ∙ ap (λ (b : Bool). cond b (Some (length rows)) (found_at found q)) other) ∙ f in
              let old = h.only q i was in (
                omega (arith, length_more (new_row left rights), old.0),
                subst (λ (r : GoalRow). claim_key (claim_of r) ≡ q) (sym (row_at-old (new_row left rights) i old.0)) old.1,
              )

      more : IsIndexed found2 (with_row left rights)
      more = record { all = all_at; only = only_at }

  -- a goal's list of dependents with one more link in front
  module _ (on : ℕ) (owner : GoalCase) (lt : on < length rows) where
    abbrev linked_row : GoalRow
    linked_row = record (row_at rows on) { dependents = Some (length links) }

    abbrev linked_rows : List GoalRow
    linked_rows = set rows on linked_row

    abbrev new_link : Link
    new_link = record { case = owner; next = (row_at rows on).dependents }

    abbrev more_links : List Link
    more_links = links ++ new_link ∷ []

    row_at-linked : row_at linked_rows on ≡ linked_row
    row_at-linked = get_or-set_same rows on linked_row no_row lt

    row_at-other : (i : ℕ) → ¬ (i ≡ on) → row_at linked_rows i ≡ row_at rows i
    row_at-other i ne = get_or-set_other rows on i linked_row no_row ne

    -- what holds of the row where it was changed, and of each other row
    by_row : (P : ℕ → GoalRow → Type 0) → P on linked_row → ((i : ℕ) → ¬ (i ≡ on) → P i (row_at rows i)) → (i : ℕ) → P i (row_at linked_rows i)
    by_row P here_ other i = ⊎_elim
        (λ q. subst (λ (k : ℕ). P k (row_at linked_rows k)) (sym q) (subst (P on) (sym row_at-linked) here_))
        (λ ne. subst (P i) (sym (row_at-other i ne)) (other i ne))
        (cases_eq i on)

    abbrev linked_table : TableView
    linked_table = record { rows = linked_rows; nodes = nodes; links = more_links }

    pub Grows-link : {A : List State → Type 0} → GrowsBy A table linked_table
    Grows-link = record {
      longer = omega (arith, length-set rows on linked_row);
      kept = λ i l. by_row (λ k r. IsSameGoal (row_at rows k) r) (record { left = refl; rights = refl; standing = refl; choices = refl; broken = refl; settled = refl }) (λ k ne. same_goal (row_at rows k)) i;
      added = λ i le. by_row (λ k r. length rows ≤ k → IsNew r) (λ past. absurd (omega arith)) (λ k ne past. past_is_new rows k past) i le;
      allowed = λ i le lt. absurd (omega (arith, length-set rows on linked_row));
      nodes = λ n x at. at;
      listed = λ k goal h. by_row (λ j r. Leads links goal (row_at rows j).dependents → Leads more_links goal r.dependents)
          (λ old. behind (length links) new_link (last_at links new_link) (Leads-append links (new_link ∷ []) goal (row_at rows on).dependents old))
          (λ j ne old. Leads-append links (new_link ∷ []) goal (row_at rows j).dependents old) k h;
    }

    pub IsListed-link : IsListed linked_table on owner
    IsListed-link = subst (λ (r : GoalRow). Leads more_links owner r.dependents) (sym row_at-linked) (here (length links) new_link (last_at links new_link) refl)

    pub RowsBelow-link : (n : ℕ) → RowsBelow n rows → RowsBelow n linked_rows
    RowsBelow-link n h = record {
      each = λ i l. by_row (λ k r. k < length rows → IsRowBelow n r)
          (λ m. let old = h.each on m in record { left = old.left; rights = old.rights }) (λ k ne m. h.each k m) i (omega (arith, length-set rows on linked_row));
    }

    pub IsIndexed-link : {S : Type 0} (found : HashMap (List ℕ) ℕ S) → IsIndexed found rows → IsIndexed found linked_rows
    IsIndexed-link found h = record {
      all = λ i l. by_row (λ k r. k < length rows → found_at found (claim_key (claim_of r)) ≡ Some k) (λ m. h.all on m) (λ k ne m. h.all k m) i (omega (arith, length-set rows on linked_row));
      only = λ q i f. let old = h.only q i f in
          (omega (arith, length-set rows on linked_row, old.0), by_row (λ k r. claim_key (claim_of (row_at rows k)) ≡ q → claim_key (claim_of r) ≡ q) (λ e. e) (λ k ne e. e) i old.1);
    }

    below_more : (o : Option ℕ) (m : ℕ) → IsBelow (length links) o → IsBelow (length links + 1) o
    below_more None m h = tt
    below_more (Some k) m h = omega arith

    count_links : length more_links ≡ length links + 1
    count_links = length-append links (new_link ∷ [])

    pub AreLinked-link : owner.goal.number < length rows → AreLinked rows links → AreLinked linked_rows more_links
    AreLinked-link ol h = record {
      first = λ i. subst (λ (n : ℕ). IsBelow n (row_at linked_rows i).dependents) (sym count_links)
          (by_row (λ k r. IsBelow (length links + 1) r.dependents) (omega arith) (λ k ne. below_more (row_at rows k).dependents 0 (h.first k)) i);
      next = λ k l at. ⊎_elim
          (λ old. h.next k l old)
          (λ q. subst (λ (n : ℕ). IsBelow n l.next) (sym q.0) (subst (λ (w : Link). IsBelow (length links) w.next) q.1 (h.first on)))
          (slice_get-push_cases links new_link l k at);
      goals = λ k l at. let n = length-set rows on linked_row in ⊎_elim
          (λ old. let g = h.goals k l old in omega arith)
          (λ q. subst (λ (w : Link). w.case.goal.number < length linked_rows) q.1 (omega arith))
          (slice_get-push_cases links new_link l k at);
    }

-- a list of dependents that begins with the case has it
pub Leads-begins : (links : List Link) (first : Option ℕ) (goal : GoalCase) → BeginsWith links first goal → Leads links goal first
Leads-begins links first goal h = subst (λ (o : Option ℕ). Leads links goal o) (sym h.is_first) (here h.place h.link h.found h.is_case)

pub same_states : (xs ys : List State) → state_numbers xs ≡ state_numbers ys → xs ≡ ys
same_states [] [] e = refl
same_states [] (y ∷ ys) e = absurd (cc)
same_states (x ∷ xs) [] e = absurd (cc)
same_states (x ∷ xs) (y ∷ ys) e =
    let n : x.number ≡ y.number = cc in
    let r : state_numbers xs ≡ state_numbers ys = cc in
    let h = same_state x y n in
    let t = same_states xs ys r in cc

pub same_claim : (c d : Claim State) → claim_key c ≡ claim_key d → c ≡ d
same_claim c d e =
    let n : c.left.number ≡ d.left.number = cc in
    let r : state_numbers c.rights ≡ state_numbers d.rights = cc in
    let h = same_state c.left d.left n in
    let t = same_states c.rights d.rights r in
    ap (λ (s : State). claim_with s c.rights) h ∙ ap (λ (ss : List State). claim_with d.left ss) t

-- the goal that the map finds has the claim of its key
pub found_claim : {S : Type 0} (found : HashMap (List ℕ) ℕ S) (rows : List GoalRow) (c : Claim State) (i : ℕ) → IsIndexed found rows → found_at found (claim_key c) ≡ Some i → claim_at rows i ≡ Some c
found_claim found rows c i h f =
    let o = h.only (claim_key c) i f in
    ap (option_map claim_of) (slice_get-get_or rows i no_row o.0) ∙ ap Some (same_claim (claim_of (row_at rows i)) c o.1)

pub claim_at-row : (rows : List GoalRow) (left : State) (rights : List State) → claim_at (rows ++ new_row left rights ∷ []) (length rows) ≡ Some (claim_with left rights)
claim_at-row rows left rights = ap (option_map claim_of) (last_at rows (new_row left rights))

-- a goal whose claim is known is there
pub claim_within : (rows : List GoalRow) (g : ℕ) (c : Claim State) → claim_at rows g ≡ Some c → (g < length rows) × (claim_of (row_at rows g) ≡ c)
claim_within rows g c e = ⊎_elim
    (λ lt. let at = ap (option_map claim_of) (slice_get-get_or rows g no_row lt) in
    let both : Some (claim_of (row_at rows g)) ≡ Some c = sym at ∙ e in (lt, cc))
    (λ ge. let none = ap (option_map claim_of) (slice_get_past rows g ge) in absurd (cc))
    (cases_lt g (length rows))

pub claim_at-is : (rows : List GoalRow) (g : ℕ) → g < length rows → claim_at rows g ≡ Some (claim_of (row_at rows g))
claim_at-is rows g lt = ap (option_map claim_of) (slice_get-get_or rows g no_row lt)

-- claims stay
pub claim_at-grows : {A : List State → Type 0} (s t : TableView) → GrowsBy A s t → (g : ℕ) (c : Claim State) → claim_at s.rows g ≡ Some c → claim_at t.rows g ≡ Some c
claim_at-grows s t h g c e =
    let w = claim_within s.rows g c e in
    let k = h.kept g w.0 in
    claim_at-is t.rows g (omega (arith, h.longer, w.0))
    ∙ ap Some (ap (λ (l : State). claim_with l (row_at t.rows g).rights) k.left ∙ ap (λ (r : List State). claim_with (row_at s.rows g).left r) k.rights ∙ w.1)

-- with no goal and no link
pub consistent_rows : {S : Type 0} (found : HashMap (List ℕ) ℕ S) (rows : List GoalRow) → rows ≡ [] → ((q : List ℕ) → found_at found q ≡ None) → IsIndexed found rows
consistent_rows found rows e none = record {
  all = λ i lt. let n = ap length e in absurd (omega arith);
  only = λ q i f. let no = none q in absurd (cc);
}

pub consistent_links : (rows : List GoalRow) (links : List Link) → rows ≡ [] → links ≡ [] → AreLinked rows links
consistent_links rows links e f = rw (e, f) (record {
  first = λ i. tt;
  next = λ k l at. absurd (cc);
  goals = λ k l at. absurd (cc);
})
