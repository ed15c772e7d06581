-- How goals that held come to wait.
use Rattle.std.proofs.Common.{ℕ, suc, ◌<◌, ◌≡◌, ◌⊎◌, true, false, List, length, set, get_or-set_same, get_or-set_other, Option, Some, None, inl, inr, ⊎_elim, refl, sym, ap, ◌∙◌, subst, arith, length-set}
use Rattle.std.specs.List.{slice_get}
use Rattle.std.proofs.lemmas.Bool.{cases_eq}
use Rattle.xd_doc.specs.StoredSeq.{IsBelow}
use Rattle.xd_doc.specs.declared.store.Seq.{Seq}
use Rattle.xd_goals.specs.Rows.{GoalRow, no_row, row_at, Leads}
use Rattle.xd_goals.specs.Kept.{IsSameClaim, IsSeenTo, IsWoken, IsWokenRow, Refutes, with_flag, with_standing}
use Rattle.xd_goals.specs.declared.table.Standing.TheVariants.{Holds, Refuted}
use Rattle.xd_goals.specs.declared.table.GoalCase.{GoalCase}
use Rattle.xd_goals.specs.declared.table.Link.{Link}
use Rattle.xd_rules.proofs.Lists.{set_here, set_there}

pub same_claim_row : (row : GoalRow) → IsSameClaim row row
same_claim_row row = record { left = refl; rights = refl; choices = refl; dependents = refl; flags = refl; unbroken = λ place u. u; settled = refl }

-- the flag of a case is set, and its goal doesn't hold
module _ (old new : List GoalRow) (case : GoalCase) (lt : case.goal.number < length old) (is : new ≡ set old case.goal.number (with_flag case.place (row_at old case.goal.number)))
    (open_ : ¬ ((row_at new case.goal.number).standing ≡ Holds)) where
  flagged : GoalRow
  flagged = with_flag case.place (row_at old case.goal.number)

  flag_here : row_at new case.goal.number ≡ with_flag case.place (row_at old case.goal.number)
  flag_here = ap (λ (rs : List GoalRow). row_at rs case.goal.number) is ∙ get_or-set_same old case.goal.number (with_flag case.place (row_at old case.goal.number)) no_row lt

  flag_other : (i : ℕ) → ¬ (i ≡ case.goal.number) → row_at new i ≡ row_at old i
  flag_other i ne = ap (λ (rs : List GoalRow). row_at rs i) is ∙ get_or-set_other old case.goal.number i (with_flag case.place (row_at old case.goal.number)) no_row ne

  flag_same : (row : GoalRow) → IsSameClaim row (with_flag case.place row)
  flag_same row = record {
    left = refl;
    rights = refl;
    choices = refl;
    dependents = refl;
    flags = length-set row.broken case.place true;
    unbroken = λ p u. ⊎_elim
        (λ q. absurd (let e = set_here row.broken case.place true false (subst (λ (n : ℕ). slice_get (set row.broken case.place true) n ≡ Some false) q u) in cc))
        (λ ne. set_there row.broken case.place p true false ne u)
        (cases_eq p case.place);
    settled = refl;
  }

  pub woken_flag : IsWoken (λ k. k ≡ case) old new
  woken_flag = record {
    count = ap length is ∙ length-set old case.goal.number (with_flag case.place (row_at old case.goal.number));
    same = λ i. ⊎_elim
        (λ q. subst (λ (n : ℕ). IsSameClaim (row_at old n) (row_at new n)) (sym q)
        (subst (λ (r : GoalRow). IsSameClaim (row_at old case.goal.number) r) (sym flag_here) (flag_same (row_at old case.goal.number))))
        (λ ne. subst (λ (r : GoalRow). IsSameClaim (row_at old i) r) (sym (flag_other i ne)) (same_claim_row (row_at old i)))
        (cases_eq i case.goal.number);
    others = λ i. ⊎_elim
        (λ q. inl (subst (λ (n : ℕ). (row_at new n).standing ≡ (row_at old n).standing) (sym q) (ap (λ (r : GoalRow). r.standing) flag_here)))
        (λ ne. inl (ap (λ (r : GoalRow). r.standing) (flag_other i ne)))
        (cases_eq i case.goal.number);
    these = λ owner q. subst (λ (k : GoalCase). IsSeenTo (row_at new k.goal.number) k.place) (sym q) (inr (record {
      settled = open_;
      broken = λ u. absurd (let e = set_here (row_at old case.goal.number).broken case.place true false (subst (λ (r : GoalRow). slice_get r.broken case.place ≡ Some false) flag_here u) in cc);
    }));
  }

-- goals come to wait one after the other
pub woken_row_then : (a b c : GoalRow) → IsSameClaim a b → IsWokenRow a b → IsWokenRow b c → IsWokenRow a c
woken_row_then a b c s (inl e) (inl f) = inl (f ∙ e)
woken_row_then a b c s (inl e) (inr w) = inr (sym e ∙ w.0, w.1, sym s.settled ∙ w.2)
woken_row_then a b c s (inr w) (inl f) = inr (w.0, f ∙ w.1, w.2)
woken_row_then a b c s (inr w) (inr v) = inr (w.0, v.1, w.2)

-- a number that falls along a list
abbrev pub steps_left : Option ℕ → ℕ
steps_left None = 0
steps_left (Some k) = suc k

-- so far, up to a place of the list, goals that held wait, and the cases that the list led to
-- before it are in doubt, unless their goals are settled
pub record WakesTo (links : List Link) (first at : Option ℕ) (old new : List GoalRow) : Type 0 where
  pub count : length new ≡ length old
  pub same : (i : ℕ) → IsSameClaim (row_at old i) (row_at new i)
  pub others : (i : ℕ) → IsWokenRow (row_at old i) (row_at new i)
  pub done : (owner : GoalCase) → Leads links owner first → IsSeenTo (row_at new owner.goal.number) owner.place ⊎ Leads links owner at
  pub place : IsBelow (length links) at

pub WakesTo-start : (links : List Link) (first : Option ℕ) (rows : List GoalRow) → IsBelow (length links) first → WakesTo links first first rows rows
WakesTo-start links first rows b = record {
  count = refl;
  same = λ i. same_claim_row (row_at rows i);
  others = λ i. inl refl;
  done = λ i h. inr h;
  place = b;
}

pub same_claim_then : (a b c : GoalRow) → IsSameClaim a b → IsSameClaim b c → IsSameClaim a c
same_claim_then a b c h k = record {
  left = k.left ∙ h.left;
  rights = k.rights ∙ h.rights;
  choices = k.choices ∙ h.choices;
  dependents = k.dependents ∙ h.dependents;
  flags = k.flags ∙ h.flags;
  unbroken = λ place u. h.unbroken place (k.unbroken place u);
  settled = k.settled ∙ h.settled;
}

-- the goal's standing is set, and then its dependents wait
pub Refutes-steps : (links : List Link) (goal : ℕ) (seq : Seq) (old mid new : List GoalRow) → goal < length old → mid ≡ set old goal (with_standing (Refuted seq) (row_at old goal))
    → IsWoken (λ k. Leads links k (row_at old goal).dependents) mid new → Refutes links goal seq old new
Refutes-steps links goal seq old mid new lt e k = record {
  count = k.count ∙ ap length e ∙ length-set old goal changed;
  same = λ i. same_claim_then (row_at old i) (row_at mid i) (row_at new i) (first_same i) (k.same i);
  goal_is = stays (row_at mid goal) (row_at new goal) (k.others goal) (ap (λ (r : GoalRow). r.standing) here_is);
  others = λ i ne. subst (λ (r : GoalRow). IsWokenRow r (row_at new i)) (other_is i ne) (k.others i);
  dependents = k.these;
}
  where
    changed : GoalRow
    changed = with_standing (Refuted seq) (row_at old goal)

    here_is : row_at mid goal ≡ changed
    here_is = ap (λ (rs : List GoalRow). row_at rs goal) e ∙ get_or-set_same old goal changed no_row lt

    other_is : (i : ℕ) → ¬ (i ≡ goal) → row_at mid i ≡ row_at old i
    other_is i ne = ap (λ (rs : List GoalRow). row_at rs i) e ∙ get_or-set_other old goal i changed no_row ne

    first_same : (i : ℕ) → IsSameClaim (row_at old i) (row_at mid i)
    first_same i = ⊎_elim
        (λ q. subst (λ (n : ℕ). IsSameClaim (row_at old n) (row_at mid n)) (sym q) (subst (λ (r : GoalRow). IsSameClaim (row_at old goal) r) (sym here_is) (record { left = refl; rights = refl; choices = refl; dependents = refl; flags = refl; unbroken = λ place u. u; settled = refl })))
        (λ ne. subst (λ (r : GoalRow). IsSameClaim (row_at old i) r) (sym (other_is i ne)) (same_claim_row (row_at old i)))
        (cases_eq i goal)

    stays : (a b : GoalRow) → IsWokenRow a b → a.standing ≡ Refuted seq → b.standing ≡ Refuted seq
    stays a b (inl s) r = s ∙ r
    stays a b (inr w) r = absurd (no_both a w.0 r)
      where
        no_both : (x : GoalRow) → x.standing ≡ Holds → x.standing ≡ Refuted seq → ⊥
        no_both x f g = cc

-- links lead to older ones
pub next_smaller : (place : ℕ) (o : Option ℕ) → IsBelow place o → steps_left o < suc place
next_smaller place None h = omega arith
next_smaller place (Some k) h = omega arith

pub next_below : (n place : ℕ) (o : Option ℕ) → place < n → IsBelow place o → IsBelow n o
next_below n place None lt h = tt
next_below n place (Some k) lt h = omega arith
