-- The steps that add goals and dependents, in the form in which the code makes them.
use Rattle.std.proofs.Common.{BuildHasherDefault, FoldHasher, ℕ, ◌<◌, ◌≡◌, cond, nat_eq, List, [], ◌∷◌, ◌++◌, length, get_or, set, Option, Some, None, Result, Ok, Err, IfOk, OnOk, OnErr, sym, ap, ◌∙◌, subst, arith, length-append}
use Rattle.std.specs.Cmp.Lexicographic.{pointwise}
use Rattle.std.specs.HashMap.{HashMap}
use Rattle.std.proofs.lemmas.List.{get_or_default}
use Rattle.xd_auto.specs.declared.auto.State.{State}
use Rattle.xd_state_heads.specs.Moves.{AreBelow, claim_with}
use Rattle.xd_goals.specs.Rows.{GoalRow, new_row, no_row, row_at, claim_at, claim_of, claim_key, IsListed, RowsBelow}
use Rattle.xd_auto.specs.Keys.{found_at}
use Rattle.xd_goals.specs.Kept.{AreLinked, AreThese, GrowsBy, IsIndexed}
use Rattle.xd_goals.specs.declared.table.ChoiceNode.{ChoiceNode}
use Rattle.xd_goals.specs.declared.table.GoalId.{GoalId}
use Rattle.xd_goals.specs.declared.table.GoalCase.{GoalCase}
use Rattle.xd_goals.specs.declared.table.Link.{Link}
use Rattle.xd_goals.proofs.GrowsByLemmas.{Grows-same, Grows-row, Grows-link, IsListed-link, RowsBelow-row, RowsBelow-link, IsIndexed-row, IsIndexed-link, AreLinked-row, AreLinked-link, claim_at-row}

pub row_read : (rows : List GoalRow) (i : ℕ) (row : GoalRow) → i < length rows → row ≡ get_or rows i row → row ≡ row_at rows i
row_read rows i row lt e = e ∙ get_or_default rows i row no_row lt

-- what holds after a link was made
pub record IsLinkedNow (A : List State → Type 0) (rows : List GoalRow) (nodes : List ChoiceNode) (links : List Link) (on : ℕ) (owner : GoalCase) (rows2 : List GoalRow) (links2 : List Link) : Type 0 where
  pub grows : GrowsBy A (record { rows = rows; nodes = nodes; links = links }) (record { rows = rows2; nodes = nodes; links = links2 })
  pub listed : IsListed (record { rows = rows2; nodes = nodes; links = links2 }) on owner
  pub states : (n : ℕ) → RowsBelow n rows → RowsBelow n rows2
  pub index : (found : HashMap (List ℕ) ℕ (BuildHasherDefault FoldHasher)) → IsIndexed found rows → IsIndexed found rows2
  pub linked : owner.goal.number < length rows → AreLinked rows links → AreLinked rows2 links2

pub linked_now : {A : List State → Type 0} (rows : List GoalRow) (nodes : List ChoiceNode) (links : List Link) (on : ℕ) (owner : GoalCase) → on < length rows
    → (rows2 : List GoalRow) (links2 : List Link) (n : ℕ) (next : Option ℕ) → n ≡ length links → next ≡ (row_at rows on).dependents
    → rows2 ≡ set rows on (record (row_at rows on) { dependents = Some n }) → links2 ≡ links ++ (record { case = owner; next = next }) ∷ []
    → IsLinkedNow A rows nodes links on owner rows2 links2
linked_now {A} rows nodes links on owner lt rows2 links2 n next count is e f =
    subst (λ (rs : List GoalRow). IsLinkedNow A rows nodes links on owner rs links2) (sym (e ∙ ap (λ (k : ℕ). set rows on (record (row_at rows on) { dependents = Some k })) count))
    (subst (λ (ls : List Link). IsLinkedNow A rows nodes links on owner (set rows on (record (row_at rows on) { dependents = Some (length links) })) ls)
    (sym (f ∙ ap (λ (o : Option ℕ). links ++ (record { case = owner; next = o }) ∷ []) is))
    (record {
      grows = Grows-link rows nodes links on owner lt;
      listed = IsListed-link rows nodes links on owner lt;
      states = RowsBelow-link rows nodes links on owner lt;
      index = IsIndexed-link rows nodes links on owner lt;
      linked = AreLinked-link rows nodes links on owner lt;
    }))

-- a goal was added, or nothing
module _ {E : Type 0} (r : Result GoalId E) (rows rows2 : List GoalRow) {S : Type 0} (found found2 : HashMap (List ℕ) ℕ S) (nodes : List ChoiceNode) (links : List Link) (left : State) (rights : List State)
    (ok : OnOk r (rows2 ≡ rows ++ new_row left rights ∷ [])) (err : OnErr r (rows2 ≡ rows)) where
  pub added_grows : GrowsBy (AreThese rights) (record { rows = rows; nodes = nodes; links = links }) (record { rows = rows2; nodes = nodes; links = links })
  added_grows = go r ok err
    where
      go : (s : Result GoalId E) → OnOk s (rows2 ≡ rows ++ new_row left rights ∷ []) → OnErr s (rows2 ≡ rows) → GrowsBy (AreThese rights) (record { rows = rows; nodes = nodes; links = links }) (record { rows = rows2; nodes = nodes; links = links })
      go (Ok g) e f = Grows-row rows nodes links rows2 left rights e
      go (Err x) e f = subst (λ (rs : List GoalRow). GrowsBy (AreThese rights) (record { rows = rows; nodes = nodes; links = links }) (record { rows = rs; nodes = nodes; links = links })) (sym f) (Grows-same (record { rows = rows; nodes = nodes; links = links }))

  pub added_states : (n : ℕ) → RowsBelow n rows → left.number < n → AreBelow n rights → RowsBelow n rows2
  added_states n h l rs = go r ok err
    where
      go : (s : Result GoalId E) → OnOk s (rows2 ≡ rows ++ new_row left rights ∷ []) → OnErr s (rows2 ≡ rows) → RowsBelow n rows2
      go (Ok g) e f = RowsBelow-row rows nodes links rows2 left rights e n h l rs
      go (Err x) e f = subst (RowsBelow n) (sym f) h

  pub added_linked : AreLinked rows links → AreLinked rows2 links
  added_linked h = go r ok err
    where
      go : (s : Result GoalId E) → OnOk s (rows2 ≡ rows ++ new_row left rights ∷ []) → OnErr s (rows2 ≡ rows) → AreLinked rows2 links
      go (Ok g) e f = AreLinked-row rows nodes links rows2 left rights e h
      go (Err x) e f = subst (λ (rs : List GoalRow). AreLinked rs links) (sym f) h

  pub added_index : OnOk r ((q : List ℕ) → found_at found2 q ≡ cond (pointwise nat_eq (claim_key (claim_with left rights)) q) (Some (length rows)) (found_at found q))
      → OnErr r ((q : List ℕ) → found_at found2 q ≡ found_at found q) → found_at found (claim_key (claim_with left rights)) ≡ None → IsIndexed found rows → IsIndexed found2 rows2
  added_index put lost absent h = go r ok err put lost
    where
      go : (s : Result GoalId E) → OnOk s (rows2 ≡ rows ++ new_row left rights ∷ []) → OnErr s (rows2 ≡ rows)
          → OnOk s ((q : List ℕ) → found_at found2 q ≡ cond (pointwise nat_eq (claim_key (claim_with left rights)) q) (Some (length rows)) (found_at found q))
          → OnErr s ((q : List ℕ) → found_at found2 q ≡ found_at found q) → IsIndexed found2 rows2
      go (Ok g) e f p l = IsIndexed-row rows nodes links rows2 found found2 left rights e p absent h
      go (Err x) e f p l = subst (IsIndexed found2) (sym f) (record { all = λ i lt. l (claim_key (claim_of (row_at rows i))) ∙ h.all i lt; only = λ q i at. h.only q i (sym (l q) ∙ at) })

  pub added_claim : IfOk r (λ g. g.number ≡ length rows) → IfOk r (λ g. claim_at rows2 g.number ≡ Some (claim_with left rights))
  added_claim place = go r ok place
    where
      go : (s : Result GoalId E) → OnOk s (rows2 ≡ rows ++ new_row left rights ∷ []) → IfOk s (λ g. g.number ≡ length rows) → IfOk s (λ g. claim_at rows2 g.number ≡ Some (claim_with left rights))
      go (Ok g) e p = rw (e, p) (claim_at-row rows left rights)
      go (Err x) e p = tt

  pub added_there : IfOk r (λ g. g.number ≡ length rows) → IfOk r (λ g. g.number < length rows2)
  added_there place = go r ok place
    where
      go : (s : Result GoalId E) → OnOk s (rows2 ≡ rows ++ new_row left rights ∷ []) → IfOk s (λ g. g.number ≡ length rows) → IfOk s (λ g. g.number < length rows2)
      go (Ok g) e p = let n = ap length e in omega (arith, length-append rows (new_row left rights ∷ []), n, p)
      go (Err x) e p = tt
