-- Tasks that are put on others.
use Rattle.std.proofs.Common.{◌≡◌, ℕ, zero, suc, ◌+◌, ◌-◌, ◌<◌, ◌≤◌, arith, Bool, true, false, cond, ◌⊎◌, List, [], ◌∷◌, ◌++◌, map, reverse, length, length-append, append_assoc, append-nil, take, drop, get_or, refl, ap, sym, subst, ◌∙◌, inl, inr}
use Rattle.std.specs.List.{AllByRecursion}
use Rattle.std.proofs.lemmas.List.{drop_more}
use Rattle.xd_doc.proofs.Lists.{all_more, all_append, reverse_push, map_append, take_front}
use Rattle.xd_syntax.specs.Tree.{Tree, Definitions}
use Rattle.xd_syntax.specs.Table.{Row, tree_at}
use Rattle.xd_syntax.specs.Types.{type_numbers}
use Rattle.xd_syntax.specs.declared.types.TypeId.{TypeId}
use Rattle.xd_continuations.specs.Expansion.{Task, task}
use Rattle.xd_continuations.specs.Chains.{list_at, HasLink, KeepsLinks}
use Rattle.xd_moves.specs.Pieces.{piece_tree}
use Rattle.xd_moves.specs.Found.{continuation, task_at, waiting_at, AreOfTypes, IsTask, AddsCells, PutsTasks, marked_front, AreBounded, StayBounded}
use Rattle.xd_continuations.specs.Bounds.{IsBounded}
use Rattle.xd_continuations.proofs.IsBoundedLemmas.{bounded_rest}
use Rattle.xd_moves.specs.declared.piece.Piece.{Piece}
use Rattle.xd_moves.specs.Cells.{Cell, AreChosen, StayChosen}
use Rattle.xd_continuations.proofs.ChainLemmas.{list_kept, list_new, has_kept, kept_list, kept_length, kept_same, kept_then}

-- ---- reverses

cases_le : (i n : ℕ) → i ≤ n + 1 → (i ≤ n) ⊎ (i ≡ n + 1)
cases_le zero n h = inl (omega arith)
cases_le (suc zero) zero h = inr refl
cases_le (suc (suc i)) zero h = absurd (omega arith)
cases_le (suc i) (suc n) h = elim (cases_le i n (omega arith)) [ inl l ↦ inl (omega arith) | inr e ↦ inr (omega arith) ]

-- ---- cells

pub adds_none : (types : List Row) (cells : List Cell) → AddsCells types cells cells
adds_none types cells = record { kept = kept_same cells; nodes = λ a. a }

pub adds_then : (types : List Row) (a b c : List Cell) → AddsCells types a b → AddsCells types b c → AddsCells types a c
adds_then types a b c k l = record { kept = kept_then a b c k.kept l.kept; nodes = λ n. l.nodes (k.nodes n) }

pub adds_cell : (types : List Row) (old new : List Cell) (c : Cell) → c.item.node < length types → HasLink old c new → AddsCells types old new
adds_cell types old new c h k = record { kept = has_kept old c new k; nodes = go k }
  where
    go : HasLink old c new → AreOfTypes types old → AreOfTypes types new
    go (inl r) n = subst (AreOfTypes types) (sym r.1) n
    go (inr e) n = subst (AreOfTypes types) (sym e) (all_append (λ (d : Cell). d.item.node < length types) old (c ∷ []) n (h, tt))

pub chosen_cell : (P : Piece → Type 0) (old new : List Cell) (c : Cell) → P c.item → HasLink old c new → StayChosen P old new
chosen_cell P old new c h (inl r) a = subst (AreChosen P) (sym r.1) a
chosen_cell P old new c h (inr e) a = subst (AreChosen P) (sym e) (all_append (λ (d : Cell). P d.item) old (c ∷ []) a (h, tt))

pub continuation_kept : (types : List Row) (old new : List Cell) → KeepsLinks old new → (n : ℕ) → n ≤ length old → continuation types new n ≡ continuation types old n
continuation_kept types old new k n h = ap (map (piece_tree types)) (kept_list old new k n h)

-- ---- bounds

pub bounded_same : (types : List Row) (cells : List Cell) (K : List Tree) → StayBounded types cells cells K
bounded_same types cells K E m a b = a

bounded_last : (E : Definitions) (m : ℕ) (types : List Row) (old : List Cell) (c : Cell) → AreBounded E m types old → IsBounded E m (continuation types (old ++ c ∷ []) (length old + 1)) →
    AreBounded E m types (old ++ c ∷ [])
bounded_last E m types old c a b n h =
    elim (cases_le n (length old) (omega (arith, length-append old (c ∷ [])))) [
      | inl l ↦ subst (IsBounded E m) (sym (ap (map (piece_tree types)) (list_kept old (c ∷ []) n l))) (a n l)
      | inr e ↦ subst (λ k. IsBounded E m (continuation types (old ++ c ∷ []) k)) (sym e) b
    ]

-- one more cell, which stands for this continuation
pub bounded_cell : (types : List Row) (old new : List Cell) (c : Cell) (K : List Tree) → HasLink old c new → piece_tree types c.item ∷ continuation types old c.behind ≡ K → StayBounded types old new K
bounded_cell types old new c K (inl h) e E m a b = subst (AreBounded E m types) (sym h.1) a
bounded_cell types old new c K (inr h) e E m a b =
    subst (AreBounded E m types) (sym h)
    (bounded_last E m types old c a (subst (IsBounded E m) (sym (ap (map (piece_tree types)) (list_new old c) ∙ e)) b))

-- ---- tasks

pub puts_none : (types : List Row) (cells old : List Cell) → PutsTasks types cells old old []
puts_none types cells old = record { put = []; grown = sym (append-nil old); stand = tt; same = refl }

pub puts_more : (types : List Row) (cells old new : List Cell) (ts : List Task) (c : Cell) → PutsTasks types cells old new ts → IsTask types cells c →
    PutsTasks types cells old (new ++ c ∷ []) (task_at types cells c ∷ ts)
puts_more types cells old new ts c p i = record {
  put = p.put ++ c ∷ [];
  grown = ap (λ xs. xs ++ c ∷ []) p.grown ∙ append_assoc old p.put (c ∷ []);
  stand = all_append (IsTask types cells) p.put (c ∷ []) p.stand (i, tt);
  same =
      ap reverse (map_append (task_at types cells) p.put (c ∷ [])) ∙ reverse_push (map (task_at types cells) p.put) (task_at types cells c)
      ∙ ap (λ us. task_at types cells c ∷ us) p.same;
}

tasks_kept : (types : List Row) (old new : List Cell) → KeepsLinks old new → (cs : List Cell) → AllByRecursion (IsTask types old) cs →
    map (task_at types new) cs ≡ map (task_at types old) cs
tasks_kept types old new k [] a = refl
tasks_kept types old new k (c ∷ cs) a =
    let e = continuation_kept types old new k c.behind (a.0).1 in
    let t : task_at types new c ≡ task_at types old c = ap (λ (K : List Tree). let u : Task = record { part = piece_tree types c.item; behind = K } in u) e in
    let i = tasks_kept types old new k cs a.1 in cc

pub tasks_stand_on : (types : List Row) (old new : List Cell) → KeepsLinks old new → (cs : List Cell) → AllByRecursion (IsTask types old) cs → AllByRecursion (IsTask types new) cs
tasks_stand_on types old new k cs a =
    let l = kept_length old new k in
    all_more (IsTask types old) (IsTask types new) cs (λ c i. (i.0, (let h = i.1 in omega arith))) a

pub waiting_kept : (types : List Row) (old new : List Cell) → KeepsLinks old new → (cs : List Cell) → AllByRecursion (IsTask types old) cs →
    waiting_at types new cs ≡ waiting_at types old cs
waiting_kept types old new k cs a = ap reverse (tasks_kept types old new k cs a)

pub puts_kept : (types : List Row) (cells new_cells old new : List Cell) (ts : List Task) → KeepsLinks cells new_cells → PutsTasks types cells old new ts → PutsTasks types new_cells old new ts
puts_kept types cells new_cells old new ts k p = record {
  put = p.put;
  grown = p.grown;
  stand = tasks_stand_on types cells new_cells k p.put p.stand;
  same = waiting_kept types cells new_cells k p.put p.stand ∙ p.same;
}

-- ---- sequences

-- the last parts of a sequence are put on the others
pub record IsPushed (types : List Row) (marks : List Bool) (old_cells : List Cell) (behind : ℕ) (old : List Cell) (is : List ℕ) (rest : ℕ) (cells new : List Cell) : Type 0 where
  pub within : rest ≤ length cells
  pub cells_added : AddsCells types old_cells cells
  pub list : continuation types cells rest ≡ map (tree_at types) is ++ continuation types old_cells behind
  pub tasks : PutsTasks types cells old new (marked_front types marks is (continuation types old_cells behind))
  pub bounded : StayBounded types old_cells cells (map (tree_at types) is ++ continuation types old_cells behind)

abbrev pub node_piece : ℕ → Piece
node_piece i = record { node = i; is_turns = false }

abbrev pub piece_cell : Piece → ℕ → Cell
piece_cell p n = record { item = p; behind = n }

abbrev pub node_cell : ℕ → ℕ → Cell
node_cell i n = piece_cell (node_piece i) n

-- the tasks that stay before another part, if it can be empty or not
cut_tasks : (types : List Row) (cells old new kept : List Cell) (ts : List Task) (b : Bool) → PutsTasks types cells old new ts → kept ≡ cond b new (take (length old) new) →
    PutsTasks types cells old kept (cond b ts [])
cut_tasks types cells old new kept ts true p e = subst (λ ks. PutsTasks types cells old ks ts) (sym e) p
cut_tasks types cells old new kept ts false p e =
    subst (λ ks. PutsTasks types cells old ks []) (sym (e ∙ ap (take (length old)) p.grown ∙ take_front old p.put)) (puts_none types cells old)

pub pushed_more : (types : List Row) (marks : List Bool) (old_cells : List Cell) (behind : ℕ) (old : List Cell) (is : List ℕ) (rest : ℕ) (cells new : List Cell) →
    IsPushed types marks old_cells behind old is rest cells new → (i : ℕ) → i < length types → (kept : List Cell) → kept ≡ cond (get_or marks i false) new (take (length old) new) →
    (q : Piece) → q.node < length types → piece_tree types q ≡ tree_at types i →
    (cells' : List Cell) (number : ℕ) → HasLink cells (piece_cell q rest) cells' → number ≤ length cells' → list_at cells' number ≡ q ∷ list_at cells rest →
    IsPushed types marks old_cells behind old (i ∷ is) number cells' (kept ++ node_cell i rest ∷ [])
pushed_more types marks old_cells behind old is rest cells new p i h kept e q u v cells' number k w l =
    let a = adds_cell types cells cells' (piece_cell q rest) u k in
    let K : List Tree = continuation types old_cells behind in
    let c = cut_tasks types cells old new kept (marked_front types marks is K) (get_or marks i false) p.tasks e in
    let m = puts_more types cells old kept (cond (get_or marks i false) (marked_front types marks is K) []) (node_cell i rest) c (h, p.within) in
    let n = subst (λ (L : List Tree). PutsTasks types cells old (kept ++ node_cell i rest ∷ []) (record { part = tree_at types i; behind = L } ∷ cond (get_or marks i false) (marked_front types marks is K) [])) p.list m in
    record {
      within = w;
      cells_added = adds_then types old_cells cells cells' p.cells_added a;
      list = ap (map (piece_tree types)) l ∙ ap (λ T. T ∷ continuation types cells rest) v ∙ ap (λ L. tree_at types i ∷ L) p.list;
      tasks = puts_kept types cells cells' old (kept ++ node_cell i rest ∷ []) (marked_front types marks (i ∷ is) K) a.kept n;
      bounded = λ E m o b.
          bounded_cell types cells cells' (piece_cell q rest) (tree_at types i ∷ (map (tree_at types) is ++ K)) k (ap (λ T. T ∷ continuation types cells rest) v ∙ ap (λ L. tree_at types i ∷ L) p.list) E m
          (p.bounded E m o (bounded_rest E m (tree_at types i) (map (tree_at types) is ++ K) b)) b;
    }

-- ---- parts of a node

pub numbers_drop : (parts : List TypeId) (n : ℕ) (d : TypeId) → 0 < n → n ≤ length parts → type_numbers (drop (n - 1) parts) ≡ (get_or parts (n - 1) d).at ∷ type_numbers (drop n parts)
numbers_drop parts n d h k =
    let s : n - 1 + 1 ≡ n = omega arith in
    let l : n - 1 < length parts = omega arith in
    ap type_numbers (drop_more parts (n - 1) d l) ∙ ap (λ m. (get_or parts (n - 1) d).at ∷ type_numbers (drop m parts)) s

-- the same, as the loop has it
pub pushed_next : (types : List Row) (marks : List Bool) (old_cells : List Cell) (behind : ℕ) (old : List Cell) (is : List ℕ) (rest : ℕ) (cells new : List Cell) →
    IsPushed types marks old_cells behind old is rest cells new → (i : ℕ) → i < length types → (kept : List Cell) → kept ≡ cond (get_or marks i false) new (take (length old) new) →
    (p : Piece) → p ≡ node_piece i → (q : Piece) → q.node < length types → piece_tree types q ≡ tree_at types i → (cells' : List Cell) (number : ℕ) →
    HasLink cells (piece_cell q rest) cells' → number ≤ length cells' → list_at cells' number ≡ q ∷ list_at cells rest →
    (after : List Cell) → after ≡ kept ++ (let c : Cell = record { item = p; behind = rest } in c ∷ []) → (js : List ℕ) → js ≡ i ∷ is →
    IsPushed types marks old_cells behind old js number cells' after
pushed_next types marks old_cells behind old is rest cells new x i h kept e p pe q u v cells' number k w l after ae js je =
    let r = pushed_more types marks old_cells behind old is rest cells new x i h kept e q u v cells' number k w l in
    let ae' : kept ++ node_cell i rest ∷ [] ≡ after = sym (ae ∙ ap (λ (r : Piece). kept ++ (let c : Cell = record { item = r; behind = rest } in c ∷ [])) pe) in
    subst (λ ks. IsPushed types marks old_cells behind old ks number cells' after) (sym je)
    (subst (IsPushed types marks old_cells behind old (i ∷ is) number cells') ae' r)

pub kept_all : (b : Bool) (new cut kept : List Cell) → b ≡ true → kept ≡ new → kept ≡ cond b new cut
kept_all b new cut kept e k = rw e k

pub kept_none : (b : Bool) (new cut kept : List Cell) → b ≡ false → kept ≡ cut → kept ≡ cond b new cut
kept_none b new cut kept e k = rw e k

-- one more task of a part
pub puts_part : (types : List Row) (cells old new : List Cell) (ts : List Task) (p : Piece) (i n : ℕ) → PutsTasks types cells old new ts → p ≡ node_piece i → i < length types → n ≤ length cells →
    (after : List Cell) → after ≡ new ++ (let c : Cell = record { item = p; behind = n } in c ∷ []) → PutsTasks types cells old after (task (continuation types cells n) (tree_at types i) ∷ ts)
puts_part types cells old new ts p i n h e l m after a =
    let r = puts_more types cells old new ts (node_cell i n) h (l, m) in
    subst (λ ks. PutsTasks types cells old ks (task (continuation types cells n) (tree_at types i) ∷ ts))
    (sym (a ∙ ap (λ (q : Piece). new ++ (let c : Cell = record { item = q; behind = n } in c ∷ [])) e)) r
