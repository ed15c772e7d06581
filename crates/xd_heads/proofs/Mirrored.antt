-- Cells that mirror an automaton, by heads and by moves.
use Rattle.std.proofs.Common.{◌≡◌, ℕ, zero, suc, ◌+◌, ◌-◌, ◌<◌, ◌≤◌, arith, cond, false, List, [], ◌∷◌, ◌++◌, map, length, get_or, Option, Some, None, refl, ap, sym, subst, ◌∙◌}
use Rattle.std.specs.List.{AllByRecursion}
use Rattle.xd_doc.proofs.Lists.{all_more, all_append}
use Rattle.xd_syntax.specs.Tree.{Tree, Definitions, seq_of}
use Rattle.xd_syntax.specs.Table.{Row, KeepsRows, tree_at}
use Rattle.xd_syntax.specs.TypeDepth.{depth}
use Rattle.xd_syntax.specs.ShallowTables.{IsShallow}
use Rattle.xd_syntax.specs.Shallow.{nesting_limit}
use Rattle.xd_meaning.specs.CanBeEmpty.{can_be_empty}
use Rattle.xd_syntax.specs.Program.{names_of}
use Rattle.xd_syntax.specs.Kept.{ProgramTable, program_tree}
use Rattle.xd_continuations.proofs.GrownTables.{tree_stays, more_rows}
use Rattle.xd_auto.specs.Automaton.{Automaton, moves_at, no_moves, state_number}
use Rattle.xd_auto.specs.declared.auto.State.{State}
use Rattle.xd_auto.specs.declared.auto.LabelMove.{LabelMove}
use Rattle.xd_auto.specs.declared.auto.TextMove.{TextMove}
use Rattle.xd_rules.specs.Heads.{Head}
use Rattle.xd_meaning.specs.Heads.{heads, pieces}
use Rattle.xd_continuations.specs.Continuation.{Move, moves, head_of, AreMerged, IsContinuation}
use Rattle.xd_continuations.specs.Mirrors.{Continuations, AreMirrored, no_move, on_label, on_text}
use Rattle.xd_continuations.specs.Bounds.{node_count, IsBounded}
use Rattle.xd_continuations.proofs.MoveLemmas.{IsMove, pieces-seq_of, moves_are_heads, moves_continue}
use Rattle.xd_continuations.proofs.IsBoundedLemmas.{bounded_larger}
use Rattle.xd_continuations.specs.Chains.{lists_after, lists_in, list_at}
use Rattle.xd_moves.specs.Pieces.{piece_tree, turns_of}
use Rattle.xd_moves.specs.Found.{continuation, AreOfTypes, AreBounded}
use Rattle.xd_heads.specs.States.{number_at, nodes_from, nodes_in}
use Rattle.xd_heads.specs.Compiled.{numbered, continuations_of, state_at, AreCompiled, AreSorted}
use Rattle.xd_heads.specs.Sorts.{sorts_of}
use Rattle.xd_heads.specs.CellsView.{CellsView, no_cells}
use Rattle.xd_heads.specs.Mirrors.{as_type, continuation_of, AreHeadMoves, no_head, element_head, text_head, Mirrors, MirrorsStay}
use Rattle.xd_moves.specs.declared.piece.Piece.{Piece}
use Rattle.xd_moves.specs.Cells.{Cell}
use Rattle.xd_heads.proofs.StateLemmas.{number_within}
use Rattle.xd_heads.proofs.AreMirroredLemmas.{numbered_is, bounded_no_cells}

-- ---- heads and moves

abbrev by_type : Continuations → State → Option Tree
by_type C s = as_type (C s)

to_heads : (C : Continuations) {ms : List Move} {ls : List LabelMove} {ts : List TextMove} → AreMirrored C ms ls ts → AreHeadMoves (by_type C) (map head_of ms) ls ts
to_heads C no_move = no_head
to_heads C (on_label k c r a) = element_head k (ap as_type c) (ap as_type r) (to_heads C a)
to_heads C (on_text k r a) = text_head k (ap as_type r) (to_heads C a)

-- continuations that mean the same are the same
one_meaning : (K L : List Tree) → IsContinuation K → IsContinuation L → seq_of K ≡ seq_of L → K ≡ L
one_meaning K L k l e = sym (pieces-seq_of K k) ∙ ap pieces e ∙ pieces-seq_of L l

module _ (C : Continuations) (good : (s : State) (K : List Tree) → C s ≡ Some K → IsContinuation K) where
  the_list : (s : State) (K : List Tree) → IsContinuation K → by_type C s ≡ Some (seq_of K) → C s ≡ Some K
  the_list s K k e = go (C s) refl e
    where
      go : (o : Option (List Tree)) → C s ≡ o → as_type o ≡ Some (seq_of K) → C s ≡ Some K
      go None q h = cc
      go (Some L) q h = let m : seq_of L ≡ seq_of K = cc in q ∙ ap Some (one_meaning L K (good s L q) k m)

  from_heads : (ms : List Move) → AllByRecursion IsMove ms → {hs : List (Head Tree)} {ls : List LabelMove} {ts : List TextMove} → hs ≡ map head_of ms → AreHeadMoves (by_type C) hs ls ts → AreMirrored C ms ls ts
  from_heads [] i e no_head = no_move
  from_heads [] i e (element_head k c r a) = cc
  from_heads [] i e (text_head k r a) = cc
  from_heads (m ∷ ms) i e no_head = cc
  from_heads (m ∷ ms) i e (element_head {h} {hs} {l} {ls} {ts} k c r a) =
      let q : h ≡ head_of m = cc in
      let n : hs ≡ map head_of ms = cc in
      on_label (sym (ap (λ (x : Head Tree). x.kind) q) ∙ k)
      (the_list l.content m.content (i.0).content (c ∙ ap (λ (x : Head Tree). Some x.content) q))
      (the_list l.rest m.rest (i.0).rest (r ∙ ap (λ (x : Head Tree). Some x.rest) q)) (from_heads ms i.1 n a)
  from_heads (m ∷ ms) i e (text_head {h} {hs} {ls} {t} {ts} k r a) =
      let q : h ≡ head_of m = cc in
      let n : hs ≡ map head_of ms = cc in
      on_text (sym (ap (λ (x : Head Tree). x.kind) q) ∙ k) (the_list t.rest m.rest (i.0).rest (r ∙ ap (λ (x : Head Tree). Some x.rest) q)) (from_heads ms i.1 n a)

-- ---- beyond the states

beyond : (a : Automaton) (n : ℕ) → length a ≤ n → state_at a n ≡ no_moves false
beyond [] n h = refl
beyond (m ∷ a) zero h = absurd (omega arith)
beyond (m ∷ a) (suc n) h = beyond a n (omega arith)

-- ---- what is compiled

pub type_is : (types : List Row) (c : CellsView) (s : State) (T : Tree) → continuation_of types c s ≡ Some T →
    (k : ℕ) × (number_at c.states (state_number s) ≡ Some k) × (seq_of (continuation types c.cells k) ≡ T)
type_is types c s T e = go (number_at c.states (state_number s)) refl e
  where
    go : (o : Option ℕ) → number_at c.states (state_number s) ≡ o → as_type (numbered types c.cells o) ≡ Some T →
        (k : ℕ) × (number_at c.states (state_number s) ≡ Some k) × (seq_of (continuation types c.cells k) ≡ T)
    go None q h = cc
    go (Some k) q h = (k, q, cc)

pub type_of_number : (types : List Row) (c : CellsView) (s : State) (k : ℕ) → number_at c.states (state_number s) ≡ Some k → continuation_of types c s ≡ Some (seq_of (continuation types c.cells k))
type_of_number types c s k e = ap (λ o. as_type (numbered types c.cells o)) e

state_of_number : ℕ → State
state_of_number n = record { number = n }

module _ (p : ProgramTable) (c : CellsView) (a : Automaton) (merged : AreMerged (names_of (program_tree p))) where
  abbrev E : Definitions
  E = names_of (program_tree p)

  abbrev C : Continuations
  C = continuations_of p.types c.cells c.states

  pub to_compiled : Mirrors p c a → AreCompiled p.types p.type_defs c.cells c.states a (length c.states) []
  unfolding state_of_number
  to_compiled m = record {
    aligned = m.states;
    numbers = m.kept.numbers;
    continuations = λ n k e. (m.kept.pieces n k e, λ s. m.shallow s (state_of_number n) (seq_of (continuation p.types c.cells k)) (type_of_number p.types c (state_of_number n) k e));
    flags = λ n k e. m.flags (state_of_number n) (seq_of (continuation p.types c.cells k)) (type_of_number p.types c (state_of_number n) k e);
    complete = λ n k h e.
        let K = continuation p.types c.cells k in
        let good = m.kept.pieces n k e in
        from_heads C listed (moves E K) (moves_continue E merged K good) (moves_are_heads E merged K good)
        (m.moves (state_of_number n) (seq_of K) (type_of_number p.types c (state_of_number n) k e));
    current = subst (λ x. AreMirrored C [] x.labels x.texts) (sym (beyond a (length c.states) (let o = m.states in omega arith))) no_move;
    fresh = λ n h.
        let b = beyond a n (let o = m.states in omega arith) in
        (ap (λ x. x.labels) b, ap (λ x. x.texts) b);
  }
    where
      listed : (s : State) (K : List Tree) → C s ≡ Some K → IsContinuation K
      listed s K e = let r = numbered_is p.types p.type_defs c.cells (number_at c.states (state_number s)) K e in subst IsContinuation r.2 (m.kept.pieces (state_number s) r.0 r.1)

  pub to_sorted : Mirrors p c a → AreSorted p.types p.type_defs c.cells c.states c.sorts (length c.states)
  unfolding state_of_number
  to_sorted m = record {
    count = m.kept.rows;
    right = λ n k h e.
        let K = continuation p.types c.cells k in
        m.sorts (state_of_number n) (seq_of K) (type_of_number p.types c (state_of_number n) k e) ∙ ap sorts_of (moves_are_heads E merged K (m.kept.pieces n k e));
  }

  pub to_mirrors : AreCompiled p.types p.type_defs c.cells c.states a (length c.states) [] → AreSorted p.types p.type_defs c.cells c.states c.sorts (length c.states) → AreOfTypes p.types c.cells → AreBounded E (nodes_in p.types) p.types c.cells → Mirrors p c a
  to_mirrors m sorted nodes bounded = record {
    states = m.aligned;
    shallow = λ s t T e. let r = type_is p.types c t T e in subst (λ U. depth U ≤ nesting_limit) r.2 ((m.continuations (state_number t) r.0 r.1).1 s);
    flags = λ t T e. let r = type_is p.types c t T e in subst (λ U. (moves_at a t).last ≡ can_be_empty E U) r.2 (m.flags (state_number t) r.0 r.1);
    moves = λ t T e.
        let r = type_is p.types c t T e in
        let K = continuation p.types c.cells r.0 in
        let w = number_within c.states (state_number t) r.0 r.1 in
        subst (λ U. AreHeadMoves (continuation_of p.types c) (heads E U) (moves_at a t).labels (moves_at a t).texts) r.2
        (subst (λ hs. AreHeadMoves (continuation_of p.types c) hs (moves_at a t).labels (moves_at a t).texts) (sym (moves_are_heads E merged K (m.continuations (state_number t) r.0 r.1).0))
        (to_heads C (m.complete (state_number t) r.0 w r.1)));
    sorts = λ t T e.
        let r = type_is p.types c t T e in
        let K = continuation p.types c.cells r.0 in
        let w = number_within c.states (state_number t) r.0 r.1 in
        sorted.right (state_number t) r.0 w r.1
        ∙ ap sorts_of (sym (moves_are_heads E merged K (m.continuations (state_number t) r.0 r.1).0))
        ∙ ap (λ U. sorts_of (heads E U)) r.2;
    kept = record { numbers = m.numbers; rows = sorted.count; nodes = nodes; pieces = λ n k e. (m.continuations n k e).0; bounded = bounded };
  }

-- ---- a program that grows

module _ (P : Piece → Type 0) where
  list_there : (Ks : List (List Piece)) → AllByRecursion (AllByRecursion P) Ks → (n : ℕ) → AllByRecursion P (get_or Ks n [])
  list_there [] a n = tt
  list_there (K ∷ Ks) a zero = a.0
  list_there (K ∷ Ks) a (suc n) = list_there Ks a.1 n

  lists_there : (Ks : List (List Piece)) (cs : List Cell) → AllByRecursion (AllByRecursion P) Ks → AllByRecursion (λ (c : Cell). P c.item) cs → AllByRecursion (AllByRecursion P) (lists_after Ks cs)
  lists_there Ks [] a b = a
  lists_there Ks (c ∷ cs) a b =
      lists_there (Ks ++ (c.item ∷ get_or Ks c.behind []) ∷ []) cs
      (all_append (AllByRecursion P) Ks ((c.item ∷ get_or Ks c.behind []) ∷ []) a ((b.0, list_there Ks a c.behind), tt)) b.1

  pub pieces_there : (cs : List Cell) → AllByRecursion (λ (c : Cell). P c.item) cs → (n : ℕ) → AllByRecursion P (list_at cs n)
  unfolding list_at
  pieces_there cs b n = list_there (lists_in cs) (lists_there ([] ∷ []) cs (tt, tt) b) n

map_pieces : (f g : Piece → Tree) (P : Piece → Type 0) → ((x : Piece) → P x → f x ≡ g x) → (xs : List Piece) → AllByRecursion P xs → map f xs ≡ map g xs
map_pieces f g P h [] a = refl
map_pieces f g P h (x ∷ xs) a = let e = h x a.0 in let i = map_pieces f g P h xs a.1 in cc

module _ (old new : List Row) (k : KeepsRows old new) where
  pub piece_stays : (x : Piece) → x.node < length old → piece_tree new x ≡ piece_tree old x
  piece_stays x h = ap (λ T. cond x.is_turns (turns_of T) T) (tree_stays old new k x.node h)

  pub continuation_stays : (cells : List Cell) → AreOfTypes old cells → (n : ℕ) → continuation new cells n ≡ continuation old cells n
  continuation_stays cells a n =
      map_pieces (piece_tree new) (piece_tree old) (λ x. x.node < length old) piece_stays (list_at cells n) (pieces_there (λ x. x.node < length old) cells a n)

  pub types_stay : (c : CellsView) → AreOfTypes old c.cells → (s : State) → continuation_of new c s ≡ continuation_of old c s
  types_stay c a s = go (number_at c.states (state_number s))
    where
      go : (o : Option ℕ) → as_type (numbered new c.cells o) ≡ as_type (numbered old c.cells o)
      go None = refl
      go (Some n) = ap (λ K. Some (seq_of K)) (continuation_stays c.cells a n)

  pub shallow_before : IsShallow new → IsShallow old
  shallow_before s i h = subst (λ T. depth T ≤ nesting_limit) (tree_stays old new k i h) (s i (let m = more_rows old new k in omega arith))

  nodes_more : (rs more : List Row) (i : ℕ) → ((j : ℕ) → j < i + length rs → tree_at new j ≡ tree_at old j) → nodes_from old rs i ≤ nodes_from new (rs ++ more) i
  nodes_more [] more i same = six more i
    where
      six : (rs : List Row) (i : ℕ) → 6 ≤ nodes_from new rs i
      six [] i = omega arith
      six (r ∷ rs) i = let h = six rs (i + 1) in omega arith
  nodes_more (r ∷ rs) more i same =
      let e = ap node_count (same i (omega arith)) in
      let h = nodes_more rs more (i + 1) (λ j l. same j (omega arith)) in omega arith

  more_nodes : nodes_in old ≤ nodes_in new
  unfolding nodes_in
  more_nodes = subst (λ rs. nodes_from old old 0 ≤ nodes_from new rs 0) (sym k.grown) (nodes_more old k.more 0 (λ j h. tree_stays old new k j (omega arith)))

head_moves_more : (C D : State → Option Tree) → ((s : State) (T : Tree) → C s ≡ Some T → D s ≡ Some T) → {hs : List (Head Tree)} {ls : List LabelMove} {ts : List TextMove} → AreHeadMoves C hs ls ts → AreHeadMoves D hs ls ts
head_moves_more C D f no_head = no_head
head_moves_more C D f (element_head {h} {hs} {l} {ls} {ts} k c r a) = element_head k (f l.content h.content c) (f l.rest h.rest r) (head_moves_more C D f a)
head_moves_more C D f (text_head {h} {hs} {ls} {t} {ts} k r a) = text_head k (f t.rest h.rest r) (head_moves_more C D f a)

pub mirrors_stay : MirrorsStay
mirrors_stay p q c a m adds e =
    let same = types_stay p.types q.types adds.types c m.kept.nodes in
    let back = λ (s : State) (T : Tree) (h : continuation_of q.types c s ≡ Some T). sym (same s) ∙ h in
    let names = ap names_of e in
    record {
      states = m.states;
      shallow = λ z s T h. m.shallow (shallow_before p.types q.types adds.types z) s T (back s T h);
      flags = λ s T h. m.flags s T (back s T h) ∙ ap (λ E. can_be_empty E T) (sym names);
      moves = λ s T h.
          subst (λ E. AreHeadMoves (continuation_of q.types c) (heads E T) (moves_at a s).labels (moves_at a s).texts) (sym names)
          (head_moves_more (continuation_of p.types c) (continuation_of q.types c) (λ t U g. same t ∙ g) (m.moves s T (back s T h)));
      sorts = λ s T h. m.sorts s T (back s T h) ∙ ap (λ E. sorts_of (heads E T)) (sym names);
      kept = record {
        numbers = m.kept.numbers;
        rows = m.kept.rows;
        nodes = all_more (λ (d : Cell). d.item.node < length p.types) (λ (d : Cell). d.item.node < length q.types) c.cells
            (λ d h. let l = more_rows p.types q.types adds.types in omega arith) m.kept.nodes;
        pieces = λ n k h. subst IsContinuation (sym (continuation_stays p.types q.types adds.types c.cells m.kept.nodes k)) (m.kept.pieces n k h);
        bounded = λ n h.
            let l = more_nodes p.types q.types adds.types in
            let d : nodes_in p.types + (nodes_in q.types - nodes_in p.types) ≡ nodes_in q.types = omega arith in
            subst (λ E. IsBounded E (nodes_in q.types) (continuation q.types c.cells n)) (sym names)
            (subst (IsBounded (names_of (program_tree p)) (nodes_in q.types)) (sym (continuation_stays p.types q.types adds.types c.cells m.kept.nodes n))
            (subst (λ i. IsBounded (names_of (program_tree p)) i (continuation p.types c.cells n)) d
            (bounded_larger (names_of (program_tree p)) (nodes_in p.types) (nodes_in q.types - nodes_in p.types) (continuation p.types c.cells n) (m.kept.bounded n h))));
      };
    }

-- ---- no cells

pub mirrors_none : (p : ProgramTable) → Mirrors p no_cells []
mirrors_none p = record {
  states = refl;
  shallow = λ z s T h. cc;
  flags = λ s T h. cc;
  moves = λ s T h. cc;
  sorts = λ s T h. cc;
  kept = record { numbers = tt; rows = refl; nodes = tt; pieces = λ n k h. cc; bounded = bounded_no_cells p.types p.type_defs (names_of (program_tree p)) (nodes_in p.types) };
}
