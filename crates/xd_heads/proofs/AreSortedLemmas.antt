-- Rows that say which moves of states are on texts.
use Rattle.std.proofs.Common.{◌≡◌, ℕ, zero, suc, ◌+◌, ◌<◌, ◌≤◌, arith, Bool, List, [], ◌∷◌, ◌++◌, map, length, length-append, get_or, Some, Vec, inl, inr, refl, ap, sym, ◌∙◌}
use Rattle.std.specs.List.{AllByRecursion}
use Rattle.std.proofs.Math.ListN.{get_or-append}
use Rattle.std.proofs.lemmas.Bool.{cases_lt}
use Rattle.std.proofs.lemmas.List.{get_or_push, length-map, map-append}
use Rattle.std.proofs.lemmas.Option.{slice_get-get_or}
use Rattle.xd_auto.specs.Automaton.{Automaton, state_number}
use Rattle.xd_auto.specs.declared.auto.State.{State}
use Rattle.xd_syntax.specs.Kept.{ProgramTable}
use Rattle.xd_syntax.specs.Table.{Row, tree_at}
use Rattle.xd_syntax.specs.declared.types.TypeDef.{TypeDef}
use Rattle.xd_continuations.specs.Chains.{KeepsLinks}
use Rattle.xd_continuations.specs.Continuation.{head_of}
use Rattle.xd_moves.specs.Cells.{Cell}
use Rattle.xd_moves.specs.Found.{continuation, move_at}
use Rattle.xd_moves.specs.declared.expansion.Found.{Found}
use Rattle.xd_moves.proofs.PutsTasksLemmas.{continuation_kept}
use Rattle.xd_heads.specs.CellsView.{CellsView}
use Rattle.xd_heads.specs.Mirrors.{IsTypeState, Mirrors}
use Rattle.xd_heads.specs.Compiled.{AreSorted, is_on_text, move_sorts}
use Rattle.xd_heads.specs.Sorts.{is_text, rows_of, row_at, sorts_of}
use Rattle.xd_heads.specs.States.{AddsStates, IsOfCell, number_at}
use Rattle.xd_heads.proofs.HeadLists.{stands_before}
use Rattle.xd_heads.proofs.StateLemmas.{number_below, number_front, number_within, one_number}

-- what was found has the sorts of its moves
pub found_sorts : (types : List Row) (cells : List Cell) (found : List Found) → map (is_on_text types) found ≡ sorts_of (map head_of (map (move_at types cells) found))
found_sorts types cells [] = refl
found_sorts types cells (f ∷ found) =
    let here = ap is_text (sym (stands_before (tree_at types f.node) (continuation types cells f.rest)).kind) in
    let others = found_sorts types cells found in cc

-- one more row
pub rows_push : {A : Type 0} (rows : List (Vec Bool A)) (row : Vec Bool A) → rows_of (rows ++ row ∷ []) ≡ rows_of rows ++ row.items ∷ []
rows_push {A} rows row = map-append (λ (v : Vec Bool A). v.items) rows (row ∷ [])

pub row_of : {A : Type 0} (rows : List (Vec Bool A)) (n : ℕ) (row : Vec Bool A) → n < length rows → row ≡ get_or rows n row → row.items ≡ row_at (rows_of rows) n
row_of [] n row h e = absurd (omega arith)
row_of (r ∷ rows) zero row h e = ap (λ v. v.items) e
row_of (r ∷ rows) (suc n) row h e = row_of rows n row (omega arith) e

-- each state of a type has a row
pub row_there : {A : Type 0} (p : ProgramTable) (a : Automaton) (c : CellsView) (rows : List (Vec Bool A)) (s : State) → Mirrors p c a → IsTypeState c s → c.sorts ≡ rows_of rows → state_number s < length rows
row_there p a c rows s m t e =
    let w = number_within c.states (state_number s) t.0 t.1 in
    let k = m.kept.rows in
    let l = ap length e ∙ length-map rows (λ v. v.items) in
    omega arith

module _ (types : List Row) (ds : List TypeDef) where
  -- rows stay right while cells and states are added
  pub sorted_more : (a b : List Cell) (old new : List ℕ) (rows : List (List Bool)) (done : ℕ) → KeepsLinks a b → AddsStates a b old new → AllByRecursion (IsOfCell (length a)) old → done ≤ length old →
      AreSorted types ds a old rows done → AreSorted types ds b new rows done
  sorted_more a b old new rows done kept added numbers le sorted = record {
    count = sorted.count;
    right = λ n k h e.
        let was : number_at old n ≡ Some (get_or old n 0) = slice_get-get_or old n 0 (omega arith) in
        let still : number_at new n ≡ Some (get_or old n 0) = ap (λ ns. number_at ns n) added.grown ∙ number_front old added.more n (get_or old n 0) was in
        let there : number_at old n ≡ Some k = was ∙ ap Some (one_number new n k (get_or old n 0) e still) in
        sorted.right n k h there ∙ ap (move_sorts types ds) (sym (continuation_kept types a b kept k (number_below (length a) old n k numbers there)));
  }

  -- one more state has its row
  sorted_next : (cells : List Cell) (states : List ℕ) (rows : List (List Bool)) (row : List Bool) (done number : ℕ) → number_at states done ≡ Some number →
      row ≡ move_sorts types ds (continuation types cells number) → AreSorted types ds cells states rows done → AreSorted types ds cells states (rows ++ row ∷ []) (done + 1)
  sorted_next cells states rows row done number there right sorted = record {
    count = length-append rows (row ∷ []) ∙ ap (λ n. n + 1) sorted.count;
    right = λ n k h e. elim (cases_lt n done) [
      | inl l ↦ (let c = sorted.count in get_or-append rows (row ∷ []) [] n (omega arith) ∙ sorted.right n k l e)
      | inr l ↦
          (let c = sorted.count in
          let at : n ≡ done = omega arith in
          let same : k ≡ number = one_number states n number k (ap (number_at states) at ∙ there) e in
          get_or_push rows row [] n (c ∙ sym at) ∙ right ∙ ap (λ m. move_sorts types ds (continuation types cells m)) (sym same))
    ];
  }

  -- the moves of one more state are added
  pub sorted_then : (a b : List Cell) (old new : List ℕ) (rows : List (List Bool)) (row : List Bool) (done number : ℕ) → KeepsLinks a b → AddsStates a b old new → AllByRecursion (IsOfCell (length a)) old →
      number_at old done ≡ Some number → row ≡ move_sorts types ds (continuation types a number) → AreSorted types ds a old rows done → AreSorted types ds b new (rows ++ row ∷ []) (done + 1)
  sorted_then a b old new rows row done number kept added numbers there right sorted =
      sorted_more a b old new (rows ++ row ∷ []) (done + 1) kept added numbers (let l = number_within old done number there in omega arith)
      (sorted_next a old rows row done number there right sorted)
