-- A task that is worked off, where its node has a form.
use Rattle.std.proofs.Common.{◌≡◌, ℕ, ◌<◌, ◌≤◌, Bool, Result, Ok, Err, List, [], ◌∷◌, ◌++◌, length, append-nil, refl, sym, subst}
use Rattle.std.specs.Result.{OnOk}
use Rattle.xd_syntax.specs.Tree.{Tree}
use Rattle.xd_syntax.specs.Table.{Row, Form, tree_at}
use Rattle.xd_syntax.specs.declared.types.TypeDef.{TypeDef}
use Rattle.xd_continuations.specs.Expansion.{task}
use Rattle.xd_moves.specs.Cells.{Cell}
use Rattle.xd_moves.specs.Found.{Finds, IsTask, PutsTasks, StayBounded, continuation, form_moves, form_put, form_tasks, move_of}
use Rattle.xd_moves.proofs.PutsTasksLemmas.{node_cell, node_piece, puts_none, puts_part}
use Rattle.xd_moves.specs.declared.expansion.Found.{Found}

-- what holds whether a call fails or not
pub on_ok : {T E P : Type 0} (r : Result T E) → P → OnOk r P
on_ok (Ok x) p = p
on_ok (Err e) p = tt

pub finds_none : (types : List Row) (cells : List Cell) (found : List Found) → Finds types cells found found []
finds_none types cells found = record { found = []; grown = sym (append-nil found); stand = tt; same = refl }

-- what a form puts and gives, where that of the node is this one
pub form_done : {T E : Type 0} (r : Result T E) (types : List Row) (ds : List TypeDef) (marks : List Bool) (t : Cell) (old new tasks left : List Cell) (known found : List Found) (g f : Form) → g ≡ f →
    OnOk r (StayBounded types old new (form_put types f (continuation types old t.behind))) →
    OnOk r (PutsTasks types new tasks left (form_tasks types ds marks f (continuation types old t.behind))) →
    OnOk r (Finds types new known found (form_moves types t.item.node f (continuation types old t.behind))) →
    OnOk r (StayBounded types old new (form_put types g (continuation types old t.behind)))
    × OnOk r (PutsTasks types new tasks left (form_tasks types ds marks g (continuation types old t.behind)))
    × OnOk r (Finds types new known found (form_moves types t.item.node g (continuation types old t.behind)))
form_done r types ds marks t old new tasks left known found g f e b p m =
    let K : List Tree = continuation types old t.behind in (
      subst (λ x. OnOk r (StayBounded types old new (form_put types x K))) (sym e) b,
      subst (λ x. OnOk r (PutsTasks types new tasks left (form_tasks types ds marks x K))) (sym e) p,
      subst (λ x. OnOk r (Finds types new known found (form_moves types t.item.node x K))) (sym e) m,
    )

-- one more that was found
pub finds_one : {T E : Type 0} (r : Result T E) (types : List Row) (cells : List Cell) (t : Cell) → IsTask types cells t → (known found : List Found) →
    OnOk r (found ≡ known ++ record { node = t.item.node; rest = t.behind } ∷ []) →
    OnOk r (Finds types cells known found (move_of (tree_at types t.item.node) (continuation types cells t.behind) ∷ []))
finds_one (Ok x) types cells t i known found e = record { found = record { node = t.item.node; rest = t.behind } ∷ []; grown = e; stand = (i, tt); same = refl }
finds_one (Err x) types cells t i known found e = tt

-- one more task of a part
pub puts_one : {T E : Type 0} (r : Result T E) (types : List Row) (cells old new : List Cell) (i n : ℕ) → i < length types → n ≤ length cells → OnOk r (new ≡ old ++ node_cell i n ∷ []) →
    OnOk r (PutsTasks types cells old new (task (continuation types cells n) (tree_at types i) ∷ []))
puts_one (Ok x) types cells old new i n h l e = puts_part types cells old old [] (node_piece i) i n (puts_none types cells old) refl h l new e
puts_one (Err x) types cells old new i n h l e = tt
