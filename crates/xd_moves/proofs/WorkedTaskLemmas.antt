-- A task that is worked off by the form of its node, and a stack of them.
use Rattle.std.proofs.Common.{Vec, Global, ◌≡◌, ℕ, ◌+◌, ◌<◌, ◌≤◌, arith, Bool, true, false, cond, List, [], ◌∷◌, ◌++◌, map, reverse, length, append_assoc, append-nil, take, drop, refl, ap, sym, subst, ◌∙◌}
use Rattle.std.specs.List.{AllByRecursion}
use Rattle.std.proofs.lemmas.List.{reverse-append, reverse-reverse, take-append-drop}
use Rattle.xd_doc.proofs.Lists.{all_more, all_append, map_append, all_front, all_below}
use Rattle.xd_syntax.specs.Tree.{Tree, Empty, Text, Words, Name, Elem, Seq, Alt, Star, Plus, Opt, Val, Definitions, seq_of}
use Rattle.xd_syntax.specs.TreeForms.{alt_of, is_alt}
use Rattle.xd_syntax.specs.Table.{Row, Form, empty_form, text_form, words_form, name_form, elem_form, seq_form, alt_form, star_form, plus_form, opt_form, val_form, form_tree, tree_at, IsSeqPart, IsAltPart, CanFollow, PartsBelow}
use Rattle.xd_laws.specs.Guarded.{Guarded}
use Rattle.xd_meaning.specs.Heads.{pieces}
use Rattle.xd_meaning.specs.CanBeEmpty.{can_be_empty}
use Rattle.xd_syntax.specs.declared.types.TypeDef.{TypeDef}
use Rattle.xd_syntax.specs.Types.{form_of}
use Rattle.xd_syntax.specs.declared.types.TypeId.{TypeId}
use Rattle.xd_syntax.specs.declared.types.TypeForm.{TypeForm}
use Rattle.xd_syntax.specs.declared.types.TypeForm.TheVariants as V
use Rattle.xd_syntax.proofs.Trees.{tree_kept}
use Rattle.xd_continuations.specs.Continuation.{Move, moves, is_piece}
use Rattle.xd_continuations.specs.Expansion.{Task, in_front, options, task, own_moves, tasks_left, tasks_of, moves_to_come, work_left}
use Rattle.xd_continuations.specs.Chains.{list_at, HasLink, KeepsLinks}
use Rattle.xd_sound.specs.TypeNames.{meanings}
use Rattle.xd_moves.specs.Pieces.{piece_tree, turns_of}
use Rattle.xd_moves.specs.Found.{continuation, task_at, waiting_at, move_of, move_at, IsTask, IsFound, AddsCells, PutsTasks, Finds, IsWorkedOff, AreDecidingMarks, AreMovesOf, marked_front, form_tasks, form_moves, form_put, is_plus, AreBounded, StayBounded, IsContent}
use Rattle.xd_continuations.specs.TailUses.{RecursOnlyInTail}
use Rattle.xd_continuations.specs.Bounds.{NoneLarger, IsBounded}
use Rattle.xd_continuations.specs.Laws.{IsBoundedTask}
use Rattle.xd_continuations.proofs.IsBoundedLemmas.{bounded_rest, bounded_pieces, bounded_plus}
use Rattle.xd_continuations.proofs.TaskBounds.{along_bounded, left_bounded}
use Rattle.xd_moves.specs.declared.piece.Piece.{Piece}
use Rattle.xd_moves.specs.Cells.{Cell}
use Rattle.xd_moves.specs.declared.expansion.Found.{Found}
use Rattle.xd_continuations.proofs.MoveLemmas.{one_piece}
use Rattle.xd_continuations.proofs.IsMergedLemmas.{part_piece}
use Rattle.xd_continuations.proofs.TaskLemmas.{tasks_stand, step_gives, step_falls, none_to_come}
use Rattle.xd_continuations.proofs.ChainLemmas.{kept_length, list_none}
use Rattle.xd_moves.proofs.PutsTasksLemmas.{adds_none, adds_then, adds_cell, bounded_same, bounded_cell, piece_cell, continuation_kept, waiting_kept, tasks_stand_on}

-- ---- parts of sequences and alternatives

-- each part of a sequence is a piece, each of an alternative none
pub seq_parts : (older types : List Row) (more : List Row) → types ≡ older ++ more → (is : List ℕ) → AllByRecursion (IsSeqPart older) is →
    AllByRecursion (λ i. is_piece (tree_at types i) ≡ true) is
seq_parts older types more e [] a = tt
seq_parts older types more e (i ∷ is) a =
    let k : tree_at types i ≡ tree_at older i = ap (λ rs. tree_at rs i) e ∙ tree_kept older more i (a.0).0 in
    (subst (λ T. is_piece T ≡ true) (sym k) (part_piece (tree_at older i) (a.0).1).0, seq_parts older types more e is a.1)

pub alt_parts : (older types : List Row) (more : List Row) → types ≡ older ++ more → (is : List ℕ) → AllByRecursion (IsAltPart older) is →
    AllByRecursion (λ i. is_alt (tree_at types i) ≡ false) is
alt_parts older types more e [] a = tt
alt_parts older types more e (i ∷ is) a =
    let k : tree_at types i ≡ tree_at older i = ap (λ rs. tree_at rs i) e ∙ tree_kept older more i (a.0).0 in
    (subst (λ T. is_alt T ≡ false) (sym k) (a.0).1, alt_parts older types more e is a.1)

one_option : (T : Tree) → is_alt T ≡ false → options T ≡ T ∷ []
one_option Empty e = refl
one_option Text e = refl
one_option (Words w) e = refl
one_option (Name x) e = refl
one_option (Elem c T) e = refl
one_option (Seq T U) e = refl
one_option (Alt T U) e = cc
one_option (Star T) e = refl
one_option (Plus T) e = refl
one_option (Opt T) e = refl
one_option (Val x T) e = refl

pieces-parts : (t : ℕ → Tree) (i : ℕ) (is : List ℕ) → AllByRecursion (λ j. is_piece (t j) ≡ true) (i ∷ is) → pieces (seq_of (map t (i ∷ is))) ≡ map t (i ∷ is)
pieces-parts t i [] a = one_piece (t i) a.0
pieces-parts t i (j ∷ js) a = ap (λ Ts. t i ∷ Ts) (pieces-parts t j js a.1)

options-parts : (t : ℕ → Tree) (i : ℕ) (is : List ℕ) → AllByRecursion (λ j. is_alt (t j) ≡ false) (i ∷ is) → options (alt_of (map t (i ∷ is))) ≡ map t (i ∷ is)
options-parts t i [] a = one_option (t i) a.0
options-parts t i (j ∷ js) a = ap (λ Ts. t i ∷ Ts) (options-parts t j js a.1)

-- the marks say what can be empty
marked_in_front : (types : List Row) (ds : List TypeDef) (marks : List Bool) → AreDecidingMarks types ds marks → (is : List ℕ) → AllByRecursion (λ i. i < length types) is → (K : List Tree) →
    marked_front types marks is K ≡ in_front (can_be_empty (meanings types ds)) (map (tree_at types) is) K
marked_in_front types ds marks m [] a K = refl
marked_in_front types ds marks m (i ∷ is) a K =
    let e = m.right i a.0 in
    let r = marked_in_front types ds marks m is a.1 K in
    ap (λ b. task (map (tree_at types) is ++ K) (tree_at types i) ∷ cond b (marked_front types marks is K) []) e
    ∙ ap (λ ts. task (map (tree_at types) is ++ K) (tree_at types i) ∷ cond (can_be_empty (meanings types ds) (tree_at types i)) ts []) r

-- ---- one task

-- the parts of a form, in the table that has its node
pub record ArePartsOf (types : List Row) (f : Form) : Type 0 where
  pub older : List Row
  pub more : List Row
  pub split : types ≡ older ++ more
  pub follows : CanFollow false older f
  pub below : PartsBelow (length types) f

cond_both : {A : Type 0} (b : Bool) (x y : A) → x ≡ y → cond b x y ≡ y
cond_both true x y e = e
cond_both false x y e = refl

plain_piece : (types : List Row) (p : Piece) (T : Tree) → tree_at types p.node ≡ T → turns_of T ≡ T → piece_tree types p ≡ T
plain_piece types p T e t = cond_both p.is_turns (turns_of (tree_at types p.node)) (tree_at types p.node) (ap turns_of e ∙ t ∙ sym e) ∙ e

plus_piece : (E : Definitions) (types : List Row) (p : Piece) (T : Tree) (K : List Tree) → tree_at types p.node ≡ Plus T → tasks_left E (piece_tree types p) K ≡ task (Star T ∷ K) T ∷ []
plus_piece E types p T K e = go p.is_turns
  where
    go : (b : Bool) → tasks_left E (cond b (turns_of (tree_at types p.node)) (tree_at types p.node)) K ≡ task (Star T ∷ K) T ∷ []
    go true = ap (λ U. tasks_left E (turns_of U) K) e
    go false = ap (λ U. tasks_left E U K) e

plus_own : (types : List Row) (p : Piece) (T : Tree) (K : List Tree) → tree_at types p.node ≡ Plus T → own_moves (piece_tree types p) K ≡ []
plus_own types p T K e = go p.is_turns
  where
    go : (b : Bool) → own_moves (cond b (turns_of (tree_at types p.node)) (tree_at types p.node)) K ≡ []
    go true = ap (λ U. own_moves (turns_of U) K) e
    go false = ap (λ U. own_moves U K) e

module _ (types : List Row) (ds : List TypeDef) (marks : List Bool) (m : AreDecidingMarks types ds marks) (p : Piece) (K : List Tree) where
  as_left : (T : Tree) → tree_at types p.node ≡ T → turns_of T ≡ T → tasks_left (meanings types ds) (piece_tree types p) K ≡ tasks_left (meanings types ds) T K
  as_left T e t = ap (λ U. tasks_left (meanings types ds) U K) (plain_piece types p T e t)

  pub form_left : (f : Form) → ArePartsOf types f → tree_at types p.node ≡ form_tree (tree_at types) f →
      form_tasks types ds marks f K ≡ tasks_left (meanings types ds) (piece_tree types p) K
  form_left empty_form a e = sym (as_left Empty e refl)
  form_left text_form a e = sym (as_left Text e refl)
  form_left (words_form w) a e = sym (as_left (Words w) e refl)
  form_left (name_form w) a e = sym (as_left (Name w) e refl)
  form_left (elem_form c i) a e = sym (as_left (Elem c (tree_at types i)) e refl)
  form_left (seq_form []) a e = let h = a.follows.0 in absurd (omega arith)
  form_left (seq_form (i ∷ [])) a e = let h = a.follows.0 in absurd (omega arith)
  form_left (seq_form (i ∷ (j ∷ js))) a e =
      marked_in_front types ds marks m (i ∷ (j ∷ js)) a.below K
      ∙ ap (λ Ts. in_front (can_be_empty (meanings types ds)) Ts K) (sym (pieces-parts (tree_at types) i (j ∷ js) (seq_parts a.older types a.more a.split (i ∷ (j ∷ js)) a.follows.1)))
      ∙ sym (as_left (Seq (tree_at types i) (seq_of (map (tree_at types) (j ∷ js)))) e refl)
  form_left (alt_form []) a e = let h = a.follows.0 in absurd (omega arith)
  form_left (alt_form (i ∷ [])) a e = let h = a.follows.0 in absurd (omega arith)
  form_left (alt_form (i ∷ (j ∷ js))) a e =
      ap (map (task K)) (sym (options-parts (tree_at types) i (j ∷ js) (alt_parts a.older types a.more a.split (i ∷ (j ∷ js)) a.follows.1)))
      ∙ sym (as_left (Alt (tree_at types i) (alt_of (map (tree_at types) (j ∷ js)))) e refl)
  form_left (star_form i) a e = sym (as_left (Star (tree_at types i)) e refl)
  form_left (plus_form i) a e = sym (plus_piece (meanings types ds) types p (tree_at types i) K e)
  form_left (opt_form i) a e = sym (as_left (Opt (tree_at types i)) e refl)
  form_left (val_form x q i) a e = sym (as_left (Val x (tree_at types i)) e refl)

  as_own : (T : Tree) → tree_at types p.node ≡ T → turns_of T ≡ T → own_moves (piece_tree types p) K ≡ own_moves T K
  as_own T e t = ap (λ U. own_moves U K) (plain_piece types p T e t)

  pub form_own : (f : Form) → ArePartsOf types f → tree_at types p.node ≡ form_tree (tree_at types) f → form_moves types p.node f K ≡ own_moves (piece_tree types p) K
  form_own empty_form a e = sym (as_own Empty e refl)
  form_own text_form a e = ap (λ T. move_of T K ∷ []) e ∙ sym (as_own Text e refl)
  form_own (words_form w) a e = ap (λ T. move_of T K ∷ []) e ∙ sym (as_own (Words w) e refl)
  form_own (name_form w) a e = sym (as_own (Name w) e refl)
  form_own (elem_form c i) a e = ap (λ T. move_of T K ∷ []) e ∙ sym (as_own (Elem c (tree_at types i)) e refl)
  form_own (seq_form []) a e = let h = a.follows.0 in absurd (omega arith)
  form_own (seq_form (i ∷ [])) a e = let h = a.follows.0 in absurd (omega arith)
  form_own (seq_form (i ∷ (j ∷ js))) a e = sym (as_own (Seq (tree_at types i) (seq_of (map (tree_at types) (j ∷ js)))) e refl)
  form_own (alt_form []) a e = let h = a.follows.0 in absurd (omega arith)
  form_own (alt_form (i ∷ [])) a e = let h = a.follows.0 in absurd (omega arith)
  form_own (alt_form (i ∷ (j ∷ js))) a e = sym (as_own (Alt (tree_at types i) (alt_of (map (tree_at types) (j ∷ js)))) e refl)
  form_own (star_form i) a e = sym (as_own (Star (tree_at types i)) e refl)
  form_own (plus_form i) a e = sym (plus_own types p (tree_at types i) K e)
  form_own (opt_form i) a e = sym (as_own (Opt (tree_at types i)) e refl)
  form_own (val_form x q i) a e = sym (as_own (Val x (tree_at types i)) e refl)

-- ---- the stack of tasks

pub moves_kept : (types : List Row) (old new : List Cell) → KeepsLinks old new → (fs : List Found) → AllByRecursion (IsFound types old) fs →
    map (move_at types new) fs ≡ map (move_at types old) fs
moves_kept types old new k [] a = refl
moves_kept types old new k (f ∷ fs) a =
    let e = ap (move_of (tree_at types f.node)) (continuation_kept types old new k f.rest (a.0).1) in
    let i = moves_kept types old new k fs a.1 in cc

pub found_stand_on : (types : List Row) (old new : List Cell) → KeepsLinks old new → (fs : List Found) → AllByRecursion (IsFound types old) fs → AllByRecursion (IsFound types new) fs
found_stand_on types old new k fs a =
    let l = kept_length old new k in
    all_more (IsFound types old) (IsFound types new) fs (λ f i. (i.0, (let h = i.1 in omega arith))) a

waiting-append : (types : List Row) (cells xs ys : List Cell) → waiting_at types cells (xs ++ ys) ≡ waiting_at types cells ys ++ waiting_at types cells xs
waiting-append types cells xs ys = ap reverse (map_append (task_at types cells) xs ys) ∙ reverse-append (map (task_at types cells) xs) (map (task_at types cells) ys)

-- the moves that were found and those to come are all moves of the continuation
pub record IsExpanding (types : List Row) (ds : List TypeDef) (old : List Cell) (number : ℕ) (cells tasks : List Cell) (found : List Found) : Type 0 where
  pub cells_added : AddsCells types old cells
  pub tasks_stand : AllByRecursion (IsTask types cells) tasks
  pub found_stand : AllByRecursion (IsFound types cells) found
  pub same : map (move_at types cells) found ++ moves_to_come (meanings types ds) (waiting_at types cells tasks) ≡ moves (meanings types ds) (continuation types old number)
  pub bounded : (m : ℕ) → RecursOnlyInTail (meanings types ds) → NoneLarger m (meanings types ds) → AreBounded (meanings types ds) m types old →
      AreBounded (meanings types ds) m types cells × AllByRecursion (IsBoundedTask (meanings types ds) m) (waiting_at types cells tasks)

module _ (types : List Row) (ds : List TypeDef) (guarded : Guarded (meanings types ds)) (old : List Cell) (number : ℕ) (cells cells' waiting left : List Cell) (t : Cell) (found found' : List Found)
    (i : IsExpanding types ds old number cells (waiting ++ t ∷ []) found) (w : IsWorkedOff types ds cells cells' t waiting left found found') where
  -- what waits afterwards
  left_is : waiting_at types cells' left ≡ tasks_left (meanings types ds) (piece_tree types t.item) (continuation types cells t.behind) ++ waiting_at types cells waiting
  left_is =
      ap (waiting_at types cells') w.tasks.grown ∙ waiting-append types cells' waiting w.tasks.put
      ∙ ap (λ ts. ts ++ waiting_at types cells' waiting) w.tasks.same
      ∙ ap (λ ts. tasks_left (meanings types ds) (piece_tree types t.item) (continuation types cells t.behind) ++ ts)
      (waiting_kept types cells cells' w.cells.kept waiting (all_front (IsTask types cells) waiting (t ∷ []) i.tasks_stand))

  before_is : waiting_at types cells (waiting ++ t ∷ []) ≡ task_at types cells t ∷ waiting_at types cells waiting
  before_is = waiting-append types cells waiting (t ∷ [])

  step_bounded : (m : ℕ) → RecursOnlyInTail (meanings types ds) → NoneLarger m (meanings types ds) →
      AreBounded (meanings types ds) m types cells × AllByRecursion (IsBoundedTask (meanings types ds) m) (waiting_at types cells (waiting ++ t ∷ [])) →
      AreBounded (meanings types ds) m types cells' × AllByRecursion (IsBoundedTask (meanings types ds) m) (waiting_at types cells' left)
  step_bounded m tail small h =
      let E = meanings types ds in
      let a = subst (AllByRecursion (IsBoundedTask E m)) before_is h.1 in (
        w.bounded E m h.0 a.0,
        subst (AllByRecursion (IsBoundedTask E m)) (sym left_is)
            (all_append (IsBoundedTask E m) (tasks_left E (piece_tree types t.item) (continuation types cells t.behind)) (waiting_at types cells waiting)
            (left_bounded E m tail small (piece_tree types t.item) (continuation types cells t.behind) a.0) a.1),
      )

  pub expanding_on : IsExpanding types ds old number cells' left found'
  expanding_on =
      let E = meanings types ds in
      let K : List Tree = continuation types cells t.behind in
      let T : Tree = piece_tree types t.item in
      let ws : List Task = waiting_at types cells waiting in
      let own : List Move = own_moves T K in
      let a : map (move_at types cells') found' ≡ map (move_at types cells) found ++ own =
      ap (map (move_at types cells')) w.moves.grown ∙ map_append (move_at types cells') found w.moves.found
      ∙ ap (λ ms. ms ++ map (move_at types cells') w.moves.found) (moves_kept types cells cells' w.cells.kept found i.found_stand)
      ∙ ap (λ ms. map (move_at types cells) found ++ ms) w.moves.same in
      let b : moves_to_come E (waiting_at types cells (waiting ++ t ∷ [])) ≡ own ++ moves_to_come E (waiting_at types cells' left) =
      ap (moves_to_come E) before_is ∙ step_gives E guarded T K ws ∙ ap (λ ts. own ++ moves_to_come E ts) (sym left_is) in
      record {
        cells_added = adds_then types old cells cells' i.cells_added w.cells;
        tasks_stand = subst (AllByRecursion (IsTask types cells')) (sym w.tasks.grown)
            (all_append (IsTask types cells') waiting w.tasks.put
            (tasks_stand_on types cells cells' w.cells.kept waiting (all_front (IsTask types cells) waiting (t ∷ []) i.tasks_stand)) w.tasks.stand);
        found_stand = subst (AllByRecursion (IsFound types cells')) (sym w.moves.grown)
            (all_append (IsFound types cells') found w.moves.found (found_stand_on types cells cells' w.cells.kept found i.found_stand) w.moves.stand);
        same = ap (λ ms. ms ++ moves_to_come E (waiting_at types cells' left)) a
            ∙ append_assoc (map (move_at types cells) found) own (moves_to_come E (waiting_at types cells' left))
            ∙ ap (λ ms. map (move_at types cells) found ++ ms) (sym b)
            ∙ i.same;
        bounded = λ m tail small o. step_bounded m tail small (i.bounded m tail small o);
      }

  pub expanding_less : work_left (meanings types ds) (waiting_at types cells' left) + 1 ≤ work_left (meanings types ds) (waiting_at types cells (waiting ++ t ∷ []))
  expanding_less =
      let s = step_falls (meanings types ds) guarded (piece_tree types t.item) (continuation types cells t.behind) (waiting_at types cells waiting) in
      subst (λ ts. work_left (meanings types ds) ts + 1 ≤ work_left (meanings types ds) (waiting_at types cells (waiting ++ t ∷ []))) (sym left_is)
      (subst (λ ts. work_left (meanings types ds) (tasks_left (meanings types ds) (piece_tree types t.item) (continuation types cells t.behind) ++ waiting_at types cells waiting) + 1 ≤ work_left (meanings types ds) ts)
      (sym before_is) s)

-- where no task waits, all moves are found
pub all_found : (types : List Row) (ds : List TypeDef) → Guarded (meanings types ds) → (old : List Cell) (number : ℕ) (cells : List Cell) (found : List Found) →
    IsExpanding types ds old number cells [] found → AreMovesOf types ds old cells number found
all_found types ds guarded old number cells found i = record {
  cells = i.cells_added;
  stand = i.found_stand;
  same = sym (append-nil (map (move_at types cells) found)) ∙ ap (λ ms. map (move_at types cells) found ++ ms) (sym (none_to_come (meanings types ds) guarded)) ∙ i.same;
  bounded = λ m tail small o. (i.bounded m tail small o).0;
}

-- ---- the tasks of a continuation

abbrev pub along : (Tree → Bool) → List Tree → List Task
along Z [] = []
along Z (T ∷ K) = task K T ∷ cond (Z T) (along Z K) []

pub tasks-along : (E : Definitions) (K : List Tree) → along (can_be_empty E) K ≡ tasks_of E K
tasks-along E [] = refl
tasks-along E (T ∷ K) =
    ap (λ ts. task K T ∷ cond (can_be_empty E T) ts []) (tasks-along E K) ∙ ap (λ L. task L T ∷ cond (can_be_empty E T) (tasks_of E K) []) (sym (append-nil K))

-- ---- one task, by its node

parts_more : (m n : ℕ) → m ≤ n → (f : Form) → PartsBelow m f → PartsBelow n f
parts_more m n h empty_form p = tt
parts_more m n h text_form p = tt
parts_more m n h (words_form w) p = tt
parts_more m n h (name_form w) p = tt
parts_more m n h (elem_form c i) p = omega arith
parts_more m n h (seq_form is) p = all_below m n h is p
parts_more m n h (alt_form is) p = all_below m n h is p
parts_more m n h (star_form i) p = omega arith
parts_more m n h (plus_form i) p = omega arith
parts_more m n h (opt_form i) p = omega arith
parts_more m n h (val_form x q i) p = omega arith

pub parts_there : (types : List Row) (at : ℕ) (f : Form) → at < length types → PartsBelow at f → CanFollow false (take at types) f → ArePartsOf types f
parts_there types at f h p c = record {
  older = take at types;
  more = drop at types;
  split = sym (take-append-drop at types);
  follows = c;
  below = parts_more at (length types) (omega arith) f p;
}

-- what a node puts into cells is bounded where the task is
form_bounded : (E : Definitions) (m : ℕ) (types : List Row) (p : Piece) (K : List Tree) (f : Form) → ArePartsOf types f → tree_at types p.node ≡ form_tree (tree_at types) f →
    IsBounded E m (piece_tree types p ∷ K) → IsBounded E m (form_put types f K)
form_bounded E m types p K empty_form a e b = bounded_rest E m (piece_tree types p) K b
form_bounded E m types p K text_form a e b = bounded_rest E m (piece_tree types p) K b
form_bounded E m types p K (words_form w) a e b = bounded_rest E m (piece_tree types p) K b
form_bounded E m types p K (name_form w) a e b = bounded_rest E m (piece_tree types p) K b
form_bounded E m types p K (elem_form c i) a e b = bounded_rest E m (piece_tree types p) K b
form_bounded E m types p K (seq_form []) a e b = let h = a.follows.0 in absurd (omega arith)
form_bounded E m types p K (seq_form (i ∷ [])) a e b = let h = a.follows.0 in absurd (omega arith)
form_bounded E m types p K (seq_form (i ∷ (j ∷ js))) a e b =
    let T : Tree = Seq (tree_at types i) (seq_of (map (tree_at types) (j ∷ js))) in
    let t : IsBounded E m (T ∷ K) = subst (λ U. IsBounded E m (U ∷ K)) (plain_piece types p T e refl) b in
    subst (λ Ts. IsBounded E m (Ts ++ K)) (pieces-parts (tree_at types) i (j ∷ js) (seq_parts a.older types a.more a.split (i ∷ (j ∷ js)) a.follows.1)) (bounded_pieces E m T K t)
form_bounded E m types p K (alt_form is) a e b = bounded_rest E m (piece_tree types p) K b
form_bounded E m types p K (star_form i) a e b = subst (λ U. IsBounded E m (U ∷ K)) (plain_piece types p (Star (tree_at types i)) e refl) b
form_bounded E m types p K (plus_form i) a e b = go p.is_turns b
  where
    go : (t : Bool) → IsBounded E m (cond t (turns_of (tree_at types p.node)) (tree_at types p.node) ∷ K) → IsBounded E m (Star (tree_at types i) ∷ K)
    go true h = subst (λ U. IsBounded E m (turns_of U ∷ K)) e h
    go false h =
        bounded_rest E m (tree_at types i) (Star (tree_at types i) ∷ K) (bounded_plus E m (tree_at types i) K (subst (λ U. IsBounded E m (U ∷ K)) e h))
form_bounded E m types p K (opt_form i) a e b = bounded_rest E m (piece_tree types p) K b
form_bounded E m types p K (val_form x q i) a e b = bounded_rest E m (piece_tree types p) K b

pub form_worked : (types : List Row) (ds : List TypeDef) (marks : List Bool) → AreDecidingMarks types ds marks → (old new : List Cell) (t : Cell) (waiting left : List Cell) (known found : List Found) (f : Form) →
    ArePartsOf types f → tree_at types t.item.node ≡ form_tree (tree_at types) f → AddsCells types old new →
    PutsTasks types new waiting left (form_tasks types ds marks f (continuation types old t.behind)) →
    Finds types new known found (form_moves types t.item.node f (continuation types old t.behind)) →
    StayBounded types old new (form_put types f (continuation types old t.behind)) →
    IsWorkedOff types ds old new t waiting left known found
form_worked types ds marks m old new t waiting left known found f a e c p g b = record {
  cells = c;
  tasks = subst (PutsTasks types new waiting left) (form_left types ds marks m t.item (continuation types old t.behind) f a e) p;
  moves = subst (Finds types new known found) (form_own types ds marks m t.item (continuation types old t.behind) f a e) g;
  bounded = λ E n o h. b E n o (form_bounded E n types t.item (continuation types old t.behind) f a e h);
}

-- ---- pieces that can be empty

pub plus_empty : (E : Definitions) (T : Tree) → is_plus T ≡ true → can_be_empty E (turns_of T) ≡ true
unfolding can_be_empty
plus_empty E Empty e = cc
plus_empty E Text e = cc
plus_empty E (Words w) e = cc
plus_empty E (Name x) e = cc
plus_empty E (Elem c T) e = cc
plus_empty E (Seq T U) e = cc
plus_empty E (Alt T U) e = cc
plus_empty E (Star T) e = cc
plus_empty E (Plus T) e = refl
plus_empty E (Opt T) e = cc
plus_empty E (Val x T) e = cc

-- a form that is no `+` has a tree that is none
pub plus_form_only : (t : ℕ → Tree) (rows : List Row) (f : Form) → CanFollow false rows f → ((i : ℕ) → f ≡ plus_form i → ⊥) → is_plus (form_tree t f) ≡ false
plus_form_only t rows empty_form c n = refl
plus_form_only t rows text_form c n = refl
plus_form_only t rows (words_form w) c n = refl
plus_form_only t rows (name_form w) c n = refl
plus_form_only t rows (elem_form k i) c n = refl
plus_form_only t rows (seq_form []) c n = refl
plus_form_only t rows (seq_form (i ∷ [])) c n = let h = c.0 in absurd (omega arith)
plus_form_only t rows (seq_form (i ∷ (j ∷ js))) c n = refl
plus_form_only t rows (alt_form []) c n = refl
plus_form_only t rows (alt_form (i ∷ [])) c n = let h = c.0 in absurd (omega arith)
plus_form_only t rows (alt_form (i ∷ (j ∷ js))) c n = refl
plus_form_only t rows (star_form i) c n = refl
plus_form_only t rows (plus_form i) c n = absurd (n i refl)
plus_form_only t rows (opt_form i) c n = refl
plus_form_only t rows (val_form x q i) c n = refl

-- ---- the tasks of a continuation, as they are gathered

-- those up to here, the first of them first
pub record AreFirstTasks (E : Definitions) (types : List Row) (cells : List Cell) (number at : ℕ) (tasks : List Cell) : Type 0 where
  pub within : at ≤ length cells
  pub stand : AllByRecursion (IsTask types cells) tasks
  pub same : map (task_at types cells) tasks ++ along (can_be_empty E) (continuation types cells at) ≡ along (can_be_empty E) (continuation types cells number)

pub first_none : (E : Definitions) (types : List Row) (cells : List Cell) (number : ℕ) → number ≤ length cells → AreFirstTasks E types cells number number []
first_none E types cells number h = record { within = h; stand = tt; same = refl }

pub first_more : (E : Definitions) (types : List Row) (cells : List Cell) (number at : ℕ) (tasks : List Cell) → AreFirstTasks E types cells number at tasks → (c : Cell) →
    c.item.node < length types → c.behind < at → list_at cells at ≡ c.item ∷ list_at cells c.behind → (next : ℕ) → next ≡ cond (can_be_empty E (piece_tree types c.item)) c.behind 0 →
    AreFirstTasks E types cells number next (tasks ++ c ∷ [])
first_more E types cells number at tasks i c n h l next e = record {
  within = go (can_be_empty E (piece_tree types c.item)) e;
  stand = all_append (IsTask types cells) tasks (c ∷ []) i.stand ((n, (let w = i.within in omega arith)), tt);
  same =
      ap (λ ts. ts ++ along (can_be_empty E) (continuation types cells next)) (map_append (task_at types cells) tasks (c ∷ []))
      ∙ append_assoc (map (task_at types cells) tasks) (task_at types cells c ∷ []) (along (can_be_empty E) (continuation types cells next))
      ∙ ap (λ ts. map (task_at types cells) tasks ++ (task_at types cells c ∷ ts)) (rest (can_be_empty E (piece_tree types c.item)) e)
      ∙ ap (λ K. map (task_at types cells) tasks ++ along (can_be_empty E) (map (piece_tree types) K)) (sym l)
      ∙ i.same;
}
  where
    go : (b : Bool) → next ≡ cond b c.behind 0 → next ≤ length cells
    go true k = let w = i.within in omega arith
    go false k = omega arith

    rest : (b : Bool) → next ≡ cond b c.behind 0 → along (can_be_empty E) (continuation types cells next) ≡ cond b (along (can_be_empty E) (continuation types cells c.behind)) []
    rest true k = ap (λ m. along (can_be_empty E) (continuation types cells m)) k
    rest false k = ap (λ m. along (can_be_empty E) (continuation types cells m)) k ∙ ap (λ K. along (can_be_empty E) (map (piece_tree types) K)) (list_none cells)

map-reverse : {A B : Type 0} (f : A → B) (xs : List A) → map f (reverse xs) ≡ reverse (map f xs)
map-reverse f [] = refl
map-reverse f (x ∷ xs) =
    ap (map f) (reverse-append (x ∷ []) xs) ∙ map_append f (reverse xs) (x ∷ []) ∙ ap (λ ys. ys ++ f x ∷ []) (map-reverse f xs)
    ∙ sym (reverse-append (f x ∷ []) (map f xs))

pub first_all : (E : Definitions) (types : List Row) (cells : List Cell) (number : ℕ) (tasks : List Cell) → AreFirstTasks E types cells number 0 tasks →
    waiting_at types cells (reverse tasks) ≡ tasks_of E (continuation types cells number)
first_all E types cells number tasks i =
    ap reverse (map-reverse (task_at types cells) tasks) ∙ reverse-reverse (map (task_at types cells) tasks)
    ∙ sym (append-nil (map (task_at types cells) tasks))
    ∙ ap (λ ts. map (task_at types cells) tasks ++ ts) (sym (ap (λ K. along (can_be_empty E) (map (piece_tree types) K)) (list_none cells)))
    ∙ i.same ∙ tasks-along E (continuation types cells number)

pub all_reversed : {A : Type 0} (P : A → Type 0) (xs : List A) → AllByRecursion P xs → AllByRecursion P (reverse xs)
all_reversed P [] a = tt
all_reversed P (x ∷ xs) a = subst (AllByRecursion P) (sym (reverse-append (x ∷ []) xs)) (all_append P (reverse xs) (x ∷ []) (all_reversed P xs a.1) (a.0, tt))

-- before the first task is worked off
pub expanding_first : (types : List Row) (ds : List TypeDef) (cells : List Cell) (number : ℕ) (tasks : List Cell) → number ≤ length cells → AllByRecursion (IsTask types cells) tasks →
    waiting_at types cells tasks ≡ tasks_of (meanings types ds) (continuation types cells number) → IsExpanding types ds cells number cells tasks []
expanding_first types ds cells number tasks h a e = record {
  cells_added = adds_none types cells;
  tasks_stand = a;
  found_stand = tt;
  same = ap (moves_to_come (meanings types ds)) e ∙ tasks_stand (meanings types ds) (continuation types cells number);
  bounded = λ m tail small o.
      (o, subst (AllByRecursion (IsBoundedTask (meanings types ds) m)) (sym e) (along_bounded (meanings types ds) m (continuation types cells number) (o number h)));
}

-- a form that is `+` is made of one
pub plus_of : (f : TypeForm) (i : ℕ) → form_of f ≡ plus_form i → (t : TypeId) × (f ≡ V.Plus t)
plus_of V.Empty i e = cc
plus_of V.Text i e = cc
plus_of (V.Words w) i e = cc
plus_of (V.Name w) i e = cc
plus_of (V.Elem c t) i e = cc
plus_of (V.Seq ts) i e = cc
plus_of (V.Alt ts) i e = cc
plus_of (V.Star t) i e = cc
plus_of (V.Plus t) i e = (t, refl)
plus_of (V.Opt t) i e = cc

-- ---- the continuation of a type

pub content_none : (types : List Row) (cells : List Cell) → IsContent types cells cells [] 0
content_none types cells = record { cells = adds_none types cells; within = omega arith; same = ap (map (piece_tree types)) (list_none cells); bounded = bounded_same types cells [] }

pub content_more : (types : List Row) (old cells new : List Cell) (K : List Tree) (rest number : ℕ) → IsContent types old cells K rest → (p : Piece) → p.node < length types →
    HasLink cells (piece_cell p rest) new → number ≤ length new → list_at new number ≡ p ∷ list_at cells rest → IsContent types old new (piece_tree types p ∷ K) number
content_more types old cells new K rest number c p h k w l =
    let a = adds_cell types cells new (piece_cell p rest) h k in
    let T = piece_tree types p in
    record {
      cells = adds_then types old cells new c.cells a;
      within = w;
      same = ap (map (piece_tree types)) l ∙ ap (λ L. T ∷ L) c.same;
      bounded = λ E m o b. bounded_cell types cells new (piece_cell p rest) (T ∷ K) k (ap (λ L. T ∷ L) c.same) E m (c.bounded E m o (bounded_rest E m T K b)) b;
    }

-- the pieces of a node
pub pieces_of_seq : (types : List Row) (is : List ℕ) (f : Form) → ArePartsOf types f → f ≡ seq_form is → pieces (form_tree (tree_at types) f) ≡ map (tree_at types) is
pieces_of_seq types [] f a e = let h = (subst (CanFollow false a.older) e a.follows).0 in absurd (omega arith)
pieces_of_seq types (i ∷ is) f a e =
    ap (λ g. pieces (form_tree (tree_at types) g)) e
    ∙ pieces-parts (tree_at types) i is (seq_parts a.older types a.more a.split (i ∷ is) (subst (CanFollow false a.older) e a.follows).1)

pub pieces_of_one : (types : List Row) (rows : List Row) (f : Form) → CanFollow false rows f → (f ≡ empty_form → ⊥) → ((is : List ℕ) → f ≡ seq_form is → ⊥) →
    pieces (form_tree (tree_at types) f) ≡ form_tree (tree_at types) f ∷ []
pieces_of_one types rows empty_form c n m = absurd (n refl)
pieces_of_one types rows text_form c n m = refl
pieces_of_one types rows (words_form w) c n m = refl
pieces_of_one types rows (name_form w) c n m = refl
pieces_of_one types rows (elem_form k i) c n m = refl
pieces_of_one types rows (seq_form is) c n m = absurd (m is refl)
pieces_of_one types rows (alt_form []) c n m = let h = c.0 in absurd (omega arith)
pieces_of_one types rows (alt_form (i ∷ [])) c n m = let h = c.0 in absurd (omega arith)
pieces_of_one types rows (alt_form (i ∷ (j ∷ js))) c n m = refl
pieces_of_one types rows (star_form i) c n m = refl
pieces_of_one types rows (plus_form i) c n m = refl
pieces_of_one types rows (opt_form i) c n m = refl
pieces_of_one types rows (val_form x q i) c n m = refl

pub empty_of : (f : TypeForm) → form_of f ≡ empty_form → f ≡ V.Empty
empty_of V.Empty e = refl
empty_of V.Text e = cc
empty_of (V.Words w) e = cc
empty_of (V.Name w) e = cc
empty_of (V.Elem c t) e = cc
empty_of (V.Seq ts) e = cc
empty_of (V.Alt ts) e = cc
empty_of (V.Star t) e = cc
empty_of (V.Plus t) e = cc
empty_of (V.Opt t) e = cc

pub seq_of_form : (f : TypeForm) (is : List ℕ) → form_of f ≡ seq_form is → (ts : Vec TypeId Global) × (f ≡ V.Seq ts)
seq_of_form V.Empty is e = cc
seq_of_form V.Text is e = cc
seq_of_form (V.Words w) is e = cc
seq_of_form (V.Name w) is e = cc
seq_of_form (V.Elem c t) is e = cc
seq_of_form (V.Seq ts) is e = (ts, refl)
seq_of_form (V.Alt ts) is e = cc
seq_of_form (V.Star t) is e = cc
seq_of_form (V.Plus t) is e = cc
seq_of_form (V.Opt t) is e = cc

-- the same, as the code has it
pub content_put : (types : List Row) (old cells new : List Cell) (K : List Tree) (rest number i : ℕ) → IsContent types old cells K rest →
    (p : Piece) → p.node < length types → piece_tree types p ≡ tree_at types i → HasLink cells (piece_cell p rest) new → number ≤ length new → list_at new number ≡ p ∷ list_at cells rest →
    (L : List Tree) → L ≡ tree_at types i ∷ K → IsContent types old new L number
content_put types old cells new K rest number i c p h e k w l L q =
    subst (λ M. IsContent types old new M number) (sym (q ∙ ap (λ T. T ∷ K) (sym e))) (content_more types old cells new K rest number c p h k w l)
