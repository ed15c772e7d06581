-- A stack of tasks gives the moves of a continuation, in order, and is worked off.
use Rattle.std.proofs.Common.{◌≡◌, ℕ, zero, suc, ◌+◌, ◌≤◌, arith, Bool, true, false, cond, List, [], ◌∷◌, ◌++◌, map, flat_map, length, Option, Some, None, refl, ap, sym, subst, ◌∙◌, append-nil, append_assoc}
use Rattle.std.proofs.lemmas.Grind.{flat_map-append}
use Rattle.xd_doc.proofs.Lists.{map_append}
use Rattle.xd_syntax.specs.Tree.{Tree, Empty, Text, Words, Name, Elem, Seq, Alt, Star, Plus, Opt, Val, Definitions, body}
use Rattle.xd_laws.specs.Guarded.{Guarded}
use Rattle.xd_meaning.specs.Heads.{pieces}
use Rattle.xd_laws.proofs.HeadsLaw.{empty_right}
use Rattle.xd_meaning.specs.CanBeEmpty.{can_be_empty}
use Rattle.xd_continuations.specs.Continuation.{Move, followed, moves_by, moves_within, moves_along, moves}
use Rattle.xd_continuations.specs.Expansion.{Task, in_front, options, task, definition_task, own_moves, tasks_left, Gives, all_done, work, tasks_of, task_moves, moves_to_come, work_by, work_of, sum_of_work, work_left}
use Rattle.xd_continuations.proofs.MoveLemmas.{map_cond}
use Rattle.xd_continuations.proofs.NameWithinLemmas.{named, undefined, moves_read, work_reads}

map_followed : (P K : List Tree) (ms : List Move) → map (followed K) (map (followed P) ms) ≡ map (followed (P ++ K)) ms
map_followed P K [] = refl
map_followed P K (m ∷ ms) =
    let a : followed K (followed P m) ≡ followed (P ++ K) m = ap (λ (L : List Tree). let v : Move = record m { rest = L } in v) (append_assoc m.rest P K) in
    let i = map_followed P K ms in cc

flat_cond : {A B : Type 0} (f : A → List B) (b : Bool) (xs : List A) → flat_map f (cond b xs []) ≡ cond b (flat_map f xs) []
flat_cond f true xs = refl
flat_cond f false xs = refl

cond_nothing : {A : Type 0} (b : Bool) (xs ys : List A) → ys ≡ [] → xs ++ cond b ys [] ≡ xs
cond_nothing true xs ys e = ap (λ zs. xs ++ zs) e ∙ append-nil xs
cond_nothing false xs ys e = append-nil xs

module _ (E : Definitions) where
  one_front : (T : Tree) (K : List Tree) → flat_map (task_moves E) (in_front (can_be_empty E) (T ∷ []) K) ≡ task_moves E (task K T)
  one_front T K =
      ap (λ zs. task_moves E (task K T) ++ zs) (flat_cond (task_moves E) (can_be_empty E T) [])
      ∙ cond_nothing (can_be_empty E T) (task_moves E (task K T)) [] refl

  -- the pieces of a type, each as long as those before can be empty, give the moves of the type
  front_moves : (T : Tree) (K : List Tree) → flat_map (task_moves E) (in_front (can_be_empty E) (pieces T) K) ≡ task_moves E (task K T)
  front_moves Empty K = refl
  front_moves Text K = one_front Text K
  front_moves (Words w) K = one_front (Words w) K
  front_moves (Name x) K = one_front (Name x) K
  front_moves (Elem c T) K = one_front (Elem c T) K
  front_moves (Seq T U) K =
      let M : List Move = moves_within E (length E) T in
      let i = flat_cond (task_moves E) (can_be_empty E T) (in_front (can_be_empty E) (pieces U) K) ∙ ap (λ zs. cond (can_be_empty E T) zs []) (front_moves U K)
      ∙ sym (map_cond (followed K) (can_be_empty E T) (moves_within E (length E) U)) in
      let j = map_append (followed K) (map (followed (pieces U)) M) (cond (can_be_empty E T) (moves_within E (length E) U) []) in
      ap (λ zs. map (followed (pieces U ++ K)) M ++ zs) i
      ∙ ap (λ zs. zs ++ map (followed K) (cond (can_be_empty E T) (moves_within E (length E) U) [])) (sym (map_followed (pieces U) K M))
      ∙ sym j
  front_moves (Alt T U) K = one_front (Alt T U) K
  front_moves (Star T) K = one_front (Star T) K
  front_moves (Plus T) K = one_front (Plus T) K
  front_moves (Opt T) K = one_front (Opt T) K
  front_moves (Val x T) K = one_front (Val x T) K

  option_moves : (T : Tree) (K : List Tree) → flat_map (task_moves E) (map (task K) (options T)) ≡ task_moves E (task K T)
  option_moves Empty K = append-nil (task_moves E (task K Empty))
  option_moves Text K = append-nil (task_moves E (task K Text))
  option_moves (Words w) K = append-nil (task_moves E (task K (Words w)))
  option_moves (Name x) K = append-nil (task_moves E (task K (Name x)))
  option_moves (Elem c T) K = append-nil (task_moves E (task K (Elem c T)))
  option_moves (Seq T U) K = append-nil (task_moves E (task K (Seq T U)))
  option_moves (Alt T U) K =
      ap (λ zs. task_moves E (task K T) ++ zs) (option_moves U K) ∙ sym (map_append (followed K) (moves_within E (length E) T) (moves_within E (length E) U))
  option_moves (Star T) K = append-nil (task_moves E (task K (Star T)))
  option_moves (Plus T) K = append-nil (task_moves E (task K (Plus T)))
  option_moves (Opt T) K = append-nil (task_moves E (task K (Opt T)))
  option_moves (Val x T) K = append-nil (task_moves E (task K (Val x T)))

  -- the tasks of a continuation stand for its moves
  pub tasks_stand : (K : List Tree) → moves_to_come E (tasks_of E K) ≡ moves E K
  unfolding moves_to_come moves
  tasks_stand [] = refl
  tasks_stand (T ∷ K) =
      let i = flat_cond (task_moves E) (can_be_empty E T) (tasks_of E K) ∙ ap (λ zs. cond (can_be_empty E T) zs []) (tasks_stand K) in
      let M : List Move = moves_within E (length E) T in
      ap (λ zs. map (followed (K ++ [])) M ++ zs) i
      ∙ ap (λ L. map (followed L) M ++ cond (can_be_empty E T) (moves_along (can_be_empty E) (moves_within E (length E)) K) []) (append-nil K)

  module _ (guarded : Guarded E) where
    given_named : (x : List ℕ) (K : List Tree) (o : Option Tree) → body E x ≡ o →
        task_moves E (task K (Name x)) ≡ flat_map (task_moves E) (definition_task o K)
    given_named x K None e = ap (map (followed K)) (undefined E guarded (List Move) [] (moves_by (can_be_empty E)) (moves_read E (can_be_empty E) (empty_right E)) x e)
    given_named x K (Some T) e =
        ap (map (followed K)) (named E guarded (List Move) [] (moves_by (can_be_empty E)) (moves_read E (can_be_empty E) (empty_right E)) x T e)
        ∙ sym (append-nil (task_moves E (task K T)))

    -- a task gives its own moves, and then those of the tasks that it leaves
    given : (T : Tree) (K : List Tree) → task_moves E (task K T) ≡ own_moves T K ++ flat_map (task_moves E) (tasks_left E T K)
    given Empty K = refl
    given Text K = refl
    given (Words w) K = refl
    given (Name x) K = given_named x K (body E x) refl
    given (Elem c T) K = refl
    given (Seq T U) K = sym (front_moves (Seq T U) K)
    given (Alt T U) K = sym (option_moves (Alt T U) K)
    given (Star T) K = map_followed (Star T ∷ []) K (moves_within E (length E) T) ∙ sym (append-nil (task_moves E (task (Star T ∷ K) T)))
    given (Plus T) K = map_followed (Star T ∷ []) K (moves_within E (length E) T) ∙ sym (append-nil (task_moves E (task (Star T ∷ K) T)))
    given (Opt T) K = sym (append-nil (task_moves E (task K T)))
    given (Val x T) K = sym (append-nil (task_moves E (task K T)))

    pub step_gives : (T : Tree) (K : List Tree) (ts : List Task) → moves_to_come E (task K T ∷ ts) ≡ own_moves T K ++ moves_to_come E (tasks_left E T K ++ ts)
    unfolding moves_to_come
    step_gives T K ts =
        ap (λ zs. zs ++ flat_map (task_moves E) ts) (given T K)
        ∙ append_assoc (own_moves T K) (flat_map (task_moves E) (tasks_left E T K)) (flat_map (task_moves E) ts)
        ∙ ap (λ zs. own_moves T K ++ zs) (sym (flat_map-append (task_moves E) (tasks_left E T K) ts))

    pub none_to_come : moves_to_come E [] ≡ []
    unfolding moves_to_come
    none_to_come = refl

    pub gives_moves : {ts : List Task} {ms : List Move} → Gives E ts ms → ms ≡ moves_to_come E ts
    gives_moves all_done = sym none_to_come
    gives_moves (work {t} {ts} {ms} g) =
        ap (λ zs. own_moves t.part t.behind ++ zs) (gives_moves g) ∙ sym (step_gives t.part t.behind ts)

    -- ---- work

    sum_append : (ts us : List Task) → sum_of_work E (ts ++ us) ≡ sum_of_work E ts + sum_of_work E us
    sum_append [] us = omega arith
    sum_append (t ∷ ts) us = let i = sum_append ts us in omega arith

    one_work : (b : Bool) → sum_of_work E (cond b [] []) ≡ 0
    one_work true = refl
    one_work false = refl

    front_part : (b : Bool) (ts : List Task) (n : ℕ) → sum_of_work E ts ≤ n → sum_of_work E (cond b ts []) ≤ cond b n 0
    front_part true ts n h = h
    front_part false ts n h = omega arith

    front_work : (T : Tree) (K : List Tree) → sum_of_work E (in_front (can_be_empty E) (pieces T) K) ≤ work_of E T
    front_work Empty K = omega arith
    front_work Text K = let i = one_work (can_be_empty E Text) in omega arith
    front_work (Words w) K = let i = one_work (can_be_empty E (Words w)) in omega arith
    front_work (Name x) K = let i = one_work (can_be_empty E (Name x)) in omega arith
    front_work (Elem c T) K = let i = one_work (can_be_empty E (Elem c T)) in omega arith
    front_work (Seq T U) K =
        let i = front_part (can_be_empty E T) (in_front (can_be_empty E) (pieces U) K) (work_of E U) (front_work U K) in omega arith
    front_work (Alt T U) K = let i = one_work (can_be_empty E (Alt T U)) in omega arith
    front_work (Star T) K = let i = one_work (can_be_empty E (Star T)) in omega arith
    front_work (Plus T) K = let i = one_work (can_be_empty E (Plus T)) in omega arith
    front_work (Opt T) K = let i = one_work (can_be_empty E (Opt T)) in omega arith
    front_work (Val x T) K = let i = one_work (can_be_empty E (Val x T)) in omega arith

    option_work : (T : Tree) (K : List Tree) → sum_of_work E (map (task K) (options T)) ≤ work_of E T
    option_work Empty K = omega arith
    option_work Text K = omega arith
    option_work (Words w) K = omega arith
    option_work (Name x) K = omega arith
    option_work (Elem c T) K = omega arith
    option_work (Seq T U) K = omega arith
    option_work (Alt T U) K = let i = option_work U K in omega arith
    option_work (Star T) K = omega arith
    option_work (Plus T) K = omega arith
    option_work (Opt T) K = omega arith
    option_work (Val x T) K = omega arith

    named_work : (x : List ℕ) (K : List Tree) (o : Option Tree) → body E x ≡ o → sum_of_work E (definition_task o K) + 1 ≤ work_of E (Name x)
    named_work x K None e = omega arith
    named_work x K (Some T) e =
        let i = named E guarded ℕ 0 (work_by (can_be_empty E)) (work_reads E (can_be_empty E) (empty_right E)) x T e in omega arith

    less_work : (T : Tree) (K : List Tree) → sum_of_work E (tasks_left E T K) + 1 ≤ work_of E T
    less_work Empty K = omega arith
    less_work Text K = omega arith
    less_work (Words w) K = omega arith
    less_work (Name x) K = named_work x K (body E x) refl
    less_work (Elem c T) K = omega arith
    less_work (Seq T U) K =
        let i = front_part (can_be_empty E T) (in_front (can_be_empty E) (pieces U) K) (work_of E U) (front_work U K) in omega arith
    less_work (Alt T U) K = let i = option_work U K in omega arith
    less_work (Star T) K = omega arith
    less_work (Plus T) K = omega arith
    less_work (Opt T) K = omega arith
    less_work (Val x T) K = omega arith

    -- each task that is worked off leaves less to do
    pub step_falls : (T : Tree) (K : List Tree) (ts : List Task) → work_left E (tasks_left E T K ++ ts) + 1 ≤ work_left E (task K T ∷ ts)
    unfolding work_left
    step_falls T K ts = let i = less_work T K in let j = sum_append (tasks_left E T K) ts in omega arith

    worked_within : (n : ℕ) (ts : List Task) → work_left E ts ≤ n → (ms : List Move) × Gives E ts ms
    worked_within n [] h = ([], all_done)
    worked_within zero (t ∷ ts) h = let i = step_falls t.part t.behind ts in absurd (omega arith)
    worked_within (suc n) (t ∷ ts) h =
        let i = step_falls t.part t.behind ts in
        let r = worked_within n (tasks_left E t.part t.behind ++ ts) (omega arith) in
        (own_moves t.part t.behind ++ r.0, work r.1)

    -- the tasks are worked off, and give the moves that they stand for
    pub all_worked : (ts : List Task) → Gives E ts (moves_to_come E ts)
    all_worked ts =
        let r = worked_within (work_left E ts) ts (omega arith) in
        subst (Gives E ts) (gives_moves r.1) r.1
