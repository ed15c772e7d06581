-- The tasks that a bounded task leaves are bounded.
use Rattle.std.proofs.Common.{◌≡◌, ℕ, Bool, List, [], ◌∷◌, map, Option, Some, None, refl, sym, subst, append-nil}
use Rattle.std.specs.List.{AllByRecursion}
use Rattle.xd_syntax.specs.Tree.{Tree, Empty, Text, Words, Name, Elem, Seq, Alt, Star, Plus, Opt, Val, Definitions, body}
use Rattle.xd_meaning.specs.Heads.{pieces}
use Rattle.xd_meaning.specs.CanBeEmpty.{can_be_empty}
use Rattle.xd_continuations.specs.TailUses.{RecursOnlyInTail}
use Rattle.xd_continuations.specs.Bounds.{NoneLarger, IsBounded}
use Rattle.xd_continuations.specs.Expansion.{task, in_front, options, definition_task, tasks_left, tasks_of}
use Rattle.xd_continuations.specs.Laws.{IsBoundedTask}
use Rattle.xd_continuations.proofs.MoveLemmas.{all_cond}
use Rattle.xd_continuations.proofs.IsBoundedLemmas.{bounded_rest, bounded_seq, bounded_seq_rest, bounded_alt, bounded_alt_rest, bounded_star, bounded_plus, bounded_opt, bounded_val, bounded_name}

module _ (E : Definitions) (m : ℕ) where
  front_bounded : (Z : Tree → Bool) (T : Tree) (K : List Tree) → IsBounded E m (T ∷ K) → AllByRecursion (IsBoundedTask E m) (in_front Z (pieces T) K)
  front_bounded Z Empty K b = tt
  front_bounded Z Text K b = (b, all_cond (IsBoundedTask E m) (Z Text) [] tt)
  front_bounded Z (Words w) K b = (b, all_cond (IsBoundedTask E m) (Z (Words w)) [] tt)
  front_bounded Z (Name x) K b = (b, all_cond (IsBoundedTask E m) (Z (Name x)) [] tt)
  front_bounded Z (Elem c T) K b = (b, all_cond (IsBoundedTask E m) (Z (Elem c T)) [] tt)
  front_bounded Z (Seq T U) K b =
      (bounded_seq E m T U K b, all_cond (IsBoundedTask E m) (Z T) (in_front Z (pieces U) K) (front_bounded Z U K (bounded_seq_rest E m T U K b)))
  front_bounded Z (Alt T U) K b = (b, all_cond (IsBoundedTask E m) (Z (Alt T U)) [] tt)
  front_bounded Z (Star T) K b = (b, all_cond (IsBoundedTask E m) (Z (Star T)) [] tt)
  front_bounded Z (Plus T) K b = (b, all_cond (IsBoundedTask E m) (Z (Plus T)) [] tt)
  front_bounded Z (Opt T) K b = (b, all_cond (IsBoundedTask E m) (Z (Opt T)) [] tt)
  front_bounded Z (Val x T) K b = (b, all_cond (IsBoundedTask E m) (Z (Val x T)) [] tt)

  options_bounded : (T : Tree) (K : List Tree) → IsBounded E m (T ∷ K) → AllByRecursion (IsBoundedTask E m) (map (task K) (options T))
  options_bounded Empty K b = (b, tt)
  options_bounded Text K b = (b, tt)
  options_bounded (Words w) K b = (b, tt)
  options_bounded (Name x) K b = (b, tt)
  options_bounded (Elem c T) K b = (b, tt)
  options_bounded (Seq T U) K b = (b, tt)
  options_bounded (Alt T U) K b = (bounded_alt E m T U K b, options_bounded U K (bounded_alt_rest E m T U K b))
  options_bounded (Star T) K b = (b, tt)
  options_bounded (Plus T) K b = (b, tt)
  options_bounded (Opt T) K b = (b, tt)
  options_bounded (Val x T) K b = (b, tt)

  pub along_bounded : (K : List Tree) → IsBounded E m K → AllByRecursion (IsBoundedTask E m) (tasks_of E K)
  along_bounded [] b = tt
  along_bounded (T ∷ K) b = (
    subst (λ L. IsBounded E m (T ∷ L)) (sym (append-nil K)) b,
    all_cond (IsBoundedTask E m) (can_be_empty E T) (tasks_of E K) (along_bounded K (bounded_rest E m T K b)),
  )

  definition_bounded : RecursOnlyInTail E → NoneLarger m E → (x : List ℕ) (K : List Tree) (o : Option Tree) → body E x ≡ o → IsBounded E m (Name x ∷ K) →
      AllByRecursion (IsBoundedTask E m) (definition_task o K)
  definition_bounded tail small x K None e b = tt
  definition_bounded tail small x K (Some T) e b = (bounded_name E m tail small x T K e b, tt)

  pub left_bounded : RecursOnlyInTail E → NoneLarger m E → (T : Tree) (K : List Tree) → IsBounded E m (T ∷ K) → AllByRecursion (IsBoundedTask E m) (tasks_left E T K)
  left_bounded tail small Empty K b = tt
  left_bounded tail small Text K b = tt
  left_bounded tail small (Words w) K b = tt
  left_bounded tail small (Name x) K b = definition_bounded tail small x K (body E x) refl b
  left_bounded tail small (Elem c T) K b = tt
  left_bounded tail small (Seq T U) K b = front_bounded (can_be_empty E) (Seq T U) K b
  left_bounded tail small (Alt T U) K b = options_bounded (Alt T U) K b
  left_bounded tail small (Star T) K b = (bounded_star E m T K b, tt)
  left_bounded tail small (Plus T) K b = (bounded_plus E m T K b, tt)
  left_bounded tail small (Opt T) K b = (bounded_opt E m T K b, tt)
  left_bounded tail small (Val x T) K b = (bounded_val E m x T K b, tt)
