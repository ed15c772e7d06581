-- What is known of states while a program grows.
use Rattle.std.proofs.Common.{◌≡◌, ℕ, zero, suc, ◌<◌, ◌+◌, true, false, List, [], ◌∷◌, ◌++◌, length, get_or, set, take, Option, Some, None, ⊎_elim, refl, sym, ap, subst, ◌∙◌, arith, length-set}
use Rattle.std.specs.List.{AllByRecursion, AllZip, slice_get}
use Rattle.std.proofs.lemmas.List.{take_more}
use Rattle.std.specs.Option.{is_some}
use Rattle.std.proofs.lemmas.Bool.{cases_eq}
use Rattle.std.proofs.lemmas.Option.{slice_get-get_or}
use Rattle.xd_doc.proofs.Lists.{all_more, zip_push}
use Rattle.xd_auto.proofs.Closed.{same_state}
use Rattle.xd_syntax.specs.Types.{BelongsTo, tree}
use Rattle.xd_syntax.specs.ShallowTables.{IsShallow}
use Rattle.xd_syntax.specs.Kept.{ProgramTable, AddsTypes, program_tree}
use Rattle.xd_sound.proofs.AdoptLaws.{type_kept}
use Rattle.xd_syntax.specs.declared.types.TypeId.{TypeId}
use Rattle.xd_auto.specs.declared.auto.State.{State}
use Rattle.xd_auto.specs.Automaton.{Automaton}
use Rattle.xd_rules.proofs.Lists.{slice_get-push_cases}
use Rattle.xd_heads.specs.CellsView.{CellsView}
use Rattle.xd_heads.specs.Growing.{GrowsTypes}
use Rattle.xd_heads.specs.Mirrors.{Mirrors, continuation_of}
use Rattle.xd_heads.proofs.Mirrored.{types_stay, mirrors_stay}
use Rattle.xd_proof_make.specs.Known.{IsKnown, AreKnown, HasKnown, IsIdOf, KeepsKnown}
use Rattle.xd_proof_make.specs.Made.{HasTypes}
use Rattle.xd_goals.specs.Rows.{GoalRow, row_at}
use Rattle.xd_proof_make.proofs.IsMetLemmas.{all_more_by}

pub grows_by : (p q : ProgramTable) → AddsTypes p q → program_tree q ≡ program_tree p → (IsShallow p.types → IsShallow q.types) → GrowsTypes p q
grows_by p q a e s = record { adds = a; same = e; shallow = s }

-- the type that was found for a state is known
pub found_known : (p q : ProgramTable) (c : CellsView) (a : Automaton) (s : State) (id : TypeId) → Mirrors p c a → AddsTypes p q → BelongsTo q.types id → continuation_of p.types c s ≡ Some (tree q.types id) → IsKnown q c s id
found_known p q c a s id m adds b k = record { type_ = tree q.types id; continuation = types_stay p.types q.types adds.types c (m.kept).nodes s ∙ k; there = record { belongs = b; same = refl } }

known_grows : (p q : ProgramTable) (c : CellsView) (a : Automaton) (s : State) (id : TypeId) → Mirrors p c a → GrowsTypes p q → IsKnown p c s id → IsKnown q c s id
known_grows p q c a s id m g k = record {
  type_ = k.type_;
  continuation = types_stay p.types q.types (g.adds).types c (m.kept).nodes s ∙ k.continuation;
  there = type_kept p.types q.types k.type_ id (g.adds).types k.there;
}

pub all_grow : (p q : ProgramTable) (c : CellsView) (states : List (Option TypeId)) → ((a : Automaton) × Mirrors p c a) → GrowsTypes p q → AreKnown p c states → AreKnown q c states
all_grow p q c states m g k s known e = known_grows p q c m.0 s known m.1 g (k s known e)

pub mirrors_grow : (p q : ProgramTable) (c : CellsView) → ((a : Automaton) × Mirrors p c a) → GrowsTypes p q → (a : Automaton) × Mirrors q c a
mirrors_grow p q c m g = (m.0, mirrors_stay p q c m.0 m.1 g.adds g.same)

-- ---- what is kept

pub keeps-then : (old mid new : List (Option TypeId)) → KeepsKnown old mid → KeepsKnown mid new → KeepsKnown old new
keeps-then old mid new h k = record { sized = k.sized ∙ h.sized; kept = λ s known e. k.kept s known (h.kept s known e) }

get-set_same : (xs : List (Option TypeId)) (i : ℕ) (x : Option TypeId) → i < length xs → slice_get (set xs i x) i ≡ Some x
get-set_same [] i x lt = absurd (omega arith)
get-set_same (y ∷ xs) zero x lt = refl
get-set_same (y ∷ xs) (suc i) x lt = get-set_same xs i x (omega arith)

get-set_other : (xs : List (Option TypeId)) (i j : ℕ) (x : Option TypeId) → (j ≡ i → ⊥) → slice_get (set xs i x) j ≡ slice_get xs j
get-set_other [] i j x ne = refl
get-set_other (y ∷ xs) zero zero x ne = absurd (ne refl)
get-set_other (y ∷ xs) zero (suc j) x ne = refl
get-set_other (y ∷ xs) (suc i) zero x ne = refl
get-set_other (y ∷ xs) (suc i) (suc j) x ne = get-set_other xs i j x (λ e. ne (ap suc e))

module _ (old new : List (Option TypeId)) (state : State) (known : TypeId) (lt : state.number < length old) (e : new ≡ set old state.number (Some known)) where
  pub set_known : (p q : ProgramTable) (c : CellsView) → ((a : Automaton) × Mirrors p c a) → GrowsTypes p q → IsKnown q c state known → AreKnown p c old → AreKnown q c new
  set_known p q c m g k all s x f = ⊎_elim
      (λ n. let t = same_state s state n in
      let u : slice_get new state.number ≡ Some (Some x) = subst (λ (i : ℕ). slice_get new i ≡ Some (Some x)) n f in
      let v : slice_get new state.number ≡ Some (Some known) = ap (λ (xs : List (Option TypeId)). slice_get xs state.number) e ∙ get-set_same old state.number (Some known) lt in
      let w : known ≡ x = cc in
      subst (λ (y : TypeId). IsKnown q c s y) w (subst (λ (y : State). IsKnown q c y known) (sym t) k))
      (λ ne. known_grows p q c m.0 s x m.1 g (all s x (sym (get-set_other old state.number s.number (Some known) ne) ∙ ap (λ (xs : List (Option TypeId)). slice_get xs s.number) (sym e) ∙ f)))
      (cases_eq s.number state.number)

  pub set_has : HasKnown new state
  set_has = record { known = known; kept = ap (λ (xs : List (Option TypeId)). slice_get xs state.number) e ∙ get-set_same old state.number (Some known) lt }

  pub set_keeps : slice_get old state.number ≡ Some None → KeepsKnown old new
  set_keeps none = record {
    sized = ap length e ∙ length-set old state.number (Some known);
    kept = λ s x f. ⊎_elim
        (λ n. absurd (let u : slice_get old state.number ≡ Some (Some x) = subst (λ (i : ℕ). slice_get old i ≡ Some (Some x)) n f in let w : Some None ≡ Some (Some x) = sym none ∙ u in cc))
        (λ ne. ap (λ (xs : List (Option TypeId)). slice_get xs s.number) e ∙ get-set_other old state.number s.number (Some known) ne ∙ f)
        (cases_eq s.number state.number);
  }

pub read_none : (states : List (Option TypeId)) (i : ℕ) (o : Option TypeId) → i < length states → o ≡ get_or states i o → is_some o ≡ false → slice_get states i ≡ Some None
read_none states i None lt e h = slice_get-get_or states i None lt ∙ ap Some (sym e)
read_none states i (Some k) lt e h = absurd (cc)

pub read_known : (states : List (Option TypeId)) (s : State) (o : Option TypeId) → s.number < length states → o ≡ get_or states s.number o → is_some o ≡ true → HasKnown states s
read_known states s None lt e h = absurd (cc)
read_known states s (Some k) lt e h = record { known = k; kept = slice_get-get_or states s.number (Some k) lt ∙ ap Some (sym e) }

pub none_push : (p : ProgramTable) (c : CellsView) (states states2 : List (Option TypeId)) → states2 ≡ states ++ None ∷ [] → AreKnown p c states → AreKnown p c states2
none_push p c states states2 e k s known f =
    ⊎_elim (λ x. k s known x) (λ x. absurd (let q = x.1 in cc)) (slice_get-push_cases states None (Some known) s.number (ap (λ (xs : List (Option TypeId)). slice_get xs s.number) (sym e) ∙ f))

pub has_more : (old new : List (Option TypeId)) (states : List State) → KeepsKnown old new → AllByRecursion (HasKnown old) states → AllByRecursion (HasKnown new) states
has_more old new states k h = all_more (HasKnown old) (HasKnown new) states (λ s x. record { known = x.known; kept = k.kept s x.known x.kept }) h

-- one more of several states
pub learnt_more : (old new : List (Option TypeId)) (wanted : List State) (i : ℕ) (d : State) → i < length wanted → KeepsKnown old new → AllByRecursion (HasKnown old) (take i wanted) → HasKnown new (get_or wanted i d)
    → AllByRecursion (HasKnown new) (take (i + 1) wanted)
learnt_more old new wanted i d lt k h x = all_more_by (HasKnown new) wanted i d lt (has_more old new (take i wanted) k h) x

pub has_kept : (old new : List (Option TypeId)) (s : State) → KeepsKnown old new → HasKnown old s → HasKnown new s
has_kept old new s k x = record { known = x.known; kept = k.kept s x.known x.kept }

pub types_kept : (old new : List (Option TypeId)) (rows : List GoalRow) → KeepsKnown old new → (gs : List ℕ) → AllByRecursion (λ g. HasTypes old (row_at rows g)) gs → AllByRecursion (λ g. HasTypes new (row_at rows g)) gs
types_kept old new rows k gs h =
    all_more (λ g. HasTypes old (row_at rows g)) (λ g. HasTypes new (row_at rows g)) gs (λ g x. record { left = has_kept old new (row_at rows g).left k x.left; rights = has_more old new (row_at rows g).rights k x.rights }) h

pub below_kept : (n m : ℕ) (states ss : List State) → m ≡ n → ss ≡ states → AllByRecursion (λ (s : State). s.number < n) states → AllByRecursion (λ (s : State). s.number < m) ss
below_kept n m states ss e f h = subst (λ (x : List State). AllByRecursion (λ (s : State). s.number < m) x) (sym f) (subst (λ (k : ℕ). AllByRecursion (λ (s : State). s.number < k) states) (sym e) h)

-- the types of one more state
pub ids_more : (states : List (Option TypeId)) (ids ids2 : List TypeId) (id : TypeId) (wanted : List State) (i : ℕ) (d : State) → i < length wanted → AllZip (IsIdOf states) ids (take i wanted)
    → IsIdOf states id (get_or wanted i d) → ids2 ≡ ids ++ id ∷ [] → AllZip (IsIdOf states) ids2 (take (i + 1) wanted)
ids_more states ids ids2 id wanted i d lt z k f =
    subst (λ (x : List TypeId). AllZip (IsIdOf states) x (take (i + 1) wanted)) (sym f)
    (subst (λ (x : List State). AllZip (IsIdOf states) (ids ++ id ∷ []) x) (sym (take_more wanted i d lt))
    (zip_push (IsIdOf states) ids (take i wanted) id (get_or wanted i d) z k))
