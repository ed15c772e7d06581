-- In a sound program, contents and rests of the heads of a type that uses defined names alone do so
-- too.
use Rattle.std.proofs.Common.{◌≡◌, ℕ, zero, suc, Bool, true, false, ◌&&◌, not, cond, List, [], ◌∷◌, ◌++◌, map, flat_map, length, Option, Some, None, refl, subst}
use Rattle.std.specs.Str.{bytes_eq}
use Rattle.std.specs.List.{AllByRecursion}
use Rattle.std.proofs.lemmas.Bool.{and_parts, and_from}
use Rattle.xd_doc.proofs.Lists.{all_append, append_none_parts}
use Rattle.xd_syntax.specs.Words.{has_word}
use Rattle.xd_syntax.specs.Tree.{Tree, Empty, Text, Words, Name, Elem, Seq, Alt, Star, Plus, Opt, Val, Definitions, body, seq_of, uses_only}
use Rattle.xd_meaning.specs.CanBeEmpty.{can_be_empty}
use Rattle.xd_syntax.specs.Placed.{PlacedTree, Empty_at, Text_at, Words_at, Name_at, Elem_at, Seq_at, Alt_at, Star_at, Plus_at, Opt_at, Val_at, unplaced}
use Rattle.xd_syntax.specs.Program.{TypeDefinition, ProgramTree, names_of}
use Rattle.xd_syntax.specs.NameFaults.{duplicate_names, fault_if, function_faults, known_types, unknown_types}
use Rattle.xd_syntax.specs.RecursionFaults.{IsSound}
use Rattle.xd_syntax.specs.declared.fault.Fault.{Fault}
use Rattle.xd_syntax.specs.declared.fault.FaultKind.TheVariants.{UnknownType}
use Rattle.xd_rules.specs.Heads.{Head}
use Rattle.xd_meaning.specs.Heads.{pieces, followed_by, with_behind, heads_by, heads_of_definition, heads_of_name, heads}
use Rattle.xd_laws.proofs.SoundGuarded.{in_order_none}
use Rattle.xd_continuations.proofs.MoveLemmas.{all_cond, all_map}

-- ---- types

module _ (known : List (List ℕ)) where
  abbrev IsNamed : Tree → Type 0
  IsNamed T = uses_only known T ≡ true

  abbrev IsNamedHead : Head Tree → Type 0
  IsNamedHead h = IsNamed h.content × IsNamed h.rest

  both_named : (T U : Tree) → (uses_only known T && uses_only known U) ≡ true → IsNamed T × IsNamed U
  both_named T U e = and_parts (uses_only known T) (uses_only known U) e

  seq_named : (Ts : List Tree) → AllByRecursion IsNamed Ts → IsNamed (seq_of Ts)
  seq_named [] a = refl
  seq_named (T ∷ []) a = a.0
  seq_named (T ∷ (U ∷ Us)) a = and_from (uses_only known T) (uses_only known (seq_of (U ∷ Us))) a.0 (seq_named (U ∷ Us) a.1)

  pieces_named : (T : Tree) → IsNamed T → AllByRecursion IsNamed (pieces T)
  pieces_named Empty e = tt
  pieces_named Text e = (e, tt)
  pieces_named (Words w) e = (e, tt)
  pieces_named (Name x) e = (e, tt)
  pieces_named (Elem c T) e = (e, tt)
  pieces_named (Seq T U) e = let b = both_named T U e in (b.0, pieces_named U b.1)
  pieces_named (Alt T U) e = (e, tt)
  pieces_named (Star T) e = (e, tt)
  pieces_named (Plus T) e = (e, tt)
  pieces_named (Opt T) e = (e, tt)
  pieces_named (Val x T) e = (e, tt)

  followed_named : (R U : Tree) → IsNamed R → IsNamed U → IsNamed (followed_by R U)
  followed_named R U r u = seq_named (pieces R ++ pieces U) (all_append IsNamed (pieces R) (pieces U) (pieces_named R r) (pieces_named U u))

  -- ---- heads

  behind_named : (R : Tree) → IsNamed R → (hs : List (Head Tree)) → AllByRecursion IsNamedHead hs → AllByRecursion IsNamedHead (map (with_behind R) hs)
  behind_named R r hs a = all_map IsNamedHead IsNamedHead (with_behind R) hs (λ h n. (n.0, followed_named h.rest R n.1 r)) a

  module _ (Z : Tree → Bool) where
    module _ (N : List ℕ → List (Head Tree)) (names : (x : List ℕ) → AllByRecursion IsNamedHead (N x)) where
      heads_named : (T : Tree) → IsNamed T → AllByRecursion IsNamedHead (heads_by Z N T)
      heads_named Empty e = tt
      heads_named Text e = ((refl, refl), tt)
      heads_named (Words w) e = ((refl, refl), tt)
      heads_named (Name x) e = names x
      heads_named (Elem c T) e = ((e, refl), tt)
      heads_named (Seq T U) e =
          let b = both_named T U e in
          all_append IsNamedHead (map (with_behind U) (heads_by Z N T)) (cond (Z T) (heads_by Z N U) [])
          (behind_named U b.1 (heads_by Z N T) (heads_named T b.0)) (all_cond IsNamedHead (Z T) (heads_by Z N U) (heads_named U b.1))
      heads_named (Alt T U) e =
          let b = both_named T U e in all_append IsNamedHead (heads_by Z N T) (heads_by Z N U) (heads_named T b.0) (heads_named U b.1)
      heads_named (Star T) e = behind_named (Star T) e (heads_by Z N T) (heads_named T e)
      heads_named (Plus T) e = behind_named (Star T) e (heads_by Z N T) (heads_named T e)
      heads_named (Opt T) e = heads_named T e
      heads_named (Val x T) e = heads_named T e

    module _ (E : Definitions) (definitions : AllByRecursion (λ (d : List ℕ × Tree). IsNamed d.1) E) where
      body_named : (x : List ℕ) (T : Tree) → body E x ≡ Some T → IsNamed T
      body_named x T e = go E definitions e
        where
          go : (ds : Definitions) → AllByRecursion (λ (d : List ℕ × Tree). IsNamed d.1) ds → body ds x ≡ Some T → IsNamed T
          go [] a q = absurd (cc)
          go (d ∷ ds) a q = first (bytes_eq d.0 x) q (λ k. go ds a.1 k)
            where
              first : (b : Bool) → cond b (Some d.1) (body ds x) ≡ Some T → (body ds x ≡ Some T → IsNamed T) → IsNamed T
              first true k later = let same : d.1 ≡ T = cc in subst IsNamed same a.0
              first false k later = later k

      names_named : (n : ℕ) (x : List ℕ) → AllByRecursion IsNamedHead (heads_of_name Z E n x)
      names_named zero x = tt
      names_named (suc n) x = go (body E x) refl (λ y. names_named n y)
        where
          go : (o : Option Tree) → body E x ≡ o → ((y : List ℕ) → AllByRecursion IsNamedHead (heads_of_name Z E n y)) → AllByRecursion IsNamedHead (heads_of_definition (heads_by Z (heads_of_name Z E n)) o)
          go None q h = tt
          go (Some T) q h = heads_named (heads_of_name Z E n) h T (body_named x T q)

-- ---- definitions

known_named : (known : List (List ℕ)) (T : PlacedTree) → unknown_types known T ≡ [] → uses_only known (unplaced T) ≡ true
known_named known (Empty_at p) e = refl
known_named known (Text_at p) e = refl
known_named known (Words_at p w) e = refl
known_named known (Name_at p x) e = go (has_word known x) e
  where
    go : (b : Bool) → fault_if (not b) p (UnknownType x) ≡ [] → b ≡ true
    go true q = refl
    go false q = absurd (cc)
known_named known (Elem_at p c T) e = known_named known T e
known_named known (Seq_at p T U) e =
    let b = append_none_parts (unknown_types known T) (unknown_types known U) e in
    and_from (uses_only known (unplaced T)) (uses_only known (unplaced U)) (known_named known T b.0) (known_named known U b.1)
known_named known (Alt_at p T U) e =
    let b = append_none_parts (unknown_types known T) (unknown_types known U) e in
    and_from (uses_only known (unplaced T)) (uses_only known (unplaced U)) (known_named known T b.0) (known_named known U b.1)
known_named known (Star_at p T) e = known_named known T e
known_named known (Plus_at p T) e = known_named known T e
known_named known (Opt_at p T) e = known_named known T e
known_named known (Val_at p x q T) e = known_named known T e

-- the definitions of a sound program use defined names alone
definitions_named : (P : ProgramTree) → IsSound P → AllByRecursion (λ (d : List ℕ × Tree). uses_only (known_types P) d.1 ≡ true) (names_of P)
definitions_named P s =
    let types : List Fault = flat_map (λ (t : TypeDefinition). unknown_types (known_types P) t.body) P.types in
    let all : List Fault = flat_map (function_faults P) P.functions in
    let listed = in_order_none (duplicate_names P ++ types ++ all) s.names in
    let none = (append_none_parts (duplicate_names P) types (append_none_parts (duplicate_names P ++ types) all listed).0).1 in
    (refl, each P.types none)
  where
    each : (ts : List TypeDefinition) → flat_map (λ (t : TypeDefinition). unknown_types (known_types P) t.body) ts ≡ []
        → AllByRecursion (λ (d : List ℕ × Tree). uses_only (known_types P) d.1 ≡ true) (map (λ (t : TypeDefinition). (t.name, unplaced t.body)) ts)
    each [] e = tt
    each (t ∷ ts) e =
        let b = append_none_parts (unknown_types (known_types P) t.body) (flat_map (λ (u : TypeDefinition). unknown_types (known_types P) u.body) ts) e in
        (known_named (known_types P) t.body b.0, each ts b.1)

-- and so do the heads of a type that does
pub program_heads_named : (P : ProgramTree) → IsSound P → (T : Tree) → uses_only (known_types P) T ≡ true
    → AllByRecursion (λ (h : Head Tree). (uses_only (known_types P) h.content ≡ true) × (uses_only (known_types P) h.rest ≡ true)) (heads (names_of P) T)
unfolding heads
program_heads_named P s T e =
    let E : Definitions = names_of P in
    let Z : Tree → Bool = can_be_empty E in
    heads_named (known_types P) Z (heads_of_name Z E (length E)) (names_named (known_types P) Z E (definitions_named P s) (length E)) T e
