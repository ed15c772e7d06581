-- Types as texts and numbers name them.
use Rattle.std.proofs.Common.{Vec, Global, ◌≡◌, ℕ, zero, suc, ◌-◌, ◌<◌, ◌≤◌, arith, true, false, List, [], ◌∷◌, map, length, get_or, Option, Some, None, Result, Ok, Err, refl, ap, sym, subst, ◌∙◌}
use Rattle.std.specs.Prelude.{IfOk, is_some}
use Rattle.std.specs.Option.{IfSome}
use Rattle.std.specs.List.{AllByRecursion}
use Rattle.std.specs.Fmt.{decimal}
use Rattle.xd_doc.specs.declared.NoMemory.{NoMemory}
use Rattle.xd_doc.proofs.Lists.{all_get}
use Rattle.xd_syntax.specs.Tree.{Tree, Empty, uses_only}
use Rattle.xd_syntax.specs.Table.{Row, KeepsRows, tree_at}
use Rattle.xd_syntax.specs.Types.{BelongsTo, tree}
use Rattle.xd_syntax.specs.SoundTables.{IsTypeAt}
use Rattle.xd_syntax.specs.PlacedTable.{placed_at}
use Rattle.xd_syntax.specs.Placed.{unplaced}
use Rattle.xd_syntax.specs.Kept.{ProgramTable, program_tree}
use Rattle.xd_syntax.specs.Shallow.{nesting_limit}
use Rattle.xd_syntax.specs.TypeText.{type_text}
use Rattle.xd_syntax.specs.NameFaults.{known_types}
use Rattle.xd_syntax.specs.declared.types.TypeId.{TypeId}
use Rattle.xd_syntax.proofs.Trees.{tree_kept}
use Rattle.xd_syntax.proofs.PlacedTrees.{unplaced_at}
use Rattle.xd_syntax.proofs.ShallowTables.{none_within, within_both}
use Rattle.xd_syntax.proofs.TableRows.{KeepsRows-length}
use Rattle.xd_sound.proofs.AdoptLaws.{AddsTypes-trans}
use Rattle.xd_parse_trees.specs.Means.{IsTypeText}
use Rattle.xd_parse_trees.proofs.Kept.{KeepsRows-refl}
use Rattle.xd_parse.proofs.Sure.{texts_mean_one_thing}
use Rattle.xd_type_laws.proofs.TheLaw.{types_read_back}
use Rattle.xd_rules.specs.Rules.{numbered}
use Rattle.xd_proof.specs.Lines.{SpellsNumber}
use Rattle.xd_proof.specs.TypeTexts.{SpellsType}
use Rattle.xd_proof.proofs.OneText.{type_one}
use Rattle.xd_proof.proofs.Unique.{number_one}
use Rattle.xd_proof_read.specs.declared.naming.Naming.{Naming}
use Rattle.xd_proof_read.specs.declared.naming.Naming.TheVariants.{Spelled, Numbered}
use Rattle.xd_proof_read.specs.Naming.{NamesType, SpellsTypeOf, Names, NamingStands, IsTypeRead, GrowsTypes}

-- ---- programs that get types
pub grows_none : (p : ProgramTable) → GrowsTypes p p
grows_none p = record {
  adds = record { types = KeepsRows-refl p.types; patterns = refl; exprs = refl; type_defs = refl; functions = refl };
  same = refl;
  within = none_within nesting_limit p.types;
}

pub grows_same : (p q : ProgramTable) → q ≡ p → GrowsTypes p q
grows_same p q e = subst (GrowsTypes p) (sym e) (grows_none p)

pub grows_then : (p q r : ProgramTable) → GrowsTypes p q → GrowsTypes q r → GrowsTypes p r
grows_then p q r a b = record {
  adds = AddsTypes-trans p q r a.adds b.adds;
  same = b.same ∙ a.same;
  within = within_both nesting_limit p.types q.types r.types b.adds.types a.within b.within;
}

-- ---- the text of a type
spelled_is : (p : ProgramTable) (new types : List Row) (bytes : List ℕ) (id : TypeId) (made : Option TypeId) → IsTypeText bytes (placed_at types id.at) →
    is_some made ≡ uses_only (known_types (program_tree p)) (tree types id) → IfSome made (IsTypeAt new (tree types id)) → IsTypeRead (SpellsTypeOf p) bytes new made
spelled_is p new types bytes id None t u f = λ T s.
    let mine : SpellsType (known_types (program_tree p)) bytes T = s in
    let e : unplaced (placed_at types id.at) ≡ unplaced mine.placed = ap unplaced (texts_mean_one_thing.types bytes (placed_at types id.at) mine.placed t.spelled (mine.text).spelled) in
    let g : tree types id ≡ T = sym (unplaced_at types id.at) ∙ e ∙ mine.same in
    let z : false ≡ true = u ∙ ap (uses_only (known_types (program_tree p))) g ∙ mine.known_names in
    cc
spelled_is p new types bytes id (Some made) t u f = (
  tree types id,
  record { placed = placed_at types id.at; text = t; same = unplaced_at types id.at; known_names = sym u },
  f,
)

pub spelled_read : (p : ProgramTable) (new types : List Row) (bytes : List ℕ) (id : TypeId) (r : Result (Option TypeId) NoMemory) → IsTypeText bytes (placed_at types id.at) →
    IfOk r (λ made. is_some made ≡ uses_only (known_types (program_tree p)) (tree types id)) → IfOk r (λ made. IfSome made (IsTypeAt new (tree types id))) → IfOk r (IsTypeRead (SpellsTypeOf p) bytes new)
spelled_read p new types bytes id (Ok made) t u f = spelled_is p new types bytes id made t u f
spelled_read p new types bytes id (Err e) t u f = tt

-- ---- numbers
pub numbered_past : {A : Type 0} (xs : List A) (k : ℕ) → length xs ≤ k → numbered xs (suc k) ≡ None
numbered_past [] k h = refl
numbered_past (x ∷ xs) zero h = absurd (omega (arith, h))
numbered_past (x ∷ xs) (suc k) h = numbered_past xs k (omega (arith, h))

length-tree : (rows : List Row) (ids : List TypeId) → length (map (tree rows) ids) ≡ length ids
length-tree rows [] = refl
length-tree rows (i ∷ ids) = ap suc (length-tree rows ids)

numbered_tree : (rows : List Row) (ids : List TypeId) (k : ℕ) (d : TypeId) → k < length ids → numbered (map (tree rows) ids) (suc k) ≡ Some (tree rows (get_or ids k d))
numbered_tree rows [] k d h = absurd (omega (arith, h))
numbered_tree rows (i ∷ ids) zero d h = refl
numbered_tree rows (i ∷ ids) (suc k) d h = numbered_tree rows ids k d (omega (arith, h))

one_below : (n k : ℕ) → 0 < n → k ≡ n - 1 → n ≡ suc k
one_below n k p e = omega (arith, p, e)

pub numbered_there : (rows : List Row) (ids : List TypeId) (bytes : List ℕ) (n : ℕ) (d : TypeId) → AllByRecursion (BelongsTo rows) ids → SpellsNumber bytes n → n - 1 < length ids →
    (T : Tree) × NamesType (map (tree rows) ids) bytes T × IsTypeAt rows T (get_or ids (n - 1) d)
numbered_there rows ids bytes n d a s h =
    let n_is = one_below n (n - 1) (s.number).least refl in (
      tree rows (get_or ids (n - 1) d),
      record { number = n; spelled = s; stands = ap (numbered (map (tree rows) ids)) n_is ∙ numbered_tree rows ids (n - 1) d h },
      record { belongs = all_get (BelongsTo rows) ids (n - 1) d a h; same = refl },
    )

pub numbered_not : (rows : List Row) (ids : List TypeId) (bytes : List ℕ) (n k : ℕ) → SpellsNumber bytes n → k ≡ n - 1 → length ids ≤ k → (T : Tree) → NamesType (map (tree rows) ids) bytes T → ⊥
numbered_not rows ids bytes n k s e h T m =
    let n_is = one_below n k (s.number).least e in
    let l = length-tree rows ids in
    let z : None ≡ Some T = sym (numbered_past (map (tree rows) ids) k (omega (arith, l, h))) ∙ ap (numbered (map (tree rows) ids)) (sym n_is ∙ number_one bytes n m.number s m.spelled) ∙ m.stands in
    cc

pub no_number : (rows : List Row) (ids : List TypeId) (bytes : List ℕ) → ((n : ℕ) → SpellsNumber bytes n → ⊥) → (T : Tree) → NamesType (map (tree rows) ids) bytes T → ⊥
no_number rows ids bytes never T m = never m.number m.spelled

pub read_numbered : (p : ProgramTable) (naming : Naming) (ids : Vec TypeId Global) (slice : List TypeId) (bytes : List ℕ) (made : Option TypeId) → naming ≡ Numbered ids → slice ≡ ids.items → NamingStands p.types naming →
    ((rows : List Row) → AllByRecursion (BelongsTo rows) slice → IsTypeRead (NamesType (map (tree rows) slice)) bytes rows made) → IsTypeRead (Names p naming) bytes p.types made
read_numbered p naming ids slice bytes made e f s r =
    let t : NamingStands p.types (Numbered ids) = subst (NamingStands p.types) e s in
    let b : AllByRecursion (BelongsTo p.types) slice = subst (AllByRecursion (BelongsTo p.types)) (sym f) t.0 in
    subst (λ n. IsTypeRead (Names p n) bytes p.types made) (sym e) (subst (λ l. IsTypeRead (NamesType (map (tree p.types) l)) bytes p.types made) f (r p.types b))

-- ---- names, while the program gets types
trees_kept : (old new : List Row) (ids : List TypeId) → KeepsRows old new → AllByRecursion (BelongsTo old) ids → map (tree new) ids ≡ map (tree old) ids
trees_kept old new [] k a = refl
trees_kept old new (i ∷ ids) k a =
    ap (λ T. T ∷ map (tree new) ids) (ap (λ rs. tree_at rs i.at) k.grown ∙ tree_kept old k.more i.at a.0) ∙ ap (λ Ts. tree old i ∷ Ts) (trees_kept old new ids k a.1)

pub spelled_kept : (p q : ProgramTable) → GrowsTypes p q → SpellsTypeOf q ≡ SpellsTypeOf p
spelled_kept p q g = ap (λ t. SpellsType (known_types t)) g.same

pub names_kept : (p q : ProgramTable) (naming : Naming) → NamingStands p.types naming → GrowsTypes p q → Names q naming ≡ Names p naming
names_kept p q Spelled s g = spelled_kept p q g
names_kept p q (Numbered ids) s g = ap NamesType (trees_kept p.types q.types ids.items g.adds.types s.0)

all_belong : (old new : List Row) (ids : List TypeId) → length old ≤ length new → AllByRecursion (BelongsTo old) ids → AllByRecursion (BelongsTo new) ids
all_belong old new [] h a = tt
all_belong old new (i ∷ ids) h a = (let b = a.0 in omega (arith, h, b), all_belong old new ids h a.1)

pub naming_stands : (p q : ProgramTable) (naming : Naming) → NamingStands p.types naming → GrowsTypes p q → NamingStands q.types naming
naming_stands p q Spelled s g = tt
naming_stands p q (Numbered ids) s g = (all_belong p.types q.types ids.items (KeepsRows-length p.types q.types g.adds.types) s.0, s.1)

-- ---- that there are types to be named, and that bytes name one at most
pub record CanName (R S : List ℕ → Tree → Type 0) : Type 0 where
  pub bytes : List ℕ
  pub there : Tree
  pub reads : S bytes there
  pub types_one : (b : List ℕ) (T U : Tree) → R b T → R b U → T ≡ U
  pub one : (b : List ℕ) (T U : Tree) → S b T → S b U → T ≡ U

-- the empty type has a text
pub empty_spelled : (known : List (List ℕ)) → SpellsType known (type_text Empty) Empty
empty_spelled known = let r = types_read_back Empty tt tt in record { placed = r.placed; text = record { spelled = r.spelled; within = r.within (omega arith) }; same = r.same; known_names = refl }

pub spelled_names : (p : ProgramTable) → CanName (SpellsTypeOf p) (SpellsTypeOf p)
spelled_names p = record {
  bytes = type_text Empty;
  there = Empty;
  reads = empty_spelled (known_types (program_tree p));
  types_one = type_one (known_types (program_tree p));
  one = type_one (known_types (program_tree p));
}

named_one : (Ts : List Tree) (b : List ℕ) (T U : Tree) → NamesType Ts b T → NamesType Ts b U → T ≡ U
named_one Ts b T U s t =
    let e : Some T ≡ Some U = sym s.stands ∙ ap (numbered Ts) (number_one b s.number t.number s.spelled t.spelled) ∙ t.stands in
    cc

pub numbers_name : (R : List ℕ → Tree → Type 0) → ((b : List ℕ) (T U : Tree) → R b T → R b U → T ≡ U) → (Ts : List Tree) → 0 < length Ts → CanName R (NamesType Ts)
numbers_name R types_one [] h = absurd (omega (arith, h))
numbers_name R types_one (T ∷ Ts) h = record {
  bytes = decimal 1;
  there = T;
  reads = record { number = 1; spelled = record { digits = refl; number = record { least = omega arith; most = omega arith } }; stands = refl };
  types_one = types_one;
  one = named_one (T ∷ Ts);
}

pub can_name : (p : ProgramTable) (naming : Naming) → NamingStands p.types naming → CanName (SpellsTypeOf p) (Names p naming)
can_name p Spelled s = spelled_names p
can_name p (Numbered ids) s = numbers_name (SpellsTypeOf p) (type_one (known_types (program_tree p))) (map (tree p.types) ids.items) (let l = length-tree p.types ids.items in let h = s.1 in omega (arith, l, h))
