-- Types bind no variable: as patterns they are linear, and they take what fits them.
use Rattle.std.proofs.Common.{◌≡◌, ℕ, ◌<◌, true, false, List, [], length, refl, ap, sym, subst, ◌∙◌}
use Rattle.xd_syntax.specs.Words.{has_word}
use Rattle.xd_syntax.specs.Tree.{Tree, Empty, Text, Words, Name, Elem, Seq, Alt, Star, Plus, Opt, Val, occurrences}
use Rattle.xd_laws.specs.Laws.{bare}
use Rattle.xd_syntax.specs.Table.{Row, tree_at}
use Rattle.xd_syntax.specs.ProperTables.{IsTable}
use Rattle.xd_syntax.specs.Proper.{IsProperTree}
use Rattle.xd_syntax.proofs.PlacedTrees.{unplaced_at}
use Rattle.xd_syntax.proofs.ProperTrees.{tree_proper}
use Rattle.xd_pattern_runs.specs.Linear.{AreDisjoint, IsLinear, SameWords}
use Rattle.xd_pattern_runs.proofs.NamesBindNothing.{none_in}

disjoint : (xs ys : List (List ℕ)) → xs ≡ [] → AreDisjoint xs ys
disjoint xs ys e x h = let z : has_word [] x ≡ true = sym (ap (λ ws. has_word ws x) e) ∙ h in cc

same : (xs ys : List (List ℕ)) → xs ≡ [] → ys ≡ [] → SameWords xs ys
same xs ys e f x = ap (λ ws. has_word ws x) (e ∙ sym f)

linear_in : (T : Tree) → IsProperTree false T → IsLinear T
linear_in Empty p = tt
linear_in Text p = tt
linear_in (Words w) p = tt
linear_in (Name x) p = tt
linear_in (Elem c T) p = linear_in T p.1
linear_in (Seq T U) p = (linear_in T p.0, linear_in U p.1, disjoint (occurrences T) (occurrences U) (none_in T p.0))
linear_in (Alt T U) p = (linear_in T p.0, linear_in U p.1, same (occurrences T) (occurrences U) (none_in T p.0) (none_in U p.1))
linear_in (Star T) p = none_in T p
linear_in (Plus T) p = none_in T p
linear_in (Opt T) p = none_in T p
linear_in (Val x T) p = let e = p.0 in cc

bare_in : (T : Tree) → IsProperTree false T → bare T ≡ T
bare_in Empty p = refl
bare_in Text p = refl
bare_in (Words w) p = refl
bare_in (Name x) p = refl
bare_in (Elem c T) p = ap (λ U. Elem c U) (bare_in T p.1)
bare_in (Seq T U) p = ap (λ V. Seq V (bare U)) (bare_in T p.0) ∙ ap (λ V. Seq T V) (bare_in U p.1)
bare_in (Alt T U) p = ap (λ V. Alt V (bare U)) (bare_in T p.0) ∙ ap (λ V. Alt T V) (bare_in U p.1)
bare_in (Star T) p = ap Star (bare_in T p)
bare_in (Plus T) p = ap Plus (bare_in T p)
bare_in (Opt T) p = ap Opt (bare_in T p)
bare_in (Val x T) p = let e = p.0 in cc

module _ (types : List Row) (table : IsTable false types) (i : ℕ) (h : i < length types) where
  proper : IsProperTree false (tree_at types i)
  proper = subst (IsProperTree false) (unplaced_at types i) (tree_proper false types table i h)

  pub type_linear : IsLinear (tree_at types i)
  type_linear = linear_in (tree_at types i) proper

  pub type_bare : bare (tree_at types i) ≡ tree_at types i
  type_bare = bare_in (tree_at types i) proper

  pub type_binds_nothing : occurrences (tree_at types i) ≡ []
  type_binds_nothing = none_in (tree_at types i) proper
