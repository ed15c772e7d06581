-- What the names of a proper program stand for has no binders.
use Rattle.std.proofs.Common.{◌≡◌, false, [], ◌++◌, refl, ap, ◌∙◌}
use Rattle.xd_syntax.specs.Tree.{Tree, Empty, Text, Words, Name, Elem, Seq, Alt, Star, Plus, Opt, Val, occurrences}
use Rattle.xd_syntax.specs.Proper.{IsProperTree}
use Rattle.xd_laws.proofs.SuitsLemmas.{bind_nothing}
use Rattle.xd_pattern_runs.specs.Laws.{NamesBindNothing}

pub none_in : (T : Tree) → IsProperTree false T → occurrences T ≡ []
none_in Empty p = refl
none_in Text p = refl
none_in (Words w) p = refl
none_in (Name x) p = refl
none_in (Elem c T) p = none_in T p.1
none_in (Seq T U) p = ap (λ xs. xs ++ occurrences U) (none_in T p.0) ∙ none_in U p.1
none_in (Alt T U) p = ap (λ xs. xs ++ occurrences U) (none_in T p.0) ∙ none_in U p.1
none_in (Star T) p = none_in T p
none_in (Plus T) p = none_in T p
none_in (Opt T) p = none_in T p
none_in (Val x T) p = let e = p.0 in cc

pub names_bind_nothing : NamesBindNothing
names_bind_nothing P p x T e = none_in T (bind_nothing P p x T e)
