-- A program that gets more types, in steps.
use Rattle.std.proofs.Common.{◌≡◌, ◌≤◌, [], refl, ap, sym, subst, ◌∙◌, append-nil}
use Rattle.xd_syntax.specs.Tree.{Tree}
use Rattle.xd_syntax.specs.TypeDepth.{depth}
use Rattle.xd_syntax.specs.Kept.{ProgramTable, AddsTypes, program_tree}
use Rattle.xd_syntax.specs.ShallowTables.{IsShallow}
use Rattle.xd_syntax.specs.Shallow.{nesting_limit}
use Rattle.xd_sound.proofs.AdoptLaws.{AddsTypes-trans}
use Rattle.xd_heads.specs.Growing.{GrowsTypes}

pub grows_none : (p : ProgramTable) → GrowsTypes p p
grows_none p = record {
  adds = record { types = record { more = []; grown = sym (append-nil p.types) }; patterns = refl; exprs = refl; type_defs = refl; functions = refl };
  same = refl;
  shallow = λ s. s;
}

pub grows_then : (p q r : ProgramTable) → GrowsTypes p q → GrowsTypes q r → GrowsTypes p r
grows_then p q r a b = record { adds = AddsTypes-trans p q r a.adds b.adds; same = b.same ∙ a.same; shallow = λ s. b.shallow (a.shallow s) }

-- one more type
pub grows_one : (p q r : ProgramTable) (T : Tree) → GrowsTypes p q → AddsTypes q r → program_tree r ≡ program_tree q → (depth T ≤ nesting_limit → IsShallow q.types → IsShallow r.types) →
    (IsShallow p.types → depth T ≤ nesting_limit) → GrowsTypes p r
grows_one p q r T g a e s d = record { adds = AddsTypes-trans p q r g.adds a; same = e ∙ g.same; shallow = λ h. s (d h) (g.shallow h) }

-- the program is one that grew already
pub grows_along : (p q r : ProgramTable) → AddsTypes p q → program_tree q ≡ program_tree p → (IsShallow p.types → IsShallow q.types) → r ≡ q → GrowsTypes p r
grows_along p q r a s h e = record { adds = subst (AddsTypes p) (sym e) a; same = ap program_tree e ∙ s; shallow = λ w. subst (λ (t : ProgramTable). IsShallow t.types) (sym e) (h w) }
