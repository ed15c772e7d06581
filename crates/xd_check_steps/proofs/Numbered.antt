-- Clauses with their compiled patterns.
use Rattle.std.proofs.Common.{◌≡◌, ℕ, ◌<◌, List, length, get_or, refl, sym, subst}
use Rattle.xd_auto.specs.Automaton.{Automaton}
use Rattle.xd_syntax.specs.Kept.{ProgramTable, program_tree}
use Rattle.xd_syntax.specs.Program.{names_of}
use Rattle.xd_syntax.specs.Table.{tree_at}
use Rattle.xd_syntax.specs.Tree.{Definitions, Tree}
use Rattle.xd_syntax.specs.declared.exprs.Clause.{Clause}
use Rattle.xd_clauses.specs.Compiled.{IsNumbered, IsSomePattern}
use Rattle.xd_clauses.specs.declared.compiled.CompiledPatterns.{CompiledPatterns}
use Rattle.xd_check_steps.specs.Clauses.{AreCompiled, HasNumber}
use Rattle.xd_check_steps.proofs.Lists.{paired_at}

pub some_numbered : (E : Definitions) (P : Tree) (m : CompiledPatterns) (n : ℕ) → IsNumbered E P m n → IsSomePattern m n
some_numbered E P m n h = record { names = E; tree = P; numbered = h }

-- the patterns of clauses by other names
pub compiled_as : (p : ProgramTable) (a : Automaton) (cs : List Clause) (m o : CompiledPatterns) (ns is : List ℕ) → o ≡ m → is ≡ ns → AreCompiled p a cs m ns → AreCompiled p a cs o is
compiled_as p a cs m o ns is e f h = subst (λ (x : CompiledPatterns). AreCompiled p a cs x is) (sym e) (subst (AreCompiled p a cs m) (sym f) h)

-- the pattern of one of these clauses, by other names of the patterns and of its number
pub numbered_here : (p : ProgramTable) (a : Automaton) (cs : List Clause) (m : CompiledPatterns) (ns : List ℕ) → AreCompiled p a cs m ns → (n : ℕ) (k : Clause) (o : CompiledPatterns) (i : ℕ) → n < length cs → k ≡ get_or cs n k → o ≡ m → i ≡ get_or ns n 0 →
    IsNumbered (names_of (program_tree p)) (tree_at p.patterns (k.pattern).at) o i
numbered_here p a cs m ns h n k o i l e f g =
    let E : Definitions = names_of (program_tree p) in
    let T : Tree = tree_at p.patterns (k.pattern).at in
    let has : HasNumber m k (get_or ns n 0) = subst (λ (x : Clause). HasNumber m x (get_or ns n 0)) (sym e) (paired_at (HasNumber m) cs ns n k 0 h.numbers l) in
    let one : IsNumbered E T m (get_or ns n 0) = record { rows = p.patterns; id = k.pattern; patterns = h.patterns; number = has; is = refl } in
    subst (λ (x : CompiledPatterns). IsNumbered E T x i) (sym f) (subst (IsNumbered E T m) (sym g) one)

pub some_here : (p : ProgramTable) (a : Automaton) (cs : List Clause) (m : CompiledPatterns) (ns : List ℕ) → AreCompiled p a cs m ns → (n : ℕ) (k : Clause) (o : CompiledPatterns) (i : ℕ) → n < length cs → k ≡ get_or cs n k → o ≡ m → i ≡ get_or ns n 0 → IsSomePattern o i
some_here p a cs m ns h n k o i l e f g = some_numbered (names_of (program_tree p)) (tree_at p.patterns (k.pattern).at) o i (numbered_here p a cs m ns h n k o i l e f g)
