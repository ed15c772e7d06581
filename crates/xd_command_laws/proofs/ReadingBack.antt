-- What shown definitions of types spell.
use Rattle.std.proofs.Common.{◌≡◌, ◌↔◌, ℕ, List, [], ◌∷◌, Some, refl, sym, ap, subst, ◌∙◌}
use Rattle.std.specs.Prelude.{map, slice_get}
use Rattle.xd_show_blocks.specs.Blocks.{Shows, shown_text}
use Rattle.xd_doc.specs.Document.{Document}
use Rattle.xd_prefer.specs.Preferred.{Prefers}
use Rattle.xd_shown.specs.Shown.{defined_names}
use Rattle.xd_syntax.specs.May.{MayBind}
use Rattle.xd_syntax.specs.Placed.{unplaced}
use Rattle.xd_syntax.specs.Program.{ProgramTree, TypeDefinition, names_of}
use Rattle.xd_syntax.specs.Tree.{Tree, Name, Definitions, environment}
use Rattle.xd_syntax.specs.Fits.{Fits}
use Rattle.xd_type_laws.specs.DefinitionsText.{type_definitions}
use Rattle.xd_variables.specs.Seen.{Gives, Reading}
use Rattle.xd_command_laws.specs.ReadBack.{SpellsTypesOf, DifferencesReadBack, BlockReadsBack, BlocksReadBack}
use Rattle.xd_inclusion.specs.Inclusion.{FitsAlone}

-- a program's names are those of its definitions
abbrev first_of : List ℕ × Tree → List ℕ
first_of d = d.0

names_defined : (P : ProgramTree) → defined_names P ≡ map first_of (type_definitions P)
names_defined P = go P.types
  where
    go : (ts : List TypeDefinition) → map (λ (t : TypeDefinition). t.name) ts ≡ map first_of (map (λ (t : TypeDefinition). (t.name, unplaced t.body)) ts)
    go [] = refl
    go (t ∷ ts) = ap (λ ns. t.name ∷ ns) (go ts)

-- by programs of the same definitions the same documents fit each type
same_fits : (P Q : ProgramTree) → type_definitions Q ≡ type_definitions P → (T : Tree) (d : Document) → Fits (names_of Q) T d ↔ Fits (names_of P) T d
same_fits P Q e T d = subst (λ (E : Definitions). Fits (environment E) T d ↔ Fits (names_of P) T d) (sym e) (λ f. f, λ f. f)

module _ (D : Document → Type 0) (taken : List (List ℕ)) where
  read_back : (Q : ProgramTree) (start : List ℕ) → Shows D taken Q start → SpellsTypesOf D (shown_text Q)
  read_back Q start s =
      let r = s.reads_back in
      let shown = s.shown in
      record {
        program = r.program;
        start = start;
        spelled = r.spelled;
        types_only = r.functions;
        first = subst (λ ns. slice_get ns 0 ≡ Some start) (names_defined Q ∙ ap (map first_of) (sym r.types) ∙ sym (names_defined r.program)) shown.first;
        exact = λ d p. let e = shown.exact d p in let f = same_fits Q r.program r.types (Name start) d in ((λ h. e.0 (f.0 h)), (λ h. f.1 (e.1 h)));
      }

pub differences_read_back : DifferencesReadBack
differences_read_back P L R o a =
    let t = a.1 in
    subst (SpellsTypesOf (FitsAlone (names_of P) L R)) (sym t.written) (read_back (FitsAlone (names_of P) L R) (defined_names P) t.program t.start t.shows)

block_reads_back : (B : Reading) → BlockReadsBack B
block_reads_back B P v b h = read_back (Gives B P v) (defined_names P) b.program b.start h.shows

pub blocks_read_back : BlocksReadBack
blocks_read_back = (block_reads_back MayBind, block_reads_back Prefers)
