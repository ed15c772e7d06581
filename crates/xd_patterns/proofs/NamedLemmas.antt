-- A name is accepted by a state of what it stands for.
use Rattle.std.proofs.Common.{ℕ, ◌≡◌, ◌↔◌, true, List, Option, Some, None, inl, inr, sym, subst, ap, ◌∙◌}
use Rattle.xd_doc.specs.Document.{Document}
use Rattle.xd_doc.proofs.Options.{some_same}
use Rattle.xd_auto.specs.Automaton.{Automaton, accepts}
use Rattle.xd_auto.specs.declared.auto.State.{State}
use Rattle.xd_meaning.specs.KeptFaults.{AllPaired}
use Rattle.xd_syntax.specs.Fits.{Fits, fits_name}
use Rattle.xd_syntax.specs.Table.{Row, tree_at}
use Rattle.xd_syntax.specs.Tree.{Tree, Name, Definitions, body}
use Rattle.xd_syntax.specs.Types.{tree}
use Rattle.xd_syntax.specs.declared.types.TypeDef.{TypeDef}
use Rattle.xd_syntax.specs.declared.types.TypeId.{TypeId}
use Rattle.xd_sound.specs.TypeNames.{meanings}
use Rattle.xd_continuations.specs.Bodies.{AreBodies, node_of, tree_of_body}
use Rattle.xd_continuations.specs.declared.bodies.TypeBodies.{TypeBodies}
use Rattle.xd_patterns.specs.CompiledProgram.{AcceptsType}
use Rattle.xd_patterns.specs.Named.{StandsForType}
use Rattle.xd_patterns.proofs.Pairing.{paired_through}

-- the node that is found for a name
pub stands_by_name : (types : List Row) (ds : List TypeDef) (nodes : TypeBodies) → AreBodies types ds nodes → (id : TypeId) (w : List ℕ) (node : ℕ) → tree types id ≡ Name w → node_of ds nodes.any w ≡ Some node
    → StandsForType (meanings types ds) types id (record { at = node })
stands_by_name types ds nodes b id w node e found = inr (w, e, sym (b.right w) ∙ ap (tree_of_body types) found)

name_body : (E : Definitions) (w : List ℕ) (U : Tree) (d : Document) → body E w ≡ Some U → Fits E (Name w) d → Fits E U d
name_body E w U d e (fits_name g h) = subst (λ X. Fits E X d) (some_same _ _ (sym g ∙ e)) h

-- a state of what stands for a type is one of the type
pub named_accepts : (E : Definitions) (types : List Row) (a : Automaton) (id named : TypeId) (s : State) → StandsForType E types id named → AcceptsType E types a named s → AcceptsType E types a id s
named_accepts E types a id named s (inl e) h = subst (λ (n : TypeId). AcceptsType E types a n s) e h
named_accepts E types a id named s (inr k) h = record {
  belongs = h.belongs;
  accepts = λ d. (
    λ y. subst (λ T. Fits E T d) (sym k.1) (fits_name k.2 ((h.accepts d).0 y)),
    λ y. (h.accepts d).1 (name_body E k.0 (tree types named) d k.2 (subst (λ T. Fits E T d) k.1 y)),
  );
}

pub all_named_accept : (E : Definitions) (types : List Row) (a : Automaton) (ids named : List TypeId) (ss : List State) → AllPaired (StandsForType E types) ids named → AllPaired (AcceptsType E types a) named ss → AllPaired (AcceptsType E types a) ids ss
all_named_accept E types a ids named ss = paired_through (StandsForType E types) (AcceptsType E types a) (AcceptsType E types a) (λ id n s. named_accepts E types a id n s) ids named ss
