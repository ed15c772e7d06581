-- What a walk knows stays while the automaton grows.
use Rattle.std.proofs.Common.{◌≡◌, ◌↔◌, true, List, Option, Some, None, refl, sym, subst}
use Rattle.std.specs.List.{AllByRecursion}
use Rattle.std.specs.Option.{IfSome}
use Rattle.xd_doc.specs.Document.{Document}
use Rattle.xd_doc.proofs.Lists.{all_push, all_as}
use Rattle.xd_auto.specs.declared.auto.State.{State}
use Rattle.xd_auto.specs.Automaton.{Automaton, Extends, IsState, accepts}
use Rattle.xd_auto.proofs.ExtendsLemmas.{extends_then}
use Rattle.xd_syntax.specs.Tree.{Definitions}
use Rattle.xd_syntax.specs.May.{FitsResult}
use Rattle.xd_syntax.specs.CheckFaults.{parameters_of}
use Rattle.xd_syntax.specs.Program.{FunctionDefinition}
use Rattle.xd_check_steps.specs.declared.signatures.Signature.{Signature}
use Rattle.xd_check_steps.specs.Signed.{AreParameters, IsSignature, IsSignatureOf}
use Rattle.xd_syntax.specs.Kept.{program_tree}
use Rattle.xd_check.specs.declared.checker.Checker.{Checker}
use Rattle.xd_check_steps.specs.declared.variables.Variable.{Variable}
use Rattle.xd_check_steps.specs.InScope.{AreStates}
use Rattle.xd_clauses.specs.declared.compiled.CompiledPatterns.{CompiledPatterns}
use Rattle.xd_check.specs.Ready.{IsReady}
use Rattle.xd_check_steps.specs.Clauses.{ServesOn}
use Rattle.xd_check_steps.specs.States.{Grows, with_found}
use Rattle.xd_check_steps.proofs.GrowsLemmas.{states_kept}
use Rattle.xd_check_steps.proofs.IsSignatureLemmas.{signatures_kept}

pub serves_kept : (a b : Automaton) (m : CompiledPatterns) → Extends a b → ServesOn a m → ServesOn b m
serves_kept a b m g h c x = h c (extends_then a b c g x)

pub ready_kept : (c : Checker) (a b : Automaton) → Grows a b → IsReady c a → IsReady c b
ready_kept c a b g h = record {
  serves = h.serves;
  patterns = h.patterns;
  points = serves_kept a b c.patterns g.extends h.points;
  signatures = signatures_kept (program_tree c.sound) a b g c.signatures h.signatures;
}

pub states_again : (a b : Automaton) → Grows a b → (vs ws : List Variable) → ws ≡ vs → AreStates a vs → AreStates b ws
states_again a b g vs ws e h = subst (AreStates b) (sym e) (states_kept a b g vs h)

-- what the signature of a call's function says
pub signed_some : (E : Definitions) (a : Automaton) (o : Option FunctionDefinition) (s : Option Signature) (g : Signature) → Some g ≡ s → IsSignatureOf E a o s →
    AreParameters E a (parameters_of o) g.parameters.items × IsState a g.declared × ((d : Document) → (accepts a d g.declared ≡ true) ↔ FitsResult E o d)
signed_some E a None s g e h = absurd (let k : IsSignatureOf E a None (Some g) = subst (IsSignatureOf E a None) (sym e) h in k)
signed_some E a (Some f) s g e h = (let k : IsSignature E a f g = subst (IsSignatureOf E a (Some f)) (sym e) h in (k.parameters, (k.result).belongs, (k.result).exact))

pub signed_none : (E : Definitions) (a : Automaton) (o : Option FunctionDefinition) (s : Option Signature) → None ≡ s → IsSignatureOf E a o s → o ≡ None
signed_none E a None s e h = refl
signed_none E a (Some f) s e h = absurd (let k : IsSignatureOf E a (Some f) None = subst (IsSignatureOf E a (Some f)) (sym e) h in k)

pub found_there : (a b : Automaton) → Grows a b → (ss us : List State) (o : Option State) → AllByRecursion (IsState a) ss → IfSome o (IsState b) → us ≡ with_found ss o → AllByRecursion (IsState b) us
found_there a b g ss us None h i e = subst (AllByRecursion (IsState b)) (sym e) (all_as (IsState a) (IsState b) (λ s m. (g.extends).states s m) ss h)
found_there a b g ss us (Some s) h i e = subst (AllByRecursion (IsState b)) (sym e) (all_push (IsState b) ss s (all_as (IsState a) (IsState b) (λ t m. (g.extends).states t m) ss h) i)
