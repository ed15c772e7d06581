-- Signatures stay while the automaton grows.
use Rattle.std.proofs.Common.{◌≡◌, List, [], ◌∷◌, Option, Some, None, sym, ◌∙◌}
use Rattle.xd_auto.specs.declared.auto.State.{State}
use Rattle.xd_auto.specs.Automaton.{Automaton, accepts}
use Rattle.xd_syntax.specs.Tree.{Definitions}
use Rattle.xd_syntax.specs.Placed.{PlacedTree}
use Rattle.xd_syntax.specs.Program.{Parameter, FunctionDefinition, ProgramTree, names_of, function_of}
use Rattle.xd_meaning.specs.KeptFaults.{AllPaired}
use Rattle.xd_check_steps.specs.declared.signatures.Signature.{Signature}
use Rattle.xd_check_steps.specs.declared.signatures.Signatures.{Signatures}
use Rattle.xd_check_steps.specs.Signed.{AreParameters, AreSignatures, IsSignature, IsSignatureOf, IsTypeState, signature_of}
use Rattle.xd_check_steps.specs.States.{Grows}

module _ (E : Definitions) (a b : Automaton) (g : Grows a b) where
  pub state_kept : (T : PlacedTree) (s : State) → IsTypeState E a T s → IsTypeState E b T s
  state_kept T s h = record {
    belongs = (g.extends).states s h.belongs;
    exact = λ d. (let e : accepts b d s ≡ accepts a d s = g.keeps d s h.belongs in ((λ m. (h.exact d).0 (sym e ∙ m)), (λ m. e ∙ (h.exact d).1 m)));
  }

  pub parameters_kept : (qs : List Parameter) (ss : List State) → AreParameters E a qs ss → AreParameters E b qs ss
  parameters_kept [] [] h = tt
  parameters_kept [] (s ∷ ss) h = absurd h
  parameters_kept (q ∷ qs) [] h = absurd h
  parameters_kept (q ∷ qs) (s ∷ ss) h = (state_kept q.declared s h.0, parameters_kept qs ss h.1)

pub signature_kept : (E : Definitions) (a b : Automaton) → Grows a b → (f : FunctionDefinition) (s : Signature) → IsSignature E a f s → IsSignature E b f s
signature_kept E a b g f s h = record { parameters = parameters_kept E a b g f.parameters s.parameters.items h.parameters; result = state_kept E a b g f.declared s.declared h.result }

each_kept : (E : Definitions) (a b : Automaton) → Grows a b → (fs : List FunctionDefinition) (gs : List Signature) → AllPaired (IsSignature E a) fs gs → AllPaired (IsSignature E b) fs gs
each_kept E a b g [] [] h = tt
each_kept E a b g [] (s ∷ ss) h = absurd h
each_kept E a b g (f ∷ fs) [] h = absurd h
each_kept E a b g (f ∷ fs) (s ∷ ss) h = (signature_kept E a b g f s h.0, each_kept E a b g fs ss h.1)

named_kept : (E : Definitions) (a b : Automaton) → Grows a b → (f : Option FunctionDefinition) (s : Option Signature) → IsSignatureOf E a f s → IsSignatureOf E b f s
named_kept E a b g None None h = tt
named_kept E a b g None (Some s) h = h
named_kept E a b g (Some f) None h = h
named_kept E a b g (Some f) (Some s) h = signature_kept E a b g f s h

pub signatures_kept : (P : ProgramTree) (a b : Automaton) → Grows a b → (s : Signatures) → AreSignatures P a s → AreSignatures P b s
signatures_kept P a b g s h = record {
  each = each_kept (names_of P) a b g P.functions s.rows.items h.each;
  named = λ w. named_kept (names_of P) a b g (function_of P.functions w) (signature_of s w) (h.named w);
}
