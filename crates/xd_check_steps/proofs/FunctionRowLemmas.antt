-- Functions by name.
use Rattle.std.proofs.Common.{◌≡◌, ℕ, suc, ◌+◌, ◌<◌, arith, Bool, true, false, cond, List, [], ◌∷◌, map, length, get_or, drop, Option, Some, None, refl, ap, sym, subst, ◌∙◌}
use Rattle.std.specs.List.{slice_get}
use Rattle.std.specs.Str.{bytes_eq}
use Rattle.std.proofs.lemmas.List.{drop_more}
use Rattle.xd_auto.specs.Automaton.{Automaton}
use Rattle.xd_syntax.specs.Tree.{Definitions}
use Rattle.xd_syntax.specs.FunctionRow.{FunctionRow}
use Rattle.xd_syntax.specs.Program.{function_of}
use Rattle.xd_syntax.specs.Kept.{ProgramTable, function_definition}
use Rattle.xd_meaning.specs.KeptFaults.{AllPaired}
use Rattle.xd_check_steps.specs.declared.signatures.Signature.{Signature}
use Rattle.xd_check_steps.specs.Signed.{IsSignature, IsSignatureOf, number_from, signature_at}

-- one more function in front
pub first_front : (fs : List FunctionRow) (n : ℕ) (w : List ℕ) (f : FunctionRow) → n < length fs →
    number_from n (drop n fs) w ≡ cond (bytes_eq (get_or fs n f).name w) (Some n) (number_from (n + 1) (drop (n + 1) fs) w)
first_front fs n w f l =
    let s : suc n ≡ n + 1 = omega arith in
    ap (λ xs. number_from n xs w) (drop_more fs n f l) ∙ ap (λ m. cond (bytes_eq (get_or fs n f).name w) (Some n) (number_from m (drop (n + 1) fs) w)) s

-- the number of a name is that of its first function's signature, where signatures before these
-- stand before it
module _ (E : Definitions) (a : Automaton) (p : ProgramTable) where
  found : (w : List ℕ) (fs : List FunctionRow) (gs : List Signature) (n : ℕ) (at : Option ℕ → Option Signature) →
      ((k : ℕ) → at (Some (n + k)) ≡ slice_get gs k) → at None ≡ None → AllPaired (IsSignature E a) (map (function_definition p) fs) gs →
      IsSignatureOf E a (function_of (map (function_definition p) fs) w) (at (number_from n fs w))
  found w [] [] n at h z q = subst (IsSignatureOf E a None) (sym z) tt
  found w [] (g ∷ gs) n at h z q = absurd q
  found w (f ∷ fs) [] n at h z q = absurd q
  found w (f ∷ fs) (g ∷ gs) n at h z q =
      go (bytes_eq f.name w) (found w fs gs (suc n) at (λ k. (let e : suc n + k ≡ n + suc k = omega arith in ap (λ m. at (Some m)) e ∙ h (suc k))) z q.1)
    where
      go : (b : Bool) → IsSignatureOf E a (function_of (map (function_definition p) fs) w) (at (number_from (suc n) fs w)) →
          IsSignatureOf E a (cond b (Some (function_definition p f)) (function_of (map (function_definition p) fs) w)) (at (cond b (Some n) (number_from (suc n) fs w)))
      go true r = (let e : n ≡ n + 0 = omega arith in subst (IsSignatureOf E a (Some (function_definition p f))) (sym (ap (λ m. at (Some m)) e ∙ h 0)) q.0)
      go false r = r

  pub named_first : (w : List ℕ) (fs : List FunctionRow) (gs : List Signature) → AllPaired (IsSignature E a) (map (function_definition p) fs) gs →
      IsSignatureOf E a (function_of (map (function_definition p) fs) w) (signature_at gs (number_from 0 fs w))
  named_first w fs gs q = found w fs gs 0 (signature_at gs) (λ k. (let e : 0 + k ≡ k = omega arith in ap (λ m. slice_get gs m) e)) refl q
