use Rattle.std.proofs.Common.{◌≡◌, ℕ, ◌+◌, ◌-◌, arith, List, [], ◌∷◌, ◌++◌, length, get_or, take, drop, ap, sym, subst, ◌∙◌, append_assoc, append-nil, length-drop}
use Rattle.std.proofs.lemmas.List.{drop_all, drop_more, nil_from_length, take_all, take_more}
use Rattle.xd_auto.specs.declared.auto.State.{State}
use Rattle.xd_syntax.specs.FunctionRow.{FunctionRow}
use Rattle.xd_meaning.specs.KeptFaults.{AllPaired}
use Rattle.xd_patterns.proofs.Pairing.{paired_end}
use Rattle.xd_check_steps.specs.declared.signatures.Signature.{Signature}
use Rattle.xd_check_steps.specs.Signed.{HasParameters, states_signed, types_declared}
use Rattle.xd_check_steps.proofs.AreTypeStatesLemmas.{declared_count, signed_push}
use Rattle.xd_check_steps.proofs.signatures.signatures_of.Goals as goal

pub loop-function-init : goal.loop-function-init
loop-function-init c = record {
  states = sym (ap (λ rs. states_signed rs ++ c.args.states.now) c.new-rows.ensures.items);
  count = c.requires;
  parameters = subst (AllPaired HasParameters []) (sym c.new-rows.ensures.items) tt;
}

pub first_signature-requires : goal.first_signature-requires
first_signature-requires c =
    let n : ℕ = c.loop-function.function-index in
    let fs : List FunctionRow = c.args.functions.now in
    let f : FunctionRow = c.function-item.result in
    let rest : List FunctionRow = drop (n + 1) fs in
    let front : drop n fs ≡ f ∷ rest = drop_more fs n f c.loop-function-test.true ∙ ap (λ (x : FunctionRow). x ∷ rest) (sym c.function-item.is) in
    let size : length c.loop-function.left.now ≡ (length f.params + 1) + length (types_declared rest) = c.loop-function.invariant.count ∙ ap (λ xs. length (types_declared xs)) front ∙ declared_count f rest in
    let many : length c.params-count.result.now ≡ length f.params = ap length c.params-count.ensures.params in
    omega arith

pub behind-left-requires : goal.behind-left-requires
behind-left-requires c =
    let n : ℕ = c.loop-function.function-index in
    let fs : List FunctionRow = c.args.functions.now in
    let f : FunctionRow = c.function-item.result in
    let rest : List FunctionRow = drop (n + 1) fs in
    let front : drop n fs ≡ f ∷ rest = drop_more fs n f c.loop-function-test.true ∙ ap (λ (x : FunctionRow). x ∷ rest) (sym c.function-item.is) in
    let size : length c.loop-function.left.now ≡ (length f.params + 1) + length (types_declared rest) = c.loop-function.invariant.count ∙ ap (λ xs. length (types_declared xs)) front ∙ declared_count f rest in
    let many : length c.params-count.result.now ≡ length f.params = ap length c.params-count.ensures.params in
    omega arith

pub loop-function-preserved : goal.loop-function-preserved
loop-function-preserved c =
    let n : ℕ = c.loop-function.function-index in
    let fs : List FunctionRow = c.args.functions.now in
    let f : FunctionRow = c.function-item.result in
    let rest : List FunctionRow = drop (n + 1) fs in
    let front : drop n fs ≡ f ∷ rest = drop_more fs n f c.loop-function-test.true ∙ ap (λ (x : FunctionRow). x ∷ rest) (sym c.function-item.is) in
    let size : length c.loop-function.left.now ≡ (length f.params + 1) + length (types_declared rest) = c.loop-function.invariant.count ∙ ap (λ xs. length (types_declared xs)) front ∙ declared_count f rest in
    let many : length c.params-count.result.now ≡ length f.params = ap length c.params-count.ensures.params in
    let left : List State = c.loop-function.left.now in
    let g : Signature = c.in_ok-first_signature.field-0 in
    let rows : List Signature = c.loop-function.rows.items in
    let after : List State = drop (length c.params-count.result.now + 1) left in
    let own : List State = g.parameters.items ++ g.declared ∷ [] in
    let gone : length after ≡ length left - (length c.params-count.result.now + 1) = length-drop (length c.params-count.result.now + 1) left in
    record {
      states = c.loop-function.invariant.states
          ∙ ap (λ ss. states_signed rows ++ ss) (c.in_ok-first_signature.ensures.states ∙ sym (append_assoc g.parameters.items (g.declared ∷ []) after))
          ∙ sym (append_assoc (states_signed rows) own after)
          ∙ ap (λ ss. ss ++ after) (sym (signed_push rows g) ∙ ap states_signed (sym c.in_ok-push.ensures.items))
          ∙ ap (λ ss. states_signed c.push.new.self.items ++ ss) (sym c.behind-left.ensures);
      count = ap length c.behind-left.ensures ∙ (let e : length after ≡ length (types_declared rest) = omega arith in e);
      parameters = subst (λ xs. AllPaired HasParameters xs c.push.new.self.items) (sym (take_more fs n f c.loop-function-test.true))
          (subst (AllPaired HasParameters (take n fs ++ get_or fs n f ∷ [])) (sym c.in_ok-push.ensures.items)
          (paired_end HasParameters (take n fs) rows (get_or fs n f) g c.loop-function.invariant.parameters
          (c.in_ok-first_signature.ensures.parameters ∙ many ∙ ap (λ (x : FunctionRow). length x.params) c.function-item.is)));
    }

pub returns : goal.returns
returns c =
    let n : ℕ = c.loop-function.function-index in
    let fs : List FunctionRow = c.args.functions.now in
    let all = c.loop-function-test.false in
    let none : c.loop-function.left.now ≡ [] = nil_from_length c.loop-function.left.now (c.loop-function.invariant.count ∙ ap (λ xs. length (types_declared xs)) (drop_all n fs all)) in
    record {
      states = c.loop-function.invariant.states ∙ ap (λ ss. states_signed c.loop-function.rows.items ++ ss) none ∙ append-nil (states_signed c.loop-function.rows.items);
      parameters = subst (λ xs. AllPaired HasParameters xs c.loop-function.rows.items) (take_all n fs all) c.loop-function.invariant.parameters;
    }
