use Rattle.std.proofs.Common.{◌≡◌, true, false, ◌∙◌, List, sym, ap, subst}
use Rattle.std.specs.List.{AllByRecursion}
use Rattle.xd_auto.specs.declared.auto.State.{State}
use Rattle.xd_auto.specs.Automaton.{IsState}
use Rattle.xd_boole.specs.Meaning.{any_accepts}
use Rattle.xd_clauses.proofs.behind.Waiting.new.Goals as goal

pub returns-clause-waiting : goal.returns-clause-waiting
returns-clause-waiting c = λ m.
    let none = c.new-starts.ensures.items in
    record {
      starts = subst (λ (ss : List State). AllByRecursion (IsState m.states.auto) ss) (sym none) tt;
      own = c.in_ok-begins.ensures;
      begins = λ d h. absurd (let q : any_accepts m.states.auto c.new-starts.result.items d ≡ false = ap (λ (ss : List State). any_accepts m.states.auto ss d) none in let t : true ≡ false = sym h ∙ q in cc);
    }

pub returns-clause-none : goal.returns-clause-none
returns-clause-none c = λ m d. ap (λ (ss : List State). any_accepts m.states.auto ss d) c.new-starts.ensures.items
