use Rattle.std.proofs.Common.{List, ◌++◌, map, ap, ◌∙◌}
use Rattle.std.specs.List.{flat_map}
use Rattle.std.proofs.lemmas.Result.{IfOk-weaker}
use Rattle.xd_rules.specs.Heads.{Named}
use Rattle.xd_rules.specs.Rules.{atoms_from}
use Rattle.xd_rules.proofs.NamesInOrder.{names_are}
use Rattle.xd_state_heads.specs.Moves.{heads_of}
use Rattle.xd_state_heads.specs.Wants.{names_in, want_key}
use Rattle.xd_state_heads.specs.declared.heads.Want.{Want}
use Rattle.xd_state_heads.proofs.IsHeadNamedLemmas.{heads_named, wants_are, wants_keys}
use Rattle.xd_state_heads.proofs.heads.goal_cases.Goals as goal

pub cases_of-requires-clause-named : goal.cases_of-requires-clause-named
cases_of-requires-clause-named c = heads_named (heads_of c.args.auto.now c.args.left) (flat_map (heads_of c.args.auto.now) c.args.rights.now) (names_in c.in_ok-unnamed.unnamed.labels c.in_ok-unnamed.unnamed.texts) c.in_ok-unnamed.ensures.names

pub returns : goal.returns
returns c =
    let named = names_in c.in_ok-unnamed.unnamed.labels c.in_ok-unnamed.unnamed.texts in
    IfOk-weaker c.cases_of.result _ _
    (λ cases e. record {
      complete = ap (λ (ws : List Want). map want_key ws) e ∙ wants_keys named 1 (heads_of c.args.auto.now c.args.left)
          ∙ ap (λ (n : Named). atoms_from n 1 (heads_of c.args.auto.now c.args.left))
          (names_are (heads_of c.args.auto.now c.args.left ++ flat_map (heads_of c.args.auto.now) c.args.rights.now) named c.in_ok-unnamed.ensures.names);
      each = rw e (wants_are c.args.auto.now c.args.left named);
    })
    c.cases_of.ensures
