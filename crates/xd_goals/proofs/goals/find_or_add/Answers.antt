use Rattle.xd_goals.proofs.GrowsByLemmas.{Grows-same, found_claim, claim_within}
use Rattle.xd_auto.specs.Keys.{found_at}
use Rattle.xd_goals.specs.Kept.{view_of}
use Rattle.std.proofs.Common.{◌≡◌, ◌∙◌, sym, ap, None}
use Rattle.xd_state_heads.specs.Moves.{claim_with}
use Rattle.xd_goals.specs.Rows.{claim_key}
use Rattle.xd_goals.proofs.AreLinkedLemmas.{added_grows, added_states, added_linked, added_index, added_claim, added_there}
use Rattle.xd_goals.proofs.Itself.{nodes_longer}
use Rattle.xd_goals.proofs.goals.find_or_add.Goals as goal

pub returns-in-Some-clause-found : goal.returns-in-Some-clause-found
returns-in-Some-clause-found c =
    found_claim c.args.goals.now.found c.args.goals.now.rows.items (claim_with c.args.left c.args.rights.now) c.in-Some.number.now c.requires.consistent.index
    (ap (found_at c.args.goals.now.found) (sym c.in_ok-key.ensures) ∙ sym c.in-Some.ensures.value)

pub returns-in-Some-clause-there : goal.returns-in-Some-clause-there
returns-in-Some-clause-there c =
    (claim_within c.args.goals.now.rows.items c.in-Some.number.now (claim_with c.args.left c.args.rights.now) (returns-in-Some-clause-found c)).0

absent : (c : goal.After-add_row) → found_at c.args.goals.now.found (claim_key (claim_with c.args.left c.args.rights.now)) ≡ None
absent c = ap (found_at c.args.goals.now.found) (sym c.in_ok-key.ensures) ∙ sym c.in-None.ensures.value

pub returns-in-None-clause-consistent : goal.returns-in-None-clause-consistent
returns-in-None-clause-consistent c = record {
  states = added_states c.add_row.result c.args.goals.now.rows.items c.add_row.new.rows.items c.args.goals.now.found c.add_row.new.found c.args.goals.now.nodes.items c.args.goals.now.links.items
      c.args.left c.args.rights.now c.add_row.ensures.ok c.add_row.ensures.err c.args.states c.requires.consistent.states c.requires.left c.requires.rights;
  index = added_index c.add_row.result c.args.goals.now.rows.items c.add_row.new.rows.items c.args.goals.now.found c.add_row.new.found c.args.goals.now.nodes.items c.args.goals.now.links.items
      c.args.left c.args.rights.now c.add_row.ensures.ok c.add_row.ensures.err (rw c.in_ok-key.ensures at c.add_row.ensures.found) c.add_row.ensures.lost (absent c) c.requires.consistent.index;
  links = added_linked c.add_row.result c.args.goals.now.rows.items c.add_row.new.rows.items c.args.goals.now.found c.add_row.new.found c.args.goals.now.nodes.items c.args.goals.now.links.items
      c.args.left c.args.rights.now c.add_row.ensures.ok c.add_row.ensures.err c.requires.consistent.links;
  nodes = nodes_longer c.args.goals.now.rows.items c.add_row.new.rows.items c.args.goals.now.nodes.items
      (added_grows c.add_row.result c.args.goals.now.rows.items c.add_row.new.rows.items c.args.goals.now.found c.add_row.new.found c.args.goals.now.nodes.items c.args.goals.now.links.items
      c.args.left c.args.rights.now c.add_row.ensures.ok c.add_row.ensures.err).longer c.requires.consistent.nodes;
}

pub returns-in-None-clause-grows : goal.returns-in-None-clause-grows
returns-in-None-clause-grows c =
    added_grows c.add_row.result c.args.goals.now.rows.items c.add_row.new.rows.items c.args.goals.now.found c.add_row.new.found c.args.goals.now.nodes.items c.args.goals.now.links.items
    c.args.left c.args.rights.now c.add_row.ensures.ok c.add_row.ensures.err

pub returns-in-None-clause-found : goal.returns-in-None-clause-found
returns-in-None-clause-found c =
    added_claim c.add_row.result c.args.goals.now.rows.items c.add_row.new.rows.items c.args.goals.now.found c.add_row.new.found c.args.goals.now.nodes.items c.args.goals.now.links.items
    c.args.left c.args.rights.now c.add_row.ensures.ok c.add_row.ensures.err c.add_row.ensures.place

pub returns-in-None-clause-there : goal.returns-in-None-clause-there
returns-in-None-clause-there c =
    added_there c.add_row.result c.args.goals.now.rows.items c.add_row.new.rows.items c.args.goals.now.found c.add_row.new.found c.args.goals.now.nodes.items c.args.goals.now.links.items
    c.args.left c.args.rights.now c.add_row.ensures.ok c.add_row.ensures.err c.add_row.ensures.place

pub returns-in-Some-clause-grows : goal.returns-in-Some-clause-grows
returns-in-Some-clause-grows c = Grows-same (view_of c.args.goals.now)

pub returns-in_err-key-clause-grows : goal.returns-in_err-key-clause-grows
returns-in_err-key-clause-grows c = Grows-same (view_of c.args.goals.now)
