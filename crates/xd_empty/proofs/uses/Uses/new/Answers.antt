use Rattle.std.proofs.Common.{ℕ, ◌<◌, ◌∙◌, [], ap, arith, length, replicate, subst, sym}
use Rattle.xd_auto.specs.Automaton.{moves_at}
use Rattle.xd_empty.specs.declared.uses.Use.TheVariants.{Element, Text}
use Rattle.xd_empty.specs.Uses.{AddsUses, IsNewUse, Lists, lists_by_state, parts_of}
use Rattle.xd_empty.proofs.UsesLemmas.{length-lists, listing_starts, listing_step, listing_ends}
use Rattle.xd_empty.proofs.uses.Uses.new.Goals as goal

pub loop-number-init : goal.loop-number-init
loop-number-init c = record {
  first = c.in_ok-uses.ensures.first;
  listing = listing_starts c.args.auto.now c.args.first (lists_by_state c.in_ok-uses.uses) c.in_ok-uses.uses.waiting.items (c.in_ok-uses.ensures.lists ∙ ap (λ n. replicate n []) c.len.ensures.value) c.in_ok-uses.ensures.waiting;
}

pub loop-number-preserved : goal.loop-number-preserved
loop-number-preserved c =
    let a = c.args.auto.now in
    let s = c.state-state.result in
    let old = c.loop-number.uses in
    let mid = c.add_elements.new.self in
    let new = c.add_texts.new.self in
    let one = c.loop-number.invariant.first in
    let two = c.add_elements.ensures.first ∙ one in
    record {
      first = c.add_texts.ensures.first ∙ two;
      listing = listing_step a c.args.first c.loop-number.number s (lists_by_state old) (lists_by_state mid) (lists_by_state new) old.waiting.items mid.waiting.items new.waiting.items c.state-state.ensures.number
          (subst (λ f. AddsUses (IsNewUse a f) (lists_by_state old) (lists_by_state mid) old.waiting.items mid.waiting.items) one c.in_ok-add_elements.ensures.adds)
          (subst (λ f. AddsUses (IsNewUse a f) (lists_by_state mid) (lists_by_state new) mid.waiting.items new.waiting.items) two c.in_ok-add_texts.ensures.adds)
          c.loop-number.invariant.listing
          (subst (λ f. (n : ℕ) → n < length (moves_at a s).labels → Lists f (parts_of a (Element s n)) (lists_by_state mid) mid.waiting.items (Element s n)) one c.in_ok-add_elements.ensures.listed)
          (subst (λ f. (n : ℕ) → n < length (moves_at a s).texts → Lists f (parts_of a (Text s n)) (lists_by_state new) new.waiting.items (Text s n)) two c.in_ok-add_texts.ensures.listed);
    }

pub returns-clause-uses : goal.returns-clause-uses
returns-clause-uses c = listing_ends c.args.auto.now c.args.first c.loop-number.number (lists_by_state c.loop-number.uses) c.loop-number.uses.waiting.items (omega (arith, c.len-number-end.ensures.value)) c.loop-number.invariant.listing

pub add_elements-requires-clause-count : goal.add_elements-requires-clause-count
add_elements-requires-clause-count c = sym (length-lists c.loop-number.uses.first c.loop-number.uses.lists.items) ∙ c.loop-number.invariant.listing.sized

pub add_texts-requires-clause-count : goal.add_texts-requires-clause-count
add_texts-requires-clause-count c =
    sym (length-lists c.add_elements.new.self.first c.add_elements.new.self.lists.items) ∙ c.in_ok-add_elements.ensures.adds.sized ∙ c.loop-number.invariant.listing.sized
