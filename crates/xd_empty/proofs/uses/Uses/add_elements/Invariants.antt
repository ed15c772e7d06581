use Rattle.std.proofs.Common.{ℕ, ◌≡◌, ◌<◌, length}
use Rattle.xd_empty.specs.declared.uses.Use.TheVariants.{Element}
use Rattle.xd_empty.specs.Uses.{AddsUses, IsNewUse, Lists, lists_by_state, parts_of}
use Rattle.xd_empty.proofs.uses.Uses.add_elements.Given as goal

abbrev pub invariant-loop-number : goal.invariant-loop-number
invariant-loop-number l = record {
  first : l.self.first ≡ l.initial.self.first;
  count : length l.self.lists.items ≡ length l.initial.self.lists.items;
  adds : AddsUses (IsNewUse l.auto' l.initial.self.first) (lists_by_state l.initial.self) (lists_by_state l.self) l.initial.self.waiting.items l.self.waiting.items;
  listed : (n : ℕ) → n < l.number → Lists l.initial.self.first (parts_of l.auto' (Element l.state n)) (lists_by_state l.self) l.self.waiting.items (Element l.state n);
  end_is : l.number-end ≡ length l.moves;
}
