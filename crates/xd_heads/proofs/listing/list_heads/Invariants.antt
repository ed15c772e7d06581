use Rattle.std.proofs.Common.{take}
use Rattle.xd_heads.specs.HeadList.{AreRestTypes}
use Rattle.xd_heads.proofs.HeadLists.{IsListing}
use Rattle.xd_heads.proofs.listing.list_heads.Given as goal

abbrev pub invariant-loop-one : goal.invariant-loop-one
invariant-loop-one l = record {
  listing : IsListing l.fn.sound l.sound l.cells (take l.one-index l.found) l.made.items;
  rests : AreRestTypes l.sound.types l.cells l.rests;
}
