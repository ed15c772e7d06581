use Rattle.std.proofs.Common.{◌≡◌, ◌≤◌, length, vec_capacity}
use Rattle.xd_auto.specs.Kept.{HasRoom}
use Rattle.xd_auto.proofs.known.KnownAnswers.with_room.Given as goal

abbrev pub invariant-loop : goal.invariant-loop
invariant-loop l = record {
  len : length l.rows.items ≡ l.counter;
  room : HasRoom l.counter l.words l.rows.items;
  capacity : l.states ≤ vec_capacity l.rows;
}
