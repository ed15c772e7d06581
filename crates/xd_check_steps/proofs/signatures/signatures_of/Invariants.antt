use Rattle.std.proofs.Common.{◌≡◌, ◌++◌, length, take, drop}
use Rattle.xd_meaning.specs.KeptFaults.{AllPaired}
use Rattle.xd_check_steps.specs.Signed.{HasParameters, states_signed, types_declared}
use Rattle.xd_check_steps.proofs.signatures.signatures_of.Given as goal

abbrev pub invariant-loop-function : goal.invariant-loop-function
invariant-loop-function l = record {
  states : l.states ≡ states_signed l.rows.items ++ l.left;
  count : length l.left ≡ length (types_declared (drop l.function-index l.functions));
  parameters : AllPaired HasParameters (take l.function-index l.functions) l.rows.items;
}
