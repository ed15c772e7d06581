use Rattle.std.proofs.Common.{◌≡◌, ◌++◌, ℕ, List, take, flat_map}
use Rattle.std.specs.Str.{bytes_eq}
use Rattle.xd_proof_write.specs.SecondText.{number_among}
use Rattle.xd_proof_write.specs.Written.{texts_in, goal_texts, goals_lines, with_texts, KnowsNumbers}
use Rattle.xd_proof_write.proofs.second.write_goals.Given as goal

abbrev pub invariant-loop-i : goal.invariant-loop-i
invariant-loop-i l = record {
  texts : texts_in l.numbers ≡ with_texts (texts_in l.fn.numbers) (flat_map (goal_texts l.types) (take l.i l.goals));
  lines : (more : List (List ℕ)) → l.out.items ≡ l.fn.out.items ++ goals_lines l.types (number_among bytes_eq (texts_in l.numbers ++ more)) 1 (take l.i l.goals);
  knows : KnowsNumbers l.types l.numbers;
}
