use Rattle.std.proofs.Common.{◌≡◌, ◌++◌, ℕ, List, map, take}
use Rattle.std.specs.Str.{bytes_eq}
use Rattle.xd_proof_write.specs.SecondText.{number_among}
use Rattle.xd_proof_write.specs.Written.{texts_in, text_at, right_lines, with_texts, KnowsNumbers}
use Rattle.xd_proof_write.proofs.second.write_rights.Given as goal

abbrev pub invariant-loop-right : goal.invariant-loop-right
invariant-loop-right l = record {
  texts : texts_in l.numbers ≡ with_texts (texts_in l.fn.numbers) (map (text_at l.types) (take l.right-index l.rights));
  lines : (more : List (List ℕ)) → l.out.items ≡ l.fn.out.items ++ right_lines l.types (number_among bytes_eq (texts_in l.numbers ++ more)) (take l.right-index l.rights);
  knows : KnowsNumbers l.types l.numbers;
}
