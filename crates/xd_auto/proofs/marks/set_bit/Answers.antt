use Rattle.std.proofs.Common.{ℕ, ◌+◌, ◌*◌, ◌/◌, ◌%◌, ◌≡◌, arith, get_or, w64}
use Rattle.std.proofs.lemmas.Nat.Bits.{bit_at_set_same, bit_at_set_other, bit_at_clear_same, bit_at_clear_other}
use Rattle.std.proofs.lemmas.List.{get_or_read}
use Rattle.xd_auto.proofs.Bits.{SetsBit-word}
use Rattle.xd_auto.proofs.marks.set_bit.Goals as goal
use Rattle.xd_auto.proofs.marks.set_bit.Goals.{then-value, else-value}

pub returns-clause-set : goal.returns-clause-set
returns-clause-set c =
    let place : ℕ = 64 * c.args.word + c.args.bit in
    let at_word : place / 64 ≡ c.args.word = omega arith in
    let at_bit : place % 64 ≡ c.args.bit = omega arith in
    let was : c.index_mut-changed.result.now ≡ get_or c.args.words.now.items c.args.word 0 = get_or_read c.args.words.now.items c.args.word _ c.requires.word c.index_mut-changed.ensures.value 0 in
    elim c.if-value.branch [
      | then-value w ↦
          SetsBit-word c.args.words.now.items c.args.word c.args.bit place c.if-value.changed c.args.value c.requires.word at_word at_bit
          (rw (w.changed-is, w.if-value.true, was) (bit_at_set_same w64 (get_or c.args.words.now.items c.args.word 0) c.args.bit c.requires.bit))
          (λ i lt ne. rw (w.changed-is, was) (bit_at_set_other w64 (get_or c.args.words.now.items c.args.word 0) c.args.bit c.requires.bit i ne))
      | else-value w ↦
          SetsBit-word c.args.words.now.items c.args.word c.args.bit place c.if-value.changed c.args.value c.requires.word at_word at_bit
          (rw (w.changed-is, w.if-value.false, was) (bit_at_clear_same w64 (get_or c.args.words.now.items c.args.word 0) c.args.bit c.requires.bit))
          (λ i lt ne. rw (w.changed-is, was) (bit_at_clear_other w64 (get_or c.args.words.now.items c.args.word 0) c.args.bit c.requires.bit i lt ne))
    ]
