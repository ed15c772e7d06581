use Rattle.std.proofs.Common.{◌+◌, ◌++◌, arith, ap, ◌∙◌}
use Rattle.xd_doc.proofs.Results.{on_err}
use Rattle.xd_write.proofs.WriteLemmas.{written_same, written_more, written_part, run_none, run_more, escaped_all-drop}
use Rattle.xd_write.proofs.text.write_escaped.Goals as goal
use Rattle.xd_write.proofs.text.write_escaped.Goals.{in-Some+in_ok-extend_from_slice+in_ok-extend_from_slice-2, in_default}

pub returns-in_err-extend_from_slice-2-clause-err : goal.returns-in_err-extend_from_slice-2-clause-err
returns-in_err-extend_from_slice-2-clause-err c =
    let i = c.loop-i.invariant in
    let w = written_same _ _ _ _ _ i.written i.plain in
    rw c.in_err-extend_from_slice-2.ensures.items (on_err _ (written_part _ _ _ _ (written_more _ _ _ _ _ _ w c.in_ok-extend_from_slice.ensures.items)))

pub loop-i-preserved : goal.loop-i-preserved
loop-i-preserved c =
    let i = c.loop-i.invariant in
    elim c.match-escape_of.branch [
      | in-Some+in_ok-extend_from_slice+in_ok-extend_from_slice-2 w ↦
          let one = written_more _ _ _ _ _ _ (written_same _ _ _ _ _ i.written i.plain) w.in_ok-extend_from_slice.ensures.items in
          let two = written_more _ _ _ _ _ _ (written_same _ _ _ _ _ one (escaped_all-drop c.args.bytes.now c.loop-i.i c.loop-i-test.true)) (w.in_ok-extend_from_slice-2.ensures.items ∙ ap (λ xs. w.extend_from_slice.new.self.items ++ xs) w.in-Some.ensures) in
          rw (w.start-is, w.out-is) (record {
            within = omega arith;
            plain = run_none c.args.bytes.now (c.loop-i.i + 1);
            written = two;
          })
      | in_default w ↦ rw (w.start-is, w.out-is) (record {
        within = omega arith;
        plain = run_more c.args.bytes.now _ _ i.within c.loop-i-test.true w.in_default.ensures i.plain;
        written = i.written;
      })
    ]
