use Rattle.std.proofs.Common.{◌≡◌, ℕ, List, [], ◌++◌, append_assoc}
use Rattle.std.proofs.lemmas.List.{take_more, map-append, append-nil}
use Rattle.std.proofs.lemmas.List.Folds.{concat-append}
use Rattle.xd_report.proofs.texts.write_texts.Goals as goal

-- a text more
appended : (old front mid new text bytes : List ℕ) → new ≡ mid ++ bytes → mid ≡ old ++ front → bytes ≡ text → new ≡ old ++ (front ++ text)
appended old front mid new text bytes e f g = rw (e, f, g) (append_assoc old front text)

pub loop-text-preserved : goal.loop-text-preserved
loop-text-preserved c =
    rw (take_more c.args.texts.now c.loop-text.text-index (record { ref_ptr = (0, 0); now = [] }) c.loop-text-test.true, map-append, concat-append, append-nil)
    (appended _ _ _ _ _ _ c.in_ok-extend_from_slice.ensures.items c.loop-text.invariant c.as_bytes.ensures.value)
