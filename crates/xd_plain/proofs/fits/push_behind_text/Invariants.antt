use Rattle.std.proofs.Common.{◌≡◌, ◌++◌, drop}
use Rattle.xd_plain.specs.PlainFits.{splits_of, behind_text}
use Rattle.xd_plain.proofs.fits.push_behind_text.Given as goal

abbrev pub invariant-loop-split : goal.invariant-loop-split
invariant-loop-split l =
    splits_of l.made.items ++ behind_text l.text (splits_of (drop l.split-index l.splits))
    ≡ splits_of l.initial.made.items ++ behind_text l.text (splits_of l.splits)
