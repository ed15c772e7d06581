use Rattle.std.proofs.Common.{◌≡◌, ◌++◌, map, take}
use Rattle.std.specs.List.{concat}
use Rattle.xd_report.proofs.texts.write_texts.Given as goal

-- the texts so far are appended
abbrev pub invariant-loop-text : goal.invariant-loop-text
invariant-loop-text l = l.out.items ≡ l.fn.out.items ++ concat (map (λ text. text.now) (take l.text-index l.texts))
