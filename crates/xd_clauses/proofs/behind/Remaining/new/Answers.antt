use Rattle.xd_clauses.proofs.behind.Remaining.new.Goals as goal

pub returns-clause-stands : goal.returns-clause-stands
returns-clause-stands c = λ a m h. record { state = h; waiting = c.in_ok-waiting.ensures.waiting m }

pub returns-clause-remains : goal.returns-clause-remains
returns-clause-remains c = λ a m d. (λ h. h.0, λ h. (h, c.in_ok-waiting.ensures.none m d))
