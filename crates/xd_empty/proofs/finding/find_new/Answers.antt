use Rattle.std.proofs.Common.{◌≡◌, ◌-◌, ◌∙◌, ◌++◌, None, ap, arith, drop, length, replicate, rules, take, vec_len}
use Rattle.std.proofs.lemmas.List.{take_at}
use Rattle.xd_empty.proofs.KnownLemmas.{inhabitants_known, starts_with}
use Rattle.xd_empty.proofs.finding.find_new.Goals as goal

pub search-requires : goal.search-requires
search-requires c =
    let known = c.args.found.now.items in
    let v : vec_len c.args.found.now ≡ length known = search rules in
    rw (c.len-first.ensures, v)
    (starts_with c.args.auto.now c.args.store.now known c.deref_mut.result.now c.requires
    (c.deref_mut.ensures.value ∙ c.in_ok-resize.ensures.items ∙ ap (λ n. take n known ++ replicate (n - vec_len c.args.found.now) None) c.len.ensures.value ∙ ap (λ n. take (length c.args.auto.now) known ++ replicate (length c.args.auto.now - n) None) v))

pub returns-clause-knows : goal.returns-clause-knows
returns-clause-knows c =
    let found = c.search.new.found in
    let all = c.in_ok-search.ensures.inhabitants in
    let whole : take c.resize.new.self.len (found ++ drop (length found) c.resize.new.self.items) ≡ found = take_at found (drop (length found) c.resize.new.self.items) c.resize.new.self.len (omega (arith, all.count, c.in_ok-resize.ensures.len, c.len.ensures.value)) in
    rw whole (inhabitants_known c.args.auto.now c.search.new.store found c.len.ensures.closed all)

pub returns-clause-all : goal.returns-clause-all
returns-clause-all c =
    let found = c.search.new.found in
    let all = c.in_ok-search.ensures.inhabitants in
    let whole : take c.resize.new.self.len (found ++ drop (length found) c.resize.new.self.items) ≡ found = take_at found (drop (length found) c.resize.new.self.items) c.resize.new.self.len (omega (arith, all.count, c.in_ok-resize.ensures.len, c.len.ensures.value)) in
    rw whole all.count
