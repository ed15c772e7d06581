use Rattle.std.proofs.Common.{◌≡◌, ◌<◌, arith, rules, true, false, [], ◌∷◌, ◌++◌, length, set, vec_len, ap, sym, subst, ◌∙◌}
use Rattle.std.proofs.lemmas.List.{length-append, length-set, get_or_read}
use Rattle.xd_sound.proofs.EmptyLemmas.{unmarked_less}
use Rattle.xd_match.specs.Tails.{IsSpread}
use Rattle.xd_match.proofs.IsSpreadLemmas.{spread_marked, spread_more, spread_one}
use Rattle.xd_match.proofs.tails.spread.Goals as goal

pub index-requires : goal.index-requires
index-requires c =
    let i = c.loop-at.invariant in
    let l = spread_one c.args.behind.now c.args.waiting.now.items c.loop-at.mixed.items c.pop.new.self.items c.loop-at.waiting.items c.in-Some.at c.in-Some.ensures.items i.spread in
    let n = i.count in
    let v : vec_len c.loop-at.mixed ≡ length c.loop-at.mixed.items = search rules in
    omega arith

pub index_mut-requires : goal.index_mut-requires
index_mut-requires c =
    let i = c.loop-at.invariant in
    let l = spread_one c.args.behind.now c.args.waiting.now.items c.loop-at.mixed.items c.pop.new.self.items c.loop-at.waiting.items c.in-Some.at c.in-Some.ensures.items i.spread in
    let n = i.count in
    let v : vec_len c.loop-at.mixed ≡ length c.loop-at.mixed.items = search rules in
    omega arith

pub successors-requires : goal.successors-requires
successors-requires c =
    let i = c.loop-at.invariant in
    spread_one c.args.behind.now c.args.waiting.now.items c.loop-at.mixed.items c.pop.new.self.items c.loop-at.waiting.items c.in-Some.at c.in-Some.ensures.items i.spread

pub loop-at-preserved-then-index : goal.loop-at-preserved-then-index
loop-at-preserved-then-index c =
    let i = c.loop-at.invariant in
    let n = i.count in
    let l = spread_one c.args.behind.now c.args.waiting.now.items c.loop-at.mixed.items c.pop.new.self.items c.loop-at.waiting.items c.in-Some.at c.in-Some.ensures.items i.spread in
    let h : c.in-Some.at < length c.loop-at.mixed.items = omega arith in
    record {
      count = n;
      spread = spread_marked c.args.behind.now c.args.waiting.now.items c.loop-at.mixed.items c.pop.new.self.items c.loop-at.waiting.items c.in-Some.at c.in-Some.ensures.items i.spread
          (sym (get_or_read c.loop-at.mixed.items c.in-Some.at c.index.result.now h c.index.ensures false) ∙ c.if-index.true);
    }

pub loop-at-smaller : goal.loop-at-smaller
loop-at-smaller c =
    let i = c.loop-at.invariant in
    let n = i.count in
    let mixed = c.loop-at.mixed.items in
    let w = c.pop.new.self.items in
    let at = c.in-Some.at in
    let l = spread_one c.args.behind.now c.args.waiting.now.items mixed w c.loop-at.waiting.items at c.in-Some.ensures.items i.spread in
    let h : at < length mixed = omega arith in
    let u = unmarked_less mixed at h (sym (get_or_read mixed at c.index.result.now h c.index.ensures false) ∙ c.if-index.false) in
    let a = length-append w c.successors.result.now in
    let p = length-append w (at ∷ []) in
    let b = ap length c.in_ok-extend_from_slice.ensures.items in
    let e = ap length c.in-Some.ensures.items in
    let z : vec_len c.extend_from_slice.new.self ≡ length c.extend_from_slice.new.self.items = search rules in
    let s = c.extend_from_slice.new.self.small in
    omega arith

pub loop-at-preserved : goal.loop-at-preserved
loop-at-preserved c =
    let i = c.loop-at.invariant in
    let mixed = c.loop-at.mixed.items in
    let w = c.pop.new.self.items in
    let at = c.in-Some.at in
    let s = c.in_ok-extend_from_slice.ensures.items ∙ ap (λ x. w ++ x) c.successors.ensures.all in
    record {
      count = length-set mixed at true ∙ i.count;
      spread = subst (IsSpread c.args.behind.now c.args.waiting.now.items (set mixed at true)) (sym s)
          (spread_more c.args.behind.now c.args.waiting.now.items mixed w c.loop-at.waiting.items at c.successors.ensures.closed i.count c.in-Some.ensures.items i.spread);
    }
