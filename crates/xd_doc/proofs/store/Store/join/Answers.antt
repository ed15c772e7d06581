use Rattle.std.proofs.Common.{◌≡◌, ◌+◌, ◌-◌, ◌<◌, ℕ, suc, drop, length, arith, rules, ap, subst, refl, get_or}
use Rattle.xd_doc.specs.Document.{join}
use Rattle.xd_doc.specs.DocumentCode.{breadth}
use Rattle.xd_doc.specs.Stored.{document_at}
use Rattle.xd_doc.specs.StoredSeq.{BelongsTo}
use Rattle.xd_doc.specs.StoreNodes.{breadth_before_last, joined_at, no_items}
use Rattle.xd_doc.proofs.StoredLemmas.{Keeps-same, Keeps-trans, belongs_in, breadth_drop, breadth_more, joined_last, joined_more}
use Rattle.xd_doc.proofs.store.Store.join.Goals as goal

pub loop-left-init : goal.loop-left-init
loop-left-init c =
    let within : length c.args.parts.now - 1 < length c.args.parts.now = search rules in
    record {
      within = within;
      made = belongs_in c.args.self.now c.args.parts.now (length c.args.parts.now - 1) no_items c.requires within;
      keeps = Keeps-same c.args.self.now;
      joined = joined_last c.args.self.now c.args.parts.now (length c.args.parts.now - 1) no_items (omega arith);
      few = omega arith;
    }

pub loop-left-preserved : goal.loop-left-preserved
loop-left-preserved c =
    let i : ℕ = c.loop-left.left - 1 in
    let next : suc i ≡ c.loop-left.left = omega (arith, c.loop-left-test.true) in
    let inside : suc i < length c.args.parts.now = omega (arith, c.loop-left.invariant.within) in
    let belongs : BelongsTo c.args.self.now (get_or c.args.parts.now i no_items) = belongs_in c.args.self.now c.args.parts.now i no_items c.requires (omega arith) in
    let same : document_at c.loop-left.self (get_or c.args.parts.now i no_items) ≡ document_at c.args.self.now (get_or c.args.parts.now i no_items) = c.loop-left.invariant.keeps.same _ belongs in
    let wide : breadth_before_last c.args.self.now (drop i c.args.parts.now) ≡ breadth (document_at c.args.self.now (get_or c.args.parts.now i no_items)) + breadth_before_last c.args.self.now (drop c.loop-left.left c.args.parts.now) =
    subst (λ (k : ℕ). breadth_before_last c.args.self.now (drop i c.args.parts.now) ≡ breadth (document_at c.args.self.now (get_or c.args.parts.now i no_items)) + breadth_before_last c.args.self.now (drop k c.args.parts.now)) next
    (breadth_more c.args.self.now c.args.parts.now i no_items inside) in
    let more : joined_at c.args.self.now (drop i c.args.parts.now) ≡ join (document_at c.args.self.now (get_or c.args.parts.now i no_items)) (joined_at c.args.self.now (drop c.loop-left.left c.args.parts.now)) =
    subst (λ (k : ℕ). joined_at c.args.self.now (drop i c.args.parts.now) ≡ join (document_at c.args.self.now (get_or c.args.parts.now i no_items)) (joined_at c.args.self.now (drop k c.args.parts.now))) next
    (joined_more c.args.self.now c.args.parts.now i no_items (omega arith)) in
    record {
      within = omega arith;
      made = c.in_ok-made.ensures.belongs;
      keeps = Keeps-trans _ _ _ c.loop-left.invariant.keeps c.append.ensures.keeps;
      joined = rw more (rw (c.in_ok-made.ensures.ok, same, c.loop-left.invariant.joined) refl);
      few = omega (arith, wide, c.append.ensures.few, ap breadth same, c.loop-left.invariant.few);
    }

pub returns-in_err-made-clause-few : goal.returns-in_err-made-clause-few
returns-in_err-made-clause-few c =
    let i : ℕ = c.loop-left.left - 1 in
    let next : suc i ≡ c.loop-left.left = omega (arith, c.loop-left-test.true) in
    let inside : suc i < length c.args.parts.now = omega (arith, c.loop-left.invariant.within) in
    let belongs : BelongsTo c.args.self.now (get_or c.args.parts.now i no_items) = belongs_in c.args.self.now c.args.parts.now i no_items c.requires (omega arith) in
    let same : document_at c.loop-left.self (get_or c.args.parts.now i no_items) ≡ document_at c.args.self.now (get_or c.args.parts.now i no_items) = c.loop-left.invariant.keeps.same _ belongs in
    let wide : breadth_before_last c.args.self.now (drop i c.args.parts.now) ≡ breadth (document_at c.args.self.now (get_or c.args.parts.now i no_items)) + breadth_before_last c.args.self.now (drop c.loop-left.left c.args.parts.now) =
    subst (λ (k : ℕ). breadth_before_last c.args.self.now (drop i c.args.parts.now) ≡ breadth (document_at c.args.self.now (get_or c.args.parts.now i no_items)) + breadth_before_last c.args.self.now (drop k c.args.parts.now)) next
    (breadth_more c.args.self.now c.args.parts.now i no_items inside) in
    omega (arith, wide, c.append.ensures.few, ap breadth same, c.loop-left.invariant.few, breadth_drop c.args.self.now c.args.parts.now i)
