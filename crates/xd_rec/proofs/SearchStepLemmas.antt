-- what a step of a search reads
use Rattle.std.proofs.Common.{◌≡◌, ℕ, ◌+◌, ◌-◌, ◌<◌, arith, List, length, get_or, ap, sym, subst, ◌∙◌}
use Rattle.std.proofs.lemmas.List.{get_or_read}
use Rattle.xd_sound.specs.Graph.{IsClosed}
use Rattle.xd_rec.specs.Components.{IsNextTarget, IsSearched, node_at, todo_from, Path}
use Rattle.xd_rec.specs.declared.components.Segment.{Segment}
use Rattle.xd_rec.specs.declared.components.Standing.{Standing}
use Rattle.xd_rec.proofs.IsSearchedLemmas.{last_source, waiting, target_in}

pub next_target : {g : List (List ℕ)} {st : List Standing} {path todo : List ℕ} {segs : List Segment} {fin : ℕ} → IsSearched g st path todo segs fin → IsClosed g → 0 < length segs →
    (length todo ≡ todo_from segs (length segs - 1) → ⊥) → (target : ℕ) {n : ℕ} → n ≡ length todo → target ≡ get_or todo (n - 1) target → IsNextTarget g path todo segs target
next_target {g = g} {st = st} {path = path} {todo = todo} {segs = segs} {fin = fin} i closed busy more target en met =
    let m = length segs - 1 in
    let t = length todo - 1 in
    let es : length segs ≡ m + 1 = omega arith in
    let w : todo_from segs m < length todo = waiting g st path todo segs fin m i es more in
    let et : length todo ≡ t + 1 = omega arith in
    let target_is : target ≡ node_at todo t = get_or_read todo t target (omega arith) (met ∙ ap (λ x. get_or todo (x - 1) target) en) 0 in
    record {
      waits = w;
      last = sym target_is;
      in_graph = subst (λ x. x < length g) (sym target_is) (target_in g st path todo segs fin t i closed (omega arith));
      reached = λ p l. subst (Path g (node_at path p)) (sym target_is) (last_source g st path todo segs fin m t i es et (omega arith) p l);
    }
