-- A point whose left may be the pattern's state.
use Rattle.std.proofs.Common.{◌≡◌, ◌<◌, nat_lt, cond, Bool, true, false, not, ◌&&◌, ◌==◌, length, refl, ap, sym, ◌∙◌, arith}
use Rattle.std.proofs.lemmas.Bool.Decides.{nat_tests}
use Rattle.xd_doc.specs.Document.{Document}
use Rattle.xd_doc.proofs.Bools.{and_left, and_right}
use Rattle.xd_auto.specs.Automaton.{Automaton, IsState, accepts}
use Rattle.xd_empty.specs.Parts.{is_marked}
use Rattle.xd_boole.specs.Meaning.{any_accepts}
use Rattle.xd_points.specs.declared.patterns.PatternStates.{PatternStates}
use Rattle.xd_points.specs.Meaning.{PointView, ServePoints, may_leave_out, means, point}
use Rattle.xd_points.specs.Narrowing.{narrowed_left, narrows}

-- what is known of the two states then
record AreShared (b : PatternStates) (p : PointView) : Type 0 where
  pattern : p.pattern.number < b.shared
  left : p.left.number < b.shared
  all : is_marked b.taken.universal.items p.left ≡ true

are_shared : (b : PatternStates) (p : PointView) → narrows b p ≡ true → AreShared b p
are_shared b p e =
    let all = is_marked b.taken.universal.items p.left in
    let left = nat_lt p.left.number b.shared in
    let pattern = nat_lt p.pattern.number b.shared in
    let out = may_leave_out b p.pattern in
    let one = and_right out (pattern && (left && all)) (and_right (length p.rights == 0) (out && (pattern && (left && all))) e) in
    let two = and_right pattern (left && all) one in
    record {
      pattern = let t = and_left pattern (left && all) one in grind (arith, nat_tests);
      left = let t = and_left left all two in grind (arith, nat_tests);
      all = and_right left all two;
    }

pub narrowed_state : (a : Automaton) (b : PatternStates) → ServePoints a b → (p : PointView) → IsState a p.left → IsState a (narrowed_left b p)
narrowed_state a b serve p here = go (narrows b p) refl
  where
    go : (v : Bool) → narrows b p ≡ v → IsState a (cond v p.pattern p.left)
    go true e = let both = are_shared b p e in omega (arith, both.pattern, serve.within)
    go false e = here

once : (x n : Bool) → (x && (x && n)) ≡ (x && n)
once true n = refl
once false n = refl

pub narrowed_means : (a : Automaton) (b : PatternStates) → ServePoints a b → (p : PointView) (d : Document) → means a b (point (narrowed_left b p) p.pattern p.rights) d ≡ means a b p d
narrowed_means a b serve p d = go (narrows b p) refl
  where
    go : (v : Bool) → narrows b p ≡ v → means a b (point (cond v p.pattern p.left) p.pattern p.rights) d ≡ means a b p d
    go true e =
        let both = are_shared b p e in
        let rest = accepts b.auto d p.pattern && not (any_accepts b.taken.auto p.rights d) in
        let takes : accepts a d p.left ≡ true = serve.shared d p.left both.left ∙ sym (serve.same d p.left) ∙ serve.universal p.left both.all d in
        ap (λ w. w && rest) (serve.shared d p.pattern both.pattern) ∙ once (accepts b.auto d p.pattern) (not (any_accepts b.taken.auto p.rights d)) ∙ sym (ap (λ w. w && rest) takes)
    go false e = refl
