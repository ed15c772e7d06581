-- On values that wait to be joined, and on the joins that a value ends with.
use Rattle.std.proofs.Common.{◌≡◌, ℕ, zero, suc, ◌+◌, ◌-◌, ◌^◌, ◌<◌, ◌≤◌, arith, List, [], ◌∷◌, ◌++◌, length, drop, get_or, map, refl, ap, sym, ◌∙◌}
use Rattle.std.proofs.Math.Nat.{pow-succ'}
use Rattle.std.proofs.Math.Pow.{pow_mono}
use Rattle.xd_doc.specs.Document.{Document, join}
use Rattle.xd_eval.specs.Waiting.{joined_all}
use Rattle.xd_eval.specs.Values.{World, value_at, Stands, place_of_value, values_then, weights, fronts_then, AreMet}
use Rattle.xd_eval.specs.declared.joins.Value.{Value}
use Rattle.xd_eval.specs.declared.joins.Value.TheVariants.{Joined}
use Rattle.xd_eval.specs.declared.joins.Met.{Met}

pub values_then-push : (w : World) (vs : List Value) (v : Value) (d : Document) → values_then w (vs ++ v ∷ []) d ≡ values_then w vs (join (value_at w v) d)
values_then-push w [] v d = refl
values_then-push w (u ∷ vs) v d = ap (join (value_at w u)) (values_then-push w vs v d)

pub weights-push : (vs : List Value) (v : Value) → weights (vs ++ v ∷ []) ≡ weights vs + (2 ^ (place_of_value v + 1) - 1)
weights-push [] v = omega arith
weights-push (u ∷ vs) v = omega (arith, weights-push vs v)

-- a join weighs more than its sides
pub weights_less : (vs : List Value) (front back : Value) (i : ℕ) → place_of_value front ≤ i → place_of_value back ≤ i →
    weights ((vs ++ front ∷ []) ++ back ∷ []) < weights (vs ++ Joined i ∷ [])
weights_less vs front back i f b =
    let x = pow_mono {i = place_of_value front + 1} {j = i + 1} (omega arith) in
    let y = pow_mono {i = place_of_value back + 1} {j = i + 1} (omega arith) in
    let z = pow-succ' 2 (i + 1) in
    let s : suc (i + 1) ≡ i + 1 + 1 = omega arith in
    let t = ap (λ n. 2 ^ n) s in
    let o = pow_mono {i = 0} {j = i + 1} (omega arith) in
    omega (arith, weights-push (vs ++ front ∷ []) back, weights-push vs front, weights-push vs (Joined i))

pub weights_fewer : (vs : List Value) (v : Value) → weights vs < weights (vs ++ v ∷ [])
weights_fewer vs v =
    let x = pow_mono {i = 1} {j = place_of_value v + 1} (omega arith) in omega (arith, weights-push vs v)

pub fronts_then-push : (w : World) (ms : List Met) (m : Met) (d : Document) → fronts_then w (ms ++ m ∷ []) d ≡ fronts_then w ms (join (value_at w m.front) d)
fronts_then-push w [] m d = refl
fronts_then-push w (n ∷ ms) m d = ap (join (value_at w n.front)) (fronts_then-push w ms m d)

-- one more join that a value ends with
pub met_push : (w : World) (ms : List Met) (m : Met) (d e : Document) → AreMet w ms e → m.number < length w.joined → Stands w m.front → value_at w (Joined m.number) ≡ e → e ≡ join (value_at w m.front) d →
    AreMet w (ms ++ m ∷ []) d
met_push w [] m d e a l f v h = (l, f, v ∙ h, tt)
met_push w (n ∷ ms) m d e a l f v h = (
  a.0,
  a.1,
  a.2 ∙ ap (join (value_at w n.front)) (ap (fronts_then w ms) h ∙ sym (fronts_then-push w ms m d)),
  met_push w ms m d e a.3 l f v h,
)

pub record IsLastMet (w : World) (ms : List Met) (m : Met) (d : Document) : Type 0 where
  pub others : AreMet w ms (join (value_at w m.front) d)
  pub there : m.number < length w.joined
  pub front : Stands w m.front
  pub value : value_at w (Joined m.number) ≡ join (value_at w m.front) d

pub met_pop : (w : World) (ms : List Met) (m : Met) (d : Document) → AreMet w (ms ++ m ∷ []) d → IsLastMet w ms m d
met_pop w [] m d a = record { others = tt; there = a.0; front = a.1; value = a.2 }
met_pop w (n ∷ ms) m d a =
    let i = met_pop w ms m d a.3 in
    record {
      others = (a.0, a.1, a.2 ∙ ap (join (value_at w n.front)) (fronts_then-push w ms m d), i.others);
      there = i.there;
      front = i.front;
      value = i.value;
    }

-- the value in front of others
pub joined_more : (w : World) (vs : List Value) (i : ℕ) (v : Value) → i < length vs → joined_all (map (value_at w) (drop i vs)) ≡ join (value_at w (get_or vs i v)) (joined_all (map (value_at w) (drop (suc i) vs)))
joined_more w [] i v l = absurd (omega arith)
joined_more w (x ∷ xs) zero v l = refl
joined_more w (x ∷ xs) (suc i) v l = joined_more w xs i v (omega arith)
