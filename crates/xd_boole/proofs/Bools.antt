-- Equations of tests.
use Rattle.std.proofs.Common.{◌≡◌, Bool, true, false, not, ◌&&◌, ◌||◌, refl}

pub divided_inside : (x y s t : Bool) → (x && not y) ≡ false → (((x && y) && not (s || t)) || false) ≡ ((x && not s) && not (y && t))
divided_inside true true true true h0 = refl
divided_inside true true true false h0 = refl
divided_inside true true false true h0 = refl
divided_inside true true false false h0 = refl
divided_inside true false true true h0 = refl
divided_inside true false true false h0 = refl
divided_inside true false false true h0 = cc
divided_inside true false false false h0 = cc
divided_inside false true true true h0 = refl
divided_inside false true true false h0 = refl
divided_inside false true false true h0 = refl
divided_inside false true false false h0 = refl
divided_inside false false true true h0 = refl
divided_inside false false true false h0 = refl
divided_inside false false false true h0 = refl
divided_inside false false false false h0 = refl

pub divided_both : (x y s t : Bool) → (((x && y) && not (s || t)) || ((x && not y) && not s)) ≡ ((x && not s) && not (y && t))
divided_both true true true true = refl
divided_both true true true false = refl
divided_both true true false true = refl
divided_both true true false false = refl
divided_both true false true true = refl
divided_both true false true false = refl
divided_both true false false true = refl
divided_both true false false false = refl
divided_both false true true true = refl
divided_both false true true false = refl
divided_both false true false true = refl
divided_both false true false false = refl
divided_both false false true true = refl
divided_both false false true false = refl
divided_both false false false true = refl
divided_both false false false false = refl

pub next_one : (o r g m : Bool) → ((o || (g && not m)) || (r && not m)) ≡ (o || ((r || (g || false)) && not m))
next_one true true true true = refl
next_one true true true false = refl
next_one true true false true = refl
next_one true true false false = refl
next_one true false true true = refl
next_one true false true false = refl
next_one true false false true = refl
next_one true false false false = refl
next_one false true true true = refl
next_one false true true false = refl
next_one false true false true = refl
next_one false true false false = refl
next_one false false true true = refl
next_one false false true false = refl
next_one false false false true = refl
next_one false false false false = refl

pub and_over_right : (s x y : Bool) → ((s && x) || (s && y)) ≡ (s && (x || y))
and_over_right true true true = refl
and_over_right true true false = refl
and_over_right true false true = refl
and_over_right true false false = refl
and_over_right false true true = refl
and_over_right false true false = refl
and_over_right false false true = refl
and_over_right false false false = refl

pub and_over_left : (x y s : Bool) → ((x && s) || (y && s)) ≡ ((x || y) && s)
and_over_left true true true = refl
and_over_left true true false = refl
and_over_left true false true = refl
and_over_left true false false = refl
and_over_left false true true = refl
and_over_left false true false = refl
and_over_left false false true = refl
and_over_left false false false = refl

pub other_content : (s c r : Bool) → (not (s || c) && not r) ≡ ((not c && not r) && not s)
other_content true true true = refl
other_content true true false = refl
other_content true false true = refl
other_content true false false = refl
other_content false true true = refl
other_content false true false = refl
other_content false false true = refl
other_content false false false = refl

pub other_rest : (s c r : Bool) → (not c && not (s || r)) ≡ ((not c && not r) && not s)
other_rest true true true = refl
other_rest true true false = refl
other_rest true false true = refl
other_rest true false false = refl
other_rest false true true = refl
other_rest false true false = refl
other_rest false false true = refl
other_rest false false false = refl

pub either_side : (o k x y : Bool) → ((o || (k && not x)) || (k && not y)) ≡ (o || (k && not (x && y)))
either_side true true true true = refl
either_side true true true false = refl
either_side true true false true = refl
either_side true true false false = refl
either_side true false true true = refl
either_side true false true false = refl
either_side true false false true = refl
either_side true false false false = refl
either_side false true true true = refl
either_side false true true false = refl
either_side false true false true = refl
either_side false true false false = refl
either_side false false true true = refl
either_side false false true false = refl
either_side false false false true = refl
either_side false false false false = refl

pub and_more : (x s t : Bool) → ((x && not s) && not t) ≡ (x && not (s || t))
and_more false s t = refl
and_more true true t = refl
and_more true false t = refl

-- what implies another adds nothing beside it
pub implied_by : (o k : Bool) → (k ≡ true → o ≡ true) → o ≡ (o || k)
implied_by true k h = refl
implied_by false true h = h refl
implied_by false false h = refl

pub part_chosen : (h x y u v : Bool) → (h && ((x && not u) && (y && not v))) ≡ (h && ((x && y) && (not u && not v)))
part_chosen false x y u v = refl
part_chosen true false y u v = refl
part_chosen true true false true v = refl
part_chosen true true false false v = refl
part_chosen true true true true v = refl
part_chosen true true true false v = refl

pub part_group : (p h k : Bool) → (h && (p && k)) ≡ (p && (h && k))
part_group true h k = refl
part_group false true k = refl
part_group false false k = refl

pub and_where : (x y z : Bool) → (x ≡ true → y ≡ z) → (x && y) ≡ (x && z)
and_where true y z e = e refl
and_where false y z e = refl
