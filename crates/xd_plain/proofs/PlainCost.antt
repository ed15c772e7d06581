-- How many calls it takes to find all ways, as a measure.
use Rattle.std.proofs.Common.{◌≡◌, ℕ, zero, suc, ◌+◌, ◌<◌, ◌≤◌, arith, nat_lt, cond, List, [], ◌∷◌, ◌++◌, Option, Some, None, map, flat_map, drop, length, get_or, append_assoc, append-nil, ap, sym, ◌∙◌}
use Rattle.std.proofs.lemmas.List.{at_drop_more, at_drop_all}
use Rattle.xd_plain.specs.declared.ways.PlainWay.{PlainWay}
use Rattle.xd_plain.specs.PlainWays.{way_of, ways_of}
use Rattle.xd_doc.specs.Document.{Document, empty, text, element}
use Rattle.xd_syntax.specs.Tree.{Tree, Empty, Text, Words, Name, Elem, Seq, Alt, Star, Plus, Opt, Val, Definitions, body}
use Rattle.xd_syntax.specs.Ways.{Way, item_count, then_way, turns, repetition, ways_by, ways_of_name, ways_within}

abbrev pub total : (Way → ℕ) → List Way → ℕ
total f [] = 0
total f (w ∷ ws) = f w + total f ws

abbrev pub turns_cost : (Document → List Way) → (Document → ℕ) → ℕ → Document → ℕ
turns_cost V C zero d = 1
turns_cost V C (suc k) d = C d + total (λ v. cond (nat_lt (item_count v.rest) (item_count d)) (turns_cost V C k v.rest) 0) (V d) + 5

abbrev pub element_cost : (Document → ℕ) → Document → ℕ
element_cost C empty = 1
element_cost C (text s r) = 1
element_cost C (element l c r) = C c + 1

abbrev pub cost_by : (List ℕ → Document → List Way) → (List ℕ → Document → ℕ) → Tree → Document → ℕ
cost_by N K Empty d = 1
cost_by N K Text d = 1
cost_by N K (Words w) d = 1
cost_by N K (Name x) d = K x d + 2
cost_by N K (Elem c T) d = element_cost (cost_by N K T) d + 1
cost_by N K (Seq T U) d = cost_by N K T d + total (λ v. cost_by N K U v.rest) (ways_by N T d) + 3
cost_by N K (Alt T U) d = cost_by N K T d + cost_by N K U d + 2
cost_by N K (Star T) d = turns_cost (ways_by N T) (cost_by N K T) (item_count d) d + 1
cost_by N K (Plus T) d = cost_by N K T d + total (λ v. turns_cost (ways_by N T) (cost_by N K T) (item_count v.rest) v.rest) (ways_by N T d) + 4
cost_by N K (Opt T) d = cost_by N K T d + 2
cost_by N K (Val x T) d = cost_by N K T d + 2

abbrev pub cost_of_definition : (Tree → Document → ℕ) → Option Tree → Document → ℕ
cost_of_definition C None d = 0
cost_of_definition C (Some T) d = C T d

abbrev pub cost_of_name : Definitions → ℕ → List ℕ → Document → ℕ
cost_of_name E zero x d = 0
cost_of_name E (suc n) x d = cost_of_definition (cost_by (ways_of_name E n) (cost_of_name E n)) (body E x) d

abbrev pub cost : Definitions → ℕ → Tree → Document → ℕ
cost E n T d = cost_by (ways_of_name E n) (cost_of_name E n) T d

-- of the repetition of a pattern
abbrev pub repetition_cost : Definitions → ℕ → Tree → ℕ → Document → ℕ
repetition_cost E n T k d = turns_cost (ways_within E n T) (cost E n T) k d

-- what a loop over ways makes, and its calls' cost
abbrev pub then_ways : Definitions → ℕ → Tree → List Way → List Way
then_ways E n U vs = flat_map (λ v. map (then_way v) (ways_within E n U v.rest)) vs

abbrev pub then_cost : Definitions → ℕ → Tree → List Way → ℕ
then_cost E n U vs = total (λ v. cost E n U v.rest) vs

abbrev pub then_turns : Definitions → ℕ → Tree → List Way → List Way
then_turns E n T vs = flat_map (λ v. map (then_way v) (repetition (ways_within E n T) v.rest)) vs

abbrev pub then_turns_cost : Definitions → ℕ → Tree → List Way → ℕ
then_turns_cost E n T vs = total (λ v. repetition_cost E n T (item_count v.rest) v.rest) vs

abbrev pub turn_ways : Definitions → ℕ → Tree → ℕ → Document → List Way → List Way
turn_ways E n T k d vs = flat_map (λ v. cond (nat_lt (item_count v.rest) (item_count d)) (map (then_way v) (turns (ways_within E n T) k v.rest)) []) vs

abbrev pub turn_cost : Definitions → ℕ → Tree → ℕ → Document → List Way → ℕ
turn_cost E n T k d vs = total (λ v. cond (nat_lt (item_count v.rest) (item_count d)) (repetition_cost E n T k v.rest) 0) vs

-- one step of a loop over ways
pub ways_step : (F : Way → List Way) (xs : List PlainWay) (i : ℕ) (x : PlainWay) (made all : List Way) → i < length xs → x ≡ get_or xs i x →
    made ++ flat_map F (ways_of (drop i xs)) ≡ all → (made ++ F (way_of x)) ++ flat_map F (ways_of (drop (i + 1) xs)) ≡ all
ways_step F xs i x made all h e k =
    append_assoc made (F (way_of x)) (flat_map F (ways_of (drop (i + 1) xs)))
    ∙ ap (λ y. made ++ flat_map F (ways_of (y ∷ drop (i + 1) xs))) e
    ∙ sym (at_drop_more (λ ys. made ++ flat_map F (ways_of ys)) xs i x h)
    ∙ k

pub cost_step : (C : Way → ℕ) (xs : List PlainWay) (i : ℕ) (x : PlainWay) (all : ℕ) → i < length xs →
    total C (ways_of (drop i xs)) ≤ all → total C (ways_of (drop (i + 1) xs)) ≤ all
cost_step C xs i x all h k =
    let s : total C (ways_of (drop i xs)) ≡ C (way_of (get_or xs i x)) + total C (ways_of (drop (i + 1) xs)) = at_drop_more (λ ys. total C (ways_of ys)) xs i x h in
    omega arith

-- the item of a loop costs no more than all of them
pub cost_here : (C : Way → ℕ) (xs : List PlainWay) (i : ℕ) (x : PlainWay) → i < length xs → x ≡ get_or xs i x → C (way_of x) ≤ total C (ways_of (drop i xs))
cost_here C xs i x h e =
    let s : total C (ways_of (drop i xs)) ≡ C (way_of (get_or xs i x)) + total C (ways_of (drop (i + 1) xs)) = at_drop_more (λ ys. total C (ways_of ys)) xs i x h in
    let w : C (way_of x) ≡ C (way_of (get_or xs i x)) = ap (λ y. C (way_of y)) e in
    omega arith

-- the end of a loop over ways
pub ways_done : (F : Way → List Way) (xs : List PlainWay) (i : ℕ) (made all : List Way) → length xs ≤ i → made ++ flat_map F (ways_of (drop i xs)) ≡ all → made ≡ all
ways_done F xs i made all h k =
    sym (append-nil made) ∙ sym (at_drop_all (λ ys. made ++ flat_map F (ways_of ys)) xs i h) ∙ k
