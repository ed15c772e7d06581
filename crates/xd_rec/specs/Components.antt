-- Strongly connected components, and what a search for them has found so far.
use Rattle.std.specs.Prelude.{◌≡◌, ℕ, ◌+◌, ◌-◌, ◌*◌, ◌^◌, ◌<◌, ◌≤◌, Bool, true, false, ◌⊎◌, ◌↔◌, nat_eq, List, [], ◌∷◌, length, get_or}
use Rattle.xd_sound.specs.Graph.{HasEdge}
use Rattle.xd_rec.specs.declared.components.Standing.{Standing}
use Rattle.xd_rec.specs.declared.components.Standing.TheVariants.{Unseen, Open, Done}
use Rattle.xd_rec.specs.declared.components.Segment.{Segment}

-- edges lead from the first node to the second, or they are the same
pub data Path (g : List (List ℕ)) : ℕ → ℕ → Type 0 where
  stay : {v : ℕ} → Path g v v
  edge_then : {u v w : ℕ} → HasEdge g u v → Path g v w → Path g u w

-- each reaches the other
abbrev pub AreMutual : List (List ℕ) → ℕ → ℕ → Type 0
AreMutual g v w = Path g v w × Path g w v

-- both are done, with the same number
abbrev pub has_same_number : Standing → Standing → Bool
has_same_number (Done c) (Done d) = nat_eq c d
has_same_number (Done c) (Open q) = false
has_same_number (Done c) Unseen = false
has_same_number (Open p) t = false
has_same_number Unseen t = false

abbrev pub standing_of : List Standing → ℕ → Standing
standing_of st v = get_or st v Unseen

-- two nodes have the same number exactly where each reaches the other
pub record AreComponents (g : List (List ℕ)) (st : List Standing) : Type 0 where
  pub count : length st ≡ length g
  pub same : (v w : ℕ) → v < length g → w < length g → (has_same_number (standing_of st v) (standing_of st w) ≡ true) ↔ AreMutual g v w

abbrev pub node_at : List ℕ → ℕ → ℕ
node_at path p = get_or path p 0

abbrev pub no_segment : Segment
no_segment = record { path_from = 0; todo_from = 0 }

-- where a segment begins on the path, and where the targets of its edges begin
abbrev pub path_from : List Segment → ℕ → ℕ
path_from segs k = (get_or segs k no_segment).path_from

abbrev pub todo_from : List Segment → ℕ → ℕ
todo_from segs k = (get_or segs k no_segment).todo_from

abbrev pub unseen : List Standing → ℕ
unseen [] = 0
unseen (Unseen ∷ st) = unseen st + 1
unseen (Open p ∷ st) = unseen st
unseen (Done c ∷ st) = unseen st

-- no segment begins after p and not after q
abbrev pub NoneBetween : List Segment → ℕ → ℕ → Type 0
NoneBetween segs p q = (k : ℕ) → k < length segs → (path_from segs k ≤ p) ⊎ (q < path_from segs k)

-- An edge from place p of the path to the node w: w is done; or w is on the path, no segment
-- before; or the edge is still to be followed.
abbrev pub IsSettled : List Standing → List ℕ → List Segment → ℕ → ℕ → Type 0
IsSettled st todo segs p w =
    ((c : ℕ) × (standing_of st w ≡ Done c))
    ⊎ (((q : ℕ) × (standing_of st w ≡ Open q) × ((k : ℕ) → k < length segs → path_from segs k ≤ p → path_from segs k ≤ q))
    ⊎ ((j : ℕ) × (j < length todo) × (node_at todo j ≡ w) × ((k : ℕ) → k < length segs → path_from segs k ≤ p → todo_from segs k ≤ j)))

-- the node is done, or on the path from this place on
abbrev pub IsKnown : List Standing → ℕ → ℕ → Type 0
IsKnown st w from = ((c : ℕ) × (standing_of st w ≡ Done c)) ⊎ ((q : ℕ) × (standing_of st w ≡ Open q) × (from ≤ q))

-- the target at place j is that of an edge from the path, in the segment whose targets these are
abbrev pub HasSource : List (List ℕ) → List ℕ → List ℕ → List Segment → ℕ → Type 0
HasSource g path todo segs j =
    (s : ℕ) × (s < length path) × HasEdge g (node_at path s) (node_at todo j)
    × ((k : ℕ) → k < length segs → todo_from segs k ≤ j → path_from segs k ≤ s)
    × ((k : ℕ) → k < length segs → j < todo_from segs k → s < path_from segs k)

-- what a search knows: the path, of segments whose nodes reach each other, and the nodes that are
-- done
pub record IsSearched (g : List (List ℕ)) (st : List Standing) (path todo : List ℕ) (segs : List Segment) (fin : ℕ) : Type 0 where
  pub count : length st ≡ length g
  pub numbers : fin + length path + unseen st ≤ length st
  pub stands : (p : ℕ) → p < length path → standing_of st (node_at path p) ≡ Open p
  pub on_path : (v p : ℕ) → standing_of st v ≡ Open p → (p < length path) × (node_at path p ≡ v)
  pub reach : (p q : ℕ) → p ≤ q → q < length path → Path g (node_at path p) (node_at path q)
  pub back : (p q : ℕ) → p ≤ q → q < length path → NoneBetween segs p q → Path g (node_at path q) (node_at path p)
  pub edges : (p w : ℕ) → p < length path → HasEdge g (node_at path p) w → IsSettled st todo segs p w
  pub sources : (j : ℕ) → j < length todo → HasSource g path todo segs j
  pub done_edges : (v c w : ℕ) → standing_of st v ≡ Done c → HasEdge g v w → (d : ℕ) × (standing_of st w ≡ Done d) × (d ≤ c)
  pub done_same : (v w c : ℕ) → standing_of st v ≡ Done c → standing_of st w ≡ Done c → Path g v w
  pub done_below : (v c : ℕ) → standing_of st v ≡ Done c → c < fin
  pub rising : (k l : ℕ) → k < l → l < length segs → (path_from segs k < path_from segs l) × (todo_from segs k ≤ todo_from segs l)
  pub starts : (k : ℕ) → k < length segs → (path_from segs k < length path) × (todo_from segs k ≤ length todo)
  pub first : 0 < length segs → (path_from segs 0 ≡ 0) × (todo_from segs 0 ≡ 0)
  pub ended : length segs ≡ 0 → (length path ≡ 0) × (length todo ≡ 0)

-- the target of the last edge that the last segment has left
pub record IsNextTarget (g : List (List ℕ)) (path todo : List ℕ) (segs : List Segment) (target : ℕ) : Type 0 where
  pub waits : todo_from segs (length segs - 1) < length todo
  pub last : node_at todo (length todo - 1) ≡ target
  pub in_graph : target < length g
  pub reached : (p : ℕ) → p < length path → Path g (node_at path p) target

-- what is left: nodes that are unseen, edges to follow, segments to close
abbrev pub work_left : List Standing → List ℕ → List Segment → ℕ
work_left st todo segs = 2 ^ 65 * unseen st + length todo + length segs

-- nodes that were seen stay so
abbrev pub StaySeen : List Standing → List Standing → Type 0
StaySeen old new = (v : ℕ) → (standing_of old v ≡ Unseen → ⊥) → standing_of new v ≡ Unseen → ⊥

-- the nodes of the path from this place on are done with this number, and the others stand as they
-- did
pub record IsDoneFrom (old new : List Standing) (from fin : ℕ) : Type 0 where
  pub count : length new ≡ length old
  pub unseen_still : unseen new ≡ unseen old
  pub closed : (v p : ℕ) → standing_of old v ≡ Open p → from ≤ p → standing_of new v ≡ Done fin
  pub kept : (v : ℕ) → ((p : ℕ) → standing_of old v ≡ Open p → p < from) → standing_of new v ≡ standing_of old v
