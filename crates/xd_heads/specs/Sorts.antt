-- The sorts of heads: texts, and elements.
use Rattle.std.specs.Prelude.{ℕ, Bool, true, false, List, [], map, get_or, Vec}
use Rattle.xd_syntax.specs.Tree.{Tree}
use Rattle.xd_rules.specs.Heads.{Head, HeadKind, element_in, text_in}

abbrev pub is_text : HeadKind → Bool
is_text (element_in c) = false
is_text (text_in w) = true

-- which heads are texts, in order
abbrev pub sorts_of : List (Head Tree) → List Bool
sorts_of hs = map (λ (h : Head Tree). is_text h.kind) hs

-- the rows that these vectors hold
abbrev pub rows_of : {A : Type 0} → List (Vec Bool A) → List (List Bool)
rows_of {A} vs = map (λ (v : Vec Bool A). v.items) vs

abbrev pub row_at : List (List Bool) → ℕ → List Bool
row_at rows n = get_or rows n []
