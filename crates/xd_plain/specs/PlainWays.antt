-- What plain ways stand for.
use Rattle.std.specs.Prelude.{ℕ, cond, List, [], ◌∷◌, map, flat_map}
use Rattle.xd_doc.specs.Document.{Document, empty, element}
use Rattle.xd_syntax.specs.Ways.{Way, is_whole}
use Rattle.xd_plain.specs.PlainDocuments.{document_of}
use Rattle.xd_plain.specs.declared.ways.PlainWay.{PlainWay}
use Rattle.xd_plain.specs.declared.ways.PlainBinding.{PlainBinding}

abbrev pub bindings_of : List PlainBinding → List (List ℕ × Document)
bindings_of bs = map (λ b. (b.variable, document_of b.document)) bs

abbrev pub way_of : PlainWay → Way
way_of w = record { bindings = bindings_of w.bindings.items; taken = document_of w.taken; rest = document_of w.rest }

abbrev pub ways_of : List PlainWay → List Way
ways_of ws = map way_of ws

-- an element whose content is taken so
abbrev pub element_way : List ℕ → Document → Document → Way → Way
element_way l c r v = record { bindings = v.bindings; taken = element l c empty; rest = r }

-- the element, once for each way that takes its content whole
abbrev pub whole_ways : List ℕ → Document → Document → List Way → List Way
whole_ways l c r vs = flat_map (λ v. cond (is_whole v) (element_way l c r v ∷ []) []) vs
