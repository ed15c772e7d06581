-- Variables by their numbers, and the marks of the moves of what was compiled.
use Rattle.std.specs.Prelude.{ℕ, List, [], map, get_or}
use Rattle.xd_auto.specs.declared.auto.State.{State}
use Rattle.xd_auto.specs.declared.kind.MoveKind.{MoveKind}
use Rattle.xd_auto.specs.declared.kind.MoveKind.TheVariants as M
use Rattle.xd_patterns.specs.Marked.{Marking}
use Rattle.xd_patterns.specs.Variables.{words_of, numbers_in}
use Rattle.xd_patterns.specs.Compiling.{texts_from, labels_from, rows_in}
use Rattle.xd_patterns.specs.declared.mark_table.MarkTable.{MarkTable}
use Rattle.xd_patterns.specs.declared.marked.Marked.{Marked}

-- the words of the variables, by their numbers
abbrev pub words_in : MarkTable → List (List ℕ)
words_in m = m.words.keys

-- the numbers of the lists of a state's moves
abbrev pub lists_at : MarkTable → State → MoveKind → List ℕ
lists_at m s M.Label = labels_from m.base (rows_in m.rows.items) s
lists_at m s M.Text = texts_from m.base (rows_in m.rows.items) s

-- the words of the variables of a list
abbrev pub list_words : MarkTable → ℕ → List (List ℕ)
list_words m l = words_of (words_in m) (get_or (numbers_in m.lists.items) l [])

-- for each move of a state the words of the variables that its items belong to
abbrev pub words_at : MarkTable → State → MoveKind → List (List (List ℕ))
words_at m s kind = map (list_words m) (lists_at m s kind)

-- the variables that the items of each move belong to
abbrev pub marking_in : MarkTable → Marking
marking_in m s = record { texts = words_at m s M.Text; labels = words_at m s M.Label }

-- the same of one pattern
abbrev pub variables_in : Marked → List (List ℕ)
variables_in m = words_in m.moves

abbrev pub marking_of : Marked → Marking
marking_of m = marking_in m.moves
