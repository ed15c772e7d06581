-- Tables of nodes whose words are words, whose texts have characters that UTF-8 can spell, and
-- whose classes are as they are built.
use Rattle.std.specs.Prelude.{◌≡◌, Bool, true, List}
use Rattle.std.specs.Str.{is_utf8}
use Rattle.std.specs.List.{AllByRecursion}
use Rattle.xd_doc.specs.Word.{is_word}
use Rattle.xd_doc.specs.ClassForms.{IsClass, IsTextClass}
use Rattle.xd_syntax.specs.Table.{Form, words_form, name_form, elem_form, val_form, Row, AreBuilt}
use Rattle.xd_syntax.specs.ExpressionTable.{ExprShape, text_shape, var_shape, elem_shape, call_shape, ExprRow, ExprsAreBuilt}

abbrev pub IsProperForm : Form → Type 0
IsProperForm (name_form w) = is_word w ≡ true
IsProperForm (words_form w) = IsTextClass w
IsProperForm (elem_form c i) = IsClass c
IsProperForm (val_form x p i) = is_word x ≡ true
IsProperForm _ = Unit {0}

abbrev pub IsProperShape : ExprShape → Type 0
IsProperShape (text_shape s) = is_utf8 s ≡ true
IsProperShape (var_shape x) = is_word x ≡ true
IsProperShape (elem_shape l i) = is_word l ≡ true
IsProperShape (call_shape f is) = is_word f ≡ true
IsProperShape _ = Unit {0}

-- each node may follow the older ones, and is proper
pub record IsTable (binders : Bool) (rs : List Row) : Type 0 where
  pub built : AreBuilt binders rs
  pub proper : AllByRecursion (λ r. IsProperForm r.form) rs

pub record IsExprTable (rs : List ExprRow) : Type 0 where
  pub built : ExprsAreBuilt rs
  pub proper : AllByRecursion (λ r. IsProperShape r.form) rs
