-- What may come after terminals.
use Rattle.std.specs.Prelude.{◌≡◌, ◌↔◌, ◌&&◌, ℕ, Bool, true, List, [], ◌∷◌, ◌++◌}
use Rattle.std.specs.List.{list_any}
use Rattle.std.specs.Str.{is_utf8}
use Rattle.xd_doc.specs.Classes.{NameClass, class_has}
use Rattle.xd_doc.specs.Word.{is_word}
use Rattle.xd_read.specs.Grammar.{Terminal, QuotedText, Label, ParenL, ParenR, BracketR, Comma, End}
use Rattle.xd_auto.specs.declared.auto.State.{State}
use Rattle.xd_auto.specs.Automaton.{Automaton, moves_at}
use Rattle.xd_empty.specs.Parts.{leads_on, text_leads_on}
use Rattle.xd_stream.specs.StopByState.{BeginsAccepted}
use Rattle.xd_stream.specs.declared.expected.Expected.{Expected}
use Rattle.xd_stream.specs.declared.pairs.Pair.{Pair}

-- some accepted document goes on with this terminal
abbrev pub GoesOnWith : Automaton → State → List Terminal → Terminal → Type 0
GoesOnWith a s ts t = BeginsAccepted a s (ts ++ t ∷ [])

-- some class has the name
abbrev pub some_has : List NameClass → List ℕ → Bool
some_has classes name = list_any (λ c. class_has c name) classes

-- each terminal is told with which some accepted document goes on, and no other
pub record IsExpected (a : Automaton) (s : State) (ts : List Terminal) (e : Expected) : Type 0 where
  pub labels : (l : List ℕ) → is_word l ≡ true → (some_has e.labels.items l ≡ true) ↔ GoesOnWith a s ts (Label l)
  pub texts : (t : List ℕ) → is_utf8 t ≡ true → (some_has e.texts.items t ≡ true) ↔ GoesOnWith a s ts (QuotedText t)
  pub comma : (e.comma ≡ true) ↔ GoesOnWith a s ts Comma
  pub bracket_r : (e.bracket_r ≡ true) ↔ GoesOnWith a s ts BracketR
  pub paren_l : (e.paren_l ≡ true) ↔ GoesOnWith a s ts ParenL
  pub paren_r : (e.paren_r ≡ true) ↔ GoesOnWith a s ts ParenR
  pub end : (e.end ≡ true) ↔ GoesOnWith a s ts End

-- some move of the state on the label, or on the text, leads to states that accept something
abbrev pub goes_by_label : Automaton → List Bool → List ℕ → State → Bool
goes_by_label a marks l s = list_any (λ m. class_has m.class l && leads_on marks m) (moves_at a s).labels

abbrev pub goes_by_text : Automaton → List Bool → List ℕ → State → Bool
goes_by_text a marks t s = list_any (λ m. class_has m.words t && text_leads_on marks m) (moves_at a s).texts

abbrev pub pair_goes_by_label : Automaton → List Bool → List ℕ → Pair → Bool
pair_goes_by_label a marks l p = goes_by_label a marks l p.present

abbrev pub pair_goes_by_text : Automaton → List Bool → List ℕ → Pair → Bool
pair_goes_by_text a marks t p = goes_by_text a marks t p.present
