-- Functions by name.
use Rattle.std.proofs.Common.{◌≡◌, ℕ, ◌+◌, ◌<◌, Bool, true, false, cond, List, [], ◌∷◌, map, length, get_or, drop, Option, Some, refl, ap, sym, ◌∙◌}
use Rattle.std.specs.Prelude.{option_map}
use Rattle.std.specs.Str.{bytes_eq}
use Rattle.std.proofs.lemmas.List.{drop_more}
use Rattle.std.proofs.lemmas.Option.{slice_get-get_or}
use Rattle.xd_syntax.specs.FunctionRow.{FunctionRow}
use Rattle.xd_syntax.specs.Program.{function_of}
use Rattle.xd_syntax.specs.Kept.{ProgramTable, function_definition}
use Rattle.xd_eval.specs.Functions.{numbered, row_of}

-- one more function in front
pub first_front : (fs : List FunctionRow) (n : ℕ) (w : List ℕ) (f : FunctionRow) (later : Option ℕ) → n < length fs → numbered fs later ≡ row_of (drop (n + 1) fs) w →
    numbered fs (cond (bytes_eq (get_or fs n f).name w) (Some n) later) ≡ row_of (drop n fs) w
first_front fs n w f later l h = go (bytes_eq (get_or fs n f).name w) ∙ sym (ap (λ xs. row_of xs w) (drop_more fs n f l))
  where
    go : (b : Bool) → numbered fs (cond b (Some n) later) ≡ cond b (Some (get_or fs n f)) (row_of (drop (n + 1) fs) w)
    go true = slice_get-get_or fs n f l
    go false = h

-- the function of a program that has a name
pub named : (p : ProgramTable) (fs : List FunctionRow) (w : List ℕ) → function_of (map (function_definition p) fs) w ≡ option_map (function_definition p) (row_of fs w)
named p [] w = refl
named p (f ∷ fs) w = go (bytes_eq f.name w) (named p fs w)
  where
    go : (b : Bool) → function_of (map (function_definition p) fs) w ≡ option_map (function_definition p) (row_of fs w) →
        cond b (Some (function_definition p f)) (function_of (map (function_definition p) fs) w) ≡ option_map (function_definition p) (cond b (Some f) (row_of fs w))
    go true h = refl
    go false h = h
