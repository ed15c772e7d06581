-- What each step makes of an outcome.
use Rattle.std.proofs.Common.{◌≡◌, ℕ, List, [], ◌∷◌, ◌++◌, ap, sym, ◌∙◌, append_assoc}
use Rattle.xd_base.specs.declared.Place.{Place}
use Rattle.xd_doc.specs.Document.{Document, empty, join}
use Rattle.xd_doc.proofs.Joins.{join_empty-right}
use Rattle.xd_syntax.specs.Expression.{Expression, Called, Matched, Clauses, joined, arguments_of, place_of_expression}
use Rattle.xd_meaning.specs.Meaning.{Done, Environment, Matcher, and_then, value_by, values_by, chosen_by}
use Rattle.xd_eval.specs.Waiting.{Waiting, in_sequence, in_call, in_match, Caller, joined_all, resumed}
use Rattle.xd_eval.proofs.Outcomes.{then_then, then_same, then_done}

module _ (M : Matcher) (C : Caller) where
  -- the parts of a sequence, from left to right
  pub joined_value : (n : ℕ) (env : Environment) (p : Place) (e : Expression) (es : List Expression) →
      value_by M C n env (joined p (e ∷ es)) ≡ and_then (value_by M C n env e) (λ d m. and_then (values_by M C m env (arguments_of es)) (λ ds k. Done (joined_all (d ∷ ds)) k))
  joined_value n env p e [] =
      sym (then_same (value_by M C n env e) (λ d m. Done (join d empty) m) Done (λ d m. ap (λ c. Done c m) (join_empty-right d)) ∙ then_done (value_by M C n env e))
  joined_value n env p e (f ∷ es) =
      then_same (value_by M C n env e) (λ d m. and_then (value_by M C m env (joined (place_of_expression f) (f ∷ es))) (λ c k. Done (join d c) k))
      (λ d m. and_then (values_by M C m env (arguments_of (f ∷ es))) (λ ds k. Done (joined_all (d ∷ ds)) k))
      (λ d m. ap (λ o. and_then o (λ c k. Done (join d c) k)) (joined_value m env (place_of_expression f) f es)
      ∙ then_then (value_by M C m env f) (λ c j. and_then (values_by M C j env (arguments_of es)) (λ ds k. Done (joined_all (c ∷ ds)) k)) (λ c k. Done (join d c) k)
      ∙ then_same (value_by M C m env f)
      (λ c j. and_then (and_then (values_by M C j env (arguments_of es)) (λ ds k. Done (joined_all (c ∷ ds)) k)) (λ c k. Done (join d c) k))
      (λ c j. and_then (and_then (values_by M C j env (arguments_of es)) (λ ds k. Done (c ∷ ds) k)) (λ ds k. Done (joined_all (d ∷ ds)) k))
      (λ c j. then_then (values_by M C j env (arguments_of es)) (λ ds k. Done (joined_all (c ∷ ds)) k) (λ c k. Done (join d c) k)
      ∙ sym (then_then (values_by M C j env (arguments_of es)) (λ ds k. Done (c ∷ ds) k) (λ ds k. Done (joined_all (d ∷ ds)) k)))
      ∙ sym (then_then (value_by M C m env f) (λ c j. and_then (values_by M C j env (arguments_of es)) (λ ds k. Done (c ∷ ds) k)) (λ ds k. Done (joined_all (d ∷ ds)) k)))

  pub sequence_step : (n : ℕ) (env : Environment) (p : Place) (e : Expression) (es : List Expression) (ws : List Waiting) →
      and_then (value_by M C n env (joined p (e ∷ es))) (resumed M C ws) ≡ and_then (value_by M C n env e) (resumed M C (in_sequence env [] es ∷ ws))
  sequence_step n env p e es ws =
      ap (λ o. and_then o (resumed M C ws)) (joined_value n env p e es)
      ∙ then_then (value_by M C n env e) (λ d m. and_then (values_by M C m env (arguments_of es)) (λ ds k. Done (joined_all (d ∷ ds)) k)) (resumed M C ws)
      ∙ then_same (value_by M C n env e)
      (λ d m. and_then (and_then (values_by M C m env (arguments_of es)) (λ ds k. Done (joined_all (d ∷ ds)) k)) (resumed M C ws))
      (resumed M C (in_sequence env [] es ∷ ws))
      (λ d m. then_then (values_by M C m env (arguments_of es)) (λ ds k. Done (joined_all (d ∷ ds)) k) (resumed M C ws))

  pub call_step : (n : ℕ) (env : Environment) (p : Place) (f : List ℕ) (e : Expression) (es : List Expression) (ws : List Waiting) →
      and_then (value_by M C n env (Called p f (arguments_of (e ∷ es)))) (resumed M C ws) ≡ and_then (value_by M C n env e) (resumed M C (in_call env f [] es ∷ ws))
  call_step n env p f e es ws =
      then_then (and_then (value_by M C n env e) (λ d m. and_then (values_by M C m env (arguments_of es)) (λ ds k. Done (d ∷ ds) k))) (λ ds m. C m f ds) (resumed M C ws)
      ∙ then_then (value_by M C n env e) (λ d m. and_then (values_by M C m env (arguments_of es)) (λ ds k. Done (d ∷ ds) k)) (λ ds m. and_then (C m f ds) (resumed M C ws))
      ∙ then_same (value_by M C n env e)
      (λ d m. and_then (and_then (values_by M C m env (arguments_of es)) (λ ds k. Done (d ∷ ds) k)) (λ ds m. and_then (C m f ds) (resumed M C ws)))
      (resumed M C (in_call env f [] es ∷ ws))
      (λ d m. then_then (values_by M C m env (arguments_of es)) (λ ds k. Done (d ∷ ds) k) (λ ds m. and_then (C m f ds) (resumed M C ws)))

  pub match_step : (n : ℕ) (env : Environment) (p : Place) (e : Expression) (cs : Clauses) (ws : List Waiting) →
      and_then (value_by M C n env (Matched p e cs)) (resumed M C ws) ≡ and_then (value_by M C n env e) (resumed M C (in_match env cs ∷ ws))
  match_step n env p e cs ws = then_then (value_by M C n env e) (λ d m. chosen_by M C m env d cs) (resumed M C ws)

  moved : (before : List Document) (d c : Document) (ds : List Document) → before ++ d ∷ (c ∷ ds) ≡ (before ++ d ∷ []) ++ c ∷ ds
  moved before d c ds = sym (append_assoc before (d ∷ []) (c ∷ ds))

  -- the next part of a sequence
  pub next_part : (n : ℕ) (env : Environment) (before : List Document) (d : Document) (e : Expression) (es : List Expression) (ws : List Waiting) →
      resumed M C (in_sequence env before (e ∷ es) ∷ ws) d n ≡ and_then (value_by M C n env e) (resumed M C (in_sequence env (before ++ d ∷ []) es ∷ ws))
  next_part n env before d e es ws =
      then_then (value_by M C n env e) (λ c m. and_then (values_by M C m env (arguments_of es)) (λ ds k. Done (c ∷ ds) k)) (λ ds m. resumed M C ws (joined_all (before ++ d ∷ ds)) m)
      ∙ then_same (value_by M C n env e)
      (λ c m. and_then (and_then (values_by M C m env (arguments_of es)) (λ ds k. Done (c ∷ ds) k)) (λ ds m. resumed M C ws (joined_all (before ++ d ∷ ds)) m))
      (resumed M C (in_sequence env (before ++ d ∷ []) es ∷ ws))
      (λ c m. then_then (values_by M C m env (arguments_of es)) (λ ds k. Done (c ∷ ds) k) (λ ds m. resumed M C ws (joined_all (before ++ d ∷ ds)) m)
      ∙ then_same (values_by M C m env (arguments_of es)) (λ ds k. resumed M C ws (joined_all (before ++ d ∷ (c ∷ ds))) k)
      (λ ds k. resumed M C ws (joined_all ((before ++ d ∷ []) ++ c ∷ ds)) k)
      (λ ds k. ap (λ xs. resumed M C ws (joined_all xs) k) (moved before d c ds)))

  pub next_argument : (n : ℕ) (env : Environment) (f : List ℕ) (before : List Document) (d : Document) (e : Expression) (es : List Expression) (ws : List Waiting) →
      resumed M C (in_call env f before (e ∷ es) ∷ ws) d n ≡ and_then (value_by M C n env e) (resumed M C (in_call env f (before ++ d ∷ []) es ∷ ws))
  next_argument n env f before d e es ws =
      then_then (value_by M C n env e) (λ c m. and_then (values_by M C m env (arguments_of es)) (λ ds k. Done (c ∷ ds) k))
      (λ ds m. and_then (C m f (before ++ d ∷ ds)) (resumed M C ws))
      ∙ then_same (value_by M C n env e)
      (λ c m. and_then (and_then (values_by M C m env (arguments_of es)) (λ ds k. Done (c ∷ ds) k)) (λ ds m. and_then (C m f (before ++ d ∷ ds)) (resumed M C ws)))
      (resumed M C (in_call env f (before ++ d ∷ []) es ∷ ws))
      (λ c m. then_then (values_by M C m env (arguments_of es)) (λ ds k. Done (c ∷ ds) k) (λ ds m. and_then (C m f (before ++ d ∷ ds)) (resumed M C ws))
      ∙ then_same (values_by M C m env (arguments_of es)) (λ ds k. and_then (C k f (before ++ d ∷ (c ∷ ds))) (resumed M C ws))
      (λ ds k. and_then (C k f ((before ++ d ∷ []) ++ c ∷ ds)) (resumed M C ws))
      (λ ds k. ap (λ xs. and_then (C k f xs) (resumed M C ws)) (moved before d c ds)))
