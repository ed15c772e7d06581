-- An element whose content has its value, and a match whose scrutinee has.
use Rattle.std.proofs.Common.{◌≡◌, ℕ, ◌+◌, ◌*◌, ◌<◌, arith, List, [], ◌∷◌, ◌++◌, ap, sym, subst, ◌∙◌}
use Rattle.xd_doc.specs.Document.{element, empty}
use Rattle.xd_eval.specs.Values.{World, value_at, Stands, KeepsValues}
use Rattle.xd_eval.specs.declared.joins.Value.{Value}
use Rattle.xd_syntax.specs.ExpressionTable.{shape_at}
use Rattle.xd_syntax.specs.Kept.{ProgramTable, program_tree}
use Rattle.xd_meaning.specs.Meaning.{and_then, value_by}
use Rattle.xd_syntax.specs.declared.exprs.ExprId.{ExprId}
use Rattle.xd_eval.specs.Waiting.{resumed, all_steps}
use Rattle.xd_eval.specs.Machine.{environment_in, expression_in, all_waiting, clause_numbers_of, FramesStand, matcher, caller, outcome, most_steps, steps_left, Leads, IsStep, IsChosen}
use Rattle.xd_eval.specs.declared.frame.Scope.{Scope}
use Rattle.xd_eval.specs.declared.frame.Frame.{Frame}
use Rattle.xd_eval.specs.declared.frame.Frame.TheVariants.{Element, Match}
use Rattle.xd_eval.specs.declared.frame.Control.TheVariants.{Evaluate, Give}
use Rattle.xd_eval.specs.declared.frame.Step.{Step}
use Rattle.xd_eval.specs.declared.frame.Step.TheVariants as step
use Rattle.xd_eval.proofs.Waits.{all_kept, frames_kept, waiting_more}

module _ (p : ProgramTable) (old new : World) (k : KeepsValues old new) (fs : List Frame) (stand : FramesStand p old fs) where
  pub element_leads : (l : List ℕ) (value made : Value) → Stands new made → value_at new made ≡ element l (value_at old value) empty → (n : ℕ) →
      Leads p old (fs ++ Element l ∷ []) (Give value) n new fs n (Give made)
  element_leads l value made b d n =
      let w = all_kept old new k p fs stand in
      let a = waiting_more p old fs (Element l) in
      let w' = ap all_steps w in
      let a' = ap all_steps a in
      let m = n * (most_steps (program_tree p).functions + 1) in
      record {
        same = ap (λ ws. resumed (matcher p) (caller p) ws (value_at new made) n) w ∙ ap (λ x. resumed (matcher p) (caller p) (all_waiting p old fs) x n) d
            ∙ sym (ap (λ ws. resumed (matcher p) (caller p) ws (value_at old value) n) a);
        control = b;
        frames = frames_kept old new k p fs stand;
        less = omega arith;
      }

  pub match_steps : (id : ExprId) (scope : Scope) (value : Value) (n : ℕ) (s : Step) →
      IsChosen p old new (clause_numbers_of (shape_at p.exprs id.at)) scope.bindings.value.items (value_at old value) s →
      IsStep p old (fs ++ Match id scope ∷ []) (Give value) n new fs n s
  match_steps id scope value n (step.Next (Evaluate body inner)) h =
      let w = all_kept old new k p fs stand in
      let a = waiting_more p old fs (Match id scope) in
      let w' = ap all_steps w in
      let a' = ap all_steps a in
      let l = h.less in
      let m = n * (most_steps (program_tree p).functions + 1) in
      record {
        same = ap (λ ws. and_then (value_by (matcher p) (caller p) n (environment_in new inner.bindings.value.items) (expression_in p body.at)) (resumed (matcher p) (caller p) ws)) w ∙ ap (λ o. and_then o (resumed (matcher p) (caller p) (all_waiting p old fs))) (h.same n)
            ∙ sym (ap (λ ws. resumed (matcher p) (caller p) ws (value_at old value) n) a);
        control = (h.there, h.stands);
        frames = frames_kept old new k p fs stand;
        less = omega arith;
      }
  match_steps id scope value n (step.Next (Give e)) h = absurd h
  match_steps id scope value n (step.Ended e) h = absurd h
  match_steps id scope value n step.Spent h = absurd h
  match_steps id scope value n step.Stuck h =
      ap (λ ws. resumed (matcher p) (caller p) ws (value_at old value) n) (waiting_more p old fs (Match id scope))
      ∙ ap (λ o. and_then o (resumed (matcher p) (caller p) (all_waiting p old fs))) (h n)

-- a value that was read first: the document is the same, in a world that grew
pub step_from : (p : ProgramTable) (old mid new : World) → KeepsValues old mid → (gs : List Frame) → FramesStand p old gs → (value read : Value) → value_at mid read ≡ value_at old value →
    (n : ℕ) (fs : List Frame) (m : ℕ) (s : Step) → IsStep p mid gs (Give read) n new fs m s → IsStep p old gs (Give value) n new fs m s
step_from p old mid new k gs stand value read e n fs m s h = go s h
  where
    w : all_waiting p mid gs ≡ all_waiting p old gs
    w = all_kept old mid k p gs stand

    same : outcome p mid gs (Give read) n ≡ outcome p old gs (Give value) n
    same =
        ap (λ ws. resumed (matcher p) (caller p) ws (value_at mid read) n) w ∙ ap (λ d. resumed (matcher p) (caller p) (all_waiting p old gs) d n) e

    go : (s : Step) → IsStep p mid gs (Give read) n new fs m s → IsStep p old gs (Give value) n new fs m s
    go (step.Next d) h = record {
      same = h.same ∙ same;
      control = h.control;
      frames = h.frames;
      less = subst (λ ws. steps_left p new fs d m < n * (most_steps (program_tree p).functions + 1) + (0 + all_steps ws)) w h.less;
    }
    go (step.Ended v) h = (h.0, sym same ∙ h.1)
    go step.Spent h = sym same ∙ h
    go step.Stuck h = sym same ∙ h
