-- What waits, in a world that grows and on a stack that grows.
use Rattle.std.proofs.Common.{◌≡◌, ℕ, List, [], ◌∷◌, ◌++◌, map, reverse, refl, ap, ◌∙◌}
use Rattle.std.specs.List.{AllByRecursion}
use Rattle.std.proofs.lemmas.List.{reverse-append, map-append}
use Rattle.xd_eval.specs.Values.{World, value_at, Stands, KeepsValues}
use Rattle.xd_eval.specs.declared.joins.Value.{Value}
use Rattle.xd_doc.proofs.Lists.{all_more}
use Rattle.xd_syntax.specs.ExpressionTable.{shape_at}
use Rattle.xd_syntax.specs.Kept.{ProgramTable}
use Rattle.xd_eval.specs.Waiting.{in_sequence, in_call, in_match}
use Rattle.xd_eval.specs.Machine.{environment_in, function_named, clauses_in, clause_numbers_of, before, after, waiting_of, all_waiting, ScopeStands, FrameStands, FramesStand}
use Rattle.xd_eval.specs.declared.frame.Frame.{Frame}
use Rattle.xd_eval.specs.declared.frame.Frame.TheVariants.{Element, Sequence, Call, Match}

module _ (old new : World) (k : KeepsValues old new) where
  pub environment_kept : (bs : List (List ℕ × Value)) → ScopeStands old bs → environment_in new bs ≡ environment_in old bs
  environment_kept [] s = refl
  environment_kept (b ∷ bs) s = let e = k.same b.1 s.0 in let r = environment_kept bs s.1 in cc

  pub scope_kept : (bs : List (List ℕ × Value)) → ScopeStands old bs → ScopeStands new bs
  scope_kept bs s = all_more (λ (b : List ℕ × Value). Stands old b.1) (λ (b : List ℕ × Value). Stands new b.1) bs (λ b h. k.stands b.1 h) s

  pub documents_kept : (values : List Value) → AllByRecursion (Stands old) values → map (value_at new) values ≡ map (value_at old) values
  documents_kept [] s = refl
  documents_kept (e ∷ es) s = let h = k.same e s.0 in let r = documents_kept es s.1 in cc

  waiting_kept : (p : ProgramTable) (f : Frame) → FrameStands p old f → waiting_of p new f ≡ waiting_of p old f
  waiting_kept p (Element l) s = refl
  waiting_kept p (Sequence parts) s =
      ap (λ env. in_sequence env (before new parts) (after p parts)) (environment_kept parts.scope.bindings.value.items s.1.scope_stands)
      ∙ ap (λ ds. in_sequence (environment_in old parts.scope.bindings.value.items) ds (after p parts)) (documents_kept parts.values.items s.1.values_there)
  waiting_kept p (Call parts) s =
      ap (λ env. in_call env (function_named (shape_at p.exprs parts.expr.at)) (before new parts) (after p parts)) (environment_kept parts.scope.bindings.value.items s.1.scope_stands)
      ∙ ap (λ ds. in_call (environment_in old parts.scope.bindings.value.items) (function_named (shape_at p.exprs parts.expr.at)) ds (after p parts))
      (documents_kept parts.values.items s.1.values_there)
  waiting_kept p (Match id scope) s =
      ap (λ env. in_match env (clauses_in p (clause_numbers_of (shape_at p.exprs id.at)))) (environment_kept scope.bindings.value.items s.2)

  frame_kept : (p : ProgramTable) (f : Frame) → FrameStands p old f → FrameStands p new f
  frame_kept p (Element l) s = tt
  frame_kept p (Sequence parts) s = (
    s.0,
    record {
      there = s.1.there;
      waits = s.1.waits;
      values_there = all_more (Stands old) (Stands new) parts.values.items (λ e h. k.stands e h) s.1.values_there;
      scope_stands = scope_kept parts.scope.bindings.value.items s.1.scope_stands;
    },
  )
  frame_kept p (Call parts) s = (
    s.0,
    record {
      there = s.1.there;
      waits = s.1.waits;
      values_there = all_more (Stands old) (Stands new) parts.values.items (λ e h. k.stands e h) s.1.values_there;
      scope_stands = scope_kept parts.scope.bindings.value.items s.1.scope_stands;
    },
  )
  frame_kept p (Match id scope) s = (s.0, s.1, scope_kept scope.bindings.value.items s.2)

  maps_kept : (p : ProgramTable) (fs : List Frame) → FramesStand p old fs → map (waiting_of p new) fs ≡ map (waiting_of p old) fs
  maps_kept p [] s = refl
  maps_kept p (f ∷ fs) s = let h = waiting_kept p f s.0 in let r = maps_kept p fs s.1 in cc

  pub all_kept : (p : ProgramTable) (fs : List Frame) → FramesStand p old fs → all_waiting p new fs ≡ all_waiting p old fs
  all_kept p fs s = ap reverse (maps_kept p fs s)

  pub frames_kept : (p : ProgramTable) (fs : List Frame) → FramesStand p old fs → FramesStand p new fs
  frames_kept p fs s = all_more (FrameStands p old) (FrameStands p new) fs (λ f h. frame_kept p f h) s

-- one more frame
pub waiting_more : (p : ProgramTable) (here : World) (fs : List Frame) (f : Frame) → all_waiting p here (fs ++ f ∷ []) ≡ waiting_of p here f ∷ all_waiting p here fs
waiting_more p here fs f =
    ap reverse (map-append (waiting_of p here) fs (f ∷ [])) ∙ reverse-append (map (waiting_of p here) fs) (waiting_of p here f ∷ [])
