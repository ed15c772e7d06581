-- Declared types as states.
use Rattle.std.proofs.Common.{◌≡◌, ◌↔◌, ◌+◌, true, List, [], ◌∷◌, ◌++◌, map, length, ap, sym, subst, ◌∙◌, arith, append-nil, append_assoc, length-append}
use Rattle.std.specs.List.{AllByRecursion}
use Rattle.std.proofs.lemmas.List.{length-map}
use Rattle.xd_doc.proofs.Lists.{all_append}
use Rattle.xd_auto.specs.declared.auto.State.{State}
use Rattle.xd_auto.specs.Automaton.{Automaton, accepts}
use Rattle.xd_syntax.specs.PlacedTable.{placed_at}
use Rattle.xd_syntax.specs.Types.{BelongsTo}
use Rattle.xd_syntax.specs.Fits.{Fits}
use Rattle.xd_syntax.specs.Program.{names_of}
use Rattle.xd_syntax.specs.Kept.{FunctionStands, ProgramTable, function_definition, parameter, program_tree}
use Rattle.xd_syntax.specs.FunctionRow.{FunctionRow}
use Rattle.xd_syntax.specs.declared.program.Param.{Param}
use Rattle.xd_syntax.specs.declared.types.TypeId.{TypeId}
use Rattle.xd_syntax.proofs.PlacedTrees.{unplaced_at}
use Rattle.xd_meaning.specs.KeptFaults.{AllPaired}
use Rattle.xd_patterns.specs.CompiledProgram.{AcceptsType}
use Rattle.xd_check_steps.specs.declared.signatures.Signature.{Signature}
use Rattle.xd_check_steps.specs.Signed.{AreParameters, HasParameters, IsSignature, IsTypeState, states_signed, types_declared, types_of}
use Rattle.xd_check_steps.proofs.Lists.{all_map}

-- the types that functions declare belong to the program
declared_there : (p : ProgramTable) (fs : List FunctionRow) → AllByRecursion (FunctionStands p.types p.exprs) fs → AllByRecursion (BelongsTo p.types) (types_declared fs)
declared_there p [] h = tt
declared_there p (f ∷ fs) h =
    let there : FunctionStands p.types p.exprs f = h.0 in
    all_append (BelongsTo p.types) (types_of f) (types_declared fs)
    (all_append (BelongsTo p.types) (map (λ (q : Param). q.body) f.params) (f.declared ∷ []) (all_map (BelongsTo p.types) (λ (q : Param). q.body) f.params there.params) (there.declared, tt))
    (declared_there p fs h.1)

pub all_declared_there : (p : ProgramTable) → AllByRecursion (FunctionStands p.types p.exprs) p.functions → AllByRecursion (BelongsTo p.types) (types_declared p.functions)
all_declared_there p h = declared_there p p.functions h

-- as many types as parameters, and one
pub types_count : (f : FunctionRow) → length (types_of f) ≡ length f.params + 1
types_count f = length-append (map (λ (q : Param). q.body) f.params) (f.declared ∷ []) ∙ ap (λ n. n + 1) (length-map f.params (λ (q : Param). q.body))

pub declared_count : (f : FunctionRow) (fs : List FunctionRow) → length (types_declared (f ∷ fs)) ≡ (length f.params + 1) + length (types_declared fs)
declared_count f fs = length-append (types_of f) (types_declared fs) ∙ ap (λ n. n + length (types_declared fs)) (types_count f)

-- one more signature, whose states are the first ones that are left
pub signed_push : (rows : List Signature) (g : Signature) → states_signed (rows ++ g ∷ []) ≡ states_signed rows ++ (g.parameters.items ++ g.declared ∷ [])
signed_push [] g = append-nil (g.parameters.items ++ g.declared ∷ [])
signed_push (r ∷ rs) g =
    ap (λ ss. (r.parameters.items ++ r.declared ∷ []) ++ ss) (signed_push rs g)
    ∙ sym (append_assoc (r.parameters.items ++ r.declared ∷ []) (states_signed rs) (g.parameters.items ++ g.declared ∷ []))

module _ (p : ProgramTable) (a : Automaton) where
  abbrev Accepts : TypeId → State → Type 0
  Accepts id s = AcceptsType (names_of (program_tree p)) p.types a id s

  state_of_type : (id : TypeId) (s : State) → Accepts id s → IsTypeState (names_of (program_tree p)) a (placed_at p.types id.at) s
  state_of_type id s h = record {
    belongs = h.belongs;
    exact = λ d. subst (λ T. (accepts a d s ≡ true) ↔ Fits (names_of (program_tree p)) T d) (sym (unplaced_at p.types id.at)) (h.accepts d);
  }

  -- the states of a function's parameters and of its result, and those that follow
  split : (qs : List Param) (id : TypeId) (ids : List TypeId) (ss : List State) (s : State) (us : List State) → length ss ≡ length qs →
      AllPaired Accepts ((map (λ (q : Param). q.body) qs ++ id ∷ []) ++ ids) ((ss ++ s ∷ []) ++ us) →
      AreParameters (names_of (program_tree p)) a (map (parameter p.types) qs) ss × Accepts id s × AllPaired Accepts ids us
  split [] id ids [] s us e h = (tt, h.0, h.1)
  split [] id ids (r ∷ rs) s us e h = absurd (omega arith)
  split (q ∷ qs) id ids [] s us e h = absurd (omega arith)
  split (q ∷ qs) id ids (r ∷ rs) s us e h = (let k = split qs id ids rs s us (omega arith) h.1 in ((state_of_type q.body r h.0, k.0), k.1, k.2))

  -- each function has the signature of its own states
  pub rows_signed : (fs : List FunctionRow) (gs : List Signature) → AllPaired HasParameters fs gs → AllPaired Accepts (types_declared fs) (states_signed gs) →
      AllPaired (IsSignature (names_of (program_tree p)) a) (map (function_definition p) fs) gs
  rows_signed [] [] c h = tt
  rows_signed [] (g ∷ gs) c h = absurd c
  rows_signed (f ∷ fs) [] c h = absurd c
  rows_signed (f ∷ fs) (g ∷ gs) c h =
      (let k = split f.params f.declared (types_declared fs) g.parameters.items g.declared (states_signed gs) c.0 h in
      (record { parameters = k.0; result = state_of_type f.declared g.declared k.1 }, rows_signed fs gs c.1 k.2))
