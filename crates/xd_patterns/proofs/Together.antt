-- The states of types and patterns that were compiled together, with the marks by the numbers of
-- all their variables.
use Rattle.std.proofs.Common.{◌≡◌, ℕ, ◌↔◌, ◌||◌, Bool, true, false, List, [], ◌∷◌, ◌++◌, map, length, take, drop, refl, ap, sym, subst, ◌∙◌}
use Rattle.std.specs.List.{AllByRecursion}
use Rattle.xd_doc.specs.Document.{Document}
use Rattle.xd_auto.specs.declared.auto.State.{State}
use Rattle.xd_auto.specs.Automaton.{Automaton, accepts}
use Rattle.xd_meaning.specs.KeptFaults.{AllPaired}
use Rattle.xd_meaning.specs.Bindings.{variables_of}
use Rattle.xd_sound.specs.TypeNames.{meanings}
use Rattle.xd_laws.proofs.TheLaws.{patterns_are_types}
use Rattle.xd_syntax.specs.Words.{has_word}
use Rattle.xd_syntax.specs.Tree.{Tree, Definitions, occurrences}
use Rattle.xd_syntax.specs.Table.{Row, tree_at}
use Rattle.xd_syntax.specs.ProperTables.{IsTable}
use Rattle.xd_syntax.specs.Types.{BelongsTo, tree}
use Rattle.xd_syntax.specs.Fits.{Fits}
use Rattle.xd_syntax.specs.Kept.{ProgramTable, program_tree}
use Rattle.xd_syntax.specs.Program.{names_of}
use Rattle.xd_syntax.specs.RecursionFaults.{IsSound}
use Rattle.xd_syntax.specs.Patterns.{pattern_tree}
use Rattle.xd_syntax.specs.declared.types.TypeId.{TypeId}
use Rattle.xd_syntax.specs.declared.patterns.PatternId.{PatternId}
use Rattle.xd_patterns.specs.declared.compiled.PatternVariables.{PatternVariables}
use Rattle.xd_patterns.specs.declared.chains.Piece.{Piece}
use Rattle.xd_patterns.specs.CompiledProgram.{IsLinearPattern, IsTypeState, IsPatternState, AcceptsType, AreWithin, each_variables, variables_of_patterns}
use Rattle.xd_patterns.specs.Marked.{Marking}
use Rattle.xd_patterns.specs.CompiledState.{IsCompiledState}
use Rattle.xd_patterns.specs.Starting.{type_piece, pattern_piece, CanStart, IsPieceState}
use Rattle.xd_patterns.specs.Tasks.{Tables}
use Rattle.xd_patterns.specs.Variables.{put_each}
use Rattle.xd_patterns.proofs.MarksLaw.{Keeps, kept_is_compiled}
use Rattle.xd_patterns.proofs.PlainTypes.{type_bare, type_binds_nothing}
use Rattle.xd_patterns.proofs.VariableLemmas.{put_has, variables_have}
use Rattle.xd_patterns.proofs.Pairing.{paired_with, paired_front, paired_back, paired_map}
use Rattle.xd_patterns.proofs.Starting.{can_start_type, can_start_pattern}

-- all pieces can start

pub all_start : (t : Tables) → IsTable false t.types → (ids : List TypeId) (ps : List PatternId) → AllByRecursion (BelongsTo t.types) ids → AllByRecursion (IsLinearPattern t.patterns) ps →
    AllByRecursion (CanStart t) (map type_piece ids ++ map pattern_piece ps)
all_start t table [] [] h g = tt
all_start t table [] (p ∷ ps) h g = (can_start_pattern t p g.0, all_start t table [] ps tt g.1)
all_start t table (i ∷ ids) ps h g = (can_start_type t table i h.0, all_start t table ids ps h.1 g)

-- the variables of all patterns

pub within_same : (vs : List (List ℕ)) → AreWithin vs vs
within_same vs x h = h

pub within_put : (all vs ws : List (List ℕ)) → AreWithin all vs → AreWithin (put_each all ws) vs
within_put all vs ws h x e = put_has all ws x ∙ ap (λ b. b || has_word ws x) (h x e)

pub within_new : (all ws : List (List ℕ)) → AreWithin (put_each all ws) ws
within_new all ws x e = put_has all ws x ∙ ap (λ b. has_word all x || b) e ∙ or_true (has_word all x)
  where
    or_true : (b : Bool) → (b || true) ≡ true
    or_true true = refl
    or_true false = refl

pub all_within_put : (all ws : List (List ℕ)) (vss : List (List (List ℕ))) → AllByRecursion (AreWithin all) vss → AllByRecursion (AreWithin (put_each all ws)) vss
all_within_put all ws [] a = tt
all_within_put all ws (vs ∷ vss) a = (within_put all vs ws a.0, all_within_put all ws vss a.1)

pub each_push : (ps : List PatternVariables) (p : PatternVariables) → each_variables (ps ++ p ∷ []) ≡ each_variables ps ++ p.words.keys ∷ []
each_push [] p = refl
each_push (q ∷ ps) p = ap (λ z. q.words.keys ∷ z) (each_push ps p)

pub variables_push : (rows : List Row) (ids : List PatternId) (id : PatternId) → variables_of_patterns rows (ids ++ id ∷ []) ≡ variables_of_patterns rows ids ++ variables_of (pattern_tree rows id) ∷ []
variables_push rows [] id = refl
variables_push rows (i ∷ ids) id = ap (λ z. variables_of (pattern_tree rows i) ∷ z) (variables_push rows ids id)

-- with the marks by numbers

nothing_within : (T : Tree) (vs : List (List ℕ)) → occurrences T ≡ [] → AreWithin vs (variables_of T)
nothing_within T vs e x h = let f : false ≡ true = sym (ap (λ ws. has_word ws x) e) ∙ sym (variables_have T x) ∙ h in cc

module _ (E : Definitions) (t : Tables) (a : Automaton) (k k' : Marking) (vs : List (List ℕ)) (kept : Keeps vs k k') where
  state_kept : (P : Tree) (s : State) → AreWithin vs (variables_of P) → IsCompiledState E P a k s → IsCompiledState E P a k' s
  state_kept P s within c = record { belongs = c.belongs; compiled = kept_is_compiled E P a k k' s vs within kept c.compiled }

  pub type_states_of : IsTable false t.types → (ids : List TypeId) (qs : List Piece) (ss : List State) → AllByRecursion (BelongsTo t.types) ids → AllPaired (IsPieceState E t a k) (map type_piece ids ++ qs) ss →
      AllPaired (IsTypeState E t.types a k') ids (take (length ids) ss)
  type_states_of table ids qs ss there h =
      paired_with (BelongsTo t.types) (λ id s. IsPieceState E t a k (type_piece id) s) (IsTypeState E t.types a k')
      (λ id s i c. state_kept (tree t.types id) s (nothing_within (tree t.types id) vs (type_binds_nothing t.types table id.at i)) c)
      ids (take (length ids) ss) there (paired_front (IsPieceState E t a k) type_piece ids qs ss h)

  patterns_kept : (ps : List PatternId) (ss : List State) → AllByRecursion (AreWithin vs) (variables_of_patterns t.patterns ps) → AllPaired (λ id s. IsPieceState E t a k (pattern_piece id) s) ps ss →
      AllPaired (IsPatternState E t.patterns a k') ps ss
  patterns_kept [] [] w h = tt
  patterns_kept [] (s ∷ ss) w h = absurd h
  patterns_kept (p ∷ ps) [] w h = absurd h
  patterns_kept (p ∷ ps) (s ∷ ss) w h = (state_kept (pattern_tree t.patterns p) s w.0 h.0, patterns_kept ps ss w.1 h.1)

  pub pattern_states_of : (ids : List TypeId) (ps : List PatternId) (ss : List State) → AllByRecursion (AreWithin vs) (variables_of_patterns t.patterns ps) →
      AllPaired (IsPieceState E t a k) (map type_piece ids ++ map pattern_piece ps) ss → AllPaired (IsPatternState E t.patterns a k') ps (drop (length ids) ss)
  pattern_states_of ids ps ss within h =
      patterns_kept ps (drop (length ids) ss) within
      (paired_map (IsPieceState E t a k) pattern_piece ps (drop (length ids) ss) (paired_back (IsPieceState E t a k) type_piece ids (map pattern_piece ps) ss h))

-- what is the state of a type, as of a pattern, accepts just what fits it

pub types_accept : (p : ProgramTable) → IsSound (program_tree p) → IsTable false p.types → (a : Automaton) (k : Marking) (ids : List TypeId) (ss : List State) → AllByRecursion (BelongsTo p.types) ids →
    AllPaired (IsTypeState (meanings p.types p.type_defs) p.types a k) ids ss → AllPaired (AcceptsType (names_of (program_tree p)) p.types a) ids ss
types_accept p sound table a k ids ss there h =
    paired_with (BelongsTo p.types) (IsTypeState (meanings p.types p.type_defs) p.types a k) (AcceptsType (names_of (program_tree p)) p.types a)
    (λ id s i c. record { belongs = c.belongs; accepts = λ d. fits id s i c d })
    ids ss there h
  where
    fits : (id : TypeId) (s : State) → BelongsTo p.types id → IsTypeState (meanings p.types p.type_defs) p.types a k id s → (d : Document) → (accepts a d s ≡ true) ↔ Fits (names_of (program_tree p)) (tree p.types id) d
    fits id s i c d =
        let law = patterns_are_types (program_tree p) sound (tree_at p.types id.at) d in
        let plain = type_bare p.types table id.at i in (
          λ y. subst (λ T. Fits (names_of (program_tree p)) T d) plain (law.0 ((c.compiled.accepts d).0 y)),
          λ y. (c.compiled.accepts d).1 (law.1 (subst (λ T. Fits (names_of (program_tree p)) T d) (sym plain) y)),
        )
