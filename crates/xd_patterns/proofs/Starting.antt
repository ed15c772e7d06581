-- States for pieces alone, and what they are at the end.
use Rattle.std.proofs.Common.{◌≡◌, ℕ, zero, suc, ◌-◌, ◌≤◌, arith, false, List, [], ◌∷◌, ◌++◌, length, get_or, Some, refl, ap, sym, subst, ◌∙◌}
use Rattle.std.specs.List.{AllByRecursion, slice_get}
use Rattle.xd_doc.proofs.Lists.{all_more, all_front, all_back}
use Rattle.xd_auto.specs.declared.auto.State.{State}
use Rattle.xd_auto.specs.Automaton.{Automaton, moves_at, no_moves, state_number}
use Rattle.xd_laws.specs.Guarded.{Guarded}
use Rattle.xd_meaning.specs.KeptFaults.{AllPaired}
use Rattle.xd_syntax.specs.Tree.{Definitions}
use Rattle.xd_syntax.specs.ProperTables.{IsTable}
use Rattle.xd_syntax.specs.Types.{BelongsTo}
use Rattle.xd_syntax.specs.declared.types.TypeId.{TypeId}
use Rattle.xd_syntax.specs.declared.patterns.PatternId.{PatternId}
use Rattle.xd_pattern_runs.specs.Linear.{BindNothing}
use Rattle.xd_continuations.specs.Chains.{list_at, HasLink, KeepsLinks}
use Rattle.xd_continuations.specs.declared.links.Link.{Link}
use Rattle.xd_continuations.proofs.ChainLemmas.{has_kept, kept_list, kept_length, list_none}
use Rattle.xd_patterns.specs.declared.chains.Piece.{Piece}
use Rattle.xd_patterns.specs.CompiledProgram.{IsLinearPattern}
use Rattle.xd_patterns.specs.Starting.{type_piece, pattern_piece, CanStart, StandsAlone, AddsStarts, IsPieceState}
use Rattle.xd_patterns.specs.Tasks.{Tables, IsPiece, ArePieces, piece_part}
use Rattle.xd_patterns.specs.Compiling.{AddsStates, FindsState, IsCompiling, marking, standing}
use Rattle.xd_patterns.proofs.TablesLemmas.{adds_link}
use Rattle.xd_patterns.proofs.StateLemmas.{finds_adds, finds_bounded, adds_states_then, there_kept, get_kept}
use Rattle.xd_patterns.proofs.CompileLemmas.{compiled_mirrors, start_stands, get_within}
use Rattle.xd_patterns.proofs.MarkedLaw.{mirrored_is_compiled}
use Rattle.xd_patterns.proofs.PlainTypes.{type_linear}
use Rattle.xd_patterns.proofs.Pairing.{paired_end, paired_same, paired_with}

-- what can start

pub can_start_type : (t : Tables) → IsTable false t.types → (id : TypeId) → BelongsTo t.types id → CanStart t (type_piece id)
can_start_type t table id h = record { piece = record { there = h; part = tt }; outside = refl; linear = type_linear t.types table id.at h }

pub can_start_pattern : (t : Tables) (id : PatternId) → IsLinearPattern t.patterns id → CanStart t (pattern_piece id)
can_start_pattern t id h = record { piece = record { there = h.there; part = tt }; outside = refl; linear = h.linear }

pub are_pieces : (t : Tables) (m : List (Link ℕ)) (qs : List Piece) → AllByRecursion (CanStart t) qs → AllByRecursion (IsPiece t m) qs
are_pieces t m qs a = all_more (CanStart t) (IsPiece t m) qs (λ q s. record { piece = s.piece; marked = (let z = s.outside in omega arith) }) a

-- one after the other

pub starts_none : (base : ℕ) (auto : Automaton) (c : List (Link Piece)) (states : List ℕ) → length auto ≡ base → c ≡ [] → states ≡ [] → AddsStarts base [] c states auto auto []
starts_none base auto c states l e f = record {
  pieces = λ t m a. subst (ArePieces t m) (sym e) tt;
  bounded = subst (AllByRecursion (λ n. n ≤ length c)) (sym f) tt;
  adds = record {
    more = [];
    grown = f;
    count = (let g = ap length f in omega arith);
    longer = omega arith;
    moves = λ s. refl;
  };
  alone = tt;
}

pub starts_more : (base : ℕ) (qs : List Piece) (c c' : List (Link Piece)) (states states' : List ℕ) (old auto auto' : Automaton) (starts : List State) (q : Piece) (number : ℕ) (s : State) →
    AddsStarts base qs c states old auto starts → number ≤ length c' → list_at c' number ≡ q ∷ list_at c 0 → HasLink c (record { item = q; behind = 0 }) c' → FindsState number base states states' auto auto' s →
    AddsStarts base (qs ++ q ∷ []) c' states' old auto' (starts ++ s ∷ [])
starts_more base qs c c' states states' old auto auto' starts q number s a within list link found =
    let new : Link Piece = record { item = q; behind = 0 } in
    let kept : KeepsLinks c c' = has_kept c new c' link in
    let longer = kept_length c c' kept in
    let adds : AddsStates base states states' auto auto' = finds_adds number base states states' auto auto' s found in
    record {
      pieces = λ t m all.
          let here = all_back (IsPiece t m) qs (q ∷ []) all in
          (adds_link t m c c' new here.0 link).pieces (a.pieces t m (all_front (IsPiece t m) qs (q ∷ []) all));
      bounded = finds_bounded number base states states' auto auto' s found (length c') within (all_more (λ n. n ≤ length c) (λ n. n ≤ length c') states (λ n h. omega arith) a.bounded);
      adds = adds_states_then base [] states states' old auto auto' a.adds adds;
      alone =
          paired_end (StandsAlone c' base states') qs starts q s
          (paired_same (StandsAlone c base states) (StandsAlone c' base states')
          (λ p z h. record {
            number = h.number;
            within = (let w = h.within in omega arith);
            list = kept_list c c' kept h.number h.within ∙ h.list;
            after = h.after;
            there = there_kept base states states' auto auto' (state_number z - base) h.number adds h.there;
          }) qs starts a.alone)
          (record { number = number; within = within; list = list ∙ ap (λ xs. q ∷ xs) (list_none c); after = found.after; there = found.there });
    }

past : (a : Automaton) (n : ℕ) → length a ≤ n → get_or a n (no_moves false) ≡ no_moves false
past [] n h = refl
past (x ∷ a) zero h = absurd (omega arith)
past (x ∷ a) (suc n) h = past a n (omega arith)

-- new states have no moves
pub fresh_from : (base : ℕ) (old auto : Automaton) → base ≡ length old → ((s : State) → moves_at auto s ≡ moves_at old s) → (s : State) → base ≤ state_number s → moves_at auto s ≡ no_moves false
fresh_from base old auto e same s h = same s ∙ past old (state_number s) (omega arith)

-- at the end

pub starts_compiled : (E : Definitions) → Guarded E → BindNothing E → (t : Tables) (m0 m : List (Link ℕ)) (c0 c : List (Link Piece)) (base : ℕ) (states0 states : List ℕ) (old auto0 auto : Automaton) (rows : List (List ℕ × List ℕ)) (qs : List Piece)
    (starts : List State) → AllByRecursion (CanStart t) qs → AddsStarts base qs c0 states0 old auto0 starts → IsCompiling E t m0 m c0 c base states0 states auto0 auto (length states) rows →
    AllPaired (IsPieceState E t auto (marking t m base rows)) qs starts
starts_compiled E guarded none t m0 m c0 c base states0 states old auto0 auto rows qs starts can a i =
    paired_with (CanStart t) (StandsAlone c0 base states0) (IsPieceState E t auto (marking t m base rows)) each qs starts can a.alone
  where
    each : (q : Piece) (s : State) → CanStart t q → StandsAlone c0 base states0 q s → IsPieceState E t auto (marking t m base rows) q s
    each q s p h =
        let there : slice_get states (state_number s - base) ≡ Some h.number = subst (λ w. slice_get w (state_number s - base) ≡ Some h.number) (sym i.grown) (get_kept states0 i.more (state_number s - base) h.number h.there) in
        let within = get_within states (state_number s - base) h.number there in
        let count = i.count in
        let after = h.after in
        record {
          belongs = omega arith;
          compiled =
              mirrored_is_compiled E guarded none (piece_part t q) p.linear auto (marking t m base rows) (standing t m c base states)
              (compiled_mirrors E t m0 m c0 c base states0 states auto0 auto rows i) s
              (start_stands E t m0 m c0 c base states0 states auto0 auto rows h.number (length states) s q (piece_part t q) i (a.pieces t m0 (are_pieces t m0 qs can)) h.within h.list p.outside refl h.after h.there);
        }
