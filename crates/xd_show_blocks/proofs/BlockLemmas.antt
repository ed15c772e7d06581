-- Blocks of variables, from the states that accept what they may be.
use Rattle.std.proofs.Common.{◌≡◌, ℕ, true, List, [], ◌∷◌, ◌++◌, refl, sym, ap, subst, ◌∙◌}
use Rattle.std.specs.Prelude.{◌↔◌, ◌<◌, Some, codes, cond, map, flat_map}
use Rattle.std.specs.BTreeMap.{BTreeMap, get}
use Rattle.std.specs.Cmp.{ranks}
use Rattle.std.specs.Ordering.{MatchOrdering, is_eq, nat_cmp}
use Rattle.std.specs.declared.cmp.Ordering.{Ordering}
use Rattle.std.specs.declared.cmp.Ordering.TheVariants.{Less, Equal, Greater}
use Rattle.std.specs.List.{AllZip, AllByRecursion}
use Rattle.xd_auto.specs.Automaton.{Automaton, IsState}
use Rattle.xd_auto.specs.declared.auto.State.{State}
use Rattle.xd_auto.proofs.Closed.{same_state}
use Rattle.xd_doc.specs.Document.{Document, is_proper}
use Rattle.xd_report.specs.Report.{place_front}
use Rattle.xd_shown.specs.Shown.{defined_names}
use Rattle.xd_shown.proofs.AreMeantLemmas.{same_set}
use Rattle.xd_syntax.specs.Kept.{ProgramTable, program_tree, type_definition}
use Rattle.xd_syntax.specs.Placed.{unplaced}
use Rattle.xd_syntax.specs.Program.{ProgramTree, TypeDefinition}
use Rattle.xd_syntax.specs.Table.{Row}
use Rattle.xd_syntax.specs.Types.{tree}
use Rattle.xd_syntax.specs.declared.types.TypeDef.{TypeDef}
use Rattle.xd_syntax.proofs.PlacedTrees.{unplaced_at}
use Rattle.xd_type_laws.specs.DefinitionsText.{definition_line, definitions_text}
use Rattle.xd_variables.specs.Bound.{IsBound}
use Rattle.xd_variables.specs.Seen.{AreSeenVariables, Gives, Reading, SeenVariable}
use Rattle.xd_variables.specs.declared.variables.BoundVariable.{BoundVariable}
use Rattle.xd_show_blocks.specs.AtStates.{Accepted, AddsBlock, AreShownBy, HasBlocks, IsBlockAt, IsShownBy, text_of_block}
use Rattle.xd_show_blocks.specs.declared.shown.ShownState.{ShownState}
use Rattle.xd_show_blocks.specs.Blocks.{AreBlocks, VariableBlock, IsBlockOf, IsShownText, Shows, block_text, blocks_text, shown_text}

-- ---- sets that have the same proper documents are shown alike
abbrev pub SameSet : (D D' : Document → Type 0) → Type 0
SameSet D D' = (d : Document) → is_proper d ≡ true → D d ↔ D' d

pub shows_along : (D D' : Document → Type 0) (taken : List (List ℕ)) (Q : ProgramTree) (start : List ℕ) → SameSet D D' → Shows D taken Q start → Shows D' taken Q start
shows_along D D' taken Q start same s = record { shown = same_set same s.shown; reads_back = s.reads_back }

pub shown_along : (D D' : Document → Type 0) (taken : List (List ℕ)) (k : ShownState) → SameSet D D' → IsShownBy D taken k → IsShownBy D' taken k
shown_along D D' taken k same s = record { program = s.program; shows = shows_along D D' taken s.program k.start same s.shows; written = s.written }

-- ---- the lines of definitions
abbrev pub line_of : List Row → TypeDef → List ℕ
line_of types d = definition_line (d.name, tree types d.body)

pub lines_of_definitions : (p : ProgramTable) → shown_text (program_tree p) ≡ flat_map (line_of p.types) p.type_defs
lines_of_definitions p = go p.type_defs
  where
    go : (ds : List TypeDef) → definitions_text (map (λ (t : TypeDefinition). (t.name, unplaced t.body)) (map (type_definition p.types) ds)) ≡ flat_map (line_of p.types) ds
    go [] = refl
    go (d ∷ ds) = rw (unplaced_at p.types d.body.at, go ds) refl

pub names_of_definitions : (types : List Row) (ds : List TypeDef) → map (λ (t : TypeDefinition). t.name) (map (type_definition types) ds) ≡ map (λ (d : TypeDef). d.name) ds
names_of_definitions types [] = refl
names_of_definitions types (d ∷ ds) = ap (λ ns. d.name ∷ ns) (names_of_definitions types ds)

-- ---- blocks, one for each variable
module _ (a : Automaton) (taken : List (List ℕ)) where
  pub each_more : (xs : List BoundVariable) (bs : List VariableBlock) (x : BoundVariable) (b : VariableBlock) → AllZip (IsBlockAt a taken) xs bs → IsBlockAt a taken x b → AllZip (IsBlockAt a taken) (xs ++ x ∷ []) (bs ++ b ∷ [])
  each_more [] [] x b z h = (h, tt)
  each_more [] (c ∷ bs) x b z h = absurd z
  each_more (y ∷ xs) [] x b z h = absurd z
  each_more (y ∷ xs) (c ∷ bs) x b z h = (z.0, each_more xs bs x b z.1 h)

  -- the block of a variable whose state is shown so
  pub block_added : (x : BoundVariable) (k : ShownState) (old new : List ℕ) → IsShownBy (Accepted a x.state) taken k → new ≡ old ++ text_of_block x k → AddsBlock a taken x old new
  block_added x k old new s e =
      let b : VariableBlock = record { place = x.place; variable = x.word; program = s.program; start = k.start } in
      let same : text_of_block x k ≡ block_text b = ap (λ (t : List ℕ). place_front x.place ++ codes "variable " ++ x.word ++ codes " as " ++ k.start ++ codes "\n" ++ t) s.written in
      record {
        block = b;
        shows = record { place = refl; variable = refl; shows = s.shows };
        grown = e ∙ ap (λ (t : List ℕ). old ++ t) same;
      }

  -- one more state that is shown
  pub kept_more : (m n : BTreeMap ℕ ShownState) (s : State) (k : ShownState) → IsShownBy (Accepted a s) taken k
      → ((i : ℕ) → get nat_cmp n i ≡ cond (is_eq (nat_cmp s.number i)) (Some k) (get nat_cmp m i)) → AreShownBy a taken m → AreShownBy a taken n
  kept_more m n s k shown e old t u f = pick (nat_cmp s.number t.number) (ranks s.number t.number) (sym (e t.number) ∙ f)
    where
      pick : (r : Ordering) → MatchOrdering r (s.number < t.number) (s.number ≡ t.number) (t.number < s.number) → cond (is_eq r) (Some k) (get nat_cmp m t.number) ≡ Some u → IsShownBy (Accepted a t) taken u
      pick Less h g = old t u g
      pick Equal h g = (let w : k ≡ u = cc in subst (IsShownBy (Accepted a t) taken) w (subst (λ (v : State). IsShownBy (Accepted a v) taken k) (same_state s t h) shown))
      pick Greater h g = old t u g

  module _ (B : Reading) (P : ProgramTree) where
    pub states_there : (vs : List SeenVariable) (xs : List BoundVariable) → AllZip (IsBound B P a) vs xs → AllByRecursion (λ (x : BoundVariable). IsState a x.state) xs
    states_there [] [] z = tt
    states_there [] (x ∷ xs) z = absurd z
    states_there (v ∷ vs) [] z = absurd z
    states_there (v ∷ vs) (x ∷ xs) z = ((z.0).belongs, states_there vs xs z.1)

    block_told : (v : SeenVariable) (x : BoundVariable) (b : VariableBlock) → defined_names P ≡ taken → IsBound B P a v x → IsBlockAt a taken x b → IsBlockOf B P v b
    block_told v x b e h k = record {
      place = k.place ∙ h.place;
      variable = k.variable ∙ h.word;
      shows = subst (λ ns. Shows (Gives B P v) ns b.program b.start) (sym e) (shows_along (Accepted a x.state) (Gives B P v) taken b.program b.start h.exact k.shows);
    }

    pub blocks_told : (vs : List SeenVariable) (xs : List BoundVariable) (bs : List VariableBlock) → defined_names P ≡ taken → AllZip (IsBound B P a) vs xs → AllZip (IsBlockAt a taken) xs bs → AllZip (IsBlockOf B P) vs bs
    blocks_told [] [] [] e z w = tt
    blocks_told [] [] (b ∷ bs) e z w = absurd w
    blocks_told [] (x ∷ xs) bs e z w = absurd z
    blocks_told (v ∷ vs) [] bs e z w = absurd z
    blocks_told (v ∷ vs) (x ∷ xs) [] e z w = absurd w
    blocks_told (v ∷ vs) (x ∷ xs) (b ∷ bs) e z w = (block_told v x b e z.0 w.0, blocks_told vs xs bs e z.1 w.1)

-- the text of some blocks is that of all of them, one after the other
some_blocks : (a : Automaton) (taken : List (List ℕ)) (xs : List BoundVariable) (bs : List VariableBlock) → AllZip (IsBlockAt a taken) xs bs → (xs ≡ [] → ⊥) → blocks_text bs ≡ flat_map block_text bs
some_blocks a taken [] [] z some = absurd (some refl)
some_blocks a taken (x ∷ xs) [] z some = absurd z
some_blocks a taken xs (b ∷ bs) z some = refl

module _ (a : Automaton) (B : Reading) (P : ProgramTree) where
  pub all_told : (taken : List (List ℕ)) (vs : List SeenVariable) (xs : List BoundVariable) (text : List ℕ) → defined_names P ≡ taken → AreSeenVariables P vs → AllZip (IsBound B P a) vs xs →
      HasBlocks a taken xs text → (xs ≡ [] → ⊥) → AreBlocks B P text
  all_told taken vs xs text e seen z has some = record {
    variables = vs;
    all = seen;
    blocks = has.blocks;
    each = blocks_told a taken B P vs xs has.blocks e z has.each;
    written = has.written ∙ sym (some_blocks a taken xs has.blocks has.each some);
  }

  -- without any variable
  pub none_told : (vs : List SeenVariable) (xs : List BoundVariable) (text : List ℕ) → xs ≡ [] → AreSeenVariables P vs → AllZip (IsBound B P a) vs xs → text ≡ blocks_text [] → AreBlocks B P text
  none_told [] xs text none seen z e = record { variables = []; all = seen; blocks = []; each = tt; written = e }
  none_told (v ∷ vs) [] text none seen z e = absurd z
  none_told (v ∷ vs) (x ∷ xs) text none seen z e = absurd (cc)

pub shown_text_along : (D D' : Document → Type 0) (taken : List (List ℕ)) (text : List ℕ) → SameSet D D' → IsShownText D taken text → IsShownText D' taken text
shown_text_along D D' taken text same t = record { program = t.program; start = t.start; shows = shows_along D D' taken t.program t.start same t.shows; written = t.written }
