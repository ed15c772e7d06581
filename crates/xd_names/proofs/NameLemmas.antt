-- Names that are seen in turn, and what a program's names are.
use Rattle.std.proofs.Common.{◌≡◌, ℕ, ◌+◌, ◌-◌, ◌<◌, ◌≤◌, arith, Bool, true, false, not, cond, ◌||◌, List, [], ◌∷◌, ◌++◌, map, length, drop, get_or, Option, Some, None, refl, ap, sym, ◌∙◌, append_assoc}
use Rattle.std.specs.Option.{option_map}
use Rattle.std.specs.Str.{bytes_eq}
use Rattle.std.proofs.lemmas.List.{length-map}
use Rattle.xd_base.specs.declared.Place.{Place}
use Rattle.xd_syntax.specs.Words.{has_word}
use Rattle.xd_syntax.specs.Table.{Row}
use Rattle.xd_syntax.specs.Program.{TypeDefinition, FunctionDefinition, function_of}
use Rattle.xd_syntax.specs.FunctionRow.{FunctionRow}
use Rattle.xd_syntax.specs.Kept.{ProgramTable, type_definition, parameter, function_definition}
use Rattle.xd_syntax.specs.NameFaults.{Spot, fault_if, duplicates, call_faults, unknown_types}
use Rattle.xd_syntax.specs.Placed.{PlacedTree, Empty_at, Text_at, Words_at, Name_at, Elem_at, Seq_at, Alt_at, Star_at, Plus_at, Opt_at, Val_at}
use Rattle.xd_syntax.specs.declared.types.TypeDef.{TypeDef}
use Rattle.xd_syntax.specs.declared.fault.Fault.{Fault}
use Rattle.xd_syntax.specs.declared.fault.FaultKind.TheVariants.{DuplicateName, UnknownType}
use Rattle.xd_names.specs.Knows.{arity_of, wanted_faults}
use Rattle.xd_names.proofs.WordLemmas.{drop_item}
use Rattle.xd_names.proofs.LinearLemmas.{Same}

pub duplicates-same : (k l : List (List ℕ)) (ss : List Spot) → Same k l → duplicates k ss ≡ duplicates l ss
duplicates-same k l [] h = refl
duplicates-same k l (s ∷ ss) h =
    let a = duplicates-same (s.word ∷ k) (s.word ∷ l) ss (λ w. ap (λ b. bytes_eq s.word w || b) (h w)) in
    let b : has_word k s.word ≡ has_word l s.word = h s.word in
    cc

-- one name more is seen
pub duplicates_more : (fs : List Fault) (k l : List (List ℕ)) (s : Spot) (ss : List Spot) → ((w : List ℕ) → has_word l w ≡ (bytes_eq s.word w || has_word k w)) →
    (fs ++ fault_if (has_word k s.word) s.place (DuplicateName s.word)) ++ duplicates l ss ≡ fs ++ duplicates k (s ∷ ss)
duplicates_more fs k l s ss h =
    append_assoc fs (fault_if (has_word k s.word) s.place (DuplicateName s.word)) (duplicates l ss)
    ∙ ap (λ gs. fs ++ (fault_if (has_word k s.word) s.place (DuplicateName s.word) ++ gs)) (duplicates-same l (s.word ∷ k) ss h)

-- the item of a loop that goes back
pub drop_back : {X : Type 0} (xs : List X) (n : ℕ) (x : X) → 0 < n → n ≤ length xs → x ≡ get_or xs (n - 1) x → drop (n - 1) xs ≡ x ∷ drop n xs
drop_back xs n x h k e =
    let l : n - 1 < length xs = omega arith in
    let m : n - 1 + 1 ≡ n = omega arith in
    drop_item xs (n - 1) x l e ∙ ap (λ j. x ∷ drop j xs) m

pub names-types : (types : List Row) (defs : List TypeDef) → map (λ (t : TypeDef). t.name) defs ≡ map (λ (t : TypeDefinition). t.name) (map (type_definition types) defs)
names-types types [] = refl
names-types types (t ∷ ts) = ap (λ ws. t.name ∷ ws) (names-types types ts)

arity_at : (p : ProgramTable) (f : FunctionRow) (o : Option ℕ) (g : Option FunctionDefinition) → o ≡ option_map (λ (g : FunctionDefinition). length g.parameters) g → (b : Bool) →
    cond b (Some (length f.params)) o ≡ option_map (λ (g : FunctionDefinition). length g.parameters) (cond b (Some (function_definition p f)) g)
arity_at p f o g h true = ap Some (sym (length-map f.params (parameter p.types)))
arity_at p f o g h false = h

pub arity_known : (p : ProgramTable) (fs : List FunctionRow) (w : List ℕ) →
    arity_of fs w ≡ option_map (λ (g : FunctionDefinition). length g.parameters) (function_of (map (function_definition p) fs) w)
arity_known p [] w = refl
arity_known p (f ∷ fs) w = arity_at p f _ _ (arity_known p fs w) (bytes_eq f.name w)

pub call_wants : (g : Option FunctionDefinition) (p : Place) (f : List ℕ) (given : ℕ) →
    wanted_faults (option_map (λ (g : FunctionDefinition). length g.parameters) g) p f given ≡ call_faults g p f given
call_wants None p f given = refl
call_wants (Some g) p f given = refl

-- what is looked up in the lists alone counts
pub unknown-same : (k l : List (List ℕ)) (T : PlacedTree) → Same k l → unknown_types k T ≡ unknown_types l T
unknown-same k l (Empty_at p) h = refl
unknown-same k l (Text_at p) h = refl
unknown-same k l (Words_at p ts) h = refl
unknown-same k l (Name_at p x) h = ap (λ b. fault_if (not b) p (UnknownType x)) (h x)
unknown-same k l (Elem_at p c T) h = unknown-same k l T h
unknown-same k l (Seq_at p T U) h = let a = unknown-same k l T h in let b = unknown-same k l U h in cc
unknown-same k l (Alt_at p T U) h = let a = unknown-same k l T h in let b = unknown-same k l U h in cc
unknown-same k l (Star_at p T) h = unknown-same k l T h
unknown-same k l (Plus_at p T) h = unknown-same k l T h
unknown-same k l (Opt_at p T) h = unknown-same k l T h
unknown-same k l (Val_at p x q T) h = unknown-same k l T h
