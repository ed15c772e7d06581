-- The definitions of a program that is kept in tables are merged.
use Rattle.std.proofs.Common.{◌≡◌, ℕ, ◌+◌, ◌<◌, arith, true, false, ◌||◌, List, [], ◌∷◌, ◌++◌, map, length, length-append, refl, ap, sym, subst, ◌∙◌, inl, inr, append-nil, append_assoc}
use Rattle.std.specs.List.{AllByRecursion}
use Rattle.xd_doc.proofs.Numbers.{less_cases}
use Rattle.xd_syntax.specs.Tree.{Tree, Empty, Text, Words, Name, Elem, Seq, Alt, Star, Plus, Opt, Val, seq_of, is_empty}
use Rattle.xd_syntax.specs.TreeForms.{alt_of, is_seq}
use Rattle.xd_syntax.specs.Table.{Row, Form, empty_form, text_form, words_form, name_form, elem_form, seq_form, alt_form, star_form, plus_form, opt_form, val_form, form_tree, tree_at, IsSeqPart, IsAltPart, CanFollow, AreBuiltAfter, AreBuilt}
use Rattle.xd_syntax.specs.Placed.{unplaced}
use Rattle.xd_syntax.specs.Program.{TypeDefinition, names_of}
use Rattle.xd_syntax.specs.Kept.{ProgramTable, type_definition, program_tree}
use Rattle.xd_syntax.specs.declared.types.TypeDef.{TypeDef}
use Rattle.xd_syntax.proofs.Trees.{tree_kept, tree_new}
use Rattle.xd_syntax.proofs.PlacedTrees.{unplaced_at}
use Rattle.xd_continuations.specs.Continuation.{is_piece, IsMerged, AreMerged}

pub part_piece : (T : Tree) → (is_seq T || is_empty T) ≡ false → (is_piece T ≡ true) × (is_empty T ≡ false)
part_piece Empty e = cc
part_piece Text e = (refl, refl)
part_piece (Words w) e = (refl, refl)
part_piece (Name x) e = (refl, refl)
part_piece (Elem c T) e = (refl, refl)
part_piece (Seq T U) e = cc
part_piece (Alt T U) e = (refl, refl)
part_piece (Star T) e = (refl, refl)
part_piece (Plus T) e = (refl, refl)
part_piece (Opt T) e = (refl, refl)
part_piece (Val x T) e = (refl, refl)

module _ (rows : List Row) (merged : (i : ℕ) → i < length rows → IsMerged (tree_at rows i)) where
  seq_merged : (i : ℕ) (is : List ℕ) → AllByRecursion (IsSeqPart rows) (i ∷ is) → IsMerged (seq_of (map (tree_at rows) (i ∷ is))) × (is_empty (seq_of (map (tree_at rows) (i ∷ is))) ≡ false)
  seq_merged i [] a = (merged i (a.0).0, (part_piece (tree_at rows i) (a.0).1).1)
  seq_merged i (j ∷ js) a =
      let r = seq_merged j js a.1 in
      (((part_piece (tree_at rows i) (a.0).1).0, r.1, merged i (a.0).0, r.0), refl)

  alt_merged : (is : List ℕ) → AllByRecursion (IsAltPart rows) is → IsMerged (alt_of (map (tree_at rows) is))
  alt_merged [] a = tt
  alt_merged (i ∷ []) a = merged i (a.0).0
  alt_merged (i ∷ (j ∷ js)) a = (merged i (a.0).0, alt_merged (j ∷ js) a.1)

  form_merged : (f : Form) → CanFollow false rows f → IsMerged (form_tree (tree_at rows) f)
  form_merged empty_form c = tt
  form_merged text_form c = tt
  form_merged (words_form w) c = tt
  form_merged (name_form w) c = tt
  form_merged (elem_form d i) c = merged i c
  form_merged (seq_form []) c = tt
  form_merged (seq_form (i ∷ is)) c = (seq_merged i is c.1).0
  form_merged (alt_form is) c = alt_merged is c.1
  form_merged (star_form i) c = merged i c
  form_merged (plus_form i) c = merged i c
  form_merged (opt_form i) c = merged i c
  form_merged (val_form x p i) c = let e : false ≡ true = c.0 in cc

row_merged : (older : List Row) (r : Row) → ((i : ℕ) → i < length older → IsMerged (tree_at older i)) → CanFollow false older r.form →
    (i : ℕ) → i < length (older ++ r ∷ []) → IsMerged (tree_at (older ++ r ∷ []) i)
row_merged older r m c i h =
    elim (less_cases i (length older) (omega (arith, length-append older (r ∷ [])))) [
      | inl l ↦ subst IsMerged (sym (tree_kept older (r ∷ []) i l)) (m i l)
      | inr e ↦ subst IsMerged (sym (ap (tree_at (older ++ r ∷ [])) e ∙ tree_new older r)) (form_merged older m r.form c)
    ]

rows_merged : (older rs : List Row) → ((i : ℕ) → i < length older → IsMerged (tree_at older i)) → AreBuiltAfter false older rs →
    (i : ℕ) → i < length (older ++ rs) → IsMerged (tree_at (older ++ rs) i)
rows_merged older [] m a i h = subst (λ rs. IsMerged (tree_at rs i)) (sym (append-nil older)) (m i (subst (λ rs. i < length rs) (append-nil older) h))
rows_merged older (r ∷ rs) m a i h =
    subst (λ qs. IsMerged (tree_at qs i)) (append_assoc older (r ∷ []) rs)
    (rows_merged (older ++ r ∷ []) rs (row_merged older r m a.0) a.1 i (subst (λ qs. i < length qs) (sym (append_assoc older (r ∷ []) rs)) h))

-- the tree of each node is merged
pub tree_merged : (rows : List Row) → AreBuilt false rows → (i : ℕ) → i < length rows → IsMerged (tree_at rows i)
tree_merged rows a i h = rows_merged [] rows (λ j l. absurd (omega arith)) a i h

definitions_merged : (rows : List Row) → AreBuilt false rows → (ds : List TypeDef) → AllByRecursion (λ (d : TypeDef). d.body.at < length rows) ds →
    AreMerged (map (λ (t : TypeDefinition). (t.name, unplaced t.body)) (map (type_definition rows) ds))
definitions_merged rows a [] h = tt
definitions_merged rows a (d ∷ ds) h =
    (subst IsMerged (sym (unplaced_at rows d.body.at)) (tree_merged rows a d.body.at h.0), definitions_merged rows a ds h.1)

-- so are the definitions of a program
pub program_merged : (p : ProgramTable) → AreBuilt false p.types → AllByRecursion (λ (d : TypeDef). d.body.at < length p.types) p.type_defs → AreMerged (names_of (program_tree p))
program_merged p a h = ((tt, tt), definitions_merged p.types a p.type_defs h)
