-- What is written of a proof as it is kept is the second text of its goals.
use Rattle.std.proofs.Common.{◌≡◌, ℕ, true, false, List, [], ◌∷◌, ◌++◌, map, length, refl, ap, sym, subst, ◌∙◌}
use Rattle.std.specs.Prelude.{codes, flat_map}
use Rattle.std.specs.List.{AllByRecursion, AllZip}
use Rattle.std.specs.Str.{bytes_eq}
use Rattle.std.proofs.lemmas.List.{map-append, length-map}
use Rattle.std.proofs.lemmas.Slice.Eq.{bytes_eq-Decides}
use Rattle.xd_doc.proofs.Bools.{same_tests}
use Rattle.xd_doc.proofs.Lists.{all_append, word_itself, zip_long}
use Rattle.xd_syntax.specs.Tree.{Tree}
use Rattle.xd_syntax.specs.TypeText.{type_text}
use Rattle.xd_syntax.specs.Table.{Row}
use Rattle.xd_syntax.specs.ProperTables.{IsTable}
use Rattle.xd_syntax.specs.SoundTables.{IsTypeAt}
use Rattle.xd_syntax.specs.declared.types.TypeId.{TypeId}
use Rattle.xd_meaning.specs.Violation.{Lined, goals_of}
use Rattle.xd_laws.specs.SameTree.{same_tree}
use Rattle.xd_laws.proofs.SameTrees.{same_tree-is, tree_same}
use Rattle.xd_laws.proofs.Unfoldings.{same_word_eq}
use Rattle.xd_type_laws.proofs.Tables.{merged_node, proper_node, one_node}
use Rattle.xd_proof.specs.Parts.{end_part}
use Rattle.xd_proof.specs.Form.{types_from, blocks_from, goal_list}
use Rattle.xd_proof.specs.Goals.{AreGoalsAt}
use Rattle.xd_proof.specs.declared.proof.ProofGoal.{ProofGoal}
use Rattle.xd_proof_write.specs.SecondText.{each_once, number_among, types_of, distinct_types, numbered_block, second_text_of}
use Rattle.xd_proof_write.specs.Laws.{IsTableType}
use Rattle.xd_proof_write.specs.Written.{number_line, type_lines, text_at, goal_texts, with_texts, goals_lines, proof_lines}
use Rattle.xd_proof_write.proofs.OnceLemmas.{once_folded, once_mapped, all_once, number_mapped}
use Rattle.xd_proof_write.proofs.LineLemmas.{lines, lines-append, behind_number, types_written, goals_written}

-- texts taken in turn are each there once
pub texts_once : (ts : List (List ℕ)) → with_texts [] ts ≡ each_once bytes_eq ts
texts_once ts = once_folded bytes_eq same_word_eq word_itself ts []

module _ (rows : List Row) where
  -- the type of some node
  abbrev Stands : Tree → Type 0
  Stands T = (id : TypeId) × IsTypeAt rows T id

  rights_read : (ids : List TypeId) (Ts : List Tree) → AllZip (λ id T. IsTypeAt rows T id) ids Ts → (map (text_at rows) ids ≡ map type_text Ts) × AllByRecursion Stands Ts
  rights_read [] [] a = (refl, tt)
  rights_read [] (T ∷ Ts) a = absurd a
  rights_read (id ∷ ids) [] a = absurd a
  rights_read (id ∷ ids) (T ∷ Ts) a =
      let r = rights_read ids Ts a.1 in
      (ap (λ t. type_text t ∷ map (text_at rows) ids) (a.0).same ∙ ap (λ ts. type_text T ∷ ts) r.0, ((id, a.0), r.1))

  goals_read : (ms : List ProofGoal) (ls : List Lined) → AreGoalsAt rows ms ls → (flat_map (goal_texts rows) ms ≡ map type_text (types_of (goals_of ls))) × AllByRecursion Stands (types_of (goals_of ls))
  goals_read [] [] a = (refl, tt)
  goals_read [] (l ∷ ls) a = absurd a
  goals_read (m ∷ ms) [] a = absurd a
  goals_read (m ∷ ms) (l ∷ ls) a =
      let i = (a.0).goal in
      let r = rights_read (m.rights).items (l.goal).rights i.rights in
      let q = goals_read ms ls a.1 in
      let e : goal_texts rows m ≡ map type_text ((l.goal).left ∷ (l.goal).rights) =
      ap (λ t. type_text t ∷ map (text_at rows) (m.rights).items) (i.left).same ∙ ap (λ ts. type_text (l.goal).left ∷ ts) r.0 in (
        ap (λ ts. ts ++ flat_map (goal_texts rows) ms) e ∙ ap (λ ts. map type_text ((l.goal).left ∷ (l.goal).rights) ++ ts) q.0
            ∙ sym (map-append type_text ((l.goal).left ∷ (l.goal).rights) (types_of (goals_of ls))),
        all_append Stands ((l.goal).left ∷ (l.goal).rights) (types_of (goals_of ls)) (((m.left, i.left), r.1)) q.1,
      )

  module _ (t : IsTable false rows) where
    all_good : (Ts : List Tree) → AllByRecursion Stands Ts → AllByRecursion IsTableType Ts
    all_good [] a = tt
    all_good (T ∷ Ts) a =
        let i = (a.0).1 in
        (subst IsTableType i.same (record { merged = merged_node rows t ((a.0).0).at i.belongs; proper = proper_node rows t ((a.0).0).at i.belongs }), all_good Ts a.1)

    pub table_types : (ms : List ProofGoal) (ls : List Lined) → AreGoalsAt rows ms ls → AllByRecursion IsTableType (types_of (goals_of ls))
    table_types ms ls a = all_good (types_of (goals_of ls)) (goals_read ms ls a).1

    agree : (T U : Tree) → Stands T → Stands U → same_tree T U ≡ bytes_eq (type_text T) (type_text U)
    agree T U p q = same_tests (same_tree T U) (bytes_eq (type_text T) (type_text U)) there back
      where
        there : same_tree T U ≡ true → bytes_eq (type_text T) (type_text U) ≡ true
        there h = (bytes_eq-Decides (type_text T) (type_text U)).1 (ap type_text (same_tree-is T U h))

        back : bytes_eq (type_text T) (type_text U) ≡ true → same_tree T U ≡ true
        back h =
            let a = p.1 in
            let b = q.1 in
            let e : T ≡ U = sym a.same ∙ one_node rows t (p.0).at (q.0).at a.belongs b.belongs (ap type_text a.same ∙ same_word_eq (type_text T) (type_text U) h ∙ ap type_text (sym b.same)) ∙ b.same in
            subst (λ V. same_tree T V ≡ true) e (tree_same T)

    -- the types of the goals, by their texts
    module _ (ms : List ProofGoal) (ls : List Lined) (a : AreGoalsAt rows ms ls) where
      texts_are : with_texts [] (flat_map (goal_texts rows) ms) ≡ map type_text (distinct_types (goals_of ls))
      texts_are =
          let r = goals_read ms ls a in
          ap (with_texts []) r.0 ∙ texts_once (map type_text (types_of (goals_of ls))) ∙ sym (once_mapped type_text same_tree bytes_eq Stands agree (types_of (goals_of ls)) r.1)

      numbers_are : (id : TypeId) (T : Tree) → IsTypeAt rows T id →
          number_among bytes_eq (map type_text (distinct_types (goals_of ls))) (text_at rows id) ≡ number_among same_tree (distinct_types (goals_of ls)) T
      numbers_are id T i =
          let r = goals_read ms ls a in
          ap (λ V. number_among bytes_eq (map type_text (distinct_types (goals_of ls))) (type_text V)) i.same
          ∙ sym (number_mapped type_text same_tree bytes_eq Stands agree T (id, i) (distinct_types (goals_of ls)) (all_once type_text same_tree bytes_eq Stands agree (types_of (goals_of ls)) r.1))

      pub second_written : proof_lines rows ms ≡ second_text_of (goals_of ls)
      unfolding second_text_of
      second_written =
          let Ts = distinct_types (goals_of ls) in
          let bs = map (numbered_block Ts) (goals_of ls) in
          let many : length ms ≡ length bs = zip_long _ ms ls a ∙ sym (length-map ls (λ (l : Lined). l.goal)) ∙ sym (length-map (goals_of ls) (numbered_block Ts)) in
          let goals : goals_lines rows (number_among bytes_eq (map type_text Ts)) 1 ms ++ codes "end\n" ≡ lines (blocks_from 1 bs ++ end_part ∷ []) =
          ap (λ r. r ++ codes "end\n") (goals_written rows (number_among bytes_eq (map type_text Ts)) (number_among same_tree Ts) numbers_are 1 ms ls a)
          ∙ sym (lines-append (blocks_from 1 bs) (end_part ∷ [])) in
          let list : number_line (codes "goals") (length ms) ++ (goals_lines rows (number_among bytes_eq (map type_text Ts)) 1 ms ++ codes "end\n") ≡ lines (goal_list bs) =
          ap (λ n. number_line (codes "goals") n ++ (goals_lines rows (number_among bytes_eq (map type_text Ts)) 1 ms ++ codes "end\n")) many
          ∙ ap (λ r. number_line (codes "goals") (length bs) ++ r) goals
          ∙ behind_number (codes "goals") (length bs) (lines (blocks_from 1 bs ++ end_part ∷ [])) in
          ap (λ texts. codes "xduce-proof 2\n" ++ (number_line (codes "types") (length texts) ++ (type_lines 1 texts ++ (number_line (codes "goals") (length ms) ++ (goals_lines rows (number_among bytes_eq texts) 1 ms ++ codes "end\n"))))) texts_are
          ∙ ap (λ n. codes "xduce-proof 2\n" ++ (number_line (codes "types") n ++ (type_lines 1 (map type_text Ts) ++ (number_line (codes "goals") (length ms) ++ (goals_lines rows (number_among bytes_eq (map type_text Ts)) 1 ms ++ codes "end\n"))))) (length-map Ts type_text)
          ∙ ap (λ r. codes "xduce-proof 2\n" ++ (number_line (codes "types") (length Ts) ++ (type_lines 1 (map type_text Ts) ++ r))) list
          ∙ ap (λ r. codes "xduce-proof 2\n" ++ (number_line (codes "types") (length Ts) ++ (r ++ lines (goal_list bs)))) (types_written 1 Ts)
          ∙ ap (λ r. codes "xduce-proof 2\n" ++ (number_line (codes "types") (length Ts) ++ r)) (sym (lines-append (types_from 1 Ts) (goal_list bs)))
          ∙ ap (λ r. codes "xduce-proof 2\n" ++ r) (behind_number (codes "types") (length Ts) (lines (types_from 1 Ts ++ goal_list bs)))
