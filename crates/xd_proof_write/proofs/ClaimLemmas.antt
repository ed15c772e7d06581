-- Rights after the first one.
use Rattle.std.proofs.Common.{◌≡◌, ◌<◌, arith, List, [], ◌∷◌, ◌++◌, map, length, refl, ap, sym, subst, ◌∙◌, append_assoc, append-nil}
use Rattle.std.specs.List.{AllByRecursion, AllZip}
use Rattle.std.specs.Prelude.{codes, flat_map}
use Rattle.xd_syntax.specs.Tree.{Tree}
use Rattle.xd_syntax.specs.TypeText.{type_text}
use Rattle.xd_syntax.specs.Table.{Row}
use Rattle.xd_syntax.specs.Types.{BelongsTo, tree}
use Rattle.xd_syntax.specs.SoundTables.{IsTypeAt}
use Rattle.xd_meaning.specs.Violation.{Lined}
use Rattle.xd_proof.specs.Goals.{AreGoalsAt}
use Rattle.xd_proof.specs.declared.proof.ProofGoal.{ProofGoal}
use Rattle.xd_syntax.specs.declared.types.TypeId.{TypeId}
use Rattle.xd_proof_write.specs.ClaimText.{claim_text, rights_text}

pub rights_joined : (rows : List Row) (T : Tree) (ids : List TypeId) → type_text T ++ flat_map (λ id. codes " or " ++ type_text (tree rows id)) ids ≡ rights_text (T ∷ map (tree rows) ids)
rights_joined rows T [] = append-nil (type_text T)
rights_joined rows T (id ∷ ids) =
    ap (λ r. type_text T ++ r)
    (append_assoc (codes " or ") (type_text (tree rows id)) (flat_map (λ id. codes " or " ++ type_text (tree rows id)) ids)
    ∙ ap (λ r. codes " or " ++ r) (rights_joined rows (tree rows id) ids))

-- what the first goal's types are
module _ (rows : List Row) (gs : List ProofGoal) (left : TypeId) (rights : List TypeId)
    (l : (goal : ProofGoal) (others : List ProofGoal) → gs ≡ goal ∷ others → left ≡ goal.left)
    (r : (goal : ProofGoal) (others : List ProofGoal) → gs ≡ goal ∷ others → rights ≡ (goal.rights).items) where
  read_rights : (ids : List TypeId) (Ts : List Tree) → AllZip (λ id T. IsTypeAt rows T id) ids Ts → AllByRecursion (BelongsTo rows) ids × (map (tree rows) ids ≡ Ts)
  read_rights [] [] a = (tt, refl)
  read_rights [] (T ∷ Ts) a = absurd a
  read_rights (id ∷ ids) [] a = absurd a
  read_rights (id ∷ ids) (T ∷ Ts) a =
      let q = read_rights ids Ts a.1 in
      (((a.0).belongs, q.0), ap (λ U. U ∷ map (tree rows) ids) (a.0).same ∙ ap (λ Us. T ∷ Us) q.1)

  pub claim_belongs : (ls : List Lined) → AreGoalsAt rows gs ls → 0 < length gs → BelongsTo rows left × AllByRecursion (BelongsTo rows) rights
  claim_belongs ls a h = by gs refl ls a
    where
      by : (ms : List ProofGoal) → gs ≡ ms → (ls : List Lined) → AreGoalsAt rows gs ls → BelongsTo rows left × AllByRecursion (BelongsTo rows) rights
      by [] e ls a = absurd (let z : length gs ≡ 0 = ap length e in omega (arith, z, h))
      by (m ∷ ms) e [] a = absurd (subst (λ xs. AreGoalsAt rows xs []) e a)
      by (m ∷ ms) e (k ∷ ks) a =
          let b = (subst (λ xs. AreGoalsAt rows xs (k ∷ ks)) e a).0 in
          (subst (BelongsTo rows) (sym (l m ms e)) (b.goal).left.belongs, subst (AllByRecursion (BelongsTo rows)) (sym (r m ms e)) (read_rights (m.rights).items (k.goal).rights (b.goal).rights).0)

  pub claim_read : (k : Lined) (ks : List Lined) → AreGoalsAt rows gs (k ∷ ks) →
      codes "accepted: " ++ (type_text (tree rows left) ++ (codes " <: " ++ rights_text (map (tree rows) rights))) ≡ claim_text k.goal
  claim_read k ks a = by gs refl
    where
      by : (ms : List ProofGoal) → gs ≡ ms → codes "accepted: " ++ (type_text (tree rows left) ++ (codes " <: " ++ rights_text (map (tree rows) rights))) ≡ claim_text k.goal
      by [] e = absurd (subst (λ xs. AreGoalsAt rows xs (k ∷ ks)) e a)
      by (m ∷ ms) e =
          let b = (subst (λ xs. AreGoalsAt rows xs (k ∷ ks)) e a).0 in
          ap (λ T. codes "accepted: " ++ (type_text T ++ (codes " <: " ++ rights_text (map (tree rows) rights)))) (ap (tree rows) (l m ms e) ∙ (b.goal).left.same)
          ∙ ap (λ Us. codes "accepted: " ++ (type_text (k.goal).left ++ (codes " <: " ++ rights_text Us))) (ap (map (tree rows)) (r m ms e) ∙ (read_rights (m.rights).items (k.goal).rights (b.goal).rights).1)
