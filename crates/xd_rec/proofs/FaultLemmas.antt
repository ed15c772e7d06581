-- uses as edges, and faults of uses
use Rattle.std.proofs.Common.{◌≡◌, ℕ, zero, suc, ◌<◌, arith, Bool, true, false, cond, List, [], ◌∷◌, ◌++◌, length, get_or, Some, refl, ap, sym, subst, ◌∙◌, inl, inr}
use Rattle.xd_doc.proofs.Options.{some_same}
use Rattle.xd_syntax.proofs.Members.{mem_append, append_left, append_right}
use Rattle.xd_syntax.specs.declared.types.TypeDef.{TypeDef}
use Rattle.xd_syntax.specs.declared.fault.Fault.{Fault}
use Rattle.xd_sound.specs.Graph.{HasEdge, successors}
use Rattle.xd_sound.specs.TypeNames.{first_of}
use Rattle.xd_rec.specs.Faults.{AreOwned, IsGraphOf, AddsUse, faults_of}
use Rattle.xd_rec.specs.declared.uses.TopUse.{TopUse}
use Rattle.xd_sound.proofs.Graphs.{with_edge, edges_more, edges_kept, edge_made}
use Rattle.std.proofs.lemmas.List.{append_assoc, length-set}

pub graph_none : (ds : List TypeDef) (front : Bool) (g : List (List ℕ)) → length g ≡ length ds → ((v w : ℕ) → HasEdge g v w → ⊥) → IsGraphOf ds [] front g
graph_none ds front g c n = record { count = c; edges = λ v w. (λ e. absurd (n v w e), λ u. absurd (u.listed)) }

pub graph_more : (ds : List TypeDef) (us : List TopUse) (u : TopUse) (front : Bool) (g h : List (List ℕ)) → IsGraphOf ds us front g → AddsUse ds u front g h → IsGraphOf ds (us ++ u ∷ []) front h
graph_more ds us u front g h i a = record {
  count = a.count ∙ i.count;
  edges = λ v w. (
    λ e. elim (a.only v w e) [
      | inl n ↦ record { used = u; listed = append_right u us (u ∷ []) (inl refl); owner = n.0; target = n.1; counts = n.2 }
      | inr o ↦ (let r = (i.edges v w).0 o in record { used = r.used; listed = append_left r.used us (u ∷ []) r.listed; owner = r.owner; target = r.target; counts = r.counts })
    ],
    λ r. elim (mem_append r.used us (u ∷ []) r.listed) [
      | inl m ↦ a.kept v w ((i.edges v w).1 (record { used = r.used; listed = m; owner = r.owner; target = r.target; counts = r.counts }))
      | inr (inl q) ↦ subst (λ x. HasEdge h x w) (ap (λ (x : TopUse). x.owner) q ∙ r.owner)
          (a.added w (ap (λ (x : TopUse). first_of ds x.name) q ∙ r.target) (λ k. ap (λ (x : TopUse). x.is_front) q ∙ r.counts k))
      | inr (inr f) ↦ absurd f
    ],
  );
}

pub use_added : (ds : List TypeDef) (u : TopUse) (front : Bool) (g : List (List ℕ)) (t : ℕ) → u.owner < length g → first_of ds u.name ≡ Some t → (front ≡ true → u.is_front ≡ true) →
    AddsUse ds u front g (with_edge g u.owner t)
use_added ds u front g t l e k = record {
  count = length-set g u.owner (successors g u.owner ++ t ∷ []);
  kept = λ v w h. edges_kept g u.owner t v w l h;
  only = λ v w h. elim (edges_more g u.owner t v w l h) [ inl n ↦ inl (sym n.0, e ∙ ap Some (sym n.1), k) | inr o ↦ inr o ];
  added = λ w f j. subst (λ x. HasEdge (with_edge g u.owner t) u.owner x) (some_same t w (sym e ∙ f)) (edge_made g u.owner t l);
}

pub faults_more : (test : TopUse → Bool) (fault : TopUse → Fault) (us : List TopUse) (u : TopUse) → faults_of test fault (us ++ u ∷ []) ≡ faults_of test fault us ++ cond (test u) (fault u ∷ []) []
faults_more test fault [] u = refl
faults_more test fault (x ∷ us) u = go (test x) (faults_more test fault us u)
  where
    go : (b : Bool) → faults_of test fault (us ++ u ∷ []) ≡ faults_of test fault us ++ cond (test u) (fault u ∷ []) [] →
        cond b (fault x ∷ faults_of test fault (us ++ u ∷ [])) (faults_of test fault (us ++ u ∷ [])) ≡ cond b (fault x ∷ faults_of test fault us) (faults_of test fault us) ++ cond (test u) (fault u ∷ []) []
    go true e = ap (λ fs. fault x ∷ fs) e
    go false e = e

-- one more use is looked at, which has the fault or not
pub faults_found : (test : TopUse → Bool) (fault : TopUse → Fault) (us : List TopUse) (u : TopUse) (b : Bool) → test u ≡ b → (old done now : List Fault) →
    done ≡ old ++ faults_of test fault us → now ≡ done ++ cond b (fault u ∷ []) [] → now ≡ old ++ faults_of test fault (us ++ u ∷ [])
faults_found test fault us u b e old done now i n =
    n
    ∙ ap (λ fs. fs ++ cond b (fault u ∷ []) []) i
    ∙ append_assoc old (faults_of test fault us) (cond b (fault u ∷ []) [])
    ∙ ap (λ c. old ++ (faults_of test fault us ++ cond c (fault u ∷ []) [])) (sym e)
    ∙ ap (λ fs. old ++ fs) (sym (faults_more test fault us u))

pub owned_at : (ds : List TypeDef) (us : List TopUse) → AreOwned ds us → (k : ℕ) (d : TopUse) → k < length us → (get_or us k d).owner < length ds
owned_at ds [] o k d l = absurd (omega arith)
owned_at ds (u ∷ us) o zero d l = o u (inl refl)
owned_at ds (u ∷ us) o (suc k) d l = owned_at ds us (λ x m. o x (inr m)) k d (omega arith)
