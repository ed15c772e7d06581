-- Marks of a path.
use Rattle.std.proofs.Common.{◌≡◌, ◌≢◌, ℕ, zero, suc, ◌+◌, ◌<◌, ◌≤◌, arith, Bool, true, false, cond, nat_eq, List, [], ◌∷◌, ◌++◌, replicate, reverse, length, refl, ap, sym, subst, ◌∙◌, get_or-set_other, get_or-set_same}
use Rattle.std.proofs.lemmas.List.{reverse-append, length-reverse}
use Rattle.std.proofs.lemmas.Bool.{eq-eqb, eqb-true}
use Rattle.std.proofs.Math.ListN.{set}
use Rattle.xd_doc.proofs.Numbers.{same_eq}
use Rattle.xd_moves.specs.Codes.{number_at}
use Rattle.xd_proof_check.specs.Paths.{count_of, AreCounts, AreMarks, HasRoom, IsClear, IsPath, KeepsRoom, content_side, rest_side, heads_split, turns_of}
use Rattle.xd_proof_check.specs.declared.path.Path.{Path}
use Rattle.xd_proof_check.specs.declared.path.Turn.{Turn}

pub count_bound : (m : ℕ) (ns : List ℕ) → count_of m ns ≤ length ns
count_bound m [] = omega arith
count_bound m (n ∷ ns) = go (nat_eq n m) (count_bound m ns)
  where
    go : (b : Bool) → count_of m ns ≤ length ns → cond b (count_of m ns + 1) (count_of m ns) ≤ suc (length ns)
    go true h = omega arith
    go false h = omega arith

count_here : (n : ℕ) (ns : List ℕ) → count_of n (n ∷ ns) ≡ count_of n ns + 1
count_here n ns = ap (λ b. cond b (count_of n ns + 1) (count_of n ns)) (same_eq n)

count_other : (m n : ℕ) (ns : List ℕ) → nat_eq n m ≡ false → count_of m (n ∷ ns) ≡ count_of m ns
count_other m n ns e = ap (λ b. cond b (count_of m ns + 1) (count_of m ns)) e

apart : (m n : ℕ) → nat_eq n m ≡ false → m ≢ n
apart m n e q = let k : nat_eq n m ≡ true = eq-eqb n m (sym q) in cc

pub counts_more : (cs ns : List ℕ) (n k : ℕ) → n < length cs → AreCounts cs ns → k ≡ number_at cs n + 1 → AreCounts (set cs n k) (n ∷ ns)
counts_more cs ns n k h a e m = go (nat_eq n m) refl
  where
    go : (b : Bool) → nat_eq n m ≡ b → number_at (set cs n k) m ≡ count_of m (n ∷ ns)
    go true q =
        let s : n ≡ m = eqb-true n m q in
        subst (λ j. number_at (set cs n k) j ≡ count_of j (n ∷ ns)) s (get_or-set_same cs n k 0 h ∙ e ∙ ap (λ j. j + 1) (a n) ∙ sym (count_here n ns))
    go false q = get_or-set_other cs n m k 0 (apart m n q) ∙ a m ∙ sym (count_other m n ns q)

length_content : (contents : List ℕ) (ts : List Turn) → length (content_side contents ts) ≤ length ts
length_content contents [] = omega arith
length_content contents (t ∷ ts) = go t.on_rest (length_content contents ts)
  where
    go : (b : Bool) → length (content_side contents ts) ≤ length ts → length (cond b (content_side contents ts) (number_at contents t.right ∷ content_side contents ts)) ≤ suc (length ts)
    go true h = omega arith
    go false h = omega arith

length_rest : (rests : List ℕ) (ts : List Turn) → length (rest_side rests ts) ≤ length ts
length_rest rests [] = omega arith
length_rest rests (t ∷ ts) = go t.on_rest (length_rest rests ts)
  where
    go : (b : Bool) → length (rest_side rests ts) ≤ length ts → length (cond b (number_at rests t.right ∷ rest_side rests ts) (rest_side rests ts)) ≤ suc (length ts)
    go true h = omega arith
    go false h = omega arith

length_split : (ts : List Turn) → length (heads_split ts) ≡ length ts
length_split [] = refl
length_split (t ∷ ts) = ap suc (length_split ts)

-- a count is no larger than the path is long
pub content_few : (contents cs : List ℕ) (ts : List Turn) (n : ℕ) → AreCounts cs (content_side contents ts) → number_at cs n ≤ length ts
content_few contents cs ts n a = let e = a n in let h = count_bound n (content_side contents ts) in let l = length_content contents ts in omega arith

pub rest_few : (rests rs : List ℕ) (ts : List Turn) (n : ℕ) → AreCounts rs (rest_side rests ts) → number_at rs n ≤ length ts
rest_few rests rs ts n a = let e = a n in let h = count_bound n (rest_side rests ts) in let l = length_rest rests ts in omega arith

pub split_few : (ss : List ℕ) (ts : List Turn) (n : ℕ) → AreCounts ss (heads_split ts) → number_at ss n ≤ length ts
split_few ss ts n a = let e = a n in let h = count_bound n (heads_split ts) in let l = length_split ts in omega arith

pub turns_pushed : (old new : List Turn) (t : Turn) → new ≡ old ++ t ∷ [] → reverse new ≡ t ∷ reverse old
turns_pushed old new t e = ap reverse e ∙ reverse-append old (t ∷ [])

pub turns_long : (p : Path) → length (turns_of p) ≡ length p.turns.items
turns_long p = length-reverse p.turns.items

pub path_clear : (contents rests : List ℕ) (p : Path) → IsPath contents rests p → turns_of p ≡ [] → IsClear p
path_clear contents rests p i e =
    let m = subst (λ ts. AreMarks contents rests ts p.content.items p.rest.items p.split.items) e i.marks in
    record { turns = e; on_content = m.on_content; on_rest = m.on_rest; on_path = m.on_path }

-- ---- room stays

-- counts of nothing, and more zeros after them
pub counts_longer : (cs zs : List ℕ) → AreCounts cs [] → AreCounts zs [] → AreCounts (cs ++ zs) []
counts_longer [] zs a b m = b m
counts_longer (c ∷ cs) zs a b zero = a zero
counts_longer (c ∷ cs) zs a b (suc m) = counts_longer cs zs (λ j. a (suc j)) b m

pub no_counts : (n : ℕ) → AreCounts (replicate n 0) []
no_counts zero m = refl
no_counts (suc n) zero = refl
no_counts (suc n) (suc m) = no_counts n m

-- room for marks stays where their tables are as long as they were
pub room_kept : (contents rests : List ℕ) (p q : Path) → KeepsRoom p q → HasRoom contents rests p → HasRoom contents rests q
room_kept contents rests p q k h = record {
  content = λ i. omega (arith, k.content, h.content i);
  rest = λ i. omega (arith, k.rest, h.rest i);
  split = omega (arith, k.split, h.split);
  same = h.same;
}

pub keeps_then : (p q r : Path) → KeepsRoom p q → KeepsRoom q r → KeepsRoom p r
keeps_then p q r h k = record { content = k.content ∙ h.content; rest = k.rest ∙ h.rest; split = k.split ∙ h.split }
