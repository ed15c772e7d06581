-- Types that are alike, part by part.
use Rattle.std.proofs.Common.{◌<◌, arith, length, refl, List, [], ◌∷◌, map, Option}
use Rattle.std.proofs.lemmas.Bool.{and_from}
use Rattle.xd_doc.specs.Document.{empty, text, element}
use Rattle.xd_doc.specs.Classes.{LabelClass}
use Rattle.xd_doc.proofs.Logic.{sum_map}
use Rattle.xd_syntax.specs.Words.{any_word}
use Rattle.xd_syntax.specs.Tree.{Tree, Elem, Seq, Alt, Star, Plus, Opt, seq_of}
use Rattle.xd_syntax.specs.TreeForms.{alt_of}
use Rattle.xd_syntax.specs.Table.{Row, tree_at}
use Rattle.xd_syntax.specs.Types.{type_numbers}
use Rattle.xd_syntax.specs.declared.types.TypeId.{TypeId}
use Rattle.xd_meaning.specs.FitsWithin.{Repeats}
use Rattle.xd_same_types.specs.Same.{Meaning, FitsAs, HasTops, tops_only}
use Rattle.xd_same_types.proofs.Splits.{split_map, rep_map}
use Rattle.xd_named_parts.specs.Copies.{Alike, AllCopied, AreBare, AreCopies}

pub alike_elem : (N M : Meaning) (k : LabelClass) (T U : Tree) → Alike N M T U → Alike N M (Elem k T) (Elem k U)
alike_elem N M k T U h empty = (λ f. absurd f, λ f. absurd f)
alike_elem N M k T U h (text s r) = (λ f. absurd f, λ f. absurd f)
alike_elem N M k T U h (element l c r) = (λ f. (f.0, f.1, (h c).0 f.2), λ f. (f.0, f.1, (h c).1 f.2))

pub alike_seq : (N M : Meaning) (T U V W : Tree) → Alike N M T V → Alike N M U W → Alike N M (Seq T U) (Seq V W)
alike_seq N M T U V W h i d = (
  split_map (FitsAs N T) (FitsAs N U) (FitsAs M V) (FitsAs M W) (λ e. (h e).0) (λ e. (i e).0) d,
  split_map (FitsAs M V) (FitsAs M W) (FitsAs N T) (FitsAs N U) (λ e. (h e).1) (λ e. (i e).1) d,
)

pub alike_alt : (N M : Meaning) (T U V W : Tree) → Alike N M T V → Alike N M U W → Alike N M (Alt T U) (Alt V W)
alike_alt N M T U V W h i d = (sum_map (h d).0 (i d).0, sum_map (h d).1 (i d).1)

pub alike_star : (N M : Meaning) (T U : Tree) → Alike N M T U → Alike N M (Star T) (Star U)
alike_star N M T U h d = (rep_map (FitsAs N T) (FitsAs M U) (λ e. (h e).0) d, rep_map (FitsAs M U) (FitsAs N T) (λ e. (h e).1) d)

pub alike_plus : (N M : Meaning) (T U : Tree) → Alike N M T U → Alike N M (Plus T) (Plus U)
alike_plus N M T U h d = (
  split_map (FitsAs N T) (Repeats (FitsAs N T)) (FitsAs M U) (Repeats (FitsAs M U)) (λ e. (h e).0) (λ e. (alike_star N M T U h e).0) d,
  split_map (FitsAs M U) (Repeats (FitsAs M U)) (FitsAs N T) (Repeats (FitsAs N T)) (λ e. (h e).1) (λ e. (alike_star N M T U h e).1) d,
)

pub alike_opt : (N M : Meaning) (T U : Tree) → Alike N M T U → Alike N M (Opt T) (Opt U)
alike_opt N M T U h d = (sum_map (λ e. e) (h d).0, sum_map (λ e. e) (h d).1)

-- of lists, part by part
pub alike_seqs : (N M : Meaning) (old mid : List Row) (table : List (Option TypeId)) → AreCopies N M old mid table → (ps qs : List TypeId) → AllCopied table ps qs →
    Alike N M (seq_of (map (tree_at old) (type_numbers ps))) (seq_of (map (tree_at mid) (type_numbers qs)))
alike_seqs N M old mid table h [] [] c d = (λ f. f, λ f. f)
alike_seqs N M old mid table h [] (q ∷ qs) c d = absurd c
alike_seqs N M old mid table h (p ∷ ps) [] c d = absurd c
alike_seqs N M old mid table h (p ∷ []) (q ∷ []) c d = h p.at q c.0 d
alike_seqs N M old mid table h (p ∷ []) (q ∷ (r ∷ qs)) c d = absurd c.1
alike_seqs N M old mid table h (p ∷ (o ∷ ps)) (q ∷ []) c d = absurd c.1
alike_seqs N M old mid table h (p ∷ (o ∷ ps)) (q ∷ (r ∷ qs)) c d =
    alike_seq N M (tree_at old p.at) (seq_of (map (tree_at old) (type_numbers (o ∷ ps)))) (tree_at mid q.at) (seq_of (map (tree_at mid) (type_numbers (r ∷ qs))))
    (h p.at q c.0) (alike_seqs N M old mid table h (o ∷ ps) (r ∷ qs) c.1) d

pub alike_alts : (N M : Meaning) (old mid : List Row) (table : List (Option TypeId)) → AreCopies N M old mid table → (ps qs : List TypeId) → 0 < length ps → AllCopied table ps qs →
    Alike N M (alt_of (map (tree_at old) (type_numbers ps))) (alt_of (map (tree_at mid) (type_numbers qs)))
alike_alts N M old mid table h [] qs l c d = absurd (omega arith)
alike_alts N M old mid table h (p ∷ ps) [] l c d = absurd c
alike_alts N M old mid table h (p ∷ []) (q ∷ []) l c d = h p.at q c.0 d
alike_alts N M old mid table h (p ∷ []) (q ∷ (r ∷ qs)) l c d = absurd c.1
alike_alts N M old mid table h (p ∷ (o ∷ ps)) (q ∷ []) l c d = absurd c.1
alike_alts N M old mid table h (p ∷ (o ∷ ps)) (q ∷ (r ∷ qs)) l c d =
    alike_alt N M (tree_at old p.at) (alt_of (map (tree_at old) (type_numbers (o ∷ ps)))) (tree_at mid q.at) (alt_of (map (tree_at mid) (type_numbers (r ∷ qs))))
    (h p.at q c.0) (alike_alts N M old mid table h (o ∷ ps) (r ∷ qs) (omega arith) c.1) d

-- outside of labels parts that use no name but `Any` use none together
pub bare_seqs : (mid : List Row) (table : List (Option TypeId)) → AreBare mid table → (ps qs : List TypeId) → AllCopied table ps qs → HasTops (any_word ∷ []) (seq_of (map (tree_at mid) (type_numbers qs)))
bare_seqs mid table h [] [] c = refl
bare_seqs mid table h [] (q ∷ qs) c = absurd c
bare_seqs mid table h (p ∷ ps) [] c = absurd c
bare_seqs mid table h (p ∷ []) (q ∷ []) c = h p.at q c.0
bare_seqs mid table h (p ∷ []) (q ∷ (r ∷ qs)) c = absurd c.1
bare_seqs mid table h (p ∷ (o ∷ ps)) (q ∷ []) c = absurd c.1
bare_seqs mid table h (p ∷ (o ∷ ps)) (q ∷ (r ∷ qs)) c =
    and_from (tops_only (any_word ∷ []) (tree_at mid q.at)) (tops_only (any_word ∷ []) (seq_of (map (tree_at mid) (type_numbers (r ∷ qs))))) (h p.at q c.0) (bare_seqs mid table h (o ∷ ps) (r ∷ qs) c.1)

pub bare_alts : (mid : List Row) (table : List (Option TypeId)) → AreBare mid table → (ps qs : List TypeId) → 0 < length qs → AllCopied table ps qs → HasTops (any_word ∷ []) (alt_of (map (tree_at mid) (type_numbers qs)))
bare_alts mid table h ps [] l c = absurd (omega arith)
bare_alts mid table h [] (q ∷ qs) l c = absurd c
bare_alts mid table h (p ∷ []) (q ∷ []) l c = h p.at q c.0
bare_alts mid table h (p ∷ []) (q ∷ (r ∷ qs)) l c = absurd c.1
bare_alts mid table h (p ∷ (o ∷ ps)) (q ∷ []) l c = absurd c.1
bare_alts mid table h (p ∷ (o ∷ ps)) (q ∷ (r ∷ qs)) l c =
    and_from (tops_only (any_word ∷ []) (tree_at mid q.at)) (tops_only (any_word ∷ []) (alt_of (map (tree_at mid) (type_numbers (r ∷ qs))))) (h p.at q c.0) (bare_alts mid table h (o ∷ ps) (r ∷ qs) (omega arith) c.1)
