-- The rows of the answers, after the program: outputs of the same program and the same texts are
-- alike.
use Rattle.std.proofs.Common.{◌≡◌, ◌≤◌, ◌⊎◌, ◌-◌, ℕ, Bool, true, false, cond, inl, inr, List, [], ◌∷◌, ◌++◌, Option, Some, None, refl, sym, ap, subst, ◌∙◌, arith}
use Rattle.std.specs.Prelude.{codes}
use Rattle.std.specs.List.{AllZip}
use Rattle.xd_show_blocks.specs.Blocks.{AreBlocks, VariableBlock, IsBlockOf, Shows}
use Rattle.xd_shown.specs.Shown.{defined_names}
use Rattle.xd_variables.specs.Seen.{Gives, Reading, SeenVariable}
use Rattle.xd_doc.specs.Document.{Document, size}
use Rattle.xd_syntax.specs.Tree.{Tree}
use Rattle.xd_syntax.specs.Program.{ProgramTree, names_of}
use Rattle.xd_syntax.specs.Sound.{is_defined, type_named}
use Rattle.xd_syntax.specs.CheckFaults.{Line, dead_clause, is_warning, faults_among, IsAccepted}
use Rattle.xd_meaning.specs.Violation.{Lined}
use Rattle.xd_meaning.specs.KeptFaults.{AllPaired}
use Rattle.xd_meaning.specs.Meaning.{Done, Spent}
use Rattle.xd_laws.specs.SameLines.{IsSameLine}
use Rattle.xd_laws.proofs.ViolationLaw.{rules_are_tested, violation_is_one}
use Rattle.xd_laws.proofs.OneLines.{lines_are_one}
use Rattle.xd_report.specs.Report.{place_front}
use Rattle.xd_proof_write.specs.ClaimText.{claim_text}
use Rattle.xd_stream.proofs.IsFirstStopLemmas.{one_malformed, one_outside, one_reason, never_malformed, never_outside}
use Rattle.xd_command_steps.specs.Output.{Output, canonical, malformed_document, outside_type, separated}
use Rattle.xd_command_steps.specs.Texts.{EndsAtText, IsText, document_limit}
use Rattle.xd_command_steps.specs.Laws.{Texts, IsOneStep, IsRead}
use Rattle.xd_command_steps.specs.Documents.{EndsAtDocument, IsDocument}
use Rattle.xd_command_steps.specs.Proofs.{EndsAtProof, IsProof, bad_line}
use Rattle.xd_command_steps.specs.Step.{Step}
use Rattle.xd_command_steps.proofs.OneStep.{steps_are_one, counts_tell_nothing}
use Rattle.xd_command_documents.specs.Fits.{EndsAtName, AnswersMembership, AnswersFits, FitsType}
use Rattle.xd_command_documents.specs.Stream.{TellsStop, AnswersBytes, AnswersStream}
use Rattle.xd_inclusion.specs.Inclusion.{FitsAlone}
use Rattle.xd_command_inclusions.specs.Subtype.{AnswersInclusion, AnswersSubtype}
use Rattle.xd_command_documents.specs.Least.{AnswersLeastOf, AnswersLeast}
use Rattle.xd_command_inclusions.specs.Verify.{Judges, AnswersVerify, AnswersUpgrade, Upgrades}
use Rattle.xd_command_programs.specs.Check.{with_verdict, AnswersCheck}
use Rattle.xd_command_programs.specs.Run.{EndsAtLines, EndsAtValue, IsValue, AnswersInput, AnswersMain, AnswersRun, input_type}
use Rattle.xd_command_programs.specs.Report.{line_text, lines_text, said}
use Rattle.xd_command_inclusions.specs.Minus.{AnswersDifference, AnswersMinus}
use Rattle.xd_command_programs.specs.Types.{AnswersTypes}
use Rattle.xd_command_programs.proofs.Merged.{is_dead}
use Rattle.xd_command_laws.specs.OneAnswer.{ProveAlike, CarryAlike, FaultsAlike, ShowTheSame, ShowAlike, IsSameBlock, BlocksAlike}
use Rattle.xd_variables.proofs.SeenOnce.{variables_once}
use Rattle.xd_command_programs.proofs.SameFaults.{Same, faults_same, not_accepted}

-- ---- what every row has
-- any two outputs of a row are the same, or differ as they may
abbrev pub IsOneRow : (Output → Output → Type 0) → (Output → Type 0) → Type 0
IsOneRow Differ row = (o p : Output) → row o → row p → (o ≡ p) ⊎ Differ o p

-- they are the same
abbrev pub Never : Output → Output → Type 0
Never o p = ⊥

pub step_alike : (Differ : Output → Output → Type 0) (A : Type 0) (ends : Output → Type 0) (finds : A → Type 0) (next : A → Output → Type 0) →
    IsOneStep A ends finds → ((x : A) → IsOneRow Differ (next x)) → IsOneRow Differ (Step ends finds next)
step_alike Differ A ends finds next one then o p (inl a) (inl b) = inl (one.output o p a b)
step_alike Differ A ends finds next one then o p (inl a) (inr b) = absurd (one.apart o b.0 a b.1)
step_alike Differ A ends finds next one then o p (inr a) (inl b) = absurd (one.apart p a.0 b a.1)
step_alike Differ A ends finds next one then o p (inr a) (inr b) = then b.0 o p (subst (λ x. next x o) (one.found a.0 b.0 a.1 b.1) a.2) b.2

-- a step that ends so whatever a count did
pub step_settled : (A : Type 0) (ends settled : Output → Type 0) (finds : A → Type 0) (next after : A → Output → Type 0) (o : Output) →
    (ends o → settled o) → ((x : A) → next x o → after x o) → Step ends finds next o → Step settled finds after o
step_settled A ends settled finds next after o f g (inl a) = inl (f a)
step_settled A ends settled finds next after o f g (inr a) = inr (a.0, a.1, g a.0 a.2)

undefined_yet : (b : Bool) → b ≡ false → b ≡ true → ⊥
undefined_yet b e f = let z : false ≡ true = sym e ∙ f in cc

-- after the test of a name
named_alike : (Differ : Output → Output → Type 0) (P : ProgramTree) (name : List ℕ) (row : Output → Type 0) → IsOneRow Differ row → IsOneRow Differ (λ o. EndsAtName P name o ⊎ ((is_defined P name ≡ true) × row o))
named_alike Differ P name row one o p (inl a) (inl b) = inl (a.1 ∙ sym b.1)
named_alike Differ P name row one o p (inl a) (inr b) = absurd (undefined_yet (is_defined P name) a.0 b.0)
named_alike Differ P name row one o p (inr a) (inl b) = absurd (undefined_yet (is_defined P name) b.0 a.0)
named_alike Differ P name row one o p (inr a) (inr b) = one o p a.1 b.1

-- two documents of which neither is smaller
carried : (form : Document → Output) (o p : Output) (d e : Document) → size d ≤ size e → size e ≤ size d → o ≡ form d → p ≡ form e → CarryAlike form o p
carried form o p d e h k f g = (d, e, omega (arith, h, k), f, g)

-- ---- `fits`
membership_alike : (P : ProgramTree) (name : List ℕ) (d : Document) → IsOneRow Never (AnswersMembership P name d)
membership_alike P name d o p (inl a) (inl b) = inl (a.1 ∙ sym b.1)
membership_alike P name d o p (inl a) (inr b) = absurd (b.0 a.0)
membership_alike P name d o p (inr a) (inl b) = absurd (a.0 b.0)
membership_alike P name d o p (inr a) (inr b) = inl (a.1 ∙ sym b.1)

pub fits_alike : (texts : Texts) (name document : List ℕ) (P : ProgramTree) → IsOneRow Never (AnswersFits (Some texts) ⊥ name document P)
fits_alike texts name document P =
    named_alike Never P name (Step (EndsAtDocument (Some texts) ⊥ document) (IsDocument (Some texts) document) (AnswersMembership P name))
    (step_alike Never Document (EndsAtDocument (Some texts) ⊥ document) (IsDocument (Some texts) document) (AnswersMembership P name) (steps_are_one.documents texts document) (membership_alike P name))

pub fits_settled : (texts : Texts) (rose : Type 0) (name document : List ℕ) (P : ProgramTree) (o : Output) → IsRead rose o → AnswersFits (Some texts) rose name document P o → AnswersFits (Some texts) ⊥ name document P o
fits_settled texts rose name document P o h (inl a) = inl a
fits_settled texts rose name document P o h (inr a) =
    inr (a.0, step_settled Document (EndsAtDocument (Some texts) rose document) (EndsAtDocument (Some texts) ⊥ document) (IsDocument (Some texts) document) (AnswersMembership P name) (AnswersMembership P name) o ((counts_tell_nothing rose).documents texts document o h) (λ d m. m) a.1)

-- ---- `stream`
stops_alike : (In : Document → Type 0) (bytes : List ℕ) → IsOneRow Never (TellsStop In bytes)
stops_alike In bytes o p (inl a) (inl b) = inl (a.1 ∙ sym b.1)
stops_alike In bytes o p (inl a) (inr (q, inl b)) = absurd (never_malformed In bytes q a.0 b.0)
stops_alike In bytes o p (inl a) (inr (q, inr b)) = absurd (never_outside In bytes q a.0 b.0)
stops_alike In bytes o p (inr (q, inl a)) (inl b) = absurd (never_malformed In bytes q b.0 a.0)
stops_alike In bytes o p (inr (q, inr a)) (inl b) = absurd (never_outside In bytes q b.0 a.0)
stops_alike In bytes o p (inr (q, inl a)) (inr (r, inl b)) = inl (a.1 ∙ ap malformed_document (one_malformed In bytes q r a.0 b.0) ∙ sym b.1)
stops_alike In bytes o p (inr (q, inl a)) (inr (r, inr b)) = absurd (one_reason In bytes q r a.0 b.0)
stops_alike In bytes o p (inr (q, inr a)) (inr (r, inl b)) = absurd (one_reason In bytes r q b.0 a.0)
stops_alike In bytes o p (inr (q, inr a)) (inr (r, inr b)) = inl (a.1 ∙ ap outside_type (one_outside In bytes q r a.0 b.0) ∙ sym b.1)

pub stream_alike : (texts : Texts) (name document : List ℕ) (P : ProgramTree) → IsOneRow Never (AnswersStream (Some texts) ⊥ name document P)
stream_alike texts name document P =
    named_alike Never P name (Step (EndsAtText (Some texts) ⊥ document document_limit) (IsText (Some texts) document document_limit) (AnswersBytes P name))
    (step_alike Never (List ℕ) (EndsAtText (Some texts) ⊥ document document_limit) (IsText (Some texts) document document_limit) (AnswersBytes P name)
    (steps_are_one.text texts document document_limit) (stops_alike (FitsType (names_of P) (type_named name))))

pub stream_settled : (texts : Texts) (rose : Type 0) (name document : List ℕ) (P : ProgramTree) (o : Output) → IsRead rose o → AnswersStream (Some texts) rose name document P o → AnswersStream (Some texts) ⊥ name document P o
stream_settled texts rose name document P o h (inl a) = inl a
stream_settled texts rose name document P o h (inr a) =
    inr (
      a.0,
      step_settled (List ℕ) (EndsAtText (Some texts) rose document document_limit) (EndsAtText (Some texts) ⊥ document document_limit) (IsText (Some texts) document document_limit)
          (AnswersBytes P name) (AnswersBytes P name) o ((counts_tell_nothing rose).text texts document document_limit o h) (λ d m. m) a.1,
    )

-- ---- `subtype` and `least`
inclusion_alike : (P : ProgramTree) (L R : Tree) → IsOneRow (λ o p. ProveAlike o p ⊎ CarryAlike separated o p) (AnswersInclusion P L R)
inclusion_alike P L R o p (inl a) (inl b) =
    inr (inl (record { program = P; left = L; right = R; status = a.1; other_status = b.1; proves = a.2; other_proves = b.2 }))
inclusion_alike P L R o p (inl a) (inr b) = let d = (b.1).within in elim (a.0 b.0 d.proper d.left) [ inl f ↦ absurd (d.right f) | inr z ↦ absurd z ]
inclusion_alike P L R o p (inr a) (inl b) = let d = (a.1).within in elim (b.0 a.0 d.proper d.left) [ inl f ↦ absurd (d.right f) | inr z ↦ absurd z ]
inclusion_alike P L R o p (inr a) (inr b) = inr (inr (carried separated o p a.0 b.0 ((a.1).least b.0 (b.1).within) ((b.1).least a.0 (a.1).within) a.2 b.2))

pub subtype_alike : (left right : List ℕ) (P : ProgramTree) → IsOneRow (λ o p. ProveAlike o p ⊎ CarryAlike separated o p) (AnswersSubtype left right P)
subtype_alike left right P o p (inl a) (inl b) = inl (a.1 ∙ sym b.1)
subtype_alike left right P o p (inl a) (inr b) = absurd (a.0 b.0)
subtype_alike left right P o p (inr a) (inl b) = absurd (b.0 a.0)
subtype_alike left right P o p (inr a) (inr b) = inclusion_alike P (type_named left) (type_named right) o p a.1 b.1

least_of_alike : (P : ProgramTree) (T : Tree) → IsOneRow (CarryAlike canonical) (AnswersLeastOf (names_of P) T)
least_of_alike P T o p (inl a) (inl b) = inr (carried canonical o p a.0 b.0 ((a.1).least b.0 (b.1).within) ((b.1).least a.0 (a.1).within) a.2 b.2)
least_of_alike P T o p (inl a) (inr b) = absurd (b.0 a.0 (a.1).within)
least_of_alike P T o p (inr a) (inl b) = absurd (a.0 b.0 (b.1).within)
least_of_alike P T o p (inr a) (inr b) = inl (a.1 ∙ sym b.1)

pub least_alike : (name : List ℕ) (P : ProgramTree) → IsOneRow (CarryAlike canonical) (AnswersLeast name P)
least_alike name P = named_alike (CarryAlike canonical) P name (AnswersLeastOf (names_of P) (type_named name)) (least_of_alike P (type_named name))

-- ---- `verify` and `upgrade`
first_one : (goals : List Lined) (c e : Lined) (cs es : List Lined) → goals ≡ c ∷ cs → goals ≡ e ∷ es → c ≡ e
first_one goals c e cs es f g = let h : c ∷ cs ≡ e ∷ es = sym f ∙ g in cc

judges_alike : (P : ProgramTree) (goals : List Lined) → IsOneRow Never (Judges P goals)
judges_alike P goals o p (inl a) (inl b) =
    inl (a.output ∙ ap (λ (c : Lined). record { status = 0; text = claim_text c.goal ++ codes "\n" }) (first_one goals a.claim b.claim a.others b.others a.first b.first) ∙ sym b.output)
judges_alike P goals o p (inl a) (inr b) = absurd ((rules_are_tested (names_of P) goals).1 a.consistent b.0 b.1 b.2)
judges_alike P goals o p (inr a) (inl b) = absurd ((rules_are_tested (names_of P) goals).1 b.consistent a.0 a.1 a.2)
judges_alike P goals o p (inr a) (inr b) =
    let one = violation_is_one (names_of P) goals a.0 b.0 a.1 b.1 a.2 b.2 in
    inl (a.3 ∙ ap (λ n. bad_line n a.1) one.0 ∙ ap (bad_line b.0) one.1 ∙ sym b.3)

pub verify_alike : (texts : Texts) (proof : List ℕ) (P : ProgramTree) → IsOneRow Never (AnswersVerify (Some texts) ⊥ proof P)
verify_alike texts proof P = step_alike Never (List Lined) (EndsAtProof (Some texts) ⊥ proof P) (IsProof (Some texts) proof P) (Judges P) (steps_are_one.proofs texts proof P) (judges_alike P)

pub verify_settled : (texts : Texts) (rose : Type 0) (proof : List ℕ) (P : ProgramTree) (o : Output) → IsRead rose o → AnswersVerify (Some texts) rose proof P o → AnswersVerify (Some texts) ⊥ proof P o
verify_settled texts rose proof P o h a = step_settled (List Lined) (EndsAtProof (Some texts) rose proof P) (EndsAtProof (Some texts) ⊥ proof P) (IsProof (Some texts) proof P) (Judges P) (Judges P) o ((counts_tell_nothing rose).proofs texts proof P o h) (λ gs m. m) a

pub upgrade_alike : (texts : Texts) (proof : List ℕ) (P : ProgramTree) → IsOneRow Never (AnswersUpgrade (Some texts) ⊥ proof P)
upgrade_alike texts proof P = step_alike Never (List Lined) (EndsAtProof (Some texts) ⊥ proof P) (IsProof (Some texts) proof P) Upgrades (steps_are_one.proofs texts proof P) (λ gs o p a b. inl (a ∙ sym b))

pub upgrade_settled : (texts : Texts) (rose : Type 0) (proof : List ℕ) (P : ProgramTree) (o : Output) → IsRead rose o → AnswersUpgrade (Some texts) rose proof P o → AnswersUpgrade (Some texts) ⊥ proof P o
upgrade_settled texts rose proof P o h a = step_settled (List Lined) (EndsAtProof (Some texts) rose proof P) (EndsAtProof (Some texts) ⊥ proof P) (IsProof (Some texts) proof P) Upgrades Upgrades o ((counts_tell_nothing rose).proofs texts proof P o h) (λ gs m. m) a

first_warns : (b : Bool) (l : Line) (ls : List Line) → cond b ls (l ∷ ls) ≡ [] → (b ≡ true) × (ls ≡ [])
first_warns true l ls e = (refl, e)
first_warns false l ls e = absurd (cc)

warning_is : (l : Line) → l.kind ≡ dead_clause → line_text l ≡ place_front l.place ++ codes "warning 1: clause is never reached\n"
warning_is l e = ap (λ k. place_front l.place ++ said k l.document) e

warning_same : (l m : Line) → IsSameLine l m → l.kind ≡ dead_clause → line_text l ≡ line_text m
warning_same l m s e =
    warning_is l e ∙ ap (λ p. place_front p ++ codes "warning 1: clause is never reached\n") s.place ∙ sym (warning_is m (sym s.kind ∙ e))

warnings_same : (ls ms : List Line) → Same ls ms → faults_among ls ≡ [] → lines_text ls ≡ lines_text ms
warnings_same [] [] s e = refl
warnings_same [] (m ∷ ms) s e = absurd s
warnings_same (l ∷ ls) [] s e = absurd s
warnings_same (l ∷ ls) (m ∷ ms) s e =
    let f = first_warns (is_warning l.kind) l (faults_among ls) e in
    ap (λ z. z ++ lines_text ls) (warning_same l m s.0 (is_dead l.kind f.0)) ∙ ap (λ z. line_text m ++ z) (warnings_same ls ms s.1 f.1)

-- ---- `check`
verdicts_alike : (ls ms fs gs : List Line) (o p : Output) → Same ls ms → faults_among ls ≡ fs → Same fs gs →
    o ≡ with_verdict fs (lines_text ls) → p ≡ with_verdict gs (lines_text ms) → (o ≡ p) ⊎ FaultsAlike o p
verdicts_alike ls ms [] [] o p s f r e h = inl (e ∙ ap (λ z. record { status = 0; text = z ++ codes "accepted\n" }) (warnings_same ls ms s f) ∙ sym h)
verdicts_alike ls ms [] (m ∷ gs) o p s f r e h = absurd r
verdicts_alike ls ms (l ∷ fs) [] o p s f r e h = absurd r
verdicts_alike ls ms (l ∷ fs) (m ∷ gs) o p s f r e h =
    inr (record {
      refused = ap (λ (q : Output). q.status) e;
      other_refused = ap (λ (q : Output). q.status) h;
      lines = ls;
      others = ms;
      same = s;
      text = ap (λ (q : Output). q.text) e;
      other = ap (λ (q : Output). q.text) h;
    })

pub check_alike : (P : ProgramTree) → IsOneRow FaultsAlike (AnswersCheck P)
check_alike P o p a b =
    let s = lines_are_one P a.lines b.lines a.all b.all in
    verdicts_alike a.lines b.lines (faults_among a.lines) (faults_among b.lines) o p s refl (faults_same a.lines b.lines s) a.output b.output

-- ---- `types` and `precise`
-- programs that show one set
module _ (D : Document → Type 0) (taken : List (List ℕ)) where
  show_the_same : (P Q : ProgramTree) (s t : List ℕ) → Shows D taken P s → Shows D taken Q t → ShowTheSame P s Q t
  show_the_same P Q s t a b =
      let one = a.shown in
      let other = b.shown in
      record {
        reads_back = a.reads_back;
        other_reads_back = b.reads_back;
        first = one.first;
        other_first = other.first;
        same = λ d p. ((λ f. (other.exact d p).1 ((one.exact d p).0 f)), (λ f. (one.exact d p).1 ((other.exact d p).0 f)));
      }

module _ (B : Reading) (P : ProgramTree) where
  block_same : (v : SeenVariable) (b c : VariableBlock) → IsBlockOf B P v b → IsBlockOf B P v c → IsSameBlock b c
  block_same v b c h k = record {
    place = h.place ∙ sym k.place;
    variable = h.variable ∙ sym k.variable;
    same = show_the_same (Gives B P v) (defined_names P) b.program c.program b.start c.start h.shows k.shows;
  }

  blocks_same : (vs : List SeenVariable) (bs cs : List VariableBlock) → AllZip (IsBlockOf B P) vs bs → AllZip (IsBlockOf B P) vs cs → AllPaired IsSameBlock bs cs
  blocks_same [] [] [] z w = tt
  blocks_same [] [] (c ∷ cs) z w = absurd w
  blocks_same [] (b ∷ bs) cs z w = absurd z
  blocks_same (v ∷ vs) [] cs z w = absurd z
  blocks_same (v ∷ vs) (b ∷ bs) [] z w = absurd w
  blocks_same (v ∷ vs) (b ∷ bs) (c ∷ cs) z w = (block_same v b c z.0 w.0, blocks_same vs bs cs z.1 w.1)

  blocks_alike : (o p : Output) → o.status ≡ 0 → p.status ≡ 0 → AreBlocks B P o.text → AreBlocks B P p.text → BlocksAlike o p
  blocks_alike o p e f a b = record {
    status = e;
    other_status = f;
    blocks = a.blocks;
    others = b.blocks;
    same = blocks_same a.variables a.blocks b.blocks a.each (subst (λ vs. AllZip (IsBlockOf B P) vs b.blocks) (variables_once P b.variables a.variables b.all a.all) b.each);
    text = a.written;
    other = b.written;
  }

  pub types_alike : IsOneRow (λ o p. FaultsAlike o p ⊎ BlocksAlike o p) (AnswersTypes B P)
  types_alike o p (inl a) (inl b) = elim (check_alike P o p a.1 b.1) [ inl e ↦ inl e | inr f ↦ inr (inl f) ]
  types_alike o p (inl a) (inr b) = absurd (a.0 b.0)
  types_alike o p (inr a) (inl b) = absurd (b.0 a.0)
  types_alike o p (inr a) (inr b) = inr (inr (blocks_alike o p a.1 b.1 a.2 b.2))

-- ---- `minus`
difference_alike : (P : ProgramTree) (L R : Tree) (o p : Output) → AnswersDifference P L R o → AnswersDifference P L R p → ShowAlike o p
difference_alike P L R o p a b =
    let one = a.1 in
    let other = b.1 in
    record {
      status = a.0;
      other_status = b.0;
      program = one.program;
      start = one.start;
      other_program = other.program;
      other_start = other.start;
      same = show_the_same (FitsAlone (names_of P) L R) (defined_names P) one.program other.program one.start other.start one.shows other.shows;
      text = one.written;
      other = other.written;
    }

pub minus_alike : (left right : List ℕ) (P : ProgramTree) → IsOneRow ShowAlike (AnswersMinus left right P)
minus_alike left right P o p (inl a) (inl b) = inl (a.1 ∙ sym b.1)
minus_alike left right P o p (inl a) (inr b) = absurd (a.0 b.0)
minus_alike left right P o p (inr a) (inl b) = absurd (b.0 a.0)
minus_alike left right P o p (inr a) (inr b) = inr (difference_alike P (type_named left) (type_named right) o p a.1 b.1)

-- ---- `run`
not_both : (P : ProgramTree) (o : Output) → EndsAtLines P o → IsAccepted P → ⊥
not_both P o a b = not_accepted P a.lines a.all a.some b

lines_alike : (P : ProgramTree) → IsOneRow FaultsAlike (EndsAtLines P)
lines_alike P o p a b =
    inr (record {
      refused = ap (λ (q : Output). q.status) a.output;
      other_refused = ap (λ (q : Output). q.status) b.output;
      lines = faults_among a.lines;
      others = faults_among b.lines;
      same = faults_same a.lines b.lines (lines_are_one P a.lines b.lines a.all b.all);
      text = ap (λ (q : Output). q.text) a.output;
      other = ap (λ (q : Output). q.text) b.output;
    })

done_one : (d e : Document) (m n : ℕ) → Done d m ≡ Done e n → (d ≡ e) × (m ≡ n)
done_one d e m n h = (cc, cc)

abbrev made_of : Document → ℕ → Document × ℕ
made_of d n = (d, n)

made_one : (fuel : ℕ) (x y : Document × ℕ) → x.1 ≤ fuel → y.1 ≤ fuel → (x.0 ≡ y.0) × (fuel - x.1 ≡ fuel - y.1) → x ≡ y
made_one fuel x y h k q = let f : x.1 ≡ y.1 = omega (arith, h, k, q.1) in ap (λ d. made_of d x.1) q.0 ∙ ap (made_of y.0) f

value_one : (P : ProgramTree) (T : Tree) (fuel : ℕ) (d : Document) → IsOneStep (Document × ℕ) (EndsAtValue P T fuel d) (IsValue P T fuel d)
value_one P T fuel d = record { output = output; found = found; apart = apart }
  where
    output : (o p : Output) → EndsAtValue P T fuel d o → EndsAtValue P T fuel d p → o ≡ p
    output o p (inl a) (inl b) = a.1 ∙ sym b.1
    output o p (inl a) (inr b) = absurd (a.0 b.0)
    output o p (inr a) (inl b) = absurd (b.0 a.0)
    output o p (inr a) (inr b) = a.2 ∙ sym b.2

    found : (x y : Document × ℕ) → IsValue P T fuel d x → IsValue P T fuel d y → x ≡ y
    found x y a b = made_one fuel x y a.calls b.calls (done_one x.0 y.0 (fuel - x.1) (fuel - y.1) (sym a.value ∙ b.value))

    apart : (o : Output) (x : Document × ℕ) → EndsAtValue P T fuel d o → IsValue P T fuel d x → ⊥
    apart o x (inl a) b = a.0 b.input
    apart o x (inr a) b = let z : Spent ≡ Done x.0 (fuel - x.1) = sym a.1 ∙ b.value in cc

main_alike : (texts : Texts) (document : List ℕ) (fuel : ℕ) (P : ProgramTree) (input : Option Tree) → IsOneRow FaultsAlike (AnswersMain (Some texts) ⊥ document fuel P input)
main_alike texts document fuel P None o p a b = inl (a ∙ sym b)
main_alike texts document fuel P (Some T) o p a b =
    step_alike FaultsAlike Document (EndsAtDocument (Some texts) ⊥ document) (IsDocument (Some texts) document) (AnswersInput P T fuel) (steps_are_one.documents texts document)
    (λ d. step_alike FaultsAlike (Document × ℕ) (EndsAtValue P T fuel d) (IsValue P T fuel d) (λ made q. q ≡ canonical made.0) (value_one P T fuel d) (λ made q r f g. inl (f ∙ sym g))) o p a b

pub run_alike : (texts : Texts) (document : List ℕ) (fuel : ℕ) (P : ProgramTree) → IsOneRow FaultsAlike (AnswersRun (Some texts) ⊥ document fuel P)
run_alike texts document fuel P o p (inl a) (inl b) = lines_alike P o p a b
run_alike texts document fuel P o p (inl a) (inr b) = absurd (not_both P o a b.0)
run_alike texts document fuel P o p (inr a) (inl b) = absurd (not_both P p b a.0)
run_alike texts document fuel P o p (inr a) (inr b) = main_alike texts document fuel P (input_type P) o p a.1 b.1

main_settled : (texts : Texts) (rose : Type 0) (document : List ℕ) (fuel : ℕ) (P : ProgramTree) (input : Option Tree) (o : Output) → IsRead rose o →
    AnswersMain (Some texts) rose document fuel P input o → AnswersMain (Some texts) ⊥ document fuel P input o
main_settled texts rose document fuel P None o h a = a
main_settled texts rose document fuel P (Some T) o h a =
    step_settled Document (EndsAtDocument (Some texts) rose document) (EndsAtDocument (Some texts) ⊥ document) (IsDocument (Some texts) document) (AnswersInput P T fuel) (AnswersInput P T fuel) o ((counts_tell_nothing rose).documents texts document o h) (λ d m. m) a

pub run_settled : (texts : Texts) (rose : Type 0) (document : List ℕ) (fuel : ℕ) (P : ProgramTree) (o : Output) → IsRead rose o →
    AnswersRun (Some texts) rose document fuel P o → AnswersRun (Some texts) ⊥ document fuel P o
run_settled texts rose document fuel P o h (inl a) = inl a
run_settled texts rose document fuel P o h (inr a) = inr (a.0, main_settled texts rose document fuel P (input_type P) o h a.1)
