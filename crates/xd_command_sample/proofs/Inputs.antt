-- Persons are an input of the telephone program.
use Rattle.std.proofs.Common.{◌≡◌, ℕ, zero, suc, ◌%◌, Bool, true, false, cond, List, ◌++◌, Some, refl}
use Rattle.std.specs.Prelude.{codes, decimal, nat_eq}
use Rattle.xd_doc.specs.Document.{Document, empty}
use Rattle.xd_doc.specs.Classes.{class_has}
use Rattle.xd_syntax.specs.Tree.{Tree, Text, Name, Elem, body}
use Rattle.xd_syntax.specs.Placed.{unplaced}
use Rattle.xd_syntax.specs.Fits.{Fits, fits_text, fits_elem, fits_name, fits_seq, fits_no_turn, fits_turn, fits_absent, fits_present}
use Rattle.xd_laws.specs.LineSamples.{one, name_label as name, addr_label as addr, tel_label as tel, persons_at}
use Rattle.xd_command_sample.specs.Persons.{field, person, persons_to, sample_of}
use Rattle.xd_command_sample.proofs.Matches.{names, a_person, a_telephone}

abbrev pub persons_tree : Tree
persons_tree = unplaced persons_at

-- a name that stands for a labelled text
labelled_fits : (w l s : List ℕ) → body names w ≡ Some (Elem (one l) Text) → class_has (one l) l ≡ true → Fits names (Name w) (field l s empty)
labelled_fits w l s e h = fits_name e (fits_elem h fits_text)

person_by : (absent : Bool) (s u v : List ℕ) (d : Document) → Fits names persons_tree d → Fits names persons_tree (a_person s u (cond absent d (a_telephone v d)))
person_by true s u v d f =
    fits_turn (a_person s u empty) d refl refl
    (fits_seq (field name s empty) (field addr u empty) refl (labelled_fits (codes "Name") name s refl refl)
    (fits_seq (field addr u empty) empty refl (labelled_fits (codes "Addr") addr u refl refl) fits_absent)) f
person_by false s u v d f =
    fits_turn (a_person s u (a_telephone v empty)) d refl refl
    (fits_seq (field name s empty) (field addr u (a_telephone v empty)) refl (labelled_fits (codes "Name") name s refl refl)
    (fits_seq (field addr u empty) (a_telephone v empty) refl (labelled_fits (codes "Addr") addr u refl refl)
    (fits_present (labelled_fits (codes "Tel") tel v refl refl)))) f

one_person : (i : ℕ) (d : Document) → Fits names persons_tree d → Fits names persons_tree (person i d)
one_person i d f = person_by (nat_eq (i % 3) 0) (codes "p" ++ decimal i) (codes "s" ++ decimal i) (decimal i) d f

all_persons : (count : ℕ) (d : Document) → Fits names persons_tree d → Fits names persons_tree (persons_to count d)
all_persons zero d f = f
all_persons (suc i) d f = all_persons i (person (suc i) d) (one_person (suc i) d f)

pub persons_fit : (persons : ℕ) → Fits names persons_tree (sample_of persons)
persons_fit persons = all_persons persons empty fits_no_turn
